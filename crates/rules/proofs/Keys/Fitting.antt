-- In a sound store whose fields fit, every number of a key is told by its bytes: fields are below 2^32, and lists, names and walk numbers are
-- within the store's totals. A number that names nothing is read as an operation or block without any of them. Assumes nothing.
use Prim.Native.Nat.{ℕ, ◌<◌, ◌≤◌, ◌^◌}
use native.Mathlib.Nat.{le_trans}
use native.Mathlib.Decide.{dec_lt}
use native.Mathlib.Omega.{arith}
use mathlib.Core.Bool.{Bool, true, false, cond}
use mathlib.Core.List.{List, [], ◌∷◌, map}
use Rattle.std.specs.Prelude.{Option, None, Some}
use Rattle.std.proofs.lemmas.Option.{same_Some, none-some}
use mathlib.Core.Path.{◌≡◌, refl, sym, subst}
use borrow.Author.Tests.{lt-ltb, leb-true, le-leb}
use lib.Dec.{lit≤}
use lib.ListN.{length, get_or, length-map, get_or-eq_default}
use Rattle.rules.specs.Lists.{every, position}
use Rattle.std.specs.List.{list_all, filter}
use Rattle.rules.specs.Store.{Store, Op, Block, no_op, no_block, no_value, op_at, block_at, value_at, type_of, ops_of, blocks_of, regions_of, values_of, value_exists, block_exists, attributes_hold, sound}
use Rattle.rules.specs.declared.types.Attribute.{Attribute}
use Rattle.rules.specs.declared.types.Owner.{Owner}
use Rattle.rules.specs.declared.types.Owner.TheVariants.{Op as of_op, Block as of_block}
use Rattle.rules.specs.Shells.{unignored, unignored_location, shell_of}
use Rattle.rules.specs.declared.types.Ignore.{Ignore}
use Rattle.rules.specs.Hash.{name_at, name_of}
use Rattle.rules.specs.Keys.{fits, attribute_fits, op_fits, block_fits, value_fits, fields_fit}
use Rattle.rules.proofs.Basics.Tests.{and_left, and_right, and_both, passed, all_at}
use Rattle.rules.proofs.Basics.Appended.{mem_get_d}
use Rattle.rules.proofs.Basics.Filtered.{all_filter}
use Rattle.rules.proofs.Basics.Pigeons.{pigeons}
use Rattle.rules.proofs.Soundness.Sound.{Sound, facts}
use Rattle.rules.proofs.Soundness.Children.{ops_in_lem, blocks_in_lem, regions_in_lem, values_in_lem, ops_distinct, blocks_distinct, regions_distinct, values_distinct}
use Rattle.rules.proofs.Form.Images.{position_some}
use Rattle.rules.proofs.Keys.Decoding.{name_fits, ShellFits, BothLocated}

-- ---- lists

module _ {A : Type 0} where
  -- a test that all entries pass, and what a place past the end is read as
  pub all_get_d : (p : A → Bool) (xs : List A) (n : ℕ) (d : A) → list_all p xs ≡ true → p d ≡ true → p (get_or xs n d) ≡ true
  all_get_d p xs n d h k = go (dec_lt n (length xs))
    where
      go : Dec (n < length xs) → p (get_or xs n d) ≡ true
      go (yes l) = all_at p xs h (mem_get_d xs n d l)
      go (no l) = subst (λ (x : A). p x ≡ true) (sym (get_or-eq_default xs d (omega arith))) k

  pub filter_most : (q : A → Bool) (xs : List A) → length (filter q xs) ≤ length xs
  filter_most q [] = omega arith
  filter_most q (x ∷ xs) = go (q x) (filter_most q xs)
    where
      go : (b : Bool) → length (filter q xs) ≤ length xs → length (cond b (x ∷ filter q xs) (filter q xs)) ≤ length (x ∷ xs)
      go true l = omega arith
      go false l = omega arith

all_map : {A B : Type 0} (p : B → Bool) (f : A → B) → ((a : A) → p (f a) ≡ true) → (xs : List A) → list_all p (map f xs) ≡ true
all_map p f h [] = refl
all_map p f h (x ∷ xs) = and_both (p (f x)) (list_all p (map f xs)) (h x) (all_map p f h xs)

-- the same of the entries that are there
pub all_named : {B : Type 0} (p : B → Bool) (f : ℕ → B) (ok : ℕ → Bool) → ((n : ℕ) → ok n ≡ true → p (f n) ≡ true) → (ns : List ℕ) → list_all ok ns ≡ true → list_all p (map f ns) ≡ true
all_named p f ok h [] k = refl
all_named p f ok h (n ∷ ns) k = and_both (p (f n)) (list_all p (map f ns)) (h n (and_left (ok n) (list_all ok ns) k)) (all_named p f ok h ns (and_right (ok n) (list_all ok ns) k))

-- ---- names

-- a use of what exists, where so many are numbered
pub name_fits_lem : (defined : List ℕ) (n m : ℕ) → length defined ≤ 4096 → n < m → m ≤ 4096 → name_fits (name_of defined n) ≡ true
unfolding name_of name_at name_fits
name_fits_lem defined n m few l most = go (position n defined) refl
  where
    go : (o : Option ℕ) → position n defined ≡ o → name_fits (name_at o n) ≡ true
    go None e = lt-ltb n (2 ^ 32) (omega arith)
    go (Some i) e = let h = (position_some n defined i e).0 in le-leb i 4096 (omega (arith, h))

no_op_fits : op_fits no_op ≡ true
unfolding op_fits no_op every
no_op_fits = refl

no_block_fits : block_fits no_block ≡ true
unfolding block_fits no_block every
no_block_fits = refl

module _ (s : Store) (sd : sound s ≡ true) where
  abbrev so : Sound s
  so = facts s sd

  -- ---- how many children there are

  pub ops_few : (b : ℕ) → length (ops_of s b) ≤ 4096
  ops_few b = le_trans (pigeons (length s.ops) (ops_of s b) (ops_distinct s b) (λ n m. (ops_in_lem s b m).0)) (le_trans so.totals.ops (lit≤ tt))

  pub blocks_few : (r : ℕ) → length (blocks_of s r) ≤ 4096
  blocks_few r = le_trans (pigeons (length s.blocks) (blocks_of s r) (blocks_distinct s r) (λ n m. (blocks_in_lem s r m).0)) (le_trans so.totals.blocks (lit≤ tt))

  pub regions_few : (n : ℕ) → length (regions_of s n) ≤ 4096
  regions_few n = le_trans (pigeons (length s.regions) (regions_of s n) (regions_distinct s n) (λ r m. (regions_in_lem s n m).0)) (le_trans so.totals.regions (lit≤ tt))

  pub values_few : (w : Owner) → length (values_of s w) ≤ 4096
  values_few w = le_trans (pigeons (length s.values) (values_of s w) (values_distinct s w) (λ v m. (values_in_lem s w m).0)) (le_trans so.totals.values (lit≤ tt))

  -- ---- what an operation or a block has

  -- what is so of each that there is, and of what a number past the end is read as, is so of every number
  each_op : (P : Op → Type 0) → P no_op → ((n : ℕ) → n < length s.ops → P (op_at s n)) → (n : ℕ) → P (op_at s n)
  unfolding op_at
  each_op P z f n = go (dec_lt n (length s.ops))
    where
      go : Dec (n < length s.ops) → P (get_or s.ops n no_op)
      go (yes l) = f n l
      go (no l) = subst P (sym (get_or-eq_default s.ops no_op (omega arith))) z

  each_block : (P : Block → Type 0) → P no_block → ((n : ℕ) → n < length s.blocks → P (block_at s n)) → (n : ℕ) → P (block_at s n)
  unfolding block_at
  each_block P z f n = go (dec_lt n (length s.blocks))
    where
      go : Dec (n < length s.blocks) → P (get_or s.blocks n no_block)
      go (yes l) = f n l
      go (no l) = subst P (sym (get_or-eq_default s.blocks no_block (omega arith))) z

  pub operands_here : (n : ℕ) → list_all (value_exists s) (op_at s n).operands ≡ true
  unfolding no_op
  operands_here = each_op (λ (o : Op). list_all (value_exists s) o.operands ≡ true) refl (λ n l. (so.op n l).operands_in)

  pub successors_here : (n : ℕ) → list_all (block_exists s) (op_at s n).successors ≡ true
  unfolding no_op
  successors_here = each_op (λ (o : Op). list_all (block_exists s) o.successors ≡ true) refl (λ n l. (so.op n l).successors_in)

  pub operands_few : (n : ℕ) → length (op_at s n).operands ≤ 4096
  unfolding no_op
  operands_few = each_op (λ (o : Op). length o.operands ≤ 4096) (lit≤ tt) (λ n l. le_trans (so.op n l).operands_fit (lit≤ tt))

  pub successors_few : (n : ℕ) → length (op_at s n).successors ≤ 4096
  unfolding no_op
  successors_few = each_op (λ (o : Op). length o.successors ≤ 4096) (lit≤ tt) (λ n l. le_trans (so.op n l).successors_fit (lit≤ tt))

  keys_few : (as' : List Attribute) → attributes_hold as' ≡ true → length as' ≤ 4096
  unfolding attributes_hold
  keys_few as' h = le_trans (leb-true _ _ (passed _ h).1.0) (lit≤ tt)

  op_keys_few : (n : ℕ) → length (op_at s n).attributes ≤ 4096
  unfolding no_op
  op_keys_few = each_op (λ (o : Op). length o.attributes ≤ 4096) (lit≤ tt) (λ n l. keys_few _ (so.op n l).attributes_fit)

  block_keys_few : (n : ℕ) → length (block_at s n).attributes ≤ 4096
  unfolding no_block
  block_keys_few = each_block (λ (b : Block). length b.attributes ≤ 4096) (lit≤ tt) (λ n l. keys_few _ (so.block n l).attributes_fit)

  -- ---- fields

  module _ (fit : fields_fit s ≡ true) where
    op_fits_lem : (n : ℕ) → op_fits (op_at s n) ≡ true
    unfolding fields_fit op_at no_op
    op_fits_lem n = all_get_d op_fits s.ops n no_op (passed _ fit).0 no_op_fits

    block_fits_lem : (n : ℕ) → block_fits (block_at s n) ≡ true
    unfolding fields_fit block_at
    block_fits_lem n = all_get_d block_fits s.blocks n no_block (passed _ fit).1.0 no_block_fits

    type_fits : (v : ℕ) → fits (type_of s v) ≡ true
    unfolding fields_fit type_of value_at no_value value_fits
    type_fits v = all_get_d value_fits s.values v no_value (passed _ fit).1.1.0 refl

    pub kind_fits : (n : ℕ) → fits (op_at s n).kind ≡ true
    unfolding op_fits
    kind_fits n = (passed _ (op_fits_lem n)).0

    module _ (ig : Ignore) where
      located : (l m : ℕ) → fits l ≡ true → unignored_location ig l ≡ Some m → fits m ≡ true
      unfolding unignored_location
      located l m f e = go ig.locations e
        where
          go : (b : Bool) → cond b None (Some l) ≡ Some m → fits m ≡ true
          go true k = absurd (none-some m k)
          go false k = subst (λ (n : ℕ). fits n ≡ true) (same_Some l m k) f

      pub both_located : (l m : ℕ) → BothLocated (unignored_location ig l) (unignored_location ig m)
      unfolding unignored_location
      both_located l m = go ig.locations
        where
          go : (b : Bool) → BothLocated (cond b None (Some l)) (cond b None (Some m))
          go true = record { left = λ e. refl; right = λ e. refl }
          go false = record { left = λ e. absurd (none-some l (sym e)); right = λ e. absurd (none-some m (sym e)) }

      pub shell_fits : (w : Owner) → ShellFits (shell_of s ig w)
      unfolding shell_of unignored op_fits block_fits
      shell_fits (of_op n) =
          record {
            location = λ l e. located (op_at s n).location l (passed _ (op_fits_lem n)).1.0 e;
            attributes = all_filter attribute_fits _ (op_at s n).attributes (passed _ (op_fits_lem n)).1.1.0;
            types = all_map fits (type_of s) type_fits (values_of s (of_op n));
            few_attributes = le_trans (filter_most _ (op_at s n).attributes) (op_keys_few n);
            few_types = subst (λ (k : ℕ). k ≤ 4096) (sym (length-map (values_of s (of_op n)) (type_of s))) (values_few (of_op n));
          }
      shell_fits (of_block b) =
          record {
            location = λ l e. located (block_at s b).location l (passed _ (block_fits_lem b)).0 e;
            attributes = all_filter attribute_fits _ (block_at s b).attributes (passed _ (block_fits_lem b)).1.0;
            types = all_map fits (type_of s) type_fits (values_of s (of_block b));
            few_attributes = le_trans (filter_most _ (block_at s b).attributes) (block_keys_few b);
            few_types = subst (λ (k : ℕ). k ≤ 4096) (sym (length-map (values_of s (of_block b)) (type_of s))) (values_few (of_block b));
          }
