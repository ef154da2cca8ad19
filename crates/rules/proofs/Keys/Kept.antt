-- Building calls whose arguments are below 2^32 keep fields below 2^32: each writes its arguments, and leaves every other field as it was. So the
-- filer's law holds after every list of them. A copy keeps them too, since its fields are originals'. Assumes nothing.
use Prim.Native.Nat.{ℕ, zero, suc}
use mathlib.Core.Bool.{Bool, true, false, cond}
use mathlib.Core.List.Memᴰ
use mathlib.Core.List.{List, [], ◌∷◌, ◌++◌, map}
use Rattle.rules.specs.declared.types.Cause.{Cause}
use Rattle.std.specs.Prelude.{Option, None, Some}
use mathlib.Core.Path.{◌≡◌, refl, subst}
use lib.Dec.{eqb, ltb}
use lib.ListN.{get_or}
use Rattle.rules.specs.Lists.{every, update_at}
use Rattle.std.specs.List.{list_all}
use Rattle.rules.specs.Store.{Store, Op, Block, empty_store, no_op, no_block, no_value, op_at, block_at, value_at}
use Rattle.rules.specs.declared.types.Attribute.{Attribute}
use Rattle.rules.specs.declared.types.Owner.{Owner}
use Rattle.rules.specs.declared.types.Owner.TheVariants.{Op as of_op, Block as of_block}
use Rattle.rules.specs.Fragments.{defines_blocks, defines_values, fragment_ops}
use Rattle.rules.specs.declared.types.Sort.TheVariants.{Op as op}
use Rattle.rules.specs.Building.{Call, new_operation, new_block, set_attribute, set_operand, tests, first_failed, put_attribute, op_with_attribute, block_with_attribute, op_with_operand, values_for, applied, store_by, built, after}
use Rattle.rules.specs.Keys.{fits, attribute_fits, op_fits, block_fits, value_fits, fields_fit, call_fits}
use Rattle.rules.specs.Copying.{copied_op, copied_block, copied_value, copied}
use Rattle.rules.specs.CopyLaws.{CopyFits}
use Rattle.rules.specs.KeyLaws.{FieldsFitKept, FilersLaw, FilersLawAfter}
use Rattle.rules.proofs.Basics.Tests.{and_left, and_right, and_both, passed, every_of, all_of}
use Rattle.rules.proofs.Basics.Appended.{all_append}
use Rattle.rules.proofs.Soundness.Kept.{empty_sound, after_sound}
use Rattle.rules.proofs.Keys.Filed.{filers_law}

all_update : {A : Type 0} (p : A → Bool) (g : A → A) → ((x : A) → p x ≡ true → p (g x) ≡ true) → (n : ℕ) (xs : List A) → list_all p xs ≡ true → list_all p (update_at g n xs) ≡ true
unfolding update_at
all_update p g keeps n [] h = refl
all_update p g keeps zero (x ∷ xs) h = and_both (p (g x)) (list_all p xs) (keeps x (and_left (p x) (list_all p xs) h)) (and_right (p x) (list_all p xs) h)
all_update p g keeps (suc n) (x ∷ xs) h = and_both (p x) (list_all p (update_at g n xs)) (and_left (p x) (list_all p xs) h) (all_update p g keeps n xs (and_right (p x) (list_all p xs) h))

-- an attribute more, or in place of another
put_fits : (a : Attribute) → attribute_fits a ≡ true → (bs : List Attribute) → list_all attribute_fits bs ≡ true → list_all attribute_fits (put_attribute a bs) ≡ true
unfolding put_attribute
put_fits a f [] h = and_both (attribute_fits a) true f refl
put_fits a f (b ∷ bs) h = go (ltb a.key b.key) (eqb a.key b.key) (put_fits a f bs (and_right (attribute_fits b) (list_all attribute_fits bs) h))
  where
    go : (l e : Bool) → list_all attribute_fits (put_attribute a bs) ≡ true → list_all attribute_fits (cond l (a ∷ b ∷ bs) (cond e (a ∷ bs) (b ∷ put_attribute a bs))) ≡ true
    go true e rest = and_both (attribute_fits a) (list_all attribute_fits (b ∷ bs)) f h
    go false true rest = and_both (attribute_fits a) (list_all attribute_fits bs) f (and_right (attribute_fits b) (list_all attribute_fits bs) h)
    go false false rest = and_both (attribute_fits b) (list_all attribute_fits (put_attribute a bs)) (and_left (attribute_fits b) (list_all attribute_fits bs) h) rest

op_put : (a : Attribute) → attribute_fits a ≡ true → (o : Op) → op_fits o ≡ true → op_fits (op_with_attribute a o) ≡ true
unfolding op_fits op_with_attribute
op_put a f o h = let p = passed _ h in every_of _ (p.0, (p.1.0, (put_fits a f o.attributes p.1.1.0, tt)))

block_put : (a : Attribute) → attribute_fits a ≡ true → (b : Block) → block_fits b ≡ true → block_fits (block_with_attribute a b) ≡ true
unfolding block_fits block_with_attribute
block_put a f b h = let p = passed _ h in every_of _ (p.0, (put_fits a f b.attributes p.1.0, tt))

operand_put : (i v : ℕ) (o : Op) → op_fits o ≡ true → op_fits (op_with_operand i v o) ≡ true
unfolding op_fits op_with_operand
operand_put i v o h = h

values_put : (w : Owner) (types : List ℕ) → list_all fits types ≡ true → list_all value_fits (values_for w types) ≡ true
unfolding values_for value_fits
values_put w [] h = refl
values_put w (t ∷ ts) h = and_both (fits t) (list_all value_fits (values_for w ts)) (and_left (fits t) (list_all fits ts) h) (values_put w ts (and_right (fits t) (list_all fits ts) h))

-- ---- a call

-- the three tables
fields_of_lem : (s : Store) → list_all op_fits s.ops ≡ true → list_all block_fits s.blocks ≡ true → list_all value_fits s.values ≡ true → fields_fit s ≡ true
unfolding fields_fit
fields_of_lem s o b v = every_of _ (o, (b, (v, tt)))

one_op : (o : Op) → op_fits o ≡ true → list_all op_fits (o ∷ []) ≡ true
one_op o h = and_both (op_fits o) true h refl

one_block : (b : Block) → block_fits b ≡ true → list_all block_fits (b ∷ []) ≡ true
one_block b h = and_both (block_fits b) true h refl

applied_fits : (s : Store) (c : Call) → fields_fit s ≡ true → call_fits c ≡ true → fields_fit (applied s c) ≡ true
unfolding fields_fit applied call_fits op_fits block_fits
applied_fits s (new_operation o) h f =
    let p = passed _ h in
    let q = passed _ f in
    let new : Op = record { kind = o.kind; parent = o.parent; location = o.location; operands = o.operands; successors = o.successors; attributes = [] } in
    fields_of_lem (applied s (new_operation o)) (all_append op_fits s.ops (new ∷ []) p.0 (one_op new (every_of _ (q.0, (q.1.0, (refl, tt)))))) p.1.0 (all_append value_fits s.values _ p.1.1.0 (values_put _ o.types q.1.1.0))
applied_fits s (new_block b) h f =
    let p = passed _ h in
    let q = passed _ f in
    let new : Block = record { region = b.region; location = b.location; attributes = [] } in
    fields_of_lem (applied s (new_block b)) p.0 (all_append block_fits s.blocks (new ∷ []) p.1.0 (one_block new (every_of _ (q.0, (refl, tt))))) (all_append value_fits s.values _ p.1.1.0 (values_put _ b.types q.1.0))
applied_fits s (set_attribute (of_op n) a) h f =
    let p = passed _ h in
    fields_of_lem (applied s (set_attribute (of_op n) a)) (all_update op_fits (op_with_attribute a) (op_put a f) n s.ops p.0) p.1.0 p.1.1.0
applied_fits s (set_attribute (of_block b) a) h f =
    let p = passed _ h in
    fields_of_lem (applied s (set_attribute (of_block b) a)) p.0 (all_update block_fits (block_with_attribute a) (block_put a f) b s.blocks p.1.0) p.1.1.0
applied_fits s (set_operand u) h f =
    let p = passed _ h in
    fields_of_lem (applied s (set_operand u)) (all_update op_fits (op_with_operand u.index u.value) (operand_put u.index u.value) u.operation s.ops p.0) p.1.0 p.1.1.0

pub fields_fit_kept : FieldsFitKept
unfolding FieldsFitKept built store_by
fields_fit_kept s c h f = go (first_failed (tests s c))
  where
    go : (o : Option Cause) → fields_fit (store_by o s c) ≡ true
    go None = applied_fits s c h f
    go (Some cause) = h

-- ---- a copy

module _ {A : Type 0} (p : A → Bool) (d : A) (e : p d ≡ true) where
  -- what passes of each entry of a table passes of what is read at a number, past its end too
  read_fits : (xs : List A) → list_all p xs ≡ true → (m : ℕ) → p (get_or xs m d) ≡ true
  read_fits [] h m = e
  read_fits (x ∷ xs) h zero = and_left (p x) (list_all p xs) h
  read_fits (x ∷ xs) h (suc m) = read_fits xs (and_right (p x) (list_all p xs) h) m

  -- and of a table with copies of what is read, where a copy passes if the original does
  copies_fit : (xs : List A) → list_all p xs ≡ true → (f : ℕ → A) → ((m : ℕ) → p (get_or xs m d) ≡ true → p (f m) ≡ true) → (ms : List ℕ) → list_all p (xs ++ map f ms) ≡ true
  copies_fit xs h f same ms =
      all_append p xs (map f ms) h (all_of p (map f ms) (λ y i. let w = Memᴰ.of_map f ms i in subst (λ (z : A). p z ≡ true) w.2 (same w.0 (read_fits xs h w.0))))

past_fits : (op_fits no_op ≡ true) × (block_fits no_block ≡ true) × (value_fits no_value ≡ true)
unfolding op_fits block_fits value_fits no_op no_block no_value every
past_fits = (refl, refl, refl)

pub copy_fits : CopyFits
unfolding CopyFits fields_fit copied copied_op copied_block copied_value op_at block_at value_at op_fits block_fits value_fits
copy_fits s n place h =
    let p = passed _ h in
    fields_of_lem (copied s n place)
    (copies_fit op_fits no_op past_fits.0 s.ops p.0 (copied_op s n place) (λ m e. e) (fragment_ops s op n))
    (copies_fit block_fits no_block past_fits.1 s.blocks p.1.0 (copied_block s n) (λ m e. e) (defines_blocks s op n))
    (copies_fit value_fits no_value past_fits.2 s.values p.1.1.0 (copied_value s n) (λ m e. e) (defines_values s op n))

-- ---- and a list of calls

pub after_fits : (s : Store) (calls : List Call) → fields_fit s ≡ true → list_all call_fits calls ≡ true → fields_fit (after s calls) ≡ true
unfolding after FieldsFitKept
after_fits s [] h f = h
after_fits s (c ∷ cs) h f = after_fits (built s c) cs (fields_fit_kept s c h (and_left (call_fits c) (list_all call_fits cs) f)) (and_right (call_fits c) (list_all call_fits cs) f)

pub empty_fits : fields_fit empty_store ≡ true
unfolding fields_fit empty_store every
empty_fits = refl

pub filers_law_after : FilersLawAfter
unfolding FilersLawAfter FilersLaw
filers_law_after calls f ig k = filers_law (after empty_store calls) (after_sound empty_store calls empty_sound) (after_fits empty_store calls empty_fits f) ig k
