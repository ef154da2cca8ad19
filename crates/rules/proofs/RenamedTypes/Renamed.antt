-- What renaming types leaves as it is: everything but the types themselves. Assumes nothing.
use Prim.Native.Nat.{ℕ, zero, suc, ◌<◌}
use native.Mathlib.Omega.{arith}
use mathlib.Core.Bool.{true, cond}
use Rattle.std.specs.Prelude.{Option, None, Some}
use mathlib.Core.List.{List, [], ◌∷◌, map, Memᴰ}
use mathlib.Core.Path.{◌≡◌, refl, sym, ap, ap₂, subst, ◌∙◌}
use lib.Dec.{ltb}
use lib.ListN.{length, get_or, length-map}
use Rattle.rules.specs.Lists.{numbers_from, numbers_where}
use Rattle.std.specs.List.{list_all}
use Rattle.rules.specs.Store.{Store, Value, no_value, value_at, type_of, values_of, results_of, arguments_of, ops_of, blocks_of, regions_of, op_at, block_at, op_exists, block_exists, region_exists, value_exists, owner_exists, parent_exists, parent_of, op_around, op_after, levels_left, max_nesting, nesting_holds, operand_total, successor_total, attribute_total, sound, same_owner}
use Rattle.rules.specs.declared.types.Owner.{Owner}
use Rattle.rules.specs.declared.types.Owner.TheVariants.{Op as of_op, Block as of_block}
use Rattle.rules.specs.Fragments.{exists, Step, shell, names, counted, full_op, list_steps, region_steps, levels, steps}
use Rattle.rules.specs.declared.types.Sort.{Sort}
use Rattle.rules.specs.declared.types.Sort.TheVariants.{Op as op, Block as block, Region as region}
use Rattle.rules.specs.Shells.{Shell, shell_of, unignored, unignored_location}
use Rattle.rules.specs.declared.types.Ignore.{Ignore}
use Rattle.rules.specs.Mapping.{Mapping, allowed}
use Rattle.rules.specs.Hash.{Numbering, numbered}
use Rattle.rules.specs.Types.{present, renamed_value, renamed}
use Rattle.rules.specs.Entered.{owner_entry, EnteredBy}
use Rattle.rules.proofs.Basics.Tests.{and_left, and_right, and_both}
use Rattle.rules.proofs.Soundness.Children.{values_in_lem}
use Rattle.rules.proofs.Soundness.Sound.{OpSound, BlockSound, facts, sound_of}

-- ---- lists of values

numbers_renamed : (rows : List ℕ) (w : Owner) (n : ℕ) (vs : List Value)
    → numbers_from n (λ (v : Value). same_owner v.owner w) (map (renamed_value rows) vs) ≡ numbers_from n (λ (v : Value). same_owner v.owner w) vs
unfolding numbers_from renamed_value
numbers_renamed rows w n [] = refl
numbers_renamed rows w n (v ∷ vs) = ap (λ (ns : List ℕ). cond (same_owner v.owner w) (n ∷ ns) ns) (numbers_renamed rows w (suc n) vs)

-- a shell, with present types
unfoldable pub shell_renamed : List ℕ → Shell → Shell
shell_renamed rows sh = record { location = sh.location; attributes = sh.attributes; types = map (present rows) sh.types }

module _ (rows : List ℕ) (s : Store) where
  abbrev other : Store
  other = renamed rows s

  pub values_length : length other.values ≡ length s.values
  unfolding renamed
  values_length = length-map s.values (renamed_value rows)

  pub values_renamed : (w : Owner) → values_of other w ≡ values_of s w
  unfolding renamed values_of numbers_where
  values_renamed w = numbers_renamed rows w 0 s.values

  -- ---- steps of a walk

  region_steps_lem : (k r : ℕ) → region_steps k other r ≡ region_steps k s r
  unfolding renamed region_steps list_steps full_op ops_of blocks_of regions_of
  region_steps_lem zero r = refl
  region_steps_lem (suc k) r = λ i. list_steps s (full_op s (λ (q : ℕ). region_steps_lem k q i)) (blocks_of s r)

  pub steps_renamed : (f : Sort) (n : ℕ) → steps other f n ≡ steps s f n
  unfolding renamed steps list_steps full_op ops_of blocks_of regions_of
  steps_renamed op n = λ i. shell (of_op n) ∷ full_op s (λ (q : ℕ). region_steps_lem levels q i) n
  steps_renamed block n = λ i. list_steps s (full_op s (λ (q : ℕ). region_steps_lem levels q i)) (n ∷ [])
  steps_renamed region n = region_steps_lem levels n

  -- ---- what exists

  pub exists_renamed : (f : Sort) (n : ℕ) → exists other f n ≡ exists s f n
  unfolding renamed exists op_exists block_exists region_exists
  exists_renamed op n = refl
  exists_renamed block n = refl
  exists_renamed region n = refl

  pub allowed_renamed : (m : Mapping) → allowed other m ≡ allowed s m
  unfolding renamed allowed
  allowed_renamed m = rw values_length

  -- ---- soundness

  levels_renamed : (k : ℕ) (p : Option ℕ) → levels_left k other p ≡ levels_left k s p
  unfolding renamed levels_left parent_of op_around op_at block_at
  levels_renamed zero None = refl
  levels_renamed zero (Some b) = refl
  levels_renamed (suc k) None = refl
  levels_renamed (suc k) (Some b) = levels_renamed k (parent_of s (op_around s b))

  parent_renamed : (p : Option ℕ) → parent_exists other p ≡ parent_exists s p
  unfolding renamed parent_exists block_exists
  parent_renamed None = refl
  parent_renamed (Some b) = refl

  after_renamed : (n : ℕ) (p : Option ℕ) → op_after other n p ≡ op_after s n p
  unfolding renamed op_after op_around block_at
  after_renamed n None = refl
  after_renamed n (Some b) = refl

  nesting_renamed : (p : Option ℕ) → nesting_holds other p ≡ nesting_holds s p
  unfolding nesting_holds
  nesting_renamed p = rw (levels_renamed max_nesting p)

  op_sound : (n : ℕ) → OpSound s n → OpSound other n
  unfolding renamed op_at parent_of regions_of results_of value_exists block_exists
  op_sound n o =
      record {
        parent_in = parent_renamed (parent_of s n) ∙ o.parent_in;
        operands_in = subst (λ (k : ℕ). list_all (λ (v : ℕ). ltb v k) (op_at s n).operands ≡ true) (sym values_length) o.operands_in;
        successors_in = o.successors_in;
        later = after_renamed n (parent_of s n) ∙ o.later;
        nesting = nesting_renamed (parent_of s n) ∙ o.nesting;
        regions_fit = o.regions_fit;
        results_fit = rw (values_renamed (of_op n)) o.results_fit;
        operands_fit = o.operands_fit;
        successors_fit = o.successors_fit;
        attributes_fit = o.attributes_fit;
      }

  block_sound : (m : ℕ) → BlockSound s m → BlockSound other m
  unfolding renamed op_at block_at parent_of op_around arguments_of region_exists
  block_sound m b =
      record {
        region_in = b.region_in;
        later = b.later;
        arguments_fit = rw (values_renamed (of_block m)) b.arguments_fit;
        attributes_fit = b.attributes_fit;
      }

  owners_renamed : (vs : List Value) → list_all (λ (v : Value). owner_exists s v.owner) vs ≡ true
      → list_all (λ (v : Value). owner_exists other v.owner) (map (renamed_value rows) vs) ≡ true
  unfolding renamed renamed_value owner_exists op_exists block_exists
  owners_renamed [] h = refl
  owners_renamed (v ∷ vs) h = and_both _ _ (own v.owner (and_left _ (list_all (λ (x : Value). owner_exists s x.owner) vs) h)) (owners_renamed vs (and_right (owner_exists s v.owner) _ h))
    where
      own : (w : Owner) → owner_exists s w ≡ true → owner_exists other w ≡ true
      own (of_op n) e = e
      own (of_block b) e = e

  pub renamed_sound : sound s ≡ true → sound other ≡ true
  unfolding renamed operand_total successor_total attribute_total op_exists
  renamed_sound h =
      let f = facts s h in
      let t = f.totals in
      sound_of other (record {
        op = λ n l. op_sound n (f.op n l);
        block = λ m l. block_sound m (f.block m l);
        regions_in = f.regions_in;
        values_in = owners_renamed s.values f.values_in;
        totals = record { ops = t.ops; blocks = t.blocks; regions = t.regions; values = rw values_length t.values; operands = t.operands; successors = t.successors; attributes = t.attributes };
      })

  -- ---- entries made

  value_renamed : (v : ℕ) → (value_at other v).owner ≡ (value_at s v).owner
  unfolding renamed renamed_value value_at no_value
  value_renamed v = owner_at_lem s.values v
    where
      owner_at_lem : (vs : List Value) (n : ℕ) → (get_or (map (renamed_value rows) vs) n no_value).owner ≡ (get_or vs n no_value).owner
      owner_at_lem [] n = refl
      owner_at_lem (v ∷ vs) zero = refl
      owner_at_lem (v ∷ vs) (suc n) = owner_at_lem vs n

  pub entered_renamed : {m : Mapping} {paired : ℕ} → EnteredBy other m paired → EnteredBy s m paired
  entered_renamed {m} h =
      record {
        owners = h.owners;
        values = λ v e. h.values v (ap (owner_entry m) (value_renamed v) ∙ e);
        beyond = λ v l. h.beyond v (rw values_length l);
      }

  -- ---- what is read of an operation or a block

  pub numbered_renamed : (x : Step) (N : Numbering) → numbered other x N ≡ numbered s x N
  unfolding numbered
  numbered_renamed (shell w) N = rw (values_renamed w)
  numbered_renamed (names n) N = refl
  numbered_renamed (counted k) N = refl

  pub type_renamed : (v : ℕ) → v < length s.values → type_of other v ≡ present rows (type_of s v)
  unfolding renamed renamed_value type_of value_at
  type_renamed v l = type_at s.values v l
    where
      type_at : (vs : List Value) (n : ℕ) → n < length vs → (get_or (map (renamed_value rows) vs) n no_value).type ≡ present rows (get_or vs n no_value).type
      type_at [] n l = omega (arith, l)
      type_at (v ∷ vs) zero l = refl
      type_at (v ∷ vs) (suc n) l = type_at vs n (omega (arith, l))

  types_renamed : (vs : List ℕ) → ((v : ℕ) → Memᴰ v vs → v < length s.values) → map (type_of other) vs ≡ map (present rows) (map (type_of s) vs)
  types_renamed [] h = refl
  types_renamed (v ∷ vs) h = ap₂ ◌∷◌ (type_renamed v (h v (Memᴰ.head refl))) (types_renamed vs (λ u m. h u (Memᴰ.tail m)))

  own_renamed : (w : Owner) → map (type_of other) (values_of other w) ≡ map (present rows) (map (type_of s) (values_of s w))
  own_renamed w = ap (map (type_of other)) (values_renamed w) ∙ types_renamed (values_of s w) (λ v m. (values_in_lem s w m).0)

  pub shell_renamed_lem : (ig : Ignore) (w : Owner) → shell_of other ig w ≡ shell_renamed rows (shell_of s ig w)
  unfolding renamed shell_of shell_renamed op_at block_at
  shell_renamed_lem ig (of_op n) = λ i. record { location = unignored_location ig (op_at s n).location; attributes = unignored ig (op_at s n).attributes; types = own_renamed (of_op n) i }
  shell_renamed_lem ig (of_block b) = λ i. record { location = unignored_location ig (block_at s b).location; attributes = unignored ig (block_at s b).attributes; types = own_renamed (of_block b) i }
