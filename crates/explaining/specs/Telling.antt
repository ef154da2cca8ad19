-- The same explanation by a walk of its own: the comparison with each test told apart as it is made. `Reasons` reads the pair again
-- instead.
use Rattle.std.specs.Prelude.{ℕ, zero, suc, List, [], ◌∷◌, length, ◌≡◌, Option, None, Some}
use Rattle.rules.specs.Store.{Store, ops_of, blocks_of, regions_of}
use Rattle.rules.specs.Fragments.{levels}
use Rattle.rules.specs.declared.types.Sort.{Sort}
use Rattle.rules.specs.declared.types.Sort.TheVariants.{Op as op, Block as block, Region as region}
use Rattle.rules.specs.declared.types.Ignore.{Ignore}
use Rattle.rules.specs.Mapping.{empty_mapping}
use Rattle.rules.specs.Comparison.{State, Pair, pair_of, enter_ops, enter_blocks, start}
use Rattle.explaining.specs.Reasons.{blocks, ops, Test, op_tests, block_tests, name_tests, first, Difference, explain}

pub data Tale : Type 0 where
  going : State → Tale
  fell : Difference → Tale

abbrev pub then_tale : Tale → (State → Tale) → Tale
then_tale (going st) f = f st
then_tale (fell d) f = fell d

unfoldable pub by_test : Test → Pair → State → Tale
by_test None p st = going st
by_test (Some r) p st = fell (record { pair = p; reason = r })

unfoldable pub tale_pairwise : (ℕ → ℕ → State → Tale) → Difference → List ℕ → List ℕ → State → Tale
tale_pairwise f d [] [] st = going st
tale_pairwise f d [] (r ∷ rs) st = fell d
tale_pairwise f d (l ∷ ls) [] st = fell d
tale_pairwise f d (l ∷ ls) (r ∷ rs) st = then_tale (f l r st) (tale_pairwise f d ls rs)

unfoldable pub tale_each : (ℕ → ℕ → State → Tale) → List ℕ → List ℕ → State → Tale
tale_each f [] rs st = going st
tale_each f (l ∷ ls) [] st = going st
tale_each f (l ∷ ls) (r ∷ rs) st = then_tale (f l r st) (tale_each f ls rs)

module _ (s : Store) where
  unfoldable pub blocks_differ : ℕ → ℕ → Difference
  blocks_differ l r = record { pair = pair_of region l r; reason = blocks (length (blocks_of s l)) (length (blocks_of s r)) }

  unfoldable pub ops_differ : ℕ → ℕ → Difference
  ops_differ l r = record { pair = pair_of block l r; reason = ops (length (ops_of s l)) (length (ops_of s r)) }

  module _ (ig : Ignore) where
    unfoldable pub tell_ops : ℕ → ℕ → State → Tale
    tell_ops l r st = by_test (first (op_tests s ig l r)) (pair_of op l r) (enter_ops s l r st)

    unfoldable pub tell_blocks : ℕ → ℕ → State → Tale
    tell_blocks l r st = by_test (first (block_tests s ig l r)) (pair_of block l r) (enter_blocks s l r st)

    unfoldable pub tell_names : ℕ → ℕ → State → Tale
    tell_names l r st = by_test (first (name_tests s st.mapping l r)) (pair_of op l r) st

    unfoldable pub tell_check : (ℕ → ℕ → State → Tale) → ℕ → ℕ → State → Tale
    tell_check f l r st = then_tale (tell_names l r st) (tale_each f (regions_of s l) (regions_of s r))

    unfoldable pub tell_pass2 : List ℕ → List ℕ → State → Tale
    tell_pass2 ls rs = tale_each (λ (l r : ℕ). tale_pairwise tell_ops (ops_differ l r) (ops_of s l) (ops_of s r)) ls rs

    unfoldable pub tell_pass3 : (ℕ → ℕ → State → Tale) → List ℕ → List ℕ → State → Tale
    tell_pass3 f ls rs = tale_each (λ (l r : ℕ). tale_each f (ops_of s l) (ops_of s r)) ls rs

    unfoldable pub tell_lists : (ℕ → ℕ → State → Tale) → Difference → List ℕ → List ℕ → State → Tale
    tell_lists f d ls rs st = then_tale (then_tale (tale_pairwise tell_blocks d ls rs st) (tell_pass2 ls rs)) (tell_pass3 f ls rs)

    unfoldable pub tell_regions : ℕ → ℕ → ℕ → State → Tale
    tell_regions zero l r st = going st
    tell_regions (suc k) l r st = tell_lists (tell_check (tell_regions k)) (blocks_differ l r) (blocks_of s l) (blocks_of s r) st

    unfoldable pub tell : Sort → ℕ → ℕ → State → Tale
    tell op l r st = then_tale (tell_ops l r st) (tell_check (tell_regions levels) l r)
    tell block l r st = tell_lists (tell_check (tell_regions levels)) (ops_differ l r) (l ∷ []) (r ∷ []) st
    tell region l r st = tell_regions levels l r st

unfoldable pub end_of : Tale → Option Difference
end_of (going st) = None
end_of (fell d) = Some d

-- both say the same
unfoldable pub TellingSame : Type 0
TellingSame = (s : Store) (ig : Ignore) (f : Sort) (a b : ℕ) → end_of (tell s ig f a b (start empty_mapping)) ≡ explain s ig f a b
