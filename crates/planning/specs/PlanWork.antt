-- A form in which merged operations run the code of what stands for them does the same work, whatever operations mean (`semantics`,
-- `Replaced`).
use Rattle.std.specs.Prelude.{ℕ, true, List, [], ◌∷◌, ◌≡◌}
use Rattle.rules.specs.Store.{Store, sound}
use Rattle.rules.specs.declared.types.Sort.{Sort}
use Rattle.rules.specs.declared.types.Ignore.{Ignore}
use Rattle.semantics.specs.Meaning.{Meaning}
use Rattle.semantics.specs.Machine.{Registers, run_code, run_fragment}
use Rattle.semantics.specs.Replaced.{Replacement, all_replaced}
use Rattle.planning.specs.Plan.{merged, fate_of}

-- by the plan the code's operation stands for that at the place
abbrev pub AllPlanned : Store → Ignore → List Replacement → Type 0
AllPlanned s ig [] = Unit {0}
AllPlanned s ig (r ∷ rs) = (fate_of s ig r.place ≡ merged r.code) × AllPlanned s ig rs

-- any of a plan's merges, in any order: `plan_work`
unfoldable pub PlanWork : (Data World Mind : Type 0) → Type 0
PlanWork Data World Mind =
    (s : Store) → sound s ≡ true → (ig : Ignore) (rs : List Replacement) → AllPlanned s ig rs
    → (M : Meaning Data World Mind) (f : Sort) (a : ℕ) (ds : List Data) (R : Registers Data) (w : World) (k : ℕ)
    → run_code M s (all_replaced s ig rs) f a ds R w k ≡ run_fragment M s ig f a ds R w k
