-- What stands for an operation by a plan is its twin, and so may be run at its place. Assumes nothing.
use Prim.Native.Nat.{◌<◌}
use native.Mathlib.Omega.{arith}
use mathlib.Core.Bool.{true}
use mathlib.Core.List.{List, [], ◌∷◌}
use mathlib.Core.Path.{◌≡◌}
use lib.ListN.{length}
use Rattle.rules.specs.Store.{Store, sound}
use Rattle.rules.specs.declared.types.Sort.TheVariants.{Op as op}
use Rattle.rules.specs.declared.types.Ignore.{Ignore}
use Rattle.rules.specs.Laws.{LawsOfSound}
use Rattle.rules.proofs.Laws.{premise_back, laws_of_sound}
use Rattle.semantics.specs.Replaced.{Replacement, MayReplace, AllMayReplace, ReplacedWork}
use Rattle.semantics.proofs.Replaced.{replaced_work}
use Rattle.planning.specs.Plan.{merged, fate_of}
use Rattle.planning.specs.PlanLaws.{PlannedTwin}
use Rattle.planning.specs.PlanWork.{AllPlanned, PlanWork}
use Rattle.planning.proofs.Under.{op_in}
use Rattle.planning.proofs.Laws.{planned_twin, merged_in}

may_replace : (s : Store) → sound s ≡ true → (ig : Ignore) (r : Replacement) → fate_of s ig r.place ≡ merged r.code → MayReplace s ig r
unfolding PlannedTwin LawsOfSound
may_replace s sd ig r e =
    let t = planned_twin s ig r.place r.code e in
    let here : r.place < length s.ops = merged_in s sd ig r.place (r.code, e) in
    let place = op_in s sd r.place here in
    let code = op_in s sd r.code (omega (arith, t.0)) in
    record {
      place_there = place;
      code_there = code;
      premise = premise_back s op r.code r.place t.1.0;
      equal = (laws_of_sound s sd ig op).symmetric r.code r.place code place t.1.0 t.1.1;
    }

all_may_replace : (s : Store) → sound s ≡ true → (ig : Ignore) (rs : List Replacement) → AllPlanned s ig rs → AllMayReplace s ig rs
all_may_replace s sd ig [] h = tt
all_may_replace s sd ig (r ∷ rs) h = (may_replace s sd ig r h.0, all_may_replace s sd ig rs h.1)

pub plan_work : (Data World Mind : Type 0) → PlanWork Data World Mind
unfolding PlanWork ReplacedWork
plan_work Data World Mind s sd ig rs h = replaced_work Data World Mind s sd ig rs (all_may_replace s sd ig rs h)
