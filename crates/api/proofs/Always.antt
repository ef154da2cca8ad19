-- Whatever the buffer and the call, there is an answer and a buffer afterwards that meet the call's contract: a buffer that isn't sound is
-- refused as it is, and on a lent one each call can be made. So it is for a list of calls. Assumes nothing.
use Rattle.rules.specs.declared.types.Cause.TheVariants.{NotSound}
use Prim.Native.Nat.{ℕ}
use mathlib.Core.Bool.{Bool, true, false}
use mathlib.Core.List.{List, [], ◌∷◌}
use mathlib.Core.Path.{◌≡◌, refl}
use Rattle.rules.specs.Building.{Built, refused}
use Rattle.rules.specs.Marks.{MarkedCall, build, set_mark, go_back, copy}
use Rattle.layout.specs.MarkedReading.{sound_lent, IsLent}
use Rattle.api.specs.Building.{CallAnswers}
use Rattle.api.specs.Calls.{Made, AlwaysMade}
use Rattle.api.proofs.BuildingAnswers.{turned_down, taken_up}
use Rattle.api.proofs.LentCall.{DoingMarked, building}
use Rattle.api.proofs.MarkCall.{setting, returning}
use Rattle.api.proofs.CopyCall.{copying}

doing_marked : (b : List ℕ) → IsLent b → (c : MarkedCall) → DoingMarked b c
doing_marked b h (build c) = building b h c
doing_marked b h (set_mark k) = setting b h k
doing_marked b h (go_back k) = returning b h k
doing_marked b h (copy ok n place) = copying b h n place ok

answers : (b : List ℕ) (c : MarkedCall) → (exit : List ℕ) × (r : Built) × CallAnswers b exit c r
answers b c = go (sound_lent b) refl
  where
    go : (t : Bool) → sound_lent b ≡ t → (exit : List ℕ) × (r : Built) × CallAnswers b exit c r
    go true e = let d = doing_marked b e c in (d.0, d.1, taken_up b c d.1 d.0 e d.2)
    go false e = (b, refused NotSound, turned_down b c (refused NotSound) e refl)

made_in_a_row : (calls : List MarkedCall) (entry : List ℕ) → (exit : List ℕ) × Made entry calls exit
unfolding Made
made_in_a_row [] entry = (entry, refl)
made_in_a_row (c ∷ cs) entry =
    let d = answers entry c in
    let rest = made_in_a_row cs d.0 in
    (rest.0, (d.0, d.1, d.2, rest.1))

pub always_made : AlwaysMade
unfolding AlwaysMade
always_made entry calls = made_in_a_row calls entry
