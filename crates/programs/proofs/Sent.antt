-- Mapping an error leaves what holds at `Ok`. Assumes nothing.
use Rattle.std.proofs.Common.{Ok, Err, Result, ◌≡◌}
use Rattle.std.specs.Result.{MatchResult, IsErrAnd, OnOk}

-- `s` is `r` with its error mapped
pub sent : {T E F : Type 0} (r : Result T E) (s : Result T F) (P : E → F → Type 0) {X Y : Type 0}
    → MatchResult r (λ x. s ≡ Ok x) (λ e. IsErrAnd s (P e)) → OnOk r X → (X → Y) → OnOk s Y
sent (Ok t) s P h x f = rw h (f x)
sent (Err e) (Ok t) P h x f = absurd h
sent (Err e) (Err d) P h x f = tt
