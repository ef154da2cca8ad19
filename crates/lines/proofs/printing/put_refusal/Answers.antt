-- `put_refusal` meets its contract: its three pieces are the line. Assumes nothing.
use Prim.Native.Nat.{ℕ}
use native.Mathlib.Omega.{arith}
use mathlib.Core.List.{[], ◌∷◌, ◌++◌}
use mathlib.Core.Path.{subst}
use Rattle.rules.specs.Bytes.{decimal, line_feed}
use Rattle.lines.specs.Room.{number_room}
use Rattle.lines.specs.Writing.{Writes}
use Rattle.lines.proofs.Joined.{then, said}
use Rattle.lines.proofs.Lines.{refusal_line}
use Rattle.lines.proofs.printing.put_refusal.Goals as goal

pub returns : goal.returns
returns c =
    let a = c.args in
    let fields = then c.put_text.ensures c.put_field.ensures (omega arith) in
    let last = subst (λ (n : ℕ). Writes number_room (decimal n ++ (line_feed ∷ [])) c.put_field.new.out c.put_last.new.out) c.number.ensures c.put_last.ensures in
    said (then fields last (omega arith)) (refusal_line a.line a.cause)
