-- `replacements` meets its contract: by the sort. Assumes nothing.
use Prim.Native.Nat.{ℕ}
use native.Mathlib.Omega.{arith}
use mathlib.Core.Bool.{Bool, cond}
use mathlib.Core.Path.{sym, ap}
use borrow.Author.Tests.{lt-ltb, le-ltb}
use Rattle.undo_log.specs.Entries.{counts_as}
use Rattle.undo_log.proofs.entries.EntryWords.replacements.Goals as goal

pub returns-then-self-lt-KEY_WAS_NONE-clause-value : goal.returns-then-self-lt-KEY_WAS_NONE-clause-value
unfolding counts_as
returns-then-self-lt-KEY_WAS_NONE-clause-value c =
    sym (ap (λ (t : Bool). cond {A = ℕ} t 1 0) (lt-ltb c.args.self.sort 2 (omega arith)))

pub returns-else-self-lt-KEY_WAS_NONE-clause-value : goal.returns-else-self-lt-KEY_WAS_NONE-clause-value
unfolding counts_as
returns-else-self-lt-KEY_WAS_NONE-clause-value c =
    sym (ap (λ (t : Bool). cond {A = ℕ} t 1 0) (le-ltb c.args.self.sort 2 (omega arith)))
