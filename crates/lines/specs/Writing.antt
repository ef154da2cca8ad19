-- What a writing function does: bytes are written into a buffer from a position on, and the next ones go behind them.
use Rattle.std.specs.Prelude.{ℕ, ◌+◌, ◌≤◌, List, ◌≡◌, length}
use Rattle.layout.specs.Columns.{pasted}
use Rattle.lines.specs.declared.writing.LineWriter.{LineWriter}

-- at most so many bytes, written from `at` on, and r is behind them
pub record WritesAt (most : ℕ) (before after : List ℕ) (at : ℕ) (bytes : List ℕ) (r : ℕ) : Type 0 where
  pub written : after ≡ pasted before at bytes
  pub behind : r ≡ at + length bytes
  pub short : length bytes ≤ most

-- the same of a writer, which stays over the same lent bytes
pub record Writes (most : ℕ) (bytes : List ℕ) (a b : LineWriter) : Type 0 where
  pub same_reference : b.lent.ghost_name ≡ a.lent.ghost_name
  pub long : length b.lent.now ≡ length a.lent.now
  pub wrote : WritesAt most a.lent.now b.lent.now a.at bytes b.at

-- there is room for so many bytes
abbrev pub HasRoom : ℕ → LineWriter → Type 0
HasRoom n a = a.at + n ≤ length a.lent.now
