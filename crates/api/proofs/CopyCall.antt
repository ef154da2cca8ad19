-- A copying call on a lent buffer: a mapping that isn't allowed or a test that fails leaves the buffer as it was, and where all tests pass there is
-- a buffer with the copy. Assumes nothing.
use Rattle.rules.specs.declared.types.Cause.{Cause}
use Rattle.rules.specs.declared.types.Cause.TheVariants.{BadMapping}
use Prim.Native.Nat.{ℕ}
use mathlib.Core.Bool.{Bool, true, false}
use mathlib.Core.List.{List, []}
use Rattle.std.specs.Prelude.{Option, None, Some}
use mathlib.Core.Path.{◌≡◌, refl}
use Rattle.rules.specs.Building.{first_failed, refused, made}
use Rattle.rules.specs.Copying.{copy_tests}
use Rattle.rules.specs.Marks.{copy}
use Rattle.layout.specs.Columns.{columns}
use Rattle.layout.specs.Reading.{op_count, store_in}
use Rattle.layout.specs.Soundness.{IsSound}
use Rattle.layout.specs.MarkedReading.{IsLent}
use Rattle.undo_log.proofs.Lent.{lent_facts}
use Rattle.copying.proofs.Deciding.{refused_by, refused_mapping, cloned}
use Rattle.api.proofs.LentCall.{DoingMarked}
use Rattle.api.proofs.CopyMade.{copy_made}

module _ (b : List ℕ) (h : IsLent b) (n : ℕ) (place : Option ℕ) where
  tables : IsSound b
  tables = (lent_facts b h).tables

  allowed_call : (o : Option Cause) → first_failed (copy_tests (store_in b) n place) ≡ o → DoingMarked b (copy true n place)
  allowed_call None e =
      let d = copy_made b tables n place e in
      (d.0, made (op_count (columns b)), (cloned b h [] n place e d.0 _ d.1 (op_count (columns b)) refl).did)
  allowed_call (Some cause) e = (b, refused cause, (refused_by b h [] n place cause e).did)

  pub copying : (ok : Bool) → DoingMarked b (copy ok n place)
  copying true = allowed_call (first_failed (copy_tests (store_in b) n place)) refl
  copying false = (b, refused BadMapping, (refused_mapping b h [] n place).did)
