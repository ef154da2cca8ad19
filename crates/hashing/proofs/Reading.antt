-- What is read off the rows says how much is numbered and fed: as many values as the owner has, an operation's kind and regions, and the
-- owner of a value. Assumes nothing.
use Rattle.std.proofs.Common.{◌≡◌, ℕ, ◌<◌, ◌++◌, length, sym, ap, ◌∙◌}
use Rattle.rules.specs.Store.{Op, regions_of}
use Rattle.rules.specs.declared.types.Owner.{Owner}
use Rattle.rules.specs.declared.types.Owner.TheVariants.{Op as of_op}
use Rattle.rules.specs.Shells.{Shell, shell_of}
use Rattle.rules.specs.Hash.{fnv_from, leaf, count, head_bytes, uncounted, shell_bytes}
use Rattle.rules.proofs.Form.Hashes.{fnv_append}
use Rattle.layout.specs.Columns.{Cols, at, op_kind}
use Rattle.layout.specs.Reading.{op_count, op_of, store_of}
use Rattle.layout.proofs.Tabulate.{op_read}
use Rattle.fragments.specs.Options.{Options, renamed_under}
use Rattle.fragments.specs.Rows.{RowOf, row_shell}
use Rattle.fragments.specs.declared.types.ShellRow.{ShellRow}
use Rattle.hashing.specs.Walked.{owner_bytes}

pub head_fed : (C : Cols) (n : ℕ) → n < op_count C → (word : ℕ) {kind regions r : ℕ} → kind ≡ at C op_kind n → regions ≡ length (regions_of (store_of C) n)
    → r ≡ fnv_from word (leaf kind ++ count regions) → r ≡ fnv_from word (head_bytes (store_of C) (of_op n))
unfolding head_bytes op_of
head_fed C n l word k e q =
    let kind = k ∙ sym (ap (λ (x : Op). x.kind) (op_read C n l)) in
    q ∙ (λ i. fnv_from word (leaf (kind i) ++ count (e i)))

-- what an owner feeds of itself: a head, and then its row
pub row_fed : {C : Cols} {own : Owner} {r : ShellRow} → RowOf C own r → (o : Options) (w : ℕ) {head w' : ℕ} → head ≡ fnv_from w (head_bytes (store_of C) own)
    → w' ≡ fnv_from head (shell_bytes uncounted (row_shell C o r)) → w' ≡ fnv_from w (owner_bytes (store_of C) o own)
unfolding owner_bytes
row_fed {C} {own} {r} h o w {head} e q =
    q
    ∙ ap (λ (k : ℕ). fnv_from k (shell_bytes uncounted (row_shell C o r))) e
    ∙ ap (λ (x : Shell). fnv_from (fnv_from w (head_bytes (store_of C) own)) (shell_bytes uncounted x)) (sym (h.shell o))
    ∙ sym (fnv_append w (head_bytes (store_of C) own) (shell_bytes uncounted (shell_of (renamed_under o (store_of C)) o.ignore own)))
