-- `cut_children` meets its contract: the counts are read first, then links and ends are written. Assumes nothing.
-- the column of owners is not written
use Prim.Native.Nat.{ℕ}
use native.Mathlib.Omega.{arith}
use mathlib.Core.Bool.{false}
use mathlib.Core.List.{List}
use mathlib.Core.Path.{◌≡◌, ap, ◌∙◌}
use lib.Dec.{eqb}
use lib.ListN.{get_or}
use Rattle.layout.specs.Columns.{Cols, columns, at, write_range}
use Rattle.layout.proofs.Buffer.{write_range_other}
use Rattle.undo_log.specs.CutWrites.{links_cut}
use Rattle.undo_log.proofs.Written.{column_other}
use Rattle.undo_log.proofs.cutting.cut_children.Goals as goal

owners_kept : (C D E : Cols) (owners links ends count : ℕ) (vs : List ℕ) → eqb owners links ≡ false → eqb owners ends ≡ false → D ≡ links_cut C links count → E ≡ write_range D ends 0 vs
    → (i : ℕ) → at E owners i ≡ at C owners i
unfolding links_cut at
owners_kept C D E owners links ends count vs al ae d e i =
    ap (λ (X : Cols). get_or (X owners) i 0) e
    ∙ ap (λ (l : List ℕ). get_or l i 0) (write_range_other D ends 0 vs owners ae ∙ ap (λ (X : Cols). X owners) d ∙ column_other C links _ owners al)

pub end_children-requires : goal.end_children-requires
end_children-requires c =
    let a = c.args in
    let f = c.requires in
    let n = c.number-count.ensures in
    record {
      owners_lt_column_count = f.owners_in;
      ends_lt_column_count = f.ends_in;
      ends_value = f.ends_apart;
      count_bound = omega (arith, n, f.owners_long);
      count_few = omega (arith, n, f.few);
      by_index = λ i l. omega (arith, owners_kept (columns a.store.now) _ _ a.family.owners a.family.links a.family.ends _ _ f.links_apart f.ends_apart c.cut_links.ensures c.put_same.ensures i, f.words i (omega (arith, n)));
    }
