-- `row_laid` meets its contract, table by table: the count of each bounds the row. Assumes nothing.
use Prim.Native.Nat.{ℕ, ◌<◌}
use native.Mathlib.Omega.{arith}
use mathlib.Core.Bool.{Bool}
use mathlib.Core.Path.{◌≡◌, sym, subst}
use Rattle.layout.specs.Columns.{Cols, columns, at, counts}
use Rattle.layout.specs.Reading.{op_count, block_count, region_count, value_count}
use Rattle.layout.specs.Soundness.{row_laid}
use Rattle.layout.proofs.Laid.{counts_facts}
use Rattle.layout.proofs.checks.row_laid.Goals as goal

module _ (C : Cols) (i : ℕ) {t n : ℕ} (e : t ≡ n) where
  below : i < at C counts t → i < at C counts n
  below l = subst (λ (k : ℕ). i < at C counts k) e l

  tested : {r : Bool} → r ≡ row_laid C n i → r ≡ row_laid C t i
  tested {r = r} h = subst (λ (k : ℕ). r ≡ row_laid C k i) (sym e) h

pub op_laid-requires : goal.op_laid-requires
unfolding op_count
op_laid-requires c =
    let C = columns c.args.store.now in
    record {
      counts_bounded = c.requires.counts_bounded;
      n_bound = omega (arith, below C c.args.i c.in-0.is c.requires.i_bound, (counts_facts C c.requires.counts_bounded.counted).ops);
    }

pub block_laid-requires : goal.block_laid-requires
unfolding block_count
block_laid-requires c =
    let C = columns c.args.store.now in
    record {
      counts_bounded = c.requires.counts_bounded;
      m_bound = omega (arith, below C c.args.i c.in-1.is c.requires.i_bound, (counts_facts C c.requires.counts_bounded.counted).blocks);
    }

pub region_laid-requires : goal.region_laid-requires
unfolding region_count
region_laid-requires c =
    let C = columns c.args.store.now in
    record {
      counts_bounded = c.requires.counts_bounded;
      g_bound = omega (arith, below C c.args.i c.in-2.is c.requires.i_bound, (counts_facts C c.requires.counts_bounded.counted).regions);
    }

pub value_laid-requires : goal.value_laid-requires
unfolding value_count
value_laid-requires c =
    let C = columns c.args.store.now in
    record {
      counts_bounded = c.requires.counts_bounded;
      v_bound = omega (arith, below C c.args.i {n = 3} (omega arith) c.requires.i_bound, (counts_facts C c.requires.counts_bounded.counted).values);
    }

pub returns-in-0 : goal.returns-in-0
unfolding row_laid
returns-in-0 c =
    let a = c.args in
    tested (columns a.store.now) a.i c.in-0.is c.op_laid.ensures

pub returns-in-1 : goal.returns-in-1
unfolding row_laid
returns-in-1 c =
    let a = c.args in
    tested (columns a.store.now) a.i c.in-1.is c.block_laid.ensures

pub returns-in-2 : goal.returns-in-2
unfolding row_laid
returns-in-2 c =
    let a = c.args in
    tested (columns a.store.now) a.i c.in-2.is c.region_laid.ensures

pub returns-in_default : goal.returns-in_default
unfolding row_laid
returns-in_default c =
    let a = c.args in
    let e : a.table ≡ 3 = omega arith in
    tested (columns a.store.now) a.i e c.value_laid.ensures
