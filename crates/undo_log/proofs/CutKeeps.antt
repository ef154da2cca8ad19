-- Columns of which only the counts, the links and the ends of ranges of children are others: what the rows are read as is the same, and a
-- store is read that is cut to the counts. Assumes nothing.
use Prim.Native.Nat.{ℕ, ◌+◌, ◌-◌, ◌≤◌}
use native.Mathlib.Omega.{arith}
use mathlib.Core.Bool.{cond}
use mathlib.Core.List.{List}
use mathlib.Core.Path.{◌≡◌, refl, sym, ap, ◌∙◌}
use lib.Dec.{eqb}
use lib.ListN.{take}
use lib.Seq.{take_at}
use Rattle.layout.specs.Columns.{Cols, at, counts, op_next, region_op, region_block_end, block_op_end, block_next}
use Rattle.layout.specs.Reading.{tabulate, op_count, block_count, region_count, value_count, attribute_at, attributes_from, op_of, block_of, value_of, store_of}
use Rattle.layout.proofs.Tabulate.{length_tabulate, tabulate_cong, tabulate_add}
use Rattle.layout.specs.Journal.{Counts, cut_to}

-- the five columns that are others
pub record Columns : Type 0 where
  pub counts : List ℕ
  pub block_ends : List ℕ
  pub op_ends : List ℕ
  pub op_links : List ℕ
  pub block_links : List ℕ

unfoldable pub cut_by : Cols → Columns → Cols
cut_by C x j =
    cond (eqb j counts) x.counts
    (cond (eqb j region_block_end) x.block_ends
    (cond (eqb j block_op_end) x.op_ends
    (cond (eqb j op_next) x.op_links
    (cond (eqb j block_next) x.block_links (C j)))))

-- there are no more than before
pub record Fewer (C D : Cols) : Type 0 where
  pub ops : op_count D ≤ op_count C
  pub blocks : block_count D ≤ block_count C
  pub regions : region_count D ≤ region_count C
  pub values : value_count D ≤ value_count C

take_tabulate : {A : Type 0} (N n : ℕ) (f : ℕ → A) → N ≤ n → take N (tabulate n f) ≡ tabulate N f
take_tabulate N n f l =
    let e : n ≡ N + (n - N) = omega arith in
    ap (λ (m : ℕ). take N (tabulate m f)) e
    ∙ ap (take N) (tabulate_add N (n - N) f)
    ∙ take_at (tabulate N f) (tabulate (n - N) (λ (i : ℕ). f (N + i))) N (length_tabulate N f)

module _ (C : Cols) (x : Columns) where
  pub op_same : (n : ℕ) → op_of (cut_by C x) n ≡ op_of C n
  unfolding op_of attributes_from attribute_at at cut_by
  op_same n = refl

  pub block_same : (m : ℕ) → block_of (cut_by C x) m ≡ block_of C m
  unfolding block_of attributes_from attribute_at at cut_by
  block_same m = refl

  pub value_same : (v : ℕ) → value_of (cut_by C x) v ≡ value_of C v
  unfolding value_of at cut_by
  value_same v = refl

  region_same : (r : ℕ) → at (cut_by C x) region_op r ≡ at C region_op r
  unfolding at cut_by
  region_same r = refl

  rows : {A : Type 0} (N M n : ℕ) (f g : ℕ → A) → M ≡ N → N ≤ n → ((i : ℕ) → f i ≡ g i) → tabulate M f ≡ take N (tabulate n g)
  rows N M n f g e l same = ap (λ (m : ℕ). tabulate m f) e ∙ tabulate_cong N f g (λ i h. same i) ∙ sym (take_tabulate N n g l)

  pub cut_read : (k : Counts) → op_count (cut_by C x) ≡ k.ops → block_count (cut_by C x) ≡ k.blocks → region_count (cut_by C x) ≡ k.regions → value_count (cut_by C x) ≡ k.values
      → Fewer C (cut_by C x) → store_of (cut_by C x) ≡ cut_to k (store_of C)
  unfolding store_of cut_to
  cut_read k ops blocks regions values few =
      λ i.
      record {
        ops = rows k.ops _ (op_count C) (op_of (cut_by C x)) (op_of C) ops (omega (arith, few.ops)) op_same i;
        blocks = rows k.blocks _ (block_count C) (block_of (cut_by C x)) (block_of C) blocks (omega (arith, few.blocks)) block_same i;
        regions = rows k.regions _ (region_count C) (at (cut_by C x) region_op) (at C region_op) regions (omega (arith, few.regions)) region_same i;
        values = rows k.values _ (value_count C) (value_of (cut_by C x)) (value_of C) values (omega (arith, few.values)) value_same i;
      }
