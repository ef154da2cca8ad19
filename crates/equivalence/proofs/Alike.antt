-- The shells of two operations or blocks are compared by their rows: a row has its owner's shell, and as many values. Assumes nothing.
use Prim.Native.Nat.{ℕ}
use native.Mathlib.Omega.{arith}
use mathlib.Core.Bool.{Bool, true, false, cond, ◌&&◌}
use Rattle.std.specs.Prelude.{None, Some}
use mathlib.Core.List.{[], ◌∷◌, map}
use mathlib.Core.Path.{◌≡◌, refl, sym, ap, ◌∙◌}
use borrow.Author.Tests.{eqb-true, ne_eqb}
use lib.Dec.{eqb}
use lib.ListN.{length}
use Rattle.rules.specs.Lists.{every, same_list}
use Rattle.rules.specs.Store.{op_at, regions_of, values_of}
use Rattle.rules.specs.declared.types.Owner.{Owner}
use Rattle.rules.specs.declared.types.Owner.TheVariants.{Op as of_op, Block as of_block}
use Rattle.rules.specs.Shells.{unignored_location, counts_of, same_attribute, same_location, same_shells}
use Rattle.rules.specs.declared.types.Ignore.{Ignore}
use Rattle.rules.specs.Types.{present, renamed}
use Rattle.rules.proofs.Basics.Tests.{passed, and_left, and_right, numbers_same}
use Rattle.rules.proofs.RenamedTypes.Renamed.{values_renamed}
use Rattle.layout.specs.Columns.{Cols}
use Rattle.layout.specs.Reading.{store_of}
use Rattle.layout.proofs.Scans.{next, last}
use Rattle.fragments.specs.Options.{Options, renamed_under}
use Rattle.fragments.specs.Rows.{row_shell, row_types, RowOf, HeadOf}
use Rattle.fragments.specs.declared.types.OpHeader.{OpHeader}
use Rattle.fragments.specs.declared.types.ShellRow.{ShellRow}
use Rattle.fragments.proofs.ByRows.{row_count}
use Rattle.equivalence.proofs.Chained.{and_true}
use Rattle.equivalence.specs.Slots.{same_kept}
use Rattle.equivalence.specs.Rows.{same_heads, same_bare_rows, same_plainly, same_closely, same_rows}
use Rattle.equivalence.proofs.Kept.{ended_both}

-- ---- rows

-- heads that are compared field by field
pub heads_same : (h g : OpHeader) → eqb h.kind g.kind && (eqb h.regions g.regions && (eqb h.successors g.successors && eqb h.operands g.operands)) ≡ same_heads h g
unfolding same_heads every
heads_same h g =
    ap (λ (t : Bool). eqb h.kind g.kind && (eqb h.regions g.regions && (eqb h.successors g.successors && t))) (sym (and_true (eqb h.operands g.operands)))

-- the last count stands with the row
regrouped : (a b c d e f : Bool) → (a && (b && (c && (d && (e && true))))) && f ≡ (a && (b && (c && (d && true)))) && (e && f)
regrouped false b c d e f = refl
regrouped true false c d e f = refl
regrouped true true false d e f = refl
regrouped true true true false e f = refl
regrouped true true true true false f = refl
regrouped true true true true true f = refl

alone : (e f : Bool) → (e && true) && f ≡ e && f
alone false f = refl
alone true f = refl

-- as many values as the row has, whichever types are renamed
values_many : (o : Options) {C : Cols} {w : Owner} {r : ShellRow} → RowOf C w r → length (values_of (renamed_under o (store_of C)) w) ≡ r.values
values_many o {C} {w} f = ap length (values_renamed o.types (store_of C) w) ∙ sym (row_count f)

-- an operation's counts are those of its head, and the number of its results
counts_read : (o : Options) {C : Cols} {n : ℕ} {h : OpHeader} {r : ShellRow} → HeadOf (store_of C) n h → RowOf C (of_op n) r
    → counts_of (renamed_under o (store_of C)) (of_op n) ≡ h.kind ∷ h.regions ∷ h.successors ∷ h.operands ∷ r.values ∷ []
unfolding counts_of renamed op_at regions_of
counts_read o e f = λ i. sym e.kind i ∷ sym e.regions i ∷ sym e.successors i ∷ sym e.operands i ∷ values_many o f i ∷ []

-- operations of two kinds are not the same, whatever else they have
pub kinds_unlike : (C : Cols) (o : Options) {a b : ℕ} {h g : OpHeader} → HeadOf (store_of C) a h → HeadOf (store_of C) b g → (h.kind ≡ g.kind → ⊥)
    → same_shells (renamed_under o (store_of C)) o.ignore (of_op a) (of_op b) ≡ false
unfolding same_shells every same_list counts_of renamed op_at
kinds_unlike C o {a} {b} eh eg ne = rw (ne_eqb (op_at (store_of C) a).kind (op_at (store_of C) b).kind (λ e. ne (eh.kind ∙ e ∙ sym eg.kind))) refl

-- what is compared beside the counts
abbrev rest : Cols → Options → ShellRow → ShellRow → Bool
rest C o l r =
    every
    (same_location (row_shell C o l).location (row_shell C o r).location
    ∷ same_list same_attribute (row_shell C o l).attributes (row_shell C o r).attributes
    ∷ same_list eqb (row_shell C o l).types (row_shell C o r).types
    ∷ [])

module _ {C : Cols} (o : Options) {a b : ℕ} {l r : ShellRow} where
  pub op_shells_lem : {h g : OpHeader} → HeadOf (store_of C) a h → HeadOf (store_of C) b g → RowOf C (of_op a) l → RowOf C (of_op b) r
      → same_shells (renamed_under o (store_of C)) o.ignore (of_op a) (of_op b) ≡ same_heads h g && same_rows C o l r
  unfolding same_shells every same_list same_heads same_rows
  op_shells_lem {h} {g} eh eg el er =
      (λ i.
      every
      (same_list eqb (counts_read o eh el i) (counts_read o eg er i)
      ∷ same_location (el.shell o i).location (er.shell o i).location
      ∷ same_list same_attribute (el.shell o i).attributes (er.shell o i).attributes
      ∷ same_list eqb (el.shell o i).types (er.shell o i).types
      ∷ []))
      ∙ regrouped (eqb h.kind g.kind) (eqb h.regions g.regions) (eqb h.successors g.successors) (eqb h.operands g.operands) (eqb l.values r.values) (rest C o l r)

  pub block_shells_lem : RowOf C (of_block a) l → RowOf C (of_block b) r → same_shells (renamed_under o (store_of C)) o.ignore (of_block a) (of_block b) ≡ same_rows C o l r
  unfolding same_shells counts_of every same_list same_rows
  block_shells_lem el er =
      (λ i.
      every
      (same_list eqb (values_many o el i ∷ []) (values_many o er i ∷ [])
      ∷ same_location (el.shell o i).location (er.shell o i).location
      ∷ same_list same_attribute (el.shell o i).attributes (er.shell o i).attributes
      ∷ same_list eqb (el.shell o i).types (er.shell o i).types
      ∷ []))
      ∙ alone (eqb l.values r.values) (rest C o l r)

-- rows that are the same have as many values
pub as_many : (C : Cols) (o : Options) (l r : ShellRow) → same_rows C o l r ≡ true → l.values ≡ r.values
unfolding same_rows
as_many C o l r h = eqb-true l.values r.values (passed _ h).0

-- ---- rows, with types and attributes last

attributes_last : (a b c d : Bool) → every (a ∷ b ∷ c ∷ d ∷ []) ≡ every (a ∷ b ∷ []) && every (d ∷ c ∷ [])
unfolding every
attributes_last false b c d = refl
attributes_last true false c d = refl
attributes_last true true false false = refl
attributes_last true true false true = refl
attributes_last true true true false = refl
attributes_last true true true true = refl

module _ (C : Cols) (o : Options) (l r : ShellRow) where
  pub parts : same_rows C o l r ≡ same_bare_rows o.ignore l r && same_closely C o l r
  unfolding same_rows same_bare_rows same_closely same_kept row_shell
  parts =
      attributes_last (eqb l.values r.values) (same_location (row_shell C o l).location (row_shell C o r).location)
      (same_list same_attribute (row_shell C o l).attributes (row_shell C o r).attributes)
      (same_list eqb (row_shell C o l).types (row_shell C o r).types)

  pub rows_unlike : same_bare_rows o.ignore l r ≡ false → same_rows C o l r ≡ false
  rows_unlike e = parts ∙ ap (λ (t : Bool). t && same_closely C o l r) e

  -- equal types have equal present types, and no attributes are equal attributes
  plain : same_plainly C l r ≡ true → same_closely C o l r ≡ true
  unfolding same_plainly same_closely
  plain h =
      let n = and_left (eqb l.attributes 0 && eqb r.attributes 0) (same_list eqb (row_types C l) (row_types C r)) h in
      let t = and_right (eqb l.attributes 0 && eqb r.attributes 0) (same_list eqb (row_types C l) (row_types C r)) h in
      let x : l.attributes ≡ 0 = eqb-true _ _ (and_left (eqb l.attributes 0) (eqb r.attributes 0) n) in
      let y : r.attributes ≡ 0 = eqb-true _ _ (and_right (eqb l.attributes 0) (eqb r.attributes 0) n) in
      next _ _ ((numbers_same _ _).1 (ap (map (present o.types)) ((numbers_same (row_types C l) (row_types C r)).0 t)))
      (last _ (ended_both C o.ignore l.slot _ r.slot _ (omega arith) (omega arith)))

  module _ (e : same_bare_rows o.ignore l r ≡ true) where
    pub rows_left : same_rows C o l r ≡ same_closely C o l r
    rows_left = parts ∙ ap (λ (t : Bool). t && same_closely C o l r) e

    pub rows_plain : same_plainly C l r ≡ true → same_rows C o l r ≡ true
    rows_plain h = rows_left ∙ plain h

-- ---- locations

module _ (ig : Ignore) (l r : ℕ) where
  unfoldable by : Bool → Bool
  by t = same_location (cond t None (Some l)) (cond t None (Some r))

  pub location_ignored : ig.locations ≡ true → same_location (unignored_location ig l) (unignored_location ig r) ≡ true
  unfolding unignored_location same_location by
  location_ignored e = ap by e

  pub location_compared : ig.locations ≡ false → same_location (unignored_location ig l) (unignored_location ig r) ≡ eqb l r
  unfolding unignored_location same_location by
  location_compared e = ap by e
