-- `op_shells_eq` meets its contract: the shells are compared by what is read off the rows. Assumes nothing.
use Rattle.std.proofs.Common.{◌≡◌, Bool, ◌&&◌, sym, ap, ◌∙◌}
use Rattle.rules.proofs.Basics.Tests.{and_left, and_right}
use Rattle.layout.specs.Columns.{Cols, columns}
use Rattle.fragments.specs.Options.{Options}
use Rattle.fragments.specs.View.{options_in}
use Rattle.equivalence.proofs.Chained.{and_goes, and_stops, and_again}
use Rattle.equivalence.specs.Rows.{same_heads, same_bare_rows, same_closely, same_rows}
use Rattle.equivalence.proofs.Alike.{op_shells_lem, parts, rows_plain, rows_left}
use Rattle.equivalence.proofs.shells.op_shells_eq.Goals as goal
use Rattle.equivalence.proofs.shells.op_shells_eq.Goals.{then-heads_eq, else-heads_eq}

pub returns-else-bare_rows_eq : goal.returns-else-bare_rows_eq
returns-else-bare_rows_eq c =
    let cols : Cols = columns c.args.view.now.store.now in
    let rule : Options = options_in c.args.view.now in
    let heads : Bool = same_heads c.op_head.result c.op_head-2.result in
    let bare : Bool = same_bare_rows c.args.view.now.ignore c.args.l c.args.r in
    let same = c.heads_eq.ensures in
    let first : c.if-heads_eq.value ≡ heads && bare =
    elim c.if-heads_eq.branch [
      | then-heads_eq w ↦ and_goes heads bare (sym same ∙ w.if-heads_eq.true) (w.value-is ∙ w.bare_rows_eq.ensures)
      | else-heads_eq w ↦ and_stops heads bare (sym same ∙ w.if-heads_eq.false) (w.value-is ∙ w.if-heads_eq.false)
    ] in
    let shells = op_shells_lem rule c.op_head.ensures c.op_head-2.ensures c.requires.left_row c.requires.right_row in
    let closely : Bool = same_closely cols rule c.args.l c.args.r in
    and_stops (heads && bare) closely (sym first ∙ c.if-bare_rows_eq.false) c.if-bare_rows_eq.false
    ∙ and_again heads bare closely ∙ ap (λ (t : Bool). heads && t) (sym (parts cols rule c.args.l c.args.r)) ∙ sym shells

pub returns-then-plainly_eq : goal.returns-then-plainly_eq
returns-then-plainly_eq c =
    let cols : Cols = columns c.args.view.now.store.now in
    let rule : Options = options_in c.args.view.now in
    let heads : Bool = same_heads c.op_head.result c.op_head-2.result in
    let bare : Bool = same_bare_rows c.args.view.now.ignore c.args.l c.args.r in
    let same = c.heads_eq.ensures in
    let first : c.if-heads_eq.value ≡ heads && bare =
    elim c.if-heads_eq.branch [
      | then-heads_eq w ↦ and_goes heads bare (sym same ∙ w.if-heads_eq.true) (w.value-is ∙ w.bare_rows_eq.ensures)
      | else-heads_eq w ↦ and_stops heads bare (sym same ∙ w.if-heads_eq.false) (w.value-is ∙ w.if-heads_eq.false)
    ] in
    let shells = op_shells_lem rule c.op_head.ensures c.op_head-2.ensures c.requires.left_row c.requires.right_row in
    let both = sym first ∙ c.if-bare_rows_eq.true in
    let left = shells ∙ ap (λ (t : Bool). t && same_rows cols rule c.args.l c.args.r) (and_left heads bare both) in
    c.if-plainly_eq.true
    ∙ sym (left ∙ rows_plain cols rule c.args.l c.args.r (and_right heads bare both) (sym c.plainly_eq.ensures ∙ c.if-plainly_eq.true))

pub returns-else-plainly_eq : goal.returns-else-plainly_eq
returns-else-plainly_eq c =
    let cols : Cols = columns c.args.view.now.store.now in
    let rule : Options = options_in c.args.view.now in
    let heads : Bool = same_heads c.op_head.result c.op_head-2.result in
    let bare : Bool = same_bare_rows c.args.view.now.ignore c.args.l c.args.r in
    let same = c.heads_eq.ensures in
    let first : c.if-heads_eq.value ≡ heads && bare =
    elim c.if-heads_eq.branch [
      | then-heads_eq w ↦ and_goes heads bare (sym same ∙ w.if-heads_eq.true) (w.value-is ∙ w.bare_rows_eq.ensures)
      | else-heads_eq w ↦ and_stops heads bare (sym same ∙ w.if-heads_eq.false) (w.value-is ∙ w.if-heads_eq.false)
    ] in
    let shells = op_shells_lem rule c.op_head.ensures c.op_head-2.ensures c.requires.left_row c.requires.right_row in
    let both = sym first ∙ c.if-bare_rows_eq.true in
    let left = shells ∙ ap (λ (t : Bool). t && same_rows cols rule c.args.l c.args.r) (and_left heads bare both) in
    c.closely_eq.ensures ∙ sym (left ∙ rows_left cols rule c.args.l c.args.r (and_right heads bare both))
