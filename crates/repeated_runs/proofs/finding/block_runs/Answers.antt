-- `block_runs` meets its contract: causes 2 and 15 come in this order, and then what is found is the answer. Assumes nothing.
use native.Mathlib.Omega.{arith}
use mathlib.Core.Bool.{true}
use mathlib.Core.Path.{◌≡◌, sym, ◌∙◌}
use Rattle.rules.specs.Fragments as rules
use Rattle.rules.specs.declared.types.Sort.TheVariants.{Block as block}
use Rattle.rules.specs.Types.{types_hold}
use Rattle.layout.specs.Columns.{columns}
use Rattle.layout.specs.Reading.{store_in}
use Rattle.fragments.specs.Index.{list_in}
use Rattle.fragments.proofs.Indexed.{index_holds}
use Rattle.fragments.proofs.There.{there}
use Rattle.repeated_runs.proofs.Answering.{missing, no_length, too_long_lem, answered}
use Rattle.repeated_runs.proofs.finding.block_runs.Goals as goal
use Rattle.repeated_runs.proofs.finding.block_runs.Goals.{then-length-eq0-via-then-length-eq0, then-length-eq0-via-else-length-eq0+then-length-gt-MAX_RUN}

pub returns-then-not-exists : goal.returns-then-not-exists
returns-then-not-exists c =
    let types_hold_lem : types_hold (list_in c.args.view.now.index.now) ≡ true = index_holds c.args.view.now.index.now c.args.view.now.readable.indexed in
    let a = c.args in
    missing a.view.now.store.now (list_in a.view.now.index.now) a.view.now.ignore a.block a.length
    c.args.view.now.readable.sound types_hold_lem (sym c.exists.ensures ∙ c.if-not-exists.true)

pub returns-then-length-eq0 : goal.returns-then-length-eq0
returns-then-length-eq0 c =
    let a = c.args in
    let types_hold_lem : types_hold (list_in a.view.now.index.now) ≡ true = index_holds a.view.now.index.now c.args.view.now.readable.indexed in
    let here : rules.exists (store_in a.view.now.store.now) block a.block ≡ true = sym c.exists.ensures ∙ c.if-not-exists.false in
    elim c.then-length-eq0.branch [
      | then-length-eq0-via-then-length-eq0 w ↦ no_length a.view.now.store.now (list_in a.view.now.index.now) a.view.now.ignore a.block a.length c.args.view.now.readable.sound types_hold_lem here w.if-length-eq0.true
      | then-length-eq0-via-else-length-eq0+then-length-gt-MAX_RUN w ↦ too_long_lem a.view.now.store.now (list_in a.view.now.index.now) a.view.now.ignore a.block a.length c.args.view.now.readable.sound types_hold_lem here (omega (arith, w.if-length-eq0.false)) w.if-length-gt-MAX_RUN.true
    ]

pub found_in-requires : goal.found_in-requires
found_in-requires c =
    record {
      block_bound = there (columns c.args.view.now.store.now) block c.args.block (sym c.exists.ensures ∙ c.if-not-exists.false);
      le_n = omega (arith, c.if-length-eq0.false);
      n_le_max_run = c.if-length-gt-MAX_RUN.false;
    }

pub returns : goal.returns
returns c =
    let a = c.args in
    let types_hold_lem : types_hold (list_in a.view.now.index.now) ≡ true = index_holds a.view.now.index.now c.args.view.now.readable.indexed in
    let here : rules.exists (store_in a.view.now.store.now) block a.block ≡ true = sym c.exists.ensures ∙ c.if-not-exists.false in
    answered a.view.now.store.now (list_in a.view.now.index.now) a.view.now.ignore a.block a.length
    c.args.view.now.readable.sound types_hold_lem here (omega (arith, c.if-length-eq0.false)) c.if-length-gt-MAX_RUN.false c.found_in.result c.found_in.ensures
