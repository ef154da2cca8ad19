-- `hash_types` meets its contract: what is left to feed into the word as it is, is the whole fed into the word as it was. Assumes nothing.
use Rattle.std.proofs.Common.{ℕ, sym, ap, ◌∙◌}
use Rattle.rules.specs.Types.{present}
use Rattle.rules.specs.Hash.{fnv_from, leaf}
use Rattle.rules.proofs.Form.Hashes.{concat_map_map}
use Rattle.fragments.specs.Index.{list_in}
use Rattle.hashing.proofs.Bytes.{entry_fed, entries_fed}
use Rattle.hashing.proofs.shells.hash_types.Invariants.{type_bytes}
use Rattle.hashing.proofs.shells.hash_types.Goals as goal

pub loop-t-preserved : goal.loop-t-preserved
loop-t-preserved c =
    let m = c.loop-t in
    let a = c.args in
    let one = c.hash_leaf.ensures ∙ ap (λ (t : ℕ). fnv_from m.state.word (leaf t)) c.present.ensures in
    entry_fed (type_bytes a.index.now) a.types.now a.state.now.word m.t-index m.state.word c.loop-t-test.true m.invariant one

pub returns : goal.returns
returns c =
    let m = c.loop-t in
    let a = c.args in
    entries_fed (type_bytes a.index.now) a.types.now a.state.now.word m.t-index m.state.word c.loop-t-test.false m.invariant
    ∙ ap (fnv_from a.state.now.word) (sym (concat_map_map leaf (present (list_in a.index.now)) a.types.now))
