-- `fragment_key` meets its contract: a fragment that is not there and a key that does not fit are refused before anything is written. Assumes
-- nothing.
use native.Mathlib.Omega.{arith}
use mathlib.Core.Bool.{true}
use mathlib.Core.Path.{◌≡◌, sym, ◌∙◌}
use Rattle.rules.specs.Types.{types_hold}
use Rattle.layout.specs.Reading.{store_in}
use Rattle.fragments.specs.Index.{list_in}
use Rattle.fragments.proofs.Indexed.{index_holds}
use Rattle.fragments.specs.Options.{options_of}
use Rattle.keys.specs.Calls.{keyed_of}
use Rattle.keys.proofs.Answering.{longest, whole_length, missing, too_short_lem, given}
use Rattle.keys.proofs.keys.fragment_key.Goals as goal

pub returns-then-not-exists : goal.returns-then-not-exists
unfolding keyed_of
returns-then-not-exists c =
    let listed : types_hold (list_in c.args.index.now) ≡ true = index_holds c.args.index.now c.requires.indexed in
    let a = c.args in
    missing a.store.now (list_in a.index.now) a.ignore a.sort a.n a.lent.now c.requires.sound listed
    (sym c.exists.ensures ∙ c.if-not-exists.true)

pub returns-then-not-key_fits : goal.returns-then-not-key_fits
unfolding keyed_of
returns-then-not-key_fits c =
    let listed : types_hold (list_in c.args.index.now) ≡ true = index_holds c.args.index.now c.requires.indexed in
    let a = c.args in
    too_short_lem a.store.now (list_in a.index.now) a.ignore a.sort a.n a.lent.now c.requires.sound listed
    (sym c.exists.ensures ∙ c.if-not-exists.false) (sym (c.key_fits.ensures (list_in c.args.index.now)) ∙ c.if-not-key_fits.true)

pub overflow_cast-result : goal.overflow_cast-result
overflow_cast-result c =
    let a = c.args in
    let there = sym c.exists.ensures ∙ c.if-not-exists.false in
    let w = whole_length (store_in a.store.now) (options_of a.ignore a.index.now) a.sort a.n c.requires.sound.ruled there c.put_fragment-bytes.ensures in
    record { fits = omega (arith, w.1) }

pub returns : goal.returns
unfolding keyed_of
returns c =
    let a = c.args in
    let S = store_in a.store.now in
    let o = options_of a.ignore a.index.now in
    let f = a.sort in
    let there = sym c.exists.ensures ∙ c.if-not-exists.false in
    given a.store.now (list_in a.index.now) a.ignore f a.n a.lent.now c.requires.sound
    (index_holds a.index.now c.requires.indexed) there (sym (c.key_fits.ensures (list_in a.index.now)) ∙ c.if-not-key_fits.false)
    (longest S o f a.n c.requires.sound.ruled there)
    c.put_fragment-bytes.ensures
