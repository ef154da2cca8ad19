-- `lent_key` meets its contract: cause 1 comes first, then cause 14, and a list that holds is the one that its index stands for. Assumes nothing.
use Rattle.std.proofs.Common.{rules}
use mathlib.Core.Path.{◌≡◌, refl, subst}
use lib.ListN.{length}
use Rattle.std.specs.Prelude as std
use Rattle.rules.specs.declared.types.Cause.TheVariants as causes
use Rattle.validation.proofs.Offering.{words_sound}
use Rattle.fragments.specs.Index.{Indexes, IsIndexed}
use Rattle.keys.specs.Calls.{keyed_of}
use Rattle.keys.proofs.Answering.{empty_index, empty_list, answered_as, unsound, unlisted}
use Rattle.api.proofs.fragment_keys.lent_key.Goals as goal

pub returns-in_default : goal.returns-in_default
unfolding keyed_of
returns-in_default c =
    let a = c.args in
    unsound a.store.now a.types.now a.ignore a.sort a.n a.key.now _ c.in_default.ensures

pub fragment_key-requires : goal.fragment_key-requires
fragment_key-requires c =
    let w = c.in-Some.ensures in
    let none : length c.args.types.now ≡ 0 = search rules in
    record { sound = words_sound w; indexed = empty_index c.args.types.now none }

pub returns-then-is_empty : goal.returns-then-is_empty
returns-then-is_empty c =
    let w = c.in-Some.ensures in
    let none : length c.args.types.now ≡ 0 = search rules in
    answered_as w.1 w.0 (empty_list c.args.types.now none) c.fragment_key.ensures

pub returns-in_err-words : goal.returns-in_err-words
unfolding keyed_of
returns-in_err-words c =
    let a = c.args in
    let w = c.in-Some.ensures in
    let none : c.index_types.result ≡ std.None = search rules in
    let told : c.from_residual.result ≡ std.Err causes.BadTypes = search rules in
    rw told (answered_as w.1 w.0 refl
    (unlisted c.in-Some.sound.now a.types.now a.ignore a.sort a.n a.key.now (words_sound w)
    (subst (Indexes a.types.now c.index_types.new.index) none c.index_types.ensures)))

pub fragment_key-requires-2 : goal.fragment_key-requires-2
fragment_key-requires-2 c =
    let w = c.in-Some.ensures in
    let some : c.index_types.result ≡ std.Some c.in_ok-words.words = search rules in
    let indexed : IsIndexed c.args.types.now c.index_types.new.index c.in_ok-words.words =
    subst (Indexes c.args.types.now c.index_types.new.index) some c.index_types.ensures in
    record { sound = words_sound w; indexed = indexed.is_index }

pub returns : goal.returns
returns c =
    let w = c.in-Some.ensures in
    let some : c.index_types.result ≡ std.Some c.in_ok-words.words = search rules in
    let indexed : IsIndexed c.args.types.now c.index_types.new.index c.in_ok-words.words =
    subst (Indexes c.args.types.now c.index_types.new.index) some c.index_types.ensures in
    answered_as w.1 w.0 indexed.list c.fragment_key-2.ensures
