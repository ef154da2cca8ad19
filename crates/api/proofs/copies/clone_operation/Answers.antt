-- `clone_operation` meets its contract: by the soundness check, then by the check of the mapping, and by the call on a lent buffer. Assumes
-- nothing.
use mathlib.Core.Path.{◌≡◌, sym, ◌∙◌}
use Rattle.std.proofs.Common.{rules}
use Rattle.std.specs.Prelude as std
use Rattle.rules.specs.declared.types.Cause.TheVariants as causes
use Rattle.layout.specs.Reading.{store_in}
use Rattle.mutation.specs.Types.{made_of}
use Rattle.undo_log.proofs.Lent.{lent_facts}
use Rattle.validation.proofs.Offering.{not_given, given}
use Rattle.equivalence.proofs.MappingEntries.{wrong_length}
use Rattle.api.proofs.CopyAnswers.{unsound, not_allowed_lem, done, same_store, same_mapping}
use Rattle.api.proofs.copies.clone_operation.Goals as goal

pub returns-in_err-words : goal.returns-in_err-words
unfolding made_of
returns-in_err-words c =
    let a = c.args in
    let none : c.sound_words_mut.result ≡ std.None = search rules in
    let told : c.from_residual.result ≡ std.Err causes.NotSound = search rules in
    rw told (unsound a.store.now a.mapping.now a.op a.parent (not_given a.store.now c.sound_words_mut.ensures.cases none))

pub returns-in_default : goal.returns-in_default
unfolding made_of
returns-in_default c =
    let a = c.args in
    let w = c.in_ok-words.words.now in
    let some : c.sound_words_mut.result ≡ std.Some c.in_ok-words.words = search rules in
    let lent = given a.store.now c.sound_words_mut.ensures.cases some in
    same_store lent.0
    (not_allowed_lem w lent.1 a.mapping.now a.op a.parent
    (wrong_length (store_in w) a.mapping.now c.in_default.ensures.cases))

pub is_allowed-requires : goal.is_allowed-requires
is_allowed-requires c =
    let some : c.sound_words_mut.result ≡ std.Some c.in_ok-words.words = search rules in
    let h = (lent_facts _ (given c.args.store.now c.sound_words_mut.ensures.cases some).1).tables in
    record { sized = h.sized; laid = h.laid }

pub returns-then-not-is_allowed : goal.returns-then-not-is_allowed
unfolding made_of
returns-then-not-is_allowed c =
    let a = c.args in
    let w = c.in_ok-words.words.now in
    let z = c.in-Some.entries.now in
    let some : c.sound_words_mut.result ≡ std.Some c.in_ok-words.words = search rules in
    let lent = given a.store.now c.sound_words_mut.ensures.cases some in
    same_store lent.0 (same_mapping c.in-Some.ensures.cases.same
    (not_allowed_lem w lent.1 z a.op a.parent
    (sym c.is_allowed.ensures ∙ c.if-not-is_allowed.true)))

pub returns : goal.returns
returns c =
    let a = c.args in
    let w = c.in_ok-words.words.now in
    let z = c.in-Some.entries.now in
    let some : c.sound_words_mut.result ≡ std.Some c.in_ok-words.words = search rules in
    let lent = given a.store.now c.sound_words_mut.ensures.cases some in
    same_store lent.0 (same_mapping c.in-Some.ensures.cases.same
    (done w lent.1 z a.op a.parent
    (sym c.is_allowed.ensures ∙ c.if-not-is_allowed.false) c.clone_operation.new.store c.clone_operation.new.mapping _ c.clone_operation.ensures))
