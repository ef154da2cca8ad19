-- Demand 2 over the code. By its contract a comparison on a sound buffer answers as the rules' walk does, and a hash likewise; and the
-- rules agree with the Rust's own text in its domain. Assumes nothing.
use Prim.Native.Nat.{ℕ}
use mathlib.Core.Bool.{Bool, true, false}
use mathlib.Core.List.{List}
use mathlib.Core.Path.{◌≡◌, sym, ap, ap₂, ◌∙◌}
use Rattle.std.specs.Prelude.{Ok, Err}
use Rattle.rules.specs.Store.{Store, sound}
use Rattle.rules.specs.declared.types.Sort.{Sort}
use Rattle.rules.specs.declared.types.Sort.TheVariants.{Op as op, Block as block, Region as region}
use Rattle.rules.specs.declared.types.Ignore.{Ignore}
use Rattle.rules.specs.Mapping.{Mapping, allowed}
use Rattle.rules.specs.Comparison.{Pair, unequal, one_longer, Walk, on, ended, standing, pair_of, compare}
use Rattle.rules.specs.Types.{types_hold, renamed}
use Rattle.rules.specs.Answers.{Comparison, eq, neq, comparison_of, comparison}
use Rattle.rules.specs.Rust as rust
use Rattle.rules.specs.Agreement.{named_by, named, result_of, answered, met_one_longer, ComparesAsTheRust, HashesAsTheRust}
use Rattle.rules.specs.Laws.{In}
use Rattle.rules.specs.TypeLaws.{RenamedSound}
use Rattle.rules.proofs.RenamedTypes.Under.{renamed_sound}
use Rattle.rules.proofs.Walking.Answered.{comparison_is}
use Rattle.rules.proofs.Rust.Comparison.{compares_as_the_rust}
use Rattle.rules.proofs.Rust.Hash.{hashes_as_the_rust}
use Rattle.layout.specs.Reading.{store_in}
use Rattle.layout.specs.MarkedReading.{sound_lent}
use Rattle.equivalence.specs.MappingWords.{mapping_of}
use Rattle.equivalence.specs.Compares.{answer_of, compared_of}
use Rattle.equivalence.specs.declared.verdicts.Unequal.TheVariants as code
use Rattle.equivalence.specs.Calls as comparisons
use Rattle.laws.specs.Answers.{EqAnswer}
use Rattle.laws.specs.Demand2.{verdict_of, AnswersAgree, Demand2OfCode}
use Rattle.laws.proofs.Obeyed.{ruled, here, equal_only, hash_said}

-- an answer that names a pair names it in the Rust's words too
names_only : (q : EqAnswer) (p : Pair) (n : ℕ) → compared_of q ≡ neq p n → verdict_of q ≡ named p
unfolding answer_of compared_of verdict_of named named_by pair_of
names_only (Ok (Ok m)) p n e = cc
names_only (Ok (Err (code.FirstNEQOps l r m))) p n e = let k : pair_of op l r ≡ p = cc in ap named k
names_only (Ok (Err (code.FirstNEQRegions l r m))) p n e = let k : pair_of region l r ≡ p = cc in ap named k
names_only (Ok (Err (code.FirstNEQBlocks l r m))) p n e = let k : pair_of block l r ≡ p = cc in ap named k
names_only (Err cause) p n e = cc

eq_word : (q : EqAnswer) (n : ℕ) → compared_of q ≡ eq n → verdict_of q ≡ rust.Eq
unfolding verdict_of
eq_word q n e = ap verdict_of (equal_only q n e)

-- an answer of the rules that is the code's
same_words : (w : Walk) (m after : Mapping) (q : EqAnswer)
    → comparison_of w m ≡ record { answer = compared_of q; mapping = after } → answered w ≡ rust.answers (verdict_of q) after
unfolding comparison_of answered result_of standing
same_words (on st) m after q e =
    let k : verdict_of q ≡ rust.Eq = eq_word q st.paired (sym (ap (λ (c : Comparison). c.answer) e)) in
    ap₂ rust.answers (sym k) (ap (λ (c : Comparison). c.mapping) e)
same_words (ended (unequal p) st) m after q e =
    ap₂ rust.answers (sym (names_only q p st.paired (sym (ap (λ (c : Comparison). c.answer) e)))) (ap (λ (c : Comparison). c.mapping) e)
same_words (ended (one_longer p) st) m after q e =
    ap₂ rust.answers (sym (names_only q p st.paired (sym (ap (λ (c : Comparison). c.answer) e)))) (ap (λ (c : Comparison). c.mapping) e)

module _ (b : List ℕ) (sd : sound_lent b ≡ true) (types : List ℕ) (th : types_hold types ≡ true) (ig : Ignore) (f : Sort) where
  -- the store as it is read
  abbrev read : Store
  read = renamed types (store_in b)

  sound_read : sound read ≡ true
  unfolding RenamedSound
  sound_read = renamed_sound types (store_in b) (ruled b sd types th ig f)

  module _ (l r : ℕ) (il : In (store_in b) f l) (ir : In (store_in b) f r) (before after : List ℕ) (am : allowed (store_in b) (mapping_of before) ≡ true)
      (q : EqAnswer) (a : comparisons.ComparisonAnswers (sound_lent b) b types before after ig f l r (compared_of q)) where
    walked : comparison_of (compare read ig f l r (mapping_of before)) (mapping_of before) ≡ record { answer = compared_of q; mapping = mapping_of after }
    walked =
        sym (comparison_is (store_in b) (ruled b sd types th ig f) ig f types th (mapping_of before) am l r il ir)
        ∙ ap (λ (t : Bool). comparison t (store_in b) types (mapping_of before) ig f l r) (sym sd)
        ∙ a.told

    as_the_rust : met_one_longer (compare read ig f l r (mapping_of before)) ≡ false
        → rust.rust_eq read ig f l r (mapping_of before) ≡ rust.answers (verdict_of q) (mapping_of after)
    unfolding ComparesAsTheRust
    as_the_rust never =
        compares_as_the_rust read sound_read ig f l r (mapping_of before) never
        ∙ same_words (compare read ig f l r (mapping_of before)) (mapping_of before) (mapping_of after) q walked

  answers_agree : AnswersAgree b types ig f
  unfolding HashesAsTheRust
  answers_agree =
      record {
        compared = walked;
        compared_as_the_rust = as_the_rust;
        hashed = λ n i h a. hash_said b sd types th ig f n i h a;
        hashed_as_the_rust = λ n i h a. hash_said b sd types th ig f n i h a ∙ ap Ok (sym (hashes_as_the_rust read sound_read ig f n (here b sd types th ig f n i)));
      }

pub demand2_of_code : Demand2OfCode
unfolding Demand2OfCode
demand2_of_code buffer sd types th ig f = answers_agree buffer sd types th ig f
