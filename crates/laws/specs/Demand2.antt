-- Demand 2 of what the offered calls answer: "Verdict, named pair, mapping, `paired`, hash ... equal the rules everywhere, and the Rust's
-- wherever no list of blocks or operations is, where the walk tests lengths, exactly one longer on the left".
-- An answer is any that meets the offered call's contract, on any sound buffer, with any allowed mapping and under any list of renamed
-- types that is not refused. "The oracle is given a store with types already replaced." (What building calls leave is
-- `AfterCalls`, in the crate api.)
use Rattle.std.specs.Prelude.{ℕ, true, false, List, ◌≡◌, Ok, Err}
use Rattle.rules.specs.declared.types.Sort.{Sort}
use Rattle.rules.specs.declared.types.Ignore.{Ignore}
use Rattle.rules.specs.Mapping.{allowed}
use Rattle.rules.specs.Types.{types_hold, renamed}
use Rattle.rules.specs.Comparison.{compare}
use Rattle.rules.specs.Hash.{hash}
use Rattle.rules.specs.Answers.{comparison_of}
use Rattle.rules.specs.Rust as rust
use Rattle.rules.specs.Agreement.{met_one_longer}
use Rattle.rules.specs.Laws.{In}
use Rattle.layout.specs.Reading.{store_in}
use Rattle.layout.specs.MarkedReading.{sound_lent}
use Rattle.equivalence.specs.MappingWords.{mapping_of}
use Rattle.equivalence.specs.Compares.{compared_of}
use Rattle.equivalence.specs.declared.verdicts.Unequal.TheVariants as code
use Rattle.equivalence.specs.Calls as comparisons
use Rattle.laws.specs.Answers.{EqAnswer, HashAnswer, Hashes}

-- the code's answer in the Rust's words, which lack `paired`; the Rust refuses nothing
unfoldable pub verdict_of : EqAnswer → rust.EqResult
verdict_of (Ok (Ok n)) = rust.Eq
verdict_of (Ok (Err (code.FirstNEQOps l r n))) = rust.FirstNEQOps l r
verdict_of (Ok (Err (code.FirstNEQRegions l r n))) = rust.FirstNEQRegions l r
verdict_of (Ok (Err (code.FirstNEQBlocks l r n))) = rust.FirstNEQBlocks l r
verdict_of (Err cause) = rust.no_answer

pub record AnswersAgree (buffer types : List ℕ) (ig : Ignore) (f : Sort) : Type 0 where
  -- a comparison of fragments that exist, from an allowed mapping: the rules' walk, with its mapping and `paired`
  pub compared :
      (l r : ℕ) → In (store_in buffer) f l → In (store_in buffer) f r → (before after : List ℕ) → allowed (store_in buffer) (mapping_of before) ≡ true
      → (q : EqAnswer) → comparisons.ComparisonAnswers (sound_lent buffer) buffer types before after ig f l r (compared_of q)
      → comparison_of (compare (renamed types (store_in buffer)) ig f l r (mapping_of before)) (mapping_of before) ≡ record { answer = compared_of q; mapping = mapping_of after }
  -- and the Rust's, where no list is met that is one longer on the left
  pub compared_as_the_rust :
      (l r : ℕ) → In (store_in buffer) f l → In (store_in buffer) f r → (before after : List ℕ) → allowed (store_in buffer) (mapping_of before) ≡ true
      → (q : EqAnswer) → comparisons.ComparisonAnswers (sound_lent buffer) buffer types before after ig f l r (compared_of q)
      → met_one_longer (compare (renamed types (store_in buffer)) ig f l r (mapping_of before)) ≡ false
      → rust.rust_eq (renamed types (store_in buffer)) ig f l r (mapping_of before) ≡ rust.answers (verdict_of q) (mapping_of after)
  -- a hash of a fragment that exists: the rules', and the Rust's
  pub hashed : (n : ℕ) → In (store_in buffer) f n → (h : HashAnswer) → Hashes buffer types ig f n h → h ≡ Ok (hash (renamed types (store_in buffer)) ig f n)
  pub hashed_as_the_rust : (n : ℕ) → In (store_in buffer) f n → (h : HashAnswer) → Hashes buffer types ig f n h → h ≡ Ok (rust.rust_hash (renamed types (store_in buffer)) ig f n)

unfoldable pub Demand2OfCode : Type 0
Demand2OfCode =
    (buffer : List ℕ) → sound_lent buffer ≡ true → (types : List ℕ) → types_hold types ≡ true
    → (ig : Ignore) (f : Sort) → AnswersAgree buffer types ig f
