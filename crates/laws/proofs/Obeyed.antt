-- Demand 3 over the code. By the contracts of the building calls the buffer after a list of them reads as the rules' store after that
-- list, and is sound; by theirs, what a comparison and a hash answer on it is the rules' answer; and of those demand 3 is proved.
-- Assumes nothing.
use Prim.Native.Nat.{ℕ}
use mathlib.Core.Bool.{Bool, true}
use mathlib.Core.List.{List}
use mathlib.Core.Path.{◌≡◌, sym, ap, subst, ◌∙◌}
use Rattle.std.specs.Prelude.{Ok, Err}
use Rattle.rules.specs.Store.{Store, sound}
use Rattle.rules.specs.Fragments.{Premise}
use Rattle.rules.specs.declared.types.Sort.{Sort}
use Rattle.rules.specs.declared.types.Ignore.{Ignore}
use Rattle.rules.specs.Mapping.{Mapping, empty_mapping}
use Rattle.rules.specs.Types.{types_hold, renamed}
use Rattle.rules.specs.Answers.{Comparison, eq, comparison, hash_is, hashed}
use Rattle.rules.specs.Hash.{hash}
use Rattle.rules.specs.Laws.{Equal, In, Laws, LawsOfSound}
use Rattle.rules.proofs.Walking.Answered.{equal_answered, hashed_is}
use Rattle.rules.specs.TypeLaws.{RenamedSound, RenamedIn, RenamedPremise}
use Rattle.rules.proofs.RenamedTypes.Under.{renamed_sound, renamed_in, renamed_premise}
use Rattle.rules.proofs.Laws.{laws_of_sound}
use Rattle.layout.specs.Reading.{store_in}
use Rattle.layout.specs.MarkedReading.{sound_lent}
use Rattle.undo_log.proofs.Lent.{lent_facts}
use Rattle.api.specs.Calls.{AfterCalls}
use Rattle.api.proofs.Answering.{after_calls}
use Rattle.equivalence.specs.MappingWords.{mapping_of, empty_words}
use Rattle.equivalence.specs.Calls as comparisons
use Rattle.equivalence.specs.Compares.{answer_of, compared_of}
use Rattle.equivalence.proofs.Unmapped.{empty_words_lem}
use Rattle.equivalence.specs.declared.verdicts.Unequal.TheVariants.{FirstNEQOps, FirstNEQRegions, FirstNEQBlocks}
use Rattle.hashing.specs.Calls as hashes
use Rattle.laws.specs.Answers.{EqAnswer, HashAnswer, Compares, Hashes, SaysEqual, AnswersObey, Demand3OfCode}

-- ---- single answers

pub equal_only : (q : EqAnswer) (n : ℕ) → compared_of q ≡ eq n → q ≡ Ok (Ok n)
unfolding answer_of compared_of
equal_only (Ok (Ok m)) n e = let k : m ≡ n = cc in ap (λ (x : ℕ). Ok (Ok x)) k
equal_only (Ok (Err (FirstNEQOps l r m))) n e = cc
equal_only (Ok (Err (FirstNEQRegions l r m))) n e = cc
equal_only (Ok (Err (FirstNEQBlocks l r m))) n e = cc
equal_only (Err cause) n e = cc

pub hash_only : (h : HashAnswer) (w : ℕ) → hashes.hashed_of h ≡ hash_is w → h ≡ Ok w
unfolding hashes.hashed_of
hash_only (Ok v) w e = let k : v ≡ w = cc in ap Ok k
hash_only (Err cause) w e = cc

module _ (b : List ℕ) (sd : sound_lent b ≡ true) (types : List ℕ) (th : types_hold types ≡ true) (ig : Ignore) (f : Sort) where
  pub ruled : sound (store_in b) ≡ true
  ruled = (lent_facts b sd).tables.ruled

  -- the store as it is read
  abbrev read : Store
  read = renamed types (store_in b)

  pub here : (x : ℕ) → In (store_in b) f x → In read f x
  unfolding RenamedIn
  here x ix = (renamed_in types (store_in b) f x).1 ix

  pub apart : (x y : ℕ) → Premise (store_in b) f x y → Premise read f x y
  unfolding RenamedPremise
  apart x y p = (renamed_premise types (store_in b) f x y).1 p

  pub laws : Laws read ig f
  unfolding LawsOfSound RenamedSound
  laws = laws_of_sound read (renamed_sound types (store_in b) ruled) ig f

  module _ (x y : ℕ) (ix : In (store_in b) f x) (iy : In (store_in b) f y) where
    -- the rules' comparison has this answer, and leaves what the words are read as
    pub told : (q : EqAnswer) (words : List ℕ) → comparisons.ComparisonAnswers (sound_lent b) b types empty_words words ig f x y (compared_of q)
        → comparison true (store_in b) types empty_mapping ig f x y ≡ record { answer = compared_of q; mapping = mapping_of words }
    told q words h =
        subst (λ (m : Mapping). comparison true (store_in b) types m ig f x y ≡ record { answer = compared_of q; mapping = mapping_of words }) empty_words_lem
        (subst (λ (t : Bool). comparison t (store_in b) types (mapping_of empty_words) ig f x y ≡ record { answer = compared_of q; mapping = mapping_of words }) sd h.told)

    answered : (q : EqAnswer) → Compares b types ig f x y q → (comparison true (store_in b) types empty_mapping ig f x y).answer ≡ compared_of q
    unfolding Compares
    answered q (words, h) = ap (λ (c : Comparison). c.answer) (told q words h)

    pub says : (q : EqAnswer) → Compares b types ig f x y q → Equal read ig f x y → SaysEqual q
    says q c e =
        let w = (equal_answered (store_in b) ruled types th ig f x y ix iy).0 e in
        (w.0, equal_only q w.0 (sym (answered q c) ∙ w.1))

    pub said : (q : EqAnswer) → Compares b types ig f x y q → SaysEqual q → Equal read ig f x y
    unfolding answer_of compared_of
    said q c (n, e) = (equal_answered (store_in b) ruled types th ig f x y ix iy).1 (n, answered q c ∙ ap compared_of e)

  pub hash_said : (x : ℕ) → In (store_in b) f x → (h : HashAnswer) → Hashes b types ig f x h → h ≡ Ok (hash read ig f x)
  unfolding Hashes
  hash_said x ix h a =
      hash_only h (hash read ig f x)
      (sym (subst (λ (t : Bool). hashed t (store_in b) types ig f x ≡ hashes.hashed_of h) sd a.told) ∙ hashed_is (store_in b) ruled ig f types th x ix)

  answers_obey : AnswersObey b types ig f
  answers_obey =
      record {
        reflexive = λ a ia q c. says a a ia ia q c (laws.reflexive a (here a ia));
        symmetric = λ a d ia id m q p c k e. says d a id ia p k (laws.symmetric a d (here a ia) (here d id) (apart a d m) (said a d ia id q c e));
        transitive = λ a d g ia id ig' m n q p r c k o e u. says a g ia ig' r o (laws.transitive a d g (here a ia) (here d id) (here g ig') (apart a d m) (apart d g n) (said a d ia id q c e) (said d g id ig' p k u));
        hashes = λ a d ia id m q c e h k x y.
            (hash read ig f a, hash_said a ia h x, hash_said d id k y ∙ ap Ok (sym (laws.hashes a d (here a ia) (here d id) (apart a d m) (said a d ia id q c e))));
      }

pub demand3_of_code : Demand3OfCode
unfolding Demand3OfCode AfterCalls
demand3_of_code entry e calls buffer made types th ig f = answers_obey buffer (after_calls entry e calls buffer made).1 types th ig f
