-- What a comparison that was lent an empty mapping has entered can be taken out again: by its contract mapping and count are the rules'. And
-- whether it answers that the two are equal is whether they are. Assumes nothing.
use Prim.Native.Nat.{ℕ}
use Rattle.std.specs.Prelude.{Result, Ok, Err, is_ok}
use mathlib.Core.Bool.{Bool, true, false}
use mathlib.Core.List.{List}
use mathlib.Core.Path.{◌≡◌, refl, sym, ap, subst, ◌∙◌}
use Rattle.rules.specs.Store.{Store}
use Rattle.rules.specs.Fragments.{exists}
use Rattle.rules.specs.declared.types.Sort.{Sort}
use Rattle.rules.specs.declared.types.Ignore.{Ignore}
use Rattle.rules.specs.Mapping.{Mapping, empty_mapping}
use Rattle.rules.specs.Comparison.{State, unequal, one_longer, Walk, on, ended, standing, start, compare_by, compare}
use Rattle.rules.specs.Answers.{Compared, Comparison, comparison_of, comparison}
use Rattle.rules.specs.Entered.{EnteredBy, paired_in}
use Rattle.rules.specs.Laws.{succeeds, equal}
use Rattle.rules.proofs.RenamedTypes.Renamed.{exists_renamed, entered_renamed, renamed_sound}
use Rattle.rules.proofs.Walking.Entered.{comparison_entered, entered_by}
use Rattle.layout.specs.Reading.{store_in}
use Rattle.layout.specs.Soundness.{IsSound}
use Rattle.fragments.specs.Options.{Options, renamed_under}
use Rattle.equivalence.specs.MappingWords.{mapping_of, empty_words}
use Rattle.equivalence.proofs.Unmapped.{empty_words_lem}
use Rattle.equivalence.specs.Compares.{answer_of, state_of, outcome}
use Rattle.equivalence.specs.Compares.{Compares}
use Rattle.equivalence.specs.declared.verdicts.Unequal.{Unequal}
use Rattle.equivalence.specs.Walked.{fragments_walk}
use Rattle.equivalence.specs.Calls.{ComparisonAnswers}
use Rattle.equivalence.proofs.Telling.{told_on, not_equal}

pub answered_entered : (ok : Bool) (store types before after : List ℕ) (ig : Ignore) (f : Sort) (l r : ℕ) (q : Compared) → IsSound store → before ≡ empty_words
    → ComparisonAnswers ok store types before after ig f l r q → EnteredBy (store_in store) (mapping_of after) (paired_in q)
answered_entered ok store types before after ig f l r q sd empty a =
    subst (λ (c : Comparison). EnteredBy (store_in store) c.mapping (paired_in c.answer))
    (subst (λ (m : Mapping). comparison ok (store_in store) types m ig f l r ≡ record { answer = q; mapping = mapping_of after }) empty_words_lem
    (subst
    (λ (b : List ℕ). comparison ok (store_in store) types (mapping_of b) ig f l r ≡ record { answer = q; mapping = mapping_of after })
    empty a.told))
    (comparison_entered (store_in store) sd.ruled ok types ig f l r)

-- ---- a walk that was told

still_on : (st : State) (u : Unequal) (b : List ℕ) → Compares (on st) (Err u) b → ⊥
unfolding Compares outcome comparison_of standing
still_on st u b k = not_equal u st.paired (ap (λ (x : Comparison). x.answer) k)

-- whether its answer is equal is whether it goes on
pub told_succeeds : (w : Walk) (q : Result ℕ Unequal) (b : List ℕ) → Compares w q b → is_ok q ≡ succeeds w
unfolding succeeds
told_succeeds w (Ok n) b h = sym (ap succeeds (told_on w n b h))
told_succeeds w (Err u) b h = fails w h
  where
    fails : (v : Walk) → Compares v (Err u) b → false ≡ succeeds v
    fails (on st) k = absurd (still_on st u b k)
    fails (ended why st) k = refl

-- words and count are where it has come to
pub told_entered : (s : Store) (w : Walk) (q : Result ℕ Unequal) (b : List ℕ)
    → EnteredBy s (standing w).mapping (standing w).paired → Compares w q b → EnteredBy s (mapping_of b) (paired_in (answer_of q))
unfolding Compares outcome comparison_of standing paired_in
told_entered s w q b h t = subst (λ (c : Comparison). EnteredBy s c.mapping (paired_in c.answer)) t (by w h)
  where
    by : (w : Walk) → EnteredBy s (standing w).mapping (standing w).paired
        → EnteredBy s (comparison_of w (standing w).mapping).mapping (paired_in (comparison_of w (standing w).mapping).answer)
    by (on st) e = e
    by (ended (unequal p) st) e = e
    by (ended (one_longer p) st) e = e

-- ---- two fragments of a sound store

module _ {store : List ℕ} (o : Options) (sd : IsSound store) (f : Sort) (l r : ℕ) {m : List ℕ} (e : m ≡ empty_words) (q : Result ℕ Unequal) (b : List ℕ)
    (told : Compares (fragments_walk (store_in store) o f l r (state_of m 0)) q b) where
  abbrev s : Store
  s = renamed_under o (store_in store)

  told_compared : Compares (compare s o.ignore f l r empty_mapping) q b
  unfolding compare start state_of
  told_compared =
      subst (λ (x : Mapping). Compares (compare_by s o.ignore f l r (record { mapping = x; paired = 0 })) q b) empty_words_lem
      (subst (λ (x : List ℕ). Compares (compare_by s o.ignore f l r (record { mapping = mapping_of x; paired = 0 })) q b) e told)

  pub equal_told : is_ok q ≡ equal s o.ignore f l r
  unfolding equal
  equal_told = told_succeeds (compare s o.ignore f l r empty_mapping) q b told_compared

  pub compared_entered : exists (store_in store) f l ≡ true → exists (store_in store) f r ≡ true → EnteredBy (store_in store) (mapping_of b) (paired_in (answer_of q))
  compared_entered el er =
      entered_renamed o.types (store_in store)
      (told_entered s (compare s o.ignore f l r empty_mapping) q b
      (entered_by s (renamed_sound o.types (store_in store) sd.ruled) o.ignore f l r
      (exists_renamed o.types (store_in store) f l ∙ el) (exists_renamed o.types (store_in store) f r ∙ er))
      told_compared)
