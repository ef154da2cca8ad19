-- Words that are blanked where they may have an image are the empty mapping: every other word had none. Assumes nothing.
use Rattle.std.proofs.Common.{◌≡◌, ℕ, ◌+◌, ◌-◌, ◌<◌, ◌≤◌, ◌⊎◌, List, length, get_or, replicate, sym, refl, ap, ◌∙◌, inl, inr, ⊎_elim, arith, ext_get_or, le-ltb, lt-ltb}
use Rattle.std.proofs.lemmas.List.{get_or_default}
use native.Mathlib.Decide.{dec_lt}
use lib.ListN.{length-replicate, get_or-replicate, get_or-eq_default}
use Rattle.rules.specs.Mapping.{no_image}
use Rattle.layout.specs.Columns.{pasted}
use Rattle.layout.proofs.Pasted.{pasted_length, pasted_old, pasted_new, pasted_past}
use Rattle.equivalence.specs.MappingWords.{mapping_length, empty_words}
use Rattle.equivalence.specs.Unmapping.{Held, EntriesIn, blanked}
use Rattle.equivalence.specs.declared.entries.Entries.{Entries}

module _ (w : List ℕ) (a e : ℕ) where
  pub blank_over : a < e → blanked w a e ≡ pasted w a (replicate (e - a) no_image)
  unfolding blanked
  blank_over l = rw (lt-ltb a e l) refl

  pub blank_not : e ≤ a → blanked w a e ≡ w
  unfolding blanked
  blank_not l = rw (le-ltb a e l) refl

  module _ (fits : e ≤ length w) where
    pub blank_length : length (blanked w a e) ≡ length w
    blank_length = go (dec_lt a e)
      where
        go : Dec (a < e) → length (blanked w a e) ≡ length w
        go (yes l) = ap length (blank_over l) ∙ pasted_length w a (replicate (e - a) no_image) (omega (arith, length-replicate (e - a) no_image))
        go (no l) = ap length (blank_not (omega arith))

    -- a word that had no image, or is written over
    pub blank_none : (k : ℕ) → (get_or w k no_image ≡ no_image) ⊎ ((a ≤ k) × (k < e)) → get_or (blanked w a e) k no_image ≡ no_image
    blank_none k h = go (dec_lt k (length w)) (dec_lt a e)
      where
        written : a < e → k < length w → get_or (pasted w a (replicate (e - a) no_image)) k 0 ≡ no_image
        written l b = at_word (dec_lt k a) (dec_lt k e)
          where
            long : length (replicate (e - a) no_image) ≡ e - a
            long = length-replicate (e - a) no_image

            old : k < a ⊎ (e ≤ k) → get_or w k 0 ≡ no_image
            old out = ⊎_elim (λ n. get_or_default w k 0 no_image b ∙ n) (λ r. ⊎_elim (λ x. absurd (omega arith)) (λ x. absurd (omega arith)) out) h

            at_word : Dec (k < a) → Dec (k < e) → get_or (pasted w a (replicate (e - a) no_image)) k 0 ≡ no_image
            at_word (yes u) d = pasted_old w a (replicate (e - a) no_image) (omega (arith, long)) k u ∙ old (inl u)
            at_word (no u) (yes v) =
                let x : a + (k - a) ≡ k = omega arith in
                ap (λ (j : ℕ). get_or (pasted w a (replicate (e - a) no_image)) j 0) (sym x)
                ∙ pasted_new w a (replicate (e - a) no_image) (omega (arith, long)) (k - a) (omega (arith, long))
                ∙ get_or-replicate (e - a) (k - a) no_image 0 (omega arith)
            at_word (no u) (no v) = pasted_past w a (replicate (e - a) no_image) (omega (arith, long)) k (omega (arith, long)) ∙ old (inr (omega arith))

        go : Dec (k < length w) → Dec (a < e) → get_or (blanked w a e) k no_image ≡ no_image
        go (no b) d = get_or-eq_default (blanked w a e) no_image (omega (arith, blank_length))
        go (yes b) (yes l) =
            get_or_default (blanked w a e) k no_image 0 (omega (arith, blank_length)) ∙ ap (λ (x : List ℕ). get_or x k 0) (blank_over l) ∙ written l b
        go (yes b) (no l) =
            ap (λ (x : List ℕ). get_or x k no_image) (blank_not (omega arith))
            ∙ ⊎_elim (λ n. n) (λ r. absurd (omega (arith, r.0, r.1))) h

all_none : (w : List ℕ) → length w ≡ mapping_length → ((k : ℕ) → get_or w k no_image ≡ no_image) → w ≡ empty_words
unfolding empty_words
all_none w long h =
    ext_get_or no_image w (replicate mapping_length no_image) (long ∙ sym (length-replicate mapping_length no_image))
    (λ i b. h i ∙ sym (get_or-replicate mapping_length i no_image no_image (omega (arith, long))))

-- both ranges
pub blank_both : (w : List ℕ) (r : Entries) → length w ≡ mapping_length → EntriesIn w r
    → blanked (blanked w r.value r.end) r.owner r.past ≡ empty_words
unfolding Held
blank_both w r long h =
    let once = blanked w r.value r.end in
    let fit : r.end ≤ length w = omega (arith, h.values_fit) in
    let same = blank_length w r.value r.end fit in
    let fit2 : r.past ≤ length once = omega (arith, h.owners_fit, same) in
    all_none (blanked once r.owner r.past) (blank_length once r.owner r.past fit2 ∙ same ∙ long)
    (λ k. blank_none once r.owner r.past fit2 k
    (⊎_elim
    (λ n. inl (blank_none w r.value r.end fit k (inl n)))
    (λ x. ⊎_elim (λ v. inl (blank_none w r.value r.end fit k (inr v))) (λ o. inr o) x)
    (h.held k)))
