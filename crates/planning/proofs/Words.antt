-- The words of a plan are read as the plan: what stands for another is kept, and so has no number, and what another is inside is merged,
-- and so has one. Assumes nothing.
use Prim.Native.Nat.{ℕ, zero, suc, ◌<◌, ◌≤◌}
use native.Mathlib.Omega.{arith}
use mathlib.Core.Bool.{true}
use mathlib.Core.List.{List, [], ◌∷◌, map}
use mathlib.Core.Path.{◌≡◌, refl, sym, ap, subst, ◌∙◌}
use borrow.Author.Tests.{eq-eqb, ne_eqb}
use lib.ListN.{length, get_or}
use Rattle.rules.specs.Store.{Store, sound, max_ops}
use Rattle.rules.specs.declared.types.Ignore.{Ignore}
use Rattle.rules.specs.Grouping.{no_twin}
use Rattle.rules.proofs.Soundness.Sound.{facts}
use Rattle.planning.specs.Plan.{Fate, kept, merged, inside, fate_in, merge_plan, fate_of, fate_word, word_fate, read_fate}
use Rattle.planning.specs.PlanLaws.{WordsRead}
use Rattle.planning.proofs.Told.{says}
use Rattle.planning.proofs.Laws.{merged_in}

get_map : {A : Type 0} (f : A → ℕ) (xs : List A) (i : ℕ) (d : A) → get_or (map f xs) i (f d) ≡ f (get_or xs i d)
get_map f [] i d = refl
get_map f (x ∷ xs) zero d = refl
get_map f (x ∷ xs) (suc i) d = get_map f xs i d

reads_kept : (words : List ℕ) (w : ℕ) → w ≡ no_twin → word_fate words w ≡ kept
unfolding word_fate
reads_kept words w e = rw (eq-eqb w no_twin e) refl

reads_merged : (words : List ℕ) (w : ℕ) → (w ≡ no_twin → ⊥) → get_or words w no_twin ≡ no_twin → word_fate words w ≡ merged w
unfolding word_fate
reads_merged words w ne e = rw (ne_eqb w no_twin ne, eq-eqb (get_or words w no_twin) no_twin e) refl

reads_inside : (words : List ℕ) (w : ℕ) → (w ≡ no_twin → ⊥) → (get_or words w no_twin ≡ no_twin → ⊥) → word_fate words w ≡ inside w
unfolding word_fate
reads_inside words w ne e = rw (ne_eqb w no_twin ne, ne_eqb (get_or words w no_twin) no_twin e) refl

module _ (s : Store) (h : sound s ≡ true) (ig : Ignore) where
  words : List ℕ
  words = map fate_word (merge_plan s ig)

  word_at : (n : ℕ) → get_or words n no_twin ≡ fate_word (fate_of s ig n)
  unfolding words fate_of fate_in fate_word
  word_at n = get_map fate_word (merge_plan s ig) n kept

  word_of : (n : ℕ) (f : Fate) → fate_of s ig n ≡ f → get_or words n no_twin ≡ fate_word f
  word_of n f e = word_at n ∙ ap fate_word e

  small : (n : ℕ) → n < length s.ops → n ≡ no_twin → ⊥
  small n l e = let t : length s.ops ≤ max_ops = (facts s h).totals.ops in omega arith

  reads : (n : ℕ) (f : Fate) → fate_of s ig n ≡ f → word_fate words (get_or words n no_twin) ≡ f
  unfolding fate_word
  reads n kept e = reads_kept words _ (word_of n kept e)
  reads n (merged m) e =
      let p = says s ig n (merged m) (λ c. let z : ⊥ = cc in z) e in
      let l : n < length s.ops = merged_in s h ig n (m, e) in
      let b : m < n = p.1 in
      subst (λ (w : ℕ). word_fate words w ≡ merged m) (sym (word_of n (merged m) e))
      (reads_merged words m (small m (omega arith)) (word_of m kept p.2))
  reads n (inside r) e =
      let p = says s ig n (inside r) (λ c. let z : ⊥ = cc in z) e in
      let l : r < length s.ops = merged_in s h ig r p.1 in
      let q = says s ig r (merged p.1.0) (λ c. let z : ⊥ = cc in z) p.1.1 in
      let b : p.1.0 < r = q.1 in
      subst (λ (w : ℕ). word_fate words w ≡ inside r) (sym (word_of n (inside r) e))
      (reads_inside words r (small r l) (λ z. small p.1.0 (omega arith) (sym (word_of r (merged p.1.0) p.1.1) ∙ z)))

pub words_read : WordsRead
unfolding WordsRead read_fate words
words_read s h ig n = reads s h ig n (fate_of s ig n) refl
