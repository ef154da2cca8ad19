-- The copier's mapping gives each number its copy: the next numbers of what is copied are no entry's "none", and any other number is its own image.
-- Assumes nothing.
use Rattle.std.proofs.Common.{◌≡◌, ℕ, zero, suc, ◌+◌, ◌<◌, ◌≤◌, ◌≢◌, true, List, [], ◌∷◌, map, length, get_or, set, replicate, refl, sym, ap, subst, ◌∙◌, arith, length-set, get_or-set_same, get_or-set_other}
use Rattle.std.proofs.lemmas.List.{length-replicate}
use mathlib.Core.List.Memᴰ
use mathlib.Core.List.{Memᴰ}
use mathlib.Core.Logic.{◌⊎◌, inl, inr, ⊎_elim}
use Rattle.std.specs.Prelude.{Option}
use borrow.Author.Tests.{ne_eqb}
use Rattle.rules.specs.Store.{Store, op_exists, totals_hold, max_ops, max_blocks, max_values}
use Rattle.rules.specs.Fragments.{defines_blocks, defines_values, fragment_ops}
use Rattle.rules.specs.declared.types.Sort.TheVariants.{Op as op}
use Rattle.rules.specs.Mapping.{no_image, empty_mapping, image, or_self, enter_all}
use Rattle.rules.specs.Copying.{renumbered, op_copy, block_copy, value_copy, copy_mapping, copied}
use Rattle.rules.proofs.Basics.Distinct.{Distinct}
use Rattle.rules.proofs.Soundness.Sound.{Sound, totals_facts}
use Rattle.rules.proofs.Copying.Renumbered.{number_cases, number_below_lem}
use Rattle.rules.proofs.Copying.Inside.{ops_distinct, blocks_distinct, values_distinct, op_below, block_below, value_owner_lem}
use Rattle.rules.proofs.Copying.Tables.{ops_length, blocks_length, values_length}
use Rattle.copying.proofs.Built.{Images}

-- ---- entries

enter_else : (ls rs es : List ℕ) (v d : ℕ) → (Memᴰ v ls → ⊥) → get_or (enter_all ls rs es) v d ≡ get_or es v d
unfolding enter_all
enter_else [] rs es v d out = refl
enter_else (l ∷ ls) [] es v d out = refl
enter_else (l ∷ ls) (r ∷ rs) es v d out =
    let ne : v ≢ l = λ e. out (Memᴰ.head e) in
    enter_else ls rs (set es l r) v d (λ k. out (Memᴰ.tail k)) ∙ get_or-set_other es l v r d ne

enter_there : (g : ℕ → ℕ) (ls es : List ℕ) (v d : ℕ) → Distinct ls → ((l : ℕ) → Memᴰ l ls → l < length es) → Memᴰ v ls
    → get_or (enter_all ls (map g ls) es) v d ≡ g v
unfolding enter_all
enter_there g [] es v d once fit k = absurd (Memᴰ.not-nil k)
enter_there g (l ∷ ls) es v d once fit k = go (Memᴰ.cases_cons k) (λ i. enter_there g ls (set es l (g l)) v d once.1 rest i)
  where
    rest : (x : ℕ) → Memᴰ x ls → x < length (set es l (g l))
    rest x i = let b : x < length es = fit x (Memᴰ.tail i) in let e : length (set es l (g l)) ≡ length es = length-set es l (g l) in omega arith

    go : (v ≡ l) ⊎ Memᴰ v ls → (Memᴰ v ls → get_or (enter_all ls (map g ls) (set es l (g l))) v d ≡ g v)
        → get_or (enter_all ls (map g ls) (set es l (g l))) v d ≡ g v
    go (inl e) further =
        enter_else ls (map g ls) (set es l (g l)) v d (λ i. once.0 (subst (λ (x : ℕ). Memᴰ x ls) e i))
        ∙ ap (λ (x : ℕ). get_or (set es l (g l)) x d) e
        ∙ get_or-set_same es l (g l) d (fit l (Memᴰ.head refl))
        ∙ ap g (sym e)
    go (inr i) further = further i

none_there : (size v : ℕ) → get_or (replicate size no_image) v no_image ≡ no_image
none_there zero v = refl
none_there (suc size) zero = refl
none_there (suc size) (suc v) = none_there size v

other_of : (e v : ℕ) → e < no_image → or_self e v ≡ e
unfolding or_self
other_of e v l = let ne : e ≢ no_image = omega arith in rw (ne_eqb e no_image ne)

-- ---- the images of numbers that are given the next ones

module _ (C : List ℕ) (next size : ℕ) (once : Distinct C) (fit : (c : ℕ) → Memᴰ c C → c < size) (few : next + length C ≤ no_image) where
  pub image_there : (v : ℕ) → image (enter_all C (map (renumbered C next) C) (replicate size no_image)) v ≡ renumbered C next v
  unfolding image or_self
  image_there v = ⊎_elim inside (λ h. outside h.0 h.1) (number_cases C next v)
    where
      entries : List ℕ
      entries = enter_all C (map (renumbered C next) C) (replicate size no_image)

      self : (e : ℕ) → e ≡ no_image → or_self e v ≡ v
      self e q = ap (λ (x : ℕ). or_self x v) q

      other : (e : ℕ) → e < no_image → or_self e v ≡ e
      other e l = other_of e v l

      inside : Memᴰ v C → or_self (get_or entries v no_image) v ≡ renumbered C next v
      inside k =
          let e : get_or entries v no_image ≡ renumbered C next v =
          enter_there (renumbered C next) C (replicate size no_image) v no_image once (λ l i. let b : l < size =
          fit l i in let z : length (replicate size no_image) ≡ size = length-replicate size no_image in omega arith) k in
          let l : renumbered C next v < no_image = omega (arith, number_below_lem C next k) in
          ap (λ (x : ℕ). or_self x v) e ∙ other (renumbered C next v) l

      outside : (Memᴰ v C → ⊥) → renumbered C next v ≡ v → or_self (get_or entries v no_image) v ≡ renumbered C next v
      outside out e =
          self (get_or entries v no_image) (enter_else C (map (renumbered C next) C) (replicate size no_image) v no_image out ∙ none_there size v) ∙ sym e

-- ---- the copier's mapping

module _ (s : Store) (sd : Sound s) (n : ℕ) (ex : op_exists s n ≡ true) (place : Option ℕ) (totals : totals_hold (copied s n place) ≡ true) where
  pub copies_imaged : Images s n (copy_mapping s n)
  unfolding copy_mapping empty_mapping value_copy block_copy op_copy
  copies_imaged =
      let t = totals_facts (copied s n place) totals in
      record {
        values = λ v l. image_there (defines_values s op n) (length s.values) max_values (values_distinct s sd n ex)
            (λ c k. let b = (value_owner_lem s sd n ex k).0 in let m = sd.totals.values in omega arith)
            (let e = values_length s n place in let m = t.values in omega arith) v;
        blocks = λ b l. image_there (defines_blocks s op n) (length s.blocks) max_blocks (blocks_distinct s sd n ex)
            (λ c k. let b = block_below s sd n ex k in let m = sd.totals.blocks in omega arith)
            (let e = blocks_length s n place in let m = t.blocks in omega arith) b;
        ops = λ m l. image_there (fragment_ops s op n) (length s.ops) max_ops (ops_distinct s sd n ex)
            (λ c k. let b = op_below s sd n ex k in let m = sd.totals.ops in omega arith)
            (let e = ops_length s n place in let m = t.ops in omega arith) m;
      }
