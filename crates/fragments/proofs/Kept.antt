-- A run of slots loses an ignored slot and keeps another as its head: so are its attributes, and so are its slots. Assumes nothing.
use Prim.Native.Nat.{ℕ, zero, suc, ◌+◌, ◌-◌, ◌<◌, ◌≤◌}
use native.Mathlib.Decide.{dec_lt}
use native.Mathlib.Omega.{arith}
use mathlib.Core.Bool.{Bool, true, false, cond, not}
use mathlib.Core.List.Memᴰ
use mathlib.Core.List.{List, [], ◌∷◌, Memᴰ, map}
use mathlib.Core.Logic.{⊎_elim}
use mathlib.Core.Path.{◌≡◌, refl, sym, ap, ap₂, subst, ◌∙◌}
use lib.ListN.{length}
use Rattle.std.specs.List.{range_with_len}
use Rattle.std.specs.List.{filter}
use Rattle.rules.specs.declared.types.Attribute.{Attribute}
use Rattle.rules.specs.Shells.{ignored, unignored}
use Rattle.rules.specs.declared.types.Ignore.{Ignore}
use Rattle.layout.specs.Columns.{Cols}
use Rattle.layout.specs.Reading.{tabulate, tabulate_from, attribute_at, attributes_from}
use Rattle.layout.proofs.Tabulate.{tabulate_add, tabulate_cong}
use Rattle.fragments.specs.Ignoring.{kept_from, kept_slots}

module _ (C : Cols) (ig : Ignore) where
  -- a run of slots begins with its first
  run : (a e : ℕ) → a < e → attributes_from C a (e - a) ≡ attribute_at C a ∷ attributes_from C (a + 1) (e - (a + 1))
  unfolding attributes_from tabulate tabulate_from
  run a e l =
      let k : e - a ≡ 1 + (e - (a + 1)) = omega arith in
      let z : a + 0 ≡ a = omega arith in
      ap (λ (n : ℕ). tabulate n (λ (i : ℕ). attribute_at C (a + i))) k
      ∙ tabulate_add 1 (e - (a + 1)) (λ (i : ℕ). attribute_at C (a + i))
      ∙ ap₂ (λ (x : Attribute) (xs : List Attribute). x ∷ xs) (ap (attribute_at C) z)
      (tabulate_cong (e - (a + 1)) _ _ (λ i h. let s : a + (1 + i) ≡ a + 1 + i = omega arith in ap (attribute_at C) s))

  -- past the end there is nothing
  pub kept_none : (a e : ℕ) → e ≤ a → kept_from C ig a e ≡ []
  unfolding kept_from unignored attributes_from tabulate tabulate_from
  kept_none a e l =
      let z : e - a ≡ 0 = omega arith in
      ap (λ (n : ℕ). unignored ig (tabulate n (λ (i : ℕ). attribute_at C (a + i)))) z

  pub kept_skip : (a e : ℕ) → a < e → ignored ig (attribute_at C a) ≡ true → kept_from C ig a e ≡ kept_from C ig (a + 1) e
  unfolding kept_from unignored
  kept_skip a e l h =
      ap (unignored ig) (run a e l)
      ∙ ap (λ (t : Bool). cond (not t) (attribute_at C a ∷ unignored ig (attributes_from C (a + 1) (e - (a + 1)))) (unignored ig (attributes_from C (a + 1) (e - (a + 1))))) h

  pub kept_head : (a e : ℕ) → a < e → ignored ig (attribute_at C a) ≡ false → kept_from C ig a e ≡ attribute_at C a ∷ kept_from C ig (a + 1) e
  unfolding kept_from unignored
  kept_head a e l h =
      ap (unignored ig) (run a e l)
      ∙ ap (λ (t : Bool). cond (not t) (attribute_at C a ∷ unignored ig (attributes_from C (a + 1) (e - (a + 1)))) (unignored ig (attributes_from C (a + 1) (e - (a + 1))))) h

  -- ---- the slots of what is left

  numbers_first : (a e : ℕ) → a < e → range_with_len a (e - a) ≡ a ∷ range_with_len (a + 1) (e - (a + 1))
  numbers_first a e l = let k : e - a ≡ suc (e - (a + 1)) = omega arith in ap (range_with_len a) k

  pub slots_none : (a e : ℕ) → e ≤ a → kept_slots C ig a e ≡ []
  unfolding kept_slots
  slots_none a e l =
      let z : e - a ≡ 0 = omega arith in ap (λ (n : ℕ). filter (λ (i : ℕ). not (ignored ig (attribute_at C i))) (range_with_len a n)) z

  slots_step : (a e : ℕ) → a < e → kept_slots C ig a e ≡ cond (not (ignored ig (attribute_at C a))) (a ∷ kept_slots C ig (a + 1) e) (kept_slots C ig (a + 1) e)
  unfolding kept_slots
  slots_step a e l = ap (filter (λ (i : ℕ). not (ignored ig (attribute_at C i)))) (numbers_first a e l)

  slots_skip : (a e : ℕ) → a < e → ignored ig (attribute_at C a) ≡ true → kept_slots C ig a e ≡ kept_slots C ig (a + 1) e
  slots_skip a e l h = slots_step a e l ∙ ap (λ (t : Bool). cond (not t) (a ∷ kept_slots C ig (a + 1) e) (kept_slots C ig (a + 1) e)) h

  slots_head : (a e : ℕ) → a < e → ignored ig (attribute_at C a) ≡ false → kept_slots C ig a e ≡ a ∷ kept_slots C ig (a + 1) e
  slots_head a e l h = slots_step a e l ∙ ap (λ (t : Bool). cond (not t) (a ∷ kept_slots C ig (a + 1) e) (kept_slots C ig (a + 1) e)) h

  slots_from : (n a e : ℕ) → a + n ≤ e → ((k : ℕ) → a ≤ k → k < a + n → ignored ig (attribute_at C k) ≡ true) → kept_slots C ig a e ≡ kept_slots C ig (a + n) e
  slots_from zero a e l h = let z : a ≡ a + 0 = omega arith in ap (λ (k : ℕ). kept_slots C ig k e) z
  slots_from (suc n) a e l h =
      let s : a + 1 + n ≡ a + suc n = omega arith in
      slots_skip a e (omega arith) (h a (omega arith) (omega arith))
      ∙ slots_from n (a + 1) e (omega arith) (λ k m o. h k (omega arith) (omega arith)) ∙ ap (λ (k : ℕ). kept_slots C ig k e) s

  -- those before slot i are ignored: it comes next, if it is not; and where all are, none does
  pub slots_next : (a i e : ℕ) → a ≤ i → i < e → ignored ig (attribute_at C i) ≡ false → ((k : ℕ) → a ≤ k → k < i → ignored ig (attribute_at C k) ≡ true)
      → kept_slots C ig a e ≡ i ∷ kept_slots C ig (i + 1) e
  slots_next a i e l m h before =
      let s : a + (i - a) ≡ i = omega arith in
      slots_from (i - a) a e (omega arith) (λ k n o. before k n (omega arith)) ∙ ap (λ (k : ℕ). kept_slots C ig k e) s ∙ slots_head i e m h

  pub slots_over : (a e : ℕ) → ((k : ℕ) → a ≤ k → k < e → ignored ig (attribute_at C k) ≡ true) → kept_slots C ig a e ≡ []
  slots_over a e h = go (dec_lt a e)
    where
      go : Dec (a < e) → kept_slots C ig a e ≡ []
      go (yes l) =
          let s : a + (e - a) ≡ e = omega arith in
          slots_from (e - a) a e (omega arith) (λ k n o. h k n (omega arith)) ∙ ap (λ (k : ℕ). kept_slots C ig k e) s ∙ slots_none e e (omega arith)
      go (no l) = slots_none a e (omega arith)

  -- the attributes at them
  of_slots : (n a e : ℕ) → n ≡ e - a → kept_from C ig a e ≡ map (attribute_at C) (kept_slots C ig a e)
  of_slots zero a e k = kept_none a e (omega arith) ∙ sym (ap (map (attribute_at C)) (slots_none a e (omega arith)))
  of_slots (suc n) a e k = go (ignored ig (attribute_at C a)) refl (of_slots n (a + 1) e (omega arith))
    where
      go : (b : Bool) → ignored ig (attribute_at C a) ≡ b → kept_from C ig (a + 1) e ≡ map (attribute_at C) (kept_slots C ig (a + 1) e)
          → kept_from C ig a e ≡ map (attribute_at C) (kept_slots C ig a e)
      go true h rest = kept_skip a e (omega arith) h ∙ rest ∙ sym (ap (map (attribute_at C)) (slots_skip a e (omega arith) h))
      go false h rest =
          kept_head a e (omega arith) h ∙ ap (λ (xs : List Attribute). attribute_at C a ∷ xs) rest
          ∙ sym (ap (map (attribute_at C)) (slots_head a e (omega arith) h))

  pub kept_by_slots : (a e : ℕ) → kept_from C ig a e ≡ map (attribute_at C) (kept_slots C ig a e)
  kept_by_slots a e = of_slots (e - a) a e refl

  -- they are slots of the run that are not ignored, and no more than there are
  abbrev pub InRun : ℕ → ℕ → ℕ → Type 0
  InRun a e i = (a ≤ i) × (i < e) × (ignored ig (attribute_at C i) ≡ false)

  slots_in : (n a e i : ℕ) → n ≡ e - a → Memᴰ i (kept_slots C ig a e) → InRun a e i
  slots_in zero a e i k m = absurd (Memᴰ.not-nil (subst (Memᴰ i) (slots_none a e (omega arith)) m))
  slots_in (suc n) a e i k m = go (ignored ig (attribute_at C a)) refl (λ r. let w = slots_in n (a + 1) e i (omega arith) r in (omega (arith, w.0), w.1, w.2))
    where
      go : (b : Bool) → ignored ig (attribute_at C a) ≡ b → (Memᴰ i (kept_slots C ig (a + 1) e) → InRun a e i) → InRun a e i
      go true h later = later (subst (Memᴰ i) (slots_skip a e (omega arith) h) m)
      go false h later =
          ⊎_elim (λ (s : i ≡ a). (omega (arith, s), omega (arith, s), ap (λ (j : ℕ). ignored ig (attribute_at C j)) s ∙ h)) later
          (Memᴰ.cases_cons (subst (Memᴰ i) (slots_head a e (omega arith) h) m))

  pub slot_in_run : (a e i : ℕ) → Memᴰ i (kept_slots C ig a e) → InRun a e i
  slot_in_run a e i m = slots_in (e - a) a e i refl m

  few_slots : (n a e : ℕ) → n ≡ e - a → length (kept_slots C ig a e) ≤ n
  few_slots zero a e k = omega (arith, ap (λ (xs : List ℕ). length xs) (slots_none a e (omega arith)))
  few_slots (suc n) a e k = go (ignored ig (attribute_at C a)) refl (few_slots n (a + 1) e (omega arith))
    where
      go : (b : Bool) → ignored ig (attribute_at C a) ≡ b → length (kept_slots C ig (a + 1) e) ≤ n → length (kept_slots C ig a e) ≤ suc n
      go true h l = omega (arith, ap (λ (xs : List ℕ). length xs) (slots_skip a e (omega arith) h))
      go false h l = omega (arith, ap (λ (xs : List ℕ). length xs) (slots_head a e (omega arith) h))

  pub slots_few : (a e : ℕ) → length (kept_slots C ig a e) ≤ e - a
  slots_few a e = few_slots (e - a) a e refl
