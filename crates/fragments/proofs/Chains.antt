-- A lookup goes through the rows of one bucket, from the last to the first: whatever it has passed is no row of the type. Assumes nothing.
use Prim.Native.Nat.{ℕ, ◌+◌, ◌-◌, ◌*◌, ◌<◌, ◌≤◌}
use native.Mathlib.Decide.{ℕ_discrete, dec_lt}
use native.Mathlib.Omega.{arith}
use mathlib.Core.Bool.{true, false, true≢false}
use mathlib.Core.List.{List}
use mathlib.Core.Logic.{◌≢◌}
use mathlib.Core.Path.{◌≡◌, sym, ap, subst, ◌∙◌}
use lib.ListN.{get_or}
use Rattle.std.specs.Option.{is_some}
use Rattle.std.specs.Prelude.{Option, Some, None}
use Rattle.fragments.specs.Index.{bucket_of, old_at, link_at, Link, Entered, FoundAt, Found}

pub bucket_low : (t : ℕ) → bucket_of t < 64
unfolding bucket_of
bucket_low t = omega arith

-- a lookup of t has come to row i, counted from 1
pub record Looking (w : List ℕ) (n t i : ℕ) : Type 0 where
  pub low : i ≤ n
  pub passed : (j : ℕ) → i ≤ j → j < n → old_at w j ≢ t
  pub bucket : 0 < i → bucket_of (old_at w (i - 1)) ≡ bucket_of t

module _ {w : List ℕ} {n : ℕ} (e : Entered w n) (t : ℕ) where
  pub look_on : {i : ℕ} → Looking w n t i → 0 < i → old_at w (i - 1) ≢ t → Looking w n t (link_at w (i - 1))
  look_on {i} g pos ne =
      record {
        low = omega (arith, g.low, l.low);
        passed = λ j from below. by j from below (dec_lt j (i - 1)) (ℕ_discrete j (i - 1));
        bucket = λ p. l.last p ∙ g.bucket pos;
      }
    where
      l : Link w (bucket_of (old_at w (i - 1))) (i - 1) (link_at w (i - 1))
      l = e.links (i - 1) (omega (arith, g.low))

      by : (j : ℕ) → link_at w (i - 1) ≤ j → j < n → Dec (j < i - 1) → Dec (j ≡ i - 1) → old_at w j ≢ t
      by j from below (yes before) d q = l.none j from before (ap bucket_of q ∙ sym (g.bucket pos))
      by j from below (no ge) (yes here) q = ne (subst (λ (k : ℕ). old_at w k ≡ t) here q)
      by j from below (no ge) (no ne') q = g.passed j (omega arith) below q

pub link_place : (i : ℕ) → 64 + 3 * i + 2 ≡ 66 + 3 * i
link_place i = omega arith

-- at row i, as the code has it
module _ {w : List ℕ} {n t i : ℕ} (e : Entered w n) (g : Looking w n t i) (pos : 0 < i) where
  pub row_found : old_at w (i - 1) ≡ t → FoundAt w n t (i - 1)
  row_found q = record { low = omega (arith, g.low); there = q }

  pub row_passed : old_at w (i - 1) ≢ t → Looking w n t (get_or w (64 + 3 * (i - 1) + 2) 0)
  row_passed ne = subst (λ (k : ℕ). Looking w n t (get_or w k 0)) (sym (link_place (i - 1))) (look_on e t g pos ne)

  pub link_less : get_or w (64 + 3 * (i - 1) + 2) 0 < i
  link_less =
      let l : link_at w (i - 1) ≤ i - 1 = (e.links (i - 1) (omega (arith, g.low))).low in
      omega (arith, ap (λ (k : ℕ). get_or w k 0) (link_place (i - 1)))

pub none_left : {w : List ℕ} {n t i : ℕ} → Looking w n t i → i ≡ 0 → (j : ℕ) → j < n → old_at w j ≢ t
none_left g z j l = g.passed j (omega arith) l

-- whether a lookup has found a row
pub found_none : (w : List ℕ) (n t : ℕ) (r : Option ℕ) → Found w n t r → is_some r ≡ false → (j : ℕ) → j < n → old_at w j ≢ t
found_none w n t None f e = f
found_none w n t (Some i) f e = absurd (true≢false e)

pub found_row : (w : List ℕ) (n t : ℕ) (r : Option ℕ) → Found w n t r → is_some r ≡ true → (i : ℕ) × FoundAt w n t i
found_row w n t None f e = absurd (true≢false (sym e))
found_row w n t (Some i) f e = (i, f)
