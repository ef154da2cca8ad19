-- Hashes made one by one are those of the whole list, and a window of hashes is the hashes of a run. Assumes nothing.
use Rattle.std.proofs.Common.{◌≡◌, ℕ, zero, suc, ◌+◌, ◌<◌, ◌≤◌, true, ltb, List, [], ◌∷◌, ◌++◌, map, length, get_or, take, drop, set, sym, refl, ap, ◌∙◌, arith, length-set, get_or-set_other, get_or-set_same, ltb-true}
use native.Mathlib.Decide.{ℕ_discrete}
use lib.ListN.{length-map}
use Rattle.std.specs.List.{list_all}
use Rattle.rules.specs.Store.{Store}
use Rattle.rules.specs.Runs.{run_of, shell_hash, weighted, window_sum}
use Rattle.rules.proofs.Basics.Tests.{all_at}
use Rattle.rules.proofs.Basics.Appended.{mem_get_d}
use Rattle.fragments.specs.Options.{Options, renamed_under}
use Rattle.repeated_runs.specs.Windows.{HashesOf, WeightsOf, SumsOf}

-- ---- the hashes of a list

-- an entry of a list of numbers that are all below a bound
pub entry_below : (n : ℕ) (xs : List ℕ) (k : ℕ) → list_all (λ (x : ℕ). ltb x n) xs ≡ true → k < length xs → get_or xs k 0 < n
entry_below n xs k h l = ltb-true _ _ (all_at (λ (x : ℕ). ltb x n) xs h (mem_get_d xs k 0 l))

module _ (f : ℕ → ℕ) where
  map_snoc : (xs : List ℕ) (x : ℕ) → map f (xs ++ (x ∷ [])) ≡ map f xs ++ (f x ∷ [])
  map_snoc [] x = refl
  map_snoc (y ∷ xs) x = ap (λ (ys : List ℕ). f y ∷ ys) (map_snoc xs x)

  take_map : (n : ℕ) (xs : List ℕ) → take n (map f xs) ≡ map f (take n xs)
  take_map zero xs = refl
  take_map (suc n) [] = refl
  take_map (suc n) (x ∷ xs) = ap (λ (ys : List ℕ). f x ∷ ys) (take_map n xs)

  drop_map : (n : ℕ) (xs : List ℕ) → drop n (map f xs) ≡ map f (drop n xs)
  drop_map zero xs = refl
  drop_map (suc n) [] = refl
  drop_map (suc n) (x ∷ xs) = drop_map n xs

  pub run_of_map : (xs : List ℕ) (n i : ℕ) → run_of (map f xs) n i ≡ map f (run_of xs n i)
  unfolding run_of
  run_of_map xs n i = ap (take n) (drop_map i xs) ∙ take_map n (drop i xs)

  -- the first k words are those of the first k numbers
  pub record Hashed (xs words : List ℕ) (k : ℕ) : Type 0 where
    pub low : k ≤ length xs
    pub room : length xs ≤ length words
    pub first : take k words ≡ map f (take k xs)

-- ---- all windows

-- the first k starts have their sums
pub record Summed (hashes sums : List ℕ) (n k : ℕ) : Type 0 where
  pub room : length hashes ≤ length sums
  pub first : (j : ℕ) → j < k → get_or sums j 0 ≡ weighted (run_of hashes n j)

module _ (hashes sums : List ℕ) (n : ℕ) where
  pub summed_none : length hashes ≤ length sums → Summed hashes sums n 0
  summed_none r = record { room = r; first = λ j l. absurd (let z : ⊥ = omega arith in z) }

  pub summed_next : (k : ℕ) {w : ℕ} → Summed hashes sums n k → k < length hashes → w ≡ weighted (run_of hashes n k)
      → Summed hashes (set sums k w) n (k + 1)
  summed_next k {w} h l e = record { room = omega (arith, h.room, length-set sums k w); first = λ j m. go j m (ℕ_discrete j k) }
    where
      go : (j : ℕ) → j < k + 1 → Dec (j ≡ k) → get_or (set sums k w) j 0 ≡ weighted (run_of hashes n j)
      go j m (yes same) =
          ap (λ (i : ℕ). get_or (set sums k w) i 0) same
          ∙ get_or-set_same sums k w 0 (omega (arith, h.room))
          ∙ e
          ∙ ap (λ (i : ℕ). weighted (run_of hashes n i)) (sym same)
      go j m (no other) = get_or-set_other sums k j w 0 other ∙ h.first j (omega arith)

-- of hashes that are those of operations
module _ (s : Store) (o : Options) (ops hashes : List ℕ) (e : HashesOf s o ops hashes) where
  pub hashes_long : length (take (length ops) hashes) ≡ length ops
  hashes_long = ap length e ∙ length-map ops (shell_hash (renamed_under o s) o.ignore)

  pub sums_of_lem : (sums : List ℕ) (n : ℕ) → WeightsOf (take (length ops) hashes) sums n → SumsOf s o ops sums n
  unfolding window_sum
  sums_of_lem sums n h i l =
      h i (omega (arith, hashes_long))
      ∙ ap (λ (ws : List ℕ). weighted (run_of ws n i)) e
      ∙ ap weighted (run_of_map (shell_hash (renamed_under o s) o.ignore) ops n i)
