-- Tests and list functions that the rules are written with. Nothing here is particular to document 01.
use Rattle.std.specs.Prelude.{ℕ, zero, suc, ◌+◌, Bool, true, false, cond, not, ◌&&◌, ◌||◌, List, [], ◌∷◌, ◌++◌, eqb, Option, None, Some}

-- all of these tests pass
unfoldable pub every : List Bool → Bool
every [] = true
every (b ∷ bs) = b && every bs

-- two answers of yes or no are the same
unfoldable pub same_bool : Bool → Bool → Bool
same_bool a b = cond a b (not b)

-- the test passes at each number below n
unfoldable pub all_below : ℕ → (ℕ → Bool) → Bool
all_below zero p = true
all_below (suc n) p = p n && all_below n p

-- at how many numbers below n the test passes
unfoldable pub count_below : ℕ → (ℕ → Bool) → ℕ
count_below zero p = 0
count_below (suc n) p = cond (p n) (suc (count_below n p)) (count_below n p)

unfoldable pub sum : List ℕ → ℕ
sum [] = 0
sum (n ∷ ns) = n + sum ns

module _ {ℓ} {A : Type ℓ} where
  -- the places of the entries that pass the test, by rising number, the first place being n
  unfoldable pub numbers_from : ℕ → (A → Bool) → List A → List ℕ
  numbers_from n p [] = []
  numbers_from n p (x ∷ xs) = cond (p x) (n ∷ numbers_from (suc n) p xs) (numbers_from (suc n) p xs)

  -- the same, counted from 0
  unfoldable pub numbers_where : (A → Bool) → List A → List ℕ
  numbers_where p xs = numbers_from 0 p xs

  -- the list with f applied at one place; a place past its end changes nothing
  unfoldable pub update_at : (A → A) → ℕ → List A → List A
  update_at f n [] = []
  update_at f zero (x ∷ xs) = f x ∷ xs
  update_at f (suc n) (x ∷ xs) = x ∷ update_at f n xs

  -- two lists pair by pair, up to the shorter end
  unfoldable pub all_pairs : (A → A → Bool) → List A → List A → Bool
  all_pairs p [] ys = true
  all_pairs p (x ∷ xs) [] = true
  all_pairs p (x ∷ xs) (y ∷ ys) = p x y && all_pairs p xs ys

  -- two lists of one length, equal pair by pair
  unfoldable pub same_list : (A → A → Bool) → List A → List A → Bool
  same_list p [] [] = true
  same_list p [] (y ∷ ys) = false
  same_list p (x ∷ xs) [] = false
  same_list p (x ∷ xs) (y ∷ ys) = p x y && same_list p xs ys

unfoldable pub later : Option ℕ → Option ℕ
later None = None
later (Some i) = Some (suc i)

-- the first place at which n stands
unfoldable pub position : ℕ → List ℕ → Option ℕ
position n [] = None
position n (x ∷ xs) = cond (eqb n x) (Some 0) (later (position n xs))
