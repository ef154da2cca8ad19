-- The steps that tell of something, one by one: the i-th of the list is the i-th of those in the walk, so that what is left from step i on begins with
-- it, and it is added to what is done. Assumes nothing.
use Rattle.std.proofs.Common.{◌≡◌, ℕ, suc, ◌+◌, ◌<◌, ◌≤◌, Bool, true, ◌&&◌, List, [], ◌∷◌, ◌++◌, map, length, get_or, take, drop, refl, sym, ap, subst, ◌∙◌, arith, add-one, append-nil}
use Rattle.std.proofs.Math.Seq.{take-suc, drop-cons}
use Rattle.std.proofs.lemmas.List.{drop_all, get_or-map, length-map}
use mathlib.Core.List.{Memᴰ}
use borrow.Author.Tests.{lt-ltb}
use Rattle.std.specs.List.{flat_map}
use Rattle.rules.specs.Store.{Store, op_exists, owner_exists}
use Rattle.rules.specs.declared.types.Owner.{Owner}
use Rattle.rules.specs.declared.types.Owner.TheVariants.{Op as of_op, Block as of_block}
use Rattle.rules.specs.Fragments.{shell, names, counted, exists, steps, step_defines, defines_owners}
use Rattle.rules.specs.declared.types.Sort.TheVariants.{Op as op}
use Rattle.rules.specs.Fragments as rules
use Rattle.rules.specs.Hash.{Numbering, numbered}
use Rattle.rules.specs.Copying.{step_in_time, in_time}
use Rattle.rules.proofs.Basics.Appended.{mem_get_d}
use Rattle.rules.proofs.Basics.Distinct.{concat_map_append}
use Rattle.rules.proofs.Soundness.Sound.{facts}
use Rattle.rules.proofs.Form.Once.{owners_here}
use Rattle.rules.proofs.Copying.Shelled.{shell_owner, names_owner}
use Rattle.layout.specs.Columns.{columns}
use Rattle.layout.specs.Reading.{op_count, block_count, store_in}
use Rattle.layout.specs.Soundness.{IsSound}
use Rattle.layout.proofs.Tabulate.{op_exists_lem, op_in_lem, block_in_lem}
use Rattle.copying.specs.declared.steps.Step.{Step}
use Rattle.copying.specs.declared.steps.Step.TheVariants.{OpShell, BlockShell, Names}
use Rattle.copying.specs.Steps.{step_listed, steps_listed, AreSteps, step_of, step_owners, StepThere}

-- ---- the steps that tell of something: all but where a list of shells begins

unfoldable pub told : List rules.Step → List rules.Step
told [] = []
told (shell w ∷ xs) = shell w ∷ told xs
told (names n ∷ xs) = names n ∷ told xs
told (counted k ∷ xs) = told xs

told_steps : (xs : List rules.Step) → map step_of (steps_listed xs) ≡ told xs
unfolding told steps_listed step_listed step_of
told_steps [] = refl
told_steps (shell (of_op m) ∷ xs) = ap (λ (l : List rules.Step). shell (of_op m) ∷ l) (told_steps xs)
told_steps (shell (of_block b) ∷ xs) = ap (λ (l : List rules.Step). shell (of_block b) ∷ l) (told_steps xs)
told_steps (names n ∷ xs) = ap (λ (l : List rules.Step). names n ∷ l) (told_steps xs)
told_steps (counted k ∷ xs) = told_steps xs

-- ---- what is listed of the steps, step by step, is listed of those that tell of something, where nothing is of the others

pub told_lists : {A : Type 0} (f : rules.Step → List A) → ((k : ℕ) → f (counted k) ≡ []) → (xs : List rules.Step) → flat_map f (told xs) ≡ flat_map f xs
unfolding told
told_lists f none_of [] = refl
told_lists {A} f none_of (shell w ∷ xs) = ap (λ (l : List A). f (shell w) ++ l) (told_lists f none_of xs)
told_lists {A} f none_of (names n ∷ xs) = ap (λ (l : List A). f (names n) ++ l) (told_lists f none_of xs)
told_lists {A} f none_of (counted k ∷ xs) = told_lists f none_of xs ∙ ap (λ (l : List A). l ++ flat_map f xs) (sym (none_of k))

-- ---- the names that come in time

pub told_in_time : (s : Store) (n : ℕ) (xs : List rules.Step) (N : Numbering) → in_time s n (told xs) N ≡ in_time s n xs N
unfolding told in_time step_in_time numbered
told_in_time s n [] N = refl
told_in_time s n (shell w ∷ xs) N = told_in_time s n xs (numbered s (shell w) N)
told_in_time s n (names m ∷ xs) N = ap (λ (b : Bool). step_in_time s n (names m) N && b) (told_in_time s n xs N)
told_in_time s n (counted k ∷ xs) N = told_in_time s n xs N

-- ---- what is done before a step, and what is left from it on

unfoldable pub done : List rules.Step → ℕ → List rules.Step
done xs i = take i (told xs)

unfoldable pub left : List rules.Step → ℕ → List rules.Step
left xs i = drop i (told xs)

-- the operations and blocks of it
unfoldable pub owners_done : List rules.Step → ℕ → List Owner
owners_done xs i = flat_map step_defines (done xs i)

unfoldable pub owners_left : List rules.Step → ℕ → List Owner
owners_left xs i = flat_map step_defines (left xs i)

pub all_left : (xs : List rules.Step) → left xs 0 ≡ told xs
unfolding left
all_left xs = refl

pub no_owners_done : (xs : List rules.Step) → owners_done xs 0 ≡ []
unfolding owners_done done
no_owners_done xs = refl

pub all_owners_left : (s : Store) (n : ℕ) → owners_left (steps s op n) 0 ≡ defines_owners s op n
unfolding owners_left left defines_owners step_defines
all_owners_left s n = told_lists step_defines (λ k. refl) (steps s op n)

mem_told : (xs : List rules.Step) {x : rules.Step} → Memᴰ x (told xs) → Memᴰ x xs
unfolding told
mem_told [] m = m
mem_told (shell w ∷ xs) (Memᴰ.head e) = Memᴰ.head e
mem_told (shell w ∷ xs) (Memᴰ.tail m) = Memᴰ.tail (mem_told xs m)
mem_told (names n ∷ xs) (Memᴰ.head e) = Memᴰ.head e
mem_told (names n ∷ xs) (Memᴰ.tail m) = Memᴰ.tail (mem_told xs m)
mem_told (counted k ∷ xs) m = Memᴰ.tail (mem_told xs m)

-- ---- step by step, in the list of these steps

module _ (xs : List rules.Step) (ws : List Step) (e : ws ≡ steps_listed xs) where
  all_told : map step_of ws ≡ told xs
  all_told = ap (map step_of) e ∙ told_steps xs

  told_length : length ws ≡ length (told xs)
  told_length = sym (length-map ws step_of) ∙ ap length all_told

  module _ (i : ℕ) where
    -- past the last step
    pub none_left : length ws ≤ i → left xs i ≡ []
    unfolding left
    none_left l = drop_all i (told xs) (omega (arith, told_length))

    pub no_owners_left : length ws ≤ i → owners_left xs i ≡ []
    unfolding owners_left
    no_owners_left l = ap (flat_map step_defines) (none_left l)

    module _ (l : i < length ws) (x : Step) (f : get_or ws i (OpShell 0) ≡ x) where
      here : get_or (told xs) i (counted 0) ≡ step_of x
      here = ap (λ (ys : List rules.Step). get_or ys i (counted 0)) (sym all_told) ∙ get_or-map step_of ws i (OpShell 0) (counted 0) l ∙ ap step_of f

      in_told : i < length (told xs)
      in_told = omega (arith, told_length)

      pub step_in : Memᴰ (step_of x) xs
      step_in = mem_told xs (subst (λ (y : rules.Step). Memᴰ y (told xs)) here (mem_get_d (told xs) i (counted 0) in_told))

      pub step_left : left xs i ≡ step_of x ∷ left xs (i + 1)
      unfolding left
      step_left =
          drop-cons (told xs) i (counted 0) in_told
          ∙ ap (λ (y : rules.Step). y ∷ drop (suc i) (told xs)) here ∙ ap (λ (k : ℕ). step_of x ∷ drop k (told xs)) (sym (add-one i))

      step_done : done xs (i + 1) ≡ done xs i ++ (step_of x ∷ [])
      unfolding done
      step_done =
          ap (λ (k : ℕ). take k (told xs)) (add-one i) ∙ take-suc (told xs) i (counted 0) in_told
          ∙ ap (λ (y : rules.Step). take i (told xs) ++ (y ∷ [])) here

      pub step_owners_left : owners_left xs i ≡ step_owners x ++ owners_left xs (i + 1)
      unfolding owners_left step_owners
      step_owners_left = ap (flat_map step_defines) step_left

      pub step_owners_done : owners_done xs (i + 1) ≡ owners_done xs i ++ step_owners x
      unfolding owners_done step_owners
      step_owners_done =
          ap (flat_map step_defines) step_done ∙ concat_map_append step_defines (done xs i) (step_of x ∷ [])
          ∙ ap (λ (l : List Owner). flat_map step_defines (done xs i) ++ l) (append-nil (step_defines (step_of x)))

    -- an operation's shell, a block's, and an operation's names
    module _ (l : i < length ws) (m : ℕ) where
      pub op_left : get_or ws i (OpShell 0) ≡ OpShell m → left xs i ≡ shell (of_op m) ∷ left xs (i + 1)
      unfolding step_of
      op_left f = step_left l (OpShell m) f

      pub block_left : get_or ws i (OpShell 0) ≡ BlockShell m → left xs i ≡ shell (of_block m) ∷ left xs (i + 1)
      unfolding step_of
      block_left f = step_left l (BlockShell m) f

      pub names_left : get_or ws i (OpShell 0) ≡ Names m → left xs i ≡ names m ∷ left xs (i + 1)
      unfolding step_of
      names_left f = step_left l (Names m) f

-- ---- in a sound buffer what the steps tell of exists, and lies in the operation

pub are_steps_lem : (store : List ℕ) (n : ℕ) (ws : List Step) → AreSteps store n ws → ws ≡ steps_listed (steps (store_in store) op n)
unfolding AreSteps
are_steps_lem store n ws a = a

module _ (store : List ℕ) (sd : IsSound store) (n : ℕ) (b : n < op_count (columns store)) where
  op_known : op_exists (store_in store) n ≡ true
  op_known = op_exists_lem (columns store) n ∙ lt-ltb n _ b

  owner_known : (w : Owner) → Memᴰ w (defines_owners (store_in store) op n) → owner_exists (store_in store) w ≡ true
  unfolding exists
  owner_known w m = owners_here (store_in store) (facts _ sd.ruled) op n op_known w m

  op_bound : {m : ℕ} → Memᴰ (of_op m) (defines_owners (store_in store) op n) → m < op_count (columns store)
  unfolding owner_exists
  op_bound {m} k = op_in_lem (columns store) m (owner_known (of_op m) k)

  block_bound : {m : ℕ} → Memᴰ (of_block m) (defines_owners (store_in store) op n) → m < block_count (columns store)
  unfolding owner_exists
  block_bound {m} k = block_in_lem (columns store) m (owner_known (of_block m) k)

  there : (x : Step) → Memᴰ (step_of x) (steps (store_in store) op n) → StepThere (columns store) x
  unfolding StepThere step_of
  there (OpShell m) k = op_bound (shell_owner (store_in store) n _ k)
  there (BlockShell m) k = block_bound (shell_owner (store_in store) n _ k)
  there (Names m) k = op_bound (names_owner (store_in store) n _ k)

  module _ (ws : List Step) (a : AreSteps store n ws) (i : ℕ) (l : i < length ws) where
    pub step_there : (x : Step) → get_or ws i (OpShell 0) ≡ x → StepThere (columns store) x
    step_there x f = there x (step_in (steps (store_in store) op n) ws (are_steps_lem store n ws a) i l x f)

    pub op_there : (m : ℕ) → get_or ws i (OpShell 0) ≡ OpShell m → m < op_count (columns store)
    unfolding StepThere
    op_there m f = step_there (OpShell m) f

    pub block_there : (m : ℕ) → get_or ws i (OpShell 0) ≡ BlockShell m → m < block_count (columns store)
    unfolding StepThere
    block_there m f = step_there (BlockShell m) f

    pub names_there : (m : ℕ) → get_or ws i (OpShell 0) ≡ Names m → m < op_count (columns store)
    unfolding StepThere
    names_there m f = step_there (Names m) f

    pub op_inside : (m : ℕ) → get_or ws i (OpShell 0) ≡ OpShell m → Memᴰ (of_op m) (defines_owners (store_in store) op n)
    unfolding step_of
    op_inside m f = shell_owner (store_in store) n _ (step_in (steps (store_in store) op n) ws (are_steps_lem store n ws a) i l (OpShell m) f)
