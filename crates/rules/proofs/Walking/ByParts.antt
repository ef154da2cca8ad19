-- Whether some step of a walk passes a test, part by part: of a list of blocks, block by block, each with its operations; so the order of the
-- three passes makes no difference. Assumes nothing.
use Prim.Native.Nat.{ℕ, suc}
use mathlib.Core.Bool.{Bool, true, false, ◌||◌, or_assoc, or-false}
use mathlib.Core.List.{List, [], ◌∷◌, ◌++◌, map}
use mathlib.Core.Path.{◌≡◌, refl, sym, ap, ap₂, fun_ext, ◌∙◌}
use lib.ListN.{length}
use Rattle.std.specs.List.{list_any, flat_map}
use Rattle.rules.specs.Store.{Store, ops_of, blocks_of, regions_of}
use Rattle.rules.specs.declared.types.Owner.{Owner}
use Rattle.rules.specs.declared.types.Owner.TheVariants.{Op as of_op, Block as of_block}
use Rattle.rules.specs.Fragments.{Step, shell, names, counted, full_op, shells, list_steps, region_steps}
use Rattle.rules.proofs.Basics.Filtered.{any_append}

-- ---- some entry of a list passes

module _ {A : Type 0} where
  pub any_both : (p q : A → Bool) (xs : List A) → list_any (λ (x : A). p x || q x) xs ≡ (list_any p xs || list_any q xs)
  any_both p q [] = refl
  any_both p q (x ∷ xs) = ap (λ (b : Bool). (p x || q x) || b) (any_both p q xs) ∙ swap (p x) (q x) (list_any p xs) (list_any q xs)
    where
      swap : (a b c d : Bool) → ((a || b) || (c || d)) ≡ ((a || c) || (b || d))
      swap true b c d = refl
      swap false true true d = refl
      swap false true false d = refl
      swap false false c d = refl

  pub any_same : (p q : A → Bool) (xs : List A) → ((x : A) → p x ≡ q x) → list_any p xs ≡ list_any q xs
  any_same p q xs same = ap (λ (t : A → Bool). list_any t xs) (fun_ext same)

pub any_concat : {A B : Type 0} (p : B → Bool) (f : A → List B) (xs : List A) → list_any p (flat_map f xs) ≡ list_any (λ (x : A). list_any p (f x)) xs
any_concat p f [] = refl
any_concat p f (x ∷ xs) = any_append p (f x) (flat_map f xs) ∙ ap (λ (b : Bool). list_any p (f x) || b) (any_concat p f xs)

any_map : {A B : Type 0} (p : B → Bool) (f : A → B) (xs : List A) → list_any p (map f xs) ≡ list_any (λ (x : A). p (f x)) xs
any_map p f [] = refl
any_map p f (x ∷ xs) = ap (λ (b : Bool). p (f x) || b) (any_map p f xs)

-- ---- some step passes, where none does at which a list of shells begins

module _ (hit : Step → Bool) (uncounted : (k : ℕ) → hit (counted k) ≡ false) where
  any_shells : (w : ℕ → Owner) (ns : List ℕ) → list_any hit (shells w ns) ≡ list_any (λ (n : ℕ). hit (shell (w n))) ns
  unfolding shells
  any_shells w ns = ap (λ (b : Bool). b || list_any hit (map (λ (n : ℕ). shell (w n)) ns)) (uncounted (length ns)) ∙ any_map hit (λ (n : ℕ). shell (w n)) ns

  module _ (s : Store) where
    -- an operation, and all that is listed of it in full
    abbrev pub op_hit : (ℕ → List Step) → ℕ → Bool
    op_hit full m = list_any hit (shell (of_op m) ∷ full m)

    -- a block, and its operations
    abbrev pub block_hit : (ℕ → List Step) → ℕ → Bool
    block_hit full b = hit (shell (of_block b)) || list_any (op_hit full) (ops_of s b)

    pub any_listed : (full : ℕ → List Step) (bs : List ℕ) → list_any hit (list_steps s full bs) ≡ list_any (block_hit full) bs
    unfolding list_steps
    any_listed full bs =
        any_append hit (shells of_block bs ++ flat_map (λ (b : ℕ). shells of_op (ops_of s b)) bs) (flat_map (λ (b : ℕ). flat_map full (ops_of s b)) bs)
        ∙ ap₂ ◌||◌
        (any_append hit (shells of_block bs) (flat_map (λ (b : ℕ). shells of_op (ops_of s b)) bs)
        ∙ ap₂ ◌||◌ (any_shells of_block bs)
        (any_concat hit (λ (b : ℕ). shells of_op (ops_of s b)) bs ∙ any_same _ own bs (λ b. any_shells of_op (ops_of s b))))
        (any_concat hit (λ (b : ℕ). flat_map full (ops_of s b)) bs ∙ any_same _ rest bs (λ b. any_concat hit full (ops_of s b)))
        ∙ or_assoc (list_any block bs) (list_any own bs) (list_any rest bs)
        ∙ ap (λ (b : Bool). list_any block bs || b) (sym (any_both own rest bs))
        ∙ sym (any_both block (λ (b : ℕ). own b || rest b) bs)
        ∙ any_same _ (block_hit full) bs (λ b. ap (λ (t : Bool). block b || t) (sym (any_both (λ (m : ℕ). hit (shell (of_op m))) (λ (m : ℕ). list_any hit (full m)) (ops_of s b))))
      where
        block : ℕ → Bool
        block b = hit (shell (of_block b))

        own : ℕ → Bool
        own b = list_any (λ (m : ℕ). hit (shell (of_op m))) (ops_of s b)

        rest : ℕ → Bool
        rest b = list_any (λ (m : ℕ). list_any hit (full m)) (ops_of s b)

    -- a list of one block
    pub any_block : (full : ℕ → List Step) (b : ℕ) → list_any hit (list_steps s full (b ∷ [])) ≡ block_hit full b
    any_block full b = any_listed full (b ∷ []) ∙ or-false (block_hit full b)

    -- a region by its blocks, each as a list of one
    pub any_region : (k r : ℕ) → list_any hit (region_steps (suc k) s r) ≡ list_any (λ (b : ℕ). list_any hit (list_steps s (full_op s (region_steps k s)) (b ∷ []))) (blocks_of s r)
    unfolding region_steps
    any_region k r =
        let full = full_op s (region_steps k s) in
        any_listed full (blocks_of s r) ∙ any_same _ _ (blocks_of s r) (λ b. sym (any_block full b))

    -- an operation in full by its names and its regions
    pub any_full : (in_region : ℕ → List Step) (n : ℕ) → list_any hit (full_op s in_region n) ≡ (hit (names n) || list_any (λ (r : ℕ). list_any hit (in_region r)) (regions_of s n))
    unfolding full_op
    any_full in_region n = ap (λ (b : Bool). hit (names n) || b) (any_concat hit in_region (regions_of s n))
