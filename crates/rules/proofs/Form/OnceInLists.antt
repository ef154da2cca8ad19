-- A walk over a list of sibling blocks of a sound store comes to each operation and block once: what it comes to lies below one of the
-- blocks only, and below one operation of it. Assumes nothing.
use Rattle.std.specs.Prelude.{option_map, Some}
use Prim.Native.Nat.{ℕ, ◌<◌}
use mathlib.Core.Bool.{true}
use mathlib.Core.List.Memᴰ
use mathlib.Core.List.{List, [], ◌∷◌, ◌++◌, map, Memᴰ}
use mathlib.Core.Logic.{◌⊎◌, inl, inr, ⊎_elim}
use mathlib.Core.Path.{◌≡◌, refl, sym, ap, ap₂, subst, ◌∙◌}
use lib.ListN.{length}
use Rattle.std.specs.List.{flat_map}
use Rattle.rules.specs.Store.{Store, ops_of, owner_exists}
use Rattle.rules.specs.declared.types.Owner.{Owner}
use Rattle.rules.specs.declared.types.Owner.TheVariants.{Op as of_op, Block as of_block}
use Rattle.rules.specs.Fragments.{Step, shell, shells, list_steps, step_defines, Disjoint}
use Rattle.rules.proofs.Soundness.Sound.{Sound}
use Rattle.rules.proofs.Soundness.Grown.{owner_op, owner_block}
use Rattle.rules.proofs.Basics.Tests.{impossible}
use Rattle.rules.proofs.Basics.Distinct.{Distinct, distinct_append, distinct_concat_map, distinct_map, mem_concat_map, concat_map_append, concat_map_concat_map, concat_map_cong}
use Rattle.rules.proofs.Soundness.Children.{ops_in_lem, ops_distinct}
use Rattle.rules.proofs.Form.Ancestors.{up, Around, next, From, around_trans, siblings, same_branch}

-- the operations and blocks that steps define
unfoldable pub defined : List Step → List Owner
defined xs = flat_map step_defines xs

defined_each : (w : ℕ → Owner) (xs : List ℕ) → defined (map (λ (n : ℕ). shell (w n)) xs) ≡ map w xs
unfolding defined step_defines
defined_each w [] = refl
defined_each w (x ∷ xs) = ap (λ (l : List Owner). w x ∷ l) (defined_each w xs)

defined_shells : (w : ℕ → Owner) (xs : List ℕ) → defined (shells w xs) ≡ map w xs
unfolding defined step_defines shells
defined_shells w xs = defined_each w xs

module _ (s : Store) where
  -- what an operation's full steps define lies inside it, and is defined once
  pub record OpPart (full : ℕ → List Step) (n : ℕ) : Type 0 where
    pub inside : (y : Owner) → Memᴰ y (defined (full n)) → (owner_exists s y ≡ true) × Around s (of_op n) y
    pub once : Distinct (defined (full n))

  -- what the steps define comes from one of these blocks, and is defined once
  pub record BlocksPart (xs : List Step) (bs : List ℕ) : Type 0 where
    pub inside : (y : Owner) → Memᴰ y (defined xs) → (owner_exists s y ≡ true) × ((b : ℕ) × Memᴰ b bs × From s (of_block b) y)
    pub once : Distinct (defined xs)

  -- blocks of the store, each once, with the same operation around them
  pub record Blocks (bs : List ℕ) : Type 0 where
    pub here : (b : ℕ) → Memᴰ b bs → b < length s.blocks
    pub once : Distinct bs
    pub around : (b c : ℕ) → Memᴰ b bs → Memᴰ c bs → up s (of_block b) ≡ up s (of_block c)

module _ (s : Store) (sd : Sound s) where
  op_up : (b : ℕ) {n : ℕ} → Memᴰ n (ops_of s b) → up s (of_op n) ≡ Some (of_block b)
  unfolding up
  op_up b m = ap (option_map of_block) (ops_in_lem s b m).1

  op_here : (b : ℕ) {n : ℕ} → Memᴰ n (ops_of s b) → owner_exists s (of_op n) ≡ true
  op_here b {n} m = owner_op s sd n (ops_in_lem s b m).0

  -- ---- a list of blocks

  module _ (full : ℕ → List Step) (ops : (n : ℕ) → n < length s.ops → OpPart s full n) (bs : List ℕ) (ok : Blocks s bs) where
    shells_of : ℕ → List Owner
    shells_of b = map of_op (ops_of s b)

    fulls_of : ℕ → List Owner
    fulls_of b = flat_map (λ (n : ℕ). defined (full n)) (ops_of s b)

    block_shells : List Owner
    block_shells = map of_block bs

    op_shells : List Owner
    op_shells = flat_map shells_of bs

    op_fulls : List Owner
    op_fulls = flat_map fulls_of bs

    -- ---- what the three passes come to

    in_blocks_lem : (y : Owner) → Memᴰ y block_shells → (b : ℕ) × Memᴰ b bs × (y ≡ of_block b)
    unfolding block_shells
    in_blocks_lem y m = let w = Memᴰ.of_map of_block bs m in (w.0, w.1, sym w.2)

    in_shells_of : (b : ℕ) (y : Owner) → Memᴰ y (shells_of b) → (n : ℕ) × Memᴰ n (ops_of s b) × (y ≡ of_op n)
    unfolding shells_of
    in_shells_of b y m = let w = Memᴰ.of_map of_op (ops_of s b) m in (w.0, w.1, sym w.2)

    in_fulls_of : (b : ℕ) (y : Owner) → Memᴰ y (fulls_of b) → (owner_exists s y ≡ true) × ((n : ℕ) × Memᴰ n (ops_of s b) × Around s (of_op n) y)
    unfolding fulls_of
    in_fulls_of b y m =
        let w = mem_concat_map (λ (n : ℕ). defined (full n)) (ops_of s b) m in
        let i = (ops w.0 (ops_in_lem s b w.1).0).inside y w.2 in
        (i.0, (w.0, w.1, i.1))

    shell_here : (b : ℕ) (y : Owner) → Memᴰ y (shells_of b) → (owner_exists s y ≡ true) × Around s (of_block b) y
    shell_here b y m =
        let w = in_shells_of b y m in
        subst (λ (x : Owner). (owner_exists s x ≡ true) × Around s (of_block b) x) (sym w.2) (op_here b w.1, next (op_up b w.1))

    full_here : (b : ℕ) (y : Owner) → Memᴰ y (fulls_of b) → (owner_exists s y ≡ true) × Around s (of_block b) y
    full_here b y m = let w = in_fulls_of b y m in (w.0, around_trans (next (op_up b w.1.1)) w.1.2)

    -- two of the blocks that are around one thing are the same
    one_block : (b c : ℕ) → Memᴰ b bs → Memᴰ c bs → (y : Owner) → owner_exists s y ≡ true → Around s (of_block b) y → Around s (of_block c) y → b ≡ c
    one_block b c mb mc y h p q = let e : of_block b ≡ of_block c = same_branch s sd (ok.around b c mb mc) h p q in cc

    -- two operations of a block have the same block around them
    ops_alike : (b : ℕ) {n m : ℕ} → Memᴰ n (ops_of s b) → Memᴰ m (ops_of s b) → up s (of_op n) ≡ up s (of_op m)
    ops_alike b p q = op_up b p ∙ sym (op_up b q)

    -- ---- each pass comes to nothing twice, and no two come to the same

    blocks_once_lem : Distinct block_shells
    unfolding block_shells
    blocks_once_lem = distinct_map of_block bs ok.once (λ x y e. cc)

    ops_once : Distinct op_shells
    unfolding op_shells shells_of
    ops_once =
        distinct_concat_map shells_of bs ok.once (λ b m. distinct_map of_op (ops_of s b) (ops_distinct s b) (λ x y e. cc))
        (λ b c mb mc y k l. let h = shell_here b y k in one_block b c mb mc y h.0 h.1 (shell_here c y l).1)

    fulls_once : Distinct op_fulls
    unfolding op_fulls fulls_of
    fulls_once =
        distinct_concat_map fulls_of bs ok.once
        (λ b m. distinct_concat_map (λ (n : ℕ). defined (full n)) (ops_of s b) (ops_distinct s b) (λ n k. (ops n (ops_in_lem s b k).0).once)
        (λ n n' k k' y p q.
        let i = (ops n (ops_in_lem s b k).0).inside y p in
        let e : of_op n ≡ of_op n' = same_branch s sd (ops_alike b k k') i.0 i.1 ((ops n' (ops_in_lem s b k').0).inside y q).1 in cc))
        (λ b c mb mc y k l. let h = full_here b y k in one_block b c mb mc y h.0 h.1 (full_here c y l).1)

    shells_apart : Disjoint block_shells op_shells
    unfolding op_shells
    shells_apart y p q =
        let v = in_blocks_lem y p in
        let w = mem_concat_map shells_of bs q in
        let u = in_shells_of w.0 y w.2 in
        let e : y ≡ of_block v.0 = v.2 in
        let f : y ≡ of_op u.0 = u.2 in
        impossible cc

    fulls_apart : Disjoint (block_shells ++ op_shells) op_fulls
    unfolding op_shells op_fulls
    fulls_apart y p q = ⊎_elim as_block as_op (Memᴰ.append_cases block_shells p)
      where
        as_block : Memᴰ y block_shells → ⊥
        as_block m =
            let v = in_blocks_lem y m in
            let w = mem_concat_map fulls_of bs q in
            let h = full_here w.0 y w.2 in
            let e : y ≡ of_block v.0 = v.2 in
            siblings s sd (ok.around v.0 w.0 v.1 w.1) (subst (λ (x : Owner). owner_exists s x ≡ true) e h.0) (subst (Around s (of_block w.0)) e h.1)

        as_op : Memᴰ y (flat_map shells_of bs) → ⊥
        as_op m =
            let v = mem_concat_map shells_of bs m in
            let w = mem_concat_map fulls_of bs q in
            let h = shell_here v.0 y v.2 in
            let same : v.0 ≡ w.0 = one_block v.0 w.0 v.1 w.1 y h.0 h.1 (full_here w.0 y w.2).1 in
            let i = in_shells_of w.0 y (subst (λ (b : ℕ). Memᴰ y (shells_of b)) same v.2) in
            let j = in_fulls_of w.0 y w.2 in
            let e : y ≡ of_op i.0 = i.2 in
            siblings s sd (ops_alike w.0 i.1 j.1.1) (subst (λ (x : Owner). owner_exists s x ≡ true) e h.0) (subst (Around s (of_op j.1.0)) e j.1.2)

    list_defined : defined (list_steps s full bs) ≡ block_shells ++ op_shells ++ op_fulls
    unfolding list_steps defined block_shells op_shells op_fulls shells_of fulls_of
    list_defined =
        concat_map_append step_defines (shells of_block bs ++ flat_map (λ (b : ℕ). shells of_op (ops_of s b)) bs) (flat_map (λ (b : ℕ). flat_map full (ops_of s b)) bs)
        ∙ ap₂ ◌++◌
        (concat_map_append step_defines (shells of_block bs) (flat_map (λ (b : ℕ). shells of_op (ops_of s b)) bs)
        ∙ ap₂ ◌++◌ (defined_shells of_block bs)
        (concat_map_concat_map step_defines (λ (b : ℕ). shells of_op (ops_of s b)) bs
        ∙ concat_map_cong (λ (b : ℕ). defined (shells of_op (ops_of s b))) shells_of (λ b. defined_shells of_op (ops_of s b)) bs))
        (concat_map_concat_map step_defines (λ (b : ℕ). flat_map full (ops_of s b)) bs
        ∙ concat_map_cong (λ (b : ℕ). defined (flat_map full (ops_of s b))) fulls_of (λ b. concat_map_concat_map step_defines full (ops_of s b)) bs)

    pub list_part : BlocksPart s (list_steps s full bs) bs
    unfolding op_shells op_fulls
    list_part =
        record {
          inside = λ y m. where_from y (Memᴰ.append_cases (block_shells ++ op_shells) (subst (Memᴰ y) list_defined m));
          once = subst Distinct (sym list_defined) (distinct_append (block_shells ++ op_shells) op_fulls (distinct_append block_shells op_shells blocks_once_lem ops_once shells_apart) fulls_once fulls_apart);
        }
      where
        In : Owner → Type 0
        In y = (owner_exists s y ≡ true) × ((b : ℕ) × Memᴰ b bs × From s (of_block b) y)

        as_block : (y : Owner) → Memᴰ y block_shells → In y
        as_block y m =
            let w = in_blocks_lem y m in
            (subst (λ (x : Owner). owner_exists s x ≡ true) (sym w.2) (owner_block s sd w.0 (ok.here w.0 w.1)), (w.0, w.1, inl w.2))

        as_op : (y : Owner) → Memᴰ y op_shells → In y
        as_op y m = let w = mem_concat_map shells_of bs m in let h = shell_here w.0 y w.2 in (h.0, (w.0, w.1, inr h.1))

        as_full : (y : Owner) → Memᴰ y op_fulls → In y
        as_full y m = let w = mem_concat_map fulls_of bs m in let h = full_here w.0 y w.2 in (h.0, (w.0, w.1, inr h.1))

        where_from : (y : Owner) → Memᴰ y (block_shells ++ op_shells) ⊎ Memᴰ y op_fulls → In y
        where_from y m = ⊎_elim (λ k. ⊎_elim (as_block y) (as_op y) (Memᴰ.append_cases block_shells k)) (as_full y) m
