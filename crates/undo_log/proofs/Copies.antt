-- A run of words written into a column one by one: one turn, what stands behind it, and the end. Assumes nothing.
use Prim.Native.Nat.{ℕ, ◌+◌, ◌-◌, ◌<◌, ◌≤◌}
use native.Mathlib.Numerals.{add-one}
use native.Mathlib.Omega.{arith}
use mathlib.Core.Bool.{Bool, true, false, cond}
use mathlib.Core.List.{List, ◌++◌}
use mathlib.Core.Path.{◌≡◌, refl, sym, ap, ◌∙◌, fun_ext}
use borrow.Author.Tests.{eqb-true}
use lib.Dec.{eqb}
use lib.ListN.{length, get_or, set, take, drop}
use lib.Seq.{paste, paste-suc, drop-paste, get_or-drop, take-length}
use Rattle.layout.specs.Columns.{Cols, column_size, at, pasted, write, write_range}
use Rattle.layout.proofs.Laid.{Shaped}

module _ (d vs : List ℕ) (at : ℕ) (room : at + length vs ≤ length d) (to : List ℕ) (j : ℕ) (so_far : to ≡ paste d at vs j) where
  copy_turn : j < length vs → (v : ℕ) → v ≡ get_or vs j 0 → set to (at + j) v ≡ paste d at vs (j + 1)
  copy_turn l v e =
      ap (λ (xs : List ℕ). set xs (at + j) v) so_far
      ∙ ap (λ (x : ℕ). set (paste d at vs j) (at + j) x) e
      ∙ paste-suc d at vs j 0 (omega arith) l
      ∙ ap (λ (k : ℕ). paste d at vs k) (sym (add-one j))

  copy_done : j ≡ length vs → to ≡ pasted d at vs
  copy_done e =
      so_far ∙ ap (λ (k : ℕ). paste d at vs k) e
      ∙ ap (λ (xs : List ℕ). take at d ++ xs ++ drop (at + length vs) d) (take-length vs)

module _ (C : Cols) (k n : ℕ) (vs : List ℕ) where
  -- the first i of the words are written
  abbrev pub partly : ℕ → Cols
  partly i m = cond (eqb m k) (paste (C m) n vs i) (C m)

  module _ (shaped : Shaped C) (fits : n + length vs ≤ column_size k) where
    room : (m : ℕ) → eqb m k ≡ true → n + length vs ≤ length (C m)
    room m t = omega (arith, shaped m, ap column_size (eqb-true m k t))

    -- what is not written over yet stands as it was
    pub run_behind : (i j x : ℕ) → i ≤ length vs → (j ≡ k → n + i ≤ x) → at (partly i) j x ≡ at C j x
    unfolding at
    run_behind i j x l behind = go (eqb j k) refl
      where
        go : (b : Bool) → eqb j k ≡ b → get_or (cond b (paste (C j) n vs i) (C j)) x 0 ≡ get_or (C j) x 0
        go true t =
            let low : n + i ≤ x = behind (eqb-true j k t) in
            let z : n + i + (x - (n + i)) ≡ x = omega arith in
            ap (λ (y : ℕ). get_or (paste (C j) n vs i) y 0) (sym z)
            ∙ sym (get_or-drop (n + i) (paste (C j) n vs i) (x - (n + i)) 0)
            ∙ ap (λ (xs : List ℕ). get_or xs (x - (n + i)) 0) (drop-paste (C j) n vs i (omega (arith, room j t)) l)
            ∙ get_or-drop (n + i) (C j) (x - (n + i)) 0
            ∙ ap (λ (y : ℕ). get_or (C j) y 0) z
        go false t = refl

    pub run_turn : (i w : ℕ) → i < length vs → w ≡ get_or vs i 0 → write (partly i) k (n + i) w ≡ partly (i + 1)
    unfolding write
    run_turn i w l h = fun_ext (λ m. go m (eqb m k) refl)
      where
        go : (m : ℕ) (b : Bool) → eqb m k ≡ b
            → cond b (set (cond b (paste (C m) n vs i) (C m)) (n + i) w) (cond b (paste (C m) n vs i) (C m)) ≡ cond b (paste (C m) n vs (i + 1)) (C m)
        go m true t = copy_turn (C m) vs n (room m t) (paste (C m) n vs i) i refl l w h
        go m false t = refl

    pub run_ends : (i : ℕ) → i ≡ length vs → partly i ≡ write_range C k n vs
    unfolding write_range
    run_ends i l = fun_ext (λ m. go m (eqb m k) refl)
      where
        go : (m : ℕ) (b : Bool) → eqb m k ≡ b → cond b (paste (C m) n vs i) (C m) ≡ cond b (pasted (C m) n vs) (C m)
        go m true t = copy_done (C m) vs n (room m t) (paste (C m) n vs i) i refl l
        go m false t = refl
