-- A column in another's place, and the loops that write it word by word: the first words by their place, and the ends of the owners' ranges. Assumes nothing.
use Prim.Native.Nat.{ℕ, zero, suc, ◌+◌, ◌<◌, ◌≤◌}
use native.Mathlib.Numerals.{add-one}
use native.Mathlib.Nat.{zero-add}
use native.Mathlib.Decide.{ℕ_discrete, dec_lt}
use native.Mathlib.Omega.{arith}
use mathlib.Core.Bool.{Bool, true, false, cond}
use mathlib.Core.List.{List}
use mathlib.Core.Path.{◌≡◌, refl, sym, ap, ap₂, ◌∙◌, fun_ext}
use borrow.Author.Tests.{eqb-true, eq-eqb, le-leb, lt-leb}
use lib.Dec.{eqb}
use lib.ListN.{length, get_or, set, length-set}
use lib.Seq.{get_or-set_same, get_or-set_other, ext_get_or}
use Rattle.layout.specs.Columns.{Cols, at, pasted, write, write_range}
use Rattle.layout.proofs.Pasted.{pasted_length, pasted_new, pasted_past}
use Rattle.undo_log.specs.CutWrites.{with_column, first_by, link_cut, end_put, ends_of, end_made, ends_made}

-- ---- a column in another's place

module _ (C : Cols) (k : ℕ) where
  pub column_own : (xs : List ℕ) → with_column C k xs k ≡ xs
  unfolding with_column
  column_own xs = rw (eq-eqb k k refl) refl

  pub column_other : (xs : List ℕ) (j : ℕ) → eqb j k ≡ false → with_column C k xs j ≡ C j
  unfolding with_column
  column_other xs j e = rw e

  pub column_same : C ≡ with_column C k (C k)
  unfolding with_column
  column_same = fun_ext (λ (j : ℕ). go j (eqb j k) refl)
    where
      go : (j : ℕ) (b : Bool) → eqb j k ≡ b → C j ≡ cond b (C k) (C j)
      go j true e = ap C (eqb-true j k e)
      go j false e = refl

  pub column_write : (xs : List ℕ) (i v : ℕ) → write (with_column C k xs) k i v ≡ with_column C k (set xs i v)
  unfolding write with_column
  column_write xs i v = fun_ext (λ (j : ℕ). go j (eqb j k))
    where
      go : (j : ℕ) (b : Bool) → cond b (set (cond b xs (C j)) i v) (cond b xs (C j)) ≡ cond b (set xs i v) (C j)
      go j true = refl
      go j false = refl

  pub column_again : (xs ys : List ℕ) → with_column (with_column C k xs) k ys ≡ with_column C k ys
  unfolding with_column
  column_again xs ys = fun_ext (λ (j : ℕ). go j (eqb j k))
    where
      go : (j : ℕ) (b : Bool) → cond b ys (cond b xs (C j)) ≡ cond b ys (C j)
      go j true = refl
      go j false = refl

-- ---- the first words, by their place

pub first_length : (n : ℕ) (f : ℕ → ℕ) (xs : List ℕ) → length (first_by n f xs) ≡ length xs
unfolding first_by
first_length zero f xs = refl
first_length (suc n) f xs = length-set (first_by n f xs) n (f n) ∙ first_length n f xs

pub first_past : (n : ℕ) (f : ℕ → ℕ) (xs : List ℕ) (i : ℕ) → n ≤ i → get_or (first_by n f xs) i 0 ≡ get_or xs i 0
unfolding first_by
first_past zero f xs i l = refl
first_past (suc n) f xs i l = get_or-set_other (first_by n f xs) n i (f n) 0 (λ e. omega arith) ∙ first_past n f xs i (omega arith)

pub first_at_lem : (n : ℕ) (f : ℕ → ℕ) (xs : List ℕ) (i : ℕ) → i < n → i < length xs → get_or (first_by n f xs) i 0 ≡ f i
unfolding first_by
first_at_lem zero f xs i l h = absurd (omega arith)
first_at_lem (suc n) f xs i l h = go (ℕ_discrete i n) (λ m. first_at_lem n f xs i m h)
  where
    go : Dec (i ≡ n) → (i < n → get_or (first_by n f xs) i 0 ≡ f i) → get_or (set (first_by n f xs) n (f n)) i 0 ≡ f i
    go (yes e) rest = rw e (get_or-set_same (first_by n f xs) n (f n) 0 (omega (arith, first_length n f xs)))
    go (no ne) rest = get_or-set_other (first_by n f xs) n i (f n) 0 ne ∙ rest (omega arith)

-- the same by one list, written over the first words
module _ (C : Cols) (k n : ℕ) (f : ℕ → ℕ) (vs : List ℕ) (many : length vs ≡ n) (fits : n ≤ length (C k)) (each : (i : ℕ) → i < n → get_or vs i 0 ≡ f i) where
  room : 0 + length vs ≤ length (C k)
  room = omega arith

  first_words : pasted (C k) 0 vs ≡ first_by n f (C k)
  first_words =
      ext_get_or 0 _ _ (pasted_length (C k) 0 vs room ∙ sym (first_length n f (C k)))
      (λ i h. go i (omega (arith, pasted_length (C k) 0 vs room)) (dec_lt i n))
    where
      go : (i : ℕ) → i < length (C k) → Dec (i < n) → get_or (pasted (C k) 0 vs) i 0 ≡ get_or (first_by n f (C k)) i 0
      go i h (yes l) =
          ap (λ (j : ℕ). get_or (pasted (C k) 0 vs) j 0) (sym (zero-add i)) ∙ pasted_new (C k) 0 vs room i (omega arith) ∙ each i l
          ∙ sym (first_at_lem n f (C k) i l h)
      go i h (no ne) = pasted_past (C k) 0 vs room i (omega arith) ∙ sym (first_past n f (C k) i (omega arith))

  pub column_first : write_range C k 0 vs ≡ with_column C k (first_by n f (C k))
  unfolding write_range with_column
  column_first = fun_ext (λ (j : ℕ). go j (eqb j k) refl)
    where
      go : (j : ℕ) (b : Bool) → eqb j k ≡ b → cond b (pasted (C j) 0 vs) (C j) ≡ cond b (first_by n f (C k)) (C j)
      go j true e = ap (λ (m : ℕ). pasted (C m) 0 vs) (eqb-true j k e) ∙ first_words
      go j false e = refl

-- the first i words of column k are written, of n
pub record Filled (C : Cols) (k : ℕ) (f : ℕ → ℕ) (n : ℕ) (D : Cols) (i : ℕ) : Type 0 where
  pub low : i ≤ n
  pub is : D ≡ with_column C k (first_by i f (C k))

pub fill_starts : (C : Cols) (k : ℕ) (f : ℕ → ℕ) (n : ℕ) → Filled C k f n C 0
unfolding first_by
fill_starts C k f n = record { low = omega arith; is = column_same C k }

module _ {C : Cols} {k : ℕ} {f : ℕ → ℕ} {n : ℕ} {D : Cols} {i : ℕ} (g : Filled C k f n D i) where
  pub fill_own : at D k i ≡ at C k i
  unfolding at
  fill_own = ap (λ (X : Cols). get_or (X k) i 0) g.is ∙ ap (λ (l : List ℕ). get_or l i 0) (column_own C k (first_by i f (C k))) ∙ first_past i f (C k) i (omega arith)

  pub fill_turn : {E : Cols} (v : ℕ) → i < n → E ≡ write D k i v → v ≡ f i → Filled C k f n E (i + 1)
  unfolding first_by
  fill_turn v l e q =
      record {
        low = omega arith;
        is =
            e ∙ ap₂ (λ (X : Cols) (w : ℕ). write X k i w) g.is q
            ∙ column_write C k (first_by i f (C k)) i (f i)
            ∙ ap (λ (m : ℕ). with_column C k (first_by m f (C k))) (sym (add-one i));
      }

  pub fill_done : n ≤ i → D ≡ with_column C k (first_by n f (C k))
  fill_done h = g.is ∙ ap (λ (m : ℕ). with_column C k (first_by m f (C k))) (let e : i ≡ n = omega (arith, g.low) in e)

-- ---- a link

pub link_gone : (count link : ℕ) → count ≤ link → 0 ≡ link_cut count link
unfolding link_cut
link_gone count link l = sym (ap (λ (b : Bool). cond b 0 link) (le-leb count link l))

pub link_stays : (count link : ℕ) → link < count → link ≡ link_cut count link
unfolding link_cut
link_stays count link l = sym (ap (λ (b : Bool). cond b 0 link) (lt-leb count link l))

-- ---- where ranges end

-- the first i children are seen, of n
pub record Ending (C : Cols) (owners ends offset n : ℕ) (D : Cols) (i : ℕ) : Type 0 where
  pub low : i ≤ n
  pub is : D ≡ ends_made C owners ends offset i

pub ending_starts : (C : Cols) (owners ends offset n : ℕ) → Ending C owners ends offset n C 0
unfolding ends_made ends_of
ending_starts C owners ends offset n = record { low = omega arith; is = column_same C ends }

module _ {C : Cols} {owners ends offset n : ℕ} {D : Cols} {i : ℕ} (g : Ending C owners ends offset n D i) where
  pub ending_word : eqb owners ends ≡ false → at D owners i ≡ at C owners i
  unfolding at ends_made
  ending_word e = ap (λ (X : Cols). get_or (X owners) i 0) g.is ∙ ap (λ (l : List ℕ). get_or l i 0) (column_other C ends _ owners e)

  pub ending_turn : {E : Cols} (w : ℕ) → i < n → w ≡ at C owners i → E ≡ end_made D ends offset w i → Ending C owners ends offset n E (i + 1)
  unfolding end_made ends_made ends_of at
  ending_turn w l q e =
      let old = ends_of (C owners) offset i (C ends) in
      record {
        low = omega arith;
        is =
            e ∙ ap₂ (λ (X : Cols) (v : ℕ). with_column X ends (end_put offset v i (X ends))) g.is q
            ∙ column_again C ends old _
            ∙ ap (λ (xs : List ℕ). with_column C ends (end_put offset (get_or (C owners) i 0) i xs)) (column_own C ends old)
            ∙ ap (λ (m : ℕ). with_column C ends (ends_of (C owners) offset m (C ends))) (sym (add-one i));
      }
