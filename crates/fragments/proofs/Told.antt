-- The tests of a list of renamed types, by its rows: what the index tells of them, and the index that is made. Assumes nothing.
use Prim.Native.Nat.{ℕ, zero, suc, ◌+◌, ◌*◌, ◌/◌, ◌%◌, ◌<◌, ◌≤◌}
use native.Mathlib.Omega.{arith}
use mathlib.Core.Bool.{Bool, true, false, not, ◌&&◌}
use mathlib.Core.List.{List, [], ◌∷◌}
use mathlib.Core.Path.{◌≡◌, refl, sym, ap, subst, ◌∙◌}
use borrow.Author.Tests.{le-leb, lt-leb}
use lib.Dec.{leb}
use lib.ListN.{length, get_or, take, drop, length-drop}
use lib.Seq.{get_or-drop, get_or-take, length-take-le}
use Rattle.std.specs.List.{list_all}
use Rattle.std.specs.Option.{is_some}
use Rattle.std.specs.Prelude.{Option, Some, None}
use Rattle.std.specs.Simd.{first_chunks}
use Rattle.std.specs.List.{list_all}
use Rattle.rules.specs.Types.{whole_rows, old_types, present_types, stands_in, each_once, types_hold, max_rows}
use Rattle.rules.proofs.Basics.Tests.{every_of}
use Rattle.layout.proofs.Scans.{fails}
use Rattle.fragments.specs.Index.{bucket_of, list_in, old_at, now_at, link_at, Link, Entered, FoundAt, table, Rows, none_renamed, IsIndexed, Found}
use Rattle.fragments.proofs.Making.{link_kept}
use Rattle.fragments.proofs.Flat.{rows_by, run, run_length, stands_none, stands_one, once, twice, rows_whole, rows_old, rows_present, rows_same, two_words, list_rows, index_rows, half_row_lem}

-- the rules' tests, in their order
abbrev tests : List ℕ → List Bool
tests types =
    whole_rows types
    ∷ leb (length (old_types types)) max_rows
    ∷ each_once (old_types types)
    ∷ none_renamed types
    ∷ []

test_fails : (types : List ℕ) (i : ℕ) → get_or (tests types) i true ≡ false → types_hold types ≡ false
unfolding types_hold
test_fails types i h = fails (tests types) i h

pub half_fails : (types : List ℕ) → (length types % 2 ≡ 0 → ⊥) → types_hold types ≡ false
half_fails types h = test_fails types 0 (half_row_lem types h)

pub once_fails : (types : List ℕ) → each_once (old_types types) ≡ false → types_hold types ≡ false
once_fails types h = test_fails types 2 h

pub present_fails : (types : List ℕ) → none_renamed types ≡ false → types_hold types ≡ false
present_fails types h = test_fails types 3 h

-- ---- whole rows

-- as a slice of rows has it
chunk_words : (k i : ℕ) (xs : List ℕ) (j : ℕ) → i < k → 2 * k ≤ length xs → j < 2 → get_or (get_or (first_chunks 2 k xs) i []) j 0 ≡ get_or xs (2 * i + j) 0
chunk_words zero i xs j l m n = absurd (let x : ⊥ = omega arith in x)
chunk_words (suc k) zero xs j l m n = get_or-take 2 xs j 0 n ∙ ap (λ (x : ℕ). get_or xs x 0) (let q : j ≡ 0 + j = omega arith in q)
chunk_words (suc k) (suc i) xs j l m n =
    chunk_words k i (drop 2 xs) j (omega arith) (omega (arith, length-drop 2 xs)) n
    ∙ get_or-drop 2 xs (2 * i + j) 0
    ∙ ap (λ (x : ℕ). get_or xs x 0) (let q : 2 + (2 * i + j) ≡ 2 * suc i + j = omega arith in q)

module _ (types : List ℕ) (rows : List (List ℕ)) (k : ℕ) (e : rows ≡ first_chunks 2 (length types / 2) types) (l : k < length types / 2) where
  pub row_old : get_or (get_or rows k []) 0 0 ≡ get_or types (2 * k) 0
  row_old =
      ap (λ (r : List (List ℕ)). get_or (get_or r k []) 0 0) e ∙ chunk_words (length types / 2) k types 0 l (omega arith) (omega arith)
      ∙ ap (λ (x : ℕ). get_or types x 0) (let q : 2 * k + 0 ≡ 2 * k = omega arith in q)

  pub row_now : get_or (get_or rows k []) 1 0 ≡ get_or types (2 * k + 1) 0
  row_now = ap (λ (r : List (List ℕ)). get_or (get_or r k []) 1 0) e ∙ chunk_words (length types / 2) k types 1 l (omega arith) (omega arith)

module _ (types : List ℕ) (whole : length types % 2 ≡ 0) where
  abbrev old : ℕ → ℕ
  old i = get_or types (2 * i) 0

  abbrev now : ℕ → ℕ
  now i = get_or types (2 * i + 1) 0

  in_rows : types ≡ rows_by old now 0 (length types / 2)
  in_rows = list_rows types 0 (length types / 2) (omega arith)

  old_types_lem : old_types types ≡ run old 0 (length types / 2)
  old_types_lem = ap old_types in_rows ∙ rows_old old now 0 (length types / 2)

  present_types_lem : present_types types ≡ run now 0 (length types / 2)
  present_types_lem = ap present_types in_rows ∙ rows_present old now 0 (length types / 2)

  rows_counted : length (old_types types) ≡ length types / 2
  rows_counted = ap length old_types_lem ∙ run_length old 0 (length types / 2)

  pub many_fails : 128 < length types → types_hold types ≡ false
  many_fails l = test_fails types 1 (lt-leb (length (old_types types)) 64 (omega (arith, rows_counted)))

  pub holds : length types ≤ 128 → each_once (old_types types) ≡ true → none_renamed types ≡ true → types_hold types ≡ true
  unfolding types_hold
  holds few each none =
      every_of (tests types)
      (ap whole_rows in_rows ∙ rows_whole old now 0 (length types / 2), (le-leb (length (old_types types)) 64 (omega (arith, rows_counted)), (each, (none, tt))))

  -- an old type that has a row already
  pub given_twice : (w : List ℕ) (k r : ℕ) → Rows types w k → 2 * k < length types → FoundAt w k (old k) r → each_once (old_types types) ≡ false
  given_twice w k r g l f =
      ap each_once old_types_lem
      ∙ twice old 0 (length types / 2) r k (omega arith) f.low (omega arith) (sym (g.olds r f.low) ∙ f.there)

  module _ (w : List ℕ) (g : Rows types w (length types / 2)) where
    pub given_once : each_once (old_types types) ≡ true
    given_once =
        ap each_once old_types_lem
        ∙ once old 0 (length types / 2)
        (λ a b from l below q. g.entered.apart a b l (omega arith) (g.olds a (omega arith) ∙ q ∙ sym (g.olds b (omega arith))))

    -- a lookup tells whether a type has a row
    pub found_told : (t : ℕ) (r : Option ℕ) → Found w (length types / 2) t r → not (is_some r) ≡ not (stands_in (old_types types) t)
    found_told t None f =
        sym
        (ap (λ (l : List ℕ). not (stands_in l t)) old_types_lem
        ∙ ap not (stands_none old t 0 (length types / 2) (λ j from below q. f j (omega arith) (g.olds j (omega arith) ∙ q))))
    found_told t (Some r) f =
        sym
        (ap (λ (l : List ℕ). not (stands_in l t)) old_types_lem
        ∙ ap not (stands_one old t 0 (length types / 2) r (omega arith) (omega (arith, f.low)) (sym (g.olds r f.low) ∙ f.there)))

  -- the present types, row by row
  module _ (p : ℕ → Bool) where
    rows_all : (k i : ℕ) → length types ≡ 2 * (i + k)
        → list_all (λ (row : List ℕ). p (get_or row 1 0)) (first_chunks 2 k (drop (2 * i) types)) ≡ list_all p (run now i k)
    rows_all zero i e = refl
    rows_all (suc k) i e =
        ap (λ (l : List ℕ). list_all (λ (row : List ℕ). p (get_or row 1 0)) (first_chunks 2 (suc k) l)) two
        ∙ ap (λ (b : Bool). p (now i) && b) (rows_all k (suc i) (omega arith))
      where
        two : drop (2 * i) types ≡ old i ∷ now i ∷ drop (2 * suc i) types
        two = two_words types i (omega arith)

    pub all_present : list_all (λ (row : List ℕ). p (get_or row 1 0)) (first_chunks 2 (length types / 2) types) ≡ list_all p (present_types types)
    all_present = rows_all (length types / 2) 0 (omega arith) ∙ ap (list_all p) (sym present_types_lem)

-- ---- the words that are used

-- words that begin alike have the same rows
module _ (w w' : List ℕ) (n : ℕ) (room : 64 + 3 * n ≤ length w') (same : (i : ℕ) → i < 64 + 3 * n → get_or w' i 0 ≡ get_or w i 0) where
  same_old : (j : ℕ) → j < n → old_at w' j ≡ old_at w j
  same_old j l = same (64 + 3 * j) (omega arith)

  entered_same : Entered w n → Entered w' n
  entered_same e =
      record {
        room = room;
        heads = λ b l. subst (λ (x : ℕ). Link w' b n x) (sym (same b (omega arith))) (link_kept same_old (e.heads b l));
        links =
            λ i l.
            subst (λ (x : ℕ). Link w' (bucket_of x) i (link_at w' i)) (sym (same_old i l))
            (subst (λ (x : ℕ). Link w' (bucket_of (old_at w i)) i x) (sym (same (66 + 3 * i) (omega arith))) (link_kept (λ j m. same_old j (omega arith)) (e.links i l)));
        apart = λ i j l below q. e.apart i j l below (sym (same_old i (omega arith)) ∙ q ∙ same_old j below);
      }

module _ (types : List ℕ) (whole : length types % 2 ≡ 0) (w : List ℕ) (long : length w ≡ 256) (few : length types ≤ 128) (g : Rows types w (length types / 2)) (n : ℕ)
    (e : n ≡ 64 + 3 * (length types / 2)) where
  n_low : n ≤ length w
  n_low = omega arith

  cut_length : length (take n w) ≡ 64 + 3 * (length types / 2)
  cut_length = length-take-le n w n_low ∙ e

  cut_same : (i : ℕ) → i < 64 + 3 * (length types / 2) → get_or (take n w) i 0 ≡ get_or w i 0
  cut_same i l = get_or-take n w i 0 (omega arith)

  cut_list : list_in (take n w) ≡ types
  unfolding list_in
  cut_list =
      index_rows (take n w) 0 (length types / 2) (omega (arith, cut_length))
      ∙ rows_same (old_at (take n w)) (now_at (take n w)) (old types whole) (now types whole) 0 (length types / 2)
      (λ j from below. cut_same (64 + 3 * j) (omega arith) ∙ g.olds j (omega arith))
      (λ j from below. cut_same (65 + 3 * j) (omega arith) ∙ g.nows j (omega arith))
      ∙ sym (in_rows types whole)

  pub indexes : types_hold types ≡ true → IsIndexed types w n
  indexes ok =
      record {
        holds = ok;
        some = omega arith;
        low = n_low;
        is_index =
            table
            (record {
              rows = length types / 2;
              few = omega arith;
              long = cut_length;
              entered = entered_same w (take n w) (length types / 2) (omega (arith, cut_length)) cut_same g.entered;
              holds = ap types_hold cut_list ∙ ok;
            });
        list = cut_list;
      }
