-- A table of a lent mapping is allowed when the entries of numbers that exist are, and the others have no image; a scan answers of what it
-- has passed. A buffer of the right length has tables of the right lengths. Assumes nothing.
use Rattle.std.proofs.Common.{◌≡◌, ℕ, zero, suc, ◌+◌, ◌-◌, ◌%◌, ◌<◌, min, Bool, true, false, ◌&&◌, ◌||◌, eqb, ltb, leb, List, [], ◌∷◌, ◌++◌, length, take, drop, sym, refl, ap, ◌∙◌, ap₂, true≢false, arith, length-drop, drop-drop, length-take-le, le-ltb, lt-ltb, eq-eqb, ne_eqb, le-leb}
use Rattle.std.proofs.lemmas.List.{take_rest, take_min, drop_min}
use native.Mathlib.Decide.{ℕ_discrete, dec_lt}
use borrow.Author.Tests.{lt-leb}
use Rattle.std.specs.List.{list_all}
use Rattle.rules.specs.Lists.{every}
use Rattle.rules.specs.Store.{Store}
use Rattle.rules.specs.Mapping.{no_image, entries_allowed, table_allowed, allowed}
use Rattle.layout.specs.Columns.{Cols, at, counts}
use Rattle.layout.specs.Reading.{value_count, block_count, op_count, store_of}
use Rattle.layout.proofs.Tabulate.{ops_length, blocks_length, values_length}
use Rattle.layout.proofs.Scans.{and_false, last}
use Rattle.equivalence.proofs.Chained.{and_again, and_true, three_tests}
use Rattle.equivalence.specs.MappingWords.{mapping_length, mapping_of, image_allowed, unmapped}

-- ---- a scan without early exit

or_false : (b : Bool) → b || false ≡ b
or_false false = refl
or_false true = refl

module _ (p : ℕ → Bool) where
  pub all_push : (xs : List ℕ) (x : ℕ) → list_all p (xs ++ x ∷ []) ≡ list_all p xs && p x
  all_push [] x = and_true (p x)
  all_push (y ∷ xs) x = ap (λ (b : Bool). p y && b) (all_push xs x) ∙ sym (and_again (p y) (list_all p xs) (p x))

-- ---- a table

-- one more than an image, wrapped
pub image_test : (count e r : ℕ) → e < 4294967296 → count < 4294967296 → r ≡ (e + 1) % 4294967296 → leb r count ≡ image_allowed count e
unfolding image_allowed
image_test count e r le lc h = go (ℕ_discrete e no_image) (dec_lt e count)
  where
    go : Dec (e ≡ no_image) → Dec (e < count) → leb r count ≡ (eqb e no_image || ltb e count)
    go (yes n) d = le-leb r count (omega arith) ∙ rw (eq-eqb e no_image n) refl
    go (no n) (yes d) = le-leb r count (omega arith) ∙ rw (ne_eqb e no_image n, lt-ltb e count d) refl
    go (no n) (no d) = lt-leb r count (omega arith) ∙ rw (ne_eqb e no_image n, le-ltb e count (omega arith)) refl

-- the entries from number n on, of which k are of numbers that exist
entries_split : (count n k : ℕ) (es : List ℕ) → k ≡ count - n → entries_allowed count n es ≡ list_all (image_allowed count) (take k es) && list_all unmapped (drop k es)
unfolding entries_allowed image_allowed unmapped
entries_split count n zero [] h = refl
entries_split count n (suc k) [] h = refl
entries_split count n zero (e ∷ es) h = rw (le-ltb n count (omega arith)) (ap₂ ◌&&◌ (or_false (eqb e no_image)) (entries_split count (suc n) zero es (omega arith)))
entries_split count n (suc k) (e ∷ es) h =
    rw (lt-ltb n count (omega arith))
    (ap (λ (b : Bool). image_allowed count e && b) (entries_split count (suc n) k es (omega arith)) ∙ sym (and_again (image_allowed count e) (list_all (image_allowed count) (take k es)) (list_all unmapped (drop k es))))

-- the two parts that the code tests: the first n entries, and those behind them
pub tables_parts : (count : ℕ) (es : List ℕ) (n : ℕ) → n ≡ min (length es) count
    → entries_allowed count 0 es ≡ list_all (image_allowed count) (take n es) && list_all unmapped (take (length es - n) (drop n es))
tables_parts count es n h =
    let e : n ≡ min count (length es) = omega arith in
    rw (e, take_rest es (min count (length es)), take_min count es, drop_min count es) (entries_split count 0 count es (omega arith))

-- ---- a whole buffer

table_is : (size count : ℕ) (es : List ℕ) → length es ≡ size → table_allowed size count es ≡ entries_allowed count 0 es
unfolding table_allowed
table_is size count es e = rw (eq-eqb (length es) size e) refl

third_fails : (a b c : Bool) → c ≡ false → every (a ∷ b ∷ c ∷ []) ≡ false
unfolding every
third_fails a b c h = and_false a _ (and_false b _ (last c h))

pub wrong_length : (s : Store) (b : List ℕ) → (length b ≡ mapping_length → ⊥) → allowed s (mapping_of b) ≡ false
unfolding allowed table_allowed mapping_of every
wrong_length s b ne =
    let short : length (drop 2304 b) ≡ length b - 2304 = length-drop 2304 b in
    let off : length (drop 2304 b) ≡ 512 → ⊥ = λ e. ne (omega arith) in
    let t : (eqb (length (drop 2304 b)) 512 && entries_allowed (length s.ops) 0 (drop 2304 b)) ≡ false =
    ap (λ (x : Bool). x && entries_allowed (length s.ops) 0 (drop 2304 b)) (ne_eqb (length (drop 2304 b)) 512 off) in
    third_fails (table_allowed 2048 (length s.values) (take 2048 b)) (table_allowed 256 (length s.blocks) (take 256 (drop 2048 b))) _ t

-- an allowed mapping is of the right length
pub allowed_long : (s : Store) (b : List ℕ) → allowed s (mapping_of b) ≡ true → length b ≡ mapping_length
allowed_long s b h = go (ℕ_discrete (length b) mapping_length)
  where
    go : Dec (length b ≡ mapping_length) → length b ≡ mapping_length
    go (yes e) = e
    go (no ne) = absurd (true≢false (sym h ∙ wrong_length s b ne))

-- the three tables of a buffer of the right length, each of a store's count
pub allowed_is : (C : Cols) (b : List ℕ) → length b ≡ mapping_length
    → allowed (store_of C) (mapping_of b)
    ≡ (entries_allowed (at C counts 3) 0 (take 2048 b) && entries_allowed (at C counts 1) 0 (take 256 (drop 2048 b))) && entries_allowed (at C counts 0) 0 (drop 256 (drop 2048 b))
unfolding allowed mapping_of value_count block_count op_count
allowed_is C b long =
    rw (
      drop-drop 256 2048 b,
      three_tests,
      table_is 2048 (length (store_of C).values) (take 2048 b) (length-take-le 2048 b (omega arith)),
      table_is 256 (length (store_of C).blocks) (take 256 (drop 2048 b)) (length-take-le 256 (drop 2048 b) (omega (arith, length-drop 2048 b))),
      table_is 512 (length (store_of C).ops) (drop 2304 b) (omega (arith, length-drop 2304 b)),
      values_length C,
      blocks_length C,
      ops_length C,
    ) refl
