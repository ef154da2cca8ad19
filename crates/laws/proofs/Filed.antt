-- The filer's law over the code. By its contract a key call has written the rules' key, and `compare_keys` compares as the rules do; by
-- theirs, what a comparison answers is the rules' answer; and of those the filer's law is proved. A field of a store is one of the words
-- that it is read from. Assumes nothing.
use Rattle.rules.specs.declared.types.Cause.{Cause}
use Prim.Native.Nat.{ℕ, zero, suc, ◌+◌, ◌-◌, ◌^◌}
use native.Mathlib.Omega.{arith}
use mathlib.Core.Bool.{Bool, true, false, cond}
use mathlib.Core.List.{List, [], ◌∷◌}
use Rattle.std.specs.Prelude.{Option, None, Some}
use mathlib.Core.Path.{◌≡◌, refl, sym, ap, subst, ◌∙◌}
use borrow.Author.Tests.{ltb-true, lt-ltb}
use lib.Dec.{leb}
use lib.ListN.{length, take, drop}
use lib.Seq.{take-append_seam}
use Rattle.std.specs.List.{list_all}
use Rattle.rules.specs.Store.{Store}
use Rattle.rules.specs.declared.types.Sort.{Sort}
use Rattle.rules.specs.Building.{first_failed}
use Rattle.rules.specs.declared.types.Ignore.{Ignore}
use Rattle.rules.specs.Types.{types_hold, renamed}
use Rattle.rules.specs.Keys.{key_length, key, key_tests, written, keyed_by, keyed, ordering_number, compare_bytes, fits, attribute_fits, op_fits, block_fits, value_fits, fields_fit}
use Rattle.rules.specs.Marks.{MarkedStore}
use Rattle.rules.specs.KeyLaws.{FiledAsEqual, FilersLaw}
use Rattle.rules.specs.TypeLaws.{RenamedSound}
use Rattle.rules.proofs.RenamedTypes.Under.{renamed_sound, renamed_fits}
use Rattle.rules.proofs.Basics.Tests.{and_left, and_right, and_both, every_of, impossible}
use Rattle.rules.proofs.Keys.Filed.{filers_law}
use Rattle.rules.proofs.Keys.Fitting.{all_get_d}
use Rattle.rules.proofs.Marks.Kept.{after_marked_fits}
use Rattle.layout.specs.Columns.{columns, column_size, base, at}
use Rattle.layout.specs.Reading.{tabulate_from, tabulate, kind_from, attribute_at, attributes_from, op_of, block_of, value_of, op_count, block_count, value_count, store_of, store_in}
use Rattle.layout.specs.Journal.{marked_of}
use Rattle.layout.specs.MarkedReading.{journaled_of, sound_lent}
use Rattle.api.specs.Calls.{AfterCalls}
use Rattle.api.proofs.Answering.{after_calls}
use Rattle.keys.specs.Order.{number_of_ordering}
use Rattle.keys.specs.Calls.{keyed_of}
use Rattle.laws.specs.Filing.{Writes, AnswersFile, FilingOfCode, WordsFit}
use Rattle.laws.proofs.Obeyed.{ruled, here, apart, says, said}

-- ---- what was written is the rules' key

module _ (k before : List ℕ) where
  -- an accepted call has written the key, and its length is the answer
  by_answer : (o : Option Cause) (n : ℕ) (left : List ℕ) → (keyed_by o k before).answer ≡ key_length n → (keyed_by o k before).bytes ≡ left → take n left ≡ k
  unfolding keyed_by written
  by_answer None n left a b =
      let e : length k ≡ n = cc in
      ap (λ (m : ℕ). take m left) (sym e) ∙ ap (take (length k)) (sym b) ∙ take-append_seam k (drop (length k) before)
  by_answer (Some cause) n left a b = impossible cc

module _ (b : List ℕ) (sd : sound_lent b ≡ true) (types : List ℕ) (th : types_hold types ≡ true) (ig : Ignore) (f : Sort) where
  -- the store as it is read
  abbrev read : Store
  read = renamed types (store_in b)

  key_said : (x : ℕ) (k : List ℕ) → Writes b types ig f x k → k ≡ key read ig f x
  unfolding keyed keyed_of
  key_said x k w =
      let told = subst (λ (t : Bool). (keyed t (store_in b) types ig f x w.before).answer ≡ key_length w.length) sd w.answered.told in
      let bytes = subst (λ (t : Bool). (keyed t (store_in b) types ig f x w.before).bytes ≡ w.after) sd w.answered.bytes in
      sym w.begin
      ∙ by_answer (key read ig f x) w.before (first_failed (key_tests true (store_in b) types ig f x (length w.before))) w.length w.after told bytes

  answers_file : fields_fit read ≡ true → AnswersFile b types ig f
  unfolding AnswersFile FilersLaw FiledAsEqual RenamedSound
  answers_file fit x y ix iy p q c k l wk wl r o =
      let law = filers_law read (renamed_sound types (store_in b) (ruled b sd types th ig f)) fit ig f x y (here b sd types th ig f x ix) (here b sd types th ig f y iy) (apart b sd types th ig f x y p) in
      let same : ordering_number (compare_bytes (key read ig f x) (key read ig f y)) ≡ number_of_ordering r =
      (λ i. ordering_number (compare_bytes (sym (key_said x k wk) i) (sym (key_said y l wl) i))) ∙ sym o in (
        λ e. says b sd types th ig f x y ix iy q c (law.0 (same ∙ e)),
        λ e. sym same ∙ law.1 (said b sd types th ig f x y ix iy q c e),
      )

pub filing_of_code : FilingOfCode
unfolding FilingOfCode AfterCalls marked_of journaled_of
filing_of_code entry e calls fit buffer made types th small ig f =
    let h = after_calls entry e calls buffer made in
    answers_file buffer h.1 types th ig f (renamed_fits types small (store_in buffer) (subst (λ (t : MarkedStore). fields_fit t.store ≡ true) (sym h.0) (after_marked_fits calls fit)))

-- ---- a store that is read from words

module _ {A : Type 0} (p : A → Bool) where
  all_take : (n : ℕ) (xs : List A) → list_all p xs ≡ true → list_all p (take n xs) ≡ true
  all_take zero xs h = refl
  all_take (suc n) [] h = refl
  all_take (suc n) (x ∷ xs) h = and_both (p x) (list_all p (take n xs)) (and_left (p x) (list_all p xs) h) (all_take n xs (and_right (p x) (list_all p xs) h))

  all_drop : (n : ℕ) (xs : List A) → list_all p xs ≡ true → list_all p (drop n xs) ≡ true
  all_drop zero xs h = h
  all_drop (suc n) [] h = refl
  all_drop (suc n) (x ∷ xs) h = all_drop n xs (and_right (p x) (list_all p xs) h)

  all_from : (i n : ℕ) (f : ℕ → A) → ((k : ℕ) → p (f k) ≡ true) → list_all p (tabulate_from i n f) ≡ true
  unfolding tabulate_from
  all_from i zero f h = refl
  all_from i (suc n) f h = and_both (p (f i)) (list_all p (tabulate_from (suc i) n f)) (h i) (all_from (suc i) n f h)

  all_tabulated : (n : ℕ) (f : ℕ → A) → ((k : ℕ) → p (f k) ≡ true) → list_all p (tabulate n f) ≡ true
  unfolding tabulate
  all_tabulated n f h = all_from 0 n f h

module _ (words : List ℕ) (h : list_all fits words ≡ true) where
  -- any word of any column; past its end 0 is read
  word_fits : (column n : ℕ) → fits (at (columns words) column n) ≡ true
  unfolding at columns
  word_fits column n = all_get_d fits (columns words column) n 0 (all_take fits (column_size column) (drop (base column) words) (all_drop fits (base column) words h)) refl

  -- a kind is at most its word
  kind_fits : (w : ℕ) → fits w ≡ true → fits (kind_from w) ≡ true
  unfolding kind_from
  kind_fits w f = go (leb 64 w)
    where
      go : (b : Bool) → fits (cond b (w - 64) w) ≡ true
      go true = let l = ltb-true w (2 ^ 32) f in lt-ltb (w - 64) (2 ^ 32) (omega arith)
      go false = f

  attributes_fit_lem : (first n : ℕ) → list_all attribute_fits (attributes_from (columns words) first n) ≡ true
  unfolding attributes_from attribute_at attribute_fits
  attributes_fit_lem first n = all_tabulated attribute_fits n _ (λ k. every_of _ (word_fits _ (first + k), (kind_fits _ (word_fits _ (first + k)), (word_fits _ (first + k), tt))))

  op_fits_lem : (n : ℕ) → op_fits (op_of (columns words) n) ≡ true
  unfolding op_of op_fits
  op_fits_lem n = every_of _ (word_fits _ n, (word_fits _ n, (attributes_fit_lem _ _, tt)))

  block_fits_lem : (n : ℕ) → block_fits (block_of (columns words) n) ≡ true
  unfolding block_of block_fits
  block_fits_lem n = every_of _ (word_fits _ n, (attributes_fit_lem _ _, tt))

  value_fits_lem : (n : ℕ) → value_fits (value_of (columns words) n) ≡ true
  unfolding value_of value_fits
  value_fits_lem n = word_fits _ n

pub words_fit : WordsFit
unfolding WordsFit fields_fit store_of
words_fit words h =
    every_of _ (
      all_tabulated op_fits (op_count (columns words)) (op_of (columns words)) (op_fits_lem words h),
      (all_tabulated block_fits (block_count (columns words)) (block_of (columns words)) (block_fits_lem words h), (all_tabulated value_fits (value_count (columns words)) (value_of (columns words)) (value_fits_lem words h), tt)),
    )
