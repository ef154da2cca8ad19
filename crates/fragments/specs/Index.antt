-- A list of renamed types, as a walk reads it: its rows, each with its old and its present type, and for each of 64 buckets a chain of the
-- rows whose old types fall into it. No words at all are the index of the empty list.
use Rattle.std.specs.Prelude.{ℕ, ◌+◌, ◌-◌, ◌*◌, ◌/◌, ◌%◌, ◌<◌, ◌≤◌, Bool, true, false, not, List, [], ◌∷◌, ◌≢◌, ◌≡◌, length, get_or, take, drop, Option, Some, None}
use Rattle.std.specs.List.{list_all}
use Rattle.rules.specs.Types.{old_types, present_types, stands_in, each_once, types_hold}

abbrev pub bucket_count : ℕ
bucket_count = 64

-- the rows behind the buckets: old type, present type, and the row before it in its chain, counted from 1, or 0 for none
unfoldable pub rows_in : List ℕ → List ℕ
rows_in [] = []
rows_in (old ∷ []) = []
rows_in (old ∷ now ∷ []) = []
rows_in (old ∷ now ∷ link ∷ rows) = old ∷ now ∷ rows_in rows

-- the list of renamed types that the words are an index of
unfoldable pub list_in : List ℕ → List ℕ
list_in w = rows_in (drop bucket_count w)

-- ---- words

-- the length of an index with room for the longest list
abbrev pub index_length : ℕ
index_length = 256

-- the bucket of an old type
unfoldable pub bucket_of : ℕ → ℕ
bucket_of t = t * 2654435769 % 4294967296 / 67108864

abbrev pub old_at : List ℕ → ℕ → ℕ
old_at w i = get_or w (64 + 3 * i) 0

abbrev pub now_at : List ℕ → ℕ → ℕ
now_at w i = get_or w (65 + 3 * i) 0

abbrev pub link_at : List ℕ → ℕ → ℕ
link_at w i = get_or w (66 + 3 * i) 0

abbrev pub head_at : List ℕ → ℕ → ℕ
head_at w b = get_or w b 0

-- ---- chains

-- k, counted from 1, is the last row below `upto` whose old type falls into the bucket; it is 0 where there is none
pub record Link (w : List ℕ) (b upto k : ℕ) : Type 0 where
  pub low : k ≤ upto
  pub none : (j : ℕ) → k ≤ j → j < upto → bucket_of (old_at w j) ≢ b
  pub last : 0 < k → bucket_of (old_at w (k - 1)) ≡ b

-- the first n rows are entered: each bucket's chain has its rows, from the last to the first, and no old type stands in two rows
pub record Entered (w : List ℕ) (n : ℕ) : Type 0 where
  pub room : 64 + 3 * n ≤ length w
  pub heads : (b : ℕ) → b < 64 → Link w b n (head_at w b)
  pub links : (i : ℕ) → i < n → Link w (bucket_of (old_at w i)) i (link_at w i)
  pub apart : (i j : ℕ) → i < j → j < n → old_at w i ≢ old_at w j

-- some rows are entered
pub record Chained (w : List ℕ) : Type 0 where
  pub rows : ℕ
  pub entered : Entered w rows

-- r is the row below n whose old type is t
pub record FoundAt (w : List ℕ) (n t r : ℕ) : Type 0 where
  pub low : r < n
  pub there : old_at w r ≡ t

-- the row below n whose old type is t, if there is one
abbrev pub Found : List ℕ → ℕ → ℕ → Option ℕ → Type 0
Found w n t (Some r) = FoundAt w n t r
Found w n t None = (j : ℕ) → j < n → old_at w j ≢ t

-- however many rows are entered, r is the one among them
abbrev pub Finds : List ℕ → ℕ → Option ℕ → Type 0
Finds w t r = (n : ℕ) → Entered w n → Found w n t r

-- ---- an index

pub record Table (w : List ℕ) : Type 0 where
  pub rows : ℕ
  pub few : rows ≤ 64
  pub long : length w ≡ 64 + 3 * rows
  pub entered : Entered w rows
  pub holds : types_hold (list_in w) ≡ true

pub data IsIndex (w : List ℕ) : Type 0 where
  nothing : w ≡ [] → IsIndex w
  table : Table w → IsIndex w

-- the list holds, and the first n words, at least one, are its index
pub record IsIndexed (types index : List ℕ) (n : ℕ) : Type 0 where
  pub holds : types_hold types ≡ true
  pub some : 0 < n
  pub low : n ≤ length index
  pub is_index : IsIndex (take n index)
  pub list : list_in (take n index) ≡ types

-- so many words are the index of the list; None where the list doesn't hold
abbrev pub Indexes : List ℕ → List ℕ → Option ℕ → Type 0
Indexes types index (Some n) = IsIndexed types index n
Indexes types index None = types_hold types ≡ false

-- ---- how one is made

-- row k is entered behind k others
pub record Adds (w : List ℕ) (k t p : ℕ) (w' : List ℕ) : Type 0 where
  pub old : old_at w' k ≡ t
  pub now : now_at w' k ≡ p
  pub link : link_at w' k ≡ head_at w (bucket_of t)
  pub head : head_at w' (bucket_of t) ≡ k + 1
  pub heads : (b : ℕ) → b < 64 → b ≢ bucket_of t → head_at w' b ≡ head_at w b
  pub rows : (i : ℕ) → 64 ≤ i → i < 64 + 3 * k → get_or w' i 0 ≡ get_or w i 0

-- whole rows, and no more than an index has room for
pub record WholeAndFew (types : List ℕ) : Type 0 where
  pub whole : length types % 2 ≡ 0
  pub few : length types ≤ 128

-- the first n rows of the index are those of the list
pub record Rows (types index : List ℕ) (n : ℕ) : Type 0 where
  pub entered : Entered index n
  pub olds : (i : ℕ) → i < n → old_at index i ≡ get_or types (2 * i) 0
  pub nows : (i : ℕ) → i < n → now_at index i ≡ get_or types (2 * i + 1) 0

-- no present type has a row: the last test of `types_hold`
abbrev pub none_renamed : List ℕ → Bool
none_renamed types = list_all (λ (t : ℕ). not (stands_in (old_types types) t)) (present_types types)

-- all rows are entered, or an old type is given twice
pub record EntersRows (types index : List ℕ) (q : Bool) : Type 0 where
  pub told : q ≡ each_once (old_types types)
  pub rows : q ≡ true → Rows types index (length types / 2)
