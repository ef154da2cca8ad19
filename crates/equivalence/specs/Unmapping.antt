-- Where the entries are that a comparison has made in an empty mapping, and the search for them.
use Rattle.std.specs.Prelude.{◌≡◌, ℕ, ◌+◌, ◌-◌, ◌<◌, ◌≤◌, Bool, true, cond, ◌⊎◌, List, replicate, nat_lt, slice_index_or}
use Rattle.rules.specs.declared.types.Owner.{Owner}
use Rattle.rules.specs.declared.types.Owner.TheVariants.{Op as of_op, Block as of_block}
use Rattle.rules.specs.Mapping.{no_image}
use Rattle.rules.specs.Lists.{count_below}
use Rattle.layout.specs.Columns.{Cols, at, pasted, op_result_first, op_result_end, block_argument_first, block_argument_end, value_owner}
use Rattle.layout.specs.Reading.{op_count, block_count, value_count, owner_from}
use Rattle.equivalence.specs.declared.entries.Entries.{Entries}
use Rattle.equivalence.specs.declared.entries.Search.{Search}

-- ---- what is found

-- word k has no image, or lies in the range from a up to e, or else
unfoldable pub Held : List ℕ → ℕ → ℕ → ℕ → Type 0 → Type 0
Held w k a e P = (slice_index_or w k no_image ≡ no_image) ⊎ (((a ≤ k) × (k < e)) ⊎ P)

pub record EntriesIn (w : List ℕ) (r : Entries) : Type 0 where
  pub held : (k : ℕ) → Held w k r.value r.end ((r.owner ≤ k) × (k < r.past))
  pub values_fit : r.end ≤ 2816
  pub owners_fit : r.past ≤ 2816

-- all of a mapping
unfoldable pub whole_mapping : Entries
whole_mapping = record { value = 0; end = 2048; owner = 2048; past = 2816 }

-- the words with no image from a up to e
unfoldable pub blanked : List ℕ → ℕ → ℕ → List ℕ
blanked w a e = cond (nat_lt a e) (pasted w a (replicate (e - a) no_image)) w

-- ---- the search

-- the word that has a block's or an operation's entry
unfoldable pub owner_word : Owner → ℕ
owner_word (of_block b) = 2048 + b
owner_word (of_op n) = 2304 + n

-- word i has the entry of one that exists
pub record OwnerAt (C : Cols) (i : ℕ) : Type 0 where
  pub from : 2048 ≤ i
  pub block : i < 2304 → i - 2048 < block_count C
  pub op : 2304 ≤ i → i - 2304 < op_count C

-- its values, as its row has them
unfoldable pub first_value : Cols → ℕ → ℕ
first_value C i = cond (nat_lt i 2304) (at C block_argument_first (i - 2048)) (at C op_result_first (i - 2304))

unfoldable pub end_value : Cols → ℕ → ℕ
end_value C i = cond (nat_lt i 2304) (at C block_argument_end (i - 2048)) (at C op_result_end (i - 2304))

pub record OwnValuesAt (C : Cols) (i first end : ℕ) : Type 0 where
  pub begins : first ≡ first_value C i
  pub ends : end ≡ end_value C i
  pub fits : end_value C i ≤ 2048

-- each of these words has the entry of a block or an operation that exists
pub record OwnersAt (C : Cols) (from to : ℕ) : Type 0 where
  pub rises : from ≤ to
  pub ends : to ≤ 2816
  pub each : (i : ℕ) → from ≤ i → i < to → OwnerAt C i

-- the next so many blocks or operations, whose entries begin with word base, of which there are so many
pub record SeenOf (base count from to : ℕ) : Type 0 where
  pub begins : base ≤ from
  pub rises : from ≤ to
  pub ends : to ≤ base + count

-- the search has looked at words before i alone: which blocks and operations may have an entry that is not found, no more of them than are
-- left; every entry of a value is found, or its owner's is not; every other entry is found, or is one of these
pub record Searched (C : Cols) (w : List ℕ) (i : ℕ) (s : Search) : Type 0 where
  pub unfound : ℕ → Bool
  pub few : count_below 768 (λ (k : ℕ). unfound (2048 + k)) ≤ s.left
  pub values : (v : ℕ) → v < 2048
      → Held w v s.found.value s.found.end ((v < value_count C) × (unfound (owner_word (owner_from (at C value_owner v))) ≡ true))
  pub owners : (k : ℕ) → 2048 ≤ k → Held w k s.found.owner s.found.past (unfound k ≡ true)
  pub ahead : (k : ℕ) → i ≤ k → (slice_index_or w k no_image ≡ no_image) ⊎ (unfound k ≡ true)
  pub values_fit : s.found.end ≤ 2048
  pub owners_fit : s.found.past ≤ 2816

-- one more is found, at word i, with its values
pub record Widened (C : Cols) (i : ℕ) (s r : Search) : Type 0 where
  pub left : r.left + 1 ≡ s.left
  pub values : (r.found.value ≤ s.found.value) × (s.found.end ≤ r.found.end)
  pub own : (r.found.value ≤ first_value C i) × (end_value C i ≤ r.found.end)
  pub owners : (r.found.owner ≤ s.found.owner) × (s.found.past ≤ r.found.past)
  pub word : (r.found.owner ≤ i) × (i < r.found.past)
  pub fit : (s.found.end ≤ 2048 → r.found.end ≤ 2048) × (s.found.past ≤ 2816 → r.found.past ≤ 2816)
