-- How marks are remembered without copies of the tables: a journal of what was replaced and of which keys came new, the oldest entry first; and
-- for each set mark how many there were of everything, and how long the journal was. Going back undoes the journal, the newest entry first,
-- and cuts the tables.
use Rattle.rules.specs.declared.types.Cause.{Cause}
use Rattle.std.specs.Prelude.{ℕ, ◌-◌, Bool, true, false, cond, not, ◌&&◌, List, [], ◌∷◌, ◌++◌, map, eqb, leb, length, get_or, take, drop, Option}
use Rattle.rules.specs.Lists.{every, update_at}
use Rattle.std.specs.List.{list_any, filter}
use Rattle.rules.specs.Store.{Store, Op, Block, op_at, owner_exists, sound, max_attribute_kind}
use Rattle.rules.specs.declared.types.Attribute.{Attribute}
use Rattle.rules.specs.declared.types.Owner.{Owner}
use Rattle.rules.specs.declared.types.Owner.TheVariants.{Op as of_op, Block as of_block}
use Rattle.rules.specs.Building.{Call, new_operation, new_block, set_attribute, set_operand, attributes_of, has_key, tests, applied}
use Rattle.rules.specs.Copying.{copied}
use Rattle.rules.specs.Marks.{Mark, MarkedStore, is_mark, max_remembered}

pub data Entry : Type 0 where
  -- operand i of operation n was this value
  operand_was : ℕ → ℕ → ℕ → Entry
  -- the owner's attribute of this key was this one
  attribute_was : Owner → Attribute → Entry
  -- the owner had no such key
  key_was_none : Owner → ℕ → Entry

-- ---- undoing

unfoldable pub without_key : ℕ → List Attribute → List Attribute
without_key k as' = filter (λ (a : Attribute). not (eqb a.key k)) as'

unfoldable pub op_without_key : ℕ → Op → Op
op_without_key k o =
    record {
      kind = o.kind;
      parent = o.parent;
      location = o.location;
      operands = o.operands;
      successors = o.successors;
      attributes = without_key k o.attributes;
    }

unfoldable pub block_without_key : ℕ → Block → Block
block_without_key k b = record { region = b.region; location = b.location; attributes = without_key k b.attributes }

unfoldable pub key_taken : Store → Owner → ℕ → Store
key_taken s (of_op n) k = record { ops = update_at (op_without_key k) n s.ops; blocks = s.blocks; regions = s.regions; values = s.values }
key_taken s (of_block b) k =
    record { ops = s.ops; blocks = update_at (block_without_key k) b s.blocks; regions = s.regions; values = s.values }

-- a replacement is undone by the same call with what was there
unfoldable pub undone : Entry → Store → Store
undone (operand_was n i v) s = applied s (set_operand (record { operation = n; index = i; value = v }))
undone (attribute_was w a) s = applied s (set_attribute w a)
undone (key_was_none w k) s = key_taken s w k

-- the newest, which is the last, first
unfoldable pub undone_all : List Entry → Store → Store
undone_all [] s = s
undone_all (e ∷ es) s = undone e (undone_all es s)

-- how many there are of operations, blocks, regions and values
pub record Counts : Type 0 where
  pub ops : ℕ
  pub blocks : ℕ
  pub regions : ℕ
  pub values : ℕ

unfoldable pub counts_of : Store → Counts
counts_of s =
    record { ops = length s.ops; blocks = length s.blocks; regions = length s.regions; values = length s.values }

-- what was made since goes
unfoldable pub cut_to : Counts → Store → Store
cut_to k s =
    record {
      ops = take k.ops s.ops;
      blocks = take k.blocks s.blocks;
      regions = take k.regions s.regions;
      values = take k.values s.values;
    }

-- ---- remembering

-- the attribute of a key; the other one where there is none
unfoldable pub attribute_or : Attribute → ℕ → List Attribute → Attribute
attribute_or other k [] = other
attribute_or other k (a ∷ as') = cond (eqb a.key k) a (attribute_or other k as')

-- what an accepted call replaces or brings, as it was
unfoldable pub entries_for : Store → Call → List Entry
entries_for s (new_operation o) = []
entries_for s (new_block b) = []
entries_for s (set_attribute w a) =
    cond (has_key a.key (attributes_of s w)) (attribute_was w (attribute_or a a.key (attributes_of s w))) (key_was_none w a.key) ∷ []
entries_for s (set_operand u) = operand_was u.operation u.index (get_or (op_at s u.operation).operands u.index 0) ∷ []

-- new keys are no replacements
unfoldable pub is_replaced : Entry → Bool
is_replaced (operand_was n i v) = true
is_replaced (attribute_was w a) = true
is_replaced (key_was_none w k) = false

unfoldable pub replaced_in : List Entry → ℕ
replaced_in journal = length (filter is_replaced journal)

-- ---- a store with a journal and marks

-- a set mark: its number, the counts at its setting, and its place in the journal, which is the journal's length at its setting
pub record MarkRow : Type 0 where
  pub number : ℕ
  pub counts : Counts
  pub place : ℕ

-- the rows stand in the order of setting, the oldest first; the oldest has place 0
pub record Journaled : Type 0 where
  pub store : Store
  pub journal : List Entry
  pub rows : List MarkRow

unfoldable pub snapshot_of : Store → List Entry → MarkRow → Store
snapshot_of s journal r = cut_to r.counts (undone_all (drop r.place journal) s)

unfoldable pub mark_of : Store → List Entry → MarkRow → Mark
mark_of s journal r = record { number = r.number; snapshot = snapshot_of s journal r; since = replaced_in (drop r.place journal) }

-- what it is read as
unfoldable pub marked_of : Journaled → MarkedStore
marked_of j = record { store = j.store; marks = map (mark_of j.store j.journal) j.rows }

-- ---- the work of accepted calls

unfoldable pub row_has_number : ℕ → MarkRow → Bool
row_has_number k r = eqb r.number k

-- "with no mark set none is remembered"
unfoldable pub remembered_in : List MarkRow → List Entry → List Entry → List Entry
remembered_in [] journal new = []
remembered_in (r ∷ rs) journal new = journal ++ new

unfoldable pub journaled_call : Journaled → Call → Journaled
journaled_call j c =
    record { store = applied j.store c; journal = remembered_in j.rows j.journal (entries_for j.store c); rows = j.rows }

-- order 11: a copy only adds behind the tables, so nothing is remembered of it
unfoldable pub journaled_copy : Journaled → ℕ → Option ℕ → Journaled
journaled_copy j n place = record { store = copied j.store n place; journal = j.journal; rows = j.rows }

-- where the oldest mark stands in the journal: nothing before it is needed
unfoldable pub oldest_place : List MarkRow → ℕ
oldest_place [] = 0
oldest_place (r ∷ rs) = r.place

unfoldable pub placed_back : ℕ → MarkRow → MarkRow
placed_back n r = record { number = r.number; counts = r.counts; place = r.place - n }

-- the journal before the oldest mark is freed
unfoldable pub freed : Journaled → Journaled
freed j =
    let n = oldest_place j.rows in
    record { store = j.store; journal = drop n j.journal; rows = map (placed_back n) j.rows }

unfoldable pub rows_without : ℕ → List MarkRow → List MarkRow
rows_without k rows = filter (λ (r : MarkRow). not (row_has_number k r)) rows

unfoldable pub journaled_mark : Journaled → ℕ → Journaled
journaled_mark j k =
    freed
    (record {
      store = j.store;
      journal = j.journal;
      rows = rows_without k j.rows ++ (record { number = k; counts = counts_of j.store; place = length j.journal } ∷ []);
    })

unfoldable pub rows_up_to : ℕ → List MarkRow → List MarkRow
rows_up_to k [] = []
rows_up_to k (r ∷ rs) = r ∷ cond (row_has_number k r) [] (rows_up_to k rs)

unfoldable pub row_or : MarkRow → ℕ → List MarkRow → MarkRow
row_or other k [] = other
row_or other k (r ∷ rs) = cond (row_has_number k r) r (row_or other k rs)

-- the journal behind the mark is undone and forgotten
unfoldable pub journaled_back : Journaled → MarkRow → Journaled
journaled_back j r =
    record {
      store = snapshot_of j.store j.journal r;
      journal = take r.place j.journal;
      rows = rows_up_to r.number j.rows;
    }

-- ---- soundness

-- the entry can be undone: what it names is there, and what was there fits
unfoldable pub undoable : Entry → Store → Bool
undoable (operand_was n i v) s = every (map (λ (t : Bool × Cause). t.0) (tests s (set_operand (record { operation = n; index = i; value = v }))))
undoable (attribute_was w a) s = every (leb a.kind max_attribute_kind ∷ owner_exists s w ∷ has_key a.key (attributes_of s w) ∷ [])
undoable (key_was_none w k) s = every (owner_exists s w ∷ has_key k (attributes_of s w) ∷ [])

-- and so can each before it, from the newest on
unfoldable pub undoable_all : List Entry → Store → Bool
undoable_all [] s = true
undoable_all (e ∷ es) s = undoable_all es s && undoable e (undone_all es s)

-- the tables and the journal as they stood when the first of these younger marks was set; as they stand now where there is none
unfoldable pub store_before : Store → List Entry → List MarkRow → Store
store_before s journal [] = s
store_before s journal (r ∷ rs) = snapshot_of s journal r

unfoldable pub journal_before : List Entry → List MarkRow → List Entry
journal_before journal [] = journal
journal_before journal (r ∷ rs) = take r.place journal

-- each mark can be gone back to from the one after it, and from now: the journal between can be undone, and the tables are sound
unfoldable pub steps_back : Store → List Entry → List MarkRow → Bool
steps_back s journal [] = true
steps_back s journal (r ∷ rs) =
    every
    (undoable_all (drop r.place (journal_before journal rs)) (store_before s journal rs)
    ∷ sound (snapshot_of s journal r)
    ∷ steps_back s journal rs
    ∷ [])

unfoldable pub counts_within : Counts → Counts → Bool
counts_within a b = every (leb a.ops b.ops ∷ leb a.blocks b.blocks ∷ leb a.regions b.regions ∷ leb a.values b.values ∷ [])

unfoldable pub no_counts : Counts
no_counts = record { ops = 0; blocks = 0; regions = 0; values = 0 }

-- marks from 1 to 8, none twice, whose places and counts don't fall from the older to the younger, nor to what there is now
unfoldable pub rows_hold : ℕ → Counts → Journaled → List MarkRow → Bool
rows_hold place counts j [] = leb place (length j.journal) && counts_within counts (counts_of j.store)
rows_hold place counts j (r ∷ rs) =
    every
    (is_mark r.number
    ∷ not (list_any (row_has_number r.number) rs)
    ∷ leb place r.place
    ∷ counts_within counts r.counts
    ∷ rows_hold r.place r.counts j rs
    ∷ [])

-- nothing is remembered from before the oldest mark, or without one
unfoldable pub none_older : List MarkRow → List Entry → Bool
none_older [] journal = eqb (length journal) 0
none_older (r ∷ rs) journal = eqb r.place 0

unfoldable pub journal_sound : Journaled → Bool
journal_sound j =
    every
    (sound j.store
    ∷ rows_hold 0 no_counts j j.rows
    ∷ none_older j.rows j.journal
    ∷ leb (replaced_in j.journal) max_remembered
    ∷ steps_back j.store j.journal j.rows
    ∷ [])
