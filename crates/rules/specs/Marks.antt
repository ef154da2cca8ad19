-- 02, order 7: marks to go back to. A marked store is the present store and its set marks. Comparison, hash, key and runs speak of the
-- present store alone; here the building calls are wrapped, and three calls added: two on marks, and order 11's copy.
use Rattle.rules.specs.declared.types.Cause.{Cause}
use Rattle.rules.specs.declared.types.Cause.TheVariants.{BadMapping, NoMark, JournalFull}
use Rattle.std.specs.Prelude.{ℕ, ◌+◌, ◌-◌, Bool, true, false, cond, not, ◌&&◌, ◌||◌, List, [], ◌∷◌, ◌++◌, map, eqb, leb, ltb, length, Option, None, Some}
use Rattle.rules.specs.Lists.{every}
use Rattle.std.specs.List.{list_all, list_any, filter}
use Rattle.rules.specs.Store.{Store, sound}
use Rattle.rules.specs.Building.{Call, new_operation, new_block, set_attribute, set_operand, attributes_of, has_key, tests, first_failed, applied, Built, made, accepted, refused, acceptance}
use Rattle.rules.specs.Keys.{call_fits}
use Rattle.rules.specs.Copying.{copied, copy_tests}

-- a set mark: its number, the store as it stood when it was set (a snapshot), and the replacements made since, undone ones not counted
pub record Mark : Type 0 where
  pub number : ℕ
  pub snapshot : Store
  pub since : ℕ

-- the marks stand in the order of their setting, the oldest first
pub record MarkedStore : Type 0 where
  pub store : Store
  pub marks : List Mark

unfoldable pub unmarked : Store → MarkedStore
unmarked s = record { store = s; marks = [] }

pub data MarkedCall : Type 0 where
  build : Call → MarkedCall
  set_mark : ℕ → MarkedCall
  go_back : ℕ → MarkedCall
  -- "Copying joins the building calls in the laws about call lists": is the lent mapping allowed; the operation; and the block to whose end the
  -- copy goes, or none
  copy : Bool → ℕ → Option ℕ → MarkedCall

-- ---- the tests

-- "Marks 1 to 8"
abbrev pub max_marks : ℕ
max_marks = 8

unfoldable pub is_mark : ℕ → Bool
is_mark k = leb 1 k && leb k max_marks

unfoldable pub has_number : ℕ → Mark → Bool
has_number k m = eqb m.number k

unfoldable pub is_set : ℕ → List Mark → Bool
is_set k marks = list_any (has_number k) marks

-- "Each accepted call that sets an operand, even to the value it has, and each attribute set on a key already there, counts as one"
unfoldable pub replaces : Store → Call → Bool
replaces s (new_operation o) = false
replaces s (new_block b) = false
replaces s (set_attribute w a) = has_key a.key (attributes_of s w)
replaces s (set_operand u) = true

-- "Up to 1,024 replacements after the oldest set mark are remembered"
abbrev pub max_remembered : ℕ
max_remembered = 1024

-- "with no mark set none is remembered"
unfoldable pub remembered : List Mark → ℕ
remembered [] = 0
remembered (m ∷ ms) = m.since

unfoldable pub can_remember : MarkedStore → Call → Bool
can_remember t c = not (replaces t.store c) || ltb (remembered t.marks) max_remembered

-- "16, after 1, for a mark outside 1 to 8, or not set when going back; 17, after 3, for a replacement that can't be remembered": a copy
-- replaces nothing
unfoldable pub marked_tests : MarkedStore → MarkedCall → List (Bool × Cause)
marked_tests t (build c) = tests t.store c ++ ((can_remember t c, JournalFull) ∷ [])
marked_tests t (set_mark k) = (is_mark k, NoMark) ∷ []
marked_tests t (go_back k) = (is_mark k && is_set k t.marks, NoMark) ∷ []
marked_tests t (copy ok n place) = (ok, BadMapping) ∷ copy_tests t.store n place

-- ---- the work of an accepted call

unfoldable pub with_since : ℕ → Mark → Mark
with_since n m = record { number = m.number; snapshot = m.snapshot; since = n }

-- each mark with another number of replacements since
unfoldable pub recounted : (ℕ → ℕ) → List Mark → List Mark
recounted f marks = map (λ (m : Mark). with_since (f m.since) m) marks

-- one replacement more behind each mark, if the call is one
unfoldable pub replaced_once : Bool → List Mark → List Mark
replaced_once r marks = recounted (λ (n : ℕ). cond r (n + 1) n) marks

-- "setting one again moves it": it leaves its place
unfoldable pub without : ℕ → List Mark → List Mark
without k marks = filter (λ (m : Mark). not (has_number k m)) marks

-- "The mark returned to stays set. Marks set after it are void"
unfoldable pub up_to : ℕ → List Mark → List Mark
up_to k [] = []
up_to k (m ∷ ms) = m ∷ cond (has_number k m) [] (up_to k ms)

-- the mark of this number; the other one where it is not set
unfoldable pub mark_or : Mark → ℕ → List Mark → Mark
mark_or other k [] = other
mark_or other k (m ∷ ms) = cond (has_number k m) m (mark_or other k ms)

-- "each name the store's present state"
unfoldable pub new_mark : ℕ → Store → Mark
new_mark k s = record { number = k; snapshot = s; since = 0 }

-- "Going back restores every table and every replaced attribute and operand", "and going back forgets those it undoes"
unfoldable pub gone_back : Mark → MarkedStore → MarkedStore
gone_back m t = record { store = m.snapshot; marks = recounted (λ (n : ℕ). n - m.since) (up_to m.number t.marks) }

-- a copy's keys are new ones, and no replacements: the marks stay as they are
unfoldable pub marked_applied : MarkedStore → MarkedCall → MarkedStore
marked_applied t (build c) = record { store = applied t.store c; marks = replaced_once (replaces t.store c) t.marks }
marked_applied t (set_mark k) = record { store = t.store; marks = without k t.marks ++ (new_mark k t.store ∷ []) }
marked_applied t (go_back k) = gone_back (mark_or (new_mark k t.store) k t.marks) t
marked_applied t (copy ok n place) = record { store = copied t.store n place; marks = t.marks }

-- ---- answers, as of building calls; a copy's is its number

unfoldable pub marked_acceptance : MarkedStore → MarkedCall → Built
marked_acceptance t (build c) = acceptance t.store c
marked_acceptance t (set_mark k) = accepted
marked_acceptance t (go_back k) = accepted
marked_acceptance t (copy ok n place) = made (length t.store.ops)

unfoldable pub marked_answer_by : Option Cause → MarkedStore → MarkedCall → Built
marked_answer_by None t c = marked_acceptance t c
marked_answer_by (Some cause) t c = refused cause

unfoldable pub marked_by : Option Cause → MarkedStore → MarkedCall → MarkedStore
marked_by None t c = marked_applied t c
marked_by (Some cause) t c = t

-- the answer of a call, and the marked store after it; a refused call changes nothing
unfoldable pub marked_answer : MarkedStore → MarkedCall → Built
marked_answer t c = marked_answer_by (first_failed (marked_tests t c)) t c

unfoldable pub marked : MarkedStore → MarkedCall → MarkedStore
marked t c = marked_by (first_failed (marked_tests t c)) t c

-- after a list of calls, refused ones among them
unfoldable pub after_marked : MarkedStore → List MarkedCall → MarkedStore
after_marked t [] = t
after_marked t (c ∷ cs) = after_marked (marked t c) cs

-- ---- soundness

-- numbers from 1 to 8, none twice; the younger a mark, the fewer replacements since; never more than are remembered
unfoldable pub marks_hold : ℕ → List Mark → Bool
marks_hold most [] = true
marks_hold most (m ∷ ms) =
    every (is_mark m.number ∷ not (is_set m.number ms) ∷ leb m.since most ∷ marks_hold m.since ms ∷ [])

unfoldable pub snapshots_sound : List Mark → Bool
snapshots_sound marks = list_all (λ (m : Mark). sound m.snapshot) marks

-- "A store is sound only if going back to any set mark, then to any still set, and so on, would each time give tables that are sound by
-- document 01's rules"
unfoldable pub sound_marked : MarkedStore → Bool
sound_marked t = every (sound t.store ∷ snapshots_sound t.marks ∷ marks_hold max_remembered t.marks ∷ [])

-- ---- calls, as the laws speak of them

-- a call that sets mark k, accepted or not
unfoldable pub sets : ℕ → MarkedCall → Bool
sets k (build c) = false
sets k (set_mark j) = eqb k j
sets k (go_back j) = false
sets k (copy ok n place) = false

-- the arguments of a building call that become fields are below 2^32; a copy's fields are the store's own
unfoldable pub marked_call_fits : MarkedCall → Bool
marked_call_fits (build c) = call_fits c
marked_call_fits (set_mark k) = true
marked_call_fits (go_back k) = true
marked_call_fits (copy ok n place) = true
