-- Marks set and gone back to in small stores: what is answered, what is restored, and what is remembered; and copies between marks.
use Rattle.rules.specs.declared.types.Cause.TheVariants.{NotThere, BadMapping, NoMark, JournalFull}
use Rattle.std.specs.Prelude.{true, false, ℕ, List, [], ◌∷◌, ◌≡◌, None}
use Rattle.rules.specs.Store.{empty_store, op_at}
use Rattle.rules.specs.declared.types.Attribute.{Attribute}
use Rattle.rules.specs.declared.types.Owner.TheVariants.{Op as of_op}
use Rattle.rules.specs.Building.{Call, set_attribute, Built, made, accepted, refused, attributes_of, after}
use Rattle.rules.specs.Marks.{MarkedStore, unmarked, MarkedCall, build, set_mark, go_back, copy, remembered, marked_answer, after_marked}
use Rattle.rules.specs.Cases.{attribute, inherent_one, operation, first_operand}

-- the answer of a call after these from the empty store
abbrev pub answer_to : List MarkedCall → MarkedCall → Built
answer_to calls c = marked_answer (after_marked (unmarked empty_store) calls) c

-- an operation with a result, and one with that result as operand
abbrev pub two : List Call
two = operation 1 (3 ∷ []) [] ∷ operation 2 [] (0 ∷ []) ∷ []

abbrev pub with_two : List MarkedCall → MarkedStore
with_two calls = after_marked (unmarked (after empty_store two)) calls

-- the operand of the second one becomes this value
abbrev pub operand : ℕ → MarkedCall
operand v = build (first_operand 1 v)

-- key 1 of the second one is set to this content
abbrev pub content : ℕ → MarkedCall
content n = build (set_attribute (of_op 1) (attribute 1 5 n))

abbrev pub attributes_then : List MarkedCall → List Attribute
attributes_then calls = attributes_of (with_two calls).store (of_op 1)

abbrev pub remembered_then : List MarkedCall → ℕ
remembered_then calls = remembered (with_two calls).marks

-- mark 1 set at the two operations, with so many replacements since
abbrev pub since : ℕ → MarkedStore
since n = record { store = after empty_store two; marks = record { number = 1; snapshot = after empty_store two; since = n } ∷ [] }

-- `mark_cases_hold`
pub record MarkCases : Type 0 where
  -- marks 1 to 8
  pub lowest : answer_to [] (set_mark 1) ≡ accepted
  pub highest : answer_to [] (set_mark 8) ≡ accepted
  pub set_zero : answer_to [] (set_mark 0) ≡ refused NoMark
  pub set_nine : answer_to [] (set_mark 9) ≡ refused NoMark
  pub back_zero : answer_to [] (go_back 0) ≡ refused NoMark
  pub back_nine : answer_to [] (go_back 9) ≡ refused NoMark
  -- not set when going back
  pub none_set : answer_to [] (go_back 1) ≡ refused NoMark
  pub other_set : answer_to (set_mark 2 ∷ []) (go_back 1) ≡ refused NoMark
  -- the mark returned to stays set, and marks set after it are void: a younger one, and an older one that was set again
  pub stays : answer_to (set_mark 1 ∷ go_back 1 ∷ []) (go_back 1) ≡ accepted
  pub younger : answer_to (set_mark 1 ∷ set_mark 2 ∷ go_back 1 ∷ []) (go_back 2) ≡ refused NoMark
  pub moved : answer_to (set_mark 1 ∷ set_mark 2 ∷ set_mark 1 ∷ go_back 2 ∷ []) (go_back 1) ≡ refused NoMark
  -- a key that was there is restored, though replaced twice, and so is an operand; a key that was not there is taken away
  pub key_restored : attributes_then (content 10 ∷ set_mark 1 ∷ content 20 ∷ content 30 ∷ go_back 1 ∷ []) ≡ attribute 1 5 10 ∷ []
  pub flag_restored :
      attributes_then (build (set_attribute (of_op 1) (inherent_one 1 5 10)) ∷ set_mark 1 ∷ content 20 ∷ go_back 1 ∷ []) ≡ inherent_one 1 5 10 ∷ []
  pub key_gone : attributes_then (set_mark 1 ∷ content 20 ∷ content 30 ∷ go_back 1 ∷ []) ≡ []
  pub operand_restored : (op_at (with_two (set_mark 1 ∷ build (operation 1 (3 ∷ []) []) ∷ operand 1 ∷ go_back 1 ∷ [])).store 1).operands ≡ 0 ∷ []
  -- numbers given since are given again
  pub given : answer_to (set_mark 1 ∷ []) (build (operation 1 [] [])) ≡ made 0
  pub given_again : answer_to (set_mark 1 ∷ build (operation 1 [] []) ∷ go_back 1 ∷ []) (build (operation 1 [] [])) ≡ made 0
  -- what counts: an operand set, even to the value that it has, and a key that is there; not a new key, and nothing while no mark is set
  pub same_operand : remembered_then (set_mark 1 ∷ operand 0 ∷ []) ≡ 1
  pub key_there : remembered_then (set_mark 1 ∷ content 10 ∷ content 20 ∷ []) ≡ 1
  pub new_key : remembered_then (set_mark 1 ∷ content 10 ∷ []) ≡ 0
  pub no_mark : remembered_then (operand 0 ∷ set_mark 1 ∷ []) ≡ 0
  pub refused_one : remembered_then (set_mark 1 ∷ operand 9 ∷ []) ≡ 0
  -- on an operation made after every mark too
  pub new_owner : remembered_then (set_mark 1 ∷ build (operation 2 [] (0 ∷ [])) ∷ build (first_operand 2 0) ∷ []) ≡ 1
  -- going back forgets what it undoes, and no more
  pub forgotten : remembered_then (set_mark 1 ∷ operand 0 ∷ set_mark 2 ∷ operand 0 ∷ operand 0 ∷ go_back 2 ∷ []) ≡ 1
  pub all_forgotten : remembered_then (set_mark 1 ∷ operand 0 ∷ set_mark 2 ∷ operand 0 ∷ operand 0 ∷ go_back 1 ∷ []) ≡ 0
  -- the oldest mark set again: what lies before the next one is forgotten
  pub oldest_moved :
      remembered_then (set_mark 1 ∷ operand 0 ∷ operand 0 ∷ operand 0 ∷ set_mark 2 ∷ operand 0 ∷ operand 0 ∷ set_mark 1 ∷ []) ≡ 2
  -- 1,024 are remembered; then a replacement answers 17, after the causes of the call, and a new key is accepted
  pub last_remembered : marked_answer (since 1023) (operand 0) ≡ accepted
  pub no_room : marked_answer (since 1024) (operand 0) ≡ refused JournalFull
  pub no_room_for_key : marked_answer (after_marked (since 1024) (content 10 ∷ [])) (content 20) ≡ refused JournalFull
  pub new_key_still : marked_answer (since 1024) (content 10) ≡ accepted
  pub cause_first : marked_answer (since 1024) (operand 9) ≡ refused NotThere
  pub unmarked_still : marked_answer (unmarked (since 1024).store) (operand 0) ≡ accepted
  pub room_again : marked_answer (after_marked (since 1024) (go_back 1 ∷ [])) (operand 0) ≡ accepted
  -- a copy is taken away by going back, and its number given again; of a copy and a copy of the copy, the one behind the mark
  pub copy_gone : (with_two (set_mark 1 ∷ copy true 1 None ∷ go_back 1 ∷ [])).store ≡ after empty_store two
  pub copy_again : marked_answer (with_two (set_mark 1 ∷ copy true 1 None ∷ go_back 1 ∷ [])) (copy true 1 None) ≡ made 2
  pub copy_of_copy : marked_answer (with_two (set_mark 1 ∷ copy true 1 None ∷ set_mark 2 ∷ [])) (copy true 2 None) ≡ made 3
  pub first_stays : (with_two (set_mark 1 ∷ copy true 1 None ∷ set_mark 2 ∷ copy true 2 None ∷ go_back 2 ∷ [])).store ≡ (with_two (copy true 1 None ∷ [])).store
  pub both_gone : (with_two (set_mark 1 ∷ copy true 1 None ∷ set_mark 2 ∷ copy true 2 None ∷ go_back 1 ∷ [])).store ≡ after empty_store two
  -- its keys don't count, and one set on it afterwards does; with 1,024 remembered it is accepted still
  pub copy_uncounted : remembered_then (content 10 ∷ set_mark 1 ∷ copy true 1 None ∷ []) ≡ 0
  pub copys_key : remembered_then (content 10 ∷ set_mark 1 ∷ copy true 1 None ∷ build (set_attribute (of_op 2) (attribute 1 5 20)) ∷ []) ≡ 1
  pub copy_still : marked_answer (after_marked (since 1024) (content 10 ∷ [])) (copy true 1 None) ≡ made 2
  pub copy_refused : marked_answer (since 1024) (copy true 2 None) ≡ refused NotThere
  pub not_allowed : marked_answer (since 1024) (copy false 2 None) ≡ refused BadMapping
