-- A small meaning and what runs by it come to, so that neither meanings nor runs are empty words: there are runs that loop by a jump, enter
-- a region twice, leave, fall, jump outwards, are stuck and are spent, and unequal fragments that end differently.
use Rattle.std.specs.Prelude.{ℕ, zero, suc, ◌+◌, true, false, cond, List, [], ◌∷◌, ◌++◌, ◌≡◌, ltb, get_or, Option, None, Some}
use Rattle.rules.specs.Lists.{sum}
use Rattle.rules.specs.Store.{Store, empty_store, sound}
use Rattle.rules.specs.declared.types.Sort.{Sort}
use Rattle.rules.specs.declared.types.Sort.TheVariants.{Op as op, Block as block, Region as region}
use Rattle.rules.specs.Building.{Call, new_operation, after}
use Rattle.rules.specs.Laws.{equal}
use Rattle.rules.specs.Independence.{independent}
use Rattle.rules.specs.Runs.{same_runs}
use Rattle.rules.specs.Cases.{ignoring, operation, enclosing, block_in, first_operand}
use Rattle.semantics.specs.Meaning.{Act, give, jump, leave, enter, Meaning}
use Rattle.semantics.specs.Machine.{Registers, passed, left, jumped, stuck, spent, Ran, run_code, run_fragment, run_ops}
use Rattle.semantics.specs.Replaced.{all_replaced}
use Rattle.semantics.specs.SameWork.{none_early}

-- ---- the meaning: data are numbers, and the world counts steps and arrivals

pub record Mind : Type 0 where
  pub kind : ℕ
  pub data_held : List ℕ
  -- how often it has entered its region
  pub entered : ℕ

unfoldable pub held : List (Option ℕ) → List ℕ
held [] = []
held (None ∷ xs) = held xs
held (Some x ∷ xs) = x ∷ held xs

-- kind 0 gives the world's count, 1 gives one more than the sum of its operands; 2 jumps to its first successor with its operands while the
-- count is below 5, and then leaves with them; 3 enters its region twice, and gives what the region was left with; any other jumps to a
-- successor that it doesn't have
unfoldable pub acts : ℕ → List ℕ → ℕ → ℕ → Act ℕ Mind
acts zero ds t w = give (w ∷ [])
acts (suc zero) ds t w = give ((sum ds + 1) ∷ [])
acts (suc (suc zero)) ds t w = cond (ltb w 5) (jump 0 ds) (leave ds)
acts (suc (suc (suc zero))) ds t w = cond (ltb t 2) (enter 0 ds (record { kind = 3; data_held = ds; entered = t + 1 })) (give ds)
acts (suc (suc (suc (suc k)))) ds t w = jump 9 ds

unfoldable pub told : Mind → Option (List ℕ) → Mind
told m None = m
told m (Some ds) = record { kind = m.kind; data_held = ds; entered = m.entered }

unfoldable pub counting : Meaning ℕ ℕ Mind
counting =
    record {
      begin = λ o xs. record { kind = get_or o.counts 0 0; data_held = held xs; entered = 0 };
      step = λ m w. (acts m.kind m.data_held m.entered w, w + 1);
      resume = told;
      arrive = λ o w. w + 1;
    }

-- ---- a form

-- an operation in block b, without regions
unfoldable pub in_block : ℕ → ℕ → List ℕ → List ℕ → List ℕ → Call
in_block b kind types operands successors =
    new_operation (record { kind = kind; parent = Some b; location = 0; regions = 0; types = types; operands = operands; successors = successors })

-- an operation of kind 3; in its region a block with an argument v, in it one that adds 1 to v and one that jumps back with that or leaves
unfoldable pub looping : ℕ → ℕ → List Call
looping b v =
    enclosing 3 1 []
    ∷ block_in b (7 ∷ [])
    ∷ in_block b 1 (7 ∷ []) (v ∷ []) []
    ∷ in_block b 2 [] ((v + 1) ∷ []) (b ∷ [])
    ∷ []

-- operations 0 and 3 are twins; 6 has a region without blocks; 7 has a jump that it can't make, and 8 has none
unfoldable pub form : Store
form = after empty_store (looping 0 0 ++ looping 1 2 ++ enclosing 3 1 [] ∷ enclosing 4 0 [] ∷ enclosing 0 0 [] ∷ [])

unfoldable pub runs : Sort → ℕ → List ℕ → ℕ → Ran ℕ ℕ
runs f n ds k = run_fragment counting form (ignoring false 0) f n ds (λ v. None) 0 k

-- operation 0 with the code of operation 3 at its place
unfoldable pub replaced_run : Ran ℕ ℕ
replaced_run =
    run_code counting form (all_replaced form (ignoring false 0) (record { place = 0; code = 3 } ∷ [])) op 0 [] (λ v. None) 0 100

-- ---- forms that show what the law asks

unfoldable pub runs_in : Store → Registers ℕ → Sort → ℕ → Ran ℕ ℕ
runs_in s R f n = run_fragment counting s (ignoring false 0) f n [] R 0 100

-- blocks 0 and 1 are equal, and 0 names what 1 defines
unfoldable pub crossed : Store
crossed =
    after empty_store
    (enclosing 3 1 []
    ∷ block_in 0 []
    ∷ in_block 0 0 (7 ∷ []) [] []
    ∷ enclosing 3 1 []
    ∷ block_in 1 []
    ∷ in_block 1 0 (7 ∷ []) [] []
    ∷ in_block 0 1 (7 ∷ []) (1 ∷ []) []
    ∷ in_block 1 1 (7 ∷ []) (1 ∷ []) []
    ∷ [])

-- blocks 0 and 1 are equal and independent; the first operation of each names what the second gives. So what it reads is what stood there
-- before: from registers that don't hold the same for the two, they do other work
unfoldable pub late : Store
late =
    after empty_store
    (operation 0 (7 ∷ []) []
    ∷ enclosing 3 1 []
    ∷ block_in 0 []
    ∷ in_block 0 1 (7 ∷ []) (0 ∷ []) []
    ∷ in_block 0 0 (7 ∷ []) [] []
    ∷ enclosing 3 1 []
    ∷ block_in 1 []
    ∷ in_block 1 1 (7 ∷ []) (0 ∷ []) []
    ∷ in_block 1 0 (7 ∷ []) [] []
    ∷ first_operand 2 2
    ∷ first_operand 5 4
    ∷ [])

-- two runs of block 0, operations 1 and 2 and operations 3 and 4, are equal, and the second of each names what operation 3 gives. So
-- operation 2 reads what stood there before, and 4 what 3 has given
unfoldable pub crossed_runs : Store
crossed_runs =
    after empty_store
    (enclosing 3 1 []
    ∷ block_in 0 []
    ∷ in_block 0 0 (7 ∷ []) [] []
    ∷ in_block 0 1 (7 ∷ []) (0 ∷ []) []
    ∷ in_block 0 0 (7 ∷ []) [] []
    ∷ in_block 0 1 (7 ∷ []) (2 ∷ []) []
    ∷ first_operand 2 2
    ∷ [])

-- some operations of its block, from registers that hold nothing
unfoldable pub crossed_run : List ℕ → Ran ℕ ℕ
crossed_run ns = run_ops counting crossed_runs (ignoring false 0) ns (λ v. None) 1 100

-- operations 1 and 2 are isomorphic; each names the argument of the block inside it
unfoldable pub early : Store
early =
    after empty_store
    (operation 0 (7 ∷ []) []
    ∷ enclosing 3 1 (0 ∷ [])
    ∷ block_in 0 (7 ∷ [])
    ∷ enclosing 3 1 (0 ∷ [])
    ∷ block_in 1 (7 ∷ [])
    ∷ first_operand 1 1
    ∷ first_operand 2 2
    ∷ [])

-- `work_cases_hold`
pub record WorkCases : Type 0 where
  pub is_sound : sound form ≡ true
  -- 12 steps: the operation's own three, four arrivals and operations in the block
  pub twice_how : (runs op 0 [] 100).how ≡ passed
  pub twice_steps : (runs op 0 [] 100).steps ≡ 88
  pub twice_world : (runs op 0 [] 100).world ≡ 12
  pub twice_argument : (runs op 0 [] 100).registers 0 ≡ Some 2
  pub twice_result : (runs op 0 [] 100).registers 1 ≡ Some 3
  -- its twin's registers are others
  pub twin_how : (runs op 3 [] 100).how ≡ passed
  pub twin_steps : (runs op 3 [] 100).steps ≡ 88
  pub twin_result : (runs op 3 [] 100).registers 3 ≡ Some 3
  pub twin_other : (runs op 3 [] 100).registers 1 ≡ None
  -- the region and the block by themselves are left, with data
  pub region_left : (runs region 0 (10 ∷ []) 100).how ≡ left (12 ∷ [])
  pub block_left : (runs block 0 (10 ∷ []) 100).how ≡ left (12 ∷ [])
  -- with the code of its twin at its place it runs as it did
  pub replaced_steps : replaced_run.steps ≡ 88
  pub replaced_result : replaced_run.registers 1 ≡ Some 3
  -- an operation by itself jumps outwards, and has nothing around it to go on
  pub jumps_out : (runs op 2 [] 100).how ≡ jumped 0 []
  -- a region without blocks has fallen at once, twice; by itself too, with no step made
  pub empty_how : (runs op 6 [] 100).how ≡ passed
  pub empty_steps : (runs op 6 [] 100).steps ≡ 97
  pub empty_itself : (runs region 2 [] 0).how ≡ passed
  pub is_stuck : (runs op 7 [] 100).how ≡ stuck
  -- the last step is one that it may take; with one fewer it is spent
  pub just_enough : (runs op 0 [] 12).how ≡ passed
  pub is_spent : (runs op 0 [] 11).how ≡ spent
  pub spent_steps : (runs op 0 [] 11).steps ≡ 0
  -- the twins are equal; two that end differently are not
  pub twins_equal : equal form (ignoring false 0) op 0 3 ≡ true
  pub twins_timely : none_early form op 0 ≡ true
  pub others_unequal : equal form (ignoring false 0) op 7 8 ≡ false
  pub other_how : (runs op 8 [] 100).how ≡ passed
  -- without the premise equal fragments may do other work
  pub crossed_equal : equal crossed (ignoring false 0) block 0 1 ≡ true
  pub crossed_dependent : independent crossed block 0 1 ≡ false
  pub crossed_left : (runs_in crossed (λ v. None) block 0).registers 2 ≡ Some 1
  pub crossed_right : (runs_in crossed (λ v. None) block 1).registers 3 ≡ Some 2
  -- and so they may from registers of which those of what the one defines don't hold what those of their images hold
  pub late_equal : equal late (ignoring false 0) block 0 1 ≡ true
  pub late_independent : independent late block 0 1 ≡ true
  pub late_left : (runs_in late (λ v. Some v) block 0).registers 1 ≡ Some 3
  pub late_right : (runs_in late (λ v. Some v) block 1).registers 3 ≡ Some 5
  -- equal runs of which one names what the other defines may do other work
  pub crossed_runs_equal : same_runs crossed_runs (ignoring false 0) 0 2 0 2 ≡ true
  pub crossed_runs_left : (crossed_run (1 ∷ 2 ∷ [])).registers 1 ≡ Some 1
  pub crossed_runs_right : (crossed_run (3 ∷ 4 ∷ [])).registers 3 ≡ Some 2
  -- early names: not equal, though isomorphic
  pub early_unequal : equal early (ignoring false 0) op 1 2 ≡ false
  pub early_independent : independent early op 1 2 ≡ true
  pub early_found : none_early early op 1 ≡ false
