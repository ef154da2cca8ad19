-- Running a fragment by a meaning. Values are registers. What an operation or a block is comes in only through the meaning; what the store
-- adds is where control and data go: operands and results, successors, regions, the order of blocks and operations. That is a store's code;
-- a machine is given no more of the store.
use Rattle.std.specs.Prelude.{ℕ, zero, suc, cond, List, [], ◌∷◌, map, eqb, Option, None, Some}
use Rattle.std.specs.List.{list_any}
use Rattle.rules.specs.Store.{Store, op_at, ops_of, blocks_of, regions_of, results_of, arguments_of}
use Rattle.rules.specs.declared.types.Owner.TheVariants.{Op as of_op, Block as of_block}
use Rattle.rules.specs.declared.types.Sort.{Sort}
use Rattle.rules.specs.declared.types.Sort.TheVariants.{Op as op, Block as block, Region as region}
use Rattle.rules.specs.declared.types.Ignore.{Ignore}
use Rattle.semantics.specs.Meaning.{OwnFields, own_fields, Act, give, jump, leave, enter, Meaning}

-- ---- code: what a run reads

pub record Code : Type 0 where
  -- of an operation
  pub op_fields : ℕ → OwnFields
  pub operands : ℕ → List ℕ
  pub results : ℕ → List ℕ
  pub successors : ℕ → List ℕ
  -- the blocks of each of its regions
  pub regions : ℕ → List (List ℕ)
  -- of a block
  pub block_fields : ℕ → OwnFields
  pub arguments : ℕ → List ℕ
  pub ops : ℕ → List ℕ

abbrev pub code_of : Store → Ignore → Code
code_of s ig =
    record {
      op_fields = λ n. own_fields s ig (of_op n);
      operands = λ n. (op_at s n).operands;
      results = results_of s;
      successors = λ n. (op_at s n).successors;
      regions = λ n. map (blocks_of s) (regions_of s n);
      block_fields = λ b. own_fields s ig (of_block b);
      arguments = arguments_of s;
      ops = ops_of s;
    }

-- ---- registers: what each value holds, if anything

abbrev pub Registers : Type 0 → Type 0
Registers Data = ℕ → Option Data

unfoldable pub put : {Data : Type 0} → ℕ → Option Data → Registers Data → Registers Data
put v x R u = cond (eqb u v) x (R u)

-- data for these values, one each: nothing where there are fewer data, and data too many are dropped
unfoldable pub write : {Data : Type 0} → List ℕ → List Data → Registers Data → Registers Data
write [] ds R = R
write (v ∷ vs) [] R = write vs [] (put v None R)
write (v ∷ vs) (d ∷ ds) R = write vs ds (put v (Some d) R)

-- ---- where a run stands

-- how a run ends
pub data End (Data : Type 0) : Type 0 where
  -- the operation has given, or the list of blocks has fallen: an empty one at once, any other behind a block's last operation
  passed : End Data
  -- the list of blocks was left, with data
  left : List Data → End Data
  -- to a block that is in no list of blocks being run
  jumped : ℕ → List Data → End Data
  -- a successor or a region was asked for that the operation doesn't have
  stuck : End Data
  -- no step is left
  spent : End Data

-- what waits around the operation or block that runs, from inside out
pub data Frame (Mind : Type 0) : Type 0 where
  -- in this list of blocks, these operations behind it in its block
  behind : List ℕ → List ℕ → Frame Mind
  -- this operation, which has entered a region and kept this mind
  kept : ℕ → Mind → Frame Mind

pub data Now (Data Mind : Type 0) : Type 0 where
  -- an operation takes its next step, with this mind
  works : ℕ → Mind → List (Frame Mind) → Now Data Mind
  -- in this list of blocks, this one is arrived at, with data for its arguments
  arrives : List ℕ → ℕ → List Data → List (Frame Mind) → Now Data Mind
  ended : End Data → Now Data Mind

pub record Ran (Data World : Type 0) : Type 0 where
  pub how : End Data
  pub registers : Registers Data
  pub world : World
  -- as many were left
  pub steps : ℕ

-- the entry at a place, if there is one
unfoldable pub entry_at : {A : Type 0} → List A → ℕ → Option A
entry_at [] i = None
entry_at (x ∷ xs) zero = Some x
entry_at (x ∷ xs) (suc i) = entry_at xs i

module _ {Data World Mind : Type 0} (M : Meaning Data World Mind) where
  -- a list of blocks is left: the operation around it goes on
  unfoldable pub leaves : List Data → List (Frame Mind) → Now Data Mind
  leaves ds [] = ended (left ds)
  leaves ds (behind bs ns ∷ fs) = leaves ds fs
  leaves ds (kept n m ∷ fs) = works n (M.resume m (Some ds)) fs

  -- a jump goes to the innermost list of blocks that has the block, and ends what is inside that list
  unfoldable pub jumps : ℕ → List Data → List (Frame Mind) → Now Data Mind
  jumps b ds [] = ended (jumped b ds)
  jumps b ds (behind bs ns ∷ fs) = cond (list_any (eqb b) bs) (arrives bs b ds fs) (jumps b ds fs)
  jumps b ds (kept n m ∷ fs) = jumps b ds fs

  unfoldable pub jumps_to : Option ℕ → List Data → List (Frame Mind) → Now Data Mind
  jumps_to None ds fs = ended stuck
  jumps_to (Some b) ds fs = jumps b ds fs

  module _ (C : Code) where
    -- an operation begins, with what its operands hold
    unfoldable pub begins : ℕ → List (Frame Mind) → Registers Data → Now Data Mind
    begins n fs R = works n (M.begin (C.op_fields n) (map R (C.operands n))) fs

    -- an operation has given, or a list of blocks has fallen: what is behind it goes on
    unfoldable pub goes_on : List (Frame Mind) → Registers Data → Now Data Mind
    goes_on [] R = ended passed
    goes_on (behind bs [] ∷ fs) R = goes_on fs R
    goes_on (behind bs (n ∷ ns) ∷ fs) R = begins n (behind bs ns ∷ fs) R
    goes_on (kept n m ∷ fs) R = works n (M.resume m None) fs

    -- a list of blocks is entered at its first block
    unfoldable pub enters : List ℕ → List Data → List (Frame Mind) → Registers Data → Now Data Mind
    enters [] ds fs R = goes_on fs R
    enters (b ∷ bs) ds fs R = arrives (b ∷ bs) b ds fs

    unfoldable pub enters_region : Option (List ℕ) → List Data → List (Frame Mind) → Registers Data → Now Data Mind
    enters_region None ds fs R = ended stuck
    enters_region (Some bs) ds fs R = enters bs ds fs R

    -- what an operation has chosen to do
    unfoldable pub does : Act Data Mind → ℕ → List (Frame Mind) → Registers Data → Now Data Mind × Registers Data
    does (give ds) n fs R = (goes_on fs (write (C.results n) ds R), write (C.results n) ds R)
    does (jump i ds) n fs R = (jumps_to (entry_at (C.successors n) i) ds fs, R)
    does (leave ds) n fs R = (leaves ds fs, R)
    does (enter i ds m) n fs R = (enters_region (entry_at (C.regions n) i) ds (kept n m ∷ fs) R, R)

    -- a number of steps, which falls at each step of an operation and each arrival at a block
    unfoldable pub run : ℕ → Now Data Mind → Registers Data → World → Ran Data World
    run zero (works n m fs) R w = record { how = spent; registers = R; world = w; steps = 0 }
    run zero (arrives bs b ds fs) R w = record { how = spent; registers = R; world = w; steps = 0 }
    run zero (ended e) R w = record { how = e; registers = R; world = w; steps = 0 }
    run (suc k) (ended e) R w = record { how = e; registers = R; world = w; steps = suc k }
    run (suc k) (works n m fs) R w =
        let (act, w') = M.step m w in
        let (now, R') = does act n fs R in
        run k now R' w'
    run (suc k) (arrives bs b ds fs) R w =
        let R' = write (C.arguments b) ds R in
        run k (goes_on (behind bs (C.ops b) ∷ fs) R') R' (M.arrive (C.block_fields b) w)

  -- an operation runs by itself, a block as a list of one, a region as its list; data for the first block's arguments
  unfoldable pub first : Store → Code → Sort → ℕ → List Data → Registers Data → Now Data Mind
  first s C op n ds R = begins C n [] R
  first s C block n ds R = enters C (n ∷ []) ds [] R
  first s C region n ds R = enters C (blocks_of s n) ds [] R

  unfoldable pub run_code : Store → Code → Sort → ℕ → List Data → Registers Data → World → ℕ → Ran Data World
  run_code s C f n ds R w k = run C k (first s C f n ds R) R w

  unfoldable pub run_fragment : Store → Ignore → Sort → ℕ → List Data → Registers Data → World → ℕ → Ran Data World
  run_fragment s ig f n ds R w k = run_code s (code_of s ig) f n ds R w k

  -- operations by themselves, one after the other, as they stand in a block
  unfoldable pub run_ops : Store → Ignore → List ℕ → Registers Data → World → ℕ → Ran Data World
  run_ops s ig ns R w k = run (code_of s ig) k (goes_on (code_of s ig) (behind [] ns ∷ []) R) R w
