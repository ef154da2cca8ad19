-- Replacing: at the place of an operation n runs the code of an operation m that is its twin. Own fields, successors, regions and the order
-- of blocks and operations are m's; operands are read and results written through the mapping; and what m's code names or defines is called
-- there by the numbers of n's. All of it holds under every list of renamed types, since that store is sound too.
use Rattle.std.specs.Prelude.{ℕ, true, cond, List, [], ◌∷◌, map, ◌≡◌}
use Rattle.rules.specs.Store.{Store, sound}
use Rattle.rules.specs.Fragments.{fragment_ops, defines_blocks, Premise}
use Rattle.rules.specs.declared.types.Sort.{Sort}
use Rattle.rules.specs.declared.types.Sort.TheVariants.{Op as op}
use Rattle.rules.specs.declared.types.Ignore.{Ignore}
use Rattle.rules.specs.Mapping.{Mapping, image}
use Rattle.rules.specs.Laws.{In, Equal}
use Rattle.rules.specs.MappingLaws.{filed}
use Rattle.rules.specs.Copying.{has_place}
use Rattle.semantics.specs.Meaning.{Meaning}
use Rattle.semantics.specs.Machine.{Code, code_of, Registers, run_code, run_fragment}
use Rattle.semantics.specs.Isomorphic.{images}

module _ (s : Store) (ig : Ignore) (n m : ℕ) where
  -- what in m stands for what is in n, and what it is called at n's place
  abbrev pub there : Mapping
  there = filed s ig op n m

  abbrev pub back : Mapping
  back = filed s ig op m n

  -- the first for an operation in n, the second for any other; and so for a block
  abbrev pub at_op : {A : Type 0} → ℕ → A → A → A
  at_op l x y = cond (has_place (fragment_ops s op n) l) x y

  abbrev pub at_block : {A : Type 0} → ℕ → A → A → A
  at_block b x y = cond (has_place (defines_blocks s op n) b) x y

  unfoldable pub replaced : Code → Code
  replaced C =
      record {
        op_fields = λ l. at_op l (C.op_fields (image there.ops l)) (C.op_fields l);
        operands = λ l. at_op l (images back.values (C.operands (image there.ops l))) (C.operands l);
        results = λ l. at_op l (images back.values (C.results (image there.ops l))) (C.results l);
        successors = λ l. at_op l (images back.blocks (C.successors (image there.ops l))) (C.successors l);
        regions = λ l. at_op l (map (images back.blocks) (C.regions (image there.ops l))) (C.regions l);
        block_fields = λ b. at_block b (C.block_fields (image there.blocks b)) (C.block_fields b);
        arguments = λ b. at_block b (images back.values (C.arguments (image there.blocks b))) (C.arguments b);
        ops = λ b. at_block b (images back.ops (C.ops (image there.blocks b))) (C.ops b);
      }

-- an operation, and what stands for it
pub record Replacement : Type 0 where
  pub place : ℕ
  pub code : ℕ

-- one after the other
unfoldable pub all_replaced : Store → Ignore → List Replacement → Code
all_replaced s ig [] = code_of s ig
all_replaced s ig (r ∷ rs) = replaced s ig r.place r.code (all_replaced s ig rs)

-- the two exist, satisfy the premise of the laws and are equal
pub record MayReplace (s : Store) (ig : Ignore) (r : Replacement) : Type 0 where
  pub place_there : In s op r.place
  pub code_there : In s op r.code
  pub premise : Premise s op r.place r.code
  pub equal : Equal s ig op r.place r.code

abbrev pub AllMayReplace : Store → Ignore → List Replacement → Type 0
AllMayReplace s ig [] = Unit {0}
AllMayReplace s ig (r ∷ rs) = MayReplace s ig r × AllMayReplace s ig rs

-- a whole form, or any fragment of it, with such replacements runs as it did: under every meaning, from all registers, with all data,
-- worlds and steps, it ends in the same way, with the same registers, world and steps
unfoldable pub ReplacedWork : (Data World Mind : Type 0) → Type 0
ReplacedWork Data World Mind =
    (s : Store) → sound s ≡ true → (ig : Ignore) (rs : List Replacement) → AllMayReplace s ig rs
    → (M : Meaning Data World Mind) (f : Sort) (a : ℕ) (ds : List Data) (R : Registers Data) (w : World) (k : ℕ)
    → run_code M s (all_replaced s ig rs) f a ds R w k ≡ run_fragment M s ig f a ds R w k
