-- Two fragments are isomorphic: what the one defines and what the other defines correspond, one to one, and corresponding things are alike
-- and stand to one another alike. What a fragment defines stands in the rules' lists in the order of the walk; here no order of them is
-- read, only what is in them.
use Rattle.std.specs.Prelude.{ℕ, List, ◌≡◌, map}
use mathlib.Core.List.{Memᴰ}
use Rattle.rules.specs.Store.{Store, op_at, ops_of, blocks_of, regions_of, results_of, arguments_of}
use Rattle.rules.specs.declared.types.Owner.TheVariants.{Op as of_op, Block as of_block}
use Rattle.rules.specs.Fragments.{defines_blocks, fragment_ops}
use Rattle.rules.specs.declared.types.Sort.{Sort}
use Rattle.rules.specs.declared.types.Sort.TheVariants.{Op as op, Block as block, Region as region}
use Rattle.rules.specs.declared.types.Ignore.{Ignore}
use Rattle.rules.specs.Mapping.{Mapping, image}
use Rattle.rules.specs.MappingLaws.{Table, table_of, defines_of, Bijection}
use Rattle.semantics.specs.Meaning.{own_fields}

-- the images of a list's entries, in their order; what has no entry is its own image
abbrev pub images : List ℕ → List ℕ → List ℕ
images table ns = map (image table) ns

module _ (s : Store) (ig : Ignore) (m : Mapping) where
  -- two operations alike: own fields; results, operands, successors and the regions' blocks in order
  pub record OpsAlike (l r : ℕ) : Type 0 where
    pub fields : own_fields s ig (of_op l) ≡ own_fields s ig (of_op r)
    pub results : images m.values (results_of s l) ≡ results_of s r
    pub operands : images m.values (op_at s l).operands ≡ (op_at s r).operands
    pub successors : images m.blocks (op_at s l).successors ≡ (op_at s r).successors
    pub regions : map (λ (x : ℕ). images m.blocks (blocks_of s x)) (regions_of s l) ≡ map (blocks_of s) (regions_of s r)

  -- two blocks alike: own fields; arguments and operations in order
  pub record BlocksAlike (l r : ℕ) : Type 0 where
    pub fields : own_fields s ig (of_block l) ≡ own_fields s ig (of_block r)
    pub arguments : images m.values (arguments_of s l) ≡ arguments_of s r
    pub ops : images m.ops (ops_of s l) ≡ ops_of s r

  -- what the fragments begin with corresponds
  unfoldable pub RootsAlike : Sort → ℕ → ℕ → Type 0
  RootsAlike op a b = image m.ops a ≡ b
  RootsAlike block a b = image m.blocks a ≡ b
  RootsAlike region a b = images m.blocks (blocks_of s a) ≡ blocks_of s b

  pub record Isomorphic (f : Sort) (a b : ℕ) : Type 0 where
    -- each value, block and operation that a defines has exactly one partner that b defines, and none is left over; nothing else has an
    -- entry
    pub one_to_one : (t : Table) → Bijection (table_of m t) (defines_of s f a t) (defines_of s f b t)
    pub roots : RootsAlike f a b
    pub ops : (n : ℕ) → Memᴰ n (fragment_ops s f a) → OpsAlike n (image m.ops n)
    pub blocks : (c : ℕ) → Memᴰ c (defines_blocks s f a) → BlocksAlike c (image m.blocks c)
