-- `fragment_size` meets its contract, sort by sort: the outermost operations counted together are the fragment's. Assumes nothing.
use Prim.Native.Nat.{ℕ, ◌<◌}
use native.Mathlib.Omega.{arith}
use mathlib.Core.Bool.{true}
use mathlib.Core.Path.{◌≡◌, sym, subst, ◌∙◌}
use Rattle.rules.specs.Fragments.{exists}
use Rattle.rules.specs.declared.types.Sort.{Sort}
use Rattle.rules.specs.declared.types.Sort.TheVariants.{Op as op, Block as block, Region as region}
use lib.ListN.{get_or}
use Rattle.layout.specs.Columns.{columns, at, region_op}
use Rattle.layout.specs.Reading.{op_count, around, store_in}
use Rattle.layout.proofs.Laid.{Laid, laid_facts}
use Rattle.layout.proofs.Tabulate.{around_read, region_read_lem}
use Rattle.rules.specs.Store.{Store, op_around}
use Rattle.fragments.specs.Sizes.{LevelsLeft}
use Rattle.fragments.proofs.Sizing.{op_whole, block_whole, region_whole}
use Rattle.fragments.proofs.There.{count_of, there}
use Rattle.fragments.proofs.sizes.fragment_size.Goals as goal
use Rattle.fragments.proofs.sizes.fragment_size.Goals.{Start}

laid : (c : Start) → Laid (columns c.args.store.now)
laid c = laid_facts (columns c.args.store.now) c.requires.sound.laid

-- it is a fragment of this sort
here : (c : Start) (f : Sort) → c.args.sort ≡ f → exists (store_in c.args.store.now) f c.args.n ≡ true
here c f e = subst (λ (x : Sort). exists (store_in c.args.store.now) x c.args.n ≡ true) e c.requires.n_value

inside : (c : Start) (f : Sort) → c.args.sort ≡ f → c.args.n < count_of (columns c.args.store.now) f
inside c f e = there (columns c.args.store.now) f c.args.n (here c f e)

-- ---- an operation

pub levels_left-requires-clause-n_bound : goal.levels_left-requires-clause-n_bound
levels_left-requires-clause-n_bound c = inside ((goal.at.levels_left-requires-clause-n_bound c).Start) op c.in-Op.is

pub size_of_op-requires-clause-n_bound : goal.size_of_op-requires-clause-n_bound
size_of_op-requires-clause-n_bound c = inside ((goal.at.size_of_op-requires-clause-n_bound c).Start) op c.in-Op.is

pub returns-in-Op-clause-operations : goal.returns-in-Op-clause-operations
returns-in-Op-clause-operations c =
    let store : Store = store_in c.args.store.now in
    let e : c.args.sort ≡ op = c.in-Op.is in
    rw e
    (op_whole store c.requires.sound.ruled c.args.n c.levels_left.result c.levels_left.ensures (here ((goal.at.returns-in-Op-clause-operations c).Start) op e)
    c.size_of_op.ensures).0

pub returns-in-Op-clause-nesting : goal.returns-in-Op-clause-nesting
returns-in-Op-clause-nesting c =
    let store : Store = store_in c.args.store.now in
    let e : c.args.sort ≡ op = c.in-Op.is in
    rw e
    (op_whole store c.requires.sound.ruled c.args.n c.levels_left.result c.levels_left.ensures (here ((goal.at.returns-in-Op-clause-nesting c).Start) op e)
    c.size_of_op.ensures).1

-- ---- a block

-- the levels of the operation around it
block_levels : (c : Start) → c.args.sort ≡ block → (k left : ℕ) → k ≡ around (columns c.args.store.now) c.args.n
    → LevelsLeft (store_in c.args.store.now) k left
    → LevelsLeft (store_in c.args.store.now) (op_around (store_in c.args.store.now) c.args.n) left
block_levels c e k left same h =
    let l = inside c block e in
    subst (λ (n : ℕ). LevelsLeft (store_in c.args.store.now) n left) (same ∙ sym (around_read (columns c.args.store.now) c.args.n l ((laid c).block c.args.n l).region_in)) h

pub op_around-requires-clause-block_bound : goal.op_around-requires-clause-block_bound
op_around-requires-clause-block_bound c = inside ((goal.at.op_around-requires-clause-block_bound c).Start) block c.in-Block.is

pub levels_left-requires-in-Block-clause-n_bound : goal.levels_left-requires-in-Block-clause-n_bound
levels_left-requires-in-Block-clause-n_bound c =
    let start = (goal.at.levels_left-requires-in-Block-clause-n_bound c).Start in
    let l = inside start block c.in-Block.is in
    subst (λ (n : ℕ). n < op_count (columns c.args.store.now)) (sym c.op_around.ensures) ((laid start).region _ ((laid start).block c.args.n l).region_in).op_in

pub size_in_block-requires-clause-b_bound : goal.size_in_block-requires-clause-b_bound
size_in_block-requires-clause-b_bound c = inside ((goal.at.size_in_block-requires-clause-b_bound c).Start) block c.in-Block.is

pub size_in_block-requires-clause-levels : goal.size_in_block-requires-clause-levels
size_in_block-requires-clause-levels c =
    block_levels ((goal.at.size_in_block-requires-clause-levels c).Start) c.in-Block.is _ _ c.op_around.ensures c.levels_left-in-Block.ensures

pub returns-in-Block-clause-operations : goal.returns-in-Block-clause-operations
returns-in-Block-clause-operations c =
    let e : c.args.sort ≡ block = c.in-Block.is in
    c.by_itself.ensures.operations
    ∙ rw e
    (block_whole (store_in c.args.store.now) c.requires.sound.ruled c.args.n c.levels_left-in-Block.result
    (block_levels ((goal.at.returns-in-Block-clause-operations c).Start) e _ _ c.op_around.ensures c.levels_left-in-Block.ensures)
    (here ((goal.at.returns-in-Block-clause-operations c).Start) block e) c.size_in_block.ensures).0

pub returns-in-Block-clause-nesting : goal.returns-in-Block-clause-nesting
returns-in-Block-clause-nesting c =
    let e : c.args.sort ≡ block = c.in-Block.is in
    c.by_itself.ensures.nesting
    ∙ rw e
    (block_whole (store_in c.args.store.now) c.requires.sound.ruled c.args.n c.levels_left-in-Block.result
    (block_levels ((goal.at.returns-in-Block-clause-nesting c).Start) e _ _ c.op_around.ensures c.levels_left-in-Block.ensures)
    (here ((goal.at.returns-in-Block-clause-nesting c).Start) block e) c.size_in_block.ensures).1

-- ---- a region

region_levels : (c : Start) → c.args.sort ≡ region → (k left : ℕ) → k ≡ at (columns c.args.store.now) region_op c.args.n
    → LevelsLeft (store_in c.args.store.now) k left
    → LevelsLeft (store_in c.args.store.now) (get_or (store_in c.args.store.now).regions c.args.n 0) left
region_levels c e k left same h =
    subst (λ (n : ℕ). LevelsLeft (store_in c.args.store.now) n left) (same ∙ sym (region_read_lem (columns c.args.store.now) c.args.n (inside c region e))) h

pub number-around-requires-clause-n_bound : goal.number-around-requires-clause-n_bound
number-around-requires-clause-n_bound c =
    let start = (goal.at.number-around-requires-clause-n_bound c).Start in
    omega (arith, (laid start).counts.regions, inside start region c.in-Region.is)

pub levels_left-requires-in-Region-clause-n_bound : goal.levels_left-requires-in-Region-clause-n_bound
levels_left-requires-in-Region-clause-n_bound c =
    let start = (goal.at.levels_left-requires-in-Region-clause-n_bound c).Start in
    let l = inside start region c.in-Region.is in
    subst (λ (n : ℕ). n < op_count (columns c.args.store.now)) (sym c.number-around.ensures) ((laid start).region c.args.n l).op_in

pub size_in_region-requires-clause-r_bound : goal.size_in_region-requires-clause-r_bound
size_in_region-requires-clause-r_bound c = inside ((goal.at.size_in_region-requires-clause-r_bound c).Start) region c.in-Region.is

pub size_in_region-requires-clause-levels : goal.size_in_region-requires-clause-levels
size_in_region-requires-clause-levels c =
    region_levels ((goal.at.size_in_region-requires-clause-levels c).Start) c.in-Region.is _ _ c.number-around.ensures c.levels_left-in-Region.ensures

pub returns-in-Region-clause-operations : goal.returns-in-Region-clause-operations
returns-in-Region-clause-operations c =
    let e : c.args.sort ≡ region = c.in-Region.is in
    c.by_itself-in-Region.ensures.operations
    ∙ rw e
    (region_whole (store_in c.args.store.now) c.requires.sound.ruled c.args.n c.levels_left-in-Region.result
    (region_levels ((goal.at.returns-in-Region-clause-operations c).Start) e _ _ c.number-around.ensures c.levels_left-in-Region.ensures)
    (here ((goal.at.returns-in-Region-clause-operations c).Start) region e) c.size_in_region.ensures).0

pub returns-in-Region-clause-nesting : goal.returns-in-Region-clause-nesting
returns-in-Region-clause-nesting c =
    let e : c.args.sort ≡ region = c.in-Region.is in
    c.by_itself-in-Region.ensures.nesting
    ∙ rw e
    (region_whole (store_in c.args.store.now) c.requires.sound.ruled c.args.n c.levels_left-in-Region.result
    (region_levels ((goal.at.returns-in-Region-clause-nesting c).Start) e _ _ c.number-around.ensures c.levels_left-in-Region.ensures)
    (here ((goal.at.returns-in-Region-clause-nesting c).Start) region e) c.size_in_region.ensures).1
