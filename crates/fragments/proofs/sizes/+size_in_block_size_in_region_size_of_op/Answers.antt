-- The three calls that go round meet their contracts together: the remaining nesting falls from round to round, what comes is counted with what
-- came, and once all came, all is. Assumes nothing.
use Prim.Native.Nat.{ℕ, suc, ◌+◌, ◌-◌, ◌*◌, ◌<◌, ◌≤◌}
use native.Mathlib.Omega.{arith}
use native.Mathlib.Nat.{suc-add}
use mathlib.Core.List.{List, [], Memᴰ, ◌++◌, ◌∷◌, append-nil}
use mathlib.Core.Path.{◌≡◌, refl, sym, ap, ap₂, subst, ◌∙◌}
use Rattle.std.specs.List.{flat_map}
use Rattle.rules.specs.Lists.{sum}
use Rattle.rules.specs.Store.{Store, ops_of, blocks_of, regions_of}
use Rattle.rules.specs.Fragments.{ops_in_blocks, ops_inside}
use Rattle.rules.specs.Extents.{deepest, op_nesting}
use Rattle.rules.proofs.Basics.Distinct.{concat_map_append}
use Rattle.rules.proofs.Walking.Levels.{leaves_most}
use Rattle.layout.specs.Columns.{columns}
use Rattle.layout.specs.OpsLeft.{ops_left}
use Rattle.layout.specs.Reading.{region_count, store_in}
use Rattle.layout.proofs.Laid.{Laid, laid_facts}
use Rattle.layout.proofs.Ranges.{range, range_empty, regions_range}
use Rattle.fragments.specs.BlocksLeft.{blocks_left}
use Rattle.fragments.specs.Order.{block_list, BlocksExist}
use Rattle.fragments.specs.Sizes.{ops_size, ops_nesting}
use Rattle.fragments.specs.declared.types.Blocks.TheVariants.{InRegion}
use Rattle.fragments.specs.declared.types.Size.{Size}
use Rattle.fragments.proofs.LevelsEnough.{nesting_least, size_inside, nesting_inside}
use Rattle.fragments.proofs.Ordered.{block_in_lem, op_in_lem}
use Rattle.fragments.proofs.Sizing.{OpsSize, none_sized, one_sized, more_sized, sizes_together, size_as, size_append, nesting_append, left_around, left_of_region, left_inside, left_less}
use Rattle.fragments.proofs.Yielded.{item_comes, all_came, comes_mem, number_comes, number_came}
use Rattle.fragments.proofs.sizes.+size_in_block_size_in_region_size_of_op.Invariants.{ops_in_region}
use Rattle.fragments.proofs.sizes.+size_in_block_size_in_region_size_of_op.Goals as goal

-- ---- the operations of a block

pub size_in_block-loop-n-init : goal.size_in_block-loop-n-init
size_in_block-loop-n-init t c = (_, _, none_sized (c.args.left - 1) (store_in c.args.store.now))

pub size_in_block-overflow_sub-left : goal.size_in_block-overflow_sub-left
size_in_block-overflow_sub-left t c =
    let store : Store = store_in c.args.store.now in
    let n : ℕ = c.in-Some.n in
    let turn =
    item_comes ops_left _ _ _ _ (ap ops_left c.into_iter-n-iterator.ensures.into_iter_gives ∙ c.new-n-items.ensures) c.loop-n.yielded_by
    c.next.new.self _ _ c.in-Some.is c.next.ensures.steps in
    let child : Memᴰ n (ops_of store c.args.b) = comes_mem _ _ _ _ turn in
    let i = left_inside store c.requires.sound.ruled c.args.b n c.args.left child c.requires.levels in
    let e : c.args.left ≡ suc i.0 = i.2 in
    omega arith

pub size_in_block-size_of_op-inner-requires : goal.size_in_block-size_of_op-inner-requires
size_in_block-size_of_op-inner-requires t c =
    let store : Store = store_in c.args.store.now in
    let n : ℕ = c.in-Some.n in
    let turn =
    item_comes ops_left _ _ _ _ (ap ops_left c.into_iter-n-iterator.ensures.into_iter_gives ∙ c.new-n-items.ensures) c.loop-n.yielded_by
    c.next.new.self _ _ c.in-Some.is c.next.ensures.steps in
    let child : Memᴰ n (ops_of store c.args.b) = comes_mem _ _ _ _ turn in
    let i = left_inside store c.requires.sound.ruled c.args.b n c.args.left child c.requires.levels in
    let e : c.args.left ≡ suc i.0 = i.2 in
    let falls : 3 * (c.args.left - 1) + 2 < 3 * c.args.left = omega arith in (
      subst (λ (j : ℕ). 3 * (c.args.left - 1) + 2 < j) c.decreases falls,
      (
        c.requires.sound,
        (op_in_lem (columns c.args.store.now) c.args.b n child, left_less store c.requires.sound.ruled c.args.b n c.args.left child c.requires.levels),
      ),
    )

pub size_in_block-overflow_add-one : goal.size_in_block-overflow_add-one
size_in_block-overflow_add-one t c =
    let few : op_nesting (c.args.left - 1) (store_in c.args.store.now) c.in-Some.n ≤ c.args.left - 1 = nesting_least (store_in c.args.store.now) (c.args.left - 1) c.in-Some.n in
    let most : c.args.left ≤ 32 = leaves_most (store_in c.args.store.now) 32 _ c.args.left c.requires.levels in
    record { fits = omega (arith, c.size_of_op-inner.ensures.nesting) }

pub size_in_block-loop-n-preserved : goal.size_in_block-loop-n-preserved
size_in_block-loop-n-preserved t c =
    let inner : Size = c.size_of_op-inner.result in
    let one : Size = record { operations = inner.operations; nesting = inner.nesting + 1 } in
    let k : ℕ = c.args.left - 1 in
    let store : Store = store_in c.args.store.now in
    let sized : OpsSize k store (c.in-Some.n ∷ []) one = one_sized k store c.in-Some.n c.size_of_op-inner.ensures refl refl in
    (_, _, more_sized k store c.loop-n.yielded (c.in-Some.n ∷ []) c.loop-n.invariant.2 sized c.together-size.ensures.operations c.together-size.ensures.nesting)

-- ---- the blocks of a region

pub size_in_region-new-b-items-requires-clause-blocks_exist : goal.size_in_region-new-b-items-requires-clause-blocks_exist
unfolding BlocksExist
size_in_region-new-b-items-requires-clause-blocks_exist t c = c.requires.r_bound

pub size_in_region-loop-b-init : goal.size_in_region-loop-b-init
unfolding ops_in_blocks
size_in_region-loop-b-init t c = (_, _, none_sized (c.args.left - 1) (store_in c.args.store.now))

pub size_in_region-size_in_block-requires : goal.size_in_region-size_in_block-requires
unfolding block_list BlocksExist
size_in_region-size_in_block-requires t c =
    let store : Store = store_in c.args.store.now in
    let b : ℕ = c.in-Some.b in
    let turn =
    item_comes blocks_left _ _ _ _ (ap blocks_left c.into_iter-b-iterator.ensures.into_iter_gives ∙ c.new-b-items.ensures) c.loop-b.yielded_by
    c.next.new.self _ _ c.in-Some.is c.next.ensures.steps in
    let child : Memᴰ b (blocks_of store c.args.r) = comes_mem _ _ _ _ turn in
    let falls : 3 * c.args.left < 3 * c.args.left + 1 = omega arith in (
      subst (λ (j : ℕ). 3 * c.args.left < j) c.decreases falls,
      (
        c.requires.sound,
        (block_in_lem (columns c.args.store.now) (InRegion c.args.r) b c.requires.r_bound child, left_around store c.args.r b child c.requires.levels),
      ),
    )

pub size_in_region-loop-b-preserved : goal.size_in_region-loop-b-preserved
unfolding ops_in_blocks
size_in_region-loop-b-preserved t c =
    let k : ℕ = c.args.left - 1 in
    let store : Store = store_in c.args.store.now in
    let came : List ℕ = c.loop-b.yielded in
    let both : ops_in_blocks store came ++ ops_of store c.in-Some.b ≡ ops_in_blocks store (came ++ c.in-Some.b ∷ []) =
    ap (λ (xs : List ℕ). ops_in_blocks store came ++ xs) (sym (append-nil (ops_of store c.in-Some.b)))
    ∙ sym (concat_map_append (ops_of store) came (c.in-Some.b ∷ [])) in (
      _,
      _,
      size_as (ap (ops_size k store) both) (ap (ops_nesting k store) both)
          (more_sized k store (ops_in_blocks store came) (ops_of store c.in-Some.b) c.loop-b.invariant.2 c.size_in_block.ensures
          c.together-size.ensures.operations c.together-size.ensures.nesting),
    )

pub size_in_region-returns : goal.size_in_region-returns
unfolding block_list
size_in_region-returns t c =
    let k : ℕ = c.args.left - 1 in
    let store : Store = store_in c.args.store.now in
    let all =
    all_came blocks_left _ _ _ _ (ap blocks_left c.into_iter-b-iterator.ensures.into_iter_gives ∙ c.new-b-items.ensures) c.loop-b.yielded_by
    c.next.new.self _ c.in-None.is c.next.ensures.steps in
    size_as (ap (λ (bs : List ℕ). ops_size k store (ops_in_blocks store bs)) all) (ap (λ (bs : List ℕ). ops_nesting k store (ops_in_blocks store bs)) all)
    c.loop-b.invariant.2

-- ---- an operation

pub size_of_op-number-r-requires-clause-n_bound : goal.size_of_op-number-r-requires-clause-n_bound
size_of_op-number-r-requires-clause-n_bound t c = omega (arith, (laid_facts _ c.requires.sound.laid).counts.ops, c.requires.n_bound)

pub size_of_op-number-r-end-requires-clause-n_bound : goal.size_of_op-number-r-end-requires-clause-n_bound
size_of_op-number-r-end-requires-clause-n_bound t c = omega (arith, (laid_facts _ c.requires.sound.laid).counts.ops, c.requires.n_bound)

pub size_of_op-loop-r-init : goal.size_of_op-loop-r-init
unfolding ops_size ops_nesting sum deepest
size_of_op-loop-r-init t c =
    let k : ℕ = c.args.left - 1 in
    let store : Store = store_in c.args.store.now in
    let none : [] ≡ flat_map (ops_in_region store) (range c.number-r.result c.number-r.result) =
    ap (flat_map (ops_in_region store)) (sym (range_empty _ _ (omega arith))) in
    size_as (ap (λ (ns : List ℕ). suc (ops_size k store ns)) none) (ap (ops_nesting k store) none)
    (record { operations = λ l. refl; nesting = refl })

pub size_of_op-size_in_region-requires : goal.size_of_op-size_in_region-requires
size_of_op-size_in_region-requires t c =
    let store : Store = store_in c.args.store.now in
    let n : ℕ = c.args.n in
    let r : ℕ = c.loop-r.r in
    let laid : Laid (columns c.args.store.now) = laid_facts _ c.requires.sound.laid in
    let turn : range c.number-r.result r ++ r ∷ range (r + 1) c.number-r-end.result ≡ regions_of store n =
    number_comes _ _ _ c.loop-r.auto.r c.loop-r-test.true
    ∙ ap₂ range c.number-r.ensures c.number-r-end.ensures
    ∙ sym (regions_range _ laid n c.requires.n_bound) in
    let here : r < region_count (columns c.args.store.now) =
    omega (arith, c.loop-r-test.true, c.number-r-end.ensures, (laid.op n c.requires.n_bound).regions.range.fits) in
    let falls : 3 * c.args.left + 1 < 3 * c.args.left + 2 = omega arith in (
      subst (λ (j : ℕ). 3 * c.args.left + 1 < j) c.decreases falls,
      (c.requires.sound, (here, left_of_region store n r (comes_mem _ _ _ _ turn) c.requires.levels)),
    )

pub size_of_op-loop-r-preserved : goal.size_of_op-loop-r-preserved
size_of_op-loop-r-preserved t c =
    let k : ℕ = c.args.left - 1 in
    let store : Store = store_in c.args.store.now in
    let r : ℕ = c.loop-r.r in
    let came : List ℕ = range c.number-r.result r in
    let inside : List ℕ → List ℕ = flat_map (ops_in_region store) in
    let both : inside came ++ ops_in_region store r ≡ inside (range c.number-r.result (r + 1)) =
    ap (λ (xs : List ℕ). inside came ++ xs) (sym (append-nil (ops_in_region store r)))
    ∙ sym (concat_map_append (ops_in_region store) came (r ∷ []))
    ∙ ap inside (sym (number_came _ _ c.loop-r.auto.r)) in
    size_as
    (sym (ap (λ (m : ℕ). suc m) (size_append k store (inside came) (ops_in_region store r))) ∙ ap (λ (ns : List ℕ). suc (ops_size k store ns)) both)
    (sym (nesting_append k store (inside came) (ops_in_region store r)) ∙ ap (ops_nesting k store) both)
    (size_as (suc-add _ _) refl
    (sizes_together c.loop-r.invariant c.size_in_region.ensures c.together-size.ensures.operations c.together-size.ensures.nesting))

pub size_of_op-returns : goal.size_of_op-returns
unfolding ops_inside
size_of_op-returns t c =
    let store : Store = store_in c.args.store.now in
    let n : ℕ = c.args.n in
    let r : ℕ = c.loop-r.r in
    let laid : Laid (columns c.args.store.now) = laid_facts _ c.requires.sound.laid in
    let rises = (laid.op n c.requires.n_bound).regions.range.rises in
    let done : r ≡ c.number-r-end.result =
    omega (arith, c.loop-r-test.false, c.loop-r.auto, c.number-r.ensures, c.number-r-end.ensures, rises) in
    let all : flat_map (ops_in_region store) (range c.number-r.result r) ≡ ops_inside store n =
    ap (flat_map (ops_in_region store))
    (ap₂ range c.number-r.ensures (done ∙ c.number-r-end.ensures) ∙ sym (regions_range _ laid n c.requires.n_bound)) in
    size_as
    (ap (λ (ns : List ℕ). suc (ops_size (c.args.left - 1) store ns)) all ∙ size_inside store c.requires.sound.ruled c.args.left n c.requires.levels)
    (ap (ops_nesting (c.args.left - 1) store) all ∙ nesting_inside store c.requires.sound.ruled c.args.left n c.requires.levels)
    c.loop-r.invariant
