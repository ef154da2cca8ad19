-- `put_steps` meets its contract, sort by sort. Assumes nothing.
use native.Mathlib.Omega.{arith}
use mathlib.Core.Bool.{true}
use mathlib.Core.Path.{◌≡◌, subst}
use Rattle.rules.specs.Store.{Store}
use Rattle.rules.specs.Fragments.{exists, steps}
use Rattle.rules.specs.declared.types.Sort.TheVariants.{Op as op, Block as block, Region as region}
use Rattle.layout.specs.Columns.{columns}
use Rattle.fragments.specs.Order.{BlocksExist}
use Rattle.fragments.proofs.There.{there}
use Rattle.fragments.specs.Numbered.{DefinitionsFit}
use Rattle.fragments.proofs.Rounds.{block_steps, region_steps_lem, steps_room, steps_done}
use Rattle.fragments.specs.View.{store_read, options_in}
use Rattle.keys.proofs.Writing.{spot, key_walk, wrote_first, wrote_all}
use Rattle.keys.proofs.keys.put_steps.Goals as goal

-- ---- an operation

pub put_op-requires-clause-n_bound : goal.put_op-requires-clause-n_bound
put_op-requires-clause-n_bound c =
    there (columns c.args.view.now.store.now) op c.args.n
    (subst (λ x. exists (store_read c.args.view.now) x c.args.n ≡ true) c.in-Op.is c.requires.n_value)

pub put_op-requires-clause-definitions_fit : goal.put_op-requires-clause-definitions_fit
put_op-requires-clause-definitions_fit c =
    let store : Store = store_read c.args.view.now in
    subst (λ x. DefinitionsFit store (steps store x c.args.n) c.args.numbers.now) c.in-Op.is c.requires.definitions_fit

pub returns-in-Op : goal.returns-in-Op
returns-in-Op c = rw c.in-Op.is c.put_op.ensures

-- ---- a block

pub put_blocks_full-requires-clause-blocks_exist : goal.put_blocks_full-requires-clause-blocks_exist
unfolding BlocksExist
put_blocks_full-requires-clause-blocks_exist c =
    there (columns c.args.view.now.store.now) block c.args.n
    (subst (λ x. exists (store_read c.args.view.now) x c.args.n ≡ true) c.in-Block.is c.requires.n_value)

pub put_blocks_full-requires-clause-definitions_fit : goal.put_blocks_full-requires-clause-definitions_fit
put_blocks_full-requires-clause-definitions_fit c =
    let store : Store = store_read c.args.view.now in
    steps_room (key_walk store (options_in c.args.view.now)) store block c.args.n _ (block_steps store c.args.n) {a = spot c.args.numbers.now c.args.key.now 0}
    (subst (λ x. DefinitionsFit store (steps store x c.args.n) c.args.numbers.now) c.in-Block.is c.requires.definitions_fit)

pub returns-in-Block : goal.returns-in-Block
returns-in-Block c =
    let store : Store = store_read c.args.view.now in
    rw c.in-Block.is
    (wrote_all store (options_in c.args.view.now) (omega arith)
    (steps_done (key_walk store (options_in c.args.view.now)) store block c.args.n _ (block_steps store c.args.n)
    (wrote_first store (options_in c.args.view.now) c.put_blocks_full.ensures)))

-- ---- a region

pub put_blocks_full-requires-in-Region-clause-blocks_exist : goal.put_blocks_full-requires-in-Region-clause-blocks_exist
unfolding BlocksExist
put_blocks_full-requires-in-Region-clause-blocks_exist c =
    there (columns c.args.view.now.store.now) region c.args.n
    (subst (λ x. exists (store_read c.args.view.now) x c.args.n ≡ true) c.in-Region.is c.requires.n_value)

pub put_blocks_full-requires-in-Region-clause-definitions_fit : goal.put_blocks_full-requires-in-Region-clause-definitions_fit
put_blocks_full-requires-in-Region-clause-definitions_fit c =
    let store : Store = store_read c.args.view.now in
    steps_room (key_walk store (options_in c.args.view.now)) store region c.args.n _
    (region_steps_lem store c.args.view.now.readable.sound.ruled c.args.n) {a = spot c.args.numbers.now c.args.key.now 0}
    (subst (λ x. DefinitionsFit store (steps store x c.args.n) c.args.numbers.now) c.in-Region.is c.requires.definitions_fit)

pub returns-in-Region : goal.returns-in-Region
returns-in-Region c =
    let store : Store = store_read c.args.view.now in
    rw c.in-Region.is
    (wrote_all store (options_in c.args.view.now) (omega arith)
    (steps_done (key_walk store (options_in c.args.view.now)) store region c.args.n _
    (region_steps_lem store c.args.view.now.readable.sound.ruled c.args.n)
    (wrote_first store (options_in c.args.view.now) c.put_blocks_full-in-Region.ensures)))
