-- `put_added` meets its contract: what it counts with is read before anything is written. Assumes nothing.
use native.Mathlib.Omega.{arith}
use Rattle.layout.specs.Columns.{columns}
use Rattle.layout.specs.Reading.{attribute_count}
use Rattle.layout.proofs.OwnerKeys.{count_reached}
use Rattle.mutation.specs.SetWrites.{inserted, added}
use Rattle.layout.proofs.Laid.{laid_facts}
use Rattle.mutation.proofs.Owners.{reached}
use Rattle.mutation.proofs.attributes.put_added.Goals as goal

pub overflow_add-end : goal.overflow_add-end
overflow_add-end c =
    let a = c.args in
    let r = reached a.store.now c.requires.arranged a.owner c.requires.owner_value in
    omega arith

pub insert-requires : goal.insert-requires
insert-requires c =
    let a = c.args in
    let r = reached a.store.now c.requires.arranged a.owner c.requires.owner_value in
    record { column_lt_column_count = omega arith; a_le_e = omega arith; e_bound = omega arith }

pub insert-requires-2 : goal.insert-requires-2
insert-requires-2 c =
    let a = c.args in
    let r = reached a.store.now c.requires.arranged a.owner c.requires.owner_value in
    record { column_lt_column_count = omega arith; a_le_e = omega arith; e_bound = omega arith }

pub insert-requires-3 : goal.insert-requires-3
insert-requires-3 c =
    let a = c.args in
    let r = reached a.store.now c.requires.arranged a.owner c.requires.owner_value in
    record { column_lt_column_count = omega arith; a_le_e = omega arith; e_bound = omega arith }

pub put-requires : goal.put-requires
put-requires c =
    let a = c.args in
    let rest = count_reached (columns a.store.now) a.owner (reached a.store.now c.requires.arranged a.owner c.requires.owner_value) _ _ c.count_column.ensures c.owner_number.ensures in record { column_lt_column_count = rest.0; n_bound = rest.1 }

pub overflow_add-total : goal.overflow_add-total
unfolding attribute_count
overflow_add-total c =
    omega (arith, (laid_facts (columns c.args.store.now) c.requires.arranged.laid).counts.attributes)

pub overflow_cast-total : goal.overflow_cast-total
unfolding attribute_count
overflow_cast-total c =
    omega (arith, (laid_facts (columns c.args.store.now) c.requires.arranged.laid).counts.attributes)

pub returns : goal.returns
unfolding added inserted attribute_count
returns c = cc
