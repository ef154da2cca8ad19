-- `value_name` meets its contract: the word that is read is that of the value's owner. Assumes nothing.
use Rattle.std.proofs.Common.{ℕ, ◌<◌, sym, ◌∙◌, subst, arith}
use Rattle.layout.specs.Columns.{columns}
use Rattle.layout.specs.Reading.{store_of}
use Rattle.layout.proofs.Tabulate.{values_length}
use Rattle.fragments.proofs.Few.{value_low}
use Rattle.fragments.proofs.Naming.{value_named}
use Rattle.fragments.proofs.Reading.{owner_code_lem, owner_low}
use Rattle.fragments.proofs.words.value_name.Goals as goal

pub number-owner-requires : goal.number-owner-requires
number-owner-requires c =
    let few = value_low _ c.requires.sound _ c.requires.v_bound in
    record { column_lt_column_count = omega arith; n_bound = omega (arith, few) }

pub offset_bounds-numbers-owner : goal.offset_bounds-numbers-owner
offset_bounds-numbers-owner c =
    omega (arith, c.number-owner.ensures, owner_low (columns c.args.store.now) c.requires.sound.ruled c.args.v c.requires.v_bound)

pub bounds-numbers-owner : goal.bounds-numbers-owner
bounds-numbers-owner c =
    omega (arith, c.number-owner.ensures, owner_low (columns c.args.store.now) c.requires.sound.ruled c.args.v c.requires.v_bound)

pub name_by-requires : goal.name_by-requires
name_by-requires c = value_low _ c.requires.sound _ c.requires.v_bound

pub returns : goal.returns
returns c =
    let C = columns c.args.store.now in
    value_named c.args.numbers.now c.args.v c.name_by.result (store_of C) (subst (λ (k : ℕ). c.args.v < k) (sym (values_length C)) c.requires.v_bound) (owner_code_lem C c.args.v c.requires.v_bound ∙ sym c.number-owner.ensures) c.name_by.ensures
