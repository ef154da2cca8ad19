-- `types_of` meets its contract: the range's words stand in front of the list. Assumes nothing.
use Rattle.std.proofs.Common.{◌≡◌, ◌≤◌, length, sym, ap, ◌∙◌, arith, length-take}
use Rattle.layout.specs.Columns.{columns, value_type}
use Rattle.layout.proofs.Buffer.{columns_shaped}
use Rattle.layout.proofs.Scans.{slice_length}
use Rattle.copying.proofs.writing.types_of.Goals as goal
use Rattle.copying.proofs.writing.types_of.Goals.{After-words-types}

-- the list has room for them
room : (c : After-words-types) → length c.words-types.result.now ≤ length c.args.into.now
room c =
    let shape : length (columns c.args.store.now value_type) ≡ 2048 = columns_shaped c.args.store.now c.told-store value_type in
    let top : c.number-2.result ≤ length (columns c.args.store.now value_type) = omega (arith, shape, c.number-2.ensures, c.requires.fits) in
    let long = ap length c.words-types.ensures ∙ slice_length (columns c.args.store.now value_type) c.number.result c.number-2.result top in
    omega (arith, long, c.number.ensures, c.number-2.ensures, c.requires.room)

pub slice_bounds-copy_from_slice-end : goal.slice_bounds-copy_from_slice-end
slice_bounds-copy_from_slice-end c = room ((goal.at.slice_bounds-copy_from_slice-end c).After-words-types)

pub slice_bounds-copy_from_slice-end-2 : goal.slice_bounds-copy_from_slice-end-2
slice_bounds-copy_from_slice-end-2 c =
    let r = room ((goal.at.slice_bounds-copy_from_slice-end-2 c).After-words-types) in
    sym (length-take (length c.words-types.result.now) c.args.into.now ∙ omega (arith, r))

pub copy_from_slice-requires : goal.copy_from_slice-requires
copy_from_slice-requires c =
    let r = room ((goal.at.copy_from_slice-requires c).After-words-types) in
    length-take (length c.words-types.result.now) c.args.into.now ∙ omega (arith, r)
