-- `put_op_row` meets its contract: the thirteen words of the row are written one after the other. Assumes nothing.
use Prim.Native.Nat.{ℕ}
use native.Mathlib.Omega.{arith}
use mathlib.Core.Path.{refl}
use Rattle.layout.specs.Columns.{Cols, columns, op_kind}
use Rattle.mutation.proofs.RowWritten.{Writing, row_turn, row_done}
use Rattle.mutation.proofs.operations.put_op_row.Goals as goal

pub returns : goal.returns
returns c =
    let C = columns c.args.store.now in
    let n = c.args.n in
    let row = c.args.row.now in
    let W : Cols → ℕ → Type 0 = Writing C op_kind n row in
    let w0 : W C 0 = (omega arith, refl) in
    let w1 : W (columns c.put.new.store) 1 = row_turn C op_kind n row C 0 w0 (columns c.put.new.store) (omega (arith, c.told-row)) c.put.ensures in
    let w2 : W (columns c.put-2.new.store) 2 = row_turn C op_kind n row (columns c.put.new.store) 1 w1 (columns c.put-2.new.store) (omega (arith, c.told-row)) c.put-2.ensures in
    let w3 : W (columns c.put-3.new.store) 3 = row_turn C op_kind n row (columns c.put-2.new.store) 2 w2 (columns c.put-3.new.store) (omega (arith, c.told-row)) c.put-3.ensures in
    let w4 : W (columns c.put-4.new.store) 4 = row_turn C op_kind n row (columns c.put-3.new.store) 3 w3 (columns c.put-4.new.store) (omega (arith, c.told-row)) c.put-4.ensures in
    let w5 : W (columns c.put-5.new.store) 5 = row_turn C op_kind n row (columns c.put-4.new.store) 4 w4 (columns c.put-5.new.store) (omega (arith, c.told-row)) c.put-5.ensures in
    let w6 : W (columns c.put-6.new.store) 6 = row_turn C op_kind n row (columns c.put-5.new.store) 5 w5 (columns c.put-6.new.store) (omega (arith, c.told-row)) c.put-6.ensures in
    let w7 : W (columns c.put-7.new.store) 7 = row_turn C op_kind n row (columns c.put-6.new.store) 6 w6 (columns c.put-7.new.store) (omega (arith, c.told-row)) c.put-7.ensures in
    let w8 : W (columns c.put-8.new.store) 8 = row_turn C op_kind n row (columns c.put-7.new.store) 7 w7 (columns c.put-8.new.store) (omega (arith, c.told-row)) c.put-8.ensures in
    let w9 : W (columns c.put-9.new.store) 9 = row_turn C op_kind n row (columns c.put-8.new.store) 8 w8 (columns c.put-9.new.store) (omega (arith, c.told-row)) c.put-9.ensures in
    let w10 : W (columns c.put-10.new.store) 10 = row_turn C op_kind n row (columns c.put-9.new.store) 9 w9 (columns c.put-10.new.store) (omega (arith, c.told-row)) c.put-10.ensures in
    let w11 : W (columns c.put-11.new.store) 11 = row_turn C op_kind n row (columns c.put-10.new.store) 10 w10 (columns c.put-11.new.store) (omega (arith, c.told-row)) c.put-11.ensures in
    let w12 : W (columns c.put-12.new.store) 12 = row_turn C op_kind n row (columns c.put-11.new.store) 11 w11 (columns c.put-12.new.store) (omega (arith, c.told-row)) c.put-12.ensures in
    let w13 : W (columns c.put-13.new.store) 13 = row_turn C op_kind n row (columns c.put-12.new.store) 12 w12 (columns c.put-13.new.store) (omega (arith, c.told-row)) c.put-13.ensures in
    row_done C op_kind n row (columns c.put-13.new.store) 13 w13 (omega (arith, c.told-row))
