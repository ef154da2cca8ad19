-- `tested` meets its contract: its tests are the rules', in their order. Assumes nothing.
use Rattle.std.proofs.lemmas.Result.{err_from_is_err_and}
use Rattle.converting.proofs.Verdict.{header_refused, begun_lem, lines_refused, sizes_refused, all_passed}
use Rattle.converting.proofs.testing.tested.Goals as goal

pub returns-in-Err : goal.returns-in-Err
returns-in-Err c = header_refused c.args.listing.now c.in-Err.cause c.in-Err.ensures

pub lines_tested-requires : goal.lines_tested-requires
lines_tested-requires c = begun_lem c.args.listing.now c.in-Ok.edition c.in-Ok.ensures

pub returns-in_err-sizes : goal.returns-in_err-sizes
returns-in_err-sizes c =
    let p = err_from_is_err_and c.from_residual.result c.from_residual.ensures.1 in
    rw (p.1, p.2) (lines_refused c.args.listing.now c.in-Ok.edition c.in-Ok.ensures _ c.in_err-sizes.ensures)

pub returns-in_err-sizes_tested : goal.returns-in_err-sizes_tested
returns-in_err-sizes_tested c =
    let p = err_from_is_err_and c.from_residual-in_err-sizes_tested.result c.from_residual-in_err-sizes_tested.ensures.1 in
    rw (p.1, p.2) (sizes_refused c.args.listing.now c.in-Ok.edition c.in-Ok.ensures _ c.in_ok-sizes.ensures _ c.in_err-sizes_tested.ensures)

pub returns : goal.returns
returns c = all_passed c.args.listing.now c.in-Ok.edition c.in-Ok.ensures _ c.in_ok-sizes.ensures c.in_ok-sizes_tested.ensures
