-- `put_answer` meets its contract: what the tests say is printed. Assumes nothing.
use Rattle.converting.proofs.Answer.{convertible_lem, converted_said, refusal_said}
use Rattle.converting.proofs.calls.put_answer.Goals as goal

pub put_listing-requires-clause-convertible : goal.put_listing-requires-clause-convertible
put_listing-requires-clause-convertible c = convertible_lem c.args.listing.now c.in-Ok.edition c.in-Ok.ensures

pub returns-in-Ok : goal.returns-in-Ok
returns-in-Ok c = converted_said c.args.listing.now c.in-Ok.edition c.in-Ok.ensures c.put_listing.ensures

pub returns-in-Err : goal.returns-in-Err
returns-in-Err c = refusal_said c.args.listing.now c.in-Err.refusal c.in-Err.ensures c.put_refusal.ensures
