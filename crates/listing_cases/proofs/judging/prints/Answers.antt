-- `prints` meets its contract: the bytes that were written at the start of the buffer are the program's output, and `==` decides whether they
-- are those that must be printed. Assumes nothing.
use Rattle.std.proofs.Common.{ℕ, List, ◌≡◌, ◌∙◌, ap, arith, sym, take}
use Rattle.std.proofs.lemmas.List.{take_at}
use Rattle.std.proofs.lemmas.Slice.Eq.{bytes_eq-Decides}
use Rattle.lines.specs.Writing.{WritesAt}
use Rattle.programs.specs.Commands.{output_of}
use Rattle.listing_cases.proofs.judging.prints.Goals as goal

-- what was written from the start on stands there
at_start : (most n : ℕ) (before after bytes : List ℕ) → WritesAt most before after 0 bytes n → bytes ≡ take n after
at_start most n before after bytes w =
    sym (ap (take n) w.written ∙ take_at bytes _ n (let e = w.behind in omega arith))

pub returns : goal.returns
returns c =
    let output : output_of c.args.command c.args.listing.now ≡ take c.printed-n.result c.printed-n.new.out = at_start _ _ _ _ _ c.printed-n.ensures in
    rw (output, c.eq.ensures) (bytes_eq-Decides _ c.args.wanted.now)
