-- `header_cause` meets its contract: its tests are the rules', in their order. Assumes nothing.
use Rattle.lines.proofs.Heading.{too_long_lem, nothing, unended, line_too_long, other_line, header_lem}
use Rattle.lines.proofs.header.header_cause.Goals as goal

pub returns-then-listing-gt-MAX_LISTING : goal.returns-then-listing-gt-MAX_LISTING
returns-then-listing-gt-MAX_LISTING c =
    let listing = c.args.listing.now in
    too_long_lem listing c.if-listing-gt-MAX_LISTING.true

pub returns-then-listing-eq0 : goal.returns-then-listing-eq0
returns-then-listing-eq0 c =
    let listing = c.args.listing.now in
    nothing listing c.if-listing-gt-MAX_LISTING.false c.if-listing-eq0.true

pub returns-then-end-listing : goal.returns-then-end-listing
returns-then-end-listing c =
    let listing = c.args.listing.now in
    unended listing c.if-listing-gt-MAX_LISTING.false _ c.piece_end-end.ensures c.if-listing-eq0.false c.if-end-listing.true

pub returns-then-end-gt-MAX_LINE : goal.returns-then-end-gt-MAX_LINE
returns-then-end-gt-MAX_LINE c =
    let listing = c.args.listing.now in
    line_too_long listing c.if-listing-gt-MAX_LISTING.false _ c.piece_end-end.ensures c.if-end-listing.false c.if-end-gt-MAX_LINE.true

pub returns-in_default : goal.returns-in_default
returns-in_default c =
    let listing = c.args.listing.now in
    let line = other_line listing c.if-listing-gt-MAX_LISTING.false _ c.piece_end-end.ensures c.if-end-listing.false in
    line c.if-end-gt-MAX_LINE.false c.in_default.ensures

pub returns : goal.returns
returns c =
    let listing = c.args.listing.now in
    let line = header_lem listing c.if-listing-gt-MAX_LISTING.false _ c.piece_end-end.ensures c.if-end-listing.false in
    line c.if-end-gt-MAX_LINE.false c.in-Some.edition c.in-Some.ensures
