-- `attribute_line` meets its contract: its line is an owner, three numbers, and nothing more. Assumes nothing.
use Rattle.std.proofs.Common.{refl, sym, ◌∙◌}
use Rattle.rules.specs.Lines.{wholly}
use Rattle.lines.proofs.Ended.{attribute_parts, nothing_more, something_more}
use Rattle.lines.proofs.parsing.attribute_line.Goals as goal

pub returns-in_err-owner : goal.returns-in_err-owner
unfolding wholly
returns-in_err-owner c = rw (c.from_residual.ensures, attribute_parts, c.in_err-owner.ensures) refl

pub returns-in_err-key : goal.returns-in_err-key
unfolding wholly
returns-in_err-key c = rw (c.from_residual-in_err-key.ensures, attribute_parts, c.in_ok-owner.ensures, c.in_err-key.ensures.reads) refl

pub returns-in_err-kind : goal.returns-in_err-kind
unfolding wholly
returns-in_err-kind c = rw (c.from_residual-in_err-kind.ensures, attribute_parts, c.in_ok-owner.ensures, c.in_ok-key.ensures.reads, c.in_err-kind.ensures.reads) refl

pub returns-in_err-content : goal.returns-in_err-content
unfolding wholly
returns-in_err-content c =
    rw (c.from_residual-in_err-content.ensures, attribute_parts, c.in_ok-owner.ensures, c.in_ok-key.ensures.reads, c.in_ok-kind.ensures.reads, c.in_err-content.ensures.reads) refl

pub returns-then-not-is_empty : goal.returns-then-not-is_empty
unfolding wholly
returns-then-not-is_empty c =
    rw (attribute_parts, c.in_ok-owner.ensures, c.in_ok-key.ensures.reads, c.in_ok-kind.ensures.reads, c.in_ok-content.ensures.reads)
    (something_more _ _ (sym c.is_empty.ensures ∙ c.if-not-is_empty.true))

pub returns : goal.returns
unfolding wholly
returns c =
    rw (attribute_parts, c.in_ok-owner.ensures, c.in_ok-key.ensures.reads, c.in_ok-kind.ensures.reads, c.in_ok-content.ensures.reads)
    (nothing_more _ _ (sym c.is_empty.ensures ∙ c.if-not-is_empty.false))
