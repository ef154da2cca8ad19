-- Undoing works at one place of a list and cutting keeps the front of each, so they go in either order; cuts within cuts; and the journal
-- undone in parts. Assumes nothing.
use mathlib.Core.List.{[], ◌∷◌}
use mathlib.Core.Path.{refl, sym, ap, ◌∙◌}
use borrow.Author.Tests.{leb-true}
use lib.Seq.{take-take, take-length}
use Rattle.rules.specs.Building.{put_attribute, op_with_operand, applied}
use Rattle.rules.proofs.Basics.Tests.{passed}
use Rattle.layout.specs.Journal.{operand_was, attribute_was, key_was_none, without_key, undone, undone_all, counts_of, cut_to, counts_within}
use Rattle.undo_log.specs.JournalLaws.{CutCommutes, CutCommutesAll, CutTwice, CutWhole, UndoneParts}
use Rattle.undo_log.proofs.Changed.{cut_ops, cut_attributes, set_is, taken_is}

pub cut_commutes : CutCommutes
unfolding CutCommutes undone applied
cut_commutes (operand_was n i v) k s = cut_ops (op_with_operand i v) n k s
cut_commutes (attribute_was w a) k s = ap (cut_to k) (set_is w a s) ∙ cut_attributes (put_attribute a) w k s ∙ sym (set_is w a (cut_to k s))
cut_commutes (key_was_none w q) k s = ap (cut_to k) (taken_is w q s) ∙ cut_attributes (without_key q) w k s ∙ sym (taken_is w q (cut_to k s))

pub cut_commutes_all : CutCommutesAll
unfolding CutCommutesAll CutCommutes undone_all
cut_commutes_all [] k s = refl
cut_commutes_all (e ∷ es) k s = cut_commutes e k (undone_all es s) ∙ ap (undone e) (cut_commutes_all es k s)

pub cut_whole : CutWhole
unfolding CutWhole cut_to counts_of
cut_whole s =
    λ j. record { ops = take-length s.ops j; blocks = take-length s.blocks j; regions = take-length s.regions j; values = take-length s.values j }

pub cut_twice : CutTwice
unfolding CutTwice cut_to counts_within
cut_twice a b s h =
    let p = passed _ h in
    λ j. record {
      ops = take-take a.ops b.ops s.ops (leb-true _ _ p.0) j;
      blocks = take-take a.blocks b.blocks s.blocks (leb-true _ _ p.1.0) j;
      regions = take-take a.regions b.regions s.regions (leb-true _ _ p.1.1.0) j;
      values = take-take a.values b.values s.values (leb-true _ _ p.1.1.1.0) j;
    }

pub undone_parts : UndoneParts
unfolding UndoneParts undone_all
undone_parts [] ys s = refl
undone_parts (x ∷ xs) ys s = ap (undone x) (undone_parts xs ys s)
