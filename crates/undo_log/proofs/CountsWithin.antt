-- Counts within counts, and how many there are of everything when it is undone or cut. Assumes nothing.
use Prim.Native.Nat.{ℕ}
use native.Mathlib.Omega.{arith}
use mathlib.Core.Bool.{true}
use mathlib.Core.List.{List, [], ◌∷◌}
use mathlib.Core.Path.{◌≡◌, refl, ap, ◌∙◌}
use borrow.Author.Tests.{leb-true, le-leb}
use lib.ListN.{length}
use lib.Seq.{length-take-le}
use Rattle.rules.specs.Store.{Store}
use Rattle.rules.specs.declared.types.Owner.TheVariants.{Op as of_op, Block as of_block}
use Rattle.rules.specs.Building.{applied}
use Rattle.rules.proofs.Basics.Tests.{passed, every_of}
use Rattle.rules.proofs.Basics.Appended.{length_update}
use Rattle.rules.proofs.Basics.Cut.{length_cut}
use Rattle.layout.specs.Journal.{Entry, key_taken, no_counts, operand_was, attribute_was, key_was_none, undone, undone_all, Counts, counts_of, cut_to, counts_within}

pub within_same : (a : Counts) → counts_within a a ≡ true
unfolding counts_within
within_same a =
    every_of _ (
      le-leb a.ops a.ops (omega arith),
      (le-leb a.blocks a.blocks (omega arith), (le-leb a.regions a.regions (omega arith), (le-leb a.values a.values (omega arith), tt))),
    )

pub within_trans : (a b c : Counts) → counts_within a b ≡ true → counts_within b c ≡ true → counts_within a c ≡ true
unfolding counts_within
within_trans a b c h g =
    let p = passed _ h in
    let q = passed _ g in
    every_of _ (
      le-leb a.ops c.ops (omega (arith, leb-true a.ops _ p.0, leb-true _ c.ops q.0)),
      (
        le-leb a.blocks c.blocks (omega (arith, leb-true a.blocks _ p.1.0, leb-true _ c.blocks q.1.0)),
        (
          le-leb a.regions c.regions (omega (arith, leb-true a.regions _ p.1.1.0, leb-true _ c.regions q.1.1.0)),
          (le-leb a.values c.values (omega (arith, leb-true a.values _ p.1.1.1.0, leb-true _ c.values q.1.1.1.0)), tt),
        ),
      ),
    )

pub within_none : (a : Counts) → counts_within no_counts a ≡ true
unfolding counts_within no_counts
within_none a =
    every_of _ (
      le-leb 0 a.ops (omega arith),
      (le-leb 0 a.blocks (omega arith), (le-leb 0 a.regions (omega arith), (le-leb 0 a.values (omega arith), tt))),
    )

-- ---- counts of what is undone and cut

abbrev with_ops : ℕ → Store → Counts
with_ops k s = record { ops = k; blocks = length s.blocks; regions = length s.regions; values = length s.values }

abbrev with_blocks : ℕ → Store → Counts
with_blocks k s = record { ops = length s.ops; blocks = k; regions = length s.regions; values = length s.values }

counts_undone_one : (e : Entry) (s : Store) → counts_of (undone e s) ≡ counts_of s
unfolding counts_of undone applied key_taken
counts_undone_one (operand_was n i v) s = ap (λ (k : ℕ). with_ops k s) (length_update _ n s.ops)
counts_undone_one (attribute_was (of_op n) a) s = ap (λ (k : ℕ). with_ops k s) (length_update _ n s.ops)
counts_undone_one (attribute_was (of_block b) a) s = ap (λ (k : ℕ). with_blocks k s) (length_update _ b s.blocks)
counts_undone_one (key_was_none (of_op n) q) s = ap (λ (k : ℕ). with_ops k s) (length_update _ n s.ops)
counts_undone_one (key_was_none (of_block b) q) s = ap (λ (k : ℕ). with_blocks k s) (length_update _ b s.blocks)

pub counts_undone : (es : List Entry) (s : Store) → counts_of (undone_all es s) ≡ counts_of s
unfolding undone_all
counts_undone [] s = refl
counts_undone (e ∷ es) s = counts_undone_one e (undone_all es s) ∙ counts_undone es s

pub counts_cut : (k : Counts) (s : Store) → counts_within (counts_of (cut_to k s)) (counts_of s) ≡ true
unfolding counts_within counts_of cut_to
counts_cut k s =
    every_of _ (
      le-leb _ _ (length_cut k.ops s.ops),
      (
        le-leb _ _ (length_cut k.blocks s.blocks),
        (le-leb _ _ (length_cut k.regions s.regions), (le-leb _ _ (length_cut k.values s.values), tt)),
      ),
    )

-- there is enough of everything
pub counts_reached : (k : Counts) (s : Store) → counts_within k (counts_of s) ≡ true → counts_of (cut_to k s) ≡ k
unfolding counts_within counts_of cut_to
counts_reached k s h =
    let p = passed _ h in
    λ i. record {
      ops = length-take-le k.ops s.ops (leb-true _ _ p.0) i;
      blocks = length-take-le k.blocks s.blocks (leb-true _ _ p.1.0) i;
      regions = length-take-le k.regions s.regions (leb-true _ _ p.1.1.0) i;
      values = length-take-le k.values s.values (leb-true _ _ p.1.1.1.0) i;
    }
