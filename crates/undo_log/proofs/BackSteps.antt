-- Steps back: what can be undone in a cut store can be in the whole one, so that steps that follow each other are one step; and the steps of
-- rows of which some go. Assumes nothing.
use Prim.Native.Nat.{ℕ, ◌≤◌}
use native.Mathlib.Omega.{arith}
use mathlib.Core.Bool.{Bool, true, false, cond}
use mathlib.Core.List.{List, [], ◌∷◌, ◌++◌}
use mathlib.Core.Path.{◌≡◌, refl, ap, ap₂, subst, ◌∙◌}
use borrow.Author.Tests.{ltb-true, lt-ltb}
use lib.Dec.{ltb}
use lib.ListN.{length, take, drop}
use lib.Seq.{take-take, length-take-le}
use Rattle.std.specs.List.{filter}
use Rattle.rules.specs.Store.{Store, Op, Block, no_op, no_block, op_at, block_at, op_exists, block_exists, value_exists, owner_exists}
use Rattle.rules.specs.declared.types.Attribute.{Attribute}
use Rattle.rules.specs.declared.types.Owner.{Owner}
use Rattle.rules.specs.declared.types.Owner.TheVariants.{Op as of_op, Block as of_block}
use Rattle.rules.specs.Building.{attributes_of, has_key, tests}
use Rattle.rules.proofs.Basics.Tests.{and_left, and_right, and_both, passed, every_of}
use Rattle.rules.proofs.Basics.Cut.{length_cut, get_d_cut, drop_parts}
use Rattle.layout.specs.Journal.{Entry, operand_was, attribute_was, key_was_none, undone_all, Counts, counts_of, cut_to, MarkRow, snapshot_of, undoable, undoable_all, store_before, journal_before}
use Rattle.undo_log.specs.JournalLaws.{CutCommutesAll, UndoneParts}
use Rattle.undo_log.proofs.CutJournal.{cut_commutes_all, undone_parts}
use Rattle.undo_log.proofs.MarkRows.{Rising, rising_end, rising_from, Back, Steps}
use Rattle.undo_log.proofs.ReadBack.{back_snapshot}

-- ---- in the whole store as in the cut one

below_cut : {A : Type 0} (k n : ℕ) (xs : List A) → ltb n (length (take k xs)) ≡ true → ltb n (length xs) ≡ true
below_cut k n xs h = lt-ltb n (length xs) (omega (arith, ltb-true n (length (take k xs)) h, length_cut k xs))

module _ (k : Counts) (s : Store) where
  owner_uncut : (w : Owner) → owner_exists (cut_to k s) w ≡ true → owner_exists s w ≡ true
  unfolding owner_exists op_exists block_exists cut_to
  owner_uncut (of_op n) h = below_cut k.ops n s.ops h
  owner_uncut (of_block b) h = below_cut k.blocks b s.blocks h

  attributes_uncut : (w : Owner) → owner_exists (cut_to k s) w ≡ true → attributes_of (cut_to k s) w ≡ attributes_of s w
  unfolding owner_exists op_exists block_exists attributes_of op_at block_at cut_to
  attributes_uncut (of_op n) h = ap (λ (o : Op). o.attributes) (get_d_cut k.ops n s.ops no_op (ltb-true n _ h))
  attributes_uncut (of_block b) h = ap (λ (o : Block). o.attributes) (get_d_cut k.blocks b s.blocks no_block (ltb-true b _ h))

  undoable_uncut : (e : Entry) → undoable e (cut_to k s) ≡ true → undoable e s ≡ true
  unfolding undoable tests op_exists value_exists op_at cut_to
  undoable_uncut (operand_was n i v) h =
      let p = passed _ h in
      let names = passed _ p.0 in
      every_of _ (
        every_of _ (below_cut k.ops n s.ops names.0, (below_cut k.values v s.values names.1.0, tt)),
        (subst (λ (o : Op). ltb i (length o.operands) ≡ true) (get_d_cut k.ops n s.ops no_op (ltb-true n _ names.0)) p.1.0, tt),
      )
  undoable_uncut (attribute_was w a) h =
      let p = passed _ h in
      every_of _ (p.0, (owner_uncut w p.1.0, (subst (λ (l : List Attribute). has_key a.key l ≡ true) (attributes_uncut w p.1.0) p.1.1.0, tt)))
  undoable_uncut (key_was_none w q) h =
      let p = passed _ h in
      every_of _ (owner_uncut w p.0, (subst (λ (l : List Attribute). has_key q l ≡ true) (attributes_uncut w p.0) p.1.0, tt))

pub undoable_uncut_all : (es : List Entry) (k : Counts) (s : Store) → undoable_all es (cut_to k s) ≡ true → undoable_all es s ≡ true
unfolding undoable_all CutCommutesAll
undoable_uncut_all [] k s h = refl
undoable_uncut_all (e ∷ es) k s h =
    let last = undoable e (undone_all es (cut_to k s)) in
    and_both _ _ (undoable_uncut_all es k s (and_left (undoable_all es (cut_to k s)) last h))
    (undoable_uncut k (undone_all es s) e (ap (undoable e) (cut_commutes_all es k s) ∙ and_right (undoable_all es (cut_to k s)) last h))

-- ---- in parts

pub undoable_parts : (xs ys : List Entry) (s : Store) → undoable_all ys s ≡ true → undoable_all xs (undone_all ys s) ≡ true → undoable_all (xs ++ ys) s ≡ true
unfolding undoable_all UndoneParts
undoable_parts [] ys s h g = h
undoable_parts (x ∷ xs) ys s h g =
    let t = undone_all ys s in
    and_both _ _ (undoable_parts xs ys s h (and_left (undoable_all xs t) (undoable x (undone_all xs t)) g))
    (ap (undoable x) (undone_parts xs ys s) ∙ and_right (undoable_all xs t) (undoable x (undone_all xs t)) g)

-- ---- one step after the other

module _ (s : Store) (journal : List Entry) where
  -- the journal and the tables before younger rows, as far as an older row sees them
  before_take : (place : ℕ) (counts : Counts) (rs : List MarkRow) → Rising place counts (length journal) (counts_of s) rs
      → (place ≤ length (journal_before journal rs)) × (take place (journal_before journal rs) ≡ take place journal)
  unfolding journal_before
  before_take place counts [] p = (p.0, refl)
  before_take place counts (q ∷ qs) p =
      let end : q.place ≤ length journal = (rising_end q.place q.counts (length journal) (counts_of s) qs p.2).0 in
      let l : place ≤ q.place = p.0 in
      (omega (arith, length-take-le q.place journal end), take-take place q.place journal l)

  pub before_snapshot : (q : MarkRow) (rs : List MarkRow) → Rising q.place q.counts (length journal) (counts_of s) rs
      → snapshot_of (store_before s journal rs) (journal_before journal rs) q ≡ snapshot_of s journal q
  unfolding store_before journal_before
  before_snapshot q [] p = refl
  before_snapshot q (r ∷ rs) p = back_snapshot s journal r (rising_end r.place r.counts (length journal) (counts_of s) rs p.2).0 q p.0 p.1

  back_over : (r q : MarkRow) (rs : List MarkRow) → r.place ≤ q.place → Rising q.place q.counts (length journal) (counts_of s) rs
      → Back s journal r (q ∷ rs) → Back s journal q rs → Back s journal r rs
  unfolding store_before journal_before snapshot_of
  back_over r q rs l p h g =
      let E = journal_before journal rs in
      let S = store_before s journal rs in
      let older = drop r.place (take q.place E) in
      let b = before_take q.place q.counts rs p in
      let first : undoable_all older (cut_to q.counts (undone_all (drop q.place E) S)) ≡ true =
      ap₂ (λ (es : List Entry) (t : Store). undoable_all (drop r.place es) t) b.1 (before_snapshot q rs p) ∙ h in
      ap (λ (es : List Entry). undoable_all es S) (drop_parts r.place q.place E l b.0)
      ∙ undoable_parts older (drop q.place E) S g (undoable_uncut_all older q.counts (undone_all (drop q.place E) S) first)

  -- from now to a mark in one step
  pub back_now : (r : MarkRow) (rs : List MarkRow) → Rising r.place r.counts (length journal) (counts_of s) rs → Back s journal r rs → Steps s journal rs
      → Back s journal r []
  back_now r [] p h g = h
  back_now r (q ∷ qs) p h g =
      back_now r qs (rising_from q.place r.place q.counts r.counts _ _ qs p.0 p.1 p.2) (back_over r q qs p.0 p.2 h g.0) g.2

  -- ---- rows that go

  module _ (keep : MarkRow → Bool) where
    back_filter : (r : MarkRow) (rs : List MarkRow) → Rising r.place r.counts (length journal) (counts_of s) rs → Back s journal r rs → Steps s journal rs
        → Back s journal r (filter keep rs)
    unfolding store_before journal_before
    back_filter r [] p h g = h
    back_filter r (q ∷ qs) p h g =
        go (keep q) (back_filter r qs (rising_from q.place r.place q.counts r.counts _ _ qs p.0 p.1 p.2) (back_over r q qs p.0 p.2 h g.0) g.2)
      where
        go : (b : Bool) → Back s journal r (filter keep qs) → Back s journal r (cond b (q ∷ filter keep qs) (filter keep qs))
        go true f = h
        go false f = f

    pub steps_filter : (place : ℕ) (counts : Counts) (rs : List MarkRow) → Rising place counts (length journal) (counts_of s) rs → Steps s journal rs
        → Steps s journal (filter keep rs)
    steps_filter place counts [] p g = tt
    steps_filter place counts (r ∷ rs) p g = go (keep r) (steps_filter r.place r.counts rs p.2 g.2)
      where
        go : (b : Bool) → Steps s journal (filter keep rs) → Steps s journal (cond b (r ∷ filter keep rs) (filter keep rs))
        go true f = (back_filter r rs p.2 g.0 g.2, g.1, f)
        go false f = f
