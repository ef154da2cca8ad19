-- The journal is short: undoing never brings an attribute, and each key that came new goes, so there are no more of these than attributes.
-- Assumes nothing.
use Prim.Native.Nat.{ℕ, ◌+◌, ◌≤◌}
use native.Mathlib.Omega.{arith}
use mathlib.Core.Bool.{true, false, not}
use mathlib.Core.List.{List, [], ◌∷◌}
use mathlib.Core.Logic.{◌⊎◌, inl, inr}
use mathlib.Core.Path.{◌≡◌, refl, sym, ap, ◌∙◌}
use borrow.Author.Tests.{ltb-true, ltb-false, eqb-true}
use lib.Dec.{eqb}
use lib.ListN.{length, drop, length-append, get_or-eq_default}
use Rattle.std.specs.List.{filter}
use Rattle.rules.specs.Store.{Store, Op, Block, no_op, no_block, op_at, block_at, op_exists, block_exists, owner_exists, attribute_total, keys_rise}
use Rattle.rules.specs.declared.types.Attribute.{Attribute}
use Rattle.rules.specs.declared.types.Owner.{Owner}
use Rattle.rules.specs.declared.types.Owner.TheVariants.{Op as of_op, Block as of_block}
use Rattle.rules.specs.Building.{attributes_of, has_key, tests, put_attribute, op_with_operand, applied}
use Rattle.rules.proofs.Attributes.{filter_rises}
use Rattle.rules.proofs.Basics.Tests.{and_left, and_right, decided, passed}
use Rattle.rules.proofs.Basics.Appended.{get_d_update, sum_update}
use Rattle.rules.proofs.Basics.Filtered.{filter_append, filter_parts, filter_some}
use Rattle.rules.proofs.Soundness.Sound.{Sound, facts as store_facts}
use Rattle.rules.proofs.Soundness.KeptAttributes.{keys_rise_lem, put_rises, put_replaced}
use Rattle.layout.specs.Journal.{Entry, operand_was, attribute_was, key_was_none, without_key, undone, undone_all, counts_of, no_counts, is_replaced, replaced_in, MarkRow, undoable, undoable_all, store_before, journal_before, none_older}
use Rattle.undo_log.specs.JournalLaws.{JournalShort}
use Rattle.undo_log.proofs.Changed.{ops_by, attributes_hold_lem, attributes_total, set_is, taken_is}
use Rattle.undo_log.proofs.Undone.{owner_holds}
use Rattle.undo_log.proofs.MarkRows.{Rising, Steps, facts}
use Rattle.undo_log.proofs.BackSteps.{back_now}

-- ---- keys rise, in whatever is undone

abbrev KeysRise : Store → Type 0
KeysRise s = (w : Owner) → keys_rise (attributes_of s w) ≡ true

-- an owner that is not there has no attributes
none_there : (s : Store) (w : Owner) → owner_exists s w ≡ false → attributes_of s w ≡ []
unfolding owner_exists op_exists block_exists attributes_of op_at block_at no_op no_block
none_there s (of_op n) h = ap (λ (o : Op). o.attributes) (get_or-eq_default s.ops no_op (ltb-false n _ h))
none_there s (of_block b) h = ap (λ (o : Block). o.attributes) (get_or-eq_default s.blocks no_block (ltb-false b _ h))

sound_rises : (s : Store) → Sound s → KeysRise s
unfolding keys_rise
sound_rises s h w = go (decided (owner_exists s w))
  where
    go : (owner_exists s w ≡ true) ⊎ (owner_exists s w ≡ false) → keys_rise (attributes_of s w) ≡ true
    go (inl e) = keys_rise_lem (attributes_of s w) (owner_holds s h w e)
    go (inr e) = ap keys_rise (none_there s w e)

undone_rises : (e : Entry) (s : Store) → KeysRise s → KeysRise (undone e s)
unfolding undone applied attributes_of op_at block_at op_with_operand without_key
undone_rises (operand_was n i v) s r (of_op m) = get_d_update (λ (o : Op). keys_rise o.attributes ≡ true) (op_with_operand i v) n m s.ops no_op (r (of_op m)) (λ e. r (of_op n))
undone_rises (operand_was n i v) s r (of_block b) = r (of_block b)
undone_rises (attribute_was w a) s r v =
    ap (λ (t : Store). keys_rise (attributes_of t v)) (set_is w a s)
    ∙ attributes_hold_lem (put_attribute a) (λ (l : List Attribute). keys_rise l ≡ true) w v s (r v) (put_rises a (attributes_of s w) (r w))
undone_rises (key_was_none w k) s r v =
    ap (λ (t : Store). keys_rise (attributes_of t v)) (taken_is w k s)
    ∙ attributes_hold_lem (without_key k) (λ (l : List Attribute). keys_rise l ≡ true) w v s (r v) (filter_rises _ (attributes_of s w) (r w))

undone_all_rises : (es : List Entry) (s : Store) → KeysRise s → KeysRise (undone_all es s)
unfolding undone_all
undone_all_rises [] s r = r
undone_all_rises (e ∷ es) s r = undone_rises e (undone_all es s) (undone_all_rises es s r)

-- ---- how many keys came new

fresh_in : List Entry → ℕ
fresh_in es = length (filter (λ (e : Entry). not (is_replaced e)) es)

fresh_none : fresh_in [] ≡ 0
unfolding fresh_in
fresh_none = refl

fresh_cons : (e : Entry) (es : List Entry) → fresh_in (e ∷ es) ≡ fresh_in (e ∷ []) + fresh_in es
unfolding fresh_in
fresh_cons e es =
    ap length (filter_append (λ (x : Entry). not (is_replaced x)) (e ∷ []) es)
    ∙ length-append (filter (λ (x : Entry). not (is_replaced x)) (e ∷ [])) (filter (λ (x : Entry). not (is_replaced x)) es)

-- a key that is there and taken
taken_fewer : (k : ℕ) (as' : List Attribute) → has_key k as' ≡ true → length (without_key k as') + 1 ≤ length as'
unfolding has_key without_key
taken_fewer k as' h = omega (arith, filter_parts (λ (a : Attribute). eqb a.key k) as', filter_some (λ (a : Attribute). eqb a.key k) as' h)

-- an operand is no attribute
operand_total_lem : (s : Store) (n i v : ℕ) → op_exists s n ≡ true → attribute_total (ops_by (op_with_operand i v) n s) ≡ attribute_total s
unfolding attribute_total op_exists op_with_operand
operand_total_lem s n i v h = omega (arith, sum_update (λ (o : Op). length o.attributes) (op_with_operand i v) n s.ops no_op (ltb-true n _ h))

undone_total : (e : Entry) (s : Store) → KeysRise s → undoable e s ≡ true → attribute_total (undone e s) + fresh_in (e ∷ []) ≤ attribute_total s
unfolding undone undoable applied tests fresh_in is_replaced
undone_total (operand_was n i v) s r h = omega (arith, operand_total_lem s n i v (passed _ (passed _ h).0).0)
undone_total (attribute_was w a) s r h =
    let p = passed _ h in
    let as' = attributes_of s w in
    omega (arith, ap attribute_total (set_is w a s), attributes_total (put_attribute a) w s p.1.0, put_replaced a as' (r w) p.1.1.0)
undone_total (key_was_none w k) s r h =
    let p = passed _ h in
    omega (arith, ap attribute_total (taken_is w k s), attributes_total (without_key k) w s p.0, taken_fewer k (attributes_of s w) p.1.0)

undone_all_total : (es : List Entry) (s : Store) → KeysRise s → undoable_all es s ≡ true → attribute_total (undone_all es s) + fresh_in es ≤ attribute_total s
unfolding undone_all undoable_all
undone_all_total [] s r h = omega (arith, fresh_none)
undone_all_total (e ∷ es) s r h =
    let t = undone_all es s in
    let first = undone_all_total es s r (and_left (undoable_all es s) (undoable e t) h) in
    let last = undone_total e t (undone_all_rises es s r) (and_right (undoable_all es s) (undoable e t) h) in
    omega (arith, fresh_cons e es)

-- ---- the whole journal can be undone

whole : (s : Store) (journal : List Entry) (rs : List MarkRow) → none_older rs journal ≡ true → Rising 0 no_counts (length journal) (counts_of s) rs → Steps s journal rs
    → undoable_all journal s ≡ true
unfolding none_older store_before journal_before undoable_all
whole s [] [] o p g = refl
whole s (e ∷ es) [] o p g = absurd (omega (arith, eqb-true (length (e ∷ es)) 0 o))
whole s journal (r ∷ rs) o p g =
    sym (ap (λ (n : ℕ). undoable_all (drop n journal) s) (eqb-true r.place 0 o)) ∙ back_now s journal r rs p.2 g.0 g.2

pub journal_short : JournalShort
unfolding JournalShort replaced_in fresh_in
journal_short j h =
    let s = j.store in
    let f = facts j h in
    let k = store_facts s f.now in
    omega (
      arith,
      filter_parts is_replaced j.journal,
      undone_all_total j.journal s (sound_rises s k) (whole s j.journal j.rows f.oldest f.rising f.steps),
      f.few,
      k.totals.attributes,
    )
