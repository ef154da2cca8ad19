-- In the middle of giving one owner the attributes of another: the next one is read where it stood, the slot behind the owner's last is free, and the
-- attribute put there is the next of the list. Assumes nothing.
use Rattle.std.proofs.Common.{◌≡◌, ℕ, ◌+◌, ◌<◌, ◌≤◌, true, false, List, [], length, get_or, take, refl, sym, ap, ap₂, subst, ◌∙◌, arith, length-take, add-one}
use Rattle.std.proofs.Math.Seq.{take-suc}
use Rattle.std.proofs.lemmas.List.{take_all}
use borrow.Author.Tests.{ltb-true, leb-true}
use lib.Dec.{ltb, leb}
use Rattle.rules.specs.Store.{Store, owner_exists, op_exists, block_exists, keys_rise, attributes_hold, attribute_total, max_attributes, max_attribute_kind}
use Rattle.rules.specs.declared.types.Attribute.{Attribute}
use Rattle.rules.specs.declared.types.Owner.{Owner}
use Rattle.rules.specs.declared.types.Owner.TheVariants.{Op as of_op, Block as of_block}
use Rattle.rules.specs.Building.{attributes_of, set_attribute, applied}
use Rattle.rules.proofs.Basics.Tests.{passed, all_at}
use Rattle.rules.proofs.Basics.Appended.{length_update, mem_get_d}
use Rattle.layout.specs.Columns.{columns, slot_count}
use Rattle.layout.specs.Reading.{store_in, slots_of, attribute_at, attribute_count}
use Rattle.layout.specs.Soundness.{Arranged}
use Rattle.layout.specs.Owners.{key_count}
use Rattle.layout.proofs.Laid.{laid_facts}
use Rattle.layout.proofs.OwnerKeys.{owner_in_lem, owner_reached}
use Rattle.layout.proofs.Totals.{attribute_total_lem}
use Rattle.mutation.specs.SetWrites.{added}
use Rattle.copying.specs.Written.{ReadsAs, op_attributed, block_attributed, attributed}
use Rattle.copying.proofs.Attributed.{AllBelow, OwnerHere, keys_below, attributed_none, attributed_more, attributes_there, attributes_else}
use Rattle.copying.proofs.Wrote.{wrote_none, wrote_after, wrote_as, keys_counted, slot_read, attribute_wrote, attribute_counted_lem}

pub no_attribute : Attribute
no_attribute = record { key = 0; kind = 0; content = 0; inherent = false }

owner_there : (s : Store) (w : Owner) → owner_exists s w ≡ true → OwnerHere s w
unfolding owner_exists op_exists block_exists OwnerHere
owner_there s (of_op n) e = ltb-true n (length s.ops) e
owner_there s (of_block b) e = ltb-true b (length s.blocks) e

-- the tables are as long as before
ops_kept : (s : Store) (w : Owner) (as' : List Attribute) → length (attributed s w as').ops ≡ length s.ops
unfolding attributed
ops_kept s (of_op n) as' = length_update (op_attributed as') n s.ops
ops_kept s (of_block b) as' = refl

blocks_kept : (s : Store) (w : Owner) (as' : List Attribute) → length (attributed s w as').blocks ≡ length s.blocks
unfolding attributed
blocks_kept s (of_op n) as' = refl
blocks_kept s (of_block b) as' = length_update (block_attributed as') b s.blocks

exists_kept : (s : Store) (w u : Owner) (as' : List Attribute) → owner_exists s u ≡ true → owner_exists (attributed s w as') u ≡ true
unfolding owner_exists op_exists block_exists
exists_kept s w (of_op n) as' e = ap (ltb n) (ops_kept s w as') ∙ e
exists_kept s w (of_block b) as' e = ap (ltb b) (blocks_kept s w as') ∙ e

-- what is known of the next one
pub record NextOne (b : List ℕ) (from to : Owner) (i : ℕ) (next : Attribute) : Type 0 where
  pub to_now : owner_exists (store_in b) to ≡ true
  pub own_counted : key_count (columns b) to ≡ i
  pub few_keys : key_count (columns b) to < 8
  pub from_slot : slots_of from + i < slot_count
  pub to_slot : slots_of to + i < slot_count
  pub read : attribute_at (columns b) (slots_of from + i) ≡ next
  pub kind : next.kind ≤ max_attribute_kind

module _ (a : List ℕ) (from to : Owner) (h : Arranged a) (fe : owner_exists (store_in a) from ≡ true) (te : owner_exists (store_in a) to ≡ true) where
  abbrev pub whole : List Attribute
  whole = attributes_of (store_in a) from

  pub all_counted : length whole ≡ key_count (columns a) from
  all_counted = keys_counted a from fe

  pub begun : attributes_of (store_in a) to ≡ [] → ReadsAs a a (attributed (store_in a) to [])
  begun e = wrote_as a a _ _ (sym (attributed_none (store_in a) to e)) (wrote_none a h)

  pub ended : (b : List ℕ) (i : ℕ) → key_count (columns a) from ≤ i → ReadsAs a b (attributed (store_in a) to (take i whole))
      → ReadsAs a b (attributed (store_in a) to whole)
  ended b i l w =
      let k : length whole ≤ i = omega (arith, all_counted) in
      wrote_as a b _ _ (ap (attributed (store_in a) to) (take_all i whole k)) w

  module _ (apart : from ≡ to → ⊥) (held : attributes_hold whole ≡ true) (room : attribute_total (store_in a) + length whole ≤ max_attributes)
      (b : List ℕ) (i : ℕ) (l : i < key_count (columns a) from) (w : ReadsAs a b (attributed (store_in a) to (take i whole)))
      (total : attribute_count (columns b) ≡ attribute_count (columns a) + i) where
    inside : i < length whole
    inside = omega (arith, all_counted)

    from_now : owner_exists (store_in b) from ≡ true
    from_now = ap (λ (s : Store). owner_exists s from) w.reads ∙ exists_kept (store_in a) to from (take i whole) fe

    to_now : owner_exists (store_in b) to ≡ true
    to_now = ap (λ (s : Store). owner_exists s to) w.reads ∙ exists_kept (store_in a) to to (take i whole) te

    theirs : attributes_of (store_in b) from ≡ whole
    theirs = ap (λ (s : Store). attributes_of s from) w.reads ∙ attributes_else (store_in a) to from (take i whole) apart

    own : attributes_of (store_in b) to ≡ take i whole
    own = ap (λ (s : Store). attributes_of s to) w.reads ∙ attributes_there (store_in a) to (take i whole) (owner_there (store_in a) to te)

    own_counted : key_count (columns b) to ≡ i
    own_counted =
        let e : length (take i whole) ≡ i = length-take i whole ∙ omega (arith, inside) in
        sym (keys_counted b to to_now) ∙ ap length own ∙ e

    theirs_counted : key_count (columns b) from ≡ key_count (columns a) from
    theirs_counted = sym (keys_counted b from from_now) ∙ ap length theirs ∙ all_counted

    -- the next one
    abbrev pub next : Attribute
    next = get_or whole i no_attribute

    next_read : attribute_at (columns b) (slots_of from + i) ≡ next
    next_read =
        slot_read b from from_now i no_attribute (omega (arith, theirs_counted)) ∙ ap (λ (xs : List Attribute). get_or xs i no_attribute) theirs

    from_slot : slots_of from + i < slot_count
    from_slot =
        let r = owner_reached (columns a) from (laid_facts (columns a) h.laid) (owner_in_lem (columns a) from fe) in
        omega (arith, r.slots, r.keys)

    few_keys : key_count (columns b) to < 8
    few_keys =
        let r = owner_reached (columns a) from (laid_facts (columns a) h.laid) (owner_in_lem (columns a) from fe) in
        omega (arith, r.keys, own_counted)

    to_slot : slots_of to + i < slot_count
    to_slot =
        let r = owner_reached (columns a) to (laid_facts (columns a) h.laid) (owner_in_lem (columns a) to te) in
        let k = owner_reached (columns a) from (laid_facts (columns a) h.laid) (owner_in_lem (columns a) from fe) in
        omega (arith, r.slots, k.keys)

    next_kind : next.kind ≤ max_attribute_kind
    unfolding attributes_hold
    next_kind =
        leb-true _ _ (all_at (λ (x : Attribute). leb x.kind max_attribute_kind) whole (passed _ held).1.1.0 (mem_get_d whole i no_attribute inside))

    rises : keys_rise whole ≡ true
    unfolding attributes_hold
    rises = (passed _ held).0

    above : AllBelow next.key (attributes_of (store_in b) to)
    above = subst (AllBelow next.key) (sym own) (keys_below whole i no_attribute rises inside)

    more_room : attribute_count (columns b) + 1 ≤ max_attributes
    more_room = omega (arith, inside, total, attribute_total_lem (columns a) (laid_facts (columns a) h.laid))

    pub next_one : NextOne b from to i next
    next_one =
        record {
          to_now = to_now;
          own_counted = own_counted;
          few_keys = few_keys;
          from_slot = from_slot;
          to_slot = to_slot;
          read = next_read;
          kind = next_kind;
        }

    -- and with it
    module _ (d : List ℕ) (len : length d ≡ length b) (slot : ℕ) (at_last : slot ≡ slots_of to + i) (x : Attribute) (is_next : x ≡ next)
        (e : columns d ≡ added (columns b) to slot x) where
      put : columns d ≡ added (columns b) to (slots_of to + key_count (columns b) to) next
      put = e ∙ ap₂ (added (columns b) to) (at_last ∙ ap (λ (k : ℕ). slots_of to + k) (sym own_counted)) is_next

      pub again : ReadsAs a d (attributed (store_in a) to (take (i + 1) whole))
      again =
          wrote_as a d _ _ (attributed_more (store_in a) to (take i whole) next (keys_below whole i no_attribute rises inside)
          ∙ ap (attributed (store_in a) to) (sym (ap (λ (k : ℕ). take k whole) (add-one i) ∙ take-suc whole i no_attribute inside)))
          (wrote_after a b d _ _ w
          (omega (arith, ops_kept (store_in a) to (take i whole))) (omega (arith, blocks_kept (store_in a) to (take i whole)))
          (wrote_as b d _ _ (ap (λ (s : Store). applied s (set_attribute to next)) w.reads) (attribute_wrote b d w.arranged len to next to_now above next_kind few_keys more_room put)))

      pub total_again : attribute_count (columns d) ≡ attribute_count (columns a) + (i + 1)
      total_again = omega (arith, attribute_counted_lem b d w.arranged len to next to_now above next_kind few_keys more_room put, total)
