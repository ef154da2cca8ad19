-- `place_for` meets its contract: the tests come in the rules' order, each reads off the columns what its test asks, and the key's slot is where it was found. Assumes nothing.
use Rattle.std.proofs.lemmas.Grind.{common_steps}
use native.Mathlib.Omega.{arith}
use mathlib.Core.Bool.{true, false}
use mathlib.Core.Path.{◌≡◌, sym, ◌∙◌}
use Rattle.rules.specs.Store.{owner_exists}
use Rattle.layout.specs.Columns.{columns}
use Rattle.layout.specs.Reading.{attribute_count, store_in}
use Rattle.rules.specs.Causes.{cause_of}
use Rattle.mutation.specs.SetWrites.{key_there, place_for}
use Rattle.mutation.proofs.AttributeCauses.{kind_over, no_owner, key_set, many_keys, many_attributes, room_left}
use Rattle.mutation.proofs.attributes.place_for.Goals as goal

pub returns-then-attribute-gt-MAX_ATTRIBUTE_KIND-clause-refused : goal.returns-then-attribute-gt-MAX_ATTRIBUTE_KIND-clause-refused
unfolding cause_of
returns-then-attribute-gt-MAX_ATTRIBUTE_KIND-clause-refused c =
    let a = c.args in
    let b = a.store.now in
    let w = a.owner in
    let t = a.attribute in
    sym (kind_over b c.requires w t (omega arith))

pub returns-then-not-owner_exists-clause-refused : goal.returns-then-not-owner_exists-clause-refused
unfolding cause_of
returns-then-not-owner_exists-clause-refused c =
    let a = c.args in
    let b = a.store.now in
    let w = a.owner in
    let t = a.attribute in
    sym (no_owner b c.requires w t (omega arith) (sym c.owner_exists.ensures ∙ c.if-not-owner_exists.true))

pub returns-then-key_there-clause-refused : goal.returns-then-key_there-clause-refused
unfolding cause_of
returns-then-key_there-clause-refused c =
    let a = c.args in
    let b = a.store.now in
    let w = a.owner in
    let t = a.attribute in
    let o : owner_exists (store_in b) w ≡ true = sym c.owner_exists.ensures ∙ c.if-not-owner_exists.false in
    let k : key_there (columns b) w t.key ≡ true = sym c.key_there.ensures ∙ c.if-key_there.true in
    sym (key_set b c.requires w t (omega arith) o k)

pub returns-then-key_count-ge-MAX_OWN_KEYS-clause-refused : goal.returns-then-key_count-ge-MAX_OWN_KEYS-clause-refused
unfolding cause_of
returns-then-key_count-ge-MAX_OWN_KEYS-clause-refused c =
    let a = c.args in
    let b = a.store.now in
    let w = a.owner in
    let t = a.attribute in
    let o : owner_exists (store_in b) w ≡ true = sym c.owner_exists.ensures ∙ c.if-not-owner_exists.false in
    let k : key_there (columns b) w t.key ≡ false = sym c.key_there.ensures ∙ c.if-key_there.false in
    sym (many_keys b c.requires w t (omega arith) o k (omega arith))

pub returns-then-number-ge-MAX_ATTRIBUTES-clause-refused : goal.returns-then-number-ge-MAX_ATTRIBUTES-clause-refused
unfolding cause_of attribute_count
returns-then-number-ge-MAX_ATTRIBUTES-clause-refused c =
    let a = c.args in
    let b = a.store.now in
    let w = a.owner in
    let t = a.attribute in
    let o : owner_exists (store_in b) w ≡ true = sym c.owner_exists.ensures ∙ c.if-not-owner_exists.false in
    let k : key_there (columns b) w t.key ≡ false = sym c.key_there.ensures ∙ c.if-key_there.false in
    sym (many_attributes b c.requires w t (omega arith) o k (omega arith) (omega arith))

pub returns-clause-refused : goal.returns-clause-refused
unfolding cause_of attribute_count
returns-clause-refused c =
    let a = c.args in
    let b = a.store.now in
    let w = a.owner in
    let t = a.attribute in
    let o : owner_exists (store_in b) w ≡ true = sym c.owner_exists.ensures ∙ c.if-not-owner_exists.false in
    let k : key_there (columns b) w t.key ≡ false = sym c.key_there.ensures ∙ c.if-key_there.false in
    sym (room_left b c.requires w t (omega arith) o k (omega arith) (omega arith))

pub returns-then-key_there-clause-placed : goal.returns-then-key_there-clause-placed
unfolding place_for
returns-then-key_there-clause-placed c = grind (arith, common_steps)

pub returns-clause-placed : goal.returns-clause-placed
unfolding place_for
returns-clause-placed c = grind (arith, common_steps)
