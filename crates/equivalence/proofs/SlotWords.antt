-- Two attributes are the same exactly where the words of their slots are. Assumes nothing.
use Prim.Native.Nat.{ℕ}
use mathlib.Core.Bool.{Bool}
use mathlib.Core.List.{List, [], ◌∷◌}
use mathlib.Core.Path.{◌≡◌, ap}
use borrow.Author.Tests.{eqb-true, eq-eqb}
use lib.Dec.{eqb}
use Rattle.rules.specs.Lists.{every}
use Rattle.rules.specs.declared.types.Attribute.{Attribute}
use Rattle.rules.specs.Shells.{same_attribute}
use Rattle.rules.proofs.Basics.Tests.{passed, every_of}
use Rattle.rules.proofs.Form.SameShells.{attribute_same}
use Rattle.layout.specs.Columns.{Cols, at, slot_key, slot_kind, slot_content}
use Rattle.layout.specs.Reading.{attribute_at, attribute_read}
use Rattle.layout.proofs.KindWords.{words_same}
use Rattle.layout.proofs.Scans.{same_tests}

module _ (C : Cols) (l r : ℕ) where
  abbrev tests : List Bool
  tests =
      eqb (at C slot_key l) (at C slot_key r)
      ∷ eqb (at C slot_kind l) (at C slot_kind r)
      ∷ eqb (at C slot_content l) (at C slot_content r)
      ∷ []

  pub slots_same : every tests ≡ same_attribute (attribute_at C l) (attribute_at C r)
  unfolding attribute_at
  slots_same =
      same_tests (every tests) (same_attribute (attribute_at C l) (attribute_at C r))
      (λ t.
      let p = passed tests t in
      let k = eqb-true (at C slot_key l) (at C slot_key r) p.0 in
      let w = eqb-true (at C slot_kind l) (at C slot_kind r) p.1.0 in
      let c = eqb-true (at C slot_content l) (at C slot_content r) p.1.1.0 in
      (attribute_same (attribute_at C l) (attribute_at C r)).1 (λ i. attribute_read (k i) (w i) (c i)))
      (λ t.
      let e = (attribute_same (attribute_at C l) (attribute_at C r)).0 t in
      let k = ap (λ (a : Attribute). a.key) e in
      let w = words_same (at C slot_kind l) (at C slot_kind r) (ap (λ (a : Attribute). a.kind) e) (ap (λ (a : Attribute). a.inherent) e) in
      let c = ap (λ (a : Attribute). a.content) e in
      every_of tests (eq-eqb _ _ k, (eq-eqb _ _ w, (eq-eqb _ _ c, tt))))
