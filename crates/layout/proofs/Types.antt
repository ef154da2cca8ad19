-- The type of a value is read off its column, so the types of an owner's values, whose numbers are a range, stand there side by side.
-- Assumes nothing.
use Prim.Native.Nat.{ℕ, ◌+◌, ◌-◌, ◌<◌, ◌≤◌}
use native.Mathlib.Omega.{arith}
use mathlib.Core.List.{map}
use mathlib.Core.Path.{◌≡◌, sym, ap, subst, ◌∙◌}
use lib.ListN.{length}
use lib.Seq.{ext_get_or}
use Rattle.rules.specs.Store.{type_of}
use Rattle.layout.specs.Columns.{Cols, at, value_type}
use Rattle.layout.specs.Reading.{slice, value_count, value_of, store_of}
use Rattle.layout.proofs.Laid.{Shaped, Laid}
use Rattle.layout.proofs.Tabulate.{length_from, get_d_from, map_from, value_read}
use Rattle.layout.proofs.Scans.{slice_length, slice_at}
use Rattle.layout.proofs.Ranges.{range}

pub type_read : (C : Cols) (v : ℕ) → v < value_count C → type_of (store_of C) v ≡ at C value_type v
unfolding type_of value_of
type_read C v l = ap (λ x. x.type) (value_read C v l)

module _ (C : Cols) (shaped : Shaped C) (h : Laid C) where
  pub types_read : (a e : ℕ) → e ≤ value_count C → map (type_of (store_of C)) (range a e) ≡ slice (C value_type) a e
  unfolding range at
  types_read a e fits =
      let long : length (slice (C value_type) a e) ≡ e - a = slice_length (C value_type) a e (omega (arith, shaped value_type, h.counts.values)) in
      map_from (type_of (store_of C)) (λ (i : ℕ). i) a (e - a)
      ∙ ext_get_or 0 _ _ (length_from a (e - a) (type_of (store_of C)) ∙ sym long)
      (λ i l.
      let b : i < e - a = subst (λ (k : ℕ). i < k) (length_from a (e - a) (type_of (store_of C))) l in
      get_d_from a (e - a) (type_of (store_of C)) i 0 b ∙ type_read C (a + i) (omega arith) ∙ sym (slice_at (C value_type) a e i b))
