-- An operation's regions are numbered one after the other in a laid out buffer, from the first word of its range on. Assumes nothing.
use Rattle.std.proofs.Common.{◌≡◌, ℕ, ◌+◌, ◌-◌, ◌<◌, ◌≤◌, List, length, get_or, sym, ap, ◌∙◌, arith}
use Rattle.rules.specs.Store.{regions_of}
use Rattle.rules.specs.Mapping.{Mapping, image}
use Rattle.layout.specs.Columns.{Cols, at, op_region_first, op_region_end, region_op}
use Rattle.layout.specs.Reading.{op_count, region_count, store_of}
use Rattle.layout.proofs.Laid.{Laid}
use Rattle.layout.proofs.Tabulate.{ops_length, region_read_lem, get_d_from}
use Rattle.layout.proofs.Ranges.{range, length_range, regions_range}
use Rattle.copying.specs.Written.{region_by}
use Rattle.copying.proofs.Built.{Runs}

get_range : (a e i : ℕ) → i < e - a → get_or (range a e) i 0 ≡ a + i
unfolding range
get_range a e i l = get_d_from a (e - a) (λ (j : ℕ). j) i 0 l

module _ (C : Cols) (h : Laid C) where
  regions_many : (m : ℕ) → m < op_count C → length (regions_of (store_of C) m) ≡ at C op_region_end m - at C op_region_first m
  regions_many m l = ap length (regions_range C h m l) ∙ length_range (at C op_region_first m) (at C op_region_end m)

  region_number : (m : ℕ) → m < op_count C → (i : ℕ) → i < length (regions_of (store_of C) m)
      → get_or (regions_of (store_of C) m) i 0 ≡ at C op_region_first m + i
  region_number m l i k =
      ap (λ (xs : List ℕ). get_or xs i 0) (regions_range C h m l)
      ∙ get_range (at C op_region_first m) (at C op_region_end m) i (omega (arith, regions_many m l))

  pub regions_counted : (m : ℕ) → m < op_count C → at C op_region_end m - at C op_region_first m ≡ length (regions_of (store_of C) m)
  regions_counted m l = sym (regions_many m l)

  pub runs : Runs (store_of C)
  runs =
      record {
        next = λ m l i k.
            let b : m < op_count C = omega (arith, ops_length C) in
            let z : 0 < length (regions_of (store_of C) m) = omega arith in
            omega (arith, region_number m b i k, region_number m b 0 z);
      }

  -- where a region's copy is looked up
  module _ (M : Mapping) (r : ℕ) (l : r < region_count C) where
    pub around_read : get_or (store_of C).regions r 0 ≡ at C region_op r
    around_read = region_read_lem C r l

    pub around_low : at C region_op r < op_count C
    around_low = (h.region r l).op_in

    pub behind_first_lem : at C op_region_first (at C region_op r) ≤ r
    behind_first_lem = (h.region r l).place.from

    pub first_low : (m : ℕ) → m < op_count C → at C op_region_first m ≤ 256
    first_low m k = let o = (h.op m k).regions.range.rises in let f = (h.op m k).regions.range.fits in let t = h.counts.regions in omega arith

    pub region_by_lem : image M.ops (get_or (store_of C).regions r 0) < op_count C
        → 0 < length (regions_of (store_of C) (image M.ops (get_or (store_of C).regions r 0)))
        → at C op_region_first (image M.ops (at C region_op r)) + (r - at C op_region_first (at C region_op r)) ≡ region_by (store_of C) M r
    unfolding region_by
    region_by_lem k z =
        let p = (h.region r l).place.below in
        let q = (h.region r l).place.from in
        let m : ℕ = at C region_op r in
        let some : 0 < length (regions_of (store_of C) m) = omega (arith, regions_many m around_low) in
        let own : get_or (regions_of (store_of C) m) 0 0 ≡ at C op_region_first m + 0 = region_number m around_low 0 some in
        let theirs = region_number (image M.ops (get_or (store_of C).regions r 0)) k 0 z in
        let e : at C op_region_first (image M.ops m) + (r - at C op_region_first m)
        ≡ get_or (regions_of (store_of C) (image M.ops (get_or (store_of C).regions r 0))) 0 0 + (r - get_or (regions_of (store_of C) (get_or (store_of C).regions r 0)) 0 0) =
        omega (arith, own, theirs, ap (λ (x : ℕ). at C op_region_first (image M.ops x)) around_read, ap (λ (x : ℕ). get_or (regions_of (store_of C) x) 0 0) around_read) in
        e
