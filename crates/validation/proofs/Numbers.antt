-- Numbers of marks, none twice: each row is the first one of its number. Assumes nothing.
use Prim.Native.Nat.{ℕ, zero, suc, ◌<◌}
use native.Mathlib.Nat.{not-suc-le-zero}
use native.Mathlib.Omega.{arith}
use mathlib.Core.Bool.{Bool, true, false, cond}
use mathlib.Core.List.{List, [], ◌∷◌}
use mathlib.Core.Path.{◌≡◌, refl, sym, ap, subst, ◌∙◌}
use borrow.Author.Tests.{eq-eqb, ne_eqb, ltb-true}
use lib.ListN.{length, get_or}
use Rattle.std.specs.List.{list_any}
use Rattle.rules.specs.Marks.{is_mark}
use Rattle.rules.proofs.Basics.Tests.{clash}
use Rattle.rules.proofs.Basics.Filtered.{any_at}
use Rattle.rules.proofs.Basics.Appended.{mem_get_d}
use Rattle.layout.specs.Journal.{MarkRow, row_has_number}
use Rattle.undo_log.proofs.MarkRows.{Numbered, found}
use Rattle.undo_log.specs.MarkWrites.{place_in}
use Rattle.undo_log.proofs.Sought.{place_set, place_row}

-- the number of a mark, which no row before row i has
abbrev pub FirstAt : List MarkRow → ℕ → ℕ → Type 0
FirstAt rs k i = (is_mark k ≡ true) × (place_in k rs ≡ i)

head_place : (r : MarkRow) (rs : List MarkRow) → place_in r.number (r ∷ rs) ≡ 0
unfolding place_in row_has_number
head_place r rs = ap (λ (b : Bool). cond b 0 (suc (place_in r.number rs))) (eq-eqb r.number r.number refl)

other_place : (k : ℕ) (r : MarkRow) (rs : List MarkRow) → row_has_number k r ≡ false → place_in k (r ∷ rs) ≡ suc (place_in k rs)
unfolding place_in
other_place k r rs e = ap (λ (b : Bool). cond b 0 (suc (place_in k rs))) e

later_place : (k i : ℕ) (r : MarkRow) (rs : List MarkRow) → place_in k (r ∷ rs) ≡ suc i → place_in k rs ≡ i
unfolding place_in
later_place k i r rs = go (row_has_number k r)
  where
    go : (b : Bool) → cond b 0 (suc (place_in k rs)) ≡ suc i → place_in k rs ≡ i
    go true e = absurd (let w : ⊥ = omega arith in w)
    go false e = omega arith

differs : (r : MarkRow) (rs : List MarkRow) → list_any (row_has_number r.number) rs ≡ false → (d : MarkRow) (i : ℕ) → i < length rs → row_has_number (get_or rs i d).number r ≡ false
unfolding row_has_number
differs r rs none d i l =
    ne_eqb r.number (get_or rs i d).number
    (λ e. clash (any_at (row_has_number r.number) (mem_get_d rs i d l) (eq-eqb (get_or rs i d).number r.number (sym e))) none)

pub first_at_lem : (rs : List MarkRow) → Numbered rs → (d : MarkRow) (i : ℕ) → i < length rs → FirstAt rs (get_or rs i d).number i
first_at_lem [] p d i l = absurd (not-suc-le-zero l)
first_at_lem (r ∷ rs) p d zero l = (p.0, head_place r rs)
first_at_lem (r ∷ rs) p d (suc i) l =
    let k = (get_or rs i d).number in
    let z = first_at_lem rs p.2 d i (omega arith) in
    (z.0, other_place k r rs (differs r rs p.1 d i (omega arith)) ∙ ap suc z.1)

-- a later row of the first one's number would not be the first
none_later : (r : MarkRow) (rs : List MarkRow) (d : MarkRow) → ((i : ℕ) → i < length rs → place_in (get_or rs i d).number (r ∷ rs) ≡ suc i) → list_any (row_has_number r.number) rs ≡ false
none_later r rs d h = go (list_any (row_has_number r.number) rs) refl
  where
    go : (b : Bool) → list_any (row_has_number r.number) rs ≡ b → b ≡ false
    go false e = refl
    go true e =
        let j = place_in r.number rs in
        let same : (get_or rs j d).number ≡ r.number = ap (λ (q : MarkRow). q.number) (place_row d r.number rs) ∙ (found d r.number rs e).1 in
        let back : place_in r.number (r ∷ rs) ≡ suc j = subst (λ (k : ℕ). place_in k (r ∷ rs) ≡ suc j) same (h j (ltb-true j (length rs) (sym (place_set r.number rs) ∙ e))) in
        absurd (let w : ⊥ = omega (arith, head_place r rs) in w)

pub numbered_of : (rs : List MarkRow) (d : MarkRow) → ((i : ℕ) → i < length rs → FirstAt rs (get_or rs i d).number i) → Numbered rs
numbered_of [] d h = tt
numbered_of (r ∷ rs) d h = (
  (h 0 (omega arith)).0,
  none_later r rs d (λ i l. (h (suc i) (omega arith)).1),
  numbered_of rs d (λ i l. let z = h (suc i) (omega arith) in (z.0, later_place (get_or rs i d).number i r rs z.1)),
)
