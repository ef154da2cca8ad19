-- Where the first fields of a line end: each comma that is found is the end of one field more. Assumes nothing.
use Prim.Native.Nat.{ℕ, zero, suc, ◌+◌, ◌<◌, ◌≤◌}
use native.Mathlib.Omega.{arith}
use native.Mathlib.Decide.{dec_lt}
use mathlib.Core.Bool.{false≢true}
use mathlib.Core.List.{List, [], ◌∷◌, ◌++◌}
use mathlib.Core.Path.{◌≡◌, refl, sym, ap, ◌∙◌}
use lib.ListN.{length, take, drop, length-append, length-drop}
use Rattle.rules.specs.Bytes.{comma, line_feed, Pieces}
use Rattle.rules.specs.Lines.{fields_of}
use Rattle.rules.specs.Listings.{printed}
use Rattle.rules.proofs.Listings.Cut.{weight}
use Rattle.rules.proofs.Listings.Written.{printed_length}
use Rattle.layout.specs.Reading.{slice}
use Rattle.layout.proofs.Scans.{slice_length}
use Rattle.lines.specs.Reading.{nothing_left}
use Rattle.lines.proofs.Firsts.{some_field}
use Rattle.lines.specs.Pieces.{pieces_from, PieceEnd}
use Rattle.converting.specs.Parts.{FieldsEnd}

-- ---- one entry more

weight_more : (k : ℕ) (fs : List (List ℕ)) (g : List ℕ) (gs : List (List ℕ)) → drop k fs ≡ g ∷ gs
    → (weight (take (suc k) fs) ≡ weight (take k fs) + suc (length g)) × (drop (suc k) fs ≡ gs)
weight_more zero [] g gs h = absurd (cc)
weight_more zero (f ∷ fs) g gs h = let e : f ≡ g = cc in let q : fs ≡ gs = cc in (omega (arith, ap length e), q)
weight_more (suc k) [] g gs h = absurd (cc)
weight_more (suc k) (f ∷ fs) g gs h = let m = weight_more k fs g gs h in (omega (arith, m.0), m.1)

none_more : (k : ℕ) (fs : List (List ℕ)) → drop k fs ≡ [] → (take (suc k) fs ≡ take k fs) × (drop (suc k) fs ≡ [])
none_more zero [] h = (refl, refl)
none_more zero (f ∷ fs) h = absurd (cc)
none_more (suc k) [] h = (refl, refl)
none_more (suc k) (f ∷ fs) h = let m = none_more k fs h in (ap (λ (gs : List (List ℕ)). f ∷ gs) m.0, m.1)

printed_weight : (k : ℕ) (fs : List (List ℕ)) → (fs ≡ [] → ⊥) → length (printed (take (suc k) fs)) ≡ weight (take (suc k) fs)
printed_weight k [] h = absurd (h refl)
printed_weight k (f ∷ fs) h = printed_length f (take k fs)

-- ---- the fields from a position on

module _ (line : List ℕ) (from e : ℕ) (h : PieceEnd line from comma e) where
  piece_then : e < length line → fields_of (drop from line) ≡ slice line from e ∷ fields_of (drop (e + 1) line)
  unfolding fields_of pieces_from
  piece_then l = ap (λ (p : Pieces). p.whole ++ (p.rest ∷ [])) (h.ended l)

  piece_last : length line ≤ e → fields_of (drop from line) ≡ drop from line ∷ []
  unfolding fields_of pieces_from
  piece_last l = ap (λ (p : Pieces). p.whole ++ (p.rest ∷ [])) (h.unended l)

pub first_end : (line : List ℕ) (e : ℕ) → PieceEnd line 0 comma e → FieldsEnd line 1 e
unfolding printed
first_end line e h =
    elim (dec_lt e (length line)) [
      | yes l ↦
          let fs = piece_then line 0 e h l in
          record {
            long =
                ap (λ (gs : List (List ℕ)). length (printed (take 1 gs))) fs
                ∙ omega (arith, slice_length line 0 e h.within, length-append (slice line 0 e) (line_feed ∷ []));
            more = λ _. sym (ap (λ (gs : List (List ℕ)). drop 1 gs) fs);
            last = λ m. absurd (omega arith);
          }
      | no l ↦
          let fs = piece_last line 0 e h (omega arith) in
          record {
            long = ap (λ (gs : List (List ℕ)). length (printed (take 1 gs))) fs ∙ omega (arith, h.within, length-append line (line_feed ∷ []));
            more = λ m. absurd (omega arith);
            last = λ _. ap (λ (gs : List (List ℕ)). drop 1 gs) fs;
          }
    ]

module _ (line : List ℕ) (k e : ℕ) (h : FieldsEnd line (suc k) e) where
  some_fields : fields_of line ≡ [] → ⊥
  some_fields q = false≢true (sym (some_field line) ∙ ap nothing_left q)

  longer : (g : List ℕ) (gs : List (List ℕ)) → drop (suc k) (fields_of line) ≡ g ∷ gs
      → length (printed (take (suc (suc k)) (fields_of line))) ≡ e + 1 + suc (length g)
  longer g gs q =
      omega (
        arith,
        h.long,
        printed_weight k (fields_of line) some_fields,
        printed_weight (suc k) (fields_of line) some_fields,
        (weight_more (suc k) (fields_of line) g gs q).0,
      )

  pub next_end_lem : (f : ℕ) → e < length line → PieceEnd line (e + 1) comma f → FieldsEnd line (suc (suc k)) f
  next_end_lem f l p =
      elim (dec_lt f (length line)) [
        | yes m ↦
            let q : drop (suc k) (fields_of line) ≡ slice line (e + 1) f ∷ fields_of (drop (f + 1) line) =
            sym (h.more l) ∙ piece_then line (e + 1) f p m in
            record {
              long = longer _ _ q ∙ omega (arith, slice_length line (e + 1) f p.within, p.behind);
              more = λ _. sym (weight_more (suc k) (fields_of line) _ _ q).1;
              last = λ n. absurd (omega arith);
            }
        | no m ↦
            let q : drop (suc k) (fields_of line) ≡ drop (e + 1) line ∷ [] = sym (h.more l) ∙ piece_last line (e + 1) f p (omega arith) in
            record {
              long = longer _ _ q ∙ omega (arith, length-drop (e + 1) line, p.within);
              more = λ n. absurd (omega arith);
              last = λ _. (weight_more (suc k) (fields_of line) _ _ q).1;
            }
      ]

  pub no_more : e ≡ length line → FieldsEnd line (suc (suc k)) e
  no_more q =
      let n = none_more (suc k) (fields_of line) (h.last (omega arith)) in
      record {
        long = ap (λ (fs : List (List ℕ)). length (printed fs)) n.0 ∙ h.long;
        more = λ l. absurd (omega arith);
        last = λ _. n.1;
      }
