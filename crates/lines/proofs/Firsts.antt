-- The fields of bytes are those before the first comma, and then the fields of what follows it. Assumes nothing.
use Rattle.std.proofs.Common.{◌≡◌, ℕ, suc, ◌+◌, ◌<◌, ◌≤◌, Bool, true, false, cond, List, [], ◌∷◌, ◌++◌, eqb, nat_lt, if◌then◌else◌, length, drop, refl, sym, ap, ◌∙◌, arith}
use borrow.Author.Tests.{ltb-true, ltb-false, le-ltb, lt-ltb}
use lib.Dec.{ltb}
use lib.ListN.{length-append, drop_of_length-le}
use Rattle.rules.specs.Bytes.{Pieces, comma, new_piece, longer_by, cut_at}
use Rattle.rules.specs.Lines.{fields_of}
use Rattle.layout.specs.Reading.{slice}
use Rattle.layout.proofs.Scans.{slice_length}
use Rattle.lines.specs.Pieces.{pieces_from, PieceEnd}
use Rattle.lines.proofs.Cutting.{slice_all}
use Rattle.lines.specs.Fields.{fields_left, FieldRead}
use Rattle.lines.specs.Reading.{nothing_left}

-- no piece is left at the end
pub none_left : (b : ℕ) (bytes : List ℕ) (at : ℕ) → length bytes ≤ at → pieces_from b bytes at ≡ record { whole = []; rest = [] }
unfolding pieces_from cut_at
none_left b bytes at l = ap (cut_at b) (drop_of_length-le bytes l)

-- ---- the fields of bytes

pub some_field : (xs : List ℕ) → nothing_left (fields_of xs) ≡ false
unfolding fields_of
some_field xs = go (cut_at comma xs).whole (cut_at comma xs).rest
  where
    go : (whole : List (List ℕ)) (rest : List ℕ) → nothing_left (whole ++ (rest ∷ [])) ≡ false
    go [] rest = refl
    go (p ∷ ps) rest = refl

few_pieces : (b : ℕ) (xs : List ℕ) → length (cut_at b xs).whole ≤ length xs
unfolding cut_at new_piece longer_by
few_pieces b [] = omega arith
few_pieces b (x ∷ xs) = go (eqb x b) (cut_at b xs).whole (cut_at b xs).rest (few_pieces b xs)
  where
    go : (t : Bool) (whole : List (List ℕ)) (rest : List ℕ) → length whole ≤ length xs → length (cond t (new_piece (record { whole = whole; rest = rest })) (longer_by x whole rest)).whole ≤ suc (length xs)
    go true whole rest h = omega arith
    go false [] rest h = omega arith
    go false (p ∷ ps) rest h = omega arith

pub few_fields : (xs : List ℕ) → length (fields_of xs) ≤ length xs + 1
unfolding fields_of
few_fields xs = omega (arith, few_pieces comma xs, length-append (cut_at comma xs).whole ((cut_at comma xs).rest ∷ []))

-- no field is left behind the line's end alone
pub none_behind : (line : List ℕ) (at : ℕ) → nat_lt (length line) at ≡ nothing_left (fields_left line at)
none_behind line at = go (nat_lt (length line) at)
  where
    go : (t : Bool) → t ≡ nothing_left (if t then [] else fields_of (drop at line))
    go true = refl
    go false = sym (some_field (drop at line))

pub none_left_behind : (line : List ℕ) (at : ℕ) → fields_left line at ≡ [] → length line < at
none_left_behind line at h = ltb-true _ _ (none_behind line at ∙ ap nothing_left h)

pub left_within : (line : List ℕ) (at : ℕ) → at ≤ length line → fields_left line at ≡ fields_of (drop at line)
left_within line at l = ap (λ (t : Bool). if t then [] else fields_of (drop at line)) (le-ltb _ _ l)

pub left_behind : (line : List ℕ) (at : ℕ) → length line < at → fields_left line at ≡ []
left_behind line at l = ap (λ (t : Bool). if t then [] else fields_of (drop at line)) (lt-ltb _ _ l)

-- the field that ends at e
module _ (line : List ℕ) (at e : ℕ) (h : PieceEnd line at comma e) where
  field_ended : e < length line → fields_of (drop at line) ≡ slice line at e ∷ fields_left line (e + 1)
  unfolding fields_of pieces_from
  field_ended l = ap (λ (p : Pieces). p.whole ++ (p.rest ∷ [])) (h.ended l) ∙ ap (λ (fs : List (List ℕ)). slice line at e ∷ fs) (sym (left_within line (e + 1) (omega arith)))

  field_last : length line ≤ e → fields_of (drop at line) ≡ slice line at e ∷ fields_left line (e + 1)
  unfolding fields_of pieces_from
  field_last l =
      ap (λ (p : Pieces). p.whole ++ (p.rest ∷ [])) (h.unended l)
      ∙ (λ i. sym (slice_all line at e h.behind l) i ∷ sym (left_behind line (e + 1) (omega arith)) i)

  pub field_read : at ≤ length line → FieldRead line at (slice line at e)
  field_read l =
      let long : at + length (slice line at e) ≡ e = omega (arith, slice_length line at e h.within, h.behind) in
      record { within = omega (arith, long, h.within); fields = rw (left_within line at l, long) (go (nat_lt e (length line)) refl) }
    where
      go : (t : Bool) → nat_lt e (length line) ≡ t → fields_of (drop at line) ≡ slice line at e ∷ fields_left line (e + 1)
      go true k = field_ended (ltb-true _ _ k)
      go false k = field_last (ltb-false _ _ k)
