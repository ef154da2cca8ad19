-- The parts of a line make its converted line: what stands before a field's end is the fields up to it, joined, and what stands behind is
-- the other fields, each behind a comma. Assumes nothing.
use Prim.Native.Nat.{ℕ, suc, ◌+◌, ◌-◌, ◌≤◌}
use native.Mathlib.Omega.{arith}
use mathlib.Core.Bool.{Bool, true, false, cond, false≢true}
use mathlib.Core.List.{List, [], ◌∷◌, ◌++◌, append_assoc, append-nil}
use mathlib.Core.Path.{◌≡◌, refl, sym, ap, ap₂, subst, ◌∙◌}
use lib.ListN.{length, take, drop, take-append-drop, length-append, length-drop}
use lib.Seq.{take_all, take_at, drop-length, drop-append_seam}
use Rattle.rules.specs.Bytes.{text, comma, line_feed}
use Rattle.rules.specs.Lines.{fields_of}
use Rattle.rules.specs.declared.types.Edition.{Edition}
use Rattle.rules.specs.declared.types.Edition.TheVariants.{First as edition_1, Second as edition_2}
use Rattle.rules.specs.Listings.{printed}
use Rattle.rules.specs.Converting.{begins, relabelled, converted_line}
use Rattle.rules.proofs.Converting.Joined.{joined, printed_joined, joined_fields}
use Rattle.rules.specs.declared.types.Edition as code
use Rattle.converting.specs.declared.parts.Parts.{Parts}
use Rattle.lines.specs.Writing.{HasRoom, Writes}
use Rattle.lines.specs.declared.writing.LineWriter.{LineWriter}
use Rattle.lines.proofs.Joined.{then, said, exactly}
use Rattle.converting.specs.Parts.{FieldsEnd, label_of, Makes}

-- ---- fields, each behind a comma

abbrev behind : List (List ℕ) → List ℕ
behind [] = []
behind (f ∷ fs) = comma ∷ f ++ behind fs

behind_append : (fs gs : List (List ℕ)) → behind (fs ++ gs) ≡ behind fs ++ behind gs
behind_append [] gs = refl
behind_append (f ∷ fs) gs = ap (λ (l : List ℕ). comma ∷ f ++ l) (behind_append fs gs) ∙ sym (append_assoc (comma ∷ f) (behind fs) (behind gs))

joined_behind : (f : List ℕ) (fs : List (List ℕ)) → joined (f ∷ fs) ≡ f ++ behind fs
joined_behind f [] = sym (append-nil f)
joined_behind f (g ∷ fs) = ap (λ (l : List ℕ). f ++ comma ∷ l) (joined_behind g fs)

joined_append : (f : List ℕ) (fs gs : List (List ℕ)) → joined (f ∷ (fs ++ gs)) ≡ joined (f ∷ fs) ++ behind gs
joined_append f fs gs =
    joined_behind f (fs ++ gs)
    ∙ ap (λ (l : List ℕ). f ++ l) (behind_append fs gs)
    ∙ sym (append_assoc f (behind fs) (behind gs))
    ∙ ap (λ (l : List ℕ). l ++ behind gs) (sym (joined_behind f fs))

-- some fields first, and then others
joined_then : (fs gs : List (List ℕ)) (k : ℕ) → (fs ≡ [] → gs ≡ []) → joined (take (suc k) fs ++ gs) ≡ joined (take (suc k) fs) ++ behind gs
joined_then [] gs k h = rw (h refl) refl
joined_then (f ∷ fs) gs k h = joined_append f (take k fs) gs

joined_parts : (fs : List (List ℕ)) (k : ℕ) → joined fs ≡ joined (take (suc k) fs) ++ behind (drop (suc k) fs)
joined_parts [] k = refl
joined_parts (f ∷ fs) k = ap (λ (gs : List (List ℕ)). joined (f ∷ gs)) (sym (take-append-drop k fs)) ∙ joined_append f (take k fs) (drop k fs)

-- ---- a line at the end of its first fields

module _ (line : List ℕ) (k e : ℕ) (h : FieldsEnd line (suc k) e) where
  abbrev first : List (List ℕ)
  first = take (suc k) (fields_of line)

  cut : line ≡ joined first ++ behind (drop (suc k) (fields_of line))
  cut = sym (joined_fields line) ∙ joined_parts (fields_of line) k

  long : length (joined first) ≡ e
  long = omega (arith, h.long, ap length (printed_joined first), length-append (joined first) (line_feed ∷ []))

  before_end : take e line ≡ joined first
  before_end = ap (take e) cut ∙ take_at (joined first) (behind (drop (suc k) (fields_of line))) e long

  behind_end : drop e line ≡ behind (drop (suc k) (fields_of line))
  behind_end =
      ap₂ (λ (n : ℕ) (l : List ℕ). drop n l) (sym long) cut
      ∙ drop-append_seam (joined first) (behind (drop (suc k) (fields_of line)))

-- ---- what the parts make

all_of_it : (line : List ℕ) → take (length line) line ++ [] ++ drop (length line) line ≡ line
all_of_it line =
    ap₂ (λ (a b : List ℕ). a ++ [] ++ b) (take_all (length line) line (omega arith)) (drop-length line)
    ∙ append-nil (line ++ [])
    ∙ append-nil line

pub copied : (e : Edition) (line : List ℕ) → begins "b" (fields_of line) ≡ false
    → Makes e line (record { front = length line; labelled = false; back = length line })
unfolding converted_line
copied e line h =
    record {
      rising = omega arith;
      within = omega arith;
      same =
          ap (λ (t : Bool). cond t (printed (relabelled e (fields_of line))) (line ++ line_feed ∷ [])) h
          ∙ ap (λ (l : List ℕ). l ++ line_feed ∷ []) (sym (all_of_it line));
    }

module _ (line : List ℕ) (b_line : begins "b" (fields_of line) ≡ true) (front : ℕ) (h : FieldsEnd line 2 front) where
  written : (e : Edition) → converted_line e line ≡ joined (relabelled e (fields_of line)) ++ line_feed ∷ []
  unfolding converted_line
  written e =
      ap (λ (t : Bool). cond t (printed (relabelled e (fields_of line))) (line ++ line_feed ∷ [])) b_line
      ∙ printed_joined (relabelled e (fields_of line))

  some_fields : fields_of line ≡ [] → ⊥
  unfolding begins
  some_fields q = false≢true (sym (ap (begins "b") q) ∙ b_line)

  pub label_dropped : (back : ℕ) → FieldsEnd line 3 back → front ≤ back → back ≤ length line
      → Makes edition_1 line (record { front = front; labelled = false; back = back })
  unfolding relabelled
  label_dropped back g r w =
      record {
        rising = r;
        within = w;
        same =
            written edition_1
            ∙ ap (λ (l : List ℕ). l ++ line_feed ∷ [])
            (joined_then (fields_of line) (drop 3 (fields_of line)) 1 (λ q. ap (drop 3) q)
            ∙ ap₂ (λ (a b : List ℕ). a ++ b) (sym (before_end line 1 front h)) (sym (behind_end line 2 back g))
            ∙ ap (λ (a : List ℕ). a ++ drop back line) (sym (append-nil (take front line))));
      }

  pub label_put : front ≤ length line → Makes edition_2 line (record { front = front; labelled = true; back = front })
  unfolding relabelled
  label_put w =
      record {
        rising = omega arith;
        within = w;
        same =
            written edition_2
            ∙ ap (λ (l : List ℕ). l ++ line_feed ∷ [])
            (joined_then (fields_of line) (text "0" ∷ drop 2 (fields_of line)) 1 (λ q. absurd (some_fields q))
            ∙ ap₂ (λ (a b : List ℕ). a ++ (text ",0" ++ b)) (sym (before_end line 1 front h)) (sym (behind_end line 1 front h))
            ∙ sym (append_assoc (take front line) (text ",0") (drop front line)));
      }

pub by_edition : (d e : code.Edition) (line : List ℕ) {p : Parts} → d ≡ e → Makes e line p → Makes d line p
by_edition d e line {p} h m = subst (λ (f : code.Edition). Makes f line p) (sym h) m

-- ---- the parts written one behind the other

module _ (e : Edition) (line : List ℕ) (p : Parts) (m : Makes e line p) (label : List ℕ) (l : label ≡ label_of p.labelled) where
  abbrev tail_bytes : List ℕ
  tail_bytes = take (length line - p.back) (drop p.back line)

  joined_up : take p.front line ++ label ++ tail_bytes ++ line_feed ∷ [] ≡ converted_line e line
  joined_up =
      ap₂ (λ (a b : List ℕ). take p.front line ++ a ++ b ++ line_feed ∷ []) l
      (take_all (length line - p.back) (drop p.back line) (omega (arith, length-drop p.back line)))
      ∙ sym m.same

  pub parts_written : {a b c d f : LineWriter} → HasRoom (length (converted_line e line)) a
      → Writes (length (take p.front line)) (take p.front line) a b → Writes (length label) label b c → Writes (length tail_bytes) tail_bytes c d → Writes 1 (line_feed ∷ []) d f
      → Writes (length (converted_line e line)) (converted_line e line) a f
  parts_written {a} room w x y z =
      let total = ap length joined_up in
      let t = take p.front line in
      let n : length t + length label + length tail_bytes + 1 ≡ length (converted_line e line) =
      omega (
        arith,
        total,
        length-append t label,
        length-append (t ++ label) tail_bytes,
        length-append (t ++ label ++ tail_bytes) (line_feed ∷ []),
      ) in
      let room_3 : HasRoom (length t + length label + length tail_bytes) a = omega arith in
      let room_2 : HasRoom (length t + length label) a = omega arith in
      let room_1 : HasRoom (length t) a = omega arith in
      exactly (said (then (then (then w x room_1) y room_2) z room_3) joined_up)
