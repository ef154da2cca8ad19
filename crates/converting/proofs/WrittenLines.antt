-- The converted lines, written one behind the other, are the converted listing's. Assumes nothing.
use Prim.Native.Nat.{ℕ, ◌+◌, ◌<◌, ◌≤◌}
use native.Mathlib.Omega.{arith}
use native.Mathlib.Decide.{dec_lt}
use mathlib.Core.List.{List, [], ◌∷◌, ◌++◌, append_assoc, append-nil}
use mathlib.Core.Path.{◌≡◌, sym, ap, ◌∙◌}
use lib.ListN.{length, drop, length-append, length-drop}
use Rattle.std.specs.List.{flat_map}
use Rattle.rules.specs.Bytes.{line_feed, Pieces}
use Rattle.rules.specs.declared.types.Edition.{Edition}
use Rattle.rules.specs.Listings.{max_listing}
use Rattle.rules.specs.Converting.{other, header, converted_line, lines_behind, converted}
use Rattle.rules.proofs.Listings.Headers.{header_length}
use Rattle.layout.specs.Reading.{slice}
use Rattle.lines.specs.Header.{second_line}
use Rattle.lines.proofs.Firsts.{none_left}
use Rattle.lines.specs.Pieces.{pieces_from, PieceEnd}
use Rattle.lines.specs.Writing.{HasRoom, Writes}
use Rattle.lines.specs.declared.writing.LineWriter.{LineWriter}
use Rattle.lines.proofs.Joined.{then, said, within, exactly, nothing}
use Rattle.converting.specs.Writing.{converted_lines, Convertible}

module _ (e : Edition) (listing : List ℕ) (before : LineWriter) where
  -- the converted lines from a position on
  abbrev converted_from : ℕ → List ℕ
  converted_from at = flat_map (converted_line e) (pieces_from line_feed listing at).whole

  pub record Writing (out : LineWriter) (start : ℕ) : Type 0 where
    pub bytes : List ℕ
    pub writes : Writes (length bytes) bytes before out
    pub lines : converted_lines e listing ≡ bytes ++ converted_from start
    pub rest : (pieces_from line_feed listing start).rest ≡ []
    pub within : start ≤ length listing

  pub writing_starts : Convertible e listing → Writing before second_line
  unfolding lines_behind
  writing_starts ok =
      record {
        bytes = [];
        writes = nothing 0 before;
        lines = ap (flat_map (converted_line e)) ok.begun.lines;
        rest = sym ok.begun.rest ∙ ok.ended;
        within = ok.begun.long;
      }

  module _ (room : HasRoom (length (converted_lines e listing)) before) {out : LineWriter} {start : ℕ} (inv : Writing out start) where
    -- behind the last line
    pub all_written : length listing ≤ start → Writes (length (converted_lines e listing)) (converted_lines e listing) before out
    all_written l =
        let none = none_left line_feed listing start l in
        let all = inv.lines ∙ ap (λ (p : Pieces). inv.bytes ++ flat_map (converted_line e) p.whole) none ∙ append-nil inv.bytes in
        exactly (said inv.writes (sym all))

    module _ (l : start < length listing) (f : ℕ) (end : PieceEnd listing start line_feed f) where
      -- a line feed is found
      ended : f < length listing
      ended =
          elim (dec_lt f (length listing)) [
            | yes m ↦ m
            | no m ↦
                let none : drop start listing ≡ [] = sym (ap (λ (p : Pieces). p.rest) (end.unended (omega arith))) ∙ inv.rest in
                absurd (let z : ⊥ = omega (arith, ap length none, length-drop start listing) in z)
          ]

      abbrev line : List ℕ
      line = slice listing start f

      lines_then : converted_lines e listing ≡ inv.bytes ++ (converted_line e line ++ converted_from (f + 1))
      lines_then = inv.lines ∙ ap (λ (p : Pieces). inv.bytes ++ flat_map (converted_line e) p.whole) (end.ended ended)

      pub line_fits : HasRoom (length (converted_line e line)) out
      line_fits =
          omega (
            arith,
            inv.writes.long,
            inv.writes.wrote.behind,
            ap length lines_then,
            length-append inv.bytes (converted_line e line ++ converted_from (f + 1)),
            length-append (converted_line e line) (converted_from (f + 1)),
          )

      pub written_on : (out' : LineWriter) → Writes (length (converted_line e line)) (converted_line e line) out out' → Writing out' (f + 1)
      written_on out' w =
          let b = ended in
          let n = length-append inv.bytes (converted_line e line) in
          let m : HasRoom (length inv.bytes) before =
          omega (arith, room, ap length lines_then, length-append inv.bytes (converted_line e line ++ converted_from (f + 1))) in
          record {
            bytes = inv.bytes ++ converted_line e line;
            writes = exactly (then inv.writes w m);
            lines = lines_then ∙ sym (append_assoc inv.bytes (converted_line e line) (converted_from (f + 1)));
            rest = sym (ap (λ (p : Pieces). p.rest) (end.ended ended)) ∙ inv.rest;
            within = omega arith;
          }

-- ---- the whole

module _ (e : Edition) (listing : List ℕ) (ok : Convertible e listing) where
  whole : (header (other e) ++ (line_feed ∷ [])) ++ converted_lines e listing ≡ converted listing
  unfolding converted
  whole =
      append_assoc (header (other e)) (line_feed ∷ []) (converted_lines e listing)
      ∙ ap (λ (d : Edition). header (other d) ++ line_feed ∷ converted_lines d listing) (sym ok.begun.says)

  long : second_line + length (converted_lines e listing) ≡ length (converted listing)
  long =
      omega (
        arith,
        ap length whole,
        length-append (header (other e) ++ (line_feed ∷ [])) (converted_lines e listing),
        length-append (header (other e)) (line_feed ∷ []),
        header_length (other e),
      )

  module _ {a b : LineWriter} (room : HasRoom max_listing a) {first : List ℕ} (h : first ≡ header (other e))
      (w : Writes second_line (first ++ (line_feed ∷ [])) a b) where
    pub lines_fit : HasRoom (length (converted_lines e listing)) b
    lines_fit =
        omega (arith, w.long, w.wrote.behind, long, ok.fits, length-append first (line_feed ∷ []), ap length h, header_length (other e))

    pub listing_written : {c : LineWriter}
        → Writes (length (converted_lines e listing)) (converted_lines e listing) b c
        → Writes max_listing (converted listing) a c
    listing_written v =
        let q = ap (λ (l : List ℕ). (l ++ (line_feed ∷ [])) ++ converted_lines e listing) h in
        within (said (then w v (omega arith)) (q ∙ whole)) (omega (arith, long, ok.fits))
