-- The lines one after the other: none of those that are tested is refused, and their sizes are known; so the first that is refused is the
-- first of all. Assumes nothing.
use Rattle.rules.specs.declared.types.Cause.{Cause}
use Prim.Native.Nat.{ℕ, suc, ◌+◌, ◌-◌, ◌*◌, ◌<◌, ◌≤◌}
use native.Mathlib.Omega.{arith}
use mathlib.Core.Bool.{Bool}
use mathlib.Core.List.{List, [], ◌∷◌, ◌++◌, append_assoc, append-nil}
use Rattle.std.specs.Prelude.{Option, None, Some}
use mathlib.Core.Path.{◌≡◌, refl, sym, ap, ap₂, subst, ◌∙◌}
use lib.ListN.{length, drop, length-append, length-drop}
use Rattle.std.specs.Prelude as std
use Rattle.std.specs.List.{flat_map}
use Rattle.rules.specs.Bytes.{line_feed, Pieces, cut_at}
use Rattle.rules.specs.declared.types.Edition.{Edition}
use Rattle.rules.specs.Converting.{converted_line, lines_behind, first_some, first_refused, line_tests, unended, converted_tests}
use Rattle.layout.specs.Reading.{slice}
use Rattle.rules.specs.declared.types.Cause.TheVariants.{BadLength}
use Rattle.layout.proofs.Scans.{slice_length}
use Rattle.lines.specs.Header.{StartsWithHeader}
use Rattle.lines.proofs.Firsts.{none_left}
use Rattle.lines.specs.Pieces.{pieces_from, PieceEnd}
use Rattle.converting.specs.declared.types.Refusal.{Refusal}
use Rattle.converting.specs.declared.types.Sizes.{Sizes}
use Rattle.converting.specs.Testing.{refusal_of, refused_by, Sized, TestedLine, TestedLines}

-- ---- the first of several

pub only : {A : Type 0} (o : Option A) → first_some (o ∷ []) ≡ o
unfolding first_some
only None = refl
only (Some a) = refl

regroup : {A : Type 0} (a b c : Option A) → first_some (a ∷ first_some (b ∷ c ∷ []) ∷ []) ≡ first_some (first_some (a ∷ b ∷ []) ∷ c ∷ [])
unfolding first_some
regroup None None c = only (first_some (c ∷ []))
regroup None (Some b) c = refl
regroup (Some a) b c = refl

refused_append : (tests : List ℕ → List (Bool × Cause)) (n : ℕ) (xs ys : List (List ℕ))
    → first_refused tests n (xs ++ ys) ≡ first_some (first_refused tests n xs ∷ first_refused tests (n + length xs) ys ∷ [])
unfolding first_refused first_some
refused_append tests n [] ys = ap (λ (k : ℕ). first_refused tests k ys) (let z : n ≡ n + 0 = omega arith in z) ∙ sym (only (first_refused tests (n + 0) ys))
refused_append tests n (x ∷ xs) ys =
    let m : suc n + length xs ≡ n + suc (length xs) = omega arith in
    ap (λ o. first_some (refused_by (tests x) n ∷ o ∷ [])) (refused_append tests (suc n) xs ys)
    ∙ regroup (refused_by (tests x) n) (first_refused tests (suc n) xs) (first_refused tests (suc n + length xs) ys)
    ∙ ap (λ (k : ℕ). first_some (first_refused tests n (x ∷ xs) ∷ first_refused tests k ys ∷ [])) m

-- one line
refused_one : (tests : List ℕ → List (Bool × Cause)) (n : ℕ) (line : List ℕ) → first_refused tests n (line ∷ []) ≡ refused_by (tests line) n
unfolding first_refused first_some
refused_one tests n line = go (refused_by (tests line) n)
  where
    go : (o : Option (ℕ × Cause)) → first_some (o ∷ None ∷ []) ≡ o
    go None = refl
    go (Some r) = refl

pub concat_map_append : (f : List ℕ → List ℕ) (xs ys : List (List ℕ)) → flat_map f (xs ++ ys) ≡ flat_map f xs ++ flat_map f ys
concat_map_append f [] ys = refl
concat_map_append f (x ∷ xs) ys =
    ap (λ (l : List ℕ). f x ++ l) (concat_map_append f xs ys) ∙ sym (append_assoc (f x) (flat_map f xs) (flat_map f ys))

concat_map_one : (f : List ℕ → List ℕ) (x : List ℕ) → flat_map f (x ∷ []) ≡ f x
concat_map_one f x = append-nil (f x)

-- ---- the loop

module _ (e : Edition) (listing : List ℕ) where
  abbrev lines_from : ℕ → List (List ℕ)
  lines_from at = (pieces_from line_feed listing at).whole

  abbrev rest_from : ℕ → List ℕ
  rest_from at = (pieces_from line_feed listing at).rest

  -- what lines and a rest are refused for, line number n being the first
  abbrev refused_from : ℕ → List (List ℕ) → List ℕ → Option (ℕ × Cause)
  refused_from n lines rest = first_some (first_refused (line_tests e) n lines ∷ unended (n + length lines) rest ∷ [])

  pub record Testing (s : Sizes) (n start : ℕ) : Type 0 where
    pub done : List (List ℕ)
    pub lines : lines_behind listing ≡ done ++ lines_from start
    pub rest : (cut_at line_feed listing).rest ≡ rest_from start
    pub passed : first_refused (line_tests e) 2 done ≡ None
    pub counted : n ≡ 2 + length done
    pub sized : Sized e done s
    pub room : s.whole ≤ 4 * start
    pub within : start ≤ length listing
    pub few : n ≤ start

  pub testing_starts : StartsWithHeader e listing → Testing (record { whole = 10; too_long = std.None }) 2 10
  unfolding lines_behind first_refused
  testing_starts h =
      record {
        done = [];
        lines = h.lines;
        rest = h.rest;
        passed = refl;
        counted = refl;
        sized = record { whole = refl; too_long = refl };
        room = omega arith;
        within = h.long;
        few = omega arith;
      }

  module _ {s : Sizes} {n start : ℕ} (inv : Testing s n start) where
    one_more_passed : (line : List ℕ) → refused_by (line_tests e line) n ≡ None → first_refused (line_tests e) 2 (inv.done ++ line ∷ []) ≡ None
    unfolding first_some
    one_more_passed line h =
        refused_append (line_tests e) 2 inv.done (line ∷ [])
        ∙ ap₂ (λ o (k : ℕ). first_some (o ∷ first_refused (line_tests e) k (line ∷ []) ∷ [])) inv.passed (sym inv.counted)
        ∙ only (first_refused (line_tests e) n (line ∷ []))
        ∙ refused_one (line_tests e) n line
        ∙ h

    left : refused_from 2 (lines_behind listing) (cut_at line_feed listing).rest ≡ refused_from n (lines_from start) (rest_from start)
    unfolding first_some
    left =
        let m : 2 + length (inv.done ++ lines_from start) ≡ n + length (lines_from start) =
        omega (arith, inv.counted, length-append inv.done (lines_from start)) in
        ap₂ (λ (ls : List (List ℕ)) (r : List ℕ). refused_from 2 ls r) inv.lines inv.rest
        ∙ ap₂ (λ o (k : ℕ). first_some (o ∷ unended k (rest_from start) ∷ []))
        (refused_append (line_tests e) 2 inv.done (lines_from start)
        ∙ ap₂ (λ o (k : ℕ). first_some (o ∷ first_refused (line_tests e) k (lines_from start) ∷ [])) inv.passed (sym inv.counted)
        ∙ only (first_refused (line_tests e) n (lines_from start)))
        m

    -- at the end of the listing
    module _ (ends : length listing ≤ start) where
      no_pieces : pieces_from line_feed listing start ≡ record { whole = []; rest = [] }
      no_pieces = none_left line_feed listing start ends

      pub all_tested : TestedLines e listing (std.Ok s)
      unfolding refusal_of first_refused first_some unended
      all_tested =
          record {
            refused = sym (left ∙ ap (λ (p : Pieces). refused_from n p.whole p.rest) no_pieces);
            sized = subst (λ (ls : List (List ℕ)). Sized e ls s) (sym whole) inv.sized;
          }
        where
          whole : lines_behind listing ≡ inv.done
          whole = inv.lines ∙ ap (λ (p : Pieces). inv.done ++ p.whole) no_pieces ∙ append-nil inv.done

    module _ (l : start < length listing) (f : ℕ) (end : PieceEnd listing start line_feed f) where
      -- a rest that no line feed ends
      some_bytes : (k : ℕ) (xs : List ℕ) → (length xs ≡ 0 → ⊥) → unended k xs ≡ Some (k, BadLength)
      unfolding unended
      some_bytes k [] h = absurd (h refl)
      some_bytes k (x ∷ xs) h = refl

      pub not_ended : f ≡ length listing → TestedLines e listing (std.Err (record { line = n; cause = BadLength }))
      unfolding refusal_of first_refused first_some
      not_ended q =
          let z : n + 0 ≡ n = omega arith in
          record {
            refused =
                sym
                (left
                ∙ ap (λ (p : Pieces). refused_from n p.whole p.rest) (end.unended (omega arith))
                ∙ ap (λ o. first_some (o ∷ []))
                (some_bytes (n + 0) (drop start listing) (λ w. absurd (let v : ⊥ = omega (arith, length-drop start listing) in v)))
                ∙ ap (λ (k : ℕ). Some (k, BadLength)) z);
            sized = tt;
          }

      module _ (m : f ≡ length listing → ⊥) where
        abbrev line : List ℕ
        line = slice listing start f

        ended : f < length listing
        ended = let w = end.within in omega arith

        first : lines_from start ≡ line ∷ lines_from (f + 1)
        first = ap (λ (p : Pieces). p.whole) (end.ended ended)

        pub stopped : (r : Refusal) → TestedLine e line n s (std.Err r) → TestedLines e listing (std.Err r)
        unfolding refusal_of first_refused first_some
        stopped r t =
            let last = unended (n + length (line ∷ lines_from (f + 1))) (rest_from start) in
            record {
              refused =
                  sym
                  (left
                  ∙ ap (λ (ls : List (List ℕ)). refused_from n ls (rest_from start)) first
                  ∙ ap (λ o. first_some (first_some (o ∷ first_refused (line_tests e) (suc n) (lines_from (f + 1)) ∷ []) ∷ last ∷ [])) (sym t.refused));
              sized = tt;
            }

        pub tested_on : (t : Sizes) → TestedLine e line n s (std.Ok t) → Testing t (n + 1) (f + 1)
        unfolding refusal_of
        tested_on t h =
            let g = h.sized in
            let b = end.behind in
            let size : length line ≡ f - start = slice_length listing start f end.within in
            let w = ended in
            let many : length (inv.done ++ line ∷ []) ≡ length inv.done + 1 = length-append inv.done (line ∷ []) in
            record {
              done = inv.done ++ line ∷ [];
              lines =
                  inv.lines
                  ∙ ap (λ (ls : List (List ℕ)). inv.done ++ ls) first
                  ∙ sym (append_assoc inv.done (line ∷ []) (lines_from (f + 1)));
              rest = inv.rest ∙ ap (λ (p : Pieces). p.rest) (end.ended ended);
              passed = one_more_passed line (sym h.refused);
              counted = omega (arith, inv.counted, many);
              sized =
                  record {
                    whole =
                        g.whole
                        ∙ omega (
                          arith,
                          inv.sized.whole,
                          ap length (concat_map_append (converted_line e) inv.done (line ∷ [])),
                          length-append (flat_map (converted_line e) inv.done) (flat_map (converted_line e) (line ∷ [])),
                          ap length (concat_map_one (converted_line e) line),
                        );
                    too_long =
                        g.too_long
                        ∙ ap₂ (λ o q. first_some (o ∷ q ∷ [])) inv.sized.too_long
                        (sym (refused_one (converted_tests e) n line) ∙ ap (λ (k : ℕ). first_refused (converted_tests e) k (line ∷ [])) inv.counted)
                        ∙ sym (refused_append (converted_tests e) 2 inv.done (line ∷ []));
                  };
              room = omega (arith, g.most, inv.room);
              within = omega arith;
              few = omega (arith, inv.few);
            }
