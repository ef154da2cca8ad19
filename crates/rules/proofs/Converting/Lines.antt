-- A line that the converter accepts, in the other edition: it is still one line, means the same, and is accepted there; and converted back it
-- is what it was, but for the label. Assumes nothing.
use Prim.Native.Nat.{ℕ, ◌≤◌}
use native.Mathlib.Omega.{arith}
use mathlib.Core.Bool.{Bool, true, false, cond}
use mathlib.Core.List.{List, [], ◌∷◌, ◌++◌, map, append_assoc}
use mathlib.Core.Path.{◌≡◌, refl, ap, ap₂, ◌∙◌}
use lib.ListN.{length}
use Rattle.std.specs.Prelude.{is_some}
use Rattle.std.specs.List.{flat_map}
use Rattle.rules.specs.Bytes.{comma, line_feed}
use Rattle.rules.specs.Lines.{fields_of, parse}
use Rattle.rules.specs.declared.types.Edition.{Edition}
use Rattle.rules.specs.declared.types.Edition.TheVariants.{First as edition_1, Second as edition_2}
use Rattle.rules.specs.Listings.{printed, max_line}
use Rattle.rules.specs.Converting.{other, begins, relabelled, converted_line}
use Rattle.rules.specs.ConvertLaws.{zeroed_line}
use Rattle.rules.proofs.Listings.Cut.{other_than, Without, each, ended, fields_weight}
use Rattle.rules.proofs.Converting.Joined.{joined, printed_joined, joined_length, joined_each, fields_joined, joined_fields, fields_without, no_commas}
use Rattle.rules.proofs.Converting.Meanings.{meaning, BlockFields, either_edition, block_fields, same_meaning}
use Rattle.rules.proofs.Converting.Fields.{block_begins, relabelled_fields, restored, restored_fields, relabelled_back, restored_weight, relabelled_each}

-- a line with its fields changed if it is a `b` line; and so, in the other edition: both without the line feed
unfoldable pub changed : (List (List ℕ) → List (List ℕ)) → List ℕ → List ℕ
changed g line = cond (begins "b" (fields_of line)) (joined (g (fields_of line))) line

abbrev pub recast : Edition → List ℕ → List ℕ
recast e = changed (relabelled e)

changed_ended : (g : List (List ℕ) → List (List ℕ)) (line : List ℕ)
    → cond (begins "b" (fields_of line)) (printed (g (fields_of line))) (line ++ line_feed ∷ []) ≡ changed g line ++ line_feed ∷ []
unfolding changed
changed_ended g line = go (begins "b" (fields_of line))
  where
    go : (t : Bool) → cond t (printed (g (fields_of line))) (line ++ line_feed ∷ []) ≡ cond t (joined (g (fields_of line))) line ++ line_feed ∷ []
    go true = printed_joined (g (fields_of line))
    go false = refl

-- such lines, each with its line feed
pub lines_ended : (f g : List ℕ → List ℕ) → ((line : List ℕ) → f line ≡ g line ++ line_feed ∷ []) → (lines : List (List ℕ))
    → flat_map f lines ≡ ended line_feed (map g lines)
lines_ended f g same [] = refl
lines_ended f g same (line ∷ lines) =
    ap₂ ◌++◌ (same line) (lines_ended f g same lines) ∙ append_assoc (g line) (line_feed ∷ []) (ended line_feed (map g lines))

pub recast_ended : (e : Edition) (line : List ℕ) → converted_line e line ≡ recast e line ++ line_feed ∷ []
unfolding converted_line
recast_ended e line = changed_ended (relabelled e) line

pub zeroed_ended : (line : List ℕ) → zeroed_line line ≡ changed (restored edition_1) line ++ line_feed ∷ []
unfolding zeroed_line restored
zeroed_ended line = changed_ended (restored edition_1) line

pub unchanged : (line : List ℕ) → changed (restored edition_2) line ≡ line
unfolding changed restored
unchanged line = go (begins "b" (fields_of line))
  where
    go : (t : Bool) → cond t (joined (fields_of line)) line ≡ line
    go true = joined_fields line
    go false = refl

-- ---- a line, and the same in the other edition

pub record Turned (e : Edition) (line line' : List ℕ) : Type 0 where
  pub one_line : Without line_feed line'
  pub same : parse (other e) line' ≡ parse e line
  pub no_i : begins "i" (fields_of line') ≡ false
  pub back : recast (other e) line' ≡ changed (restored e) line
  pub shorter : length (changed (restored e) line) ≤ length line

block_turned : (e : Edition) (line : List ℕ) → Without line_feed line → BlockFields e (fields_of line)
    → Turned e line (joined (relabelled e (fields_of line)))
unfolding parse changed
block_turned e line w f =
    let fs = fields_of line in
    let gs = relabelled e fs in
    let hs = restored e fs in
    let g : BlockFields (other e) gs = relabelled_fields e fs f in
    let k : each (other_than comma) gs ≡ true = relabelled_each (other_than comma) e fs f refl (no_commas line) in
    let q : fields_of (joined gs) ≡ gs = fields_joined "b" gs (block_begins (other e) gs g).0 k in
    record {
      one_line = joined_each (other_than line_feed) gs refl (relabelled_each (other_than line_feed) e fs f refl (fields_without line_feed line w));
      same = ap (meaning (other e)) q ∙ same_meaning e fs f;
      no_i = ap (begins "i") q ∙ (block_begins (other e) gs g).1;
      back = rw (q, (block_begins (other e) gs g).0, (block_begins e fs f).0) (ap joined (relabelled_back e fs f));
      shorter =
          rw ((block_begins e fs f).0)
          (omega (arith, joined_length "b" hs (block_begins e hs (restored_fields e fs f)).0, restored_weight e fs f, fields_weight line));
    }

other_turned : (e : Edition) (line : List ℕ) → Without line_feed line → begins "b" (fields_of line) ≡ false → begins "i" (fields_of line) ≡ false
    → Turned e line line
unfolding parse changed
other_turned e line w b i =
    record {
      one_line = w;
      same = either_edition (other e) e (fields_of line) b i;
      no_i = i;
      back = rw b;
      shorter = rw b (omega arith);
    }

-- ---- the lines that are accepted: no test refuses them, before or after

pub record Accepted (e : Edition) (line : List ℕ) : Type 0 where
  pub one_line : Without line_feed line
  pub short : length line ≤ max_line
  pub known : is_some (parse e line) ≡ true
  pub no_i : begins "i" (fields_of line) ≡ false
  pub still_short : length (recast e line) ≤ max_line

pub turned : (e : Edition) (line : List ℕ) → Accepted e line → Turned e line (recast e line)
unfolding changed parse
turned e line a = go (begins "b" (fields_of line)) refl
  where
    go : (t : Bool) → begins "b" (fields_of line) ≡ t → Turned e line (cond t (joined (relabelled e (fields_of line))) line)
    go true b = block_turned e line a.one_line (block_fields e (fields_of line) b a.known)
    go false b = other_turned e line a.one_line b a.no_i

pub accepted_back : (e : Edition) (line : List ℕ) → Accepted e line → Accepted (other e) (recast e line)
accepted_back e line a =
    let t = turned e line a in
    record {
      one_line = t.one_line;
      short = a.still_short;
      known = ap is_some t.same ∙ a.known;
      no_i = t.no_i;
      still_short = rw t.back (omega (arith, t.shorter, a.short));
    }
