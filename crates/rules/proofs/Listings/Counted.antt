-- What is counted after some lines: each `q` puts the operations inside its right fragment into the sets, and no other line changes them; so an
-- operation is in a set exactly when one of the fragments asked about put it there. Assumes nothing.
use Rattle.rules.specs.declared.types.Cause.TheVariants.{BadLength}
use Prim.Native.Nat.{ℕ, ◌≤◌}
use mathlib.Core.Bool.{Bool, true, false, cond, ◌||◌, or_assoc, or-false}
use Rattle.std.specs.Prelude.{Option, None, Some}
use mathlib.Core.List.{List, [], ◌∷◌, ◌++◌}
use mathlib.Core.Logic.{◌⊎◌, inl, inr}
use mathlib.Core.Path.{◌≡◌, refl, sym, ap, ◌∙◌}
use lib.Dec.{leb}
use lib.ListN.{length}
use Rattle.std.specs.List.{list_any}
use Rattle.rules.specs.Lists.{count_below}
use Rattle.rules.specs.Store.{Store, max_ops}
use Rattle.rules.specs.Fragments.{fragment_ops}
use Rattle.rules.specs.declared.types.Sort.{Sort}
use Rattle.rules.specs.Building.{Built, made, accepted, refused, answer, built}
use Rattle.rules.specs.Mapping.{empty_mapping}
use Rattle.rules.specs.Answers.{Compared, eq, neq, refused as refused_compared, comparison}
use Rattle.rules.specs.Lines.{Line, building, query, parse}
use Rattle.rules.specs.declared.types.Edition.{Edition}
use Rattle.rules.specs.Listings.{Tally, no_tally, tallied, share, Progress, LineOutcome, prints, stops, at_start, building_does, line_does, does, max_line, keeps, leaves, twins_answer, twins_program}
use Rattle.rules.specs.Asked.{Asked, answered_for, asked_by, asked_in, asked_then, asked, inside, inside_equal}
use Rattle.rules.proofs.Basics.Tests.{and_right, or_cases, or_left, or_right}
use Rattle.rules.proofs.Basics.Counts.{count_le}
use Rattle.rules.proofs.Listings.Nearest.{per_cent_most}

-- ---- all that were asked about, one after the other

tally_all : Tally → List Asked → Tally
tally_all t [] = t
tally_all t (q ∷ qs) = tally_all (tallied q.found (fragment_ops q.store q.sort q.right) t) qs

tally_append : (t : Tally) (ps qs : List Asked) → tally_all t (ps ++ qs) ≡ tally_all (tally_all t ps) qs
unfolding tally_all
tally_append t [] qs = refl
tally_append t (p ∷ ps) qs = tally_append (tallied p.found (fragment_ops p.store p.sort p.right) t) ps qs

module _ (m : ℕ) where
  all_of_them : (t : Tally) (qs : List Asked) → (tally_all t qs).all m ≡ (t.all m || list_any (inside m) qs)
  unfolding tally_all tallied inside
  all_of_them t [] = sym (or-false (t.all m))
  all_of_them t (q ∷ qs) =
      all_of_them (tallied q.found (fragment_ops q.store q.sort q.right) t) qs
      ∙ or_assoc (t.all m) (inside m q) (list_any (inside m) qs)

  equal_of_them : (t : Tally) (qs : List Asked) → (tally_all t qs).equal m ≡ (t.equal m || list_any (inside_equal m) qs)
  unfolding tally_all tallied inside inside_equal
  equal_of_them t [] = sym (or-false (t.equal m))
  equal_of_them t (q ∷ qs) =
      equal_of_them (tallied q.found (fragment_ops q.store q.sort q.right) t) qs
      ∙ or_assoc (t.equal m) (inside_equal m q) (list_any (inside_equal m) qs)

-- ---- one line

-- a line that goes on has counted what it asked about, and one that is refused asks about nothing
abbrev Counts : Progress → LineOutcome → List Asked → Type 0
Counts now (prints out next) qs = next.tally ≡ tally_all now.tally qs
Counts now (stops cause) qs = qs ≡ []

building_counts : (b : Built) (s : Store) (now : Progress) → Counts now (building_does b s now) []
unfolding building_does tally_all
building_counts (made n) s now = refl
building_counts accepted s now = refl
building_counts (refused cause) s now = refl

query_counts : (a : Compared) (f : Sort) (r : ℕ) (now : Progress) → Counts now (twins_answer a f r now) (answered_for a now.store f r)
unfolding twins_answer answered_for tally_all
query_counts (eq paired) f r now = refl
query_counts (neq p paired) f r now = refl
query_counts (refused_compared cause) f r now = refl

meaning_counts : (now : Progress) (o : Option Line) → Counts now (line_does twins_program now o) (asked_by now o)
unfolding line_does asked_by twins_program
meaning_counts now None = refl
meaning_counts now (Some (building c)) = building_counts (answer now.store c) (built now.store c) now
meaning_counts now (Some (query f l r ig)) = query_counts (comparison true now.store [] empty_mapping ig f l r).answer f r now

line_counts : (e : Edition) (now : Progress) (line : List ℕ) → Counts now (does twins_program e now line) (asked_in e now line)
unfolding does asked_in
line_counts e now line = go (leb (length line) max_line)
  where
    go : (b : Bool) → Counts now (cond b (line_does twins_program now (parse e line)) (stops BadLength)) (cond b (asked_by now (parse e line)) [])
    go true = meaning_counts now (parse e line)
    go false = refl

-- ---- lines one after the other

lines_count : (e : Edition) (now : Progress) (lines : List (List ℕ))
    → (leaves twins_program e now lines).tally ≡ tally_all now.tally (asked e now lines)
unfolding leaves asked keeps asked_then tally_all
lines_count e now [] = refl
lines_count e now (line ∷ lines) = go (does twins_program e now line) (line_counts e now line) (λ next. lines_count e next lines)
  where
    go : (o : LineOutcome) → Counts now o (asked_in e now line)
        → ((next : Progress) → (leaves twins_program e next lines).tally ≡ tally_all next.tally (asked e next lines))
        → (keeps o now (λ next. leaves twins_program e next lines)).tally ≡ tally_all now.tally (asked_in e now line ++ asked_then o (λ next. asked e next lines))
    go (prints out next) h rest =
        rest next ∙ ap (λ (t : Tally). tally_all t (asked e next lines)) h ∙ sym (tally_append now.tally (asked_in e now line) (asked e next lines))
    go (stops cause) h rest = ap (λ (qs : List Asked). tally_all now.tally (qs ++ [])) (sym h)

module _ (e : Edition) (lines : List (List ℕ)) (m : ℕ) where
  pub counted_all : (leaves twins_program e at_start lines).tally.all m ≡ list_any (inside m) (asked e at_start lines)
  unfolding at_start no_tally
  counted_all = ap (λ (t : Tally). t.all m) (lines_count e at_start lines) ∙ all_of_them m no_tally (asked e at_start lines)

  pub counted_equal : (leaves twins_program e at_start lines).tally.equal m ≡ list_any (inside_equal m) (asked e at_start lines)
  unfolding at_start no_tally
  counted_equal = ap (λ (t : Tally). t.equal m) (lines_count e at_start lines) ∙ equal_of_them m no_tally (asked e at_start lines)

-- ---- equal ones are a part of all, and so the share is at most 100

equal_part : (m : ℕ) (qs : List Asked) → list_any (inside_equal m) qs ≡ true → list_any (inside m) qs ≡ true
unfolding inside_equal
equal_part m (q ∷ qs) h = go (or_cases (inside_equal m q) (list_any (inside_equal m) qs) h) (equal_part m qs)
  where
    go : (inside_equal m q ≡ true) ⊎ (list_any (inside_equal m) qs ≡ true) → (list_any (inside_equal m) qs ≡ true → list_any (inside m) qs ≡ true) → list_any (inside m) (q ∷ qs) ≡ true
    go (inl e) rest = or_left (inside m q) (list_any (inside m) qs) (and_right q.found (inside m q) e)
    go (inr e) rest = or_right (inside m q) (list_any (inside m) qs) (rest e)
equal_part m [] h = h

pub share_most : (e : Edition) (lines : List (List ℕ)) → share (leaves twins_program e at_start lines).tally ≤ 100
unfolding share
share_most e lines =
    let t = (leaves twins_program e at_start lines).tally in
    per_cent_most (count_below max_ops t.equal) (count_below max_ops t.all)
    (count_le t.equal t.all max_ops
    (λ m l h. counted_all e lines m ∙ equal_part m (asked e at_start lines) (sym (counted_equal e lines m) ∙ h)))
