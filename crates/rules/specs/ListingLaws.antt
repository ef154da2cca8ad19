-- What is proved of listings: how much is printed, and that the share is what it says.
use Rattle.std.specs.Prelude.{ℕ, ◌+◌, ◌*◌, ◌-◌, ◌%◌, ◌<◌, ◌≤◌, ◌≡◌, length}
use mathlib.Core.List.{List}
use Rattle.std.specs.List.{list_any}
use Rattle.rules.specs.declared.types.Edition.{Edition}
use Rattle.rules.specs.Listings.{per_cent, share, at_start, leaves, twins_program, twins, sums, max_output}
use Rattle.rules.specs.Asked.{asked, inside, inside_equal}

-- order 8: "over all operations inside any right fragment, those inside at least one right fragment found equal, each fragment as it stood
-- at its `q`": what `twins` has counted after these lines: `counted_exactly`
unfoldable pub CountedExactly : Type 0
CountedExactly =
    (e : Edition) (lines : List (List ℕ)) (m : ℕ)
    → ((leaves twins_program e at_start lines).tally.all m ≡ list_any (inside m) (asked e at_start lines))
    × ((leaves twins_program e at_start lines).tally.equal m ≡ list_any (inside_equal m) (asked e at_start lines))

-- "Count each operation once": so the ones are a part of the others, and the share is at most 100: `share_most`
unfoldable pub ShareMost : Type 0
ShareMost = (e : Edition) (lines : List (List ℕ)) → share (leaves twins_program e at_start lines).tally ≤ 100

-- the output of a listing fits: `output_fits`
unfoldable pub OutputFits : Type 0
OutputFits = (bytes : List ℕ) → (length (twins bytes) ≤ max_output) × (length (sums bytes) ≤ max_output)

-- how far two numbers are apart
unfoldable pub apart : ℕ → ℕ → ℕ
apart a b = (a - b) + (b - a)

-- the per cent is the nearest whole number to a hundred times the part over the whole, and where two are equally near, the even one:
-- `per_cent_nearest`
unfoldable pub PerCentNearest : Type 0
PerCentNearest =
    (part whole : ℕ) → 0 < whole
    → (2 * apart (per_cent part whole * whole) (100 * part) ≤ whole)
    × (2 * apart (per_cent part whole * whole) (100 * part) ≡ whole → per_cent part whole % 2 ≡ 0)
