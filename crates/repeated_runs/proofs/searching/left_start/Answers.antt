-- `left_start` meets its contract: a start is tried, or passed over where its bucket is another. Assumes nothing.
use Prim.Native.Nat.{ℕ, ◌+◌, ◌<◌, ◌≤◌}
use native.Mathlib.Omega.{arith}
use mathlib.Core.Bool.{Bool, false}
use mathlib.Core.Path.{◌≡◌, sym, subst, ◌∙◌}
use lib.ListN.{length, get_or}
use Rattle.std.specs.Prelude as std
use Rattle.layout.specs.Reading.{store_in}
use Rattle.fragments.specs.View.{options_in}
use Rattle.hashing.proofs.Tried.{Tried, tried_none, tried_all, tried_here, tried_over, tried_found, tried_next, to_go, fewer_to_go}
use Rattle.repeated_runs.proofs.Listed.{few}
use Rattle.repeated_runs.proofs.Searched.{equals, left_all, run_unlike}
use Rattle.repeated_runs.proofs.searching.left_start.Goals as goal
use Rattle.repeated_runs.proofs.searching.left_start.Goals.{Start, In-Some, else-sums-left-via-then-sums-left+else-equal_runs, else-sums-left-via-else-sums-left}

module _ (c : Start) where
  abbrev sum : ℕ
  sum = get_or c.args.sums.now c.args.right 0

  -- the run from a start on is the right one
  abbrev test : ℕ → Bool
  test = equals (store_in c.args.view.now.store.now) (options_in c.args.view.now) c.args.runs.block c.args.runs.n c.args.right

  abbrev TriedTo : ℕ → std.Option ℕ → Type 0
  TriedTo = Tried c.args.sums.now sum test c.args.runs.n c.args.right

  -- there are as many sums as starts
  enough : c.args.right < length c.args.sums.now + c.args.runs.n
  enough = let r = c.requires in omega (arith, r.chained_starts.long, r.le_n, r.right_in_bounds)

  unlike : (i : ℕ) → i + c.args.runs.n ≤ c.args.right → (get_or c.args.sums.now i 0 ≡ sum → ⊥) → test i ≡ false
  unlike =
      let r = c.requires in
      run_unlike c.args.sums.now (options_in c.args.view.now) c.args.runs.n r.ops_of r.sums_of c.args.right r.right_in_bounds

tried : (c : In-Some) → TriedTo ((goal.at.In-Some c).Start) c.loop-next.invariant.1 (std.Some c.in-Some.left)
tried c = subst (TriedTo ((goal.at.In-Some c).Start) c.loop-next.invariant.1) c.in-Some.is c.loop-next.invariant.2

-- a start is among the sums
here : (c : In-Some) → c.in-Some.left < length c.args.sums.now
here c =
    let s = (goal.at.In-Some c).Start in
    tried_here c.args.sums.now (sum s) (test s) c.args.runs.n c.args.right (enough s) (unlike s) c.loop-next.invariant.1 c.in-Some.left (tried c)

pub loop-next-init : goal.loop-next-init
loop-next-init c =
    (c.requires.mapping_value, 0, tried_none _ _ _ _ _ _ (c.first_start-next.ensures c.args.sums.now c.requires.chained_starts.chained))

pub overflow_add-left : goal.overflow_add-left
overflow_add-left c =
    let short = few c.args.view.now.readable.sound c.requires.ops_of in
    let l = here ((goal.at.overflow_add-left c).In-Some) in
    record { fits = omega (arith, l, short, c.requires.chained_starts.long, c.requires.right_in_bounds) }

pub returns-then-left-runs : goal.returns-then-left-runs
returns-then-left-runs c =
    let at = goal.at.returns-then-left-runs c in
    let s = at.Start in
    let t = tried (at.In-Some) in
    record {
      result_value = sym (left_all _ _ _ _ _ ∙ tried_over c.args.sums.now (sum s) (test s) c.args.runs.n c.args.right (enough s) (unlike s) c.loop-next.invariant.1 c.in-Some.left t c.if-left-runs.true);
      mapping_after = c.loop-next.invariant.0;
    }

pub bounds-sums-left : goal.bounds-sums-left
bounds-sums-left c = here ((goal.at.bounds-sums-left c).In-Some)

pub returns-then-equal_runs : goal.returns-then-equal_runs
returns-then-equal_runs c =
    let at = goal.at.returns-then-equal_runs c in
    let s = at.Start in
    let t = tried (at.In-Some) in
    record {
      result_value =
          sym
          (left_all _ _ _ _ _
          ∙ tried_found c.args.sums.now (sum s) (test s) c.args.runs.n c.args.right (enough s) (unlike s) c.loop-next.invariant.1 c.in-Some.left t
          c.if-left-runs.false (sym c.equal_runs.ensures.value ∙ c.if-equal_runs.true));
      mapping_after = c.equal_runs.ensures.mapping_after;
    }

pub next_start-next-requires : goal.next_start-next-requires
next_start-next-requires c =
    let short = few c.args.view.now.readable.sound c.requires.ops_of in
    let l = here ((goal.at.next_start-next-requires c).In-Some) in
    omega (arith, l, short, c.requires.chained_starts.long, c.requires.le_n)

pub loop-next-smaller : goal.loop-next-smaller
loop-next-smaller c =
    let l = here ((goal.at.loop-next-smaller c).In-Some) in
    let follows = c.next_start-next.ensures c.args.sums.now c.requires.chained_starts.chained l in
    subst (λ (x : std.Option ℕ). to_go (length c.args.sums.now) c.next_start-next.result < to_go (length c.args.sums.now) x) (sym c.in-Some.is)
    (fewer_to_go c.args.sums.now _ c.in-Some.left c.next_start-next.result l follows)

pub loop-next-preserved : goal.loop-next-preserved
loop-next-preserved c =
    let at = goal.at.loop-next-preserved c in
    let s = at.Start in
    let some = at.In-Some in
    let follows = c.next_start-next.ensures c.args.sums.now c.requires.chained_starts.chained (here some) in
    let next : test s c.in-Some.left ≡ false → TriedTo s (c.in-Some.left + 1) c.next_start-next.result =
    λ e. tried_next c.args.sums.now (sum s) (test s) c.args.runs.n c.args.right (enough s) (unlike s) c.loop-next.invariant.1 c.in-Some.left (tried some) c.if-left-runs.false e c.next_start-next.result follows in
    elim c.else-sums-left.branch [
      | else-sums-left-via-then-sums-left+else-equal_runs w ↦ (w.mapping-is ∙ w.equal_runs.ensures.mapping_after, c.in-Some.left + 1, next (sym w.equal_runs.ensures.value ∙ w.if-equal_runs.false))
      | else-sums-left-via-else-sums-left w ↦ (w.mapping-is ∙ c.loop-next.invariant.0, c.in-Some.left + 1, next (unlike s c.in-Some.left c.if-left-runs.false w.if-sums-left.false))
    ]

pub returns : goal.returns
returns c =
    let s = (goal.at.returns c).Start in
    let t : TriedTo s c.loop-next.invariant.1 std.None = subst (TriedTo s c.loop-next.invariant.1) c.in_default.is c.loop-next.invariant.2 in
    record {
      result_value = sym (left_all _ _ _ _ _ ∙ tried_all c.args.sums.now (sum s) (test s) c.args.runs.n c.args.right (enough s) (unlike s) c.loop-next.invariant.1 t);
      mapping_after = c.loop-next.invariant.0;
    }
