-- `twin_of` meets its contract: an operation is tried, or passed over where its bucket is another. Assumes nothing.
use Prim.Native.Nat.{ℕ, ◌+◌, ◌<◌, ◌≤◌}
use native.Mathlib.Omega.{arith}
use mathlib.Core.Bool.{Bool, false}
use Rattle.std.specs.Prelude.{Option}
use mathlib.Core.Path.{◌≡◌, sym, subst, ◌∙◌}
use lib.ListN.{length, get_or}
use Rattle.std.specs.Prelude as std
use Rattle.rules.specs.Grouping.{twin_of}
use Rattle.layout.specs.Columns.{columns}
use Rattle.layout.specs.Reading.{store_in}
use Rattle.layout.proofs.Tabulate.{ops_length}
use Rattle.fragments.specs.Options.{renamed_under}
use Rattle.fragments.specs.View.{options_in}
use Rattle.fragments.proofs.Few.{op_low}
use Rattle.hashing.proofs.Tried.{left_on, Tried, tried_none, tried_all, tried_here, tried_over, tried_found, tried_next, to_go, fewer_to_go}
use Rattle.grouping.proofs.Searched.{stands, all_before, unlike}
use Rattle.grouping.proofs.finding.twin_of.Goals as goal
use Rattle.grouping.proofs.finding.twin_of.Goals.{Start, In-Some, else-hashes-m-via-then-hashes-m+else-is_twin, else-hashes-m-via-else-hashes-m}

module _ (c : Start) where
  abbrev hash : ℕ
  hash = get_or c.args.hashes.now c.args.n 0

  abbrev test : ℕ → Bool
  test = stands (store_in c.args.view.now.store.now) (options_in c.args.view.now) c.args.n

  abbrev TriedTo : ℕ → std.Option ℕ → Type 0
  TriedTo = Tried c.args.hashes.now hash test 1 c.args.n

  below : c.args.n < length (store_in c.args.view.now.store.now).ops
  below = omega (arith, c.requires.n_bound, ops_length (columns c.args.view.now.store.now))

  -- there are as many hashes as operations
  many : c.args.n < length c.args.hashes.now
  many = omega (arith, below, c.requires.hashed.hashes_of.many)

  few : c.args.n < 512
  few = op_low c.args.view.now.store.now c.args.view.now.readable.sound c.args.n c.requires.n_bound

  enough : c.args.n < length c.args.hashes.now + 1
  enough = omega (arith, many)

  other : (i : ℕ) → i + 1 ≤ c.args.n → (get_or c.args.hashes.now i 0 ≡ hash → ⊥) → test i ≡ false
  other =
      let a = c.args in
      unlike (store_in a.view.now.store.now) a.view.now.readable.sound.ruled (options_in a.view.now) a.hashes.now c.requires.hashed.hashes_of a.n below

  -- what is left to try is the whole
  whole : {t : Option ℕ} → left_on test 1 c.args.n 0 ≡ t → t ≡ twin_of (renamed_under (options_in c.args.view.now) (store_in c.args.view.now.store.now)) (options_in c.args.view.now).ignore c.args.n
  whole e = sym (all_before (store_in c.args.view.now.store.now) (options_in c.args.view.now) c.args.n ∙ e)

tried : (c : In-Some) → TriedTo ((goal.at.In-Some c).Start) c.loop-next.invariant.1 (std.Some c.in-Some.m)
tried c = subst (TriedTo ((goal.at.In-Some c).Start) c.loop-next.invariant.1) c.in-Some.is c.loop-next.invariant.2

-- an operation is among the hashes
here : (c : In-Some) → c.in-Some.m < length c.args.hashes.now
here c =
    let s = (goal.at.In-Some c).Start in
    tried_here c.args.hashes.now (hash s) (test s) 1 c.args.n (enough s) (other s) c.loop-next.invariant.1 c.in-Some.m (tried c)

pub offset_bounds-hashes-n : goal.offset_bounds-hashes-n
offset_bounds-hashes-n c = record { fits = omega (arith, few ((goal.at.offset_bounds-hashes-n c).Start)) }

pub bounds-hashes-n : goal.bounds-hashes-n
bounds-hashes-n c = many ((goal.at.bounds-hashes-n c).Start)

pub loop-next-init : goal.loop-next-init
loop-next-init c = (c.requires.mapping_value, 0, tried_none _ _ _ _ _ _ (c.first_start-next.ensures c.args.hashes.now c.requires.hashed.chained))

pub returns-then-m-n-clause-value : goal.returns-then-m-n-clause-value
returns-then-m-n-clause-value c =
    let at = goal.at.returns-then-m-n-clause-value c in
    let s = at.Start in
    whole s (tried_over c.args.hashes.now (hash s) (test s) 1 c.args.n (enough s) (other s) c.loop-next.invariant.1 c.in-Some.m (tried (at.In-Some)) (omega (arith, c.if-m-n.true)))

pub offset_bounds-hashes-m : goal.offset_bounds-hashes-m
offset_bounds-hashes-m c = record { fits = omega (arith, c.if-m-n.false, few ((goal.at.offset_bounds-hashes-m c).Start)) }

pub bounds-hashes-m : goal.bounds-hashes-m
bounds-hashes-m c = here ((goal.at.bounds-hashes-m c).In-Some)

pub returns-then-is_twin-clause-value : goal.returns-then-is_twin-clause-value
returns-then-is_twin-clause-value c =
    let at = goal.at.returns-then-is_twin-clause-value c in
    let s = at.Start in
    whole s
    (tried_found c.args.hashes.now (hash s) (test s) 1 c.args.n (enough s) (other s) c.loop-next.invariant.1 c.in-Some.m (tried (at.In-Some))
    (omega (arith, c.if-m-n.false)) (sym c.is_twin.ensures.value ∙ c.if-is_twin.true))

pub overflow_cast-result : goal.overflow_cast-result
overflow_cast-result c = record { fits = omega (arith, c.if-m-n.false, few ((goal.at.overflow_cast-result c).Start)) }

pub next_start-next-requires : goal.next_start-next-requires
next_start-next-requires c = omega (arith, c.if-m-n.false, few ((goal.at.next_start-next-requires c).Start))

pub loop-next-smaller : goal.loop-next-smaller
loop-next-smaller c =
    let l = here ((goal.at.loop-next-smaller c).In-Some) in
    let follows = c.next_start-next.ensures c.args.hashes.now c.requires.hashed.chained l in
    subst (λ (x : std.Option ℕ). to_go (length c.args.hashes.now) c.next_start-next.result < to_go (length c.args.hashes.now) x) (sym c.in-Some.is)
    (fewer_to_go c.args.hashes.now _ c.in-Some.m c.next_start-next.result l follows)

pub loop-next-preserved : goal.loop-next-preserved
loop-next-preserved c =
    let at = goal.at.loop-next-preserved c in
    let s = at.Start in
    let some = at.In-Some in
    let before : c.in-Some.m + 1 ≤ c.args.n = omega (arith, c.if-m-n.false) in
    let follows = c.next_start-next.ensures c.args.hashes.now c.requires.hashed.chained (here some) in
    let next : test s c.in-Some.m ≡ false → TriedTo s (c.in-Some.m + 1) c.next_start-next.result =
    λ e. tried_next c.args.hashes.now (hash s) (test s) 1 c.args.n (enough s) (other s) c.loop-next.invariant.1 c.in-Some.m (tried some) before e c.next_start-next.result follows in
    elim c.else-hashes-m.branch [
      | else-hashes-m-via-then-hashes-m+else-is_twin w ↦ (w.mapping-is ∙ w.is_twin.ensures.mapping_after, c.in-Some.m + 1, next (sym w.is_twin.ensures.value ∙ w.if-is_twin.false))
      | else-hashes-m-via-else-hashes-m w ↦ (w.mapping-is ∙ c.loop-next.invariant.0, c.in-Some.m + 1, next (other s c.in-Some.m before w.if-hashes-m.false))
    ]

pub returns-clause-value : goal.returns-clause-value
returns-clause-value c =
    let s = (goal.at.returns-clause-value c).Start in
    let t : TriedTo s c.loop-next.invariant.1 std.None = subst (TriedTo s c.loop-next.invariant.1) c.in_default.is c.loop-next.invariant.2 in
    whole s (tried_all c.args.hashes.now (hash s) (test s) 1 c.args.n (enough s) (other s) c.loop-next.invariant.1 t)
