-- The test of first operands. The operations of a run stand by rising number, so that a result of one of them has an owner from the first
-- number to the last; and runs are not equal where an operand of the first left operation is neither the right one's nor such a result.
-- Assumes nothing.
use Prim.Native.Nat.{ℕ, zero, suc, ◌+◌, ◌-◌, ◌*◌, ◌<◌, ◌≤◌}
use native.Mathlib.Decide.{ℕ_discrete}
use native.Mathlib.Nat.{not-suc-le-zero, le_of_suc-le-suc}
use native.Mathlib.Omega.{arith}
use mathlib.Core.Bool.{true, false}
use mathlib.Core.List.Memᴰ
use mathlib.Core.List.{List, [], ◌∷◌, Memᴰ}
use mathlib.Core.Logic.{◌⊎◌, inl, inr, ⊎_elim}
use mathlib.Core.Path.{◌≡◌, sym, ap, ap₂, subst, ◌∙◌}
use lib.ListN.{length, get_or, take, drop}
use lib.Seq.{get_or-drop}
use Rattle.std.specs.List.{flat_map}
use Rattle.rules.specs.Store.{Store, op_at, value_at, ops_of, results_of}
use Rattle.rules.specs.declared.types.Owner.TheVariants.{Op as of_op}
use Rattle.rules.specs.declared.types.Ignore.{Ignore}
use Rattle.rules.specs.Types.{renamed}
use Rattle.rules.specs.Runs.{compare_runs, run_of, same_runs}
use Rattle.rules.specs.Laws.{succeeds}
use Rattle.rules.proofs.Basics.Appended.{mem_get_d}
use Rattle.rules.proofs.Basics.Distinct.{mem_concat_map}
use Rattle.rules.proofs.Basics.Tests.{decided}
use Rattle.rules.proofs.Runs.FirstUses.{first_uses}
use Rattle.rules.proofs.Soundness.Children.{values_in_lem}
use Rattle.rules.proofs.RenamedTypes.Renamed.{values_renamed}
use Rattle.layout.specs.Columns.{columns, at, value_owner}
use Rattle.layout.specs.Reading.{value_count, owner_code, store_in}
use Rattle.layout.proofs.Seeking.{Rising, ops_rise}
use Rattle.fragments.proofs.Reading.{owner_code_lem}
use Rattle.repeated_runs.specs.Walked.{RunsIn, left_run, left_results}
use Rattle.repeated_runs.specs.declared.types.TwoRuns.{TwoRuns}
use Rattle.repeated_runs.proofs.Listed.{run_first}

-- ---- a run of numbers that rise

rises : (xs : List ℕ) → Rising xs → (a b : ℕ) → a < b → b < length xs → get_or xs a 0 < get_or xs b 0
rises [] r a b l m = absurd (not-suc-le-zero m)
rises (x ∷ xs) r a zero l m = absurd (not-suc-le-zero l)
rises (x ∷ xs) r zero (suc b) l m = r.0 (get_or xs b 0) (mem_get_d xs b 0 (le_of_suc-le-suc m))
rises (x ∷ xs) r (suc a) (suc b) l m = rises xs r.1 a b (le_of_suc-le-suc l) (le_of_suc-le-suc m)

rises_or_same : (xs : List ℕ) → Rising xs → (a b : ℕ) → a ≤ b → b < length xs → get_or xs a 0 ≤ get_or xs b 0
rises_or_same xs r a b l m = go (ℕ_discrete a b)
  where
    go : Dec (a ≡ b) → get_or xs a 0 ≤ get_or xs b 0
    go (yes e) = let same : get_or xs a 0 ≡ get_or xs b 0 = ap (λ (k : ℕ). get_or xs k 0) e in omega arith
    go (no ne) = let less : get_or xs a 0 < get_or xs b 0 = rises xs r a b (omega arith) m in omega arith

-- at which place it stands
taken_at : (n : ℕ) (xs : List ℕ) {x : ℕ} → Memᴰ x (take n xs) → (k : ℕ) × (k < n) × (x ≡ get_or xs k 0)
taken_at zero xs m = absurd (Memᴰ.not-nil m)
taken_at (suc n) [] m = absurd (Memᴰ.not-nil m)
taken_at (suc n) (y ∷ xs) {x} m = ⊎_elim (λ e. (0, omega arith, e)) (λ k. later (taken_at n xs k)) (Memᴰ.cases_cons m)
  where
    later : ((k : ℕ) × (k < n) × (x ≡ get_or xs k 0)) → (k : ℕ) × (k < suc n) × (x ≡ get_or (y ∷ xs) k 0)
    later w = let l = w.1 in (suc w.0, omega arith, w.2)

run_between : (xs : List ℕ) → Rising xs → (n i : ℕ) → i + n ≤ length xs → {x : ℕ} → Memᴰ x (run_of xs n i) → (get_or xs i 0 ≤ x) × (x ≤ get_or xs (i + n - 1) 0)
unfolding run_of
run_between xs r n i l {x} m =
    let w = taken_at n (drop i xs) m in
    let k = w.0 in
    let few : k < n = w.1 in
    let here : x ≡ get_or xs (i + k) 0 = w.2 ∙ get_or-drop i xs k 0 in
    (omega (arith, rises_or_same xs r i (i + k) (omega arith) (omega arith)), omega (arith, rises_or_same xs r (i + k) (i + n - 1) (omega arith) (omega arith)))

module _ {store ops : List ℕ} {x : TwoRuns} (h : RunsIn store ops x) where
  -- ---- a result of the left run

  -- its owner is an operation, by the code, from the run's first to its last
  pub record OwnedWithin (w : ℕ) : Type 0 where
    pub owner : ℕ
    pub code : w ≡ 2 * owner
    pub from : get_or ops x.left 0 ≤ owner
    pub to : owner ≤ get_or ops (x.left + x.runs.n - 1) 0

  pub result_owner : (v : ℕ) → v < value_count (columns store) → Memᴰ v (left_results (store_in store) ops x) → OwnedWithin (at (columns store) value_owner v)
  unfolding results_of owner_code
  result_owner v l m =
      let p = mem_concat_map (results_of (store_in store)) (left_run ops x) m in
      let own : (value_at (store_in store) v).owner ≡ of_op p.0 = (values_in_lem (store_in store) (of_op p.0) p.2).1 in
      let rising : Rising ops = subst Rising (sym h.listed.all) (ops_rise (store_in store) x.runs.block) in
      let between = run_between ops rising x.runs.n x.left h.left p.1 in
      record { owner = p.0; code = sym (owner_code_lem (columns store) v l) ∙ ap owner_code own; from = between.0; to = between.1 }

  -- ---- runs whose first operands differ

  module _ (types : List ℕ) (ig : Ignore) where
    abbrev s : Store
    s = renamed types (store_in store)

    abbrev lefts : List ℕ
    lefts = (op_at (store_in store) (get_or ops x.left 0)).operands

    abbrev rights : List ℕ
    rights = (op_at (store_in store) (get_or ops x.right 0)).operands

    begins : (i : ℕ) → i + x.runs.n ≤ length ops → run_of (ops_of s x.runs.block) x.runs.n i ≡ get_or ops i 0 ∷ run_of ops (x.runs.n - 1) (i + 1)
    unfolding renamed ops_of
    begins i l = ap (λ (os : List ℕ). run_of os x.runs.n i) (sym h.listed.all) ∙ run_first ops x.runs.n i h.some l

    own_results_lem : flat_map (results_of s) (get_or ops x.left 0 ∷ run_of ops (x.runs.n - 1) (x.left + 1)) ≡ left_results (store_in store) ops x
    unfolding results_of
    own_results_lem = λ i. flat_map (λ (p : ℕ). values_renamed types (store_in store) (of_op p) i) (sym (run_first ops x.runs.n x.left h.some h.left) i)

    pub uses_differ : (i : ℕ) → i < length lefts → (get_or lefts i 0 ≡ get_or rights i 0 → ⊥) → (Memᴰ (get_or lefts i 0) (left_results (store_in store) ops x) → ⊥)
        → same_runs s ig x.runs.block x.runs.n x.left x.right ≡ false
    unfolding same_runs renamed op_at
    uses_differ i l other outside = go (decided (same_runs s ig x.runs.block x.runs.n x.left x.right))
      where
        go : (same_runs s ig x.runs.block x.runs.n x.left x.right ≡ true) ⊎ (same_runs s ig x.runs.block x.runs.n x.left x.right ≡ false)
            → same_runs s ig x.runs.block x.runs.n x.left x.right ≡ false
        go (inl e) =
            let same = ap₂ (λ (ls rs : List ℕ). succeeds (compare_runs s ig x.runs.block ls rs)) (sym (begins x.left h.left)) (sym (begins x.right h.right)) ∙ e in
            ⊎_elim (λ k. absurd (other k)) (λ m. absurd (outside (subst (Memᴰ (get_or lefts i 0)) own_results_lem m)))
            (first_uses s ig x.runs.block _ _ _ _ same i l)
        go (inr e) = e
