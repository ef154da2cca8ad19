-- The names of an operation come in time exactly where those that have no number yet are kept by its copy. Assumes nothing.
use Prim.Native.Nat.{ℕ, ◌+◌, ◌<◌}
use native.Mathlib.Omega.{arith}
use mathlib.Core.Bool.{true, not, ◌||◌}
use mathlib.Core.List.{List, Memᴰ}
use mathlib.Core.Logic.{◌↔◌}
use Rattle.std.specs.Prelude.{Option, None, Some, is_some}
use mathlib.Core.Path.{◌≡◌, refl}
use lib.ListN.{length}
use Rattle.rules.specs.Lists.{position}
use Rattle.rules.specs.Store.{Store, op_at}
use Rattle.rules.specs.declared.types.Owner.{Owner}
use Rattle.rules.specs.Fragments.{shell, names, defines_blocks, defines_values}
use Rattle.rules.specs.declared.types.Sort.TheVariants.{Op as op}
use Rattle.rules.specs.Hash.{Numbering, numbered}
use Rattle.rules.specs.Form.{Event, step, numbered_by}
use Rattle.rules.specs.Copying.{or_next, renumbered, value_copy, block_copy, has_place, numbered_names, step_in_time, in_time}
use Rattle.rules.proofs.Basics.Tests.{clash, impossible, and_left, and_right, and_both, all_at, all_of}
use Rattle.rules.proofs.Form.Events.{bare_steps}
use Rattle.rules.proofs.Copying.Along.{Along, over, pair}
use Rattle.rules.proofs.Copying.Named.{KeptNames, NamesPair, Carries, shelled, named, begun, mores, dones, EventKept, Kept}

-- by the places of a name among those inside and those numbered so far
kept_by : (v next : ℕ) (i p : Option ℕ) → (not (is_some i) || is_some p) ≡ true → p ≡ None → or_next i next v ≡ v
unfolding or_next
kept_by v next None p h e = refl
kept_by v next (Some i) None h e = clash h refl
kept_by v next (Some i) (Some j) h e = impossible cc

by_kept : (v next : ℕ) (i p : Option ℕ) → v < next → (p ≡ None → or_next i next v ≡ v) → (not (is_some i) || is_some p) ≡ true
unfolding or_next
by_kept v next None p l h = refl
by_kept v next (Some i) None l h = let e : next + i ≡ v = h refl in absurd (omega arith)
by_kept v next (Some i) (Some j) l h = refl

names_in_time : (inside sofar ns : List ℕ) (next : ℕ) → ((v : ℕ) → Memᴰ v ns → v < next) → (numbered_names inside sofar ns ≡ true) ↔ KeptNames (renumbered inside next) sofar ns
unfolding numbered_names KeptNames has_place renumbered
names_in_time inside sofar ns next below = (
  λ h. λ v m p. kept_by v next (position v inside) (position v sofar) (all_at (λ (x : ℕ). not (is_some (position x inside)) || is_some (position x sofar)) ns h m) p,
  λ h. all_of (λ (x : ℕ). not (is_some (position x inside)) || is_some (position x sofar)) ns (λ v m. by_kept v next (position v inside) (position v sofar) (below v m) (h v m)),
)

module _ (s t : Store) (n : ℕ) (wc : Owner → Owner) where
  abbrev P : Event → Event → Type 0
  P = Carries s t (value_copy s n) (block_copy s n) wc

  step_in_time_lem : (N : Numbering) (m m' : ℕ) → NamesPair s t (value_copy s n) (block_copy s n) wc m m'
      → (step_in_time s n (names m) N ≡ true) ↔ EventKept s t (value_copy s n) (block_copy s n) wc (step (names m)) N
  unfolding step_in_time EventKept value_copy block_copy
  step_in_time_lem N m m' p =
      let v = names_in_time (defines_values s op n) N.values (op_at s m).operands (length s.values) p.operands_in in
      let b = names_in_time (defines_blocks s op n) N.blocks (op_at s m).successors (length s.blocks) p.successors_in in
      (λ h. (v.0 (and_left _ _ h), b.0 (and_right (numbered_names (defines_values s op n) N.values (op_at s m).operands) _ h)), λ h. and_both _ _ (v.1 h.0) (b.1 h.1))

  pub in_time_lem : {es es' : List Event} → Along P es es' → (N : Numbering) → (in_time s n (bare_steps es) N ≡ true) ↔ Kept s t (value_copy s n) (block_copy s n) wc es N
  unfolding in_time step_in_time bare_steps Kept EventKept numbered_by numbered
  in_time_lem over N = (λ h. tt, λ h. refl)
  in_time_lem (pair {es = es} (shelled {w = w} p) a) N = let r = in_time_lem a (numbered s (shell w) N) in (λ h. (tt, r.0 h), λ h. r.1 h.1)
  in_time_lem (pair {es = es} (named {m = m} {m' = m'} p) a) N =
      let r = in_time_lem a N in
      let q = step_in_time_lem N m m' p in
      (λ h. (q.0 (and_left _ _ h), r.0 (and_right (step_in_time s n (names m) N) _ h)), λ h. and_both _ _ (q.1 h.0) (r.1 h.1))
  in_time_lem (pair begun a) N = let r = in_time_lem a N in (λ h. (tt, r.0 h), λ h. r.1 h.1)
  in_time_lem (pair mores a) N = let r = in_time_lem a N in (λ h. (tt, r.0 h), λ h. r.1 h.1)
  in_time_lem (pair dones a) N = let r = in_time_lem a N in (λ h. (tt, r.0 h), λ h. r.1 h.1)
