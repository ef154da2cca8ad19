-- The operations inside a fragment, included, make the rules' tally with that fragment: they are operations of the store, which have numbers
-- below 512, and the order in which they come makes no difference. Assumes nothing.
use Prim.Native.Nat.{ℕ, ◌<◌, ◌≤◌}
use native.Mathlib.Omega.{arith}
use mathlib.Core.Bool.{Bool, true, ◌&&◌, ◌||◌}
use mathlib.Core.List.{List, [], ◌∷◌, Memᴰ}
use mathlib.Core.Logic.{⊎_elim}
use mathlib.Core.Path.{◌≡◌, refl, sym, subst, ◌∙◌}
use borrow.Author.Tests.{eqb-true, eq-eqb}
use lib.Dec.{eqb}
use lib.ListN.{length}
use Rattle.std.specs.List.{list_any}
use Rattle.rules.specs.Store.{Store, sound, max_ops}
use Rattle.rules.specs.Fragments.{exists, defines_owners, fragment_ops}
use Rattle.rules.specs.declared.types.Sort.{Sort}
use Rattle.rules.specs.Listings.{Tally, tallied}
use Rattle.rules.proofs.Basics.Tests.{or_cases, clash}
use Rattle.rules.proofs.Basics.Filtered.{any_at}
use Rattle.rules.proofs.Soundness.Sound.{facts}
use Rattle.rules.proofs.Form.Once.{owners_here}
use Rattle.rules.proofs.Form.Counted.{ops_here}
use Rattle.listing.specs.Tally.{tally_of, IsTally, included_all, Tallied}
use Rattle.listing.specs.declared.places.Place.{Place}
use Rattle.listing.proofs.Including.{reads_included, included_holds}
use Rattle.listing.proofs.Alike.{ops_included, same_ops}

stands : (m : ℕ) (ns : List ℕ) → list_any (eqb m) ns ≡ true → Memᴰ m ns
stands m [] h = clash h refl
stands m (n ∷ ns) h =
    ⊎_elim (λ e. Memᴰ.head (eqb-true m n e)) (λ e. Memᴰ.tail (stands m ns e)) (or_cases (eqb m n) (list_any (eqb m) ns) h)

-- a tally takes no note of the order
tallied_same : (found : Bool) (ms ns : List ℕ) (t : Tally) → ((m : ℕ) → list_any (eqb m) ms ≡ list_any (eqb m) ns) → tallied found ms t ≡ tallied found ns t
unfolding tallied
tallied_same found ms ns t same =
    λ i. record {
      equal = λ (m : ℕ). t.equal m || (found && same m i);
      all = λ (m : ℕ). t.all m || same m i;
    }

module _ (s : Store) (sd : sound s ≡ true) (f : Sort) (n : ℕ) (e : exists s f n ≡ true) where
  below : (m : ℕ) → Memᴰ m (ops_included s f n) → m < max_ops
  unfolding fragment_ops
  below m i =
      let so = facts s sd in
      let there : list_any (eqb m) (fragment_ops s f n) ≡ true = sym (same_ops (eqb m) s f n) ∙ any_at (eqb m) i (eq-eqb m m refl) in
      let l : m < length s.ops = ops_here s sd (defines_owners s f n) (owners_here s so f n e) m (stands m (fragment_ops s f n) there) in
      let k : length s.ops ≤ max_ops = so.totals.ops in
      omega arith

  pub makes_tally : (found : Bool) (places : List Place) → IsTally places → Tallied s f n found places (included_all found (ops_included s f n) places)
  makes_tally found places t =
      record {
        reads =
            reads_included found (ops_included s f n) places (λ m i. subst (λ (j : ℕ). m < j) (sym t.long) (below m i))
            ∙ tallied_same found (ops_included s f n) (fragment_ops s f n) (tally_of places) (λ m. same_ops (eqb m) s f n);
        holds = included_holds found (ops_included s f n) places t;
      }
