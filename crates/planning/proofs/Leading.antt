-- From image to image each value, block and operation leads to one that no merged fragment defines, since the fragments get smaller.
-- Assumes nothing.
use Prim.Native.Nat.{ℕ, zero, suc, ◌<◌, ◌≤◌}
use native.Mathlib.Omega.{arith}
use mathlib.Core.Bool.{Bool, true, false}
use mathlib.Core.List.Memᴰ
use mathlib.Core.List.{Memᴰ}
use mathlib.Core.Logic.{◌⊎◌, inl, inr}
use mathlib.Core.Path.{◌≡◌, refl}
use borrow.Author.Tests.{eqb-true, eq-eqb}
use lib.Dec.{eqb}
use lib.ListN.{length}
use Rattle.std.specs.List.{list_any}
use Rattle.rules.specs.Store.{Store, sound}
use Rattle.rules.specs.Fragments.{fragment_ops}
use Rattle.rules.specs.declared.types.Sort.TheVariants.{Op as op}
use Rattle.rules.specs.declared.types.Ignore.{Ignore}
use Rattle.rules.specs.MappingLaws.{Table, defines_of}
use Rattle.rules.proofs.Basics.Tests.{decided, clash}
use Rattle.rules.proofs.Basics.Filtered.{any_at, any_where}
use Rattle.rules.proofs.Basics.Pigeons.{pigeons}
use Rattle.rules.proofs.Soundness.Sound.{facts}
use Rattle.rules.proofs.Form.Once.{ops_once, ops_here}
use Rattle.planning.specs.Plan.{merged_ops, fragment_size}
use Rattle.planning.specs.PlanLaws.{Merged, SizeCounts}
use Rattle.planning.specs.Redirects.{OneImage, ImagesShrink, Leads, here, along, Redirected}
use Rattle.planning.proofs.Under.{op_in}
use Rattle.planning.proofs.Laws.{merged_in}
use Rattle.planning.proofs.Sizes.{size_counts}
use Rattle.planning.proofs.Count.{listed_merged, merged_listed}
use Rattle.planning.proofs.Redirecting.{one_image, images_shrink}

module _ (s : Store) (h : sound s ≡ true) (ig : Ignore) (t : Table) where
  -- no merged fragment defines it
  Stays : ℕ → Type 0
  Stays w = (q : ℕ) → Merged s ig q → Memᴰ w (defines_of s op q t) → ⊥

  goes : ℕ → ℕ → Bool
  goes v q = list_any (eqb v) (defines_of s op q t)

  -- one does, or none
  defined_or : (v : ℕ) → ((q : ℕ) × Merged s ig q × Memᴰ v (defines_of s op q t)) ⊎ Stays v
  unfolding goes Stays
  defined_or v = go (decided (list_any (goes v) (merged_ops s ig)))
    where
      go : (list_any (goes v) (merged_ops s ig) ≡ true) ⊎ (list_any (goes v) (merged_ops s ig) ≡ false)
          → ((q : ℕ) × Merged s ig q × Memᴰ v (defines_of s op q t)) ⊎ Stays v
      go (inl e) =
          let w = any_where (goes v) (merged_ops s ig) e in
          let x = any_where (eqb v) (defines_of s op w.0 t) w.2 in
          inl (w.0, listed_merged s ig w.0 w.1, Memᴰ.cast (eqb-true v x.0 x.2) x.1)
      go (inr e) = inr (λ q k i. clash (any_at (goes v) (merged_listed s ig h q k) (any_at (eqb v) i (eq-eqb v v refl))) e)

  lead : (k v : ℕ) → ((q : ℕ) → Merged s ig q → Memᴰ v (defines_of s op q t) → fragment_size s q < k) → (w : ℕ) × Leads s ig t v w × Stays w
  unfolding Stays OneImage ImagesShrink
  lead zero v few = (v, here, λ q m i. let l = few q m i in omega arith)
  lead (suc k) v few = go (λ y less. lead k y less) (defined_or v)
    where
      go : ((y : ℕ) → ((q : ℕ) → Merged s ig q → Memᴰ y (defines_of s op q t) → fragment_size s q < k) → (w : ℕ) × Leads s ig t y w × Stays w)
          → ((q : ℕ) × Merged s ig q × Memᴰ v (defines_of s op q t)) ⊎ Stays v → (w : ℕ) × Leads s ig t v w × Stays w
      go rest (inr out) = (v, here, out)
      go rest (inl (n, (m, e), i)) =
          let y = one_image s h ig n m e t v i in
          let l = few n (m, e) i in
          let r = rest y.0 (λ q k j. let b = images_shrink s h ig n m q e k t y.0 y.1 j in omega arith) in
          (r.0, along m n y.2 r.1, r.2)

pub redirected : Redirected
unfolding Redirected Stays SizeCounts
redirected s h ig t v =
    lead s h ig t (suc (length s.ops)) v
    (λ q m i. let l = op_in s h q (merged_in s h ig q m) in
    let few : length (fragment_ops s op q) ≤ length s.ops = pigeons (length s.ops) (fragment_ops s op q) (ops_once s (facts s h) op q l) (ops_here s (facts s h) op q l) in
    let e = size_counts s q in
    omega arith)
