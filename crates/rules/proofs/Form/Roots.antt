-- What a fragment begins with: its operation, its block, or its region's blocks. They have the same operation or block around them, and no
-- two fragments of one sort begin with the same. Assumes nothing.
use Prim.Native.Nat.{ℕ}
use mathlib.Core.List.{Memᴰ}
use Rattle.std.specs.Prelude.{Some}
use mathlib.Core.Path.{◌≡◌, sym, ap, ◌∙◌}
use lib.ListN.{get_or}
use Rattle.rules.specs.Store.{Store, op_around, block_at, blocks_of}
use Rattle.rules.specs.declared.types.Owner.{Owner}
use Rattle.rules.specs.declared.types.Owner.TheVariants.{Op as of_op, Block as of_block}
use Rattle.rules.specs.declared.types.Sort.{Sort}
use Rattle.rules.specs.declared.types.Sort.TheVariants.{Op as op, Block as block, Region as region}
use Rattle.rules.proofs.Soundness.Children.{blocks_in_lem}
use Rattle.rules.proofs.Form.Ancestors.{up}

module _ (s : Store) where
  unfoldable pub Root : Sort → ℕ → Owner → Type 0
  Root op n w = w ≡ of_op n
  Root block n w = w ≡ of_block n
  Root region n w = (b : ℕ) × Memᴰ b (blocks_of s n) × (w ≡ of_block b)

  pub root_siblings : (f : Sort) (n : ℕ) (v w : Owner) → Root f n v → Root f n w → up s v ≡ up s w
  unfolding Root up op_around
  root_siblings op n v w e g = ap (up s) (e ∙ sym g)
  root_siblings block n v w e g = ap (up s) (e ∙ sym g)
  root_siblings region n v w e g =
      ap (up s) e.2
      ∙ ap (λ (r : ℕ). Some (of_op (get_or s.regions r 0))) ((blocks_in_lem s n e.1).1 ∙ sym (blocks_in_lem s n g.1).1)
      ∙ sym (ap (up s) g.2)

  pub same_root : (f : Sort) (a c : ℕ) (w : Owner) → Root f a w → Root f c w → a ≡ c
  unfolding Root
  same_root op a c w e g = let k : of_op a ≡ of_op c = sym e ∙ g in cc
  same_root block a c w e g = let k : of_block a ≡ of_block c = sym e ∙ g in cc
  same_root region a c w e g =
      let k : of_block e.0 ≡ of_block g.0 = sym e.2 ∙ g.2 in
      let b : e.0 ≡ g.0 = cc in
      sym (blocks_in_lem s a e.1).1 ∙ ap (λ (n : ℕ). (block_at s n).region) b ∙ (blocks_in_lem s c g.1).1
