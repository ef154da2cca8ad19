-- What two equal fragments have in common at each place of the walk, whatever they name: the inherent attributes, which no ignore rule passes
-- over. Assumes nothing.
use Prim.Native.Nat.{ℕ, ◌/◌, ◌%◌, ◌^◌}
use mathlib.Core.Bool.{Bool, true, false, not, ◌&&◌}
use mathlib.Core.List.{List, ◌∷◌, map}
use mathlib.Core.Path.{◌≡◌, refl, sym, ap, ap₂, ◌∙◌}
use lib.Dec.{eqb}
use Rattle.std.specs.List.{filter}
use Rattle.rules.specs.Store.{Store, op_at, block_at, sound}
use Rattle.rules.specs.declared.types.Attribute.{Attribute}
use Rattle.rules.specs.declared.types.Owner.{Owner}
use Rattle.rules.specs.declared.types.Owner.TheVariants.{Op as of_op, Block as of_block}
use Rattle.rules.specs.Fragments.{defines_owners}
use Rattle.rules.specs.declared.types.Sort.{Sort}
use Rattle.rules.specs.Building.{attributes_of}
use Rattle.rules.specs.Shells.{ignored, unignored, Shell, shell_of}
use Rattle.rules.specs.declared.types.Ignore.{Ignore}
use Rattle.rules.specs.Comparison.{State}
use Rattle.rules.specs.Laws.{Equal, In}
use Rattle.rules.specs.EqualityLaws.{inherent_of}
use Rattle.rules.proofs.Basics.Filtered.{filter_twice}
use Rattle.rules.proofs.Form.SameShells.{shells→≡}
use Rattle.rules.proofs.Form.Passed.{Passed, over, pair, equal_passed}

-- ---- what an ignore rule leaves has all that are inherent

inherents : List Attribute → List Attribute
inherents = filter (λ (a : Attribute). a.inherent)

never_ignored : (inherent bit : Bool) → (not (not inherent && bit) && inherent) ≡ inherent
never_ignored true bit = refl
never_ignored false true = refl
never_ignored false false = refl

left_in : (ig : Ignore) (xs : List Attribute) → inherents (unignored ig xs) ≡ inherents xs
unfolding inherents unignored ignored
left_in ig xs = filter_twice _ _ _ (λ a. never_ignored a.inherent (eqb ((ig.bits / 2 ^ a.kind) % 2) 1)) xs

shell_inherents : (s : Store) (ig : Ignore) (w : Owner) → inherents (shell_of s ig w).attributes ≡ inherent_of s w
unfolding shell_of attributes_of inherent_of inherents
shell_inherents s ig (of_op n) = left_in ig (op_at s n).attributes
shell_inherents s ig (of_block b) = left_in ig (block_at s b).attributes

alike : (s : Store) (ig : Ignore) (l r : Owner) → shell_of s ig l ≡ shell_of s ig r → inherent_of s l ≡ inherent_of s r
alike s ig l r h = sym (shell_inherents s ig l) ∙ ap (λ (x : Shell). inherents x.attributes) h ∙ shell_inherents s ig r

-- ---- along the comparison

along : (s : Store) (ig : Ignore) {ls rs : List Owner} {st st' : State} → Passed s ig ls rs st st' → map (inherent_of s) ls ≡ map (inherent_of s) rs
along s ig over = refl
along s ig (pair {l} {r} e rest) = ap₂ ◌∷◌ (alike s ig l r (shells→≡ s ig l r e).1) (along s ig rest)

pub inherent_kept : (s : Store) → sound s ≡ true → (ig : Ignore) (f : Sort) (a b : ℕ) → In s f a → Equal s ig f a b
    → map (inherent_of s) (defines_owners s f a) ≡ map (inherent_of s) (defines_owners s f b)
inherent_kept s sd ig f a b ia h = along s ig (equal_passed s ig f a b h)
