-- The law: equal fragments do the same work, whatever the operations mean, as long as a meaning depends only on what is compared.
use Rattle.std.specs.Prelude.{ℕ, Bool, true, ◌&&◌, List, [], ◌∷◌, ◌↔◌, ◌≢◌, ◌≡◌, None}
use mathlib.Core.List.{Memᴰ}
use Rattle.rules.specs.Store.{Store, op_at, sound}
use Rattle.rules.specs.Fragments.{Step, shell, names, counted, steps, defines_values, defines_blocks, Premise}
use Rattle.rules.specs.declared.types.Sort.{Sort}
use Rattle.rules.specs.declared.types.Ignore.{Ignore}
use Rattle.rules.specs.Mapping.{Mapping, image}
use Rattle.rules.specs.Hash.{Numbering, no_numbers, numbered}
use Rattle.rules.specs.Laws.{Equal, In}
use Rattle.rules.specs.MappingLaws.{filed}
use Rattle.rules.specs.Types.{renamed}
use Rattle.rules.specs.Copying.{numbered_names}
use Rattle.semantics.specs.Meaning.{Meaning}
use Rattle.semantics.specs.Machine.{Registers, End, passed, left, jumped, stuck, spent, Ran, run_fragment}
use Rattle.semantics.specs.Isomorphic.{Isomorphic}

-- ---- the same work

-- a jump's block by its image
unfoldable pub moved : {Data : Type 0} → Mapping → End Data → End Data
moved m passed = passed
moved m (left ds) = left ds
moved m (jumped b ds) = jumped (image m.blocks b) ds
moved m stuck = stuck
moved m spent = spent

-- registers R on the left and S on the right agree by a mapping: what a defines holds in R what its image holds in S, and what neither
-- fragment defines holds the same in both
pub record Agree {Data : Type 0} (m : Mapping) (in_a in_b : List ℕ) (R S : Registers Data) : Type 0 where
  pub inside : (v : ℕ) → Memᴰ v in_a → R v ≡ S (image m.values v)
  pub outside : (v : ℕ) → (Memᴰ v in_a → ⊥) → (Memᴰ v in_b → ⊥) → R v ≡ S v

-- the same registers on both sides: what a defines holds what its image holds
abbrev pub HoldAlike : {Data : Type 0} → Mapping → Registers Data → List ℕ → Type 0
HoldAlike m R vs = (v : ℕ) → Memᴰ v vs → R v ≡ R (image m.values v)

-- registers that hold nothing
abbrev pub HoldNothing : {Data : Type 0} → Registers Data → List ℕ → Type 0
HoldNothing R vs = (v : ℕ) → Memᴰ v vs → R v ≡ None

-- two runs, from the registers R and S, of what defines these values
pub record RunsAlike {Data World : Type 0} (m : Mapping) (in_a in_b : List ℕ) (R S : Registers Data) (x y : Ran Data World) : Type 0 where
  pub how : moved m x.how ≡ y.how
  pub world : x.world ≡ y.world
  pub steps : x.steps ≡ y.steps
  -- what a defines holds what its image holds
  pub inside : (v : ℕ) → Memᴰ v in_a → x.registers v ≡ y.registers (image m.values v)
  -- no other register has changed
  pub outside_a : (v : ℕ) → (Memᴰ v in_a → ⊥) → x.registers v ≡ R v
  pub outside_b : (v : ℕ) → (Memᴰ v in_b → ⊥) → y.registers v ≡ S v

-- of equal fragments of every sound store, whatever types are renamed, by the mapping that their comparison leaves
abbrev pub OfEqual : (Store → Ignore → Sort → ℕ → ℕ → Mapping → Type 0) → Type 0
OfEqual P =
    (s : Store) → sound s ≡ true → (types : List ℕ) (ig : Ignore) (f : Sort) (a b : ℕ) → In s f a → In s f b → Premise s f a b
    → Equal (renamed types s) ig f a b → P (renamed types s) ig f a b (filed (renamed types s) ig f a b)

-- of isomorphic ones, whichever isomorphism it is
abbrev pub OfIsomorphic : (Store → Ignore → Sort → ℕ → ℕ → Mapping → Type 0) → Type 0
OfIsomorphic P =
    (s : Store) → sound s ≡ true → (ig : Ignore) (f : Sort) (a b : ℕ) → In s f a → In s f b → Premise s f a b
    → (m : Mapping) → Isomorphic s ig m f a b → P s ig f a b m

module _ (Data World Mind : Type 0) where
  -- a and b do the same work, by a mapping: under every meaning, with all data, worlds and steps, from all registers of which those of what
  -- a defines hold what those of their images hold. Without that they may not (`WorkCases`, `late`): an operation may read what a later one
  -- gives
  unfoldable pub WorkAlike : Store → Ignore → Sort → ℕ → ℕ → Mapping → Type 0
  WorkAlike s ig f a b m =
      (M : Meaning Data World Mind) (R : Registers Data) → HoldAlike m R (defines_values s f a) → (ds : List Data) (w : World) (k : ℕ)
      → RunsAlike m (defines_values s f a) (defines_values s f b) R R (run_fragment M s ig f a ds R w k) (run_fragment M s ig f b ds R w k)

  unfoldable pub SameWork : Type 0
  SameWork = OfEqual WorkAlike

  unfoldable pub IsomorphicWork : Type 0
  IsomorphicWork = OfIsomorphic WorkAlike

  -- so they do from registers of which those of what a defines and of what b defines hold nothing
  unfoldable pub WorkFresh : Store → Ignore → Sort → ℕ → ℕ → Mapping → Type 0
  WorkFresh s ig f a b m =
      (M : Meaning Data World Mind) (R : Registers Data)
      → HoldNothing R (defines_values s f a) → HoldNothing R (defines_values s f b)
      → (ds : List Data) (w : World) (k : ℕ)
      → RunsAlike m (defines_values s f a) (defines_values s f b) R R (run_fragment M s ig f a ds R w k) (run_fragment M s ig f b ds R w k)

  unfoldable pub SameWorkFresh : Type 0
  SameWorkFresh = OfEqual WorkFresh

  -- and from registers on the left and others on the right that agree by the mapping. What the runs leave agrees again, so that two
  -- fragments that run time after time in two places do the same work each time
  unfoldable pub WorkAcross : Store → Ignore → Sort → ℕ → ℕ → Mapping → Type 0
  WorkAcross s ig f a b m =
      (M : Meaning Data World Mind) (R S : Registers Data) → Agree m (defines_values s f a) (defines_values s f b) R S
      → (ds : List Data) (w : World) (k : ℕ)
      → let x = run_fragment M s ig f a ds R w k in
      let y = run_fragment M s ig f b ds S w k in
      RunsAlike m (defines_values s f a) (defines_values s f b) R S x y
      × Agree m (defines_values s f a) (defines_values s f b) x.registers y.registers

  unfoldable pub SameWorkAcross : Type 0
  SameWorkAcross = OfEqual WorkAcross

  unfoldable pub IsomorphicWorkAcross : Type 0
  IsomorphicWorkAcross = OfIsomorphic WorkAcross

-- ---- equal and isomorphic

-- a name of something inside stands where the walk has numbered it already
unfoldable pub step_numbered : Store → Sort → ℕ → Step → Numbering → Bool
step_numbered s f n (shell w) N = true
step_numbered s f n (names o) N =
    numbered_names (defines_values s f n) N.values (op_at s o).operands
    && numbered_names (defines_blocks s f n) N.blocks (op_at s o).successors
step_numbered s f n (counted k) N = true

unfoldable pub all_numbered : Store → Sort → ℕ → List Step → Numbering → Bool
all_numbered s f n [] N = true
all_numbered s f n (x ∷ xs) N = step_numbered s f n x N && all_numbered s f n xs (numbered s x N)

-- no name of something inside comes before the walk has numbered it
unfoldable pub none_early : Store → Sort → ℕ → Bool
none_early s f n = all_numbered s f n (steps s f n) no_numbers

-- the mapping that an equal comparison leaves is an isomorphism; of the same fragment too
unfoldable pub EqualIsomorphic : Type 0
EqualIsomorphic =
    (s : Store) → sound s ≡ true → (ig : Ignore) (f : Sort) (a b : ℕ) → In s f a → In s f b → Premise s f a b
    → Equal s ig f a b → Isomorphic s ig (filed s ig f a b) f a b

-- different fragments are equal exactly when some mapping is an isomorphism and no name is early
unfoldable pub EqualExactly : Type 0
EqualExactly =
    (s : Store) → sound s ≡ true → (ig : Ignore) (f : Sort) (a b : ℕ) → In s f a → In s f b → a ≢ b → Premise s f a b
    → Equal s ig f a b ↔ (((m : Mapping) × Isomorphic s ig m f a b) × (none_early s f a ≡ true))
