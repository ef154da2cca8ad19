-- Isomorphic fragments do the same work: their code is isomorphic, and what is named in them is inside, or in neither. Assumes nothing.
use Prim.Native.Nat.{ℕ}
use mathlib.Core.Bool.{true}
use mathlib.Core.List.Memᴰ
use mathlib.Core.List.{List, [], ◌∷◌, map-map, Memᴰ}
use mathlib.Core.Logic.{◌⊎◌, inl, inr}
use mathlib.Core.Path.{◌≡◌, refl, sym, subst, ◌∙◌}
use Rattle.rules.specs.Store.{Store, blocks_of, regions_of, sound}
use Rattle.rules.specs.Fragments.{fragment_ops, defines_blocks, defines_values, names_values, names_blocks, Disjoint, NamesNothingOf, Premise}
use Rattle.rules.specs.declared.types.Sort.{Sort}
use Rattle.rules.specs.declared.types.Sort.TheVariants.{Op as op, Block as block, Region as region}
use Rattle.rules.specs.declared.types.Ignore.{Ignore}
use Rattle.rules.specs.Mapping.{Mapping, image}
use Rattle.rules.specs.MappingLaws.{values, blocks, table_of, defines_of}
use Rattle.semantics.specs.Meaning.{Meaning}
use Rattle.semantics.specs.Machine.{code_of, Registers, Now, Ran, begins, enters, first, run_code, run_fragment}
use Rattle.semantics.specs.Isomorphic.{images, RootsAlike, Isomorphic}
use Rattle.semantics.specs.SameWork.{Agree, RunsAlike, WorkAlike, WorkFresh, WorkAcross, IsomorphicWork, IsomorphicWorkAcross}
use Rattle.semantics.proofs.Images.{stands, image_in}
use Rattle.semantics.proofs.Below.{operands_named, successors_named, op_below, block_below, result_below, argument_below, op_root, block_root, region_root}
use Rattle.semantics.proofs.Simulation.{Ground, Stand, begin_alike, enters_alike, held_first, simulated}

module _ (s : Store) (sd : sound s ≡ true) (ig : Ignore) (m : Mapping) where
  abbrev pub GroundOf : Sort → ℕ → ℕ → Type 0
  GroundOf f a b = Ground (code_of s ig) (code_of s ig) m (defines_values s f a) (defines_values s f b) (defines_blocks s f a) (defines_blocks s f b) (fragment_ops s f a)

  module _ (f : Sort) (a b : ℕ) where
    abbrev VA : List ℕ
    VA = defines_values s f a

    abbrev VB : List ℕ
    VB = defines_values s f b

    abbrev BA : List ℕ
    BA = defines_blocks s f a

    abbrev BB : List ℕ
    BB = defines_blocks s f b

    value_apart : (v : ℕ) → (Disjoint (names_values s f a) VB → Memᴰ v VB → ⊥) → Premise s f a b → Memᴰ v VA ⊎ (Memᴰ v VB → ⊥)
    unfolding Premise NamesNothingOf
    value_apart v named (inl e) = elim (stands v VA) [ inl i ↦ inl i | inr out ↦ inr (subst (λ (n : ℕ). Memᴰ v (defines_values s f n) → ⊥) e out) ]
    value_apart v named (inr q) = inr (named q.1.0)

    block_apart : (c : ℕ) → (Disjoint (names_blocks s f a) BB → Memᴰ c BB → ⊥) → Premise s f a b → Memᴰ c BA ⊎ (Memᴰ c BB → ⊥)
    unfolding Premise NamesNothingOf
    block_apart c named (inl e) = elim (stands c BA) [ inl i ↦ inl i | inr out ↦ inr (subst (λ (n : ℕ). Memᴰ c (defines_blocks s f n) → ⊥) e out) ]
    block_apart c named (inr q) = inr (named q.1.1)

    pub ground : Premise s f a b → Isomorphic s ig m f a b → GroundOf f a b
    unfolding table_of defines_of
    ground p iso =
        record {
          of_values = iso.one_to_one values;
          of_blocks = iso.one_to_one blocks;
          op_fields = λ n i. (iso.ops n i).fields;
          operands = λ n i. (iso.ops n i).operands;
          results = λ n i. (iso.ops n i).results;
          successors = λ n i. (iso.ops n i).successors;
          regions = λ n i. map-map (images m.blocks) (blocks_of s) (regions_of s n) ∙ (iso.ops n i).regions;
          block_fields = λ c i. (iso.blocks c i).fields;
          arguments = λ c i. (iso.blocks c i).arguments;
          ops = λ c i. (iso.blocks c i).ops;
          operands_apart = λ n v k j. value_apart v (λ q. q v (operands_named s sd f a n v k j)) p;
          successors_apart = λ n c k j. block_apart c (λ q. q c (successors_named s sd f a n c k j)) p;
          ops_below = op_below s sd f a;
          blocks_below = λ n bs c i j k.
              let r = Memᴰ.of_map (blocks_of s) (regions_of s n) j in block_below s sd f a n r.0 c i r.1 (subst (Memᴰ c) (sym r.2) k);
          results_below = result_below s sd f a;
          arguments_below = argument_below s sd f a;
        }

  module _ {Data World Mind : Type 0} (M : Meaning Data World Mind) (R S : Registers Data) where
    abbrev StandOf : (f : Sort) (a b : ℕ) → GroundOf f a b → Agree m (defines_values s f a) (defines_values s f b) R S → Now Data Mind → Now Data Mind → Type 0
    StandOf f a b g h = Stand (code_of s ig) (code_of s ig) m (defines_values s f a) (defines_values s f b) (defines_blocks s f a) (defines_blocks s f b) (fragment_ops s f a) g M R S h

    first_alike : (f : Sort) (a b : ℕ) → RootsAlike s ig m f a b → (g : GroundOf f a b) (h : Agree m (defines_values s f a) (defines_values s f b) R S) (ds : List Data)
        → StandOf f a b g h (first M s (code_of s ig) f b ds S) (first M s (code_of s ig) f a ds R)
    unfolding RootsAlike first
    first_alike op a b e g h ds =
        subst (λ (n : ℕ). StandOf op a b g h (begins M (code_of s ig) n [] S) (begins M (code_of s ig) a [] R)) e
        (begin_alike _ _ _ _ _ _ _ _ g M R S h a [] R S (op_root s sd a) tt (held_first _ _ _ _ _ _ _ _ g M R S h))
    first_alike block a b e g h ds =
        subst (λ (c : ℕ). StandOf block a b g h (enters M (code_of s ig) (c ∷ []) ds [] S) (enters M (code_of s ig) (a ∷ []) ds [] R)) e
        (enters_alike _ _ _ _ _ _ _ _ g M R S h (a ∷ []) ds [] R S (λ c i. one_block c i) tt (held_first _ _ _ _ _ _ _ _ g M R S h))
      where
        one_block : (c : ℕ) → Memᴰ c (a ∷ []) → Memᴰ c (defines_blocks s block a)
        one_block c i = elim (Memᴰ.cases_cons i) [ inl q ↦ Memᴰ.cast q (block_root s sd a) | inr q ↦ absurd (Memᴰ.not-nil q) ]
    first_alike region a b e g h ds =
        subst (λ (cs : List ℕ). StandOf region a b g h (enters M (code_of s ig) cs ds [] S) (enters M (code_of s ig) (blocks_of s a) ds [] R)) e
        (enters_alike _ _ _ _ _ _ _ _ g M R S h (blocks_of s a) ds [] R S (region_root s sd a) tt (held_first _ _ _ _ _ _ _ _ g M R S h))

-- what two runs leave agrees again
left_agreeing : {Data World : Type 0} (m : Mapping) (in_a in_b : List ℕ) (R S : Registers Data) (x y : Ran Data World) → Agree m in_a in_b R S
    → RunsAlike m in_a in_b R S x y → Agree m in_a in_b x.registers y.registers
left_agreeing m in_a in_b R S x y h r =
    record {
      inside = r.inside;
      outside = λ v i j. r.outside_a v i ∙ h.outside v i j ∙ sym (r.outside_b v j);
    }

pub isomorphic_work_across : (Data World Mind : Type 0) → IsomorphicWorkAcross Data World Mind
unfolding IsomorphicWorkAcross WorkAcross run_fragment run_code
isomorphic_work_across Data World Mind s sd ig f a b ia ib p m iso M R S h ds w k =
    let g = ground s sd ig m f a b p iso in
    let r = simulated _ _ _ _ _ _ _ _ g M R S h k _ _ w (first_alike s sd ig m M R S f a b iso.roots g h ds) in
    (r, left_agreeing m (defines_values s f a) (defines_values s f b) R S _ _ h r)

pub across→alike : (Data World Mind : Type 0) (s : Store) (ig : Ignore) (f : Sort) (a b : ℕ) (m : Mapping)
    → WorkAcross Data World Mind s ig f a b m → WorkAlike Data World Mind s ig f a b m
unfolding WorkAcross WorkAlike
across→alike Data World Mind s ig f a b m h M R k ds w n = (h M R R (record { inside = k; outside = λ v i j. refl }) ds w n).0

pub isomorphic_work : (Data World Mind : Type 0) → IsomorphicWork Data World Mind
unfolding IsomorphicWork IsomorphicWorkAcross
isomorphic_work Data World Mind s sd ig f a b ia ib p m iso =
    across→alike Data World Mind s ig f a b m (isomorphic_work_across Data World Mind s sd ig f a b ia ib p m iso)

-- registers that hold nothing hold alike
pub alike→fresh : (Data World Mind : Type 0) (s : Store) (ig : Ignore) (f : Sort) (a b : ℕ) (m : Mapping) → Isomorphic s ig m f a b
    → WorkAlike Data World Mind s ig f a b m → WorkFresh Data World Mind s ig f a b m
unfolding WorkAlike WorkFresh table_of defines_of
alike→fresh Data World Mind s ig f a b m iso h M R na nb =
    h M R (λ v i. na v i ∙ sym (nb (image m.values v) (image_in m.values (defines_values s f a) (defines_values s f b) (iso.one_to_one values) v i)))
