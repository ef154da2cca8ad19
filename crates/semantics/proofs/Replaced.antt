-- The code of a twin, renamed by the mapping the other way, is the code that it replaces; so a form with it runs as it did. Assumes
-- nothing.
use Prim.Native.Nat.{ℕ}
use mathlib.Core.Bool.{true, cond}
use mathlib.Core.List.{List, [], ◌∷◌, map, map-map, map-id, Memᴰ}
use mathlib.Core.Logic.{◌⊎◌, inl, inr}
use mathlib.Core.Path.{◌≡◌, refl, sym, ap, ◌∙◌}
use Rattle.rules.specs.Store.{Store, sound}
use Rattle.rules.specs.Fragments.{fragment_ops, defines_blocks, Premise}
use Rattle.rules.specs.declared.types.Sort.TheVariants.{Op as op}
use Rattle.rules.specs.declared.types.Ignore.{Ignore}
use Rattle.rules.specs.Mapping.{image}
use Rattle.rules.specs.Laws.{In, Equal, LawsOfSound}
use Rattle.rules.specs.MappingLaws.{Table, values, blocks, ops, table_of, defines_of, Backwards, MappingLaws, MappingLawsOfSound}
use Rattle.rules.specs.Copying.{has_place}
use Rattle.rules.proofs.Laws.{laws_of_sound}
use Rattle.rules.proofs.MappingLaws.{mapping_laws_of_sound}
use Rattle.rules.proofs.Walking.Inside.{place_there, place_nowhere}
use Rattle.rules.proofs.Copying.Renumbered.{map_same}
use Rattle.semantics.specs.Machine.{Code, code_of, run_code, run_fragment}
use Rattle.semantics.specs.Isomorphic.{images, Isomorphic}
use Rattle.semantics.specs.SameWork.{EqualIsomorphic}
use Rattle.semantics.specs.Replaced.{there, back, replaced, Replacement, all_replaced, AllMayReplace, ReplacedWork}
use Rattle.semantics.proofs.Images.{stands, image_out, entry_in}
use Rattle.semantics.proofs.Going.{image_of}
use Rattle.semantics.proofs.IsomorphicWork.{GroundOf, ground}
use Rattle.semantics.proofs.Found.{equal_isomorphic}

-- where both are the same for what stands in the list, it is the second
chosen : {A : Type 0} (ns : List ℕ) (l : ℕ) (x y : A) → (Memᴰ l ns → x ≡ y) → cond (has_place ns l) x y ≡ y
chosen ns l x y h = elim (stands l ns) [ inl i ↦ rw (place_there ns i) (h i) | inr out ↦ rw (place_nowhere ns l out) refl ]

module _ (s : Store) (sd : sound s ≡ true) (ig : Ignore) (n m : ℕ) (i : In s op n) (j : In s op m) (p : Premise s op n m) (e : Equal s ig op n m) where
  abbrev T : Table → List ℕ
  T t = table_of (there s ig n m) t

  abbrev K : Table → List ℕ
  K t = table_of (back s ig n m) t

  iso : Isomorphic s ig (there s ig n m) op n m
  unfolding EqualIsomorphic
  iso = equal_isomorphic s sd ig op n m i j p e

  g : GroundOf s sd ig (there s ig n m) op n m
  g = ground s sd ig (there s ig n m) op n m p iso

  other_way : Equal s ig op m n
  unfolding LawsOfSound
  other_way = (laws_of_sound s sd ig op).symmetric n m i j p e

  laws : MappingLaws s ig op
  unfolding MappingLawsOfSound
  laws = (mapping_laws_of_sound s sd ig op).0

  -- what is in n, or in neither, comes back to itself
  comes_back : (t : Table) (v : ℕ) → Memᴰ v (defines_of s op n t) ⊎ (Memᴰ v (defines_of s op m t) → ⊥) → image (K t) (image (T t) v) ≡ v
  unfolding Backwards
  comes_back t v h = go (stands v (defines_of s op n t)) h
    where
      inside : Memᴰ v (defines_of s op n t) → image (K t) (image (T t) v) ≡ v
      inside k =
          let f = entry_in (T t) (defines_of s op n t) (defines_of s op m t) (iso.one_to_one t) v k in
          let b = (laws.backwards n m i j p e t v (image (T t) v)).0 f in
          image_of (K t) (image (T t) v) v b.0 b.1

      go : Memᴰ v (defines_of s op n t) ⊎ (Memᴰ v (defines_of s op n t) → ⊥) → Memᴰ v (defines_of s op n t) ⊎ (Memᴰ v (defines_of s op m t) → ⊥)
          → image (K t) (image (T t) v) ≡ v
      go (inl k) q = inside k
      go (inr k) (inl l) = absurd (k l)
      go (inr k) (inr l) =
          ap (image (K t)) (image_out (T t) (defines_of s op n t) (defines_of s op m t) (iso.one_to_one t) v k)
          ∙ image_out (K t) (defines_of s op m t) (defines_of s op n t) (laws.bijective m n j i other_way t) v l

  all_back : (t : Table) (vs ws : List ℕ) → images (T t) vs ≡ ws → ((v : ℕ) → Memᴰ v vs → Memᴰ v (defines_of s op n t) ⊎ (Memᴰ v (defines_of s op m t) → ⊥))
      → images (K t) ws ≡ vs
  all_back t vs ws q h =
      ap (images (K t)) (sym q)
      ∙ map-map (image (K t)) (image (T t)) vs
      ∙ map_same (λ (v : ℕ). image (K t) (image (T t) v)) (λ (v : ℕ). v) vs (λ v k. comes_back t v (h v k))
      ∙ map-id vs

  lists_back : (xs ys : List (List ℕ)) → map (images (T blocks)) xs ≡ ys → ((bs : List ℕ) (c : ℕ) → Memᴰ bs xs → Memᴰ c bs → Memᴰ c (defines_of s op n blocks))
      → map (images (K blocks)) ys ≡ xs
  lists_back xs ys q h =
      ap (map (images (K blocks))) (sym q)
      ∙ map-map (images (K blocks)) (images (T blocks)) xs
      ∙ map_same (λ (bs : List ℕ). images (K blocks) (images (T blocks) bs)) (λ (bs : List ℕ). bs) xs
      (λ bs k. all_back blocks bs (images (T blocks) bs) refl (λ c l. inl (h bs c k l)))
      ∙ map-id xs

  abbrev C : Code
  C = code_of s ig

  abbrev O : List ℕ
  O = fragment_ops s op n

  abbrev B : List ℕ
  B = defines_blocks s op n

  pub replaced_same : replaced s ig n m C ≡ C
  unfolding replaced table_of defines_of
  replaced_same = λ z.
      record {
        op_fields = λ l. chosen O l _ _ (λ k. sym (g.op_fields l k)) z;
        operands = λ l. chosen O l _ _ (λ k. all_back values _ _ (g.operands l k) (λ v q. g.operands_apart l v k q)) z;
        results = λ l. chosen O l _ _ (λ k. all_back values _ _ (g.results l k) (λ v q. inl (g.results_below l v k q))) z;
        successors = λ l. chosen O l _ _ (λ k. all_back blocks _ _ (g.successors l k) (λ c q. g.successors_apart l c k q)) z;
        regions = λ l. chosen O l _ _ (λ k. lists_back _ _ (g.regions l k) (λ bs c q r. g.blocks_below l bs c k q r)) z;
        block_fields = λ b. chosen B b _ _ (λ k. sym (g.block_fields b k)) z;
        arguments = λ b. chosen B b _ _ (λ k. all_back values _ _ (g.arguments b k) (λ v q. inl (g.arguments_below b v k q))) z;
        ops = λ b. chosen B b _ _ (λ k. all_back ops _ _ (g.ops b k) (λ l q. inl (g.ops_below b l k q))) z;
      }

all_replaced_same : (s : Store) → sound s ≡ true → (ig : Ignore) (rs : List Replacement) → AllMayReplace s ig rs → all_replaced s ig rs ≡ code_of s ig
unfolding all_replaced
all_replaced_same s sd ig [] h = refl
all_replaced_same s sd ig (r ∷ rs) h =
    ap (replaced s ig r.place r.code) (all_replaced_same s sd ig rs h.1)
    ∙ replaced_same s sd ig r.place r.code h.0.place_there h.0.code_there h.0.premise h.0.equal

pub replaced_work : (Data World Mind : Type 0) → ReplacedWork Data World Mind
unfolding ReplacedWork run_fragment
replaced_work Data World Mind s sd ig rs h M f a ds R w k = ap (λ (C : Code). run_code M s C f a ds R w k) (all_replaced_same s sd ig rs h)
