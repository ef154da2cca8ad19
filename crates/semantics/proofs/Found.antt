-- The mapping that an equal comparison leaves is an isomorphism: whatever the walk comes to on the left is alike to its image. Assumes
-- nothing.
use Prim.Native.Nat.{ℕ, zero, suc, ◌≤◌}
use native.Mathlib.Omega.{arith}
use mathlib.Core.Bool.{true}
use mathlib.Core.List.Memᴰ
use mathlib.Core.List.{List, [], ◌∷◌, ◌++◌, map, map-id, append-nil, Memᴰ, head-eq_of_cons-eq, tail-eq_of_cons-eq}
use mathlib.Core.Logic.{⊎_elim, ◌≢◌}
use Rattle.std.specs.Prelude.{Some}
use mathlib.Core.Path.{◌≡◌, refl, sym, ap, ap₂, subst, ◌∙◌}
use lib.Dec.{lit≤}
use lib.ListN.{length, get_or}
use Rattle.std.specs.List.{flat_map}
use Rattle.rules.specs.Store.{Store, op_at, ops_of, blocks_of, regions_of, results_of, arguments_of, sound, max_values, max_blocks, max_ops}
use Rattle.rules.specs.declared.types.Owner.{Owner}
use Rattle.rules.specs.declared.types.Owner.TheVariants.{Op as of_op, Block as of_block}
use Rattle.rules.specs.Fragments.{Step, shell, names, counted, levels, full_op, shells, list_steps, region_steps, steps, step_defines, op_owner, block_owner, fragment_ops, defines_owners, defines_blocks, defines_values, NamesNothingOf, Premise}
use Rattle.rules.specs.declared.types.Sort.{Sort}
use Rattle.rules.specs.declared.types.Sort.TheVariants.{Op as op, Block as block, Region as region}
use Rattle.rules.specs.declared.types.Ignore.{Ignore}
use Rattle.rules.specs.Mapping.{Mapping, no_image, empty_mapping, image, enter_all}
use Rattle.rules.specs.Comparison.{start, compare}
use Rattle.rules.specs.Hash.{no_numbers}
use Rattle.rules.specs.Laws.{equal, Equal, In}
use Rattle.rules.specs.MappingLaws.{filed, Table, values, blocks, ops, table_of, defines_of, Bijection, SideBySide, MappingLawsOfSound}
use Rattle.rules.specs.Form.{step, events}
use Rattle.rules.proofs.Basics.Distinct.{mem_concat_map, concat_map_concat_map}
use Rattle.rules.proofs.Basics.Entries.{none_at}
use Rattle.rules.proofs.Soundness.Sound.{facts}
use Rattle.rules.proofs.Form.Images.{Once}
use Rattle.rules.proofs.Form.Once.{values_once_lem, values_here, blocks_once_lem, blocks_here, ops_once, ops_here}
use Rattle.rules.proofs.Form.LockStep.{going}
use Rattle.rules.proofs.Form.Events.{lock}
use Rattle.rules.proofs.Form.Tested.{Pairs}
use Rattle.rules.proofs.Form.Tokens.{event_values, event_blocks}
use Rattle.rules.proofs.Form.Canonical.{empty_table, within, in_fragment, all_defined, events_rest, events_name_values, events_name_blocks, goes, pass}
use Rattle.rules.proofs.Form.Owned.{op_owned, block_owned}
use Rattle.rules.proofs.Form.SideBySide.{side_by_side}
use Rattle.rules.proofs.Copying.Shelled.{owner_shell}
use Rattle.rules.proofs.Copying.Renumbered.{map_same}
use Rattle.rules.proofs.MappingLaws.{mapping_laws_of_sound}
use Rattle.semantics.specs.Meaning.{operand_types_of, own_fields}
use Rattle.semantics.specs.Isomorphic.{images, OpsAlike, BlocksAlike, RootsAlike, Isomorphic}
use Rattle.semantics.specs.SameWork.{EqualIsomorphic}
use Rattle.semantics.proofs.Images.{stands, image_out}
use Rattle.semantics.proofs.Going.{Going, begun}
use Rattle.semantics.proofs.Pairwise.{event_ops, Shelled, Beside, Course, met}
use Rattle.semantics.proofs.Parted.{pairs_both, pair_at, Regions, Full, Lists, op_full, lists, region_lists}

-- ---- where the shells of a list of blocks stand

of_shells : (w : ℕ → Owner) (xs : List ℕ) (v : Owner) → Memᴰ (shell v) (shells w xs) → (n : ℕ) × Memᴰ n xs × (w n ≡ v)
unfolding shells
of_shells w xs v k =
    ⊎_elim (λ e. let z : ⊥ = cc in absurd z)
    (λ i. let j = Memᴰ.of_map (λ (n : ℕ). shell (w n)) xs i in let e : shell (w j.0) ≡ shell v = j.2 in (j.0, j.1, cc))
    (Memᴰ.cases_cons k)

module _ (s : Store) (ig : Ignore) (m : Mapping) where
  -- ---- pairs as images

  blocks_images : (bs cs : List ℕ) → Pairs (λ (b c : ℕ). Shelled s ig m (of_block b) (of_block c)) bs cs → images m.blocks bs ≡ cs
  unfolding block_owner
  blocks_images [] [] p = refl
  blocks_images [] (c ∷ cs) p = absurd p
  blocks_images (b ∷ bs) [] p = absurd p
  blocks_images (b ∷ bs) (c ∷ cs) p = ap₂ ◌∷◌ (head-eq_of_cons-eq p.0.blocks) (blocks_images bs cs p.1)

  pub ops_images : (xs ys : List ℕ) → Pairs (λ (l r : ℕ). Shelled s ig m (of_op l) (of_op r)) xs ys → images m.ops xs ≡ ys
  unfolding op_owner
  ops_images [] [] p = refl
  ops_images [] (y ∷ ys) p = absurd p
  ops_images (x ∷ xs) [] p = absurd p
  ops_images (x ∷ xs) (y ∷ ys) p = ap₂ ◌∷◌ (head-eq_of_cons-eq p.0.ops) (ops_images xs ys p.1)

  -- what is said of an owner that the walk comes to
  abbrev pub Good : Owner → Type 0
  Good (of_op n) = OpsAlike s ig m n (image m.ops n)
  Good (of_block c) = BlocksAlike s ig m c (image m.blocks c)

  abbrev pub Found : List Step → Type 0
  Found xs = (w : Owner) → Memᴰ (shell w) xs → Good w

  module _ (sd : sound s ≡ true) where
    regions_images : (xs ys : List ℕ) → Pairs (Regions s ig m) xs ys → map (λ (x : ℕ). images m.blocks (blocks_of s x)) xs ≡ map (blocks_of s) ys
    regions_images [] [] p = refl
    regions_images [] (y ∷ ys) p = absurd p
    regions_images (x ∷ xs) [] p = absurd p
    regions_images (x ∷ xs) (y ∷ ys) p =
        ap₂ ◌∷◌ (blocks_images (blocks_of s x) (blocks_of s y) (region_lists s ig m sd x y p.0).blocks) (regions_images xs ys p.1)

    good_op : (l r : ℕ) → Shelled s ig m (of_op l) (of_op r) → Full s ig m l r → Good (of_op l)
    unfolding own_fields operand_types_of results_of op_owner
    good_op l r h k =
        let e : image m.ops l ≡ r = head-eq_of_cons-eq h.ops in
        subst (λ (x : ℕ). OpsAlike s ig m l x) (sym e)
        (record {
          fields = λ i. record { counts = h.counts i; shell = h.shells i; operand_types = k.named.types i };
          results = h.values;
          operands = k.named.operands;
          successors = k.named.successors;
          regions = regions_images (regions_of s l) (regions_of s r) k.regions;
        })

    good_block : (b c : ℕ) → Shelled s ig m (of_block b) (of_block c) → Pairs (λ (l r : ℕ). Shelled s ig m (of_op l) (of_op r)) (ops_of s b) (ops_of s c)
        → Good (of_block b)
    unfolding own_fields operand_types_of arguments_of block_owner
    good_block b c h k =
        let e : image m.blocks b ≡ c = head-eq_of_cons-eq h.blocks in
        subst (λ (x : ℕ). BlocksAlike s ig m b x) (sym e)
        (record {
          fields = λ i. record { counts = h.counts i; shell = h.shells i; operand_types = [] };
          arguments = h.values;
          ops = ops_images (ops_of s b) (ops_of s c) k;
        })

    -- ---- whatever the walk comes to

    full_found : (k : ℕ) → ((l r : ℕ) → Regions s ig m l r → Found (region_steps k s l)) → (l r : ℕ) → Full s ig m l r → Found (full_op s (region_steps k s) l)
    unfolding full_op
    full_found k inner l r h w i =
        ⊎_elim (λ e. let z : ⊥ = cc in absurd z)
        (λ j. let v = mem_concat_map (region_steps k s) (regions_of s l) j in
        let p = pair_at (Regions s ig m) (regions_of s l) (regions_of s r) h.regions v.1 in inner v.0 p.0 p.1 w v.2)
        (Memᴰ.cases_cons i)

    lists_found : (k : ℕ) → ((l r : ℕ) → Regions s ig m l r → Found (region_steps k s l)) → (bs cs : List ℕ) → Lists s ig m bs cs
        → Found (list_steps s (full_op s (region_steps k s)) bs)
    unfolding list_steps
    lists_found k inner bs cs h w i =
        ⊎_elim
        (λ j. ⊎_elim
        (λ x. let v = of_shells of_block bs w x in
        let p = pair_at _ bs cs (pairs_both _ _ bs cs h.blocks h.ops) v.1 in
        subst Good v.2 (good_block v.0 p.0 p.1.0 p.1.1))
        (λ x. let v = mem_concat_map (λ (b : ℕ). shells of_op (ops_of s b)) bs x in
        let u = of_shells of_op (ops_of s v.0) w v.2 in
        let p = pair_at _ bs cs (pairs_both _ _ bs cs h.ops h.full) v.1 in
        let q = pair_at _ (ops_of s v.0) (ops_of s p.0) (pairs_both _ _ (ops_of s v.0) (ops_of s p.0) p.1.0 p.1.1) u.1 in
        subst Good u.2 (good_op u.0 q.0 q.1.0 q.1.1))
        (Memᴰ.append_cases (shells of_block bs) j))
        (λ j. let v = mem_concat_map (λ (b : ℕ). flat_map (full_op s (region_steps k s)) (ops_of s b)) bs j in
        let u = mem_concat_map (full_op s (region_steps k s)) (ops_of s v.0) v.2 in
        let p = pair_at _ bs cs h.full v.1 in
        let q = pair_at _ (ops_of s v.0) (ops_of s p.0) p.1 u.1 in
        full_found k inner u.0 q.0 q.1 w u.2)
        (Memᴰ.append_cases (shells of_block bs ++ flat_map (λ (b : ℕ). shells of_op (ops_of s b)) bs) i)

    region_found : (k l r : ℕ) → Regions s ig m l r → Found (region_steps k s l)
    unfolding region_steps
    region_found zero l r h w i = absurd (Memᴰ.not-nil i)
    region_found (suc k) l r h w i = lists_found k (region_found k) (blocks_of s l) (blocks_of s r) (region_lists s ig m sd l r h) w i

    pub fragment_found : (f : Sort) (a b : ℕ) → Beside s ig m (events s f a) (events s f b) → RootsAlike s ig m f a b × Found (steps s f a)
    unfolding events steps RootsAlike op_owner block_owner
    fragment_found op a b h =
        let k = op_full s ig m a b h.1 in (
          head-eq_of_cons-eq h.0.ops,
          λ w i. ⊎_elim (λ e. let q : of_op a ≡ w = cc in subst Good q (good_op a b h.0 k)) (full_found levels (region_found levels) a b k w) (Memᴰ.cases_cons i),
        )
    fragment_found block a b h =
        let k = lists s ig m (a ∷ []) (b ∷ []) h in (head-eq_of_cons-eq k.blocks.0.blocks, lists_found levels (region_found levels) (a ∷ []) (b ∷ []) k)
    fragment_found region a b h =
        (blocks_images (blocks_of s a) (blocks_of s b) (region_lists s ig m sd a b h).blocks, region_found levels a b h)

-- ---- the comparison's beginning

abbrev pub E : Table → List ℕ
E t = table_of empty_mapping t

pub none_in : (t : Table) (v : ℕ) → get_or (E t) v no_image ≡ no_image
unfolding table_of empty_mapping
none_in values = none_at max_values
none_in blocks = none_at max_blocks
none_in ops = none_at max_ops

pub small : (t : Table) → length (E t) ≤ no_image
unfolding table_of empty_mapping
small values = (empty_table max_values (lit≤ tt)).small
small blocks = (empty_table max_blocks (lit≤ tt)).small
small ops = (empty_table max_ops (lit≤ tt)).small

module _ (s : Store) (sd : sound s ≡ true) (f : Sort) where
  pub listed : (t : Table) (n : ℕ) → In s f n → Once (length (E t)) (defines_of s f n t)
  unfolding table_of empty_mapping defines_of
  listed values n h = let so = facts s sd in within max_values (length s.values) (defines_values s f n) so.totals.values (values_once_lem s so f n h) (values_here s so f n)
  listed blocks n h = let so = facts s sd in within max_blocks (length s.blocks) (defines_blocks s f n) so.totals.blocks (blocks_once_lem s so f n h) (blocks_here s so f n h)
  listed ops n h = let so = facts s sd in within max_ops (length s.ops) (fragment_ops s f n) so.totals.ops (ops_once s so f n h) (ops_here s so f n h)

  some_number : (t : Table) (n : ℕ) → In s f n → (y : ℕ) → Memᴰ y (defines_of s f n t) → y ≢ no_image
  some_number t n h y k = let a = (listed t n h).inside y k in let b = small t in λ e. omega arith

  module _ (ig : Ignore) (a b : ℕ) (ia : In s f a) (ib : In s f b) (e : Equal s ig f a b) where
    abbrev pub M : Mapping
    M = filed s ig f a b

    filed_made : (t : Table) → (table_of M t ≡ enter_all (defines_of s f a t) (defines_of s f b t) (E t)) × (length (defines_of s f a t) ≡ length (defines_of s f b t))
    unfolding SideBySide
    filed_made = side_by_side s sd ig f a b ia ib e

    at_start : (t : Table) → Going (table_of M t) (E t) (defines_of s f a t) (defines_of s f b t)
    at_start t =
        let w = filed_made t in
        rw w.0
        (begun (E t) (defines_of s f a t) (defines_of s f b t) (none_in t) (listed t a ia).once w.1 (listed t a ia).inside (some_number t b ib))

pub ops_in_events : (s : Store) (f : Sort) (n : ℕ) → flat_map event_ops (events s f n) ≡ fragment_ops s f n
unfolding fragment_ops defines_owners event_ops step_defines
ops_in_events s f n =
    in_fragment event_ops (λ (x : Step). flat_map op_owner (step_defines x)) at_step refl refl s f n
    ∙ sym (concat_map_concat_map op_owner step_defines (steps s f n))
  where
    at_step : (x : Step) → event_ops (step x) ≡ flat_map op_owner (step_defines x)
    at_step (shell w) = sym (append-nil (op_owner w))
    at_step (names m) = refl
    at_step (counted k) = refl

pub values_in_events : (s : Store) (f : Sort) (n : ℕ) → flat_map (event_values s) (events s f n) ≡ defines_values s f n
unfolding all_defined no_numbers
values_in_events s f n = (events_rest s f n).values

pub blocks_in_events : (s : Store) (f : Sort) (n : ℕ) → flat_map (event_blocks s) (events s f n) ≡ defines_blocks s f n
unfolding all_defined no_numbers
blocks_in_events s f n = (events_rest s f n).blocks

module _ (s : Store) (sd : sound s ≡ true) (ig : Ignore) (f : Sort) (a b : ℕ) (ia : In s f a) (ib : In s f b) (e : Equal s ig f a b) where
  pub begins_course : NamesNothingOf s f b a → Course s ig (M s sd f ig a b ia ib e) (start empty_mapping) (events s f a) (events s f b)
  unfolding NamesNothingOf start table_of defines_of
  begins_course out =
      let at = at_start s sd f ig a b ia ib e in
      record {
        values = rw (values_in_events s f a, values_in_events s f b) (at values);
        blocks = rw (blocks_in_events s f a, blocks_in_events s f b) (at blocks);
        ops = rw (ops_in_events s f a, ops_in_events s f b) (at ops);
        operands_out = λ v i j. out.0 v (subst (Memᴰ v) (events_name_values s f b) i) (subst (Memᴰ v) (values_in_events s f a) j);
        successors_out = λ c i j. out.1 c (subst (Memᴰ c) (events_name_blocks s f b) i) (subst (Memᴰ c) (blocks_in_events s f a) j);
      }

  one_to_one : (t : Table) → Bijection (table_of (filed s ig f a b) t) (defines_of s f a t) (defines_of s f b t)
  unfolding MappingLawsOfSound
  one_to_one = (mapping_laws_of_sound s sd ig f).0.bijective a b ia ib e

  different : NamesNothingOf s f b a → Isomorphic s ig (filed s ig f a b) f a b
  unfolding equal
  different out =
      let w = goes (compare s ig f a b empty_mapping) e in
      let q : lock s ig (events s f a) (events s f b) (start empty_mapping) ≡ Some w.0 = sym (pass s ig f empty_mapping a b) ∙ ap going w.1 in
      let found = fragment_found s ig (filed s ig f a b) sd f a b (met s ig (filed s ig f a b) (events s f a) (events s f b) (start empty_mapping) w.0 q (begins_course out)) in
      record {
        one_to_one = one_to_one;
        roots = found.0;
        ops = λ n i. found.1 (of_op n) (owner_shell s f a (of_op n) (op_owned s f a i));
        blocks = λ c i. found.1 (of_block c) (owner_shell s f a (of_block c) (block_owned s f a i));
      }

-- ---- a fragment with itself: each number is its own image

map_fixed : (f : ℕ → ℕ) (xs : List ℕ) → map f xs ≡ xs → {x : ℕ} → Memᴰ x xs → f x ≡ x
map_fixed f [] h m = absurd (Memᴰ.not-nil m)
map_fixed f (y ∷ ys) h {x} m =
    ⊎_elim (λ e. subst (λ (z : ℕ). f z ≡ z) (sym e) (head-eq_of_cons-eq h)) (λ k. map_fixed f ys (tail-eq_of_cons-eq h) k) (Memᴰ.cases_cons m)

module _ (s : Store) (sd : sound s ≡ true) (ig : Ignore) (f : Sort) (a : ℕ) (ia : In s f a) (e : Equal s ig f a a) where
  abbrev Z : Mapping
  Z = filed s ig f a a

  itself : (t : Table) (v : ℕ) → image (table_of Z t) v ≡ v
  itself t v =
      ⊎_elim
      (map_fixed (image (table_of Z t)) (defines_of s f a t) (at_start s sd f ig a a ia ia e t).images)
      (image_out (table_of Z t) (defines_of s f a t) (defines_of s f a t) (one_to_one s sd ig f a a ia ia e t) v)
      (stands v (defines_of s f a t))

  themselves : (t : Table) (ns : List ℕ) → images (table_of Z t) ns ≡ ns
  themselves t ns = map_same (image (table_of Z t)) (λ (v : ℕ). v) ns (λ v k. itself t v) ∙ map-id ns

  its_root : (g : Sort) → RootsAlike s ig Z g a a
  unfolding RootsAlike table_of
  its_root op = itself ops a
  its_root block = itself blocks a
  its_root region = themselves blocks (blocks_of s a)

  same : Isomorphic s ig Z f a a
  unfolding table_of
  same =
      record {
        one_to_one = one_to_one s sd ig f a a ia ia e;
        roots = its_root f;
        ops = λ n i.
            subst (λ (x : ℕ). OpsAlike s ig Z n x) (sym (itself ops n))
            (record {
              fields = refl;
              results = themselves values (results_of s n);
              operands = themselves values (op_at s n).operands;
              successors = themselves blocks (op_at s n).successors;
              regions = map_same (λ (x : ℕ). images Z.blocks (blocks_of s x)) (blocks_of s) (regions_of s n) (λ x k. themselves blocks (blocks_of s x));
            });
        blocks = λ c i.
            subst (λ (x : ℕ). BlocksAlike s ig Z c x) (sym (itself blocks c))
            (record { fields = refl; arguments = themselves values (arguments_of s c); ops = themselves ops (ops_of s c) });
      }

pub equal_isomorphic : EqualIsomorphic
unfolding EqualIsomorphic Premise
equal_isomorphic s sd ig f a b ia ib p e =
    ⊎_elim
    (λ q. subst (λ (c : ℕ). Equal s ig f a c → Isomorphic s ig (filed s ig f a c) f a c) q (λ h. same s sd ig f a ia h) e)
    (λ r. different s sd ig f a b ia ib e r.2)
    p
