-- An isomorphism leads the two walks side by side, and where no name is early the two have the same tokens; so the fragments are equal.
-- Assumes nothing.
use Prim.Native.Nat.{ℕ, zero, suc}
use mathlib.Core.Bool.{Bool, true, false}
use mathlib.Core.List.Memᴰ
use mathlib.Core.List.{List, [], ◌∷◌, ◌++◌, map, map-map, map-append, head-eq_of_cons-eq, tail-eq_of_cons-eq, Memᴰ}
use mathlib.Core.Logic.{◌⊎◌, inl, inr, ⊎_elim}
use Rattle.std.specs.Prelude.{Option, None, Some}
use mathlib.Core.Path.{◌≡◌, refl, sym, ap, ap₂, subst, ◌∙◌}
use borrow.Author.Tests.{eqb-true, eqb-false, ne_eqb, eq-eqb}
use lib.Dec.{eqb}
use Rattle.std.specs.List.{flat_map}
use Rattle.rules.specs.Lists.{position}
use Rattle.rules.specs.Store.{Store, op_at, type_of, ops_of, blocks_of, regions_of, results_of, arguments_of, values_of, sound}
use Rattle.rules.specs.declared.types.Owner.{Owner}
use Rattle.rules.specs.declared.types.Owner.TheVariants.{Op as of_op, Block as of_block}
use Rattle.rules.specs.Fragments.{Step, shell, names, counted, levels, step_operands, step_successors, op_owner, block_owner, fragment_ops, defines_blocks, defines_values, NamesNothingOf}
use Rattle.rules.specs.declared.types.Sort.{Sort}
use Rattle.rules.specs.declared.types.Sort.TheVariants.{Op as op, Block as block, Region as region}
use Rattle.rules.specs.declared.types.Ignore.{Ignore}
use Rattle.rules.specs.Mapping.{Mapping, image}
use Rattle.rules.specs.Hash.{Numbering, numbered, no_numbers, name_at, name_of}
use Rattle.rules.specs.declared.types.Name.{Name}
use Rattle.rules.specs.Laws.{Equal, In}
use Rattle.rules.specs.MappingLaws.{values, blocks, table_of, defines_of, Bijection}
use Rattle.rules.specs.Form.{Event, step, more, done, shell_token, names_token, list_events, one, shell_events, op_events, blocks_events, region_events, events, numbered_by, token, tokens, canonical}
use Rattle.rules.specs.Copying.{numbered_names}
use Rattle.rules.proofs.Basics.Tests.{and_left, and_right}
use Rattle.rules.proofs.Form.Images.{position_none, position_out}
use Rattle.rules.proofs.Form.Events.{bare_steps, bare_events}
use Rattle.rules.proofs.Form.Tested.{Pairs}
use Rattle.rules.proofs.Form.Tokens.{event_values, event_blocks, event_operands, event_successors}
use Rattle.rules.proofs.Form.Canonical.{events_name_values, events_name_blocks, canonical→equal}
use Rattle.rules.proofs.Copying.Renumbered.{map_same}
use Rattle.semantics.specs.Meaning.{OwnFields, own_fields, operand_types_of}
use Rattle.semantics.specs.Isomorphic.{images, RootsAlike, Isomorphic}
use Rattle.semantics.specs.SameWork.{step_numbered, all_numbered, none_early}
use Rattle.semantics.proofs.Images.{image_out, image_in, image_other}
use Rattle.semantics.proofs.Below.{op_below, block_below, op_root, block_root, region_root}
use Rattle.semantics.proofs.Pairwise.{Shelled, NamesAlike, Meets, Beside}
use Rattle.semantics.proofs.Parted.{pairs_imp, joined, list_joined}
use Rattle.semantics.proofs.Timely.{numbered_or_out, Left, left_next}
use Rattle.semantics.proofs.Found.{values_in_events, blocks_in_events}

pairs_map : (P : ℕ → ℕ → Type 0) (f : ℕ → ℕ) (xs : List ℕ) → ((x : ℕ) → Memᴰ x xs → P x (f x)) → Pairs P xs (map f xs)
pairs_map P f [] h = tt
pairs_map P f (x ∷ xs) h = (h x (Memᴰ.head refl), pairs_map P f xs (λ y m. h y (Memᴰ.tail m)))

map_at : {A B : Type 0} (f g : A → B) (xs : List A) → map f xs ≡ map g xs → {x : A} → Memᴰ x xs → f x ≡ g x
map_at f g [] h m = absurd (Memᴰ.not-nil m)
map_at f g (y ∷ ys) h {x} m =
    ⊎_elim (λ e. ap f e ∙ head-eq_of_cons-eq h ∙ sym (ap g e)) (λ k. map_at f g ys (tail-eq_of_cons-eq h) k) (Memᴰ.cases_cons m)

-- ---- the walks side by side

module _ (s : Store) (sd : sound s ≡ true) (ig : Ignore) (m : Mapping) (f : Sort) (a b : ℕ) (iso : Isomorphic s ig m f a b) where
  abbrev B : List Event → List Event → Type 0
  B = Beside s ig m

  shelled_op : (n : ℕ) → Memᴰ n (fragment_ops s f a) → Shelled s ig m (of_op n) (of_op (image m.ops n))
  unfolding own_fields results_of op_owner block_owner
  shelled_op n i =
      let h = iso.ops n i in
      record { counts = ap (λ (o : OwnFields). o.counts) h.fields; shells = ap (λ (o : OwnFields). o.shell) h.fields; values = h.results; blocks = refl; ops = refl }

  shelled_block : (c : ℕ) → Memᴰ c (defines_blocks s f a) → Shelled s ig m (of_block c) (of_block (image m.blocks c))
  unfolding own_fields arguments_of op_owner block_owner
  shelled_block c i =
      let h = iso.blocks c i in
      record { counts = ap (λ (o : OwnFields). o.counts) h.fields; shells = ap (λ (o : OwnFields). o.shell) h.fields; values = h.arguments; blocks = refl; ops = refl }

  names_alike : (n : ℕ) → Memᴰ n (fragment_ops s f a) → NamesAlike s ig m n (image m.ops n)
  unfolding own_fields operand_types_of
  names_alike n i =
      let h = iso.ops n i in
      record {
        counts = ap (λ (o : OwnFields). o.counts) h.fields;
        operands = h.operands;
        types = ap (λ (o : OwnFields). o.operand_types) h.fields;
        successors = h.successors;
      }

  shells_beside : (w : ℕ → Owner) (xs ys : List ℕ) → Pairs (λ (x y : ℕ). Shelled s ig m (w x) (w y)) xs ys → B (shell_events w xs) (shell_events w ys)
  unfolding shell_events
  shells_beside w xs ys p = (tt, list_joined s ig m (one (λ (n : ℕ). shell (w n))) xs ys (pairs_imp _ _ (λ x y k. (k, tt)) xs ys p))

  regions_pairs : (P : ℕ → ℕ → Type 0) (xs ys : List ℕ) → map (λ (x : ℕ). images m.blocks (blocks_of s x)) xs ≡ map (blocks_of s) ys
      → ((x y : ℕ) → Memᴰ x xs → images m.blocks (blocks_of s x) ≡ blocks_of s y → P x y) → Pairs P xs ys
  regions_pairs P [] [] e h = tt
  regions_pairs P [] (y ∷ ys) e h = let z : ⊥ = cc in z
  regions_pairs P (x ∷ xs) [] e h = let z : ⊥ = cc in z
  regions_pairs P (x ∷ xs) (y ∷ ys) e h =
      (h x y (Memᴰ.head refl) (head-eq_of_cons-eq e), regions_pairs P xs ys (tail-eq_of_cons-eq e) (λ u v i k. h u v (Memᴰ.tail i) k))

  -- regions whose blocks correspond, if the left ones are inside
  abbrev RegionsBeside : ℕ → Type 0
  RegionsBeside k =
      (x y : ℕ) → images m.blocks (blocks_of s x) ≡ blocks_of s y → ((c : ℕ) → Memᴰ c (blocks_of s x) → Memᴰ c (defines_blocks s f a))
      → B (region_events s k x) (region_events s k y)

  op_beside : (k : ℕ) → RegionsBeside k → (n : ℕ) → Memᴰ n (fragment_ops s f a) → B (op_events s (region_events s k) n) (op_events s (region_events s k) (image m.ops n))
  unfolding op_events
  op_beside k inner n i = (
    names_alike n i,
    list_joined s ig m (region_events s k) (regions_of s n) (regions_of s (image m.ops n))
        (regions_pairs (λ (x y : ℕ). B (region_events s k x) (region_events s k y)) (regions_of s n) (regions_of s (image m.ops n)) (iso.ops n i).regions
        (λ x y j e. inner x y e (λ c l. block_below s sd f a n x c i j l))),
  )

  blocks_beside : (k : ℕ) → RegionsBeside k → (bs : List ℕ) → ((c : ℕ) → Memᴰ c bs → Memᴰ c (defines_blocks s f a))
      → B (blocks_events s (op_events s (region_events s k)) bs) (blocks_events s (op_events s (region_events s k)) (images m.blocks bs))
  unfolding blocks_events
  blocks_beside k inner bs sub =
      let full = op_events s (region_events s k) in
      joined s ig m (shell_events of_block bs ++ list_events opsh bs) (shell_events of_block (images m.blocks bs) ++ list_events opsh (images m.blocks bs))
      (list_events (λ (b : ℕ). list_events full (ops_of s b)) bs) (list_events (λ (b : ℕ). list_events full (ops_of s b)) (images m.blocks bs))
      (joined s ig m (shell_events of_block bs) (shell_events of_block (images m.blocks bs)) (list_events opsh bs) (list_events opsh (images m.blocks bs))
      (shells_beside of_block bs (images m.blocks bs) (pairs_map (λ (x y : ℕ). Shelled s ig m (of_block x) (of_block y)) (image m.blocks) bs (λ c i. shelled_block c (sub c i))))
      (list_joined s ig m opsh bs (images m.blocks bs)
      (pairs_map (λ (x y : ℕ). B (opsh x) (opsh y)) (image m.blocks) bs
      (λ c i. rw (sym (iso.blocks c (sub c i)).ops)
      (shells_beside of_op (ops_of s c) (images m.ops (ops_of s c))
      (pairs_map (λ (x y : ℕ). Shelled s ig m (of_op x) (of_op y)) (image m.ops) (ops_of s c) (λ n j. shelled_op n (op_below s sd f a c n (sub c i) j))))))))
      (list_joined s ig m (λ (b : ℕ). list_events full (ops_of s b)) bs (images m.blocks bs)
      (pairs_map (λ (x y : ℕ). B (list_events full (ops_of s x)) (list_events full (ops_of s y))) (image m.blocks) bs
      (λ c i. rw (sym (iso.blocks c (sub c i)).ops)
      (list_joined s ig m full (ops_of s c) (images m.ops (ops_of s c))
      (pairs_map (λ (x y : ℕ). B (full x) (full y)) (image m.ops) (ops_of s c) (λ n j. op_beside k inner n (op_below s sd f a c n (sub c i) j)))))))
    where
      opsh : ℕ → List Event
      opsh b = shell_events of_op (ops_of s b)

  region_beside : (k : ℕ) → RegionsBeside k
  unfolding region_events
  region_beside zero x y e sub = tt
  region_beside (suc k) x y e sub =
      subst (λ (cs : List ℕ). B (blocks_events s (op_events s (region_events s k)) (blocks_of s x)) (blocks_events s (op_events s (region_events s k)) cs)) e
      (blocks_beside k (region_beside k) (blocks_of s x) sub)

-- by sort
fragment_beside : (s : Store) → sound s ≡ true → (ig : Ignore) (m : Mapping) (f : Sort) (a b : ℕ) → Isomorphic s ig m f a b
    → Beside s ig m (events s f a) (events s f b)
unfolding events RootsAlike
fragment_beside s sd ig m op a b iso =
    subst (λ (n : ℕ). Beside s ig m (step (shell (of_op a)) ∷ op_events s (region_events s levels) a) (step (shell (of_op n)) ∷ op_events s (region_events s levels) n)) iso.roots
    (shelled_op s sd ig m op a b iso a (op_root s sd a), op_beside s sd ig m op a b iso levels (region_beside s sd ig m op a b iso levels) a (op_root s sd a))
fragment_beside s sd ig m block a b iso =
    subst (λ (c : ℕ). Beside s ig m (blocks_events s (op_events s (region_events s levels)) (a ∷ [])) (blocks_events s (op_events s (region_events s levels)) (c ∷ []))) iso.roots
    (blocks_beside s sd ig m block a b iso levels (region_beside s sd ig m block a b iso levels) (a ∷ [])
    (λ c i. ⊎_elim (λ q. Memᴰ.cast q (block_root s sd a)) (λ q. absurd (Memᴰ.not-nil q)) (Memᴰ.cases_cons i)))
fragment_beside s sd ig m region a b iso = region_beside s sd ig m region a b iso levels a b iso.roots (region_root s sd a)

-- ---- names

module _ (table VA VB : List ℕ) (bi : Bijection table VA VB) where
  position_image : (v : ℕ) (xs : List ℕ) → Memᴰ v VA → ((x : ℕ) → Memᴰ x xs → Memᴰ x VA) → position (image table v) (map (image table) xs) ≡ position v xs
  unfolding position
  position_image v [] i sub = refl
  position_image v (x ∷ xs) i sub = rw (position_image v xs i (λ y k. sub y (Memᴰ.tail k)), first (eqb v x) refl)
    where
      first : (t : Bool) → eqb v x ≡ t → eqb (image table v) (image table x) ≡ eqb v x
      first true e = rw (e, eq-eqb (image table v) (image table x) (ap (image table) (eqb-true v x e)))
      first false e = rw (e, ne_eqb (image table v) (image table x) (image_other table VA VB bi v x (sub x (Memᴰ.head refl)) (inl i) (eqb-false v x e)))

  -- a name that has a number, or is none of those defined on the left, nor on the right, stands for the same
  name_image : (v : ℕ) (xs : List ℕ) → Memᴰ v xs ⊎ (Memᴰ v VA → ⊥) → (Memᴰ v VB → ⊥) → ((x : ℕ) → Memᴰ x xs → Memᴰ x VA)
      → name_of xs v ≡ name_of (map (image table) xs) (image table v)
  unfolding name_of name_at
  name_image v xs (inl i) out sub = go (position v xs) refl
    where
      go : (o : Option ℕ) → position v xs ≡ o → name_at (position v xs) v ≡ name_at (position (image table v) (map (image table) xs)) (image table v)
      go None e = absurd (position_none v xs e i)
      go (Some j) e = rw (position_image v xs (sub v i) sub, e)
  name_image v xs (inr i) out sub =
      let e = image_out table VA VB bi v i in
      let here : position v (map (image table) xs) ≡ None =
      position_out v (map (image table) xs) (λ k. let w = Memᴰ.of_map (image table) xs k in out (subst (λ (x : ℕ). Memᴰ x VB) w.2 (image_in table VA VB bi w.0 (sub w.0 w.1))))
      in
      rw (e, here, position_out v xs (λ k. i (sub v k)))

-- ---- tokens

module _ (s : Store) (ig : Ignore) (m : Mapping) (f : Sort) (a b : ℕ)
    (vi : Bijection m.values (defines_values s f a) (defines_values s f b)) (bl : Bijection m.blocks (defines_blocks s f a) (defines_blocks s f b)) where
  unlike_more : (x : Step) → Meets s ig m (step x) more → ⊥
  unlike_more (shell w) h = h
  unlike_more (names n) h = h
  unlike_more (counted k) h = h

  unlike_done : (x : Step) → Meets s ig m (step x) done → ⊥
  unlike_done (shell w) h = h
  unlike_done (names n) h = h
  unlike_done (counted k) h = h

  record Moved (N N' : Numbering) : Type 0 where
    values : N'.values ≡ map (image m.values) N.values
    blocks : N'.blocks ≡ map (image m.blocks) N.blocks

  -- the left events name nothing that the right fragment defines
  record Out (es : List Event) : Type 0 where
    values : (v : ℕ) → Memᴰ v (flat_map (event_operands s) es) → Memᴰ v (defines_values s f b) → ⊥
    blocks : (c : ℕ) → Memᴰ c (flat_map (event_successors s) es) → Memᴰ c (defines_blocks s f b) → ⊥

  out_next : (e : Event) (es : List Event) → Out (e ∷ es) → Out es
  out_next e es o =
      record { values = λ v i. o.values v (Memᴰ.append_right (event_operands s e) i); blocks = λ c i. o.blocks c (Memᴰ.append_right (event_successors s e) i) }

  numbered_values : (N : Numbering) (es : List Event) → Left s f a N es → (v : ℕ) → Memᴰ v N.values → Memᴰ v (defines_values s f a)
  numbered_values N es l v i = subst (Memᴰ v) l.values (Memᴰ.append_left (flat_map (event_values s) es) i)

  numbered_blocks : (N : Numbering) (es : List Event) → Left s f a N es → (c : ℕ) → Memᴰ c N.blocks → Memᴰ c (defines_blocks s f a)
  numbered_blocks N es l c i = subst (Memᴰ c) l.blocks (Memᴰ.append_left (flat_map (event_blocks s) es) i)

  names_token_same : (n n' : ℕ) (es : List Event) (N N' : Numbering) → NamesAlike s ig m n n' → Moved N N' → Left s f a N es
      → step_numbered s f a (names n) N ≡ true → Out (step (names n) ∷ es) → token s ig (step (names n)) N ≡ token s ig (step (names n')) N'
  unfolding token step_numbered event_operands event_successors step_operands step_successors
  names_token_same n n' es N N' na mv l q o =
      let xs = (op_at s n).operands in
      let cs = (op_at s n).successors in
      let F : ℕ → Name × ℕ = λ v. (name_of N.values v, type_of s v) in
      let G : ℕ → Name × ℕ = λ v. (name_of N'.values v, type_of s v) in
      let types : map (type_of s) xs ≡ map (λ (v : ℕ). type_of s (image m.values v)) xs =
      na.types ∙ ap (map (type_of s)) (sym na.operands) ∙ map-map (type_of s) (image m.values) xs in
      let value = λ (v : ℕ) (i : Memᴰ v xs).
      name_image m.values (defines_values s f a) (defines_values s f b) vi v N.values
      (numbered_or_out (defines_values s f a) N.values xs (and_left _ _ q) v i)
      (o.values v (Memᴰ.append_left (flat_map (event_operands s) es) i)) (numbered_values N es l)
      ∙ ap (λ (ys : List ℕ). name_of ys (image m.values v)) (sym mv.values) in
      let block = λ (c : ℕ) (i : Memᴰ c cs).
      name_image m.blocks (defines_blocks s f a) (defines_blocks s f b) bl c N.blocks
      (numbered_or_out (defines_blocks s f a) N.blocks cs (and_right (numbered_names (defines_values s f a) N.values xs) _ q) c i)
      (o.blocks c (Memᴰ.append_left (flat_map (event_successors s) es) i)) (numbered_blocks N es l)
      ∙ ap (λ (ys : List ℕ). name_of ys (image m.blocks c)) (sym mv.blocks) in
      let operands : map F xs ≡ map G (op_at s n').operands =
      map_same F (λ (v : ℕ). G (image m.values v)) xs
      (λ v i. λ j. (value v i j, map_at (type_of s) (λ (u : ℕ). type_of s (image m.values u)) xs types i j))
      ∙ sym (map-map G (image m.values) xs)
      ∙ ap (map G) na.operands in
      let successors : map (name_of N.blocks) cs ≡ map (name_of N'.blocks) (op_at s n').successors =
      map_same (name_of N.blocks) (λ (c : ℕ). name_of N'.blocks (image m.blocks c)) cs block
      ∙ sym (map-map (name_of N'.blocks) (image m.blocks) cs)
      ∙ ap (map (name_of N'.blocks)) na.successors in
      λ j. names_token (na.counts j) (operands j) (successors j)

  shelled_next : (w w' : Owner) (N N' : Numbering) → Shelled s ig m w w' → Moved N N' → Moved (numbered s (shell w) N) (numbered s (shell w') N')
  unfolding numbered
  shelled_next w w' N N' h mv =
      record {
        values = ap₂ ◌++◌ mv.values (sym h.values) ∙ sym (map-append (image m.values) N.values (values_of s w));
        blocks = ap₂ ◌++◌ mv.blocks (sym h.blocks) ∙ sym (map-append (image m.blocks) N.blocks (block_owner w));
      }

  tokens_same : (es es' : List Event) (N N' : Numbering) → Beside s ig m es es' → Moved N N' → Left s f a N es
      → all_numbered s f a (bare_steps es) N ≡ true → Out es → tokens s ig es N ≡ tokens s ig es' N'
  unfolding tokens token numbered_by numbered all_numbered bare_steps step_numbered
  tokens_same [] [] N N' h mv l q o = refl
  tokens_same [] (e' ∷ es') N N' h mv l q o = absurd h
  tokens_same (e ∷ es) [] N N' h mv l q o = absurd h
  tokens_same (step (shell w) ∷ es) (step (shell w') ∷ es') N N' h mv l q o =
      ap₂ ◌∷◌ (λ j. shell_token (h.0.counts j) (h.0.shells j))
      (tokens_same es es' (numbered s (shell w) N) (numbered s (shell w') N') h.1 (shelled_next w w' N N' h.0 mv) (left_next s f a N (step (shell w)) es l) q (out_next (step (shell w)) es o))
  tokens_same (step (names n) ∷ es) (step (names n') ∷ es') N N' h mv l q o =
      ap₂ ◌∷◌ (names_token_same n n' es N N' h.0 mv (left_next s f a N (step (names n)) es l) (and_left _ _ q) o)
      (tokens_same es es' N N' h.1 mv (left_next s f a N (step (names n)) es l) (and_right (step_numbered s f a (names n) N) _ q) (out_next (step (names n)) es o))
  tokens_same (step (counted j) ∷ es) (step (counted k) ∷ es') N N' h mv l q o =
      ap₂ ◌∷◌ refl (tokens_same es es' N N' h.1 mv (left_next s f a N (step (counted j)) es l) q (out_next (step (counted j)) es o))
  tokens_same (more ∷ es) (more ∷ es') N N' h mv l q o = ap₂ ◌∷◌ refl (tokens_same es es' N N' h.1 mv (left_next s f a N more es l) q (out_next more es o))
  tokens_same (done ∷ es) (done ∷ es') N N' h mv l q o = ap₂ ◌∷◌ refl (tokens_same es es' N N' h.1 mv (left_next s f a N done es l) q (out_next done es o))
  tokens_same (step (shell w) ∷ es) (step (names n) ∷ es') N N' h mv l q o = absurd h.0
  tokens_same (step (shell w) ∷ es) (step (counted k) ∷ es') N N' h mv l q o = absurd h.0
  tokens_same (step (names n) ∷ es) (step (shell w) ∷ es') N N' h mv l q o = absurd h.0
  tokens_same (step (names n) ∷ es) (step (counted k) ∷ es') N N' h mv l q o = absurd h.0
  tokens_same (step (counted j) ∷ es) (step (shell w) ∷ es') N N' h mv l q o = absurd h.0
  tokens_same (step (counted j) ∷ es) (step (names n) ∷ es') N N' h mv l q o = absurd h.0
  tokens_same (step x ∷ es) (more ∷ es') N N' h mv l q o = absurd (unlike_more x h.0)
  tokens_same (step x ∷ es) (done ∷ es') N N' h mv l q o = absurd (unlike_done x h.0)
  tokens_same (more ∷ es) (step x ∷ es') N N' h mv l q o = absurd h.0
  tokens_same (more ∷ es) (done ∷ es') N N' h mv l q o = absurd h.0
  tokens_same (done ∷ es) (step x ∷ es') N N' h mv l q o = absurd h.0
  tokens_same (done ∷ es) (more ∷ es') N N' h mv l q o = absurd h.0

-- ---- the whole

pub isomorphic_equal : (s : Store) → sound s ≡ true → (ig : Ignore) (f : Sort) (a b : ℕ) → In s f a → In s f b → NamesNothingOf s f a b
    → (m : Mapping) → Isomorphic s ig m f a b → none_early s f a ≡ true → Equal s ig f a b
unfolding NamesNothingOf none_early canonical no_numbers table_of defines_of
isomorphic_equal s sd ig f a b ia ib out m iso t =
    canonical→equal s sd ig f a b ia ib
    (tokens_same s ig m f a b (iso.one_to_one values) (iso.one_to_one blocks) (events s f a) (events s f b) no_numbers no_numbers
    (fragment_beside s sd ig m f a b iso) (record { values = refl; blocks = refl })
    (record { values = values_in_events s f a; blocks = blocks_in_events s f a })
    (ap (λ (xs : List Step). all_numbered s f a xs no_numbers) (bare_events s f a) ∙ t)
    (record {
      values = λ v i. out.0 v (subst (Memᴰ v) (events_name_values s f a) i);
      blocks = λ c i. out.1 c (subst (Memᴰ c) (events_name_blocks s f a) i);
    }))
