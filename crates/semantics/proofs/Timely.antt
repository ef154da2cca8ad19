-- Names that come in time: where an equal comparison ends, no name of the left fragment is of something that the walk has still to number,
-- if the right one names nothing of the left; and that is what `none_early` tests. Assumes nothing.
use Prim.Native.Nat.{ℕ}
use native.Mathlib.Omega.{arith}
use mathlib.Core.Bool.{Bool, true, false, cond, not, ◌&&◌, ◌||◌}
use mathlib.Core.List.Memᴰ
use mathlib.Core.List.{List, [], ◌∷◌, ◌++◌, append_assoc, Memᴰ}
use mathlib.Core.Logic.{◌⊎◌, inl, inr, ⊎_elim}
use Rattle.std.specs.Prelude.{Option, None, Some}
use Rattle.std.proofs.lemmas.Option.{none-some}
use mathlib.Core.Path.{◌≡◌, refl, sym, ap, subst, ◌∙◌}
use borrow.Author.Tests.{eqb-true}
use lib.Dec.{eqb}
use lib.ListN.{length, get_or}
use Rattle.std.specs.List.{flat_map}
use Rattle.rules.specs.Lists.{all_pairs, same_list}
use Rattle.rules.specs.Store.{Store, op_at, type_of, values_of}
use Rattle.rules.specs.declared.types.Owner.TheVariants.{Op as of_op}
use Rattle.rules.specs.Fragments.{shell, names, counted, block_owner, step_operands, step_successors, defines_values, defines_blocks}
use Rattle.rules.specs.declared.types.Sort.{Sort}
use Rattle.rules.specs.Shells.{counts_of}
use Rattle.rules.specs.declared.types.Ignore.{Ignore}
use Rattle.rules.specs.Mapping.{Mapping, no_image, or_self, image}
use Rattle.rules.specs.Comparison.{State, operands_agree, successors_agree}
use Rattle.rules.specs.Hash.{Numbering, numbered}
use Rattle.rules.specs.Form.{Event, step, more, done, numbered_by}
use Rattle.rules.specs.Copying.{has_place, numbered_names}
use Rattle.rules.proofs.Basics.Tests.{and_left, and_right, and_both, numbers_same, or_left, or_right, or_cases, clash, all_at, all_of}
use Rattle.rules.proofs.Form.Tested.{names_agree}
use Rattle.rules.proofs.Form.Events.{bare_steps, and_then, meet, lock}
use Rattle.rules.proofs.Form.Tokens.{event_values, event_blocks, event_operands, event_successors}
use Rattle.rules.proofs.Walking.Inside.{place_there, place_nowhere}
use Rattle.semantics.specs.SameWork.{step_numbered, all_numbered}
use Rattle.semantics.proofs.Images.{stands}
use Rattle.semantics.proofs.Pairwise.{Course, one}

found_pair : (p : ℕ → ℕ → Bool) (xs ys : List ℕ) → length xs ≡ length ys → all_pairs p xs ys ≡ true → {a : ℕ} → Memᴰ a xs
    → (b : ℕ) × Memᴰ b ys × (p a b ≡ true)
unfolding all_pairs
found_pair p [] ys l h m = absurd (Memᴰ.not-nil m)
found_pair p (x ∷ xs) [] l h m = absurd (omega arith)
found_pair p (x ∷ xs) (y ∷ ys) l h {a} m =
    ⊎_elim
    (λ e. (y, Memᴰ.head refl, ap (λ (z : ℕ). p z y) e ∙ and_left (p x y) (all_pairs p xs ys) h))
    (λ k. let w = found_pair p xs ys (omega arith) (and_right (p x y) (all_pairs p xs ys) h) k in (w.0, Memᴰ.tail w.1, w.2))
    (Memᴰ.cases_cons m)

module _ (s : Store) where
  -- what an event names is nothing that is still to come
  abbrev pub InTime : Event → List Event → Type 0
  InTime (step (names n)) es =
      ((v : ℕ) → Memᴰ v (op_at s n).operands → Memᴰ v (flat_map (event_values s) es) → ⊥)
      × ((c : ℕ) → Memᴰ c (op_at s n).successors → Memᴰ c (flat_map (event_blocks s) es) → ⊥)
  InTime _ es = Unit {0}

  abbrev pub AllInTime : List Event → Type 0
  AllInTime [] = Unit {0}
  AllInTime (e ∷ es) = InTime e es × AllInTime es

  -- ---- of an equal comparison

  module _ (ig : Ignore) (m : Mapping) where
    free_self : (e : List ℕ) (v : ℕ) → get_or e v no_image ≡ no_image → image e v ≡ v
    unfolding image or_self
    free_self e v h = rw h

    timely_names : (st : State) (es es' : List Event) (l r : ℕ) → names_agree s l r st ≡ true → Course s ig m st (step (names l) ∷ es) (step (names r) ∷ es')
        → InTime (step (names l)) es
    unfolding names_agree operands_agree successors_agree counts_of event_values event_blocks event_operands event_successors step_operands step_successors
    timely_names st es es' l r h k =
        let counts : counts_of s (of_op l) ≡ counts_of s (of_op r) = (numbers_same (counts_of s (of_op l)) (counts_of s (of_op r))).0 (and_left _ _ h) in
        let agree : (operands_agree s st.mapping l r && successors_agree s st.mapping l r) ≡ true = and_right (same_list eqb (counts_of s (of_op l)) (counts_of s (of_op r))) _ h in
        let xs = (op_at s l).operands in
        let ys = (op_at s r).operands in
        let cs = (op_at s l).successors in
        let ds = (op_at s r).successors in (
          λ v i j.
              let w = found_pair (λ (a b : ℕ). eqb (image st.mapping.values a) b && eqb (type_of s a) (type_of s b)) xs ys (ap (λ (ns : List ℕ). get_or ns 3 0) counts) (and_left _ _ agree) i in
              let e : v ≡ w.0 = sym (free_self st.mapping.values v (k.values.free v j)) ∙ eqb-true (image st.mapping.values v) w.0 (and_left _ _ w.2) in
              k.operands_out v (Memᴰ.append_left (flat_map (event_operands s) es') (subst (λ (x : ℕ). Memᴰ x ys) (sym e) w.1)) j,
          λ c i j.
              let w = found_pair (λ (a b : ℕ). eqb (image st.mapping.blocks a) b) cs ds (ap (λ (ns : List ℕ). get_or ns 2 0) counts) (and_right (operands_agree s st.mapping l r) _ agree) i in
              let e : c ≡ w.0 = sym (free_self st.mapping.blocks c (k.blocks.free c j)) ∙ eqb-true (image st.mapping.blocks c) w.0 w.2 in
              k.successors_out c (Memᴰ.append_left (flat_map (event_successors s) es') (subst (λ (x : ℕ). Memᴰ x ds) (sym e) w.1)) j,
        )

    timely_one : (st : State) (es es' : List Event) (e e' : Event) (st₁ : State) → meet s ig e e' st ≡ Some st₁ → Course s ig m st (e ∷ es) (e' ∷ es') → InTime e es
    unfolding meet
    timely_one st es es' (step (shell w)) e' st₁ h k = tt
    timely_one st es es' (step (counted j)) e' st₁ h k = tt
    timely_one st es es' more e' st₁ h k = tt
    timely_one st es es' done e' st₁ h k = tt
    timely_one st es es' (step (names l)) (step (names r)) st₁ h k = go (names_agree s l r st) refl h
      where
        go : (b : Bool) → names_agree s l r st ≡ b → cond b (Some st) None ≡ Some st₁ → InTime (step (names l)) es
        go true e q = timely_names st es es' l r e k
        go false e q = absurd (none-some st₁ q)
    timely_one st es es' (step (names l)) (step (shell r)) st₁ h k = absurd (none-some st₁ h)
    timely_one st es es' (step (names l)) (step (counted j)) st₁ h k = absurd (none-some st₁ h)
    timely_one st es es' (step (names l)) more st₁ h k = absurd (none-some st₁ h)
    timely_one st es es' (step (names l)) done st₁ h k = absurd (none-some st₁ h)

    pub timely : (es es' : List Event) (st st' : State) → lock s ig es es' st ≡ Some st' → Course s ig m st es es' → AllInTime es
    unfolding lock
    timely [] es' st st' h k = tt
    timely (e ∷ es) [] st st' h k = absurd (none-some st' h)
    timely (e ∷ es) (e' ∷ es') st st' h k = go (meet s ig e e' st) refl (λ st₁ c q. timely es es' st₁ st' q c) h
      where
        go : (o : Option State) → meet s ig e e' st ≡ o → ((st₁ : State) → Course s ig m st₁ es es' → lock s ig es es' st₁ ≡ Some st' → AllInTime es)
            → and_then o (lock s ig es es') ≡ Some st' → InTime e es × AllInTime es
        go None p rest q = absurd (none-some st' q)
        go (Some st₁) p rest q = (timely_one st es es' e e' st₁ p k, rest st₁ (one s ig m st es es' e e' st₁ p k).1 q)

-- ---- what the test says

names_numbered : (D N rest ns : List ℕ) → N ++ rest ≡ D → ((v : ℕ) → Memᴰ v ns → Memᴰ v rest → ⊥) → numbered_names D N ns ≡ true
unfolding numbered_names
names_numbered D N rest ns e h =
    all_of (λ (v : ℕ). not (has_place D v) || has_place N v) ns
    (λ v i. ⊎_elim
    (λ k. or_right (not (has_place D v)) (has_place N v) (place_there N k))
    (λ out. or_left (not (has_place D v)) (has_place N v)
    (ap not (place_nowhere D v (λ k. ⊎_elim out (h v i) (Memᴰ.append_cases N (subst (Memᴰ v) (sym e) k))))))
    (stands v N))

pub numbered_or_out : (D N ns : List ℕ) → numbered_names D N ns ≡ true → (v : ℕ) → Memᴰ v ns → Memᴰ v N ⊎ (Memᴰ v D → ⊥)
unfolding numbered_names
numbered_or_out D N ns h v i =
    ⊎_elim
    (λ (k : Memᴰ v N). inl k)
    (λ (out : Memᴰ v N → ⊥). inr (λ k. ⊎_elim
    (λ e. clash e (ap not (place_there D k)))
    (λ e. clash e (place_nowhere N v out))
    (or_cases (not (has_place D v)) (has_place N v) (all_at (λ (x : ℕ). not (has_place D x) || has_place N x) ns h i))))
    (stands v N)

module _ (s : Store) (f : Sort) (a : ℕ) where
  -- what is numbered, and what is still to come, is what the fragment defines
  pub record Left (N : Numbering) (es : List Event) : Type 0 where
    pub values : N.values ++ flat_map (event_values s) es ≡ defines_values s f a
    pub blocks : N.blocks ++ flat_map (event_blocks s) es ≡ defines_blocks s f a

  pub left_next : (N : Numbering) (e : Event) (es : List Event) → Left N (e ∷ es) → Left (numbered_by s e N) es
  unfolding numbered_by numbered event_values event_blocks
  left_next N (step (shell w)) es r =
      record {
        values = append_assoc N.values (values_of s w) (flat_map (event_values s) es) ∙ r.values;
        blocks = append_assoc N.blocks (block_owner w) (flat_map (event_blocks s) es) ∙ r.blocks;
      }
  left_next N (step (names n)) es r = record { values = r.values; blocks = r.blocks }
  left_next N (step (counted k)) es r = record { values = r.values; blocks = r.blocks }
  left_next N more es r = record { values = r.values; blocks = r.blocks }
  left_next N done es r = record { values = r.values; blocks = r.blocks }

  pub in_time_numbered : (es : List Event) (N : Numbering) → Left N es → AllInTime s es → all_numbered s f a (bare_steps es) N ≡ true
  unfolding all_numbered step_numbered bare_steps numbered_by numbered event_values event_blocks
  in_time_numbered [] N r t = refl
  in_time_numbered (step (shell w) ∷ es) N r t = in_time_numbered es (numbered s (shell w) N) (left_next N (step (shell w)) es r) t.1
  in_time_numbered (step (counted k) ∷ es) N r t = in_time_numbered es N (left_next N (step (counted k)) es r) t.1
  in_time_numbered (more ∷ es) N r t = in_time_numbered es N (left_next N more es r) t.1
  in_time_numbered (done ∷ es) N r t = in_time_numbered es N (left_next N done es r) t.1
  in_time_numbered (step (names n) ∷ es) N r t =
      and_both
      (numbered_names (defines_values s f a) N.values (op_at s n).operands && numbered_names (defines_blocks s f a) N.blocks (op_at s n).successors)
      (all_numbered s f a (bare_steps es) N)
      (and_both (numbered_names (defines_values s f a) N.values (op_at s n).operands) (numbered_names (defines_blocks s f a) N.blocks (op_at s n).successors)
      (names_numbered (defines_values s f a) N.values (flat_map (event_values s) es) (op_at s n).operands r.values t.0.0)
      (names_numbered (defines_blocks s f a) N.blocks (flat_map (event_blocks s) es) (op_at s n).successors r.blocks t.0.1))
      (in_time_numbered es N (left_next N (step (names n)) es r) t.1)
