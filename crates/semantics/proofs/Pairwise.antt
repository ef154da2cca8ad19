-- What an equal comparison has found of each pair that it met, said of the mapping that it leaves: shells are equal and what they define
-- corresponds; names correspond, where the right ones are none of those that the left fragment defines. Assumes nothing.
use Prim.Native.Nat.{ℕ}
use native.Mathlib.Omega.{arith}
use mathlib.Core.Bool.{Bool, true, false, cond, ◌&&◌}
use mathlib.Core.List.Memᴰ
use mathlib.Core.List.{List, [], ◌∷◌, map, map-id, Memᴰ}
use Rattle.std.specs.Prelude.{Option, None, Some}
use Rattle.std.proofs.lemmas.Option.{same_Some, none-some}
use mathlib.Core.Path.{◌≡◌, refl, sym, ap, ap₂, subst, ◌∙◌}
use borrow.Author.Tests.{eqb-true}
use lib.Dec.{eqb}
use lib.ListN.{length, get_or}
use Rattle.std.specs.List.{flat_map}
use Rattle.rules.specs.Lists.{all_pairs, same_list}
use Rattle.rules.specs.Store.{Store, op_at, type_of, values_of}
use Rattle.rules.specs.declared.types.Owner.{Owner}
use Rattle.rules.specs.declared.types.Owner.TheVariants.{Op as of_op}
use Rattle.rules.specs.Fragments.{shell, names, counted, block_owner, op_owner, step_operands, step_successors}
use Rattle.rules.specs.Shells.{shell_of, counts_of, same_shells}
use Rattle.rules.specs.declared.types.Ignore.{Ignore}
use Rattle.rules.specs.Mapping.{Mapping, image}
use Rattle.rules.specs.Comparison.{State, operands_agree, successors_agree}
use Rattle.rules.specs.Form.{Event, step, more, done}
use Rattle.rules.proofs.Basics.Tests.{and_left, and_right, numbers_same}
use Rattle.rules.proofs.Form.Tested.{names_agree}
use Rattle.rules.proofs.Form.Events.{and_then, enter_owners, meet, lock}
use Rattle.rules.proofs.Form.Tokens.{event_values, event_blocks, event_operands, event_successors}
use Rattle.rules.proofs.Form.SameShells.{shells→≡, values_count, blocks_count, ops_count}
use Rattle.semantics.proofs.Going.{Going, entered, named}

unfoldable pub event_ops : Event → List ℕ
event_ops (step (shell w)) = op_owner w
event_ops (step (names n)) = []
event_ops (step (counted k)) = []
event_ops more = []
event_ops done = []

pairs_met : {B : Type 0} (p : ℕ → ℕ → Bool) (f g : ℕ → B) (xs ys : List ℕ) → length xs ≡ length ys
    → ((a b : ℕ) → Memᴰ b ys → p a b ≡ true → f a ≡ g b) → all_pairs p xs ys ≡ true → map f xs ≡ map g ys
unfolding all_pairs
pairs_met p f g [] [] l same h = refl
pairs_met p f g [] (y ∷ ys) l same h = absurd (omega arith)
pairs_met p f g (x ∷ xs) [] l same h = absurd (omega arith)
pairs_met p f g (x ∷ xs) (y ∷ ys) l same h =
    ap₂ ◌∷◌ (same x y (Memᴰ.head refl) (and_left (p x y) (all_pairs p xs ys) h))
    (pairs_met p f g xs ys (omega arith) (λ a b m. same a b (Memᴰ.tail m)) (and_right (p x y) (all_pairs p xs ys) h))

module _ (s : Store) (ig : Ignore) (m : Mapping) where
  pub record Shelled (w w' : Owner) : Type 0 where
    pub counts : counts_of s w ≡ counts_of s w'
    pub shells : shell_of s ig w ≡ shell_of s ig w'
    pub values : map (image m.values) (values_of s w) ≡ values_of s w'
    pub blocks : map (image m.blocks) (block_owner w) ≡ block_owner w'
    pub ops : map (image m.ops) (op_owner w) ≡ op_owner w'

  pub record NamesAlike (n n' : ℕ) : Type 0 where
    pub counts : counts_of s (of_op n) ≡ counts_of s (of_op n')
    pub operands : map (image m.values) (op_at s n).operands ≡ (op_at s n').operands
    pub types : map (type_of s) (op_at s n).operands ≡ map (type_of s) (op_at s n').operands
    pub successors : map (image m.blocks) (op_at s n).successors ≡ (op_at s n').successors

  abbrev pub Meets : Event → Event → Type 0
  Meets (step (shell w)) (step (shell w')) = Shelled w w'
  Meets (step (names n)) (step (names n')) = NamesAlike n n'
  Meets (step (counted j)) (step (counted k)) = Unit {0}
  Meets more more = Unit {0}
  Meets done done = Unit {0}
  Meets _ _ = ⊥

  -- the events pair by pair
  abbrev pub Beside : List Event → List Event → Type 0
  Beside [] [] = Unit {0}
  Beside [] (e' ∷ es') = ⊥
  Beside (e ∷ es) [] = ⊥
  Beside (e ∷ es) (e' ∷ es') = Meets e e' × Beside es es'

  -- ---- in the course of the comparison

  pub record Course (st : State) (es es' : List Event) : Type 0 where
    pub values : Going m.values st.mapping.values (flat_map (event_values s) es) (flat_map (event_values s) es')
    pub blocks : Going m.blocks st.mapping.blocks (flat_map (event_blocks s) es) (flat_map (event_blocks s) es')
    pub ops : Going m.ops st.mapping.ops (flat_map event_ops es) (flat_map event_ops es')
    pub operands_out : (v : ℕ) → Memᴰ v (flat_map (event_operands s) es') → Memᴰ v (flat_map (event_values s) es) → ⊥
    pub successors_out : (c : ℕ) → Memᴰ c (flat_map (event_successors s) es') → Memᴰ c (flat_map (event_blocks s) es) → ⊥

  module _ (st : State) (es es' : List Event) where
    -- a step that enters nothing
    abbrev Same : Event → Event → Type 0
    Same e e' = Course st (e ∷ es) (e' ∷ es') → Course st es es'

    met_shells : (l r : Owner) → same_shells s ig l r ≡ true → Course st (step (shell l) ∷ es) (step (shell r) ∷ es')
        → Shelled l r × Course (enter_owners s l r st) es es'
    unfolding enter_owners event_values event_blocks event_ops event_operands event_successors step_operands step_successors
    met_shells l r h k =
        let p = shells→≡ s ig l r h in
        let v = entered m.values st.mapping.values (values_of s l) (values_of s r) (flat_map (event_values s) es) (flat_map (event_values s) es') (values_count s ig l r p.1) k.values in
        let b = entered m.blocks st.mapping.blocks (block_owner l) (block_owner r) (flat_map (event_blocks s) es) (flat_map (event_blocks s) es') (blocks_count s l r p.0) k.blocks in
        let o = entered m.ops st.mapping.ops (op_owner l) (op_owner r) (flat_map event_ops es) (flat_map event_ops es') (ops_count s l r p.0) k.ops in (
          record { counts = p.0; shells = p.1; values = v.0; blocks = b.0; ops = o.0 },
          record {
            values = v.1;
            blocks = b.1;
            ops = o.1;
            operands_out = λ x i j. k.operands_out x i (Memᴰ.append_right (values_of s l) j);
            successors_out = λ x i j. k.successors_out x i (Memᴰ.append_right (block_owner l) j);
          },
        )

    met_names : (l r : ℕ) → names_agree s l r st ≡ true → Course st (step (names l) ∷ es) (step (names r) ∷ es') → NamesAlike l r × Course st es es'
    unfolding names_agree operands_agree successors_agree counts_of event_values event_blocks event_ops event_operands event_successors step_operands step_successors
    met_names l r h k =
        let counts : counts_of s (of_op l) ≡ counts_of s (of_op r) = (numbers_same (counts_of s (of_op l)) (counts_of s (of_op r))).0 (and_left _ _ h) in
        let agree : (operands_agree s st.mapping l r && successors_agree s st.mapping l r) ≡ true = and_right (same_list eqb (counts_of s (of_op l)) (counts_of s (of_op r))) _ h in
        let p = λ (a b : ℕ). eqb (image st.mapping.values a) b && eqb (type_of s a) (type_of s b) in
        let n : length (op_at s l).operands ≡ length (op_at s r).operands = ap (λ (ns : List ℕ). get_or ns 3 0) counts in
        let xs = (op_at s l).operands in
        let ys = (op_at s r).operands in (
          record {
            counts = counts;
            operands =
                pairs_met p (image m.values) (λ (v : ℕ). v) xs ys n
                (λ a b i q. named m.values st.mapping.values (flat_map (event_values s) es) (flat_map (event_values s) es') k.values a b
                (eqb-true (image st.mapping.values a) b (and_left _ _ q))
                (λ j e. k.operands_out a (Memᴰ.append_left (flat_map (event_operands s) es') (subst (λ (x : ℕ). Memᴰ x ys) (sym e) i)) j))
                (and_left _ _ agree)
                ∙ map-id ys;
            types =
                pairs_met p (type_of s) (type_of s) xs ys n
                (λ a b i q. eqb-true (type_of s a) (type_of s b) (and_right (eqb (image st.mapping.values a) b) _ q))
                (and_left _ _ agree);
            successors =
                pairs_met (λ (a b : ℕ). eqb (image st.mapping.blocks a) b) (image m.blocks) (λ (c : ℕ). c) (op_at s l).successors (op_at s r).successors
                (ap (λ (ns : List ℕ). get_or ns 2 0) counts)
                (λ a b i q. named m.blocks st.mapping.blocks (flat_map (event_blocks s) es) (flat_map (event_blocks s) es') k.blocks a b
                (eqb-true (image st.mapping.blocks a) b q)
                (λ j e. k.successors_out a (Memᴰ.append_left (flat_map (event_successors s) es') (subst (λ (x : ℕ). Memᴰ x (op_at s r).successors) (sym e) i)) j))
                (and_right (operands_agree s st.mapping l r) _ agree)
                ∙ map-id (op_at s r).successors;
          },
          record {
            values = k.values;
            blocks = k.blocks;
            ops = k.ops;
            operands_out = λ x i j. k.operands_out x (Memᴰ.append_right ys i) j;
            successors_out = λ x i j. k.successors_out x (Memᴰ.append_right (op_at s r).successors i) j;
          },
        )

    abbrev One : Event → Event → State → Type 0
    One e e' st₁ = Meets e e' × Course st₁ es es'

    same_state : (e e' : Event) (st₁ : State) → Some st ≡ Some st₁ → One e e' st → One e e' st₁
    same_state e e' st₁ h = subst (λ (x : State). One e e' x) (same_Some st st₁ h)

    pub one : (e e' : Event) (st₁ : State) → meet s ig e e' st ≡ Some st₁ → Course st (e ∷ es) (e' ∷ es') → One e e' st₁
    unfolding meet event_values event_blocks event_ops event_operands event_successors step_operands step_successors
    one (step (shell l)) (step (shell r)) st₁ h k = go (same_shells s ig l r) refl h
      where
        go : (b : Bool) → same_shells s ig l r ≡ b → cond b (Some (enter_owners s l r st)) None ≡ Some st₁ → One (step (shell l)) (step (shell r)) st₁
        go true e q = subst (λ (x : State). One (step (shell l)) (step (shell r)) x) (same_Some (enter_owners s l r st) st₁ q) (met_shells l r e k)
        go false e q = absurd (none-some st₁ q)
    one (step (names l)) (step (names r)) st₁ h k = go (names_agree s l r st) refl h
      where
        go : (b : Bool) → names_agree s l r st ≡ b → cond b (Some st) None ≡ Some st₁ → One (step (names l)) (step (names r)) st₁
        go true e q = same_state (step (names l)) (step (names r)) st₁ q (met_names l r e k)
        go false e q = absurd (none-some st₁ q)
    one (step (counted i)) (step (counted j)) st₁ h k =
        same_state (step (counted i)) (step (counted j)) st₁ h
        (tt, record { values = k.values; blocks = k.blocks; ops = k.ops; operands_out = k.operands_out; successors_out = k.successors_out })
    one more more st₁ h k =
        same_state more more st₁ h (tt, record { values = k.values; blocks = k.blocks; ops = k.ops; operands_out = k.operands_out; successors_out = k.successors_out })
    one done done st₁ h k =
        same_state done done st₁ h (tt, record { values = k.values; blocks = k.blocks; ops = k.ops; operands_out = k.operands_out; successors_out = k.successors_out })
    one (step (shell l)) (step (names r)) st₁ h k = absurd (none-some st₁ h)
    one (step (shell l)) (step (counted j)) st₁ h k = absurd (none-some st₁ h)
    one (step (names l)) (step (shell r)) st₁ h k = absurd (none-some st₁ h)
    one (step (names l)) (step (counted j)) st₁ h k = absurd (none-some st₁ h)
    one (step (counted j)) (step (shell r)) st₁ h k = absurd (none-some st₁ h)
    one (step (counted j)) (step (names r)) st₁ h k = absurd (none-some st₁ h)
    one (step x) more st₁ h k = absurd (none-some st₁ h)
    one (step x) done st₁ h k = absurd (none-some st₁ h)
    one more (step y) st₁ h k = absurd (none-some st₁ h)
    one more done st₁ h k = absurd (none-some st₁ h)
    one done (step y) st₁ h k = absurd (none-some st₁ h)
    one done more st₁ h k = absurd (none-some st₁ h)

  pub met : (es es' : List Event) (st st' : State) → lock s ig es es' st ≡ Some st' → Course st es es' → Beside es es'
  unfolding lock
  met [] [] st st' h k = tt
  met [] (e' ∷ es') st st' h k = none-some st' h
  met (e ∷ es) [] st st' h k = none-some st' h
  met (e ∷ es) (e' ∷ es') st st' h k = go (meet s ig e e' st) refl (λ st₁ c q. met es es' st₁ st' q c) h
    where
      go : (o : Option State) → meet s ig e e' st ≡ o → ((st₁ : State) → Course st₁ es es' → lock s ig es es' st₁ ≡ Some st' → Beside es es')
          → and_then o (lock s ig es es') ≡ Some st' → Meets e e' × Beside es es'
      go None p rest q = absurd (none-some st' q)
      go (Some st₁) p rest q = let w = one st es es' e e' st₁ p k in (w.0, rest st₁ w.1 q)
