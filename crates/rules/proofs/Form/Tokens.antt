-- The events of a fragment as tokens: a name that is defined already is its walk number, any other its store number. Equal tokens make
-- the lock-step pass succeed; and where the pass succeeds, and the left names nothing that the right defines, the tokens are equal.
-- Assumes nothing.
use Prim.Native.Nat.{ℕ}
use mathlib.Core.Bool.{Bool, true, false, cond, ◌&&◌}
use mathlib.Core.List.Memᴰ
use mathlib.Core.List.{List, [], ◌∷◌, ◌++◌, append_assoc, Memᴰ, head-eq_of_cons-eq, tail-eq_of_cons-eq, nil≢cons, cons≢nil}
use Rattle.std.specs.Prelude.{Option, None, Some}
use Rattle.std.proofs.lemmas.Option.{same_Some, none-some}
use mathlib.Core.Path.{◌≡◌, refl, ap, ap₂, subst, ◌∙◌}
use borrow.Author.Tests.{eqb-true, eq-eqb}
use lib.Dec.{eqb}
use lib.ListN.{length, get_or}
use Rattle.std.specs.List.{flat_map}
use Rattle.rules.specs.Lists.{same_list}
use Rattle.rules.specs.Store.{Store, op_at, type_of, values_of}
use Rattle.rules.specs.declared.types.Owner.{Owner}
use Rattle.rules.specs.declared.types.Owner.TheVariants.{Op as of_op}
use Rattle.rules.specs.Fragments.{shell, names, counted, block_owner, step_operands, step_successors, Disjoint}
use Rattle.rules.specs.Shells.{shell_of, counts_of, same_shells}
use Rattle.rules.specs.declared.types.Ignore.{Ignore}
use Rattle.rules.specs.Mapping.{image}
use Rattle.rules.specs.Comparison.{State, operands_agree, successors_agree}
use Rattle.rules.specs.Hash.{Numbering, numbered, name_of}
use Rattle.rules.specs.declared.types.Name.{Name}
use Rattle.rules.specs.Form.{Event, step, more, done, shell_token, names_token, numbered_by, token, tokens}
use Rattle.rules.proofs.Basics.Tests.{and_left, and_right, and_both, impossible, numbers_same}
use Rattle.rules.proofs.Form.Images.{Empty, Once, Entered, entered_more, name_forth, name_back}
use Rattle.rules.proofs.Form.Tested.{names_agree}
use Rattle.rules.proofs.Form.Events.{and_then, enter_owners, meet, lock}
use Rattle.rules.proofs.Form.SameShells.{shells→≡, ≡→shells, values_count, blocks_count, pairs_forth, pairs_back}

module _ (s : Store) where
  -- what an event defines and names
  unfoldable pub event_values : Event → List ℕ
  event_values (step (shell w)) = values_of s w
  event_values (step (names n)) = []
  event_values (step (counted k)) = []
  event_values more = []
  event_values done = []

  unfoldable pub event_blocks : Event → List ℕ
  event_blocks (step (shell w)) = block_owner w
  event_blocks (step (names n)) = []
  event_blocks (step (counted k)) = []
  event_blocks more = []
  event_blocks done = []

  unfoldable pub event_operands : Event → List ℕ
  event_operands (step x) = step_operands s x
  event_operands more = []
  event_operands done = []

  unfoldable pub event_successors : Event → List ℕ
  event_successors (step x) = step_successors s x
  event_successors more = []
  event_successors done = []

  -- what is numbered, and what the events still define, is all that the fragment defines
  pub record Rest (N : Numbering) (es : List Event) (D : Numbering) : Type 0 where
    pub values : N.values ++ flat_map event_values es ≡ D.values
    pub blocks : N.blocks ++ flat_map event_blocks es ≡ D.blocks

  rest_next : (N D : Numbering) (e : Event) (es : List Event) → Rest N (e ∷ es) D → Rest (numbered_by s e N) es D
  unfolding numbered_by numbered event_values event_blocks
  rest_next N D (step (shell w)) es r =
      record {
        values = append_assoc N.values (values_of s w) (flat_map event_values es) ∙ r.values;
        blocks = append_assoc N.blocks (block_owner w) (flat_map event_blocks es) ∙ r.blocks;
      }
  rest_next N D (step (names n)) es r = record { values = r.values; blocks = r.blocks }
  rest_next N D (step (counted k)) es r = record { values = r.values; blocks = r.blocks }
  rest_next N D more es r = record { values = r.values; blocks = r.blocks }
  rest_next N D done es r = record { values = r.values; blocks = r.blocks }

-- all that a fragment defines
pub record Whole (EV EB : List ℕ) (D : Numbering) : Type 0 where
  pub values : Once (length EV) D.values
  pub blocks : Once (length EB) D.blocks

module _ (s : Store) (ig : Ignore) (EV EB : List ℕ) (empty_v : Empty EV) (empty_b : Empty EB) (DL DR : Numbering) (WL : Whole EV EB DL) (WR : Whole EV EB DR) where
  -- the mapping is what has been numbered on the left and on the right, side by side
  pub record Related (st : State) (L R : Numbering) : Type 0 where
    pub values : Entered EV st.mapping.values L.values R.values
    pub blocks : Entered EB st.mapping.blocks L.blocks R.blocks

  -- the left events name nothing that the right defines
  pub record Apart (es : List Event) : Type 0 where
    pub values : Disjoint (flat_map (event_operands s) es) DR.values
    pub blocks : Disjoint (flat_map (event_successors s) es) DR.blocks

  apart_next : (e : Event) (es : List Event) → Apart (e ∷ es) → Apart es
  apart_next e es a =
      record {
        values = λ v m. a.values v (Memᴰ.append_right (event_operands s e) m);
        blocks = λ b m. a.blocks b (Memᴰ.append_right (event_successors s e) m);
      }

  -- two shells that are equal, entered
  entered : (l r : Owner) (L R : Numbering) (st : State) → counts_of s l ≡ counts_of s r → shell_of s ig l ≡ shell_of s ig r → Related st L R
      → Related (enter_owners s l r st) (numbered_by s (step (shell l)) L) (numbered_by s (step (shell r)) R)
  unfolding enter_owners numbered_by numbered
  entered l r L R st c h rel =
      record {
        values = entered_more EV st.mapping.values L.values R.values (values_of s l) (values_of s r) rel.values (values_count s ig l r h);
        blocks = entered_more EB st.mapping.blocks L.blocks R.blocks (block_owner l) (block_owner r) rel.blocks (blocks_count s l r c);
      }

  module _ (L R : Numbering) (es es' : List Event) (rest_l : Rest s L es DL) (rest_r : Rest s R es' DR) (st : State) (rel : Related st L R) where
    value_forth : (a b : ℕ) → (Memᴰ a DR.values → ⊥) → image st.mapping.values a ≡ b → name_of L.values a ≡ name_of R.values b
    value_forth =
        name_forth EV DL.values DR.values empty_v WL.values WR.values L.values (flat_map (event_values s) es) R.values (flat_map (event_values s) es')
        st.mapping.values rest_l.values rest_r.values rel.values

    value_back : (a b : ℕ) → name_of L.values a ≡ name_of R.values b → image st.mapping.values a ≡ b
    value_back =
        name_back EV DL.values DR.values empty_v WL.values WR.values L.values (flat_map (event_values s) es) R.values (flat_map (event_values s) es')
        st.mapping.values rest_l.values rest_r.values rel.values

    block_forth : (a b : ℕ) → (Memᴰ a DR.blocks → ⊥) → image st.mapping.blocks a ≡ b → name_of L.blocks a ≡ name_of R.blocks b
    block_forth =
        name_forth EB DL.blocks DR.blocks empty_b WL.blocks WR.blocks L.blocks (flat_map (event_blocks s) es) R.blocks (flat_map (event_blocks s) es')
        st.mapping.blocks rest_l.blocks rest_r.blocks rel.blocks

    block_back : (a b : ℕ) → name_of L.blocks a ≡ name_of R.blocks b → image st.mapping.blocks a ≡ b
    block_back =
        name_back EB DL.blocks DR.blocks empty_b WL.blocks WR.blocks L.blocks (flat_map (event_blocks s) es) R.blocks (flat_map (event_blocks s) es')
        st.mapping.blocks rest_l.blocks rest_r.blocks rel.blocks

    -- two operations' names agree exactly when their tokens are equal
    names_tokens : (l r : ℕ) → Disjoint (op_at s l).operands DR.values → Disjoint (op_at s l).successors DR.blocks
        → names_agree s l r st ≡ true → token s ig (step (names l)) L ≡ token s ig (step (names r)) R
    unfolding names_agree operands_agree successors_agree token counts_of
    names_tokens l r out_v out_b h =
        let counts : counts_of s (of_op l) ≡ counts_of s (of_op r) = (numbers_same (counts_of s (of_op l)) (counts_of s (of_op r))).0 (and_left _ _ h) in
        let agree : (operands_agree s st.mapping l r && successors_agree s st.mapping l r) ≡ true = and_right (same_list eqb (counts_of s (of_op l)) (counts_of s (of_op r))) _ h in
        let operands =
        pairs_forth {B = Name × ℕ} (λ (a b : ℕ). eqb (image st.mapping.values a) b && eqb (type_of s a) (type_of s b))
        (λ (v : ℕ). (name_of L.values v, type_of s v)) (λ (v : ℕ). (name_of R.values v, type_of s v))
        (λ (a : ℕ). Memᴰ a DR.values → ⊥)
        (λ a b out k. λ i. (value_forth a b out (eqb-true (image st.mapping.values a) b (and_left _ _ k)) i, eqb-true (type_of s a) (type_of s b) (and_right (eqb (image st.mapping.values a) b) _ k) i))
        (op_at s l).operands (op_at s r).operands (ap (λ (ns : List ℕ). get_or ns 3 0) counts) out_v (and_left _ _ agree)
        in
        let successors =
        pairs_forth (λ (a b : ℕ). eqb (image st.mapping.blocks a) b) (name_of L.blocks) (name_of R.blocks)
        (λ (a : ℕ). Memᴰ a DR.blocks → ⊥) (λ a b out k. block_forth a b out (eqb-true (image st.mapping.blocks a) b k))
        (op_at s l).successors (op_at s r).successors (ap (λ (ns : List ℕ). get_or ns 2 0) counts) out_b (and_right (operands_agree s st.mapping l r) _ agree)
        in
        λ i. names_token (counts i) (operands i) (successors i)

    tokens_names : (l r : ℕ) → token s ig (step (names l)) L ≡ token s ig (step (names r)) R → names_agree s l r st ≡ true
    unfolding names_agree operands_agree successors_agree token
    tokens_names l r h =
        and_both (same_list eqb (counts_of s (of_op l)) (counts_of s (of_op r))) (operands_agree s st.mapping l r && successors_agree s st.mapping l r)
        ((numbers_same (counts_of s (of_op l)) (counts_of s (of_op r))).1 cc)
        (and_both (operands_agree s st.mapping l r) (successors_agree s st.mapping l r)
        (pairs_back {B = Name × ℕ} (λ (a b : ℕ). eqb (image st.mapping.values a) b && eqb (type_of s a) (type_of s b))
        (λ (v : ℕ). (name_of L.values v, type_of s v)) (λ (v : ℕ). (name_of R.values v, type_of s v))
        (λ a b k. and_both (eqb (image st.mapping.values a) b) (eqb (type_of s a) (type_of s b)) (eq-eqb (image st.mapping.values a) b (value_back a b (λ i. (k i).0))) (eq-eqb (type_of s a) (type_of s b) (λ i. (k i).1)))
        (op_at s l).operands (op_at s r).operands cc)
        (pairs_back (λ (a b : ℕ). eqb (image st.mapping.blocks a) b) (name_of L.blocks) (name_of R.blocks)
        (λ a b k. eq-eqb (image st.mapping.blocks a) b (block_back a b k))
        (op_at s l).successors (op_at s r).successors cc))

    -- ---- one step of the pass

    same_state : (st' : State) → Some st ≡ Some st' → Related st' L R
    same_state st' h = subst (λ (x : State). Related x L R) (same_Some st st' h) rel

    step_forth : (e e' : Event) (st' : State) (tail : List Event) → Apart (e ∷ tail) → meet s ig e e' st ≡ Some st'
        → (token s ig e L ≡ token s ig e' R) × Related st' (numbered_by s e L) (numbered_by s e' R)
    unfolding meet token numbered_by numbered event_operands event_successors step_operands step_successors
    step_forth (step (shell l)) (step (shell r)) st' tail a h = go (same_shells s ig l r) refl h
      where
        go : (b : Bool) → same_shells s ig l r ≡ b → cond b (Some (enter_owners s l r st)) None ≡ Some st'
            → (token s ig (step (shell l)) L ≡ token s ig (step (shell r)) R) × Related st' (numbered_by s (step (shell l)) L) (numbered_by s (step (shell r)) R)
        go true e k =
            let p = shells→≡ s ig l r e in (
              λ i. shell_token (p.0 i) (p.1 i),
              subst (λ (x : State). Related x (numbered_by s (step (shell l)) L) (numbered_by s (step (shell r)) R)) (same_Some (enter_owners s l r st) st' k) (entered l r L R st p.0 p.1 rel),
            )
        go false e k = absurd (none-some st' k)
    step_forth (step (shell l)) (step (names r)) st' tail a h = absurd (none-some st' h)
    step_forth (step (names l)) (step (shell r)) st' tail a h = absurd (none-some st' h)
    step_forth (step (names l)) (step (names r)) st' tail a h = go (names_agree s l r st) refl h
      where
        go : (b : Bool) → names_agree s l r st ≡ b → cond b (Some st) None ≡ Some st'
            → (token s ig (step (names l)) L ≡ token s ig (step (names r)) R) × Related st' L R
        go true e k =
            (names_tokens l r (λ v m. a.values v (Memᴰ.append_left (flat_map (event_operands s) tail) m)) (λ b m. a.blocks b (Memᴰ.append_left (flat_map (event_successors s) tail) m)) e, same_state st' k)
        go false e k = absurd (none-some st' k)
    step_forth (step (shell l)) (step (counted k)) st' tail a h = absurd (none-some st' h)
    step_forth (step (names l)) (step (counted k)) st' tail a h = absurd (none-some st' h)
    step_forth (step (counted j)) (step (shell r)) st' tail a h = absurd (none-some st' h)
    step_forth (step (counted j)) (step (names r)) st' tail a h = absurd (none-some st' h)
    step_forth (step (counted j)) (step (counted k)) st' tail a h = (refl, same_state st' h)
    step_forth (step (counted j)) more st' tail a h = absurd (none-some st' h)
    step_forth (step (counted j)) done st' tail a h = absurd (none-some st' h)
    step_forth (step (shell l)) more st' tail a h = absurd (none-some st' h)
    step_forth (step (names l)) more st' tail a h = absurd (none-some st' h)
    step_forth (step (shell l)) done st' tail a h = absurd (none-some st' h)
    step_forth (step (names l)) done st' tail a h = absurd (none-some st' h)
    step_forth more (step y) st' tail a h = absurd (none-some st' h)
    step_forth more more st' tail a h = (refl, same_state st' h)
    step_forth more done st' tail a h = absurd (none-some st' h)
    step_forth done (step y) st' tail a h = absurd (none-some st' h)
    step_forth done more st' tail a h = absurd (none-some st' h)
    step_forth done done st' tail a h = (refl, same_state st' h)

    -- what the step came to, where the tokens are equal
    record Met (e e' : Event) : Type 0 where
      state : State
      met : meet s ig e e' st ≡ Some state
      related : Related state (numbered_by s e L) (numbered_by s e' R)

    step_back : (e e' : Event) → token s ig e L ≡ token s ig e' R → Met e e'
    unfolding meet token numbered_by numbered
    step_back (step (shell l)) (step (shell r)) h =
        let c : counts_of s l ≡ counts_of s r = cc in
        let k : shell_of s ig l ≡ shell_of s ig r = cc in
        record { state = enter_owners s l r st; met = rw (≡→shells s ig l r c k); related = entered l r L R st c k rel }
    step_back (step (shell l)) (step (names r)) h = impossible cc
    step_back (step (names l)) (step (shell r)) h = impossible cc
    step_back (step (names l)) (step (names r)) h = record { state = st; met = rw (tokens_names l r h); related = rel }
    step_back (step (shell l)) (step (counted k)) h = impossible cc
    step_back (step (names l)) (step (counted k)) h = impossible cc
    step_back (step (counted j)) (step (shell r)) h = impossible cc
    step_back (step (counted j)) (step (names r)) h = impossible cc
    step_back (step (counted j)) (step (counted k)) h = record { state = st; met = refl; related = rel }
    step_back (step (counted j)) more h = impossible cc
    step_back (step (counted j)) done h = impossible cc
    step_back more (step (counted k)) h = impossible cc
    step_back done (step (counted k)) h = impossible cc
    step_back (step (shell l)) more h = impossible cc
    step_back (step (names l)) more h = impossible cc
    step_back (step (shell l)) done h = impossible cc
    step_back (step (names l)) done h = impossible cc
    step_back more (step (shell r)) h = impossible cc
    step_back more (step (names r)) h = impossible cc
    step_back more more h = record { state = st; met = refl; related = rel }
    step_back more done h = impossible cc
    step_back done (step (shell r)) h = impossible cc
    step_back done (step (names r)) h = impossible cc
    step_back done more h = impossible cc
    step_back done done h = record { state = st; met = refl; related = rel }

  -- ---- the whole pass

  pub tokens_equal : (es es' : List Event) (L R : Numbering) (st st' : State) → Rest s L es DL → Rest s R es' DR → Related st L R → Apart es
      → lock s ig es es' st ≡ Some st' → tokens s ig es L ≡ tokens s ig es' R
  unfolding lock tokens
  tokens_equal [] [] L R st st' rest_l rest_r rel a h = refl
  tokens_equal [] (e' ∷ es') L R st st' rest_l rest_r rel a h = absurd (none-some st' h)
  tokens_equal (e ∷ es) [] L R st st' rest_l rest_r rel a h = absurd (none-some st' h)
  tokens_equal (e ∷ es) (e' ∷ es') L R st st' rest_l rest_r rel a h =
      go (meet s ig e e' st) refl (λ st₁ rel₁ k. tokens_equal es es' (numbered_by s e L) (numbered_by s e' R) st₁ st' (rest_next s L DL e es rest_l) (rest_next s R DR e' es' rest_r) rel₁ (apart_next e es a) k) h
    where
      go : (o : Option State) → meet s ig e e' st ≡ o
          → ((st₁ : State) → Related st₁ (numbered_by s e L) (numbered_by s e' R) → lock s ig es es' st₁ ≡ Some st' → tokens s ig es (numbered_by s e L) ≡ tokens s ig es' (numbered_by s e' R))
          → and_then o (lock s ig es es') ≡ Some st'
          → token s ig e L ∷ tokens s ig es (numbered_by s e L) ≡ token s ig e' R ∷ tokens s ig es' (numbered_by s e' R)
      go None m rest k = absurd (none-some st' k)
      go (Some st₁) m rest k =
          let q = step_forth L R (e ∷ es) (e' ∷ es') rest_l rest_r st rel e e' st₁ es a m in
          ap₂ ◌∷◌ q.0 (rest st₁ q.1 k)

  pub lock_goes_on : (es es' : List Event) (L R : Numbering) (st : State) → Rest s L es DL → Rest s R es' DR → Related st L R
      → tokens s ig es L ≡ tokens s ig es' R → (st' : State) × (lock s ig es es' st ≡ Some st')
  unfolding lock tokens
  lock_goes_on [] [] L R st rest_l rest_r rel h = (st, refl)
  lock_goes_on [] (e' ∷ es') L R st rest_l rest_r rel h = absurd (nil≢cons h)
  lock_goes_on (e ∷ es) [] L R st rest_l rest_r rel h = absurd (cons≢nil h)
  lock_goes_on (e ∷ es) (e' ∷ es') L R st rest_l rest_r rel h =
      let m = step_back L R (e ∷ es) (e' ∷ es') rest_l rest_r st rel e e' (head-eq_of_cons-eq h) in
      let w = lock_goes_on es es' (numbered_by s e L) (numbered_by s e' R) m.state (rest_next s L DL e es rest_l) (rest_next s R DR e' es' rest_r) m.related (tail-eq_of_cons-eq h) in
      (w.0, ap (λ (o : Option State). and_then o (lock s ig es es')) m.met ∙ w.1)
