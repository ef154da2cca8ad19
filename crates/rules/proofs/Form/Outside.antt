-- Names of what is outside: where two fragments have equal canonical forms, each names what the other names and doesn't define, at the same
-- places, since such a name stands in the form by its store number. Assumes nothing.
use Prim.Native.Nat.{ℕ}
use mathlib.Core.List.Memᴰ
use mathlib.Core.List.{List, [], ◌∷◌, map, Memᴰ, head-eq_of_cons-eq, tail-eq_of_cons-eq, nil≢cons}
use mathlib.Core.Logic.{◌⊎◌, inl, ⊎_elim}
use Rattle.std.specs.Prelude.{Option, None, Some}
use mathlib.Core.Path.{◌≡◌, sym, subst}
use Rattle.rules.specs.Lists.{position}
use Rattle.std.specs.List.{flat_map}
use Rattle.rules.specs.Store.{Store, op_at, type_of}
use Rattle.rules.specs.Fragments.{shell, names, counted, step_operands, step_successors, defines_values, defines_blocks, names_values, names_blocks}
use Rattle.rules.specs.declared.types.Sort.{Sort}
use Rattle.rules.specs.declared.types.Ignore.{Ignore}
use Rattle.rules.specs.Hash.{Numbering, no_numbers, numbered, name_at, name_of}
use Rattle.rules.specs.declared.types.Name.{Name}
use Rattle.rules.specs.Form.{Event, step, more, done, events, numbered_by, token, tokens, canonical}
use Rattle.rules.proofs.Basics.Tests.{impossible}
use Rattle.rules.proofs.Form.Images.{position_out}
use Rattle.rules.proofs.Form.Tokens.{event_values, event_blocks, event_operands, event_successors}
use Rattle.rules.proofs.Form.Canonical.{all_defined, events_rest, events_name_values, events_name_blocks}

-- ---- a name that has no walk number is only its own

same_name : (L R : List ℕ) (u v : ℕ) → (Memᴰ v R → ⊥) → name_of L u ≡ name_of R v → u ≡ v
unfolding name_of name_at
same_name L R u v out e = go (position u L) (position v R) (position_out v R out) e
  where
    go : (o q : Option ℕ) → q ≡ None → name_at o u ≡ name_at q v → u ≡ v
    go None None p g = cc
    go (Some i) None p g = impossible cc
    go o (Some j) p g = impossible cc

-- a name with its type
abbrev pub typed : Store → List ℕ → ℕ → Name × ℕ
typed s xs v = (name_of xs v, type_of s v)

-- ---- along two lists of events with equal tokens

module _ (s : Store) (ig : Ignore) where
  -- of values or of blocks: what is numbered, and what an event defines and names
  module _ (numbers : Numbering → List ℕ) (defines uses : Event → List ℕ)
      (next : (e : Event) (N : Numbering) (v : ℕ) → Memᴰ v (numbers (numbered_by s e N)) → Memᴰ v (numbers N) ⊎ Memᴰ v (defines e))
      (same :
      (e e' : Event) (L R : Numbering) → token s ig e L ≡ token s ig e' R → (v : ℕ) → (Memᴰ v (numbers R) → ⊥)
      → Memᴰ v (uses e') → Memᴰ v (uses e)) where
    along : (es es' : List Event) (L R : Numbering) → tokens s ig es L ≡ tokens s ig es' R → (v : ℕ) → (Memᴰ v (numbers R) → ⊥)
        → (Memᴰ v (flat_map defines es') → ⊥) → Memᴰ v (flat_map uses es') → Memᴰ v (flat_map uses es)
    unfolding tokens
    along es [] L R h v out undefined m = absurd (Memᴰ.not-nil m)
    along [] (e' ∷ es') L R h v out undefined m = absurd (nil≢cons h)
    along (e ∷ es) (e' ∷ es') L R h v out undefined m =
        ⊎_elim
        (λ k. Memᴰ.append_left (flat_map uses es) (same e e' L R (head-eq_of_cons-eq h) v out k))
        (λ k. Memᴰ.append_right (uses e)
        (along es es' (numbered_by s e L) (numbered_by s e' R) (tail-eq_of_cons-eq h) v
        (λ i. ⊎_elim out (λ d. undefined (Memᴰ.append_left (flat_map defines es') d)) (next e' R v i))
        (λ d. undefined (Memᴰ.append_right (defines e') d))
        k))
        (Memᴰ.append_cases (uses e') m)

  -- ---- of values

  next_values : (e : Event) (N : Numbering) (v : ℕ) → Memᴰ v (numbered_by s e N).values → Memᴰ v N.values ⊎ Memᴰ v (event_values s e)
  unfolding numbered_by numbered event_values
  next_values (step (shell w)) N v m = Memᴰ.append_cases N.values m
  next_values (step (names n)) N v m = inl m
  next_values (step (counted k)) N v m = inl m
  next_values more N v m = inl m
  next_values done N v m = inl m

  same_values : (e e' : Event) (L R : Numbering) → token s ig e L ≡ token s ig e' R → (v : ℕ) → (Memᴰ v R.values → ⊥)
      → Memᴰ v (event_operands s e') → Memᴰ v (event_operands s e)
  unfolding token event_operands step_operands
  same_values e (step (shell w)) L R h v out m = absurd (Memᴰ.not-nil m)
  same_values e (step (counted k)) L R h v out m = absurd (Memᴰ.not-nil m)
  same_values e more L R h v out m = absurd (Memᴰ.not-nil m)
  same_values e done L R h v out m = absurd (Memᴰ.not-nil m)
  same_values (step (names l)) (step (names r)) L R h v out m =
      let g : map (typed s L.values) (op_at s l).operands ≡ map (typed s R.values) (op_at s r).operands = cc in
      let w = Memᴰ.of_map (typed s L.values) (op_at s l).operands (subst (Memᴰ (typed s R.values v)) (sym g) (Memᴰ.map (typed s R.values) m)) in
      Memᴰ.cast (sym (same_name L.values R.values w.0 v out (λ i. (w.2 i).0))) w.1
  same_values (step (shell w)) (step (names r)) L R h v out m = impossible cc
  same_values (step (counted k)) (step (names r)) L R h v out m = impossible cc
  same_values more (step (names r)) L R h v out m = impossible cc
  same_values done (step (names r)) L R h v out m = impossible cc

  -- ---- of blocks

  next_blocks : (e : Event) (N : Numbering) (b : ℕ) → Memᴰ b (numbered_by s e N).blocks → Memᴰ b N.blocks ⊎ Memᴰ b (event_blocks s e)
  unfolding numbered_by numbered event_blocks
  next_blocks (step (shell w)) N b m = Memᴰ.append_cases N.blocks m
  next_blocks (step (names n)) N b m = inl m
  next_blocks (step (counted k)) N b m = inl m
  next_blocks more N b m = inl m
  next_blocks done N b m = inl m

  same_blocks : (e e' : Event) (L R : Numbering) → token s ig e L ≡ token s ig e' R → (b : ℕ) → (Memᴰ b R.blocks → ⊥)
      → Memᴰ b (event_successors s e') → Memᴰ b (event_successors s e)
  unfolding token event_successors step_successors
  same_blocks e (step (shell w)) L R h b out m = absurd (Memᴰ.not-nil m)
  same_blocks e (step (counted k)) L R h b out m = absurd (Memᴰ.not-nil m)
  same_blocks e more L R h b out m = absurd (Memᴰ.not-nil m)
  same_blocks e done L R h b out m = absurd (Memᴰ.not-nil m)
  same_blocks (step (names l)) (step (names r)) L R h b out m =
      let g : map (name_of L.blocks) (op_at s l).successors ≡ map (name_of R.blocks) (op_at s r).successors = cc in
      let w = Memᴰ.of_map (name_of L.blocks) (op_at s l).successors (subst (Memᴰ (name_of R.blocks b)) (sym g) (Memᴰ.map (name_of R.blocks) m)) in
      Memᴰ.cast (sym (same_name L.blocks R.blocks w.0 b out w.2)) w.1
  same_blocks (step (shell w)) (step (names r)) L R h b out m = impossible cc
  same_blocks (step (counted k)) (step (names r)) L R h b out m = impossible cc
  same_blocks more (step (names r)) L R h b out m = impossible cc
  same_blocks done (step (names r)) L R h b out m = impossible cc

  -- ---- of fragments

  module _ (f : Sort) (x y : ℕ) (h : canonical s ig f x ≡ canonical s ig f y) where
    pub outside_values : (v : ℕ) → (Memᴰ v (defines_values s f y) → ⊥) → Memᴰ v (names_values s f y) → Memᴰ v (names_values s f x)
    unfolding canonical no_numbers all_defined
    outside_values v out m =
        subst (Memᴰ v) (events_name_values s f x)
        (along (λ (N : Numbering). N.values) (event_values s) (event_operands s) next_values same_values (events s f x) (events s f y) no_numbers no_numbers h v
        (λ k. Memᴰ.not-nil k)
        (λ k. out (subst (Memᴰ v) (events_rest s f y).values k))
        (subst (Memᴰ v) (sym (events_name_values s f y)) m))

    pub outside_blocks : (b : ℕ) → (Memᴰ b (defines_blocks s f y) → ⊥) → Memᴰ b (names_blocks s f y) → Memᴰ b (names_blocks s f x)
    unfolding canonical no_numbers all_defined
    outside_blocks b out m =
        subst (Memᴰ b) (events_name_blocks s f x)
        (along (λ (N : Numbering). N.blocks) (event_blocks s) (event_successors s) next_blocks same_blocks (events s f x) (events s f y) no_numbers no_numbers h b
        (λ k. Memᴰ.not-nil k)
        (λ k. out (subst (Memᴰ b) (events_rest s f y).blocks k))
        (subst (Memᴰ b) (sym (events_name_blocks s f y)) m))
