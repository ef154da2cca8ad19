-- Two lists of events that go pair by pair come apart where their parts end: each list item and each list's end has its sign. So what is
-- known of their pairs is known part by part. Assumes nothing.
use Prim.Native.Nat.{ℕ, zero, suc}
use native.Mathlib.Omega.{arith}
use mathlib.Core.Bool.{true}
use mathlib.Core.List.Memᴰ
use mathlib.Core.List.{List, [], ◌∷◌, ◌++◌, append_assoc, append-nil, Memᴰ}
use mathlib.Core.Logic.{inl, inr}
use mathlib.Core.Path.{◌≡◌, sym, subst, subst₂}
use Rattle.rules.specs.Store.{Store, ops_of, blocks_of, regions_of, sound}
use Rattle.rules.specs.declared.types.Owner.{Owner}
use Rattle.rules.specs.declared.types.Owner.TheVariants.{Op as of_op, Block as of_block}
use Rattle.rules.specs.Fragments.{levels, shell}
use Rattle.rules.specs.declared.types.Ignore.{Ignore}
use Rattle.rules.specs.Mapping.{Mapping}
use Rattle.rules.specs.Form.{Event, list_events, one, shell_events, op_events, blocks_events, region_events}
use Rattle.rules.proofs.Form.Tested.{Pairs}
use Rattle.rules.proofs.Walking.Enough.{region_events_enough}
use Rattle.semantics.proofs.Pairwise.{Shelled, NamesAlike, Beside}

-- ---- lists pair by pair

pub pairs_both : (P Q : ℕ → ℕ → Type 0) (xs ys : List ℕ) → Pairs P xs ys → Pairs Q xs ys → Pairs (λ (x y : ℕ). P x y × Q x y) xs ys
pairs_both P Q [] [] p q = tt
pairs_both P Q [] (y ∷ ys) p q = p
pairs_both P Q (x ∷ xs) [] p q = p
pairs_both P Q (x ∷ xs) (y ∷ ys) p q = ((p.0, q.0), pairs_both P Q xs ys p.1 q.1)

pub pairs_imp : (P Q : ℕ → ℕ → Type 0) → ((x y : ℕ) → P x y → Q x y) → (xs ys : List ℕ) → Pairs P xs ys → Pairs Q xs ys
pairs_imp P Q f [] [] p = tt
pairs_imp P Q f [] (y ∷ ys) p = p
pairs_imp P Q f (x ∷ xs) [] p = p
pairs_imp P Q f (x ∷ xs) (y ∷ ys) p = (f x y p.0, pairs_imp P Q f xs ys p.1)

pub pair_at : (P : ℕ → ℕ → Type 0) (xs ys : List ℕ) → Pairs P xs ys → {x : ℕ} → Memᴰ x xs → (y : ℕ) × P x y
pair_at P [] ys p m = absurd (Memᴰ.not-nil m)
pair_at P (z ∷ xs) [] p m = absurd p
pair_at P (z ∷ xs) (y ∷ ys) p {x} m =
    elim (Memᴰ.cases_cons m) [ inl e ↦ (y, subst (λ (t : ℕ). P t y) (sym e) p.0) | inr k ↦ pair_at P xs ys p.1 k ]

module _ (s : Store) (ig : Ignore) (m : Mapping) where
  abbrev pub B : List Event → List Event → Type 0
  B = Beside s ig m

  pub joined : (a a' b b' : List Event) → B a a' → B b b' → B (a ++ b) (a' ++ b')
  joined [] [] b b' h k = k
  joined [] (e' ∷ a') b b' h k = absurd h
  joined (e ∷ a) [] b b' h k = absurd h
  joined (e ∷ a) (e' ∷ a') b b' h k = (h.0, joined a a' b b' h.1 k)

  -- whatever follows
  abbrev pub Parted : {A : Type 0} → (A → List Event) → Type 0
  Parted {A} f = (x y : A) (E E' : List Event) → B (f x ++ E) (f y ++ E') → B (f x) (f y) × B E E'

  parted_both : {A : Type 0} (f g : A → List Event) → Parted f → Parted g → Parted (λ (x : A). f x ++ g x)
  parted_both f g p q x y E E' h =
      let a = p x y (g x ++ E) (g y ++ E') (subst₂ B (append_assoc (f x) (g x) E) (append_assoc (f y) (g y) E') h) in
      let b = q x y E E' a.1 in
      (joined (f x) (f y) (g x) (g y) a.0 b.0, b.1)

  pub list_parts : (f : ℕ → List Event) → Parted f → (xs ys : List ℕ) (E E' : List Event) → B (list_events f xs ++ E) (list_events f ys ++ E')
      → Pairs (λ (x y : ℕ). B (f x) (f y)) xs ys × B E E'
  unfolding list_events
  list_parts f p [] [] E E' h = (tt, h.1)
  list_parts f p [] (y ∷ ys) E E' h = absurd h.0
  list_parts f p (x ∷ xs) [] E E' h = absurd h.0
  list_parts f p (x ∷ xs) (y ∷ ys) E E' h =
      let a = p x y (list_events f xs ++ E) (list_events f ys ++ E')
      (subst₂ B (append_assoc (f x) (list_events f xs) E) (append_assoc (f y) (list_events f ys) E') h.1) in
      let b = list_parts f p xs ys E E' a.1 in
      ((a.0, b.0), b.1)

  pub list_joined : (f : ℕ → List Event) (xs ys : List ℕ) → Pairs (λ (x y : ℕ). B (f x) (f y)) xs ys → B (list_events f xs) (list_events f ys)
  unfolding list_events
  list_joined f [] [] p = (tt, tt)
  list_joined f [] (y ∷ ys) p = absurd p
  list_joined f (x ∷ xs) [] p = absurd p
  list_joined f (x ∷ xs) (y ∷ ys) p = (tt, joined (f x) (f y) (list_events f xs) (list_events f ys) p.0 (list_joined f xs ys p.1))

  parted_list : (f : ℕ → List Event) → Parted f → Parted (list_events f)
  parted_list f p xs ys E E' h = let a = list_parts f p xs ys E E' h in (list_joined f xs ys a.0, a.1)

  pub parted_one : (w : ℕ → Owner) → Parted (one (λ (n : ℕ). shell (w n)))
  parted_one w x y E E' h = ((h.0, tt), h.1)

  parted_shells : (w : ℕ → Owner) → Parted (shell_events w)
  unfolding shell_events
  parted_shells w xs ys E E' h = let a = parted_list (one (λ (n : ℕ). shell (w n))) (parted_one w) xs ys E E' h.1 in ((tt, a.0), a.1)

  pub parted_op : (g : ℕ → List Event) → Parted g → Parted (op_events s g)
  unfolding op_events
  parted_op g p n n' E E' h = let a = parted_list g p (regions_of s n) (regions_of s n') E E' h.1 in ((h.0, a.0), a.1)

  abbrev op_shells : ℕ → List Event
  op_shells b = shell_events of_op (ops_of s b)

  parted_op_shells : Parted op_shells
  parted_op_shells b c = parted_shells of_op (ops_of s b) (ops_of s c)

  parted_ops : (full : ℕ → List Event) → Parted full → Parted (λ (b : ℕ). list_events full (ops_of s b))
  parted_ops full p b c = parted_list full p (ops_of s b) (ops_of s c)

  parted_blocks : (full : ℕ → List Event) → Parted full → Parted (blocks_events s full)
  unfolding blocks_events
  parted_blocks full p =
      parted_both (λ (bs : List ℕ). shell_events of_block bs ++ list_events op_shells bs) (list_events (λ (b : ℕ). list_events full (ops_of s b)))
      (parted_both (shell_events of_block) (list_events op_shells) (parted_shells of_block) (parted_list op_shells parted_op_shells))
      (parted_list (λ (b : ℕ). list_events full (ops_of s b)) (parted_ops full p))

  pub parted_region : (k : ℕ) → Parted (region_events s k)
  unfolding region_events
  parted_region zero r q E E' h = (tt, h)
  parted_region (suc k) r q E E' h = parted_blocks (op_events s (region_events s k)) (parted_op (region_events s k) (parted_region k)) (blocks_of s r) (blocks_of s q) E E' h

  -- ---- what is known of two regions, operations in full, and lists of blocks

  abbrev pub Regions : ℕ → ℕ → Type 0
  Regions l r = B (region_events s levels l) (region_events s levels r)

  pub record Full (l r : ℕ) : Type 0 where
    pub named : NamesAlike s ig m l r
    pub regions : Pairs Regions (regions_of s l) (regions_of s r)

  pub record Lists (bs cs : List ℕ) : Type 0 where
    pub blocks : Pairs (λ (b c : ℕ). Shelled s ig m (of_block b) (of_block c)) bs cs
    pub ops : Pairs (λ (b c : ℕ). Pairs (λ (l r : ℕ). Shelled s ig m (of_op l) (of_op r)) (ops_of s b) (ops_of s c)) bs cs
    pub full : Pairs (λ (b c : ℕ). Pairs Full (ops_of s b) (ops_of s c)) bs cs

  pub list_whole : (f : ℕ → List Event) → Parted f → (xs ys : List ℕ) → B (list_events f xs) (list_events f ys) → Pairs (λ (x y : ℕ). B (f x) (f y)) xs ys
  list_whole f p xs ys h = (list_parts f p xs ys [] [] (subst₂ B (sym (append-nil (list_events f xs))) (sym (append-nil (list_events f ys))) h)).0

  shells_whole : (w : ℕ → Owner) (xs ys : List ℕ) → B (shell_events w xs) (shell_events w ys) → Pairs (λ (x y : ℕ). Shelled s ig m (w x) (w y)) xs ys
  unfolding shell_events
  shells_whole w xs ys h = pairs_imp _ _ (λ x y k. k.0) xs ys (list_whole (one (λ (n : ℕ). shell (w n))) (parted_one w) xs ys h.1)

  pub op_full : (l r : ℕ) → B (op_events s (region_events s levels) l) (op_events s (region_events s levels) r) → Full l r
  unfolding op_events
  op_full l r h = record { named = h.0; regions = list_whole (region_events s levels) (parted_region levels) (regions_of s l) (regions_of s r) h.1 }

  abbrev full_of : ℕ → List Event
  full_of = op_events s (region_events s levels)

  pub lists : (bs cs : List ℕ) → B (blocks_events s full_of bs) (blocks_events s full_of cs) → Lists bs cs
  unfolding blocks_events
  lists bs cs h =
      let fulls = λ (b : ℕ). list_events full_of (ops_of s b) in
      let a = parted_both (shell_events of_block) (list_events op_shells) (parted_shells of_block) (parted_list op_shells parted_op_shells) bs cs
      (list_events fulls bs) (list_events fulls cs) h in
      let b = parted_shells of_block bs cs (list_events op_shells bs) (list_events op_shells cs) a.0 in
      record {
        blocks = shells_whole of_block bs cs b.0;
        ops = pairs_imp _ _ (λ x y. shells_whole of_op (ops_of s x) (ops_of s y)) bs cs (list_whole op_shells parted_op_shells bs cs b.1);
        full =
            pairs_imp _ _ (λ x y k. pairs_imp _ _ op_full (ops_of s x) (ops_of s y) (list_whole full_of (parted_op (region_events s levels) (parted_region levels)) (ops_of s x) (ops_of s y) k)) bs cs
            (list_whole fulls (parted_ops full_of (parted_op (region_events s levels) (parted_region levels))) bs cs a.1);
      }

  pub region_lists : sound s ≡ true → (l r : ℕ) → Regions l r → Lists (blocks_of s l) (blocks_of s r)
  unfolding region_events
  region_lists sd l r h =
      lists (blocks_of s l) (blocks_of s r)
      (subst₂ B (region_events_enough s sd levels (suc levels) (omega arith) (omega arith) l) (region_events_enough s sd levels (suc levels) (omega arith) (omega arith) r) h)
