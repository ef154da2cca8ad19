-- Two walks side by side, of which the second has the first one's shells and its names, renamed: their tokens are equal exactly where each name that is
-- not numbered yet keeps its number. Assumes nothing.
use Prim.Native.Nat.{ℕ, ◌<◌}
use mathlib.Core.Bool.{true, false, cond}
use mathlib.Core.List.Memᴰ
use mathlib.Core.List.{List, [], ◌∷◌, ◌++◌, map, map-append, Memᴰ, head-eq_of_cons-eq, tail-eq_of_cons-eq}
use mathlib.Core.Logic.{◌⊎◌, inl, inr, ⊎_elim}
use Rattle.std.specs.Prelude.{Option, None, Some}
use mathlib.Core.Path.{◌≡◌, refl, sym, ap, ap₂, ◌∙◌}
use borrow.Author.Tests.{eqb-true, eq-eqb, ne_eqb, eqb-false}
use lib.Dec.{eqb}
use lib.ListN.{length}
use Rattle.rules.specs.Lists.{later, position}
use Rattle.rules.specs.Store.{Store, op_at, type_of, values_of}
use Rattle.rules.specs.declared.types.Owner.{Owner}
use Rattle.rules.specs.declared.types.Owner.TheVariants.{Op as of_op}
use Rattle.rules.specs.Fragments.{shell, names, counted, block_owner}
use Rattle.rules.specs.Shells.{shell_of, counts_of}
use Rattle.rules.specs.declared.types.Ignore.{Ignore}
use Rattle.rules.specs.Hash.{Numbering, numbered, name_at, name_of}
use Rattle.rules.specs.Form.{Event, step, more, done, shell_token, names_token, numbered_by, token, tokens}
use Rattle.rules.proofs.Basics.Cut.{map_through}
use Rattle.rules.proofs.Basics.Tests.{decided}
use Rattle.rules.proofs.Soundness.Children.{values_in_lem}
use Rattle.rules.proofs.Form.Outside.{typed}
use Rattle.rules.proofs.Copying.Along.{Along, over, pair}

-- ---- places of renamed numbers

position_renamed : (c : ℕ → ℕ) (v : ℕ) (xs : List ℕ) → ((x : ℕ) → Memᴰ x xs → c v ≡ c x → v ≡ x) → position (c v) (map c xs) ≡ position v xs
unfolding position
position_renamed c v [] once = refl
position_renamed c v (x ∷ xs) once = go (decided (eqb v x)) (position_renamed c v xs (λ y m. once y (Memᴰ.tail m)))
  where
    go : (eqb v x ≡ true) ⊎ (eqb v x ≡ false) → position (c v) (map c xs) ≡ position v xs
        → cond (eqb (c v) (c x)) (Some 0) (later (position (c v) (map c xs))) ≡ cond (eqb v x) (Some 0) (later (position v xs))
    go (inl e) r = rw (e, eq-eqb (c v) (c x) (ap c (eqb-true v x e)))
    go (inr e) r = rw (r, e, ne_eqb (c v) (c x) (λ f. eqb-false v x e (once x (Memᴰ.head refl) f)))

-- ---- names

-- those that have no number yet keep their own
unfoldable pub KeptNames : (ℕ → ℕ) → List ℕ → List ℕ → Type 0
KeptNames c sofar ns = (v : ℕ) → Memᴰ v ns → position v sofar ≡ None → c v ≡ v

module _ (c : ℕ → ℕ) (v : ℕ) (xs : List ℕ) (once : (x : ℕ) → Memᴰ x xs → c v ≡ c x → v ≡ x) where
  name_same : (position v xs ≡ None → c v ≡ v) → name_of xs v ≡ name_of (map c xs) (c v)
  unfolding name_of name_at
  name_same keeps = rw (position_renamed c v xs once) (go (position v xs) refl)
    where
      go : (o : Option ℕ) → position v xs ≡ o → name_at (position v xs) v ≡ name_at (position v xs) (c v)
      go None e = rw (e, keeps e)
      go (Some i) e = rw e

  name_keeps : name_of xs v ≡ name_of (map c xs) (c v) → position v xs ≡ None → c v ≡ v
  unfolding name_of name_at
  name_keeps e p =
      let f : name_at None v ≡ name_at None (c v) = ap (λ (o : Option ℕ). name_at o v) (sym p) ∙ e ∙ ap (λ (o : Option ℕ). name_at o (c v)) (position_renamed c v xs once ∙ p) in
      cc

map_each : {A B C : Type 0} (f : A → C) (h : B → C) (g : A → B) (xs : List A) → map f xs ≡ map h (map g xs) → (x : A) → Memᴰ x xs → f x ≡ h (g x)
map_each f h g [] e x m = absurd (Memᴰ.not-nil m)
map_each f h g (y ∷ xs) e x m =
    ⊎_elim (λ q. ap f q ∙ head-eq_of_cons-eq e ∙ ap (λ (z : _). h (g z)) (sym q)) (λ k. map_each f h g xs (tail-eq_of_cons-eq e) x k) (Memᴰ.cases_cons m)

-- ---- pairs of events

module _ (s t : Store) (vc bc : ℕ → ℕ) (wc : Owner → Owner) where
  pub record OwnerPair (w w' : Owner) : Type 0 where
    pub owner : w' ≡ wc w
    pub values : values_of t w' ≡ map vc (values_of s w)
    pub blocks : block_owner w' ≡ map bc (block_owner w)
    pub blocks_in : (b : ℕ) → Memᴰ b (block_owner w) → b < length s.blocks
    pub counts : counts_of t w' ≡ counts_of s w
    pub shells : (ig : Ignore) → shell_of t ig w' ≡ shell_of s ig w

  pub record NamesPair (m m' : ℕ) : Type 0 where
    pub counts : counts_of t (of_op m') ≡ counts_of s (of_op m)
    pub operands : (op_at t m').operands ≡ map vc (op_at s m).operands
    pub operands_in : (v : ℕ) → Memᴰ v (op_at s m).operands → v < length s.values
    pub successors : (op_at t m').successors ≡ map bc (op_at s m).successors
    pub successors_in : (b : ℕ) → Memᴰ b (op_at s m).successors → b < length s.blocks

  pub data Carries : Event → Event → Type 0 where
    shelled : {w w' : Owner} → OwnerPair w w' → Carries (step (shell w)) (step (shell w'))
    named : {m m' : ℕ} → NamesPair m m' → Carries (step (names m)) (step (names m'))
    begun : {j k : ℕ} → Carries (step (counted j)) (step (counted k))
    mores : Carries more more
    dones : Carries done done

  -- the renaming keeps types, and tells numbers of the store apart
  pub record Renaming : Type 0 where
    pub types : (v : ℕ) → v < length s.values → type_of t (vc v) ≡ type_of s v
    pub typed : (v : ℕ) → v < length s.values → vc v < length t.values
    pub values_once : (a b : ℕ) → a < length s.values → b < length s.values → vc a ≡ vc b → a ≡ b
    pub blocks_once : (a b : ℕ) → a < length s.blocks → b < length s.blocks → bc a ≡ bc b → a ≡ b

  -- what is numbered in the second walk is what is numbered in the first, renamed
  pub record Mapped (N N' : Numbering) : Type 0 where
    pub values : N'.values ≡ map vc N.values
    pub values_in : (v : ℕ) → Memᴰ v N.values → v < length s.values
    pub blocks : N'.blocks ≡ map bc N.blocks
    pub blocks_in : (b : ℕ) → Memᴰ b N.blocks → b < length s.blocks

  mapped_next : (N N' : Numbering) (e e' : Event) → Carries e e' → Mapped N N' → Mapped (numbered_by s e N) (numbered_by t e' N')
  unfolding numbered_by numbered
  mapped_next N N' e e' (shelled {w = w} {w' = w'} p) q =
      record {
        values = ap₂ ◌++◌ q.values p.values ∙ sym (map-append vc N.values (values_of s w));
        values_in = λ v m. ⊎_elim (q.values_in v) (λ k. (values_in_lem s w k).0) (Memᴰ.append_cases N.values m);
        blocks = ap₂ ◌++◌ q.blocks p.blocks ∙ sym (map-append bc N.blocks (block_owner w));
        blocks_in = λ b m. ⊎_elim (q.blocks_in b) (λ k. p.blocks_in b k) (Memᴰ.append_cases N.blocks m);
      }
  mapped_next N N' e e' (named p) q = q
  mapped_next N N' e e' begun q = q
  mapped_next N N' e e' mores q = q
  mapped_next N N' e e' dones q = q

  -- the names of an event that have no number yet keep their own
  unfoldable pub EventKept : Event → Numbering → Type 0
  EventKept (step (shell w)) N = Unit {0}
  EventKept (step (names m)) N = KeptNames vc N.values (op_at s m).operands × KeptNames bc N.blocks (op_at s m).successors
  EventKept (step (counted k)) N = Unit {0}
  EventKept more N = Unit {0}
  EventKept done N = Unit {0}

  unfoldable pub Kept : List Event → Numbering → Type 0
  Kept [] N = Unit {0}
  Kept (e ∷ es) N = EventKept e N × Kept es (numbered_by s e N)

  -- ---- tokens

  module _ (ren : Renaming) (ig : Ignore) where
    module _ (N N' : Numbering) (q : Mapped N N') (m m' : ℕ) (p : NamesPair m m') where
      value_once : (v : ℕ) → Memᴰ v (op_at s m).operands → (x : ℕ) → Memᴰ x N.values → vc v ≡ vc x → v ≡ x
      value_once v k x i = ren.values_once v x (p.operands_in v k) (q.values_in x i)

      block_once : (b : ℕ) → Memᴰ b (op_at s m).successors → (x : ℕ) → Memᴰ x N.blocks → bc b ≡ bc x → b ≡ x
      block_once b k x i = ren.blocks_once b x (p.successors_in b k) (q.blocks_in x i)

      names_same : EventKept (step (names m)) N → token s ig (step (names m)) N ≡ token t ig (step (names m')) N'
      unfolding EventKept token KeptNames
      names_same keeps = λ i. names_token (sym p.counts i) (operands i) (successors i)
        where
          operands : map (typed s N.values) (op_at s m).operands ≡ map (typed t N'.values) (op_at t m').operands
          operands =
              map_through (typed s N.values) (typed t (map vc N.values)) vc (op_at s m).operands
              (λ v k. λ i. (name_same vc v N.values (value_once v k) (keeps.0 v k) i, sym (ren.types v (p.operands_in v k)) i))
              ∙ λ i. map (typed t (sym q.values i)) (sym p.operands i)

          successors : map (name_of N.blocks) (op_at s m).successors ≡ map (name_of N'.blocks) (op_at t m').successors
          successors =
              map_through (name_of N.blocks) (name_of (map bc N.blocks)) bc (op_at s m).successors (λ b k. name_same bc b N.blocks (block_once b k) (keeps.1 b k))
              ∙ λ i. map (name_of (sym q.blocks i)) (sym p.successors i)

      same_names : token s ig (step (names m)) N ≡ token t ig (step (names m')) N' → EventKept (step (names m)) N
      unfolding EventKept token KeptNames
      same_names e = (
        λ v k. name_keeps vc v N.values (value_once v k) (λ i. (map_each (typed s N.values) (typed t (map vc N.values)) vc (op_at s m).operands operands v k i).0),
        λ b k. name_keeps bc b N.blocks (block_once b k) (map_each (name_of N.blocks) (name_of (map bc N.blocks)) bc (op_at s m).successors successors b k),
      )
        where
          operands : map (typed s N.values) (op_at s m).operands ≡ map (typed t (map vc N.values)) (map vc (op_at s m).operands)
          operands =
              let f : map (typed s N.values) (op_at s m).operands ≡ map (typed t N'.values) (op_at t m').operands = cc in
              f ∙ λ i. map (typed t (q.values i)) (p.operands i)

          successors : map (name_of N.blocks) (op_at s m).successors ≡ map (name_of (map bc N.blocks)) (map bc (op_at s m).successors)
          successors =
              let f : map (name_of N.blocks) (op_at s m).successors ≡ map (name_of N'.blocks) (op_at t m').successors = cc in
              f ∙ λ i. map (name_of (q.blocks i)) (p.successors i)

    token_same : (N N' : Numbering) → Mapped N N' → (e e' : Event) → Carries e e' → EventKept e N → token s ig e N ≡ token t ig e' N'
    unfolding token
    token_same N N' q e e' (shelled p) k = λ i. shell_token (sym p.counts i) (sym (p.shells ig) i)
    token_same N N' q e e' (named {m = m} {m' = m'} p) k = names_same N N' q m m' p k
    token_same N N' q e e' begun k = refl
    token_same N N' q e e' mores k = refl
    token_same N N' q e e' dones k = refl

    same_kept_lem : (N N' : Numbering) → Mapped N N' → (e e' : Event) → Carries e e' → token s ig e N ≡ token t ig e' N' → EventKept e N
    unfolding EventKept
    same_kept_lem N N' q e e' (shelled p) k = tt
    same_kept_lem N N' q e e' (named {m = m} {m' = m'} p) k = same_names N N' q m m' p k
    same_kept_lem N N' q e e' begun k = tt
    same_kept_lem N N' q e e' mores k = tt
    same_kept_lem N N' q e e' dones k = tt

    pub tokens_same : {es es' : List Event} → Along Carries es es' → (N N' : Numbering) → Mapped N N' → Kept es N → tokens s ig es N ≡ tokens t ig es' N'
    unfolding tokens Kept
    tokens_same over N N' q k = refl
    tokens_same (pair {e = e} {e' = e'} p a) N N' q k =
        ap₂ ◌∷◌ (token_same N N' q e e' p k.0) (tokens_same a (numbered_by s e N) (numbered_by t e' N') (mapped_next N N' e e' p q) k.1)

    pub same_tokens : {es es' : List Event} → Along Carries es es' → (N N' : Numbering) → Mapped N N' → tokens s ig es N ≡ tokens t ig es' N' → Kept es N
    unfolding tokens Kept
    same_tokens over N N' q k = tt
    same_tokens (pair {e = e} {e' = e'} p a) N N' q k =
        (same_kept_lem N N' q e e' p (head-eq_of_cons-eq k), same_tokens a (numbered_by s e N) (numbered_by t e' N') (mapped_next N N' e e' p q) (tail-eq_of_cons-eq k))
