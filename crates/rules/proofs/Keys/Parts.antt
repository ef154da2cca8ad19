-- The bytes of a walk's events, part by part, and what it is to read two of them side by side: where what they have written is the same, with
-- whatever follows, what follows is the same too, and so are the types of what is numbered. Reading goes from part to part, and through
-- lists that are as long as each other. Assumes nothing.
use Prim.Native.Nat.{ℕ, ◌+◌, ◌≤◌}
use native.Mathlib.Omega.{arith}
use mathlib.Core.List.{List, [], ◌∷◌, ◌++◌, map, append_assoc}
use mathlib.Core.Path.{◌≡◌, refl, sym, ap, ◌∙◌}
use lib.ListN.{length, length-append}
use Rattle.std.specs.List.{flat_map}
use Rattle.rules.specs.Store.{Store, type_of, values_of}
use Rattle.rules.specs.Fragments.{shell, names, counted, block_owner}
use Rattle.rules.specs.declared.types.Ignore.{Ignore}
use Rattle.rules.specs.Hash.{Numbering, numbered, count, feeds, all_bytes}
use Rattle.rules.specs.Form.{Event, step, more, done, list_events, numbered_by, Token, token, tokens}
use Rattle.rules.proofs.Basics.Distinct.{concat_map_append}
use Rattle.rules.proofs.Form.Events.{bare_steps}
use Rattle.rules.proofs.Form.Tokens.{event_values, event_blocks}
use Rattle.rules.proofs.Keys.Paired.{Pairs}

module _ (s : Store) where
  -- what is numbered after these events
  unfoldable pub numbered_after : List Event → Numbering → Numbering
  numbered_after [] N = N
  numbered_after (e ∷ es) N = numbered_after es (numbered_by s e N)

  pub numbered_append : (es fs : List Event) (N : Numbering) → numbered_after (es ++ fs) N ≡ numbered_after fs (numbered_after es N)
  unfolding numbered_after
  numbered_append [] fs N = refl
  numbered_append (e ∷ es) fs N = numbered_append es fs (numbered_by s e N)

  -- so much may be numbered: all that these events number is within the store's totals
  pub record Room (es : List Event) (N : Numbering) : Type 0 where
    pub values : length N.values + length (flat_map (event_values s) es) ≤ 4096
    pub blocks : length N.blocks + length (flat_map (event_blocks s) es) ≤ 4096

  -- what one event numbers, and what all of them do
  event_values_lem : (e : Event) (N : Numbering) → length (numbered_by s e N).values ≡ length N.values + length (event_values s e)
  unfolding numbered_by numbered event_values
  event_values_lem (step (shell w)) N = length-append N.values (values_of s w)
  event_values_lem (step (names n)) N = omega arith
  event_values_lem (step (counted k)) N = omega arith
  event_values_lem more N = omega arith
  event_values_lem done N = omega arith

  event_blocks_lem : (e : Event) (N : Numbering) → length (numbered_by s e N).blocks ≡ length N.blocks + length (event_blocks s e)
  unfolding numbered_by numbered event_blocks
  event_blocks_lem (step (shell w)) N = length-append N.blocks (block_owner w)
  event_blocks_lem (step (names n)) N = omega arith
  event_blocks_lem (step (counted k)) N = omega arith
  event_blocks_lem more N = omega arith
  event_blocks_lem done N = omega arith

  values_after : (es : List Event) (N : Numbering) → length (numbered_after es N).values ≡ length N.values + length (flat_map (event_values s) es)
  unfolding numbered_after
  values_after [] N = omega arith
  values_after (e ∷ es) N = omega (arith, values_after es (numbered_by s e N), event_values_lem e N, length-append (event_values s e) (flat_map (event_values s) es))

  blocks_after : (es : List Event) (N : Numbering) → length (numbered_after es N).blocks ≡ length N.blocks + length (flat_map (event_blocks s) es)
  unfolding numbered_after
  blocks_after [] N = omega arith
  blocks_after (e ∷ es) N = omega (arith, blocks_after es (numbered_by s e N), event_blocks_lem e N, length-append (event_blocks s e) (flat_map (event_blocks s) es))

  parted : (f : Event → List ℕ) (es fs : List Event) → length (flat_map f (es ++ fs)) ≡ length (flat_map f es) + length (flat_map f fs)
  parted f es fs = ap length (concat_map_append f es fs) ∙ length-append (flat_map f es) (flat_map f fs)

  pub room_first : (es fs : List Event) (N : Numbering) → Room (es ++ fs) N → Room es N
  room_first es fs N r =
      record { values = omega (arith, r.values, parted (event_values s) es fs); blocks = omega (arith, r.blocks, parted (event_blocks s) es fs) }

  pub room_rest : (es fs : List Event) (N : Numbering) → Room (es ++ fs) N → Room fs (numbered_after es N)
  room_rest es fs N r =
      record {
        values = omega (arith, r.values, parted (event_values s) es fs, values_after es N);
        blocks = omega (arith, r.blocks, parted (event_blocks s) es fs, blocks_after es N);
      }

module _ (s : Store) (ig : Ignore) where
  unfoldable pub event_bytes : Event → Numbering → List ℕ
  event_bytes (step x) N = feeds count s ig x N
  event_bytes more N = []
  event_bytes done N = []

  unfoldable pub events_bytes : List Event → Numbering → List ℕ
  events_bytes [] N = []
  events_bytes (e ∷ es) N = event_bytes e N ++ events_bytes es (numbered_by s e N)

  -- signs write nothing
  pub events_bytes_lem : (es : List Event) (N : Numbering) → events_bytes es N ≡ all_bytes count s ig (bare_steps es) N
  unfolding events_bytes event_bytes all_bytes bare_steps numbered_by
  events_bytes_lem [] N = refl
  events_bytes_lem (step x ∷ es) N = ap (λ (l : List ℕ). feeds count s ig x N ++ l) (events_bytes_lem es (numbered_by s (step x) N))
  events_bytes_lem (more ∷ es) N = events_bytes_lem es N
  events_bytes_lem (done ∷ es) N = events_bytes_lem es N

  bytes_append : (es fs : List Event) (N : Numbering) (X : List ℕ) → events_bytes (es ++ fs) N ++ X ≡ events_bytes es N ++ (events_bytes fs (numbered_after s es N) ++ X)
  unfolding events_bytes numbered_after
  bytes_append [] fs N X = refl
  bytes_append (e ∷ es) fs N X =
      append_assoc (event_bytes e N) (events_bytes (es ++ fs) (numbered_by s e N)) X
      ∙ ap (λ (l : List ℕ). event_bytes e N ++ l) (bytes_append es fs (numbered_by s e N) X)
      ∙ sym (append_assoc (event_bytes e N) (events_bytes es (numbered_by s e N)) _)

  pub tokens_append : (es fs : List Event) (N : Numbering) → tokens s ig (es ++ fs) N ≡ tokens s ig es N ++ tokens s ig fs (numbered_after s es N)
  unfolding tokens numbered_after
  tokens_append [] fs N = refl
  tokens_append (e ∷ es) fs N = ap (λ (l : List Token). token s ig e N ∷ l) (tokens_append es fs (numbered_by s e N))

  -- ---- reading

  -- what is numbered has the same types, place by place
  abbrev pub Alike : Numbering → Numbering → Type 0
  Alike N N' = map (type_of s) N.values ≡ map (type_of s) N'.values

  pub record Read (es es' : List Event) (N N' : Numbering) (X Y : List ℕ) (P : Type 0) : Type 0 where
    pub alike : Alike (numbered_after s es N) (numbered_after s es' N')
    pub rest : X ≡ Y
    pub told : P

  -- two lists of events that have written the same, whatever follows, are read to their ends, and this is told of them
  abbrev pub Reads : List Event → List Event → (Numbering → Numbering → Type 0) → Type 0
  Reads es es' P =
      (N N' : Numbering) (X Y : List ℕ) → Alike N N' → Room s es N → Room s es' N'
      → events_bytes es N ++ X ≡ events_bytes es' N' ++ Y → Read es es' N N' X Y (P N N')

  pub reads_then : (es es' fs fs' : List Event) (P Q : Numbering → Numbering → Type 0) → Reads es es' P → ((N N' : Numbering) → P N N' → Reads fs fs' Q)
      → Reads (es ++ fs) (es' ++ fs') (λ N N'. P N N' × Q (numbered_after s es N) (numbered_after s es' N'))
  reads_then es es' fs fs' P Q first second N N' X Y alike room room' e =
      let M : Numbering = numbered_after s es N in
      let M' : Numbering = numbered_after s es' N' in
      let a = first N N' (events_bytes fs M ++ X) (events_bytes fs' M' ++ Y) alike (room_first s es fs N room) (room_first s es' fs' N' room')
      (sym (bytes_append es fs N X) ∙ e ∙ bytes_append es' fs' N' Y) in
      let b = second N N' a.told M M' X Y a.alike (room_rest s es fs N room) (room_rest s es' fs' N' room') a.rest in
      record {
        alike = ap (λ (K : Numbering). map (type_of s) K.values) (numbered_append s es fs N) ∙ b.alike ∙ sym (ap (λ (K : Numbering). map (type_of s) K.values) (numbered_append s es' fs' N'));
        rest = b.rest;
        told = (a.told, b.told);
      }

  -- what is told may be told otherwise
  pub reads_as : (es es' : List Event) (P Q : Numbering → Numbering → Type 0) → ((N N' : Numbering) → P N N' → Q N N') → Reads es es' P → Reads es es' Q
  reads_as es es' P Q h r N N' X Y alike room room' e =
      let a = r N N' X Y alike room room' e in
      record { alike = a.alike; rest = a.rest; told = h N N' a.told }

  -- ---- lists, pair by pair: what is told of each pair, and of their events what passes from part to part

  -- it passes from part to part of two lists of events, and over signs and counts
  pub record Carried (K : List Event → List Event → Numbering → Numbering → Type 0) : Type 0 where
    pub at_end : (N N' : Numbering) → K (done ∷ []) (done ∷ []) N N'
    pub behind : (es es' : List Event) (N N' : Numbering) → K es es' N N' → K (more ∷ es) (more ∷ es') N N'
    pub ahead : (j k : ℕ) (es es' : List Event) (N N' : Numbering) → K es es' N N' → K (step (counted j) ∷ es) (step (counted k) ∷ es') N N'
    pub then :
        (es es' fs fs' : List Event) (N N' : Numbering) → K es es' N N' → K fs fs' (numbered_after s es N) (numbered_after s es' N') → K (es ++ fs) (es' ++ fs') N N'

  module _ (K : List Event → List Event → Numbering → Numbering → Type 0) (carried : Carried K) where
    signed : (es es' : List Event) (P : Numbering → Numbering → Type 0) → Reads es es' (λ N N'. K es es' N N' × P N N')
        → Reads (more ∷ es) (more ∷ es') (λ N N'. K (more ∷ es) (more ∷ es') N N' × P N N')
    unfolding events_bytes event_bytes numbered_by numbered_after event_values event_blocks
    signed es es' P r N N' X Y alike room room' e =
        let a = r N N' X Y alike (record { values = room.values; blocks = room.blocks }) (record { values = room'.values; blocks = room'.blocks }) e in
        record { alike = a.alike; rest = a.rest; told = (carried.behind es es' N N' a.told.0, a.told.1) }

    ended : Reads (done ∷ []) (done ∷ []) (λ N N'. K (done ∷ []) (done ∷ []) N N' × Unit {0})
    unfolding events_bytes event_bytes numbered_by numbered_after
    ended N N' X Y alike room room' e = record { alike = alike; rest = e; told = (carried.at_end N N', tt) }

    pub reads_list : (f : ℕ → List Event) (Q R : ℕ → ℕ → Type 0) → ((l r : ℕ) → Q l r → Reads (f l) (f r) (λ N N'. K (f l) (f r) N N' × R l r))
        → (ls rs : List ℕ) → Pairs Q ls rs → Reads (list_events f ls) (list_events f rs) (λ N N'. K (list_events f ls) (list_events f rs) N N' × Pairs R ls rs)
    unfolding list_events
    reads_list f Q R h [] [] p = ended
    reads_list f Q R h [] (r ∷ rs) p = absurd p
    reads_list f Q R h (l ∷ ls) [] p = absurd p
    reads_list f Q R h (l ∷ ls) (r ∷ rs) p =
        let first : Reads (f l) (f r) (λ N N'. K (f l) (f r) N N' × R l r) = h l r p.0 in
        let others : Reads (list_events f ls) (list_events f rs) (λ N N'. K (list_events f ls) (list_events f rs) N N' × Pairs R ls rs) = reads_list f Q R h ls rs p.1 in
        signed (f l ++ list_events f ls) (f r ++ list_events f rs) (λ N N'. R l r × Pairs R ls rs)
        (reads_as (f l ++ list_events f ls) (f r ++ list_events f rs)
        (λ N N'. (K (f l) (f r) N N' × R l r) × (K (list_events f ls) (list_events f rs) (numbered_after s (f l) N) (numbered_after s (f r) N') × Pairs R ls rs))
        (λ N N'. K (f l ++ list_events f ls) (f r ++ list_events f rs) N N' × (R l r × Pairs R ls rs))
        (λ N N' t. (carried.then (f l) (f r) (list_events f ls) (list_events f rs) N N' t.0.0 t.1.0, (t.0.1, t.1.1)))
        (reads_then (f l) (f r) (list_events f ls) (list_events f rs) (λ N N'. K (f l) (f r) N N' × R l r) (λ N N'. K (list_events f ls) (list_events f rs) N N' × Pairs R ls rs) first (λ N N' t. others)))
