-- A key can be read back: two fragments that have the same key have the same canonical form. A list tells its length before it begins, and an
-- operation's shell how many regions it has, so what is read ends where it was written. Of an operand the key holds no type: a defined
-- one's was written with its owner, and one from outside is the same value. Assumes nothing.
use Prim.Native.Nat.{ℕ, zero, suc, ◌≤◌}
use native.Mathlib.Nat.{le_trans}
use native.Mathlib.Omega.{arith}
use mathlib.Core.Bool.{true}
use mathlib.Core.List.{List, [], ◌∷◌, ◌++◌, map, map-append, append_assoc, append-nil, head-eq_of_cons-eq, tail-eq_of_cons-eq}
use Rattle.std.specs.Prelude.{Option, None, Some}
use mathlib.Core.Path.{◌≡◌, refl, sym, ap, ap₂, subst, ◌∙◌}
use borrow.Author.Tests.{ltb-true}
use lib.Dec.{lit≤}
use lib.ListN.{length, get_or, length-map, get_or-map}
use Rattle.std.specs.List.{list_all}
use Rattle.rules.specs.Lists.{position}
use Rattle.rules.specs.Store.{Store, op_at, block_at, type_of, ops_of, blocks_of, regions_of, values_of, value_exists, block_exists, sound}
use Rattle.rules.specs.declared.types.Owner.{Owner}
use Rattle.rules.specs.declared.types.Owner.TheVariants.{Op as of_op, Block as of_block}
use Rattle.rules.specs.Fragments.{levels, shell, names, counted}
use Rattle.rules.specs.declared.types.Sort.{Sort}
use Rattle.rules.specs.declared.types.Sort.TheVariants.{Op as op, Block as block, Region as region}
use Rattle.rules.specs.Shells.{Shell, shell_of, counts_of}
use Rattle.rules.specs.declared.types.Ignore.{Ignore}
use Rattle.rules.specs.Hash.{leaf, count, list_bytes, shell_bytes, head_bytes, Numbering, numbered, name_at, name_of, name_bytes, feeds}
use Rattle.rules.specs.declared.types.Name.{Name}
use Rattle.rules.specs.Keys.{fields_fit}
use Rattle.rules.specs.Form.{Event, step, more, done, list_events, one, shell_events, op_events, blocks_events, region_events, events, Token, shell_token, names_token, counted_token, more_token, numbered_by, token, tokens}
use Rattle.rules.proofs.Basics.Tests.{impossible}
use Rattle.rules.proofs.Soundness.Sound.{facts}
use Rattle.rules.proofs.Form.Images.{position_some}
use Rattle.rules.proofs.Form.SameShells.{values_count}
use Rattle.rules.proofs.Form.Hashes.{concat_map_map}
use Rattle.rules.proofs.Keys.Decoding.{leaf_read, count_read, list_read, name_fits, name_read, BothLocated, shell_read}
use Rattle.rules.proofs.Keys.Fitting as fitting
use Rattle.rules.proofs.Keys.Fitting.{all_named, name_fits_lem, ops_few, regions_few, operands_here, successors_here, operands_few, successors_few, kind_fits, both_located, shell_fits}
use Rattle.rules.proofs.Keys.Paired.{Pairs, Any, pairs_any, pairs_both}
use Rattle.rules.proofs.Keys.Parts.{numbered_after, Room, event_bytes, events_bytes, tokens_append, Alike, Reads, reads_then, reads_as, Carried, reads_list}

-- ---- names

-- a list of uses, as a list of names
listed_names : (g : ℕ → Name) (ns : List ℕ) → list_bytes count (λ (n : ℕ). name_bytes (g n)) ns ≡ list_bytes count name_bytes (map g ns)
unfolding list_bytes
listed_names g ns = ap₂ (λ (k : ℕ) (l : List ℕ). count k ++ l) (sym (length-map ns g)) (sym (concat_map_map name_bytes g ns))

module _ (s : Store) (N N' : Numbering) (alike : map (type_of s) N.values ≡ map (type_of s) N'.values) where
  -- values of one name have one type
  one_type : (v w : ℕ) → name_of N.values v ≡ name_of N'.values w → type_of s v ≡ type_of s w
  unfolding name_of name_at
  one_type v w e = go (position v N.values) refl (position w N'.values) refl e
    where
      go : (o : Option ℕ) → position v N.values ≡ o → (q : Option ℕ) → position w N'.values ≡ q → name_at o v ≡ name_at q w → type_of s v ≡ type_of s w
      go None a None b h = ap (type_of s) (let f : v ≡ w = cc in f)
      go None a (Some j) b h = impossible cc
      go (Some i) a None b h = impossible cc
      go (Some i) a (Some j) b h =
          let same : i ≡ j = cc in
          let x : get_or N.values i 0 ≡ v = (position_some v N.values i a).1 in
          let y : get_or N'.values j 0 ≡ w = (position_some w N'.values j b).1 in
          ap (type_of s) (sym x) ∙ sym (get_or-map (type_of s) N.values i 0) ∙ ap (λ (l : List ℕ). get_or l i (type_of s 0)) alike
          ∙ ap (λ (k : ℕ). get_or (map (type_of s) N'.values) k (type_of s 0)) same ∙ get_or-map (type_of s) N'.values j 0 ∙ ap (type_of s) y

  typed : (vs ws : List ℕ) → map (name_of N.values) vs ≡ map (name_of N'.values) ws
      → map {B = Name × ℕ} (λ (v : ℕ). (name_of N.values v, type_of s v)) vs ≡ map {B = Name × ℕ} (λ (v : ℕ). (name_of N'.values v, type_of s v)) ws
  typed [] [] e = refl
  typed [] (w ∷ ws) e = impossible cc
  typed (v ∷ vs) [] e = impossible cc
  typed (v ∷ vs) (w ∷ ws) e =
      let h : name_of N.values v ≡ name_of N'.values w = head-eq_of_cons-eq e in
      let t : type_of s v ≡ type_of s w = one_type v w h in
      ap₂ {C = List (Name × ℕ)} ◌∷◌ (λ i. (h i, t i)) (typed vs ws (tail-eq_of_cons-eq e))

module _ (s : Store) (sd : sound s ≡ true) (fit : fields_fit s ≡ true) (ig : Ignore) where
  -- the tokens are the same
  abbrev Same : List Event → List Event → Numbering → Numbering → Type 0
  Same es es' N N' = tokens s ig es N ≡ tokens s ig es' N'

  same_end : (N N' : Numbering) → Same (done ∷ []) (done ∷ []) N N'
  unfolding tokens token
  same_end N N' = refl

  same_behind : (es es' : List Event) (N N' : Numbering) → Same es es' N N' → Same (more ∷ es) (more ∷ es') N N'
  unfolding tokens token numbered_by
  same_behind es es' N N' e = ap (λ (l : List Token). more_token ∷ l) e

  same_then : (es es' fs fs' : List Event) (N N' : Numbering) → Same es es' N N' → Same fs fs' (numbered_after s es N) (numbered_after s es' N') → Same (es ++ fs) (es' ++ fs') N N'
  same_then es es' fs fs' N N' a b = tokens_append s ig es fs N ∙ ap₂ ◌++◌ a b ∙ sym (tokens_append s ig es' fs' N')

  same_ahead : (j k : ℕ) (es es' : List Event) (N N' : Numbering) → Same es es' N N' → Same (step (counted j) ∷ es) (step (counted k) ∷ es') N N'
  unfolding tokens token numbered_by numbered
  same_ahead j k es es' N N' e = ap (λ (l : List Token). counted_token ∷ l) e

  same_carried : Carried s ig Same
  same_carried = record { at_end = same_end; behind = same_behind; ahead = same_ahead; then = same_then }

  -- ---- one event

  -- read by itself
  abbrev ReadsOne : Event → Event → (Numbering → Numbering → Type 0) → Type 0
  ReadsOne e e' P =
      (N N' : Numbering) (X Y : List ℕ) → Alike s ig N N' → Room s (e ∷ []) N → Room s (e' ∷ []) N'
      → event_bytes s ig e N ++ X ≡ event_bytes s ig e' N' ++ Y → (Alike s ig (numbered_by s e N) (numbered_by s e' N') × (X ≡ Y)) × P N N'

  reads_one : (e e' : Event) (P : Numbering → Numbering → Type 0) → ReadsOne e e' P → Reads s ig (e ∷ []) (e' ∷ []) P
  unfolding events_bytes numbered_after
  reads_one e e' P r N N' X Y alike room room' h =
      let a = r N N' X Y alike room room'
      (ap (λ (l : List ℕ). l ++ X) (sym (append-nil (event_bytes s ig e N))) ∙ h ∙ ap (λ (l : List ℕ). l ++ Y) (append-nil (event_bytes s ig e' N'))) in
      record { alike = a.0.0; rest = a.0.1; told = a.1 }

  counted_read : (j k : ℕ) → j ≤ 4096 → k ≤ 4096 → ReadsOne (step (counted j)) (step (counted k)) (λ N N'. j ≡ k)
  unfolding event_bytes feeds numbered_by numbered
  counted_read j k l m N N' X Y alike room room' e = let r = count_read j k l m e in ((alike, r.1), r.0)

  reads_counted : (j k : ℕ) → j ≤ 4096 → k ≤ 4096 → Reads s ig (step (counted j) ∷ []) (step (counted k) ∷ []) (λ N N'. j ≡ k)
  reads_counted j k l m = reads_one (step (counted j)) (step (counted k)) (λ N N'. j ≡ k) (counted_read j k l m)

  types_of : (w : Owner) → (shell_of s ig w).types ≡ map (type_of s) (values_of s w)
  unfolding shell_of
  types_of (of_op n) = refl
  types_of (of_block b) = refl

  ops_located : (n m : ℕ) → BothLocated (shell_of s ig (of_op n)).location (shell_of s ig (of_op m)).location
  unfolding shell_of
  ops_located n m = both_located s sd fit ig (op_at s n).location (op_at s m).location

  blocks_located : (n m : ℕ) → BothLocated (shell_of s ig (of_block n)).location (shell_of s ig (of_block m)).location
  unfolding shell_of
  blocks_located n m = both_located s sd fit ig (block_at s n).location (block_at s m).location

  -- what two shells number has the same types
  alike_more : (l r : Owner) (N N' : Numbering) → Alike s ig N N' → shell_of s ig l ≡ shell_of s ig r
      → Alike s ig (numbered_by s (step (shell l)) N) (numbered_by s (step (shell r)) N')
  unfolding numbered_by numbered
  alike_more l r N N' alike e =
      map-append (type_of s) N.values (values_of s l) ∙ ap₂ ◌++◌ alike (sym (types_of l) ∙ ap (λ (sh : Shell). sh.types) e ∙ types_of r) ∙ sym (map-append (type_of s) N'.values (values_of s r))

  block_read : (b c : ℕ) → ReadsOne (step (shell (of_block b))) (step (shell (of_block c))) (λ N N'. shell_of s ig (of_block b) ≡ shell_of s ig (of_block c))
  unfolding event_bytes feeds head_bytes
  block_read b c N N' X Y alike room room' e =
      let r = shell_read (shell_of s ig (of_block b)) (shell_of s ig (of_block c)) (blocks_located b c) (shell_fits s sd fit ig (of_block b)) (shell_fits s sd fit ig (of_block c)) e in
      ((alike_more (of_block b) (of_block c) N N' alike r.0, r.1), r.0)

  -- what an operation's shell tells
  record HeadSame (n m : ℕ) : Type 0 where
    kind : (op_at s n).kind ≡ (op_at s m).kind
    regions : length (regions_of s n) ≡ length (regions_of s m)
    shell : shell_of s ig (of_op n) ≡ shell_of s ig (of_op m)

  op_read : (n m : ℕ) → ReadsOne (step (shell (of_op n))) (step (shell (of_op m))) (λ N N'. HeadSame n m)
  unfolding event_bytes feeds head_bytes
  op_read n m N N' X Y alike room room' e =
      let kind = leaf_read (op_at s n).kind (op_at s m).kind (kind_fits s sd fit n) (kind_fits s sd fit m) (sym (parts n X) ∙ e ∙ parts m Y) in
      let regions = count_read (length (regions_of s n)) (length (regions_of s m)) (regions_few s sd n) (regions_few s sd m) kind.1 in
      let r = shell_read (shell_of s ig (of_op n)) (shell_of s ig (of_op m)) (ops_located n m) (shell_fits s sd fit ig (of_op n)) (shell_fits s sd fit ig (of_op m)) regions.1 in
      ((alike_more (of_op n) (of_op m) N N' alike r.0, r.1), record { kind = kind.0; regions = regions.0; shell = r.0 })
    where
      parts : (k : ℕ) (Z : List ℕ) → ((leaf (op_at s k).kind ++ count (length (regions_of s k))) ++ shell_bytes count (shell_of s ig (of_op k))) ++ Z
          ≡ leaf (op_at s k).kind ++ (count (length (regions_of s k)) ++ (shell_bytes count (shell_of s ig (of_op k)) ++ Z))
      parts k Z =
          append_assoc (leaf (op_at s k).kind ++ count (length (regions_of s k))) (shell_bytes count (shell_of s ig (of_op k))) Z
          ∙ append_assoc (leaf (op_at s k).kind) (count (length (regions_of s k))) (shell_bytes count (shell_of s ig (of_op k)) ++ Z)

  -- what its names tell besides
  record NamesSame (n m : ℕ) : Type 0 where
    operands : length (op_at s n).operands ≡ length (op_at s m).operands
    successors : length (op_at s n).successors ≡ length (op_at s m).successors

  counts_same_lem : (n m : ℕ) → HeadSame n m → NamesSame n m → counts_of s (of_op n) ≡ counts_of s (of_op m)
  unfolding counts_of
  counts_same_lem n m h k = λ i. h.kind i ∷ h.regions i ∷ k.successors i ∷ k.operands i ∷ values_count s ig (of_op n) (of_op m) h.shell i ∷ []

  -- the names that an operation's uses have
  abbrev values : Numbering → ℕ → List Name
  values M k = map (name_of M.values) (op_at s k).operands

  abbrev blocks : Numbering → ℕ → List Name
  blocks M k = map (name_of M.blocks) (op_at s k).successors

  values_few : (M : Numbering) (k : ℕ) → length (values M k) ≤ 4096
  values_few M k = subst (λ (j : ℕ). j ≤ 4096) (sym (length-map (op_at s k).operands (name_of M.values))) (operands_few s sd k)

  blocks_few : (M : Numbering) (k : ℕ) → length (blocks M k) ≤ 4096
  blocks_few M k = subst (λ (j : ℕ). j ≤ 4096) (sym (length-map (op_at s k).successors (name_of M.blocks))) (successors_few s sd k)

  values_fit_lem : (M : Numbering) (k : ℕ) (es : List Event) → Room s es M → list_all name_fits (values M k) ≡ true
  unfolding value_exists
  values_fit_lem M k es r =
      all_named name_fits (name_of M.values) (value_exists s)
      (λ v x. name_fits_lem M.values v (length s.values) (omega (arith, r.values)) (ltb-true v (length s.values) x) (le_trans (facts s sd).totals.values (lit≤ tt)))
      (op_at s k).operands (operands_here s sd k)

  blocks_fit : (M : Numbering) (k : ℕ) (es : List Event) → Room s es M → list_all name_fits (blocks M k) ≡ true
  unfolding block_exists
  blocks_fit M k es r =
      all_named name_fits (name_of M.blocks) (block_exists s)
      (λ b x. name_fits_lem M.blocks b (length s.blocks) (omega (arith, r.blocks)) (ltb-true b (length s.blocks) x) (le_trans (facts s sd).totals.blocks (lit≤ tt)))
      (op_at s k).successors (successors_here s sd k)

  names_read : (n m : ℕ) → HeadSame n m
      → ReadsOne (step (names n)) (step (names m)) (λ N N'. (token s ig (step (names n)) N ≡ token s ig (step (names m)) N') × NamesSame n m)
  unfolding event_bytes feeds numbered_by numbered token
  names_read n m h N N' X Y alike room room' e =
      let operands = list_read name_bytes name_fits (λ a b Z W. name_read a b) (values N n) (values N' m) (values_few N n) (values_few N' m) (values_fit_lem N n _ room) (values_fit_lem N' m _ room')
      (sym (parts N n X) ∙ e ∙ parts N' m Y) in
      let successors = list_read name_bytes name_fits (λ a b Z W. name_read a b) (blocks N n) (blocks N' m) (blocks_few N n) (blocks_few N' m) (blocks_fit N n _ room) (blocks_fit N' m _ room') operands.1 in
      let same : NamesSame n m = record {
        operands = sym (length-map (op_at s n).operands (name_of N.values)) ∙ ap length operands.0 ∙ length-map (op_at s m).operands (name_of N'.values);
        successors = sym (length-map (op_at s n).successors (name_of N.blocks)) ∙ ap length successors.0 ∙ length-map (op_at s m).successors (name_of N'.blocks);
      } in
      ((alike, successors.1), (λ i. names_token (counts_same_lem n m h same i) (typed s N N' alike (op_at s n).operands (op_at s m).operands operands.0 i) (successors.0 i), same))
    where
      parts : (M : Numbering) (k : ℕ) (Z : List ℕ)
          → (list_bytes count (λ (v : ℕ). name_bytes (name_of M.values v)) (op_at s k).operands ++ list_bytes count (λ (b : ℕ). name_bytes (name_of M.blocks b)) (op_at s k).successors) ++ Z
          ≡ list_bytes count name_bytes (values M k) ++ (list_bytes count name_bytes (blocks M k) ++ Z)
      parts M k Z =
          append_assoc (list_bytes count (λ (v : ℕ). name_bytes (name_of M.values v)) (op_at s k).operands) (list_bytes count (λ (b : ℕ). name_bytes (name_of M.blocks b)) (op_at s k).successors) Z
          ∙ ap₂ (λ (a b : List ℕ). a ++ (b ++ Z)) (listed_names (name_of M.values) (op_at s k).operands) (listed_names (name_of M.blocks) (op_at s k).successors)

  same_names : (n m : ℕ) (N N' : Numbering) → token s ig (step (names n)) N ≡ token s ig (step (names m)) N' → Same (one names n) (one names m) N N'
  unfolding tokens
  same_names n m N N' e = ap (λ (x : Token). x ∷ []) e

  -- ---- shells

  reads_block : (b c : ℕ) → Any b c → Reads s ig (one (λ (n : ℕ). shell (of_block n)) b) (one (λ (n : ℕ). shell (of_block n)) c)
      (λ N N'. Same (one (λ (n : ℕ). shell (of_block n)) b) (one (λ (n : ℕ). shell (of_block n)) c) N N' × Any b c)
  unfolding tokens token counts_of
  reads_block b c t =
      reads_as s ig _ _ (λ N N'. shell_of s ig (of_block b) ≡ shell_of s ig (of_block c)) _
      (λ N N' e. (λ i. shell_token (values_count s ig (of_block b) (of_block c) e i ∷ []) (e i) ∷ [], tt))
      (reads_one (step (shell (of_block b))) (step (shell (of_block c))) _ (block_read b c))

  -- of operations the tokens are not yet known: how many operands and successors they have is told later
  abbrev Later : List Event → List Event → Numbering → Numbering → Type 0
  Later es es' N N' = Unit {0}

  later_carried : Carried s ig Later
  later_carried = record { at_end = λ N N'. tt; behind = λ es es' N N' t. tt; ahead = λ j k es es' N N' t. tt; then = λ es es' fs fs' N N' t u. tt }

  reads_op : (n m : ℕ) → Any n m → Reads s ig (one (λ (k : ℕ). shell (of_op k)) n) (one (λ (k : ℕ). shell (of_op k)) m)
      (λ N N'. Later (one (λ (k : ℕ). shell (of_op k)) n) (one (λ (k : ℕ). shell (of_op k)) m) N N' × HeadSame n m)
  reads_op n m t =
      reads_as s ig _ _ (λ N N'. HeadSame n m) _ (λ N N' h. (tt, h)) (reads_one (step (shell (of_op n))) (step (shell (of_op m))) _ (op_read n m))

  same_shell : (n m : ℕ) → HeadSame n m → NamesSame n m → (N N' : Numbering) → Same (one (λ (k : ℕ). shell (of_op k)) n) (one (λ (k : ℕ). shell (of_op k)) m) N N'
  unfolding tokens token
  same_shell n m h k N N' = λ i. shell_token (counts_same_lem n m h k i) (h.shell i) ∷ []

  -- a list of shells, behind its count
  reads_shells : (w : ℕ → Owner) (K : List Event → List Event → Numbering → Numbering → Type 0) → Carried s ig K
      → (R : ℕ → ℕ → Type 0)
      → ((l r : ℕ) → Any l r → Reads s ig (one (λ (n : ℕ). shell (w n)) l) (one (λ (n : ℕ). shell (w n)) r) (λ N N'. K (one (λ (n : ℕ). shell (w n)) l) (one (λ (n : ℕ). shell (w n)) r) N N' × R l r))
      → (ls rs : List ℕ) → length ls ≤ 4096 → length rs ≤ 4096
      → Reads s ig (shell_events w ls) (shell_events w rs) (λ N N'. K (shell_events w ls) (shell_events w rs) N N' × Pairs R ls rs)
  unfolding shell_events numbered_after numbered_by numbered
  reads_shells w K carried R h ls rs few_l few_r =
      reads_as s ig _ _ (λ N N'. (length ls ≡ length rs) × (K (list_events f ls) (list_events f rs) N N' × Pairs R ls rs)) _
      (λ N N' t. (carried.ahead (length ls) (length rs) (list_events f ls) (list_events f rs) N N' t.1.0, t.1.1))
      (reads_then s ig (step (counted (length ls)) ∷ []) (step (counted (length rs)) ∷ []) (list_events f ls) (list_events f rs)
      (λ N N'. length ls ≡ length rs) (λ N N'. K (list_events f ls) (list_events f rs) N N' × Pairs R ls rs)
      (reads_counted (length ls) (length rs) few_l few_r)
      (λ N N' e. reads_list s ig K carried f Any R h ls rs (pairs_any ls rs e)))
    where
      f : ℕ → List Event
      f = one (λ (n : ℕ). shell (w n))

  same_each : (f : ℕ → List Event) (R : ℕ → ℕ → Type 0) → ((l r : ℕ) → R l r → (N N' : Numbering) → Same (f l) (f r) N N')
      → (ls rs : List ℕ) → Pairs R ls rs → (N N' : Numbering) → Same (list_events f ls) (list_events f rs) N N'
  unfolding list_events
  same_each f R h [] [] p N N' = same_end N N'
  same_each f R h [] (r ∷ rs) p N N' = absurd p
  same_each f R h (l ∷ ls) [] p N N' = absurd p
  same_each f R h (l ∷ ls) (r ∷ rs) p N N' =
      same_behind (f l ++ list_events f ls) (f r ++ list_events f rs) N N'
      (same_then (f l) (f r) (list_events f ls) (list_events f rs) N N' (h l r p.0 N N') (same_each f R h ls rs p.1 (numbered_after s (f l) N) (numbered_after s (f r) N')))

  same_shells_lem : (ls rs : List ℕ) → Pairs (λ (n m : ℕ). HeadSame n m × NamesSame n m) ls rs → (N N' : Numbering) → Same (shell_events of_op ls) (shell_events of_op rs) N N'
  unfolding shell_events
  same_shells_lem ls rs p N N' =
      same_ahead (length ls) (length rs) (list_events f ls) (list_events f rs) N N'
      (same_each f (λ (n m : ℕ). HeadSame n m × NamesSame n m) (λ n m h. same_shell n m h.0 h.1) ls rs p N N')
    where
      f : ℕ → List Event
      f = one (λ (n : ℕ). shell (of_op n))

  -- ---- a full operation, a list of blocks

  -- the tokens of two such parts are the same
  abbrev Tells : (ℕ → List Event) → (ℕ → ℕ → Type 0) → ℕ → ℕ → Type 0
  Tells f R l r = Reads s ig (f l) (f r) (λ N N'. Same (f l) (f r) N N' × R l r)

  tells_each : (f : ℕ → List Event) (Q R : ℕ → ℕ → Type 0) → ((l r : ℕ) → Q l r → Tells f R l r) → (ls rs : List ℕ) → Pairs Q ls rs
      → Reads s ig (list_events f ls) (list_events f rs) (λ N N'. Same (list_events f ls) (list_events f rs) N N' × Pairs R ls rs)
  tells_each = reads_list s ig Same same_carried

  tells_full : (in_region : ℕ → List Event) → ((l r : ℕ) → Any l r → Tells in_region Any l r) → (n m : ℕ) → HeadSame n m → Tells (op_events s in_region) NamesSame n m
  unfolding op_events
  tells_full in_region h n m head =
      reads_as s ig _ _
      (λ N N'. ((token s ig (step (names n)) N ≡ token s ig (step (names m)) N') × NamesSame n m) × (Same (regions n) (regions m) (numbered_after s (one names n) N) (numbered_after s (one names m) N') × Pairs Any (regions_of s n) (regions_of s m)))
      _ (λ N N' t. (same_then (one names n) (one names m) (regions n) (regions m) N N' (same_names n m N N' t.0.0) t.1.0, t.0.1))
      (reads_then s ig (one names n) (one names m) (regions n) (regions m)
      (λ N N'. (token s ig (step (names n)) N ≡ token s ig (step (names m)) N') × NamesSame n m) (λ N N'. Same (regions n) (regions m) N N' × Pairs Any (regions_of s n) (regions_of s m))
      (reads_one (step (names n)) (step (names m)) _ (names_read n m head))
      (λ N N' t. tells_each in_region Any Any h (regions_of s n) (regions_of s m) (pairs_any (regions_of s n) (regions_of s m) head.regions)))
    where
      regions : ℕ → List Event
      regions k = list_events in_region (regions_of s k)

  module _ (full : ℕ → List Event) (h : (n m : ℕ) → HeadSame n m → Tells full NamesSame n m) (ls rs : List ℕ) (few_l : length ls ≤ 4096) (few_r : length rs ≤ 4096) where
    -- what stands in two blocks, operation by operation
    abbrev InBoth : (ℕ → ℕ → Type 0) → ℕ → ℕ → Type 0
    InBoth R b c = Pairs R (ops_of s b) (ops_of s c)

    abbrev ops : ℕ → List Event
    ops b = shell_events of_op (ops_of s b)

    abbrev fulls : ℕ → List Event
    fulls b = list_events full (ops_of s b)

    first : Reads s ig (shell_events of_block ls) (shell_events of_block rs) (λ N N'. Same (shell_events of_block ls) (shell_events of_block rs) N N' × Pairs Any ls rs)
    first = reads_shells of_block Same same_carried Any reads_block ls rs few_l few_r

    second : Pairs Any ls rs → Reads s ig (list_events ops ls) (list_events ops rs) (λ N N'. Later (list_events ops ls) (list_events ops rs) N N' × Pairs (InBoth HeadSame) ls rs)
    second =
        reads_list s ig Later later_carried ops Any (InBoth HeadSame)
        (λ b c t. reads_shells of_op Later later_carried HeadSame reads_op (ops_of s b) (ops_of s c) (ops_few s sd b) (ops_few s sd c)) ls rs

    third : Pairs (InBoth HeadSame) ls rs → Reads s ig (list_events fulls ls) (list_events fulls rs) (λ N N'. Same (list_events fulls ls) (list_events fulls rs) N N' × Pairs (InBoth NamesSame) ls rs)
    third = tells_each fulls (InBoth HeadSame) (InBoth NamesSame) (λ b c p. tells_each full HeadSame NamesSame h (ops_of s b) (ops_of s c) p) ls rs

    tells_blocks : Reads s ig (blocks_events s full ls) (blocks_events s full rs) (λ N N'. Same (blocks_events s full ls) (blocks_events s full rs) N N')
    unfolding blocks_events
    tells_blocks =
        reads_as s ig _ _ _ _
        (λ N N' t. same_then (shell_events of_block ls ++ list_events ops ls) (shell_events of_block rs ++ list_events ops rs) (list_events fulls ls) (list_events fulls rs) N N'
        (same_then (shell_events of_block ls) (shell_events of_block rs) (list_events ops ls) (list_events ops rs) N N' t.0.0.0 (shells_told t.0.1.1 t.1.1 _ _)) t.1.0)
        (reads_then s ig (shell_events of_block ls ++ list_events ops ls) (shell_events of_block rs ++ list_events ops rs) (list_events fulls ls) (list_events fulls rs) _ _
        (reads_then s ig (shell_events of_block ls) (shell_events of_block rs) (list_events ops ls) (list_events ops rs) _ _ first (λ N N' t. second t.1))
        (λ N N' t. third t.1.1))
      where
        shells_told : Pairs (InBoth HeadSame) ls rs → Pairs (InBoth NamesSame) ls rs → (N N' : Numbering) → Same (list_events ops ls) (list_events ops rs) N N'
        shells_told p q =
            same_each ops (InBoth (λ (n m : ℕ). HeadSame n m × NamesSame n m)) (λ b c. same_shells_lem (ops_of s b) (ops_of s c)) ls rs
            (pairs_both (InBoth HeadSame) (InBoth NamesSame) (InBoth (λ (n m : ℕ). HeadSame n m × NamesSame n m))
            (λ b c. pairs_both HeadSame NamesSame (λ (n m : ℕ). HeadSame n m × NamesSame n m) (λ n m x y. (x, y)) (ops_of s b) (ops_of s c)) ls rs p q)

  -- ---- a region, a fragment

  tells_region : (k l r : ℕ) → Any l r → Tells (region_events s k) Any l r
  unfolding region_events events_bytes numbered_after tokens
  tells_region zero l r t = λ N N' X Y alike room room' e. record { alike = alike; rest = e; told = (refl, tt) }
  tells_region (suc k) l r t =
      reads_as s ig _ _ _ _ (λ N N' h. (h, tt))
      (tells_blocks (op_events s (region_events s k)) (tells_full (region_events s k) (tells_region k)) (blocks_of s l) (blocks_of s r) (fitting.blocks_few s sd l) (fitting.blocks_few s sd r))

  pub tells_fragment : (f : Sort) (a b : ℕ) → Reads s ig (events s f a) (events s f b) (λ N N'. tokens s ig (events s f a) N ≡ tokens s ig (events s f b) N')
  unfolding events
  tells_fragment op a b =
      reads_as s ig _ _ _ _
      (λ N N' t. same_then (shell_one a) (shell_one b) (full a) (full b) N N' (same_shell a b t.0 t.1.1 N N') t.1.0)
      (reads_then s ig (shell_one a) (shell_one b) (full a) (full b) (λ N N'. HeadSame a b) (λ N N'. Same (full a) (full b) N N' × NamesSame a b)
      (reads_one (step (shell (of_op a))) (step (shell (of_op b))) (λ N N'. HeadSame a b) (op_read a b))
      (λ N N' t. tells_full (region_events s levels) (tells_region levels) a b t))
    where
      shell_one : ℕ → List Event
      shell_one = one (λ (n : ℕ). shell (of_op n))

      full : ℕ → List Event
      full = op_events s (region_events s levels)
  tells_fragment block a b =
      tells_blocks (op_events s (region_events s levels)) (tells_full (region_events s levels) (tells_region levels)) (a ∷ []) (b ∷ []) (lit≤ tt) (lit≤ tt)
  tells_fragment region a b = reads_as s ig _ _ _ _ (λ N N' t. t.0) (tells_region levels a b tt)
