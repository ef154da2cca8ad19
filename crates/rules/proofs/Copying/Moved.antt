-- An operation of one store and its image in another, with all inside: where entries are the renamed entries and children the renamed children, what
-- the image defines and names is what the operation does, renamed; and they have one canonical form, under every list of types, exactly where names
-- that have no number yet are kept. Assumes nothing.
use Prim.Native.Nat.{ℕ, ◌<◌}
use mathlib.Core.Bool.{true}
use mathlib.Core.List.Memᴰ
use mathlib.Core.List.{List, [], ◌∷◌, ◌++◌, map, map-append, Memᴰ}
use mathlib.Core.Logic.{⊎_elim}
use Rattle.std.specs.Prelude.{Option}
use mathlib.Core.Path.{◌≡◌, refl, sym, ap, ap₂, subst, ◌∙◌}
use borrow.Author.Tests.{ltb-true}
use lib.ListN.{length, length-map}
use Rattle.std.specs.List.{flat_map}
use Rattle.rules.specs.Store.{Store, Op, op_at, block_at, type_of, ops_of, blocks_of, regions_of, values_of, op_exists, block_exists, value_exists}
use Rattle.rules.specs.declared.types.Owner.{Owner}
use Rattle.rules.specs.declared.types.Owner.TheVariants.{Op as of_op, Block as of_block}
use Rattle.rules.specs.Fragments.{op_owner, block_owner, step_defines, step_operands, step_successors, defines_owners, defines_blocks, defines_values, fragment_ops, names_values, names_blocks}
use Rattle.rules.specs.declared.types.Sort.TheVariants.{Op as op}
use Rattle.rules.specs.Shells.{shell_of, counts_of, unignored, unignored_location}
use Rattle.rules.specs.declared.types.Ignore.{Ignore}
use Rattle.rules.specs.Hash.{no_numbers}
use Rattle.rules.specs.Types.{renamed}
use Rattle.rules.specs.Form.{Event, events, tokens, canonical}
use Rattle.rules.specs.Copying.{copied_regions}
use Rattle.rules.proofs.Basics.Tests.{all_at}
use Rattle.rules.proofs.Basics.Cut.{map_through}
use Rattle.rules.proofs.Soundness.Sound.{Sound}
use Rattle.rules.proofs.Soundness.Children.{values_in_lem}
use Rattle.rules.proofs.Form.Tokens.{event_operands, event_successors}
use Rattle.rules.proofs.Form.Canonical.{events_name_values, events_name_blocks}
use Rattle.rules.proofs.Form.Passed.{event_owners, in_walk}
use Rattle.rules.proofs.Copying.Walked.{walked_regions}
use Rattle.rules.proofs.Copying.Inside.{op_below, block_below, op_owned, block_owned}
use Rattle.rules.proofs.Copying.Along.{Along, over, pair, along_imp, along_lists, along_events}
use Rattle.rules.proofs.Copying.Named.{OwnerPair, NamesPair, Carries, shelled, named, begun, mores, dones, Renaming, Mapped, Kept, tokens_same, same_tokens}
use Rattle.rules.proofs.Copying.UnderTypes.{events_renamed, carries_under, renaming_under, kept_under}

-- what lists of owners list, renamed
concat_renamed : {A B C D : Type 0} (f : A → B) (c : C → D) (g : A → List C) (h : B → List D) (xs : List A) → ((x : A) → Memᴰ x xs → h (f x) ≡ map c (g x))
    → flat_map h (map f xs) ≡ map c (flat_map g xs)
concat_renamed f c g h [] same = refl
concat_renamed f c g h (x ∷ xs) same =
    ap₂ ◌++◌ (same x (Memᴰ.head refl)) (concat_renamed f c g h xs (λ y m. same y (Memᴰ.tail m))) ∙ sym (map-append c (g x) (flat_map g xs))

module _ (s t : Store) (n : ℕ) (oc bc rc vc : ℕ → ℕ) where
  -- an owner, renamed
  unfoldable pub renamed_owner : Owner → Owner
  renamed_owner (of_op m) = of_op (oc m)
  renamed_owner (of_block b) = of_block (bc b)

  op_renamed : (w : Owner) → op_owner (renamed_owner w) ≡ map oc (op_owner w)
  unfolding op_owner renamed_owner
  op_renamed (of_op m) = refl
  op_renamed (of_block b) = refl

  block_renamed : (w : Owner) → block_owner (renamed_owner w) ≡ map bc (block_owner w)
  unfolding block_owner renamed_owner
  block_renamed (of_op m) = refl
  block_renamed (of_block b) = refl

  -- what a pair of events defines and names

  carried_owners : (e e' : Event) → Carries s t vc bc renamed_owner e e' → event_owners e' ≡ map renamed_owner (event_owners e)
  unfolding event_owners step_defines
  carried_owners e e' (shelled p) = ap (λ (w : Owner). w ∷ []) p.owner
  carried_owners e e' (named p) = refl
  carried_owners e e' begun = refl
  carried_owners e e' mores = refl
  carried_owners e e' dones = refl

  carried_operands : (e e' : Event) → Carries s t vc bc renamed_owner e e' → event_operands t e' ≡ map vc (event_operands s e)
  unfolding event_operands step_operands
  carried_operands e e' (shelled p) = refl
  carried_operands e e' (named p) = p.operands
  carried_operands e e' begun = refl
  carried_operands e e' mores = refl
  carried_operands e e' dones = refl

  carried_successors : (e e' : Event) → Carries s t vc bc renamed_owner e e' → event_successors t e' ≡ map bc (event_successors s e)
  unfolding event_successors step_successors
  carried_successors e e' (shelled p) = refl
  carried_successors e e' (named p) = p.successors
  carried_successors e e' begun = refl
  carried_successors e e' mores = refl
  carried_successors e e' dones = refl

  pub record Moved : Type 0 where
    pub renaming : Renaming s t vc bc renamed_owner
    pub ops : (b : ℕ) → Memᴰ b (defines_blocks s op n) → ops_of t (bc b) ≡ map oc (ops_of s b)
    pub blocks : (r : ℕ) → Memᴰ r (copied_regions s n) → Memᴰ r (walked_regions s n) → blocks_of t (rc r) ≡ map bc (blocks_of s r)
    pub regions : (m : ℕ) → Memᴰ m (fragment_ops s op n) → regions_of t (oc m) ≡ map rc (regions_of s m)
    pub values : (w : Owner) → Memᴰ w (defines_owners s op n) → values_of t (renamed_owner w) ≡ map vc (values_of s w)
    pub op_entry :
        (m : ℕ) → Memᴰ m (fragment_ops s op n)
        → (p : Option ℕ)
        × (op_at t (oc m)
        ≡ record { kind = (op_at s m).kind; parent = p; location = (op_at s m).location; operands = map vc (op_at s m).operands; successors = map bc (op_at s m).successors; attributes = (op_at s m).attributes })
    pub block_entry :
        (b : ℕ) → Memᴰ b (defines_blocks s op n)
        → (r : ℕ) × (block_at t (bc b) ≡ record { region = r; location = (block_at s b).location; attributes = (block_at s b).attributes })

  module _ (sd : Sound s) (ex : op_exists s n ≡ true) (mv : Moved) where
    abbrev P : Event → Event → Type 0
    P = Carries s t vc bc renamed_owner

    own_types : (w : Owner) → map (type_of t) (map vc (values_of s w)) ≡ map (type_of s) (values_of s w)
    own_types w = sym (map_through (type_of s) (type_of t) vc (values_of s w) (λ v m. sym (mv.renaming.types v (values_in_lem s w m).0)))

    op_counts : (m : ℕ) → Memᴰ m (fragment_ops s op n) → counts_of t (of_op (oc m)) ≡ counts_of s (of_op m)
    unfolding counts_of renamed_owner
    op_counts m k =
        let e = (mv.op_entry m k).1 in
        rw (e, mv.regions m k, mv.values (of_op m) (op_owned s sd n ex k)) (simp length-map)

    op_pair : (m : ℕ) → Memᴰ m (fragment_ops s op n) → OwnerPair s t vc bc renamed_owner (of_op m) (of_op (oc m))
    unfolding renamed_owner block_owner shell_of
    op_pair m k =
        let e = (mv.op_entry m k).1 in
        let v = mv.values (of_op m) (op_owned s sd n ex k) in
        record {
          owner = refl;
          values = v;
          blocks = refl;
          blocks_in = λ b i. absurd (Memᴰ.not-nil i);
          counts = op_counts m k;
          shells = λ ig. λ i. record {
            location = unignored_location ig (e i).location;
            attributes = unignored ig (e i).attributes;
            types = (ap (map (type_of t)) v ∙ own_types (of_op m)) i;
          };
        }

    block_pair : (b : ℕ) → Memᴰ b (defines_blocks s op n) → OwnerPair s t vc bc renamed_owner (of_block b) (of_block (bc b))
    unfolding renamed_owner block_owner shell_of counts_of
    block_pair b k =
        let e = (mv.block_entry b k).1 in
        let v = mv.values (of_block b) (block_owned s sd n ex k) in
        record {
          owner = refl;
          values = v;
          blocks = refl;
          blocks_in = λ c i. subst (λ (x : ℕ). x < length s.blocks) (sym (Memᴰ.eq_of_singleton i)) (block_below s sd n ex k);
          counts = rw v (simp length-map);
          shells = λ ig. λ i. record {
            location = unignored_location ig (e i).location;
            attributes = unignored ig (e i).attributes;
            types = (ap (map (type_of t)) v ∙ own_types (of_block b)) i;
          };
        }

    names_pair : (m : ℕ) → Memᴰ m (fragment_ops s op n) → NamesPair s t vc bc renamed_owner m (oc m)
    unfolding value_exists block_exists
    names_pair m k =
        let e = (mv.op_entry m k).1 in
        let o = sd.op m (op_below s sd n ex k) in
        record {
          counts = op_counts m k;
          operands = ap (λ (x : Op). x.operands) e;
          operands_in = λ v i. ltb-true _ _ (all_at (value_exists s) (op_at s m).operands o.operands_in i);
          successors = ap (λ (x : Op). x.successors) e;
          successors_in = λ b i. ltb-true _ _ (all_at (block_exists s) (op_at s m).successors o.successors_in i);
        }

    pub moves : Along P (events s op n) (events t op (oc n))
    moves =
        along_events P (λ j k. begun) mores dones s t n oc bc rc mv.ops mv.blocks mv.regions
        (λ m k. shelled (op_pair m k)) (λ b k. shelled (block_pair b k)) (λ m k. named (names_pair m k))

    -- ---- what is defined, and named

    pub owners_moved : defines_owners t op (oc n) ≡ map renamed_owner (defines_owners s op n)
    owners_moved = sym (in_walk t op (oc n)) ∙ along_lists renamed_owner event_owners event_owners carried_owners moves ∙ ap (map renamed_owner) (in_walk s op n)

    pub ops_moved : fragment_ops t op (oc n) ≡ map oc (fragment_ops s op n)
    unfolding fragment_ops
    ops_moved = ap (flat_map op_owner) owners_moved ∙ concat_renamed renamed_owner oc op_owner op_owner (defines_owners s op n) (λ w m. op_renamed w)

    pub blocks_moved : defines_blocks t op (oc n) ≡ map bc (defines_blocks s op n)
    unfolding defines_blocks
    blocks_moved = ap (flat_map block_owner) owners_moved ∙ concat_renamed renamed_owner bc block_owner block_owner (defines_owners s op n) (λ w m. block_renamed w)

    pub values_moved : defines_values t op (oc n) ≡ map vc (defines_values s op n)
    unfolding defines_values
    values_moved = ap (flat_map (values_of t)) owners_moved ∙ concat_renamed renamed_owner vc (values_of s) (values_of t) (defines_owners s op n) mv.values

    pub named_values_moved : names_values t op (oc n) ≡ map vc (names_values s op n)
    named_values_moved =
        sym (events_name_values t op (oc n)) ∙ along_lists vc (event_operands s) (event_operands t) carried_operands moves ∙ ap (map vc) (events_name_values s op n)

    pub named_blocks_moved : names_blocks t op (oc n) ≡ map bc (names_blocks s op n)
    named_blocks_moved =
        sym (events_name_blocks t op (oc n)) ∙ along_lists bc (event_successors s) (event_successors t) carried_successors moves ∙ ap (map bc) (events_name_blocks s op n)

    -- what is named exists

    named_in : {es es' : List Event} → Along P es es'
        → ((v : ℕ) → Memᴰ v (flat_map (event_operands s) es) → v < length s.values) × ((b : ℕ) → Memᴰ b (flat_map (event_successors s) es) → b < length s.blocks)
    unfolding event_operands event_successors step_operands step_successors
    named_in over = (λ v m. absurd (Memᴰ.not-nil m), λ b m. absurd (Memᴰ.not-nil m))
    named_in (pair (shelled p) a) = named_in a
    named_in (pair (named {m = m} p) a) =
        let r = named_in a in
        (λ v k. ⊎_elim (p.operands_in v) (r.0 v) (Memᴰ.append_cases (op_at s m).operands k), λ b k. ⊎_elim (p.successors_in b) (r.1 b) (Memᴰ.append_cases (op_at s m).successors k))
    named_in (pair begun a) = named_in a
    named_in (pair mores a) = named_in a
    named_in (pair dones a) = named_in a

    pub named_values_in : (v : ℕ) → Memᴰ v (names_values s op n) → v < length s.values
    named_values_in v m = (named_in moves).0 v (subst (Memᴰ v) (sym (events_name_values s op n)) m)

    pub named_blocks_in : (b : ℕ) → Memᴰ b (names_blocks s op n) → b < length s.blocks
    named_blocks_in b m = (named_in moves).1 b (subst (Memᴰ b) (sym (events_name_blocks s op n)) m)

    -- ---- the canonical form

    none_numbered : (u v : Store) → Mapped u v vc bc renamed_owner no_numbers no_numbers
    unfolding no_numbers
    none_numbered u v = record { values = refl; values_in = λ x m. absurd (Memᴰ.not-nil m); blocks = refl; blocks_in = λ x m. absurd (Memᴰ.not-nil m) }

    pub kept→same : Kept s t vc bc renamed_owner (events s op n) no_numbers → (types : List ℕ) (ig : Ignore)
        → canonical (renamed types s) ig op n ≡ canonical (renamed types t) ig op (oc n)
    unfolding canonical
    kept→same k types ig =
        ap (λ (es : List Event). tokens (renamed types s) ig es no_numbers) (events_renamed types s n)
        ∙ tokens_same (renamed types s) (renamed types t) vc bc renamed_owner (renaming_under types s t vc bc renamed_owner mv.renaming) ig
        (along_imp (carries_under types s t vc bc renamed_owner) moves) no_numbers no_numbers (none_numbered (renamed types s) (renamed types t)) (kept_under types s t vc bc renamed_owner (events s op n) no_numbers k)
        ∙ sym (ap (λ (es : List Event). tokens (renamed types t) ig es no_numbers) (events_renamed types t (oc n)))

    pub same→kept : (ig : Ignore) → canonical s ig op n ≡ canonical t ig op (oc n) → Kept s t vc bc renamed_owner (events s op n) no_numbers
    unfolding canonical
    same→kept ig e = same_tokens s t vc bc renamed_owner mv.renaming ig moves no_numbers no_numbers (none_numbered s t) e
