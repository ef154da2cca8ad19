-- The copy is the original's twin: what was there is as before, the copy is the original with its names renamed, and so both have the canonical form
-- that the original had. Assumes nothing.
use Prim.Native.Nat.{ℕ, ◌<◌}
use native.Mathlib.Omega.{arith}
use mathlib.Core.Bool.{true, false, not, true≢false}
use mathlib.Core.List.Memᴰ
use mathlib.Core.List.{List, [], ◌∷◌, map, map-id, Memᴰ}
use mathlib.Core.Logic.{inr, ⊎_elim, ◌↔◌}
use Rattle.std.specs.Prelude.{Option, None, Some, is_some}
use Rattle.std.proofs.lemmas.Option.{same_Some, none-some}
use mathlib.Core.Path.{◌≡◌, refl, sym, ap, ap₂, subst, ◌∙◌}
use borrow.Author.Tests.{ltb-true}
use lib.ListN.{length}
use Rattle.rules.specs.Lists.{position}
use Rattle.rules.specs.Store.{Store, Op, Value, op_at, block_at, value_at, type_of, values_of, same_owner, op_exists, parent_exists, value_exists}
use Rattle.rules.specs.declared.types.Owner.{Owner}
use Rattle.rules.specs.declared.types.Owner.TheVariants.{Op as of_op, Block as of_block}
use Rattle.rules.specs.Fragments.{Step, shell, names, counted, steps, defines_owners, defines_blocks, defines_values, fragment_ops, names_values, names_blocks, Disjoint, NamesNothingOf, Premise}
use Rattle.rules.specs.declared.types.Sort.TheVariants.{Op as op}
use Rattle.rules.specs.declared.types.Ignore.{Ignore}
use Rattle.rules.specs.Types.{renamed}
use Rattle.rules.specs.Hash.{Numbering, no_numbers}
use Rattle.rules.specs.Form.{Event, step, more, done, events, numbered_by, canonical}
use Rattle.rules.specs.Copying.{renumbered, op_copy, block_copy, region_copy, value_copy, owner_copy, parent_copy, copied_op, copied_block, copied_value, copied, has_place, placed_outside, in_time}
use Rattle.rules.specs.TypeLaws.{RenamedNone}
use Rattle.rules.proofs.Basics.Tests.{clash}
use Rattle.rules.proofs.Soundness.Sound.{Sound}
use Rattle.rules.proofs.RenamedTypes.Under as under
use Rattle.rules.proofs.Form.Events.{bare_events}
use Rattle.rules.proofs.Form.Images.{position_none}
use Rattle.rules.proofs.Copying.Renumbered.{number_new, number_cases, number_once, first_number}
use Rattle.rules.proofs.Copying.Walked.{ops_by_block}
use Rattle.rules.proofs.Copying.Inside.{op_below, block_below, value_owner_lem}
use Rattle.rules.proofs.Copying.Tables.{old_op, new_op, old_block, new_block_lem, old_value, new_value, values_length, block_once}
use Rattle.rules.proofs.Copying.Children.{region_parent, owner_here, owner_apart, same_self, ops_old, ops_new, blocks_old, blocks_new, regions_old, regions_new, values_old, values_new}
use Rattle.rules.proofs.Copying.Kept.{value_copied}
use Rattle.rules.proofs.Copying.Named.{KeptNames, EventKept, Kept}
use Rattle.rules.proofs.Copying.Early.{in_time_lem}
use Rattle.rules.proofs.Copying.Moved.{renamed_owner, Moved, moves, owners_moved, ops_moved, blocks_moved, values_moved, named_values_moved, named_blocks_moved, named_values_in, named_blocks_in, kept→same, same→kept}

-- ---- names of the store, and new numbers

module _ (C : List ℕ) (next : ℕ) (ns : List ℕ) (below : (v : ℕ) → Memᴰ v ns → v < next) where
  -- a number of the store is no new one
  apart_new : Disjoint ns (map (renumbered C next) C)
  apart_new v m k =
      let w = Memᴰ.of_map (renumbered C next) C k in
      let e : renumbered C next w.0 ≡ v = w.2 in
      omega (arith, below v m, number_new C next w.1)

  -- a name, renamed, is none of those inside
  apart_old : ((c : ℕ) → Memᴰ c C → c < next) → Disjoint (map (renumbered C next) ns) C
  apart_old small v m k =
      let w = Memᴰ.of_map (renumbered C next) ns m in
      let e : renumbered C next w.0 ≡ v = w.2 in
      ⊎_elim (λ i. omega (arith, small v k, number_new C next i)) (λ h. h.0 (subst (λ (x : ℕ). Memᴰ x C) (sym e ∙ h.1) k)) (number_cases C next w.0)

-- a block outside is none of those inside
outside : (s : Store) (n : ℕ) (place : Option ℕ) → placed_outside s n place ≡ true → (b : ℕ) → Memᴰ b (defines_blocks s op n) → place ≡ Some b → ⊥
unfolding placed_outside has_place
outside s n None h b k e = none-some b e
outside s n (Some c) h b k e = go (position c (defines_blocks s op n)) refl h
  where
    go : (o : Option ℕ) → position c (defines_blocks s op n) ≡ o → not (is_some o) ≡ true → ⊥
    go None f i = position_none c (defines_blocks s op n) f (subst (λ (x : ℕ). Memᴰ x (defines_blocks s op n)) (sym (same_Some c b e)) k)
    go (Some j) f i = true≢false (sym i)

none_renamed_lem : (s : Store) → renamed [] s ≡ s
unfolding RenamedNone
none_renamed_lem s = under.renamed_none s

-- what keeps its number
abbrev same : ℕ → ℕ
same x = x

module _ (s t : Store) (wc : Owner → Owner) where
  event_stays : (e : Event) (N : Numbering) → EventKept s t same same wc e N
  unfolding EventKept KeptNames
  event_stays (step (shell w)) N = tt
  event_stays (step (names m)) N = (λ v k p. refl, λ b k p. refl)
  event_stays (step (counted j)) N = tt
  event_stays more N = tt
  event_stays done N = tt

  kept_stays : (es : List Event) (N : Numbering) → Kept s t same same wc es N
  unfolding Kept
  kept_stays [] N = tt
  kept_stays (e ∷ es) N = (event_stays e N, kept_stays es (numbered_by s e N))

module _ (s : Store) (sd : Sound s) (n : ℕ) (ex : op_exists s n ≡ true) (place : Option ℕ) (pe : parent_exists s place ≡ true) where
  abbrev with : Store
  with = copied s n place

  pub root_copy : op_copy s n n ≡ length s.ops
  unfolding op_copy
  root_copy = rw (ops_by_block s n) (first_number n _ (length s.ops))

  -- ---- the copy

  owner_is : (w : Owner) → renamed_owner s with n (op_copy s n) (block_copy s n) (region_copy s n) (value_copy s n) w ≡ owner_copy s n w
  unfolding renamed_owner owner_copy
  owner_is (of_op m) = refl
  owner_is (of_block b) = refl

  type_copied : (v : ℕ) → v < length s.values → type_of with (value_copy s n v) ≡ type_of s v
  unfolding type_of copied_value value_copy
  type_copied v l =
      ⊎_elim
      (λ k. ap (λ (x : Value). x.type) (new_value s n place k))
      (λ h. ap (λ (u : ℕ). (value_at with u).type) h.1 ∙ ap (λ (x : Value). x.type) (old_value s n place v l))
      (number_cases (defines_values s op n) (length s.values) v)

  value_below : (v : ℕ) → v < length s.values → value_copy s n v < length with.values
  unfolding value_exists
  value_below v l = ltb-true _ _ (value_copied s sd n ex place pe v l)

  old_type : (v : ℕ) → v < length s.values → type_of with v ≡ type_of s v
  unfolding type_of
  old_type v l = ap (λ (x : Value). x.type) (old_value s n place v l)

  pub copy_moved : Moved s with n (op_copy s n) (block_copy s n) (region_copy s n) (value_copy s n)
  unfolding copied_op copied_block value_copy
  copy_moved =
      record {
        renaming = record {
          types = type_copied;
          typed = λ v l. value_below v l;
          values_once = number_once (defines_values s op n) (length s.values);
          blocks_once = block_once s n place;
        };
        ops = λ b k. ops_new s sd n ex place pe k;
        blocks = λ r k w. blocks_new s sd n ex place pe k w;
        regions = λ m k. regions_new s sd n ex place pe k;
        values = λ w k. ap (values_of with) (owner_is w) ∙ values_new s sd n ex place pe k;
        op_entry = λ m k. (parent_copy s n place m, new_op s n place k);
        block_entry = λ b k. (region_copy s n (block_at s b).region, new_block_lem s n place k);
      }

  -- ---- the original

  module _ (out : placed_outside s n place ≡ true) where
    abbrev self : Owner → Owner
    self = renamed_owner s with n same same same same

    self_is : (w : Owner) → self w ≡ w
    unfolding renamed_owner
    self_is (of_op m) = refl
    self_is (of_block b) = refl

    pub stay_moved : Moved s with n same same same same
    stay_moved =
        record {
          renaming = record {
            types = old_type;
            typed = λ v l. omega (arith, values_length s n place);
            values_once = λ a b la lb e. e;
            blocks_once = λ a b la lb e. e;
          };
          ops = λ b k. ops_old s sd n ex place pe b (block_below s sd n ex k) (outside s n place out b k) ∙ sym (map-id _);
          blocks = λ r k w. blocks_old s sd n ex place pe r (region_parent s sd n ex place pe k).0 ∙ sym (map-id _);
          regions = λ m k. regions_old s sd n ex place pe m (op_below s sd n ex k) ∙ sym (map-id _);
          values = λ w k. ap (values_of with) (self_is w) ∙ values_old s sd n ex place pe w (owner_here s sd n ex place pe k) ∙ sym (map-id _);
          op_entry = λ m k. ((op_at s m).parent, old_op s n place m (op_below s sd n ex k) ∙ op_same (op_at s m));
          block_entry = λ b k. ((block_at s b).region, old_block s n place b (block_below s sd n ex k));
        }
      where
        op_same : (o : Op) → o ≡ record { kind = o.kind; parent = o.parent; location = o.location; operands = map same o.operands; successors = map same o.successors; attributes = o.attributes }
        op_same o = λ i. record { kind = o.kind; parent = o.parent; location = o.location; operands = sym (map-id o.operands) i; successors = sym (map-id o.successors) i; attributes = o.attributes }

    -- what the original defines and names is as before

    owners_stay : defines_owners with op n ≡ map self (defines_owners s op n)
    owners_stay = owners_moved s with n same same same same sd ex stay_moved

    pub ops_stay : fragment_ops with op n ≡ fragment_ops s op n
    ops_stay = ops_moved s with n same same same same sd ex stay_moved ∙ map-id _

    pub blocks_stay : defines_blocks with op n ≡ defines_blocks s op n
    blocks_stay = blocks_moved s with n same same same same sd ex stay_moved ∙ map-id _

    pub values_stay : defines_values with op n ≡ defines_values s op n
    values_stay = values_moved s with n same same same same sd ex stay_moved ∙ map-id _

    named_values_stay : names_values with op n ≡ names_values s op n
    named_values_stay = named_values_moved s with n same same same same sd ex stay_moved ∙ map-id _

    named_blocks_stay : names_blocks with op n ≡ names_blocks s op n
    named_blocks_stay = named_blocks_moved s with n same same same same sd ex stay_moved ∙ map-id _

    pub stay_canonical : (types : List ℕ) (ig : Ignore) → canonical (renamed types s) ig op n ≡ canonical (renamed types with) ig op n
    stay_canonical = kept→same s with n same same same same sd ex stay_moved (kept_stays s with self (events s op n) no_numbers)

    -- ---- the two beside each other

    abbrev copy_owner : Owner → Owner
    copy_owner = renamed_owner s with n (op_copy s n) (block_copy s n) (region_copy s n) (value_copy s n)

    -- what is defined at the copy's number
    pub ops_copied : fragment_ops with op (length s.ops) ≡ map (op_copy s n) (fragment_ops s op n)
    ops_copied =
        ap (fragment_ops with op) (sym root_copy) ∙ ops_moved s with n (op_copy s n) (block_copy s n) (region_copy s n) (value_copy s n) sd ex copy_moved

    pub blocks_copied : defines_blocks with op (length s.ops) ≡ map (block_copy s n) (defines_blocks s op n)
    blocks_copied =
        ap (defines_blocks with op) (sym root_copy) ∙ blocks_moved s with n (op_copy s n) (block_copy s n) (region_copy s n) (value_copy s n) sd ex copy_moved

    pub values_copied : defines_values with op (length s.ops) ≡ map (value_copy s n) (defines_values s op n)
    values_copied =
        ap (defines_values with op) (sym root_copy) ∙ values_moved s with n (op_copy s n) (block_copy s n) (region_copy s n) (value_copy s n) sd ex copy_moved

    owners_copied_lem : defines_owners with op (length s.ops) ≡ map copy_owner (defines_owners s op n)
    owners_copied_lem =
        ap (defines_owners with op) (sym root_copy) ∙ owners_moved s with n (op_copy s n) (block_copy s n) (region_copy s n) (value_copy s n) sd ex copy_moved

    named_values_copied : names_values with op (length s.ops) ≡ map (value_copy s n) (names_values s op n)
    named_values_copied =
        ap (names_values with op) (sym root_copy) ∙ named_values_moved s with n (op_copy s n) (block_copy s n) (region_copy s n) (value_copy s n) sd ex copy_moved

    named_blocks_copied : names_blocks with op (length s.ops) ≡ map (block_copy s n) (names_blocks s op n)
    named_blocks_copied =
        ap (names_blocks with op) (sym root_copy) ∙ named_blocks_moved s with n (op_copy s n) (block_copy s n) (region_copy s n) (value_copy s n) sd ex copy_moved

    values_below : (v : ℕ) → Memᴰ v (names_values s op n) → v < length s.values
    values_below = named_values_in s with n same same same same sd ex stay_moved

    blocks_below : (b : ℕ) → Memᴰ b (names_blocks s op n) → b < length s.blocks
    blocks_below = named_blocks_in s with n same same same same sd ex stay_moved

    -- the original names nothing of the copy, and the copy nothing of the original

    pub names_forth : NamesNothingOf with op n (length s.ops)
    unfolding NamesNothingOf value_copy block_copy
    names_forth =
        rw (named_values_stay, named_blocks_stay, values_copied, blocks_copied)
        (apart_new (defines_values s op n) (length s.values) (names_values s op n) values_below, apart_new (defines_blocks s op n) (length s.blocks) (names_blocks s op n) blocks_below)

    pub names_back : NamesNothingOf with op (length s.ops) n
    unfolding NamesNothingOf value_copy block_copy
    names_back =
        rw (named_values_copied, named_blocks_copied, values_stay, blocks_stay) (
          apart_old (defines_values s op n) (length s.values) (names_values s op n) values_below (λ v k. (value_owner_lem s sd n ex k).0),
          apart_old (defines_blocks s op n) (length s.blocks) (names_blocks s op n) blocks_below (λ b k. block_below s sd n ex k),
        )

    owners_apart : Disjoint (defines_owners with op n) (defines_owners with op (length s.ops))
    owners_apart x m k =
        let i = Memᴰ.of_map self (defines_owners s op n) (subst (Memᴰ x) owners_stay m) in
        let j = Memᴰ.of_map copy_owner (defines_owners s op n) (subst (Memᴰ x) owners_copied_lem k) in
        let e : i.0 ≡ x = sym (self_is i.0) ∙ i.2 in
        let f : owner_copy s n j.0 ≡ x = sym (owner_is j.0) ∙ j.2 in
        let h : same_owner i.0 (owner_copy s n j.0) ≡ false = owner_apart s sd n ex place pe i.0 j.0 (owner_here s sd n ex place pe i.1) j.1 in
        clash (same_self s sd n ex place pe x) (ap₂ same_owner (sym e) (sym f) ∙ h)

    pub premise : Premise with op n (length s.ops)
    unfolding Premise
    premise = inr (owners_apart, names_forth, names_back)

    -- ---- one canonical form

    in_time_kept : (in_time s n (steps s op n) no_numbers ≡ true) ↔ Kept s with (value_copy s n) (block_copy s n) copy_owner (events s op n) no_numbers
    in_time_kept =
        subst (λ (xs : List Step). (in_time s n xs no_numbers ≡ true) ↔ Kept s with (value_copy s n) (block_copy s n) copy_owner (events s op n) no_numbers) (bare_events s op n)
        (in_time_lem s with n copy_owner (moves s with n (op_copy s n) (block_copy s n) (region_copy s n) (value_copy s n) sd ex copy_moved) no_numbers)

    pub one_form : in_time s n (steps s op n) no_numbers ≡ true → (types : List ℕ) (ig : Ignore)
        → canonical (renamed types with) ig op n ≡ canonical (renamed types with) ig op (length s.ops)
    one_form h types ig =
        sym (stay_canonical types ig)
        ∙ kept→same s with n (op_copy s n) (block_copy s n) (region_copy s n) (value_copy s n) sd ex copy_moved (in_time_kept.0 h) types ig
        ∙ ap (canonical (renamed types with) ig op) root_copy

    pub form_in_time : (ig : Ignore) → canonical with ig op n ≡ canonical with ig op (length s.ops) → in_time s n (steps s op n) no_numbers ≡ true
    form_in_time ig e =
        in_time_kept.1 (same→kept s with n (op_copy s n) (block_copy s n) (region_copy s n) (value_copy s n) sd ex copy_moved ig
        (unrenamed ∙ e ∙ ap (canonical with ig op) (sym root_copy)))
      where
        unrenamed : canonical s ig op n ≡ canonical with ig op n
        unrenamed = ap (λ (x : Store). canonical x ig op n) (sym (none_renamed_lem s)) ∙ stay_canonical [] ig ∙ ap (λ (x : Store). canonical x ig op n) (none_renamed_lem with)
