-- The Rust's hash is 01's: it goes through the same steps, feeds the same bytes at each, and where nothing is defined twice its numbers are
-- the walk numbers. Assumes nothing.
use Prim.Native.Nat.{ℕ, zero, suc}
use mathlib.Core.Bool.{Bool, true, false, cond}
use mathlib.Core.List.{List, [], ◌∷◌, ◌++◌, map, append_assoc, append-nil}
use Rattle.std.specs.Prelude.{Option, None, Some}
use mathlib.Core.Path.{◌≡◌, refl, sym, ap, ap₂, subst, ◌∙◌}
use lib.ListN.{length, get_or}
use Rattle.std.specs.List.{flat_map}
use Rattle.rules.specs.Lists.{position}
use Rattle.rules.specs.Store.{Store, op_at, block_at, type_of, ops_of, blocks_of, regions_of, results_of, arguments_of, values_of, keys_rise}
use Rattle.rules.specs.declared.types.Attribute.{Attribute}
use Rattle.rules.specs.declared.types.Owner.TheVariants.{Op as of_op, Block as of_block}
use Rattle.rules.specs.Fragments.{levels, Step, shell, names, counted, full_op, shells, list_steps, region_steps, steps, step_defines, block_owner, defines_owners, defines_values, defines_blocks}
use Rattle.rules.specs.declared.types.Sort.{Sort}
use Rattle.rules.specs.declared.types.Sort.TheVariants.{Op as op, Block as block, Region as region}
use Rattle.rules.specs.Shells.{unignored, unignored_location, shell_of}
use Rattle.rules.specs.declared.types.Ignore.{Ignore}
use Rattle.rules.specs.Hash.{fnv_from, fnv_start, fnv, leaf, count, location_bytes, flag, attribute_bytes, uncounted, list_bytes, shell_bytes, head_bytes, Numbering, no_numbers, numbered, name_at, name_of, feeds, all_bytes, hash}
use Rattle.rules.specs.Hash as rules
use Rattle.rules.specs.Rust.{count_from, up_to, is_relevant, HashNumbering, HashState, feed, use_bytes, hash_value, hash_block, for_in, lookup, hash_attribute, attributes_hash, hash_loc, hash_type, defining, hash_op_shell, hash_op_full, hash_block_shell, hash_blocks_full, new_hash_state, rust_hash}
use Rattle.rules.specs.Agreement.{HashesAsTheRust}
use Rattle.rules.proofs.Soundness.Sound.{Sound, facts}
use Rattle.rules.proofs.Basics.Distinct.{Distinct, distinct_left, concat_map_concat_map, concat_map_same, concat_map_cong}
use Rattle.rules.proofs.Form.Hashes.{fnv_append}
use Rattle.rules.proofs.Form.Once.{values_once_lem, blocks_once_lem}
use Rattle.rules.proofs.Attributes.{filter_rises}
use Rattle.rules.proofs.Rust.Attributes.{sort_same}
use Rattle.rules.proofs.Rust.Comparison.{op_keys, block_keys_lem}
use Rattle.rules.proofs.Rust.Numbering.{indexed, lookup_place, define_all_lem}

-- ---- loops

module _ {A : Type 0} where
  in_append : (f : A → HashState → HashState) (xs ys : List A) (h : HashState) → for_in f (xs ++ ys) h ≡ for_in f ys (for_in f xs h)
  unfolding for_in
  in_append f [] ys h = refl
  in_append f (x ∷ xs) ys h = in_append f xs ys (f x h)

  in_same : (f g : A → HashState → HashState) → ((x : A) (h : HashState) → f x h ≡ g x h) → (xs : List A) (h : HashState) → for_in f xs h ≡ for_in g xs h
  unfolding for_in
  in_same f g e [] h = refl
  in_same f g e (x ∷ xs) h = ap (for_in f xs) (e x h) ∙ in_same f g e xs (g x h)

module _ {A B : Type 0} where
  in_map : (f : B → HashState → HashState) (g : A → B) (xs : List A) (h : HashState) → for_in f (map g xs) h ≡ for_in (λ (x : A). f (g x)) xs h
  unfolding for_in
  in_map f g [] h = refl
  in_map f g (x ∷ xs) h = in_map f g xs (f (g x) h)

  in_concat : (f : B → HashState → HashState) (g : A → List B) (xs : List A) (h : HashState) → for_in f (flat_map g xs) h ≡ for_in (λ (x : A). for_in f (g x)) xs h
  unfolding for_in
  in_concat f g [] h = refl
  in_concat f g (x ∷ xs) h = in_append f (g x) (flat_map g xs) h ∙ in_concat f g xs (for_in f (g x) h)

-- a list by its places
places : {A : Type 0} (f : ℕ → A) (a n : ℕ) → map f (count_from (suc a) n) ≡ map (λ (i : ℕ). f (suc i)) (count_from a n)
unfolding count_from
places f a zero = refl
places {A} f a (suc n) = ap (λ (xs : List A). f (suc a) ∷ xs) (places f (suc a) n)

by_places : (xs : List ℕ) → map (λ (i : ℕ). get_or xs i 0) (up_to (length xs)) ≡ xs
unfolding up_to count_from
by_places [] = refl
by_places (x ∷ xs) = ap (λ (ys : List ℕ). x ∷ ys) (places (λ (i : ℕ). get_or (x ∷ xs) i 0) 0 (length xs) ∙ by_places xs)

-- ---- bytes, one after the other

feed_feed : (xs ys : List ℕ) (h : HashState) → feed ys (feed xs h) ≡ feed (xs ++ ys) h
unfolding feed
feed_feed xs ys h = ap (λ (w : ℕ). record { numbering = h.numbering; state = w }) (sym (fnv_append h.state xs ys))

-- a loop that feeds for each what doesn't depend on what was fed before
feed_each : {A : Type 0} (f : A → HashState → HashState) (g : HashNumbering → A → List ℕ) → ((x : A) (h : HashState) → f x h ≡ feed (g h.numbering x) h)
    → (xs : List A) (h : HashState) → for_in f xs h ≡ feed (flat_map (g h.numbering) xs) h
unfolding for_in feed fnv_from
feed_each f g e [] h = refl
feed_each f g e (x ∷ xs) h =
    ap (for_in f xs) (e x h) ∙ feed_each f g e xs (feed (g h.numbering x) h) ∙ feed_feed (g h.numbering x) (flat_map (g h.numbering) xs) h

module _ (s : Store) (ig : Ignore) where
  types_fed : (vs : List ℕ) (h : HashState) → for_in (hash_type s) vs h ≡ feed (flat_map leaf (map (type_of s) vs)) h
  unfolding hash_type
  types_fed vs h = sym (in_map _ (type_of s) vs h) ∙ feed_each (λ (t : ℕ). feed (leaf t)) (λ N. leaf) (λ t k. refl) (map (type_of s) vs) h

  loc_fed : (l : ℕ) (h : HashState) → hash_loc ig l h ≡ feed (location_bytes (unignored_location ig l)) h
  unfolding hash_loc location_bytes unignored_location feed fnv_from
  loc_fed l h = go ig.locations
    where
      go : (t : Bool) → cond t h (feed (leaf l) h) ≡ feed (location_bytes (cond t None (Some l))) h
      go true = refl
      go false = refl

  attribute_fed : (a : Attribute) (h : HashState) → hash_attribute a h ≡ feed (attribute_bytes a) h
  unfolding hash_attribute attribute_bytes
  attribute_fed a h =
      let kind = leaf a.kind in
      let content = leaf a.content in
      let its = flag a.inherent in
      feed_feed (leaf a.key) (kind ++ content ++ its) h
      ∙ ap (λ (bs : List ℕ). feed bs h)
      (sym (append_assoc (leaf a.key) (kind ++ content) its) ∙ ap (λ (bs : List ℕ). bs ++ its) (sym (append_assoc (leaf a.key) kind content)))

  attributes_fed : (as' : List Attribute) → keys_rise as' ≡ true → (h : HashState)
      → attributes_hash ig as' h ≡ feed (flat_map attribute_bytes (unignored ig as')) (feed (count (length (unignored ig as'))) h)
  unfolding attributes_hash is_relevant unignored
  attributes_fed as' r h =
      let rel = unignored ig as' in
      ap (λ (bs : List Attribute). for_in hash_attribute bs (feed (count (length bs)) h)) (sort_same rel (filter_rises _ as' r))
      ∙ feed_each hash_attribute (λ N. attribute_bytes) attribute_fed rel (feed (count (length rel)) h)

  -- location, attributes and types, one after the other
  shell_fed : (l : ℕ) (as' : List Attribute) → keys_rise as' ≡ true → (vs : List ℕ) (h : HashState)
      → for_in (hash_type s) vs (attributes_hash ig as' (hash_loc ig l h))
      ≡ feed (shell_bytes uncounted (record { location = unignored_location ig l; attributes = unignored ig as'; types = map (type_of s) vs })) h
  unfolding shell_bytes list_bytes
  shell_fed l as' r vs h =
      let L = location_bytes (unignored_location ig l) in
      let C = count (length (unignored ig as')) in
      let A = flat_map attribute_bytes (unignored ig as') in
      let T = flat_map leaf (map (type_of s) vs) in
      types_fed vs _
      ∙ ap (feed T) (attributes_fed as' r _ ∙ ap (λ (k : HashState). feed A (feed C k)) (loc_fed l h))
      ∙ ap (λ (k : HashState). feed T (feed A k)) (feed_feed L C h)
      ∙ ap (feed T) (feed_feed (L ++ C) A h)
      ∙ feed_feed ((L ++ C) ++ A) T h

-- ---- walk numbers

-- what the Rust is lent, at the same numbers
unfoldable lent : Numbering → ℕ → HashState
lent N w = record { numbering = record { values = indexed 0 N.values; blocks = indexed 0 N.blocks }; state = w }

name_bytes_lem : (defined : List ℕ) (n : ℕ) → use_bytes (lookup n (indexed 0 defined)) n ≡ rules.name_bytes (name_of defined n)
unfolding name_of name_at use_bytes rules.name_bytes
name_bytes_lem defined n = rw (lookup_place n defined) (go (position n defined))
  where
    go : (o : Option ℕ) → use_bytes o n ≡ rules.name_bytes (name_at o n)
    go None = refl
    go (Some i) = refl

value_fed : (v : ℕ) (h : HashState) → hash_value v h ≡ feed (use_bytes (lookup v h.numbering.values) v) h
unfolding hash_value
value_fed v h = refl

block_fed : (b : ℕ) (h : HashState) → hash_block b h ≡ feed (use_bytes (lookup b h.numbering.blocks) b) h
unfolding hash_block
block_fed b h = refl

define_fed : (bs cs vs : List ℕ) (N : Numbering) (w : ℕ) → Distinct (N.values ++ vs) → Distinct (N.blocks ++ cs)
    → defining cs vs (feed bs (lent N w)) ≡ lent (record { values = N.values ++ vs; blocks = N.blocks ++ cs }) (fnv_from w bs)
unfolding defining feed lent
define_fed bs cs vs N w dv db =
    ap₂ (λ (es fs : List (ℕ × ℕ)). record { numbering = record { values = es; blocks = fs }; state = fnv_from w bs })
    (define_all_lem N.values vs dv) (define_all_lem N.blocks cs db)

module _ (s : Store) (sd : Sound s) (ig : Ignore) where
  -- one step, as the Rust makes it
  stepped : Step → HashState → HashState
  stepped (shell (of_op n)) h = hash_op_shell s ig n h
  stepped (shell (of_block b)) h = hash_block_shell s ig b h
  stepped (names n) h = for_in hash_block (op_at s n).successors (for_in hash_value (op_at s n).operands h)
  stepped (counted k) h = h

  -- what a step defines
  step_values : Step → List ℕ
  step_values (shell w) = values_of s w
  step_values (names n) = []
  step_values (counted k) = []

  step_blocks : Step → List ℕ
  step_blocks (shell w) = block_owner w
  step_blocks (names n) = []
  step_blocks (counted k) = []

  names_fed : (n : ℕ) (N : Numbering) (w : ℕ) → stepped (names n) (lent N w) ≡ lent N (fnv_from w (feeds uncounted s ig (names n) N))
  unfolding stepped feeds list_bytes feed lent
  names_fed n N w =
      let os = (op_at s n).operands in
      let ss = (op_at s n).successors in
      let vs = flat_map (λ (v : ℕ). use_bytes (lookup v (indexed 0 N.values)) v) os in
      let bs = flat_map (λ (b : ℕ). use_bytes (lookup b (indexed 0 N.blocks)) b) ss in
      ap (for_in hash_block ss) (feed_each hash_value (λ M v. use_bytes (lookup v M.values) v) value_fed os (lent N w))
      ∙ feed_each hash_block (λ M b. use_bytes (lookup b M.blocks) b) block_fed ss (feed vs (lent N w))
      ∙ feed_feed vs bs (lent N w)
      ∙ ap₂ (λ (xs ys : List ℕ). feed (xs ++ ys) (lent N w)) (concat_map_cong _ _ (name_bytes_lem N.values) os) (concat_map_cong _ _ (name_bytes_lem N.blocks) ss)

  counted_fed : (k : ℕ) (N : Numbering) (w : ℕ) → stepped (counted k) (lent N w) ≡ lent N (fnv_from w (feeds uncounted s ig (counted k) N))
  unfolding stepped feeds fnv_from
  counted_fed k N w = refl

  step_fed : (x : Step) (N : Numbering) (w : ℕ) → Distinct (N.values ++ step_values x) → Distinct (N.blocks ++ step_blocks x)
      → stepped x (lent N w) ≡ lent (numbered s x N) (fnv_from w (feeds uncounted s ig x N))
  unfolding stepped step_values step_blocks numbered feeds head_bytes shell_of hash_op_shell hash_block_shell results_of arguments_of block_owner
  step_fed (names n) N w dv db = names_fed n N w
  step_fed (counted k) N w dv db = counted_fed k N w
  step_fed (shell (of_op n)) N w dv db =
      let h = lent N w in
      let head = leaf (op_at s n).kind ++ count (length (regions_of s n)) in
      ap (defining [] (values_of s (of_op n)))
      (shell_fed s ig (op_at s n).location (op_at s n).attributes (op_keys s sd n) (values_of s (of_op n)) _
      ∙ ap (feed (shell_bytes uncounted (shell_of s ig (of_op n)))) (feed_feed (leaf (op_at s n).kind) (count (length (regions_of s n))) h)
      ∙ feed_feed head (shell_bytes uncounted (shell_of s ig (of_op n))) h)
      ∙ define_fed (head ++ shell_bytes uncounted (shell_of s ig (of_op n))) [] (values_of s (of_op n)) N w dv db
  step_fed (shell (of_block b)) N w dv db =
      ap (defining (b ∷ []) (values_of s (of_block b)))
      (shell_fed s ig (block_at s b).location (block_at s b).attributes (block_keys_lem s sd b) (values_of s (of_block b)) (lent N w))
      ∙ define_fed (shell_bytes uncounted (shell_of s ig (of_block b))) (b ∷ []) (values_of s (of_block b)) N w dv db

  -- ---- all steps

  -- nothing is defined twice, in what is numbered and in what the steps define
  Once : List Step → Numbering → Type 0
  Once xs N = Distinct (N.values ++ flat_map step_values xs) × Distinct (N.blocks ++ flat_map step_blocks xs)

  none_left : (ns ms : List ℕ) → Distinct (ns ++ ms) → Distinct (ns ++ [])
  none_left ns ms d = distinct_left (ns ++ []) ms (subst Distinct (sym (append_assoc ns [] ms)) d)

  once_step : (x : Step) (xs : List Step) (N : Numbering) → Once (x ∷ xs) N
      → Distinct (N.values ++ step_values x) × Distinct (N.blocks ++ step_blocks x) × Once xs (numbered s x N)
  unfolding Once step_values step_blocks numbered
  once_step (names n) xs N d = (none_left N.values (flat_map step_values xs) d.0, none_left N.blocks (flat_map step_blocks xs) d.1, d)
  once_step (counted k) xs N d = (none_left N.values (flat_map step_values xs) d.0, none_left N.blocks (flat_map step_blocks xs) d.1, d)
  once_step (shell w) xs N d =
      let dv = subst Distinct (sym (append_assoc N.values (values_of s w) (flat_map step_values xs))) d.0 in
      let db = subst Distinct (sym (append_assoc N.blocks (block_owner w) (flat_map step_blocks xs))) d.1 in
      (distinct_left (N.values ++ values_of s w) (flat_map step_values xs) dv, distinct_left (N.blocks ++ block_owner w) (flat_map step_blocks xs) db, (dv, db))

  walked : (xs : List Step) (N : Numbering) (w : ℕ) → Once xs N → (for_in stepped xs (lent N w)).state ≡ fnv_from w (all_bytes uncounted s ig xs N)
  unfolding for_in all_bytes lent fnv_from
  walked [] N w d = refl
  walked (x ∷ xs) N w d =
      let o = once_step x xs N d in
      ap (λ (h : HashState). (for_in stepped xs h).state) (step_fed x N w o.0 o.1)
      ∙ walked xs (numbered s x N) (fnv_from w (feeds uncounted s ig x N)) o.2
      ∙ sym (fnv_append w (feeds uncounted s ig x N) (all_bytes uncounted s ig xs (numbered s x N)))

  -- ---- the Rust's functions go through these steps

  full_steps_lem : (hash_blocks : List ℕ → HashState → HashState) (in_region : ℕ → List Step)
      → ((r : ℕ) (h : HashState) → hash_blocks (blocks_of s r) h ≡ for_in stepped (in_region r) h)
      → (n : ℕ) (h : HashState) → hash_op_full s hash_blocks n h ≡ for_in stepped (full_op s in_region n) h
  unfolding hash_op_full full_op for_in stepped
  full_steps_lem hash_blocks in_region same n h =
      let k = stepped (names n) h in
      let f : ℕ → HashState → HashState = λ r. hash_blocks (blocks_of s r) in
      sym (in_map f (λ (i : ℕ). get_or (regions_of s n) i 0) (up_to (length (regions_of s n))) k)
      ∙ ap (λ (rs : List ℕ). for_in f rs k) (by_places (regions_of s n))
      ∙ in_same f (λ (r : ℕ). for_in stepped (in_region r)) same (regions_of s n) k
      ∙ sym (in_concat stepped in_region (regions_of s n) k)

  list_steps_lem : (hash_full : ℕ → HashState → HashState) (full : ℕ → List Step) → ((n : ℕ) (h : HashState) → hash_full n h ≡ for_in stepped (full n) h)
      → (bs : List ℕ) (h : HashState)
      → for_in (λ (b : ℕ). for_in hash_full (ops_of s b)) bs (for_in (λ (b : ℕ). for_in (hash_op_shell s ig) (ops_of s b)) bs (for_in (hash_block_shell s ig) bs h))
      ≡ for_in stepped (list_steps s full bs) h
  unfolding list_steps shells for_in stepped
  list_steps_lem hash_full full same bs h =
      ap (λ (k : HashState). for_in (λ (b : ℕ). for_in hash_full (ops_of s b)) bs (for_in (λ (b : ℕ). for_in (hash_op_shell s ig) (ops_of s b)) bs k)) (sym (in_map stepped _ bs h))
      ∙ ap (for_in (λ (b : ℕ). for_in hash_full (ops_of s b)) bs) (second (for_in stepped one h))
      ∙ third (for_in stepped two (for_in stepped one h))
      ∙ sym (in_append stepped (one ++ two) three h ∙ ap (for_in stepped three) (in_append stepped one two h))
    where
      one : List Step
      one = shells of_block bs

      two : List Step
      two = flat_map (λ (b : ℕ). shells of_op (ops_of s b)) bs

      three : List Step
      three = flat_map (λ (b : ℕ). flat_map full (ops_of s b)) bs

      second : (k : HashState) → for_in (λ (b : ℕ). for_in (hash_op_shell s ig) (ops_of s b)) bs k ≡ for_in stepped two k
      second k =
          in_same _ _ (λ b g. sym (in_map stepped (λ (n : ℕ). shell (of_op n)) (ops_of s b) g)) bs k
          ∙ sym (in_concat stepped (λ (b : ℕ). shells of_op (ops_of s b)) bs k)

      third : (k : HashState) → for_in (λ (b : ℕ). for_in hash_full (ops_of s b)) bs k ≡ for_in stepped three k
      third k =
          in_same _ _ (λ b g. in_same _ _ same (ops_of s b) g ∙ sym (in_concat stepped full (ops_of s b) g)) bs k
          ∙ sym (in_concat stepped (λ (b : ℕ). flat_map full (ops_of s b)) bs k)

  -- with one region less to enter
  lists_steps : (k : ℕ) → ((r : ℕ) (h : HashState) → hash_blocks_full k s ig (blocks_of s r) h ≡ for_in stepped (region_steps k s r) h)
      → (bs : List ℕ) (h : HashState) → hash_blocks_full (suc k) s ig bs h ≡ for_in stepped (list_steps s (full_op s (region_steps k s)) bs) h
  unfolding hash_blocks_full
  lists_steps k same = list_steps_lem (hash_op_full s (hash_blocks_full k s ig)) (full_op s (region_steps k s)) (full_steps_lem (hash_blocks_full k s ig) (region_steps k s) same)

  region_steps_lem : (k r : ℕ) (h : HashState) → hash_blocks_full k s ig (blocks_of s r) h ≡ for_in stepped (region_steps k s r) h
  unfolding hash_blocks_full region_steps for_in
  region_steps_lem zero r h = refl
  region_steps_lem (suc k) r h = lists_steps k (region_steps_lem k) (blocks_of s r) h

  all_steps : (f : Sort) (n : ℕ) → rust_hash s ig f n ≡ (for_in stepped (steps s f n) new_hash_state).state
  unfolding rust_hash steps for_in stepped
  all_steps op n = ap (λ (h : HashState). h.state) (full_steps_lem (hash_blocks_full levels s ig) (region_steps levels s) (region_steps_lem levels) n (hash_op_shell s ig n new_hash_state))
  all_steps block n = ap (λ (h : HashState). h.state) (lists_steps levels (region_steps_lem levels) (n ∷ []) new_hash_state)
  all_steps region n = ap (λ (h : HashState). h.state) (region_steps_lem levels n new_hash_state)

  -- ---- a fragment defines nothing twice

  defines_values_lem : (f : Sort) (n : ℕ) → defines_values s f n ≡ flat_map step_values (steps s f n)
  unfolding defines_values defines_owners step_values step_defines
  defines_values_lem f n = concat_map_concat_map (values_of s) step_defines (steps s f n) ∙ concat_map_same _ step_values (steps s f n) (λ x m. go x)
    where
      go : (x : Step) → flat_map (values_of s) (step_defines x) ≡ step_values x
      go (shell w) = append-nil (values_of s w)
      go (names k) = refl
      go (counted k) = refl

  defines_blocks_lem : (f : Sort) (n : ℕ) → defines_blocks s f n ≡ flat_map step_blocks (steps s f n)
  unfolding defines_blocks defines_owners step_blocks step_defines
  defines_blocks_lem f n = concat_map_concat_map block_owner step_defines (steps s f n) ∙ concat_map_same _ step_blocks (steps s f n) (λ x m. go x)
    where
      go : (x : Step) → flat_map block_owner (step_defines x) ≡ step_blocks x
      go (shell w) = append-nil (block_owner w)
      go (names k) = refl
      go (counted k) = refl

pub hashes_as_the_rust : HashesAsTheRust
unfolding HashesAsTheRust hash fnv new_hash_state lent indexed no_numbers Once
hashes_as_the_rust s sd ig f n e =
    let u = facts s sd in
    all_steps s u ig f n
    ∙ walked s u ig (steps s f n) no_numbers fnv_start
    (subst Distinct (defines_values_lem s u ig f n) (values_once_lem s u f n e), subst Distinct (defines_blocks_lem s u ig f n) (blocks_once_lem s u f n e))
