-- The key is one of the canonical form: what a list's count is, the signs of its items tell, up to its end. Assumes nothing.
use Prim.Native.Nat.{ℕ, zero, suc}
use mathlib.Core.List.{List, [], ◌∷◌, ◌++◌, map, append_assoc, append-nil}
use mathlib.Core.Path.{◌≡◌, refl, sym, ap, ap₂, subst, ◌∙◌}
use lib.ListN.{length, length-map}
use Rattle.rules.specs.Store.{Store, op_at, type_of, ops_of, blocks_of, regions_of}
use Rattle.rules.specs.declared.types.Owner.{Owner}
use Rattle.rules.specs.declared.types.Owner.TheVariants.{Op as of_op, Block as of_block}
use Rattle.rules.specs.Fragments.{levels, Step, shell, names, counted}
use Rattle.rules.specs.declared.types.Sort.{Sort}
use Rattle.rules.specs.declared.types.Sort.TheVariants.{Op as op, Block as block, Region as region}
use Rattle.rules.specs.Shells.{shell_of}
use Rattle.rules.specs.declared.types.Ignore.{Ignore}
use Rattle.rules.specs.Hash.{count, list_bytes, shell_bytes, Numbering, no_numbers, numbered, name_of, name_bytes, feeds, all_bytes}
use Rattle.rules.specs.declared.types.Name.{Name}
use Rattle.rules.specs.Keys.{key}
use Rattle.rules.specs.Form.{Event, step, more, done, list_events, one, shell_events, op_events, blocks_events, region_events, events, Token, shell_token, names_token, counted_token, more_token, done_token, numbered_by, token, tokens, canonical}
use Rattle.rules.proofs.Form.Events.{bare_steps, bare_events}
use Rattle.rules.proofs.Form.Hashes.{counts_bytes, concat_map_map, head_bytes_lem}

-- ---- how many items a list has, from where it begins

unfoldable signs_ahead : List Token → ℕ
signs_ahead [] = 0
signs_ahead (more_token ∷ ts) = suc (signs_ahead ts)
signs_ahead (done_token ∷ ts) = 0
signs_ahead (shell_token counts sh ∷ ts) = signs_ahead ts
signs_ahead (names_token counts operands successors ∷ ts) = signs_ahead ts
signs_ahead (counted_token ∷ ts) = signs_ahead ts

unfoldable items_ahead : List Event → ℕ
items_ahead [] = 0
items_ahead (more ∷ es) = suc (items_ahead es)
items_ahead (done ∷ es) = 0
items_ahead (step x ∷ es) = items_ahead es

-- each count is that of the items behind it
unfoldable Counts : List Event → Type 0
Counts [] = Unit {0}
Counts (more ∷ es) = Counts es
Counts (done ∷ es) = Counts es
Counts (step (shell w) ∷ es) = Counts es
Counts (step (names n) ∷ es) = Counts es
Counts (step (counted k) ∷ es) = (items_ahead es ≡ k) × Counts es

-- whatever follows
abbrev Counting : List Event → Type 0
Counting es = (E : List Event) → Counts E → Counts (es ++ E)

counting_then : (es fs : List Event) → Counting es → Counting fs → Counting (es ++ fs)
counting_then es fs a b E c = subst Counts (sym (append_assoc es fs E)) (a (fs ++ E) (b E c))

counting_list : (f : ℕ → List Event) → ((n : ℕ) → Counting (f n)) → (ns : List ℕ) → Counting (list_events f ns)
unfolding list_events Counts
counting_list f h [] E c = c
counting_list f h (n ∷ ns) E c = counting_then (f n) (list_events f ns) (h n) (counting_list f h ns) E c

items_of_list : (f : ℕ → Step) (ns : List ℕ) (E : List Event) → items_ahead (list_events (one f) ns ++ E) ≡ length ns
unfolding list_events items_ahead
items_of_list f [] E = refl
items_of_list f (n ∷ ns) E = ap suc (items_of_list f ns E)

counting_shells : (w : ℕ → Owner) (ns : List ℕ) → Counting (shell_events w ns)
unfolding shell_events Counts
counting_shells w ns E c = (items_of_list (λ (n : ℕ). shell (w n)) ns E, counting_list (one (λ (n : ℕ). shell (w n))) (λ n F d. d) ns E c)

module _ (s : Store) where
  counting_op : (f : ℕ → List Event) → ((r : ℕ) → Counting (f r)) → (n : ℕ) → Counting (op_events s f n)
  unfolding op_events Counts
  counting_op f h n E c = counting_list f h (regions_of s n) E c

  counting_blocks : (f : ℕ → List Event) → ((n : ℕ) → Counting (f n)) → (bs : List ℕ) → Counting (blocks_events s f bs)
  unfolding blocks_events
  counting_blocks f h bs =
      counting_then (shell_events of_block bs ++ list_events ops bs) (list_events fulls bs)
      (counting_then (shell_events of_block bs) (list_events ops bs) (counting_shells of_block bs) (counting_list ops (λ b. counting_shells of_op (ops_of s b)) bs))
      (counting_list fulls (λ b. counting_list f h (ops_of s b)) bs)
    where
      ops : ℕ → List Event
      ops b = shell_events of_op (ops_of s b)

      fulls : ℕ → List Event
      fulls b = list_events f (ops_of s b)

  counting_region : (k r : ℕ) → Counting (region_events s k r)
  unfolding region_events
  counting_region zero r = λ E c. c
  counting_region (suc k) r = counting_blocks (op_events s (region_events s k)) (counting_op (region_events s k) (counting_region k)) (blocks_of s r)

  counting_events : (f : Sort) (n : ℕ) → Counting (events s f n)
  unfolding events Counts
  counting_events op n = λ E c. counting_op (region_events s levels) (counting_region levels) n E c
  counting_events block n = counting_blocks (op_events s (region_events s levels)) (counting_op (region_events s levels) (counting_region levels)) (n ∷ [])
  counting_events region n = counting_region levels n

  counts_events : (f : Sort) (n : ℕ) → Counts (events s f n)
  unfolding Counts
  counts_events f n = subst Counts (append-nil (events s f n)) (counting_events f n [] tt)

-- ---- the key of a list of tokens

unfoldable key_of : List Token → List ℕ
key_of [] = []
key_of (shell_token counts sh ∷ ts) = (counts_bytes counts ++ shell_bytes count sh) ++ key_of ts
key_of (names_token counts operands successors ∷ ts) = (list_bytes count (λ (x : Name × ℕ). name_bytes x.0) operands ++ list_bytes count name_bytes successors) ++ key_of ts
key_of (counted_token ∷ ts) = count (signs_ahead ts) ++ key_of ts
key_of (more_token ∷ ts) = key_of ts
key_of (done_token ∷ ts) = key_of ts

module _ (s : Store) (ig : Ignore) where
  signs_ahead_lem : (es : List Event) (N : Numbering) → signs_ahead (tokens s ig es N) ≡ items_ahead es
  unfolding signs_ahead items_ahead tokens token
  signs_ahead_lem [] N = refl
  signs_ahead_lem (more ∷ es) N = ap suc (signs_ahead_lem es (numbered_by s more N))
  signs_ahead_lem (done ∷ es) N = refl
  signs_ahead_lem (step (shell w) ∷ es) N = signs_ahead_lem es (numbered_by s (step (shell w)) N)
  signs_ahead_lem (step (names n) ∷ es) N = signs_ahead_lem es (numbered_by s (step (names n)) N)
  signs_ahead_lem (step (counted k) ∷ es) N = signs_ahead_lem es (numbered_by s (step (counted k)) N)

  by_names : {A : Type 0} (g : A → List ℕ) (f : ℕ → A) (ns : List ℕ) → list_bytes count g (map f ns) ≡ list_bytes count (λ (n : ℕ). g (f n)) ns
  unfolding list_bytes
  by_names g f ns = ap₂ (λ (k : ℕ) (l : List ℕ). count k ++ l) (length-map ns f) (concat_map_map g f ns)

  key_of_lem : (es : List Event) (N : Numbering) → Counts es → key_of (tokens s ig es N) ≡ all_bytes count s ig (bare_steps es) N
  unfolding key_of tokens token all_bytes feeds bare_steps numbered_by numbered Counts
  key_of_lem [] N c = refl
  key_of_lem (more ∷ es) N c = key_of_lem es N c
  key_of_lem (done ∷ es) N c = key_of_lem es N c
  key_of_lem (step (shell w) ∷ es) N c =
      ap₂ ◌++◌ (ap (λ (l : List ℕ). l ++ shell_bytes count (shell_of s ig w)) (head_bytes_lem s ig w)) (key_of_lem es (numbered s (shell w) N) c)
  key_of_lem (step (names n) ∷ es) N c =
      ap₂ ◌++◌
      (ap₂ ◌++◌ (by_names {A = Name × ℕ} (λ (x : Name × ℕ). name_bytes x.0) (λ (v : ℕ). (name_of N.values v, type_of s v)) (op_at s n).operands) (by_names name_bytes (name_of N.blocks) (op_at s n).successors))
      (key_of_lem es N c)
  key_of_lem (step (counted k) ∷ es) N c = ap₂ (λ (j : ℕ) (l : List ℕ). count j ++ l) (signs_ahead_lem es N ∙ c.0) (key_of_lem es N c.1)

  canonical_key : (f : Sort) (n : ℕ) → key s ig f n ≡ key_of (canonical s ig f n)
  unfolding key canonical
  canonical_key f n =
      ap (λ (xs : List Step). all_bytes count s ig xs no_numbers) (sym (bare_events s f n)) ∙ sym (key_of_lem (events s f n) no_numbers (counts_events s f n))

  pub canonical→key : (f : Sort) (a b : ℕ) → canonical s ig f a ≡ canonical s ig f b → key s ig f a ≡ key s ig f b
  canonical→key f a b e = canonical_key f a ∙ ap key_of e ∙ sym (canonical_key f b)
