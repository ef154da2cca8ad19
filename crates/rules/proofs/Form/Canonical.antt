-- The canonical form of a fragment: the tokens of its walk. In a sound store equal tokens make two fragments equal; and equal
-- fragments have equal tokens, if they are the same or the left names nothing that the right defines. Assumes nothing.
use Prim.Native.Nat.{ℕ, ◌≤◌, ◌<◌}
use native.Mathlib.Nat.{le_trans}
use mathlib.Core.Bool.{true}
use mathlib.Core.List.{List, [], ◌∷◌, ◌++◌, append-nil, Memᴰ}
use mathlib.Core.Logic.{◌⊎◌, inl, inr}
use Rattle.std.specs.Prelude.{Some}
use Rattle.std.proofs.lemmas.Option.{none-some}
use mathlib.Core.Path.{◌≡◌, refl, sym, ap, ap₂, subst, ◌∙◌}
use lib.Dec.{lit≤}
use lib.ListN.{length, replicate, length-replicate}
use Rattle.std.specs.List.{flat_map}
use Rattle.rules.specs.Store.{Store, values_of, sound, max_values, max_blocks}
use Rattle.rules.specs.Fragments.{Step, shell, names, counted, steps, step_defines, step_operands, step_successors, block_owner, defines_owners, defines_values, defines_blocks, names_values, names_blocks, NamesNothingOf}
use Rattle.rules.specs.declared.types.Sort.{Sort}
use Rattle.rules.specs.declared.types.Ignore.{Ignore}
use Rattle.rules.specs.Mapping.{Mapping, no_image, or_self, empty_mapping, image, enter_all}
use Rattle.rules.specs.Comparison.{State, Walk, on, ended, start, compare}
use Rattle.rules.specs.Hash.{Numbering, no_numbers, fnv, hash, uncounted, all_bytes}
use Rattle.rules.specs.Laws.{succeeds, equal, Equal, In}
use Rattle.rules.specs.Form.{Event, step, more, done, events, tokens, canonical}
use Rattle.rules.proofs.Soundness.Sound.{facts}
use Rattle.rules.proofs.Basics.Tests.{clash}
use Rattle.rules.proofs.Basics.Distinct.{Distinct, concat_map_concat_map}
use Rattle.rules.proofs.Basics.Entries.{none_at}
use Rattle.rules.proofs.Form.Images.{Empty, Once}
use Rattle.rules.proofs.Form.Events.{bare_steps, bare_events, lock}
use Rattle.rules.proofs.Form.LockStep.{going, lock_step}
use Rattle.rules.proofs.Form.Tokens.{event_values, event_blocks, event_operands, event_successors, Rest, Whole, Related, Apart, tokens_equal, lock_goes_on}
use Rattle.rules.proofs.Form.Hashes.{token_bytes, tokens_bytes}
use Rattle.rules.proofs.Form.Once.{values_once_lem, values_here, blocks_once_lem, blocks_here}

-- ---- the empty mapping

pub empty_table : (n : ℕ) → n ≤ no_image → Empty (replicate n no_image)
unfolding image or_self
empty_table n l =
    record {
      self = λ v. ap (λ (e : ℕ). or_self e v) (none_at n v);
      small = subst (λ (k : ℕ). k ≤ no_image) (sym (length-replicate n no_image)) l;
    }

-- numbers below a total that the table has room for
pub within : (size total : ℕ) (D : List ℕ) → total ≤ size → Distinct D → ((v : ℕ) → Memᴰ v D → v < total) → Once (length (replicate size no_image)) D
within size total D fits once here =
    record { once = once; inside = λ v m. subst (λ (k : ℕ). v < k) (sym (length-replicate size no_image)) (le_trans (here v m) fits) }

-- ---- what the events define and name is what the fragment does

module _ {A : Type 0} (f : Event → List A) (g : Step → List A) (at_step : (x : Step) → f (step x) ≡ g x) (at_more : f more ≡ []) (at_done : f done ≡ []) where
  by_steps : (es : List Event) → flat_map f es ≡ flat_map g (bare_steps es)
  unfolding bare_steps
  by_steps [] = refl
  by_steps (step x ∷ es) = ap₂ ◌++◌ (at_step x) (by_steps es)
  by_steps (more ∷ es) = ap (λ (l : List A). l ++ flat_map f es) at_more ∙ by_steps es
  by_steps (done ∷ es) = ap (λ (l : List A). l ++ flat_map f es) at_done ∙ by_steps es

  pub in_fragment : (s : Store) (k : Sort) (n : ℕ) → flat_map f (events s k n) ≡ flat_map g (steps s k n)
  in_fragment s k n = by_steps (events s k n) ∙ ap (flat_map g) (bare_events s k n)

module _ (s : Store) (f : Sort) (n : ℕ) where
  -- all that a fragment defines
  unfoldable pub all_defined : Numbering
  all_defined = record { values = defines_values s f n; blocks = defines_blocks s f n }

  pub events_rest : Rest s no_numbers (events s f n) all_defined
  unfolding all_defined no_numbers defines_values defines_blocks defines_owners event_values event_blocks step_defines
  events_rest =
      record {
        values =
            in_fragment (event_values s) (λ (x : Step). flat_map (values_of s) (step_defines x)) values_at refl refl s f n
            ∙ sym (concat_map_concat_map (values_of s) step_defines (steps s f n));
        blocks =
            in_fragment (event_blocks s) (λ (x : Step). flat_map block_owner (step_defines x)) blocks_at refl refl s f n
            ∙ sym (concat_map_concat_map block_owner step_defines (steps s f n));
      }
    where
      values_at : (x : Step) → event_values s (step x) ≡ flat_map (values_of s) (step_defines x)
      values_at (shell w) = sym (append-nil (values_of s w))
      values_at (names m) = refl
      values_at (counted k) = refl

      blocks_at : (x : Step) → event_blocks s (step x) ≡ flat_map block_owner (step_defines x)
      blocks_at (shell w) = sym (append-nil (block_owner w))
      blocks_at (names m) = refl
      blocks_at (counted k) = refl

  pub events_name_values : flat_map (event_operands s) (events s f n) ≡ names_values s f n
  unfolding names_values event_operands
  events_name_values = in_fragment (event_operands s) (step_operands s) (λ x. refl) refl refl s f n

  pub events_name_blocks : flat_map (event_successors s) (events s f n) ≡ names_blocks s f n
  unfolding names_blocks event_successors
  events_name_blocks = in_fragment (event_successors s) (step_successors s) (λ x. refl) refl refl s f n

-- ---- the tables of the empty mapping

abbrev EV : List ℕ
EV = empty_mapping.values

abbrev EB : List ℕ
EB = empty_mapping.blocks

empty_values : Empty EV
unfolding empty_mapping
empty_values = empty_table max_values (lit≤ tt)

empty_blocks : Empty EB
unfolding empty_mapping
empty_blocks = empty_table max_blocks (lit≤ tt)

pub goes : (w : Walk) → succeeds w ≡ true → (st : State) × (w ≡ on st)
unfolding succeeds
goes (on st) h = (st, refl)
goes (ended why st) h = clash h refl

-- what the comparison comes to, from whatever mapping, is what the lock-step pass comes to
pub pass : (s : Store) (ig : Ignore) (f : Sort) (m : Mapping) (a b : ℕ)
    → going (compare s ig f a b m) ≡ lock s ig (events s f a) (events s f b) (start m)
unfolding compare
pass s ig f m a b = lock_step s ig f a b (start m)

module _ (s : Store) (sd : sound s ≡ true) where
  whole : (f : Sort) (n : ℕ) → In s f n → Whole EV EB (all_defined s f n)
  unfolding all_defined empty_mapping
  whole f n h =
      let so = facts s sd in
      record {
        values = within max_values (length s.values) (defines_values s f n) so.totals.values (values_once_lem s so f n h) (values_here s so f n);
        blocks = within max_blocks (length s.blocks) (defines_blocks s f n) so.totals.blocks (blocks_once_lem s so f n h) (blocks_here s so f n h);
      }

  module _ (ig : Ignore) (f : Sort) where
    begun : (a b : ℕ) (wa : In s f a) (wb : In s f b)
        → Related s ig EV EB empty_values empty_blocks (all_defined s f a) (all_defined s f b) (whole f a wa) (whole f b wb) (start empty_mapping) no_numbers no_numbers
    unfolding start no_numbers enter_all
    begun a b wa wb = record { values = record { made = refl; lengths = refl }; blocks = record { made = refl; lengths = refl } }

    pub canonical→equal : (a b : ℕ) → In s f a → In s f b → canonical s ig f a ≡ canonical s ig f b → Equal s ig f a b
    unfolding canonical equal succeeds
    canonical→equal a b ha hb e =
        let w = lock_goes_on s ig EV EB empty_values empty_blocks (all_defined s f a) (all_defined s f b) (whole f a ha) (whole f b hb)
        (events s f a) (events s f b) no_numbers no_numbers (start empty_mapping) (events_rest s f a) (events_rest s f b) (begun a b ha hb) e in
        go (compare s ig f a b empty_mapping) (pass s ig f empty_mapping a b ∙ w.1)
      where
        go : {st : State} (w : Walk) → going w ≡ Some st → succeeds w ≡ true
        go (on st) k = refl
        go {st} (ended why st') k = absurd (none-some st k)

    apart : (a b : ℕ) (wa : In s f a) (wb : In s f b) → NamesNothingOf s f a b
        → Apart s ig EV EB empty_values empty_blocks (all_defined s f a) (all_defined s f b) (whole f a wa) (whole f b wb) (events s f a)
    unfolding NamesNothingOf all_defined
    apart a b wa wb out =
        record {
          values = λ v m. out.0 v (subst (Memᴰ v) (events_name_values s f a) m);
          blocks = λ c m. out.1 c (subst (Memᴰ c) (events_name_blocks s f a) m);
        }

    pub equal→canonical : (a b : ℕ) → In s f a → In s f b → (a ≡ b) ⊎ NamesNothingOf s f a b → Equal s ig f a b → canonical s ig f a ≡ canonical s ig f b
    unfolding canonical equal
    equal→canonical a b ha hb (inl e) h = ap (canonical s ig f) e
    equal→canonical a b ha hb (inr out) h =
        let w = goes (compare s ig f a b empty_mapping) h in
        tokens_equal s ig EV EB empty_values empty_blocks (all_defined s f a) (all_defined s f b) (whole f a ha) (whole f b hb)
        (events s f a) (events s f b) no_numbers no_numbers (start empty_mapping) w.0 (events_rest s f a) (events_rest s f b) (begun a b ha hb)
        (apart a b ha hb out) (sym (pass s ig f empty_mapping a b) ∙ ap going w.1)

-- ---- the hash is one of the canonical form

pub canonical→hash : (s : Store) (ig : Ignore) (f : Sort) (a b : ℕ) → canonical s ig f a ≡ canonical s ig f b → hash s ig f a ≡ hash s ig f b
unfolding canonical hash
canonical→hash s ig f a b e = ap fnv (bytes a ∙ ap (flat_map token_bytes) e ∙ sym (bytes b))
  where
    bytes : (n : ℕ) → all_bytes uncounted s ig (steps s f n) no_numbers ≡ flat_map token_bytes (tokens s ig (events s f n) no_numbers)
    bytes n = sym (tokens_bytes s ig (events s f n) no_numbers ∙ ap (λ (xs : List Step). all_bytes uncounted s ig xs no_numbers) (bare_events s f n))
