-- What an operation names comes in time: the words tell whether a name has a walk number, and a scan of the names ends at the first one that lies
-- inside and has none. The steps of a walk are gone through one after the other: what is left of them, with the numbering that the words stand for,
-- tells of the whole. Assumes nothing.
use Rattle.std.proofs.Common.{◌≡◌, ℕ, ◌+◌, ◌<◌, ◌≤◌, Bool, true, false, not, ◌&&◌, ◌||◌, List, [], ◌∷◌, ◌++◌, length, get_or, refl, sym, ap, subst, ◌∙◌, arith}
use Rattle.std.specs.Prelude.{Option, None, Some, is_some}
use mathlib.Core.Bool.{and-true}
use Rattle.std.specs.List.{flat_map}
use Rattle.rules.specs.Lists.{position}
use Rattle.rules.specs.Store.{Store, op_at, op_exists, values_of, sound}
use Rattle.rules.specs.declared.types.Owner.{Owner}
use Rattle.rules.specs.Fragments.{Step, shell, names, exists, steps, step_defines, block_owner, defines_values, defines_blocks}
use Rattle.rules.specs.declared.types.Sort.TheVariants.{Op as op}
use Rattle.rules.specs.Hash as rules
use Rattle.rules.specs.declared.types.Name.TheVariants.{StoreNumber as store_number, WalkNumber as walk_number, WalkNumber, StoreNumber}
use Rattle.rules.specs.Hash.{Numbering, no_numbers, numbered, name_at, name_of}
use Rattle.rules.specs.Copying.{has_place, numbered_names, step_in_time, in_time}
use Rattle.layout.proofs.Scans.{Scanned, passes_at, scan_on, entry_fails, entries_done}
use Rattle.fragments.specs.Words.{Stands}
use Rattle.fragments.specs.Numbered.{numbered_all, values_in, blocks_in, Numbers, DefinitionsFit}
use Rattle.rules.specs.declared.types.Name.{Name}
use Rattle.fragments.proofs.Counting.{no_words, room_start, room_first, room_rest, stands_start}
use Rattle.copying.proofs.Told.{told, told_lists, told_in_time, left, all_left}

-- ---- one name

-- a use that is named by its number in the store has no walk number
unnumbered : (sofar : List ℕ) (v : ℕ) {r : Name} {n : ℕ} → r ≡ StoreNumber n → r ≡ name_of sofar v → has_place sofar v ≡ false
unfolding name_of name_at has_place
unnumbered sofar v {r} {n} f e = go (position v sofar) ((sym f) ∙ e)
  where
    go : (o : Option ℕ) → store_number n ≡ name_at o v → is_some o ≡ false
    go None h = refl
    go (Some i) h = let z : ⊥ = cc in absurd z

-- one that is named by a walk number has it
numbered_name : (sofar : List ℕ) (v : ℕ) {r : Name} {n : ℕ} → r ≡ WalkNumber n → r ≡ name_of sofar v → has_place sofar v ≡ true
unfolding name_of name_at has_place
numbered_name sofar v {r} {n} f e = go (position v sofar) ((sym f) ∙ e)
  where
    go : (o : Option ℕ) → walk_number n ≡ name_at o v → is_some o ≡ true
    go None h = let z : ⊥ = cc in absurd z
    go (Some i) h = refl

-- ---- one name alone

abbrev pub comes_in_time : List ℕ → List ℕ → ℕ → Bool
comes_in_time inside sofar v = not (has_place inside v) || has_place sofar v

module _ (inside sofar : List ℕ) (v : ℕ) where
  alone : comes_in_time inside sofar v ≡ numbered_names inside sofar (v ∷ [])
  unfolding numbered_names
  alone = sym (and-true (comes_in_time inside sofar v))

  has_come : has_place sofar v ≡ true → true ≡ comes_in_time inside sofar v
  has_come h = go (has_place inside v)
    where
      go : (b : Bool) → true ≡ not b || has_place sofar v
      go true = sym h
      go false = refl

  has_not : has_place sofar v ≡ false → not (has_place inside v) ≡ comes_in_time inside sofar v
  has_not h = go (has_place inside v)
    where
      go : (b : Bool) → not b ≡ not b || has_place sofar v
      go true = sym h
      go false = refl

  module _ {r : Name} {n : ℕ} (e : r ≡ name_of sofar v) where
    pub numbered_timely : r ≡ WalkNumber n → true ≡ numbered_names inside sofar (v ∷ [])
    numbered_timely f = has_come (numbered_name sofar v f e) ∙ alone

    pub unnumbered_timely : r ≡ StoreNumber n → {b : Bool} → b ≡ has_place inside v → not b ≡ numbered_names inside sofar (v ∷ [])
    unnumbered_timely f h = ap not h ∙ has_not (unnumbered sofar v f e) ∙ alone

-- ---- a scan of names

-- those before name i come in time
abbrev pub NamesPassed : List ℕ → List ℕ → List ℕ → ℕ → Type 0
NamesPassed inside sofar ns i = Scanned (passes_at (comes_in_time inside sofar) ns) (length ns) (length ns) i

module _ (inside sofar ns : List ℕ) where
  module _ (i : ℕ) (p : NamesPassed inside sofar ns i) where
    pub names_over : length ns ≤ i → true ≡ numbered_names inside sofar ns
    unfolding numbered_names
    names_over l = entries_done (comes_in_time inside sofar) ns p l

    module _ (l : i < length ns) {r : Bool} (e : r ≡ numbered_names inside sofar (get_or ns i 0 ∷ [])) where
      pub name_timely : r ≡ true → NamesPassed inside sofar ns (i + 1)
      name_timely f = scan_on p l (alone inside sofar (get_or ns i 0) ∙ sym e ∙ f)

      pub name_late : r ≡ false → false ≡ numbered_names inside sofar ns
      unfolding numbered_names
      name_late f = entry_fails (comes_in_time inside sofar) ns p l (alone inside sofar (get_or ns i 0) ∙ sym e ∙ f)

-- operands, then successors
module _ (s : Store) (n m : ℕ) (N : Numbering) where
  abbrev operands_timely : Bool
  operands_timely = numbered_names (defines_values s op n) N.values (op_at s m).operands

  abbrev successors_timely : Bool
  successors_timely = numbered_names (defines_blocks s op n) N.blocks (op_at s m).successors

  pub operands_late : false ≡ operands_timely → false ≡ step_in_time s n (names m) N
  unfolding step_in_time
  operands_late e = ap (λ (b : Bool). b && successors_timely) e

  pub operands_first : true ≡ operands_timely → {r : Bool} → r ≡ successors_timely → r ≡ step_in_time s n (names m) N
  unfolding step_in_time
  operands_first e f = f ∙ ap (λ (b : Bool). b && successors_timely) e

-- a shell names nothing
pub shell_timely : (s : Store) (n : ℕ) (w : Owner) (N : Numbering) → true ≡ step_in_time s n (shell w) N
unfolding step_in_time
shell_timely s n w N = refl

-- ---- step by step

-- the steps from step i on, with the numbering that the words stand for, tell of the whole, and there are numbers for what they define
pub record TimelyFrom (s : Store) (n : ℕ) (xs : List Step) (i : ℕ) (numbers : List ℕ) : Type 0 where
  pub numbering : Numbering
  pub stands : Stands s numbering numbers
  pub same : in_time s n xs no_numbers ≡ in_time s n (left xs i) numbering
  pub room : DefinitionsFit s (left xs i) numbers

module _ (s : Store) where
  -- there is room for all the steps, so for those that tell of something
  told_room : (xs : List Step) {a : List ℕ} → DefinitionsFit s xs a → DefinitionsFit s (told xs) a
  unfolding values_in blocks_in step_defines
  told_room xs r =
      let e : flat_map step_defines (told xs) ≡ flat_map step_defines xs = told_lists step_defines (λ k. refl) xs in
      record {
        long = r.long;
        values = omega (arith, r.values, ap (λ (ws : List Owner). length (flat_map (values_of s) ws)) e);
        blocks = omega (arith, r.blocks, ap (λ (ws : List Owner). length (flat_map block_owner ws)) e);
      }

  -- where an operation only names, nothing is numbered
  pub names_number : (m : ℕ) (a : List ℕ) → Numbers s (names m ∷ []) a a
  unfolding numbered_all numbered values_in blocks_in step_defines
  names_number m a = record { long = refl; stands = λ N h. h; values = omega arith; blocks = omega arith }

  module _ (n : ℕ) where
    pub timely_begun : sound s ≡ true → op_exists s n ≡ true → TimelyFrom s n (steps s op n) 0 no_words
    unfolding exists
    timely_begun sd ex =
        let e : told (steps s op n) ≡ left (steps s op n) 0 = sym (all_left (steps s op n)) in
        record {
          numbering = no_numbers;
          stands = stands_start s;
          same = sym (told_in_time s n (steps s op n) no_numbers) ∙ ap (λ (xs : List Step). in_time s n xs no_numbers) e;
          room = subst (λ (xs : List Step). DefinitionsFit s xs no_words) e (told_room (steps s op n) (room_start s sd op n ex));
        }

    module _ (xs : List Step) (i : ℕ) {numbers : List ℕ} (h : TimelyFrom s n xs i numbers) where
      pub timely_over : left xs i ≡ [] → true ≡ in_time s n xs no_numbers
      unfolding in_time
      timely_over e = sym (h.same ∙ ap (λ (ys : List Step). in_time s n ys h.numbering) e)

      module _ (x : Step) (e : left xs i ≡ x ∷ left xs (i + 1)) where
        abbrev rest_timely : Bool
        rest_timely = in_time s n (left xs (i + 1)) (numbered s x h.numbering)

        parted : in_time s n xs no_numbers ≡ step_in_time s n x h.numbering && rest_timely
        unfolding in_time
        parted = h.same ∙ ap (λ (ys : List Step). in_time s n ys h.numbering) e

        all_room : DefinitionsFit s ((x ∷ []) ++ left xs (i + 1)) numbers
        all_room = subst (λ (ys : List Step). DefinitionsFit s ys numbers) e h.room

        pub timely_fits : DefinitionsFit s (x ∷ []) numbers
        timely_fits = room_first s (x ∷ []) (left xs (i + 1)) all_room

        pub timely_late : false ≡ step_in_time s n x h.numbering → false ≡ in_time s n xs no_numbers
        timely_late f = ap (λ (b : Bool). b && rest_timely) f ∙ sym parted

        pub timely_next : true ≡ step_in_time s n x h.numbering → {numbers' : List ℕ} → Numbers s (x ∷ []) numbers numbers'
            → TimelyFrom s n xs (i + 1) numbers'
        unfolding numbered_all
        timely_next t f =
            record {
              numbering = numbered s x h.numbering;
              stands = f.stands h.numbering h.stands;
              same = parted ∙ ap (λ (b : Bool). b && rest_timely) (sym t);
              room = room_rest s (x ∷ []) (left xs (i + 1)) all_room f;
            }
