-- A comparison is one lock-step pass over two lists of events: the steps of the walk, with a sign ahead of each list item and at each
-- list's end, so that lists of unequal lengths meet at unequal signs. Assumes nothing.
use Prim.Native.Nat.{ℕ, zero, suc, ◌+◌}
use mathlib.Core.Bool.{cond}
use mathlib.Core.List.{List, [], ◌∷◌, ◌++◌, map}
use Rattle.std.specs.Prelude.{Option, None, Some}
use mathlib.Core.Path.{◌≡◌, refl, ap, ap₂, ◌∙◌}
use lib.ListN.{length}
use Rattle.std.specs.List.{flat_map}
use Rattle.rules.specs.Store.{Store, ops_of, blocks_of, regions_of, values_of}
use Rattle.rules.specs.declared.types.Owner.{Owner}
use Rattle.rules.specs.declared.types.Owner.TheVariants.{Op as of_op, Block as of_block}
use Rattle.rules.specs.Fragments.{levels, Step, shell, names, counted, full_op, shells, list_steps, region_steps, steps, block_owner, op_owner}
use Rattle.rules.specs.declared.types.Sort.{Sort}
use Rattle.rules.specs.declared.types.Sort.TheVariants.{Op as op, Block as block, Region as region}
use Rattle.rules.specs.Shells.{same_shells}
use Rattle.rules.specs.declared.types.Ignore.{Ignore}
use Rattle.rules.specs.Mapping.{enter_all}
use Rattle.rules.specs.Comparison.{State}
use Rattle.rules.specs.Form.{Event, step, more, done, list_events, one, shell_events, op_events, blocks_events, region_events, events}
use Rattle.rules.proofs.Form.Tested.{names_agree}

-- ---- without their signs they are the steps of the walk

unfoldable pub bare_steps : List Event → List Step
bare_steps [] = []
bare_steps (step x ∷ es) = x ∷ bare_steps es
bare_steps (more ∷ es) = bare_steps es
bare_steps (done ∷ es) = bare_steps es

bare_steps_append : (a b : List Event) → bare_steps (a ++ b) ≡ bare_steps a ++ bare_steps b
unfolding bare_steps
bare_steps_append [] b = refl
bare_steps_append (step x ∷ a) b = ap (λ (l : List Step). x ∷ l) (bare_steps_append a b)
bare_steps_append (more ∷ a) b = bare_steps_append a b
bare_steps_append (done ∷ a) b = bare_steps_append a b

bare_steps_list : (f : ℕ → List Event) (g : ℕ → List Step) → ((n : ℕ) → bare_steps (f n) ≡ g n) → (xs : List ℕ) → bare_steps (list_events f xs) ≡ flat_map g xs
unfolding bare_steps list_events
bare_steps_list f g same [] = refl
bare_steps_list f g same (x ∷ xs) = bare_steps_append (f x) (list_events f xs) ∙ ap₂ ◌++◌ (same x) (bare_steps_list f g same xs)

bare_steps_one : (f : ℕ → Step) (xs : List ℕ) → bare_steps (list_events (one f) xs) ≡ map f xs
unfolding bare_steps list_events
bare_steps_one f [] = refl
bare_steps_one f (x ∷ xs) = ap (λ (l : List Step). f x ∷ l) (bare_steps_one f xs)

bare_steps_shells : (w : ℕ → Owner) (ns : List ℕ) → bare_steps (shell_events w ns) ≡ shells w ns
unfolding bare_steps shell_events shells
bare_steps_shells w ns = ap (λ (l : List Step). counted (length ns) ∷ l) (bare_steps_one (λ (n : ℕ). shell (w n)) ns)

module _ (s : Store) where
  bare_steps_op : (f : ℕ → List Event) (g : ℕ → List Step) → ((n : ℕ) → bare_steps (f n) ≡ g n) → (n : ℕ) → bare_steps (op_events s f n) ≡ full_op s g n
  unfolding bare_steps op_events full_op
  bare_steps_op f g same n = ap (λ (l : List Step). names n ∷ l) (bare_steps_list f g same (regions_of s n))

  bare_steps_blocks : (f : ℕ → List Event) (g : ℕ → List Step) → ((n : ℕ) → bare_steps (f n) ≡ g n) → (bs : List ℕ)
      → bare_steps (blocks_events s f bs) ≡ list_steps s g bs
  unfolding blocks_events list_steps
  bare_steps_blocks f g same bs =
      bare_steps_append (shell_events of_block bs ++ list_events ops bs) (list_events fulls bs)
      ∙ ap₂ ◌++◌
      (bare_steps_append (shell_events of_block bs) (list_events ops bs)
      ∙ ap₂ ◌++◌ (bare_steps_shells of_block bs) (bare_steps_list ops (λ (b : ℕ). shells of_op (ops_of s b)) (λ b. bare_steps_shells of_op (ops_of s b)) bs))
      (bare_steps_list fulls (λ (b : ℕ). flat_map g (ops_of s b)) (λ b. bare_steps_list f g same (ops_of s b)) bs)
    where
      ops : ℕ → List Event
      ops b = shell_events of_op (ops_of s b)

      fulls : ℕ → List Event
      fulls b = list_events f (ops_of s b)

  bare_steps_region : (k r : ℕ) → bare_steps (region_events s k r) ≡ region_steps k s r
  unfolding region_events region_steps bare_steps
  bare_steps_region zero r = refl
  bare_steps_region (suc k) r =
      bare_steps_blocks (op_events s (region_events s k)) (full_op s (region_steps k s)) (bare_steps_op (region_events s k) (region_steps k s) (bare_steps_region k)) (blocks_of s r)

  bare_steps_full : (n : ℕ) → bare_steps (op_events s (region_events s levels) n) ≡ full_op s (region_steps levels s) n
  bare_steps_full = bare_steps_op (region_events s levels) (region_steps levels s) (bare_steps_region levels)

  pub bare_events : (f : Sort) (n : ℕ) → bare_steps (events s f n) ≡ steps s f n
  unfolding events steps bare_steps
  bare_events op n = ap (λ (l : List Step). shell (of_op n) ∷ l) (bare_steps_full n)
  bare_events block n = bare_steps_blocks (op_events s (region_events s levels)) (full_op s (region_steps levels s)) bare_steps_full (n ∷ [])
  bare_events region n = bare_steps_region levels n

-- ---- the lock-step pass

abbrev pub and_then : Option State → (State → Option State) → Option State
and_then None f = None
and_then (Some st) f = f st

module _ (s : Store) where
  unfoldable pub enter_owners : Owner → Owner → State → State
  enter_owners l r st =
      record {
        mapping =
            record {
              values = enter_all (values_of s l) (values_of s r) st.mapping.values;
              blocks = enter_all (block_owner l) (block_owner r) st.mapping.blocks;
              ops = enter_all (op_owner l) (op_owner r) st.mapping.ops;
            };
        paired = st.paired + 1;
      }

  module _ (ig : Ignore) where
    unfoldable pub meet : Event → Event → State → Option State
    meet (step (shell l)) (step (shell r)) st = cond (same_shells s ig l r) (Some (enter_owners l r st)) None
    meet (step (shell l)) (step (names r)) st = None
    meet (step (names l)) (step (shell r)) st = None
    meet (step (shell l)) (step (counted k)) st = None
    meet (step (names l)) (step (names r)) st = cond (names_agree s l r st) (Some st) None
    meet (step (names l)) (step (counted k)) st = None
    meet (step (counted j)) (step (shell r)) st = None
    meet (step (counted j)) (step (names r)) st = None
    meet (step (counted j)) (step (counted k)) st = Some st
    meet (step x) more st = None
    meet (step x) done st = None
    meet more (step y) st = None
    meet more more st = Some st
    meet more done st = None
    meet done (step y) st = None
    meet done more st = None
    meet done done st = Some st

    unfoldable pub lock : List Event → List Event → State → Option State
    lock [] [] st = Some st
    lock [] (e ∷ es) st = None
    lock (e ∷ es) [] st = None
    lock (e ∷ es) (e' ∷ es') st = and_then (meet e e' st) (lock es es')
