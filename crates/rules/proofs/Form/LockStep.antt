-- The comparison goes on exactly when the lock-step pass over the two fragments' events does, and with the same state: each pass of the
-- comparison mirrors its stretch of events, whatever follows. Assumes nothing.
use Prim.Native.Nat.{ℕ, zero, suc}
use mathlib.Core.Bool.{Bool, true, false, cond}
use mathlib.Core.List.{List, [], ◌∷◌, ◌++◌, append_assoc, append-nil}
use Rattle.std.specs.Prelude.{Option, None, Some}
use mathlib.Core.Path.{◌≡◌, refl, ap, subst₂, ◌∙◌}
use lib.ListN.{length}
use Rattle.rules.specs.Store.{Store, ops_of, blocks_of, regions_of}
use Rattle.rules.specs.declared.types.Owner.{Owner}
use Rattle.rules.specs.declared.types.Owner.TheVariants.{Op as of_op, Block as of_block}
use Rattle.rules.specs.Fragments.{levels, shell, names, counted, block_owner, op_owner}
use Rattle.rules.specs.declared.types.Sort.{Sort}
use Rattle.rules.specs.declared.types.Sort.TheVariants.{Op as op, Block as block, Region as region}
use Rattle.rules.specs.Shells.{same_shells}
use Rattle.rules.specs.declared.types.Ignore.{Ignore}
use Rattle.rules.specs.Mapping.{enter_all}
use Rattle.rules.specs.Comparison.{State, Pair, Walk, on, ended, ◌>>=◌, pairwise, pair_of, expect, pair_ops, enter_ops, pair_blocks, enter_blocks, pass1, compare_by}
use Rattle.rules.specs.Form.{Event, step, list_events, one, shell_events, op_events, blocks_events, region_events, events}
use Rattle.rules.proofs.Form.Tested.{names_agree, tested_names, tested_ops, tested2, tested3, tested_lists, tested_regions, tested_by, compare_tested}
use Rattle.rules.proofs.Form.Events.{and_then, enter_owners, meet, lock}

abbrev pub going : Walk → Option State
going (on st) = Some st
going (ended why st) = None

-- a walk goes on exactly as the pass does
abbrev pub Alike : Walk → Option State → Type 0
Alike w o = going w ≡ o

pub >>=-assoc : (w : Walk) (f g : State → Walk) → (w >>= f) >>= g ≡ w >>= (λ (st : State). f st >>= g)
>>=-assoc (on st) f g = refl
>>=-assoc (ended why st) f g = refl

>>=-on : (w : Walk) → w >>= on ≡ w
>>=-on (on st) = refl
>>=-on (ended why st) = refl

module _ (s : Store) (ig : Ignore) where
  -- a stretch of a walk, and the two stretches of events that it goes through, whatever follows
  Mirrors : (State → Walk) → List Event → List Event → Type 0
  Mirrors f e e' =
      (K : State → Walk) (E E' : List Event) → ((st : State) → Alike (K st) (lock s ig E E' st))
      → (st : State) → Alike (f st >>= K) (lock s ig (e ++ E) (e' ++ E') st)

  both : (f g : State → Walk) (e e' h h' : List Event) → Mirrors f e e' → Mirrors g h h' → Mirrors (λ (st : State). f st >>= g) (e ++ h) (e' ++ h')
  unfolding Mirrors
  both f g e e' h h' mf mg K E E' k st =
      rw (>>=-assoc (f st) g K, append_assoc e h E, append_assoc e' h' E')
      (mf (λ (st₁ : State). g st₁ >>= K) (h ++ E) (h' ++ E') (mg K E E' k) st)

  -- a test, and where it passes a new state
  tested : (b : Bool) (p : Pair) (st st' : State) (K : State → Walk) (o : State → Option State) → Alike (K st') (o st')
      → Alike (expect b p st st' >>= K) (and_then (cond b (Some st') None) o)
  unfolding expect
  tested true p st st' K o k = k
  tested false p st st' K o k = refl

  ops_mirror : (l r : ℕ) → Mirrors (pair_ops s ig l r) (one (λ (n : ℕ). shell (of_op n)) l) (one (λ (n : ℕ). shell (of_op n)) r)
  unfolding Mirrors pair_ops lock meet enter_owners enter_ops block_owner op_owner enter_all
  ops_mirror l r K E E' k st =
      tested (same_shells s ig (of_op l) (of_op r)) (pair_of op l r) st (enter_ops s l r st) K (lock s ig E E') (k (enter_ops s l r st))

  blocks_mirror : (l r : ℕ) → Mirrors (pair_blocks s ig l r) (one (λ (n : ℕ). shell (of_block n)) l) (one (λ (n : ℕ). shell (of_block n)) r)
  unfolding Mirrors pair_blocks lock meet enter_owners enter_blocks block_owner op_owner enter_all
  blocks_mirror l r K E E' k st =
      tested (same_shells s ig (of_block l) (of_block r)) (pair_of block l r) st (enter_blocks s l r st) K (lock s ig E E') (k (enter_blocks s l r st))

  names_mirror : (l r : ℕ) → Mirrors (tested_names s l r) (one names l) (one names r)
  unfolding Mirrors tested_names lock meet
  names_mirror l r K E E' k st = tested (names_agree s l r st) (pair_of op l r) st st K (lock s ig E E') (k st)

  -- that a list begins is no test
  counted_mirror : (j k : ℕ) → Mirrors on (step (counted j) ∷ []) (step (counted k) ∷ [])
  unfolding Mirrors lock meet
  counted_mirror j k K E E' h st = h st

  list_mirror : (f : ℕ → ℕ → State → Walk) (p : Pair) (ev : ℕ → List Event) → ((l r : ℕ) → Mirrors (f l r) (ev l) (ev r))
      → (ls rs : List ℕ) → Mirrors (pairwise f p ls rs) (list_events ev ls) (list_events ev rs)
  unfolding Mirrors pairwise list_events lock meet
  list_mirror f p ev m [] [] K E E' k st = k st
  list_mirror f p ev m [] (r ∷ rs) K E E' k st = refl
  list_mirror f p ev m (l ∷ []) [] K E E' k st = refl
  list_mirror f p ev m (l ∷ l' ∷ ls) [] K E E' k st = refl
  list_mirror f p ev m (l ∷ ls) (r ∷ rs) K E E' k st =
      both (f l r) (pairwise f p ls rs) (ev l) (ev r) (list_events ev ls) (list_events ev rs) (m l r) (list_mirror f p ev m ls rs) K E E' k st

  shells_mirror : (f : ℕ → ℕ → State → Walk) (p : Pair) (w : ℕ → Owner)
      → ((l r : ℕ) → Mirrors (f l r) (one (λ (n : ℕ). shell (w n)) l) (one (λ (n : ℕ). shell (w n)) r))
      → (ls rs : List ℕ) → Mirrors (pairwise f p ls rs) (shell_events w ls) (shell_events w rs)
  unfolding shell_events
  shells_mirror f p w m ls rs =
      both on (pairwise f p ls rs) (step (counted (length ls)) ∷ []) (step (counted (length rs)) ∷ []) (list_events (one (λ (n : ℕ). shell (w n))) ls)
      (list_events (one (λ (n : ℕ). shell (w n))) rs) (counted_mirror (length ls) (length rs)) (list_mirror f p (one (λ (n : ℕ). shell (w n))) m ls rs)

  op_mirror : (f : ℕ → ℕ → State → Walk) (ev : ℕ → List Event) → ((l r : ℕ) → Mirrors (f l r) (ev l) (ev r))
      → (l r : ℕ) → Mirrors (tested_ops s f l r) (op_events s ev l) (op_events s ev r)
  unfolding tested_ops op_events
  op_mirror f ev m l r =
      both (tested_names s l r) (pairwise f (pair_of op l r) (regions_of s l) (regions_of s r)) (one names l) (one names r)
      (list_events ev (regions_of s l)) (list_events ev (regions_of s r)) (names_mirror l r) (list_mirror f (pair_of op l r) ev m (regions_of s l) (regions_of s r))

  lists_mirror : (f : ℕ → ℕ → State → Walk) (ev : ℕ → List Event) → ((l r : ℕ) → Mirrors (f l r) (ev l) (ev r))
      → (p : Pair) (ls rs : List ℕ) → Mirrors (tested_lists s ig f p ls rs) (blocks_events s ev ls) (blocks_events s ev rs)
  unfolding tested_lists blocks_events pass1 tested2 tested3
  lists_mirror f ev m p ls rs =
      both (λ (st : State). pass1 s ig p ls rs st >>= tested2 s ig p ls rs) (tested3 s ig f p ls rs)
      (shell_events of_block ls ++ list_events ops ls) (shell_events of_block rs ++ list_events ops rs) (list_events fulls ls) (list_events fulls rs)
      (both (pass1 s ig p ls rs) (tested2 s ig p ls rs) (shell_events of_block ls) (shell_events of_block rs) (list_events ops ls) (list_events ops rs)
      (shells_mirror (pair_blocks s ig) p of_block blocks_mirror ls rs)
      (list_mirror (λ (l r : ℕ). pairwise (pair_ops s ig) (pair_of block l r) (ops_of s l) (ops_of s r)) p ops
      (λ l r. shells_mirror (pair_ops s ig) (pair_of block l r) of_op ops_mirror (ops_of s l) (ops_of s r)) ls rs))
      (list_mirror (λ (l r : ℕ). pairwise f p (ops_of s l) (ops_of s r)) p fulls (λ l r. list_mirror f p ev m (ops_of s l) (ops_of s r)) ls rs)
    where
      ops : ℕ → List Event
      ops b = shell_events of_op (ops_of s b)

      fulls : ℕ → List Event
      fulls b = list_events ev (ops_of s b)

  regions_mirror : (k : ℕ) (l r : ℕ) → Mirrors (tested_regions s ig k l r) (region_events s k l) (region_events s k r)
  unfolding Mirrors tested_regions region_events
  regions_mirror zero l r = λ K E E' k. k
  regions_mirror (suc j) l r =
      lists_mirror (tested_ops s (tested_regions s ig j)) (op_events s (region_events s j)) (op_mirror (tested_regions s ig j) (region_events s j) (regions_mirror j))
      (pair_of region l r) (blocks_of s l) (blocks_of s r)

  full_mirror : (l r : ℕ) → Mirrors (tested_ops s (tested_regions s ig levels) l r) (op_events s (region_events s levels) l) (op_events s (region_events s levels) r)
  full_mirror = op_mirror (tested_regions s ig levels) (region_events s levels) (regions_mirror levels)

  mirror : (f : Sort) (l r : ℕ) → Mirrors (tested_by s ig f l r) (events s f l) (events s f r)
  unfolding tested_by events
  mirror op l r =
      both (pair_ops s ig l r) (tested_ops s (tested_regions s ig levels) l r) (one (λ (n : ℕ). shell (of_op n)) l) (one (λ (n : ℕ). shell (of_op n)) r)
      (op_events s (region_events s levels) l) (op_events s (region_events s levels) r) (ops_mirror l r) (full_mirror l r)
  mirror block l r = lists_mirror (tested_ops s (tested_regions s ig levels)) (op_events s (region_events s levels)) full_mirror (pair_of block l r) (l ∷ []) (r ∷ [])
  mirror region l r = regions_mirror levels l r

  pub lock_step : (f : Sort) (l r : ℕ) (st : State) → Alike (compare_by s ig f l r st) (lock s ig (events s f l) (events s f r) st)
  unfolding Mirrors lock
  lock_step f l r st =
      rw (compare_tested s ig f l r st)
      (subst₂ (λ (w : Walk) (o : Option State). Alike w o) (>>=-on (tested_by s ig f l r st))
      (ap (λ (es : List Event). lock s ig es (events s f r ++ []) st) (append-nil (events s f l)) ∙ ap (λ (es : List Event). lock s ig (events s f l) es st) (append-nil (events s f r)))
      (mirror f l r on [] [] (λ st₁. refl) st))
