-- A comparison of two runs that finds no difference is a lock-step pass over their events: all operations' shells, then all operations in
-- full. What it leaves is what the two define, side by side. Assumes nothing.
use Prim.Native.Nat.{ℕ, ◌+◌}
use mathlib.Core.Bool.{Bool, true, false, cond, ◌&&◌}
use mathlib.Core.List.{List, [], ◌∷◌, ◌++◌}
use Rattle.std.specs.Prelude.{Option, None, Some}
use Rattle.std.proofs.lemmas.Option.{same_Some, none-some}
use mathlib.Core.Path.{◌≡◌, refl, sym, ap, ap₂, subst, ◌∙◌}
use lib.ListN.{length, get_or, length-append}
use Rattle.std.specs.List.{flat_map}
use Rattle.rules.specs.Store.{Store, regions_of}
use Rattle.rules.specs.declared.types.Owner.{Owner}
use Rattle.rules.specs.declared.types.Owner.TheVariants.{Op as of_op}
use Rattle.rules.specs.Fragments.{levels, shell, names, counted, block_owner, op_owner}
use Rattle.rules.specs.declared.types.Sort.TheVariants.{Op as op, Block as block, Region as region}
use Rattle.rules.specs.Shells.{counts_of, same_shells}
use Rattle.rules.specs.declared.types.Ignore.{Ignore}
use Rattle.rules.specs.Mapping.{enter_all, empty_mapping}
use Rattle.rules.specs.Comparison.{State, Walk, on, ended, unequal, ◌>>=◌, each_pair, pairwise, pair_of, expect, pair_ops, enter_ops, operands_agree, successors_agree, check_names, check_ops, compare_regions, compare_by, start}
use Rattle.rules.specs.MappingLaws.{Table, values, blocks, ops, table_of}
use Rattle.rules.specs.Runs.{compare_runs}
use Rattle.rules.specs.Form.{Event, step, more, done, list_events, one, op_events, region_events, events}
use Rattle.rules.proofs.Basics.Tests.{impossible, and_both, numbers_same}
use Rattle.rules.proofs.Basics.Entries.{enter_append}
use Rattle.rules.proofs.Form.Tested.{Pairs, gained, testing, same_length, names_agree}
use Rattle.rules.proofs.Form.Events.{and_then, enter_owners, meet, lock}
use Rattle.rules.proofs.Form.LockStep.{going, lock_step}
use Rattle.rules.proofs.Form.Tokens.{event_values, event_blocks}
use Rattle.rules.proofs.Form.SameShells.{shells→≡, values_count, blocks_count, ops_count}
use Rattle.semantics.proofs.Pairwise.{event_ops}

module _ (s : Store) where
  abbrev pub full_events : ℕ → List Event
  full_events = op_events s (region_events s levels)

  abbrev pub one_shell : ℕ → List Event
  one_shell = one (λ (n : ℕ). shell (of_op n))

  abbrev pub run_events : List ℕ → List Event
  run_events ns = list_events one_shell ns ++ list_events full_events ns

  -- what an event defines of each table
  unfoldable pub event_defines : Table → Event → List ℕ
  event_defines values = event_values s
  event_defines blocks = event_blocks s
  event_defines ops = event_ops

  module _ (ig : Ignore) where
    abbrev L : List Event → List Event → State → Option State
    L = lock s ig

    -- ---- a pass over what is put together

    lock_append : (e e' E E' : List Event) (st st₁ : State) → L e e' st ≡ Some st₁ → L (e ++ E) (e' ++ E') st ≡ L E E' st₁
    unfolding lock
    lock_append [] [] E E' st st₁ h = ap (L E E') (same_Some st st₁ h)
    lock_append [] (y ∷ e') E E' st st₁ h = absurd (none-some st₁ h)
    lock_append (x ∷ e) [] E E' st st₁ h = absurd (none-some st₁ h)
    lock_append (x ∷ e) (y ∷ e') E E' st st₁ h = go (meet s ig x y st) (λ st₂ q. lock_append e e' E E' st₂ st₁ q) h
      where
        go : (o : Option State) → ((st₂ : State) → L e e' st₂ ≡ Some st₁ → L (e ++ E) (e' ++ E') st₂ ≡ L E E' st₁)
            → and_then o (L e e') ≡ Some st₁ → and_then o (L (e ++ E) (e' ++ E')) ≡ L E E' st₁
        go None rest q = absurd (none-some st₁ q)
        go (Some st₂) rest q = rest st₂ q

    -- lists of one length, by what each pair comes to
    each_lock : (f : ℕ → ℕ → State → Walk) (ev : ℕ → List Event) (Q : ℕ → ℕ → Type 0)
        → ((l r : ℕ) → Q l r → (st st₁ : State) → f l r st ≡ on st₁ → L (ev l) (ev r) st ≡ Some st₁)
        → (ls rs : List ℕ) → Pairs Q ls rs → (st st₁ : State) → each_pair f ls rs st ≡ on st₁ → L (list_events ev ls) (list_events ev rs) st ≡ Some st₁
    unfolding each_pair list_events lock meet
    each_lock f ev Q item [] [] q st st₁ h = let e : st ≡ st₁ = cc in ap Some e
    each_lock f ev Q item [] (r ∷ rs) q st st₁ h = absurd q
    each_lock f ev Q item (l ∷ ls) [] q st st₁ h = absurd q
    each_lock f ev Q item (l ∷ ls) (r ∷ rs) q st st₁ h = go (f l r st) refl (λ st₂ k. each_lock f ev Q item ls rs q.1 st₂ st₁ k) h
      where
        go : (w : Walk) → f l r st ≡ w
            → ((st₂ : State) → each_pair f ls rs st₂ ≡ on st₁ → L (list_events ev ls) (list_events ev rs) st₂ ≡ Some st₁)
            → w >>= each_pair f ls rs ≡ on st₁ → L (ev l ++ list_events ev ls) (ev r ++ list_events ev rs) st ≡ Some st₁
        go (on st₂) e rest k = lock_append (ev l) (ev r) (list_events ev ls) (list_events ev rs) st st₂ (item l r q.0 st st₂ e) ∙ rest st₂ k
        go (ended why st₂) e rest k = impossible cc

    -- ---- what each pair comes to

    abbrev pub SameShells : ℕ → ℕ → Type 0
    SameShells l r = same_shells s ig (of_op l) (of_op r) ≡ true

    shells_paired : (l r : ℕ) (st st₁ : State) → pair_ops s ig l r st ≡ on st₁ → SameShells l r
    unfolding pair_ops expect
    shells_paired l r st st₁ h = go (same_shells s ig (of_op l) (of_op r)) h
      where
        go : (b : Bool) → cond b (on (enter_ops s l r st)) (ended (unequal (pair_of op l r)) st) ≡ on st₁ → b ≡ true
        go true q = refl
        go false q = impossible cc

    shell_lock : (l r : ℕ) → SameShells l r → (st st₁ : State) → pair_ops s ig l r st ≡ on st₁ → L (one_shell l) (one_shell r) st ≡ Some st₁
    unfolding pair_ops expect lock meet enter_owners enter_ops block_owner op_owner enter_all
    shell_lock l r q st st₁ h =
        let k : on (enter_ops s l r st) ≡ on st₁ = rw q at h in
        let e : enter_ops s l r st ≡ st₁ = cc in
        rw q (ap Some e)

    region_lock : (l r : ℕ) → Unit {0} → (st st₁ : State) → compare_regions levels s ig l r st ≡ on st₁
        → L (region_events s levels l) (region_events s levels r) st ≡ Some st₁
    unfolding compare_by events
    region_lock l r q st st₁ h = sym (lock_step s ig region l r st) ∙ ap going h

    full_lock : (l r : ℕ) → SameShells l r → (st st₁ : State) → check_ops s (compare_regions levels s ig) l r st ≡ on st₁
        → L (full_events l) (full_events r) st ≡ Some st₁
    unfolding check_ops check_names expect op_events lock meet names_agree counts_of
    full_lock l r q st st₁ h = go (operands_agree s st.mapping l r && successors_agree s st.mapping l r) refl h
      where
        counts : counts_of s (of_op l) ≡ counts_of s (of_op r)
        counts = (shells→≡ s ig (of_op l) (of_op r) q).0

        go : (b : Bool) → (operands_agree s st.mapping l r && successors_agree s st.mapping l r) ≡ b
            → cond b (on st) (ended (unequal (pair_of op l r)) st) >>= each_pair (compare_regions levels s ig) (regions_of s l) (regions_of s r) ≡ on st₁
            → L (full_events l) (full_events r) st ≡ Some st₁
        go true e k =
            rw (and_both _ _ ((numbers_same (counts_of s (of_op l)) (counts_of s (of_op r))).1 counts) e)
            (each_lock (compare_regions levels s ig) (region_events s levels) (λ (x y : ℕ). Unit {0}) region_lock (regions_of s l) (regions_of s r)
            (same_length (regions_of s l) (regions_of s r) (ap (λ (ns : List ℕ). get_or ns 1 0) counts)) st st₁ k)
        go false e k = impossible cc

    -- ---- the whole

    pub run_lock : (b : ℕ) (ls rs : List ℕ) (st₁ : State) → compare_runs s ig b ls rs ≡ on st₁
        → L (run_events ls) (run_events rs) (start empty_mapping) ≡ Some st₁
    unfolding compare_runs
    run_lock b ls rs st₁ h = go (pairwise (pair_ops s ig) (pair_of block b b) ls rs (start empty_mapping)) refl h
      where
        go : (w : Walk) → pairwise (pair_ops s ig) (pair_of block b b) ls rs (start empty_mapping) ≡ w
            → w >>= each_pair (check_ops s (compare_regions levels s ig)) ls rs ≡ on st₁ → L (run_events ls) (run_events rs) (start empty_mapping) ≡ Some st₁
        go (on st₂) e k =
            let q = gained (pair_ops s ig) (pair_of block b b) SameShells shells_paired ls rs (start empty_mapping) st₂ e in
            let same = testing (pair_ops s ig) (pair_ops s ig) (pair_of block b b) SameShells (λ l r i st. refl) ls rs q (start empty_mapping) in
            lock_append (list_events one_shell ls) (list_events one_shell rs) (list_events full_events ls) (list_events full_events rs) (start empty_mapping) st₂
            (each_lock (pair_ops s ig) one_shell SameShells shell_lock ls rs q (start empty_mapping) st₂ (same ∙ e))
            ∙ each_lock (check_ops s (compare_regions levels s ig)) full_events SameShells full_lock ls rs q st₂ st₁ k
        go (ended why st₂) e k = impossible cc

    -- ---- what a pass leaves

    pub record Entered (t : Table) (st st₁ : State) (xs ys : List ℕ) : Type 0 where
      pub made : table_of st₁.mapping t ≡ enter_all xs ys (table_of st.mapping t)
      pub lengths : length xs ≡ length ys

    nothing : (t : Table) (e e' : Event) (st st₁ : State) → event_defines t e ≡ [] → event_defines t e' ≡ [] → Some st ≡ Some st₁
        → Entered t st st₁ (event_defines t e) (event_defines t e')
    unfolding enter_all
    nothing t e e' st st₁ p q h =
        rw (p, q) (record { made = ap (λ (x : State). table_of x.mapping t) (sym (same_Some st st₁ h)); lengths = refl })

    owner_entered : (t : Table) (l r : Owner) (st : State) → same_shells s ig l r ≡ true
        → Entered t st (enter_owners s l r st) (event_defines t (step (shell l))) (event_defines t (step (shell r)))
    unfolding table_of enter_owners event_defines event_values event_blocks event_ops
    owner_entered values l r st h = record { made = refl; lengths = values_count s ig l r (shells→≡ s ig l r h).1 }
    owner_entered blocks l r st h = record { made = refl; lengths = blocks_count s l r (shells→≡ s ig l r h).0 }
    owner_entered ops l r st h = record { made = refl; lengths = ops_count s l r (shells→≡ s ig l r h).0 }

    names_define : (t : Table) (n : ℕ) → event_defines t (step (names n)) ≡ []
    unfolding event_defines event_values event_blocks event_ops
    names_define values n = refl
    names_define blocks n = refl
    names_define ops n = refl

    counts_define : (t : Table) (n : ℕ) → event_defines t (step (counted n)) ≡ []
    unfolding event_defines event_values event_blocks event_ops
    counts_define values n = refl
    counts_define blocks n = refl
    counts_define ops n = refl

    pub more_defines : (t : Table) → event_defines t more ≡ []
    unfolding event_defines event_values event_blocks event_ops
    more_defines values = refl
    more_defines blocks = refl
    more_defines ops = refl

    pub done_defines : (t : Table) → event_defines t done ≡ []
    unfolding event_defines event_values event_blocks event_ops
    done_defines values = refl
    done_defines blocks = refl
    done_defines ops = refl

    entered_one : (t : Table) (e e' : Event) (st st₁ : State) → meet s ig e e' st ≡ Some st₁ → Entered t st st₁ (event_defines t e) (event_defines t e')
    unfolding meet
    entered_one t (step (shell l)) (step (shell r)) st st₁ h = go (same_shells s ig l r) refl h
      where
        go : (b : Bool) → same_shells s ig l r ≡ b → cond b (Some (enter_owners s l r st)) None ≡ Some st₁
            → Entered t st st₁ (event_defines t (step (shell l))) (event_defines t (step (shell r)))
        go true e k =
            subst (λ (x : State). Entered t st x (event_defines t (step (shell l))) (event_defines t (step (shell r))))
            (same_Some (enter_owners s l r st) st₁ k) (owner_entered t l r st e)
        go false e k = absurd (none-some st₁ k)
    entered_one t (step (names l)) (step (names r)) st st₁ h = go (names_agree s l r st) h
      where
        go : (b : Bool) → cond b (Some st) None ≡ Some st₁ → Entered t st st₁ (event_defines t (step (names l))) (event_defines t (step (names r)))
        go true k = nothing t (step (names l)) (step (names r)) st st₁ (names_define t l) (names_define t r) k
        go false k = absurd (none-some st₁ k)
    entered_one t (step (counted i)) (step (counted j)) st st₁ h =
        nothing t (step (counted i)) (step (counted j)) st st₁ (counts_define t i) (counts_define t j) h
    entered_one t more more st st₁ h = nothing t more more st st₁ (more_defines t) (more_defines t) h
    entered_one t done done st st₁ h = nothing t done done st st₁ (done_defines t) (done_defines t) h
    entered_one t (step (shell l)) (step (names r)) st st₁ h = absurd (none-some st₁ h)
    entered_one t (step (shell l)) (step (counted j)) st st₁ h = absurd (none-some st₁ h)
    entered_one t (step (names l)) (step (shell r)) st st₁ h = absurd (none-some st₁ h)
    entered_one t (step (names l)) (step (counted j)) st st₁ h = absurd (none-some st₁ h)
    entered_one t (step (counted j)) (step (shell r)) st st₁ h = absurd (none-some st₁ h)
    entered_one t (step (counted j)) (step (names r)) st st₁ h = absurd (none-some st₁ h)
    entered_one t (step x) more st st₁ h = absurd (none-some st₁ h)
    entered_one t (step x) done st st₁ h = absurd (none-some st₁ h)
    entered_one t more (step y) st st₁ h = absurd (none-some st₁ h)
    entered_one t more done st st₁ h = absurd (none-some st₁ h)
    entered_one t done (step y) st st₁ h = absurd (none-some st₁ h)
    entered_one t done more st st₁ h = absurd (none-some st₁ h)

    pub entered_all : (t : Table) (es es' : List Event) (st st₁ : State) → L es es' st ≡ Some st₁
        → Entered t st st₁ (flat_map (event_defines t) es) (flat_map (event_defines t) es')
    unfolding lock enter_all
    entered_all t [] [] st st₁ h = record { made = ap (λ (x : State). table_of x.mapping t) (sym (same_Some st st₁ h)); lengths = refl }
    entered_all t [] (y ∷ es') st st₁ h = absurd (none-some st₁ h)
    entered_all t (x ∷ es) [] st st₁ h = absurd (none-some st₁ h)
    entered_all t (x ∷ es) (y ∷ es') st st₁ h = go (meet s ig x y st) refl (λ st₂ q. entered_all t es es' st₂ st₁ q) h
      where
        go : (o : Option State) → meet s ig x y st ≡ o
            → ((st₂ : State) → L es es' st₂ ≡ Some st₁ → Entered t st₂ st₁ (flat_map (event_defines t) es) (flat_map (event_defines t) es'))
            → and_then o (L es es') ≡ Some st₁
            → Entered t st st₁ (event_defines t x ++ flat_map (event_defines t) es) (event_defines t y ++ flat_map (event_defines t) es')
        go None e rest q = absurd (none-some st₁ q)
        go (Some st₂) e rest q =
            let a = entered_one t x y st st₂ e in
            let b = rest st₂ q in
            record {
              made =
                  b.made
                  ∙ ap (enter_all (flat_map (event_defines t) es) (flat_map (event_defines t) es')) a.made
                  ∙ sym (enter_append (event_defines t x) (event_defines t y) (flat_map (event_defines t) es) (flat_map (event_defines t) es') (table_of st.mapping t) a.lengths);
              lengths = simp length-append (ap₂ ◌+◌ a.lengths b.lengths);
            }
