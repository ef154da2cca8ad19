-- Equal runs of a block do the same work: what their comparison leaves pairs what they define, one to one, and whatever it comes to on the
-- left is alike to its image. Assumes nothing.
use Prim.Native.Nat.{ℕ}
use native.Mathlib.Omega.{arith}
use mathlib.Core.Bool.{true}
use mathlib.Core.List.Memᴰ
use mathlib.Core.List.{List, [], ◌∷◌, ◌++◌, map-map, append-nil, Memᴰ}
use mathlib.Core.Logic.{⊎_elim, inr, ◌≢◌}
use Rattle.std.specs.Prelude.{Some}
use mathlib.Core.Path.{◌≡◌, refl, sym, ap, ap₂, subst, ◌∙◌}
use lib.ListN.{length, take, drop, take-append-drop}
use Rattle.std.specs.List.{flat_map}
use Rattle.rules.specs.Store.{Store, ops_of, blocks_of, regions_of, sound}
use Rattle.rules.specs.declared.types.Owner.TheVariants.{Op as of_op, Block as of_block}
use Rattle.rules.specs.Fragments.{levels, counted, steps, fragment_ops, defines_values, defines_blocks, names_values, names_blocks}
use Rattle.rules.specs.declared.types.Sort.TheVariants.{Op as op, Block as block}
use Rattle.rules.specs.declared.types.Ignore.{Ignore}
use Rattle.rules.specs.Mapping.{Mapping, no_image, empty_mapping, image}
use Rattle.rules.specs.Comparison.{State, Walk, on, standing, start}
use Rattle.rules.specs.Laws.{In}
use Rattle.rules.specs.MappingLaws.{Table, values, blocks, ops, table_of, defines_of, Bijection}
use Rattle.rules.specs.Runs.{compare_runs, run_of, same_runs}
use Rattle.rules.specs.Form.{Event, step, more, done, list_events, shell_events, blocks_events, region_events, events}
use Rattle.rules.proofs.Basics.Distinct.{Distinct, distinct_append, distinct_left, mem_concat_map, concat_map_append}
use Rattle.rules.proofs.Copying.Renumbered.{distinct_apart, distinct_right, in_concat_map}
use Rattle.rules.proofs.Copying.Shelled.{owner_shell}
use Rattle.rules.proofs.Form.Beside.{bijection}
use Rattle.rules.proofs.Form.Canonical.{goes, events_name_values, events_name_blocks}
use Rattle.rules.proofs.Form.Events.{lock}
use Rattle.rules.proofs.Form.Images.{Once}
use Rattle.rules.proofs.Form.Owned.{op_owned, block_owned}
use Rattle.rules.proofs.Form.Tested.{Pairs}
use Rattle.rules.proofs.Form.Tokens.{event_operands, event_successors}
use Rattle.semantics.specs.Meaning.{Meaning}
use Rattle.semantics.specs.Machine.{code_of, Registers, behind, goes_on, run_ops}
use Rattle.semantics.specs.Isomorphic.{images, OpsAlike, BlocksAlike}
use Rattle.semantics.specs.SameWork.{Agree, HoldAlike, RunsAlike}
use Rattle.semantics.specs.BlockRuns.{all_values, NameNothingOf, OpsWorkAlike, RunWork}
use Rattle.semantics.proofs.Below.{operands_named, successors_named, op_below, block_below, result_below, argument_below, op_root}
use Rattle.semantics.proofs.Going.{Going, begun}
use Rattle.semantics.proofs.Pairwise.{Course, met}
use Rattle.semantics.proofs.Parted.{B, pairs_both, pairs_imp, pair_at, joined, list_parts, list_whole, parted_one, parted_op, parted_region}
use Rattle.semantics.proofs.Found.{E, none_in, small, listed, Found, fragment_found, ops_images, values_in_events, blocks_in_events, ops_in_events}
use Rattle.semantics.proofs.RunEvents.{full_events, one_shell, run_events, event_defines, more_defines, done_defines, run_lock, entered_all}
use Rattle.semantics.proofs.Simulation.{Ground, Stand, goes_alike, held_first, simulated}

-- ---- a list that is a part of another: distinct if that is, and of its entries

record Part {A : Type 0} (xs ys : List A) : Type 0 where
  once : Distinct ys → Distinct xs
  sub : (x : A) → Memᴰ x xs → Memᴰ x ys

part_left : {A : Type 0} (xs ys : List A) → Part xs (xs ++ ys)
part_left xs ys = record { once = distinct_left xs ys; sub = λ x i. Memᴰ.append_left ys i }

part_right : {A : Type 0} (xs ys : List A) → Part ys (xs ++ ys)
part_right xs ys = record { once = distinct_right xs ys; sub = λ x i. Memᴰ.append_right xs i }

part_along : {A : Type 0} (xs ys zs : List A) → Part xs ys → Part ys zs → Part xs zs
part_along xs ys zs p q = record { once = λ d. p.once (q.once d); sub = λ x i. q.sub x (p.sub x i) }

-- two parts of two lists, one behind the other
part_both : {A : Type 0} (xs ys vs ws : List A) → Part xs vs → Part ys ws → Part (xs ++ ys) (vs ++ ws)
part_both xs ys vs ws p q =
    record {
      once = λ d.
          distinct_append xs ys (p.once (distinct_left vs ws d)) (q.once (distinct_right vs ws d))
          (λ x i j. distinct_apart vs ws d x (p.sub x i) (q.sub x j));
      sub = λ x i. ⊎_elim (λ k. Memᴰ.append_left ws (p.sub x k)) (λ k. Memᴰ.append_right vs (q.sub x k)) (Memᴰ.append_cases xs i);
    }

-- what some consecutive entries come to
part_of : {A B : Type 0} (f : A → List B) (ns whole ahead rest : List A) → ahead ++ (ns ++ rest) ≡ whole → Part (flat_map f ns) (flat_map f whole)
part_of f ns whole ahead rest e =
    subst (λ (xs : List _). Part (flat_map f ns) xs)
    (sym (concat_map_append f ahead (ns ++ rest) ∙ ap (λ (xs : List _). flat_map f ahead ++ xs) (concat_map_append f ns rest)) ∙ ap (flat_map f) e)
    (part_along (flat_map f ns) (flat_map f ns ++ flat_map f rest) (flat_map f ahead ++ (flat_map f ns ++ flat_map f rest))
    (part_left (flat_map f ns) (flat_map f rest)) (part_right (flat_map f ahead) (flat_map f ns ++ flat_map f rest)))

-- ---- what stands in the events of a run

module _ (s : Store) {A : Type 0} (G : Event → List A) (at_more : G more ≡ []) (at_done : G done ≡ []) where
  abbrev all : List Event → List A
  all = flat_map G

  in_list : (ev : ℕ → List Event) (ns : List ℕ) → all (list_events ev ns) ≡ flat_map (λ (n : ℕ). all (ev n)) ns
  unfolding list_events
  in_list ev [] = ap (λ (l : List A). l ++ []) at_done
  in_list ev (n ∷ ns) =
      ap (λ (l : List A). l ++ all (ev n ++ list_events ev ns)) at_more
      ∙ concat_map_append G (ev n) (list_events ev ns)
      ∙ ap (λ (l : List A). all (ev n) ++ l) (in_list ev ns)

  abbrev shells_of : List ℕ → List A
  shells_of ns = flat_map (λ (n : ℕ). all (one_shell s n)) ns

  abbrev fulls_of : List ℕ → List A
  fulls_of ns = flat_map (λ (n : ℕ). all (full_events s n)) ns

  of_events : (ns : List ℕ) → all (run_events s ns) ≡ shells_of ns ++ fulls_of ns
  of_events ns =
      concat_map_append G (list_events (one_shell s) ns) (list_events (full_events s) ns)
      ∙ ap₂ ◌++◌ (in_list (one_shell s) ns) (in_list (full_events s) ns)

  of_op_events : (n : ℕ) → all (events s op n) ≡ all (one_shell s n) ++ all (full_events s n)
  unfolding events
  of_op_events n = concat_map_append G (one_shell s n) (full_events s n)

  in_run : (ns : List ℕ) (x : A) → Memᴰ x (all (run_events s ns)) → (n : ℕ) × Memᴰ n ns × Memᴰ x (all (events s op n))
  in_run ns x m =
      ⊎_elim
      (λ k. let w = mem_concat_map (λ (n : ℕ). all (one_shell s n)) ns k in
      (w.0, w.1, subst (Memᴰ x) (sym (of_op_events w.0)) (Memᴰ.append_left (all (full_events s w.0)) w.2)))
      (λ k. let w = mem_concat_map (λ (n : ℕ). all (full_events s n)) ns k in
      (w.0, w.1, subst (Memᴰ x) (sym (of_op_events w.0)) (Memᴰ.append_right (all (one_shell s w.0)) w.2)))
      (Memᴰ.append_cases (shells_of ns) (subst (Memᴰ x) (of_events ns) m))

  into_run : (ns : List ℕ) (x : A) (n : ℕ) → Memᴰ n ns → Memᴰ x (all (events s op n)) → Memᴰ x (all (run_events s ns))
  into_run ns x n i m =
      subst (Memᴰ x) (sym (of_events ns))
      (⊎_elim
      (λ k. Memᴰ.append_left (fulls_of ns) (in_concat_map (λ (n : ℕ). all (one_shell s n)) ns i k))
      (λ k. Memᴰ.append_right (shells_of ns) (in_concat_map (λ (n : ℕ). all (full_events s n)) ns i k))
      (Memᴰ.append_cases (all (one_shell s n)) (subst (Memᴰ x) (of_op_events n) m)))

  -- a run's events define a part of what its block's define
  module _ (b : ℕ) (ns ahead rest : List ℕ) (e : ahead ++ (ns ++ rest) ≡ ops_of s b) where
    abbrev op_shells : ℕ → List Event
    op_shells c = shell_events of_op (ops_of s c)

    abbrev op_fulls : ℕ → List Event
    op_fulls c = list_events (full_events s) (ops_of s c)

    shells_part : Part (shells_of ns) (all (list_events op_shells (b ∷ [])))
    unfolding shell_events
    shells_part =
        rw (in_list op_shells (b ∷ []), append-nil (all (op_shells b)), in_list (one_shell s) (ops_of s b))
        (part_along (shells_of ns) (shells_of (ops_of s b)) (G (step (counted (length (ops_of s b)))) ++ shells_of (ops_of s b))
        (part_of (λ (n : ℕ). all (one_shell s n)) ns (ops_of s b) ahead rest e)
        (part_right (G (step (counted (length (ops_of s b))))) (shells_of (ops_of s b))))

    fulls_part : Part (fulls_of ns) (all (list_events op_fulls (b ∷ [])))
    fulls_part =
        rw (in_list op_fulls (b ∷ []), append-nil (all (op_fulls b)), in_list (full_events s) (ops_of s b))
        (part_of (λ (n : ℕ). all (full_events s n)) ns (ops_of s b) ahead rest e)

    run_part : Part (all (run_events s ns)) (all (events s block b))
    unfolding events blocks_events
    run_part =
        rw (
          of_events ns,
          concat_map_append G (shell_events of_block (b ∷ []) ++ list_events op_shells (b ∷ [])) (list_events op_fulls (b ∷ [])),
          concat_map_append G (shell_events of_block (b ∷ [])) (list_events op_shells (b ∷ [])),
        )
        (part_both (shells_of ns) (fulls_of ns) (all (shell_events of_block (b ∷ [])) ++ all (list_events op_shells (b ∷ []))) (all (list_events op_fulls (b ∷ [])))
        (part_along (shells_of ns) (all (list_events op_shells (b ∷ []))) (all (shell_events of_block (b ∷ [])) ++ all (list_events op_shells (b ∷ [])))
        shells_part (part_right (all (shell_events of_block (b ∷ []))) (all (list_events op_shells (b ∷ [])))))
        fulls_part)

-- ---- two runs of a block of which the comparison has found no difference

module _ (s : Store) (sd : sound s ≡ true) (ig : Ignore) (b : ℕ) (ib : In s block b) where
  -- what a run's events define of each table, and what its operations do
  abbrev D : Table → List ℕ → List ℕ
  D t ns = flat_map (event_defines s t) (run_events s ns)

  abbrev A : Table → List ℕ → List ℕ
  A t ns = flat_map (λ (n : ℕ). defines_of s op n t) ns

  op_defines : (t : Table) (n : ℕ) → flat_map (event_defines s t) (events s op n) ≡ defines_of s op n t
  unfolding event_defines defines_of
  op_defines values n = values_in_events s op n
  op_defines blocks n = blocks_in_events s op n
  op_defines ops n = ops_in_events s op n

  block_defines : (t : Table) → flat_map (event_defines s t) (events s block b) ≡ defines_of s block b t
  unfolding event_defines defines_of
  block_defines values = values_in_events s block b
  block_defines blocks = blocks_in_events s block b
  block_defines ops = ops_in_events s block b

  forth : (t : Table) (ns : List ℕ) (v : ℕ) → Memᴰ v (D t ns) → Memᴰ v (A t ns)
  forth t ns v m =
      let w = in_run s (event_defines s t) (more_defines s ig t) (done_defines s ig t) ns v m in
      in_concat_map (λ (n : ℕ). defines_of s op n t) ns w.1 (subst (Memᴰ v) (op_defines t w.0) w.2)

  back : (t : Table) (ns : List ℕ) (v : ℕ) → Memᴰ v (A t ns) → Memᴰ v (D t ns)
  back t ns v m =
      let w = mem_concat_map (λ (n : ℕ). defines_of s op n t) ns m in
      into_run s (event_defines s t) (more_defines s ig t) (done_defines s ig t) ns v w.0 w.1 (subst (Memᴰ v) (sym (op_defines t w.0)) w.2)

  -- a run
  record Run (ns : List ℕ) : Type 0 where
    ahead : List ℕ
    rest : List ℕ
    whole : ahead ++ (ns ++ rest) ≡ ops_of s b

  once_in : (t : Table) (ns : List ℕ) → Run ns → Once (length (E t)) (D t ns)
  once_in t ns r =
      let p = run_part s (event_defines s t) (more_defines s ig t) (done_defines s ig t) b ns r.ahead r.rest r.whole in
      let o = listed s sd block t b ib in
      record {
        once = p.once (subst Distinct (sym (block_defines t)) o.once);
        inside = λ v i. o.inside v (subst (Memᴰ v) (block_defines t) (p.sub v i));
      }

  module _ (ls rs : List ℕ) (lr : Run ls) (rr : Run rs) (st : State) (e : compare_runs s ig b ls rs ≡ on st)
      (out : NameNothingOf s ls rs) (out_back : NameNothingOf s rs ls) where
    abbrev m : Mapping
    m = st.mapping

    locked : lock s ig (run_events s ls) (run_events s rs) (start empty_mapping) ≡ Some st
    locked = run_lock s ig b ls rs st e

    some_number : (t : Table) (y : ℕ) → Memᴰ y (D t rs) → y ≢ no_image
    some_number t y k = let l = (once_in t rs rr).inside y k in let q = small t in λ e. omega arith

    bijective : (t : Table) → Bijection (table_of m t) (A t ls) (A t rs)
    unfolding table_of start
    bijective t =
        let made = entered_all s ig t (run_events s ls) (run_events s rs) (start empty_mapping) st locked in
        let bi : Bijection (table_of m t) (D t ls) (D t rs) =
        rw made.made (bijection (E t) (none_in t) (small t) (D t ls) (D t rs) (once_in t ls lr) (once_in t rs rr) made.lengths) in
        record {
          each = λ l k. bi.each l (back t ls l k);
          only = λ l r q. (forth t ls l (bi.only l r q).0, forth t rs r (bi.only l r q).1);
          once = bi.once;
          over = λ r k. bi.over r (back t rs r k);
        }

    going : (t : Table) → Going (table_of m t) (table_of (start empty_mapping).mapping t) (D t ls) (D t rs)
    unfolding table_of start
    going t =
        let made = entered_all s ig t (run_events s ls) (run_events s rs) (start empty_mapping) st locked in
        let l = once_in t ls lr in
        rw made.made (begun (E t) (D t ls) (D t rs) (none_in t) l.once made.lengths l.inside (some_number t))

    course : Course s ig m (start empty_mapping) (run_events s ls) (run_events s rs)
    unfolding event_defines table_of defines_of event_operands event_successors
    course =
        record {
          values = going values;
          blocks = going blocks;
          ops = going ops;
          operands_out = λ v i k.
              let w = in_run s (event_operands s) refl refl rs v i in
              out_back.values v (in_concat_map (names_values s op) rs w.1 (subst (Memᴰ v) (events_name_values s op w.0) w.2)) (forth values ls v k);
          successors_out = λ c i k.
              let w = in_run s (event_successors s) refl refl rs c i in
              out_back.blocks c (in_concat_map (names_blocks s op) rs w.1 (subst (Memᴰ c) (events_name_blocks s op w.0) w.2)) (forth blocks ls c k);
        }

    shells_and_rest : Pairs (λ (x y : ℕ). B s ig m (one_shell s x) (one_shell s y)) ls rs × B s ig m (list_events (full_events s) ls) (list_events (full_events s) rs)
    shells_and_rest =
        list_parts s ig m (one_shell s) (parted_one s ig m of_op) ls rs (list_events (full_events s) ls) (list_events (full_events s) rs)
        (met s ig m (run_events s ls) (run_events s rs) (start empty_mapping) st locked course)

    whole_ops : Pairs (λ (x y : ℕ). B s ig m (events s op x) (events s op y)) ls rs
    unfolding events
    whole_ops =
        pairs_imp _ _ (λ x y k. joined s ig m (one_shell s x) (one_shell s y) (full_events s x) (full_events s y) k.0 k.1) ls rs
        (pairs_both _ _ ls rs shells_and_rest.0
        (list_whole s ig m (full_events s) (parted_op s ig m (region_events s levels) (parted_region s ig m levels)) ls rs shells_and_rest.1))

    roots : images m.ops ls ≡ rs
    roots = ops_images s ig m ls rs (pairs_imp _ _ (λ x y k. k.0) ls rs shells_and_rest.0)

    found : (l : ℕ) → Memᴰ l ls → Found s ig m (steps s op l)
    found l i = let p = pair_at _ ls rs whole_ops i in (fragment_found s ig m sd op l p.0 p.1).1

    good_op : (n : ℕ) → Memᴰ n (A ops ls) → OpsAlike s ig m n (image m.ops n)
    unfolding defines_of
    good_op n i =
        let w = mem_concat_map (fragment_ops s op) ls i in
        found w.0 w.1 (of_op n) (owner_shell s op w.0 (of_op n) (op_owned s op w.0 w.2))

    good_block : (c : ℕ) → Memᴰ c (A blocks ls) → BlocksAlike s ig m c (image m.blocks c)
    unfolding defines_of
    good_block c i =
        let w = mem_concat_map (defines_blocks s op) ls i in
        found w.0 w.1 (of_block c) (owner_shell s op w.0 (of_block c) (block_owned s op w.0 w.2))

    -- ---- so the two runs' code is isomorphic

    ground : Ground (code_of s ig) (code_of s ig) m (A values ls) (A values rs) (A blocks ls) (A blocks rs) (A ops ls)
    unfolding table_of defines_of
    ground =
        record {
          of_values = bijective values;
          of_blocks = bijective blocks;
          op_fields = λ n i. (good_op n i).fields;
          operands = λ n i. (good_op n i).operands;
          results = λ n i. (good_op n i).results;
          successors = λ n i. (good_op n i).successors;
          regions = λ n i. map-map (images m.blocks) (blocks_of s) (regions_of s n) ∙ (good_op n i).regions;
          block_fields = λ c i. (good_block c i).fields;
          arguments = λ c i. (good_block c i).arguments;
          ops = λ c i. (good_block c i).ops;
          operands_apart = λ n v i k.
              let w = mem_concat_map (fragment_ops s op) ls i in
              inr (out.values v (in_concat_map (names_values s op) ls w.1 (operands_named s sd op w.0 n v w.2 k)));
          successors_apart = λ n c i k.
              let w = mem_concat_map (fragment_ops s op) ls i in
              inr (out.blocks c (in_concat_map (names_blocks s op) ls w.1 (successors_named s sd op w.0 n c w.2 k)));
          ops_below = λ c n i k.
              let w = mem_concat_map (defines_blocks s op) ls i in
              in_concat_map (fragment_ops s op) ls w.1 (op_below s sd op w.0 c n w.2 k);
          blocks_below = λ n bs c i k q.
              let w = mem_concat_map (fragment_ops s op) ls i in
              let r = Memᴰ.of_map (blocks_of s) (regions_of s n) k in
              in_concat_map (defines_blocks s op) ls w.1 (block_below s sd op w.0 n r.0 c w.2 r.1 (subst (Memᴰ c) (sym r.2) q));
          results_below = λ n v i k.
              let w = mem_concat_map (fragment_ops s op) ls i in
              in_concat_map (defines_values s op) ls w.1 (result_below s sd op w.0 n v w.2 k);
          arguments_below = λ c v i k.
              let w = mem_concat_map (defines_blocks s op) ls i in
              in_concat_map (defines_values s op) ls w.1 (argument_below s sd op w.0 c v w.2 k);
        }

    module _ {Data World Mind : Type 0} (M : Meaning Data World Mind) (R : Registers Data) (h : HoldAlike m R (A values ls)) where
      agree : Agree m (A values ls) (A values rs) R R
      agree = record { inside = h; outside = λ v i j. refl }

      abbrev StandsBy : List ℕ → Type 0
      StandsBy ns =
          Stand (code_of s ig) (code_of s ig) m (A values ls) (A values rs) (A blocks ls) (A blocks rs) (A ops ls) ground M R R agree
          (goes_on M (code_of s ig) (behind [] ns ∷ []) R) (goes_on M (code_of s ig) (behind [] ls ∷ []) R)

      stand : StandsBy rs
      unfolding defines_of
      stand =
          subst StandsBy roots
          (goes_alike _ _ _ _ _ _ _ _ ground M R R agree (behind [] ls ∷ []) R R
          ((λ c i. absurd (Memᴰ.not-nil i), λ n i. in_concat_map (fragment_ops s op) ls i (op_root s sd n)), tt)
          (held_first _ _ _ _ _ _ _ _ ground M R R agree))

      run_alike : (w : World) (k : ℕ) → RunsAlike m (A values ls) (A values rs) R R (run_ops M s ig ls R w k) (run_ops M s ig rs R w k)
      unfolding run_ops
      run_alike w k = simulated _ _ _ _ _ _ _ _ ground M R R agree k _ _ w stand

-- some of a block's operations from a start on are a run
is_run : (s : Store) (sd : sound s ≡ true) (ig : Ignore) (b : ℕ) (ib : In s block b) (n i : ℕ) → Run s sd ig b ib (run_of (ops_of s b) n i)
unfolding run_of
is_run s sd ig b ib n i =
    record {
      ahead = take i (ops_of s b);
      rest = drop n (drop i (ops_of s b));
      whole =
          ap (λ (xs : List ℕ). take i (ops_of s b) ++ xs) (take-append-drop n (drop i (ops_of s b)))
          ∙ take-append-drop i (ops_of s b);
    }

pub run_work : (Data World Mind : Type 0) → RunWork Data World Mind
unfolding RunWork OpsWorkAlike same_runs defines_of standing
run_work Data World Mind s sd ig b n i j ib out out_back e M R h w k =
    let ls = run_of (ops_of s b) n i in
    let rs = run_of (ops_of s b) n j in
    let st = goes (compare_runs s ig b ls rs) e in
    let same : (standing (compare_runs s ig b ls rs)).mapping ≡ st.0.mapping = ap (λ (x : Walk). (standing x).mapping) st.1 in
    subst (λ (m : Mapping). RunsAlike m (all_values s ls) (all_values s rs) R R (run_ops M s ig ls R w k) (run_ops M s ig rs R w k)) (sym same)
    (run_alike s sd ig b ib ls rs (is_run s sd ig b ib n i) (is_run s sd ig b ib n j) st.0 st.1 out out_back M R
    (subst (λ (m : Mapping). HoldAlike m R (all_values s ls)) same h) w k)
