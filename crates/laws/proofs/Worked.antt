-- The same work over the code. What a comparison leaves is read as the filed mapping, what is left of all twins as the rules' twins, and
-- what the call that copies leaves as the rules' copy and its mapping; and of those the same work is proved. Assumes nothing.
use Rattle.rules.specs.declared.types.Cause.{Cause}
use Rattle.rules.specs.declared.types.Cause.TheVariants.{NotSound, BadMapping}
use Prim.Native.Nat.{ℕ, zero, suc, ◌+◌, ◌<◌}
use native.Mathlib.Omega.{arith}
use mathlib.Core.Bool.{Bool, true, false, cond}
use mathlib.Core.List.{List, [], ◌∷◌, map}
use mathlib.Core.Logic.{◌≢◌}
use Rattle.std.specs.Prelude.{Option, None, Some}
use Rattle.std.proofs.lemmas.Option.{none-some}
use mathlib.Core.Path.{◌≡◌, refl, sym, ap, subst, ◌∙◌}
use borrow.Author.Tests.{lt-ltb}
use lib.ListN.{length, get_or, length-map, get_or-append}
use Rattle.rules.specs.Lists.{numbers_from, numbers_where}
use Rattle.rules.specs.Store.{Store, Op, op_exists}
use Rattle.rules.specs.Fragments.{exists}
use Rattle.rules.specs.declared.types.Sort.TheVariants.{Op as op, Block as block}
use Rattle.rules.specs.Laws.{In}
use Rattle.rules.specs.Building.{made, refused, first_failed}
use Rattle.rules.specs.declared.types.Ignore.{Ignore}
use Rattle.rules.specs.Mapping.{Mapping, allowed}
use Rattle.rules.specs.Types.{renamed}
use Rattle.rules.specs.Keys.{written}
use Rattle.rules.specs.Marks.{MarkedStore, copy, marked_tests, marked_answer_by, marked_answer, marked_acceptance, marked_by, marked, marked_applied}
use Rattle.rules.specs.Copying.{copied, copy_mapping, copy_tests}
use Rattle.rules.specs.CopyLaws.{Copies}
use Rattle.rules.specs.Grouping.{Grouping, grouped, refused_twins, no_twin, twin_of, twins_of, twin_word, twin_tests, grouping_by, grouping}
use Rattle.rules.specs.Runs.{Run, same_runs, repeated, run_found, repeated_of, repeated_by, run_tests, repeated_run}
use Rattle.rules.specs.TypeLaws.{RenamedSound, RenamedIn}
use Rattle.rules.specs.RunLaws.{RepeatedFound, Same}
use Rattle.rules.proofs.Basics.Cut.{map_through}
use Rattle.rules.proofs.Soundness.Accepted.{first_failed_none}
use Rattle.rules.proofs.RenamedTypes.Under.{renamed_sound, renamed_in}
use Rattle.rules.proofs.Runs.Searched.{repeated_found}
use Rattle.semantics.specs.SameWork.{SameWork, WorkAlike}
use Rattle.semantics.specs.Copies.{CopyWork, TwinWork}
use Rattle.semantics.proofs.Laws.{same_work}
use Rattle.semantics.specs.BlockRuns.{RunWork}
use Rattle.semantics.proofs.Copies.{copy_work, twin_work}
use Rattle.semantics.proofs.BlockRuns.{run_work}
use Rattle.layout.specs.Reading.{store_in}
use Rattle.layout.specs.Journal.{marked_of}
use Rattle.layout.specs.MarkedReading.{journaled_of, marked_in}
use Rattle.undo_log.proofs.Lent.{lent_facts}
use Rattle.api.specs.Calls.{AfterCalls}
use Rattle.api.proofs.Answering.{after_calls}
use Rattle.grouping.specs.Calls as twins
use Rattle.repeated_runs.specs.Calls as runs
use Rattle.equivalence.specs.MappingWords.{mapping_of}
use Rattle.laws.specs.Work.{SameWorkOfCode, TwinWorkOfCode, CopyWorkOfCode, RunWorkOfCode}
use Rattle.laws.proofs.Obeyed as obeyed
use Rattle.laws.proofs.Mapped as mapped

-- ---- the words of all twins

-- a function's values at n, n + 1 and so on, as many as there are entries
in_order : {A : Type 0} (g : ℕ → ℕ) (n : ℕ) (xs : List A) (k d : ℕ) → k < length xs → get_or (map g (numbers_from n (λ (x : A). true) xs)) k d ≡ g (n + k)
unfolding numbers_from
in_order g n [] k d l = absurd (omega arith)
in_order g n (x ∷ xs) zero d l = let e : n ≡ n + 0 = omega arith in ap g e
in_order g n (x ∷ xs) (suc k) d l = let e : suc n + k ≡ n + suc k = omega arith in in_order g (suc n) xs k d (omega arith) ∙ ap g e

all_numbers : {A : Type 0} (n : ℕ) (xs : List A) → length (numbers_from n (λ (x : A). true) xs) ≡ length xs
unfolding numbers_from
all_numbers n [] = refl
all_numbers n (x ∷ xs) = ap suc (all_numbers (suc n) xs)

module _ (s : Store) (ig : Ignore) (words : List ℕ) (n : ℕ) (l : n < length s.ops) where
  twin_at : get_or (written (map twin_word (twins_of s ig)) words) n no_twin ≡ twin_word (twin_of s ig n)
  unfolding written twins_of numbers_where
  twin_at =
      let xs = map (twin_of s ig) (numbers_from 0 (λ (o : Op). true) s.ops) in
      get_or-append (map twin_word xs) _ no_twin n
      (omega (arith, length-map xs twin_word, length-map (numbers_from 0 (λ (o : Op). true) s.ops) (twin_of s ig), all_numbers 0 s.ops, l))
      ∙ sym (ap (λ (ws : List ℕ). get_or ws n no_twin)
      (map_through word twin_word (twin_of s ig) (numbers_from 0 (λ (o : Op). true) s.ops) (λ k m. refl)))
      ∙ in_order word 0 s.ops n no_twin l
      ∙ (let e : 0 + n ≡ n = omega arith in ap word e)
    where
      word : ℕ → ℕ
      word k = twin_word (twin_of s ig k)

  twin_is : (m : ℕ) → get_or (written (map twin_word (twins_of s ig)) words) n no_twin ≡ m → m ≢ no_twin → twin_of s ig n ≡ Some m
  unfolding twin_word
  twin_is m e ne = go (twin_of s ig n) refl
    where
      go : (t : Option ℕ) → twin_of s ig n ≡ t → t ≡ Some m
      go None q = absurd (ne (sym e ∙ twin_at ∙ ap twin_word q))
      go (Some k) q = ap Some (sym (ap twin_word q) ∙ sym twin_at ∙ e)

-- the call answers only where no test fails, and leaves the rules' words
module _ (s : Store) (types : List ℕ) (ig : Ignore) (before after : List ℕ) (count : ℕ)
    (h : grouping true s types ig before ≡ record { answer = grouped count; words = after }) where
  told : (count ≡ length s.ops) × (after ≡ written (map twin_word (twins_of (renamed types s) ig)) before)
  unfolding grouping grouping_by renamed
  told = go (first_failed (twin_tests true s types (length before))) h
    where
      go : (o : Option Cause) → grouping_by o (renamed types s) ig before ≡ record { answer = grouped count; words = after }
          → (count ≡ length s.ops) × (after ≡ written (map twin_word (twins_of (renamed types s) ig)) before)
      go None e = (let k : grouped (length (renamed types s).ops) ≡ grouped count = ap (λ (g : Grouping). g.answer) e in cc, sym (ap (λ (g : Grouping). g.words) e))
      go (Some cause) e = let z : ⊥ = let k : refused_twins cause ≡ grouped count = ap (λ (g : Grouping). g.answer) e in cc in absurd z

-- a copy that is answered by a number is accepted; the number is the next one, and the store has the copy
module _ (t : MarkedStore) (ok : Bool) (n : ℕ) (place : Option ℕ) (c : ℕ) where
  none_failed : (b : Bool) → first_failed ((b, BadMapping) ∷ copy_tests t.store n place) ≡ None → Copies t.store n place
  unfolding first_failed
  none_failed true h = h
  none_failed false h = absurd (none-some BadMapping (sym h))

  copy_made : made c ≡ marked_answer t (copy ok n place)
      → Copies t.store n place × (c ≡ length t.store.ops) × ((marked t (copy ok n place)).store ≡ copied t.store n place)
  unfolding marked_answer marked_answer_by marked_acceptance marked marked_by marked_applied marked_tests
  copy_made e = go (first_failed (marked_tests t (copy ok n place))) refl e
    where
      go : (o : Option Cause) → first_failed (marked_tests t (copy ok n place)) ≡ o → made c ≡ marked_answer_by o t (copy ok n place)
          → Copies t.store n place × (c ≡ length t.store.ops) × ((marked_by o t (copy ok n place)).store ≡ copied t.store n place)
      go None q e = (none_failed ok q, cc, refl)
      go (Some cause) q e = let z : ⊥ = cc in absurd z

-- two runs that the call finds are equal, and their block exists
module _ (s : Store) (types : List ℕ) (ig : Ignore) (b n : ℕ) (r : Run) (h : repeated_run true s types ig b n ≡ run_found r) where
  found : In s block b × (same_runs (renamed types s) ig b n r.left r.right ≡ true)
  unfolding repeated_run repeated_by repeated_of run_tests RepeatedFound Same
  found = go (first_failed (run_tests true s types b n)) refl h
    where
      first : (o : Option Run) → repeated_of o ≡ run_found r → o ≡ Some r
      first None e = let z : ⊥ = cc in absurd z
      first (Some q) e = let k : q ≡ r = cc in ap Some k

      go : (o : Option Cause) → first_failed (run_tests true s types b n) ≡ o → repeated_by o (repeated (renamed types s) ig b n) ≡ run_found r
          → In s block b × (same_runs (renamed types s) ig b n r.left r.right ≡ true)
      go None q e = ((first_failed_none (run_tests true s types b n) q).1.1.0, (repeated_found (renamed types s) ig b n r (first _ e)).1)
      go (Some cause) q e = let z : ⊥ = cc in absurd z

module _ (Data World Mind : Type 0) where
  pub same_work_of_code : SameWorkOfCode Data World Mind
  unfolding SameWorkOfCode AfterCalls SameWork
  same_work_of_code entry e calls buffer did types th ig f a b ia ib p q words l says =
      let sd = (after_calls entry e calls buffer did).1 in
      let eq = mapped.said buffer sd types th ig f a b ia ib q words l says in
      subst (λ (m : Mapping). WorkAlike Data World Mind (renamed types (store_in buffer)) ig f a b m)
      (sym (mapped.left buffer sd types th ig f a b ia ib q words l eq))
      (same_work Data World Mind (store_in buffer) (obeyed.ruled buffer sd types th ig f) types ig f a b ia ib p eq)

  pub twin_work_of_code : TwinWorkOfCode Data World Mind
  unfolding TwinWorkOfCode AfterCalls TwinWork twins.grouped_of exists op_exists renamed
  twin_work_of_code entry e calls buffer did types ig before after count h n m l w ne =
      let sd = (after_calls entry e calls buffer did).1 in
      let s = store_in buffer in
      let g : grouping true s types ig before ≡ record { answer = grouped count; words = after } =
      subst (λ (t : Bool). grouping t s types ig before ≡ record { answer = grouped count; words = after }) sd h.told in
      let t = told s types ig before after count g in
      let here : n < length s.ops = subst (λ (k : ℕ). n < k) t.0 l in
      twin_work Data World Mind s (lent_facts buffer sd).tables.ruled types ig n m (lt-ltb n (length s.ops) here)
      (twin_is (renamed types s) ig before n here m (subst (λ (ws : List ℕ). get_or ws n no_twin ≡ m) t.1 w) ne)

  pub copy_work_of_code : CopyWorkOfCode Data World Mind
  unfolding CopyWorkOfCode AfterCalls CopyWork marked_of journaled_of
  copy_work_of_code entry e calls buffer did exit before after n place c h types ig =
      let sd = (after_calls entry e calls buffer did).1 in
      let s = store_in buffer in
      let t = marked_in buffer in
      let ok = allowed s (mapping_of before) in
      let answered : made c ≡ marked_answer t (copy ok n place) =
      subst (λ (b : Bool). made c ≡ cond b (marked_answer t (copy ok n place)) (refused NotSound)) sd h.store.answered in
      let k = copy_made t ok n place c answered in
      let reads : copied s n place ≡ store_in exit = sym (ap (λ (x : MarkedStore). x.store) (h.store.reads sd) ∙ k.2) in
      let mapping : copy_mapping s n ≡ mapping_of after = sym (h.mapping.accepted c refl) in
      let number : length s.ops ≡ c = sym k.1 in
      let work = copy_work Data World Mind s (lent_facts buffer sd).tables.ruled n place k.0 types ig in
      subst (λ (m : Mapping). WorkAlike Data World Mind (renamed types (store_in exit)) ig op n c m) mapping
      (subst (λ (x : ℕ). WorkAlike Data World Mind (renamed types (store_in exit)) ig op n x (copy_mapping s n)) number
      (subst (λ (x : Store). WorkAlike Data World Mind (renamed types x) ig op n (length s.ops) (copy_mapping s n)) reads work))

  pub run_work_of_code : RunWorkOfCode Data World Mind
  unfolding RunWorkOfCode AfterCalls RunWork RenamedSound RenamedIn runs.found_of
  run_work_of_code entry e calls buffer did types ig b n two h out back =
      let sd = (after_calls entry e calls buffer did).1 in
      let s = store_in buffer in
      let r : Run = record { left = two.left; right = two.right } in
      let g : repeated_run true s types ig b n ≡ run_found r =
      subst (λ (t : Bool). repeated_run t s types ig b n ≡ run_found r) sd h.told in
      let f = found s types ig b n r g in
      run_work Data World Mind (renamed types s) (renamed_sound types s (lent_facts buffer sd).tables.ruled) ig b n two.left two.right
      ((renamed_in types s block b).1 f.0) out back f.1
