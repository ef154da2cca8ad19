-- Going back to a mark. While it stands, the marks are the older ones that were not set again, each with the replacements since it was set more,
-- the mark itself, and younger ones; going back undoes just those replacements. A call that goes back behind it leaves it unset for good.
-- Assumes nothing.
use Rattle.rules.specs.declared.types.Cause.TheVariants.{BadMapping, JournalFull}
use Prim.Native.Nat.{ℕ, ◌+◌, ◌-◌, ◌≤◌}
use native.Mathlib.Omega.{arith}
use mathlib.Core.Bool.{Bool, true, false, cond, not}
use mathlib.Core.List.Memᴰ
use mathlib.Core.List.{List, [], ◌∷◌, ◌++◌, append_assoc}
use mathlib.Core.Logic.{◌⊎◌, inl, inr}
use Rattle.std.specs.Prelude.{Option}
use mathlib.Core.Path.{◌≡◌, refl, sym, ap, ap₂, subst, ◌∙◌}
use borrow.Author.Tests.{leb-true, le-leb, not-true, eqb-true, eq-eqb}
use lib.Dec.{eqb, leb}
use Rattle.std.specs.List.{list_all, list_any, filter}
use Rattle.rules.specs.Store.{Store}
use Rattle.rules.specs.Building.{Call}
use Rattle.rules.specs.Copying.{copy_tests}
use Rattle.rules.specs.Marks.{Mark, MarkedStore, MarkedCall, build, set_mark, go_back, copy, is_mark, has_number, is_set, replaces, max_remembered, marked_tests, with_since, recounted, replaced_once, without, up_to, mark_or, new_mark, gone_back, marked_applied, marked, after_marked, sets}
use Rattle.rules.specs.MarkLaws.{WentBack, WentBackWhole}
use Rattle.rules.specs.CopyLaws.{CopyUncounted, CopyNeverJournalFull, CopyTakenBack}
use Rattle.rules.proofs.Basics.Tests.{and_right, and_both, or_left, or_false_left, or_false_right, not_or, decided, clash, differ_back, all_at, all_of}
use Rattle.rules.proofs.Basics.Appended.{all_append, all_imp}
use Rattle.rules.proofs.Basics.Filtered.{all_filter, filter_append, filter_whole, filter_twice}
use Rattle.rules.proofs.Soundness.Accepted.{failed_cause}
use Rattle.rules.proofs.Marks.Accepted.{marked_cases, set_accepted, set_refused, back_accepted}
use Rattle.rules.proofs.Marks.Lists.{set_recounted, unset_without, unset_itself, unset_append, unset_up_to, set_past, cut, recounted_append, recounted_twice, recounted_same, without_recounted, all_recounted, up_to_past, up_to_within, mark_or_past, mark_or_number, mark_or_all, all_up_to}
use Rattle.rules.proofs.Marks.Ordered.{Ordered, ordered, is_mark_lem}

-- the marks of a list that a call does not set, and those that no call of a list does
abbrev left_by : MarkedCall → List Mark → List Mark
left_by c ms = filter (λ (m : Mark). not (sets m.number c)) ms

abbrev left_after : List MarkedCall → List Mark → List Mark
left_after calls ms = filter (λ (m : Mark). not (list_any (sets m.number) calls)) ms

no_test : (ms : List Mark) → list_all (λ (m : Mark). true) ms ≡ true
no_test ms = all_of _ ms (λ m i. refl)

-- a mark that is not set stays so where no call sets it
module _ (k : ℕ) where
  marked_unset : (t : MarkedStore) (c : MarkedCall) → sets k c ≡ false → is_set k t.marks ≡ false → is_set k (marked t c).marks ≡ false
  unfolding marked_applied replaced_once gone_back new_mark has_number sets
  marked_unset t c n u = marked_cases (λ (o : MarkedStore). is_set k o.marks ≡ false) t c u (λ p. applied_unset c n)
    where
      applied_unset : (d : MarkedCall) → sets k d ≡ false → is_set k (marked_applied t d).marks ≡ false
      applied_unset (build b) e = set_recounted _ k t.marks ∙ u
      applied_unset (set_mark j) e = unset_append k (without j t.marks) (new_mark j t.store) (unset_without k j t.marks u) (differ_back k j e)
      applied_unset (go_back j) e = set_recounted _ k (up_to _ t.marks) ∙ unset_up_to k _ t.marks u
      applied_unset (copy ok n place) e = u

  after_unset : (t : MarkedStore) (calls : List MarkedCall) → list_any (sets k) calls ≡ false → is_set k t.marks ≡ false → is_set k (after_marked t calls).marks ≡ false
  unfolding after_marked
  after_unset t [] n u = u
  after_unset t (c ∷ cs) n u = after_unset (marked t c) cs (or_false_right (sets k c) (list_any (sets k) cs) n) (marked_unset t c (or_false_left (sets k c) (list_any (sets k) cs) n) u)

-- ---- the mark k, set at the store s, and r replacements since

module _ (k : ℕ) (s : Store) where
  abbrev the_mark : ℕ → Mark
  the_mark r = with_since r (new_mark k s)

  -- the older marks as they were when it was set, those that were set again left out
  record Stands (older : List Mark) (r : ℕ) (marks : List Mark) : Type 0 where
    younger : List Mark
    parts : marks ≡ recounted (λ (n : ℕ). n + r) older ++ (the_mark r ∷ younger)
    older_unset : is_set k older ≡ false
    older_marks : list_all (λ (m : Mark). is_mark m.number) older ≡ true
    younger_unset : is_set k younger ≡ false
    younger_fewer : list_all (λ (m : Mark). leb m.since r) younger ≡ true

  -- as many replacements more, or fewer, behind each mark
  stands_recounted : (f : ℕ → ℕ) (older : List Mark) (r : ℕ) (marks : List Mark) → ((n : ℕ) → f (n + r) ≡ n + f r) → ((n : ℕ) → n ≤ r → f n ≤ f r)
      → Stands older r marks → Stands older (f r) (recounted f marks)
  unfolding recounted with_since
  stands_recounted f older r marks same rises h =
      record {
        younger = recounted f h.younger;
        parts =
            ap (recounted f) h.parts
            ∙ recounted_append f (recounted (λ (n : ℕ). n + r) older) (the_mark r ∷ h.younger)
            ∙ ap (λ (l : List Mark). l ++ (the_mark (f r) ∷ recounted f h.younger)) (recounted_twice (λ (n : ℕ). n + r) f (λ (n : ℕ). n + f r) same older);
        older_unset = h.older_unset;
        older_marks = h.older_marks;
        younger_unset = set_recounted f k h.younger ∙ h.younger_unset;
        younger_fewer = all_recounted _ _ f (λ m e. le-leb (f m.since) (f r) (rises m.since (leb-true m.since r e))) h.younger h.younger_fewer;
      }

  older_unset_lem : (j : ℕ) (older : List Mark) (r : ℕ) → is_set j older ≡ false → is_set j (recounted (λ (n : ℕ). n + r) older) ≡ false
  older_unset_lem j older r u = set_recounted _ j older ∙ u

  -- cut behind it or behind a younger one
  stands_up_to : (j : ℕ) (older : List Mark) (r : ℕ) (marks : List Mark) → is_set j older ≡ false → Stands older r marks → Stands older r (up_to j marks)
  unfolding up_to is_set
  stands_up_to j older r marks u h =
      record {
        younger = cond (has_number j (the_mark r)) [] (up_to j h.younger);
        parts = ap (up_to j) h.parts ∙ up_to_past j (recounted (λ (n : ℕ). n + r) older) (the_mark r ∷ h.younger) (older_unset_lem j older r u);
        older_unset = h.older_unset;
        older_marks = h.older_marks;
        younger_unset = cut (λ (l : List Mark). is_set k l ≡ false) (has_number j (the_mark r)) (up_to j h.younger) refl (unset_up_to k j h.younger h.younger_unset);
        younger_fewer = cut (λ (l : List Mark). list_all fewer l ≡ true) (has_number j (the_mark r)) (up_to j h.younger) refl (all_up_to fewer j h.younger h.younger_fewer);
      }
    where
      fewer : Mark → Bool
      fewer m = leb m.since r

  -- a mark that is gone back to, this one or a younger one, has no more replacements since
  since_most : (other : Mark) (j : ℕ) (older : List Mark) (r : ℕ) (marks : List Mark) → is_set j older ≡ false → is_set j marks ≡ true
      → Stands older r marks → (mark_or other j marks).since ≤ r
  unfolding with_since
  since_most other j older r marks u set h =
      let before = recounted (λ (n : ℕ). n + r) older in
      let rest = the_mark r ∷ h.younger in
      let fewer : Mark → Bool = λ m. leb m.since r in
      let behind : is_set j rest ≡ true = sym (set_past j before rest (older_unset_lem j older r u)) ∙ ap (is_set j) (sym h.parts) ∙ set in
      let all_fewer : list_all fewer rest ≡ true = and_both (leb r r) _ (le-leb r r (omega arith)) h.younger_fewer in
      subst (λ (l : List Mark). (mark_or other j l).since ≤ r) (sym h.parts)
      (subst (λ (m : Mark). m.since ≤ r) (sym (mark_or_past other j before rest (older_unset_lem j older r u)))
      (leb-true _ r (mark_or_all fewer other j rest behind all_fewer)))

  -- another mark set
  stands_set : (j : ℕ) (now : Store) (older : List Mark) (r : ℕ) (marks : List Mark) → eqb k j ≡ false
      → Stands older r marks → Stands (without j older) r (without j marks ++ (new_mark j now ∷ []))
  unfolding without has_number with_since new_mark
  stands_set j now older r marks other h =
      record {
        younger = without j h.younger ++ (new_mark j now ∷ []);
        parts =
            ap (λ (l : List Mark). l ++ (new_mark j now ∷ [])) (ap (without j) h.parts ∙ filter_append _ (recounted (λ (n : ℕ). n + r) older) (the_mark r ∷ h.younger) ∙ ap₂ ◌++◌ (without_recounted (λ (n : ℕ). n + r) j older) stays)
            ∙ append_assoc (recounted (λ (n : ℕ). n + r) (without j older)) (the_mark r ∷ without j h.younger) (new_mark j now ∷ []);
        older_unset = unset_without k j older h.older_unset;
        older_marks = all_filter _ _ older h.older_marks;
        younger_unset = unset_append k (without j h.younger) (new_mark j now) (unset_without k j h.younger h.younger_unset) (differ_back k j other);
        younger_fewer = all_append _ (without j h.younger) (new_mark j now ∷ []) (all_filter _ _ h.younger h.younger_fewer) (and_both (leb 0 r) true (le-leb 0 r (omega arith)) refl);
      }
    where
      stays : without j (the_mark r ∷ h.younger) ≡ the_mark r ∷ without j h.younger
      stays = rw other

  -- ---- a call: it stands after it, or is not set

  abbrev Standing : List Mark → List Mark → Type 0
  Standing older marks = (r : ℕ) × Stands older r marks

  abbrev StandsAfter : List Mark → MarkedCall → MarkedStore → Type 0
  StandsAfter older c t = Standing (left_by c older) t.marks ⊎ (is_set k t.marks ≡ false)

  -- after a call that sets none of the older marks
  stays : (c : MarkedCall) (older : List Mark) (t : MarkedStore) → list_all (λ (m : Mark). not (sets m.number c)) older ≡ true
      → Standing older t.marks → StandsAfter older c t
  stays c older t h st = inl (subst (λ (l : List Mark). Standing l t.marks) (sym (filter_whole _ older h)) st)

  built_stands : (b : Call) (older : List Mark) (r : ℕ) (t : MarkedStore) → Stands older r t.marks → StandsAfter older (build b) (marked t (build b))
  unfolding marked_applied replaced_once sets
  built_stands b older r t h =
      marked_cases (StandsAfter older (build b)) t (build b) (stays (build b) older t (no_test older) (r, h))
      (λ p. stays (build b) older (marked_applied t (build b)) (no_test older) (counted (replaces t.store b)))
    where
      counted : (c : Bool) → Standing older (replaced_once c t.marks)
      counted true = (r + 1, stands_recounted (λ (n : ℕ). n + 1) older r t.marks (λ n. omega arith) (λ n l. omega arith) h)
      counted false = (r, stands_recounted (λ (n : ℕ). n) older r t.marks (λ n. refl) (λ n l. l) h)

  -- a copy leaves the marks as they are
  copied_stands : (ok : Bool) (n : ℕ) (place : Option ℕ) (older : List Mark) (r : ℕ) (t : MarkedStore) → Stands older r t.marks → StandsAfter older (copy ok n place) (marked t (copy ok n place))
  unfolding marked_applied sets
  copied_stands ok n place older r t h =
      let same = stays (copy ok n place) older t (no_test older) (r, h) in
      marked_cases (StandsAfter older (copy ok n place)) t (copy ok n place) same (λ p. same)

  set_stands : (j : ℕ) (older : List Mark) (r : ℕ) (t : MarkedStore) → eqb k j ≡ false → Stands older r t.marks → StandsAfter older (set_mark j) (marked t (set_mark j))
  unfolding marked_applied sets without has_number
  set_stands j older r t other h = go (decided (is_mark j))
    where
      -- a number that is none of a mark's
      unnamed : (m : Mark) → is_mark j ≡ false → is_mark m.number ≡ true → (b : Bool) → eqb m.number j ≡ b → not b ≡ true
      unnamed m f e true q = clash (subst (λ (n : ℕ). is_mark n ≡ true) (eqb-true m.number j q) e) f
      unnamed m f e false q = refl

      go : (is_mark j ≡ true) ⊎ (is_mark j ≡ false) → StandsAfter older (set_mark j) (marked t (set_mark j))
      go (inl e) = rw (set_accepted t j e) (inl (r, stands_set j t.store older r t.marks other h))
      go (inr e) = rw (set_refused t j e) (stays (set_mark j) older t (all_imp _ _ older (λ m i. unnamed m e i (eqb m.number j) refl) h.older_marks) (r, h))

  back_stands : (j : ℕ) (older : List Mark) (r : ℕ) (t : MarkedStore) → Stands older r t.marks → StandsAfter older (go_back j) (marked t (go_back j))
  unfolding marked_tests marked_applied gone_back sets new_mark
  back_stands j older r t h =
      marked_cases (StandsAfter older (go_back j)) t (go_back j) (stays (go_back j) older t (no_test older) (r, h))
      (λ p. go (decided (is_set j older)) (and_right (is_mark j) (is_set j t.marks) p.0))
    where
      mark : Mark
      mark = mark_or (new_mark j t.store) j t.marks

      its_number : mark.number ≡ j
      its_number = mark_or_number (new_mark j t.store) j refl t.marks

      -- behind it: it is cut off
      behind : is_set j older ≡ true → is_set k (up_to j t.marks) ≡ false
      behind e =
          let before = recounted (λ (n : ℕ). n + r) older in
          ap (λ (l : List Mark). is_set k (up_to j l)) h.parts
          ∙ ap (is_set k) (up_to_within j before (the_mark r ∷ h.younger) (set_recounted _ j older ∙ e))
          ∙ unset_up_to k j before (older_unset_lem k older r h.older_unset)

      go : (is_set j older ≡ true) ⊎ (is_set j older ≡ false) → is_set j t.marks ≡ true → StandsAfter older (go_back j) (marked_applied t (go_back j))
      go (inl e) set = inr (set_recounted _ k (up_to mark.number t.marks) ∙ ap (λ (n : ℕ). is_set k (up_to n t.marks)) its_number ∙ behind e)
      go (inr e) set =
          let most : mark.since ≤ r = since_most (new_mark j t.store) j older r t.marks e set h in
          let cut_off : Stands older r (up_to mark.number t.marks) = subst (λ (n : ℕ). Stands older r (up_to n t.marks)) (sym its_number) (stands_up_to j older r t.marks e h) in
          stays (go_back j) older (marked_applied t (go_back j)) (no_test older)
          (r - mark.since, stands_recounted (λ (n : ℕ). n - mark.since) older r (up_to mark.number t.marks) (λ n. omega arith) (λ n l. omega arith) cut_off)

  call_stands : (c : MarkedCall) (older : List Mark) (r : ℕ) (t : MarkedStore) → sets k c ≡ false → Stands older r t.marks → StandsAfter older c (marked t c)
  unfolding sets
  call_stands (build b) older r t e h = built_stands b older r t h
  call_stands (set_mark j) older r t e h = set_stands j older r t e h
  call_stands (go_back j) older r t e h = back_stands j older r t h
  call_stands (copy ok n place) older r t e h = copied_stands ok n place older r t h

  -- ---- a list of calls after which it is set

  left_twice : (c : MarkedCall) (cs : List MarkedCall) (older : List Mark) → left_after cs (left_by c older) ≡ left_after (c ∷ cs) older
  left_twice c cs older = filter_twice _ _ _ (λ m. not_or (sets m.number c) (list_any (sets m.number) cs)) older

  after_stands : (calls : List MarkedCall) (older : List Mark) (r : ℕ) (t : MarkedStore) → list_any (sets k) calls ≡ false
      → is_set k (after_marked t calls).marks ≡ true → Stands older r t.marks → Standing (left_after calls older) (after_marked t calls).marks
  unfolding after_marked
  after_stands [] older r t n set h = (r, subst (λ (l : List Mark). Stands l r t.marks) (sym (filter_whole (λ (m : Mark). true) older (no_test older))) h)
  after_stands (c ∷ cs) older r t n set h =
      go (call_stands c older r t (or_false_left (sets k c) (list_any (sets k) cs) n) h) (λ o q. after_stands cs o q (marked t c) later set)
    where
      later : list_any (sets k) cs ≡ false
      later = or_false_right (sets k c) (list_any (sets k) cs) n

      go : StandsAfter older c (marked t c) → ((o : List Mark) (q : ℕ) → Stands o q (marked t c).marks → Standing (left_after cs o) (after_marked (marked t c) cs).marks)
          → Standing (left_after (c ∷ cs) older) (after_marked (marked t c) cs).marks
      go (inl st) rest = subst (λ (l : List Mark). Standing l (after_marked (marked t c) cs).marks) (left_twice c cs older) (rest (left_by c older) st.0 st.1)
      go (inr u) rest = clash set (after_unset k (marked t c) cs later u)

  -- ---- going back to it

  found : (other : Mark) (older : List Mark) (r : ℕ) (marks : List Mark) → Stands older r marks → mark_or other k marks ≡ the_mark r
  unfolding mark_or has_number with_since new_mark
  found other older r marks h =
      ap (mark_or other k) h.parts
      ∙ mark_or_past other k (recounted (λ (n : ℕ). n + r) older) (the_mark r ∷ h.younger) (older_unset_lem k older r h.older_unset)
      ∙ ap (λ (b : Bool). cond b (the_mark r) (mark_or other k h.younger)) (eq-eqb k k refl)

  undone : (older : List Mark) (r : ℕ) (marks : List Mark) → Stands older r marks → recounted (λ (n : ℕ). n - r) (up_to k marks) ≡ older ++ (new_mark k s ∷ [])
  unfolding up_to has_number with_since new_mark recounted
  undone older r marks h =
      let before = recounted (λ (n : ℕ). n + r) older in
      let fewer : ℕ → ℕ = λ n. n - r in
      let cut_off : up_to k marks ≡ before ++ (the_mark r ∷ []) =
      ap (up_to k) h.parts
      ∙ up_to_past k before (the_mark r ∷ h.younger) (older_unset_lem k older r h.older_unset)
      ∙ ap (λ (b : Bool). before ++ (the_mark r ∷ cond b [] (up_to k h.younger))) (eq-eqb k k refl) in
      ap (recounted fewer) cut_off
      ∙ recounted_append fewer before (the_mark r ∷ [])
      ∙ ap₂ (λ (l : List Mark) (n : ℕ). l ++ (the_mark n ∷ []))
      (recounted_twice (λ (n : ℕ). n + r) fewer (λ (n : ℕ). n) (λ n. omega arith) older ∙ recounted_same (λ (n : ℕ). n) (λ n. refl) older) (omega arith)

  back_to : (older : List Mark) (r : ℕ) (t : MarkedStore) → is_mark k ≡ true → is_set k t.marks ≡ true → Stands older r t.marks
      → marked t (go_back k) ≡ record { store = s; marks = older ++ (new_mark k s ∷ []) }
  unfolding marked_applied gone_back with_since new_mark
  back_to older r t e set h =
      back_accepted t k e set
      ∙ ap (λ (m : Mark). gone_back m t) (found (new_mark k t.store) older r t.marks h)
      ∙ (λ i. record { store = s; marks = undone older r t.marks h i })

-- ---- from the setting on

module _ (t : MarkedStore) (order : Ordered max_remembered t.marks) (k : ℕ) (named : is_mark k ≡ true) where
  abbrev older : List Mark
  older = without k t.marks

  just_set : Stands k t.store older 0 (older ++ (new_mark k t.store ∷ []))
  unfolding with_since new_mark without is_set
  just_set =
      record {
        younger = [];
        parts = ap (λ (l : List Mark). l ++ (new_mark k t.store ∷ [])) (sym (recounted_same (λ (n : ℕ). n + 0) (λ n. omega arith) older));
        older_unset = unset_itself k t.marks;
        older_marks = all_filter _ _ t.marks (all_of _ t.marks (λ m i. is_mark_lem max_remembered t.marks order i));
        younger_unset = refl;
        younger_fewer = refl;
      }

  abbrev GivesBack : List MarkedCall → MarkedStore → Type 0
  GivesBack calls u =
      is_set k (after_marked u calls).marks ≡ true
      → marked (after_marked u calls) (go_back k) ≡ record { store = t.store; marks = left_after calls u.marks }

  gives_back : (calls : List MarkedCall) → list_any (sets k) calls ≡ false → GivesBack calls (marked_applied t (set_mark k))
  unfolding marked_applied new_mark
  gives_back calls n set =
      let st = after_stands k t.store calls older 0 (marked_applied t (set_mark k)) n set just_set in
      back_to k t.store (left_after calls older) st.0 (after_marked (marked_applied t (set_mark k)) calls) named set st.1
      ∙ (λ i. record { store = t.store; marks = kept i })
    where
      kept : left_after calls older ++ (new_mark k t.store ∷ []) ≡ left_after calls (older ++ (new_mark k t.store ∷ []))
      kept = sym (filter_append _ older (new_mark k t.store ∷ []) ∙ ap (λ (b : Bool). left_after calls older ++ cond (not b) (new_mark k t.store ∷ []) []) n)

pub went_back : WentBack
unfolding WentBack
went_back t h k e calls n =
    let p = ordered max_remembered t.marks h in
    subst (GivesBack t p k e calls) (sym (set_accepted t k e)) (gives_back t p k e calls n)

pub went_back_whole : WentBackWhole
unfolding WentBackWhole WentBack marked_applied new_mark
went_back_whole t h k e calls untouched set =
    went_back t h k e calls unset set ∙ (λ i. record { store = same_store i; marks = filter_whole _ (marked t (set_mark k)).marks untouched i })
  where
    left : Mark → Bool
    left m = not (list_any (sets m.number) calls)

    unset : list_any (sets k) calls ≡ false
    unset = not-true _ (all_at left _ (subst (λ (u : MarkedStore). list_all left u.marks ≡ true) (set_accepted t k e) untouched) (Memᴰ.append_right (without k t.marks) (Memᴰ.head refl)))

    same_store : t.store ≡ (marked t (set_mark k)).store
    same_store = ap (λ (u : MarkedStore). u.store) (sym (set_accepted t k e))

-- ---- a copy among marks

pub copy_uncounted_lem : CopyUncounted
unfolding CopyUncounted marked_applied
copy_uncounted_lem t ok n place = marked_cases (λ (u : MarkedStore). u.marks ≡ t.marks) t (copy ok n place) refl (λ p. refl)

pub copy_never_journal_full : CopyNeverJournalFull
unfolding CopyNeverJournalFull marked_tests copy_tests
copy_never_journal_full t ok n place e = clash (failed_cause JournalFull ((ok, BadMapping) ∷ copy_tests t.store n place) e) refl

pub copy_taken_back : CopyTakenBack
unfolding CopyTakenBack WentBackWhole CopyUncounted marked_applied after_marked new_mark is_set sets has_number
copy_taken_back t h k e ok n place = went_back_whole t h k e (copy ok n place ∷ []) (no_test (marked t (set_mark k)).marks) set
  where
    just : is_set k (marked_applied t (set_mark k)).marks ≡ true
    just = set_past k (without k t.marks) (new_mark k t.store ∷ []) (unset_itself k t.marks) ∙ or_left (eqb k k) false (eq-eqb k k refl)

    set : is_set k (marked (marked t (set_mark k)) (copy ok n place)).marks ≡ true
    set = ap (is_set k) (copy_uncounted_lem (marked t (set_mark k)) ok n place) ∙ ap (λ (u : MarkedStore). is_set k u.marks) (set_accepted t k e) ∙ just
