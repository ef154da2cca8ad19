-- A test of the present store and of every snapshot: what building calls and copies keep, every call on marks keeps too, since a new snapshot is the
-- present store and going back gives an old one. So soundness is kept, and fields stay below 2^32. Assumes nothing.
use Prim.Native.Nat.{ℕ}
use mathlib.Core.Bool.{Bool, true, false, cond}
use mathlib.Core.List.{List, [], ◌∷◌, map, Memᴰ}
use mathlib.Core.Path.{◌≡◌, refl, sym, ap, subst, ◌∙◌}
use borrow.Author.Tests.{eqb-true, eq-eqb}
use lib.Dec.{eqb}
use Rattle.std.specs.List.{list_all}
use Rattle.rules.specs.Store.{Store, empty_store, sound}
use Rattle.rules.specs.Building.{built}
use Rattle.rules.specs.Keys.{fields_fit}
use Rattle.rules.specs.Copying.{copied, copy_tests}
use Rattle.rules.specs.CopyLaws.{Copies, CopySound, CopyFits}
use Rattle.rules.specs.Marks.{Mark, MarkedStore, unmarked, MarkedCall, build, set_mark, go_back, copy, is_mark, has_number, is_set, max_remembered, marked_tests, with_since, replaced_once, without, up_to, mark_or, new_mark, gone_back, marked_applied, marked, after_marked, marks_hold, snapshots_sound, sound_marked, marked_call_fits}
use Rattle.rules.specs.KeyLaws.{FieldsFitKept}
use Rattle.rules.specs.MarkLaws.{MarkedSound, AfterMarkedSound, SoundByGoingBack}
use Rattle.rules.proofs.Basics.Tests.{and_left, and_right, and_both, passed, every_of, all_of, clash}
use Rattle.rules.proofs.Basics.Appended.{all_append}
use Rattle.rules.proofs.Basics.Filtered.{any_at, all_filter}
use Rattle.rules.proofs.Soundness.Accepted.{AllPassed, all_passed}
use Rattle.rules.proofs.Soundness.Kept.{built_sound, empty_sound}
use Rattle.rules.proofs.Keys.Kept.{fields_fit_kept, copy_fits, empty_fits}
use Rattle.rules.proofs.Copying.Kept.{copy_sound}
use Rattle.rules.proofs.Marks.Accepted.{marked_cases, back_accepted, build_passed}
use Rattle.rules.proofs.Marks.Lists.{all_recounted, mark_or_all, all_up_to}
use Rattle.rules.proofs.Marks.Ordered.{Ordered, ordered, is_mark_lem, marks_hold_lem, marked_ordered}

module _ (P : Store → Bool) where
  -- the test passes at each snapshot
  abbrev pub of_snapshot : Mark → Bool
  of_snapshot m = P m.snapshot

  pub record Held (t : MarkedStore) : Type 0 where
    pub now : P t.store ≡ true
    pub before : list_all of_snapshot t.marks ≡ true

  same_snapshot : (n : ℕ) (m : Mark) → of_snapshot m ≡ true → of_snapshot (with_since n m) ≡ true
  unfolding with_since
  same_snapshot n m h = h

  -- what a building call or a copy has to keep
  abbrev pub Builds : Store → MarkedCall → Type 0
  Builds s (build c) = P (built s c) ≡ true
  Builds s (set_mark k) = Unit {0}
  Builds s (go_back k) = Unit {0}
  Builds s (copy ok n place) = Copies s n place → P (copied s n place) ≡ true

  pub marked_held : (t : MarkedStore) (c : MarkedCall) → Builds t.store c → Held t → Held (marked t c)
  unfolding marked_tests marked_applied replaced_once without new_mark gone_back
  marked_held t c b h = marked_cases Held t c h (applied_held c b)
    where
      applied_held : (d : MarkedCall) → Builds t.store d → AllPassed (marked_tests t d) → Held (marked_applied t d)
      applied_held (build d) e q =
          record { now = subst (λ (s : Store). P s ≡ true) (build_passed t d q).0 e; before = all_recounted of_snapshot of_snapshot _ (λ m e. same_snapshot _ m e) t.marks h.before }
      applied_held (set_mark k) e q =
          record {
            now = h.now;
            before = all_append of_snapshot (without k t.marks) (new_mark k t.store ∷ []) (all_filter of_snapshot _ t.marks h.before) (and_both (P t.store) true h.now refl);
          }
      applied_held (go_back k) e q =
          record {
            now = mark_or_all of_snapshot (new_mark k t.store) k t.marks (and_right (is_mark k) (is_set k t.marks) q.0) h.before;
            before = all_recounted of_snapshot of_snapshot _ (λ m e. same_snapshot _ m e) (up_to _ t.marks) (all_up_to of_snapshot _ t.marks h.before);
          }
      applied_held (copy ok n place) e q = record { now = e (all_passed (copy_tests t.store n place) q.1); before = h.before }

  -- over a list of calls of which each keeps it
  pub after_held : (ok : MarkedCall → Bool) → ((s : Store) (c : MarkedCall) → ok c ≡ true → P s ≡ true → Builds s c)
      → (t : MarkedStore) (cs : List MarkedCall) → list_all ok cs ≡ true → Held t → Held (after_marked t cs)
  unfolding after_marked
  after_held ok builds t [] a h = h
  after_held ok builds t (c ∷ cs) a h =
      after_held ok builds (marked t c) cs (and_right (ok c) (list_all ok cs) a) (marked_held t c (builds t.store c (and_left (ok c) (list_all ok cs) a) h.now) h)

-- ---- soundness

sound_builds : (s : Store) (c : MarkedCall) → sound s ≡ true → Builds sound s c
unfolding CopySound
sound_builds s (build c) h = built_sound s c h
sound_builds s (set_mark k) h = tt
sound_builds s (go_back k) h = tt
sound_builds s (copy ok n place) h = copy_sound s h n place

pub marked_sound : MarkedSound
unfolding MarkedSound sound_marked snapshots_sound
marked_sound t c h =
    let p = passed _ h in
    let q = marked_held sound t c (sound_builds t.store c p.0) (record { now = p.0; before = p.1.0 }) in
    every_of _ (q.now, (q.before, (marks_hold_lem max_remembered (marked t c).marks (marked_ordered t c (ordered max_remembered t.marks p.1.1.0)), tt)))

after_sound : (t : MarkedStore) (cs : List MarkedCall) → sound_marked t ≡ true → sound_marked (after_marked t cs) ≡ true
unfolding after_marked MarkedSound
after_sound t [] h = h
after_sound t (c ∷ cs) h = after_sound (marked t c) cs (marked_sound t c h)

pub after_marked_sound : AfterMarkedSound
unfolding AfterMarkedSound sound_marked snapshots_sound marks_hold unmarked
after_marked_sound calls = after_sound (unmarked empty_store) calls (every_of _ (empty_sound, (refl, (refl, tt))))

pub now_sound : (t : MarkedStore) → sound_marked t ≡ true → sound t.store ≡ true
unfolding sound_marked
now_sound t h = (passed _ h).0

-- ---- by going back

-- the mark of a number is found, since no other has it
mark_found : (other : Mark) {m : Mark} (most : ℕ) (ms : List Mark) → Ordered most ms → Memᴰ m ms → mark_or other m.number ms ≡ m
unfolding mark_or has_number is_set
mark_found other {m = m} most ms p (Memᴰ.head {x = y} {xs = ys} e) =
    let f : eqb y.number m.number ≡ true = eq-eqb y.number m.number (ap (λ (o : Mark). o.number) (sym e)) in
    rw f (sym e)
mark_found other {m = m} most ms p (Memᴰ.tail {x = y} {xs = ys} i) = go (eqb y.number m.number) refl (mark_found other y.since ys p.3 i)
  where
    go : (b : Bool) → eqb y.number m.number ≡ b → mark_or other m.number ys ≡ m → cond b y (mark_or other m.number ys) ≡ m
    go true e r = clash (any_at (has_number y.number) i (eq-eqb m.number y.number (sym (eqb-true y.number m.number e)))) p.1
    go false e r = r

-- going back to a mark gives its snapshot
gone_back_lem : (t : MarkedStore) → Ordered max_remembered t.marks → {m : Mark} → Memᴰ m t.marks → (marked t (go_back m.number)).store ≡ m.snapshot
unfolding marked_applied gone_back is_set has_number
gone_back_lem t p {m} i =
    let k = m.number in
    let set : is_set k t.marks ≡ true = any_at (has_number k) i (eq-eqb k k refl) in
    ap (λ (u : MarkedStore). u.store) (back_accepted t k (is_mark_lem max_remembered t.marks p i) set)
    ∙ ap (λ (o : Mark). o.snapshot) (mark_found (new_mark k t.store) max_remembered t.marks p i)

pub sound_by_going_back : SoundByGoingBack
unfolding SoundByGoingBack sound_marked snapshots_sound after_marked
sound_by_going_back t h = (
  λ e ks. now_sound (after_marked t (map go_back ks)) (after_sound t (map go_back ks) e),
  λ each. every_of _ (
    each [],
    (all_of _ t.marks (λ m i. subst (λ (s : Store). sound s ≡ true) (gone_back_lem t (ordered max_remembered t.marks h) i) (each (m.number ∷ []))), (h, tt)),
  ),
)

-- ---- fields below 2^32

fitting_builds : (s : Store) (c : MarkedCall) → marked_call_fits c ≡ true → fields_fit s ≡ true → Builds fields_fit s c
unfolding marked_call_fits FieldsFitKept CopyFits
fitting_builds s (build c) f h = fields_fit_kept s c h f
fitting_builds s (set_mark k) f h = tt
fitting_builds s (go_back k) f h = tt
fitting_builds s (copy ok n place) f h = λ c. copy_fits s n place h

pub after_marked_fits : (calls : List MarkedCall) → list_all marked_call_fits calls ≡ true → fields_fit (after_marked (unmarked empty_store) calls).store ≡ true
unfolding unmarked
after_marked_fits calls f = (after_held fields_fit marked_call_fits fitting_builds (unmarked empty_store) calls f (record { now = empty_fits; before = refl })).now
