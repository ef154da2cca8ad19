-- A comparison leaves an allowed mapping allowed: what it enters are numbers of things that exist, each into a table whose length stays.
-- Assumes nothing.
use Prim.Native.Nat.{ℕ, zero, suc, ◌+◌, ◌<◌}
use native.Mathlib.Omega.{arith}
use mathlib.Core.Bool.{Bool, true, ◌&&◌, ◌||◌}
use mathlib.Core.List.{List, [], ◌∷◌, Memᴰ}
use Rattle.rules.specs.declared.types.Cause.{Cause}
use Rattle.std.specs.Prelude.{Option, None, Some}
use mathlib.Core.Path.{◌≡◌, refl, sym, ◌∙◌}
use borrow.Author.Tests.{lt-ltb, eqb-true, eq-eqb}
use lib.Dec.{eqb, ltb}
use lib.ListN.{length, set, length-set}
use Rattle.rules.specs.Store.{Store, values_of}
use Rattle.rules.specs.declared.types.Owner.{Owner}
use Rattle.rules.specs.Fragments.{exists}
use Rattle.rules.specs.declared.types.Sort.{Sort}
use Rattle.rules.specs.Building.{first_failed}
use Rattle.rules.specs.declared.types.Ignore.{Ignore}
use Rattle.rules.specs.Mapping.{Mapping, no_image, enter_all, entries_allowed, table_allowed, allowed}
use Rattle.rules.specs.Comparison.{State, unequal, one_longer, Walk, on, ended, standing, enter_ops, enter_blocks, start, compare}
use Rattle.rules.specs.Types.{renamed}
use Rattle.rules.specs.Answers.{compare_tests, comparison_of, comparison_by, comparison}
use Rattle.rules.proofs.RenamedTypes.Renamed.{exists_renamed, allowed_renamed}
use Rattle.rules.proofs.Basics.Tests.{and_left, and_right, and_both, or_right, passed, every_of}
use Rattle.rules.proofs.Soundness.Accepted.{first_failed_none}
use Rattle.rules.proofs.Soundness.Children.{values_in_lem}
use Rattle.rules.proofs.Walking.Keeping.{keeps_fragments}

-- the entry of one number
abbrev one : ℕ → ℕ → ℕ → Bool
one count n e = eqb e no_image || (ltb n count && ltb e count)

-- an entry made, in a table that begins with number n
entry_allowed : (count n : ℕ) (es : List ℕ) (l r : ℕ) → n + l < count → r < count
    → entries_allowed count n es ≡ true → entries_allowed count n (set es l r) ≡ true
unfolding entries_allowed
entry_allowed count n [] l r hl hr h = h
entry_allowed count n (e ∷ es) zero r hl hr h =
    and_both (one count n r) _
    (or_right (eqb r no_image) _ (and_both _ _ (lt-ltb n count (omega arith)) (lt-ltb r count hr)))
    (and_right (one count n e) (entries_allowed count (suc n) es) h)
entry_allowed count n (e ∷ es) (suc l) r hl hr h =
    and_both (one count n e) _
    (and_left (one count n e) (entries_allowed count (suc n) es) h)
    (entry_allowed count (suc n) es l r (omega arith) hr (and_right (one count n e) (entries_allowed count (suc n) es) h))

module _ (size count : ℕ) where
  set_allowed : (es : List ℕ) (l r : ℕ) → l < count → r < count → table_allowed size count es ≡ true → table_allowed size count (set es l r) ≡ true
  unfolding table_allowed
  set_allowed es l r hl hr h =
      and_both _ _
      (eq-eqb _ size (length-set es l r ∙ eqb-true (length es) size (and_left _ (entries_allowed count 0 es) h)))
      (entry_allowed count 0 es l r (omega arith) hr (and_right (eqb (length es) size) _ h))

  all_allowed : (ls rs es : List ℕ) → ((v : ℕ) → Memᴰ v ls → v < count) → ((v : ℕ) → Memᴰ v rs → v < count)
      → table_allowed size count es ≡ true → table_allowed size count (enter_all ls rs es) ≡ true
  unfolding enter_all
  all_allowed [] rs es hl hr h = h
  all_allowed (l ∷ ls) [] es hl hr h = h
  all_allowed (l ∷ ls) (r ∷ rs) es hl hr h =
      all_allowed ls rs (set es l r) (λ v m. hl v (Memᴰ.tail m)) (λ v m. hr v (Memᴰ.tail m))
      (set_allowed es l r (hl l (Memᴰ.head refl)) (hr r (Memᴰ.head refl)) h)

module _ (s : Store) where
  -- the values of two owners
  values_allowed : (a b : Owner) (es : List ℕ) → table_allowed 2048 (length s.values) es ≡ true
      → table_allowed 2048 (length s.values) (enter_all (values_of s a) (values_of s b) es) ≡ true
  values_allowed a b es h = all_allowed _ _ (values_of s a) (values_of s b) es (λ v m. (values_in_lem s a m).0) (λ v m. (values_in_lem s b m).0) h

  ops_allowed : (l r : ℕ) → l < length s.ops → r < length s.ops → (st : State) → allowed s st.mapping ≡ true
      → allowed s (enter_ops s l r st).mapping ≡ true
  unfolding allowed enter_ops
  ops_allowed l r hl hr st h =
      let p = passed _ h in
      every_of _ (values_allowed _ _ st.mapping.values p.0, (p.1.0, (set_allowed _ _ st.mapping.ops l r hl hr p.1.1.0, tt)))

  blocks_allowed : (l r : ℕ) → l < length s.blocks → r < length s.blocks → (st : State) → allowed s st.mapping ≡ true
      → allowed s (enter_blocks s l r st).mapping ≡ true
  unfolding allowed enter_blocks
  blocks_allowed l r hl hr st h =
      let p = passed _ h in
      every_of _ (values_allowed _ _ st.mapping.values p.0, (set_allowed _ _ st.mapping.blocks l r hl hr p.1.0, (p.1.1.0, tt)))

  pub allowed_kept : (ig : Ignore) (f : Sort) (l r : ℕ) → exists s f l ≡ true → exists s f r ≡ true → (m : Mapping) → allowed s m ≡ true
      → allowed s (standing (compare s ig f l r m)).mapping ≡ true
  unfolding compare start
  allowed_kept ig f l r el er m h =
      keeps_fragments (λ st. allowed s st.mapping ≡ true) s ig ops_allowed blocks_allowed f l r el er (start m) h

  kept_by : (w : Walk) (m : Mapping) → allowed s m ≡ true → allowed s (standing w).mapping ≡ true → allowed s (comparison_of w m).mapping ≡ true
  unfolding comparison_of standing
  kept_by (on st) m h k = k
  kept_by (ended (unequal p) st) m h k = k
  kept_by (ended (one_longer p) st) m h k = k

-- answered or refused
pub comparison_allowed : (s : Store) (lent : Bool) (types : List ℕ) (ig : Ignore) (f : Sort) (l r : ℕ) (m : Mapping) → allowed s m ≡ true
    → allowed s (comparison lent s types m ig f l r).mapping ≡ true
unfolding comparison comparison_by compare_tests
comparison_allowed s lent types ig f l r m h = go (first_failed (compare_tests lent s types m f l r)) refl
  where
    go : (o : Option Cause) → first_failed (compare_tests lent s types m f l r) ≡ o → allowed s (comparison_by o (renamed types s) m ig f l r).mapping ≡ true
    go None e =
        let both = (first_failed_none (compare_tests lent s types m f l r) e).1.1.1.0 in
        let kept = allowed_kept (renamed types s) ig f l r (exists_renamed types s f l ∙ and_left _ (exists s f r) both) (exists_renamed types s f r ∙ and_right (exists s f l) _ both) m (allowed_renamed types s m ∙ h) in
        kept_by s (compare (renamed types s) ig f l r m) m h (sym (allowed_renamed types s _) ∙ kept)
    go (Some cause) e = h
