-- A key call that is refused by a test answers its cause and leaves the lent bytes, and one that is not answers the key's length and has written
-- the key. Assumes nothing.
use Rattle.rules.specs.declared.types.Cause.{Cause}
use Rattle.rules.specs.declared.types.Cause.TheVariants.{BadTypes, NoRoom, NotSound, NotThere}
use Prim.Native.Nat.{ℕ, ◌≤◌}
use native.Mathlib.Omega.{arith}
use mathlib.Core.Bool.{Bool, true, false}
use mathlib.Core.List.{List, [], ◌∷◌}
use Rattle.std.specs.Prelude.{Option, None, Some}
use mathlib.Core.Path.{◌≡◌, refl, sym, ap, subst, ◌∙◌}
use borrow.Author.Tests.{leb-true}
use lib.Dec.{leb}
use lib.ListN.{length}
use Rattle.rules.specs.Store.{Store, sound}
use Rattle.rules.specs.Fragments.{exists, Step, steps}
use Rattle.rules.specs.declared.types.Sort.{Sort}
use Rattle.rules.specs.Building.{first_failed}
use Rattle.rules.specs.declared.types.Ignore.{Ignore}
use Rattle.rules.specs.Hash.{no_numbers}
use Rattle.rules.specs.Types.{types_hold, renamed}
use Rattle.rules.specs.Keys.{Keyed, key_length, refused_key, key, longest_key, key_tests, written, keyed_by, keyed}
use Rattle.rules.specs.KeyLaws.{KeyLongest}
use Rattle.rules.proofs.Extents.Lengths.{key_length_renamed}
use Rattle.rules.proofs.Keys.Longest.{key_longest}
use Rattle.rules.proofs.RenamedTypes.Renamed.{exists_renamed, steps_renamed, renamed_sound}
use Rattle.layout.specs.Reading.{store_in}
use Rattle.layout.specs.Soundness.{IsSound}
use Rattle.fragments.specs.Index.{list_in, IsIndex}
use Rattle.fragments.proofs.Indexed.{no_words_lem, no_list}
use Rattle.fragments.specs.Options.{Options, renamed_under}
use Rattle.fragments.specs.Words.{Stands}
use Rattle.fragments.proofs.Counting.{no_words, stands_start}
use Rattle.keys.specs.Put.{Put}
use Rattle.keys.specs.Written.{Place, steps_bytes, Puts}
use Rattle.keys.specs.Calls.{KeyAnswers}
use Rattle.keys.proofs.Putting.{put_as, put_fits}

-- ---- the whole

module _ (s : Store) (o : Options) (f : Sort) (n : ℕ) where
  -- the steps of a store are those of the store as it is read
  key_steps : steps_bytes s o (steps s f n) no_numbers ≡ key (renamed_under o s) o.ignore f n
  unfolding key
  key_steps = ap (λ (xs : List Step). steps_bytes s o xs no_numbers) (sym (steps_renamed o.types s f n))

  -- what they write with nothing numbered is the key
  pub wrote_whole : {a b : Place} {r : ℕ} → a.numbers ≡ no_words → Puts s o (steps s f n) a b r → Put (key (renamed_under o s) o.ignore f n) a.key b.key r
  wrote_whole e w = put_as key_steps (w.put no_numbers (subst (Stands s no_numbers) (sym e) (stands_start s)))

  module _ (sd : sound s ≡ true) (e : exists s f n ≡ true) where
    pub longest : length (key (renamed_under o s) o.ignore f n) ≤ longest_key
    unfolding KeyLongest
    longest = key_longest (renamed_under o s) (renamed_sound o.types s sd) o.ignore f n (exists_renamed o.types s f n ∙ e)

    -- so many bytes are put
    pub whole_length : {a b : List ℕ} {r : ℕ} → Put (key (renamed_under o s) o.ignore f n) a b r → (r ≡ length (key s o.ignore f n)) × (r ≤ longest_key)
    whole_length p =
        let same : length (key (renamed_under o s) o.ignore f n) ≡ length (key s o.ignore f n) = key_length_renamed o.types s o.ignore f n in
        (omega (arith, longest, p.many, same), omega (arith, longest, p.many))

-- ---- lists of types

-- no words are the index of no list
pub empty_index : (w : List ℕ) → length w ≡ 0 → IsIndex w
empty_index [] e = no_words_lem
empty_index (x ∷ xs) e = absurd (omega arith)

pub empty_list : (w : List ℕ) → length w ≡ 0 → list_in w ≡ w
empty_list [] e = no_list
empty_list (x ∷ xs) e = absurd (omega arith)

-- ---- answers

-- the same words and list, and found to be sound, as if known to be
pub answered_as : {ok : Bool} {b b' types types' : List ℕ} {ig : Ignore} {f : Sort} {n : ℕ} {before after : List ℕ} {q : Keyed}
    → ok ≡ true → b ≡ b' → types ≡ types' → KeyAnswers true b types ig f n before after q → KeyAnswers ok b' types' ig f n before after q
answered_as {ok} {b} {b'} {types} {types'} {ig} {f} {n} {before} {after} {q} k same e h =
    subst (λ (t : Bool). KeyAnswers t b' types' ig f n before after q) (sym k)
    (subst (λ (x : List ℕ). KeyAnswers true x types' ig f n before after q) same
    (subst (λ (ts : List ℕ). KeyAnswers true b ts ig f n before after q) e h))

module _ (b types : List ℕ) (ig : Ignore) (f : Sort) (n : ℕ) (before : List ℕ) where
  abbrev its : List ℕ
  its = key (renamed types (store_in b)) ig f n

  abbrev tested : Bool → Option Cause
  tested ok = first_failed (key_tests ok (store_in b) types ig f n (length before))

  refused : (ok : Bool) (cause : Cause) → tested ok ≡ Some cause → KeyAnswers ok b types ig f n before before (refused_key cause)
  unfolding keyed keyed_by
  refused ok cause e =
      record {
        told = ap (λ (o : Option Cause). (keyed_by o its before).answer) e;
        bytes = ap (λ (o : Option Cause). (keyed_by o its before).bytes) e;
      }

  pub unsound : (ok : Bool) → ok ≡ false → KeyAnswers ok b types ig f n before before (refused_key NotSound)
  unfolding key_tests first_failed
  unsound ok h = refused ok NotSound (rw h refl)

  module _ (h : IsSound b) where
    pub unlisted : types_hold types ≡ false → KeyAnswers true b types ig f n before before (refused_key BadTypes)
    unfolding key_tests first_failed
    unlisted t = refused true BadTypes (rw t refl)

    module _ (t : types_hold types ≡ true) where
      pub missing : exists (store_in b) f n ≡ false → KeyAnswers true b types ig f n before before (refused_key NotThere)
      unfolding key_tests first_failed
      missing e = refused true NotThere (rw (t, e) refl)

      module _ (e : exists (store_in b) f n ≡ true) where
        pub too_short_lem : leb (length its) (length before) ≡ false → KeyAnswers true b types ig f n before before (refused_key NoRoom)
        unfolding key_tests first_failed
        too_short_lem l = refused true NoRoom (rw (t, e, l) refl)

        module _ (l : leb (length its) (length before) ≡ true) where
          none_failed : tested true ≡ None
          unfolding key_tests first_failed
          none_failed = rw (t, e, l) refl

          pub given : {after : List ℕ} {r : ℕ} → length its ≤ longest_key → Put its before after r → KeyAnswers true b types ig f n before after (key_length r)
          unfolding keyed keyed_by written
          given {after} {r} small p =
              let end : r ≡ length its = omega (arith, p.many, small) in
              record {
                told = ap (λ (o : Option Cause). (keyed_by o its before).answer) none_failed ∙ ap key_length (sym end);
                bytes =
                    ap (λ (o : Option Cause). (keyed_by o its before).bytes) none_failed
                    ∙ sym (put_fits its p (leb-true (length its) (length before) l));
              }
