-- The filer's law. The same key tells the same canonical form, since a key can be read back, and a fragment's key is one of its form; so it
-- stands to equality as the form does. Assumes nothing.
use Prim.Native.Nat.{ℕ}
use native.Mathlib.Omega.{arith}
use mathlib.Core.Bool.{true}
use mathlib.Core.List.{List, [], append-nil}
use mathlib.Core.Path.{◌≡◌, refl, sym, ap, ◌∙◌}
use lib.IntN.{pos}
use lib.ListN.{length}
use Rattle.std.specs.List.{flat_map}
use Rattle.rules.specs.Store.{Store, sound}
use Rattle.rules.specs.Fragments.{Step, exists, defines_values, defines_blocks}
use Rattle.rules.specs.declared.types.Sort.{Sort}
use Rattle.rules.specs.declared.types.Ignore.{Ignore}
use Rattle.rules.specs.Hash.{no_numbers, count, all_bytes}
use Rattle.rules.specs.Keys.{key, Ordering, less, same, greater, compare_bytes, ordering_number, fields_fit}
use Rattle.rules.specs.Laws.{In}
use Rattle.rules.specs.Form.{events, canonical}
use Rattle.rules.specs.KeyLaws.{KeyEqual, EqualKey, FiledAsEqual, FilersLaw}
use Rattle.rules.proofs.Basics.Tests.{impossible}
use Rattle.rules.proofs.Form.Counted.{values_most, blocks_most}
use Rattle.rules.proofs.Form.Events.{bare_events}
use Rattle.rules.proofs.Form.Tokens.{event_values, event_blocks}
use Rattle.rules.proofs.Form.Canonical.{all_defined, events_rest, canonical→equal, equal→canonical}
use Rattle.rules.proofs.Laws.{one_way}
use Rattle.rules.proofs.Keys.Order.{key_order}
use Rattle.rules.proofs.Keys.Parts.{Room, events_bytes, events_bytes_lem}
use Rattle.rules.proofs.Keys.Reading.{tells_fragment}
use Rattle.rules.proofs.Keys.Writing.{canonical→key}

-- the events of a fragment number no more than there may be
room : (s : Store) → sound s ≡ true → (f : Sort) (n : ℕ) → exists s f n ≡ true → Room s (events s f n) no_numbers
unfolding no_numbers all_defined
room s sd f n h =
    let r = events_rest s f n in
    let v : length (flat_map (event_values s) (events s f n)) ≡ length (defines_values s f n) = ap length r.values in
    let b : length (flat_map (event_blocks s) (events s f n)) ≡ length (defines_blocks s f n) = ap length r.blocks in
    record { values = omega (arith, v, values_most s sd f n h); blocks = omega (arith, b, blocks_most s sd f n h) }

bytes_of : (s : Store) (ig : Ignore) (f : Sort) (n : ℕ) → events_bytes s ig (events s f n) no_numbers ≡ key s ig f n
unfolding key
bytes_of s ig f n = events_bytes_lem s ig (events s f n) no_numbers ∙ ap (λ (xs : List Step). all_bytes count s ig xs no_numbers) (bare_events s f n)

key→canonical : (s : Store) → sound s ≡ true → fields_fit s ≡ true → (ig : Ignore) (f : Sort) (a b : ℕ) → In s f a → In s f b
    → key s ig f a ≡ key s ig f b → canonical s ig f a ≡ canonical s ig f b
unfolding canonical
key→canonical s sd fit ig f a b ia ib e =
    (tells_fragment s sd fit ig f a b no_numbers no_numbers [] [] refl (room s sd f a ia) (room s sd f b ib)
    (append-nil _ ∙ bytes_of s ig f a ∙ e ∙ sym (bytes_of s ig f b) ∙ sym (append-nil _))).told

pub key_equal : KeyEqual
unfolding KeyEqual
key_equal s sd fit ig f a b ia ib e = canonical→equal s sd ig f a b ia ib (key→canonical s sd fit ig f a b ia ib e)

pub equal_key : EqualKey
unfolding EqualKey
equal_key s sd ig f a b ia ib apart e = canonical→key s ig f a b (equal→canonical s sd ig f a b ia ib apart e)

-- 0 is the number of `same` alone
zero_same : (o : Ordering) → ordering_number o ≡ pos 0 → o ≡ same
unfolding ordering_number
zero_same less e = impossible cc
zero_same same e = refl
zero_same greater e = impossible cc

pub filers_law : FilersLaw
unfolding FilersLaw FiledAsEqual KeyEqual EqualKey ordering_number
filers_law s sd fit ig f a b ia ib p = (
  λ e. key_equal s sd fit ig f a b ia ib (key_order.antisymmetric (key s ig f a) (key s ig f b) (zero_same (compare_bytes (key s ig f a) (key s ig f b)) e)),
  λ e. let k : key s ig f a ≡ key s ig f b = equal_key s sd ig f a b ia ib (one_way s f a b p) e in
      ap (λ (xs : List ℕ). ordering_number (compare_bytes (key s ig f a) xs)) (sym k) ∙ ap ordering_number (key_order.reflexive (key s ig f a)),
)
