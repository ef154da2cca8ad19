-- To write steps one after the other is to write them all: each takes up the numbering where the one before left it, and the rest of the key
-- behind its bytes. A shell puts what its owner is, an operation's names are its operands and then its successors, and where a list begins its
-- count is put. Assumes nothing.
use Prim.Native.Nat.{ℕ, ◌+◌, ◌-◌, ◌^◌, ◌<◌, min}
use mathlib.Core.List.{List, [], ◌∷◌, ◌++◌, append-nil, append_assoc}
use mathlib.Core.Path.{◌≡◌, refl, sym, ap, subst, ◌∙◌}
use lib.ListN.{length, take, drop}
use Rattle.rules.specs.Store.{Store, op_at}
use Rattle.rules.specs.declared.types.Owner.{Owner}
use Rattle.rules.specs.Fragments.{Step, shell, names, counted, step_defines}
use Rattle.rules.specs.Hash.{count, Numbering, numbered, feeds, all_bytes}
use Rattle.rules.specs.Types.{renamed}
use Rattle.rules.proofs.RenamedTypes.Renamed.{numbered_renamed}
use Rattle.fragments.specs.Options.{Options, renamed_under}
use Rattle.fragments.specs.Words.{Stands}
use Rattle.fragments.specs.Numbered.{numbered_all, values_in, blocks_in, Numbers, DefinitionsFit}
use Rattle.fragments.proofs.Counting.{numbers_none, numbers_then, numbers_counted, room_first, room_rest}
use Rattle.fragments.proofs.Passing.{StepRelation}
use Rattle.keys.specs.Put.{Put, owner_bytes}
use Rattle.keys.proofs.Putting.{PutAt, puts_none, puts_then, puts_as, puts_first, puts_rest, put_all, put_as}
use Rattle.keys.specs.Written.{Place, place, names_bytes, steps_bytes, Puts}

-- the words of a walk's numbers, a lent key, and where in it the next bytes go
pub record Spot : Type 0 where
  pub numbers : List ℕ
  pub key : List ℕ
  pub at : ℕ

abbrev pub spot : List ℕ → List ℕ → ℕ → Spot
spot ns k i = record { numbers = ns; key = k; at = i }

-- between these steps are numbered, and their bytes are put from the one on, up to the other
pub record WroteOn (s : Store) (o : Options) (xs : List Step) (a b : Spot) : Type 0 where
  pub numbers : Numbers s xs a.numbers b.numbers
  pub put : (N : Numbering) → Stands s N a.numbers → PutAt (steps_bytes s o xs N) a.key a.at b.key b.at

module _ (s : Store) (o : Options) where
  bytes_append : (xs ys : List Step) (N : Numbering) → steps_bytes s o (xs ++ ys) N ≡ steps_bytes s o xs N ++ steps_bytes s o ys (numbered_all s xs N)
  unfolding numbered_all all_bytes
  bytes_append [] ys N = refl
  bytes_append (x ∷ xs) ys N =
      let own : List ℕ = feeds count (renamed_under o s) o.ignore x N in
      let next : Numbering = numbered (renamed_under o s) x N in
      ap (λ (l : List ℕ). own ++ l) (bytes_append xs ys next)
      ∙ sym (append_assoc own (steps_bytes s o xs next) (steps_bytes s o ys (numbered_all s xs next)))
      ∙ ap (λ (M : Numbering). (own ++ steps_bytes s o xs next) ++ steps_bytes s o ys (numbered_all s xs M)) (numbered_renamed o.types s x N)

  pub wrote_none : (a : Spot) → WroteOn s o [] a a
  unfolding all_bytes
  wrote_none a = record { numbers = numbers_none s a.numbers; put = λ N h. puts_none a.key a.at }

  pub wrote_then : (xs ys : List Step) {a b c : Spot} → WroteOn s o xs a b → WroteOn s o ys b c → WroteOn s o (xs ++ ys) a c
  wrote_then xs ys f g =
      record {
        numbers = numbers_then s xs ys f.numbers g.numbers;
        put =
            λ N h. puts_as (sym (bytes_append xs ys N))
            (puts_then (steps_bytes s o xs N) (steps_bytes s o ys (numbered_all s xs N)) (f.put N h) (g.put (numbered_all s xs N) (f.numbers.stands N h)));
      }

  -- what is written is a walk of its kind
  abbrev pub key_walk : StepRelation Spot
  key_walk =
      record {
        Does = λ xs a b. WroteOn s o xs a b;
        Room = λ xs a. DefinitionsFit s xs a.numbers;
        none = λ a. wrote_none a;
        both = λ xs ys f g. wrote_then xs ys f g;
        first = λ xs ys r. room_first s xs ys r;
        rest = λ xs ys r f. room_rest s xs ys r f.numbers;
      }

  -- the same steps
  pub wrote_as : {xs ys : List Step} {a b : Spot} → xs ≡ ys → WroteOn s o xs a b → WroteOn s o ys a b
  wrote_as {xs} {ys} {a} {b} e f = subst (λ (zs : List Step). WroteOn s o zs a b) e f

  -- the first that are written into the rest of a key
  pub wrote_first : {xs : List Step} {a b : Place} {r : ℕ} → Puts s o xs a b r → WroteOn s o xs (spot a.numbers a.key 0) (spot b.numbers b.key r)
  wrote_first f = record { numbers = f.numbers; put = λ N h. puts_first (f.put N h) }

  -- what is written into the rest from place i on
  pub wrote_rest : {xs : List Step} {ns ms b r : List ℕ} {i p m l : ℕ} → p ≡ min i (length b)
      → Puts s o xs (place ns (take (length b - p) (drop p b))) (place ms r) m
      → l ≡ min (i + m) (2 ^ 64 - 1)
      → WroteOn s o xs (spot ns b i) (spot ms (take p b ++ (r ++ drop (length b - p) (drop p b))) l)
  wrote_rest at f e = record { numbers = f.numbers; put = λ N h. puts_rest at (f.put N h) e }

  -- all that is written from the beginning on
  pub wrote_all : {xs : List Step} {ns ms a b : List ℕ} {r : ℕ} → length a < 2 ^ 64 → WroteOn s o xs (spot ns a 0) (spot ms b r)
      → Puts s o xs (place ns a) (place ms b) r
  wrote_all short f = record { numbers = f.numbers; put = λ N h. put_all short (f.put N h) }

  -- ---- one step

  pub wrote_shell : (w : Owner) {a b : Place} {r : ℕ} → Numbers s (shell w ∷ []) a.numbers b.numbers → Put (owner_bytes s o w) a.key b.key r
      → Puts s o (shell w ∷ []) a b r
  unfolding all_bytes feeds owner_bytes
  wrote_shell w f g = record { numbers = f; put = λ N h. put_as (sym (append-nil (owner_bytes s o w))) g }

  pub wrote_counted : (n : ℕ) {ns a b : List ℕ} {r : ℕ} → Put (count n) a b r → Puts s o (counted n ∷ []) (place ns a) (place ns b) r
  unfolding all_bytes feeds
  wrote_counted n {ns} g =
      record { numbers = numbers_counted s n [] (numbers_none s ns); put = λ N h. put_as (sym (append-nil (count n))) g }

  -- an operation's names: its operands, then its successors
  pub wrote_names : (n : ℕ) {ns a b : List ℕ} {r : ℕ}
      → ((N : Numbering) → Stands s N ns → Put (names_bytes N.values (op_at s n).operands ++ names_bytes N.blocks (op_at s n).successors) a b r)
      → Puts s o (names n ∷ []) (place ns a) (place ns b) r
  unfolding renamed op_at all_bytes feeds names_bytes numbered_all numbered values_in blocks_in step_defines
  wrote_names n {ns} f =
      record {
        numbers = record { long = refl; stands = λ N h. h; values = (numbers_none s ns).values; blocks = (numbers_none s ns).blocks };
        put = λ N h. put_as (sym (append-nil (names_bytes N.values (op_at s n).operands ++ names_bytes N.blocks (op_at s n).successors))) (f N h);
      }
