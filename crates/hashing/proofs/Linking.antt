-- Chaining starts from the last on: what is chained from a start on stays chained as the start before it is. Assumes nothing.
use Rattle.std.proofs.Common.{◌≡◌, ℕ, zero, suc, ◌<◌, ◌≤◌, List, length, get_or, set, replicate, sym, refl, ap, ◌∙◌, subst, arith, get_or-set_other, get_or-set_same}
use native.Mathlib.Decide.{ℕ_discrete}
use Rattle.std.specs.Prelude as std
use Rattle.hashing.specs.Chains.{bucket_of, Without, Follows, Chained}

-- the starts from i on are chained
pub record Linked (sums : List ℕ) (first next : List (std.Option ℕ)) (i : ℕ) : Type 0 where
  pub begins : (b : ℕ) → b < 512 → Follows sums b i (get_or first b std.None)
  pub goes : (k : ℕ) → i ≤ k → k < length sums → Follows sums (bucket_of (get_or sums k 0)) (suc k) (get_or next k std.None)

pub linked_none : (sums : List ℕ) (first next : List (std.Option ℕ)) → ((b : ℕ) → get_or first b std.None ≡ std.None) → Linked sums first next (length sums)
unfolding Follows
linked_none sums first next none =
    record {
      begins = λ b l. subst (Follows sums b (length sums)) (sym (none b)) (λ i a m. absurd (let z : ⊥ = omega arith in z));
      goes = λ k a l. absurd (let z : ⊥ = omega arith in z);
    }

pub none_there : (n b : ℕ) → get_or {A = std.Option ℕ} (replicate n std.None) b std.None ≡ std.None
none_there zero b = refl
none_there (suc n) zero = refl
none_there (suc n) (suc b) = none_there n b

pub linked_all : (sums : List ℕ) (first next : List (std.Option ℕ)) (i : ℕ) → i ≡ 0 → Linked sums first next i → Chained sums (record { first = first; next = next })
linked_all sums first next i e h =
    record { begins = λ b l. subst (λ (k : ℕ). Follows sums b k (get_or first b std.None)) e (h.begins b l); goes = λ k l. h.goes k (omega arith) l }

-- one start more
module _ (sums : List ℕ) (first next : List (std.Option ℕ)) (i b : ℕ) (firsts : length first ≡ 512) (nexts : length next ≡ 512) (l : i < length sums)
    (small : i < 512) (few : b < 512) (own : b ≡ bucket_of (get_or sums i 0)) (h : Linked sums first next (suc i))
  where
    abbrev pub first_then : List (std.Option ℕ)
    first_then = set first b (std.Some i)

    abbrev pub next_then : List (std.Option ℕ)
    next_then = set next i (get_or first b std.None)

    -- the start is the first of its bucket
    itself : Follows sums b i (std.Some i)
    unfolding Follows
    itself = record { from = omega arith; bound = l; own = sym own; none = λ j p q e. let z : ⊥ = omega arith in z }

    -- and it is not of another one
    without : (c e : ℕ) → (c ≡ b → ⊥) → Without sums c (suc i) e → Without sums c i e
    without c e ne w j p q same = go (ℕ_discrete j i)
      where
        go : Dec (j ≡ i) → ⊥
        go (yes s) = ne (sym same ∙ ap (λ (x : ℕ). bucket_of (get_or sums x 0)) s ∙ sym own)
        go (no other) = w j (omega arith) q same

    passed_by : (c : ℕ) → (c ≡ b → ⊥) → (e : std.Option ℕ) → Follows sums c (suc i) e → Follows sums c i e
    unfolding Follows
    passed_by c ne (std.Some e) f = record { from = omega (arith, f.from); bound = f.bound; own = f.own; none = without c e ne f.none }
    passed_by c ne std.None w = without c (length sums) ne w

    first_begins : (c : ℕ) → c < 512 → Dec (c ≡ b) → Follows sums c i (get_or first_then c std.None)
    first_begins c m (yes e) =
        subst (λ (x : ℕ). Follows sums x i (get_or first_then x std.None)) (sym e)
        (subst (Follows sums b i) (sym (get_or-set_same first b (std.Some i) std.None (omega arith))) itself)
    first_begins c m (no ne) =
        passed_by c ne _ (subst (Follows sums c (suc i)) (sym (get_or-set_other first b c (std.Some i) std.None ne)) (h.begins c m))

    next_goes : (k : ℕ) → i ≤ k → k < length sums → Dec (k ≡ i) → Follows sums (bucket_of (get_or sums k 0)) (suc k) (get_or next_then k std.None)
    next_goes k p m (yes e) =
        subst (λ (x : ℕ). Follows sums (bucket_of (get_or sums x 0)) (suc x) (get_or next_then x std.None)) (sym e)
        (subst (λ (x : ℕ). Follows sums x (suc i) (get_or next_then i std.None)) own
        (subst (Follows sums b (suc i)) (sym (get_or-set_same next i (get_or first b std.None) std.None (omega arith))) (h.begins b few)))
    next_goes k p m (no ne) =
        subst (Follows sums (bucket_of (get_or sums k 0)) (suc k)) (sym (get_or-set_other next i k (get_or first b std.None) std.None ne)) (h.goes k (omega arith) m)

    pub linked_next : Linked sums first_then next_then i
    linked_next =
        record {
          begins = λ c m. first_begins c m (ℕ_discrete c b);
          goes = λ k p m. next_goes k p m (ℕ_discrete k i);
        }
