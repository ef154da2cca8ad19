-- Numbers that are read one after the other into a list, and items behind their count. Assumes nothing.
use Rattle.std.proofs.Common.{◌≡◌, ℕ, zero, suc, ◌^◌, ◌+◌, ◌-◌, ◌<◌, ◌≤◌, List, [], ◌∷◌, ◌++◌, length, set, take, drop, refl, sym, ap, ◌∙◌, arith, add-one, append_assoc, append-nil}
use Rattle.std.specs.Prelude.{Option, None, Some, option_map}
use lib.ListN.{length-append, length-set, length-drop}
use lib.Seq.{length-take-le, take_all, take_at, take-suc-set}
use Rattle.rules.specs.Bytes.{number_below}
use Rattle.rules.specs.Lines.{and_then, giving, field, number, numbers, items}
use Rattle.lines.specs.Reading.{Answer, unkept, passing}

-- numbers that were read before
abbrev pub behind : List ℕ → Answer (List ℕ) → Answer (List ℕ)
behind xs None = None
behind xs (Some got) = Some (xs ++ got.0, got.1)

behind_twice : (xs ys : List ℕ) (q : Answer (List ℕ)) → behind xs (behind ys q) ≡ behind (xs ++ ys) q
behind_twice xs ys None = refl
behind_twice xs ys (Some got) = ap (λ (zs : List ℕ). Some (zs, got.1)) (sym (append_assoc xs ys got.0))

behind_none : (q : Answer (List ℕ)) → q ≡ behind [] q
behind_none None = refl
behind_none (Some got) = refl

numbers_none : (n : ℕ) (fs : List (List ℕ)) → number fs ≡ None → numbers (suc n) fs ≡ None
unfolding numbers
numbers_none n fs h = rw h refl

numbers_some : (n x : ℕ) (fs gs : List (List ℕ)) → number fs ≡ Some (x, gs) → numbers (suc n) fs ≡ behind (x ∷ []) (numbers n gs)
unfolding numbers
numbers_some n x fs gs h = rw h (rest (numbers n gs))
  where
    rest : (q : Answer (List ℕ)) → and_then q (λ xs. giving (x ∷ xs)) ≡ behind (x ∷ []) q
    rest None = refl
    rest (Some got) = refl

-- so many numbers are in the list, of `count` words, and those that are left follow
pub record Filling (all : List (List ℕ)) (count : ℕ) (list : List ℕ) (fs : List (List ℕ)) (i : ℕ) : Type 0 where
  pub kept : length list ≡ count
  pub same : numbers count all ≡ behind (take i list) (numbers (count - i) fs)

module _ (all : List (List ℕ)) (count : ℕ) (list : List ℕ) where
  module _ (fs : List (List ℕ)) (i : ℕ) (inv : Filling all count list fs i) where
    next : i < count → numbers count all ≡ behind (take i list) (numbers (suc (count - (i + 1))) fs)
    next l = inv.same ∙ ap (λ (n : ℕ). behind (take i list) (numbers n fs)) (let z : count - i ≡ suc (count - (i + 1)) = omega arith in z)

    pub filling_bad : i < count → number fs ≡ None → numbers count all ≡ None
    filling_bad l h = next l ∙ ap (behind (take i list)) (numbers_none (count - (i + 1)) fs h)

    pub filling_done : count ≤ i → numbers count all ≡ Some (list, fs)
    unfolding numbers
    filling_done l =
        inv.same
        ∙ ap (λ (n : ℕ). behind (take i list) (numbers n fs)) (let z : count - i ≡ 0 = omega arith in z)
        ∙ ap (λ (xs : List ℕ). Some (xs, fs)) (append-nil (take i list) ∙ take_all i list (omega (arith, inv.kept)))

    pub filling_turn : i < count → (x : ℕ) (gs : List (List ℕ)) → number fs ≡ Some (x, gs) → Filling all count (set list i x) gs (i + 1)
    filling_turn l x gs h =
        record {
          kept = length-set list i x ∙ inv.kept;
          same =
              next l
              ∙ ap (behind (take i list)) (numbers_some (count - (i + 1)) x fs gs h)
              ∙ behind_twice (take i list) (x ∷ []) (numbers (count - (i + 1)) gs)
              ∙ ap (λ (xs : List ℕ). behind xs (numbers (count - (i + 1)) gs)) (sym (ap (λ (n : ℕ). take n (set list i x)) (add-one i) ∙ take-suc-set list i x (omega (arith, inv.kept))));
        }

-- ---- items

-- each number takes a field
pub few_fields : (n : ℕ) (fs : List (List ℕ)) → length fs < n → numbers n fs ≡ None
unfolding numbers number field
few_fields zero fs h = absurd (omega arith)
few_fields (suc n) [] h = refl
few_fields (suc n) (f ∷ fs) h = go (number_below (2 ^ 32) f) (few_fields n fs (omega arith))
  where
    go : (q : Option ℕ) → numbers n fs ≡ None → and_then (option_map (λ a. (a, fs)) q) (λ x gs. and_then (numbers n gs) (λ xs. giving (x ∷ xs))) ≡ None
    go None k = refl
    go (Some x) k = rw k refl

-- the fields that are left of a reading
same_left : (p q : List ℕ × List (List ℕ)) → Some p ≡ Some q → p.1 ≡ q.1
same_left p q h = let e : p ≡ q = cc in ap (λ (r : List ℕ × List (List ℕ)). r.1) e

numbers_left : (n : ℕ) (fs : List (List ℕ)) (got : List ℕ × List (List ℕ)) → numbers n fs ≡ Some got → length got.1 ≤ length fs
unfolding numbers number field
numbers_left zero fs got h = let e : fs ≡ got.1 = same_left ([], fs) got h in omega (arith, ap length e)
numbers_left (suc n) [] got h = absurd (cc)
numbers_left (suc n) (f ∷ fs) got h = go (number_below (2 ^ 32) f) (numbers n fs) (numbers_left n fs) h refl
  where
    go : (q : Option ℕ) (r : Answer (List ℕ)) → ((p : List ℕ × List (List ℕ)) → numbers n fs ≡ Some p → length p.1 ≤ length fs)
        → and_then (option_map (λ a. (a, fs)) q) (λ x hs. and_then (numbers n hs) (λ ys. giving (x ∷ ys))) ≡ Some got → numbers n fs ≡ r → length got.1 ≤ suc (length fs)
    go None r ih e k = absurd (cc)
    go (Some x) None ih e k = absurd (let z : None ≡ Some got = rw k at e in cc)
    go (Some x) (Some p) ih e k =
        let z : Some (x ∷ p.0, p.1) ≡ Some got = rw k at e in
        let same = same_left (x ∷ p.0, p.1) got z in
        let l = ih p k in
        omega (arith, ap length same)

pub items_left : (fs : List (List ℕ)) {xs : List ℕ} {gs : List (List ℕ)} → items fs ≡ Some (xs, gs) → length gs ≤ length fs
unfolding items number field
items_left [] {xs} {gs} h = absurd (cc)
items_left (f ∷ fs) {xs} {gs} h = go (number_below (2 ^ 32) f) h
  where
    go : (q : Option ℕ) → and_then (option_map (λ a. (a, fs)) q) numbers ≡ Some (xs, gs) → length gs ≤ suc (length fs)
    go None e = absurd (cc)
    go (Some n) e = let l = numbers_left n fs (xs, gs) e in omega arith

module _ (fs : List (List ℕ)) where
  pub uncounted : number fs ≡ None → items fs ≡ None
  unfolding items
  uncounted h = ap (λ q. and_then q numbers) h

  module _ {n : ℕ} {gs : List (List ℕ)} (h : number fs ≡ Some (n, gs)) where
    counted : items fs ≡ numbers n gs
    unfolding items
    counted = ap (λ q. and_then q numbers) h

    pub too_many : (room : ℕ) → gs ≡ drop 1 fs → length fs ≤ room + 1 → room < n → items fs ≡ None
    too_many room p fit l =
        let e = length-drop 1 fs in
        let few : length gs ≡ length (drop 1 fs) = ap length p in
        counted ∙ few_fields n gs (omega arith)

    -- they go into the first n words of a list
    module _ (list : List ℕ) (l : n ≤ length list) where
      front : length (take n list) ≡ n
      front = length-take-le n list l

      pub broken_off : numbers (length (take n list)) gs ≡ None → items fs ≡ None
      broken_off k = counted ∙ ap (λ (m : ℕ). numbers m gs) (sym front) ∙ k

      module _ (xs rest : List ℕ) (e : length xs ≡ length (take n list)) where
        pub all_items : (hs : List (List ℕ)) → numbers (length (take n list)) gs ≡ Some (xs, hs) → items fs ≡ Some (take n (xs ++ rest), hs)
        all_items hs k =
            counted ∙ ap (λ (m : ℕ). numbers m gs) (sym front) ∙ k ∙ ap (λ (ys : List ℕ). Some (ys, hs)) (sym (take_at xs rest n (e ∙ front)))

        pub all_fit : n ≤ length (xs ++ rest)
        all_fit = let f = front in omega (arith, length-append xs rest)

-- ---- items that are passed over

-- nothing is kept of the numbers that were read before, either
unkept_behind : (xs : List ℕ) (q : Answer (List ℕ)) → unkept (behind xs q) ≡ unkept q
unkept_behind xs None = refl
unkept_behind xs (Some got) = refl

module _ (fs : List (List ℕ)) where
  pub pass_uncounted : number fs ≡ None → passing items fs ≡ None
  pass_uncounted h = ap unkept (uncounted fs h)

  pub pass_counted : {n : ℕ} {gs : List (List ℕ)} → number fs ≡ Some (n, gs) → passing items fs ≡ passing (numbers (n - 0)) gs
  pass_counted {n} {gs} h = ap unkept (counted fs h) ∙ ap (λ (m : ℕ). passing (numbers m) gs) (let z : n ≡ n - 0 = omega arith in z)

  module _ {count i : ℕ} where
    pub pass_done : count ≤ i → passing (numbers (count - i)) fs ≡ Some (tt, fs)
    unfolding numbers
    pass_done l = ap (λ (n : ℕ). passing (numbers n) fs) (let z : count - i ≡ 0 = omega arith in z)

    module _ (l : i < count) where
      one_more : passing (numbers (count - i)) fs ≡ passing (numbers (suc (count - (i + 1)))) fs
      one_more = ap (λ (n : ℕ). passing (numbers n) fs) (let z : count - i ≡ suc (count - (i + 1)) = omega arith in z)

      pub pass_broken_off : number fs ≡ None → passing (numbers (count - i)) fs ≡ None
      pass_broken_off h = one_more ∙ ap unkept (numbers_none (count - (i + 1)) fs h)

      pub pass_turn : {x : ℕ} {gs : List (List ℕ)} → number fs ≡ Some (x, gs) → passing (numbers (count - i)) fs ≡ passing (numbers (count - (i + 1))) gs
      pass_turn {x} {gs} h =
          one_more ∙ ap unkept (numbers_some (count - (i + 1)) x fs gs h) ∙ unkept_behind (x ∷ []) (numbers (count - (i + 1)) gs)
