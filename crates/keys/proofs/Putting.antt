-- Bytes put one after the other, each time into the rest that is left, are put at once. Assumes nothing.
use Prim.Native.Nat.{ℕ, ◌+◌, ◌-◌, ◌^◌, ◌<◌, ◌≤◌, min}
use native.Mathlib.Decide.{dec_le}
use native.Mathlib.Omega.{arith}
use mathlib.Core.List.{List, [], ◌++◌, append_assoc, append-nil}
use mathlib.Core.Path.{◌≡◌, refl, sym, ap, ap₂, subst, ◌∙◌}
use native.Mathlib.Nat.{zero-add, add-zero}
use lib.ListN.{length, take, drop, length-append, length-drop, take-append-drop}
use Rattle.std.proofs.lemmas.List.{drop_all}
use lib.Seq.{take_all, take_at, take-append-le, take-append-add, drop-drop, drop-append-add, length-take-le}
use Rattle.keys.specs.Put.{Put}

-- ---- one step

-- what fits is written whole
pub put_whole : (bytes : List ℕ) {a b : List ℕ} {r : ℕ} → length bytes < 2 ^ 64 → r ≡ length bytes → length bytes ≤ length a → b ≡ bytes ++ drop (length bytes) a → Put bytes a b r
put_whole bytes {a} l e fits same =
    record {
      many = omega (arith, l, e);
      written = length bytes;
      of_bytes = omega arith;
      of_rest = fits;
      whole = λ h. refl;
      rest = same ∙ ap (λ (bs : List ℕ). bs ++ drop (length bytes) a) (sym (take_all (length bytes) bytes (omega arith)));
    }

pub put_fits : (bytes : List ℕ) {a b : List ℕ} {r : ℕ} → Put bytes a b r → length bytes ≤ length a → b ≡ bytes ++ drop (length bytes) a
put_fits bytes {a} f fits =
    let w : f.written ≡ length bytes = f.whole fits in
    f.rest ∙ ap₂ (λ (x y : List ℕ). x ++ y) (ap (λ (n : ℕ). take n bytes) w ∙ take_all (length bytes) bytes (omega arith)) (ap (λ (n : ℕ). drop n a) w)

-- of what does not fit nothing needs to be
pub put_short : (bytes : List ℕ) {a : List ℕ} {r : ℕ} → length bytes < 2 ^ 64 → r ≡ length bytes → length a < length bytes → Put bytes a a r
put_short bytes l e short =
    record { many = omega (arith, l, e); written = 0; of_bytes = omega arith; of_rest = omega arith; whole = λ h. absurd (omega arith); rest = refl }

-- the same bytes
pub put_as : {xs ys a b : List ℕ} {r : ℕ} → xs ≡ ys → Put xs a b r → Put ys a b r
put_as {xs} {ys} {a} {b} {r} e f = subst (λ (bs : List ℕ). Put bs a b r) e f

-- ---- one after the other

-- some of the bytes stand in the key from place p on, and the others are as they were
pub record Stand (bytes before : List ℕ) (p : ℕ) (after : List ℕ) : Type 0 where
  pub written : ℕ
  pub of_bytes : written ≤ length bytes
  pub of_rest : p + written ≤ length before
  pub whole : p + length bytes ≤ length before → written ≡ length bytes
  pub rest : after ≡ take p before ++ (take written bytes ++ drop (p + written) before)

-- bytes are put from place i on, up to place j. A place past the end stands for the end
pub record PutAt (bytes before : List ℕ) (i : ℕ) (after : List ℕ) (j : ℕ) : Type 0 where
  pub long : length after ≡ length before
  pub many : i < 2 ^ 64 → j ≡ min (i + length bytes) (2 ^ 64 - 1)
  pub stand : i < 2 ^ 64 → length before < 2 ^ 64 → Stand bytes before (min i (length before)) after

pub puts_none : (a : List ℕ) (i : ℕ) → PutAt [] a i a i
puts_none a i =
    record {
      long = refl;
      many = λ l. omega arith;
      stand =
          λ l k. record {
            written = 0;
            of_bytes = omega arith;
            of_rest = omega arith;
            whole = λ h. refl;
            rest = sym (take-append-drop (min i (length a)) a) ∙ ap (λ (n : ℕ). take (min i (length a)) a ++ drop n a) (omega arith);
          };
    }

pub puts_as : {xs ys a b : List ℕ} {i j : ℕ} → xs ≡ ys → PutAt xs a i b j → PutAt ys a i b j
puts_as {xs} {ys} {a} {b} {i} {j} e f = subst (λ (bs : List ℕ). PutAt bs a i b j) e f

-- from place 0 on
at_start : (xs a : List ℕ) (p w : ℕ) → p ≡ 0 → take p a ++ (take w xs ++ drop (p + w) a) ≡ take w xs ++ drop w a
at_start xs a p w e = rw (e, zero-add) refl

written_length : (xs a : List ℕ) (w : ℕ) → w ≤ length xs → w ≤ length a → length (take w xs ++ drop w a) ≡ length a
written_length xs a w of_xs of_a = omega (arith, length-append (take w xs) (drop w a), length-take-le w xs of_xs, length-drop w a)

-- the first that is put into the rest of a key
pub puts_first : {xs a b : List ℕ} {r : ℕ} → Put xs a b r → PutAt xs a 0 b r
puts_first {xs} {a} {b} {r} f =
    record {
      long = ap length f.rest ∙ written_length xs a f.written f.of_bytes f.of_rest;
      many = λ l. omega (arith, f.many);
      stand =
          λ l k. record {
            written = f.written;
            of_bytes = f.of_bytes;
            of_rest = omega (arith, f.of_rest);
            whole = λ h. f.whole (omega arith);
            rest = f.rest ∙ sym (at_start xs a (min 0 (length a)) f.written (omega arith));
          };
    }

-- all that is put from its beginning on
pub put_all : {xs a b : List ℕ} {r : ℕ} → length a < 2 ^ 64 → PutAt xs a 0 b r → Put xs a b r
put_all {xs} {a} {b} {r} l f =
    let s : Stand xs a (min 0 (length a)) b = f.stand (omega arith) l in
    record {
      many = omega (arith, f.many (omega arith));
      written = s.written;
      of_bytes = s.of_bytes;
      of_rest = omega (arith, s.of_rest);
      whole = λ h. s.whole (omega arith);
      rest = s.rest ∙ at_start xs a (min 0 (length a)) s.written (omega arith);
    }

-- what is put into the rest from place i on
module _ (ys b r : List ℕ) (i p m l : ℕ) (place : p ≡ min i (length b)) (f : Put ys (take (length b - p) (drop p b)) r m) (e : l ≡ min (i + m) (2 ^ 64 - 1)) where
  left : take (length b - p) (drop p b) ≡ drop p b
  left = take_all (length b - p) (drop p b) (omega (arith, length-drop p b))

  room : length (take (length b - p) (drop p b)) ≡ length b - p
  room = ap length left ∙ length-drop p b

  rest_is : take p b ++ (r ++ drop (length b - p) (drop p b)) ≡ take p b ++ (take f.written ys ++ drop (p + f.written) b)
  rest_is =
      let w : ℕ = f.written in
      let none : drop (length b - p) (drop p b) ≡ [] = drop_all (length b - p) (drop p b) (omega (arith, length-drop p b)) in
      let same : r ≡ take w ys ++ drop (p + w) b = f.rest ∙ ap (λ (d : List ℕ). take w ys ++ drop w d) left ∙ ap (λ (d : List ℕ). take w ys ++ d) (drop-drop w p b) in
      ap₂ (λ (x y : List ℕ). take p b ++ (x ++ y)) same none ∙ ap (λ (x : List ℕ). take p b ++ x) (append-nil (take w ys ++ drop (p + w) b))

  within : p + f.written ≤ length b
  within = omega (arith, place, room, f.of_rest)

  stands_there : Stand ys b p (take p b ++ (r ++ drop (length b - p) (drop p b)))
  stands_there =
      record { written = f.written; of_bytes = f.of_bytes; of_rest = within; whole = λ h. f.whole (omega (arith, room, h)); rest = rest_is }

  rest_put : PutAt ys b i (take p b ++ (r ++ drop (length b - p) (drop p b))) l
  rest_put =
      record {
        long =
            ap length rest_is
            ∙ omega (
              arith,
              length-append (take p b) (take f.written ys ++ drop (p + f.written) b),
              length-append (take f.written ys) (drop (p + f.written) b),
              length-take-le p b (omega (arith, place)),
              length-take-le f.written ys f.of_bytes,
              length-drop (p + f.written) b,
              within,
            );
        many = λ k. omega (arith, f.many, e, k);
        stand = λ k h. subst (λ (n : ℕ). Stand ys b n (take p b ++ (r ++ drop (length b - p) (drop p b)))) place stands_there;
      }

pub puts_rest : {ys b r : List ℕ} {i p m l : ℕ} → p ≡ min i (length b) → Put ys (take (length b - p) (drop p b)) r m → l ≡ min (i + m) (2 ^ 64 - 1)
    → PutAt ys b i (take p b ++ (r ++ drop (length b - p) (drop p b))) l
puts_rest {ys} {b} {r} {i} {p} {m} {l} place f e = rest_put ys b r i p m l place f e

-- where the first bytes fit, the others stand behind them
behind : (xs ys a b c : List ℕ) (p q v : ℕ) → p ≤ length a → p + length xs ≡ q
    → b ≡ take p a ++ (xs ++ drop q a)
    → c ≡ take q b ++ (take v ys ++ drop (q + v) b)
    → c ≡ take p a ++ (take (length xs + v) (xs ++ ys) ++ drop (p + (length xs + v)) a)
behind xs ys a b c p q v inside end b_is c_is =
    let front : List ℕ = take p a ++ xs in
    let long : length front ≡ q = omega (arith, length-append (take p a) xs, length-take-le p a inside, end) in
    let parted : b ≡ front ++ drop q a = b_is ∙ sym (append_assoc (take p a) xs (drop q a)) in
    let before : take q b ≡ front = ap (take q) parted ∙ take_at front (drop q a) q long in
    let after : drop (q + v) b ≡ drop (p + (length xs + v)) a =
    ap (drop (q + v)) parted
    ∙ ap (λ (n : ℕ). drop (n + v) (front ++ drop q a)) (sym long)
    ∙ drop-append-add front (drop q a) v
    ∙ drop-drop v q a
    ∙ ap (λ (n : ℕ). drop n a) (omega (arith, end)) in
    c_is
    ∙ ap₂ (λ (x y : List ℕ). x ++ (take v ys ++ y)) before after
    ∙ append_assoc (take p a) xs (take v ys ++ drop (p + (length xs + v)) a)
    ∙ ap (λ (x : List ℕ). take p a ++ x) (sym (append_assoc xs (take v ys) (drop (p + (length xs + v)) a)))
    ∙ ap (λ (x : List ℕ). take p a ++ (x ++ drop (p + (length xs + v)) a)) (sym (take-append-add xs ys v))

module _ (xs ys : List ℕ) {a b c : List ℕ} {i j l : ℕ} (f : PutAt xs a i b j) (g : PutAt ys b j c l) where
  module _ (small : i < 2 ^ 64) (short : length a < 2 ^ 64) where
    one : Stand xs a (min i (length a)) b
    one = f.stand small short

    two : Stand ys b (min j (length b)) c
    two = g.stand (omega (arith, f.many small)) (omega (arith, f.long, short))

    -- the first fit
    both_stand : min i (length a) + length xs ≤ length a → Stand (xs ++ ys) a (min i (length a)) c
    both_stand fits =
        let q : min j (length b) ≡ min i (length a) + length xs = omega (arith, f.many small, f.long, short, fits) in
        let w : one.written ≡ length xs = one.whole fits in
        record {
          written = length xs + two.written;
          of_bytes = omega (arith, length-append xs ys, two.of_bytes);
          of_rest = omega (arith, q, f.long, two.of_rest);
          whole = λ h. omega (arith, length-append xs ys, h, q, f.long, two.whole);
          rest =
              behind xs ys a b c (min i (length a)) (min j (length b)) two.written (omega arith) (sym q)
              (one.rest ∙ ap₂ (λ (x y : List ℕ). take (min i (length a)) a ++ (x ++ y)) (ap (λ (n : ℕ). take n xs) w ∙ take_all (length xs) xs (omega arith))
              (ap (λ (n : ℕ). drop n a) (ap (λ (n : ℕ). min i (length a) + n) w ∙ sym q)))
              two.rest;
        }

    -- they don't, and of the others nothing is written
    first_stands : length a < min i (length a) + length xs → Stand (xs ++ ys) a (min i (length a)) c
    first_stands over =
        let q : min j (length b) ≡ length b = omega (arith, f.many small, f.long, short, over) in
        let none : two.written ≡ 0 = omega (arith, q, two.of_rest) in
        let same : c ≡ b = two.rest ∙ rw (none, add-zero) (take-append-drop (min j (length b)) b) in
        record {
          written = one.written;
          of_bytes = omega (arith, length-append xs ys, one.of_bytes);
          of_rest = one.of_rest;
          whole = λ h. absurd (omega (arith, length-append xs ys, h, over));
          rest =
              same ∙ one.rest
              ∙ ap (λ (x : List ℕ). take (min i (length a)) a ++ (x ++ drop (min i (length a) + one.written) a)) (sym (take-append-le one.written xs ys one.of_bytes));
        }

    stands_both : Dec (min i (length a) + length xs ≤ length a) → Stand (xs ++ ys) a (min i (length a)) c
    stands_both (yes fits) = both_stand fits
    stands_both (no over) = first_stands (omega (arith, over))

  pub puts_then : PutAt (xs ++ ys) a i c l
  puts_then =
      record {
        long = g.long ∙ f.long;
        many = λ h. omega (arith, f.many h, g.many (omega (arith, f.many h)), length-append xs ys);
        stand = λ h k. stands_both h k (dec_le (min i (length a) + length xs) (length a));
      }

-- a step, and then another into the rest
pub put_then : (xs ys : List ℕ) {a b r : List ℕ} {i p m l : ℕ} → length a < 2 ^ 64 → Put xs a b i → p ≡ min i (length b)
    → Put ys (take (length b - p) (drop p b)) r m
    → l ≡ min (i + m) (2 ^ 64 - 1)
    → Put (xs ++ ys) a (take p b ++ (r ++ drop (length b - p) (drop p b))) l
put_then xs ys short f place g e = put_all short (puts_then xs ys (puts_first f) (puts_rest place g e))
