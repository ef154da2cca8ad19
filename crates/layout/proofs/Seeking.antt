-- To seek the next child again and again is to go through the list of children: the list rises, so what is left of it from a child on is that child and what is left past it. Assumes nothing.
use Prim.Native.Nat.{ℕ, suc, ◌+◌, ◌<◌, ◌≤◌}
use native.Mathlib.Decide.{dec_lt}
use native.Mathlib.Omega.{arith}
use mathlib.Core.Bool.{Bool, true, false, cond, true≢false}
use mathlib.Core.List.{List, [], ◌∷◌, Memᴰ}
use Rattle.std.specs.Prelude.{Option, None, Some}
use mathlib.Core.Path.{◌≡◌, refl, sym, ap, ◌∙◌}
use borrow.Author.Tests.{le-leb, lt-leb}
use lib.Dec.{eqb}
use Rattle.rules.specs.Lists.{numbers_from, numbers_where}
use Rattle.rules.specs.Store.{Store, Op, Block, no_op, no_block, is_parent, ops_of, blocks_of}
use Rattle.rules.proofs.Soundness.Children.{numbers_at}
use Rattle.layout.specs.Children.{first_from, on_from}
use Rattle.std.specs.Prelude as std

-- each entry is below all later ones
abbrev pub Rising : List ℕ → Type 0
Rising [] = Unit {0}
Rising (x ∷ xs) = ((y : ℕ) → Memᴰ y xs → x < y) × Rising xs

-- ---- what an answer says of the list

pub found_at : (r : std.Option ℕ) (q : Option ℕ) (x : ℕ) → r ≡ q → r ≡ std.Some x → q ≡ Some x
found_at r None x e h = cc
found_at r (Some y) x e h = cc

pub found_nothing : (r : std.Option ℕ) (q : Option ℕ) → r ≡ q → r ≡ std.None → q ≡ None
found_nothing r None e h = refl
found_nothing r (Some y) e h = cc

-- ---- one entry, passed or not

first_here : (n x : ℕ) (xs : List ℕ) → n ≤ x → first_from n (x ∷ xs) ≡ Some x
unfolding first_from
first_here n x xs l = rw (le-leb n x l) refl

first_later : (n x : ℕ) (xs : List ℕ) → x < n → first_from n (x ∷ xs) ≡ first_from n xs
unfolding first_from
first_later n x xs l = rw (lt-leb n x l) refl

on_here : (n x : ℕ) (xs : List ℕ) → n ≤ x → on_from n (x ∷ xs) ≡ x ∷ xs
unfolding on_from
on_here n x xs l = rw (le-leb n x l) refl

on_later : (n x : ℕ) (xs : List ℕ) → x < n → on_from n (x ∷ xs) ≡ on_from n xs
unfolding on_from
on_later n x xs l = rw (lt-leb n x l) refl

-- ---- the whole list

pub from_zero : (xs : List ℕ) → on_from 0 xs ≡ xs
unfolding on_from
from_zero [] = refl
from_zero (x ∷ xs) = on_here 0 x xs (omega arith)

-- all entries stand from n on
from_all : (n : ℕ) (xs : List ℕ) → ((y : ℕ) → Memᴰ y xs → n ≤ y) → on_from n xs ≡ xs
unfolding on_from
from_all n [] l = refl
from_all n (x ∷ xs) l = on_here n x xs (l x (Memᴰ.head refl))

pub found_in : (n x : ℕ) (xs : List ℕ) → first_from n xs ≡ Some x → Memᴰ x xs × (n ≤ x)
unfolding first_from
found_in n x [] e = let no : true ≡ false = cc in absurd (true≢false no)
found_in n x (y ∷ ys) e = go (dec_lt y n) (λ h. found_in n x ys h)
  where
    go : Dec (y < n) → (first_from n ys ≡ Some x → Memᴰ x ys × (n ≤ x)) → Memᴰ x (y ∷ ys) × (n ≤ x)
    go (yes l) rest = let w = rest (sym (first_later n y ys l) ∙ e) in (Memᴰ.tail w.0, w.1)
    go (no l) rest =
        let here : first_from n (y ∷ ys) ≡ Some y = first_here n y ys (omega arith) in
        let same : x ≡ y = cc in
        (Memᴰ.head same, omega arith)

-- what is found from a number on is found from its own number on
pub found_again : (n x : ℕ) (xs : List ℕ) → first_from n xs ≡ Some x → first_from x xs ≡ Some x
unfolding first_from
found_again n x [] e = e
found_again n x (y ∷ ys) e = go (dec_lt y n) (found_again n x ys)
  where
    go : Dec (y < n) → (first_from n ys ≡ Some x → first_from x ys ≡ Some x) → first_from x (y ∷ ys) ≡ Some x
    go (yes l) rest =
        let later : first_from n ys ≡ Some x = sym (first_later n y ys l) ∙ e in
        let from : n ≤ x = (found_in n x ys later).1 in
        first_later x y ys (omega arith) ∙ rest later
    go (no l) rest =
        let here : first_from n (y ∷ ys) ≡ Some y = first_here n y ys (omega arith) in
        let same : y ≡ x = cc in
        first_here x y ys (omega arith) ∙ ap Some same

pub from_none : (n : ℕ) (xs : List ℕ) → first_from n xs ≡ None → on_from n xs ≡ []
unfolding on_from
from_none n [] e = refl
from_none n (y ∷ ys) e = go (dec_lt y n) (λ h. from_none n ys h)
  where
    go : Dec (y < n) → (first_from n ys ≡ None → on_from n ys ≡ []) → on_from n (y ∷ ys) ≡ []
    go (yes l) rest = on_later n y ys l ∙ rest (sym (first_later n y ys l) ∙ e)
    go (no l) rest = let here : first_from n (y ∷ ys) ≡ Some y = first_here n y ys (omega arith) in cc

pub from_found : (n x : ℕ) (xs : List ℕ) → Rising xs → first_from n xs ≡ Some x → on_from n xs ≡ x ∷ on_from (x + 1) xs
unfolding first_from
from_found n x [] rise e = cc
from_found n x (y ∷ ys) rise e = go (dec_lt y n) (λ h. from_found n x ys rise.1 h)
  where
    go : Dec (y < n) → (first_from n ys ≡ Some x → on_from n ys ≡ x ∷ on_from (x + 1) ys) → on_from n (y ∷ ys) ≡ x ∷ on_from (x + 1) (y ∷ ys)
    go (yes l) rest =
        let h : first_from n ys ≡ Some x = sym (first_later n y ys l) ∙ e in
        let k : n ≤ x = (found_in n x ys h).1 in
        on_later n y ys l ∙ rest h ∙ ap (λ (zs : List ℕ). x ∷ zs) (sym (on_later (x + 1) y ys (omega arith)))
    go (no l) rest =
        let here : first_from n (y ∷ ys) ≡ Some y = first_here n y ys (omega arith) in
        let same : y ≡ x = cc in
        let past : on_from (x + 1) ys ≡ ys = from_all (x + 1) ys (λ z m. let b : y < z = rise.0 z m in omega arith) in
        let later : on_from (x + 1) (y ∷ ys) ≡ on_from (x + 1) ys = on_later (x + 1) y ys (omega arith) in
        let whole : on_from n (y ∷ ys) ≡ y ∷ ys = on_here n y ys (omega arith) in
        cc

-- ---- child lists rise

module _ {A : Type 0} (p : A → Bool) (d : A) where
  numbers_rise : (n : ℕ) (xs : List A) → Rising (numbers_from n p xs)
  unfolding numbers_from
  numbers_rise n [] = tt
  numbers_rise n (x ∷ xs) = go (p x) (numbers_rise (suc n) xs)
    where
      later : (y : ℕ) → Memᴰ y (numbers_from (suc n) p xs) → n < y
      later y m = let a = numbers_at p d (suc n) xs m in let e : y ≡ suc n + a.place = a.from in omega arith

      go : (b : Bool) → Rising (numbers_from (suc n) p xs) → Rising (cond b (n ∷ numbers_from (suc n) p xs) (numbers_from (suc n) p xs))
      go true rest = (later, rest)
      go false rest = rest

module _ (s : Store) where
  pub ops_rise : (b : ℕ) → Rising (ops_of s b)
  unfolding ops_of numbers_where
  ops_rise b = numbers_rise (λ (o : Op). is_parent b o.parent) no_op 0 s.ops

  pub blocks_rise : (r : ℕ) → Rising (blocks_of s r)
  unfolding blocks_of numbers_where
  blocks_rise r = numbers_rise (λ (o : Block). eqb o.region r) no_block 0 s.blocks

-- ---- a child that was found is the first of what is left from a number on

pub record NextChild (xs : List ℕ) (from n : ℕ) : Type 0 where
  pub child : Memᴰ n xs
  pub later : from ≤ n
  pub rest : on_from from xs ≡ n ∷ on_from (n + 1) xs

next_of : (from n : ℕ) (xs : List ℕ) → Rising xs → first_from from xs ≡ Some n → NextChild xs from n
next_of from n xs rise e = let w = found_in from n xs e in record { child = w.0; later = w.1; rest = from_found from n xs rise e }

pub next_op : (s : Store) (b from n : ℕ) (r : std.Option ℕ) → r ≡ (first_from from (ops_of s b)) → r ≡ std.Some n → NextChild (ops_of s b) from n
next_op s b from n r e h = next_of from n (ops_of s b) (ops_rise s b) (found_at r _ n e h)

pub next_block : (s : Store) (r from b : ℕ) (q : std.Option ℕ) → q ≡ (first_from from (blocks_of s r)) → q ≡ std.Some b → NextChild (blocks_of s r) from b
next_block s r from b q e h = next_of from b (blocks_of s r) (blocks_rise s r) (found_at q _ b e h)

-- where none was found, nothing is left
pub none_next : (from : ℕ) (xs : List ℕ) (r : std.Option ℕ) → r ≡ (first_from from xs) → r ≡ std.None → on_from from xs ≡ []
none_next from xs r e h = from_none from xs (found_nothing r _ e h)
