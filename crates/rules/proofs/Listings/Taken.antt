-- Each field that is read has a byte at least, beside the one that ends it, so a line that means something is not short: the shortest are
-- `s` with three numbers and, in edition 2, `b` without arguments. Assumes nothing.
use Prim.Native.Nat.{ℕ, zero, suc, ◌+◌, ◌≤◌}
use Prim.Native.String.{String}
use native.Mathlib.Omega.{arith}
use mathlib.Core.Bool.{Bool, true, false, cond}
use Rattle.std.specs.Prelude.{Option, None, Some, option_map}
use Rattle.std.proofs.lemmas.Option.{same_Some, none-some}
use mathlib.Core.List.{List, [], ◌∷◌}
use mathlib.Core.Path.{◌≡◌, refl, sym, ap, subst, ◌∙◌}
use lib.Dec.{eqb}
use lib.ListN.{length}
use Rattle.rules.specs.Lists.{same_list}
use Rattle.rules.specs.Bytes.{is_text, well_written, number_below}
use Rattle.rules.specs.Lines.{Line, Reader, fields_of, and_then, ◌>>=◌, giving, field, one_of, number, ignore_bits, numbers, items, parent_meaning, parent_block, owner, sort, yes_or_no, operation_line, label, block_line, attribute_line, operand_line, query_line, more_letters, letter, all_read, wholly, parse}
use Rattle.rules.specs.declared.types.Edition.{Edition}
use Rattle.rules.specs.declared.types.Edition.TheVariants.{First as edition_1, Second as edition_2}
use Rattle.rules.proofs.Listings.Cut.{weight, fields_weight}

-- whatever the reader gives, it has taken k bytes
abbrev Takes : {A : Type 0} → ℕ → Reader A → Type 0
Takes {A} k r = (fs : List (List ℕ)) (a : A) (left : List (List ℕ)) → r fs ≡ Some (a, left) → k + weight left ≤ weight fs

module _ {A : Type 0} where
  same_left : (a b : A) (x y : List (List ℕ)) → ◌≡◌ {A = Option (A × List (List ℕ))} (Some (a, x)) (Some (b, y)) → y ≡ x
  same_left a b x y e = ap (λ (g : A × List (List ℕ)). g.1) (sym (same_Some _ _ e))

  fewer : (j k : ℕ) (r : Reader A) → j ≤ k → Takes k r → Takes j r
  fewer j k r h t fs a left e = omega (arith, t fs a left e)

  giving_takes : (a : A) → Takes 0 (giving a)
  giving_takes a fs b left e = rw (same_left a b fs left e) (omega arith)

  -- of a field that is read: what is left
  mapped_left : (o : Option A) (fs left : List (List ℕ)) (a : A) → ◌≡◌ {A = Option (A × List (List ℕ))} (option_map (λ b. (b, fs)) o) (Some (a, left))
      → left ≡ fs
  mapped_left None fs left a e = absurd (none-some _ e)
  mapped_left (Some b) fs left a e = same_left b a fs left e

  field_takes : (m : List ℕ → Option A) → m [] ≡ None → Takes 2 (field m)
  unfolding field
  field_takes m h [] a left e = absurd (none-some _ e)
  field_takes m h ([] ∷ fs) a left e = absurd (none-some _ (rw h at e))
  field_takes m h ((x ∷ f) ∷ fs) a left e = rw (mapped_left (m (x ∷ f)) fs left a e) (omega arith)

module _ {A B : Type 0} (j k : ℕ) (r : Reader A) (f : A → Reader B) where
  -- a reader after another, of which only what the first gives counts
  after_takes : Takes j r → ((fs : List (List ℕ)) (a : A) (left : List (List ℕ)) → r fs ≡ Some (a, left) → Takes k (f a)) → Takes (j + k) (r >>= f)
  after_takes t u fs b left e = go (r fs) refl e
    where
      go : (o : Option (A × List (List ℕ))) → r fs ≡ o → and_then o f ≡ Some (b, left) → j + k + weight left ≤ weight fs
      go None e₁ e₂ = absurd (none-some _ e₂)
      go (Some got) e₁ e₂ = omega (arith, t fs got.0 got.1 e₁, u fs got.0 got.1 e₁ got.1 b left e₂)

  then_takes : Takes j r → ((a : A) → Takes k (f a)) → Takes (j + k) (r >>= f)
  then_takes t u = after_takes t (λ fs a left e. u a)

-- ---- fields

number_takes : Takes 2 number
unfolding number number_below well_written
number_takes = field_takes _ refl

bits_takes : Takes 2 ignore_bits
unfolding ignore_bits number_below well_written
bits_takes = field_takes _ refl

parent_takes : Takes 2 parent_block
unfolding parent_block parent_meaning is_text same_list number_below well_written
parent_takes = field_takes _ refl

owner_takes : Takes 2 owner
unfolding owner one_of is_text same_list
owner_takes = field_takes _ refl

sort_takes : Takes 2 sort
unfolding sort one_of is_text same_list
sort_takes = field_takes _ refl

cond_takes : {A : Type 0} (t : Bool) (r q : Reader A) → Takes 0 r → Takes 0 q → Takes 0 (λ fs. cond t (r fs) (q fs))
cond_takes true r q f g = f
cond_takes false r q f g = g

none_takes : {A : Type 0} → Takes {A = A} 0 (λ fs. None)
none_takes fs a left e = absurd (none-some _ e)

flag_takes : (n : ℕ) → Takes 0 (yes_or_no n)
unfolding yes_or_no
flag_takes n = cond_takes (eqb n 0) (giving false) (λ fs. cond (eqb n 1) (giving true fs) None) (giving_takes false) (cond_takes (eqb n 1) (giving true) (λ fs. None) (giving_takes true) none_takes)

numbers_takes : (n : ℕ) → Takes 0 (numbers n)
unfolding numbers
numbers_takes zero = giving_takes []
numbers_takes (suc n) = fewer 0 2 _ (omega arith) (then_takes 2 0 _ _ number_takes (λ x. then_takes 0 0 _ _ (numbers_takes n) (λ xs. giving_takes (x ∷ xs))))

items_takes : Takes 2 items
unfolding items
items_takes = then_takes 2 0 _ _ number_takes numbers_takes

-- ---- lines, behind their letters

operation_takes : Takes 14 operation_line
unfolding operation_line
operation_takes =
    then_takes 2 12 _ _ number_takes
    (λ kind. then_takes 2 10 _ _ parent_takes
    (λ parent. then_takes 2 8 _ _ number_takes
    (λ location. then_takes 2 6 _ _ number_takes
    (λ regions. then_takes 2 4 _ _ items_takes
    (λ types. then_takes 2 2 _ _ items_takes
    (λ operands. then_takes 2 0 _ _ items_takes
    (λ successors. giving_takes _)))))))

label_takes : (e : Edition) → Takes 0 (label e)
unfolding label
label_takes edition_1 = fewer 0 2 _ (omega arith) (then_takes 2 0 _ _ number_takes (λ dropped. giving_takes tt))
label_takes edition_2 = giving_takes tt

block_takes : (e : Edition) → Takes 6 (block_line e)
unfolding block_line
block_takes e =
    then_takes 2 4 _ _ number_takes
    (λ around. then_takes 0 4 _ _ (label_takes e)
    (λ no_label. then_takes 2 2 _ _ number_takes
    (λ location. then_takes 2 0 _ _ items_takes
    (λ types. giving_takes _))))

attribute_takes : (inherent : Bool) → Takes 10 (attribute_line inherent)
unfolding attribute_line
attribute_takes inherent =
    then_takes 2 8 _ _ owner_takes
    (λ of. then_takes 2 6 _ _ number_takes
    (λ n. then_takes 2 4 _ _ number_takes
    (λ key. then_takes 2 2 _ _ number_takes
    (λ kind. then_takes 2 0 _ _ number_takes
    (λ content. giving_takes _)))))

operand_takes : Takes 6 operand_line
unfolding operand_line
operand_takes =
    then_takes 2 4 _ _ number_takes
    (λ n. then_takes 2 2 _ _ number_takes
    (λ index. then_takes 2 0 _ _ number_takes
    (λ value. giving_takes _)))

query_takes : Takes 10 query_line
unfolding query_line
query_takes =
    then_takes 2 8 _ _ sort_takes
    (λ f. then_takes 2 6 _ _ number_takes
    (λ left. then_takes 2 4 _ _ number_takes
    (λ right. then_takes 2 2 _ _ number_takes
    (λ flag. then_takes 0 2 _ _ (flag_takes flag)
    (λ locations. then_takes 2 0 _ _ bits_takes
    (λ bits. giving_takes _))))))

-- what holds of each of the words' meanings holds of the one that is found
module _ {A : Type 0} (P : A → Type 0) where
  abbrev Each : List (String × A) → Type 0
  Each [] = Unit {0}
  Each (w ∷ ws) = P w.1 × Each ws

  found : (ws : List (String × A)) (f : List ℕ) (a : A) → Each ws → one_of ws f ≡ Some a → P a
  unfolding one_of
  found [] f a h e = absurd (none-some _ e)
  found (w ∷ ws) f a h e = go (is_text w.0 f) (found ws f a h.1) e
    where
      go : (t : Bool) → (one_of ws f ≡ Some a → P a) → cond t (Some w.1) (one_of ws f) ≡ Some a → P a
      go true more e' = subst P (same_Some _ _ e') h.0
      go false more e' = more e'

  read : (ws : List (String × A)) (fs : List (List ℕ)) (a : A) (left : List (List ℕ)) → Each ws → field (one_of ws) fs ≡ Some (a, left) → P a
  unfolding field
  read ws [] a left h e = absurd (none-some _ e)
  read ws (f ∷ fs) a left h e = go (one_of ws f) refl e
    where
      go : (o : Option A) → one_of ws f ≡ o → ◌≡◌ {A = Option (A × List (List ℕ))} (option_map (λ b. (b, fs)) o) (Some (a, left)) → P a
      go None e₁ e₂ = absurd (none-some _ e₂)
      go (Some b) e₁ e₂ =
          let q : b ≡ a = ap (λ (g : A × List (List ℕ)). g.0) (same_Some _ _ e₂) in
          found ws f a h (e₁ ∙ ap Some q)

more_letters_take : (e : Edition) → Each (Takes 6) (more_letters e)
unfolding more_letters
more_letters_take edition_1 = tt
more_letters_take edition_2 = (fewer 6 10 _ (omega arith) (attribute_takes true), tt)

-- the shortest of them takes 6
letter_gives : (e : Edition) (fs : List (List ℕ)) (r : Reader Line) (left : List (List ℕ)) → letter e fs ≡ Some (r, left) → Takes 6 r
unfolding letter
letter_gives e fs r left h =
    read (Takes 6) _ fs r left (
      fewer 6 14 _ (omega arith) operation_takes,
      (
        block_takes e,
        (
          fewer 6 10 _ (omega arith) (attribute_takes false),
          (
            operand_takes,
            (
              fewer 6 10 _ (omega arith) query_takes,
              more_letters_take e,
            ),
          ),
        ),
      ),
    )
    h

letter_takes : (e : Edition) → Takes 2 (letter e)
unfolding letter one_of is_text same_list more_letters
letter_takes edition_1 = field_takes _ refl
letter_takes edition_2 = field_takes _ refl

line_takes : (e : Edition) → Takes 8 (letter e >>= λ line. line)
line_takes e = after_takes 2 6 _ _ (letter_takes e) (letter_gives e)

-- a line that means something has 7 bytes at least, before its line feed
pub parse_long : (e : Edition) (line : List ℕ) (l : Line) → parse e line ≡ Some l → 7 ≤ length line
unfolding parse wholly all_read
parse_long e line l h = go ((letter e >>= λ more. more) (fields_of line)) refl h
  where
    go : (o : Option (Line × List (List ℕ))) → (letter e >>= λ more. more) (fields_of line) ≡ o → wholly o ≡ Some l → 7 ≤ length line
    go None e₁ e₂ = absurd (none-some _ e₂)
    go (Some got) e₁ e₂ = omega (arith, line_takes e (fields_of line) got.0 got.1 e₁, fields_weight line)
