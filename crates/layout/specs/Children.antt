-- What a walk asks of a list of children: the next one.
use Rattle.std.specs.Prelude.{ℕ, zero, suc, Bool, false, cond, ◌&&◌, List, [], ◌∷◌, eqb, leb, ltb, Option, None, Some}
use Rattle.layout.specs.Columns.{Cols, at}
use Rattle.std.specs.Prelude as std

-- the first entry not below n
unfoldable pub first_from : ℕ → List ℕ → Option ℕ
first_from n [] = None
first_from n (x ∷ xs) = cond (leb n x) (Some x) (first_from n xs)

-- the entries from number n on
unfoldable pub on_from : ℕ → List ℕ → List ℕ
on_from n [] = []
on_from n (x ∷ xs) = cond (leb n x) (x ∷ xs) (on_from n xs)

-- of n entries of a column from a on, the first that is w
unfoldable pub first_word : Cols → ℕ → ℕ → ℕ → ℕ → Option ℕ
first_word C k w a zero = None
first_word C k w a (suc n) = cond (eqb (at C k a) w) (Some a) (first_word C k w (suc a) n)

-- the same as a word: 0 for none
unfoldable pub word_from : Option ℕ → ℕ
word_from None = 0
word_from (Some n) = n

-- what a link leads to
unfoldable pub link_found : ℕ → std.Option ℕ
link_found zero = std.None
link_found (suc n) = std.Some (suc n)

-- the number before `from` is that of a child, of so many, which has the word w in a column of owners
unfoldable pub behind_child : Cols → ℕ → ℕ → ℕ → ℕ → Bool
behind_child C owners count w zero = false
behind_child C owners count w (suc n) = ltb n count && eqb (at C owners n) w
