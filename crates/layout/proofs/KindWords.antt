-- The word that an attribute's kind and its flag share: what was put into it is read out of it, and two words are the same exactly where both are.
-- Assumes nothing.
use Prim.Native.Nat.{ℕ, ◌+◌, ◌-◌, ◌≤◌}
use native.Mathlib.Decide.{dec_le}
use native.Mathlib.Omega.{arith}
use mathlib.Core.Bool.{Bool, true, false, cond}
use mathlib.Core.Path.{◌≡◌, refl, sym, ◌∙◌}
use borrow.Author.Tests.{le-leb, lt-leb}
use lib.Dec.{leb}
use Rattle.rules.specs.Store.{max_attribute_kind}
use Rattle.rules.specs.declared.types.Attribute.{Attribute}
use Rattle.layout.specs.Reading.{kind_code, kind_from, inherent_from, attribute_read}

kind_read_lem : (kind : ℕ) (inherent : Bool) → kind ≤ max_attribute_kind → kind_from (kind_code kind inherent) ≡ kind
unfolding kind_from kind_code
kind_read_lem kind true l = rw (le-leb 64 (kind + 64) (omega arith)) (let e : (kind + 64) - 64 ≡ kind = omega arith in e)
kind_read_lem kind false l = rw (lt-leb 64 kind (omega arith)) refl

flag_read : (kind : ℕ) (inherent : Bool) → kind ≤ max_attribute_kind → inherent_from (kind_code kind inherent) ≡ inherent
unfolding kind_code
flag_read kind true l = le-leb 64 (kind + 64) (omega arith)
flag_read kind false l = lt-leb 64 kind (omega arith)

pub attribute_read_lem : (a : Attribute) → a.kind ≤ max_attribute_kind → attribute_read a.key (kind_code a.kind a.inherent) a.content ≡ a
attribute_read_lem a l = λ i. record { key = a.key; kind = kind_read_lem a.kind a.inherent l i; content = a.content; inherent = flag_read a.kind a.inherent l i }

-- the word of what was read out of a word is that word
word_of : (w : ℕ) → kind_code (kind_from w) (inherent_from w) ≡ w
unfolding kind_from kind_code
word_of w = go (dec_le 64 w)
  where
    go : Dec (64 ≤ w) → cond (leb 64 w) (cond (leb 64 w) (w - 64) w + 64) (cond (leb 64 w) (w - 64) w) ≡ w
    go (yes l) = rw (le-leb 64 w l) (let e : (w - 64) + 64 ≡ w = omega arith in e)
    go (no n) = rw (lt-leb 64 w (omega arith)) refl

pub words_same : (v w : ℕ) → kind_from v ≡ kind_from w → inherent_from v ≡ inherent_from w → v ≡ w
words_same v w k f = sym (word_of v) ∙ (λ i. kind_code (k i) (f i)) ∙ word_of w
