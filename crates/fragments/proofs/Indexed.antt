-- What an index gives: present types as the rules have them, and a list that holds. Assumes nothing.
use Prim.Native.Nat.{ℕ, ◌+◌, ◌*◌, ◌<◌}
use native.Mathlib.Omega.{arith}
use mathlib.Core.Bool.{Bool, true, false, true≢false}
use mathlib.Core.List.{List, [], ◌∷◌}
use mathlib.Core.Logic.{◌≢◌}
use mathlib.Core.Path.{◌≡◌, refl, sym, ap, subst, ◌∙◌}
use borrow.Author.Tests.{eq-eqb}
use lib.Dec.{eqb}
use lib.ListN.{length, get_or}
use Rattle.rules.specs.Lists.{every}
use Rattle.rules.specs.Types.{whole_rows, old_types, present_types, each_once, types_hold, present}
use Rattle.fragments.specs.Index.{rows_in, list_in, old_at, now_at, FoundAt, Table, IsIndex, nothing, table}
use Rattle.fragments.proofs.Flat.{rows_by, present_none, present_at, index_rows}

pub no_list : list_in [] ≡ []
unfolding list_in rows_in
no_list = refl

pub no_words_lem : IsIndex []
no_words_lem = nothing refl

none_holds : types_hold (list_in []) ≡ true
unfolding types_hold list_in rows_in whole_rows old_types present_types each_once every
none_holds = refl

pub index_holds : (w : List ℕ) → IsIndex w → types_hold (list_in w) ≡ true
index_holds w (nothing e) = subst (λ (x : List ℕ). types_hold (list_in x) ≡ true) (sym e) none_holds
index_holds w (table t) = t.holds

-- an index with words, as the code tests that, is a table
pub table_of : (w : List ℕ) → IsIndex w → {none : Bool} → none ≡ eqb (length w) 0 → none ≡ false → Table w
table_of w (nothing e) told some = absurd (true≢false (sym (told ∙ eq-eqb _ _ (ap length e)) ∙ some))
table_of w (table t) told some = t

empty : (w : List ℕ) → length w ≡ 0 → w ≡ []
empty [] e = refl
empty (x ∷ w) e = absurd (let z : ⊥ = omega arith in z)

-- without words each type is its own
pub present_alone : (w : List ℕ) (t : ℕ) → length w ≡ 0 → present (list_in w) t ≡ t
unfolding present
present_alone w t e = ap (λ (x : List ℕ). present (list_in x) t) (empty w e) ∙ ap (λ (x : List ℕ). present x t) no_list

module _ (w : List ℕ) (b : Table w) where
  pub table_list : list_in w ≡ rows_by (old_at w) (now_at w) 0 b.rows
  unfolding list_in
  table_list = index_rows w 0 b.rows (omega (arith, b.long))

  pub present_itself : (t : ℕ) → ((j : ℕ) → j < b.rows → old_at w j ≢ t) → present (list_in w) t ≡ t
  present_itself t f =
      ap (λ (x : List ℕ). present x t) table_list
      ∙ present_none (old_at w) (now_at w) t 0 b.rows (λ j l m. f j (omega arith))

  module _ {t r : ℕ} (f : FoundAt w b.rows t r) where
    pub present_row : present (list_in w) t ≡ get_or w (64 + 3 * r + 1) 0
    present_row =
        ap (λ (x : List ℕ). present x t) table_list
        ∙ present_at (old_at w) (now_at w) t 0 b.rows r (omega arith) (omega (arith, f.low)) f.there
        (λ a l q. b.entered.apart a r l (omega (arith, f.low)) (q ∙ sym f.there))
        ∙ ap (λ (k : ℕ). get_or w k 0) (let p : 65 + 3 * r ≡ 64 + 3 * r + 1 = omega arith in p)
