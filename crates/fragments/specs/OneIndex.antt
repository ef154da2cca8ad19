-- That words are an index of a list of renamed types can be so in one way only.
use Rattle.std.proofs.Common.{ℕ, ◌+◌, ◌*◌, ◌≤◌, List, [], ◌≡◌, length, true, ap, subst, arith}
use Rattle.std.proofs.Props.{props}
use Rattle.rules.specs.Types.{types_hold}
use Rattle.fragments.specs.Index.{Link, Entered, Table, IsIndex, nothing, table, list_in}

link_prop : (w : List ℕ) (b upto k : ℕ) → IsProp (Link w b upto k)
link_prop w b upto k = hlevel props

entered_prop : (w : List ℕ) (n : ℕ) → IsProp (Entered w n)
entered_prop w n = hlevel (props, link_prop)

-- a table with so many rows
record TableOf (w : List ℕ) (n : ℕ) : Type 0 where
  pub few : n ≤ 64
  pub long : length w ≡ 64 + 3 * n
  pub entered : Entered w n
  pub holds : types_hold (list_in w) ≡ true

table_of_prop : (w : List ℕ) (n : ℕ) → IsProp (TableOf w n)
table_of_prop w n = hlevel (props, entered_prop)

as_table : {w : List ℕ} (n : ℕ) → TableOf w n → Table w
as_table n t = record { rows = n; few = t.few; long = t.long; entered = t.entered; holds = t.holds }

its_rows : {w : List ℕ} (t : Table w) → TableOf w t.rows
its_rows t = record { few = t.few; long = t.long; entered = t.entered; holds = t.holds }

table_prop : (w : List ℕ) → IsProp (Table w)
unfolding as_table its_rows
table_prop w a b =
    let same : a.rows ≡ b.rows = omega (arith, a.long, b.long) in
    subst (λ (n : ℕ). (t : TableOf w n) → a ≡ as_table n t) same (λ t. ap (as_table a.rows) (table_of_prop w a.rows (its_rows a) t)) (its_rows b)

no_words_prop : (w : List ℕ) → IsProp (w ≡ [])
no_words_prop w = hlevel props

no_table : (w : List ℕ) → w ≡ [] → Table w → ⊥
no_table w e t = let few : length w ≡ 0 = ap length e in omega (arith, few, t.long)

pub is_index_prop : (w : List ℕ) → IsProp (IsIndex w)
is_index_prop w (nothing a) (nothing b) = ap nothing (no_words_prop w a b)
is_index_prop w (nothing a) (table b) = absurd (no_table w a b)
is_index_prop w (table a) (nothing b) = absurd (no_table w b a)
is_index_prop w (table a) (table b) = ap table (table_prop w a b)
