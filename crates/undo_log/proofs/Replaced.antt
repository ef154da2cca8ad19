-- How many replacements are remembered: in parts of the journal, by a call, and mark by mark. Assumes nothing.
use Prim.Native.Nat.{ℕ, ◌+◌, ◌≤◌}
use native.Mathlib.Omega.{arith}
use mathlib.Core.Bool.{Bool, true, false, cond}
use mathlib.Core.List.{List, [], ◌∷◌, ◌++◌, map, Memᴰ}
use mathlib.Core.Path.{◌≡◌, refl, ap, ◌∙◌}
use lib.ListN.{length, take, drop, length-append, take-append-drop}
use Rattle.std.specs.List.{filter}
use Rattle.rules.specs.Store.{Store}
use Rattle.rules.specs.Building.{Call, new_operation, new_block, set_attribute, set_operand, attributes_of, has_key}
use Rattle.rules.specs.Marks.{Mark, replaces, with_since, recounted}
use Rattle.rules.proofs.Basics.Filtered.{filter_append}
use Rattle.rules.proofs.Basics.Cut.{map_through}
use Rattle.layout.specs.Journal.{Entry, attribute_was, key_was_none, attribute_or, entries_for, is_replaced, replaced_in, MarkRow}

pub replaced_append : (xs ys : List Entry) → replaced_in (xs ++ ys) ≡ replaced_in xs + replaced_in ys
unfolding replaced_in
replaced_append xs ys = ap length (filter_append is_replaced xs ys) ∙ length-append (filter is_replaced xs) (filter is_replaced ys)

pub replaced_drop : (n : ℕ) (es : List Entry) → replaced_in (drop n es) ≤ replaced_in es
replaced_drop n es = omega (arith, replaced_append (take n es) (drop n es), ap replaced_in (take-append-drop n es))

pub replaced_take : (n : ℕ) (es : List Entry) → replaced_in (take n es) ≤ replaced_in es
replaced_take n es = omega (arith, replaced_append (take n es) (drop n es), ap replaced_in (take-append-drop n es))

pub replaced_by : (s : Store) (c : Call) (n : ℕ) → n + replaced_in (entries_for s c) ≡ cond (replaces s c) (n + 1) n
unfolding replaced_in is_replaced entries_for replaces
replaced_by s (new_operation o) n = omega arith
replaced_by s (new_block b) n = omega arith
replaced_by s (set_attribute w a) n = go (has_key a.key (attributes_of s w))
  where
    go : (b : Bool) → n + replaced_in (cond b (attribute_was w (attribute_or a a.key (attributes_of s w))) (key_was_none w a.key) ∷ []) ≡ cond b (n + 1) n
    go true = refl
    go false = omega arith
replaced_by s (set_operand u) n = refl

-- marks counted anew, row by row
pub map_recounted : (f g : MarkRow → Mark) (u : ℕ → ℕ) (rs : List MarkRow) → ((r : MarkRow) → Memᴰ r rs → f r ≡ with_since (u (g r).since) (g r))
    → map f rs ≡ recounted u (map g rs)
unfolding recounted
map_recounted f g u rs e = map_through f (λ (m : Mark). with_since (u m.since) m) g rs e
