-- `keys_rise` meets its contract: each turn leaves the keys behind the next slot to look at. Assumes nothing.
use Rattle.std.proofs.Common.{◌≡◌, ℕ, ◌+◌, ◌-◌, ◌∙◌, sym, ap, arith}
use Rattle.layout.specs.Columns.{columns, at, slot_key}
use Rattle.layout.proofs.Slots.{keys_from, keys_begin, keys_next, keys_fall, keys_end}
use Rattle.layout.proofs.ruled.keys_rise.Goals as goal

pub loop-i-init : goal.loop-i-init
loop-i-init c = keys_begin _ _ _

pub returns-then-at : goal.returns-then-at
returns-then-at c =
    let a = c.args in
    let C = columns a.store.now in
    let i : ℕ = c.loop-i.i in
    let here : c.at.result ≡ at C slot_key (a.first + (i - 1)) = c.at.ensures ∙ ap (λ (k : ℕ). at C slot_key k) (let e : a.first + i - 1 ≡ a.first + (i - 1) = omega arith in e) in
    let there : c.at-in-loop-i.result ≡ at C slot_key (a.first + (i - 1 + 1)) = c.at-in-loop-i.ensures ∙ ap (λ (k : ℕ). at C slot_key k) (let e : a.first + i ≡ a.first + (i - 1 + 1) = omega arith in e) in
    sym (c.loop-i.invariant ∙ keys_fall C a.first a.count (i - 1) (omega arith) (omega arith))

pub loop-i-preserved : goal.loop-i-preserved
loop-i-preserved c =
    let a = c.args in
    let C = columns a.store.now in
    let i : ℕ = c.loop-i.i in
    let here : c.at.result ≡ at C slot_key (a.first + (i - 1)) = c.at.ensures ∙ ap (λ (k : ℕ). at C slot_key k) (let e : a.first + i - 1 ≡ a.first + (i - 1) = omega arith in e) in
    let there : c.at-in-loop-i.result ≡ at C slot_key (a.first + (i - 1 + 1)) = c.at-in-loop-i.ensures ∙ ap (λ (k : ℕ). at C slot_key k) (let e : a.first + i ≡ a.first + (i - 1 + 1) = omega arith in e) in
    c.loop-i.invariant ∙ keys_next C a.first a.count (i - 1) (omega arith) (omega arith)
    ∙ ap (λ (k : ℕ). keys_from C a.first a.count k) (let e : i - 1 + 1 ≡ i + 1 - 1 = omega arith in e)

pub returns : goal.returns
returns c =
    let a = c.args in
    sym (c.loop-i.invariant ∙ keys_end (columns a.store.now) a.first a.count (c.loop-i.i - 1) (omega arith))
