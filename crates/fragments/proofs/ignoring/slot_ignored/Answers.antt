-- `slot_ignored` meets its contract: a word with a flag is not ignored, and one without is its kind, whose bit is tested. Assumes nothing.
use Prim.Native.Nat.{ℕ, ◌-◌}
use native.Mathlib.Omega.{arith}
use mathlib.Core.Bool.{Bool, cond, not, ◌&&◌}
use mathlib.Core.Path.{◌≡◌, sym, ap, ◌∙◌}
use borrow.Author.Tests.{leb-false}
use Rattle.rules.specs.Shells.{ignored}
use Rattle.layout.specs.Columns.{columns, at, slot_kind}
use Rattle.layout.specs.Reading.{attribute_at, kind_from, inherent_from}
use Rattle.fragments.specs.Ignoring.{bit_set}
use Rattle.fragments.proofs.ignoring.slot_ignored.Goals as goal

pub returns-then-inherent_from : goal.returns-then-inherent_from
unfolding ignored attribute_at bit_set kind_from
returns-then-inherent_from c =
    let word : ℕ = at (columns c.args.store.now) slot_kind c.args.slot in
    let bit : ℕ → Bool = bit_set c.args.ignore.bits in
    let flag_told : (f : Bool) → c.inherent_from.result ≡ f → inherent_from word ≡ f =
    λ f. λ e. sym (c.inherent_from.ensures ∙ ap inherent_from c.at-kind.ensures) ∙ e in
    sym (ap (λ (f : Bool). not f && bit (cond f (word - 64) word)) (flag_told _ c.if-inherent_from.true))

pub bit_set-requires : goal.bit_set-requires
bit_set-requires c =
    let word : ℕ = at (columns c.args.store.now) slot_kind c.args.slot in
    let flag_told : (f : Bool) → c.inherent_from.result ≡ f → inherent_from word ≡ f =
    λ f. λ e. sym (c.inherent_from.ensures ∙ ap inherent_from c.at-kind.ensures) ∙ e in
    omega (arith, leb-false 64 word (flag_told _ c.if-inherent_from.false), c.at-kind.ensures)

pub returns : goal.returns
unfolding ignored attribute_at bit_set kind_from
returns c =
    let word : ℕ = at (columns c.args.store.now) slot_kind c.args.slot in
    let bit : ℕ → Bool = bit_set c.args.ignore.bits in
    let flag_told : (f : Bool) → c.inherent_from.result ≡ f → inherent_from word ≡ f =
    λ f. λ e. sym (c.inherent_from.ensures ∙ ap inherent_from c.at-kind.ensures) ∙ e in
    c.bit_set.ensures ∙ ap bit c.at-kind.ensures
    ∙ sym (ap (λ (f : Bool). not f && bit (cond f (word - 64) word)) (flag_told _ c.if-inherent_from.false))
