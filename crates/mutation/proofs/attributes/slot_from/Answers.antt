-- `slot_from` meets its contract: as many slots are passed as have keys below this one. Assumes nothing.
use Prim.Native.Nat.{ℕ, ◌+◌, ◌-◌, ◌≤◌}
use native.Mathlib.Omega.{arith}
use mathlib.Core.Path.{◌≡◌, ap, ◌∙◌}
use borrow.Author.Tests.{tests}
use Rattle.std.proofs.Common.{rules}
use Rattle.std.specs.List.{prefix_len}
use Rattle.std.proofs.lemmas.Iterator.{YieldsList-from_slice}
use Rattle.std.proofs.lemmas.Iterator.Search.{YieldsList-from_take_while}
use Rattle.std.proofs.lemmas.Iterator.Consumers.{count_from_yields_List}
use Rattle.std.proofs.lemmas.List.Folds.{length-prefix_len}
use lib.Dec.{ltb}
use lib.ListN.{length, take, drop}
use Rattle.layout.specs.Columns.{columns, slot_key, slot_count}
use Rattle.layout.specs.Reading.{slice}
use Rattle.layout.proofs.Buffer.{columns_shaped}
use Rattle.mutation.proofs.Seeking.{seek_past}
use Rattle.mutation.proofs.attributes.slot_from.Goals as goal

pub returns : goal.returns
unfolding slice
returns c =
    let a = c.args in
    let keys = c.words-keys.result.now in
    let counted = count_from_yields_List c.take_while.result c.count.result c.count.ensures.ran (YieldsList-from_take_while _ (λ k. ltb k a.key) (YieldsList-from_slice keys cc) c.take_while.ensures.closure c.take_while.ensures.done (λ x b q k. search (rules, tests))) in
    let found = counted ∙ length-prefix_len (λ k. ltb k a.key) keys ∙ ap (prefix_len (λ k. ltb k a.key)) c.words-keys.ensures in
    let few : a.first + a.count - a.first ≡ a.count = omega arith in
    let long : length (columns a.store.now slot_key) ≡ slot_count = columns_shaped a.store.now c.told-store slot_key in
    let past : a.first + a.count ≤ length (columns a.store.now slot_key) = omega arith in
    ap (λ (n : ℕ). a.first + n) (found ∙ ap (λ (n : ℕ). prefix_len (λ k. ltb k a.key) (take n (drop a.first (columns a.store.now slot_key)))) few)
    ∙ seek_past (columns a.store.now) a.key a.first a.count past
