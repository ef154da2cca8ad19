-- `key_fits` meets its contract: no key is longer than the longest, and else its length is compared. Assumes nothing.
use Prim.Native.Nat.{ℕ}
use native.Mathlib.Omega.{arith}
use mathlib.Core.Path.{sym, ap, ◌∙◌}
use borrow.Author.Tests.{le-leb}
use lib.Dec.{leb}
use lib.ListN.{length}
use Rattle.rules.specs.Keys.{key, longest_key}
use Rattle.layout.specs.Reading.{store_in}
use Rattle.fragments.specs.Options.{Options, renamed_under}
use Rattle.keys.proofs.Answering.{longest}
use Rattle.keys.proofs.keys.key_fits.Goals as goal

pub returns-then-room-ge-LONGEST_KEY : goal.returns-then-room-ge-LONGEST_KEY
returns-then-room-ge-LONGEST_KEY c =
    λ types.
    let a = c.args in
    let S = store_in a.store.now in
    let o : Options = record { ignore = a.ignore; types = types } in
    let f = a.sort in
    le-leb longest_key a.room c.if-room-ge-LONGEST_KEY.true
    ∙ sym (le-leb (length (key (renamed_under o S) o.ignore f a.n)) a.room
    (omega (arith, longest S o f a.n c.requires.sound.ruled c.requires.n_value, c.if-room-ge-LONGEST_KEY.true)))

pub returns-else-room-ge-LONGEST_KEY : goal.returns-else-room-ge-LONGEST_KEY
returns-else-room-ge-LONGEST_KEY c = λ types. ap (λ (n : ℕ). leb n c.args.room) (c.key_length.ensures types)
