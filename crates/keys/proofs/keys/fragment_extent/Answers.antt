-- `fragment_extent` meets its contract: what is written into no bytes is as long as the key. Assumes nothing.
use native.Mathlib.Omega.{arith}
use mathlib.Core.Bool.{true}
use mathlib.Core.List.{[]}
use lib.ListN.{length}
use mathlib.Core.Path.{◌≡◌, refl, sym, subst, ◌∙◌}
use Rattle.rules.specs.Fragments.{exists}
use Rattle.rules.specs.declared.types.Sort.{Sort}
use Rattle.rules.specs.declared.types.Sort.TheVariants.{Op as op}
use Rattle.rules.specs.Extents.{extent}
use Rattle.rules.specs.Keys.{key}
use Rattle.rules.proofs.Extents.Lengths.{key_length_renamed}
use Rattle.layout.specs.Columns.{columns}
use Rattle.layout.specs.Reading.{store_in}
use Rattle.fragments.specs.Options.{Options, options_of}
use Rattle.fragments.proofs.There.{there}
use Rattle.fragments.proofs.Counting.{room_start}
use Rattle.keys.specs.Extents.{extent_means}
use Rattle.keys.proofs.Answering.{empty_index, longest, wrote_whole, whole_length}
use Rattle.keys.proofs.Sizing.{extent_alone, extent_walked}
use Rattle.keys.proofs.keys.fragment_extent.Goals as goal

-- ---- alone

pub overflow_cast-key_length : goal.overflow_cast-key_length
overflow_cast-key_length c =
    let a = c.args in
    let o : Options = record { ignore = a.ignore; types = [] } in
    let most = longest (store_in a.store.now) o a.sort a.n c.requires.sound.ruled c.requires.n_value in
    record { fits = omega (arith, c.key_length.ensures [], most) }

pub lone_extent-requires-clause-n_bound : goal.lone_extent-requires-clause-n_bound
lone_extent-requires-clause-n_bound c =
    let alone = c.holds_nothing.ensures c.if-holds_nothing.true in
    there (columns c.args.store.now) op c.args.n (subst (λ (x : Sort). exists (store_in c.args.store.now) x c.args.n ≡ true) alone.0 c.requires.n_value)

pub returns-then-holds_nothing : goal.returns-then-holds_nothing
returns-then-holds_nothing c =
    let a = c.args in
    let S = store_in a.store.now in
    let alone = c.holds_nothing.ensures c.if-holds_nothing.true in
    let bytes = c.key_length.ensures [] ∙ key_length_renamed [] S a.ignore a.sort a.n in
    subst (λ (f : Sort). extent_means c.lone_extent.result ≡ extent S a.ignore f a.n) (sym alone.0)
    (c.lone_extent.ensures ∙ extent_alone S a.ignore a.n alone.1 c.key_length.result
    (subst (λ (f : Sort). c.key_length.result ≡ length (key S a.ignore f a.n)) alone.0 bytes))

-- ---- walked

pub invariant_of-view : goal.invariant_of-view
invariant_of-view c = record { readable = record { sound = c.requires.sound; indexed = empty_index _ refl } }

pub put_steps-bytes-requires-clause-definitions_fit : goal.put_steps-bytes-requires-clause-definitions_fit
put_steps-bytes-requires-clause-definitions_fit c =
    room_start (store_in c.args.store.now) c.requires.sound.ruled c.args.sort c.args.n c.requires.n_value

pub overflow_cast-bytes : goal.overflow_cast-bytes
overflow_cast-bytes c =
    let a = c.args in
    let S = store_in a.store.now in
    let f = a.sort in
    let o = options_of a.ignore [] in
    let w = whole_length S o f a.n c.requires.sound.ruled c.requires.n_value (wrote_whole S o f a.n refl c.put_steps-bytes.ensures) in
    record { fits = omega (arith, w.1) }

pub returns : goal.returns
returns c =
    let a = c.args in
    let S = store_in a.store.now in
    let f = a.sort in
    let o = options_of a.ignore [] in
    let w = whole_length S o f a.n c.requires.sound.ruled c.requires.n_value (wrote_whole S o f a.n refl c.put_steps-bytes.ensures) in
    let size = c.fragment_size.ensures in
    c.walked_extent.ensures ∙ extent_walked S a.ignore f a.n c.put_steps-bytes.ensures.numbers w.0 size.operations size.nesting
