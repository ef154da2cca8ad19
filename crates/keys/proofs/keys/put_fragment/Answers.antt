-- `put_fragment` meets its contract: with nothing numbered, what the steps put is the key. Assumes nothing.
use mathlib.Core.Bool.{true}
use mathlib.Core.Path.{◌≡◌, refl, subst}
use Rattle.rules.specs.Fragments.{exists}
use Rattle.rules.specs.declared.types.Sort.{Sort}
use Rattle.rules.specs.declared.types.Sort.TheVariants.{Op as op}
use Rattle.layout.specs.Columns.{columns}
use Rattle.fragments.specs.View.{store_read, options_in}
use Rattle.fragments.proofs.There.{there}
use Rattle.fragments.proofs.Counting.{room_start}
use Rattle.keys.proofs.Answering.{wrote_whole}
use Rattle.keys.proofs.keys.put_fragment.Goals as goal

pub put_regionless-requires-clause-n_bound : goal.put_regionless-requires-clause-n_bound
put_regionless-requires-clause-n_bound c =
    let alone = c.holds_nothing.ensures c.if-holds_nothing.true in
    there (columns c.args.view.now.store.now) op c.args.n
    (subst (λ (x : Sort). exists (store_read c.args.view.now) x c.args.n ≡ true) alone.0 c.requires.n_value)

pub put_steps-requires-clause-definitions_fit : goal.put_steps-requires-clause-definitions_fit
put_steps-requires-clause-definitions_fit c =
    room_start (store_read c.args.view.now) c.args.view.now.readable.sound.ruled c.args.sort c.args.n c.requires.n_value

pub returns : goal.returns
returns c =
    wrote_whole (store_read c.args.view.now) (options_in c.args.view.now) c.args.sort c.args.n refl c.put_steps.ensures
