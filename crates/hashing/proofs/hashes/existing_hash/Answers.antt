-- `existing_hash` meets its contract: it answers the word that the fragment's steps are fed into. Assumes nothing.
use Rattle.std.proofs.Common.{◌≡◌, true, subst, sym}
use Rattle.rules.specs.Fragments.{exists}
use Rattle.rules.specs.declared.types.Sort.{Sort}
use Rattle.rules.specs.declared.types.Sort.TheVariants.{Op as op}
use Rattle.rules.specs.Hash.{hash}
use Rattle.layout.specs.Columns.{columns}
use Rattle.layout.specs.Reading.{store_in}
use Rattle.fragments.specs.Options.{renamed_under}
use Rattle.fragments.specs.View.{options_in}
use Rattle.fragments.proofs.There.{there}
use Rattle.fragments.proofs.Counting.{room_start, stands_start}
use Rattle.hashing.proofs.Feeding.{fed_hash}
use Rattle.hashing.proofs.hashes.existing_hash.Goals as goal

pub holds_nothing-requires : goal.holds_nothing-requires
holds_nothing-requires c = record { sound = c.args.view.now.readable.sound; n_value = c.requires }

pub hash_regionless-requires : goal.hash_regionless-requires
hash_regionless-requires c =
    let a = c.args in
    let alone = c.holds_nothing.ensures c.if-holds_nothing.true in
    record {
      n_bound = there (columns a.view.now.store.now) op a.n (subst (λ (x : Sort). exists (store_in a.view.now.store.now) x a.n ≡ true) alone.0 c.requires);
      n_value = alone.1;
    }

pub returns-then-holds_nothing : goal.returns-then-holds_nothing
returns-then-holds_nothing c =
    let a = c.args in
    let alone = c.holds_nothing.ensures c.if-holds_nothing.true in
    subst (λ (x : Sort). c.hash_regionless.result ≡ hash (renamed_under (options_in a.view.now) (store_in a.view.now.store.now)) a.view.now.ignore x a.n) (sym alone.0) c.hash_regionless.ensures

pub hash_steps-requires : goal.hash_steps-requires
hash_steps-requires c =
    record {
      n_value = c.requires;
      definitions_fit = room_start (store_in c.args.view.now.store.now) c.args.view.now.readable.sound.ruled c.args.sort c.args.n c.requires;
    }

pub returns : goal.returns
returns c =
    let a = c.args in
    let S = store_in a.view.now.store.now in
    fed_hash S (options_in a.view.now) a.sort a.n (stands_start S) c.new-state.ensures c.hash_steps.ensures
