-- `wz_known_basic_block_key_length` meets its contract: it is `key_length` at its sort. Assumes nothing.
use mathlib.Core.Path.{sym}
use Rattle.fragments.specs.Index.{list_in}
use Rattle.warzhigo_c.specs.Codes.{ignoring}
use borrow.Author.Rules.{rules}
use Rattle.warzhigo_c.proofs.known.wz_known_basic_block_key_length.Goals as goal

pub key_length-requires : goal.key_length-requires
key_length-requires c =
    record { sound = search rules; n_value = search rules }

pub returns : goal.returns
unfolding ignoring
returns c = rw (sym c.array.ensures) (c.key_length.ensures (list_in c.args.index.now))
