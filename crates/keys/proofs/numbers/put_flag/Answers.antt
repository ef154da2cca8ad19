-- `put_flag` meets its contract: yes is tag 1, no is tag 0. Assumes nothing.
use mathlib.Core.Path.{ap, ◌∙◌}
use Rattle.rules.specs.Hash.{tag}
use Rattle.keys.proofs.LittleEndian.{flag_lem}
use Rattle.keys.proofs.Putting.{put_as}
use Rattle.keys.proofs.numbers.put_flag.Goals as goal

pub returns : goal.returns
returns c = put_as (ap tag c.from.ensures ∙ flag_lem c.args.yes) c.put_tag.ensures
