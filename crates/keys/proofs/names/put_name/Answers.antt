-- `put_name` meets its contract, case by case. Assumes nothing.
use mathlib.Core.Path.{sym, ap}
use Rattle.rules.specs.Hash.{name_bytes}
use Rattle.rules.specs.declared.types.Name.{Name}
use Rattle.keys.proofs.Putting.{put_as}
use Rattle.keys.proofs.names.put_name.Goals as goal

pub returns-in-WalkNumber : goal.returns-in-WalkNumber
returns-in-WalkNumber c = put_as (ap (λ (x : Name). name_bytes x) (sym c.in-WalkNumber.is)) c.put_walk_number.ensures

pub returns-in-StoreNumber : goal.returns-in-StoreNumber
returns-in-StoreNumber c = put_as (ap (λ (x : Name). name_bytes x) (sym c.in-StoreNumber.is)) c.put_store_number.ensures
