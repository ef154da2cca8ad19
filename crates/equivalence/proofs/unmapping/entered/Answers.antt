-- `entered` meets its contract: entries are somewhere in the mapping, and where the search has left none, in what it has found. Assumes
-- nothing.
use Rattle.std.proofs.Common.{sym, subst, arith}
use Rattle.layout.specs.Columns.{columns}
use Rattle.layout.proofs.Laid.{laid_facts}
use Rattle.equivalence.specs.Unmapping.{EntriesIn}
use Rattle.equivalence.proofs.Searching.{whole, at_last}
use Rattle.equivalence.proofs.unmapping.entered.Goals as goal

pub returns-then-paired-gt-FEW : goal.returns-then-paired-gt-FEW
returns-then-paired-gt-FEW c =
    subst (EntriesIn c.args.mapping.now) (sym c.everywhere.ensures) (whole c.args.mapping.now c.told-mapping)

pub returns-then-search-gt0 : goal.returns-then-search-gt0
returns-then-search-gt0 c =
    subst (EntriesIn c.args.mapping.now) (sym c.everywhere-then-search-gt0.ensures) (whole c.args.mapping.now c.told-mapping)

pub returns : goal.returns
returns c =
    at_last (columns c.args.store.now) (laid_facts _ c.requires.sound.laid) c.args.mapping.now c.told-mapping 2816 c.searched-search.result
    c.searched-search.ensures (omega (arith, c.if-search-gt0.false))
