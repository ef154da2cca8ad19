-- What a call is asked to look past: what is ignored, and which types are renamed.
use Rattle.std.specs.Prelude.{List, ℕ}
use Rattle.rules.specs.Store.{Store}
use Rattle.rules.specs.Shells as rules
use Rattle.rules.specs.Types.{renamed}
use Rattle.layout.specs.Soundness.{IsSound}
use Rattle.std.proofs.Props.{props}
use Rattle.fragments.specs.Index.{list_in, IsIndex}
use Rattle.fragments.specs.OneIndex.{is_index_prop}
use Rattle.rules.specs.declared.types.Ignore.{Ignore}

pub record Options : Type 0 where
  pub ignore : Ignore
  pub types : List ℕ

-- what the code's rule and index of types stand for
abbrev pub options_of : Ignore → List ℕ → Options
options_of x index = record { ignore = x; types = list_in index }

-- the store as it is read: with present types
abbrev pub renamed_under : Options → Store → Store
renamed_under o s = renamed o.types s

-- a sound store, and an index of a list of types: what a walk that reads types asks for
pub record Readable (store types : List ℕ) : Type 0 where
  pub sound : IsSound store
  pub indexed : IsIndex types

-- they are so in one way only
pub readable_prop : (store types : List ℕ) → IsProp (Readable store types)
readable_prop store types = hlevel (props, is_index_prop)
