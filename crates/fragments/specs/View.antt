-- A store as a call sees it, as the rules have it.
use Rattle.rules.specs.Store.{Store}
use Rattle.layout.specs.Reading.{store_in}
use Rattle.fragments.specs.Options.{Options, options_of}
use Rattle.fragments.specs.declared.view.StoreView.{StoreView}

-- the store that it reads
abbrev pub store_read : StoreView → Store
store_read view = store_in view.store.now

-- what it looks past
abbrev pub options_in : StoreView → Options
options_in view = options_of view.ignore view.index.now
