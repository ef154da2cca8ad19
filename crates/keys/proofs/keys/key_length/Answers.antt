-- `key_length` meets its contract: no words are the index of no types, and types take as many bytes whatever they are. Assumes nothing.
use mathlib.Core.List.{[]}
use mathlib.Core.Path.{refl, sym, ◌∙◌}
use Rattle.rules.proofs.Extents.Lengths.{key_length_renamed}
use Rattle.layout.specs.Reading.{store_in}
use Rattle.fragments.specs.Options.{options_of}
use Rattle.keys.proofs.Answering.{empty_index, whole_length}
use Rattle.keys.proofs.keys.key_length.Goals as goal

pub invariant_of-view : goal.invariant_of-view
invariant_of-view c = record { readable = record { sound = c.requires.sound; indexed = empty_index _ refl } }

pub returns : goal.returns
returns c =
    λ types.
    let a = c.args in
    let S = store_in a.store.now in
    let f = a.sort in
    (whole_length S (options_of a.ignore []) f a.n c.requires.sound.ruled c.requires.n_value c.put_fragment.ensures).0
    ∙ sym (key_length_renamed types S a.ignore f a.n)
