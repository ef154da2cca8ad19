-- `same_runs` meets its contract: the comparison begins with an empty mapping, and what it has entered is taken out again. Assumes nothing.
use mathlib.Core.Path.{◌≡◌, sym, ap, subst, ◌∙◌}
use lib.ListN.{length, length-replicate}
use Rattle.rules.specs.Mapping.{no_image}
use Rattle.rules.specs.Entered.{EnteredBy, paired_in}
use Rattle.layout.specs.Reading.{store_in}
use Rattle.fragments.specs.Options.{Options}
use Rattle.fragments.specs.View.{options_in}
use Rattle.equivalence.specs.MappingWords.{mapping_of, mapping_length, empty_words}
use Rattle.equivalence.specs.Compares.{answer_of}
use Rattle.repeated_runs.proofs.Compared.{runs_told, runs_unmap}
use Rattle.repeated_runs.proofs.comparing.same_runs.Goals as goal

pub compare_runs-result-requires : goal.compare_runs-result-requires
compare_runs-result-requires c = c.requires.runs_in

pub unmap_entered-requires : goal.unmap_entered-requires
unfolding empty_words
unmap_entered-requires c =
    let rule : Options = options_in c.args.view.now in
    let empty_long : length c.args.mapping.now ≡ mapping_length =
    ap length c.requires.mapping_value ∙ length-replicate mapping_length no_image in
    let q = c.compare_runs-result in
    let many : c.paired_of.result ≡ paired_in (answer_of q.result) = c.paired_of.ensures in
    record {
      sound = c.args.view.now.readable.sound;
      entered_by = subst (λ (n : _). EnteredBy (store_in c.args.view.now.store.now) (mapping_of q.new.mapping) n) (sym many) (runs_unmap rule c.args.view.now.readable.sound c.requires.runs_in c.requires.mapping_value q.result q.new.mapping q.ensures);
    }

pub returns : goal.returns
returns c =
    let q = c.compare_runs-result in
    record {
      value = c.is_ok.ensures.value ∙ runs_told (options_in c.args.view.now) c.args.view.now.readable.sound c.requires.runs_in c.requires.mapping_value q.result q.new.mapping q.ensures;
      mapping_after = c.unmap_entered.ensures;
    }
