-- `write_twins` meets its contract: with each turn one word more is in its place. Assumes nothing.
use Rattle.std.proofs.Common.{ℕ, ◌<◌, ◌≡◌, ◌≢◌, length, refl, ap, ◌∙◌, arith, below_more, get_or-set_other, get_or-set_same}
use Rattle.std.specs.Option.{unwrap_or}
use Rattle.std.specs.Prelude as std
use Rattle.rules.specs.Grouping.{no_twin}
use Rattle.rules.specs.Types.{renamed}
use Rattle.rules.proofs.Soundness.Sound.{facts}
use Rattle.layout.specs.Columns.{columns}
use Rattle.layout.specs.Reading.{op_count, store_in}
use Rattle.layout.proofs.Tabulate.{ops_length}
use Rattle.fragments.specs.Options.{renamed_under}
use Rattle.fragments.specs.View.{options_in}
use Rattle.equivalence.specs.MappingWords.{empty_words}
use Rattle.grouping.proofs.Words.{all_twins, word_is}
use Rattle.grouping.proofs.finding.write_twins.Goals as goal

pub new-chains-requires : goal.new-chains-requires
new-chains-requires c =
    omega (arith, c.requires.hashes.many, (facts (store_in c.args.view.now.store.now) c.args.view.now.readable.sound.ruled).totals.ops)

pub loop-n-init : goal.loop-n-init
unfolding empty_words
loop-n-init c = (refl, λ k l. absurd (omega arith))

pub loop-n-preserved : goal.loop-n-preserved
loop-n-preserved c = (
  c.twin_of-twin.ensures.mapping_after,
  below_more _ _
      (λ k l. let ne : k ≢ c.loop-n.n = omega arith in rw get_or-set_other (c.loop-n.invariant.1 k l))
      (let here : c.loop-n.n < length c.loop-n.twins = omega arith in
      rw get_or-set_same (c.unwrap_or.ensures ∙ ap (λ (t : std.Option ℕ). unwrap_or t no_twin) c.twin_of-twin.ensures.value ∙ word_is _)),
)

pub returns : goal.returns
unfolding renamed
returns c =
    let s = store_in c.args.view.now.store.now in
    let long : length s.ops ≡ op_count (columns c.args.view.now.store.now) = ops_length (columns c.args.view.now.store.now) in
    all_twins (renamed_under (options_in c.args.view.now) s) (options_in c.args.view.now).ignore c.loop-n.twins
    (omega (arith, c.loop-n.auto, c.requires.twins_len, long))
    (λ k l. let below : k < length s.ops = l in c.loop-n.invariant.1 k (omega (arith, below, c.loop-n-test.false, c.requires.twins_len, long)))
