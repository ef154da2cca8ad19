-- `images_allowed` meets its contract: the flag answers of the entries that were passed. Assumes nothing.
use Rattle.std.proofs.Common.{rules, ◌≡◌, refl, subst}
use Rattle.std.proofs.lemmas.Fn.{fold_over, slice_gives, fronts}
use Rattle.std.specs.List.{list_all}
use Rattle.equivalence.specs.MappingWords.{image_allowed}
use Rattle.equivalence.proofs.MappingEntries.{all_push}
use Rattle.equivalence.proofs.mapping.images_allowed.Goals as goal

pub returns : goal.returns
returns c =
    subst (λ l. c.fold.result ≡ list_all (image_allowed c.args.count) l) c.iter.ensures.rest
    (fold_over fronts (λ y. y.now) _ (λ ys good. good ≡ list_all (image_allowed c.args.count) ys) _
    (λ ys a x b f' j k. let more = all_push (image_allowed c.args.count) ys x.now in search rules)
    _ _ _ _ (slice_gives c.iter.result) refl c.fold.ensures.ran)
