use Rattle.std.proofs.Common.{rules, tests}
use Rattle.std.proofs.lemmas.Iterator.Search.{all_from_yields_List}
use Rattle.std.proofs.lemmas.Iterator.Splits.{YieldsList-from_slice_split}
use Rattle.idna.specs.Labels.{is_full_stop}
use Rattle.idna.specs.Validity.{passes_hyphens}
use Rattle.idna.specs.declared.options.Hyphens.TheVariants.{Check}
use Rattle.uv_host.proofs.names.has_placed_hyphens.Goals as goal

pub returns : goal.returns
returns c =
    all_from_yields_List (passes_hyphens Check) _ _ _ c.all.ensures.ran
    (YieldsList-from_slice_split _ is_full_stop c.args.name.now c.split.ensures.rest c.split.ensures.done
    c.split.ensures.closure (λ x r q k. search (rules, tests)))
    (λ x b q k. search (rules, tests))
