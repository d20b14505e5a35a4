-- The base is the one that is given.
use Rattle.std.proofs.Common.{subst}
use Rattle.std.specs.Prelude.{Option}
use Rattle.urlcheck_c.specs.declared.bases.Base.{Base}
use Rattle.urlcheck_c.specs.Batch.{IsBatchAnswer, columns}
use Rattle.urlcheck_c.proofs.batches.urlcheck_check_many.Goals as goal

pub returns : goal.returns
returns c =
    subst
    (λ (base : Option Base).
    IsBatchAnswer c.args.profile base c.args.texts.now c.args.offsets.now
    (columns c.args.verdicts.now c.args.rules.now c.args.places.now)
    (columns c.checked.new.verdicts c.checked.new.rules c.checked.new.places) c.checked.result)
    c.given_base.ensures c.checked.ensures
