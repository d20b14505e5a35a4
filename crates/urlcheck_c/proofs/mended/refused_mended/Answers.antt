-- A text that is refused isn't valid without memory.
use Rattle.std.proofs.Common.{◌∙◌, ap}
use Rattle.urlcheck_c.specs.Mended.{unmended}
use Rattle.urlcheck_c.proofs.MemoryLemmas.{mending_lacks, refused_lacks}
use Rattle.urlcheck_c.proofs.mended.refused_mended.Goals as goal

pub returns-in-Err : goal.returns-in-Err
returns-in-Err c =
    let request = c.args.request.now in
    mending_lacks request.profile request.base request.text.now c.args.out.now c.none.result
    (refused_lacks request.profile request.base request.text.now c.requires.none)
    (c.none.ensures ∙ ap unmended c.plain.ensures)
