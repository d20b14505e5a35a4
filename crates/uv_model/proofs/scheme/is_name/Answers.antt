-- A text is a name in some case by its bytes exactly when it is by its code points.
use Rattle.uv_model.proofs.SchemeLemmas.{same_by_bytes}
use Rattle.uv_model.proofs.scheme.is_name.Goals as goal

pub returns : goal.returns
returns c =
    let says = c.eq_ignore_ascii_case.ensures.test in
    same_by_bytes c.args.text.now c.args.name.now c.eq_ignore_ascii_case.result c.utf8.text c.requires says
