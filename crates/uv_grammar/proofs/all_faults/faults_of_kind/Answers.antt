-- The violations against a base of the kind are those against each.
use Rattle.std.specs.Prelude.{Some}
use Rattle.std.specs.Str.{chars}
use Rattle.std.proofs.lemmas.Result.{IfOk-weaker}
use Rattle.uv_model.specs.Violations.AllViolations.{AreFaults}
use Rattle.uv_grammar.specs.Bases.{url_of_kind}
use Rattle.uv_grammar.proofs.KindLemmas.{faults_alike, kind_alike}
use Rattle.uv_grammar.proofs.all_faults.faults_of_kind.Goals as goal

pub returns : goal.returns
returns c = λ url is.
    let text = chars c.args.text.now in
    let base = url_of_kind c.args.base in
    IfOk-weaker c.faults_against.result (λ found. AreFaults c.args.profile (Some base) text found.items)
    (λ found. AreFaults c.args.profile (Some url) text found.items)
    (λ found are. faults_alike c.args.profile base url text (kind_alike url c.args.base is) found.items are)
    c.faults_against.ensures
