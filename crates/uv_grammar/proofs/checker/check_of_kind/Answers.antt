-- A verdict against a base of the kind is one against each.
use Rattle.std.specs.Prelude.{Some}
use Rattle.std.specs.Str.{chars}
use Rattle.std.proofs.lemmas.Result.{IfOk-weaker}
use Rattle.uv_grammar.specs.Bases.{url_of_kind}
use Rattle.uv_grammar.specs.Verdict.{IsVerdict}
use Rattle.uv_grammar.proofs.KindLemmas.{flip, kind_alike, memory_alike, verdict_alike}
use Rattle.uv_grammar.proofs.checker.check_of_kind.Goals as goal

pub returns-in-Some-plain_rest-clause-answer : goal.returns-in-Some-plain_rest-clause-answer
returns-in-Some-plain_rest-clause-answer c = λ url is. c.plain_parts.ensures c.args.profile (Some url)

pub returns-clause-answer : goal.returns-clause-answer
returns-clause-answer c = λ url is.
    let text = chars c.args.text.now in
    let base = url_of_kind c.args.base in
    IfOk-weaker c.check_otherwise.result (IsVerdict c.args.profile (Some base) text)
    (IsVerdict c.args.profile (Some url) text)
    (verdict_alike c.args.profile base url text (kind_alike url c.args.base is)) c.check_otherwise.ensures.answer

pub returns-clause-memory : goal.returns-clause-memory
returns-clause-memory c = λ url is takes.
    let base = url_of_kind c.args.base in
    c.check_otherwise.ensures.memory
    (memory_alike c.args.profile url base (chars c.args.text.now)
    (flip base url (kind_alike url c.args.base is)) takes)
