-- What is before the first NUL.
use Rattle.std.proofs.Common.{None, Some, lit<}
use Rattle.std.proofs.lemmas.Str.Pattern.{split_once_first}
use Rattle.uv_arguments.proofs.ArgumentLemmas.{said_before, said_none}
use Rattle.uv_arguments.proofs.arguments.said_of.Goals as goal

pub returns-in-Some : goal.returns-in-Some
returns-in-Some c =
    let first =
    split_once_first 0 c.args.text.now (Some (c.in-Some.said, c.in-Some.field-0-1)) c.in-Some.ensures.cases (lit< tt) in
    said_before c.args.text.now c.in-Some.said.now c.without_hyphen.result.now first.0 first.1
    c.without_hyphen.ensures

pub returns-in-None : goal.returns-in-None
returns-in-None c =
    said_none c.args.text.now (split_once_first 0 c.args.text.now None c.in-None.ensures.cases (lit< tt))
