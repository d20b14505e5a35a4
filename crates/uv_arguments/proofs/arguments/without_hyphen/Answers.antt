-- The text after a hyphen, or the whole one.
use Rattle.std.proofs.Common.{None, Some, lit<}
use Rattle.std.proofs.lemmas.Str.Pattern.{strip_prefix_char}
use Rattle.uv_arguments.proofs.ArgumentLemmas.{without_none, without_some}
use Rattle.uv_arguments.proofs.arguments.without_hyphen.Goals as goal

pub returns-in-Some : goal.returns-in-Some
returns-in-Some c =
    without_some c.args.text.now c.in-Some.rest.now
    (strip_prefix_char 0x2D c.args.text.now (Some c.in-Some.rest) c.in-Some.ensures.cases (lit< tt))

pub returns-in-None : goal.returns-in-None
returns-in-None c =
    without_none c.args.text.now (strip_prefix_char 0x2D c.args.text.now None c.in-None.ensures.cases (lit< tt))
