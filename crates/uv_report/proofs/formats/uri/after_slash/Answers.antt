-- What follows a `/` at the name's start.
use Rattle.std.proofs.Common.{lit<}
use Rattle.std.proofs.lemmas.Str.Pattern.{strip_prefix_char}
use Rattle.uv_report.proofs.UriLemmas.{after_slash-is}
use Rattle.uv_report.proofs.formats.uri.after_slash.Goals as goal

pub returns : goal.returns
returns c =
    after_slash-is c.args.name.now c.strip_prefix.result
    (strip_prefix_char 0x2F c.args.name.now c.strip_prefix.result c.strip_prefix.ensures.cases (lit< tt))
