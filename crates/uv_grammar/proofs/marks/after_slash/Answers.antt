-- What follows a `/` at the text's start.
use Rattle.std.proofs.Common.{lit<}
use Rattle.std.proofs.lemmas.Str.Pattern.{strip_prefix_char}
use Rattle.uv_model.specs.Ascii.{slash}
use Rattle.uv_grammar.proofs.SliceLemmas.{after_first_slash}
use Rattle.uv_grammar.proofs.marks.after_slash.Goals as goal

pub returns : goal.returns
returns c =
    after_first_slash c.args.text.now c.strip_prefix.result c.utf8.text
    (strip_prefix_char slash c.args.text.now c.strip_prefix.result c.strip_prefix.ensures.cases (lit< tt))
