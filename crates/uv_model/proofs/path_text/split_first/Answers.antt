-- A text is cut at its first `/`.
use Rattle.std.proofs.Common.{None, Some, lit<}
use Rattle.std.proofs.lemmas.Str.Pattern.{split_parts}
use Rattle.uv_model.specs.Ascii.{slash}
use Rattle.uv_model.proofs.Paths.PathTexts.{first_piece, only_piece}
use Rattle.uv_model.proofs.path_text.split_first.Goals as goal

pub returns-in-Some-clause-pieces : goal.returns-in-Some-clause-pieces
returns-in-Some-clause-pieces c =
    let parts =
    split_parts slash c.args.text.now (Some (c.in-Some.first, c.in-Some.rest)) c.in-Some.ensures.cases (lit< tt) in
    first_piece c.args.text.now c.in-Some.first.now c.in-Some.rest.now parts.0 parts.1

pub returns-in-None-clause-pieces : goal.returns-in-None-clause-pieces
returns-in-None-clause-pieces c =
    only_piece c.args.text.now (split_parts slash c.args.text.now None c.in-None.ensures.cases (lit< tt))
