-- The text before the last `/`, where there is one.
use Rattle.std.proofs.Common.{◌∙◌, Some, None, ap, arith, lit<, take}
use Rattle.std.proofs.lemmas.Str.Pattern.{rfind_char}
use Rattle.uv_model.specs.Ascii.{slash}
use Rattle.uv_model.proofs.Paths.PathTexts.{cut_path, unslashed_path}
use Rattle.uv_model.proofs.path_text.without_last_segment.Goals as goal

pub returns-in-Some-clause-text : goal.returns-in-Some-clause-text
returns-in-Some-clause-text c =
    let found = rfind_char slash c.args.path.now (Some c.in-Some.end) c.in-Some.ensures.cases (lit< tt) in
    cut_path c.args.path.now c.range.result.now c.in-Some.end c.requires found.0 found.1 found.2
    (c.range.ensures.value ∙ ap (λ n. take n c.args.path.now) (omega arith))

pub returns-in-None-clause-text : goal.returns-in-None-clause-text
returns-in-None-clause-text c =
    unslashed_path c.args.path.now c.requires
    (rfind_char slash c.args.path.now None c.in-None.ensures.cases (lit< tt))
