-- A path's text is empty, or begins with `/`.
use Rattle.std.proofs.Common.{◌∙◌, ap, lit<, subst, sym}
use Rattle.std.proofs.lemmas.Str.Pattern.{strip_prefix_char}
use Rattle.uv_model.specs.Ascii.{slash}
use Rattle.uv_model.specs.Path.{segments_after}
use Rattle.uv_model.specs.Records.PathText.{IsPathText}
use Rattle.uv_model.proofs.Paths.PathTexts.{after_ascii, after_start}
use Rattle.uv_model.proofs.path_text.PathText.after_slash.Goals as goal

pub returns-clause-segments : goal.returns-clause-segments
returns-clause-segments c =
    after_start c.as_str.result.now c.strip_prefix.result
    (subst IsPathText (sym c.as_str.ensures) c.self.invariant)
    (strip_prefix_char slash c.as_str.result.now c.strip_prefix.result c.strip_prefix.ensures.cases (lit< tt))
    ∙ ap segments_after c.as_str.ensures ∙ c.self.view_is

pub returns-clause-ascii : goal.returns-clause-ascii
returns-clause-ascii c =
    after_ascii c.as_str.result.now c.strip_prefix.result
    (subst IsPathText (sym c.as_str.ensures) c.self.invariant)
    (strip_prefix_char slash c.as_str.result.now c.strip_prefix.result c.strip_prefix.ensures.cases (lit< tt))
