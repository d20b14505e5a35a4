-- The encoding of a whole path is the text of the denoted segments.
use Rattle.std.proofs.Common.{ap, chars, option_copied, ◌∙◌}
use Rattle.uv_model.specs.declared.path.UrlPath.TheVariants.{Segments}
use Rattle.uv_resolve.proofs.WholePathLemmas.{whole-segments}
use Rattle.uv_resolve.proofs.paths.path_of.Goals as goal

pub returns-in_ok-whole-in-Some : goal.returns-in_ok-whole-in-Some
returns-in_ok-whole-in-Some c =
    ap Segments c.in_ok-whole-in-Some.ensures
    ∙ whole-segments (option_copied c.args.base) c.args.class c.args.parts.now (chars c.in-Some.text.now)
    c.in-Some.ensures
