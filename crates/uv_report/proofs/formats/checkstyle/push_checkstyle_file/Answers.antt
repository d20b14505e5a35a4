-- The start tag's three pieces.
use Rattle.std.proofs.Common.{codes, string_bytes}
use Rattle.uv_shown.specs.declared.escaping.escapes.Escapes.TheVariants.{Attribute}
use Rattle.uv_report.specs.Formats.Checkstyle.{file_begin}
use Rattle.uv_shown.specs.Escaping.Escapes.{escaped}
use Rattle.uv_report.proofs.PieceLemmas.{three_pieces}
use Rattle.uv_report.proofs.formats.checkstyle.push_checkstyle_file.Goals as goal

pub returns : goal.returns
unfolding file_begin
returns c =
    three_pieces (string_bytes c.args.text.now) (codes "<file name=\"") (escaped Attribute c.args.file.now)
    (codes "\">\n") c.in_ok-push_str.ensures.bytes c.in_ok-push_escaped.ensures c.in_ok-push_str-2.ensures.bytes
