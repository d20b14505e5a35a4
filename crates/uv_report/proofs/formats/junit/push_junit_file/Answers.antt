-- The five pieces of a suite's beginning.
use Rattle.std.proofs.Common.{codes, string_bytes}
use Rattle.uv_shown.specs.declared.escaping.escapes.Escapes.TheVariants.{Attribute}
use Rattle.uv_shown.specs.Escaping.Escapes.{escaped}
use Rattle.uv_report.specs.Formats.Junit.{suite_begin}
use Rattle.uv_report.proofs.PieceLemmas.{five_pieces}
use Rattle.uv_report.proofs.formats.junit.push_junit_file.Goals as goal

pub returns : goal.returns
unfolding suite_begin
returns c =
    five_pieces (string_bytes c.args.text.now) (codes "<testsuite name=\"") (escaped Attribute c.args.file.now)
    (codes "\">\n<testcase classname=\"") (escaped Attribute c.args.file.now) (codes "\" name=\"file\"/>\n")
    c.in_ok-push_str.ensures.bytes c.in_ok-push_escaped.ensures c.in_ok-push_str-2.ensures.bytes
    c.in_ok-push_escaped-2.ensures c.in_ok-push_str-3.ensures.bytes
