-- The first line that isn't valid is after those that are passed.
use Rattle.std.proofs.Common.{◌+◌, arith, drop, inl, length, refl, subst}
use Rattle.std.proofs.lemmas.List.{length-drop}
use Rattle.uv_lines.specs.Lines.{lines_of}
use Rattle.urlcheck_c.specs.NextLine.{Passes}
use Rattle.urlcheck_c.proofs.NextLineLemmas.{end_after, first_line_here, lines_after, passes_more, start_after}
use Rattle.urlcheck_c.proofs.NextLineLemmas.{text_stands}
use Rattle.urlcheck_c.proofs.lines.next_refused.Goals as goal

pub returns-then-found-ne0 : goal.returns-then-found-ne0
returns-then-found-ne0 c =
    let bytes = c.args.lines.now in
    let start = c.loop-start.start in
    let text = c.first_line-line.result.text.now in
    let before = c.loop-start-test.true in
    let line = first_line_here bytes start c.first_line-line.result c.first_line-line.ensures in
    let rest = length-drop start bytes in
    let within = line.within in
    let first = lines_after bytes text start c.first_line-line.result.extent line.first in
    inl (record {
      text = text;
      passed =
          subst (λ lines. Passes c.args.profile c.loop-start.passed (lines_of (drop c.args.from bytes)) lines) first
          c.loop-start.invariant.lines;
      found = c.found_of-found.ensures.found;
      refused = c.if-found-ne0.true;
      stands = first;
      begins = c.loop-start.invariant.begins before;
      text_is = text_stands bytes text start line.text;
      length_is = refl;
      ends = end_after bytes start (length text) c.first_line-line.result.extent (omega (arith, rest, before))
          line.ended;
      within = omega (arith, rest, within, before);
    })

pub loop-start-preserved : goal.loop-start-preserved
loop-start-preserved c =
    let bytes = c.args.lines.now in
    let start = c.loop-start.start in
    let text = c.first_line-line.result.text.now in
    let extent = c.first_line-line.result.extent in
    let before = c.loop-start-test.true in
    let line = first_line_here bytes start c.first_line-line.result c.first_line-line.ensures in
    let rest = length-drop start bytes in
    let within = line.within in
    let some = line.some in
    let after = c.loop-start.invariant.after in
    let few = c.loop-start.invariant.few in
    record {
      lines = passes_more c.args.profile c.loop-start.passed (lines_of (drop c.args.from bytes))
          (lines_of (drop start bytes)) (lines_of (drop (start + extent) bytes)) text c.found_of-found.result
          c.loop-start.invariant.lines (lines_after bytes text start extent line.first)
          c.found_of-found.ensures.found c.if-found-ne0.false;
      begins = λ below.
          start_after bytes c.args.from (start + length text) (start + extent) (omega (arith, after))
          (end_after bytes start (length text) extent (omega (arith, rest, before)) line.ended) below;
      after = omega (arith, after);
      within = omega (arith, rest, within, before);
      few = omega (arith, some, few);
    }
