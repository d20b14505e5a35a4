-- A text has no more code points than bytes, so the count fits.
use Rattle.std.proofs.Common.{ap, arith, length}
use Rattle.uv_grammar.proofs.SpacedPathLemmas.{chars_fewer}
use Rattle.uv_grammar.proofs.parser_paths.count_spaces.Goals as goal

pub overflow_add-count : goal.overflow_add-count
overflow_add-count c =
    let fewer = chars_fewer c.args.text.now c.utf8.text in
    let all = c.loop-c.invariant.2 in
    let first = ap length c.in-Some.ensures in
    omega arith
