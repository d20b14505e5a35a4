-- The splits one after the other.
use Rattle.std.specs.Str.{chars}
use Rattle.uv_grammar.specs.Slices.{chars_of, chars_of_option}
use Rattle.uv_grammar.proofs.MarkSplitLemmas.{splits_in_turn}
use Rattle.uv_grammar.proofs.marks.split_marks_in_turn.Goals as goal

pub returns : goal.returns
returns c =
    splits_in_turn (chars c.args.text.now) (chars_of c.split_at_mark.result.0) (chars_of c.split_at_mark-2.result.0)
    (chars_of_option c.split_at_mark-2.result.1) (chars_of_option c.split_at_mark.result.1)
    c.split_at_mark.ensures.joined c.split_at_mark.ensures.first c.split_at_mark-2.ensures.joined
    c.split_at_mark-2.ensures.first
