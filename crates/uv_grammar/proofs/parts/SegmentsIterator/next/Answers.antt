-- What is before the first slash is the next segment.
use Rattle.std.proofs.Common.{◌∙◌, ap, sym, arith, length}
use Rattle.uv_grammar.specs.Slices.{chars_of_option}
use Rattle.uv_model.specs.Path.{left_segments}
use Rattle.uv_grammar.proofs.PieceLemmas.{pieces_split}
use Rattle.uv_grammar.proofs.parts.SegmentsIterator.next.Goals as goal

pub returns-in-Some-clause-steps : goal.returns-in-Some-clause-steps
returns-in-Some-clause-steps c =
    sym c.self.view_is
    ∙ ap (λ left. left_segments (chars_of_option left)) c.in-Some.is
    ∙ pieces_split _ _ (chars_of_option c.split_at_mark.result.1) c.split_at_mark.ensures.joined
    c.split_at_mark.ensures.first

pub returns-in-Some-clause-goes : goal.returns-in-Some-clause-goes
returns-in-Some-clause-goes c =
    let shorter = ap length (returns-in-Some-clause-steps c) in
    record { on = λ h. (tt, tt, omega arith); keeps = tt; rests = λ h. tt }
