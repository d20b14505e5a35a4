-- If no memory is left, nothing is reported.
use Rattle.std.proofs.Common.{[], refl, append-nil, inl}
use Rattle.uv_lines.proofs.WaitingLemmas.{passes_none}
use Rattle.test_lists.proofs.lines.parts.say_part.Goals as goal

pub returns-in-Err-clause-fault : goal.returns-in-Err-clause-fault
returns-in-Err-clause-fault g c =
    let waited = c.args.text.now.items in (
      [],
      inl refl,
      rw (c.in-Err.ensures.items, append-nil waited)
          (passes_none waited (g.W.Sink.contents c.args.writer.now)),
    )
