-- The message is written with the place that it names.
use Rattle.std.proofs.Common.{inl}
use Rattle.uv_sentences.specs.Sentences.Message.{message_view}
use Rattle.urlcheck_c.proofs.reports.messages.said.Goals as goal

pub returns-in-Ok : goal.returns-in-Ok
returns-in-Ok c =
    inl (
      message_view c.in-Ok.said,
      c.in-Ok.ensures,
      c.placed.ensures,
      rw c.as_bytes.ensures.value at c.write_prefix.ensures,
    )
