-- What is kept of the text says that it is refused.
use Rattle.uv_cli.proofs.SaidLemmas.{kept_refused}
use Rattle.uv_cli.proofs.said.said_of_refused.Goals as goal

pub push_refused-requires : goal.push_refused-requires
push_refused-requires c =
    rw c.as_str-text.ensures.value
    (kept_refused c.in-Check.text c.in-Check.base c.in-Check.extent c.in-Check.profile c.in-Some.refused.now
    (rw (c.in-Check.is, c.in-Some.is) at c.requires))
