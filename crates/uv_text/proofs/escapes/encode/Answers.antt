-- What is written after nothing is the encoded text.
use Rattle.uv_text.proofs.EscapesLemmas.{IsAscii-encoded}
use Rattle.uv_text.proofs.escapes.encode.Goals as goal

pub returns-clause-ascii : goal.returns-clause-ascii
returns-clause-ascii c =
    rw (c.in_ok-push_encoded.ensures.text, c.new-out.ensures.bytes)
    (IsAscii-encoded c.args.quote c.args.text.now c.utf8.text)
