-- What is read of the bytes is right of the code points.
use Rattle.uv_host.proofs.BracketLemmas.{reads_chars}
use Rattle.uv_host.proofs.addresses.ipv6.Goals as goal

pub returns : goal.returns
returns k = reads_chars k.args.text.now k.ipv6_of.result k.utf8.text (rw k.as_bytes.ensures.value at k.ipv6_of.ensures)
