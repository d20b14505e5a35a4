-- ASCII is UTF-8.
use Rattle.std.proofs.lemmas.Bool.{false≢true}
use Rattle.std.proofs.lemmas.Str.{IsUtf8-from_ascii}
use Rattle.uv_host.proofs.parser_hosts.text_of.Goals as goal

pub returns : goal.returns
returns c = absurd (false≢true (c.in-Err.ensures.succeeds (IsUtf8-from_ascii c.args.bytes.items c.requires)))
