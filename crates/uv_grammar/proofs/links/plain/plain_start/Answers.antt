-- The scheme, the name and the port, each cut after the one before.
use Rattle.std.specs.Str.{chars}
use Rattle.uv_grammar.proofs.links.plain.plain_start.Goals as goal

pub returns : goal.returns
returns c = record {
  after = chars c.in-Some.after;
  rest = chars c.in-Some-split_name.rest;
  special = c.in-Some.ensures;
  named = c.in-Some-split_name.ensures;
  port_cut = c.in-Some-split_port.ensures;
}
