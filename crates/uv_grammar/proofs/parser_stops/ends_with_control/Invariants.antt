-- What is left ends with a control where the text does, and if nothing is left the last code point decided.
use Rattle.std.proofs.Common.{◌≡◌, length}
use Rattle.std.specs.Str.{IsUtf8, chars}
use Rattle.uv_model.specs.Hosts.StoppedHost.{ends_with_control}
use Rattle.uv_grammar.proofs.StoppedHostLemmas.{ends_by}
use Rattle.uv_grammar.proofs.parser_stops.ends_with_control.Given as goal

abbrev pub invariant-loop-c : goal.invariant-loop-c
invariant-loop-c l = IsUtf8 l.left × (ends_by l.ends (chars l.left) ≡ ends_with_control (chars l.fn.text))

abbrev pub decreases-loop-c : goal.decreases-loop-c
decreases-loop-c l = length (chars l.left)
