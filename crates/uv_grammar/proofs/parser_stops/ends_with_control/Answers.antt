-- The code point that was read last decides.
use Rattle.uv_grammar.proofs.parser_stops.ends_with_control.Goals as goal

pub first_code_point-requires-text-text : goal.first_code_point-requires-text-text
first_code_point-requires-text-text c κs = c.loop-c.invariant.0
