-- What the bytes before the index leave of the search for the `:` of a port.
use Rattle.std.proofs.Common.{◌≡◌, ◌++◌, take, drop, false}
use Rattle.uv_model.specs.Cut.{host_before, port_after}
use Rattle.uv_grammar.proofs.cut.port_mark_by_brackets.Given as goal

abbrev pub invariant-loop-i : goal.invariant-loop-i
invariant-loop-i l = record {
  host : host_before false l.bytes ≡ take l.i l.bytes ++ host_before l.within (drop l.i l.bytes);
  port : port_after false l.bytes ≡ port_after l.within (drop l.i l.bytes);
}
