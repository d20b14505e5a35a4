-- What follows the first `]`, and nothing if there is none.
use Rattle.std.proofs.Common.{ℕ, ◌+◌, List, Some, None, subst}
use Rattle.uv_grammar.specs.TextSplits.{IsPortMark}
use Rattle.uv_grammar.proofs.AuthorityLemmas.{from_place, no_port_after_bracket, no_port_in_brackets}
use Rattle.uv_grammar.proofs.AuthorityLemmas.{port_after_bracket}
use Rattle.uv_grammar.proofs.cut.port_mark_after_bracket.Goals as goal

pub returns-in-Some-port_mark_by_brackets : goal.returns-in-Some-port_mark_by_brackets
returns-in-Some-port_mark_by_brackets c =
    let place = c.in-Some-port_mark_by_brackets.place in
    port_after_bracket c.args.bytes.now c.in-Some.end c.requires c.in-Some.ensures place
    (subst (λ (s : List ℕ). IsPortMark s (Some place)) (from_place (c.in-Some.end + 1) c.args.bytes.now)
    c.in-Some-port_mark_by_brackets.ensures)

pub returns-in-None-port_mark_by_brackets : goal.returns-in-None-port_mark_by_brackets
returns-in-None-port_mark_by_brackets c =
    no_port_after_bracket c.args.bytes.now c.in-Some.end c.requires c.in-Some.ensures
    (subst (λ (s : List ℕ). IsPortMark s None) (from_place (c.in-Some.end + 1) c.args.bytes.now)
    c.in-None-port_mark_by_brackets.ensures)

pub returns-in-None : goal.returns-in-None
returns-in-None c = no_port_in_brackets c.args.bytes.now c.requires c.in-None.ensures
