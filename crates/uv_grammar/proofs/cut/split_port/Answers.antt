-- The sides of the `:` of a port.
use Rattle.std.proofs.Common.{List, ℕ, Some, None, subst}
use Rattle.uv_grammar.specs.TextSplits.{IsPortMark}
use Rattle.uv_grammar.proofs.AuthorityLemmas.{host_sides, host_alone, mark_boundary}
use Rattle.uv_grammar.proofs.cut.split_port.Goals as goal

pub range_from-requires : goal.range_from-requires
range_from-requires c = λ some.
    mark_boundary c.args.authority.now c.in-Some.end c.utf8.authority
    (subst (λ (s : List ℕ). IsPortMark s (Some c.in-Some.end)) c.as_bytes.ensures.value c.in-Some.ensures)

pub returns-in-Some-clause-host : goal.returns-in-Some-clause-host
returns-in-Some-clause-host c =
    (host_sides c.args.authority.now c.range.result.now c.range_from.result.now c.in-Some.end c.utf8.authority
    c.range.utf8 c.range_from.utf8
    (subst (λ (s : List ℕ). IsPortMark s (Some c.in-Some.end)) c.as_bytes.ensures.value c.in-Some.ensures)
    c.range.ensures.value c.range_from.ensures.value).0

pub returns-in-Some-clause-port : goal.returns-in-Some-clause-port
returns-in-Some-clause-port c =
    (host_sides c.args.authority.now c.range.result.now c.range_from.result.now c.in-Some.end c.utf8.authority
    c.range.utf8 c.range_from.utf8
    (subst (λ (s : List ℕ). IsPortMark s (Some c.in-Some.end)) c.as_bytes.ensures.value c.in-Some.ensures)
    c.range.ensures.value c.range_from.ensures.value).1

pub returns-in-None-clause-host : goal.returns-in-None-clause-host
returns-in-None-clause-host c =
    (host_alone c.args.authority.now c.utf8.authority
    (subst (λ (s : List ℕ). IsPortMark s None) c.as_bytes.ensures.value c.in-None.ensures)).0

pub returns-in-None-clause-port : goal.returns-in-None-clause-port
returns-in-None-clause-port c =
    (host_alone c.args.authority.now c.utf8.authority
    (subst (λ (s : List ℕ). IsPortMark s None) c.as_bytes.ensures.value c.in-None.ensures)).1
