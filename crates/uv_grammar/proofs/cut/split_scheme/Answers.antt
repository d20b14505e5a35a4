-- The sides of the `:` after a scheme, and a text without one.
use Rattle.std.proofs.Common.{List, ℕ, Some, None, subst}
use Rattle.uv_grammar.specs.TextSplits.{IsSchemeEnd}
use Rattle.uv_grammar.proofs.SchemeEndLemmas.{scheme_boundary, splits_at_scheme_end, splits_without_scheme}
use Rattle.uv_grammar.proofs.cut.split_scheme.Goals as goal

pub range_from-requires : goal.range_from-requires
range_from-requires c = λ some.
    scheme_boundary c.args.text.now c.in-Some.end c.utf8.text
    (subst (λ (s : List ℕ). IsSchemeEnd s (Some c.in-Some.end)) c.as_bytes.ensures.value c.in-Some.ensures)

pub returns-in-Some : goal.returns-in-Some
returns-in-Some c =
    splits_at_scheme_end c.args.text.now c.range.result.now c.range_from.result.now c.in-Some.end c.utf8.text
    c.range.utf8
    (subst (λ (s : List ℕ). IsSchemeEnd s (Some c.in-Some.end)) c.as_bytes.ensures.value c.in-Some.ensures)
    c.range.ensures.value c.range_from.ensures.value

pub returns-in-None : goal.returns-in-None
returns-in-None c =
    splits_without_scheme c.args.text.now c.utf8.text
    (subst (λ (s : List ℕ). IsSchemeEnd s None) c.as_bytes.ensures.value c.in-None.ensures)
