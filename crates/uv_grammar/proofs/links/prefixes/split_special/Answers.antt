-- A special scheme and what is after it.
use Rattle.std.proofs.Common.{ℕ, List, subst}
use Rattle.uv_grammar.specs.PlainLinks.{IsPrefixCut, IsSpecialPrefix}
use Rattle.uv_grammar.proofs.PlainPrefixLemmas.{mark_ascii, scheme_ascii, special_cut}
use Rattle.uv_grammar.proofs.links.prefixes.split_special.Goals as goal

pub split_prefix-after-requires : goal.split_prefix-after-requires
split_prefix-after-requires c =
    rw c.of.ensures
    (scheme_ascii c.args.text.now c.in-Some.end
    (subst (λ (s : List ℕ). IsSpecialPrefix s c.in-Some.end) c.as_bytes.ensures.value c.in-Some.ensures))

pub split_prefix-rest-requires : goal.split_prefix-rest-requires
split_prefix-rest-requires c =
    mark_ascii c.args.text.now c.split_prefix-after.result.1 c.in-Some.end
    (subst (λ (s : List ℕ). IsSpecialPrefix s c.in-Some.end) c.as_bytes.ensures.value c.in-Some.ensures)
    (rw c.of.ensures at c.split_prefix-after.ensures.is_rest)

pub returns : goal.returns
returns c =
    special_cut c.args.text.now c.split_prefix-after.result.0.now c.split_prefix-after.result.1
    c.split_prefix-rest.result.0.now
    c.split_prefix-rest.result.1 c.in-Some.end
    (subst (λ (s : List ℕ). IsSpecialPrefix s c.in-Some.end) c.as_bytes.ensures.value c.in-Some.ensures)
    (subst
    (λ (s : List ℕ). IsPrefixCut s c.in-Some.end c.split_prefix-after.result.0.now c.split_prefix-after.result.1)
    c.of.ensures c.split_prefix-after.ensures) c.split_prefix-rest.ensures
