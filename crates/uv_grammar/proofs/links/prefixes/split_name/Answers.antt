-- A plain domain and what follows it.
use Rattle.std.proofs.Common.{◌≡◌, ℕ, List, true, subst, sym}
use Rattle.uv_host.specs.PlainNames.{is_rooted_chain}
use Rattle.uv_grammar.proofs.PlainPrefixLemmas.{cut_joined, name_ascii}
use Rattle.uv_grammar.proofs.links.prefixes.split_name.Goals as goal

pub split_prefix-rest-requires : goal.split_prefix-rest-requires
split_prefix-rest-requires c = name_ascii c.args.text.now c.in-Some.end c.in-Some.ensures

pub is_plain_domain-requires : goal.is_plain_domain-requires
is_plain_domain-requires c =
    subst (λ (s : List ℕ). is_rooted_chain s ≡ true) (sym c.split_prefix-rest.ensures.is_prefix) c.in-Some.ensures.1

pub returns-then-is_plain_domain : goal.returns-then-is_plain_domain
returns-then-is_plain_domain c = record {
  joined =
      cut_joined c.args.text.now c.split_prefix-rest.result.0.now c.split_prefix-rest.result.1 c.in-Some.end
      c.split_prefix-rest.ensures;
  domain = λ profile. c.is_plain_domain.ensures profile c.if-is_plain_domain.true;
}
