-- What begins and ends as a prefix does is it and a rest.
use Rattle.std.proofs.Common.{◌≡◌, ℕ, ◌++◌, ◌-◌, ◌+◌, drop, length, arith, sym, subst, ◌∙◌, eqb-true}
use Rattle.uv_grammar.proofs.PlainPrefixLemmas.{four_alike, prefix_ends}
use Rattle.uv_grammar.proofs.links.prefixes.has_prefix.Goals as goal

pub returns-then-four_at : goal.returns-then-four_at
returns-then-four_at c = λ is.
    let bytes = c.args.bytes.now in
    let prefix = c.args.prefix.now in
    let last = length prefix - 4 in
    let long : length prefix ≡ last + 4 = omega (arith, c.requires.four) in
    subst (λ (n : ℕ). bytes ≡ prefix ++ drop n bytes) (sym long)
    (prefix_ends bytes prefix last (omega (arith, c.requires.eight)) long
    (four_alike bytes prefix 0 (omega (arith, c.requires.four, c.if-bytes-prefix.false)) c.requires.four
    c.type_inv.bytes
    c.type_inv.prefix (sym c.four_at.ensures ∙ c.if-four_at.true ∙ c.four_at-2.ensures))
    (four_alike bytes prefix last (omega (arith, c.requires.four, c.if-bytes-prefix.false)) (omega (arith, long))
    c.type_inv.bytes c.type_inv.prefix
    (sym c.four_at-then-four_at.ensures ∙ eqb-true _ _ is ∙ c.four_at-then-four_at-2.ensures)))
