-- The prefix and what is after it are the text.
use Rattle.std.proofs.Common.{ap, chars, sym, ◌∙◌, ◌++◌}
use Rattle.uv_mend.specs.Prefixes.{scheme_prefix}
use Rattle.uv_mend.proofs.EscapeLemmas.{scheme_parts}
use Rattle.uv_mend.proofs.prefixes.split_scheme.Goals as goal

pub before_rest-requires : goal.before_rest-requires
before_rest-requires c =
    let text = chars c.args.text.now in
    (scheme_prefix text, sym (ap (λ t. scheme_prefix text ++ t) c.after_scheme-rest.ensures ∙ scheme_parts text))

pub returns-clause-prefix : goal.returns-clause-prefix
returns-clause-prefix c =
    let text = chars c.args.text.now in
    c.before_rest.ensures (scheme_prefix text)
    (sym (ap (λ t. scheme_prefix text ++ t) c.after_scheme-rest.ensures ∙ scheme_parts text))
