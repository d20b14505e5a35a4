-- The prefix and what is after it are the text.
use Rattle.std.proofs.Common.{ap, chars, sym, ◌∙◌, ◌++◌}
use Rattle.uv_mend.specs.Prefixes.{authority_prefix}
use Rattle.uv_mend.proofs.EscapeLemmas.{authority_parts}
use Rattle.uv_mend.proofs.prefixes.split_authority.Goals as goal

pub before_rest-requires : goal.before_rest-requires
before_rest-requires c =
    let text = chars c.args.text.now in (
      authority_prefix text,
      sym (ap (λ t. authority_prefix text ++ t) c.after_authority-rest.ensures ∙ authority_parts text),
    )

pub returns-clause-prefix : goal.returns-clause-prefix
returns-clause-prefix c =
    let text = chars c.args.text.now in
    c.before_rest.ensures (authority_prefix text)
    (sym (ap (λ t. authority_prefix text ++ t) c.after_authority-rest.ensures ∙ authority_parts text))
