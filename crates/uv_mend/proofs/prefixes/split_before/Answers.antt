-- The prefix and what is after it are the text.
use Rattle.std.proofs.Common.{ap, chars, sym, ◌∙◌, ◌++◌}
use Rattle.uv_mend.specs.Prefixes.{before}
use Rattle.uv_mend.proofs.EscapeLemmas.{prefix_parts}
use Rattle.uv_mend.proofs.prefixes.split_before.Goals as goal

pub before_rest-requires : goal.before_rest-requires
before_rest-requires c =
    let text = chars c.args.text.now in (
      before c.args.stop text,
      sym (ap (λ t. before c.args.stop text ++ t) c.onward-rest.ensures ∙ prefix_parts c.args.stop text),
    )

pub returns-clause-before : goal.returns-clause-before
returns-clause-before c =
    let text = chars c.args.text.now in
    c.before_rest.ensures (before c.args.stop text)
    (sym (ap (λ t. before c.args.stop text ++ t) c.onward-rest.ensures ∙ prefix_parts c.args.stop text))
