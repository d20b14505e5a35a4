-- Units that begin a path, and what follows them.
use Rattle.std.proofs.Common.{◌∙◌, ap, arith, refl, sym}
use Rattle.std.specs.Str.{chars}
use Rattle.uv_model.specs.Cut.{starts_with_two_slashes}
use Rattle.uv_model.specs.Path.{starts_with_slash}
use Rattle.uv_grammar.proofs.PlainUnitLemmas.{no_path, path_after_slash}
use Rattle.uv_grammar.proofs.links.plain.split_path.Goals as goal

pub split_prefix-requires : goal.split_prefix-requires
split_prefix-requires c = (omega arith, refl)

pub returns-then-not-has_slash : goal.returns-then-not-has_slash
returns-then-not-has_slash c =
    no_path (chars c.args.text.now) (chars c.split_prefix.result.0.now) (chars c.split_prefix.result.1)
    c.split_prefix.ensures.code_points (ap chars c.split_prefix.ensures.is_rest)

pub returns : goal.returns
returns c =
    path_after_slash (chars c.args.text.now) (chars c.split_tail.result.0.now) (chars c.split_tail.result.1)
    (ap (λ s. starts_with_slash (chars s)) (sym c.as_str.ensures) ∙ sym c.has_slash.ensures ∙ c.if-not-has_slash.false)
    (ap (λ s. starts_with_two_slashes (chars s)) (sym c.as_str-2.ensures) ∙ sym c.has_two_slashes.ensures
    ∙ c.if-has_two_slashes.false)
    c.split_tail.ensures
