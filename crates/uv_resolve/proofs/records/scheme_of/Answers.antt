-- The scheme of a valid text is ASCII.
use Rattle.std.proofs.Common.{sym, ap, ◌∙◌}
use Rattle.uv_grammar.specs.Slices.{chars_of, chars_of_option}
use Rattle.uv_resolve.proofs.RecordLemmas.{scheme_is_ascii}
use Rattle.uv_resolve.proofs.records.scheme_of.Goals as goal

pub lowered-requires : goal.lowered-requires
lowered-requires c =
    let (profile, text, valid) = c.requires in
    scheme_is_ascii profile _ text c.args.parts.now (chars_of c.in-Some.scheme) valid
    (sym c.scheme.ensures ∙ ap chars_of_option c.in-Some.is)
