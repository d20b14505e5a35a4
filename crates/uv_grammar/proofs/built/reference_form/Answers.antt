-- The form of a text with neither a scheme nor an authority.
use Rattle.std.proofs.Common.{◌∙◌, sym, refl}
use Rattle.std.specs.Str.{chars}
use Rattle.uv_grammar.proofs.HostLemmas.{no_chars, some_chars}
use Rattle.uv_grammar.proofs.PieceLemmas.{relative_form}
use Rattle.uv_grammar.proofs.built.reference_form.Goals as goal

pub returns-then-is_empty : goal.returns-then-is_empty
returns-then-is_empty c = rw (no_chars c.args.path_text.now (sym c.is_empty.ensures ∙ c.if-is_empty.true)) refl

pub returns-else-has_slash : goal.returns-else-has_slash
returns-else-has_slash c =
    let some = some_chars c.args.path_text.now c.utf8.path_text (sym c.is_empty.ensures ∙ c.if-is_empty.false) in
    relative_form (chars c.args.path_text.now) some (sym c.has_slash.ensures ∙ c.if-has_slash.false)
