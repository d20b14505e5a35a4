-- The segments of an empty path, and of one that doesn't begin with `/`.
use Rattle.std.proofs.Common.{◌∙◌, refl, sym}
use Rattle.std.specs.Str.{chars}
use Rattle.uv_grammar.proofs.HostLemmas.{no_chars, some_chars}
use Rattle.uv_grammar.proofs.PieceLemmas.{relative_segments}
use Rattle.uv_grammar.proofs.parts.after_first.Goals as goal

pub returns-then-is_empty : goal.returns-then-is_empty
returns-then-is_empty c = rw (no_chars c.args.path_text.now (sym c.is_empty.ensures ∙ c.if-is_empty.true)) refl

pub returns-in-None : goal.returns-in-None
returns-in-None c =
    let some = some_chars c.args.path_text.now c.utf8.path_text (sym c.is_empty.ensures ∙ c.if-is_empty.false) in
    relative_segments (chars c.args.path_text.now) some c.in-None.ensures
