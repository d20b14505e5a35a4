-- No path, or one that begins with `/`.
use Rattle.std.proofs.Common.{ap, chars, inl, inr, sym, ◌∙◌}
use Rattle.std.proofs.lemmas.Option.{IfSome_then}
use Rattle.uv_grammar.proofs.HostLemmas.{no_chars}
use Rattle.uv_resolve.proofs.paths.rooted.Goals as goal

pub returns-then-is_empty : goal.returns-then-is_empty
returns-then-is_empty c =
    inl (no_chars c.args.text.now (sym c.is_empty.ensures ∙ c.if-is_empty.true), c.root_text.ensures)

pub returns-else-is_empty : goal.returns-else-is_empty
returns-else-is_empty c = IfSome_then c.slashed.result c.slashed.ensures (λ found is. inr (ap chars is.0, is.1))
