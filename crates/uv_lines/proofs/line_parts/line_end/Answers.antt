-- The first LF of a piece.
use Rattle.std.proofs.Common.{◌≡◌, ◌+◌, ◌<◌, [], ◌∷◌, length, take, drop, Some, None, IfSome, subst}
use Rattle.memchr.specs.Find.{IsFirstByte, is_byte}
use Rattle.uv_lines.specs.Lines.{line_feed, split}
use Rattle.uv_lines.proofs.LineLemmas.{no_line_feed, prefix_line_feed, from_line_feed}
use Rattle.uv_lines.proofs.line_parts.line_end.Goals as goal

pub returns-clause-some : goal.returns-clause-some
returns-clause-some c =
    let rest = c.args.rest.now in
    elim c.memchr.result as (λ r. IsFirstByte (is_byte line_feed) rest r → IfSome r (λ at. (at < length rest)
    × (split (take at rest) ≡ ([], take at rest)) × (drop at rest ≡ line_feed ∷ drop (at + 1) rest))) [
      | Some at ↦ λ first. (first.0.high, prefix_line_feed rest at first, from_line_feed rest at first)
      | None ↦ λ first. tt
    ] c.memchr.ensures

pub returns-clause-none : goal.returns-clause-none
returns-clause-none c =
    let rest = c.args.rest.now in
    λ none. no_line_feed rest (subst (λ r. IsFirstByte (is_byte line_feed) rest r) none c.memchr.ensures)
