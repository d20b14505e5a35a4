-- The two sides of the first `/`.
use Rattle.std.proofs.Common.{List, ℕ, Some, None, subst}
use Rattle.uv_model.specs.Ascii.{slash}
use Rattle.uv_grammar.specs.TextSplits.{IsFirstMark}
use Rattle.uv_grammar.proofs.SliceLemmas.{splits_at_slash, splits_at_end}
use Rattle.uv_grammar.proofs.marks.split_at_slash.Goals as goal

pub returns-in-Some : goal.returns-in-Some
returns-in-Some c =
    splits_at_slash c.args.text.now c.range.result.now c.range_from.result.now c.in-Some.end c.utf8.text
    (subst (λ (s : List ℕ). IsFirstMark slash s (Some c.in-Some.end)) c.as_bytes.ensures.value c.in-Some.ensures)
    c.range.ensures.value c.range_from.ensures.value

pub returns-in-None : goal.returns-in-None
returns-in-None c =
    splits_at_end c.args.text.now c.range_from-in-None.result.now c.utf8.text
    (subst (λ (s : List ℕ). IsFirstMark slash s None) c.as_bytes.ensures.value c.in-None.ensures)
    c.range_from-in-None.ensures.value
