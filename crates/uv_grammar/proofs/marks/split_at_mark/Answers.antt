-- The two sides of the first mark.
use Rattle.std.proofs.Common.{List, ℕ, Some, None, subst}
use Rattle.uv_grammar.specs.TextSplits.{IsFirstMark}
use Rattle.uv_grammar.proofs.SliceLemmas.{is_without-chars, first_mark_boundary, splits_at_mark}
use Rattle.uv_grammar.proofs.marks.split_at_mark.Goals as goal

pub range_from-requires : goal.range_from-requires
range_from-requires c = λ some.
    first_mark_boundary c.args.mark c.args.text.now c.in-Some.end c.requires c.utf8.text
    (subst (λ (s : List ℕ). IsFirstMark c.args.mark s (Some c.in-Some.end)) c.as_bytes.ensures.value c.in-Some.ensures)

pub returns-in-Some-clause-joined : goal.returns-in-Some-clause-joined
returns-in-Some-clause-joined c =
    (splits_at_mark c.args.mark c.args.text.now c.range.result.now c.range_from.result.now c.in-Some.end
    c.requires c.utf8.text
    (subst (λ (s : List ℕ). IsFirstMark c.args.mark s (Some c.in-Some.end)) c.as_bytes.ensures.value c.in-Some.ensures)
    c.range.ensures.value c.range_from.ensures.value).0

pub returns-in-Some-clause-first : goal.returns-in-Some-clause-first
returns-in-Some-clause-first c =
    (splits_at_mark c.args.mark c.args.text.now c.range.result.now c.range_from.result.now c.in-Some.end
    c.requires c.utf8.text
    (subst (λ (s : List ℕ). IsFirstMark c.args.mark s (Some c.in-Some.end)) c.as_bytes.ensures.value c.in-Some.ensures)
    c.range.ensures.value c.range_from.ensures.value).1

pub returns-in-None-clause-first : goal.returns-in-None-clause-first
returns-in-None-clause-first c =
    is_without-chars c.args.mark c.args.text.now c.requires c.utf8.text
    (subst (λ (s : List ℕ). IsFirstMark c.args.mark s None) c.as_bytes.ensures.value c.in-None.ensures)
