-- The sides of the first mark, by what it is.
use Rattle.std.proofs.Common.{◌∙◌, List, ℕ, sym, subst, false, true}
use Rattle.std.specs.Prelude.{◌≡◌, ◌==◌, slice_index}
use Rattle.uv_model.specs.Ascii.{question_mark}
use Rattle.uv_grammar.specs.Slices.{chars_of, chars_of_option}
use Rattle.uv_grammar.proofs.MarkSplitLemmas.{boundary_after, splits_at_number, splits_at_question}
use Rattle.uv_grammar.proofs.marks.split_after_mark.Goals as goal

pub range_from-rest-requires : goal.range_from-rest-requires
range_from-rest-requires c = λ some. boundary_after c.args.text.now c.args.end c.requires c.utf8.text

pub returns-then-has_question_mark : goal.returns-then-has_question_mark
returns-then-has_question_mark c =
    splits_at_question c.args.text.now c.args.end c.requires c.range-start.result.now c.range_from-rest.result.now
    (chars_of c.split_at_mark.result.0) (chars_of_option c.split_at_mark.result.1) c.utf8.text c.range-start.utf8
    (subst (λ (s : List ℕ). (slice_index s c.args.end == question_mark) ≡ true) c.as_bytes.ensures.value
    (sym c.has_question_mark.ensures ∙ c.if-has_question_mark.true))
    c.range-start.ensures.value c.range_from-rest.ensures.value c.split_at_mark.ensures.joined
    c.split_at_mark.ensures.first

pub returns-else-has_question_mark : goal.returns-else-has_question_mark
returns-else-has_question_mark c =
    splits_at_number c.args.text.now c.args.end c.requires c.range-start.result.now c.range_from-rest.result.now
    c.utf8.text c.range-start.utf8
    (subst (λ (s : List ℕ). (slice_index s c.args.end == question_mark) ≡ false) c.as_bytes.ensures.value
    (sym c.has_question_mark.ensures ∙ c.if-has_question_mark.false))
    c.range-start.ensures.value c.range_from-rest.ensures.value
