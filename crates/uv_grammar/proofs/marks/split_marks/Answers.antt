-- Where the search finds neither mark.
use Rattle.std.proofs.Common.{List, ℕ, None, Some, subst}
use Rattle.memchr.specs.Find.{IsFirstByte, is_byte2}
use Rattle.uv_model.specs.Ascii.{number_sign, question_mark}
use Rattle.uv_grammar.proofs.MarkSplitLemmas.{splits_at_none}
use Rattle.uv_grammar.proofs.marks.split_marks.Goals as goal

pub split_after_mark-requires : goal.split_after_mark-requires
split_after_mark-requires c =
    subst (λ (s : List ℕ). IsFirstByte (is_byte2 question_mark number_sign) s (Some c.in-Some.end))
    c.as_bytes.ensures.value c.in-Some.ensures

pub returns-in-None : goal.returns-in-None
returns-in-None c =
    splits_at_none c.args.text.now c.utf8.text
    (subst (λ (s : List ℕ). IsFirstByte (is_byte2 question_mark number_sign) s None) c.as_bytes.ensures.value
    c.in-None.ensures)
