-- A run from an escape on, or code points beyond ASCII and the run after them.
use Rattle.std.proofs.Common.{ℕ, List, ◌==◌, rules, ap, sym, ◌∙◌, subst}
use Rattle.std.specs.Str.{chars, IsUtf8}
use Rattle.uv_model.specs.Ascii.{percent_sign}
use Rattle.uv_text.specs.Splits.{PassesUnits, class_has, starts_in}
use Rattle.uv_text.proofs.SplitsLemmas.{no_other_mark, passes_on, split_bytes}
use Rattle.uv_text.proofs.splits.after_more.Goals as goal

pub ending-requires : goal.ending-requires
ending-requires c =
    let rest = c.as_str-2.result.now in
    let after = c.in-Some.after.now in
    let text : IsUtf8 after = search rules in
    let part = c.in-Some.ensures.passes (class_has c.args.class) in
    rw (← c.as_str-2.ensures) (split_bytes rest after part.passed c.as_str-2.utf8 text part.is_rest).ends

pub returns-in-Some-clause-passes : goal.returns-in-Some-clause-passes
returns-in-Some-clause-passes c =
    let held = class_has c.args.class in
    let after = chars c.in-Some.after.now in
    let rest = chars c.after_run.result in
    let first : PassesUnits held (chars c.args.text.now) after =
    subst (λ (s : List ℕ). PassesUnits held (chars s) after) c.as_str-2.ensures (c.in-Some.ensures.passes held) in
    let more : PassesUnits held after rest =
    subst (λ (s : List ℕ). PassesUnits held (chars s) rest) c.ending.ensures c.after_run.ensures.passes in
    passes_on held (chars c.args.text.now) after rest first more

pub returns-in-None-clause-passes : goal.returns-in-None-clause-passes
returns-in-None-clause-passes c =
    let text = rw c.as_str.ensures at c.as_str.utf8 in
    let first = ap (starts_in (λ b. b == percent_sign)) (sym (c.as_bytes.ensures.value ∙ c.as_str.ensures))
    ∙ sym c.starts_with_percent.ensures ∙ c.if-starts_with_percent.false in
    no_other_mark c.args.text.now text first (rw c.as_str-2.ensures at c.in-None.ensures.passes)
