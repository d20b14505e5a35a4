-- The cut after what was passed.
use Rattle.std.proofs.Common.{◌≡◌, ◌∙◌, ℕ, List, ap, false, length, subst, take, ◌-◌}
use Rattle.std.specs.Str.{IsUtf8, chars}
use Rattle.uv_text.specs.Splits.{class_has, starts_with_mark, unit_length}
use Rattle.uv_text.proofs.SplitsLemmas.{passes_all, passes_prefix, prefix_before, prefix_slice, split_bytes}
use Rattle.uv_text.proofs.splits.split_tail.Goals as goal

pub returns-then-not-may_begin_mark : goal.returns-then-not-may_begin_mark
returns-then-not-may_begin_mark c =
    let held = class_has c.args.class in
    let text = c.args.text.now in
    let rest = c.split_run-rest.result.1 in
    let is_rest =
    passes_all held (chars text) (chars rest) c.split_run-rest.ensures.passes c.split_run-rest.ensures.stops
    (subst (λ (s : List ℕ). starts_with_mark (chars s) ≡ false) (c.as_bytes.ensures.value ∙ c.as_str.ensures)
    (c.may_begin_mark.ensures c.if-not-may_begin_mark.true)) in
    record {
      is_prefix =
          prefix_before text c.split_run-rest.result.0.now rest (unit_length held (chars text))
          c.split_run-rest.ensures.text (subst IsUtf8 c.as_str.ensures c.as_str.utf8) c.split_run-rest.ensures.joined
          is_rest;
      is_rest = is_rest;
    }

pub overflow_sub-whole : goal.overflow_sub-whole
overflow_sub-whole c =
    let whole = c.as_str-whole.result.now in
    (split_bytes whole c.as_str-2.result.now (unit_length (class_has c.args.class) (chars whole)) c.as_str-whole.utf8
    c.as_str-2.utf8
    (rw (c.as_str-2.ensures, c.as_str-whole.ensures)
    (passes_prefix (class_has c.args.class) (chars c.args.text.now) (chars c.split_run-rest.result.1)
    (chars c.after_rest-rest.result) c.split_run-rest.ensures.passes c.after_rest-rest.ensures))).inside

pub range-requires-clause-end_boundary : goal.range-requires-clause-end_boundary
range-requires-clause-end_boundary c =
    let whole = c.as_str-whole.result.now in
    (split_bytes whole c.as_str-2.result.now (unit_length (class_has c.args.class) (chars whole)) c.as_str-whole.utf8
    c.as_str-2.utf8
    (rw (c.as_str-2.ensures, c.as_str-whole.ensures)
    (passes_prefix (class_has c.args.class) (chars c.args.text.now) (chars c.split_run-rest.result.1)
    (chars c.after_rest-rest.result) c.split_run-rest.ensures.passes c.after_rest-rest.ensures))).boundary

pub returns : goal.returns
returns c =
    let held = class_has c.args.class in
    let whole = c.as_str-whole.result.now in
    let is_rest =
    passes_prefix held (chars c.args.text.now) (chars c.split_run-rest.result.1) (chars c.after_rest-rest.result)
    c.split_run-rest.ensures.passes c.after_rest-rest.ensures in
    let split =
    split_bytes whole c.as_str-2.result.now (unit_length held (chars whole)) c.as_str-whole.utf8 c.as_str-2.utf8
    (rw (c.as_str-2.ensures, c.as_str-whole.ensures) is_rest) in
    record {
      is_prefix =
          ap chars (c.range.ensures.value ∙ prefix_slice whole (length whole - length c.as_str-2.result.now))
          ∙ split.prefix
          ∙ ap (λ (s : List ℕ). take (unit_length held (chars s)) (chars s)) c.as_str-whole.ensures;
      is_rest = is_rest;
    }
