-- What is left loses its last code point, where that is a control or a space.
use Rattle.std.proofs.Common.{◌≡◌, [], chars, rules, sym, ap, ◌∙◌}
use Rattle.uv_mend.specs.Stripped.{before_controls}
use Rattle.uv_mend.proofs.StrippedLemmas.{before_controls-none, before_controls-one, before_controls-other}
use Rattle.uv_mend.proofs.stripped.before_controls.Goals as goal

pub loop-before-preserved : goal.loop-before-preserved
loop-before-preserved c =
    record {
      is =
          sym (before_controls-one (chars c.in-Some.before.now) c.in-Some.c
          (sym c.is_control_or_space.ensures ∙ c.if-is_control_or_space.true))
          ∙ ap before_controls (sym c.in-Some.ensures)
          ∙ c.loop-before.invariant.is;
      utf8 = search rules;
    }

pub returns-else-is_control_or_space : goal.returns-else-is_control_or_space
returns-else-is_control_or_space c =
    c.in-Some.ensures ∙ sym (before_controls-other (chars c.in-Some.before.now) c.in-Some.c
    (sym c.is_control_or_space.ensures ∙ c.if-is_control_or_space.false))
    ∙ ap before_controls (sym c.in-Some.ensures) ∙ c.loop-before.invariant.is

pub returns : goal.returns
returns c =
    let none : chars c.loop-before.rest.now ≡ [] = rw c.in_default.is at c.last_code_point.ensures in
    none ∙ sym before_controls-none ∙ ap before_controls (sym none) ∙ c.loop-before.invariant.is
