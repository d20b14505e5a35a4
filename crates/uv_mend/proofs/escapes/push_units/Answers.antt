-- A code point, and then a run of units.
use Rattle.std.proofs.Common.{◌≡◌, ◌++◌, ◌∙◌, ◌||◌, ◌==◌, ap, chars, rules, sym}
use Rattle.uv_model.specs.Ascii.{number_sign}
use Rattle.uv_mend.specs.Escapes.{as_unit, as_units}
use Rattle.uv_mend.proofs.TextLemmas.{goes_on}
use Rattle.uv_mend.proofs.escapes.push_units.Goals as goal
use Rattle.uv_mend.proofs.escapes.push_units.Goals.{then-in_fragment, else-in_fragment}

pub loop-c-preserved : goal.loop-c-preserved
loop-c-preserved c =
    let before = c.loop-c.in_fragment in
    let now = c.if-in_fragment.in_fragment in
    let point = c.in-Some.c in
    let after = chars c.in-Some.after.now in
    let turns : (before || (point == number_sign)) ≡ now =
    elim c.if-in_fragment.branch [
      | then-in_fragment w ↦ rw w.if-in_fragment.true (sym (w.in_fragment-is ∙ w.if-in_fragment.true))
      | else-in_fragment w ↦ rw w.if-in_fragment.false (sym w.in_fragment-is)
    ] in
    record {
      is =
          c.in_ok-rest-2.ensures.0 now
          ∙ goes_on _ _ (as_unit before point after) (as_units now after) (as_units before (chars c.loop-c.rest.now)) _
          c.in_ok-push_unit.ensures
          (ap (as_units before) c.in-Some.ensures ∙ ap (λ f. as_unit before point after ++ as_units f after) turns)
          c.loop-c.invariant.is;
      utf8 = search rules;
    }
