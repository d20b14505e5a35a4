-- A label goes on, ends or becomes too long, or none was at the end.
use Rattle.std.proofs.Common.{arith, chars, map-id, ne_eqb, refl, sym, ◌∙◌}
use Rattle.std.proofs.lemmas.Iterator.{YieldsList-from_chars}
use Rattle.std.proofs.lemmas.Iterator.Consumers.{YieldsList-end, YieldsList-so_far, YieldsList-turn}
use Rattle.uv_host.proofs.LabelCountLemmas.{end_of_label, long_here, more_of_label, none_long}
use Rattle.uv_host.proofs.fitting_forms.has_long_label.Goals as goal

pub returns-then-length-eq-LONGEST_LABEL : goal.returns-then-length-eq-LONGEST_LABEL
returns-then-length-eq-LONGEST_LABEL c =
    let before = c.loop-c.yielded in
    let code_points = YieldsList-from_chars c.args.name.now c.utf8.name cc in
    let so_far = sym (map-id before) ∙ YieldsList-so_far code_points before _ c.loop-c.yielded_by in
    let turn =
    YieldsList-turn code_points before _ c.loop-c.yielded_by _ _ c.in-Some.c c.in-Some.is c.next.ensures.steps in
    sym (long_here (chars c.args.name.now) before c.in-Some.c c.loop-c.length so_far turn.0 turn.1
    c.if-length-eq-LONGEST_LABEL.true (ne_eqb c.in-Some.c 46 c.if-c-eq46.false) c.loop-c.invariant.1)

pub returns : goal.returns
returns c =
    let before = c.loop-c.yielded in
    let end =
    YieldsList-end (YieldsList-from_chars c.args.name.now c.utf8.name cc) before _ c.loop-c.yielded_by _ _
    c.in-None.is c.next.ensures.steps in
    sym (none_long (chars c.args.name.now) before c.loop-c.length (sym (map-id before) ∙ end.0)
    c.loop-c.invariant.0 c.loop-c.invariant.1)

pub loop-c-preserved : goal.loop-c-preserved
loop-c-preserved c = (
  omega (arith, c.loop-c.invariant.0, c.if-length-eq-LONGEST_LABEL.false),
  more_of_label c.loop-c.yielded c.in-Some.c c.loop-c.length (ne_eqb c.in-Some.c 46 c.if-c-eq46.false)
      c.loop-c.invariant.1,
)

pub loop-c-preserved-then-c-eq46 : goal.loop-c-preserved-then-c-eq46
loop-c-preserved-then-c-eq46 c = (
  omega arith,
  end_of_label c.loop-c.yielded c.in-Some.c c.loop-c.length (rw c.if-c-eq46.true refl) c.loop-c.invariant.0
      c.loop-c.invariant.1,
)
