-- A violation of units that isn't a taken space is the least violation, and after taken spaces the search goes on.
use Rattle.std.proofs.Common.{◌∙◌, ap, arith, chars, length}
use Rattle.std.proofs.lemmas.List.{length-drop}
use Rattle.uv_grammar.proofs.SpacedPathLemmas.{chars_fewer, spaced_ends, spaced_found, spaced_goes_on}
use Rattle.uv_grammar.proofs.parser_paths.first_spaced_fault.Goals as goal

pub overflow_add-result : goal.overflow_add-result
overflow_add-result c =
    let fewer = chars_fewer c.args.text.now c.utf8.text in
    let inside = c.loop-refusal.invariant.1.inside in
    let within = c.in-Some.ensures.within in
    omega arith

pub overflow_add-here : goal.overflow_add-here
overflow_add-here c =
    let fewer = chars_fewer c.args.text.now c.utf8.text in
    let inside = c.loop-refusal.invariant.1.inside in
    let within = c.in-Some.ensures.within in
    let fits = c.taken_spaces-spaces.ensures.fits in
    let found = ap length c.after_code_points-found.ensures
    ∙ length-drop c.in-Some.refusal.place (chars c.loop-refusal.left.now) in
    omega arith

pub overflow_add-here-in-Some : goal.overflow_add-here-in-Some
overflow_add-here-in-Some c =
    let fewer = chars_fewer c.args.text.now c.utf8.text in
    let inside = c.loop-refusal.invariant.1.inside in
    let within = c.in-Some.ensures.within in
    let fits = c.taken_spaces-spaces.ensures.fits in
    let found = ap length c.after_code_points-found.ensures
    ∙ length-drop c.in-Some.refusal.place (chars c.loop-refusal.left.now) in
    omega arith

pub returns-then-spaces-eq0 : goal.returns-then-spaces-eq0
returns-then-spaces-eq0 c =
    spaced_found c.args.followed (chars c.args.text.now) c.loop-refusal.here (chars c.loop-refusal.left.now)
    c.in-Some.refusal c.loop-refusal.invariant.1 c.in-Some.ensures.least
    (rw c.after_code_points-found.ensures at c.taken_spaces-spaces.ensures.none c.if-spaces-eq0.true)

pub loop-refusal-preserved : goal.loop-refusal-preserved
loop-refusal-preserved c = (
  c.after_code_points-left.utf8,
  spaced_goes_on c.args.followed (chars c.args.text.now) c.loop-refusal.here (chars c.loop-refusal.left.now)
      (chars c.after_code_points-found.result.now) (chars c.after_code_points-left.result.now) c.in-Some.refusal
      c.taken_spaces-spaces.result c.loop-refusal.invariant.1 c.in-Some.ensures.least
      c.after_code_points-found.ensures c.after_code_points-left.ensures c.in-Some.ensures.within
      c.taken_spaces-spaces.ensures,
)

pub loop-refusal-smaller : goal.loop-refusal-smaller
loop-refusal-smaller c =
    let within = c.in-Some.ensures.within in
    let some = c.if-spaces-eq0.false in
    let fits = c.taken_spaces-spaces.ensures.fits in
    let found = ap length c.after_code_points-found.ensures
    ∙ length-drop c.in-Some.refusal.place (chars c.loop-refusal.left.now) in
    let shorter = ap length c.after_code_points-left.ensures
    ∙ length-drop c.taken_spaces-spaces.result (chars c.after_code_points-found.result.now) in
    omega arith

pub returns : goal.returns
returns c =
    spaced_ends c.args.followed (chars c.args.text.now) c.loop-refusal.here (chars c.loop-refusal.left.now)
    c.loop-refusal.invariant.1 c.in_default.ensures.least
