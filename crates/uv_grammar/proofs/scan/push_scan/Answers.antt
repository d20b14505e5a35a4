-- After a fault the scan goes on.
use Rattle.std.proofs.Common.{◌∙◌, ◌+◌, ◌++◌, ◌∷◌, [], ap, arith, length}
use Rattle.std.specs.Str.{chars}
use Rattle.std.proofs.lemmas.List.{length-drop}
use Rattle.uv_grammar.proofs.ScanLemmas.{scan_ends, scan_goes_on, scan_within}
use Rattle.uv_grammar.proofs.scan.push_scan.Goals as goal

pub loop-refusal-smaller : goal.loop-refusal-smaller
loop-refusal-smaller c =
    let within = scan_within c.args.scan (chars c.loop-refusal.left.now) c.in-Some.refusal.place c.in-Some.refusal.rule
    c.in-Some.ensures.stands in
    let shorter = ap length c.after_code_points-left.ensures
    ∙ length-drop (c.in-Some.refusal.place + 1) (chars c.loop-refusal.left.now) in
    omega arith

pub loop-refusal-preserved : goal.loop-refusal-preserved
loop-refusal-preserved c =
    scan_goes_on c.args.scan c.args.start c.args.text.now c.args.found.now.items c.loop-refusal.found.items _
    c.loop-refusal.here c.loop-refusal.left.now c.after_code_points-left.result.now c.in-Some.refusal
    c.loop-refusal.invariant c.after_code_points-left.utf8 c.in-Some.ensures
    (c.in_ok-push.ensures.items ∙ ap (λ r. c.loop-refusal.found.items ++ r ∷ []) c.refusal_after.ensures)
    c.after_code_points-left.ensures

pub returns : goal.returns
returns c =
    scan_ends c.args.scan c.args.start c.args.text.now c.args.found.now.items c.loop-refusal.found.items
    c.loop-refusal.here c.loop-refusal.left.now c.loop-refusal.invariant c.in_default.ensures

pub refusal_after-requires : goal.refusal_after-requires
refusal_after-requires c =
    let within = scan_within c.args.scan (chars c.loop-refusal.left.now) c.in-Some.refusal.place c.in-Some.refusal.rule
    c.in-Some.ensures.stands in
    let inside = c.loop-refusal.invariant.inside in
    let bound = c.requires in
    omega arith

pub overflow_add-here : goal.overflow_add-here
overflow_add-here c =
    let within = scan_within c.args.scan (chars c.loop-refusal.left.now) c.in-Some.refusal.place c.in-Some.refusal.rule
    c.in-Some.ensures.stands in
    let inside = c.loop-refusal.invariant.inside in
    let bound = c.requires in
    omega arith

pub overflow_add-here-in-Some : goal.overflow_add-here-in-Some
overflow_add-here-in-Some c =
    let within = scan_within c.args.scan (chars c.loop-refusal.left.now) c.in-Some.refusal.place c.in-Some.refusal.rule
    c.in-Some.ensures.stands in
    let inside = c.loop-refusal.invariant.inside in
    let bound = c.requires in
    omega arith

pub overflow_add-refusal : goal.overflow_add-refusal
overflow_add-refusal c =
    let within = scan_within c.args.scan (chars c.loop-refusal.left.now) c.in-Some.refusal.place c.in-Some.refusal.rule
    c.in-Some.ensures.stands in
    let inside = c.loop-refusal.invariant.inside in
    let bound = c.requires in
    omega arith
