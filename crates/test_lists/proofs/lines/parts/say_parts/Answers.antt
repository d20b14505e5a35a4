-- A part more.
use Rattle.std.proofs.Common.{◌≡◌, ◌⊎◌, ◌+◌, ◌++◌, ◌∙◌, [], refl, ap, subst, append-nil, append_assoc, inr}
use Rattle.uv_lines.specs.Fault.{failed_within}
use Rattle.uv_lines.specs.Waiting.{Passes}
use Rattle.uv_lines.proofs.WaitingLemmas.{parts_after, passes_more, passes_none}
use Rattle.test_lists.proofs.lines.parts.say_parts.Goals as goal

pub loop-part-init : goal.loop-part-init
loop-part-init g c =
    let waited = c.args.text.now.items in
    record {
      said = ([], rw (append-nil waited) (passes_none waited (g.W.Sink.contents c.args.writer.now)));
      quiet = refl;
    }

pub loop-part-preserved : goal.loop-part-preserved
loop-part-preserved g c =
    let waited = c.args.text.now.items in
    let before = c.loop-part.invariant in
    let one = c.in_default.ensures.said in
    let old = g.W.Sink.contents c.args.writer.now in
    let new = g.W.Sink.contents c.say_part.new.writer in
    record {
      said = (
        before.said.0 ++ one.0,
        subst (λ t. Passes t old new c.say_part.new.text.items) (append_assoc waited before.said.0 one.0)
            (passes_more (waited ++ before.said.0) one.0 old (g.W.Sink.contents c.loop-part.writer) new
            c.loop-part.text.items c.say_part.new.text.items before.said.1 one.1),
      );
      quiet = c.in_default.ensures.quiet ∙ before.quiet;
    }

pub returns-in-Err-clause-fault : goal.returns-in-Err-clause-fault
returns-in-Err-clause-fault g c =
    let before = c.loop-part.invariant in
    parts_after (λ parts. (parts ≡ []) ⊎ Unit {0}) (λ parts. (parts ≡ []) ⊎ Unit {0}) c.in-Err.fault
    c.args.text.now.items before.said.0 (g.W.Sink.contents c.args.writer.now)
    (g.W.Sink.contents c.loop-part.writer) (g.W.Sink.contents c.say_part.new.writer) c.loop-part.text.items
    c.say_part.new.text.items before.said.1 (λ parts is. inr (tt {0})) c.in-Err.ensures.fault

pub returns-in-Err-clause-failed : goal.returns-in-Err-clause-failed
returns-in-Err-clause-failed g c =
    c.in-Err.ensures.failed ∙ ap (λ n. n + failed_within c.in-Err.fault) c.loop-part.invariant.quiet
