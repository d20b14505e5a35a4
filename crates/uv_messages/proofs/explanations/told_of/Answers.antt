-- There is a text of one topic more.
use Rattle.uv_messages.proofs.ExplanationLemmas.{each_more}
use Rattle.uv_messages.proofs.explanations.told_of.Goals as goal

pub loop-topic-preserved : goal.loop-topic-preserved
loop-topic-preserved c =
    rw (c.in_ok-push.ensures.items)
    (each_more c.args.told c.args.topics.now c.loop-topic.topic-index _ c.loop-topic.texts.items _
    c.loop-topic-test.true c.loop-topic.invariant c.in_ok-text_of.ensures)
