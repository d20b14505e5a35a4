-- One name more.
use Rattle.std.proofs.Common.{◌≡◌, Some, rules}
use Rattle.uv_messages.specs.Explanations.{topic_of}
use Rattle.uv_messages.proofs.ExplanationLemmas.{explained_more, named_more}
use Rattle.uv_messages.proofs.explanations.topics_named.Goals as goal

pub loop-name-preserved : goal.loop-name-preserved
loop-name-preserved c =
    let names = c.args.names.now in
    let at = c.loop-name.name-index in
    let within = c.loop-name-test.true in
    let has : topic_of c.name-item.result ≡ Some c.in-Some.topic = search rules in
    record {
      found =
          explained_more names at c.name-item.result c.in-Some.topic within c.name-item.is has
          c.loop-name.invariant.found;
      topics =
          named_more names at c.name-item.result c.in-Some.topic c.loop-name.topics.items c.push.new.self.items within
          c.name-item.is c.loop-name.invariant.topics has (search rules);
    }
