-- Each name so far is explained, so that all are where the rest is, and these are their topics.
use Rattle.std.proofs.Common.{◌≡◌, drop, take}
use Rattle.uv_messages.specs.Explanations.{are_explained, topics_named}
use Rattle.uv_messages.proofs.explanations.topics_named.Given as goal

abbrev pub invariant-loop-name : goal.invariant-loop-name
invariant-loop-name l = record {
  found : are_explained (drop l.name-index l.names) ≡ are_explained l.names;
  topics : l.topics.items ≡ topics_named (take l.name-index l.names);
}
