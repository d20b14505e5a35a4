-- There is a text of each topic so far.
use Rattle.std.proofs.Common.{take}
use Rattle.std.specs.List.{AllZip}
use Rattle.uv_messages.specs.Explanations.{Tells}
use Rattle.uv_messages.proofs.explanations.told_of.Given as goal

abbrev pub invariant-loop-topic : goal.invariant-loop-topic
invariant-loop-topic l = AllZip (Tells l.fn.told) (take l.topic-index l.topics) l.texts.items
