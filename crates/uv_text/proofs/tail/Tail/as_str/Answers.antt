-- A tail begins on a border of code points.
use Rattle.std.proofs.lemmas.Str.{IsCharBoundary-from_drop}
use Rattle.uv_text.proofs.tail.Tail.as_str.Goals as goal

pub range_from-requires : goal.range_from-requires
range_from-requires c = λ some.
    IsCharBoundary-from_drop c.self.inside.whole.now c.self.inside.place c.self.invariant.0 c.self.invariant.1
