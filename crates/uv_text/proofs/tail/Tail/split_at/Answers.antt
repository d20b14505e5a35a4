-- A border of the tail is one of the whole.
use Rattle.std.proofs.Common.{◌≤◌, ℕ, List, drop, length, subst, sym, arith}
use Rattle.std.specs.Str.{IsCharBoundary, IsUtf8}
use Rattle.std.proofs.lemmas.List.{drop-drop, length-drop}
use Rattle.std.proofs.lemmas.Str.{IsCharBoundary-from_drop, IsUtf8-drop}
use Rattle.uv_text.proofs.tail.Tail.split_at.Goals as goal

pub range-requires-clause-start_boundary : goal.range-requires-clause-start_boundary
range-requires-clause-start_boundary c = λ some.
    IsCharBoundary-from_drop c.self.inside.whole.now c.self.inside.place c.self.invariant.0 c.self.invariant.1

pub invariant_of-rest : goal.invariant_of-rest
invariant_of-rest c =
    let whole = c.self.inside.whole.now in
    let place = c.self.inside.place in
    let border : IsCharBoundary (drop place whole) c.args.end =
    subst (λ (s : List ℕ). IsUtf8 s → IsCharBoundary s c.args.end) (sym c.self.view_is) c.requires c.self.invariant.1 in
    let long = length-drop place whole in
    let inside = c.self.invariant.0 in
    let room : c.args.end ≤ length (drop place whole) = border.0 in (
      omega arith,
      subst IsUtf8 (drop-drop c.args.end place whole)
          (IsUtf8-drop (drop place whole) c.args.end c.self.invariant.1 border),
    )
