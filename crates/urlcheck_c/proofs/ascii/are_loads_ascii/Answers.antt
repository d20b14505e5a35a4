-- A load more is ASCII, and the last one has what is left.
use Rattle.std.proofs.Common.{List, ℕ, ◌-◌, ◌≤◌, ◌∙◌, ◌≡◌, arith, drop, length, sym, subst, take, take-add, take_all}
use Rattle.std.specs.Str.{IsAscii}
use Rattle.std.proofs.lemmas.Bool.{false≢true}
use Rattle.std.proofs.lemmas.List.{length-drop}
use Rattle.std.proofs.lemmas.Str.{IsAscii-append, IsAscii-drop, IsAscii-take}
use Rattle.urlcheck_c.proofs.AsciiLemmas.{ascii_joined}
use Rattle.urlcheck_c.proofs.ascii.are_loads_ascii.Goals as goal

pub loop-at-preserved : goal.loop-at-preserved
loop-at-preserved c = (
  omega arith,
  subst (λ (l : List ℕ). IsAscii l) (sym (take-add c.loop-at.at 32 c.args.bytes.now))
      (IsAscii-append _ _ c.loop-at.invariant.1 (c.is_load_ascii.ensures.0 c.if-not-is_load_ascii.false)),
)

pub returns-then-not-is_load_ascii : goal.returns-then-not-is_load_ascii
returns-then-not-is_load_ascii c = (
  λ yes. absurd (false≢true yes),
  λ ascii. absurd (false≢true (sym c.if-not-is_load_ascii.true
      ∙ c.is_load_ascii.ensures.1 (IsAscii-take _ 32 (IsAscii-drop _ c.loop-at.at ascii)))),
)

pub returns : goal.returns
returns c =
    let bytes = c.args.bytes.now in
    let start = length bytes - 32 in
    let long = length-drop start bytes in
    let whole : take 32 (drop start bytes) ≡ drop start bytes
    = take_all 32 (drop start bytes) (omega (arith, c.requires)) in
    let after : start ≤ c.loop-at.at = omega (arith, c.loop-at-test.false) in (
      λ yes. ascii_joined c.loop-at.at start bytes after c.loop-at.invariant.1
          (subst (λ (l : List ℕ). IsAscii l) whole (c.is_load_ascii-2.ensures.0 yes)),
      λ ascii. c.is_load_ascii-2.ensures.1 (IsAscii-take _ 32 (IsAscii-drop _ start ascii)),
    )
