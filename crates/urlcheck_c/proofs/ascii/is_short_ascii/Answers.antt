-- The first half of a load and the last one have all bytes.
use Rattle.std.proofs.Common.{◌-◌, ◌∙◌, arith, length, sym}
use Rattle.std.proofs.lemmas.Bool.{false≢true}
use Rattle.std.proofs.lemmas.Str.{IsAscii-drop, IsAscii-take}
use Rattle.urlcheck_c.proofs.AsciiLemmas.{ascii_by_two}
use Rattle.urlcheck_c.proofs.ascii.is_short_ascii.Goals as goal

pub returns-then-is_half_ascii : goal.returns-then-is_half_ascii
returns-then-is_half_ascii c = (
  λ yes. ascii_by_two 16 c.args.bytes.now (omega (arith, c.if-bytes-lt16.false)) (omega (arith, c.requires))
      (c.is_half_ascii.ensures.0 c.if-is_half_ascii.true) (c.is_half_ascii-then-is_half_ascii.ensures.0 yes),
  λ ascii. c.is_half_ascii-then-is_half_ascii.ensures.1
      (IsAscii-take _ 16 (IsAscii-drop _ (length c.args.bytes.now - 16) ascii)),
)

pub returns-else-is_half_ascii : goal.returns-else-is_half_ascii
returns-else-is_half_ascii c = (
  λ yes. absurd (false≢true (sym c.if-is_half_ascii.false ∙ yes)),
  λ ascii. c.is_half_ascii.ensures.1 (IsAscii-take _ 16 ascii),
)
