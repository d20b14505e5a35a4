-- The first load and the last one have all bytes.
use Rattle.std.proofs.Common.{◌-◌, ◌∙◌, arith, length, sym}
use Rattle.std.proofs.lemmas.Bool.{false≢true}
use Rattle.std.proofs.lemmas.Str.{IsAscii-drop, IsAscii-take}
use Rattle.urlcheck_c.proofs.AsciiLemmas.{ascii_by_two}
use Rattle.urlcheck_c.proofs.ascii.is_ascii.Goals as goal

pub returns-then-is_load_ascii : goal.returns-then-is_load_ascii
returns-then-is_load_ascii c = (
  λ yes. ascii_by_two 32 c.args.bytes.now (omega (arith, c.if-bytes-lt32.false))
      (omega (arith, c.if-bytes-gt-TWO_LOADS.false))
      (c.is_load_ascii.ensures.0 c.if-is_load_ascii.true) (c.is_load_ascii-then-is_load_ascii.ensures.0 yes),
  λ ascii. c.is_load_ascii-then-is_load_ascii.ensures.1
      (IsAscii-take _ 32 (IsAscii-drop _ (length c.args.bytes.now - 32) ascii)),
)

pub returns-else-is_load_ascii : goal.returns-else-is_load_ascii
returns-else-is_load_ascii c = (
  λ yes. absurd (false≢true (sym c.if-is_load_ascii.false ∙ yes)),
  λ ascii. c.is_load_ascii.ensures.1 (IsAscii-take _ 32 ascii),
)
