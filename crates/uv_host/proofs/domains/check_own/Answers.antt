-- A name of the right lengths is its own form.
use Rattle.std.proofs.Common.{sym, ◌∙◌}
use Rattle.uv_host.proofs.domains.check_own.Goals as goal

pub is_number-requires : goal.is_number-requires
is_number-requires c = c.requires.ascii

pub returns-then-not-fits_lengths : goal.returns-then-not-fits_lengths
returns-then-not-fits_lengths c = c.requires.wrong (sym c.fits_lengths.ensures ∙ c.if-not-fits_lengths.true)

pub returns-then-is_number : goal.returns-then-is_number
returns-then-is_number c = (
  c.args.name.now,
  c.requires.fits (sym c.fits_lengths.ensures ∙ c.if-not-fits_lengths.false),
  sym c.is_number.ensures ∙ c.if-is_number.true,
)

pub returns-else-is_number : goal.returns-else-is_number
returns-else-is_number c = (
  c.requires.fits (sym c.fits_lengths.ensures ∙ c.if-not-fits_lengths.false),
  sym c.is_number.ensures ∙ c.if-is_number.false,
)
