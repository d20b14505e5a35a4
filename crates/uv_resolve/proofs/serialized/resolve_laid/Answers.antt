-- The parts of a valid text denote the URL that is serialized.
use Rattle.std.proofs.Common.{option_copied, refl}
use Rattle.uv_model.specs.Records.Denote.{denote}
use Rattle.uv_resolve.proofs.serialized.resolve_laid.Goals as goal

pub laid_url-requires : goal.laid_url-requires
laid_url-requires c = (c.args.profile, _, (rw c.in-Yes.is at c.in_ok-verdict.ensures.answer).valid)

pub returns-in-Yes-clause-laid : goal.returns-in-Yes-clause-laid
returns-in-Yes-clause-laid c = (
  denote (option_copied c.args.base) c.in-Yes.parts,
  (c.in-Yes.parts, (rw c.in-Yes.is at c.in_ok-verdict.ensures.answer).valid, refl),
  c.in_ok-laid_url-in-Yes.ensures,
)
