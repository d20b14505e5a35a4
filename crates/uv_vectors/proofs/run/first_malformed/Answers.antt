-- The array has the values of the slice.
use Rattle.std.proofs.Common.{◌∙◌}
use Rattle.uv_vectors.proofs.CaseLemmas.{position-items_view}
use Rattle.uv_vectors.proofs.run.first_malformed.Goals as goal

pub returns-clause-place : goal.returns-clause-place
returns-clause-place c = c.malformed_at.ensures.place ∙ position-items_view c.args.values.now
