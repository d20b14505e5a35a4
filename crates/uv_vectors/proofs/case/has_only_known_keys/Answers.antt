-- The keys are the members' keys.
use Rattle.std.proofs.Common.{◌∙◌}
use Rattle.uv_vectors.proofs.CaseLemmas.{known_keys-members_view}
use Rattle.uv_vectors.proofs.case.has_only_known_keys.Goals as goal

pub returns : goal.returns
returns c = c.all_keys_known.ensures ∙ known_keys-members_view c.args.members.now.entries
