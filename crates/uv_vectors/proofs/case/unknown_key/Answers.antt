-- The keys are the members' keys.
use Rattle.std.proofs.Common.{◌∙◌, Some, ap, option_map, string_bytes}
use Rattle.uv_vectors.proofs.CaseLemmas.{unknown_key-members_view}
use Rattle.uv_vectors.proofs.case.unknown_key.Goals as goal

pub returns-in-Some : goal.returns-in-Some
returns-in-Some c =
    ap Some c.as_str.ensures.value ∙ ap (option_map string_bytes) c.in-Some.ensures
    ∙ unknown_key-members_view c.args.members.now.entries

pub returns-in-None : goal.returns-in-None
returns-in-None c =
    ap (option_map string_bytes) c.in-None.ensures ∙ unknown_key-members_view c.args.members.now.entries
