-- The code points of an ASCII text are its bytes.
use Rattle.std.proofs.Common.{ap, sym, ◌∙◌}
use Rattle.std.specs.Char.{is_ascii}
use Rattle.std.specs.List.{list_all}
use Rattle.uv_model.specs.Hosts.Domain.{is_permitted}
use Rattle.uv_host.proofs.NameKindsLemmas.{permitted_ascii}
use Rattle.uv_host.proofs.domains.has_permitted.Goals as goal

pub returns-then-is_ascii : goal.returns-then-is_ascii
returns-then-is_ascii c =
    c.is_permitted.ensures
    ∙ (ap (list_all (is_permitted c.args.profile)) c.requires
    ∙ permitted_ascii c.args.profile c.args.text.now
    (ap (list_all is_ascii) (sym c.requires) ∙ (sym c.is_ascii.ensures ∙ c.if-is_ascii.true)))
