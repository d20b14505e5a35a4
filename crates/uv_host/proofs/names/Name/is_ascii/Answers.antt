-- What the name is by the kinds that are seen.
use Rattle.std.proofs.Common.{ap, ◌∙◌}
use Rattle.std.specs.Char.{is_ascii}
use Rattle.std.specs.List.{list_all}
use Rattle.uv_host.proofs.NameKindsLemmas.{seen_ascii}
use Rattle.uv_host.proofs.names.Name.is_ascii.Goals as goal

pub returns : goal.returns
returns c =
    seen_ascii c.self.inside.bytes.now c.self.inside.seen c.self.invariant ∙ ap (list_all is_ascii) c.self.view_is
