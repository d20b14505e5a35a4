-- What the name is by the kinds that are seen.
use Rattle.std.proofs.Common.{ap, ◌∙◌}
use Rattle.std.specs.List.{list_all}
use Rattle.uv_host.specs.Domains.{is_simple}
use Rattle.uv_host.proofs.NameKindsLemmas.{seen_simple}
use Rattle.uv_host.proofs.names.Name.is_simple.Goals as goal

pub returns : goal.returns
returns c =
    seen_simple c.self.inside.bytes.now c.self.inside.seen c.self.invariant ∙ ap (list_all is_simple) c.self.view_is
