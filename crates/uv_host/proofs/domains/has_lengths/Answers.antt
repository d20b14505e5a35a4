-- The lengths of a form are those that UTS #46 verifies.
use Rattle.std.proofs.Common.{sym, ◌∙◌}
use Rattle.uv_model.proofs.Hosts.DomainLemmas.{has_lengths-is}
use Rattle.uv_host.proofs.domains.has_lengths.Goals as goal

pub returns : goal.returns
returns c = c.verify_dns_length.ensures ∙ sym (has_lengths-is c.args.form.now)
