-- The parts were written one after another.
use Rattle.std.proofs.Common.{chars, ◌∙◌}
use Rattle.uv_mend.proofs.TextLemmas.{begun, followed, written}
use Rattle.uv_mend.proofs.RestHosts.{host_joined}
use Rattle.uv_mend.proofs.hosts.with_host.Goals as goal

pub returns : goal.returns
returns c =
    let scheme = begun _ _ _ c.new-out.ensures.bytes c.in_ok-push_text.ensures in
    let slashes = followed _ _ _ _ scheme c.in_ok-push_text-2.ensures in
    let host = followed _ _ _ _ slashes c.in_ok-push_text-3.ensures in
    written c.push_text-4.new.out _ (followed _ _ _ _ host c.in_ok-push_text-4.ensures)
    ∙ host_joined c.args.class (chars c.args.text.now) (chars c.args.host.now) _ _ _ _
    c.split_scheme.ensures.prefix c.split_scheme.ensures.rest c.after_two.ensures c.after_host.ensures
