-- The report against the record of the base's text.
use Rattle.std.proofs.Common.{option_copied, sym, subst}
use Rattle.uv_resolve.specs.Base.{IsBase}
use Rattle.uv_cli.proofs.ListLemmas.{listed_against}
use Rattle.uv_cli.proofs.links.list_links.Goals as goal

pub returns-in-Ok : goal.returns-in-Ok
returns-in-Ok g c =
    let base : IsBase c.args.profile c.args.base (option_copied c.as_ref.result) =
    subst (λ url. IsBase c.args.profile c.args.base url) (sym c.as_ref.ensures.value)
    (rw c.in-Ok.is at c.resolve_base.ensures) in
    listed_against c.args.profile c.args.base (option_copied c.as_ref.result) c.list_against.result _ _ _ _ base
    c.list_against.ensures
