-- The prefixes were written, and then the units.
use Rattle.std.proofs.Common.{chars, ◌∙◌}
use Rattle.uv_mend.proofs.EscapeLemmas.{escaped_joined}
use Rattle.uv_mend.proofs.TextLemmas.{begun, followed, written}
use Rattle.uv_mend.proofs.escapes.escaped.Goals as goal

pub returns : goal.returns
returns c =
    let scheme = begun _ _ _ c.in_ok-out.ensures.bytes c.in_ok-push_text.ensures in
    let authority = followed _ _ _ _ scheme c.in_ok-push_text-2.ensures in
    written c.push_units.new.out _ (followed _ _ _ _ authority c.in_ok-push_units.ensures)
    ∙ escaped_joined (chars c.args.text.now) _ _ _ _ c.split_scheme.ensures.prefix
    c.split_scheme.ensures.rest c.split_authority.ensures.prefix c.split_authority.ensures.rest
