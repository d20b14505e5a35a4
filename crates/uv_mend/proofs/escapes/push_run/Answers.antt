-- The units with which a text begins stay.
use Rattle.std.proofs.Common.{chars, refl}
use Rattle.uv_mend.specs.Escapes.{as_units}
use Rattle.uv_mend.proofs.SameLemmas.{run_parts}
use Rattle.uv_mend.proofs.TextLemmas.{goes_on}
use Rattle.uv_mend.proofs.escapes.push_run.Goals as goal

pub returns : goal.returns
returns c =
    let text = chars c.args.text.now in
    let cut = run_parts text (chars c.split_units.result.0.now) (chars c.split_units.result.1.now)
    c.split_units.ensures in (
      λ in_fragment. goes_on _ _ _ _ (as_units in_fragment text) _ c.in_ok-push_text.ensures (cut.0 in_fragment) refl,
      cut.1,
    )
