-- An ASCII text without a fault is ASCII URL units, and the other way round.
use Rattle.std.proofs.Common.{sym, ◌∙◌}
use Rattle.uv_model.proofs.Texts.UnitsLemmas.{IsUnits-faultless, is_faultless-units}
use Rattle.uv_calls.proofs.ascii_units.is_ascii_units.Goals as goal

pub returns : goal.returns
returns c =
    let text = c.args.text.now in (
      λ e. record {
        units = IsUnits-faultless text (sym c.is_faultless.ensures ∙ e);
        ascii = sym c.is_ascii_text.ensures ∙ c.if-not-is_ascii_text.false;
      },
      λ is. c.is_faultless.ensures ∙ is_faultless-units text is.units,
    )
