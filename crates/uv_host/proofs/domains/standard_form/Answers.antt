-- The form of a text under the standard profile is the one that fits at the strict settings of ToASCII.
use Rattle.std.proofs.Common.{chars}
use Rattle.std.specs.Cow.{cow_str_bytes}
use Rattle.uv_host.proofs.FittingFormLemmas.{standard_form}
use Rattle.uv_host.proofs.domains.standard_form.Goals as goal

pub returns : goal.returns
returns c =
    standard_form cow_str_bytes (chars c.args.text.now) c.fitting_form.result c.requires c.fitting_form.ensures
