-- The law form by form.
use Rattle.uv_model.proofs.Records.DenotedRecords as forms
use Rattle.uv_model.proofs.laws.denoted_records_are_well_formed.Goals as goal

pub returns : goal.returns
returns c = forms.denoted_records_are_well_formed
