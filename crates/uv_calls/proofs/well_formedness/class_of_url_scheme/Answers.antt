-- The code points of a URL's scheme are its bytes.
use Rattle.uv_model.proofs.SchemeLemmas.{chars-scheme}
use Rattle.uv_calls.proofs.well_formedness.class_of_url_scheme.Goals as goal

pub returns : goal.returns
returns c = rw (chars-scheme c.args.scheme.now c.requires.spelled) at c.class_of.ensures
