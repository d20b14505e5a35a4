-- The rows of lists, each by computation.
use Rattle.std.proofs.Common.{refl}
use Rattle.uv_links.proofs.laws.line_rows.Goals as goal

pub returns : goal.returns
returns c = record { empty_line = refl; open_end = refl; none = refl; closed_end = refl; kept_return = refl }
