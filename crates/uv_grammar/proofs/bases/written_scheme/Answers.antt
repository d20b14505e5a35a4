-- Parts without a scheme denote only the empty one.
use Rattle.std.proofs.Common.{[], sym, ap}
use Rattle.std.proofs.lemmas.Str.{chars-IsAscii}
use Rattle.std.proofs.lemmas.Str.Ascii.{IsAscii-nil}
use Rattle.uv_model.specs.Scheme.{lowercase}
use Rattle.uv_grammar.proofs.bases.written_scheme.Goals as goal

pub returns-in-None : goal.returns-in-None
returns-in-None c = rw (sym c.scheme.ensures, c.in-None.is) (ap lowercase (chars-IsAscii [] IsAscii-nil))
