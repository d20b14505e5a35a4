-- The code points of an ASCII text are its bytes.
use Rattle.std.proofs.lemmas.Str.{chars-IsAscii}
use Rattle.uv_model.proofs.path_text.PathSegments.next_text.Goals as goal

pub returns-in-Some-clause-code_points : goal.returns-in-Some-clause-code_points
returns-in-Some-clause-code_points c =
    chars-IsAscii c.split_first.result.0.now c.split_first.ensures.first
