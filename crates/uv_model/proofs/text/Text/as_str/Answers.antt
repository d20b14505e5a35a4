-- The code points of an ASCII text are its bytes.
use Rattle.std.proofs.Common.{◌≡◌, rules}
use Rattle.std.specs.Str.{IsAscii}
use Rattle.std.proofs.lemmas.Str.{chars-IsAscii}
use Rattle.uv_model.proofs.text.Text.as_str.Goals as goal

pub returns-clause-code_points : goal.returns-clause-code_points
returns-clause-code_points c =
    let ascii : IsAscii c.args.self.now = search rules in
    let same : c.as_str.result.now ≡ c.args.self.now = search rules in
    rw same (chars-IsAscii c.args.self.now ascii)
