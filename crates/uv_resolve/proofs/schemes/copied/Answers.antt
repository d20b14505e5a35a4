-- The code points of an ASCII text are its bytes.
use Rattle.std.proofs.Common.{sym, ◌∙◌}
use Rattle.std.proofs.lemmas.Str.{chars-IsAscii}
use Rattle.uv_resolve.proofs.schemes.copied.Goals as goal

pub returns-in-Some : goal.returns-in-Some
returns-in-Some c = sym c.in-Some.ensures.own ∙ chars-IsAscii c.args.scheme.now c.requires
