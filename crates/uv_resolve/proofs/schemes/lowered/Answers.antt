-- The code points of an ASCII text are its bytes.
use Rattle.std.proofs.Common.{sym, ap, ◌∙◌}
use Rattle.uv_model.specs.Scheme.{lowercase}
use Rattle.uv_model.proofs.Texts.AsciiLemmas.{chars-from_IsAscii}
use Rattle.uv_resolve.proofs.schemes.lowered.Goals as goal

pub returns-in_ok-to_ascii_lowercase-in-None : goal.returns-in_ok-to_ascii_lowercase-in-None
returns-in_ok-to_ascii_lowercase-in-None c =
    c.in_ok-to_ascii_lowercase-in-None.ensures.ok
    ∙ ap lowercase (sym (chars-from_IsAscii c.args.scheme.now c.utf8.scheme c.requires))
