-- The code points of an ASCII text are its bytes.
use Rattle.std.proofs.Common.{sym, ap, ◌∙◌, string_bytes}
use Rattle.uv_model.specs.Scheme.{lowercase}
use Rattle.uv_model.proofs.Records.SerializerLemmas.{appended}
use Rattle.uv_model.proofs.Texts.AsciiLemmas.{chars-from_IsAscii}
use Rattle.uv_resolve.proofs.schemes.push_other.Goals as goal

pub returns-in_ok-to_ascii_lowercase-in-None : goal.returns-in_ok-to_ascii_lowercase-in-None
returns-in_ok-to_ascii_lowercase-in-None c =
    appended c.push_str-in-None.result (string_bytes c.args.out.now) c.as_str.result.now
    (string_bytes c.push_str-in-None.new.self) (lowercase _) c.push_str-in-None.ensures.bytes
    (c.as_str.ensures.value ∙ c.in_ok-to_ascii_lowercase-in-None.ensures.ok
    ∙ ap lowercase (sym (chars-from_IsAscii c.args.scheme.now c.utf8.scheme c.requires)))
