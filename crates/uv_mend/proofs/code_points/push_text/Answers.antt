-- A text is the UTF-8 of its code points.
use Rattle.std.proofs.Common.{string_bytes, sym}
use Rattle.std.proofs.lemmas.Str.{encodes-chars}
use Rattle.uv_model.proofs.Records.SerializerLemmas.{appended}
use Rattle.uv_mend.proofs.code_points.push_text.Goals as goal

pub returns : goal.returns
returns c =
    appended c.push_str.result (string_bytes c.args.out.now) c.args.text.now (string_bytes c.push_str.new.self) _
    c.push_str.ensures.bytes (sym (encodes-chars c.args.text.now c.utf8.text))
