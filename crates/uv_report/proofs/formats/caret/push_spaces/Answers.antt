-- The front of spaces is spaces.
use Rattle.std.proofs.Common.{◌≡◌, ◌∙◌, ap, length, replicate, string_bytes, sym, take}
use Rattle.uv_model.proofs.Records.SerializerLemmas.{appended}
use Rattle.uv_report.proofs.PrintableLemmas.{front_of_spaces}
use Rattle.uv_report.proofs.formats.caret.push_spaces.Goals as goal

pub returns-in-Some : goal.returns-in-Some
returns-in-Some c =
    let count = c.args.count in
    let front : c.in-Some.spaces.now ≡ take count (replicate 96 32) = c.in-Some.ensures.front in
    appended c.push_str.result (string_bytes c.args.text.now) c.in-Some.spaces.now (string_bytes c.push_str.new.self) _
    c.push_str.ensures.bytes
    (front ∙ front_of_spaces count 96 (ap length (sym front) ∙ c.in-Some.ensures.front_len))
