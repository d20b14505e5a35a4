-- Printable ASCII is copied as it is.
use Rattle.std.proofs.Common.{◌≡◌, ◌∙◌, ap, string_bytes, sym, true}
use Rattle.std.specs.List.{list_all}
use Rattle.uv_model.proofs.Records.SerializerLemmas.{appended}
use Rattle.uv_shown.specs.Escaping.Printable.{is_printable}
use Rattle.uv_shown.proofs.PrintableLemmas.{copied_whole}
use Rattle.uv_shown.proofs.escaping.escapes.push_copied.Goals as goal

pub returns-then-is_printable_text : goal.returns-then-is_printable_text
returns-then-is_printable_text c =
    let source = c.args.source.now in
    let printable : list_all is_printable source ≡ true =
    ap (list_all is_printable) (sym c.as_bytes.ensures.value) ∙ sym c.if-is_printable_text.ensures in
    appended c.push_str.result (string_bytes c.args.text.now) source (string_bytes c.push_str.new.self) _
    c.push_str.ensures.bytes (sym (copied_whole source printable))
