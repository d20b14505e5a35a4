-- Printable ASCII is shown as it is.
use Rattle.std.proofs.Common.{◌≡◌, ◌∙◌, ap, string_bytes, sym, true}
use Rattle.std.specs.List.{list_all}
use Rattle.uv_shown.specs.Escaping.Printable.{is_printable}
use Rattle.uv_shown.proofs.PrintableLemmas.{shown_whole}
use Rattle.uv_sentences.proofs.sentences.message.message.Goals as goal

pub returns-then-is_printable_text : goal.returns-then-is_printable_text
returns-then-is_printable_text c =
    let said = string_bytes c.in_ok-said.said.text in
    let printable : list_all is_printable said ≡ true =
    ap (list_all is_printable) (sym c.as_bytes.ensures.value) ∙ sym c.if-is_printable_text.ensures in
    (said, sym (shown_whole said printable))
