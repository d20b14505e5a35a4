-- Below printable ASCII are spaces.
use Rattle.std.proofs.Common.{◌≡◌, ◌++◌, ◌∙◌, OnOk, ap, length, string_bytes, subst, sym, take, true}
use Rattle.std.specs.List.{list_all}
use Rattle.uv_shown.specs.Escaping.Printable.{is_printable}
use Rattle.uv_report.proofs.PrintableLemmas.{front_padding}
use Rattle.uv_report.proofs.formats.caret.push_padding.Goals as goal

pub returns-in-Some : goal.returns-in-Some
returns-in-Some c =
    let line = c.args.line.now in
    let place = c.args.place in
    let front = c.in-Some.ensures.front in
    let printable : list_all is_printable (take place line) ≡ true =
    ap (list_all is_printable) (sym (c.as_bytes.ensures.value ∙ front)) ∙ sym c.if-is_printable_text.ensures in
    subst (λ spaces. OnOk c.push_spaces.result (string_bytes c.push_spaces.new.text
    ≡ string_bytes c.args.text.now ++ spaces))
    (sym (front_padding line place (ap length (sym front) ∙ c.in-Some.ensures.front_len) printable))
    c.push_spaces.ensures
