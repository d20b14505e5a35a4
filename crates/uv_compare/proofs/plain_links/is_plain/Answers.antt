-- The longest run of bytes in the rows is all of them.
use Rattle.std.proofs.Common.{◌≡◌, ◌+◌, ◌∙◌, arith, sym}
use Rattle.std.specs.List.{prefix_len}
use Rattle.uv_text.specs.Rows.{is_in_rows}
use Rattle.uv_compare.specs.declared.plain_links.TheConstants.{PLAIN_ROWS}
use Rattle.uv_compare.proofs.PlainBytesLemmas.{plain_rows}
use Rattle.uv_compare.proofs.plain_links.is_plain.Goals as goal

pub returns-then-row_end-bytes : goal.returns-then-row_end-bytes
returns-then-row_end-bytes c = λ none.
    let bytes = c.args.bytes.now in
    let run = prefix_len (is_in_rows PLAIN_ROWS) bytes in
    let plain : 0 + run ≡ run = omega arith in
    plain_rows bytes (sym (c.row_end.ensures ∙ plain) ∙ c.if-row_end-bytes.true) (c.has_no_dots.ensures none)
