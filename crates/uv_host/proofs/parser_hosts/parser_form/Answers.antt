-- The form is what is taken of the decoded bytes.
use Rattle.std.proofs.Common.{◌≡◌, List, ℕ, sym, ap, ◌∙◌}
use Rattle.std.specs.Cow.{cow_slice_items}
use Rattle.std.proofs.lemmas.Result.{IfOk-weaker}
use Rattle.percent_encoding.specs.Percent.{percent_decode}
use Rattle.uv_host.specs.ParserHosts.{taken_form}
use Rattle.uv_host.proofs.DecodedLemmas.{taken_answer}
use Rattle.uv_host.proofs.parser_hosts.parser_form.Goals as goal

pub returns : goal.returns
returns c =
    let text : List ℕ = c.args.text.now in
    let bytes : cow_slice_items c.in_ok-decoded.decoded ≡ percent_decode text
    = c.in_ok-decoded.ensures.value ∙ (c.percent_decode.ensures.bytes
    ∙ ap percent_decode c.as_bytes.ensures.value) in
    IfOk-weaker c.taken_form.result _ _
    (λ answer e.
    taken_answer text answer c.utf8.text (sym c.starts_with_bracket.ensures ∙ c.if-starts_with_bracket.false)
    (e ∙ ap taken_form bytes))
    c.taken_form.ensures
