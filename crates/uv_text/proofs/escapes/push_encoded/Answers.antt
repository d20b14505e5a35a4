-- The escapes that the library writes are the encoded text.
use Rattle.std.proofs.Common.{◌≡◌, ◌++◌, OnOk, string_bytes, sym, ap, ◌∙◌, subst}
use Rattle.percent_encoding.specs.Percent.{percent_encode}
use Rattle.uv_text.proofs.EscapesLemmas.{set_of, percent_encode-chars}
use Rattle.uv_text.proofs.escapes.push_encoded.Goals as goal
use Rattle.uv_text.proofs.escapes.push_encoded.Goals.{then-quote, else-quote}

pub returns-clause-text : goal.returns-clause-text
returns-clause-text c =
    let is : c.if-quote.set ≡ set_of c.args.quote =
    elim c.if-quote.branch [
      | then-quote w ↦ w.set-is ∙ ap set_of (sym w.if-quote.true)
      | else-quote w ↦ w.set-is ∙ ap set_of (sym w.if-quote.false)
    ] in
    subst (λ t. OnOk c.append_to.result (string_bytes c.append_to.new.out ≡ string_bytes c.args.out.now ++ t))
    (c.utf8_percent_encode.ensures.text ∙ ap (λ set. percent_encode set c.args.text.now) is
    ∙ percent_encode-chars c.args.quote c.args.text.now c.utf8.text)
    c.append_to.ensures.ok
