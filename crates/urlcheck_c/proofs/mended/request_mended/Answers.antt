-- A valid text stays, and memory runs out only for one that isn't checked without it.
use Rattle.std.proofs.Common.{◌∙◌, Option, ap, subst}
use Rattle.std.specs.Str.{chars}
use Rattle.uv_model.specs.Records.Url.{Url}
use Rattle.uv_grammar.specs.Verdict.{IsAccepted, IsRefused}
use Rattle.urlcheck_c.specs.Mended.{unmended}
use Rattle.urlcheck_c.proofs.MemoryLemmas.{valid_stays}
use Rattle.urlcheck_c.proofs.mended.request_mended.Goals as goal

pub refused_mended-requires : goal.refused_mended-requires
refused_mended-requires c =
    subst
    (λ (base : Option Url). IsRefused c.args.request.now.profile base (chars c.args.request.now.text.now) c.in-Ok-No.refusal)
    c.as_ref.ensures.value (rw c.in-Ok-No.field-0-is at c.in-Ok-No.ensures.answer)

pub returns-in-Ok-Yes : goal.returns-in-Ok-Yes
returns-in-Ok-Yes c =
    let request = c.args.request.now in
    valid_stays request.profile request.base request.text.now c.args.out.now c.in-Ok-Yes.field-0-0 c.none.result
    (subst (λ (base : Option Url). IsAccepted request.profile base (chars request.text.now) c.in-Ok-Yes.field-0-0) c.as_ref.ensures.value
    (rw c.in-Ok-Yes.field-0-is at c.in-Ok-Yes.ensures.answer))
    (c.none.ensures ∙ ap unmended c.plain.ensures)
