-- A text that is the text of its own URL is read as itself.
use Rattle.std.proofs.Common.{◌≡◌, Some, option_copied, rules, sym, ◌∙◌}
use Rattle.std.proofs.lemmas.Slice.Eq.{bytes_eq-Decides}
use Rattle.uv_compare.specs.Second.{reading, second_serial}
use Rattle.uv_compare.proofs.ReadingLemmas.{own_same}
use Rattle.uv_compare.proofs.against_records.reads_same.Goals as goal

pub returns-then-is_own_url : goal.returns-then-is_own_url
unfolding second_serial
returns-then-is_own_url c =
    let base = option_copied c.args.base in
    let is : reading base c.args.text.now ≡ Some c.in-Some.url = search rules in
    let same = own_same base c.args.text.now c.args.other.now c.in-Some.url is
    (λ any. c.is_own_url.ensures any c.if-is_own_url.true) in
    let equal = bytes_eq-Decides c.as_str.result.now c.args.other.now in (
      λ holds. same.0 (sym c.as_str.ensures.value ∙ equal.0 (sym c.eq.ensures ∙ holds)),
      λ reads. c.eq.ensures ∙ equal.1 (c.as_str.ensures.value ∙ same.1 reads),
    )
