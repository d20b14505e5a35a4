-- The mended text is compared with the escaped one.
use Rattle.std.proofs.Common.{◌≡◌, ap, chars, sym, ◌∙◌}
use Rattle.std.proofs.lemmas.Slice.Eq.{bytes_eq-Decides}
use Rattle.uv_mend.specs.Escapes.{escaped}
use Rattle.uv_mend.proofs.KindLemmas.{same_bytes}
use Rattle.uv_mend.proofs.kinds.is_escaped.Goals as goal

pub returns : goal.returns
returns c =
    let wanted = escaped (chars c.args.text.now) in
    let equal = bytes_eq-Decides c.as_str.result.now c.args.mended.now in
    let is : chars c.as_str.result.now ≡ wanted =
    ap chars c.as_str.ensures.value ∙ c.in_ok-written.ensures in (
      λ same. ap chars (sym (equal.0 (sym c.eq.ensures ∙ same))) ∙ is,
      λ other.
          c.eq.ensures ∙ equal.1 (same_bytes c.as_str.result.now c.args.mended.now wanted c.as_str.utf8 c.utf8.mended is
          other),
    )
