-- The bytes of the text tell it.
use Rattle.std.proofs.Common.{ap, false, refl, sym, ◌∙◌}
use Rattle.uv_resolve.specs.Kept.{begins_with_one_slash, has_no_dots}
use Rattle.uv_resolve.proofs.KeptPathLemmas.{slashed_bytes}
use Rattle.uv_resolve.proofs.paths.slashed.Goals as goal

pub returns-then-is_without_dots : goal.returns-then-is_without_dots
returns-then-is_without_dots c =
    let same = sym c.as_bytes-bytes.ensures.value in (
      refl,
      slashed_bytes c.args.text.now c.utf8.text
          (ap begins_with_one_slash same ∙ sym c.begins_with_one_slash.ensures ∙ c.if-begins_with_one_slash.true)
          (ap (has_no_dots false) same ∙ sym c.is_without_dots.ensures ∙ c.if-is_without_dots.true),
    )
