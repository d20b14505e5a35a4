-- A segment that is ASCII and no dot segment.
use Rattle.std.proofs.Common.{◌≡◌, true}
use Rattle.std.proofs.lemmas.Bool.{false≢true, not-true, not_from_false}
use Rattle.uv_model.specs.Path.{IsSegment}
use Rattle.uv_model.specs.Records.WellFormed.{is_ascii_text}
use Rattle.uv_calls.proofs.url_paths.is_url_segment.Goals as goal

pub returns-then-is_single_dot : goal.returns-then-is_single_dot
returns-then-is_single_dot c = (λ e. absurd (false≢true e), λ is. cc)

pub returns : goal.returns
returns c =
    let segment = c.args.segment.now in
    let are = c.is_ascii_segment.ensures.0 c.if-not-is_ascii_segment.false in
    let plain : IsSegment segment × (is_ascii_text segment ≡ true) =
    rw c.as_bytes.ensures.value at are
    in (
      λ e. let other = not-true c.is_double_dot.result e in
          record { units = plain.0; ascii = plain.1; no_single_dot = cc; no_double_dot = cc },
      λ is. not_from_false c.is_double_dot.result cc,
    )
