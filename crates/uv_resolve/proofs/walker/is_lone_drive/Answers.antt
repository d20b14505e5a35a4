-- The only segment is a drive letter where what is after the first code point is.
use Rattle.std.proofs.Common.{◌∙◌, ◌==◌, List, ℕ, ◌-◌, ap, drop, length, sym, take}
use Rattle.uv_model.specs.Path.{is_normalized_drive_letter}
use Rattle.uv_resolve.proofs.PathTextLemmas.{lone_drive_after}
use Rattle.uv_resolve.proofs.walker.is_lone_drive.Goals as goal

pub returns : goal.returns
returns c =
    c.is_normalized_drive_letter.ensures
    ∙ ap (λ (bytes : List ℕ). is_normalized_drive_letter (take (length bytes - 1) (drop 1 bytes)))
    c.as_bytes-bytes.ensures.value
    ∙ lone_drive_after c.args.path.now
    (ap (λ (bytes : List ℕ). length bytes == 0) (sym c.as_bytes-bytes.ensures.value) ∙ sym c.is_empty.ensures
    ∙ c.if-is_empty.false)
