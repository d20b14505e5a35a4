-- A path's text is its segments, each after a `/`.
use Rattle.std.proofs.Common.{◌∙◌, ap, sym}
use Rattle.uv_model.specs.Records.Serialize.{serial_path, serial_segments}
use Rattle.uv_model.proofs.Paths.PathTexts.{path_text-written}
use Rattle.uv_model.proofs.path.UrlPath.as_str.Goals as goal

pub returns-in-Segments : goal.returns-in-Segments
returns-in-Segments c =
    sym (path_text-written c.as_str-in-Segments.result.now c.as_str-in-Segments.ensures.path)
    ∙ ap serial_segments c.as_str-in-Segments.ensures.after ∙ sym (ap serial_path c.in-Segments.is)
