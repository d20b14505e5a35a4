-- A code point more is passed each turn.
use Rattle.std.proofs.Common.{◌∙◌, ap, drop}
use Rattle.std.specs.Str.{chars}
use Rattle.std.proofs.lemmas.List.{drop-drop}
use Rattle.uv_model.proofs.code_points.after_code_points.Goals as goal

pub loop-preserved : goal.loop-preserved
loop-preserved c = record {
  utf8 = c.after_first-left.utf8;
  after =
      c.after_first-left.ensures ∙ (ap (drop 1) c.loop.invariant.after
      ∙ drop-drop 1 c.loop.counter (chars c.args.text.now));
}
