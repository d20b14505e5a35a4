-- The report on the files, with its beginning and its end.
use Rattle.std.proofs.Common.{◌∙◌, ap, map, string_bytes}
use Rattle.uv_report.specs.Report.{begin_text}
use Rattle.uv_shown.specs.Rule.{rule_view}
use Rattle.uv_cli.specs.Lint.{form_of, input_name, look_of}
use Rattle.uv_cli.proofs.LintLemmas.{begins_with, lints_files}
use Rattle.uv_cli.proofs.lint.lint_against.Goals as goal

pub returns : goal.returns
returns g c = record {
  first = c.write_piece-linted.result;
  last = c.lint_each-linted.result;
  begun = record {
    bytes = g.S.Sink.contents c.write_piece-linted.new.out;
    failed = g.S.Sink.failed c.write_piece-linted.new.out;
  };
  ended = record {
    bytes = g.S.Sink.contents c.lint_each-linted.new.out;
    failed = g.S.Sink.failed c.lint_each-linted.new.out;
  };
  begins =
      begins_with _ _ c.args.job.now.quiet c.new.result c.write_piece-linted.result _ _ c.new.ensures
      (c.as_str.ensures.value ∙ (c.in-Ok.ensures.text ∙ ap (λ rules. begin_text c.args.format c.args.columns rules)
      (ap (map rule_view) c.as_slice.ensures ∙ c.shown_rules-rules.ensures))) c.write_piece-linted.ensures;
  all =
      lints_files (input_name c.args.job.now) (record {
        base = c.args.base;
        profile = c.args.job.now.profile;
        extent = c.args.job.now.extent;
        format = c.args.format;
        look = look_of c.args.job.now.colours;
        columns = c.args.columns;
        form = form_of c.args.job.now.located;
      })
      _ _ _ _ _ _ _ _ (ap (map string_bytes) c.as_slice-2.ensures.value)
      (rw (c.look_of.ensures, c.form_of.ensures) at (rw c.input_name-name.ensures at c.lint_each-linted.ensures.all));
  ends = rw (← c.completion.ensures, ← c.end_of.ensures) c.write_piece.ensures;
}
