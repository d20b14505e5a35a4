-- A file more.
use Rattle.std.proofs.Common.{◌∙◌, arith, string_bytes}
use Rattle.uv_lint.specs.LineViolations.{file_setting}
use Rattle.uv_cli.specs.Lint.{LintsNext, reported_name}
use Rattle.uv_cli.specs.Linted.{is_stopped}
use Rattle.uv_cli.specs.Stream.{stream}
use Rattle.uv_cli.proofs.LintLemmas.{all_more, files_all, files_more, next_quiet}
use Rattle.uv_cli.proofs.lint.lint_each.Goals as goal

pub loop-file-preserved : goal.loop-file-preserved
loop-file-preserved g c =
    let next : LintsNext (is_stopped c.loop-file.linted) (string_bytes c.file-item.result)
    (file_setting (reported_name c.args.name.now (string_bytes c.file-item.result)) c.args.setting)
    c.loop-file.linted c.lint_next-linted.result
    (stream (g.I.Source.remaining c.loop-file.input) (g.I.Source.failed c.loop-file.input))
    (record {
      bytes = g.I.Source.remaining c.lint_next-linted.new.input;
      failed = g.I.Source.failed c.lint_next-linted.new.input;
    })
    (stream (g.S.Sink.contents c.loop-file.out) (g.S.Sink.failed c.loop-file.out))
    (record {
      bytes = g.S.Sink.contents c.lint_next-linted.new.out;
      failed = g.S.Sink.failed c.lint_next-linted.new.out;
    }) = rw (← c.as_str.ensures.value) c.lint_next-linted.ensures.next in
    let after = next_quiet _ _ _ _ _ _ _ _ next in
    record {
      all =
          rw (files_more c.args.files.now c.loop-file.file-index c.file-item.result c.loop-file-test.true
          c.file-item.is)
          (all_more (λ file. file_setting (reported_name c.args.name.now file) c.args.setting)
          _ _ _ _ _ _ _ _ _ _ _ c.loop-file.invariant.all next);
      quiet = λ h. (after h).0 ∙ c.loop-file.invariant.quiet (after h).1;
      stays = λ h. c.loop-file.invariant.stays (after h).1;
    }

pub returns-clause-all : goal.returns-clause-all
returns-clause-all g c =
    let end = c.loop-file-test.false in
    rw (← files_all c.args.files.now c.loop-file.file-index (omega (arith, end))) c.loop-file.invariant.all
