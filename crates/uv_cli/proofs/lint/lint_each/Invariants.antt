-- The files so far.
use Rattle.std.proofs.Common.{◌≡◌, map, take, string_bytes, true}
use Rattle.uv_lint.specs.LineViolations.{file_setting}
use Rattle.uv_cli.specs.Lint.{LintsAll, reported_name}
use Rattle.uv_cli.specs.Linted.{is_writable}
use Rattle.uv_cli.specs.Stream.{stream}
use Rattle.uv_cli.proofs.lint.lint_each.Given as goal

abbrev pub invariant-loop-file : goal.invariant-loop-file
invariant-loop-file g l = record {
  all : LintsAll (λ file. file_setting (reported_name l.name file) l.setting)
      (map string_bytes (take l.file-index l.files)) l.initial.linted l.linted
      (stream (g.I.Source.remaining l.initial.input) (g.I.Source.failed l.initial.input))
      (stream (g.I.Source.remaining l.input) (g.I.Source.failed l.input))
      (stream (g.S.Sink.contents l.initial.out) (g.S.Sink.failed l.initial.out))
      (stream (g.S.Sink.contents l.out) (g.S.Sink.failed l.out));
  quiet : is_writable l.linted.stopped ≡ true → g.S.Sink.failed l.out ≡ g.S.Sink.failed l.initial.out;
  stays : is_writable l.linted.stopped ≡ true → is_writable l.initial.linted.stopped ≡ true;
}
