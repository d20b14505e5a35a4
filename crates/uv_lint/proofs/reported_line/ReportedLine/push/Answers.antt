-- A diagnostic more, and at the end no violation is left.
use Rattle.std.proofs.Common.{◌≡◌, ◌+◌, ◌++◌, ◌∷◌, ◌∙◌, [], arith, drop, get_or, option_map, take, take_all, refl}
use Rattle.std.proofs.Common.{sym, ap, subst, append-nil, append_assoc}
use Rattle.uv_model.specs.declared.rule.Rule.TheVariants.{NoScheme}
use Rattle.uv_rules.specs.declared.line_violation.LineViolation.{LineViolation}
use Rattle.uv_rules.specs.declared.line_violation.LineViolation.TheVariants.{Refused}
use Rattle.uv_report.specs.Diagnostic.{fix_view}
use Rattle.uv_sentences.specs.Sentences.Message.{message_view}
use Rattle.uv_lines.specs.Fault.{failed_within}
use Rattle.uv_lines.specs.Waiting.{Passes}
use Rattle.uv_lines.proofs.WaitingLemmas.{parts_after, passes_more, passes_none}
use Rattle.uv_lint.specs.Findings.{AreMessages}
use Rattle.uv_lint.specs.Report.{diagnostic_in, diagnostic_on, diagnostics_text, fix_on, one_text}
use Rattle.uv_lint.specs.Reporting.{IsNoneOr}
use Rattle.uv_lint.specs.ReportedView.{AreFirstSaid, mended_line_view, reported_view}
use Rattle.uv_lint.proofs.DiagnosticLemmas.{IsSaidBefore, are_all, are_next, blanks, first_with, said_first}
use Rattle.uv_lint.proofs.DiagnosticLemmas.{said_next, said_none}
use Rattle.uv_lint.proofs.reported_line.ReportedLine.push.Goals as goal

pub loop-violation-init : goal.loop-violation-init
loop-violation-init g c =
    let line = c.args.self.now in
    let setting = c.args.setting in
    let waited = c.args.text.now.items in
    let fix = fix_on setting.columns (reported_view line) (option_map mended_line_view c.args.mended.now) in
    record {
      said = (
        [],
        rw (append-nil waited) (passes_none waited (g.W.Sink.contents c.args.writer.now)),
        (
          [],
          tt {0},
          subst (λ told. IsSaidBefore setting.form setting.format setting.look setting.columns (reported_view line) c.args.is_first
              fix [] [] [] c.args.is_first told) (sym c.fix_in_place-fix.ensures)
              (said_none setting.form setting.format setting.look setting.columns (reported_view line) c.args.is_first fix),
        ),
      );
      quiet = refl;
      counter = c.new-counter.ensures;
      known = c.requires.known;
    }

pub say_violation-requires-clause-seen : goal.say_violation-requires-clause-seen
say_violation-requires-clause-seen g c = c.seen.ensures ∙ c.go_to.ensures ∙ c.loop-violation.invariant.known

pub loop-violation-preserved : goal.loop-violation-preserved
loop-violation-preserved g c =
    let line = c.args.self.now in
    let reported = reported_view line in
    let setting = c.args.setting in
    let violations = c.args.violations.now in
    let i = c.loop-violation.violation-index in
    let none : LineViolation = Refused (record { place = 0; rule = NoScheme }) in
    let violation = get_or violations i none in
    let invariant = c.loop-violation.invariant in
    let said = invariant.said in
    let counted = c.column-column.ensures.same ∙ invariant.counter in
    let told = option_map fix_view c.loop-violation.fix in
    let message = message_view c.in-Ok.message in
    let fix = fix_on setting.columns reported (option_map mended_line_view c.args.mended.now) in
    let one = one_text setting.form setting.format setting.look c.loop-violation.is_first
    (diagnostic_on setting.columns reported told violation message) in
    let old = g.W.Sink.contents c.args.writer.now in
    let new = g.W.Sink.contents c.say_violation.new.writer in
    let is : diagnostic_in reported c.region.result told violation message
    ≡ diagnostic_on setting.columns reported told violation message =
    rw (
      c.region.ensures,
      c.column-column.ensures.column,
      c.column_ahead-end.ensures,
      counted,
      invariant.counter,
      c.place.ensures,
      c.end.ensures,
    ) refl in
    record {
      said = (
        said.0 ++ one,
        subst (λ t. Passes t old new c.say_violation.new.text.items) (append_assoc c.args.text.now.items said.0 one)
            (passes_more (c.args.text.now.items ++ said.0) one old (g.W.Sink.contents c.loop-violation.writer) new
            c.loop-violation.text.items c.say_violation.new.text.items said.1
            (subst (λ found. Passes (c.loop-violation.text.items
            ++ one_text setting.form setting.format setting.look c.loop-violation.is_first found)
            (g.W.Sink.contents c.loop-violation.writer) new c.say_violation.new.text.items) is
            c.in_default-say_violation.ensures.text)),
        (
          said.2.0 ++ message ∷ [],
          are_next violations i none said.2.0 message c.loop-violation-test.true said.2.1 c.in-Ok.ensures,
          said_next setting.form setting.format setting.look setting.columns reported c.args.is_first c.loop-violation.is_first fix
              told violations i none said.2.0 message said.0 c.loop-violation-test.true said.2.2,
        ),
      );
      quiet = c.in_default-say_violation.ensures.quiet ∙ invariant.quiet;
      counter = c.column-column.ensures.same ∙ invariant.counter;
      known = c.go_to.ensures ∙ invariant.known;
    }

-- if no memory was left for the message on a violation, the diagnostics before it were said
pub returns-in_default-clause-fault : goal.returns-in_default-clause-fault
returns-in_default-clause-fault g c =
    let line = c.args.self.now in
    let reported = reported_view line in
    let setting = c.args.setting in
    let violations = c.args.violations.now in
    let i = c.loop-violation.violation-index in
    let said = c.loop-violation.invariant.said in
    let fix = fix_on setting.columns reported (option_map mended_line_view c.args.mended.now) in
    let others = blanks (drop i violations) in (
      said.0,
      (
        said.2.0 ++ others,
        are_all violations i said.2.0 said.2.1,
        (
          i,
          said_first setting.form setting.format setting.look setting.columns reported c.args.is_first fix (take i violations)
              said.2.0 others said.0 c.loop-violation.is_first (option_map fix_view c.loop-violation.fix) said.2.2,
        ),
      ),
      said.1,
    )

pub returns-in-Err-clause-fault : goal.returns-in-Err-clause-fault
returns-in-Err-clause-fault g c =
    let line = c.args.self.now in
    let reported = reported_view line in
    let setting = c.args.setting in
    let violations = c.args.violations.now in
    let i = c.loop-violation.violation-index in
    let none : LineViolation = Refused (record { place = 0; rule = NoScheme }) in
    let violation = get_or violations i none in
    let invariant = c.loop-violation.invariant in
    let said = invariant.said in
    let counted = c.column-column.ensures.same ∙ invariant.counter in
    let told = option_map fix_view c.loop-violation.fix in
    let message = message_view c.in-Ok.message in
    let fix = fix_on setting.columns reported (option_map mended_line_view c.args.mended.now) in
    let one = one_text setting.form setting.format setting.look c.loop-violation.is_first
    (diagnostic_on setting.columns reported told violation message) in
    let is : diagnostic_in reported c.region.result told violation message
    ≡ diagnostic_on setting.columns reported told violation message =
    rw (
      c.region.ensures,
      c.column-column.ensures.column,
      c.column_ahead-end.ensures,
      counted,
      invariant.counter,
      c.place.ensures,
      c.end.ensures,
    ) refl in
    let with_one = said_next setting.form setting.format setting.look setting.columns reported c.args.is_first
    c.loop-violation.is_first fix told violations i none said.2.0 message said.0 c.loop-violation-test.true said.2.2 in
    let told_next = are_next violations i none said.2.0 message c.loop-violation-test.true said.2.1
    c.in-Ok.ensures in
    parts_after (IsNoneOr one) (AreFirstSaid line setting c.args.is_first c.args.mended.now violations)
    c.in-Err.fault c.args.text.now.items said.0
    (g.W.Sink.contents c.args.writer.now) (g.W.Sink.contents c.loop-violation.writer)
    (g.W.Sink.contents c.say_violation.new.writer) c.loop-violation.text.items c.say_violation.new.text.items said.1
    (λ parts begun. first_with line setting c.args.is_first c.args.mended.now violations i said.2.0 message said.0 one
    c.loop-violation.is_first told parts said.2.1 said.2.2 told_next with_one begun)
    (rw is at c.in-Err.ensures.fault)

pub returns-in-Err-clause-failed : goal.returns-in-Err-clause-failed
returns-in-Err-clause-failed g c =
    c.in-Err.ensures.failed ∙ ap (λ n. n + failed_within c.in-Err.fault) c.loop-violation.invariant.quiet

pub returns-clause-text : goal.returns-clause-text
returns-clause-text g c =
    let line = c.args.self.now in
    let reported = reported_view line in
    let setting = c.args.setting in
    let violations = c.args.violations.now in
    let i = c.loop-violation.violation-index in
    let said = c.loop-violation.invariant.said in
    let fix = fix_on setting.columns reported (option_map mended_line_view c.args.mended.now) in
    let all : take i violations ≡ violations =
    take_all i violations (let last = c.loop-violation-test.false in omega (arith, last)) in (
      said.2.0,
      subst (λ vs. AreMessages vs said.2.0) all said.2.1,
      subst (λ t. Passes (c.args.text.now.items ++ t) (g.W.Sink.contents c.args.writer.now)
          (g.W.Sink.contents c.loop-violation.writer) c.loop-violation.text.items)
          (said_first setting.form setting.format setting.look setting.columns reported c.args.is_first fix (take i violations)
          said.2.0 [] said.0 c.loop-violation.is_first (option_map fix_view c.loop-violation.fix) said.2.2
          ∙ ap (λ ms. diagnostics_text setting.form setting.format setting.look setting.columns reported c.args.is_first fix
          (take i violations) ms) (append-nil said.2.0)
          ∙ ap (λ vs. diagnostics_text setting.form setting.format setting.look setting.columns reported c.args.is_first fix
          vs said.2.0) all) said.1,
    )
