-- From lines that were reported on one after the other to the report on a file, and to what a run over it leaves.
use Rattle.std.proofs.Common.{◌≡◌, ℕ, ◌+◌, Bool, List, [], ◌∷◌, ◌++◌, Option, Result, Ok, Err, OnOk, IfErr, map, ap}
use Rattle.std.proofs.Common.{◌∙◌, subst, arith, sum_by, inl, inr, zero-add, sym, append-nil, append_assoc}
use Rattle.std.proofs.lemmas.List.Sums.{sum_by-append}
use Rattle.std.specs.declared.alloc.AllocError.{AllocError}
use Rattle.uv_lines.specs.declared.fault.LineFault.{LineFault}
use Rattle.uv_lines.specs.declared.fault.LineFault.TheVariants.{Own, Stop}
use Rattle.uv_lines.specs.declared.fault.StopFault.{StopFault}
use Rattle.uv_lines.specs.declared.fault.StopFault.TheVariants.{Memory, Read, Write, TooManyLines, Endless}
use Rattle.uv_lines.specs.declared.limits.LineLimits.{LineLimits}
use Rattle.uv_lines.specs.Fault.{writes_failed}
use Rattle.uv_lines.specs.Framed as framed
use Rattle.uv_lines.specs.Framed.{Framed}
use Rattle.uv_lines.specs.Lines.{short_line}
use Rattle.uv_lines.specs.Reported.{Reported, ReportedBegun, ReportedPart}
use Rattle.uv_lines.specs.Run as run
use Rattle.uv_lines.proofs.FramedLemmas.{Wrote-map}
use Rattle.uv_lint.specs.declared.counts.LintCounts.{LintCounts}
use Rattle.uv_lint.specs.Findings.{AreAllFindings, Findings}
use Rattle.uv_lint.specs.LineViolations.{FileSetting}
use Rattle.uv_lint.specs.Report.{IsReport, IsReportBegun, first_found}
use Rattle.uv_lint.specs.Report.{checked_line, checked_lines, checked_of, counted, line_text, lines_text}
use Rattle.uv_lint.specs.Report.{lines_within, list_begin_text, list_end_text, none_counted, refused_in, tally}
use Rattle.uv_lint.specs.Reporting.{Begins, Linting, Says, with_line}
use Rattle.uv_lint.specs.Run.{FailsReads, IsPartWithin, IsReportWithin, Leaves, answer_of_run, fault_of_run}

-- ---- what the report says of lines

-- the counts of two reports
abbrev plus : LintCounts → LintCounts → LintCounts
plus c d = record { lines = c.lines + d.lines; refused = c.refused + d.refused }

-- counts are the same where each number is
abbrev counts_of : ℕ → ℕ → LintCounts
counts_of a b = record { lines = a; refused = b }

same_counts : (a a' b b' : ℕ) → a ≡ a' → b ≡ b' → counts_of a b ≡ counts_of a' b'
same_counts a a' b b' p q = ap (λ n. counts_of n b) p ∙ ap (λ n. counts_of a' n) q

plus-counted : (c : LintCounts) (line : Option (List ℕ)) (found : Findings) (lines : List (Option (List ℕ)))
    (rest : List Findings)
    → plus (counted c line found.violations) (tally lines rest) ≡ plus c (tally (line ∷ lines) (found ∷ rest))
plus-counted c line found lines rest =
    let checked = sum_by-append checked_of (line ∷ []) lines in
    let refused = sum_by-append refused_in (found ∷ []) rest in
    same_counts (c.lines + checked_of line + sum_by checked_of lines) (c.lines + sum_by checked_of (line ∷ lines))
    (c.refused + refused_in found + sum_by refused_in rest) (c.refused + sum_by refused_in (found ∷ rest))
    (omega (arith, checked)) (omega (arith, refused))

plus-none : (d : LintCounts) → plus none_counted d ≡ d
plus-none d = same_counts (0 + d.lines) d.lines (0 + d.refused) d.refused (zero-add d.lines) (zero-add d.refused)

plus-no_lines : (c : LintCounts) → c ≡ plus c (tally [] [])
plus-no_lines c = same_counts c.lines (c.lines + 0) c.refused (c.refused + 0) (omega arith) (omega arith)

-- what was said of lines, one after the other
record WasReported (n : ℕ) (p : Linting) (ls : List (List ℕ)) (text : List ℕ) (q : Linting) : Type 0 where
  findings : List Findings
  found : AreAllFindings p.setting (checked_lines p.lines (map (short_line n) ls)) findings
  lines : text ≡ lines_text p.setting (p.lines + 1) p.is_first (checked_lines p.lines (map (short_line n) ls)) findings
  counts : q.counts ≡ plus p.counts (tally (checked_lines p.lines (map (short_line n) ls)) findings)

was_reported : (n : ℕ) (p q : Linting) (ls : List (List ℕ)) (text : List ℕ) → Reported Says n p ls text q
    → WasReported n p ls text q
was_reported n p q [] text all = record {
  findings = [];
  found = tt {0};
  lines = all.0;
  counts = ap (λ r. r.counts) all.1 ∙ plus-no_lines p.counts;
}
was_reported n p q (l ∷ ls) text all =
    let rest = all.1 in
    let says = all.3 in
    let line = checked_line p.lines (short_line n l) in
    let more : WasReported n (with_line p line says.findings.violations) ls rest q =
    subst (λ s. WasReported n s ls rest q) says.left (was_reported n all.2 q ls rest all.4) in
    record {
      findings = says.findings ∷ more.findings;
      found = (says.found, more.found);
      lines = all.5 ∙ ap (λ t. t ++ rest) says.written
          ∙ ap (λ t. line_text p.setting (p.lines + 1) line p.is_first says.findings ++ t) more.lines;
      counts = more.counts ∙ plus-counted p.counts line says.findings
          (checked_lines (p.lines + 1) (map (short_line n) ls)) more.findings;
    }

-- what was said of lines, one after the other, and of a further line only the first diagnostics
record WasBegun (n : ℕ) (p : Linting) (ls : List (List ℕ)) (l : List ℕ) (text : List ℕ) (q : Linting) : Type 0 where
  findings : List Findings
  last : Findings
  found : AreAllFindings p.setting (checked_lines p.lines (map (short_line n) (ls ++ l ∷ []))) (findings ++ last ∷ [])
  count : ℕ
  lines : text
      ≡ lines_text p.setting (p.lines + 1) p.is_first (checked_lines p.lines (map (short_line n) (ls ++ l ∷ [])))
      (findings ++ first_found count last ∷ [])
  counts : q.counts ≡ plus p.counts (tally (checked_lines p.lines (map (short_line n) ls)) findings)

was_begun : (n : ℕ) (p q : Linting) (ls : List (List ℕ)) (l said parts : List ℕ) → Reported Says n p ls said q
    → Begins q (short_line n l) parts → WasBegun n p ls l (said ++ parts) q
was_begun n p q [] l said parts all begun =
    let first : Begins p (short_line n l) parts = subst (λ s. Begins s (short_line n l) parts) all.1 begun in
    record {
      findings = [];
      last = first.findings;
      found = (first.found, tt {0});
      count = first.count;
      lines = ap (λ t. t ++ parts) all.0 ∙ first.written
          ∙ sym (append-nil (line_text p.setting (p.lines + 1) (checked_line p.lines (short_line n l)) p.is_first
          (first_found first.count first.findings)));
      counts = ap (λ r. r.counts) all.1 ∙ plus-no_lines p.counts;
    }
was_begun n p q (k ∷ ls) l said parts all begun =
    let rest = all.1 in
    let says = all.3 in
    let line = checked_line p.lines (short_line n k) in
    let more : WasBegun n (with_line p line says.findings.violations) ls l (rest ++ parts) q =
    subst (λ s. WasBegun n s ls l (rest ++ parts) q) says.left (was_begun n all.2 q ls l rest parts all.4 begun) in
    record {
      findings = says.findings ∷ more.findings;
      last = more.last;
      found = (says.found, more.found);
      count = more.count;
      lines = ap (λ t. t ++ parts) (all.5 ∙ ap (λ t. t ++ rest) says.written)
          ∙ append_assoc (line_text p.setting (p.lines + 1) line p.is_first says.findings) rest parts
          ∙ ap (λ t. line_text p.setting (p.lines + 1) line p.is_first says.findings ++ t) more.lines;
      counts = more.counts ∙ plus-counted p.counts line says.findings
          (checked_lines (p.lines + 1) (map (short_line n) ls)) more.findings;
    }

-- ---- from a run over lines to the report

-- before the first line
abbrev pub fresh : FileSetting → Bool → Linting
fresh setting is_first = record { setting = setting; is_first = is_first; lines = 0; counts = none_counted }

-- what is before the diagnostics, and after them
abbrev begin_of : FileSetting → List ℕ
begin_of setting = list_begin_text setting.form setting.format setting.file

abbrev end_of : FileSetting → List ℕ
end_of setting = list_end_text setting.form setting.format

-- a report in the frame of a file is one on the file
pub is_report : (s : FileSetting) (n : ℕ) (is_first : Bool) (begin end : List ℕ) (p q : Linting)
    (ls : List (List ℕ)) (text : List ℕ) → p ≡ fresh s is_first → begin ≡ begin_of s → end ≡ end_of s
    → Framed (Reported Says n p) begin (λ _. end) ls text q → IsReport s n is_first ls text q.counts
is_report s n is_first begin end p q ls text starts begins ends framed =
    let reported = was_reported n (fresh s is_first) q ls framed.said
    (subst (λ start. Reported Says n start ls framed.said q) starts framed.reported) in
    record {
      findings = reported.findings;
      found = reported.found;
      whole = framed.whole ∙ ap (λ t. t ++ (framed.said ++ end)) begins
          ∙ ap (λ t. begin_of s ++ (framed.said ++ t)) ends ∙ ap (λ t. begin_of s ++ (t ++ end_of s)) reported.lines;
      counts_are = reported.counts ∙ plus-none (tally (lines_within n ls) reported.findings);
    }

-- where the last of the lines was begun
begun_of : (s : FileSetting) (n : ℕ) (is_first : Bool) (begin end : List ℕ) (p q : Linting)
    (ls : List (List ℕ)) (said text : List ℕ) → p ≡ fresh s is_first → begin ≡ begin_of s → end ≡ end_of s
    → text ≡ begin ++ (said ++ end) → ReportedBegun Says Begins n p ls said q
    → IsReportBegun s n is_first ls text q.counts
begun_of s n is_first begin end p q ls said text starts begins ends whole begun =
    let was = was_begun n (fresh s is_first) q begun.before begun.line begun.said begun.parts
    (subst (λ start. Reported Says n start begun.before begun.said q) starts begun.reported) begun.begun in
    record {
      before = begun.before;
      line = begun.line;
      are = begun.are;
      findings = was.findings;
      last = was.last;
      found = was.found;
      count = was.count;
      whole = whole ∙ ap (λ t. t ++ (said ++ end)) begins ∙ ap (λ t. begin_of s ++ (said ++ t)) ends
          ∙ ap (λ t. begin_of s ++ (t ++ end_of s)) (begun.whole ∙ was.lines);
      counts_are = was.counts ∙ plus-none (tally (lines_within n begun.before) was.findings);
    }

-- the report, or one of which the last line was begun
part_of : (s : FileSetting) (limits : LineLimits) (is_first : Bool) (begin end : List ℕ) (p q : Linting)
    (ls : List (List ℕ)) (said text : List ℕ) → p ≡ fresh s is_first → begin ≡ begin_of s → end ≡ end_of s
    → text ≡ begin ++ (said ++ end) → ReportedPart Says Begins limits.line_bytes p ls said q
    → IsPartWithin s limits is_first ls text q.counts
part_of s limits is_first begin end p q ls said text starts begins ends whole (inl reported) =
    inl (is_report s limits.line_bytes is_first begin end p q ls text starts begins ends
    (record { said = said; reported = reported; whole = whole }))
part_of s limits is_first begin end p q ls said text starts begins ends whole (inr begun) =
    inr (begun_of s limits.line_bytes is_first begin end p q ls said text starts begins ends whole begun)

-- and so is a part of one
pub is_part : (s : FileSetting) (limits : LineLimits) (is_first : Bool) (begin end : List ℕ) (p q : Linting)
    (ls : List (List ℕ)) (text : List ℕ) → p ≡ fresh s is_first → begin ≡ begin_of s → end ≡ end_of s
    → Framed (ReportedPart Says Begins limits.line_bytes p) begin (λ _. end) ls text q
    → IsPartWithin s limits is_first ls text q.counts
is_part s limits is_first begin end p q ls text starts begins ends framed =
    part_of s limits is_first begin end p q ls framed.said text starts begins ends framed.whole framed.reported

-- ---- the answer

-- a fault of a run over lines leaves what the fault of a run over a file leaves
pub left : (e : LineFault AllocError) (s : FileSetting) (limits : LineLimits) (is_first : Bool)
    (old : Option (List ℕ)) (read : List ℕ) (at_end : Type 0) (counts : LintCounts) (new : Option (List ℕ))
    → run.Leaves (IsReportWithin s limits is_first) (IsPartWithin s limits is_first) limits e old read at_end counts new
    → Leaves (fault_of_run e) s limits is_first old read at_end counts new
left (Own fault) s limits is_first old read at_end counts new leaves = inr leaves
left (Stop Memory) s limits is_first old read at_end counts new leaves =
    inr (
      leaves.0,
      leaves.1,
      leaves.2,
      Wrote-map (IsReportWithin s limits is_first) (IsPartWithin s limits is_first) _ old
          new counts counts (λ lines text all. inl all) leaves.3,
    )
left (Stop Read) s limits is_first old read at_end counts new leaves = leaves
left (Stop Write) s limits is_first old read at_end counts new leaves = leaves
left (Stop TooManyLines) s limits is_first old read at_end counts new leaves = leaves
left (Stop Endless) s limits is_first old read at_end counts new leaves = leaves

-- and so are the reads and writes that have failed
pub failed : (e : LineFault AllocError) (end : List ℕ) (reads reads' writes writes' : ℕ)
    → framed.FailsReads end e reads reads' × (writes' ≡ writes + run.writes_failed e)
    → FailsReads (fault_of_run e) reads reads' × (writes' ≡ writes + writes_failed (fault_of_run e))
failed (Own fault) end reads reads' writes writes' fails = fails
failed (Stop Memory) end reads reads' writes writes' fails = fails
failed (Stop Read) end reads reads' writes writes' fails = fails
failed (Stop Write) end reads reads' writes writes' (inl same, one) = (inl same, one)
failed (Stop Write) end reads reads' writes writes' (inr more, one) = (inr more.1, one)
failed (Stop TooManyLines) end reads reads' writes writes' fails = fails
failed (Stop Endless) end reads reads' writes writes' fails = fails

-- what holds where a run over lines answers no fault holds where one over a file does
pub answers_ok : (answer : Result (Unit {0}) (LineFault AllocError)) (A B : Type 0) → (A → B) → OnOk answer A
    → OnOk (answer_of_run answer) B
answers_ok (Ok u) A B is holds = is holds
answers_ok (Err e) A B is holds = tt {0}

-- and of a fault
pub answers_err : (answer : Result (Unit {0}) (LineFault AllocError)) (A : LineFault AllocError → Type 0)
    (B : StopFault → Type 0) → ((e : LineFault AllocError) → A e → B (fault_of_run e)) → IfErr answer A
    → IfErr (answer_of_run answer) B
answers_err (Ok u) A B is holds = tt {0}
answers_err (Err e) A B is holds = is e holds
