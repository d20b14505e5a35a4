-- A line that was reported on.
use Rattle.std.proofs.Common.{◌≡◌, ℕ, ◌+◌, List, [], ◌++◌, Option, Some, None, refl, sym, ap}
use Rattle.std.proofs.Common.{◌∙◌, append-nil, subst, Result, Ok, Err, OnOk, IfErr, inl, inr}
use Rattle.std.specs.Prelude.{if◌then◌else◌, option_copied}
use Rattle.std.specs.Result.{is_ok}
use Rattle.std.specs.declared.alloc.AllocError.{AllocError}
use Rattle.uv_rules.specs.declared.line_violation.LineViolation.{LineViolation}
use Rattle.uv_sentences.specs.Sentences.Message.{PlacedText}
use Rattle.uv_lines.specs.declared.fault.ReportFault.{ReportFault}
use Rattle.uv_lines.specs.declared.fault.ReportFault.TheVariants as within
use Rattle.uv_lines.specs.Waiting.{Adds, AreFirstParts, LeavesParts, Passes}
use Rattle.uv_lines.proofs.WaitingLemmas.{passes_none}
use Rattle.uv_lint.specs.declared.reported_line.Place.{Place}
use Rattle.uv_lint.specs.Findings.{AreFindings, AreMessages, Findings, IsMended, MendedText, shown, text_by}
use Rattle.uv_lint.specs.LineViolations.{AreViolations, link_of}
use Rattle.uv_lint.specs.Located.{LocatedLink}
use Rattle.uv_lint.specs.Report.{checked_line, line_text, reported_by}
use Rattle.uv_lint.specs.ReportedView.{place_view, shown_at}
use Rattle.uv_lint.specs.Reporting.{Begins, HasBegun, HasBegunLine, HasReported, HasReportedLine, Linting, Says}
use Rattle.uv_lint.specs.Reporting.{next_text, with_line}

-- what follows from what was appended holds where memory was found
pub on_appended : (answer : Result (Unit {0}) AllocError) (old more new : List ℕ) (B : Type 0)
    → new ≡ (if is_ok answer then old ++ more else old) → (new ≡ old ++ more → B) → OnOk answer B
on_appended (Ok u) old more new B is holds = holds is
on_appended (Err e) old more new B is holds = tt {0}

-- ---- what comes to what waits

-- nothing comes
pub left_none : (P : List ℕ → Type 0) (waited waits : List ℕ) (a : Option (List ℕ)) → P [] → waits ≡ waited
    → (parts : List ℕ) × P parts × Passes (waited ++ parts) a a waits
left_none P waited waits a none is = ([], none, rw (is, append-nil waited) (passes_none waited a))

-- parts of one kind are of another
pub LeavesParts-map : {F : Type 0} (P Q : List ℕ → Type 0) (e : ReportFault F) (waited : List ℕ)
    (a : Option (List ℕ)) (waits : List ℕ) (b : Option (List ℕ)) → ((parts : List ℕ) → P parts → Q parts)
    → LeavesParts P e waited a waits b → LeavesParts Q e waited a waits b
LeavesParts-map P Q (within.Reporter fault) waited a waits b is left = (left.0, is left.0 left.1, left.2)
LeavesParts-map P Q within.Write waited a waits b is left = (left.0, is left.0 left.1, left.2)

-- and so of the answer of a call
pub parts_left : {F : Type 0} (answer : Result (Unit {0}) (ReportFault F)) (P Q : List ℕ → Type 0) (waited : List ℕ)
    (a : Option (List ℕ)) (waits : List ℕ) (b : Option (List ℕ)) → ((parts : List ℕ) → P parts → Q parts)
    → IfErr answer (λ e. LeavesParts P e waited a waits b) → IfErr answer (λ e. LeavesParts Q e waited a waits b)
parts_left (Ok u) P Q waited a waits b is left = tt {0}
parts_left (Err e) P Q waited a waits b is left = LeavesParts-map P Q e waited a waits b is left

-- what follows from what holds after an answer without fault
pub on_ok : {E : Type 0} (answer : Result (Unit {0}) E) (A B : Type 0) → (A → B) → OnOk answer A → OnOk answer B
on_ok (Ok u) A B is holds = is holds
on_ok (Err e) A B is holds = tt {0}

-- ---- a line

-- the text that is reported of a line is the one that it is checked by
pub reported_text : (file : List ℕ) (number : ℕ) (line : Option (List ℕ)) (link : Option LocatedLink)
    → (reported_by file number line link).text ≡ text_by link line
reported_text file number line (Some link) = refl
reported_text file number line None = refl

-- what is found with a line that is checked so, and reported so
found_in : (before : Linting) (line : Option (List ℕ)) (found : List LineViolation) (messages : List PlacedText)
    (mended : Option MendedText) → AreViolations before.setting line found → AreMessages found messages
    → IsMended before.setting.format before.setting.profile before.setting.base found
    (reported_by before.setting.file (before.lines + 1) line (link_of before.setting.form line)).text mended
    → AreFindings before.setting line (record { violations = found; messages = messages; mended = mended })
found_in before line found messages mended are told is = record {
  violations = are;
  messages = told;
  mended = subst (λ t. IsMended before.setting.format before.setting.profile before.setting.base found t mended)
      (reported_text before.setting.file (before.lines + 1) line (link_of before.setting.form line)) is;
}

-- what was said of what is shown of a text was said of the line that is there
pub line_reported : (before : Linting) (line : Option (List ℕ)) (place : Place) (text : List ℕ)
    (violations : List LineViolation) (waited : List ℕ) (a b : Option (List ℕ)) (waits : List ℕ)
    → place_view place ≡ next_text before line → text ≡ shown (option_copied place.bytes)
    → HasReported before (shown_at place text) violations waited a b waits
    → HasReported before (next_text before line) violations waited a b waits
line_reported before line place text violations waited a b waits stands is said =
    subst (λ r. HasReported before r violations waited a b waits) (ap (λ t. shown_at place t) is ∙ stands) said

-- and so what was said first
pub line_begun : (before : Linting) (line : Option (List ℕ)) (place : Place) (text : List ℕ)
    (violations : List LineViolation) (parts : List ℕ)
    → place_view place ≡ next_text before line → text ≡ shown (option_copied place.bytes)
    → AreViolations before.setting line violations → HasBegun before (shown_at place text) violations parts
    → HasBegunLine before line parts
line_begun before line place text violations parts stands is are begun =
    inr (violations, are, subst (λ r. HasBegun before r violations parts) (ap (λ t. shown_at place t) is ∙ stands) begun)

-- a line with which nothing is wrong isn't reported
pub fine_line : (before after : Linting) (line : Option (List ℕ)) (waited : List ℕ) (a : Option (List ℕ))
    → AreViolations before.setting line [] → after ≡ with_line before line []
    → HasReportedLine before line waited a after waited a
fine_line before after line waited a are counts = record {
  violations = [];
  found = are;
  said = (None, refl, ([], tt {0}, subst (λ t. Passes t a a waited) (sym (append-nil waited)) (passes_none waited a)));
  left = counts;
}

-- ---- a line as it is checked, when these lines came before

-- what was said of it
line_added : (before after : Linting) (line : Option (List ℕ)) (waited : List ℕ) (a b : Option (List ℕ))
    (waits : List ℕ) → HasReportedLine before (checked_line before.lines line) waited a after waits b
    → Adds Says (λ r. r.lines) before waited a line after waits b
line_added before after line waited a b waits is =
    let findings : Findings =
    record { violations = is.violations; messages = is.said.2.0; mended = is.said.0 } in
    record {
      said = line_text before.setting (before.lines + 1) (checked_line before.lines line) before.is_first findings;
      reported = record {
        findings = findings;
        found = found_in before (checked_line before.lines line) is.violations is.said.2.0 is.said.0 is.found
            is.said.2.1 is.said.1;
        written = refl;
        left = is.left;
      };
      count = ap (λ r. r.lines) is.left;
      passes = is.said.2.2;
    }

pub adds_line : {E : Type 0} (answer : Result (Unit {0}) E) (before after : Linting) (lines : ℕ)
    (line checked : Option (List ℕ)) (waited : List ℕ) (a b : Option (List ℕ)) (waits : List ℕ)
    → before.lines ≡ lines → checked ≡ checked_line lines line
    → OnOk answer (HasReportedLine before checked waited a after waits b)
    → OnOk answer (Adds Says (λ r. r.lines) before waited a line after waits b)
adds_line answer before after lines line checked waited a b waits place checks said =
    let same : checked ≡ checked_line before.lines line = checks ∙ ap (λ n. checked_line n line) (sym place) in
    on_ok answer (HasReportedLine before checked waited a after waits b)
    (Adds Says (λ r. r.lines) before waited a line after waits b)
    (λ is. line_added before after line waited a b waits
    (subst (λ j. HasReportedLine before j waited a after waits b) same is)) said

-- what was said first of it
begins_line : (before : Linting) (line : Option (List ℕ)) (parts : List ℕ)
    → HasBegunLine before (checked_line before.lines line) parts → AreFirstParts Begins before line parts
begins_line before line parts (inl none) = inl none
begins_line before line parts (inr (found, are, inl none)) = inl none
begins_line before line parts (inr (found, are, inr begun)) = inr (record {
  findings = record { violations = found; messages = begun.2.0; mended = begun.0 };
  found = found_in before (checked_line before.lines line) found begun.2.0 begun.0 are begun.2.1 begun.1;
  count = begun.2.2.0;
  written = begun.2.2.1;
})

-- what a fault within it leaves
pub leaves_line : {F : Type 0} (answer : Result (Unit {0}) (ReportFault F)) (before : Linting) (lines : ℕ)
    (line checked : Option (List ℕ)) (waited : List ℕ) (a b : Option (List ℕ)) (waits : List ℕ)
    → before.lines ≡ lines → checked ≡ checked_line lines line
    → IfErr answer (λ e. LeavesParts (HasBegunLine before checked) e waited a waits b)
    → IfErr answer (λ e. LeavesParts (AreFirstParts Begins before line) e waited a waits b)
leaves_line answer before lines line checked waited a b waits place checks left =
    let same : checked ≡ checked_line before.lines line = checks ∙ ap (λ n. checked_line n line) (sym place) in
    parts_left answer (HasBegunLine before checked) (AreFirstParts Begins before line) waited a waits b
    (λ parts begun. begins_line before line parts (subst (λ j. HasBegunLine before j parts) same begun)) left
