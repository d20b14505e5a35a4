-- The diagnostics on a text, said one after the other.
use Rattle.std.proofs.Common.{◌≡◌, ℕ, Bool, false, List, [], ◌∷◌, ◌++◌, Option, None, refl}
use Rattle.std.proofs.Common.{sym, ap, subst, ◌∙◌}
use Rattle.std.proofs.Common.{◌+◌, ◌<◌, append_assoc, append-nil, drop, get_or, inl, inr, length, option_map, take}
use Rattle.std.specs.Str.{chars}
use Rattle.std.proofs.lemmas.List.{take-append-drop, take_more}
use Rattle.uv_report.specs.declared.places.column.Columns.{Columns}
use Rattle.uv_rules.specs.declared.line_violation.LineViolation.{LineViolation}
use Rattle.uv_report.specs.declared.format.Format.{Format}
use Rattle.uv_report.specs.declared.look.Look.{Look}
use Rattle.uv_report.specs.Diagnostic.{FixView}
use Rattle.uv_sentences.specs.Sentences.Message.{IsMessage, PlacedText}
use Rattle.uv_shown.specs.Escaping.Escapes.{escaped}
use Rattle.uv_lint.specs.declared.mended_line.MendedLine.{MendedLine}
use Rattle.uv_lint.specs.declared.reported_line.ReportedLine.{ReportedLine}
use Rattle.uv_lint.specs.declared.setting.LineForm.{LineForm}
use Rattle.uv_lint.specs.declared.setting.LintSetting.{LintSetting}
use Rattle.uv_lint.specs.Findings.{AreMessages}
use Rattle.uv_lint.specs.Report.{ReportedText, diagnostic_on, diagnostics_text, fix_on, one_text}
use Rattle.uv_lint.specs.Reporting.{IsNoneOr}
use Rattle.uv_lint.specs.ReportedView.{AreFirstSaid, mended_line_view, reported_view}

-- ---- messages

-- one more
pub are_more : (before : List LineViolation) (messages : List PlacedText) (violation : LineViolation) (message : PlacedText)
    → AreMessages before messages → IsMessage message.text
    → AreMessages (before ++ violation ∷ []) (messages ++ message ∷ [])
are_more [] [] violation message are is = (is, tt {0})
are_more [] (first ∷ messages) violation message are is = absurd are
are_more (b ∷ before) [] violation message are is = absurd are
are_more (b ∷ before) (first ∷ messages) violation message are is =
    (are.0, are_more before messages violation message are.1 is)

-- one message more, on the next violation of a list
pub are_next : (violations : List LineViolation) (i : ℕ) (none : LineViolation) (messages : List PlacedText)
    (message : PlacedText) → i < length violations → AreMessages (take i violations) messages → IsMessage message.text
    → AreMessages (take (i + 1) violations) (messages ++ message ∷ [])
are_next violations i none messages message within are is =
    rw (take_more violations i none within)
    (are_more (take i violations) messages (get_or violations i none) message are is)

-- an empty one for each violation
abbrev pub blanks : List LineViolation → List PlacedText
blanks [] = []
blanks (violation ∷ rest) = record { text = []; place = 0 } ∷ blanks rest

are_blanks : (rest : List LineViolation) → AreMessages rest (blanks rest)
unfolding escaped chars
are_blanks [] = tt {0}
are_blanks (violation ∷ rest) = (([], refl), are_blanks rest)

are_filled : (before rest : List LineViolation) (messages : List PlacedText) → AreMessages before messages
    → AreMessages (before ++ rest) (messages ++ blanks rest)
are_filled [] rest [] are = are_blanks rest
are_filled [] rest (first ∷ messages) are = absurd are
are_filled (b ∷ before) rest [] are = absurd are
are_filled (b ∷ before) rest (first ∷ messages) are = (are.0, are_filled before rest messages are.1)

-- the messages of the first violations, and an empty one for each of the others
pub are_all : (violations : List LineViolation) (i : ℕ) (messages : List PlacedText)
    → AreMessages (take i violations) messages
    → AreMessages violations (messages ++ blanks (drop i violations))
are_all violations i messages are =
    subst (λ vs. AreMessages vs (messages ++ blanks (drop i violations))) (take-append-drop i violations)
    (are_filled (take i violations) (drop i violations) messages are)

-- ---- the diagnostics so far, and what follows them

-- The diagnostics on the violations before this one were said. Whatever follows them, they and what is to be said of
-- that are the diagnostics on all of it.
abbrev pub IsSaidBefore : LineForm → Format → Look → Columns → ReportedText → Bool → Option FixView
    → List LineViolation → List PlacedText → List ℕ → Bool → Option FixView → Type 0
IsSaidBefore form format look columns reported is_first fix before messages said now_first told =
    (rest : List LineViolation) (more : List PlacedText)
    → said ++ diagnostics_text form format look columns reported now_first told rest more
    ≡ diagnostics_text form format look columns reported is_first fix (before ++ rest) (messages ++ more)

-- if none is said
pub said_none : (form : LineForm) (format : Format) (look : Look) (columns : Columns) (reported : ReportedText)
    (is_first : Bool) (fix : Option FixView)
    → IsSaidBefore form format look columns reported is_first fix [] [] [] is_first fix
said_none form format look columns reported is_first fix = λ rest more. refl

-- they are the first diagnostics, whatever is said of others
pub said_first : (form : LineForm) (format : Format) (look : Look) (columns : Columns) (reported : ReportedText)
    (is_first : Bool) (fix : Option FixView) (before : List LineViolation) (messages more : List PlacedText)
    (said : List ℕ) (now_first : Bool) (told : Option FixView)
    → IsSaidBefore form format look columns reported is_first fix before messages said now_first told
    → said ≡ diagnostics_text form format look columns reported is_first fix before (messages ++ more)
said_first form format look columns reported is_first fix before messages more said now_first told is =
    sym (append-nil said) ∙ is [] more
    ∙ ap (λ vs. diagnostics_text form format look columns reported is_first fix vs (messages ++ more)) (append-nil before)

-- one more
said_more : (form : LineForm) (format : Format) (look : Look) (columns : Columns) (reported : ReportedText)
    (is_first now_first : Bool) (fix told : Option FixView) (before : List LineViolation) (messages : List PlacedText)
    (violation : LineViolation) (message : PlacedText) (said : List ℕ)
    → IsSaidBefore form format look columns reported is_first fix before messages said now_first told
    → IsSaidBefore form format look columns reported is_first fix (before ++ violation ∷ []) (messages ++ message ∷ [])
    (said ++ one_text form format look now_first (diagnostic_on columns reported told violation message)) false None
said_more form format look columns reported is_first now_first fix told before messages violation message said is =
    λ rest more.
    append_assoc said
    (one_text form format look now_first (diagnostic_on columns reported told violation message))
    (diagnostics_text form format look columns reported false None rest more)
    ∙ is (violation ∷ rest) (message ∷ more)
    ∙ ap (λ vs. diagnostics_text form format look columns reported is_first fix vs (messages ++ message ∷ more))
    (sym (append_assoc before (violation ∷ []) rest))
    ∙ ap (λ ms. diagnostics_text form format look columns reported is_first fix ((before ++ violation ∷ []) ++ rest) ms)
    (sym (append_assoc messages (message ∷ []) more))

-- one diagnostic more, on the next violation of a list
pub said_next : (form : LineForm) (format : Format) (look : Look) (columns : Columns) (reported : ReportedText)
    (is_first now_first : Bool) (fix told : Option FixView) (violations : List LineViolation) (i : ℕ)
    (none : LineViolation) (messages : List PlacedText) (message : PlacedText) (said : List ℕ)
    → i < length violations
    → IsSaidBefore form format look columns reported is_first fix (take i violations) messages said now_first told
    → IsSaidBefore form format look columns reported is_first fix (take (i + 1) violations) (messages ++ message ∷ [])
    (said ++ one_text form format look now_first
    (diagnostic_on columns reported told (get_or violations i none) message)) false None
said_next form format look columns reported is_first now_first fix told violations i none messages message said within is =
    rw (take_more violations i none within)
    (said_more form format look columns reported is_first now_first fix told (take i violations) messages
    (get_or violations i none) message said is)

-- the diagnostics on a line's violations before this one were said
abbrev pub IsSaidOf : ReportedLine → LintSetting → Bool → Option MendedLine → List LineViolation → List PlacedText
    → List ℕ → Bool → Option FixView → Type 0
IsSaidOf line setting is_first mended before messages said now_first told =
    IsSaidBefore setting.form setting.format setting.look setting.columns (reported_view line) is_first
    (fix_on setting.columns (reported_view line) (option_map mended_line_view mended)) before messages said now_first
    told

-- of one that may be said too the first diagnostics are those before it, or with it
pub first_with : (line : ReportedLine) (setting : LintSetting) (is_first : Bool) (mended : Option MendedLine)
    (violations : List LineViolation) (i : ℕ) (messages : List PlacedText) (message : PlacedText)
    (said one : List ℕ) (now_first : Bool) (told : Option FixView) (parts : List ℕ)
    → AreMessages (take i violations) messages
    → IsSaidOf line setting is_first mended (take i violations) messages said now_first told
    → AreMessages (take (i + 1) violations) (messages ++ message ∷ [])
    → IsSaidOf line setting is_first mended (take (i + 1) violations) (messages ++ message ∷ []) (said ++ one) false
    None
    → IsNoneOr one parts
    → AreFirstSaid line setting is_first mended violations (said ++ parts)
first_with line setting is_first mended violations i messages message said one now_first told parts are is are_one
    with_one
    (inl none) =
    let others = blanks (drop i violations) in (
      messages ++ others,
      are_all violations i messages are,
      (
        i,
        ap (λ t. said ++ t) none ∙ append-nil said
            ∙ said_first setting.form setting.format setting.look setting.columns (reported_view line) is_first
            (fix_on setting.columns (reported_view line) (option_map mended_line_view mended)) (take i violations)
            messages others said now_first told is,
      ),
    )
first_with line setting is_first mended violations i messages message said one now_first told parts are is are_one
    with_one
    (inr more) =
    let others = blanks (drop (i + 1) violations) in (
      (messages ++ message ∷ []) ++ others,
      are_all violations (i + 1) (messages ++ message ∷ []) are_one,
      (
        i + 1,
        ap (λ t. said ++ t) more
            ∙ said_first setting.form setting.format setting.look setting.columns (reported_view line) is_first
            (fix_on setting.columns (reported_view line) (option_map mended_line_view mended))
            (take (i + 1) violations) (messages ++ message ∷ []) others (said ++ one) false None with_one,
      ),
    )
