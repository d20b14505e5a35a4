-- What is found with a text, by the verdict on it.
use Rattle.std.proofs.Common.{◌≡◌, ◌∙◌, ℕ, List, [], ◌∷◌, Option, Some, None, ap, arith, chars, inl, inr, map, refl, subst}
use Rattle.std.proofs.Common.{sym, true}
use Rattle.std.specs.Option.{option_and_then}
use Rattle.std.specs.Str.{IsUtf8}
use Rattle.std.proofs.lemmas.Bool.{false≢true}
use Rattle.std.specs.Str.Lossy.{utf8_lossy}
use Rattle.std.proofs.lemmas.Str.{utf8_lossy-IsUtf8}
use Rattle.uv_model.specs.declared.profile.Profile.{Profile}
use Rattle.uv_model.specs.declared.rule.Refusal.{Refusal}
use Rattle.uv_model.specs.Violations.Violation.{Violation}
use Rattle.uv_model.specs.Parts.{Parts}
use Rattle.uv_model.specs.Records.Url.{Url}
use Rattle.uv_model.proofs.Violations.AllViolationsLemmas.{lists_none}
use Rattle.uv_grammar.specs.Verdict.{IsAccepted, IsRefused}
use Rattle.uv_rules.specs.declared.line_violation.LineViolation.{LineViolation}
use Rattle.uv_rules.specs.declared.line_violation.LineViolation.TheVariants.{Refused}
use Rattle.uv_model.specs.declared.extent.Extent.{Extent}
use Rattle.uv_model.specs.declared.extent.Extent.TheVariants.{First, All}
use Rattle.uv_lint.specs.declared.setting.LineForm.{LineForm}
use Rattle.uv_lint.specs.declared.setting.LineForm.TheVariants.{Plain, Located}
use Rattle.uv_lint.specs.Findings.{IsRefusedFirst, IsUtf8WhereRefused, bytes_by, is_refused, text_by}
use Rattle.uv_lint.specs.LineViolations.{AreBytesViolations, AreReported, AreTextViolations, AreViolationsBy}
use Rattle.uv_lint.specs.LineViolations.{AreViolations, AreWholeViolations, Checks, FileSetting, link_of}
use Rattle.uv_lint.specs.Located.{LocatedLink, Run, link_in, run_of}
use Rattle.uv_lint.specs.Report.{checked_of}

-- nothing is found with a valid text
reported_none : (extent : Extent) (profile : Profile) (base : Option Url) (text : List ℕ) (parts : Parts)
    → IsAccepted profile base text parts → AreReported extent profile base text []
reported_none First profile base text parts accepted = tt {0}
reported_none All profile base text parts accepted = record {
  lists = lists_none (Violation profile base text) accepted.silent;
  least = accepted.silent;
  none = λ other valid. refl;
}

-- nothing is found with a valid text
pub valid_violations : (setting : FileSetting) (text : List ℕ) (parts : Parts)
    → IsAccepted setting.profile setting.base text parts → AreTextViolations setting text []
valid_violations setting text parts accepted = record {
  refusals = [];
  checks = (parts, accepted.valid);
  reported = reported_none setting.extent setting.profile setting.base text parts accepted;
  are = refl;
}

-- the first violation is found with a refused text
pub least_violation : (setting : FileSetting) (text : List ℕ) (refusal : Refusal) → setting.extent ≡ First
    → IsRefused setting.profile setting.base text refusal → AreTextViolations setting text (Refused refusal ∷ [])
least_violation setting text refusal first refused = record {
  refusals = refusal ∷ [];
  checks = refused;
  reported = rw first refl;
  are = refl;
}

-- nothing is found with a line that isn't checked
pub unchecked_violations : (setting : FileSetting) (line : Option (List ℕ)) → checked_of line ≡ 0
    → AreViolations setting line []
unchecked_violations setting None none = absurd (omega (arith, none))
unchecked_violations setting (Some (x ∷ xs)) none = absurd (omega (arith, none))
unchecked_violations setting (Some []) none = of_form setting.form
  where
    no_link : (run : Option Run) → option_and_then (link_in []) run ≡ None
    no_link None = refl
    no_link (Some run) = refl

    of_form : (form : LineForm) → AreViolationsBy setting (link_of form (Some [])) (Some []) []
    of_form Plain = refl
    of_form Located = subst (λ l. AreViolationsBy setting l (Some []) []) (sym (no_link (run_of []))) refl

-- ---- the text is refused by the first violation

-- a text
refused_text : (setting : FileSetting) (bytes : List ℕ) (violations : List LineViolation)
    → AreTextViolations setting (chars bytes) violations
    → IsRefusedFirst setting.profile setting.base violations bytes
refused_text setting bytes violations are =
    rw are.are (refused_first are.refusals are.checks)
  where
    refused_first : (refusals : List Refusal) → Checks setting.profile setting.base (chars bytes) refusals
        → IsRefusedFirst setting.profile setting.base (map Refused refusals) bytes
    refused_first [] checks = tt {0}
    refused_first (refusal ∷ rest) checks = checks

-- bytes, as they are shown
refused_bytes : (setting : FileSetting) (bytes : List ℕ) (violations : List LineViolation)
    → AreBytesViolations setting bytes violations
    → IsRefusedFirst setting.profile setting.base violations (utf8_lossy bytes)
refused_bytes setting bytes violations (inl are) =
    rw (utf8_lossy-IsUtf8 bytes are.0) (refused_text setting bytes violations are.1)
refused_bytes setting bytes violations (inr are) = rw are.1 (tt {0})

-- a line that isn't empty
refused_whole : (form : LineForm) (setting : FileSetting) (line : List ℕ) (violations : List LineViolation)
    → AreWholeViolations form setting line violations
    → IsRefusedFirst setting.profile setting.base violations (utf8_lossy line)
refused_whole Plain setting line violations are = refused_bytes setting line violations are
refused_whole Located setting line violations (inl are) = rw are.1 (tt {0})
refused_whole Located setting line violations (inr are) = rw are.1 (tt {0})

-- a line, by its link where it has one
pub refused_line : (setting : FileSetting) (link : Option LocatedLink) (line : Option (List ℕ))
    (violations : List LineViolation) → AreViolationsBy setting link line violations
    → IsRefusedFirst setting.profile setting.base violations (text_by link line)
refused_line setting (Some link) line violations are = refused_bytes setting link.link violations are
refused_line setting None None violations are = rw are (tt {0})
refused_line setting None (Some []) violations are = rw are (tt {0})
refused_line setting None (Some (x ∷ xs)) violations are = refused_whole setting.form setting (x ∷ xs) violations are

-- ---- bytes of which a rule is violated are UTF-8

-- bytes
read_bytes : (setting : FileSetting) (bytes : List ℕ) (violations : List LineViolation)
    → AreBytesViolations setting bytes violations → is_refused violations ≡ true → IsUtf8 bytes
read_bytes setting bytes violations (inl are) refused = are.0
read_bytes setting bytes violations (inr are) refused =
    absurd (false≢true (sym (ap is_refused are.1) ∙ refused))

-- a line that isn't empty
read_whole : (form : LineForm) (setting : FileSetting) (line : List ℕ) (violations : List LineViolation)
    → AreWholeViolations form setting line violations → is_refused violations ≡ true → IsUtf8 line
read_whole Plain setting line violations are refused = read_bytes setting line violations are refused
read_whole Located setting line violations (inl are) refused = are.0
read_whole Located setting line violations (inr are) refused =
    absurd (false≢true (sym (ap is_refused are.1) ∙ refused))

-- a line, by its link where it has one
pub read_line : (setting : FileSetting) (link : Option LocatedLink) (line : Option (List ℕ))
    (violations : List LineViolation) → AreViolationsBy setting link line violations
    → IsUtf8WhereRefused violations (bytes_by link line)
read_line setting (Some link) line violations are = read_bytes setting link.link violations are
read_line setting None None violations are = tt {0}
read_line setting None (Some []) violations are =
    λ refused. absurd (false≢true (sym (ap is_refused are) ∙ refused))
read_line setting None (Some (x ∷ xs)) violations are = read_whole setting.form setting (x ∷ xs) violations are
