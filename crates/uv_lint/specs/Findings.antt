-- What is found with a line: what is wrong with it, and what to write in place of its text.
use Rattle.std.specs.Prelude.{◌≡◌, ℕ, Bool, true, false, ◌&&◌, List, [], ◌∷◌, Option, Some, None, chars, IfSome}
use Rattle.std.specs.Prelude.{is_some, string_bytes}
use Rattle.std.specs.Str.{IsUtf8}
use Rattle.std.specs.Str.Lossy.{utf8_lossy}
use Rattle.uv_model.specs.declared.profile.Profile.{Profile}
use Rattle.uv_model.specs.declared.rule.Refusal.{Refusal}
use Rattle.uv_model.specs.Records.Url.{Url}
use Rattle.uv_model.specs.declared.mend_kind.MendKind.{MendKind}
use Rattle.uv_grammar.specs.Verdict.{IsRefused}
use Rattle.uv_mend.specs.declared.answer.Mending.{Mending}
use Rattle.uv_mend.specs.declared.answer.Mending.TheVariants as answer
use Rattle.uv_mend.specs.Mending.{IsMending}
use Rattle.uv_report.specs.declared.format.Format.{Format}
use Rattle.uv_rules.specs.declared.line_violation.LineViolation.{LineViolation}
use Rattle.uv_rules.specs.declared.line_violation.LineViolation.TheVariants.{Refused}
use Rattle.uv_sentences.specs.Sentences.Message.{IsMessage, PlacedText}
use Rattle.uv_report.specs.Format.{shows_mended}
use Rattle.uv_lint.specs.LineViolations.{AreViolations, FileSetting, link_of}
use Rattle.uv_lint.specs.Located.{LocatedLink}

-- a valid text, how it is to the refused one, whether it is offered in its place, and whether the message says what to
-- write instead
pub record MendedText : Type 0 where
  pub text : List ℕ
  pub kind : MendKind
  pub is_offered : Bool
  pub is_named : Bool

-- what is wrong with a line, the messages on each violation, and what to write in place of the line's text, where that
-- is to be said
pub record Findings : Type 0 where
  pub violations : List LineViolation
  pub messages : List PlacedText
  pub mended : Option MendedText

-- what is wrong with a line of which nothing more is told
abbrev pub untold : List LineViolation → Findings
untold violations = record { violations = violations; messages = []; mended = None }

-- one message for each of the violations
abbrev pub AreMessages : List LineViolation → List PlacedText → Type 0
AreMessages [] [] = Unit {0}
AreMessages (violation ∷ rest) (message ∷ messages) = IsMessage message.text × AreMessages rest messages
AreMessages _ _ = ⊥

-- ---- the text

-- What is shown of a line: its text, where U+FFFD stands for what isn't UTF-8; and nothing of one that has more bytes
-- than a line may have, for which none is.
abbrev pub shown : Option (List ℕ) → List ℕ
shown None = []
shown (Some line) = utf8_lossy line

-- the bytes that a line is checked by: its link's, where the line says where that is
abbrev pub bytes_by : Option LocatedLink → Option (List ℕ) → Option (List ℕ)
bytes_by (Some link) line = Some link.link
bytes_by None line = line

-- the text that a line is checked by: its link's, where the line says where that is
abbrev pub text_by : Option LocatedLink → Option (List ℕ) → List ℕ
text_by (Some link) line = shown (Some link.link)
text_by None line = shown line

-- the text that a line of the file is checked by: its link's, where it says where that is
abbrev pub text_of : FileSetting → Option (List ℕ) → List ℕ
text_of setting line = text_by (link_of setting.form line) line

-- ---- what to write in its place

-- The mended text is the text of an answer, where it has one. Whether it is offered is a judgement of what was meant,
-- and so is whether the message says that; this leaves both open.
abbrev pub IsMendedOf : Mending → Option MendedText → Type 0
IsMendedOf (answer.Mended text kind) (Some mended) = (mended.text ≡ string_bytes text) × (mended.kind ≡ kind)
IsMendedOf (answer.Mended text kind) None = ⊥
IsMendedOf _ mended = mended ≡ None

-- what is answered of the text under the profile, alone or against the base
abbrev pub IsAnswered : Profile → Option Url → List ℕ → Option MendedText → Type 0
IsAnswered profile base text mended =
    (answer : Mending) × IsMending profile base text answer × IsMendedOf answer mended

-- the refusal that is found first, where a rule of valid URL strings is violated
abbrev pub first_refusal : List LineViolation → Option Refusal
first_refusal (Refused refusal ∷ rest) = Some refusal
first_refusal _ = None

-- a rule of valid URL strings is violated
abbrev pub is_refused : List LineViolation → Bool
is_refused violations = is_some (first_refusal violations)

-- where a rule is violated, the bytes are UTF-8
abbrev pub IsUtf8WhereRefused : List LineViolation → Option (List ℕ) → Type 0
IsUtf8WhereRefused violations (Some bytes) = is_refused violations ≡ true → IsUtf8 bytes
IsUtf8WhereRefused violations None = Unit {0}

-- where a rule is violated, the text, by its bytes, is refused so
abbrev pub IsRefusedFirst : Profile → Option Url → List LineViolation → List ℕ → Type 0
IsRefusedFirst profile base violations text =
    IfSome (first_refusal violations) (λ refusal. IsRefused profile base (chars text) refusal)

-- that, where it is asked for, otherwise nothing
abbrev pub IsMendedWhere : Bool → Profile → Option Url → List ℕ → Option MendedText → Type 0
IsMendedWhere true profile base text mended = IsAnswered profile base text mended
IsMendedWhere false profile base text mended = mended ≡ None

-- what to write in place of a text of which this was found: it is asked for of a refused text, where the format says it
abbrev pub IsMended : Format → Profile → Option Url → List LineViolation → List ℕ → Option MendedText → Type 0
IsMended format profile base violations text mended =
    IsMendedWhere (is_refused violations && shows_mended format) profile base text mended

-- ---- the line

-- what is found with a line
pub record AreFindings (setting : FileSetting) (line : Option (List ℕ)) (findings : Findings) : Type 0 where
  pub violations : AreViolations setting line findings.violations
  pub messages : AreMessages findings.violations findings.messages
  pub mended : IsMended setting.format setting.profile setting.base findings.violations (text_of setting line)
      findings.mended

-- what is found with each of the lines
abbrev pub AreAllFindings : FileSetting → List (Option (List ℕ)) → List Findings → Type 0
AreAllFindings setting [] [] = Unit {0}
AreAllFindings setting (line ∷ lines) (findings ∷ rest) =
    AreFindings setting line findings × AreAllFindings setting lines rest
AreAllFindings setting _ _ = ⊥
