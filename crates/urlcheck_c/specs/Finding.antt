-- What C sees of a text: an outcome by its number, and a place in code points and in bytes.
use Rattle.std.specs.Prelude.{ℕ, ◌==◌, ◌<◌, if◌then◌else◌, List, length, take, Option, Some, None}
use Rattle.std.specs.Str.{chars, encode_utf8_all}
use Rattle.std.specs.Str.Lossy.{utf8_valid_len}
use Rattle.uv_model.specs.declared.profile.Profile.{Profile}
use Rattle.uv_model.specs.declared.profile.Profile.TheVariants as profiles
use Rattle.uv_model.specs.declared.rule.Refusal.{Refusal}
use Rattle.uv_model.specs.Violations.Rule.{rule_number}
use Rattle.urlcheck_c.specs.declared.finding.Finding.{Finding}
use Rattle.urlcheck_c.specs.declared.finding.CallOutcome.{CallOutcome}
use Rattle.urlcheck_c.specs.declared.finding.CallOutcome.TheVariants.{Valid, Refused, NoUtf8, BaseRefused, BaseNoUtf8}
use Rattle.urlcheck_c.specs.declared.finding.CallOutcome.TheVariants.{Memory, NoProfile, NoBase, Mended, Done}
use Rattle.urlcheck_c.specs.declared.finding.CallOutcome.TheVariants.{NoFormat, NoUnit, NoRule, NoKind, NoCompletion}
use Rattle.urlcheck_c.specs.declared.finding.CallOutcome.TheVariants.{NoPlace, NoColumn, NoOffsets, FileNoUtf8}
use Rattle.urlcheck_c.specs.declared.finding.CallOutcome.TheVariants.{MendedNoUtf8, ReportedNoUtf8, NoWording}

-- the number of an outcome
abbrev pub outcome_number : CallOutcome → ℕ
outcome_number Valid = 0
outcome_number Refused = 1
outcome_number NoUtf8 = 2
outcome_number BaseRefused = 3
outcome_number BaseNoUtf8 = 4
outcome_number Memory = 5
outcome_number NoProfile = 6
outcome_number NoBase = 7
outcome_number Mended = 8
outcome_number Done = 9
outcome_number NoFormat = 10
outcome_number NoUnit = 11
outcome_number NoRule = 12
outcome_number NoKind = 13
outcome_number NoCompletion = 14
outcome_number NoPlace = 15
outcome_number NoColumn = 16
outcome_number NoOffsets = 17
outcome_number FileNoUtf8 = 19
outcome_number MendedNoUtf8 = 20
outcome_number ReportedNoUtf8 = 21
outcome_number NoWording = 22

-- the profile with a number
abbrev pub profile_of : ℕ → Option Profile
profile_of number =
    if number == 0 then Some profiles.Standard
    else (if number == 1 then Some profiles.Wide
    else (if number == 2 then Some profiles.Parser else None))

-- how many bytes are before a place in code points
unfoldable pub byte_place : List ℕ → ℕ → ℕ
byte_place bytes place = length (encode_utf8_all (take place (chars bytes)))

-- an outcome without a rule and a place
abbrev pub plain_finding : CallOutcome → Finding
plain_finding outcome = record { verdict = outcome_number outcome; rule = 0; place = 0; byte_place = 0 }

-- a place of a text
abbrev pub placed_finding : CallOutcome → List ℕ → ℕ → Finding
placed_finding outcome bytes place =
    record { verdict = outcome_number outcome; rule = 0; place = place; byte_place = byte_place bytes place }

-- a text that is refused, with its rule and its place
abbrev pub refused_finding : CallOutcome → List ℕ → Refusal → Finding
refused_finding outcome bytes refusal = record {
  verdict = outcome_number outcome;
  rule = rule_number refusal.rule;
  place = refusal.place;
  byte_place = byte_place bytes refusal.place;
}

-- bytes that aren't UTF-8, with the end of their longest prefix that is
abbrev pub no_utf8_finding : CallOutcome → List ℕ → Finding
no_utf8_finding outcome bytes = record {
  verdict = outcome_number outcome;
  rule = 0;
  place = length (chars (take (utf8_valid_len bytes) bytes));
  byte_place = utf8_valid_len bytes;
}

-- the numbers of what was found fit into a byte
abbrev pub IsSmall : Finding → Type 0
IsSmall finding = (finding.verdict < 256) × (finding.rule < 256)
