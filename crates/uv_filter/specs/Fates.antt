-- What becomes of a line: it is mended, or it stays as it was.
use Rattle.std.specs.Prelude.{◌||◌, ◌&&◌, ◌≡◌, ◌≢◌, ℕ, ◌<◌, ◌≤◌, ◌⊎◌, Bool, true, false, List, [], Option, Some, None, chars}
use Rattle.std.specs.Prelude.{length, option_copied, string_bytes}
use Rattle.std.specs.Str.{IsUtf8}
use Rattle.uv_model.specs.declared.profile.Profile.{Profile}
use Rattle.uv_model.specs.declared.rule.Refusal.{Refusal}
use Rattle.uv_model.specs.Records.Url.{Url}
use Rattle.uv_model.specs.declared.mend_kind.MendKind.{MendKind}
use Rattle.uv_model.specs.declared.mend_kind.MendKind.TheVariants as kind
use Rattle.uv_mend.specs.declared.answer.Mending.TheVariants as answer
use Rattle.uv_mend.specs.Mending.{IsMended, IsMending}
use Rattle.uv_mend.specs.Repairs.{IsValid}
use Rattle.uv_filter.specs.declared.fate.Fate.{Fate}
use Rattle.uv_filter.specs.declared.fate.Fate.TheVariants.{Empty, Valid, Mended, Refused, NotUtf8, TooLong}
use Rattle.uv_filter.specs.declared.setting.FilterSetting.{FilterSetting}
use Rattle.uv_filter.specs.declared.setting.WrittenKinds.{WrittenKinds}
use Rattle.uv_filter.specs.declared.setting.WrittenKinds.TheVariants.{Every, Safe, Only}
use Rattle.uv_filter.specs.Lines.{Line, checked_of, replaced, text_of, whole}

-- by what lines are mended: the profile, the base, the kinds of the mended texts that are written, and whether those
-- are written too that aren't offered
pub record Mender : Type 0 where
  pub profile : Profile
  pub base : Option Url
  pub kinds : WrittenKinds
  pub all : Bool

-- what a setting asks for
abbrev pub mender_of : FilterSetting → Mender
mender_of setting =
    record {
      profile = setting.profile;
      base = option_copied setting.base;
      kinds = setting.kinds;
      all = setting.all;
    }

-- two kinds are the same
abbrev pub is_kind : MendKind → MendKind → Bool
is_kind kind.Same kind.Same = true
is_kind kind.Escaped kind.Escaped = true
is_kind kind.Changed kind.Changed = true
is_kind _ _ = false

-- mended texts of this kind are written
abbrev pub takes : WrittenKinds → MendKind → Bool
takes Every found = true
takes Safe kind.Changed = false
takes Safe _ = true
takes (Only wanted) found = is_kind wanted found

-- The text has no mended one, or one that isn't written: it is of another kind than is asked for, or not all are
-- written, but only those that are offered. Whether one is offered is a judgement of what was meant, which this leaves
-- open.
abbrev pub StaysRefused : Mender → List ℕ → Type 0
StaysRefused mender text =
    ((refusal : Refusal) × IsMending mender.profile mender.base text (answer.Refused refusal))
    ⊎ ((mended : List ℕ) × (found : MendKind) × IsMended mender.profile mender.base text mended found
    × ((takes mender.kinds found && mender.all) ≡ false))

-- a text that is checked
pub record IsText (text : List ℕ) : Type 0 where
  pub some : text ≢ []
  pub utf8 : IsUtf8 text

-- what becomes of a text that isn't too long
abbrev pub IsTextFate : Mender → List ℕ → Fate → Type 0
IsTextFate mender text Empty = text ≡ []
IsTextFate mender text NotUtf8 = ¬ (IsUtf8 text)
IsTextFate mender text Valid = IsText text × IsValid mender.profile mender.base (chars text)
IsTextFate mender text (Mended mended found) =
    IsText text × IsMended mender.profile mender.base text (string_bytes mended) found
    × (takes mender.kinds found ≡ true)
IsTextFate mender text Refused = IsText text × StaysRefused mender text
IsTextFate mender text TooLong = ⊥

-- what becomes of a line, which may have 65,536 bytes without its end and a byte order mark
abbrev pub IsFate : Mender → Bool → Line → Fate → Type 0
IsFate mender is_first line TooLong = 65536 < length (checked_of is_first (text_of line))
IsFate mender is_first line fate =
    (length (checked_of is_first (text_of line)) ≤ 65536)
    × IsTextFate mender (checked_of is_first (text_of line)) fate

-- what is written of a line: with the mended text in place of what was checked, or the line as it was
abbrev pub written_of : Bool → Line → Fate → List ℕ
written_of is_first line (Mended mended found) = replaced is_first line (string_bytes mended)
written_of is_first line _ = whole line
