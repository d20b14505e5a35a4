-- The prefix of a text that is URL units whose ASCII code points are of a class, after the URL Standard, section 4.3.
use Rattle.std.specs.Prelude.{◌≡◌, ℕ, suc, ◌+◌, ◌≤◌, Bool, false, not, ◌&&◌, ◌||◌, List, [], ◌∷◌, ◌==◌, nat_le}
use Rattle.std.specs.Prelude.{length, take, drop, if◌then◌else◌}
use Rattle.std.specs.Char.{is_ascii}
use Rattle.uv_model.specs.Ascii.{percent_sign, question_mark}
use Rattle.uv_model.specs.Hosts.OpaqueHost.{is_forbidden_host}
use Rattle.uv_model.specs.Units.{is_url_code_point, starts_with_two_hex}
use Rattle.uv_text.specs.declared.units.UnitClass.{UnitClass}
use Rattle.uv_text.specs.declared.units.UnitClass.TheVariants.{Url, Path, OpaqueHost}

-- the ASCII code points of a class of units
abbrev pub class_has : UnitClass → ℕ → Bool
class_has Url c = is_ascii c && is_url_code_point c
class_has Path c = is_ascii c && (is_url_code_point c && not (c == question_mark))
class_has OpaqueHost c = is_ascii c && (is_url_code_point c && not (is_forbidden_host c))

-- a unit that needs no class begins: `%` before two hex digits, or a URL code point beyond ASCII
abbrev pub begins_mark : ℕ → List ℕ → Bool
begins_mark c rest = if c == percent_sign then starts_with_two_hex rest else (nat_le 128 c && is_url_code_point c)

-- the text begins with such a unit
abbrev pub starts_with_mark : List ℕ → Bool
starts_with_mark [] = false
starts_with_mark (c ∷ rest) = begins_mark c rest

-- the code point with what follows it begins a unit, or is a code point of the class
abbrev pub begins_unit : (ℕ → Bool) → ℕ → List ℕ → Bool
begins_unit held c rest = held c || begins_mark c rest

-- how many code points the longest prefix has in which each begins a unit or is of the class
abbrev pub unit_length : (ℕ → Bool) → List ℕ → ℕ
unit_length held [] = 0
unit_length held (c ∷ rest) = if begins_unit held c rest then suc (unit_length held rest) else 0

-- the byte with what follows it is of the class, or begins a percent-encoded byte
abbrev pub begins_ascii_unit : (ℕ → Bool) → ℕ → List ℕ → Bool
begins_ascii_unit held b rest = held b || ((b == percent_sign) && starts_with_two_hex rest)

-- how many bytes the longest prefix has in which each is of the class or begins a percent-encoded byte
abbrev pub ascii_unit_length : (ℕ → Bool) → List ℕ → ℕ
ascii_unit_length held [] = 0
ascii_unit_length held (b ∷ rest) = if begins_ascii_unit held b rest then suc (ascii_unit_length held rest) else 0

-- the text is cut after the longest prefix of units
pub record IsUnitSplit (held : ℕ → Bool) (text prefix rest : List ℕ) : Type 0 where
  pub is_prefix : prefix ≡ take (unit_length held text) text
  pub is_rest : rest ≡ drop (unit_length held text) text

-- the rest is after a part of that prefix
pub record PassesUnits (held : ℕ → Bool) (text rest : List ℕ) : Type 0 where
  pub passed : ℕ
  pub inside : passed ≤ length text
  pub is_rest : rest ≡ drop passed text
  pub further : unit_length held text ≡ passed + unit_length held rest

-- whatever the class, the rest is after units that need none
abbrev pub PassesMarks : List ℕ → List ℕ → Type 0
PassesMarks text rest = (held : ℕ → Bool) → PassesUnits held text rest

-- the text begins with a URL code point beyond ASCII
abbrev pub starts_beyond_ascii : List ℕ → Bool
starts_beyond_ascii [] = false
starts_beyond_ascii (c ∷ rest) = nat_le 128 c && is_url_code_point c

-- the text begins with a code point of the class
abbrev pub starts_in : (ℕ → Bool) → List ℕ → Bool
starts_in held [] = false
starts_in held (c ∷ rest) = held c
