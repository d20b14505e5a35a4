-- Classes of ASCII bytes that are in URL units.
use Rattle.std.specs.Prelude.{◌≡◌, ℕ, Bool, true, not, ◌&&◌, ◌==◌}
use Rattle.std.specs.Char.{is_ascii, is_ascii_hexdigit}
use Rattle.uv_model.specs.Hosts.OpaqueHost.{is_forbidden_host}
use Rattle.uv_model.specs.Ascii.{question_mark}
use Rattle.uv_model.specs.Units.{is_url_code_point}

-- the class holds exactly the ASCII URL code points
abbrev pub HoldsUrlBytes : (ℕ → Bool) → Type 0
HoldsUrlBytes held = (byte : ℕ) → held byte ≡ (is_ascii byte && is_url_code_point byte)

-- the class holds exactly the ASCII URL code points but `?`
abbrev pub HoldsPathBytes : (ℕ → Bool) → Type 0
HoldsPathBytes held =
    (byte : ℕ) → held byte ≡ (is_ascii byte && (is_url_code_point byte && not (byte == question_mark)))

-- the class holds exactly the ASCII URL code points that aren't forbidden host code points
abbrev pub HoldsOpaqueHostBytes : (ℕ → Bool) → Type 0
HoldsOpaqueHostBytes held =
    (byte : ℕ) → held byte ≡ (is_ascii byte && (is_url_code_point byte && not (is_forbidden_host byte)))

-- the class has the hex digits, so that those after a `%` of a percent-encoded byte are in it
abbrev pub HasHexDigits : (ℕ → Bool) → Type 0
HasHexDigits held = (byte : ℕ) → is_ascii_hexdigit byte ≡ true → held byte ≡ true
