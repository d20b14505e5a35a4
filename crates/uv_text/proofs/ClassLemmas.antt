-- Classes of units: their rows hold them, and each has the hex digits.
use Rattle.std.proofs.Common.{◌≡◌, ℕ, ◌<◌, true, false, ◌&&◌, ◌||◌, ◌==◌, refl, arith, lt-ltb}
use Rattle.std.specs.Char.{is_ascii, is_ascii_alphanumeric, is_ascii_hexdigit}
use Rattle.std.proofs.lemmas.Bool.{agree_below_at, or_parts}
use Rattle.std.proofs.lemmas.Bool.Decides.{nat_tests}
use Rattle.uv_model.specs.Ascii.{question_mark}
use Rattle.uv_model.specs.Hosts.OpaqueHost.{is_forbidden_host}
use Rattle.uv_model.specs.Units.{is_url_code_point}
use Rattle.uv_text.specs.Class.{HasHexDigits}
use Rattle.uv_text.specs.declared.units.UnitClass.{UnitClass}
use Rattle.uv_text.specs.declared.units.UnitClass.TheVariants.{Url, Path, OpaqueHost}
use Rattle.uv_text.specs.Splits.{class_has}
use Rattle.uv_text.specs.Rows.{HoldClass, is_in_rows}
use Rattle.uv_text.specs.declared.units.TheConstants.{OPAQUE_HOST_ROWS, PATH_ROWS, URL_ROWS}

-- ---- rows

-- the ASCII URL code points
pub url_rows : HoldClass URL_ROWS (class_has Url)
unfolding is_url_code_point
url_rows = λ byte small. agree_below_at (is_in_rows URL_ROWS) (class_has Url) 256 byte refl small

-- the ASCII URL code points without `?`
pub path_rows : HoldClass PATH_ROWS (class_has Path)
unfolding is_url_code_point
path_rows = λ byte small. agree_below_at (is_in_rows PATH_ROWS) (class_has Path) 256 byte refl small

-- the ASCII URL code points without the forbidden host code points
pub opaque_host_rows : HoldClass OPAQUE_HOST_ROWS (class_has OpaqueHost)
unfolding is_url_code_point
opaque_host_rows = λ byte small. agree_below_at (is_in_rows OPAQUE_HOST_ROWS) (class_has OpaqueHost) 256 byte refl small

-- ---- hex digits

-- a hex digit is ASCII, and a code point that each class has
hex_held : (byte : ℕ) → is_ascii_hexdigit byte ≡ true
    → (is_ascii byte ≡ true) × (is_url_code_point byte ≡ true) × ((byte == question_mark) ≡ false)
    × (is_forbidden_host byte ≡ false)
unfolding is_url_code_point
hex_held byte digit =
    let small : byte < 128 = grind (arith, nat_tests, digit) in
    let letter : is_ascii_alphanumeric byte ≡ true = grind (arith, nat_tests, digit) in
    let other : (is_ascii_hexdigit byte && ((byte == question_mark) || is_forbidden_host byte)) ≡ false =
    agree_below_at (λ b. is_ascii_hexdigit b && ((b == question_mark) || is_forbidden_host b))
    (λ b. false) 128 byte refl small in
    let apart = rw digit at other in
    let both = or_parts (byte == question_mark) (is_forbidden_host byte) apart in
    (lt-ltb byte 128 small, rw letter refl, both.0, both.1)

-- each class of units has the hex digits
pub class_digits : (class : UnitClass) → HasHexDigits (class_has class)
class_digits Url = λ byte digit. let held = hex_held byte digit in rw (held.0, held.1) refl
class_digits Path = λ byte digit. let held = hex_held byte digit in rw (held.0, held.1, held.2) refl
class_digits OpaqueHost = λ byte digit. let held = hex_held byte digit in rw (held.0, held.1, held.3) refl
