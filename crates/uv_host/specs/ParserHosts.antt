-- What the host parser makes of the host of a special URL, after the URL Standard, sections 3.3 to 3.5.
use Rattle.std.specs.Prelude.{◌≡◌, ℕ, ◌*◌, ◌<◌, ◌≤◌, suc, zero, Bool, false, not, ◌&&◌, ◌==◌, List, [], ◌∷◌, length}
use Rattle.std.specs.Prelude.{Option, Some, None, if◌then◌else◌, map, decimal, string_bytes}
use Rattle.std.specs.Char.{is_ascii_digit}
use Rattle.std.specs.List.{join_with_byte, list_all, list_any}
use Rattle.idna.specs.declared.deny_list.TheConstants.AsciiDenyList.{EMPTY}
use Rattle.idna.specs.Uts46.{domain_to_ascii}
use Rattle.uv_host.specs.declared.parser_hosts.ParserHost.{ParserHost}
use Rattle.uv_host.specs.declared.parser_hosts.ParserHost.TheVariants.{Domain, Address, Number, Not}
use Rattle.uv_model.specs.declared.profile.Profile.TheVariants.{Parser}
use Rattle.uv_model.specs.Ascii.{full_stop}
use Rattle.uv_model.specs.Hosts.Domain.{HasNoForm, IsDomain, IsNumberText, is_forbidden_domain}
use Rattle.uv_model.specs.Hosts.Numbers.{AreBytes, IsIpv4Text, value_from}

-- the answer on a text: the form of a valid domain, the value of an address, a number that isn't an address, or no form
abbrev pub IsParserAnswer : List ℕ → ParserHost → Type 0
IsParserAnswer text (Domain form) = IsDomain Parser text (string_bytes form)
IsParserAnswer text (Address value) = IsIpv4Text Parser text value
IsParserAnswer text Number = IsNumberText Parser text × ((value : ℕ) → ¬ (IsIpv4Text Parser text value))
IsParserAnswer text Not = HasNoForm Parser text

-- the form isn't empty and holds no forbidden domain code point
abbrev pub is_taken : List ℕ → Bool
is_taken form = not (length form == 0) && not (list_any is_forbidden_domain form)

-- the form, where it is such a one
abbrev pub taken : Option (List ℕ) → Option (List ℕ)
taken None = None
taken (Some form) = if is_taken form then Some form else None

-- what ToASCII gives of bytes at the settings of the URL parser, where it is such a form
abbrev pub taken_form : List ℕ → Option (List ℕ)
taken_form bytes = taken (domain_to_ascii EMPTY bytes)

-- the text is the number's shortest decimal form, and the number is at most 255
abbrev pub IsByteText : List ℕ → ℕ → Type 0
IsByteText text n = (n < 256) × (text ≡ decimal n)

-- only digits, of which the first is `0` only when it is the only one
abbrev pub is_shortest : List ℕ → Bool
is_shortest [] = false
is_shortest (only ∷ []) = is_ascii_digit only
is_shortest (first ∷ next ∷ rest) = not (first == 48) && list_all is_ascii_digit (first ∷ next ∷ rest)

-- what the first of several numbers counts, of which so many follow it at most
abbrev pub weight_of : ℕ → ℕ
weight_of zero = 1
weight_of (suc more) = 256 * weight_of more

-- the text is at most so many numbers and one more, and this is their value
pub record IsWeighedText (more : ℕ) (text : List ℕ) (value : ℕ) : Type 0 where
  pub numbers : List ℕ
  pub some : 0 < length numbers
  pub few : length numbers ≤ suc more
  pub fit : AreBytes numbers
  pub spelled : text ≡ join_with_byte full_stop (map decimal numbers)
  pub valued : value ≡ value_from (weight_of more) numbers
