-- Valid domains and the number rule of their last label, after the URL Standard, sections 3.3 to 3.5, and UTS #46,
-- section 4. A text is a list of code points; the words of UTS #46 are over its UTF-8 bytes.
use Rattle.std.specs.Prelude.{◌≡◌, ◌≢◌, ℕ, ◌-◌, Bool, true, false, not, ◌&&◌, ◌||◌, ◌==◌, nat_eq, nat_le, nat_lt}
use Rattle.std.specs.Prelude.{List, [], length, take, drop, slice_index, codes, chars, encode_utf8_all, All, Option}
use Rattle.std.specs.Prelude.{Some, IsSome}
use Rattle.std.specs.Prelude.{if◌then◌else◌}
use Rattle.std.specs.Int.{is_in_range}
use Rattle.std.specs.List.{after_last, list_all, list_any, starts_with}
use Rattle.std.specs.Str.{is_utf8}
use Rattle.std.specs.Char.{is_ascii, is_ascii_alphanumeric, is_ascii_digit, is_ascii_lowercase, is_ascii_hexdigit}
use Rattle.idna.specs.declared.deny_list.TheConstants.AsciiDenyList.{STD3, EMPTY}
use Rattle.idna.specs.declared.options.Hyphens.TheVariants.{Check}
use Rattle.idna.specs.declared.options.DnsLength.TheVariants.{Ignore}
use Rattle.idna.specs.Labels.{is_full_stop, labels_of}
use Rattle.idna.specs.Uts46.{to_ascii, to_unicode, domain_to_ascii}
use Rattle.idna.specs.Validity.{has_ace_prefix}
use Rattle.percent_encoding.specs.Percent.{percent_decode}
use Rattle.uv_model.specs.declared.profile.Profile.{Profile}
use Rattle.uv_model.specs.declared.profile.Profile.TheVariants.{Standard, Wide, Parser}
use Rattle.uv_model.specs.Ascii.{hyphen, full_stop, percent_sign, underscore}
use Rattle.uv_model.specs.Hosts.OpaqueHost.{is_forbidden_host, starts_with_bracket}
use Rattle.uv_model.specs.Scheme.{lowercase}

-- ---- the number rule

-- the text without one full stop at its end
abbrev pub without_root : List ℕ → List ℕ
without_root text = if is_full_stop (slice_index text (length text - 1)) then take (length text - 1) text else text

-- only digits, and at least one
abbrev pub is_digits : List ℕ → Bool
is_digits label = nat_lt 0 (length label) && list_all is_ascii_digit label

-- `0x` and hex digits, or nothing, after it
abbrev pub is_hexadecimal : List ℕ → Bool
is_hexadecimal label = starts_with nat_eq label (codes "0x") && list_all is_ascii_hexdigit (drop 2 label)

-- the last label, where one empty label at the end is dropped
abbrev pub last_label : List ℕ → List ℕ
last_label text = after_last is_full_stop (without_root text)

-- the last label is a number
unfoldable pub ends_in_number : List ℕ → Bool
ends_in_number text = is_digits (last_label text) || is_hexadecimal (last_label text)

-- ---- valid domains

-- a forbidden domain code point: a forbidden host code point, a C0 control, `%` or U+007F
abbrev pub is_forbidden_domain : ℕ → Bool
is_forbidden_domain c = is_forbidden_host c || (nat_le c 0x1F || ((c == percent_sign) || (c == 0x7F)))

-- the ASCII code points of a domain besides letters and digits: the hyphen and the full stop, under the wide profile
-- the low line too, and by the parser's all others that aren't forbidden
abbrev pub is_domain_mark : Profile → ℕ → Bool
is_domain_mark Standard c = (c == hyphen) || (c == full_stop)
is_domain_mark Wide c = (c == underscore) || ((c == hyphen) || (c == full_stop))
is_domain_mark Parser c = is_ascii c && not (is_ascii_alphanumeric c || is_forbidden_domain c)

-- the code point is beyond ASCII, or a letter, a digit or a mark of a domain
abbrev pub is_permitted : Profile → ℕ → Bool
is_permitted profile c = not (is_ascii c) || (is_ascii_alphanumeric c || is_domain_mark profile c)

-- the ASCII code points of the text are letters, digits and marks of a domain
unfoldable pub has_permitted : Profile → List ℕ → Bool
has_permitted profile text = list_all (is_permitted profile) text

-- a lower-case letter, a digit or a mark of a domain
abbrev pub is_form_code_point : Profile → ℕ → Bool
is_form_code_point profile c = is_ascii_lowercase c || (is_ascii_digit c || is_domain_mark profile c)

-- each label has 1 to 63 code points and the whole 1 to 253, where one full stop at the end isn't counted
abbrev pub has_lengths : List ℕ → Bool
has_lengths form =
    is_in_range 1 253 (length (without_root form))
    && list_all (λ label. is_in_range 1 63 (length label)) (labels_of (without_root form))

-- ToASCII at the strict settings
abbrev pub strict_form : List ℕ → Option (List ℕ)
strict_form text = to_ascii STD3 Check Ignore (encode_utf8_all text)

-- ASCII, and no label begins with `xn--` in any case
abbrev pub is_plain_ascii : List ℕ → Bool
is_plain_ascii text =
    list_all is_ascii text && list_all (λ label. not (has_ace_prefix label)) (labels_of (lowercase text))

-- ToASCII at the settings of the URL parser
unfoldable pub parser_form : List ℕ → Option (List ℕ)
parser_form text = if is_plain_ascii text then Some (lowercase text) else domain_to_ascii EMPTY (encode_utf8_all text)

-- the strict settings give the same form, and ToUnicode at them accepts it
pub record IsStrict (text form : List ℕ) : Type 0 where
  pub ascii : strict_form text ≡ Some form
  pub shown : IsSome (to_unicode STD3 Check form)

-- what a profile asks of a form beyond the settings of the URL parser
abbrev pub FitsProfile : Profile → List ℕ → List ℕ → Type 0
FitsProfile Standard text form = IsStrict text form
FitsProfile _ text form = Unit {0}

-- the text is written as one writes a domain, and has this form
pub record IsWrittenForm (profile : Profile) (text form : List ℕ) : Type 0 where
  pub permitted : has_permitted profile text ≡ true
  pub parsed : parser_form text ≡ Some form
  pub letters : All (λ c. is_form_code_point profile c ≡ true) form
  pub lengths : has_lengths form ≡ true
  pub fits : FitsProfile profile text form

-- the text percent-decoded is the UTF-8 of these code points
pub record IsDecoded (text decoded : List ℕ) : Type 0 where
  pub utf8 : is_utf8 (percent_decode (encode_utf8_all text)) ≡ true
  pub spelled : decoded ≡ chars (percent_decode (encode_utf8_all text))

-- The text percent-decoded has this form at the parser's settings of ToASCII. The form isn't empty, and no code point
-- of it is forbidden.
pub record IsParserForm (text form : List ℕ) : Type 0 where
  pub decoded : List ℕ
  pub decodes : IsDecoded text decoded
  pub formed : parser_form decoded ≡ Some form
  pub some : form ≢ []
  pub permitted : list_any is_forbidden_domain form ≡ false

-- the text has this form
abbrev pub IsForm : Profile → List ℕ → List ℕ → Type 0
IsForm Standard text form = IsWrittenForm Standard text form
IsForm Wide text form = IsWrittenForm Wide text form
IsForm Parser text form = (starts_with_bracket text ≡ false) × IsParserForm text form

-- a valid domain of this form
abbrev pub IsDomain : Profile → List ℕ → List ℕ → Type 0
IsDomain profile text form = IsForm profile text form × (ends_in_number form ≡ false)

-- a domain but for its form, which ends in a number
abbrev pub IsNumberText : Profile → List ℕ → Type 0
IsNumberText profile text = (form : List ℕ) × IsForm profile text form × (ends_in_number form ≡ true)

-- the text has no form
abbrev pub HasNoForm : Profile → List ℕ → Type 0
HasNoForm profile text = (form : List ℕ) → ¬ (IsForm profile text form)

-- ---- laws

-- a valid domain of the standard profile is one of the wide profile, with the same form
abbrev pub StandardDomainsAreWide : Type 0
StandardDomainsAreWide = (text form : List ℕ) → IsDomain Standard text form → IsDomain Wide text form

-- a valid domain of the wide profile is one of the parser's profile, with the same form
abbrev pub WideDomainsAreParsers : Type 0
WideDomainsAreParsers = (text form : List ℕ) → IsDomain Wide text form → IsDomain Parser text form
