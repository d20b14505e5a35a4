-- A plain name is its own form at both settings.
use Rattle.std.proofs.Common.{◌≡◌, ℕ, ◌<◌, ◌≢◌, true, false, List}
use Rattle.std.proofs.Common.{[], ◌∷◌, Some, chars, encode_utf8_all, IsUtf8, get_or, length}
use Rattle.std.proofs.Common.{inl, inr, refl, sym, ap, ◌∙◌, arith}
use Rattle.std.specs.Prelude.{All}
use Rattle.std.specs.Str.{IsAscii}
use Rattle.std.specs.List.{list_all}
use Rattle.std.specs.Char.{is_ascii_uppercase, to_ascii_lowercase}
use Rattle.std.proofs.lemmas.Bool.Decides.{nat_tests}
use Rattle.std.proofs.lemmas.Bool.{and_parts, cases_lt}
use Rattle.std.proofs.lemmas.List.{get_or_past}
use Rattle.std.proofs.lemmas.List.Sums.{AllPass-from_list_all, list_all-from_AllPass}
use Rattle.std.proofs.lemmas.List.Elements.{All-weaker}
use Rattle.std.proofs.lemmas.Str.{chars-IsAscii, encodes-chars, encodes-IsAscii}
use Rattle.idna.specs.declared.deny_list.TheConstants.AsciiDenyList.{STD3, EMPTY}
use Rattle.idna.specs.declared.options.Hyphens.TheVariants.{Allow, Check}
use Rattle.idna.specs.declared.options.DnsLength.TheVariants.{Ignore}
use Rattle.idna.specs.Uts46.{domain_to_ascii, to_ascii}
use Rattle.idna.specs.Display.{IsPlain}
use Rattle.idna.specs.Labels.{labels_of}
use Rattle.idna.specs.Validity.{hyphen, is_valid_char, passes_hyphens}
use Rattle.idna.specs.AsciiDenyList.{may_be_denied}
use Rattle.idna.proofs.Uts46Lemmas.{list_all-passes_hyphens, to_ascii-plain}
use Rattle.idna.proofs.ValidityLemmas.{denies-EMPTY, denies-STD3, denies-may_be_denied, is_valid_char-ascii}
use Rattle.uv_model.specs.declared.profile.Profile.{Profile}
use Rattle.uv_model.specs.declared.profile.Profile.TheVariants.{Standard, Wide, Parser}
use Rattle.uv_model.specs.Hosts.Domain.{HasNoForm, IsForm, has_lengths, has_permitted, is_form_code_point, is_permitted}
use Rattle.uv_model.specs.Hosts.Domain.{strict_form}
use Rattle.uv_model.proofs.Hosts.DomainLemmas.{IsForm-from, no_parsed_lengths, wide_form}
use Rattle.uv_model.specs.Scheme.{lowercase}
use Rattle.uv_host.specs.Domains.{fits_lengths, is_plain_name, is_simple}
use Rattle.uv_host.proofs.ParserFormLemmas.{allowed_form, lower_no_bracket, lower_no_percent, no_form_left}
use Rattle.uv_host.proofs.ParserFormLemmas.{nothing_has_no_form, parser_is_form, some_form}
use Rattle.uv_host.proofs.StrictLemmas.{allowed_hyphens}

valid_byte : (b : ℕ) → is_form_code_point Standard b ≡ true → (b < 128) × (is_valid_char STD3 b ≡ true)
valid_byte b h =
    let small : b < 128 = grind (arith, nat_tests) in
    let lower : is_ascii_uppercase b ≡ false = grind (arith, nat_tests) in
    let kept : may_be_denied b ≡ false = grind (arith, nat_tests) in
    (small, rw (is_valid_char-ascii STD3 b small, lower, denies-may_be_denied STD3 b kept) refl)

-- and is plain by ToASCII's strict settings
pub plain_from_simple : (name : List ℕ) → list_all is_simple name ≡ true → IsPlain STD3 Check name
plain_from_simple name h =
    let all = AllPass-from_list_all is_simple name h in
    record {
      valid =
          All-weaker (λ b. is_simple b ≡ true) (λ b. (b < 128) × (is_valid_char STD3 b ≡ true))
          (λ b e. valid_byte b (grind (arith, nat_tests))) name all;
      placed =
          list_all-passes_hyphens Check name
          (All-weaker (λ b. is_simple b ≡ true) (λ b. b ≢ hyphen) (λ b e. grind (arith, nat_tests)) name all);
    }

-- a name of a form's code points, with hyphens where ToASCII takes them, is plain
pub plain_from_form : (name : List ℕ) → list_all (is_form_code_point Standard) name ≡ true
    → list_all (passes_hyphens Check) (labels_of name) ≡ true → IsPlain STD3 Check name
plain_from_form name h placed = record {
  valid =
      All-weaker (λ b. is_form_code_point Standard b ≡ true) (λ b. (b < 128) × (is_valid_char STD3 b ≡ true))
      valid_byte name (AllPass-from_list_all (is_form_code_point Standard) name h);
  placed = placed;
}

-- what passes the strict settings passes the parser's
plain_byte : (b : ℕ) → (b < 128) × (is_valid_char STD3 b ≡ true) → (b < 128) × (is_valid_char EMPTY b ≡ true)
plain_byte b h =
    let strict = sym (is_valid_char-ascii STD3 b h.0) ∙ h.1 in
    let lower : is_ascii_uppercase b ≡ false = grind (arith, nat_tests) in
    (h.0, rw (is_valid_char-ascii EMPTY b h.0, lower, denies-EMPTY b) refl)

-- so ToASCII at those leaves such a name as it is too
pub plain_parsed : (name : List ℕ) → IsPlain STD3 Check name → IsPlain EMPTY Allow name
plain_parsed name p = record {
  valid =
      All-weaker (λ b. (b < 128) × (is_valid_char STD3 b ≡ true)) (λ b. (b < 128) × (is_valid_char EMPTY b ≡ true))
      plain_byte name p.valid;
  placed =
      list_all-from_AllPass (passes_hyphens Allow) (labels_of name)
      (All-weaker (λ label. passes_hyphens Check label ≡ true) (λ label. passes_hyphens Allow label ≡ true)
      allowed_hyphens
      (labels_of name)
      (AllPass-from_list_all (passes_hyphens Check) (labels_of name) p.placed));
}

plain_permitted_byte : (b : ℕ) → (b < 128) × (is_valid_char STD3 b ≡ true) → is_permitted Standard b ≡ true
plain_permitted_byte b h =
    let strict = sym (is_valid_char-ascii STD3 b h.0) ∙ h.1 in
    let denied = denies-STD3 b in
    let small = h.0 in
    grind (arith, nat_tests)

-- a plain name holds only permitted bytes
pub plain_permitted : (name : List ℕ) → IsPlain STD3 Check name → has_permitted Standard name ≡ true
unfolding has_permitted
plain_permitted name p =
    list_all-from_AllPass (is_permitted Standard) name
    (All-weaker (λ b. (b < 128) × (is_valid_char STD3 b ≡ true)) (λ b. is_permitted Standard b ≡ true)
    plain_permitted_byte name p.valid)

ascii_bytes : (name : List ℕ) → All (λ b. (b < 128) × (is_valid_char STD3 b ≡ true)) name
    → (i : ℕ) → get_or name i 0 < 128
ascii_bytes name h i = elim (cases_lt i (length name)) [
  | inl inside ↦ (h i 0 inside).0
  | inr past ↦ omega (arith, get_or_past name i 0 past)
]

-- a plain name is ASCII
pub plain_ascii : (name : List ℕ) → IsPlain STD3 Check name → IsAscii name
plain_ascii name p = ascii_bytes name p.valid

-- the bytes of a plain name are its code points
pub plain_chars : (name : List ℕ) → IsPlain STD3 Check name → chars name ≡ name
plain_chars name p = chars-IsAscii name (ascii_bytes name p.valid)

plain_strict : (name : List ℕ) → IsUtf8 name → IsPlain STD3 Check name → strict_form (chars name) ≡ Some name
plain_strict name utf8 p = ap (to_ascii STD3 Check Ignore) (encodes-chars name utf8) ∙ to_ascii-plain STD3 Check name p

standard_permitted : (name : List ℕ) → IsPlain STD3 Check name → has_permitted Standard (chars name) ≡ true
standard_permitted name p = ap (has_permitted Standard) (plain_chars name p) ∙ plain_permitted name p

plain_to_ascii : (name : List ℕ) → IsUtf8 name → IsPlain STD3 Check name
    → domain_to_ascii EMPTY (encode_utf8_all (chars name)) ≡ Some name
plain_to_ascii name utf8 p =
    ap (to_ascii EMPTY Allow Ignore) (encodes-chars name utf8) ∙ to_ascii-plain EMPTY Allow name (plain_parsed name p)

-- a plain name of the right lengths is its own form
standard_is_form : (name : List ℕ) → IsUtf8 name → IsPlain STD3 Check name → has_lengths name ≡ true
    → IsForm Standard (chars name) name
standard_is_form name utf8 p lengths =
    IsForm-from (chars name) name (standard_permitted name p) (plain_strict name utf8 p) lengths
    (plain_to_ascii name utf8 p)

-- a byte of a plain name is a code point of a form under the parser's profile
parser_byte : (b : ℕ) → (b < 128) × (is_valid_char STD3 b ≡ true) → is_form_code_point Parser b ≡ true
parser_byte b h =
    let strict = sym (is_valid_char-ascii STD3 b h.0) ∙ h.1 in
    let denied = denies-STD3 b in
    let small = h.0 in
    grind (arith, nat_tests)

-- which is its own lower case
own_lower : (c : ℕ) → is_form_code_point Parser c ≡ true → to_ascii_lowercase c ≡ c
own_lower c is = grind (arith, nat_tests)

own_lower_all : (name : List ℕ) → list_all (is_form_code_point Parser) name ≡ true → lowercase name ≡ name
own_lower_all [] is = refl
own_lower_all (c ∷ rest) is =
    let parts = and_parts (is_form_code_point Parser c) (list_all (is_form_code_point Parser) rest) is in
    let first = own_lower c parts.0 in
    let others = own_lower_all rest parts.1 in
    cc

-- so such a name that isn't empty is its own form by that profile
parser_plain : (name : List ℕ) → IsUtf8 name → IsPlain STD3 Check name → fits_lengths Parser name ≡ true
    → IsForm Parser (chars name) name
parser_plain name utf8 p fits =
    let letters = list_all-from_AllPass (is_form_code_point Parser) name
    (All-weaker (λ b. (b < 128) × (is_valid_char STD3 b ≡ true)) (λ b. is_form_code_point Parser b ≡ true) parser_byte
    name p.valid) in
    let same = plain_chars name p in
    let lower : list_all (is_form_code_point Parser) (lowercase (chars name)) ≡ true
    = ap (λ (t : List ℕ). list_all (is_form_code_point Parser) (lowercase t)) same
    ∙ (ap (list_all (is_form_code_point Parser)) (own_lower_all name letters) ∙ letters) in
    parser_is_form (chars name) name (lower_no_percent (chars name) lower) (lower_no_bracket (chars name) lower)
    (plain_to_ascii name utf8 p) (some_form name fits) (allowed_form name letters)

-- in each profile
pub plain_is_form : (profile : Profile) (name : List ℕ) → IsUtf8 name → IsPlain STD3 Check name
    → fits_lengths profile name ≡ true → IsForm profile (chars name) name
plain_is_form Standard name utf8 p lengths = standard_is_form name utf8 p lengths
plain_is_form Wide name utf8 p lengths = wide_form (chars name) name (standard_is_form name utf8 p lengths)
plain_is_form Parser name utf8 p fits = parser_plain name utf8 p fits

-- and another has none
pub plain_no_form : (profile : Profile) (name : List ℕ) → IsUtf8 name → IsPlain STD3 Check name
    → fits_lengths profile name ≡ false → HasNoForm profile (chars name)
plain_no_form Standard name utf8 p wrong =
    no_parsed_lengths Standard (chars name) name tt (plain_to_ascii name utf8 p) wrong
plain_no_form Wide name utf8 p wrong =
    no_parsed_lengths Wide (chars name) name tt (plain_to_ascii name utf8 p) wrong
plain_no_form Parser name utf8 p wrong =
    nothing_has_no_form (chars name) (plain_chars name p ∙ no_form_left name wrong)

-- ---- names as texts

form_ascii : (c : ℕ) → is_form_code_point Standard c ≡ true → c < 128
form_ascii c h = grind (arith, nat_tests)

text_ascii : (text : List ℕ) → All (λ c. c < 128) text → (i : ℕ) → get_or text i 0 < 128
text_ascii text h i = elim (cases_lt i (length text)) [
  | inl inside ↦ h i 0 inside
  | inr past ↦ omega (arith, get_or_past text i 0 past)
]

-- the bytes of a text that is a plain name are such a name
pub plain_bytes : (bytes : List ℕ) → IsUtf8 bytes → is_plain_name (chars bytes) ≡ true → is_plain_name bytes ≡ true
plain_bytes bytes utf8 is =
    let form = (and_parts (list_all (is_form_code_point Standard) (chars bytes)) (list_all (passes_hyphens Check)
    (labels_of (chars bytes))) is).0 in
    let ascii =
    text_ascii (chars bytes)
    (All-weaker (λ c. is_form_code_point Standard c ≡ true) (λ c. c < 128) form_ascii (chars bytes)
    (AllPass-from_list_all (is_form_code_point Standard) (chars bytes) form)) in
    let same : bytes ≡ chars bytes = sym (encodes-chars bytes utf8) ∙ encodes-IsAscii (chars bytes) ascii in
    ap is_plain_name same ∙ is
