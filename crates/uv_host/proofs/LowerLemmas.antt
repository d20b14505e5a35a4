-- The lower case of an ASCII text is its form where ToASCII leaves that as it is.
use Rattle.std.proofs.Common.{◌≡◌, ℕ, ◌<◌, true, false, List, Some, chars, encode_utf8_all, IsUtf8, refl, sym, ap}
use Rattle.std.proofs.Common.{◌∙◌, arith}
use Rattle.std.specs.Char.{is_ascii_uppercase, to_ascii_lowercase}
use Rattle.std.specs.List.{list_all}
use Rattle.std.specs.Str.{IsAscii}
use Rattle.std.proofs.lemmas.Str.{chars-IsAscii, encodes-chars}
use Rattle.std.proofs.lemmas.Str.Ascii.{IsAscii-map, lowercase_ascii}
use Rattle.std.proofs.lemmas.List.Sums.{AllPass-from_list_all}
use Rattle.std.proofs.lemmas.List.Elements.{All-weaker}
use Rattle.std.proofs.lemmas.Bool.Decides.{nat_tests}
use Rattle.idna.specs.declared.deny_list.AsciiDenyList.{AsciiDenyList}
use Rattle.idna.specs.declared.deny_list.TheConstants.AsciiDenyList.{STD3, EMPTY}
use Rattle.idna.specs.declared.options.Hyphens.{Hyphens}
use Rattle.idna.specs.declared.options.Hyphens.TheVariants.{Allow, Check}
use Rattle.idna.specs.declared.options.DnsLength.TheVariants.{Ignore}
use Rattle.idna.specs.Display.{IsPlain}
use Rattle.idna.specs.Labels.{labels_of}
use Rattle.idna.specs.Uts46.{to_ascii}
use Rattle.idna.specs.Validity.{is_valid_char, passes_hyphens}
use Rattle.idna.proofs.Uts46Lemmas.{to_ascii-map-lowercase, to_ascii-plain}
use Rattle.idna.proofs.ValidityLemmas.{denies-EMPTY, is_valid_char-ascii}
use Rattle.uv_model.specs.declared.profile.Profile.{Profile}
use Rattle.uv_model.specs.declared.profile.Profile.TheVariants.{Standard, Wide, Parser}
use Rattle.uv_model.specs.Hosts.Domain.{has_permitted, is_form_code_point}
use Rattle.uv_model.specs.Scheme.{lowercase}
use Rattle.uv_model.specs.WrittenProfiles.{IsWritten}
use Rattle.uv_model.proofs.Hosts.DomainLemmas.{IsForm-from, IsForm-wide, no_parsed_lengths}
use Rattle.uv_host.specs.Domains.{HasFormByLengths, IsOwnForm}
use Rattle.uv_host.proofs.ParserFormLemmas.{allowed_form, lower_no_bracket, lower_no_percent, lower_nothing}
use Rattle.uv_host.proofs.ParserFormLemmas.{no_form_left, nothing_has_no_form, parser_is_form, some_form}
use Rattle.uv_host.proofs.PlainLemmas.{plain_parsed}

-- what ToASCII gives of a text, where it leaves the text's lower case as it is
lower_to_ascii : (deny : AsciiDenyList) (hyphens : Hyphens) (text : List ℕ) → IsUtf8 text → IsAscii text
    → IsPlain deny hyphens (lowercase text)
    → to_ascii deny hyphens Ignore (encode_utf8_all (chars text)) ≡ Some (lowercase text)
lower_to_ascii deny hyphens text utf8 ascii plain =
    ap (to_ascii deny hyphens Ignore) (encodes-chars text utf8)
    ∙ (sym (to_ascii-map-lowercase deny hyphens Ignore text ascii) ∙ to_ascii-plain deny hyphens (lowercase text) plain)

-- a code point of a form is ASCII and no capital
form_byte : (profile : Profile) (c : ℕ) → is_form_code_point profile c ≡ true
    → (c < 128) × (is_valid_char EMPTY c ≡ true)
form_byte profile c h =
    let small = form_small profile c h in
    let lower = form_lower profile c h in
    (small, rw (is_valid_char-ascii EMPTY c small, lower, denies-EMPTY c) refl)
  where
    form_small : (profile : Profile) (c : ℕ) → is_form_code_point profile c ≡ true → c < 128
    form_small Standard c h = grind (arith, nat_tests)
    form_small Wide c h = grind (arith, nat_tests)
    form_small Parser c h = grind (arith, nat_tests)

    form_lower : (profile : Profile) (c : ℕ) → is_form_code_point profile c ≡ true → is_ascii_uppercase c ≡ false
    form_lower Standard c h = grind (arith, nat_tests)
    form_lower Wide c h = grind (arith, nat_tests)
    form_lower Parser c h = grind (arith, nat_tests)

-- ToASCII at the settings of the URL parser leaves a name of such code points without `xn--` as it is
pub form_plain : (profile : Profile) (name : List ℕ) → list_all (is_form_code_point profile) name ≡ true
    → list_all (passes_hyphens Allow) (labels_of name) ≡ true → IsPlain EMPTY Allow name
form_plain profile name letters placed = record {
  valid =
      All-weaker (λ c. is_form_code_point profile c ≡ true) (λ c. (c < 128) × (is_valid_char EMPTY c ≡ true))
      (form_byte profile) name (AllPass-from_list_all (is_form_code_point profile) name letters);
  placed = placed;
}

-- so it does under the wide profile
pub wide_plain : (name : List ℕ) → IsOwnForm Wide name → IsPlain EMPTY Allow name
wide_plain name own = form_plain Wide name own.0 own.1

-- the lower case is ASCII
lower_is_ascii : (text : List ℕ) → IsAscii text → IsAscii (lowercase text)
lower_is_ascii text ascii = IsAscii-map to_ascii_lowercase text lowercase_ascii ascii

-- the code points of an ASCII text are its bytes, in lower case too
lower_chars : (text : List ℕ) → IsAscii text → lowercase (chars text) ≡ lowercase text
lower_chars text ascii = ap lowercase (chars-IsAscii text ascii)

-- such a lower case is the text's form under the parser's profile, if it isn't empty
parser_lower : (text : List ℕ) → IsUtf8 text → IsAscii text → IsOwnForm Parser (lowercase text)
    → HasFormByLengths Parser (chars text) (lowercase text)
parser_lower text utf8 ascii own =
    let parsed = lower_to_ascii EMPTY Allow text utf8 ascii (form_plain Parser (lowercase text) own.0 own.1) in
    let lower : list_all (is_form_code_point Parser) (lowercase (chars text)) ≡ true
    = ap (list_all (is_form_code_point Parser)) (lower_chars text ascii) ∙ own.0 in
    record {
      ascii = lower_is_ascii text ascii;
      fits = λ fits.
          parser_is_form (chars text) (lowercase text) (lower_no_percent (chars text) lower)
          (lower_no_bracket (chars text) lower) parsed (some_form (lowercase text) fits)
          (allowed_form (lowercase text) own.0);
      wrong = λ wrong.
          nothing_has_no_form (chars text)
          (chars-IsAscii text ascii ∙ lower_nothing text (no_form_left (lowercase text) wrong));
    }

-- such a lower case is the text's form but for the lengths
pub lower_form : (profile : Profile) (text : List ℕ) → IsUtf8 text → IsAscii text
    → (IsWritten profile → has_permitted profile (chars text) ≡ true) → IsOwnForm profile (lowercase text)
    → HasFormByLengths profile (chars text) (lowercase text)
lower_form Standard text utf8 ascii permitted plain =
    let parsed = lower_to_ascii EMPTY Allow text utf8 ascii (plain_parsed (lowercase text) plain) in
    record {
      ascii = lower_is_ascii text ascii;
      fits = λ lengths.
          IsForm-from (chars text) (lowercase text) (permitted tt) (lower_to_ascii STD3 Check text utf8 ascii plain)
          lengths parsed;
      wrong = λ wrong. no_parsed_lengths Standard (chars text) (lowercase text) tt parsed wrong;
    }
lower_form Wide text utf8 ascii permitted own =
    let parsed = lower_to_ascii EMPTY Allow text utf8 ascii (wide_plain (lowercase text) own) in
    record {
      ascii = lower_is_ascii text ascii;
      fits = λ lengths. IsForm-wide (chars text) (lowercase text) (permitted tt) parsed own.0 lengths;
      wrong = λ wrong. no_parsed_lengths Wide (chars text) (lowercase text) tt parsed wrong;
    }
lower_form Parser text utf8 ascii permitted own = parser_lower text utf8 ascii own
