-- Valid domains: what a form is, that it is one, and which texts have none.
use Rattle.std.proofs.Common.{◌≡◌, ℕ, suc, ◌<◌, ◌-◌, true, false, not, ◌&&◌, nat_le, List, [], ◌∷◌, length}
use Rattle.std.proofs.Common.{encode_utf8_all, IsAscii, Option, Some, None, IsSome, refl, sym, ap, ◌∙◌, inl, inr}
use Rattle.std.proofs.Common.{arith}
use Rattle.std.specs.Char.{encode_utf8, is_ascii}
use Rattle.std.specs.Str.{chars}
use Rattle.percent_encoding.specs.Percent.{percent_decode}
use Rattle.std.specs.Int.{is_in_range}
use Rattle.std.specs.List.{slice_index, list_all}
use Rattle.std.proofs.lemmas.Bool.{false≢true, cases_Bool, and_from, and_parts, not-true}
use Rattle.std.proofs.lemmas.Bool.Decides.{nat_tests}
use Rattle.std.proofs.lemmas.List.Elements.{All-weaker}
use Rattle.std.proofs.lemmas.List.Sums.{AllPass-from_list_all, list_all-from_AllPass}
use Rattle.std.proofs.lemmas.Option.{none-some, same_Some}
use Rattle.std.proofs.lemmas.Str.{encodes-IsAscii}
use Rattle.std.proofs.lemmas.Str.Ascii.{IsAscii-from_all}
use Rattle.idna.specs.declared.deny_list.TheConstants.AsciiDenyList.{STD3, EMPTY}
use Rattle.idna.specs.declared.options.DnsLength.TheVariants.{Ignore}
use Rattle.idna.specs.declared.options.Hyphens.TheVariants.{Allow, Check}
use Rattle.idna.specs.Labels.{is_full_stop, labels_of}
use Rattle.idna.specs.Uts46.{process_utf8, to_ascii, to_unicode, domain_to_ascii, has_dns_lengths, verify_dns_length}
use Rattle.idna.specs.Validity.{has_ace_prefix}
use Rattle.idna.proofs.Uts46Lemmas.{IsOutputByte, All-to_ascii, to_ascii-invalid, to_unicode-to_ascii}
use Rattle.idna.proofs.Computing.{idna}
use Rattle.idna.proofs.Uts46Lemmas.{IsAscii-to_ascii, domain_to_ascii-ascii}
use Rattle.idna.proofs.ValidityLemmas.{denies-EMPTY, denies-STD3}
use Rattle.uv_model.specs.declared.profile.Profile.{Profile}
use Rattle.uv_model.specs.declared.profile.Profile.TheVariants.{Standard, Wide, Parser}
use Rattle.uv_model.specs.Hosts.Domain.{without_root, is_permitted, has_permitted, is_form_code_point, has_lengths}
use Rattle.uv_model.specs.Hosts.Domain.{strict_form, is_plain_ascii, parser_form, ends_in_number, IsForm, IsDomain}
use Rattle.uv_model.specs.Hosts.Domain.{IsDecoded, IsNumberText, IsParserForm, IsWrittenForm, HasNoForm}
use Rattle.uv_model.specs.Hosts.Domain.{StandardDomainsAreWide}
use Rattle.uv_model.specs.WrittenProfiles.{IsWritten}
use Rattle.uv_model.specs.Scheme.{lowercase}
use Rattle.uv_model.proofs.Texts.AsciiLemmas.{IsAscii-from_test}

-- ---- the form at the settings of the URL parser

-- lower case is what ToASCII at the parser's settings gives of plain ASCII
plain_form : (text : List ℕ) → is_plain_ascii text ≡ true →
    domain_to_ascii EMPTY (encode_utf8_all text) ≡ Some (lowercase text)
plain_form text h =
    let both = and_parts (list_all is_ascii text) _ h in
    let lower = labels_of (lowercase text) in
    let ascii = IsAscii-from_test text both.0 in
    let none = AllPass-from_list_all (λ label. not (has_ace_prefix label)) lower both.1 in
    ap (domain_to_ascii EMPTY) (encodes-IsAscii text ascii)
    ∙ domain_to_ascii-ascii EMPTY text ascii (λ k d lt. denies-EMPTY _) (λ k d lt. not-true _ (none k d lt))

-- so the parser's form is ToASCII at its settings, of every text
pub parser_form-is : (text : List ℕ) → parser_form text ≡ domain_to_ascii EMPTY (encode_utf8_all text)
unfolding parser_form
parser_form-is text =
    elim (cases_Bool (is_plain_ascii text)) [
      | inl plain ↦ rw plain (sym (plain_form text plain))
      | inr other ↦ rw other
    ]

-- ---- lengths

-- only the upper limit applies if there is a code point
at_least_one : (n : ℕ) → is_in_range 1 253 (suc n) ≡ nat_le (suc n) 253
at_least_one n = grind (arith, nat_tests)

-- a name with no code point has one label, which is empty
in_lengths : (name : List ℕ) →
    (is_in_range 1 253 (length name) && list_all (λ label. is_in_range 1 63 (length label)) (labels_of name))
    ≡ has_dns_lengths name
in_lengths [] = refl
in_lengths (b ∷ name) = rw (at_least_one (length name))

-- the lengths are those that UTS #46 verifies, where a full stop at the end may be
pub has_lengths-is : (form : List ℕ) → has_lengths form ≡ verify_dns_length form true
unfolding verify_dns_length
has_lengths-is form =
    in_lengths (without_root form)
    ∙ elim (cases_Bool (is_full_stop (slice_index form (length form - 1)))) [ inl dot ↦ rw dot | inr other ↦ rw other ]

-- ---- what has a form

-- what strict ToASCII gives are code points of a form
form_code_point : (c : ℕ) → IsOutputByte STD3 c → is_form_code_point Standard c ≡ true
form_code_point c h =
    let allowed = sym (denies-STD3 c) ∙ h.allowed in
    let small = h.ascii in
    let lower = h.lower in
    grind (arith, nat_tests)

-- a text that strict ToASCII takes is one that ToUnicode takes
shown : (bytes form : List ℕ) → to_ascii STD3 Check Ignore bytes ≡ Some form → (o : Option (List (List ℕ))) →
    process_utf8 STD3 Check bytes ≡ o → IsSome (to_unicode STD3 Check bytes)
unfolding to_unicode
shown bytes form e None p = absurd (none-some form (sym (to_ascii-invalid STD3 Check Ignore bytes p) ∙ e))
shown bytes form e (Some labels) p = rw p refl

-- ToUnicode takes each form of strict ToASCII
shown_form : (text form : List ℕ) → strict_form text ≡ Some form → IsSome (to_unicode STD3 Check form)
shown_form text form e =
    let bytes = encode_utf8_all text in
    rw (to_unicode-to_ascii STD3 Check Ignore bytes form e) (shown bytes form e (process_utf8 STD3 Check bytes) refl)

-- the form that both ToASCII give is the text's under the standard profile, where its code points and the lengths are
-- permitted
pub IsForm-from : (text form : List ℕ) → has_permitted Standard text ≡ true → strict_form text ≡ Some form →
    has_lengths form ≡ true → domain_to_ascii EMPTY (encode_utf8_all text) ≡ Some form → IsForm Standard text form
IsForm-from text form permitted strict lengths parsed =
    let bytes = All-to_ascii STD3 Check Ignore (encode_utf8_all text) form strict in
    record {
      permitted = permitted;
      parsed = parser_form-is text ∙ parsed;
      letters = All-weaker (IsOutputByte STD3) (λ c. is_form_code_point Standard c ≡ true) form_code_point form bytes;
      lengths = lengths;
      fits = record { ascii = strict; shown = shown_form text form strict };
    }

-- the form that ToASCII at the settings of the URL parser gives is the text's under the wide profile, where the code
-- points of both and the lengths are permitted
pub IsForm-wide : (text form : List ℕ) → has_permitted Wide text ≡ true →
    domain_to_ascii EMPTY (encode_utf8_all text) ≡ Some form → list_all (is_form_code_point Wide) form ≡ true →
    has_lengths form ≡ true → IsForm Wide text form
IsForm-wide text form permitted parsed letters lengths = record {
  permitted = permitted;
  parsed = parser_form-is text ∙ parsed;
  letters = AllPass-from_list_all (is_form_code_point Wide) form letters;
  lengths = lengths;
  fits = tt;
}

-- a form by a written profile is written so
pub as_written : (profile : Profile) (text form : List ℕ) → IsWritten profile → IsForm profile text form
    → IsWrittenForm profile text form
as_written Standard text form written is = is
as_written Wide text form written is = is
as_written Parser text form written is = absurd written

-- a form that is written is ASCII
IsAscii-written : (profile : Profile) (text form : List ℕ) → IsWrittenForm profile text form → IsAscii form
IsAscii-written profile text form is =
    IsAscii-from_all form
    (All-weaker (λ c. is_form_code_point profile c ≡ true) (λ c. c < 128) (small profile) form is.letters)
  where
    small : (profile : Profile) (c : ℕ) → is_form_code_point profile c ≡ true → c < 128
    small Standard c h = grind (arith, nat_tests)
    small Wide c h = grind (arith, nat_tests)
    small Parser c h = grind (arith, nat_tests)

-- what ToASCII gives is ASCII
pub IsAscii-parsed : (text form : List ℕ) → parser_form text ≡ Some form → IsAscii form
IsAscii-parsed text form formed =
    IsAscii-to_ascii EMPTY Allow Ignore (encode_utf8_all text) form (sym (parser_form-is text) ∙ formed)

-- a form is ASCII
pub IsAscii-form : (profile : Profile) (text form : List ℕ) → IsForm profile text form → IsAscii form
IsAscii-form Standard text form is = IsAscii-written Standard text form is
IsAscii-form Wide text form is = IsAscii-written Wide text form is
IsAscii-form Parser text form (plain, is) = IsAscii-parsed is.decoded form is.formed

-- ---- what has none

-- a text with an ASCII code point that isn't permitted has no form by a written profile
pub not_permitted : (profile : Profile) (text : List ℕ) → IsWritten profile → has_permitted profile text ≡ false
    → HasNoForm profile text
not_permitted profile text written e form h =
    false≢true (sym e ∙ (as_written profile text form written h).permitted)

-- a text that strict ToASCII refuses has no form under the standard profile
pub not_strict : (text : List ℕ) → strict_form text ≡ None → HasNoForm Standard text
not_strict text e form h = none-some form (sym e ∙ h.fits.ascii)

-- a text that the parser's ToASCII refuses has no form by a written profile
pub not_parsed : (profile : Profile) (text : List ℕ) → IsWritten profile
    → domain_to_ascii EMPTY (encode_utf8_all text) ≡ None → HasNoForm profile text
not_parsed profile text written e form h =
    none-some form (sym e ∙ sym (parser_form-is text) ∙ (as_written profile text form written h).parsed)

-- the form of a text that is written is what the parser's ToASCII gives
parsed_form : (profile : Profile) (text form other : List ℕ) →
    domain_to_ascii EMPTY (encode_utf8_all text) ≡ Some form → IsWrittenForm profile text other → form ≡ other
parsed_form profile text form other e h = same_Some form other (sym e ∙ sym (parser_form-is text) ∙ h.parsed)

-- a text whose parsed form has another code point has no form by a written profile
pub no_letters : (profile : Profile) (text form : List ℕ) → IsWritten profile
    → domain_to_ascii EMPTY (encode_utf8_all text) ≡ Some form → list_all (is_form_code_point profile) form ≡ false
    → HasNoForm profile text
no_letters profile text form written e wrong other h =
    let is = as_written profile text other written h in
    let same = parsed_form profile text form other e is in
    let letters = list_all-from_AllPass (is_form_code_point profile) other is.letters in
    false≢true (sym wrong ∙ ap (list_all (is_form_code_point profile)) same ∙ letters)

-- a text whose parsed form has wrong lengths has no form by a written profile
pub no_parsed_lengths : (profile : Profile) (text form : List ℕ) → IsWritten profile
    → domain_to_ascii EMPTY (encode_utf8_all text) ≡ Some form → has_lengths form ≡ false → HasNoForm profile text
no_parsed_lengths profile text form written e wrong other h =
    let is = as_written profile text other written h in
    false≢true (sym wrong ∙ ap has_lengths (parsed_form profile text form other e is) ∙ is.lengths)

-- what a text decodes to is one text
pub decoded_unique : (text a b : List ℕ) → IsDecoded text a → IsDecoded text b → a ≡ b
decoded_unique text a b ha hb = ha.spelled ∙ sym hb.spelled

-- the empty text has no form
pub nothing_formed : (form : List ℕ) → IsParserForm [] form → ⊥
unfolding chars percent_decode encode_utf8 parser_form idna
nothing_formed form is =
    let decoded : is.decoded ≡ [] = is.decodes.spelled in
    let formed : Some [] ≡ Some form = rw decoded at is.formed in
    is.some (sym (same_Some [] form formed))

-- ---- one form

-- a text has one form at most
pub form_unique : (profile : Profile) (text a b : List ℕ) → IsForm profile text a → IsForm profile text b → a ≡ b
form_unique Standard text a b ha hb = same_Some a b (sym ha.parsed ∙ hb.parsed)
form_unique Wide text a b ha hb = same_Some a b (sym ha.parsed ∙ hb.parsed)
form_unique Parser text a b (plain, ha) (other, hb) =
    let same = decoded_unique text ha.decoded hb.decoded ha.decodes hb.decodes in
    same_Some a b (sym ha.formed ∙ ap parser_form same ∙ hb.formed)

-- a valid domain has one form
pub domain_unique : (profile : Profile) (text a b : List ℕ) → IsDomain profile text a → IsDomain profile text b
    → a ≡ b
domain_unique profile text a b ha hb = form_unique profile text a b ha.0 hb.0

-- a valid domain isn't a number text
pub domain_no_number : (profile : Profile) (text a : List ℕ) → IsDomain profile text a → ¬ (IsNumberText profile text)
domain_no_number profile text a ha (b, is, number) =
    let same : a ≡ b = form_unique profile text a b ha.0 is in
    false≢true (sym ha.1 ∙ ap ends_in_number same ∙ number)

-- ---- both profiles

-- a permitted code point, and one of a form
wide_permitted : (c : ℕ) → is_permitted Standard c ≡ true → is_permitted Wide c ≡ true
wide_permitted c h = grind (arith, nat_tests)

-- a form's code point is one in the wide profile too
pub wide_letter : (c : ℕ) → is_form_code_point Standard c ≡ true → is_form_code_point Wide c ≡ true
wide_letter c h = grind (arith, nat_tests)

-- a text of permitted code points
pub wide_text : (text : List ℕ) → has_permitted Standard text ≡ true → has_permitted Wide text ≡ true
unfolding has_permitted
wide_text [] h = refl
wide_text (c ∷ rest) h =
    let parts = and_parts (is_permitted Standard c) (list_all (is_permitted Standard) rest) h in
    and_from _ _ (wide_permitted c parts.0) (wide_text rest parts.1)

-- a form of the standard profile is one of the wide profile
pub wide_form : (text form : List ℕ) → IsForm Standard text form → IsForm Wide text form
wide_form text form is = record {
  permitted = wide_text text is.permitted;
  parsed = is.parsed;
  letters =
      All-weaker (λ c. is_form_code_point Standard c ≡ true) (λ c. is_form_code_point Wide c ≡ true) wide_letter form
      is.letters;
  lengths = is.lengths;
  fits = tt;
}

-- so is a valid domain
pub standard_domains_are_wide : StandardDomainsAreWide
standard_domains_are_wide text form is = (wide_form text form is.0, is.1)
