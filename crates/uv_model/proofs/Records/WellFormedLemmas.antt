-- Well-formed records: what the encoded parts of a valid text are.
use Rattle.std.proofs.Common.{◌≡◌, ℕ, ◌<◌, Bool, true, false, not, List, [], ◌∷◌, Option, Some, None, refl, ap, ◌∙◌}
use Rattle.std.proofs.Common.{◌==◌, ◌≢◌, inl, inr, sym}
use Rattle.std.specs.Char.{is_ascii, is_ascii_digit, is_ascii_lowercase, is_ascii_uppercase}
use Rattle.std.specs.Prelude.{encode_utf8_all, ◌&&◌}
use Rattle.std.proofs.Common.{lt-ltb}
use Rattle.std.specs.Prelude.{if◌then◌else◌, option_map}
use Rattle.std.specs.Fmt.{digit_glyph}
use Rattle.std.proofs.lemmas.Bool.{agree_below_at, and_from, and_parts, cases_Bool, false≢true, not-true, true≢false}
use Rattle.std.proofs.lemmas.List.Sums.{list_all-from_AllPass}
use Rattle.uv_model.specs.declared.scheme.Class.{Class}
use Rattle.uv_model.specs.declared.scheme.Class.TheVariants.{SpecialNotFile, File, Other}
use Rattle.uv_model.specs.Ascii.{question_mark, slash}
use Rattle.uv_model.specs.Records.Denote.{quotes}
use Rattle.uv_model.specs.Encoding.{encoded}
use Rattle.uv_model.specs.Path.{IsPathRelative, IsSegment, is_double_dot, is_single_dot, is_without}
use Rattle.uv_model.specs.Units.{IsUnits}
use Rattle.uv_model.specs.Valid.{MayBeUnits}
use Rattle.uv_model.specs.Records.WellFormed.{IsAsciiUnits, IsUrlDomain, IsUrlFragment, IsUrlOpaqueHost}
use Rattle.uv_model.specs.Records.WellFormed.{IsUnspacedPath, IsUrlQuery, IsUrlSegment}
use Rattle.uv_model.specs.declared.profile.Profile.{Profile}
use Rattle.uv_model.specs.declared.profile.Profile.TheVariants.{Standard, Wide, Parser}
use Rattle.uv_model.specs.Hosts.Domain.{IsDomain, IsParserForm, IsWrittenForm, ends_in_number, has_lengths}
use Rattle.uv_model.specs.Hosts.Domain.{is_forbidden_domain, is_form_code_point, parser_form}
use Rattle.uv_model.proofs.Hosts.DomainLemmas.{parser_form-is}
use Rattle.idna.specs.declared.deny_list.TheConstants.AsciiDenyList.{EMPTY}
use Rattle.idna.specs.declared.options.DnsLength.TheVariants.{Ignore}
use Rattle.idna.specs.declared.options.Hyphens.TheVariants.{Allow}
use Rattle.idna.proofs.Uts46Lemmas.{All-to_ascii, IsOutputByte}
use Rattle.std.proofs.lemmas.List.Elements.{All-weaker}
use Rattle.uv_model.specs.Hosts.OpaqueHost.{IsOpaqueHost, is_forbidden_host}
use Rattle.uv_model.proofs.Paths.DotSegmentLemmas.{is_double_dot-encoded, is_single_dot-encoded}
use Rattle.uv_model.proofs.Texts.UnitsLemmas.{IsUnits-nil}
use Rattle.std.specs.List.{list_all, list_any}
use Rattle.uv_model.proofs.Texts.EncodingLemmas.{IsUnits-encoded, encoded-some, is_ascii-encoded}
use Rattle.uv_model.proofs.Texts.EncodingLemmas.{no_apostrophe-encoded, passes-encoded_whole}
use Rattle.uv_model.proofs.Texts.EncodingLemmas.{starts_with_slash-encoded}
use Rattle.uv_model.proofs.Paths.PathLemmas.{IsUnits-join, no_question_mark-join}

-- units encoded are ASCII units
pub IsAsciiUnits-encoded : (quote : Bool) (text : List ℕ) → IsUnits text → IsAsciiUnits (encoded quote text)
IsAsciiUnits-encoded quote text units =
    record { units = IsUnits-encoded quote text units; ascii = is_ascii-encoded quote text }

-- the query of a valid text, encoded by the class
pub IsUrlQuery-encoded : (class : Class) (query : List ℕ) → IsUnits query
    → IsUrlQuery class (Some (encoded (quotes class) query))
IsUrlQuery-encoded SpecialNotFile query units = (IsAsciiUnits-encoded true query units, no_apostrophe-encoded query)
IsUrlQuery-encoded File query units = (IsAsciiUnits-encoded true query units, no_apostrophe-encoded query)
IsUrlQuery-encoded Other query units = IsAsciiUnits-encoded false query units

-- the fragment of a valid text, encoded
pub IsUrlFragment-encoded : (fragment : Option (List ℕ)) → MayBeUnits fragment
    → IsUrlFragment (option_map (encoded false) fragment)
IsUrlFragment-encoded None units = tt
IsUrlFragment-encoded (Some fragment) units = IsAsciiUnits-encoded false fragment units

-- the code point isn't the mark
abbrev is_other : ℕ → ℕ → Bool
is_other mark c = if c == mark then false else true

-- `?` is in no encoding of a text without it
pub no_question_mark-encoded : (quote : Bool) (text : List ℕ) → is_without question_mark text ≡ true
    → is_without question_mark (encoded quote text) ≡ true
no_question_mark-encoded quote text = passes-encoded_whole (is_other question_mark) (refl, digit) quote text
  where
    digit : (d : ℕ) → d < 16 → is_other question_mark (digit_glyph true d) ≡ true
    digit d small = agree_below_at (λ e. is_other question_mark (digit_glyph true e)) (λ e. true) 16 d refl small

-- nor does `/`
pub no_slash-encoded : (quote : Bool) (text : List ℕ) → is_without slash text ≡ true
    → is_without slash (encoded quote text) ≡ true
no_slash-encoded quote text = passes-encoded_whole (is_other slash) (refl, digit) quote text
  where
    digit : (d : ℕ) → d < 16 → is_other slash (digit_glyph true d) ≡ true
    digit d small = agree_below_at (λ e. is_other slash (digit_glyph true e)) (λ e. true) 16 d refl small

-- nor does a forbidden host code point
permitted-encoded : (quote : Bool) (text : List ℕ) → list_all (λ c. not (is_forbidden_host c)) text ≡ true
    → list_all (λ c. not (is_forbidden_host c)) (encoded quote text) ≡ true
permitted-encoded quote text = passes-encoded_whole (λ c. not (is_forbidden_host c)) (refl, digit) quote text
  where
    digit : (d : ℕ) → d < 16 → not (is_forbidden_host (digit_glyph true d)) ≡ true
    digit d small = agree_below_at (λ e. not (is_forbidden_host (digit_glyph true e))) (λ e. true) 16 d refl small

-- a path-relative string, encoded
pub IsUnspacedPath-encoded : (segments : List (List ℕ)) (text : List ℕ) → IsPathRelative segments text
    → IsUnspacedPath (encoded false text)
IsUnspacedPath-encoded segments text path =
    record {
      units = IsAsciiUnits-encoded false text (rw path.joins.joined (IsUnits-join segments path.joins.each));
      no_question_mark =
          no_question_mark-encoded false text (rw path.joins.joined (no_question_mark-join segments path.joins.each));
      start = starts_with_slash-encoded false text path.start;
    }

-- ---- segments

-- the empty segment
pub IsUrlSegment-nil : IsUrlSegment []
unfolding is_single_dot is_double_dot
IsUrlSegment-nil =
    record {
      units = record { units = IsUnits-nil; no_slash = refl; no_question_mark = refl };
      ascii = refl;
      no_single_dot = refl;
      no_double_dot = refl;
    }

-- a segment of a text that isn't a dot segment, encoded
pub IsUrlSegment-encoded : (segment : List ℕ) → IsSegment segment → is_single_dot segment ≡ false
    → is_double_dot segment ≡ false → IsUrlSegment (encoded false segment)
IsUrlSegment-encoded segment is single double =
    record {
      units = record {
        units = IsUnits-encoded false segment is.units;
        no_slash = no_slash-encoded false segment is.no_slash;
        no_question_mark = no_question_mark-encoded false segment is.no_question_mark;
      };
      ascii = is_ascii-encoded false segment;
      no_single_dot = is_single_dot-encoded segment ∙ single;
      no_double_dot = is_double_dot-encoded segment ∙ double;
    }

-- ---- hosts

-- a form has a code point
first_of_form : (form : List ℕ) → has_lengths form ≡ true → (first : ℕ) × (rest : List ℕ) × (form ≡ first ∷ rest)
first_of_form [] lengths = absurd (false≢true lengths)
first_of_form (c ∷ rest) lengths = (c, rest, refl)

-- the form of a domain that is written
IsUrlDomain-written : (profile : Profile) (text form : List ℕ) → IsWrittenForm profile text form
    → ends_in_number form ≡ false → IsUrlDomain profile form
IsUrlDomain-written profile text form is name =
    let parts = first_of_form form is.lengths in
    record {
      first = parts.0;
      rest = parts.1;
      some = parts.2;
      letters = list_all-from_AllPass (is_form_code_point profile) form is.letters;
      name = name;
    }

-- an ASCII code point that isn't an upper-case letter
abbrev is_lowercase_point : ℕ → Bool
is_lowercase_point c = is_ascii c && not (is_ascii_uppercase c)

-- what ToASCII gives, without forbidden code points, are code points of a form under the parser's profile
parser_letters : (form : List ℕ) → list_all is_lowercase_point form ≡ true
    → list_any is_forbidden_domain form ≡ false → list_all (is_form_code_point Parser) form ≡ true
parser_letters [] lower none = refl
parser_letters (c ∷ rest) lower none =
    let parts = and_parts (is_lowercase_point c) (list_all is_lowercase_point rest) lower in
    elim (cases_Bool (is_forbidden_domain c)) [
      | inl forbidden ↦ absurd (true≢false (rw forbidden at none))
      | inr allowed ↦ and_from _ _ (letter parts.0 allowed) (parser_letters rest parts.1 (rw allowed at none))
    ]
  where
    letter : is_lowercase_point c ≡ true → is_forbidden_domain c ≡ false → is_form_code_point Parser c ≡ true
    letter is allowed = elim (cases_Bool (is_ascii_lowercase c)) [
      | inl lower ↦ rw lower refl
      | inr no_letter ↦ elim (cases_Bool (is_ascii_digit c)) [
        | inl digit ↦ rw (no_letter, digit) refl
        | inr no_digit ↦
            let both = and_parts (is_ascii c) (not (is_ascii_uppercase c)) is in
            let plain : is_ascii_uppercase c ≡ false = not-true (is_ascii_uppercase c) both.1 in
            rw (no_letter, no_digit, both.0, plain, allowed) refl
      ]
    ]

-- what ToASCII gives is in lower case
parsed_lower : (text form : List ℕ) → parser_form text ≡ Some form → list_all is_lowercase_point form ≡ true
parsed_lower text form formed =
    list_all-from_AllPass is_lowercase_point form
    (All-weaker (IsOutputByte EMPTY) (λ c. is_lowercase_point c ≡ true) lower form
    (All-to_ascii EMPTY Allow Ignore (encode_utf8_all text) form (sym (parser_form-is text) ∙ formed)))
  where
    lower : (c : ℕ) → IsOutputByte EMPTY c → is_lowercase_point c ≡ true
    lower c is =
        let small : is_ascii c ≡ true = lt-ltb c 128 is.ascii in
        rw (small, is.lower) refl

-- a text with a code point has a first one
first_of_some : (form : List ℕ) → form ≢ [] → (first : ℕ) × (rest : List ℕ) × (form ≡ first ∷ rest)
first_of_some [] some = absurd (some refl)
first_of_some (c ∷ rest) some = (c, rest, refl)

-- the form of a domain under the parser's profile
IsUrlDomain-parsed : (text form : List ℕ) → IsParserForm text form → ends_in_number form ≡ false
    → IsUrlDomain Parser form
IsUrlDomain-parsed text form is name =
    let parts = first_of_some form is.some in
    record {
      first = parts.0;
      rest = parts.1;
      some = parts.2;
      letters = parser_letters form (parsed_lower is.decoded form is.formed) is.permitted;
      name = name;
    }

-- the form of a domain
pub IsUrlDomain-form : (profile : Profile) (text form : List ℕ) → IsDomain profile text form
    → IsUrlDomain profile form
IsUrlDomain-form Standard text form is = IsUrlDomain-written Standard text form is.0 is.1
IsUrlDomain-form Wide text form is = IsUrlDomain-written Wide text form is.0 is.1
IsUrlDomain-form Parser text form is = IsUrlDomain-parsed text form is.0.1 is.1

-- an opaque host of a text, encoded
pub IsUrlOpaqueHost-encoded : (text : List ℕ) → IsOpaqueHost text → IsUrlOpaqueHost (encoded false text)
IsUrlOpaqueHost-encoded text is =
    let parts = encoded-some is.first is.rest in
    record {
      host = record {
        first = parts.0;
        rest = parts.1;
        some = ap (λ t. encoded false t) is.some ∙ parts.2;
        units = IsUnits-encoded false text is.units;
        permitted = permitted-encoded false text is.permitted;
      };
      ascii = is_ascii-encoded false text;
    }
