-- Forms of texts that are percent-decoded (URL Standard, section 3.5): what ToASCII gives of the bytes, where the host
-- parser takes it.
use Rattle.std.proofs.Common.{◌≡◌, ◌≢◌, ℕ, Bool, true, false, not, ◌==◌, List, [], ◌∷◌, Option, Some, None}
use Rattle.std.proofs.Common.{String, Global, chars, encode_utf8_all, IsUtf8, length, refl, sym, ap}
use Rattle.std.proofs.Common.{◌∙◌, subst, inl, inr, arith, ne_eqb, string_bytes, option_map}
use Rattle.std.specs.Prelude.{MatchOption}
use Rattle.std.specs.List.{list_all, list_any}
use Rattle.std.specs.Str.{is_utf8}
use Rattle.std.proofs.lemmas.Bool.{and_from, and_parts, cases_Bool, false≢true, not_from_false}
use Rattle.std.proofs.lemmas.Option.{none-some, same_Some}
use Rattle.std.proofs.lemmas.Str.{IsUtf8-from_is_utf8, encodes-chars}
use Rattle.idna.specs.declared.deny_list.TheConstants.AsciiDenyList.{EMPTY}
use Rattle.idna.specs.declared.options.DnsLength.TheVariants.{Ignore}
use Rattle.idna.specs.declared.options.Hyphens.TheVariants.{Allow}
use Rattle.idna.specs.Labels.{labels_of}
use Rattle.idna.specs.Uts46.{domain_to_ascii}
use Rattle.idna.specs.Validity.{passes_hyphens}
use Rattle.idna.proofs.Uts46Lemmas.{to_ascii-invalid, to_ascii-plain}
use Rattle.percent_encoding.specs.Percent.{percent_decode}
use Rattle.uv_model.specs.declared.profile.Profile.TheVariants.{Parser}
use Rattle.uv_model.specs.Hosts.Domain.{HasNoForm, IsDecoded, IsForm, IsParserForm, is_forbidden_domain}
use Rattle.uv_model.specs.Hosts.Domain.{is_form_code_point, parser_form}
use Rattle.uv_model.specs.Hosts.OpaqueHost.{starts_with_bracket}
use Rattle.uv_model.proofs.Hosts.DomainLemmas.{parser_form-is}
use Rattle.uv_host.specs.ParserHosts.{is_taken, taken, taken_form}
use Rattle.uv_host.proofs.LowerLemmas.{form_plain}
use Rattle.uv_host.proofs.ParserFormLemmas.{allowed_form}
use Rattle.uv_model.proofs.Hosts.ParserForms.{not_utf8}

-- ---- what ToASCII takes

-- so ToASCII takes only UTF-8
utf8_taken : (bytes form : List ℕ) → domain_to_ascii EMPTY bytes ≡ Some form → is_utf8 bytes ≡ true
utf8_taken bytes form e =
    elim (cases_Bool (is_utf8 bytes)) [
      | inl whole ↦ whole
      | inr broken ↦
          absurd (none-some form (sym (to_ascii-invalid EMPTY Allow Ignore bytes (not_utf8 bytes broken)) ∙ e))
    ]

-- the form of the code points of UTF-8 is what ToASCII gives of the bytes
form_of_bytes : (bytes : List ℕ) → is_utf8 bytes ≡ true → parser_form (chars bytes) ≡ domain_to_ascii EMPTY bytes
form_of_bytes bytes utf8 =
    parser_form-is (chars bytes)
    ∙ ap (domain_to_ascii EMPTY) (encodes-chars bytes (IsUtf8-from_is_utf8 bytes utf8))

-- ---- forms that the host parser takes

-- one isn't empty and has no forbidden domain code point
taken_some : (form : List ℕ) → is_taken form ≡ true → form ≢ []
taken_some form is nothing = false≢true (subst (λ (f : List ℕ). is_taken f ≡ true) nothing is)

taken_allowed : (form : List ℕ) → is_taken form ≡ true → list_any is_forbidden_domain form ≡ false
taken_allowed form is = by_test (list_any is_forbidden_domain form) (and_parts (not (length form == 0)) _ is).1
  where
    by_test : (b : Bool) → not b ≡ true → b ≡ false
    by_test true h = absurd (false≢true h)
    by_test false h = refl

-- such a form is taken
is_taken_from : (form : List ℕ) → form ≢ [] → list_any is_forbidden_domain form ≡ false → is_taken form ≡ true
is_taken_from [] some allowed = absurd (some refl)
is_taken_from (c ∷ rest) some allowed =
    and_from _ _ (rw (ne_eqb (length (c ∷ rest)) 0 (λ e. absurd (omega (arith, e)))) refl)
    (not_from_false (list_any is_forbidden_domain (c ∷ rest)) allowed)

-- what is taken was given, and is such a form
taken_was : (given : Option (List ℕ)) (form : List ℕ) → taken given ≡ Some form
    → (given ≡ Some form) × (is_taken form ≡ true)
taken_was None form e = absurd (none-some form e)
taken_was (Some other) form e =
    elim (cases_Bool (is_taken other)) [
      | inl is ↦
          let same : other ≡ form = same_Some other form (rw is at e) in
          (ap (λ (f : List ℕ). Some f) same, subst (λ (f : List ℕ). is_taken f ≡ true) same is)
      | inr other_is ↦ absurd (none-some form (rw other_is at e))
    ]

-- what ToASCII leaves as it is, of a form's code points, is taken
pub own_taken : (name : List ℕ) → name ≢ [] → list_all (is_form_code_point Parser) name ≡ true
    → list_all (passes_hyphens Allow) (labels_of name) ≡ true → taken_form name ≡ Some name
own_taken name some letters placed =
    let own : domain_to_ascii EMPTY name ≡ Some name
    = to_ascii-plain EMPTY Allow name (form_plain Parser name letters placed) in
    let is = is_taken_from name some (allowed_form name letters) in
    ap taken own ∙ rw is refl

-- ---- texts

-- the bytes that a text decodes to are those that its bytes do
same_bytes : (text : List ℕ) → IsUtf8 text → percent_decode (encode_utf8_all (chars text)) ≡ percent_decode text
same_bytes text utf8 = ap percent_decode (encodes-chars text utf8)

-- what is taken of the decoded bytes is the text's form
taken_is_form : (text form : List ℕ) → IsUtf8 text → starts_with_bracket (chars text) ≡ false
    → taken_form (percent_decode text) ≡ Some form → IsForm Parser (chars text) form
taken_is_form text form utf8 plain e =
    let bytes : List ℕ = percent_decode text in
    let (given, is) = taken_was (domain_to_ascii EMPTY bytes) form e in
    let whole = utf8_taken bytes form given in
    let same = same_bytes text utf8 in
    let decodes : IsDecoded (chars text) (chars bytes)
    = record { utf8 = ap is_utf8 same ∙ whole; spelled = ap chars (sym same) } in
    let parsed : IsParserForm (chars text) form
    = record {
      decoded = chars bytes;
      decodes = decodes;
      formed = form_of_bytes bytes whole ∙ given;
      some = taken_some form is;
      permitted = taken_allowed form is;
    } in
    (plain, parsed)

-- and if nothing is taken, it has none
not_taken : (text : List ℕ) → IsUtf8 text → taken_form (percent_decode text) ≡ None → HasNoForm Parser (chars text)
not_taken text utf8 e form (plain, is) =
    let bytes : List ℕ = percent_decode text in
    let same = same_bytes text utf8 in
    let whole : is_utf8 bytes ≡ true = ap is_utf8 (sym same) ∙ is.decodes.utf8 in
    let decoded : is.decoded ≡ chars bytes = is.decodes.spelled ∙ ap chars same in
    let given : domain_to_ascii EMPTY bytes ≡ Some form
    = sym (form_of_bytes bytes whole) ∙ (ap parser_form (sym decoded) ∙ is.formed) in
    let given_taken : taken (Some form) ≡ Some form = rw (is_taken_from form is.some is.permitted) refl in
    none-some form (sym e ∙ (ap taken given ∙ given_taken))

-- the answer of what is taken
pub taken_answer : (text : List ℕ) (answer : Option (String Global)) → IsUtf8 text
    → starts_with_bracket (chars text) ≡ false
    → option_map (λ form. string_bytes form) answer ≡ taken_form (percent_decode text)
    → MatchOption answer (HasNoForm Parser (chars text)) (λ form. IsForm Parser (chars text) (string_bytes form))
taken_answer text None utf8 plain e = not_taken text utf8 (sym e)
taken_answer text (Some form) utf8 plain e = taken_is_form text (string_bytes form) utf8 plain (sym e)
