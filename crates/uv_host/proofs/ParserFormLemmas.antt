-- Forms of the parser's profile: of texts that ToASCII leaves as they are, and of texts that are percent-decoded.
use Rattle.std.proofs.Common.{◌≡◌, ◌≢◌, ℕ, Bool, true, false, not, ◌||◌, List, [], ◌∷◌, All, Some, length}
use Rattle.std.proofs.Common.{encode_utf8_all, refl, sym, ap, subst, ◌∙◌, inl, inr, arith, ne_eqb}
use Rattle.std.specs.Char.{is_ascii, is_ascii_alphanumeric, is_ascii_digit, is_ascii_lowercase, to_ascii_lowercase}
use Rattle.std.specs.List.{list_all, list_any}
use Rattle.std.proofs.lemmas.Bool.{and_parts, cases_Bool, false≢true}
use Rattle.std.proofs.lemmas.Bool.Decides.{nat_tests}
use Rattle.std.proofs.lemmas.List.Elements.{All-cons, All-nil, All-weaker}
use Rattle.std.proofs.lemmas.List.Folds.{list_any_none}
use Rattle.std.proofs.lemmas.List.Sums.{AllPass-from_list_all}
use Rattle.idna.specs.declared.deny_list.TheConstants.AsciiDenyList.{EMPTY}
use Rattle.idna.specs.Uts46.{domain_to_ascii}
use Rattle.uv_model.specs.declared.profile.Profile.{Profile}
use Rattle.uv_model.specs.declared.profile.Profile.TheVariants.{Standard, Wide, Parser}
use Rattle.uv_model.specs.Ascii.{left_bracket, percent_sign}
use Rattle.uv_model.specs.Hosts.Domain.{HasNoForm, IsForm, has_lengths, is_domain_mark, is_forbidden_domain}
use Rattle.uv_model.specs.Hosts.Domain.{is_form_code_point}
use Rattle.uv_model.specs.Hosts.OpaqueHost.{starts_with_bracket}
use Rattle.uv_model.specs.Scheme.{lowercase}
use Rattle.uv_model.proofs.Hosts.DomainLemmas.{nothing_formed, parser_form-is}
use Rattle.uv_model.proofs.Hosts.ParserForms.{decoded-plain, utf8-form}
use Rattle.uv_host.specs.Domains.{fits_lengths}

-- ---- texts without `%`

-- a text without `%` that doesn't begin with `[` has the form that ToASCII gives, where the host parser takes that
pub parser_is_form : (text form : List ℕ) → All (λ c. c ≢ percent_sign) text → starts_with_bracket text ≡ false
    → domain_to_ascii EMPTY (encode_utf8_all text) ≡ Some form → form ≢ [] → list_any is_forbidden_domain form ≡ false
    → IsForm Parser text form
parser_is_form text form none start parsed some allowed =
    let formed = parser_form-is text ∙ parsed in (
      start,
      record {
        decoded = text;
        decodes = decoded-plain text none (utf8-form text form formed);
        formed = formed;
        some = some;
        permitted = allowed;
      },
    )

-- ---- lengths

-- a form of the right lengths isn't empty
pub some_form : (form : List ℕ) → fits_lengths Parser form ≡ true → form ≢ []
some_form form fits nothing = false≢true (subst (λ (f : List ℕ). fits_lengths Parser f ≡ true) nothing fits)

-- what isn't empty fits
fits_some : (c : ℕ) (rest : List ℕ) → fits_lengths Parser (c ∷ rest) ≡ true
fits_some c rest = rw (ne_eqb (length (c ∷ rest)) 0 (λ e. absurd (omega (arith, e)))) refl

-- so a form of other lengths is empty
pub no_form_left : (form : List ℕ) → fits_lengths Parser form ≡ false → form ≡ []
no_form_left [] wrong = refl
no_form_left (c ∷ rest) wrong = absurd (false≢true (sym wrong ∙ fits_some c rest))

-- what has the lengths of a domain has them under each profile
pub fits_from_lengths : (profile : Profile) (form : List ℕ) → has_lengths form ≡ true
    → fits_lengths profile form ≡ true
fits_from_lengths Standard form lengths = lengths
fits_from_lengths Wide form lengths = lengths
fits_from_lengths Parser [] lengths = absurd (false≢true lengths)
fits_from_lengths Parser (c ∷ rest) lengths = fits_some c rest

-- the empty text has no form
pub nothing_has_no_form : (text : List ℕ) → text ≡ [] → HasNoForm Parser text
nothing_has_no_form text nothing form is =
    nothing_formed form (subst (λ (t : List ℕ). IsForm Parser t form) nothing is).1

-- ---- code points of forms

-- neither of two tests passes where not one of both does
last_none : (a b : Bool) → not (a || b) ≡ true → b ≡ false
last_none a false h = refl
last_none true true h = absurd (false≢true h)
last_none false true h = absurd (false≢true h)

-- of two tests the second passes where the first doesn't
second_one : (a b : Bool) → (a || b) ≡ true → a ≡ false → b ≡ true
second_one true b h none = absurd (false≢true (sym none))
second_one false b h none = h

-- a letter, a digit and any other mark of a form isn't a forbidden domain code point
allowed_letter : (c : ℕ) → is_ascii_lowercase c ≡ true → is_forbidden_domain c ≡ false
allowed_letter c is = grind (arith, nat_tests)

allowed_digit : (c : ℕ) → is_ascii_digit c ≡ true → is_forbidden_domain c ≡ false
allowed_digit c is = grind (arith, nat_tests)

allowed_mark : (c : ℕ) → is_domain_mark Parser c ≡ true → is_forbidden_domain c ≡ false
allowed_mark c is = last_none (is_ascii_alphanumeric c) (is_forbidden_domain c) (and_parts (is_ascii c) _ is).1

-- so no code point of a form is
pub allowed_code_point : (c : ℕ) → is_form_code_point Parser c ≡ true → is_forbidden_domain c ≡ false
allowed_code_point c is =
    elim (cases_Bool (is_ascii_lowercase c)) [
      | inl letter ↦ allowed_letter c letter
      | inr other ↦ elim (cases_Bool (is_ascii_digit c)) [
        | inl digit ↦ allowed_digit c digit
        | inr another ↦
            allowed_mark c
            (second_one (is_ascii_digit c) (is_domain_mark Parser c)
            (second_one (is_ascii_lowercase c) (is_ascii_digit c || is_domain_mark Parser c) is other) another)
      ]
    ]

-- so a form of them has none
pub allowed_form : (form : List ℕ) → list_all (is_form_code_point Parser) form ≡ true
    → list_any is_forbidden_domain form ≡ false
allowed_form form is =
    list_any_none is_forbidden_domain form
    (All-weaker (λ c. is_form_code_point Parser c ≡ true) (λ c. is_forbidden_domain c ≡ false) allowed_code_point form
    (AllPass-from_list_all (is_form_code_point Parser) form is))

-- what is such a code point in lower case isn't `%`
no_percent : (c : ℕ) → is_form_code_point Parser (to_ascii_lowercase c) ≡ true → c ≢ percent_sign
no_percent c is same =
    false≢true (sym (ap (λ x. is_form_code_point Parser (to_ascii_lowercase x)) same) ∙ is)

-- a text of which the lower case is such a form has no `%`
pub lower_no_percent : (text : List ℕ) → list_all (is_form_code_point Parser) (lowercase text) ≡ true
    → All (λ c. c ≢ percent_sign) text
lower_no_percent [] is = All-nil (λ c. c ≢ percent_sign)
lower_no_percent (c ∷ rest) is =
    let parts = and_parts (is_form_code_point Parser (to_ascii_lowercase c))
    (list_all (is_form_code_point Parser) (lowercase rest)) is in
    All-cons (λ x. x ≢ percent_sign) c rest (no_percent c parts.0) (lower_no_percent rest parts.1)

-- nor is it `[`
no_bracket : (c : ℕ) → is_form_code_point Parser (to_ascii_lowercase c) ≡ true → c ≢ left_bracket
no_bracket c is same =
    false≢true (sym (ap (λ x. is_form_code_point Parser (to_ascii_lowercase x)) same) ∙ is)

-- and the text doesn't begin with one
pub lower_no_bracket : (text : List ℕ) → list_all (is_form_code_point Parser) (lowercase text) ≡ true
    → starts_with_bracket text ≡ false
lower_no_bracket [] is = refl
lower_no_bracket (c ∷ rest) is =
    let parts = and_parts (is_form_code_point Parser (to_ascii_lowercase c))
    (list_all (is_form_code_point Parser) (lowercase rest)) is in
    ne_eqb c left_bracket (no_bracket c parts.0)

-- a text is empty when its lower case is
pub lower_nothing : (text : List ℕ) → lowercase text ≡ [] → text ≡ []
lower_nothing [] nothing = refl
lower_nothing (c ∷ rest) nothing = absurd cc
