-- Names in lower case that are their own form, and those that have none for their hyphens.
use Rattle.std.proofs.Common.{◌≡◌, ℕ, ◌<◌, true, false, List, chars, sym, ap, ◌∙◌, subst, IsUtf8, arith}
use Rattle.std.specs.Char.{is_ascii_uppercase}
use Rattle.std.specs.List.{list_all}
use Rattle.std.specs.Str.{IsAscii}
use Rattle.std.proofs.lemmas.Bool.{and_from, and_parts, false≢true}
use Rattle.std.proofs.lemmas.Bool.Decides.{nat_tests}
use Rattle.std.proofs.lemmas.List.Elements.{All-weaker}
use Rattle.std.proofs.lemmas.List.Sums.{AllPass-from_list_all, list_all-from_AllPass}
use Rattle.std.proofs.lemmas.Str.{chars-IsAscii, encodes-chars}
use Rattle.idna.specs.declared.deny_list.TheConstants.AsciiDenyList.{STD3}
use Rattle.idna.specs.declared.options.Hyphens.TheVariants.{Allow, Check}
use Rattle.idna.specs.declared.options.DnsLength.TheVariants.{Ignore}
use Rattle.idna.specs.Display.{IsLowercaseAscii, IsPlain}
use Rattle.idna.specs.Labels.{labels_of}
use Rattle.idna.specs.Uts46.{to_ascii}
use Rattle.idna.specs.Validity.{passes_hyphens}
use Rattle.idna.proofs.Uts46Lemmas.{IsAscii-lowercase, map-lowercase}
use Rattle.uv_model.specs.declared.profile.Profile.{Profile}
use Rattle.uv_model.specs.declared.profile.Profile.TheVariants.{Standard, Wide, Parser}
use Rattle.uv_model.specs.Hosts.Domain.{HasNoForm, has_permitted, is_form_code_point, is_permitted}
use Rattle.uv_model.specs.Scheme.{lowercase}
use Rattle.uv_model.specs.WrittenProfiles.{IsWritten}
use Rattle.uv_model.proofs.Hosts.DomainLemmas.{not_strict}
use Rattle.uv_host.specs.Domains.{HasFormByLengths, IsOwnForm, is_lower_name, is_plain_name, takes_hyphens}
use Rattle.uv_host.proofs.LowerLemmas.{lower_form}
use Rattle.uv_host.proofs.PlainLemmas.{plain_ascii, plain_from_form, plain_is_form, plain_no_form, plain_parsed}
use Rattle.uv_host.proofs.StrictLemmas.{refused_name}

-- a name of a form's code points is in lower case
form_lower : (profile : Profile) (c : ℕ) → is_form_code_point profile c ≡ true
    → (c < 128) × (is_ascii_uppercase c ≡ false)
form_lower Standard c h = (grind (arith, nat_tests), grind (arith, nat_tests))
form_lower Wide c h = (grind (arith, nat_tests), grind (arith, nat_tests))
form_lower Parser c h = (grind (arith, nat_tests), grind (arith, nat_tests))

lower_name : (profile : Profile) (name : List ℕ) → list_all (is_form_code_point profile) name ≡ true
    → IsLowercaseAscii name
lower_name profile name letters =
    All-weaker (λ c. is_form_code_point profile c ≡ true) (λ c. (c < 128) × (is_ascii_uppercase c ≡ false))
    (form_lower profile) name (AllPass-from_list_all (is_form_code_point profile) name letters)

-- so it is ASCII
pub form_ascii : (profile : Profile) (name : List ℕ) → list_all (is_form_code_point profile) name ≡ true → IsAscii name
form_ascii profile name letters = IsAscii-lowercase name (lower_name profile name letters)

same_lower : (profile : Profile) (name : List ℕ) → list_all (is_form_code_point profile) name ≡ true
    → lowercase name ≡ name
same_lower profile name letters =
    map-lowercase name
    (All-weaker (λ c. is_form_code_point profile c ≡ true) (λ c. is_ascii_uppercase c ≡ false)
    (λ c h. (form_lower profile c h).1) name (AllPass-from_list_all (is_form_code_point profile) name letters))

-- such code points are permitted
permitted_byte : (profile : Profile) (c : ℕ) → IsWritten profile → is_form_code_point profile c ≡ true
    → is_permitted profile c ≡ true
permitted_byte Standard c written h = grind (arith, nat_tests)
permitted_byte Wide c written h = grind (arith, nat_tests)
permitted_byte Parser c written h = absurd written

permitted_name : (profile : Profile) (name : List ℕ) → list_all (is_form_code_point profile) name ≡ true
    → IsWritten profile → has_permitted profile (chars name) ≡ true
unfolding has_permitted
permitted_name profile name letters written =
    ap (list_all (is_permitted profile)) (chars-IsAscii name (IsAscii-lowercase name (lower_name profile name letters)))
    ∙ list_all-from_AllPass (is_permitted profile) name
    (All-weaker (λ c. is_form_code_point profile c ≡ true) (λ c. is_permitted profile c ≡ true)
    (λ c h. permitted_byte profile c written h) name
    (AllPass-from_list_all (is_form_code_point profile) name letters))

-- a plain name is its own form but for the lengths
pub plain_own_form : (profile : Profile) (name : List ℕ) → IsUtf8 name → IsPlain STD3 Check name
    → HasFormByLengths profile (chars name) name
plain_own_form profile name utf8 plain = record {
  ascii = plain_ascii name plain;
  fits = plain_is_form profile name utf8 plain;
  wrong = plain_no_form profile name utf8 plain;
}

own_form : (profile : Profile) (name : List ℕ) → IsUtf8 name → list_all (is_form_code_point profile) name ≡ true
    → IsOwnForm profile name → HasFormByLengths profile (chars name) name
own_form profile name utf8 letters own =
    let same = same_lower profile name letters in
    subst (λ (form : List ℕ). HasFormByLengths profile (chars name) form) same
    (lower_form profile name utf8 (IsAscii-lowercase name (lower_name profile name letters))
    (permitted_name profile name letters) (subst (λ (form : List ℕ). IsOwnForm profile form) (sym same) own))

lower_parts : (profile : Profile) (name : List ℕ) → is_lower_name profile name ≡ true
    → (list_all (is_form_code_point profile) name ≡ true) × (list_all (passes_hyphens Allow) (labels_of name) ≡ true)
lower_parts profile name lower =
    and_parts (list_all (is_form_code_point profile) name) (list_all (passes_hyphens Allow) (labels_of name)) lower

-- so is a name of a form's code points without `xn--`, where the profile takes its hyphens
pub lower_own_form : (profile : Profile) (name : List ℕ) → IsUtf8 name
    → is_lower_name profile name ≡ true → takes_hyphens profile name ≡ true → HasFormByLengths profile (chars name) name
lower_own_form Standard name utf8 lower placed =
    plain_own_form Standard name utf8 (plain_from_form name (lower_parts Standard name lower).0 placed)
lower_own_form Wide name utf8 lower placed =
    own_form Wide name utf8 (lower_parts Wide name lower).0 (lower_parts Wide name lower)
lower_own_form Parser name utf8 lower placed =
    own_form Parser name utf8 (lower_parts Parser name lower).0 (lower_parts Parser name lower)

-- and where it doesn't, the name has no form
pub hyphens_no_form : (profile : Profile) (name : List ℕ) → IsUtf8 name → is_lower_name profile name ≡ true
    → takes_hyphens profile name ≡ false → HasNoForm profile (chars name)
hyphens_no_form Standard name utf8 lower placed =
    let parts = lower_parts Standard name lower in
    not_strict (chars name)
    (ap (to_ascii STD3 Check Ignore) (encodes-chars name utf8)
    ∙ refused_name name (lower_name Standard name parts.0) parts.1 placed)
hyphens_no_form Wide name utf8 lower placed = absurd (false≢true (sym placed))
hyphens_no_form Parser name utf8 lower placed = absurd (false≢true (sym placed))

-- ---- plain names

-- a plain name consists of a form's code points under each profile
form_code_point : (profile : Profile) (c : ℕ) → is_form_code_point Standard c ≡ true
    → is_form_code_point profile c ≡ true
form_code_point Standard c h = h
form_code_point Wide c h = grind (arith, nat_tests)
form_code_point Parser c h = grind (arith, nat_tests)

-- so it is such a name
pub plain_lower : (profile : Profile) (name : List ℕ) → is_plain_name name ≡ true → is_lower_name profile name ≡ true
plain_lower profile name plain =
    let parts = and_parts (list_all (is_form_code_point Standard) name)
    (list_all (passes_hyphens Check) (labels_of name)) plain in
    and_from _ _
    (list_all-from_AllPass (is_form_code_point profile) name
    (All-weaker (λ c. is_form_code_point Standard c ≡ true) (λ c. is_form_code_point profile c ≡ true)
    (form_code_point profile) name (AllPass-from_list_all (is_form_code_point Standard) name parts.0)))
    (plain_parsed name (plain_from_form name parts.0 parts.1)).placed
