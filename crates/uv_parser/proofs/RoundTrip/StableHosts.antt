-- The host that a valid text of any profile denotes is stable: the host parser makes of its domain that domain.
use Rattle.std.proofs.Common.{◌≡◌, ◌≢◌, ℕ, true, false, not, ◌==◌, List, [], ◌∷◌, All, IsAscii, encode_utf8_all, Option}
use Rattle.std.proofs.Common.{Some, None, refl, sym, ap, ◌∙◌, inl, inr, eqb-true}
use Rattle.std.specs.List.{list_all, list_any}
use Rattle.std.specs.Str.{is_utf8}
use Rattle.std.proofs.lemmas.Bool.{cases_Bool, false≢true, or_parts}
use Rattle.std.proofs.lemmas.List.Elements.{All-weaker}
use Rattle.std.proofs.lemmas.List.Sums.{AllPass-from_list_all}
use Rattle.std.proofs.lemmas.Str.{IsUtf8-from_ascii, encodes-IsAscii, is_utf8-from_IsUtf8}
use Rattle.idna.specs.declared.deny_list.TheConstants.AsciiDenyList.{EMPTY}
use Rattle.idna.specs.declared.options.DnsLength.TheVariants.{Ignore}
use Rattle.idna.specs.declared.options.Hyphens.TheVariants.{Allow}
use Rattle.idna.proofs.Uts46Lemmas.{to_ascii_idem}
use Rattle.uv_model.specs.declared.profile.Profile.{Profile}
use Rattle.uv_model.specs.declared.profile.Profile.TheVariants.{Parser}
use Rattle.uv_model.specs.declared.host.Host.{Host}
use Rattle.uv_model.specs.declared.host.Host.TheVariants as host
use Rattle.uv_model.specs.Ascii.{left_bracket, percent_sign}
use Rattle.uv_model.specs.Hosts.Domain.{IsDomain, IsParserForm, is_forbidden_domain, parser_form}
use Rattle.uv_model.specs.Hosts.OpaqueHost.{starts_with_bracket}
use Rattle.uv_model.specs.Parts.{Parts}
use Rattle.uv_model.specs.Records.Denote.{authority_host}
use Rattle.uv_model.specs.Valid.{IsFileHostText, IsHostText, IsOpaqueHostText}
use Rattle.uv_model.proofs.Hosts.DomainLemmas.{IsAscii-parsed, parser_form-is}
use Rattle.uv_model.proofs.Hosts.ParserForms.{decoded-plain}
use Rattle.uv_parser.specs.Laws.RoundTrip.{IsStableHost}
use Rattle.uv_parser.proofs.HostParsing.SpecialHosts.{host_by_parser, parsed_host}

-- ---- domains

-- the form of a text is its own form
own_form : (text form : List ℕ) → parser_form text ≡ Some form → parser_form form ≡ Some form
own_form text form e =
    let again = to_ascii_idem EMPTY Allow Ignore (encode_utf8_all text) form (sym (parser_form-is text) ∙ e) in
    parser_form-is form ∙ rw (encodes-IsAscii form (IsAscii-parsed text form e)) again

-- no forbidden domain code point is one of the text
allowed_texts : (text : List ℕ) → list_any is_forbidden_domain text ≡ false
    → list_all (λ c. not (is_forbidden_domain c)) text ≡ true
allowed_texts [] none = refl
allowed_texts (c ∷ rest) none =
    let parts = or_parts (is_forbidden_domain c) (list_any is_forbidden_domain rest) none in
    rw parts.0 (allowed_texts rest parts.1)

-- `%` is forbidden in a domain
not_percent : (c : ℕ) → not (is_forbidden_domain c) ≡ true → c ≢ percent_sign
not_percent c allowed same = false≢true (sym (ap (λ d. not (is_forbidden_domain d)) same) ∙ allowed)

-- and so is `[`
no_bracket : (text : List ℕ) → list_any is_forbidden_domain text ≡ false → starts_with_bracket text ≡ false
no_bracket [] none = refl
no_bracket (c ∷ rest) none =
    let allowed = (or_parts (is_forbidden_domain c) (list_any is_forbidden_domain rest) none).0 in
    elim (cases_Bool (c == left_bracket)) [
      | inl same ↦ absurd (false≢true (sym allowed ∙ ap is_forbidden_domain (eqb-true c left_bracket same)))
      | inr other ↦ other
    ]

-- the form of a domain is a domain with itself as its form
domain_again : (text form : List ℕ) → IsDomain Parser text form → IsDomain Parser form form
domain_again text form ((plain, is), name) =
    let ascii : IsAscii form = IsAscii-parsed is.decoded form is.formed in
    let no_percent : All (λ c. c ≢ percent_sign) form
    = All-weaker (λ c. not (is_forbidden_domain c) ≡ true) (λ c. c ≢ percent_sign) not_percent form
    (AllPass-from_list_all (λ c. not (is_forbidden_domain c)) form (allowed_texts form is.permitted)) in
    let utf8 : is_utf8 (encode_utf8_all form) ≡ true
    = rw (encodes-IsAscii form ascii) (is_utf8-from_IsUtf8 form (IsUtf8-from_ascii form ascii)) in
    let again : IsParserForm form form
    = record {
      decoded = form;
      decodes = decoded-plain form no_percent utf8;
      formed = own_form is.decoded form is.formed;
      some = is.some;
      permitted = is.permitted;
    } in
    ((no_bracket form is.permitted, again), name)

-- so the host parser makes of it that domain
domain_stable : (text form : List ℕ) → IsDomain Parser text form → IsStableHost (Some (host.Domain form))
domain_stable text form is = parsed_host form (host.Domain form) (domain_again text form is)

-- ---- hosts

-- a valid host string of the parser's profile
stable_by_parser : (text : List ℕ) (value : Host) → IsHostText Parser text value → IsStableHost (Some value)
stable_by_parser text (host.Domain form) is = domain_stable text form is
stable_by_parser text (host.V4 value) is = tt
stable_by_parser text (host.V6 pieces) is = tt
stable_by_parser text (host.Opaque other) is = tt
stable_by_parser text host.Empty is = tt

-- and of any
pub host_stable : (profile : Profile) (text : List ℕ) (value : Host) → IsHostText profile text value
    → IsStableHost (Some value)
host_stable profile text value is = stable_by_parser text value (host_by_parser profile text value is)

-- one of a file URL
pub file_host_stable : (profile : Profile) (text : List ℕ) (value : Host) → IsFileHostText profile text value
    → IsStableHost (Some value)
file_host_stable profile text (host.Domain form) is = host_stable profile text (host.Domain form) is.0
file_host_stable profile text (host.V4 value) is = tt
file_host_stable profile text (host.V6 pieces) is = tt
file_host_stable profile text (host.Opaque other) is = tt
file_host_stable profile text host.Empty is = tt

-- the host of a URL of class Other isn't a domain
pub opaque_host_stable : (text : List ℕ) (value : Option Host) → IsOpaqueHostText text value → IsStableHost value
opaque_host_stable text None is = tt
opaque_host_stable text (Some (host.V6 pieces)) is = tt
opaque_host_stable text (Some (host.Domain form)) is = absurd is
opaque_host_stable text (Some (host.V4 value)) is = absurd is
opaque_host_stable text (Some (host.Opaque name)) is = absurd is
opaque_host_stable text (Some host.Empty) is = absurd is

-- the host that parts denote is stable where their value is, since an opaque host isn't a domain
pub authority_host_stable : (parts : Parts) (value : Option Host) (host_text : Option (List ℕ)) → parts.host ≡ value
    → parts.host_text ≡ host_text → IsStableHost value → IsStableHost (authority_host parts)
authority_host_stable parts (Some value) host_text e text is = rw e is
authority_host_stable parts None None e text is = rw (e, text) tt
authority_host_stable parts None (Some host_text) e text is = rw (e, text) tt
