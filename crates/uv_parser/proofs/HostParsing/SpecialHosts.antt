-- The host parser of a special URL accepts only the hosts of the parser's profile, and so it parses the hosts of each
-- profile.
use Rattle.std.proofs.Common.{◌≡◌, ◌≢◌, ℕ, suc, true, false, ◌==◌, List, [], ◌∷◌, length, Option, Some, encode_utf8_all}
use Rattle.std.proofs.Common.{refl, sym, ap, subst, inl, inr, eqb-true, ne_eqb, arith}
use Rattle.std.specs.Prelude.{option_and_then}
use Rattle.std.specs.List.{list_any}
use Rattle.std.specs.Str.{is_utf8}
use Rattle.std.proofs.lemmas.Bool.{cases_Bool}
use Rattle.std.proofs.lemmas.Option.{none-some, option_and_then_some, same_Some}
use Rattle.percent_encoding.specs.Percent.{percent_decode}
use Rattle.uv_model.specs.declared.host.Host.{Host}
use Rattle.uv_model.specs.declared.host.Host.TheVariants as host
use Rattle.uv_model.specs.Ascii.{left_bracket}
use Rattle.uv_model.specs.Hosts.Domain.{ends_in_number, parser_form}
use Rattle.uv_model.specs.Hosts.OpaqueHost.{starts_with_bracket}
use Rattle.uv_model.specs.Hosts.Domain.{IsDecoded, IsParserForm, is_forbidden_domain}
use Rattle.uv_model.specs.Valid.{IsFileHostText, IsHostText, without_localhost}
use Rattle.std.proofs.Common.{codes}
use Rattle.std.specs.Str.{bytes_eq}
use Rattle.std.proofs.lemmas.Bool.{false_from_ne_true}
use Rattle.std.proofs.lemmas.Slice.Eq.{bytes_eq-Decides}
use Rattle.uv_model.specs.declared.profile.Profile.{Profile}
use Rattle.uv_model.specs.declared.profile.Profile.TheVariants.{Standard, Wide, Parser}
use Rattle.uv_model.proofs.Hosts.DomainLemmas.{nothing_formed, standard_domains_are_wide}
use Rattle.uv_model.proofs.Hosts.ParserForms.{ipv4_by_profile, wide_domains_are_parsers, wide_hosts_are_parsers}
use Rattle.uv_parser.specs.HostParser.{DomainsAreParsed, Ipv4HostsAreParsed, SpecialHostsAreTaken, host_of_form}
use Rattle.uv_parser.specs.HostParser.{parse_bracketed, parse_domain, parse_host}
use Rattle.uv_parser.specs.HostParser.{percent_decoded}
use Rattle.uv_parser.specs.Ipv4Parser.{parse_ipv4}
use Rattle.uv_parser.proofs.HostParsing.HostParserLemmas.{ipv6_hosts_are_parsed}
use Rattle.uv_parser.proofs.HostParsing.Ipv4ParserLemmas.{numbers_parsed}
use Rattle.uv_parser.proofs.HostParsing.Ipv4Taken.{ipv4_takes_numbers, mapped}
use Rattle.uv_parser.proofs.HostParsing.OtherHostsTaken.{bracketed_taken}

-- ---- from the profile to the parser

-- a decoded text is what the parser decodes
decoded_parsed : (text decoded : List ℕ) → IsDecoded text decoded → percent_decoded text ≡ Some decoded
decoded_parsed text decoded is = rw is.utf8 (ap Some (sym is.spelled))

-- a form that isn't empty has a code point
form_has_some : (form : List ℕ) → form ≢ [] → (length form == 0) ≡ false
form_has_some [] some = absurd (some refl)
form_has_some (c ∷ rest) some = ne_eqb (suc (length rest)) 0 (λ same. omega (arith, same))

-- a text with a form is parsed as the host of that form
form_parsed : (text form : List ℕ) (value : Host) → starts_with_bracket text ≡ false → IsParserForm text form
    → host_of_form form ≡ Some value → parse_host true text ≡ Some value
unfolding parse_host parse_domain
form_parsed [] form value plain is made = absurd (nothing_formed form is)
form_parsed (c ∷ rest) form value plain is made =
    let first : (c == left_bracket) ≡ false = plain in
    rw (first, decoded_parsed (c ∷ rest) is.decoded is.decodes, is.formed) made

-- a host of the profile is parsed
pub parsed_host : (text : List ℕ) (value : Host) → IsHostText Parser text value → parse_host true text ≡ Some value
parsed_host text (host.Domain form) ((plain, is), name) =
    form_parsed text form (host.Domain form) plain is
    (rw (form_has_some form is.some, is.permitted, name) refl)
parsed_host text (host.V4 value) (form, (plain, is), number, numbers) =
    form_parsed text form (host.V4 value) plain is
    (rw (form_has_some form is.some, is.permitted, number, numbers_parsed form value numbers) refl)
parsed_host text (host.V6 pieces) is = ipv6_hosts_are_parsed true text pieces is
parsed_host text (host.Opaque other) is = absurd is
parsed_host text host.Empty is = absurd is

-- ---- from the parser to the profile

-- what the parser decodes is decoded
decoded_taken : (text decoded : List ℕ) → percent_decoded text ≡ Some decoded → IsDecoded text decoded
decoded_taken text decoded e =
    elim (cases_Bool (is_utf8 (percent_decode (encode_utf8_all text)))) [
      | inl utf8 ↦ record { utf8 = utf8; spelled = sym (same_Some _ decoded (rw utf8 at e)) }
      | inr broken ↦ absurd (none-some decoded (rw broken at e))
    ]

-- a form with a code point isn't empty
form_not_empty : (form : List ℕ) → (length form == 0) ≡ false → form ≢ []
form_not_empty [] some same = absurd cc
form_not_empty (c ∷ rest) some same = absurd cc

-- what the parser makes of a form
form_taken : (text decoded form : List ℕ) (value : Host) → starts_with_bracket text ≡ false → IsDecoded text decoded
    → parser_form decoded ≡ Some form → host_of_form form ≡ Some value → IsHostText Parser text value
form_taken text decoded form value plain decodes formed made =
    elim (cases_Bool (length form == 0)) [
      | inl nothing ↦ absurd (none-some value (rw nothing at made))
      | inr some ↦ elim (cases_Bool (list_any is_forbidden_domain form)) [
        | inl forbidden ↦ absurd (none-some value (rw (some, forbidden) at made))
        | inr permitted ↦
            let is : IsParserForm text form
            = record {
              decoded = decoded;
              decodes = decodes;
              formed = formed;
              some = form_not_empty form some;
              permitted = permitted;
            } in
            elim (cases_Bool (ends_in_number form)) [
              | inl number ↦
                  let (address, parsed, same) = mapped host.V4 (parse_ipv4 form) value
                  (rw (some, permitted, number) at made) in
                  subst (λ (v : Host). IsHostText Parser text v) same
                  (form, (plain, is), number, (ipv4_takes_numbers form address).0 parsed)
              | inr name ↦
                  subst (λ (v : Host). IsHostText Parser text v)
                  (same_Some (host.Domain form) value (rw (some, permitted, name) at made)) ((plain, is), name)
            ]
      ]
    ]

-- what the parser makes of a text that begins with `[`
bracketed_host : (c : ℕ) (inner : List ℕ) (value : Host) → (c == left_bracket) ≡ true
    → parse_bracketed inner ≡ Some value → IsHostText Parser (c ∷ inner) value
bracketed_host c inner value same parsed =
    let (pieces, is, valued) = bracketed_taken inner value parsed in
    rw (eqb-true c left_bracket same) (subst (λ (v : Host). IsHostText Parser (left_bracket ∷ inner) v) (sym valued) is)

-- what the parser takes is a host of the profile
pub host_from_parser : (text : List ℕ) (value : Host) → parse_host true text ≡ Some value → IsHostText Parser text value
unfolding parse_host parse_domain
host_from_parser [] value e = absurd (none-some value e)
host_from_parser (c ∷ rest) value e =
    elim (cases_Bool (c == left_bracket)) [
      | inl same ↦ bracketed_host c rest value same (rw same at e)
      | inr plain ↦
          let after : Option (List ℕ) = option_and_then parser_form (percent_decoded (c ∷ rest)) in
          option_and_then_some host_of_form after value (rw plain at e)
          (λ form given made. option_and_then_some parser_form (percent_decoded (c ∷ rest)) form given
          (λ decoded read formed.
          form_taken (c ∷ rest) decoded form value plain (decoded_taken (c ∷ rest) decoded read) formed made))
    ]

-- the law
pub special_hosts_are_taken : SpecialHostsAreTaken
special_hosts_are_taken text value = (host_from_parser text value, parsed_host text value)

-- ---- hosts of each profile

-- a valid host string of any profile is one of the parser's profile
pub host_by_parser : (profile : Profile) (text : List ℕ) (value : Host) → IsHostText profile text value
    → IsHostText Parser text value
host_by_parser Standard text (host.Domain form) is =
    wide_domains_are_parsers text form (standard_domains_are_wide text form is)
host_by_parser Standard text (host.V4 value) is = ipv4_by_profile Parser text value is
host_by_parser Standard text (host.V6 pieces) is = is
host_by_parser Standard text (host.Opaque other) is = absurd is
host_by_parser Standard text host.Empty is = absurd is
host_by_parser Wide text value is = wide_hosts_are_parsers text value is
host_by_parser Parser text value is = is

-- a valid domain is parsed as the domain of its form
pub domains_are_parsed : DomainsAreParsed
domains_are_parsed profile text form is =
    parsed_host text (host.Domain form) (host_by_parser profile text (host.Domain form) is)

-- and the text of an IPv4 address as that address
pub ipv4_hosts_are_parsed : Ipv4HostsAreParsed
ipv4_hosts_are_parsed profile text value is =
    parsed_host text (host.V4 value) (host_by_parser profile text (host.V4 value) is)

-- a host of a file URL is what a host of a special URL becomes
pub host_of_file : (text : List ℕ) (value : Host) → IsFileHostText Parser text value
    → (host : Host) × IsHostText Parser text host × (without_localhost host ≡ value)
host_of_file text (host.Domain form) is = (
  host.Domain form,
  is.0,
  rw
      (false_from_ne_true (bytes_eq form (codes "localhost"))
      (λ same. is.1 ((bytes_eq-Decides form (codes "localhost")).0 same))) refl,
)
host_of_file text (host.V4 value) is = (host.V4 value, is, refl)
host_of_file text (host.V6 pieces) is = (host.V6 pieces, is, refl)
host_of_file text (host.Opaque other) is = absurd is
host_of_file text host.Empty is = (host.Domain (codes "localhost"), is, refl)
