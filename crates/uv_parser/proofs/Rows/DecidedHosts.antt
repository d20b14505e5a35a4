-- Decisions on host texts, by the parsers of addresses and by ToASCII: so that a text is valid with its parts, or that
-- it violates a rule at a place, is proved by `refl`.
use Rattle.std.proofs.Common.{◌≡◌, ℕ, ◌/◌, ◌%◌, Bool, true, false, List, [], ◌∷◌, Option, Some, None, refl, sym, ap}
use Rattle.std.proofs.Common.{◌∙◌, arith}
use Rattle.std.specs.Prelude.{IsSome, encode_utf8_all, option_map}
use Rattle.std.specs.Option.{option_or}
use Rattle.std.specs.List.{list_all}
use Rattle.idna.specs.declared.deny_list.TheConstants.AsciiDenyList.{EMPTY}
use Rattle.idna.specs.Uts46.{domain_to_ascii}
use Rattle.std.proofs.lemmas.Bool.{false≢true}
use Rattle.std.proofs.lemmas.Option.{none-some}
use Rattle.uv_model.specs.declared.profile.Profile.{Profile}
use Rattle.uv_model.specs.declared.profile.Profile.TheVariants.{Standard, Wide, Parser}
use Rattle.uv_model.specs.declared.rule.Rule.{Rule}
use Rattle.uv_model.specs.declared.rule.Rule.TheVariants.{HostDomain, HostIpv6, HostNumber}
use Rattle.uv_model.specs.declared.scheme.Class.{Class}
use Rattle.uv_model.specs.declared.host.Host.{Host}
use Rattle.uv_model.specs.declared.host.Host.TheVariants as host
use Rattle.uv_model.specs.Hosts.Address.{IsIpv4, address_of}
use Rattle.uv_model.specs.Hosts.Domain.{HasNoForm, IsForm, IsNumberText, ends_in_number, has_lengths}
use Rattle.uv_model.specs.Hosts.Domain.{has_permitted, is_form_code_point, parser_form, strict_form}
use Rattle.uv_model.specs.Hosts.Numbers.{IsIpv4Text}
use Rattle.uv_model.specs.Hosts.OpaqueHost.{starts_with_bracket}
use Rattle.uv_model.specs.Hosts.StoppedHost.{is_stopped}
use Rattle.uv_model.specs.Parts.{Parts}
use Rattle.uv_model.specs.Records.Serialize.{serial_ipv4}
use Rattle.uv_model.specs.Records.Url.{Url}
use Rattle.uv_model.specs.Valid.{IsHostText, Valid}
use Rattle.uv_model.specs.Violations.OpaqueHostViolation.{IsBadIpv6}
use Rattle.uv_model.specs.Violations.Violation.{HostTextViolation, IsStoppedName, ShouldBeDomain, Violation}
use Rattle.uv_model.specs.WrittenProfiles.{IsWritten}
use Rattle.uv_model.proofs.Deciding.Decisions.{all_four, all_three, both, either, is_absent, is_false, is_true}
use Rattle.uv_model.proofs.Deciding.Decisions.{other_text, present, same_number, same_option, same_text}
use Rattle.uv_model.proofs.Deciding.DecidedTexts.{is_valid, valid_decision}
use Rattle.uv_model.proofs.Deciding.DecidedViolations.{HostDecisions, violates, violation_decision}
use Rattle.uv_model.proofs.Hosts.DomainLemmas.{IsForm-from, IsForm-wide, no_parsed_lengths, not_parsed, not_permitted}
use Rattle.uv_model.proofs.Hosts.DomainLemmas.{not_strict, parser_form-is}
use Rattle.uv_model.proofs.Hosts.NumberLemmas.{four_numbers}
use Rattle.uv_parser.specs.HostParser.{parse_host}
use Rattle.uv_parser.specs.Ipv4Parser.{read_numbers}
use Rattle.uv_parser.proofs.HostParsing.HostParserLemmas.{ipv6_hosts_are_parsed}
use Rattle.uv_parser.proofs.HostParsing.Ipv4ParserLemmas.{numbers_read}
use Rattle.uv_parser.proofs.HostParsing.SpecialHosts.{host_from_parser}

-- ---- hosts

-- two hosts that are the same
abbrev same_host : (a b : Host) → Option (a ≡ b)
same_host (host.Domain a) (host.Domain b) = option_map (λ same. ap host.Domain same) (same_text a b)
same_host (host.V4 a) (host.V4 b) = option_map (λ same. ap host.V4 same) (same_number a b)
same_host (host.V6 a) (host.V6 b) = option_map (λ same. ap host.V6 same) (same_text a b)
same_host (host.Opaque a) (host.Opaque b) = option_map (λ same. ap host.Opaque same) (same_text a b)
same_host host.Empty host.Empty = Some refl
same_host _ _ = None

-- what the host parser makes of the text
abbrev parsed : (text : List ℕ) (value : Host) → Option (parse_host true text ≡ Some value)
parsed text value = same_option same_host (parse_host true text) (Some value)

-- the form of a text by a written profile
abbrev written_form : (profile : Profile) (text form : List ℕ) → Option (IsForm profile text form)
written_form Standard text form =
    option_map (λ is. IsForm-from text form is.0 is.1 is.2 (sym (parser_form-is text) ∙ is.3))
    (all_four (is_true (has_permitted Standard text)) (same_option same_text (strict_form text) (Some form))
    (is_true (has_lengths form)) (same_option same_text (parser_form text) (Some form)))
written_form Wide text form =
    option_map (λ is. IsForm-wide text form is.0 (sym (parser_form-is text) ∙ is.1) is.2 is.3)
    (all_four (is_true (has_permitted Wide text)) (same_option same_text (parser_form text) (Some form))
    (is_true (list_all (is_form_code_point Wide) form)) (is_true (has_lengths form)))
written_form Parser text form = None

-- the text of four numbers is an IPv4 text of their value
pub four_written : (text : List ℕ) (value : ℕ) → text ≡ serial_ipv4 value
    → value ≡ address_of (value / 16777216 % 256) (value / 65536 % 256) (value / 256 % 256) (value % 256)
    → IsIpv4 text value
four_written text value spelled valued = (
  value / 16777216 % 256,
  value / 65536 % 256,
  value / 256 % 256,
  value % 256,
  record { fit = (omega arith, omega arith, omega arith, omega arith); spelled = spelled },
  valued,
)

-- the text is four numbers of this value
abbrev four : (text : List ℕ) (value : ℕ) → Option (IsIpv4 text value)
four text value =
    option_map (λ is. four_written text value is.0 is.1)
    (both (same_text text (serial_ipv4 value))
    (same_number value
    (address_of (value / 16777216 % 256) (value / 65536 % 256) (value / 256 % 256) (value % 256))))

-- a host by a written profile: a domain, four numbers, or an IPv6 text in brackets
abbrev written_host : (profile : Profile) (text : List ℕ) (value : Host) → IsWritten profile
    → Option (IsHostText profile text value)
written_host profile text (host.Domain name) by_writing =
    both (written_form profile text name) (is_false (ends_in_number name))
written_host Standard text (host.V4 value) by_writing = four text value
written_host Wide text (host.V4 value) by_writing = four text value
written_host Parser text (host.V4 value) by_writing = None
written_host profile text (host.V6 pieces) by_writing =
    option_map (λ is. host_from_parser text (host.V6 pieces) is) (parsed text (host.V6 pieces))
written_host profile text (host.Opaque name) by_writing = None
written_host profile text host.Empty by_writing = None

-- a host under any profile
abbrev host_decision : (profile : Profile) (text : List ℕ) (value : Host) → Option (IsHostText profile text value)
host_decision Parser text value = option_map (λ is. host_from_parser text value is) (parsed text value)
host_decision Standard text value = written_host Standard text value tt
host_decision Wide text value = written_host Wide text value tt

-- ---- violations

-- four numbers are read
abbrev pub are_four : Option (List ℕ) → Bool
are_four (Some (a ∷ b ∷ c ∷ d ∷ [])) = true
are_four _ = false

-- a text that isn't four numbers isn't an IPv4 text
pub no_four : (text : List ℕ) → are_four (read_numbers text) ≡ false → (value : ℕ) → ¬ (IsIpv4 text value)
no_four text refused value is =
    let (a, b, c, d, are, valued) = four_numbers text value is in
    false≢true (sym refused ∙ ap are_four (numbers_read (a ∷ b ∷ c ∷ d ∷ []) text are))

-- so it isn't one by a written profile
abbrev no_ipv4 : (profile : Profile) (text : List ℕ) → Option ((value : ℕ) → ¬ (IsIpv4Text profile text value))
no_ipv4 Parser text = None
no_ipv4 _ text = option_map (λ refused. no_four text refused) (is_false (are_four (read_numbers text)))

-- so it should be a domain, if it isn't empty and doesn't begin with `[`
abbrev should_be_domain : (profile : Profile) (text : List ℕ) → Option (ShouldBeDomain profile text)
should_be_domain profile text =
    option_map (λ is. record { some = is.0; no_bracket = is.1; no_ipv4 = is.2 })
    (all_three (other_text text []) (is_false (starts_with_bracket text)) (no_ipv4 profile text))

-- a name at which the parser stops
abbrev stopped_name : (profile : Profile) (class : Class) (last : Bool) (text : List ℕ)
    → Option (IsStoppedName profile class last text)
stopped_name profile class last text =
    option_map (λ is. record { some = is.0; no_bracket = is.1; stopped = is.2 })
    (all_three (other_text text []) (is_false (starts_with_bracket text))
    (is_true (is_stopped profile class last text)))

-- by a written profile the text has no form where ToASCII at the parser's settings gives none, or one of wrong lengths
abbrev not_formed : (profile : Profile) (text : List ℕ) → IsWritten profile → Option (HasNoForm profile text)
not_formed profile text by_writing = by_form (parser_form text) (parser_form-is text)
  where
    by_form : (o : Option (List ℕ)) → o ≡ domain_to_ascii EMPTY (encode_utf8_all text) → Option (HasNoForm profile text)
    by_form None is = Some (not_parsed profile text by_writing (sym is))
    by_form (Some name) is =
        option_map (λ wrong. no_parsed_lengths profile text name by_writing (sym is) wrong)
        (is_false (has_lengths name))

-- or where it has another ASCII code point
abbrev no_written_form : (profile : Profile) (text : List ℕ) → IsWritten profile → Option (HasNoForm profile text)
no_written_form profile text by_writing =
    option_or
    (option_map (λ other. not_permitted profile text by_writing other) (is_false (has_permitted profile text)))
    (not_formed profile text by_writing)

-- or, under the standard profile, where ToASCII at the strict settings gives none
abbrev no_form : (profile : Profile) (text : List ℕ) → Option (HasNoForm profile text)
no_form Standard text =
    option_or (no_written_form Standard text tt)
    (option_map (λ refused. not_strict text refused) (is_absent (strict_form text)))
no_form Wide text = no_written_form Wide text tt
no_form Parser text = None

-- a form that ends in a number
abbrev number_text : (profile : Profile) (text : List ℕ) → Option (IsNumberText profile text)
number_text profile text =
    present (parser_form text)
    (λ name given. option_map (λ is. (name, is.0, is.1))
    (both (written_form profile text name) (is_true (ends_in_number name))))

-- brackets without an IPv6 text
abbrev bad_ipv6 : (text : List ℕ) → Option (IsBadIpv6 text)
bad_ipv6 text =
    option_map
    (λ is. record {
      bracket = is.0;
      no_value = λ pieces value. none-some (host.V6 pieces) (sym is.1 ∙ ipv6_hosts_are_parsed true text pieces value);
    })
    (both (is_true (starts_with_bracket text)) (is_absent (parse_host true text)))

-- a rule of the host of class SpecialNotFile or File
abbrev host_violation : (profile : Profile) (class : Class) (last : Bool) (text : List ℕ) (rule : Rule)
    → Option (HostTextViolation profile class last text rule)
host_violation profile class last text HostDomain =
    either (stopped_name profile class last text) (both (should_be_domain profile text) (no_form profile text))
host_violation profile class last text HostNumber =
    all_three (is_false (is_stopped profile class last text)) (should_be_domain profile text) (number_text profile text)
host_violation profile class last text HostIpv6 = bad_ipv6 text
host_violation profile class last text _ = None

-- ---- texts

-- the decisions on host texts
abbrev pub hosts : HostDecisions
hosts = record { host = host_decision; violation = host_violation }

-- a text of which a violation is found has it
pub violation_row : (profile : Profile) (base : Option Url) (text : List ℕ) (place : ℕ) (rule : Rule)
    → IsSome (violation_decision hosts profile base text place rule) → Violation profile base text place rule
violation_row profile base text place rule found = violates hosts profile base text place rule found

-- a text that is found valid with these parts is so
pub valid_row : (profile : Profile) (base : Option Url) (text : List ℕ) (parts : Parts)
    → IsSome (valid_decision hosts profile base text parts) → Valid profile base text parts
valid_row profile base text parts found = is_valid hosts profile base text parts found
