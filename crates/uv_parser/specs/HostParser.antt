-- The host parser, after the URL Standard, section 3.5, ended at its first validation error.
use Rattle.std.specs.Prelude.{◌≡◌, ◌↔◌, ◌⊎◌, ℕ, ◌-◌, Bool, true, false, ◌&&◌, ◌==◌, List, [], ◌∷◌}
use Rattle.std.specs.Prelude.{length, take, slice_index, chars, encode_utf8_all, Option, Some, None, option_map}
use Rattle.std.specs.Prelude.{option_and_then, if◌then◌else◌}
use Rattle.std.specs.List.{list_any}
use Rattle.std.specs.Str.{is_utf8}
use Rattle.percent_encoding.specs.Percent.{percent_decode}
use Rattle.uv_model.specs.declared.profile.Profile.{Profile}
use Rattle.uv_model.specs.declared.profile.Profile.TheVariants.{Parser}
use Rattle.uv_model.specs.declared.host.Host.{Host}
use Rattle.uv_model.specs.declared.host.Host.TheVariants.{Domain, V4, V6, Opaque, Empty}
use Rattle.uv_model.specs.Ascii.{left_bracket, right_bracket}
use Rattle.uv_model.specs.Units.{is_unit_at}
use Rattle.uv_model.specs.Encoding.{encoded}
use Rattle.uv_model.specs.Hosts.OpaqueHost.{is_forbidden_host, IsOpaqueHost}
use Rattle.uv_model.specs.Hosts.Address.{IsBracketedIpv6}
use Rattle.uv_model.specs.Hosts.Numbers.{IsIpv4Text}
use Rattle.uv_model.specs.Hosts.Domain.{IsDomain, ends_in_number, is_forbidden_domain, parser_form}
use Rattle.uv_model.specs.Valid.{IsHostText}
use Rattle.uv_parser.specs.Ipv4Parser.{parse_ipv4}
use Rattle.uv_parser.specs.Ipv6Parser.{parse_ipv6}

-- no code point of the text is a fault of units or a forbidden host code point
abbrev pub is_faultless_host : List ℕ → Bool
is_faultless_host [] = true
is_faultless_host (c ∷ rest) = is_unit_at c rest && (if is_forbidden_host c then false else is_faultless_host rest)

-- the opaque-host parser
abbrev pub parse_opaque_host : List ℕ → Option Host
parse_opaque_host [] = Some Empty
parse_opaque_host (c ∷ rest) = if is_faultless_host (c ∷ rest) then Some (Opaque (encoded false (c ∷ rest))) else None

-- the code points of the percent-decoded text, where its bytes are UTF-8
abbrev pub percent_decoded : List ℕ → Option (List ℕ)
percent_decoded text =
    let bytes = percent_decode (encode_utf8_all text) in
    if is_utf8 bytes then Some (chars bytes) else None

-- the host of the ASCII form: an address where it ends in a number, otherwise a domain
abbrev pub host_of_form : List ℕ → Option Host
host_of_form form =
    if length form == 0 then None
    else (if list_any is_forbidden_domain form then None
    else (if ends_in_number form then option_map V4 (parse_ipv4 form) else Some (Domain form)))

-- a host of a special URL that doesn't begin with `[`: percent-decoding, UTF-8, ToASCII, and then its form
unfoldable pub parse_domain : List ℕ → Option Host
parse_domain text = option_and_then host_of_form (option_and_then parser_form (percent_decoded text))

-- after `[`: the text ends with `]`, and the IPv6 parser reads what is between
abbrev pub parse_bracketed : List ℕ → Option Host
parse_bracketed inner =
    if slice_index inner (length inner - 1) == right_bracket
    then option_map V6 (parse_ipv6 (take (length inner - 1) inner)) else None

-- the host parser of a text, where the flag says that the URL is special
unfoldable pub parse_host : Bool → List ℕ → Option Host
parse_host special [] = if special then None else Some Empty
parse_host special (c ∷ rest) =
    if c == left_bracket then parse_bracketed rest
    else (if special then parse_domain (c ∷ rest) else parse_opaque_host (c ∷ rest))

-- ---- laws

-- a valid domain of any profile is parsed, for a special URL, as the domain of its form
abbrev pub DomainsAreParsed : Type 0
DomainsAreParsed =
    (profile : Profile) (text form : List ℕ) → IsDomain profile text form → parse_host true text ≡ Some (Domain form)

-- the text of an IPv4 address under any profile is parsed, for a special URL, as the address of its value
abbrev pub Ipv4HostsAreParsed : Type 0
Ipv4HostsAreParsed =
    (profile : Profile) (text : List ℕ) (value : ℕ) → IsIpv4Text profile text value
    → parse_host true text ≡ Some (V4 value)

-- an IPv6 text in brackets is parsed, for every URL, as the address of its pieces
abbrev pub Ipv6HostsAreParsed : Type 0
Ipv6HostsAreParsed =
    (special : Bool) (text pieces : List ℕ) → IsBracketedIpv6 text pieces → parse_host special text ≡ Some (V6 pieces)

-- an opaque-host string without brackets is parsed, for a URL that isn't special, as the opaque host that it encodes
abbrev pub OpaqueHostsAreParsed : Type 0
OpaqueHostsAreParsed = (text : List ℕ) → IsOpaqueHost text → parse_host false text ≡ Some (Opaque (encoded false text))

-- the empty text is parsed, for a URL that isn't special, as the empty host
abbrev pub EmptyHostIsParsed : Type 0
EmptyHostIsParsed = parse_host false [] ≡ Some Empty

-- What is written as the host of a URL that isn't special: nothing, which is the empty host, or an IPv6 text in
-- brackets, or an opaque-host string without brackets, which is the opaque host that it encodes.
abbrev pub IsTakenOtherHost : List ℕ → Host → Type 0
IsTakenOtherHost text value =
    ((text ≡ []) × (value ≡ Empty))
    ⊎ (((pieces : List ℕ) × IsBracketedIpv6 text pieces × (value ≡ V6 pieces))
    ⊎ (IsOpaqueHost text × (value ≡ Opaque (encoded false text))))

-- for a URL that isn't special the host parser takes only these texts, each as its host
abbrev pub OtherHostsAreTaken : Type 0
OtherHostsAreTaken =
    (text : List ℕ) (value : Host) → (parse_host false text ≡ Some value) ↔ IsTakenOtherHost text value

-- for a special URL the host parser takes only the hosts of the parser's profile, each with its value
abbrev pub SpecialHostsAreTaken : Type 0
SpecialHostsAreTaken =
    (text : List ℕ) (value : Host) → (parse_host true text ≡ Some value) ↔ IsHostText Parser text value
