-- The host parser on opaque hosts and on IPv6 addresses, and that a text which it takes for a special URL isn't empty.
use Rattle.std.proofs.Common.{suc, ne_eqb}
use Rattle.uv_model.specs.declared.host.Host.{Host}
use Rattle.std.proofs.Common.{◌≡◌, ℕ, ◌-◌, true, false, not, ◌==◌, List, [], ◌∷◌, ◌++◌, length, Some}
use Rattle.std.proofs.Common.{refl, subst, arith}
use Rattle.std.proofs.Common.{length-append, take_at}
use Rattle.std.specs.List.{list_all}
use Rattle.std.proofs.lemmas.Bool.{and_parts, not-true}
use Rattle.std.proofs.lemmas.Bool.Decides.{nat_tests}
use Rattle.uv_model.specs.declared.host.Host.TheVariants.{Opaque}
use Rattle.uv_model.specs.Ascii.{left_bracket, right_bracket}
use Rattle.uv_model.specs.Encoding.{encoded}
use Rattle.uv_parser.specs.HostParser.{is_faultless_host}
use Rattle.uv_parser.specs.HostParser.{parse_host, Ipv6HostsAreParsed}
use Rattle.uv_parser.specs.HostParser.{OpaqueHostsAreParsed, EmptyHostIsParsed}
use Rattle.uv_model.specs.Hosts.OpaqueHost.{is_forbidden_host}
use Rattle.uv_model.specs.Units.{is_unit_at, is_faultless}
use Rattle.uv_parser.proofs.HostParsing.Ipv6ParserLemmas.{ipv6_parsed}
use Rattle.uv_model.proofs.Hosts.LastLabelLemmas.{last_of}
use Rattle.uv_model.proofs.Texts.UnitsLemmas.{is_faultless-units}

-- ---- opaque hosts

-- a text without a fault of units and without a forbidden host code point has no fault of a host
faultless-host : (text : List ℕ) → is_faultless text ≡ true → list_all (λ c. not (is_forbidden_host c)) text ≡ true →
    is_faultless_host text ≡ true
faultless-host [] faultless permitted = refl
faultless-host (c ∷ rest) faultless permitted =
    let (here, further) = and_parts (is_unit_at c rest) (is_faultless rest) faultless in
    let (allowed, others) = and_parts (not (is_forbidden_host c)) _ permitted in
    rw (here, not-true (is_forbidden_host c) allowed) (faultless-host rest further others)

-- so it isn't `[`
not_bracket-allowed : (c : ℕ) → is_forbidden_host c ≡ false → (c == left_bracket) ≡ false
not_bracket-allowed c h = grind (arith, nat_tests)

-- a text with a first code point, and without a fault or a forbidden code point, is parsed as an opaque host
opaque-at : (c : ℕ) (rest : List ℕ) → is_faultless (c ∷ rest) ≡ true →
    list_all (λ x. not (is_forbidden_host x)) (c ∷ rest) ≡ true →
    parse_host false (c ∷ rest) ≡ Some (Opaque (encoded false (c ∷ rest)))
unfolding parse_host
opaque-at c rest faultless permitted =
    let allowed = not-true (is_forbidden_host c) (and_parts (not (is_forbidden_host c)) _ permitted).0 in
    rw (not_bracket-allowed c allowed, faultless-host (c ∷ rest) faultless permitted) refl

-- an opaque-host string is parsed as the opaque host that it encodes
pub opaque_hosts_are_parsed : OpaqueHostsAreParsed
opaque_hosts_are_parsed text is =
    let faultless = subst (λ t. is_faultless t ≡ true) is.some (is_faultless-units text is.units) in
    let permitted = subst (λ t. list_all (λ x. not (is_forbidden_host x)) t ≡ true) is.some is.permitted in
    rw is.some (opaque-at is.first is.rest faultless permitted)

-- the empty text is parsed as the empty host
pub empty_host_is_parsed : EmptyHostIsParsed
unfolding parse_host
empty_host_is_parsed = refl

-- ---- IPv6

-- an IPv6 text in brackets is parsed as its address
pub ipv6_hosts_are_parsed : Ipv6HostsAreParsed
unfolding parse_host
ipv6_hosts_are_parsed special text pieces (inner, shown, is) =
    let closed = right_bracket ∷ [] in
    let at : length (inner ++ closed) - 1 ≡ length inner = omega (arith, length-append inner closed) in
    let within = take_at inner closed (length inner) refl in
    rw (shown, last_of inner right_bracket, at, within, ipv6_parsed inner pieces is) refl

-- ---- texts that aren't empty

-- a text with a first code point isn't empty
pub has_some : (text : List ℕ) (c : ℕ) (rest : List ℕ) → text ≡ c ∷ rest → (length text == 0) ≡ false
has_some text c rest e = rw e (ne_eqb (suc (length rest)) 0 (λ same. omega (arith, same)))

-- a text that is parsed for a special URL isn't empty
pub parsed_some : (text : List ℕ) (value : Host) → parse_host true text ≡ Some value → (length text == 0) ≡ false
unfolding parse_host
parsed_some [] value parsed = absurd cc
parsed_some (c ∷ rest) value parsed = has_some (c ∷ rest) c rest refl
