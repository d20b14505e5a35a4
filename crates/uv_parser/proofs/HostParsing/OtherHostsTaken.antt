-- What the host parser takes for a URL that isn't special: nothing, an IPv6 text in brackets, or an opaque-host string.
use Rattle.std.proofs.Common.{◌≡◌, ℕ, ◌+◌, ◌-◌, ◌<◌, true, false, not, ◌==◌, List, [], ◌∷◌, ◌++◌, length, take, Option}
use Rattle.std.proofs.Common.{Some, None, if◌then◌else◌, refl, sym, ap, subst, ◌∙◌, inl, inr, eqb-true, arith}
use Rattle.std.specs.Prelude.{slice_index, option_map}
use Rattle.std.specs.List.{list_all}
use Rattle.std.proofs.Math.Seq.{take-length}
use Rattle.std.proofs.lemmas.Bool.{and_from, and_parts, cases_Bool, false≢true}
use Rattle.std.proofs.lemmas.List.{take_more}
use Rattle.std.proofs.lemmas.Option.{none-some, same_Some}
use Rattle.uv_model.specs.declared.host.Host.{Host}
use Rattle.uv_model.specs.declared.host.Host.TheVariants.{V6, Opaque}
use Rattle.uv_model.specs.Hosts.Address.{IsBracketedIpv6}
use Rattle.uv_model.specs.Ascii.{left_bracket, right_bracket}
use Rattle.uv_model.specs.Encoding.{encoded}
use Rattle.uv_parser.specs.HostParser.{IsTakenOtherHost, OtherHostsAreTaken, is_faultless_host, parse_bracketed}
use Rattle.uv_parser.specs.HostParser.{parse_host, parse_opaque_host}
use Rattle.uv_parser.specs.Ipv6Parser.{parse_ipv6}
use Rattle.uv_model.specs.Hosts.OpaqueHost.{IsOpaqueHost, is_forbidden_host}
use Rattle.uv_model.specs.Units.{is_faultless, is_unit_at}
use Rattle.uv_parser.proofs.HostParsing.HostParserLemmas.{empty_host_is_parsed, ipv6_hosts_are_parsed}
use Rattle.uv_parser.proofs.HostParsing.HostParserLemmas.{opaque_hosts_are_parsed}
use Rattle.uv_parser.proofs.HostParsing.Ipv6ReadersTaken.{fails_where_false}
use Rattle.uv_parser.proofs.HostParsing.Ipv6Taken.{ipv6_texts_alone}
use Rattle.uv_model.proofs.Texts.UnitsLemmas.{IsUnits-faultless}

-- ---- in brackets

-- a text with a last code point is what is before it and that one
before_last : (text : List ℕ) → 0 < length text
    → text ≡ take (length text - 1) text ++ slice_index text (length text - 1) ∷ []
before_last text some =
    let count : length text - 1 + 1 ≡ length text = omega (arith, some) in
    let within : length text - 1 < length text = omega (arith, some) in
    sym (take-length text) ∙ (ap (λ n. take n text) (sym count) ∙ take_more text (length text - 1) 0 within)

-- a text that ends with `]` isn't empty
bracket_is_some : (text : List ℕ) → (slice_index text (length text - 1) == right_bracket) ≡ true → 0 < length text
bracket_is_some [] is = absurd (false≢true is)
bracket_is_some (c ∷ text) is = omega arith

-- after `[` an IPv6 text and `]` are taken
pub bracketed_taken : (inner : List ℕ) (value : Host) → parse_bracketed inner ≡ Some value
    → (pieces : List ℕ) × IsBracketedIpv6 (left_bracket ∷ inner) pieces × (value ≡ V6 pieces)
bracketed_taken inner value e =
    let closed = fails_where_false (slice_index inner (length inner - 1) == right_bracket) e in
    by_parser (parse_ipv6 (take (length inner - 1) inner)) refl closed.0 closed.1
  where
    by_parser : (parsed : Option (List ℕ)) → parse_ipv6 (take (length inner - 1) inner) ≡ parsed
        → (slice_index inner (length inner - 1) == right_bracket) ≡ true → option_map V6 parsed ≡ Some value
        → (pieces : List ℕ) × IsBracketedIpv6 (left_bracket ∷ inner) pieces × (value ≡ V6 pieces)
    by_parser None is closed e = absurd (none-some value e)
    by_parser (Some pieces) is closed e =
        let last = eqb-true (slice_index inner (length inner - 1)) right_bracket closed in
        let shown : inner ≡ take (length inner - 1) inner ++ right_bracket ∷ []
        = before_last inner (bracket_is_some inner closed)
        ∙ ap (λ c. take (length inner - 1) inner ++ c ∷ []) last in (
          pieces,
          (
            take (length inner - 1) inner,
            ap (λ cs. left_bracket ∷ cs) shown,
            (ipv6_texts_alone (take (length inner - 1) inner) pieces).0 is,
          ),
          sym (same_Some _ _ e),
        )

-- ---- an opaque host

-- what has no fault of an opaque host has no fault of units and no forbidden host code point
permitted_host : (text : List ℕ) → is_faultless_host text ≡ true
    → (is_faultless text ≡ true) × (list_all (λ c. not (is_forbidden_host c)) text ≡ true)
permitted_host [] e = (refl, refl)
permitted_host (c ∷ rest) e =
    let both = and_parts (is_unit_at c rest) (if is_forbidden_host c then false else is_faultless_host rest) e in
    elim (cases_Bool (is_forbidden_host c)) [
      | inl forbidden ↦ absurd (false≢true (rw forbidden at both.1))
      | inr allowed ↦
          let more = permitted_host rest (rw allowed at both.1) in
          (and_from _ _ both.0 more.0, rw allowed more.1)
    ]

-- the opaque-host parser takes an opaque-host string
opaque_taken : (c : ℕ) (rest : List ℕ) (value : Host) → parse_opaque_host (c ∷ rest) ≡ Some value
    → IsOpaqueHost (c ∷ rest) × (value ≡ Opaque (encoded false (c ∷ rest)))
opaque_taken c rest value e =
    let is = fails_where_false (is_faultless_host (c ∷ rest)) e in
    let permitted = permitted_host (c ∷ rest) is.0 in (
      record {
        first = c;
        rest = rest;
        some = refl;
        units = IsUnits-faultless (c ∷ rest) permitted.0;
        permitted = permitted.1;
      },
      sym (same_Some _ _ is.1),
    )

-- ---- each text

-- what the host parser takes
host_taken : (text : List ℕ) (value : Host) → parse_host false text ≡ Some value → IsTakenOtherHost text value
unfolding parse_host
host_taken [] value e = inl (refl, sym (same_Some _ _ e))
host_taken (c ∷ rest) value e = elim (cases_Bool (c == left_bracket)) [
  | inl is ↦
      let first : left_bracket ∷ rest ≡ c ∷ rest = ap (λ mark. mark ∷ rest) (sym (eqb-true c left_bracket is)) in
      let (pieces, bracketed, valued) = bracketed_taken rest value (rw is at e) in
      inr (inl (pieces, subst (λ (text : List ℕ). IsBracketedIpv6 text pieces) first bracketed, valued))
  | inr other ↦ inr (inr (opaque_taken c rest value (rw other at e)))
]

-- and each of these is taken
taken_host : (text : List ℕ) (value : Host) → IsTakenOtherHost text value → parse_host false text ≡ Some value
taken_host text value (inl (nothing, empty)) = rw (nothing, empty) empty_host_is_parsed
taken_host text value (inr (inl (pieces, bracketed, valued))) =
    rw valued (ipv6_hosts_are_parsed false text pieces bracketed)
taken_host text value (inr (inr (opaque, valued))) = rw valued (opaque_hosts_are_parsed text opaque)

-- the host parser takes only these texts
pub other_hosts_are_taken : OtherHostsAreTaken
other_hosts_are_taken text value = (host_taken text value, taken_host text value)
