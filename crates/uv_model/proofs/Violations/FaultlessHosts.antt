-- A valid host or port has no violation.
use Rattle.std.proofs.Common.{◌≡◌, ◌≢◌, ℕ, Bool, true, false, not, ◌==◌, List, [], ◌∷◌, Option, Some, None, codes}
use Rattle.std.proofs.Common.{drop, refl, sym, ap, ◌∙◌, inl, inr, arith, subst, zero, suc}
use Rattle.std.specs.List.{list_all}
use Rattle.std.specs.Char.{is_ascii_digit}
use Rattle.std.proofs.lemmas.Bool.{false≢true, true≢false, cases_Bool, eqb-true, and_parts, not-true}
use Rattle.std.proofs.lemmas.Option.{same_Some}
use Rattle.std.proofs.lemmas.Bool.Decides.{nat_tests}
use Rattle.idna.specs.Validity.{has_ace_prefix}
use Rattle.uv_model.specs.declared.profile.Profile.{Profile}
use Rattle.uv_model.specs.declared.profile.Profile.TheVariants.{Standard, Wide, Parser}
use Rattle.uv_model.specs.declared.scheme.Class.{Class}
use Rattle.uv_model.specs.declared.host.Host.{Host}
use Rattle.uv_model.specs.declared.host.Host.TheVariants.{Domain, V4, V6, Opaque, Empty}
use Rattle.uv_model.specs.declared.rule.Rule.{Rule}
use Rattle.uv_model.specs.declared.rule.Rule.TheVariants.{HostDomain, HostNumber, HostIpv6, HostCodePoint, PortDigit}
use Rattle.uv_model.specs.declared.rule.Rule.TheVariants.{PortRange, CodePoint, Percent}
use Rattle.uv_model.specs.Hosts.Address.{IsBracketedIpv6}
use Rattle.uv_model.specs.Hosts.Domain.{IsForm, IsWrittenForm, has_permitted, is_permitted, has_lengths, parser_form}
use Rattle.uv_model.specs.Hosts.StoppedHost.{is_stopped}
use Rattle.uv_model.specs.WrittenProfiles.{IsWritten}
use Rattle.uv_model.specs.Ascii.{left_bracket}
use Rattle.uv_model.specs.Hosts.OpaqueHost.{IsOpaqueHost, is_forbidden_host, starts_with_bracket}
use Rattle.uv_model.specs.Violations.OpaqueHostViolation.{OpaqueHostViolation}
use Rattle.uv_model.specs.Valid.{IsHostText, IsFileHostText, IsOpaqueHostText, IsPortText}
use Rattle.uv_model.specs.Violations.Violation.{HostTextViolation, PortViolation}
use Rattle.uv_model.proofs.Addresses.AddressUniqueness.{bracketed_bracket}
use Rattle.uv_model.proofs.Hosts.NumberLemmas.{ipv4_text_no_bracket, ipv4_text_not_empty}
use Rattle.uv_model.proofs.Violations.ViolationLemmas.{opaque_violation_within}
use Rattle.uv_model.proofs.Hosts.DomainLemmas.{domain_no_number, nothing_formed}
use Rattle.uv_model.proofs.Violations.UnitViolationLemmas.{no_violation-units}

-- ---- what a text with a form isn't

-- it isn't empty when it is written
written_not_empty : (profile : Profile) (form : List ℕ) → IsWrittenForm profile [] form → ⊥
unfolding parser_form has_ace_prefix
written_not_empty profile form is =
    let same : [] ≡ form = same_Some [] form is.parsed in
    false≢true (subst (λ (f : List ℕ). has_lengths f ≡ true) (sym same) is.lengths)

-- it isn't empty
pub form_not_empty : (profile : Profile) (form : List ℕ) → IsForm profile [] form → ⊥
form_not_empty Standard form is = written_not_empty Standard form is
form_not_empty Wide form is = written_not_empty Wide form is
form_not_empty Parser form is = nothing_formed form is.1

permitted_no_bracket : (profile : Profile) (c : ℕ) → IsWritten profile → is_permitted profile c ≡ true
    → (c == left_bracket) ≡ false
permitted_no_bracket Standard c written permitted = grind (arith, nat_tests)
permitted_no_bracket Wide c written permitted = grind (arith, nat_tests)
permitted_no_bracket Parser c written permitted = absurd written

-- it doesn't begin with `[` where it is written
written_no_bracket : (profile : Profile) (text form : List ℕ) → IsWritten profile → IsWrittenForm profile text form
    → starts_with_bracket text ≡ false
unfolding has_permitted
written_no_bracket profile [] form written is = refl
written_no_bracket profile (c ∷ rest) form written is =
    permitted_no_bracket profile c written
    (and_parts (is_permitted profile c) (list_all (is_permitted profile) rest) is.permitted).0

-- it doesn't begin with `[`
pub form_no_bracket : (profile : Profile) (text form : List ℕ) → IsForm profile text form
    → starts_with_bracket text ≡ false
form_no_bracket Standard text form is = written_no_bracket Standard text form tt is
form_no_bracket Wide text form is = written_no_bracket Wide text form tt is
form_no_bracket Parser text form is = is.0

-- ---- hosts of classes SpecialNotFile and File

-- a valid host isn't empty
pub host_not_empty : (profile : Profile) (text : List ℕ) (host : Host) → IsHostText profile text host → text ≢ []
host_not_empty profile text (Domain form) is nothing = form_not_empty profile form (rw nothing at is.0)
host_not_empty profile text (V4 value) is nothing = ipv4_text_not_empty profile value (rw nothing at is)
host_not_empty profile text (V6 pieces) is nothing =
    (let starts = bracketed_bracket text pieces is in false≢true (rw nothing at starts))
host_not_empty profile text (Opaque host) is nothing = is
host_not_empty profile text Empty is nothing = is

-- and its text, at which the parser doesn't stop, has no violation
pub host_text_faultless : (profile : Profile) (class : Class) (last : Bool) (text : List ℕ) (host : Host)
    → is_stopped profile class last text ≡ false → IsHostText profile text host
    → (rule : Rule) → HostTextViolation profile class last text rule → ⊥
host_text_faultless profile class last text host free is HostDomain (inl stopped) =
    false≢true (sym free ∙ stopped.stopped)
host_text_faultless profile class last text (Domain form) free is HostDomain (inr (should, none)) = none form is.0
host_text_faultless profile class last text (Domain form) free is HostNumber (unstopped, should, number) =
    domain_no_number profile text form is number
host_text_faultless profile class last text (Domain form) free is HostIpv6 bad =
    false≢true (sym (form_no_bracket profile text form is.0) ∙ bad.bracket)
host_text_faultless profile class last text (Domain form) free is _ h = h
host_text_faultless profile class last text (V4 value) free is HostDomain (inr (should, none)) =
    should.no_ipv4 value is
host_text_faultless profile class last text (V4 value) free is HostNumber (unstopped, should, number) =
    should.no_ipv4 value is
host_text_faultless profile class last text (V4 value) free is HostIpv6 bad =
    false≢true (sym (ipv4_text_no_bracket profile text value is) ∙ bad.bracket)
host_text_faultless profile class last text (V4 value) free is _ h = h
host_text_faultless profile class last text (V6 pieces) free is HostDomain (inr (should, none)) =
    false≢true (sym should.no_bracket ∙ bracketed_bracket text pieces is)
host_text_faultless profile class last text (V6 pieces) free is HostNumber (unstopped, should, number) =
    false≢true (sym should.no_bracket ∙ bracketed_bracket text pieces is)
host_text_faultless profile class last text (V6 pieces) free is HostIpv6 bad = bad.no_value pieces is
host_text_faultless profile class last text (V6 pieces) free is _ h = h
host_text_faultless profile class last text (Opaque host) free is rule h = is
host_text_faultless profile class last text Empty free is rule h = is

-- a valid host of a file URL is one of a URL of class SpecialNotFile
pub file_host_is_host : (profile : Profile) (text : List ℕ) (host : Host) → IsFileHostText profile text host
    → (other : Host) × IsHostText profile text other
file_host_is_host profile text (Domain form) is = (Domain form, is.0)
file_host_is_host profile text (V4 value) is = (V4 value, is)
file_host_is_host profile text (V6 pieces) is = (V6 pieces, is)
file_host_is_host profile text (Opaque host) is = absurd is
file_host_is_host profile text Empty is = (Domain (codes "localhost"), is)

-- the empty text has no violation but that it is missing
pub empty_host_faultless : (profile : Profile) (class : Class) (last : Bool) (rule : Rule)
    → HostTextViolation profile class last [] rule → ⊥
empty_host_faultless profile class last HostDomain (inl stopped) = stopped.some refl
empty_host_faultless profile class last HostDomain (inr (should, none)) = should.some refl
empty_host_faultless profile class last HostNumber (unstopped, should, number) = should.some refl
empty_host_faultless profile class last HostIpv6 bad = false≢true bad.bracket
empty_host_faultless profile class last _ h = h

-- ---- opaque hosts

-- an opaque host holds no forbidden host code point
permitted_at : (text rest : List ℕ) (place c : ℕ) → list_all (λ d. not (is_forbidden_host d)) text ≡ true
    → drop place text ≡ c ∷ rest → is_forbidden_host c ≡ false
permitted_at [] rest zero c each here = absurd cc
permitted_at [] rest (suc place) c each here = absurd cc
permitted_at (d ∷ text) rest zero c each here =
    let same : d ≡ c = cc in
    let parts = and_parts (not (is_forbidden_host d)) (list_all (λ x. not (is_forbidden_host x)) text) each in
    ap is_forbidden_host (sym same) ∙ not-true (is_forbidden_host d) parts.0
permitted_at (d ∷ text) rest (suc place) c each here =
    let parts = and_parts (not (is_forbidden_host d)) (list_all (λ x. not (is_forbidden_host x)) text) each in
    permitted_at text rest place c parts.1 here

-- it doesn't begin with `[`
pub opaque_no_bracket : (text : List ℕ) → IsOpaqueHost text → starts_with_bracket text ≡ false
opaque_no_bracket [] is = refl
opaque_no_bracket (c ∷ rest) is = elim (cases_Bool (c == left_bracket)) [
  | inl same ↦
      let here : is_forbidden_host c ≡ false = permitted_at (c ∷ rest) rest 0 c is.permitted refl in
      absurd (true≢false (ap is_forbidden_host (sym (eqb-true c left_bracket same)) ∙ here))
  | inr other ↦ other
]

-- an opaque host has no violation
opaque_faultless : (text : List ℕ) → IsOpaqueHost text → (place : ℕ) (rule : Rule)
    → OpaqueHostViolation text place rule → ⊥
opaque_faultless text is place HostIpv6 h = false≢true (sym (opaque_no_bracket text is) ∙ h.0.bracket)
opaque_faultless text is place HostCodePoint (start, at) = elim at.foreign [
  | inl forbidden ↦ false≢true (sym (permitted_at text at.rest place at.code_point is.permitted at.here) ∙ forbidden)
  | inr (foreign, other) ↦
      no_violation-units text is.units place CodePoint
      (record { code_point = at.code_point; rest = at.rest; here = at.here; foreign = foreign; no_escape = other })
]
opaque_faultless text is place Percent (start, at) = no_violation-units text is.units place Percent at
opaque_faultless text is place _ h = h

-- nor has an IPv6 text in brackets
bracketed_faultless : (text pieces : List ℕ) → IsBracketedIpv6 text pieces → (place : ℕ) (rule : Rule)
    → OpaqueHostViolation text place rule → ⊥
bracketed_faultless text pieces is place HostIpv6 h = h.0.no_value pieces is
bracketed_faultless text pieces is place HostCodePoint h = false≢true (sym h.0 ∙ bracketed_bracket text pieces is)
bracketed_faultless text pieces is place Percent h = false≢true (sym h.0 ∙ bracketed_bracket text pieces is)
bracketed_faultless text pieces is place _ h = h

-- a valid opaque-host string has no violation
pub opaque_host_faultless : (text : List ℕ) (host : Option Host) → IsOpaqueHostText text host
    → (place : ℕ) (rule : Rule)
    → OpaqueHostViolation text place rule → ⊥
opaque_host_faultless text None is place rule h = opaque_faultless text is place rule h
opaque_host_faultless text (Some (Domain form)) is place rule h = is
opaque_host_faultless text (Some (V4 value)) is place rule h = is
opaque_host_faultless text (Some (V6 pieces)) is place rule h = bracketed_faultless text pieces is place rule h
opaque_host_faultless text (Some (Opaque host)) is place rule h = is
opaque_host_faultless text (Some Empty) is place rule h = is

-- the empty text has no violation
pub empty_opaque_faultless : (place : ℕ) (rule : Rule) → OpaqueHostViolation [] place rule → ⊥
empty_opaque_faultless place rule h = (let within = opaque_violation_within [] place rule h in omega arith)

-- ---- ports

-- at each place of digits is a digit
digit_at : (text rest : List ℕ) (place c : ℕ) → list_all is_ascii_digit text ≡ true → drop place text ≡ c ∷ rest
    → is_ascii_digit c ≡ true
digit_at [] rest zero c each here = absurd cc
digit_at [] rest (suc place) c each here = absurd cc
digit_at (d ∷ text) rest zero c each here =
    let same : d ≡ c = cc in
    ap is_ascii_digit (sym same) ∙ (and_parts (is_ascii_digit d) (list_all is_ascii_digit text) each).0
digit_at (d ∷ text) rest (suc place) c each here =
    digit_at text rest place c (and_parts (is_ascii_digit d) (list_all is_ascii_digit text) each).1 here

-- a valid port has no violation
pub port_faultless : (text : List ℕ) → IsPortText text → (place : ℕ) (rule : Rule) → PortViolation text place rule → ⊥
port_faultless text is place PortDigit h =
    false≢true (sym h.foreign ∙ digit_at text h.rest place h.code_point is.digits h.here)
port_faultless text is place PortRange h = (let large = h.0.large in let range = is.range in omega arith)
port_faultless text is place _ h = h
