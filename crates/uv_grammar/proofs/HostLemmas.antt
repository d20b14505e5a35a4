-- Lemmas on the violations and the values of hosts.
use Rattle.std.proofs.Common.{◌≡◌, ◌≢◌, ℕ, List, [], ◌∷◌, Bool, true, false, refl, sym, ap, ◌∙◌, inl, inr, arith}
use Rattle.std.proofs.Common.{Option, Some, None, eqb-true}
use Rattle.std.proofs.Math.Nat.{le_refl}
use Rattle.std.specs.Prelude.{◌==◌, ◌↔◌, ◌⊎◌, IsTrue, length, not}
use Rattle.std.specs.Str.{chars, IsUtf8}
use Rattle.std.proofs.lemmas.Str.{chars-nil, encodes-chars}
use Rattle.std.proofs.Math.Utf8.{encodes}
use Rattle.std.proofs.lemmas.Bool.{cases_Bool, false≢true, ne_eqb}
use Rattle.uv_model.specs.declared.profile.Profile.{Profile}
use Rattle.uv_model.specs.declared.profile.Profile.TheVariants.{Standard, Wide, Parser}
use Rattle.uv_model.specs.declared.rule.Rule.{Rule}
use Rattle.uv_model.specs.declared.rule.Rule.TheVariants.{HostMissing, HostDomain, HostNumber, HostIpv6, HostCodePoint}
use Rattle.uv_model.specs.declared.rule.Rule.TheVariants.{Percent}
use Rattle.uv_model.specs.declared.scheme.Class.{Class}
use Rattle.uv_model.specs.declared.scheme.Class.TheVariants.{SpecialNotFile, File, Other}
use Rattle.uv_host.specs.OpaqueHosts.{IsOpaqueHostOrEmpty}
use Rattle.uv_model.specs.Hosts.Address.{IsBracketedIpv6}
use Rattle.uv_model.specs.Violations.Violation.{HostContentViolation, HostViolation, HostTextViolation}
use Rattle.uv_model.specs.Violations.Violation.{LacksHost}
use Rattle.uv_model.specs.Hosts.OpaqueHost.{starts_with_bracket}
use Rattle.uv_model.specs.Hosts.Domain.{HasNoForm, IsNumberText, has_permitted}
use Rattle.uv_model.specs.Hosts.Numbers.{IsIpv4Text}
use Rattle.uv_model.specs.Hosts.StoppedHost.{is_stopped}
use Rattle.uv_model.specs.Ascii.{percent_sign}
use Rattle.uv_model.specs.Hosts.OpaqueHost.{IsOpaqueHost}
use Rattle.uv_model.specs.Violations.Refusal.{IsLeast}
use Rattle.uv_model.specs.Violations.Rule.{rule_number}
use Rattle.uv_model.specs.Valid.{without_localhost}
use Rattle.uv_model.proofs.Hosts.FileHosts.{file_host_fits}
use Rattle.uv_model.proofs.Violations.FaultlessHosts.{empty_host_faultless, host_text_faultless}
use Rattle.uv_model.proofs.Violations.RefusalLemmas.{IsLeast-like}
use Rattle.uv_grammar.specs.declared.checked.Checked.{Checked}
use Rattle.uv_grammar.specs.declared.checked.Checked.TheVariants.{Valid, Refused}
use Rattle.uv_grammar.specs.declared.parts_host.PartsHost.{PartsHost}
use Rattle.uv_grammar.specs.PartsHost.{FitsPartsHost, IsPartsHostText, IsUnstoppedHostText, as_host}
use Rattle.uv_grammar.specs.HostValues.{AtStart, FitsHost, FitsSomeHost, NameViolation}
use Rattle.uv_grammar.specs.Checked.{IsChecked}
use Rattle.uv_grammar.specs.NoMemory.{HostTakesNoMemory, IsPlainDomain, MakesNoForm}
use Rattle.uv_host.specs.Domains.{is_plain_name}
use Rattle.uv_model.specs.Hosts.Address.{IsIpv4}
use Rattle.uv_model.specs.Violations.Violation.{ShouldBeDomain}
use Rattle.uv_model.specs.WrittenProfiles.{IsWritten}
use Rattle.uv_model.proofs.Violations.UnitViolationLemmas.{nothing_at}
use Rattle.uv_model.proofs.Violations.ViolationsExcludeParts.{host_there}

-- ---- the empty host

-- the parser never stops at a host of class Other
other_not_stopped : (profile : Profile) (text : List ℕ) → is_stopped profile Other false text ≡ false
other_not_stopped Standard text = refl
other_not_stopped Wide text = refl
other_not_stopped Parser text = refl

-- an empty text violates no rule by what it holds
pub empty_content_fits : (profile : Profile) (class : Class) (last : Bool) (place : ℕ) (rule : Rule)
    → HostContentViolation profile class last [] place rule → ⊥
empty_content_fits profile SpecialNotFile last place rule h = empty_host_faultless profile SpecialNotFile last rule h.0
empty_content_fits profile File last place rule h = empty_host_faultless profile File last rule h.0
empty_content_fits profile Other last place HostIpv6 h = false≢true h.0.bracket
empty_content_fits profile Other last place HostCodePoint h = nothing_at place h.1.code_point h.1.rest h.1.here
empty_content_fits profile Other last place Percent h = nothing_at place percent_sign h.1.rest h.1.here
empty_content_fits profile Other last place _ h = absurd h

-- an empty host violates the rule of a missing one
pub empty_rule : (profile : Profile) (class : Class) (last : Bool) (port_text : Option (List ℕ)) (path_text : List ℕ)
    (place : ℕ) (rule : Rule)
    → HostViolation profile class last [] port_text path_text place rule
    → (rule ≡ HostMissing) × LacksHost profile class [] port_text path_text × (place ≡ 0)
empty_rule profile class last port_text path_text place HostMissing h = (refl, h.0, h.1)
empty_rule profile class last port_text path_text place rule h =
    absurd (empty_content_fits profile class last place rule h)

-- ---- a host that isn't empty

-- what it holds violates no rule of a missing host
content_not_missing : (profile : Profile) (class : Class) (last : Bool) (text : List ℕ) (place : ℕ)
    → HostContentViolation profile class last text place HostMissing → ⊥
content_not_missing profile SpecialNotFile last text place h = h.0
content_not_missing profile File last text place h = h.0
content_not_missing profile Other last text place h = h

lacks_nothing : (profile : Profile) (class : Class) (text : List ℕ) (port_text : Option (List ℕ)) (path_text : List ℕ)
    → text ≢ [] → LacksHost profile class text port_text path_text → ⊥
lacks_nothing profile SpecialNotFile text port_text path_text some h = some h
lacks_nothing profile File text port_text path_text some h = host_there profile text path_text some h
lacks_nothing profile Other text port_text path_text some h = some h.0

-- a violation of what a host holds is one of the host
pub content_to_host : (profile : Profile) (class : Class) (last : Bool) (text : List ℕ)
    (port_text : Option (List ℕ)) (path_text : List ℕ) (place : ℕ) (rule : Rule)
    → HostContentViolation profile class last text place rule
    → HostViolation profile class last text port_text path_text place rule
content_to_host profile class last text port_text path_text place HostMissing h =
    absurd (content_not_missing profile class last text place h)
content_to_host profile class last text port_text path_text place _ h = h

-- and a violation of a host that isn't empty is one of what it holds
pub content_from_host : (profile : Profile) (class : Class) (last : Bool) (text : List ℕ)
    (port_text : Option (List ℕ)) (path_text : List ℕ)
    → text ≢ []
    → (place : ℕ) (rule : Rule)
    → HostViolation profile class last text port_text path_text place rule
    → HostContentViolation profile class last text place rule
content_from_host profile class last text port_text path_text some place HostMissing h =
    absurd (lacks_nothing profile class text port_text path_text some h.0)
content_from_host profile class last text port_text path_text some place _ h = h

-- the answer on what a host holds is the answer on the host
pub content_answer : (profile : Profile) (class : Class) (last : Bool) (text : List ℕ) (port_text : Option (List ℕ))
    (path_text : List ℕ)
    → text ≢ []
    → (answer : Checked (Option PartsHost)) → IsChecked (FitsPartsHost (FitsSomeHost profile class last text))
    (HostContentViolation profile class last text) answer
    → IsChecked (FitsPartsHost (FitsHost profile class last text port_text path_text))
    (HostViolation profile class last text port_text path_text) answer
content_answer profile class last text port_text path_text some (Valid host) is = (
  inl (some, is.0),
  IsLeast-like (HostContentViolation profile class last text)
      (HostViolation profile class last text port_text path_text)
      (content_to_host profile class last text port_text path_text)
      (content_from_host profile class last text port_text path_text some) None is.1,
)
content_answer profile class last text port_text path_text some (Refused refusal) is =
    IsLeast-like (HostContentViolation profile class last text)
    (HostViolation profile class last text port_text path_text)
    (content_to_host profile class last text port_text path_text)
    (content_from_host profile class last text port_text path_text some) (Some refusal) is

-- ---- the host strings of special and file URLs

-- a host string has one fault
pub one_rule : (profile : Profile) (class : Class) (last : Bool) (text : List ℕ) (rule other : Rule)
    → HostTextViolation profile class last text rule → HostTextViolation profile class last text other → rule ≡ other
one_rule profile class last text HostDomain HostDomain h k = refl
one_rule profile class last text HostNumber HostNumber h k = refl
one_rule profile class last text HostIpv6 HostIpv6 h k = refl
one_rule profile class last text HostDomain HostNumber (inl stopped) (free, should, number) =
    absurd (false≢true (sym free ∙ stopped.stopped))
one_rule profile class last text HostDomain HostNumber (inr (other, none)) (free, should, number) =
    absurd (none number.0 number.1)
one_rule profile class last text HostNumber HostDomain (free, should, number) (inl stopped) =
    absurd (false≢true (sym free ∙ stopped.stopped))
one_rule profile class last text HostNumber HostDomain (free, should, number) (inr (other, none)) =
    absurd (none number.0 number.1)
one_rule profile class last text HostDomain HostIpv6 (inl stopped) k =
    absurd (false≢true (sym stopped.no_bracket ∙ k.bracket))
one_rule profile class last text HostDomain HostIpv6 (inr (should, none)) k =
    absurd (false≢true (sym should.no_bracket ∙ k.bracket))
one_rule profile class last text HostNumber HostIpv6 (free, should, number) k =
    absurd (false≢true (sym should.no_bracket ∙ k.bracket))
one_rule profile class last text HostIpv6 HostDomain h (inl stopped) =
    absurd (false≢true (sym stopped.no_bracket ∙ h.bracket))
one_rule profile class last text HostIpv6 HostDomain h (inr (should, none)) =
    absurd (false≢true (sym should.no_bracket ∙ h.bracket))
one_rule profile class last text HostIpv6 HostNumber h (free, should, number) =
    absurd (false≢true (sym should.no_bracket ∙ h.bracket))
one_rule profile class last text HostDomain _ h k = absurd k
one_rule profile class last text HostNumber _ h k = absurd k
one_rule profile class last text HostIpv6 _ h k = absurd k
one_rule profile class last text _ other h k = absurd h

-- a violation at the start, of which there is one, is the least
least_at_start : (violation : Rule → Type 0) (rule : Rule) → ((other : Rule) → violation other → rule ≡ other)
    → violation rule → IsLeast (AtStart violation) (Some (record { place = 0; rule = rule }))
least_at_start violation rule only h = record {
  stands = (h, refl);
  first = λ place other k. omega arith;
  lowest = λ other k. let e = only other k.0 in rw e (le_refl (rule_number other));
}

-- the least violation of a host string that isn't valid
pub fault_least : (profile : Profile) (class : Class) (last : Bool) (text : List ℕ) (rule : Rule)
    → HostTextViolation profile class last text rule
    → IsLeast (AtStart (HostTextViolation profile class last text)) (Some (record { place = 0; rule = rule }))
fault_least profile class last text rule h =
    least_at_start (HostTextViolation profile class last text) rule
    (λ other k. one_rule profile class last text rule other h k) h

-- ---- names

-- a name has one fault
one_name_rule : (profile : Profile) (text : List ℕ) (rule other : Rule) → NameViolation profile text rule
    → NameViolation profile text other → rule ≡ other
one_name_rule profile text HostDomain HostDomain h k = refl
one_name_rule profile text HostNumber HostNumber h k = refl
one_name_rule profile text HostDomain HostNumber h k = absurd (h.1 k.1.0 k.1.1)
one_name_rule profile text HostNumber HostDomain h k = absurd (k.1 h.1.0 h.1.1)
one_name_rule profile text HostDomain _ h k = absurd k
one_name_rule profile text HostNumber _ h k = absurd k
one_name_rule profile text _ other h k = absurd h

-- the least violation of a name that isn't valid
pub name_fault_least : (profile : Profile) (text : List ℕ) (rule : Rule) → NameViolation profile text rule
    → IsLeast (AtStart (NameViolation profile text)) (Some (record { place = 0; rule = rule }))
name_fault_least profile text rule h =
    least_at_start (NameViolation profile text) rule (λ other k. one_name_rule profile text rule other h k) h

-- a valid host string violates no rule of a name
pub name_answer : (profile : Profile) (text : List ℕ) (host : PartsHost) → IsPartsHostText profile text host
    → IsChecked (IsPartsHostText profile text) (AtStart (NameViolation profile text)) (Valid host)
name_answer profile text host is = (is, λ place rule h. none rule h.0)
  where
    none : (rule : Rule) → NameViolation profile text rule → ⊥
    none HostDomain h =
        host_text_faultless profile Other false text (as_host host) (other_not_stopped profile text) is HostDomain
        (inr h)
    none HostNumber h =
        host_text_faultless profile Other false text (as_host host) (other_not_stopped profile text) is HostNumber
        (other_not_stopped profile text, h.0, h.1)
    none _ h = h

-- a text whose form under the parser's profile ends in a number and isn't an address
pub number_violation : (text : List ℕ) → text ≢ [] → starts_with_bracket text ≡ false
    → IsNumberText Parser text × ((value : ℕ) → ¬ (IsIpv4Text Parser text value))
    → NameViolation Parser text HostNumber
number_violation text some plain (number, none) =
    (record { some = some; no_bracket = plain; no_ipv4 = none }, number)

-- a text without a form under the parser's profile
pub parser_no_form : (text : List ℕ) → text ≢ [] → starts_with_bracket text ≡ false → HasNoForm Parser text
    → NameViolation Parser text HostDomain
parser_no_form text some plain none =
    (record { some = some; no_bracket = plain; no_ipv4 = λ value is. none is.0 is.1 }, none)

-- ---- answers on host strings

-- the answer on a valid host string at which the parser doesn't stop
pub text_answer : (profile : Profile) (class : Class) (last : Bool) (text : List ℕ) (host : PartsHost)
    → is_stopped profile class last text ≡ false → IsPartsHostText profile text host
    → IsChecked (IsUnstoppedHostText profile class last text) (AtStart (HostTextViolation profile class last text))
    (Valid host)
text_answer profile class last text host free is =
    ((free, is), λ place rule h. host_text_faultless profile class last text (as_host host) free is rule h.0)

-- the answer of a file URL
pub file_answer : (profile : Profile) (last : Bool) (text : List ℕ) (host file_host : PartsHost)
    → IsUnstoppedHostText profile File last text host
    → as_host file_host ≡ without_localhost (as_host host)
    → IsChecked (FitsPartsHost (FitsSomeHost profile File last text)) (HostContentViolation profile File last text)
    (Valid (Some file_host))
file_answer profile last text host file_host is same = (
  rw same (is.0, file_host_fits profile text (as_host host) is.1),
  λ place rule h. host_text_faultless profile File last text (as_host host) is.0 is.1 rule h.0,
)

-- a host that is neither empty nor in brackets
pub opaque_answer : (text : List ℕ) → text ≢ [] → IsOpaqueHostOrEmpty text
    → ((pieces : List ℕ) → ¬ (IsBracketedIpv6 text pieces))
    → IsOpaqueHost text
opaque_answer text some (inl empty) none = absurd (some empty)
opaque_answer text some (inr (inl (pieces, is))) none = absurd (none pieces is)
opaque_answer text some (inr (inr is)) none = is

-- ---- texts of slices

-- an empty slice has no code points
pub no_chars : (bytes : List ℕ) → (length bytes == 0) ≡ true → chars bytes ≡ []
no_chars [] is = chars-nil
no_chars (b ∷ bytes) is = absurd (omega (arith, eqb-true (length (b ∷ bytes)) 0 is))

-- a slice that isn't empty has code points
pub some_chars : (bytes : List ℕ) → IsUtf8 bytes → (length bytes == 0) ≡ false → chars bytes ≢ []
some_chars [] utf8 is none = false≢true (sym is)
some_chars (b ∷ bytes) utf8 is none =
    let same : [] ≡ b ∷ bytes = ap encodes (sym none) ∙ encodes-chars (b ∷ bytes) utf8 in
    cc

-- a slice is empty exactly when it has no code points
pub empty_same : (bytes : List ℕ) → IsUtf8 bytes → (length bytes == 0) ≡ (length (chars bytes) == 0)
empty_same bytes utf8 = elim (cases_Bool (length bytes == 0)) [
  | inl none ↦ none ∙ rw (no_chars bytes none) refl
  | inr some ↦ some ∙ sym (not_nothing (chars bytes) (some_chars bytes utf8 some))
]
  where
    not_nothing : (text : List ℕ) → text ≢ [] → (length text == 0) ≡ false
    not_nothing [] some = absurd (some refl)
    not_nothing (c ∷ rest) some = ne_eqb (length (c ∷ rest)) 0 (λ same. omega (arith, same))

-- a slice has code points exactly when it isn't empty
pub some_iff : (bytes : List ℕ) (is_empty : Bool) → IsUtf8 bytes → is_empty ≡ (length bytes == 0)
    → IsTrue (not is_empty) ↔ (chars bytes ≢ [])
some_iff bytes true utf8 is = (λ other. absurd (false≢true other), λ some. absurd (some (no_chars bytes (sym is))))
some_iff bytes false utf8 is = (λ other. some_chars bytes utf8 (sym is), λ some. refl)

-- ---- memory

-- a name that isn't an IPv4 text makes no form if no domain of a written profile holds it, or where it is plain
pub written_no_form : (profile : Profile) (text : List ℕ) → IsWritten profile → ShouldBeDomain profile text
    → MakesNoForm profile text → (has_permitted profile text ≡ false) ⊎ (is_plain_name text ≡ true)
written_no_form Standard text written should (inl bracket) = absurd (false≢true (sym should.no_bracket ∙ bracket))
written_no_form Standard text written should (inr (inl (value, is))) = absurd (should.no_ipv4 value is)
written_no_form Standard text written should (inr (inr h)) = h
written_no_form Wide text written should (inl bracket) = absurd (false≢true (sym should.no_bracket ∙ bracket))
written_no_form Wide text written should (inr (inl (value, is))) = absurd (should.no_ipv4 value is)
written_no_form Wide text written should (inr (inr h)) = h
written_no_form Parser text written should h = absurd written

-- and under the parser's profile where it is a plain domain
pub parser_plain_domain : (text : List ℕ) → starts_with_bracket text ≡ false
    → ((value : ℕ) → ¬ (IsIpv4 text value)) → MakesNoForm Parser text → IsPlainDomain text
parser_plain_domain text plain none (inl bracket) = absurd (false≢true (sym plain ∙ bracket))
parser_plain_domain text plain none (inr (inl (value, is))) = absurd (none value is)
parser_plain_domain text plain none (inr (inr h)) = h

-- a host that isn't empty, in a class other than Other, takes no memory if no form is made of it
pub makes_no_form : (profile : Profile) (class : Class) (text : List ℕ) → class ≢ Other → text ≢ []
    → HostTakesNoMemory profile class text → MakesNoForm profile text
makes_no_form profile class text special some (inl other) = absurd (special other)
makes_no_form profile class text special some (inr (inl empty)) = absurd (some empty)
makes_no_form profile class text special some (inr (inr none)) = none
