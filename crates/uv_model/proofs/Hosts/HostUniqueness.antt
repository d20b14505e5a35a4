-- A host text has one host at most, by the class of the URL.
use Rattle.std.proofs.Common.{◌≡◌, ◌≢◌, ℕ, false, List, [], Option, Some, None, refl, sym, ap, ◌∙◌, inl, inr, ◌⊎◌}
use Rattle.std.proofs.lemmas.Bool.{true≢false}
use Rattle.uv_model.specs.declared.profile.Profile.{Profile}
use Rattle.uv_model.specs.declared.profile.Profile.TheVariants.{Standard}
use Rattle.uv_model.specs.declared.scheme.Class.{Class}
use Rattle.uv_model.specs.declared.scheme.Class.TheVariants.{SpecialNotFile, File, Other}
use Rattle.uv_model.specs.declared.host.Host.{Host}
use Rattle.uv_model.specs.declared.host.Host.TheVariants.{Domain, V4, V6, Opaque, Empty}
use Rattle.uv_model.specs.Hosts.Address.{IsBracketedIpv6}
use Rattle.uv_model.specs.Hosts.OpaqueHost.{starts_with_bracket}
use Rattle.uv_model.specs.Valid.{IsHostText, IsFileHostText, IsOpaqueHostText}
use Rattle.uv_model.proofs.Addresses.AddressUniqueness.{bracketed_bracket, bracketed_unique}
use Rattle.uv_model.proofs.Hosts.NumberLemmas.{ipv4_text_no_bracket, ipv4_text_unique}
use Rattle.uv_model.proofs.Hosts.DomainLemmas.{domain_unique}
use Rattle.uv_model.proofs.Violations.FaultlessHosts.{form_no_bracket, host_not_empty, file_host_is_host}
use Rattle.uv_model.proofs.Violations.FaultlessHosts.{opaque_no_bracket}
use Rattle.uv_model.proofs.Hosts.Ipv4Domains.{ipv4_no_domain}

-- ---- by the kind of host

-- a text in brackets isn't one without them
not_bracketed : (text pieces : List ℕ) → starts_with_bracket text ≡ false → ¬ (IsBracketedIpv6 text pieces)
not_bracketed text pieces none is = true≢false (sym (bracketed_bracket text pieces is) ∙ none)

-- a host text of a special URL has one value
host_unique : (profile : Profile) (text : List ℕ) (value other : Host) → IsHostText profile text value
    → IsHostText profile text other → value ≡ other
host_unique profile text (Domain a) (Domain b) is is' = ap Domain (domain_unique profile text a b is is')
host_unique profile text (V4 a) (V4 b) is is' = ap V4 (ipv4_text_unique profile text a b is is')
host_unique profile text (V6 a) (V6 b) is is' = ap V6 (bracketed_unique text a b is is')
host_unique profile text (Domain a) (V4 b) is is' = absurd (ipv4_no_domain profile text a b is' is)
host_unique profile text (V4 a) (Domain b) is is' = absurd (ipv4_no_domain profile text b a is is')
host_unique profile text (Domain a) (V6 b) is is' =
    absurd (not_bracketed text b (form_no_bracket profile text a is.0) is')
host_unique profile text (V6 a) (Domain b) is is' =
    absurd (not_bracketed text a (form_no_bracket profile text b is'.0) is)
host_unique profile text (V4 a) (V6 b) is is' =
    absurd (not_bracketed text b (ipv4_text_no_bracket profile text a is) is')
host_unique profile text (V6 a) (V4 b) is is' =
    absurd (not_bracketed text a (ipv4_text_no_bracket profile text b is') is)
host_unique profile text (Opaque a) other is is' = absurd is
host_unique profile text Empty other is is' = absurd is
host_unique profile text value (Opaque b) is is' = absurd is'
host_unique profile text value Empty is is' = absurd is'

-- a host text of a file URL has one value
file_host_unique : (profile : Profile) (text : List ℕ) (value other : Host) → IsFileHostText profile text value
    → IsFileHostText profile text other → value ≡ other
file_host_unique profile text (Domain a) (Domain b) is is' = ap Domain (domain_unique profile text a b is.0 is'.0)
file_host_unique profile text (V4 a) (V4 b) is is' = host_unique profile text (V4 a) (V4 b) is is'
file_host_unique profile text (V6 a) (V6 b) is is' = host_unique profile text (V6 a) (V6 b) is is'
file_host_unique profile text (Domain a) (V4 b) is is' = host_unique profile text (Domain a) (V4 b) is.0 is'
file_host_unique profile text (V4 a) (Domain b) is is' = host_unique profile text (V4 a) (Domain b) is is'.0
file_host_unique profile text (Domain a) (V6 b) is is' = host_unique profile text (Domain a) (V6 b) is.0 is'
file_host_unique profile text (V6 a) (Domain b) is is' = host_unique profile text (V6 a) (Domain b) is is'.0
file_host_unique profile text (V4 a) (V6 b) is is' = host_unique profile text (V4 a) (V6 b) is is'
file_host_unique profile text (V6 a) (V4 b) is is' = host_unique profile text (V6 a) (V4 b) is is'
file_host_unique profile text Empty Empty is is' = refl
file_host_unique profile text Empty (Domain b) is is' = absurd (is'.1 (sym (domain_unique profile text _ b is is'.0)))
file_host_unique profile text (Domain a) Empty is is' = absurd (is.1 (domain_unique profile text a _ is.0 is'))
file_host_unique profile text Empty (V4 b) is is' = absurd (ipv4_no_domain profile text _ b is' is)
file_host_unique profile text (V4 a) Empty is is' = absurd (ipv4_no_domain profile text _ a is is')
file_host_unique profile text Empty (V6 b) is is' =
    absurd (not_bracketed text b (form_no_bracket profile text _ is.0) is')
file_host_unique profile text (V6 a) Empty is is' =
    absurd (not_bracketed text a (form_no_bracket profile text _ is'.0) is)
file_host_unique profile text (Opaque a) other is is' = absurd is
file_host_unique profile text value (Opaque b) is is' = absurd is'

-- an opaque host has one value, or none
opaque_unique : (text : List ℕ) (value other : Option Host) → IsOpaqueHostText text value → IsOpaqueHostText text other
    → value ≡ other
opaque_unique text None None is is' = refl
opaque_unique text (Some (V6 a)) (Some (V6 b)) is is' = ap (λ x. Some (V6 x)) (bracketed_unique text a b is is')
opaque_unique text None (Some (V6 b)) is is' = absurd (not_bracketed text b (opaque_no_bracket text is) is')
opaque_unique text (Some (V6 a)) None is is' = absurd (not_bracketed text a (opaque_no_bracket text is') is)
opaque_unique text (Some (Domain a)) other is is' = absurd is
opaque_unique text (Some (V4 a)) other is is' = absurd is
opaque_unique text (Some (Opaque a)) other is is' = absurd is
opaque_unique text (Some Empty) other is is' = absurd is
opaque_unique text value (Some (Domain b)) is is' = absurd is'
opaque_unique text value (Some (V4 b)) is is' = absurd is'
opaque_unique text value (Some (Opaque b)) is is' = absurd is'
opaque_unique text value (Some Empty) is is' = absurd is'

-- the empty text isn't a host of a file URL
file_host_not_empty : (profile : Profile) (text : List ℕ) (value : Host) → IsFileHostText profile text value
    → text ≢ []
file_host_not_empty profile text value is =
    let (other, host) = file_host_is_host profile text value is in
    host_not_empty profile text other host

-- nor an opaque host
pub opaque_not_empty : (text : List ℕ) (host : Option Host) → IsOpaqueHostText text host → text ≢ []
opaque_not_empty text None is nothing = (let some = is.some in absurd cc)
opaque_not_empty text (Some (V6 pieces)) is nothing = host_not_empty Standard text (V6 pieces) is nothing
opaque_not_empty text (Some (Domain form)) is nothing = is
opaque_not_empty text (Some (V4 value)) is nothing = is
opaque_not_empty text (Some (Opaque host)) is nothing = is
opaque_not_empty text (Some Empty) is nothing = is

-- ---- by the class

-- the host of a host text by the class
abbrev pub HasHost : Profile → Class → Option (List ℕ) → Option Host → Type 0
HasHost profile class None host = host ≡ None
HasHost profile SpecialNotFile (Some text) host = (value : Host) × IsHostText profile text value × (host ≡ Some value)
HasHost profile File (Some text) host =
    ((value : Host) × IsFileHostText profile text value × (host ≡ Some value)) ⊎ ((text ≡ []) × (host ≡ Some Empty))
HasHost profile Other (Some text) host = IsOpaqueHostText text host ⊎ ((text ≡ []) × (host ≡ Some Empty))

-- a host text has one host
pub one_host : (profile : Profile) (class : Class) (text : Option (List ℕ)) (host other : Option Host)
    → HasHost profile class text host → HasHost profile class text other → host ≡ other
one_host profile class None host other is is' = is ∙ sym is'
one_host profile SpecialNotFile (Some text) host other (a, is, e) (b, is', e') =
    e ∙ ap Some (host_unique profile text a b is is') ∙ sym e'
one_host profile File (Some text) host other (inl (a, is, e)) (inl (b, is', e')) =
    e ∙ ap Some (file_host_unique profile text a b is is') ∙ sym e'
one_host profile File (Some text) host other (inl (a, is, e)) (inr (nothing, e')) =
    absurd (file_host_not_empty profile text a is nothing)
one_host profile File (Some text) host other (inr (nothing, e)) (inl (b, is', e')) =
    absurd (file_host_not_empty profile text b is' nothing)
one_host profile File (Some text) host other (inr (nothing, e)) (inr (nothing', e')) = e ∙ sym e'
one_host profile Other (Some text) host other (inl is) (inl is') = opaque_unique text host other is is'
one_host profile Other (Some text) host other (inl is) (inr (nothing, e')) =
    absurd (opaque_not_empty text host is nothing)
one_host profile Other (Some text) host other (inr (nothing, e)) (inl is') =
    absurd (opaque_not_empty text other is' nothing)
one_host profile Other (Some text) host other (inr (nothing, e)) (inr (nothing', e')) = e ∙ sym e'
