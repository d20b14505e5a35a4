-- Authorities: the host, the port and the path that are after `//` in a valid text make a well-formed record.
use Rattle.std.proofs.Common.{◌≡◌, ℕ, true, false, List, [], ◌∷◌, Option, Some, None, refl, sym, ap, subst, ◌∙◌, inl}
use Rattle.std.proofs.Common.{inr, arith}
use Rattle.std.specs.Str.Parse.{digits_value}
use Rattle.std.proofs.lemmas.Bool.{cases_Bool}
use Rattle.uv_model.specs.declared.profile.Profile.{Profile}
use Rattle.uv_model.specs.declared.scheme.Class.{Class}
use Rattle.uv_model.specs.declared.scheme.Class.TheVariants.{SpecialNotFile, File, Other}
use Rattle.uv_model.specs.declared.host.Host.{Host}
use Rattle.uv_model.specs.declared.host.Host.TheVariants.{Domain, V4, V6, Opaque, Empty}
use Rattle.uv_model.specs.declared.path.UrlPath.TheVariants.{Segments}
use Rattle.uv_model.specs.Records.Denote.{authority_host, authority_path}
use Rattle.uv_model.specs.Encoding.{encoded}
use Rattle.uv_model.specs.Parts.{Parts}
use Rattle.uv_model.specs.Path.{MayBePathSlashed, AreSegments, JoinsTo, walk}
use Rattle.uv_model.specs.Scheme.{default_port, scheme_class}
use Rattle.uv_model.specs.Setting.{Setting}
use Rattle.uv_model.specs.Valid.{FitsAuthority, IsFileHostText, IsHostText, IsOpaqueHostText, MayBePortText}
use Rattle.uv_model.specs.Valid.{is_default_port, port_given}
use Rattle.uv_model.specs.Records.WellFormed.{AreUrlSegments, IsOtherHost, IsUrlHost, IsUrlPath, IsUrlPort, takes_port}
use Rattle.uv_model.proofs.Addresses.AddressSizes.{bracketed_small}
use Rattle.uv_model.proofs.Hosts.NumberLemmas.{ipv4_text_small}
use Rattle.uv_model.proofs.Paths.SlashedPaths.{alone_or_none, slashed_or_none}
use Rattle.uv_model.proofs.Paths.WalkLemmas.{AreUrlSegments-walk, HasSegment, HasSegment-walk}
use Rattle.uv_model.proofs.Records.WellFormedLemmas.{IsUrlDomain-form, IsUrlOpaqueHost-encoded, IsUrlSegment-nil}

-- ---- ports

-- the port that a text gives after a host
pub IsUrlPort-given : (scheme : List ℕ) (host : Option Host) (port_text : Option (List ℕ)) → MayBePortText port_text
    → takes_port (scheme_class scheme) host ≡ true → IsUrlPort scheme host (port_given (default_port scheme) port_text)
IsUrlPort-given scheme host None is takes = tt
IsUrlPort-given scheme host (Some []) is takes = tt
IsUrlPort-given scheme host (Some (digit ∷ rest)) is takes =
    elim (cases_Bool (is_default_port scheme (digits_value 10 (digit ∷ rest)))) [
      | inl default ↦ rw default tt
      | inr other ↦ rw other (takes, other, omega (arith, is.range))
    ]

-- ---- paths

-- a path with a segment
pub IsUrlPath-some : (profile : Profile) (class : Class) (host : Option Host) (list : List (List ℕ)) → HasSegment list
    → AreUrlSegments list → IsUrlPath profile class host (Segments list)
IsUrlPath-some profile class host [] has are = absurd cc
IsUrlPath-some profile class host (segment ∷ rest) has are = are

-- the path that a walk over a segment or more leaves
pub IsUrlPath-walk : (profile : Profile) (class : Class) (host : Option Host) (start : List (List ℕ))
    (segment : List ℕ) → (rest : List (List ℕ))
    → AreUrlSegments start → AreSegments (segment ∷ rest)
    → IsUrlPath profile class host (Segments (walk class start (segment ∷ rest)))
IsUrlPath-walk profile class host start segment rest are each =
    IsUrlPath-some profile class host (walk class start (segment ∷ rest)) (HasSegment-walk class start segment rest)
    (AreUrlSegments-walk class start (segment ∷ rest) are each)

-- the path that a walk over joined segments leaves
pub IsUrlPath-joined : (profile : Profile) (class : Class) (host : Option Host) (start segments : List (List ℕ))
    (text : List ℕ) → AreUrlSegments start → JoinsTo segments text
    → IsUrlPath profile class host (Segments (walk class start segments))
IsUrlPath-joined profile class host start [] text are joins = absurd (nothing joins.first joins.others joins.some)
  where
    nothing : (first : List ℕ) (others : List (List ℕ)) → [] ≡ first ∷ others → ⊥
    nothing first others e = cc
IsUrlPath-joined profile class host start (segment ∷ rest) text are joins =
    IsUrlPath-walk profile class host start segment rest are joins.each

-- the path after a host
pub IsUrlPath-authority : (profile : Profile) (class : Class) (host : Host) (segments : List (List ℕ))
    → AreSegments segments → IsUrlPath profile class (Some host) (Segments (authority_path class segments))
IsUrlPath-authority profile SpecialNotFile host [] each = (IsUrlSegment-nil, tt)
IsUrlPath-authority profile File host [] each = (IsUrlSegment-nil, tt)
IsUrlPath-authority profile Other host [] each = refl
IsUrlPath-authority profile SpecialNotFile host (segment ∷ rest) each =
    IsUrlPath-walk profile SpecialNotFile (Some host) [] segment rest tt each
IsUrlPath-authority profile File host (segment ∷ rest) each =
    IsUrlPath-walk profile File (Some host) [] segment rest tt each
IsUrlPath-authority profile Other host (segment ∷ rest) each =
    IsUrlPath-walk profile Other (Some host) [] segment rest tt each

-- the segments of a path after an authority, where there is one
pub AreSegments-maybe : (segments : List (List ℕ)) (text : List ℕ) → MayBePathSlashed segments text
    → AreSegments segments
AreSegments-maybe segments text (inl none) = rw none.1 tt
AreSegments-maybe segments text (inr path) = path.joins.each

-- ---- hosts

-- the host of a text of class SpecialNotFile
IsUrlHost-special : (profile : Profile) (text : List ℕ) (value : Host) → IsHostText profile text value
    → IsUrlHost profile SpecialNotFile (Some value)
IsUrlHost-special profile text (Domain form) is = IsUrlDomain-form profile text form is
IsUrlHost-special profile text (V4 value) is = ipv4_text_small profile text value is
IsUrlHost-special profile text (V6 pieces) is = bracketed_small text pieces is
IsUrlHost-special profile text (Opaque host) is = is
IsUrlHost-special profile text Empty is = is

-- it takes a port
takes_port-special : (profile : Profile) (text : List ℕ) (value : Host) → IsHostText profile text value
    → takes_port SpecialNotFile (Some value) ≡ true
takes_port-special profile text (Domain form) is = refl
takes_port-special profile text (V4 value) is = refl
takes_port-special profile text (V6 pieces) is = refl
takes_port-special profile text (Opaque host) is = absurd is
takes_port-special profile text Empty is = absurd is

-- the host of a file text
IsUrlHost-file : (profile : Profile) (text : List ℕ) (value : Host) → IsFileHostText profile text value
    → IsUrlHost profile File (Some value)
IsUrlHost-file profile text (Domain form) is = (IsUrlDomain-form profile text form is.0, is.1)
IsUrlHost-file profile text (V4 value) is = ipv4_text_small profile text value is
IsUrlHost-file profile text (V6 pieces) is = bracketed_small text pieces is
IsUrlHost-file profile text (Opaque host) is = is
IsUrlHost-file profile text Empty is = tt

-- ---- authorities

-- what an authority gives a record
pub record IsAuthority (profile : Profile) (class : Class) (scheme : List ℕ) (parts : Parts) : Type 0 where
  pub value : Host
  pub valued : authority_host parts ≡ Some value
  pub host : IsUrlHost profile class (Some value)
  pub port : IsUrlPort scheme (Some value) parts.port
  pub each : AreSegments parts.segments

-- a host with a value is the record's
authority_host-valued : (parts : Parts) (value : Host) → parts.host ≡ Some value → authority_host parts ≡ Some value
authority_host-valued parts value e = rw e refl

-- a host text without a value is an opaque host
authority_host-opaque : (parts : Parts) (text : List ℕ) → parts.host ≡ None → parts.host_text ≡ Some text
    → authority_host parts ≡ Some (Opaque (encoded false text))
authority_host-opaque parts text e spelled = rw (e, spelled) refl

-- class SpecialNotFile
IsAuthority-special : (setting : Setting) (scheme text : List ℕ) (parts : Parts) → scheme_class scheme ≡ SpecialNotFile
    → setting.default_port ≡ default_port scheme → FitsAuthority SpecialNotFile setting text parts
    → IsAuthority setting.profile SpecialNotFile scheme parts
IsAuthority-special setting scheme text parts class default fits =
    let takes : takes_port (scheme_class scheme) (Some fits.value) ≡ true
    = rw class (takes_port-special setting.profile text fits.value fits.host)
    in
    record {
      value = fits.value;
      valued = authority_host-valued parts fits.value fits.valued;
      host = IsUrlHost-special setting.profile text fits.value fits.host;
      port = rw (fits.port, default) (IsUrlPort-given scheme (Some fits.value) parts.port_text fits.port_text takes);
      each =
          AreSegments-maybe parts.segments parts.path_text
          (slashed_or_none setting.profile parts.segments parts.path_text fits.path);
    }

-- class File
IsAuthority-file : (setting : Setting) (scheme text : List ℕ) (parts : Parts)
    → FitsAuthority File setting text parts → IsAuthority setting.profile File scheme parts
IsAuthority-file setting scheme text parts (port_text, port, fits) =
    elim fits [
      | inl named ↦ record {
        value = named.value;
        valued = authority_host-valued parts named.value named.valued;
        host = IsUrlHost-file setting.profile text named.value named.host;
        port = rw port tt;
        each =
            AreSegments-maybe parts.segments parts.path_text
            (slashed_or_none setting.profile parts.segments parts.path_text named.path);
      }
      | inr empty ↦ record {
        value = Empty;
        valued = authority_host-valued parts Empty empty.1;
        host = tt;
        port = rw port tt;
        each =
            AreSegments-maybe parts.segments parts.path_text
            (alone_or_none setting.profile parts.segments parts.path_text empty.2);
      }
    ]

-- the host of class Other, of which only an IPv6 address has a value
record IsOtherValue (parts : Parts) : Type 0 where
  value : Host
  valued : authority_host parts ≡ Some value
  host : IsOtherHost (Some value)
  takes : takes_port Other (Some value) ≡ true

IsOtherValue-text : (text : List ℕ) (parts : Parts) (host : Option Host) → parts.host ≡ host
    → parts.host_text ≡ Some text
    → IsOpaqueHostText text host → IsOtherValue parts
IsOtherValue-text text parts (Some (V6 pieces)) e spelled is =
    record {
      value = V6 pieces;
      valued = authority_host-valued parts (V6 pieces) e;
      host = bracketed_small text pieces is;
      takes = refl;
    }
IsOtherValue-text text parts (Some (Domain form)) e spelled is = absurd is
IsOtherValue-text text parts (Some (V4 value)) e spelled is = absurd is
IsOtherValue-text text parts (Some (Opaque host)) e spelled is = absurd is
IsOtherValue-text text parts (Some Empty) e spelled is = absurd is
IsOtherValue-text text parts None e spelled is =
    record {
      value = Opaque (encoded false text);
      valued = authority_host-opaque parts text e spelled;
      host = IsUrlOpaqueHost-encoded text is;
      takes = refl;
    }

-- class Other
IsAuthority-other : (setting : Setting) (scheme text : List ℕ) (parts : Parts) → scheme_class scheme ≡ Other
    → setting.default_port ≡ default_port scheme → parts.host_text ≡ Some text
    → FitsAuthority Other setting text parts → IsAuthority setting.profile Other scheme parts
IsAuthority-other setting scheme text parts class default spelled (host, given, path) =
    let each =
    AreSegments-maybe parts.segments parts.path_text
    (slashed_or_none setting.profile parts.segments parts.path_text path) in
    let port : parts.port ≡ port_given (default_port scheme) parts.port_text
    = given ∙ ap (λ (d : Option ℕ). port_given d parts.port_text) default in
    elim host [
      | inl named ↦ let other = IsOtherValue-text text parts parts.host refl spelled named.0 in
          let takes : takes_port (scheme_class scheme) (Some other.value) ≡ true = rw class other.takes in
          record {
            value = other.value;
            valued = other.valued;
            host = other.host;
            port = subst (λ (p : Option ℕ). IsUrlPort scheme (Some other.value) p) (sym port)
                (IsUrlPort-given scheme (Some other.value) parts.port_text named.1 takes);
            each = each;
          }
      | inr empty ↦ record {
        value = Empty;
        valued = authority_host-valued parts Empty empty.1;
        host = tt;
        port = rw (port, empty.2) tt;
        each = each;
      }
    ]

-- what is after `//` makes a well-formed record
pub IsAuthority-fits : (class : Class) (setting : Setting) (scheme text : List ℕ) (parts : Parts)
    → scheme_class scheme ≡ class → setting.default_port ≡ default_port scheme → parts.host_text ≡ Some text
    → FitsAuthority class setting text parts → IsAuthority setting.profile class scheme parts
IsAuthority-fits SpecialNotFile setting scheme text parts same default spelled fits =
    IsAuthority-special setting scheme text parts same default fits
IsAuthority-fits File setting scheme text parts same default spelled fits =
    IsAuthority-file setting scheme text parts fits
IsAuthority-fits Other setting scheme text parts same default spelled fits =
    IsAuthority-other setting scheme text parts same default spelled fits
