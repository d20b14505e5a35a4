-- Of the hosts of URLs of class Other the parser is silent only on the valid ones.
use Rattle.std.proofs.Common.{not}
use Rattle.uv_model.specs.declared.profile.Profile.TheVariants.{Parser}
use Rattle.uv_model.specs.declared.scheme.Class.TheVariants.{SpecialNotFile}
use Rattle.uv_model.specs.Hosts.OpaqueHost.{is_forbidden_host}
use Rattle.uv_model.proofs.Cuts.HostCutLemmas.{is_without-passes}
use Rattle.uv_model.proofs.Hosts.ParserForms.{bracketed_not_stopped}
use Rattle.uv_parser.proofs.Running.StoppedHosts.{special_goes_on}
use Rattle.std.proofs.Common.{◌≡◌, ℕ, true, false, List, Option, Some, None, refl, sym, ap, subst, inl, inr}
use Rattle.uv_model.specs.declared.host.Host.{Host}
use Rattle.uv_model.specs.declared.host.Host.TheVariants.{Domain, V4, V6, Opaque, Empty}
use Rattle.uv_model.specs.Ascii.{at_sign}
use Rattle.uv_model.specs.Encoding.{encoded}
use Rattle.uv_model.specs.Path.{is_without}
use Rattle.uv_parser.specs.HostParser.{IsTakenOtherHost, parse_host}
use Rattle.uv_parser.specs.Laws.OtherHosts.{IsSilentOtherHost, SilentOtherHostsAreValid, own_value, IsValidOtherHost}
use Rattle.uv_model.specs.Valid.{IsOpaqueHostText}
use Rattle.uv_parser.proofs.HostParsing.OtherHostsTaken.{other_hosts_are_taken}

-- a host that is taken is valid
valid_host : (text : List ℕ) (value : Host) → IsTakenOtherHost text value → IsValidOtherHost text (own_value value)
valid_host text value (inl (nothing, empty)) = inr (nothing, ap own_value empty)
valid_host text value (inr (inl (pieces, bracketed, valued))) =
    inl (subst (λ (host : Option Host). IsOpaqueHostText text host) (sym (ap own_value valued)) bracketed)
valid_host text value (inr (inr (opaque, valued))) =
    inl (subst (λ (host : Option Host). IsOpaqueHostText text host) (sym (ap own_value valued)) opaque)

-- so is one on which the parser is silent
silent_is_valid : (text : List ℕ) (host : Option Host) → IsSilentOtherHost text host → IsValidOtherHost text host
silent_is_valid text host (value, without, parsed, valued) =
    subst (λ (host : Option Host). IsValidOtherHost text host) (sym valued)
    (valid_host text value ((other_hosts_are_taken text value).0 parsed))

-- on a valid host the parser is silent
valid_is_silent : (text : List ℕ) (host : Option Host) → IsValidOtherHost text host → IsSilentOtherHost text host
valid_is_silent text host (inr (nothing, empty)) =
    (Empty, rw nothing refl, (other_hosts_are_taken text Empty).1 (inl (nothing, refl)), empty)
valid_is_silent text (Some (V6 pieces)) (inl is) = (
  V6 pieces,
  (special_goes_on true text (bracketed_not_stopped Parser SpecialNotFile true text pieces is)).no_at_sign refl,
  (other_hosts_are_taken text (V6 pieces)).1 (inr (inl (pieces, is, refl))),
  refl,
)
valid_is_silent text (Some (Domain form)) (inl is) = absurd is
valid_is_silent text (Some (V4 value)) (inl is) = absurd is
valid_is_silent text (Some (Opaque other)) (inl is) = absurd is
valid_is_silent text (Some Empty) (inl is) = absurd is
valid_is_silent text None (inl is) = (
  Opaque (encoded false text),
  is_without-passes (λ c. not (is_forbidden_host c)) at_sign text refl is.permitted,
  (other_hosts_are_taken text (Opaque (encoded false text))).1 (inr (inr (is, refl))),
  refl,
)

-- the two are one
pub silent_other_hosts_are_valid : SilentOtherHostsAreValid
silent_other_hosts_are_valid text host = (silent_is_valid text host, valid_is_silent text host)

-- what the host parser makes of a text without `@` is a valid host
pub silent_other : (text : List ℕ) (value : Host) → is_without at_sign text ≡ true → parse_host false text ≡ Some value
    → IsValidOtherHost text (own_value value)
silent_other text value without parsed = silent_is_valid text (own_value value) (value, without, parsed, refl)
