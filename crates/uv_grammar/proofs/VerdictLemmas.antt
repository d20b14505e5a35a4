-- From the verdict on a cut text to the verdict on the text.
use Rattle.std.proofs.Common.{◌≡◌, ℕ, ◌<◌, ◌^◌, List, length, Option, Some, None, arith, ap, sym, subst, inl, inr}
use Rattle.std.specs.Str.{chars, IsUtf8}
use Rattle.std.proofs.lemmas.Str.{encodes-chars, length-le-encodes}
use Rattle.uv_model.specs.declared.profile.Profile.{Profile}
use Rattle.uv_model.specs.declared.rule.Refusal.{Refusal}
use Rattle.uv_model.specs.Violations.Violation.{Violation, HostPartViolation, IsStarted, PortPartViolation}
use Rattle.uv_model.specs.Violations.Violation.{StartViolation}
use Rattle.uv_model.specs.Cut.{Cut, IsCut, cut_of, written_cut}
use Rattle.uv_model.specs.Parts.{Parts, written}
use Rattle.uv_model.specs.Violations.Refusal.{IsLeast}
use Rattle.uv_model.specs.Records.Url.{Url}
use Rattle.uv_model.specs.Setting.{Setting, setting_of}
use Rattle.uv_model.specs.Valid.{Valid}
use Rattle.uv_model.proofs.Violations.ViolationPlaces.{violation_within}
use Rattle.uv_model.proofs.Violations.ViolationsExcludeParts.{faultless}
use Rattle.uv_model.proofs.Cuts.CutLemmas.{cut_is_computed}
use Rattle.uv_model.proofs.Cuts.UniqueParts.{parts_are_unique}
use Rattle.uv_model.proofs.Violations.RefusedLemmas.{FromHost, host_passes, host_refuses, least_of_parts, port_passes}
use Rattle.uv_model.proofs.Violations.RefusedLemmas.{port_refuses, refused_at_start}
use Rattle.uv_grammar.specs.Laws.{PartsAreTheText}
use Rattle.uv_grammar.specs.NoMemory.{HostPartTakesNoMemory, TakesNoMemory}
use Rattle.uv_grammar.specs.PartViolations.{AfterAuthority, IsCountable}
use Rattle.uv_grammar.specs.Verdict.{IsAccepted, IsBuilt, IsRefused}
use Rattle.uv_grammar.proofs.BuiltLemmas.{valid_built}

-- a text that a slice holds is countable
pub countable : (bytes : List ℕ) (cut : Cut) → IsUtf8 bytes → length bytes < 2 ^ 64 → chars bytes ≡ written_cut cut
    → IsCountable cut
countable bytes cut utf8 small same =
    let shorter = length-le-encodes (chars bytes) in
    let spelled = ap length (encodes-chars bytes utf8) in
    let whole = ap length same in
    omega arith

-- the least violation excludes all parts, and is within the text
pub refused : (profile : Profile) (base : Option Url) (text : List ℕ) (refusal : Refusal)
    → IsLeast (Violation profile base text) (Some refusal) → IsRefused profile base text refusal
refused profile base text refusal least = record {
  least = least;
  within = violation_within profile base text refusal.place refusal.rule least.stands;
  none = faultless profile base text refusal.place refusal.rule least.stands;
}

-- a text that is refused by its start
pub refused_start : (profile : Profile) (base : Option Url) (text : List ℕ) (cut : Cut) (setting : Setting)
    (refusal : Refusal)
    → IsCut base text cut → setting ≡ setting_of profile base cut.scheme
    → IsLeast (StartViolation setting text cut) (Some refusal) → IsRefused profile base text refusal
refused_start profile base text cut setting refusal is made least =
    refused profile base text refusal
    (refused_at_start profile base text cut refusal is
    (subst (λ (s : Setting). IsLeast (StartViolation s text cut) (Some refusal)) made least))

-- a text whose start is valid is refused by its host, its port or what is after them
refused_started : (profile : Profile) (base : Option Url) (text : List ℕ) (cut : Cut) (setting : Setting)
    (refusal : Refusal)
    → IsCut base text cut → setting ≡ setting_of profile base cut.scheme → IsStarted setting text cut
    → IsLeast (FromHost setting cut) (Some refusal) → IsRefused profile base text refusal
refused_started profile base text cut setting refusal is made started least =
    refused profile base text refusal
    (least_of_parts profile base text cut (Some refusal) is
    (subst (λ (s : Setting). IsStarted s text cut) made started)
    (subst (λ (s : Setting). IsLeast (FromHost s cut) (Some refusal)) made least))

-- a text that is refused by its host
pub refused_host : (profile : Profile) (base : Option Url) (text : List ℕ) (cut : Cut) (setting : Setting)
    (refusal : Refusal)
    → IsCut base text cut → setting ≡ setting_of profile base cut.scheme → IsStarted setting text cut
    → IsLeast (HostPartViolation setting cut) (Some refusal) → IsRefused profile base text refusal
refused_host profile base text cut setting refusal is made started least =
    refused_started profile base text cut setting refusal is made started (host_refuses setting cut refusal least)

-- a text that is refused by its port
pub refused_port : (profile : Profile) (base : Option Url) (text : List ℕ) (cut : Cut) (setting : Setting)
    (refusal : Refusal)
    → IsCut base text cut → setting ≡ setting_of profile base cut.scheme → IsStarted setting text cut
    → IsLeast (HostPartViolation setting cut) None → IsLeast (PortPartViolation cut) (Some refusal)
    → IsRefused profile base text refusal
refused_port profile base text cut setting refusal is made started host least =
    refused_started profile base text cut setting refusal is made started
    (host_passes setting cut (Some refusal) host (port_refuses setting cut refusal least))

-- a text that is refused after its authority
pub refused_after : (profile : Profile) (base : Option Url) (text : List ℕ) (cut : Cut) (setting : Setting)
    (refusal : Refusal)
    → IsCut base text cut → setting ≡ setting_of profile base cut.scheme → IsStarted setting text cut
    → IsLeast (HostPartViolation setting cut) None → IsLeast (PortPartViolation cut) None
    → IsLeast (AfterAuthority setting cut) (Some refusal) → IsRefused profile base text refusal
refused_after profile base text cut setting refusal is made started host port least =
    refused_started profile base text cut setting refusal is made started
    (host_passes setting cut (Some refusal) host (port_passes setting cut (Some refusal) port least))

-- a text of valid parts
pub accepted : (profile : Profile) (base : Option Url) (text : List ℕ) (cut : Cut) (setting : Setting)
    → IsCut base text cut → setting ≡ setting_of profile base cut.scheme → IsStarted setting text cut
    → (parts : Parts) → IsBuilt setting cut parts → IsAccepted profile base text parts
accepted profile base text cut setting is made started parts built =
    let h : IsBuilt (setting_of profile base cut.scheme) cut parts
    = subst (λ (s : Setting). IsBuilt s cut parts) made built in
    let valid : Valid profile base text parts
    = subst (λ (p : Parts). Valid profile base text p) (sym h.built)
    (valid_built profile base text cut h.host h.port is (subst (λ (s : Setting). IsStarted s text cut) made started)
    h.fits_host h.fits_port h.silent) in
    record {
      valid = valid;
      only = λ other again. parts_are_unique profile base text other parts again valid;
      silent = λ place rule violation. faultless profile base text place rule violation parts valid;
    }

-- a valid text is its parts written out
pub parts_written : PartsAreTheText
unfolding written
parts_written profile base text parts valid = valid.whole

-- if no rule of the start is violated, a text that takes no memory has a host that takes none
pub host_without_memory : (profile : Profile) (base : Option Url) (text : List ℕ) (cut : Cut) (setting : Setting)
    → IsCut base text cut → setting ≡ setting_of profile base cut.scheme → IsStarted setting text cut
    → TakesNoMemory (setting_of profile base (cut_of base text).scheme) text (cut_of base text)
    → HostPartTakesNoMemory setting cut.host_text
host_without_memory profile base text cut setting is made started h =
    of_host (subst (λ (s : Setting). TakesNoMemory s text cut) (sym made)
    (subst (λ (k : Cut). TakesNoMemory (setting_of profile base k.scheme) text k)
    (sym (cut_is_computed base text cut is)) h))
  where
    of_host : TakesNoMemory setting text cut → HostPartTakesNoMemory setting cut.host_text
    of_host (inl (place, rule, violation)) = absurd (started place rule violation)
    of_host (inr host) = host
