-- The verdict on a text against a base, after the URL Standard, section 4.3.
use Rattle.std.specs.Prelude.{◌≡◌, ℕ, ◌≤◌, Bool, true, false, List, length, Option, Some, None}
use Rattle.uv_grammar.specs.declared.checker.Verdict.{Verdict}
use Rattle.uv_grammar.specs.declared.checker.Verdict.TheVariants.{Yes, No}
use Rattle.uv_grammar.specs.Built.{built}
use Rattle.uv_grammar.specs.PartViolations.{AfterAuthority}
use Rattle.uv_grammar.specs.PartValues.{FitsHostPart, FitsPortPart}
use Rattle.uv_model.specs.declared.host.Host.{Host}
use Rattle.uv_model.specs.declared.profile.Profile.{Profile}
use Rattle.uv_model.specs.declared.profile.Profile.TheVariants.{Standard, Wide, Parser}
use Rattle.uv_model.specs.declared.rule.Refusal.{Refusal}
use Rattle.uv_model.specs.declared.rule.Rule.{Rule}
use Rattle.uv_model.specs.Violations.Violation.{Violation}
use Rattle.uv_model.specs.Cut.{Cut}
use Rattle.uv_model.specs.Parts.{Parts}
use Rattle.uv_model.specs.Violations.Refusal.{IsLeast}
use Rattle.uv_model.specs.Records.Url.{Url}
use Rattle.uv_model.specs.Setting.{Setting}
use Rattle.uv_model.specs.Valid.{Valid}

-- the text is valid under the profile with these parts and with no others, and no violation of it holds
pub record IsAccepted (profile : Profile) (base : Option Url) (text : List ℕ) (parts : Parts) : Type 0 where
  pub valid : Valid profile base text parts
  pub only : (other : Parts) → Valid profile base text other → other ≡ parts
  pub silent : (place : ℕ) (rule : Rule) → ¬ (Violation profile base text place rule)

-- the refusal is the least violation of the text, at a place up to its end, and the text is valid with no parts
pub record IsRefused (profile : Profile) (base : Option Url) (text : List ℕ) (refusal : Refusal) : Type 0 where
  pub least : IsLeast (Violation profile base text) (Some refusal)
  pub within : refusal.place ≤ length text
  pub none : (parts : Parts) → ¬ (Valid profile base text parts)

-- the verdict: the parts of a valid text, or the least violation of one that isn't
abbrev pub IsVerdict : Profile → Option Url → List ℕ → Verdict → Type 0
IsVerdict profile base text (Yes parts) = IsAccepted profile base text parts
IsVerdict profile base text (No refusal) = IsRefused profile base text refusal

-- whether the text is valid with any parts
abbrev pub IsValidity : Profile → Option Url → List ℕ → Bool → Type 0
IsValidity profile base text true = (parts : Parts) × Valid profile base text parts
IsValidity profile base text false = (parts : Parts) → ¬ (Valid profile base text parts)

-- the next wider profile by which the text is valid
abbrev pub IsWiderProfile : Profile → Option Url → List ℕ → Option Profile → Type 0
IsWiderProfile Standard base text (Some Wide) = IsValidity Wide base text true
IsWiderProfile Standard base text (Some Parser) = IsValidity Wide base text false × IsValidity Parser base text true
IsWiderProfile Standard base text None = IsValidity Wide base text false × IsValidity Parser base text false
IsWiderProfile Wide base text (Some Parser) = IsValidity Parser base text true
IsWiderProfile Wide base text None = IsValidity Parser base text false
IsWiderProfile Parser base text None = Unit {0}
IsWiderProfile profile base text found = ⊥

-- ---- parts of a cut text

-- the parts are built from the cut, a valid host and a valid port, and no violation of what follows them holds
pub record IsBuilt (setting : Setting) (cut : Cut) (parts : Parts) : Type 0 where
  pub host : Option Host
  pub port : Option ℕ
  pub built : parts ≡ built cut host port
  pub fits_host : FitsHostPart setting cut host
  pub fits_port : FitsPortPart setting cut port
  pub silent : IsLeast (AfterAuthority setting cut) None
