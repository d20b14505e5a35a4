-- All the faults of a text in the caller's buffer.
use Rattle.std.specs.Prelude.{◌≡◌, ℕ, ◌⊎◌, List, [], ◌∷◌, ◌++◌, length, take, drop, map, Option}
use Rattle.std.specs.Str.{chars}
use Rattle.uv_model.specs.declared.profile.Profile.{Profile}
use Rattle.uv_model.specs.declared.rule.Refusal.{Refusal}
use Rattle.uv_model.specs.Violations.AllViolations.{AreFaults}
use Rattle.uv_model.specs.Violations.Rule.{rule_number}
use Rattle.uv_model.specs.Records.Url.{Url}
use Rattle.urlcheck_c.specs.declared.bases.Base.{Base}
use Rattle.urlcheck_c.specs.declared.reports.fault_lists.Fault.{Fault}
use Rattle.urlcheck_c.specs.declared.reports.fault_lists.FaultCount.{FaultCount}
use Rattle.urlcheck_c.specs.declared.finding.Finding.{Finding}
use Rattle.urlcheck_c.specs.declared.finding.CallOutcome.TheVariants.{Valid, Refused}
use Rattle.urlcheck_c.specs.Base.{IsMadeOf, IsStray, IsUnasked}
use Rattle.urlcheck_c.specs.Finding.{byte_place, plain_finding, refused_finding}
use Rattle.urlcheck_c.specs.Request.{IsRequest, IsUnchecked, LacksMemoryUnlessValid}

-- a refusal of a text, with its place in bytes
abbrev pub fault_of : List ℕ → Refusal → Fault
fault_of bytes refusal = record {
  rule = rule_number refusal.rule;
  place = refusal.place;
  byte_place = byte_place bytes refusal.place;
}

-- as many faults as the buffer holds in its prefix, and after them what was there
abbrev pub stored : List ℕ → List Refusal → List Fault → List Fault
stored bytes refusals old =
    take (length old) (map (fault_of bytes) refusals) ++ drop (length refusals) old

-- the verdict by the first of the faults
abbrev pub first_finding : List ℕ → List Refusal → Finding
first_finding bytes [] = plain_finding Valid
first_finding bytes (refusal ∷ rest) = refused_finding Refused bytes refusal

-- no faults, since this was found
abbrev pub no_faults : Finding → FaultCount
no_faults found = record { found = found; count = 0 }

-- these are the faults of the text, and the verdict, their count and the buffer are theirs
pub record AreListed (profile : Profile) (base : Option Url) (bytes : List ℕ) (old new : List Fault)
    (answer : FaultCount) : Type 0 where
  pub refusals : List Refusal
  pub all : AreFaults profile base (chars bytes) refusals
  pub count : answer.count ≡ length refusals
  pub found : answer.found ≡ first_finding bytes refusals
  pub stored : new ≡ stored bytes refusals old

-- nothing was written
pub record IsUnlisted (old new : List Fault) (answer : FaultCount) : Type 0 where
  pub count : answer.count ≡ 0
  pub same : new ≡ old

-- The text has these faults. Or memory ran out for them and nothing was written: a text that is valid without memory
-- has none all the same.
abbrev pub IsFaultsChecked : Profile → Option Url → List ℕ → List Fault → List Fault → FaultCount → Type 0
IsFaultsChecked profile base bytes old new answer =
    AreListed profile base bytes old new answer
    ⊎ (IsUnlisted old new answer × LacksMemoryUnlessValid profile base bytes answer.found)

-- the text isn't checked, and nothing was written; or it is checked against the base, if one is given
abbrev pub IsFaultsAnswer : ℕ → Option (List ℕ) → List ℕ → List Fault → List Fault → FaultCount → Type 0
IsFaultsAnswer number base bytes old new answer =
    (IsUnlisted old new answer × IsUnchecked number base bytes answer.found)
    ⊎ ((profile : Profile) × (url : Option Url) × IsRequest number base bytes profile url
    × IsFaultsChecked profile url bytes old new answer)

-- what is answered against the base of a call; against one that isn't one under the profile nothing is checked or
-- written
pub record IsFaultsTo (number : ℕ) (base : Option Base) (bytes : List ℕ) (old new : List Fault)
    (answer : FaultCount) : Type 0 where
  pub made : (of : Option (List ℕ)) → IsMadeOf number base of → IsFaultsAnswer number of bytes old new answer
  pub stray : IsStray number base → IsUnlisted old new answer × IsUnasked number base bytes answer.found
