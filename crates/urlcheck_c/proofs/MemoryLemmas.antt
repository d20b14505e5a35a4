-- What is answered of a text that is found valid, and when memory may run out.
use Rattle.std.proofs.Common.{◌≡◌, ◌∙◌, ◌++◌, ℕ, List, [], Option, ap, arith, inl, inr, length, refl, sym}
use Rattle.std.specs.Str.{chars}
use Rattle.std.proofs.Math.Seq.{take-nil}
use Rattle.uv_model.specs.declared.profile.Profile.{Profile}
use Rattle.uv_model.specs.Parts.{Parts}
use Rattle.uv_model.specs.Records.Url.{Url}
use Rattle.uv_model.specs.Valid.{Valid}
use Rattle.uv_model.specs.Violations.AllViolations.{AreFaults}
use Rattle.uv_grammar.specs.Verdict.{IsAccepted}
use Rattle.uv_mend.specs.declared.answer.Mending.TheVariants as answer
use Rattle.urlcheck_c.specs.declared.finding.CallOutcome.TheVariants.{Memory, Valid as valid_outcome}
use Rattle.urlcheck_c.specs.declared.mended.Mended.{Mended}
use Rattle.urlcheck_c.specs.declared.reports.fault_lists.Fault.{Fault}
use Rattle.urlcheck_c.specs.declared.reports.fault_lists.FaultCount.{FaultCount}
use Rattle.urlcheck_c.specs.Faults.{IsFaultsChecked, no_faults}
use Rattle.urlcheck_c.specs.Finding.{plain_finding}
use Rattle.urlcheck_c.specs.Mended.{IsRequestMended, unmended}
use Rattle.urlcheck_c.specs.Request.{IsValidWithoutMemory}

-- ---- memory

-- a text that is refused isn't valid without memory
pub refused_lacks : (profile : Profile) (base : Option Url) (bytes : List ℕ)
    → ((parts : Parts) → ¬ (Valid profile base (chars bytes) parts)) → ¬ (IsValidWithoutMemory profile base (chars bytes))
refused_lacks profile base bytes none is = none is.1.0 is.1.1

-- ---- what is to be written in place of a text

-- a valid text stays
pub valid_stays : (profile : Profile) (base : Option Url) (bytes out : List ℕ) (parts : Parts) (given : Mended)
    → IsAccepted profile base (chars bytes) parts → given ≡ unmended (plain_finding valid_outcome)
    → IsRequestMended profile base bytes out out given
valid_stays profile base bytes out parts given accepted is =
    inl (answer.Valid, (parts, accepted.valid), (is, refl))

-- memory may run out for any other
pub mending_lacks : (profile : Profile) (base : Option Url) (bytes out : List ℕ) (given : Mended)
    → ¬ (IsValidWithoutMemory profile base (chars bytes)) → given ≡ unmended (plain_finding Memory)
    → IsRequestMended profile base bytes out out given
mending_lacks profile base bytes out given lacks is =
    let found = ap (λ (m : Mended). m.found) is in
    inr (is ∙ ap unmended (sym found), refl, (found, lacks))

-- ---- faults

-- a valid text has none
none_of_valid : (profile : Profile) (base : Option Url) (text : List ℕ) (parts : Parts)
    → IsAccepted profile base text parts → AreFaults profile base text []
none_of_valid profile base text parts accepted = record {
  lists = record {
    each = λ refusal. (
      λ held. absurd (omega (arith, held.1)),
      λ violated. absurd (accepted.silent refusal.place refusal.rule violated),
    );
    ordered = tt;
  };
  least = accepted.silent;
  none = λ other valid. refl;
}

pub valid_has_none : (profile : Profile) (base : Option Url) (bytes : List ℕ) (out : List Fault) (parts : Parts)
    (count : FaultCount) → IsAccepted profile base (chars bytes) parts → count ≡ no_faults (plain_finding valid_outcome)
    → IsFaultsChecked profile base bytes out out count
valid_has_none profile base bytes out parts count accepted is =
    inl (record {
      refusals = [];
      all = none_of_valid profile base (chars bytes) parts accepted;
      count = ap (λ (c : FaultCount). c.count) is;
      found = ap (λ (c : FaultCount). c.found) is;
      stored = sym (ap (λ (l : List Fault). l ++ out) (take-nil (length out)));
    })

-- memory may run out for the faults of any other text
pub listing_lacks : (profile : Profile) (base : Option Url) (bytes : List ℕ) (out : List Fault) (count : FaultCount)
    → ¬ (IsValidWithoutMemory profile base (chars bytes)) → count ≡ no_faults (plain_finding Memory)
    → IsFaultsChecked profile base bytes out out count
listing_lacks profile base bytes out count lacks is =
    inr (
      record { count = ap (λ (c : FaultCount). c.count) is; same = refl },
      (ap (λ (c : FaultCount). c.found) is, lacks),
    )
