-- A text edited until it is valid, or no edit is left.
use Rattle.std.specs.Prelude.{◌≡◌, ℕ, zero, suc, List, Option, Some, None, String, chars, string_bytes}
use Rattle.std.specs.declared.alloc.Global.{Global}
use Rattle.uv_model.specs.declared.profile.Profile.{Profile}
use Rattle.uv_model.specs.declared.rule.Refusal.{Refusal}
use Rattle.uv_model.specs.Violations.Violation.{Violation}
use Rattle.uv_model.specs.Violations.Refusal.{IsLeast}
use Rattle.uv_model.specs.Parts.{Parts}
use Rattle.uv_model.specs.Records.Url.{Url}
use Rattle.uv_model.specs.Valid.{Valid}
use Rattle.uv_mend.specs.declared.repairs.Tried.{Tried}
use Rattle.uv_mend.specs.declared.repairs.Tried.TheVariants as tried
use Rattle.uv_mend.specs.Edits.{edit_of}
use Rattle.uv_mend.specs.Rest.{HasRestOf}

-- the code points are a valid URL string under the profile, alone or against the base
abbrev pub IsValid : Profile → Option Url → List ℕ → Type 0
IsValid profile base text = (parts : Parts) × Valid profile base text parts

-- the answer is a text that is not refused, and is given more of one that is
abbrev pub GoesOn : Option Refusal → List ℕ → (Refusal → Type 0) → Option (List ℕ) → Type 0
GoesOn None text more answer = answer ≡ Some text
GoesOn (Some refusal) text more answer = more refusal

-- there is no answer without an edit, and more is asked of an edited text
abbrev pub EditsTo : Option (List ℕ) → (List ℕ → Type 0) → Option (List ℕ) → Type 0
EditsTo None more answer = answer ≡ None
EditsTo (Some next) more answer = more next

-- The answer is what at most so many edits make of the text, each by the least of what is wrong with what the one
-- before left: the first text with which nothing is wrong, or none if an edit is wanting.
abbrev pub Repairs : ℕ → Profile → Option Url → List ℕ → Option (List ℕ) → Type 0
Repairs zero profile base text answer =
    (refusal : Option Refusal) × IsLeast (Violation profile base text) refusal
    × GoesOn refusal text (λ _. answer ≡ None) answer
Repairs (suc edits) profile base text answer =
    (refusal : Option Refusal) × IsLeast (Violation profile base text) refusal
    × GoesOn refusal text
    (λ least. EditsTo (edit_of base text least) (λ next. Repairs edits profile base next answer) answer) answer

-- the code points of a string
abbrev pub decoded : String Global → List ℕ
decoded text = chars (string_bytes text)

-- what the text is, and what its edit makes of it
abbrev pub IsTried : Profile → Option Url → List ℕ → Tried → Type 0
IsTried profile base text (tried.Valid same) =
    IsLeast (Violation profile base text) None × IsValid profile base text × (decoded same ≡ text)
IsTried profile base text (tried.Edited next) =
    (refusal : Refusal) × IsLeast (Violation profile base text) (Some refusal)
    × (edit_of base text refusal ≡ Some (decoded next)) × HasRestOf text (decoded next)
IsTried profile base text tried.Stuck =
    (refusal : Refusal) × IsLeast (Violation profile base text) (Some refusal) × (edit_of base text refusal ≡ None)
