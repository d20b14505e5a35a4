-- A text that is refused, with its edit or without one.
use Rattle.std.proofs.Common.{◌≡◌, ℕ, suc, List, Option, Some, None, refl}
use Rattle.std.specs.Prelude.{IfSome}
use Rattle.uv_model.specs.declared.profile.Profile.{Profile}
use Rattle.uv_model.specs.declared.rule.Refusal.{Refusal}
use Rattle.uv_model.specs.Violations.Violation.{Violation}
use Rattle.uv_model.specs.Violations.Refusal.{IsLeast}
use Rattle.uv_model.specs.Records.Url.{Url}
use Rattle.uv_model.proofs.Violations.ViolationsExcludeParts.{faultless}
use Rattle.uv_mend.specs.Edits.{edit_of}
use Rattle.uv_mend.specs.Repairs.{IsValid, Repairs}

-- nothing is wrong with a valid text
silent : (profile : Profile) (base : Option Url) (text : List ℕ) → IsValid profile base text
    → IsLeast (Violation profile base text) None
silent profile base text valid place rule violation =
    faultless profile base text place rule violation valid.0 valid.1

-- what further edits make of its edit
pub repairs-edited : (edits : ℕ) (profile : Profile) (base : Option Url) (text next : List ℕ)
    (answer : Option (List ℕ)) (refusal : Refusal) → IsLeast (Violation profile base text) (Some refusal)
    → edit_of base text refusal ≡ Some next → Repairs edits profile base next answer
    → Repairs (suc edits) profile base text answer
repairs-edited edits profile base text next answer refusal least is more = (Some refusal, least, rw is more)

-- there is none
pub repairs-stuck : (edits : ℕ) (profile : Profile) (base : Option Url) (text : List ℕ)
    (refusal : Refusal) → IsLeast (Violation profile base text) (Some refusal)
    → edit_of base text refusal ≡ None → Repairs (suc edits) profile base text None
repairs-stuck edits profile base text refusal least is = (Some refusal, least, rw is refl)

-- what a weaker fact says of the value, if there is one
pub some_weaker : {X : Type 0} (value : Option X) (P Q : X → Type 0) → ((x : X) → P x → Q x) → IfSome value P
    → IfSome value Q
some_weaker None P Q weaker h = h
some_weaker (Some x) P Q weaker h = weaker x h
