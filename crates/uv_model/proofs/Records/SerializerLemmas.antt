-- What is appended to a text.
use Rattle.std.proofs.Common.{◌≡◌, ℕ, List, ◌++◌, ap, ◌∙◌, Result, Ok, Err}
use Rattle.std.specs.Prelude.{OnOk, if◌then◌else◌, is_ok}

-- what was appended is this text
pub appended : {A E : Type 0} (result : Result A E) (old text new written : List ℕ)
    → new ≡ (if is_ok result then old ++ text else old) → text ≡ written → OnOk result (new ≡ old ++ written)
appended (Err error) old text new written pushed is = tt
appended (Ok done) old text new written pushed is = pushed ∙ ap (λ t. old ++ t) is
