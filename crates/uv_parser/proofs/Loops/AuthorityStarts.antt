-- The start of a run on a text with an authority: with a scheme from the scheme's `:` on, and against a base from the
-- no scheme state on, each by the class. What follows `//` ends the run in one way or the other, and so does the start.
use Rattle.std.proofs.Common.{◌≡◌, ℕ, false, true, List, ◌∷◌, Option, Some, codes, refl, ◌∙◌, inl, inr}
use Rattle.std.proofs.lemmas.Bool.{cases_Bool}
use Rattle.uv_model.specs.declared.host.Host.{Host}
use Rattle.uv_model.specs.declared.host.Host.TheVariants as host
use Rattle.uv_model.specs.declared.scheme.Class.{Class}
use Rattle.uv_model.specs.declared.scheme.Class.TheVariants.{SpecialNotFile, File, Other}
use Rattle.uv_model.specs.Ascii.{slash, colon}
use Rattle.uv_model.specs.Records.Url.{Url, is_opaque}
use Rattle.uv_model.specs.Scheme.{lowercase, scheme_class}
use Rattle.uv_parser.specs.Machine.{Variables, State, has_same_scheme, is_file, is_special, AuthorityState}
use Rattle.uv_parser.specs.Machine.{FileHostState, FileSlashState, FileState, NoSchemeState, PathOrAuthorityState}
use Rattle.uv_parser.specs.Machine.{RelativeSlashState, RelativeState, SchemeState, SpecialAuthorityIgnoreSlashesState}
use Rattle.uv_parser.specs.Machine.{SpecialAuthoritySlashesState, SpecialRelativeOrAuthorityState, empty_variables}
use Rattle.uv_parser.specs.Machine.{with_host, with_more, with_scheme}
use Rattle.uv_parser.proofs.Loops.SchemeStretch.{colon_row, scheme_variables}
use Rattle.uv_parser.proofs.Running.Steps.{Ending, EndsAs, ends_again, ends_past_two, ends_step}

-- the state in which a run reads what follows `//`
abbrev pub state_after_slashes : Class → State
state_after_slashes SpecialNotFile = SpecialAuthorityIgnoreSlashesState
state_after_slashes File = FileHostState
state_after_slashes Other = AuthorityState

-- the variables after the scheme of a file URL, with this host
abbrev pub file_variables : Host → Variables
file_variables value = with_host (Some value) (with_scheme (codes "file") empty_variables)

-- the variables there, by those after the scheme
abbrev pub variables_after_slashes : Class → Variables → Variables
variables_after_slashes File v = file_variables host.Empty
variables_after_slashes class v = v

-- the variables with the base's scheme
abbrev pub base_variables : Url → Variables
base_variables url = with_scheme url.scheme empty_variables

-- with a scheme
pub scheme_starts : (base : Option Url) (scheme rest : List ℕ) (class : Class) {ending : Ending}
    → scheme_class scheme ≡ class
    → EndsAs base (state_after_slashes class) (variables_after_slashes class (scheme_variables scheme)) rest ending
    → EndsAs base SchemeState (with_more (lowercase scheme) empty_variables) (colon ∷ slash ∷ slash ∷ rest)
    ending
scheme_starts base scheme rest SpecialNotFile special ends =
    elim (cases_Bool (has_same_scheme base (lowercase scheme))) [
      | inl same ↦
          ends_step base {s₁ = SpecialRelativeOrAuthorityState} {v₁ = scheme_variables scheme}
          (λ p. colon_row base scheme (slash ∷ slash ∷ rest) p ∙ rw (special, same) refl)
          (ends_past_two base (λ p. refl) ends)
      | inr other ↦
          ends_step base {s₁ = SpecialAuthoritySlashesState} {v₁ = scheme_variables scheme}
          (λ p. colon_row base scheme (slash ∷ slash ∷ rest) p ∙ rw (special, other) refl)
          (ends_past_two base (λ p. refl) ends)
    ]
scheme_starts base scheme rest File file ends =
    ends_step base {s₁ = FileState} {v₁ = scheme_variables scheme}
    (λ p. colon_row base scheme (slash ∷ slash ∷ rest) p ∙ rw file refl)
    (ends_step base {s₁ = FileSlashState} {v₁ = file_variables host.Empty} (λ p. refl)
    (ends_step base (λ p. refl) ends))
scheme_starts base scheme rest Other other ends =
    ends_past_two base {s₁ = PathOrAuthorityState} {v₁ = scheme_variables scheme}
    (λ p. colon_row base scheme (slash ∷ slash ∷ rest) p ∙ rw other refl)
    (ends_step base (λ p. refl) ends)

-- without one, against a base with a path of segments
pub base_starts : (url : Url) (rest : List ℕ) (class : Class) {ending : Ending}
    → is_opaque url.path ≡ false → scheme_class url.scheme ≡ class
    → EndsAs (Some url) (state_after_slashes class) (variables_after_slashes class (base_variables url)) rest ending
    → EndsAs (Some url) NoSchemeState empty_variables (slash ∷ slash ∷ rest) ending
base_starts url rest SpecialNotFile not_opaque special ends =
    let plain : is_file url.scheme ≡ false = rw special refl in
    let class : is_special url.scheme ≡ true = rw special refl in
    ends_again (Some url) {s₁ = RelativeState} {v₁ = empty_variables} (λ p. rw (not_opaque, plain) refl)
    (ends_step (Some url) {s₁ = RelativeSlashState} {v₁ = base_variables url} (λ p. refl)
    (ends_step (Some url) (λ p. rw class refl) ends))
base_starts url rest File not_opaque file ends =
    let class : is_file url.scheme ≡ true = rw file refl in
    ends_again (Some url) {s₁ = FileState} {v₁ = empty_variables} (λ p. rw (not_opaque, class) refl)
    (ends_step (Some url) {s₁ = FileSlashState} {v₁ = file_variables host.Empty} (λ p. refl)
    (ends_step (Some url) (λ p. refl) ends))
base_starts url rest Other not_opaque other ends =
    let plain : is_file url.scheme ≡ false = rw other refl in
    let class : is_special url.scheme ≡ false = rw other refl in
    ends_again (Some url) {s₁ = RelativeState} {v₁ = empty_variables} (λ p. rw (not_opaque, plain) refl)
    (ends_step (Some url) {s₁ = RelativeSlashState} {v₁ = base_variables url} (λ p. refl)
    (ends_step (Some url) (λ p. rw class refl) ends))
