-- What is after the host of a mended text: it has the path, query and fragment of the refused text but for escapes,
-- slashes and `/.`.
use Rattle.std.specs.Prelude.{◌≡◌, ◌⊎◌, ℕ, Bool, true, false, ◌&&◌, ◌==◌, List, [], ◌∷◌, ◌++◌, Option, Some, None}
use Rattle.uv_model.specs.declared.profile.Profile.{Profile}
use Rattle.uv_model.specs.declared.rule.Refusal.{Refusal}
use Rattle.uv_model.specs.Ascii.{slash, full_stop}
use Rattle.uv_model.specs.Cut.{cut_of, starts_with_two_slashes}
use Rattle.uv_model.specs.Records.Url.{Url}
use Rattle.uv_model.specs.Violations.Violation.{Violation}
use Rattle.uv_mend.specs.Escapes.{IsEscapingOf}
use Rattle.uv_mend.specs.Prefixes.{after_authority, after_scheme}
use Rattle.uv_mend.specs.Slashes.{slashed}
use Rattle.uv_mend.specs.Stripped.{stripped}

-- the other path is this one, in which some code points are written as their escapes, or `/.` and that
abbrev pub IsPathOf : List ℕ → List ℕ → Type 0
IsPathOf path other =
    IsEscapingOf path other ⊎ ((after : List ℕ) × (other ≡ slash ∷ full_stop ∷ after) × IsEscapingOf path after)

-- the other query or fragment is this one, in which some code points are written as their escapes, or both are absent
abbrev pub MayBeEscapingOf : Option (List ℕ) → Option (List ℕ) → Type 0
MayBeEscapingOf None other = other ≡ None
MayBeEscapingOf (Some text) other = (after : List ℕ) × (other ≡ Some after) × IsEscapingOf text after

-- After the host a mended text has the parts of the refused text without what the parser takes off: the path with its
-- slashes as they are read, and `/.` may be before it; in each part some code points are written as escapes, and all
-- others stay.
pub record KeepsTheRest (base : Option Url) (text mended : List ℕ) : Type 0 where
  pub path : IsPathOf (cut_of base (slashed base (stripped text))).path_text (cut_of base mended).path_text
  pub query : MayBeEscapingOf (cut_of base (stripped text)).query (cut_of base mended).query
  pub fragment : MayBeEscapingOf (cut_of base (stripped text)).fragment (cut_of base mended).fragment

-- ---- the edits by a rule

-- what is after the scheme and the authority
abbrev pub rest_of : List ℕ → List ℕ
rest_of text = after_authority (after_scheme text)

-- a text with an authority has the rest of the other
abbrev pub KeepsRestAfterHost : List ℕ → List ℕ → Type 0
KeepsRestAfterHost text other = starts_with_two_slashes (after_scheme text) ≡ true → rest_of other ≡ rest_of text

-- the text begins with `/.`
abbrev pub starts_with_dot : List ℕ → Bool
starts_with_dot (c ∷ d ∷ rest) = (c == slash) && (d == full_stop)
starts_with_dot _ = false

-- the other text has the same rest; or `/.` before it, where it doesn't begin so
abbrev pub HasRestOf : List ℕ → List ℕ → Type 0
HasRestOf text other =
    (rest_of other ≡ rest_of text)
    ⊎ ((starts_with_dot (rest_of text) ≡ false) × (rest_of other ≡ slash ∷ full_stop ∷ rest_of text))

-- the edit of a text that is refused so has such a rest
abbrev pub EditHasRestOf : Option Url → Refusal → List ℕ → List ℕ → Type 0
EditHasRestOf base refusal text other =
    (profile : Profile) → Violation profile base text refusal.place refusal.rule → HasRestOf text other
