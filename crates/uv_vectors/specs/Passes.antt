-- When a case passes, by its profile.
use Rattle.std.specs.Prelude.{◌≡◌, ℕ, Bool, Decides, List, Option, Some, None}
use Rattle.std.specs.Str.{chars}
use Rattle.serde_json.specs.Data.{Data}
use Rattle.uv_model.specs.declared.profile.Profile.{Profile}
use Rattle.uv_model.specs.Records.Url.{Url}
use Rattle.uv_grammar.specs.Verdict.{IsRefused}
use Rattle.uv_resolve.specs.Resolve.{Denotes}
use Rattle.uv_resolve.specs.Resolve.{DenotesText}
use Rattle.uv_vectors.specs.Case.{Expectation, Vector, denotes, refuses, vector_of}

-- the input against a URL as base is as expected: it denotes a URL with that text, or has that refusal
abbrev pub IsAsExpected : Profile → Option Url → List ℕ → Expectation → Type 0
IsAsExpected profile base input (denotes text) = DenotesText profile base input text
IsAsExpected profile base input (refuses refusal) = IsRefused profile base (chars input) refusal

-- the input is as expected: alone, or against the URL that the base's text denotes by itself
abbrev pub PassesAgainst : Profile → Option (List ℕ) → List ℕ → Expectation → Type 0
PassesAgainst profile None input expected = IsAsExpected profile None input expected
PassesAgainst profile (Some base) input expected =
    (url : Url) × Denotes profile None (chars base) url × IsAsExpected profile (Some url) input expected

-- the case passes
abbrev pub Passes : Vector → Type 0
Passes vector = PassesAgainst vector.profile vector.base vector.input vector.expected

-- the value is a case that passes
abbrev pub ValuePasses : Data → Type 0
ValuePasses value = (vector : Vector) × (vector_of value ≡ Some vector) × Passes vector

-- the answer says whether the value is a case that passes
abbrev pub Checks : Data → Bool → Type 0
Checks value passed = Decides passed (ValuePasses value)
