-- The laws that public functions carry, after the URL Standard, section 4.3.
use Rattle.std.specs.Prelude.{◌≡◌, ℕ, List, ◌++◌, Option}
use Rattle.uv_model.specs.declared.profile.Profile.{Profile}
use Rattle.uv_model.specs.Ascii.{number_sign, question_mark}
use Rattle.uv_model.specs.Parts.{Parts, written_after, written_authority, written_scheme}
use Rattle.uv_model.specs.Records.Url.{Url}
use Rattle.uv_model.specs.Valid.{Valid}

-- A valid text is its scheme and `:`, then `//`, its host's text, `:` and its port's text, then its path's text,
-- `?` and its query, `#` and its fragment, each where it is present.
abbrev pub PartsAreTheText : Type 0
PartsAreTheText =
    (profile : Profile) (base : Option Url) (text : List ℕ) (parts : Parts) → Valid profile base text parts
    → text ≡ written_scheme parts.scheme ++ (written_authority parts.host_text parts.port_text ++ (parts.path_text
    ++ (written_after question_mark parts.query ++ written_after number_sign parts.fragment)))
