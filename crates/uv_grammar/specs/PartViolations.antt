-- The violations of the parts of a cut text, after the order of URL Standard, section 4.3.
use Rattle.std.specs.Prelude.{ℕ, ◌<◌, ◌^◌, ◌⊎◌, length}
use Rattle.uv_model.specs.declared.rule.Rule.{Rule}
use Rattle.uv_model.specs.Violations.Violation.{After, ContentViolation, MayBeUnitViolation, PathContentViolation}
use Rattle.uv_model.specs.Violations.Violation.{PathStartViolation}
use Rattle.uv_model.specs.Cut.{Cut, fragment_place, path_place, query_place, written_cut}
use Rattle.uv_model.specs.Setting.{Setting}

-- the violations of the path's start
abbrev pub OfPathStart : Setting → Cut → ℕ → Rule → Type 0
OfPathStart setting cut = After (path_place cut) (PathStartViolation setting cut)

-- the violations of what the path holds
abbrev pub OfPath : Setting → Cut → ℕ → Rule → Type 0
OfPath setting cut = After (path_place cut) (PathContentViolation setting cut)

-- the violations of the query
abbrev pub OfQuery : Cut → ℕ → Rule → Type 0
OfQuery cut = MayBeUnitViolation (query_place cut) cut.query

-- the violations of the fragment
abbrev pub OfFragment : Cut → ℕ → Rule → Type 0
OfFragment cut = MayBeUnitViolation (fragment_place cut) cut.fragment

-- the violations after the authority: of the path's start, and of what the path, the query and the fragment hold
abbrev pub AfterAuthority : Setting → Cut → ℕ → Rule → Type 0
AfterAuthority setting cut place rule = OfPathStart setting cut place rule ⊎ ContentViolation setting cut place rule

-- the text of the cut has fewer code points than a place can count
abbrev pub IsCountable : Cut → Type 0
IsCountable cut = length (written_cut cut) < 2 ^ 64
