-- On each valid text of any profile the parser is silent: it is one of the parser's profile.
use Rattle.std.proofs.Common.{◌≡◌, ℕ, Bool, true, List, Option, refl, subst}
use Rattle.uv_model.specs.declared.profile.Profile.{Profile}
use Rattle.uv_model.specs.declared.profile.Profile.TheVariants.{Standard, Wide, Parser}
use Rattle.uv_model.specs.Parts.{Parts, has_scheme}
use Rattle.uv_model.specs.Records.Url.{Url}
use Rattle.uv_model.specs.Valid.{FitsScheme, Valid}
use Rattle.uv_model.proofs.Hosts.ParserTexts.{wide_texts_are_parsers}
use Rattle.uv_model.proofs.Hosts.StandardTexts.{standard_texts_are_wide}
use Rattle.uv_parser.specs.Laws.Silence.{RunsSilently}
use Rattle.uv_parser.specs.Laws.ValidTexts.{ValidTextsRunSilently}
use Rattle.uv_parser.proofs.Done.DecidedBases.{texts_are_decided}
use Rattle.uv_parser.proofs.Done.DecidedTexts.{scheme_done}
use Rattle.uv_parser.proofs.Loops.SchemeStretch.{scheme_there}

-- a valid text of any profile is one of the parser's profile
pub valid_by_parser : (profile : Profile) (base : Option Url) (text : List ℕ) (parts : Parts)
    → Valid profile base text parts → Valid Parser base text parts
valid_by_parser Standard base text parts valid =
    wide_texts_are_parsers base text parts (standard_texts_are_wide base text parts valid)
valid_by_parser Wide base text parts valid = wide_texts_are_parsers base text parts valid
valid_by_parser Parser base text parts valid = valid

-- so the parser is silent on it
pub valid_runs_silently : ValidTextsRunSilently
valid_runs_silently profile base text parts well valid =
    (texts_are_decided base text well).silent parts (valid_by_parser profile base text parts valid)

-- a text with a scheme is checked alone, so that the base needn't be well formed
pub scheme_runs_silently : (profile : Profile) (base : Option Url) (text : List ℕ) (parts : Parts)
    → Valid profile base text parts
    → has_scheme parts.form ≡ true → RunsSilently base text parts
scheme_runs_silently profile base text parts valid has =
    let (scheme, named, is) = scheme_there parts.scheme
    (subst (λ (b : Bool). FitsScheme b parts.scheme) has valid.scheme) in
    scheme_done base text scheme parts parts.form (valid_by_parser profile base text parts valid) refl named
