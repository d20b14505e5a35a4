-- What is answered under the parser's profile is what the URL parser does (URL Standard, section 4.4).
use Rattle.std.specs.Prelude.{◌≡◌, ℕ, List, Option, Result, Ok, Err}
use Rattle.uv_model.specs.declared.profile.Profile.{Profile}
use Rattle.uv_model.specs.declared.profile.Profile.TheVariants.{Parser}
use Rattle.uv_model.specs.Records.Url.{Url}
use Rattle.uv_parser.specs.Run.{Done, Stopped, run, step_bound}
use Rattle.uv_resolve.specs.declared.fault.ResolveFault.{ResolveFault}
use Rattle.uv_resolve.specs.declared.fault.ResolveFault.TheVariants.{Refused, Memory}

-- the record is the one in which the parser's run ends without an error, and a text is refused where the run stops at
-- one; a call out of memory is left open
abbrev pub IsParserAnswer : Option Url → List ℕ → Result Url ResolveFault → Type 0
IsParserAnswer base text (Ok url) = run base text (step_bound text) ≡ Done url
IsParserAnswer base text (Err (Refused refusal)) = (place : ℕ) × (run base text (step_bound text) ≡ Stopped place)
IsParserAnswer base text (Err (Memory error)) = Unit {0}

-- so it is answered under the parser's profile
abbrev pub AnswersAsParser : Profile → Option Url → List ℕ → Result Url ResolveFault → Type 0
AnswersAsParser Parser base text result = IsParserAnswer base text result
AnswersAsParser _ base text result = Unit {0}
