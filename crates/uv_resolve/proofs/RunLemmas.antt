-- The run of the URL parser on a valid text: with a scheme against every base, otherwise against a well-formed one.
use Rattle.std.proofs.Common.{ℕ, ◌+◌, ◌*◌, List, length, Option, Some, Result, Ok, Err, arith, inl, inr}
use Rattle.uv_model.specs.declared.profile.Profile.{Profile}
use Rattle.uv_model.specs.declared.profile.Profile.TheVariants.{Standard, Wide, Parser}
use Rattle.uv_model.specs.Records.Url.{Url}
use Rattle.uv_model.specs.Records.WellFormed.{MayBeWellFormed}
use Rattle.uv_model.proofs.Records.DenotedRecords.{denoted_records_are_well_formed}
use Rattle.uv_parser.specs.Laws.DecidedTexts.{IsDecided}
use Rattle.uv_resolve.specs.declared.fault.ResolveFault.{ResolveFault}
use Rattle.uv_resolve.specs.declared.fault.ResolveFault.TheVariants.{Refused, Memory}
use Rattle.uv_parser.proofs.Counting.DecidedSoon.{texts_are_decided_soon}
use Rattle.uv_parser.proofs.Silence.ValidSilent.{scheme_runs_silently, valid_by_parser, valid_runs_silently}
use Rattle.uv_resolve.specs.Laws.{ReferencesRunSilently, SchemeTextsRunSilently}
use Rattle.uv_resolve.specs.ParserAnswer.{AnswersAsParser, IsParserAnswer}
use Rattle.uv_model.specs.Parts.{Parts}
use Rattle.uv_model.specs.Records.Denote.{denote}
use Rattle.uv_model.specs.Valid.{Valid}
use Rattle.uv_resolve.specs.Resolve.{IsDenoted, IsResolved, RunsToItsRecord}

-- alone, or against a record
pub runs_to_its_record : (profile : Profile) (base : Option Url) (text : List ℕ) → MayBeWellFormed Parser base
    → RunsToItsRecord profile base text
runs_to_its_record profile base text well parts valid = record {
  runs = valid_runs_silently profile base text parts well valid;
  soon = (texts_are_decided_soon base text (2 * length text + 5) well (omega arith)).silent parts
      (valid_by_parser profile base text parts valid);
  well_formed = denoted_records_are_well_formed.widest profile base text parts well valid;
  by_profile = λ by_profile. denoted_records_are_well_formed.same profile base text parts by_profile valid;
}

-- what is answered under the parser's profile is what the parser does
parser_answers : (base : Option Url) (text : List ℕ) (result : Result Url ResolveFault) → IsDecided base text
    → IsResolved Parser base text result → IsParserAnswer base text result
parser_answers base text (Ok url) decided (parts, valid, same) = rw same (decided.silent parts valid)
parser_answers base text (Err (Refused refusal)) decided refused = elim decided.ended [
  | inl (parts, valid) ↦ absurd (refused.none parts valid)
  | inr stopped ↦ stopped
]
parser_answers base text (Err (Memory error)) decided resolved = tt

-- the URL that the parts of a valid text denote resolves it
pub denoted_resolves : (profile : Profile) (base : Option Url) (text : List ℕ) (parts : Parts)
    (result : Result Url ResolveFault) → Valid profile base text parts → IsDenoted (denote base parts) result
    → IsResolved profile base text result
denoted_resolves profile base text parts (Ok url) valid is = (parts, valid, is)
denoted_resolves profile base text parts (Err (Refused refusal)) valid is = absurd is
denoted_resolves profile base text parts (Err (Memory error)) valid is = tt

pub answers_as_parser : (profile : Profile) (base : Option Url) (text : List ℕ) (result : Result Url ResolveFault)
    → IsDecided base text → IsResolved profile base text result → AnswersAsParser profile base text result
answers_as_parser Standard base text result decided resolved = tt
answers_as_parser Wide base text result decided resolved = tt
answers_as_parser Parser base text result decided resolved = parser_answers base text result decided resolved

-- with a scheme
pub scheme_texts_run : SchemeTextsRunSilently
scheme_texts_run profile base text parts valid has = scheme_runs_silently profile base text parts valid has

-- without a scheme
pub references_run : ReferencesRunSilently
references_run profile base text parts well valid none = valid_runs_silently profile (Some base) text parts well valid
