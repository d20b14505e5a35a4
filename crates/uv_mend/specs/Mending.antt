-- What is answered of a text that is to be mended.
use Rattle.std.specs.Prelude.{ℕ, List, Option, Some, None, chars, string_bytes}
use Rattle.uv_model.specs.declared.profile.Profile.{Profile}
use Rattle.uv_model.specs.Records.Url.{Url}
use Rattle.uv_grammar.specs.Verdict.{IsRefused}
use Rattle.uv_mend.specs.declared.answer.Mending.{Mending}
use Rattle.uv_mend.specs.declared.answer.Mending.TheVariants as answer
use Rattle.uv_model.specs.declared.mend_kind.MendKind.{MendKind}
use Rattle.uv_mend.specs.Edits.{cleaned}
use Rattle.uv_mend.specs.Kinds.{IsKind}
use Rattle.uv_mend.specs.Repairs.{IsValid, Repairs}
use Rattle.uv_mend.specs.Rest.{KeepsTheRest}

-- what the cleaned text and at most two edits give, where any does
abbrev pub IsRepaired : Profile → Option Url → List ℕ → Option (List ℕ) → Type 0
IsRepaired profile base text answer = Repairs 2 profile base (cleaned base text) answer

-- a mended text, by its bytes, of a text that isn't valid
pub record IsMended (profile : Profile) (base : Option Url) (text mended : List ℕ) (kind : MendKind) : Type 0 where
  pub refused : ¬ (IsValid profile base (chars text))
  pub valid : IsValid profile base (chars mended)
  pub repaired : IsRepaired profile base (chars text) (Some (chars mended))
  pub kind_is : IsKind base text mended kind
  pub rest : KeepsTheRest base (chars text) (chars mended)

-- What is answered of a text, by its bytes: it is valid; or it isn't, and the edits give a valid text, of this kind; or
-- they give none, and this is the least of what is wrong with the text.
abbrev pub IsMending : Profile → Option Url → List ℕ → Mending → Type 0
IsMending profile base text answer.Valid = IsValid profile base (chars text)
IsMending profile base text (answer.Mended mended kind) = IsMended profile base text (string_bytes mended) kind
IsMending profile base text (answer.Refused refusal) =
    IsRefused profile base (chars text) refusal × IsRepaired profile base (chars text) None
