-- The answer about a text that is to be mended, and what is written of it.
use Rattle.std.specs.Prelude.{◌≡◌, ℕ, ◌+◌, List, ◌++◌, Option, codes, string_bytes, take}
use Rattle.std.specs.Borrow.{Bor}
use Rattle.std.specs.Io.KnownBytes.{Appends}
use Rattle.uv_model.specs.declared.profile.Profile.{Profile}
use Rattle.uv_model.specs.Records.Url.{Url}
use Rattle.uv_mend.specs.declared.answer.Mending.{Mending}
use Rattle.uv_mend.specs.declared.answer.Mending.TheVariants as mending
use Rattle.uv_model.specs.MendKindName.{kind_name}
use Rattle.uv_mend.specs.Mending.{IsMending}
use Rattle.uv_resolve.specs.Base.{IsBase, IsBaseRefused}
use Rattle.uv_cli.specs.declared.fault.CliFault.TheVariants as cli
use Rattle.uv_cli.specs.declared.check.CheckEnd.{CheckEnd}
use Rattle.uv_cli.specs.declared.check.CheckEnd.TheVariants as check
use Rattle.uv_cli.specs.declared.ends.End.{End}
use Rattle.uv_cli.specs.declared.ends.End.TheVariants as end
use Rattle.uv_messages.specs.CheckText.{refused_text}
use Rattle.uv_cli.specs.Stream.{Stream}

-- what is printed of an answer: its name, and below it the mended text, or the line of the refusal
unfoldable pub mending_text : Mending → List ℕ
mending_text mending.Valid = codes "valid\n"
mending_text (mending.Mended text kind) =
    codes "mended " ++ (kind_name kind ++ (codes "\n" ++ (string_bytes text ++ codes "\n")))
mending_text (mending.Refused refusal) = codes "none\n" ++ refused_text refusal

-- the end that an answer gives: a valid text was found, or none
abbrev pub end_of_mending : Mending → CheckEnd
end_of_mending mending.Valid = check.Valid
end_of_mending (mending.Mended text kind) = check.Valid
end_of_mending (mending.Refused refusal) = check.Refused

-- what a command says of a text, by its bytes, against a URL as base, and how that ends
pub record SaysMending (profile : Profile) (base : Option Url) (text : List ℕ) (end : CheckEnd) (whole : List ℕ)
    : Type 0 where
  pub answer : Mending
  pub is_answer : IsMending profile base text answer
  pub ends : end ≡ end_of_mending answer
  pub says : whole ≡ mending_text answer

-- all that a command says of the text was written
pub record WritesMending (profile : Profile) (base : Option Url) (text : List ℕ) (end : CheckEnd)
    (old new : Option (List ℕ)) : Type 0 where
  pub whole : List ℕ
  pub says : SaysMending profile base text end whole
  pub wrote : Appends old new whole

-- a prefix of what a command says of the text was written
pub record WritesMendingPrefix (profile : Profile) (base : Option Url) (text : List ℕ)
    (old new : Option (List ℕ)) : Type 0 where
  pub end : CheckEnd
  pub whole : List ℕ
  pub says : SaysMending profile base text end whole
  pub count : ℕ
  pub wrote : Appends old new (take count whole)

-- what a command says of the text against the base's text was written, or the base is refused
abbrev pub HasWrittenMending
    : Profile → Option (Bor (List ℕ)) → List ℕ → CheckEnd → Option (List ℕ) → Option (List ℕ) → Type 0
HasWrittenMending profile base text (check.BaseRefused refusal) old new = IsBaseRefused profile base refusal
HasWrittenMending profile base text end old new =
    (url : Option Url) × IsBase profile base url × WritesMending profile url text end old new

-- a prefix of what a command says of the text against the base's text was written
abbrev pub HasWrittenMendingPrefix
    : Profile → Option (Bor (List ℕ)) → List ℕ → Option (List ℕ) → Option (List ℕ) → Type 0
HasWrittenMendingPrefix profile base text old new =
    (url : Option Url) × IsBase profile base url × WritesMendingPrefix profile url text old new

-- what was written of the text against the base's text, by how the run ended
abbrev pub HasMended : Profile → Option (Bor (List ℕ)) → List ℕ → End → Stream → Stream → Type 0
HasMended profile base text end.Valid old new =
    HasWrittenMending profile base text check.Valid old.bytes new.bytes × (new.failed ≡ old.failed)
HasMended profile base text end.Refused old new =
    HasWrittenMending profile base text check.Refused old.bytes new.bytes × (new.failed ≡ old.failed)
HasMended profile base text (end.BaseRefused refusal) old new =
    HasWrittenMending profile base text (check.BaseRefused refusal) old.bytes new.bytes × (new ≡ old)
HasMended profile base text (end.Fault cli.Memory) old new = new ≡ old
HasMended profile base text (end.Fault cli.Write) old new =
    HasWrittenMendingPrefix profile base text old.bytes new.bytes × (new.failed ≡ old.failed + 1)
HasMended profile base text _ old new = ⊥
