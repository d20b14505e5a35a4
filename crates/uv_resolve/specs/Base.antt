-- The URL that a base's text denotes by itself, where there is a base.
use Rattle.std.specs.Prelude.{◌≡◌, List, ℕ, Option, Some, None, Result, Ok, Err}
use Rattle.std.specs.Borrow.{Bor}
use Rattle.std.specs.Str.{chars}
use Rattle.uv_model.specs.declared.profile.Profile.{Profile}
use Rattle.uv_model.specs.declared.rule.Refusal.{Refusal}
use Rattle.uv_model.specs.Parts.{Parts}
use Rattle.uv_model.specs.Records.Denote.{denote}
use Rattle.uv_model.specs.Records.Url.{Url}
use Rattle.uv_model.specs.Valid.{Valid}
use Rattle.uv_grammar.specs.Verdict.{IsRefused}
use Rattle.uv_resolve.specs.declared.fault.ResolveFault.{ResolveFault}
use Rattle.uv_resolve.specs.declared.fault.ResolveFault.TheVariants.{Refused, Memory}
use Rattle.uv_resolve.specs.Resolve.{IsRefusedWithoutMemory}

-- the base: none, or the URL that its text denotes by itself
abbrev pub IsBase : Profile → Option (Bor (List ℕ)) → Option Url → Type 0
IsBase profile None base = base ≡ None
IsBase profile (Some text) base =
    (parts : Parts) × Valid profile None (chars text.now) parts × (base ≡ Some (denote None parts))

-- the base's text is refused by this refusal
abbrev pub IsBaseRefused : Profile → Option (Bor (List ℕ)) → Refusal → Type 0
IsBaseRefused profile None refusal = ⊥
IsBaseRefused profile (Some text) refusal = IsRefused profile None (chars text.now) refusal

-- the base, or why it is refused; out of memory is said of a text alone, and of none that is refused without memory
abbrev pub IsBaseResolved : Profile → Option (Bor (List ℕ)) → Result (Option Url) ResolveFault → Type 0
IsBaseResolved profile text (Ok base) = IsBase profile text base
IsBaseResolved profile text (Err (Refused refusal)) = IsBaseRefused profile text refusal
IsBaseResolved profile None (Err (Memory error)) = ⊥
IsBaseResolved profile (Some text) (Err (Memory error)) = ¬ (IsRefusedWithoutMemory profile None (chars text.now))
