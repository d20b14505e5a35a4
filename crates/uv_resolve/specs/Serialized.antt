-- The serialized URL of a text (URL Standard, sections 4.3 to 4.5).
use Rattle.std.specs.Prelude.{ℕ, List, Option, Result, Ok, Err, String, string_bytes}
use Rattle.std.specs.Str.{chars}
use Rattle.std.specs.declared.alloc.Global.{Global}
use Rattle.uv_model.specs.declared.profile.Profile.{Profile}
use Rattle.uv_model.specs.Records.Url.{Url}
use Rattle.uv_grammar.specs.Verdict.{IsRefused}
use Rattle.uv_resolve.specs.Layout.{IsLaid}
use Rattle.uv_resolve.specs.Resolve.{Denotes, DenotesText}
use Rattle.uv_resolve.specs.declared.layout.LaidUrl.{LaidUrl}
use Rattle.uv_resolve.specs.declared.fault.ResolveFault.{ResolveFault}
use Rattle.uv_resolve.specs.declared.fault.ResolveFault.TheVariants.{Refused, Memory}

-- the serialized URL that a valid text, given by its bytes, denotes, or the least violation of a text that is valid
-- with no parts; a call out of memory is left open
abbrev pub IsSerialized : Profile → Option Url → List ℕ → Result (String Global) ResolveFault → Type 0
IsSerialized profile base bytes (Ok written) = DenotesText profile base bytes (string_bytes written)
IsSerialized profile base bytes (Err (Refused refusal)) = IsRefused profile base (chars bytes) refusal
IsSerialized profile base bytes (Err (Memory error)) = Unit {0}

-- so is that URL, and how it is laid out
abbrev pub IsLaidAnswer : Profile → Option Url → List ℕ → Result LaidUrl ResolveFault → Type 0
IsLaidAnswer profile base bytes (Ok laid) = (url : Url) × Denotes profile base (chars bytes) url × IsLaid url laid
IsLaidAnswer profile base bytes (Err (Refused refusal)) = IsRefused profile base (chars bytes) refusal
IsLaidAnswer profile base bytes (Err (Memory error)) = Unit {0}
