-- The edits of a text by what the URL parser passes over, and those by the rule that a text then still violates.
use Rattle.std.specs.Prelude.{ℕ, ◌-◌, List, ◌∷◌, ◌++◌, take, drop, Option, Some, None}
use Rattle.uv_model.specs.declared.rule.Refusal.{Refusal}
use Rattle.uv_model.specs.declared.rule.Rule.{Rule}
use Rattle.uv_model.specs.declared.rule.Rule.TheVariants.{HostDomain, HostNumber, HostIpv6, HostCodePoint}
use Rattle.uv_model.specs.declared.rule.Rule.TheVariants.{FirstSegmentEmpty, DriveAfterHost}
use Rattle.uv_model.specs.Ascii.{slash, full_stop}
use Rattle.uv_model.specs.Records.Url.{Url}
use Rattle.uv_mend.specs.Escapes.{escaped}
use Rattle.uv_mend.specs.Hosts.{rehosted}
use Rattle.uv_mend.specs.Stripped.{stripped}
use Rattle.uv_mend.specs.Slashes.{slashed}

-- the text without what the parser takes off, with its slashes as they are read, and with escapes
unfoldable pub cleaned : Option Url → List ℕ → List ℕ
cleaned base text = escaped (slashed base (stripped text))

-- the text with `/.` before the code point at the place: a segment that the parser walks past
unfoldable pub dotted : ℕ → List ℕ → List ℕ
dotted place text = take place text ++ (slash ∷ full_stop ∷ drop place text)

-- The edit of a text that is refused so: its host as the second parser writes it; `/.` before a path that begins with
-- an empty segment or a drive letter. By every other rule there is none.
abbrev pub edit_at : Option Url → List ℕ → ℕ → Rule → Option (List ℕ)
edit_at base text place HostDomain = rehosted base text
edit_at base text place HostNumber = rehosted base text
edit_at base text place HostIpv6 = rehosted base text
edit_at base text place HostCodePoint = rehosted base text
edit_at base text place FirstSegmentEmpty = Some (dotted (place - 1) text)
edit_at base text place DriveAfterHost = Some (dotted place text)
edit_at base text place _ = None

-- the edit of a text with this refusal, where there is one
unfoldable pub edit_of : Option Url → List ℕ → Refusal → Option (List ℕ)
edit_of base text refusal = edit_at base text refusal.place refusal.rule
