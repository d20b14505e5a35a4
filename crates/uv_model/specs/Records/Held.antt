-- Texts that are in a value or in an allocation.
use Rattle.std.specs.Prelude.{ℕ, List, string_bytes}
use Rattle.uv_model.specs.declared.held.Held.{Held}
use Rattle.uv_model.specs.declared.held.Held.TheVariants.{Short, Long}

-- the bytes of such a text
abbrev pub held_text : {room : ℕ} → Held room → List ℕ
held_text (Short text) = text.bytes
held_text (Long text) = string_bytes text
