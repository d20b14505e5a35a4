-- How a mended text is to the refused one.
use Rattle.std.specs.Prelude.{◌≡◌, ◌≢◌, ℕ, List, Option, chars}
use Rattle.uv_model.specs.Records.Url.{Url}
use Rattle.uv_model.specs.declared.mend_kind.MendKind.{MendKind}
use Rattle.uv_model.specs.declared.mend_kind.MendKind.TheVariants.{Same, Escaped, Changed}
use Rattle.uv_mend.specs.Escapes.{IsEscapingOf, escaped}
use Rattle.uv_compare.specs.Second.{ReadsSame}

-- The mended text is of this kind, where both are given by their bytes: the second parser reads both as one URL;
-- otherwise the mended text is the refused one with what isn't a unit written as escapes, and nothing else; otherwise
-- it is changed.
abbrev pub IsKind : Option Url → List ℕ → List ℕ → MendKind → Type 0
IsKind base text mended Same = ReadsSame base text mended
IsKind base text mended Escaped =
    ¬ (ReadsSame base text mended) × (chars mended ≡ escaped (chars text)) × IsEscapingOf (chars text) (chars mended)
IsKind base text mended Changed = ¬ (ReadsSame base text mended) × (chars mended ≢ escaped (chars text))
