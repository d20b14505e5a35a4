-- The host texts of special and file URLs at which the URL parser stops before its host parser reads them (URL
-- Standard, section 4.4).
use Rattle.std.specs.Prelude.{ℕ, Bool, false, ◌&&◌, ◌||◌, ◌==◌, nat_le, List, [], ◌∷◌}
use Rattle.std.specs.List.{list_any}
use Rattle.uv_model.specs.declared.profile.Profile.{Profile}
use Rattle.uv_model.specs.declared.profile.Profile.TheVariants.{Parser}
use Rattle.uv_model.specs.declared.scheme.Class.{Class}
use Rattle.uv_model.specs.declared.scheme.Class.TheVariants.{SpecialNotFile, File}
use Rattle.uv_model.specs.Ascii.{at_sign, backslash}
use Rattle.uv_model.specs.Path.{is_drive_letter}
use Rattle.uv_model.specs.Removed.{is_tab_or_newline}

-- the code point stops the parser within a host: `\`, a tab or a newline, and in class SpecialNotFile `@`
abbrev pub is_stopping : Class → ℕ → Bool
is_stopping SpecialNotFile c = (c == at_sign) || ((c == backslash) || is_tab_or_newline c)
is_stopping _ c = (c == backslash) || is_tab_or_newline c

-- the last code point is a C0 control or a space
abbrev pub ends_with_control : List ℕ → Bool
ends_with_control [] = false
ends_with_control (c ∷ []) = nat_le c 0x20
ends_with_control (c ∷ next ∷ rest) = ends_with_control (next ∷ rest)

-- the text has a code point that stops the parser, or ends with one that is removed where the whole text ends
abbrev pub has_stop : Class → Bool → List ℕ → Bool
has_stop class last text = list_any (is_stopping class) text || (last && ends_with_control text)

-- The parser stops at the host. In class File a drive letter is the begin of a path. Under the profiles that are
-- written out no such text is a host, so that they needn't ask; `last` says that nothing of the text follows the host.
abbrev pub is_stopped : Profile → Class → Bool → List ℕ → Bool
is_stopped Parser SpecialNotFile last text = has_stop SpecialNotFile last text
is_stopped Parser File last text = is_drive_letter text || has_stop File last text
is_stopped _ _ _ _ = false
