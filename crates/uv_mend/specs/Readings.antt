-- Laws of the edits by what the URL parser passes over: how the crate `url`, whose contract says what it makes of each
-- text, reads the edited text.
use Rattle.std.specs.Prelude.{◌≡◌, ℕ, Bool, true, ◌&&◌, List, Option, Some, None, encode_utf8_all, is_some}
use Rattle.url.specs.declared.scheme.SchemeType.{SchemeType}
use Rattle.url.specs.declared.scheme.SchemeType.TheVariants as kind
use Rattle.url.specs.Input.{lowercase}
use Rattle.url.specs.Parser.{base_for_scheme, parse_url}
use Rattle.url.specs.Parts.{Parts, kind_of}
use Rattle.uv_model.specs.declared.scheme.Class.{Class}
use Rattle.uv_model.specs.declared.scheme.Class.TheVariants as class
use Rattle.uv_model.specs.Records.Url.{Url}
use Rattle.uv_model.specs.Scheme.{starts_with_scheme}
use Rattle.uv_mend.specs.declared.prefixes.Stop.TheVariants.{Scheme}
use Rattle.uv_mend.specs.Prefixes.{after_scheme, before, class_of_base}
use Rattle.uv_mend.specs.Stripped.{stripped}
use Rattle.uv_mend.specs.Slashes.{slashed, starts_with_two_marks}

-- Against each base of its own and without one, the second parser makes of each text what it makes of the text without
-- what the URL parser takes off: the same URL, or the same error.
abbrev pub StrippedTextsAreReadAlike : Type 0
StrippedTextsAreReadAlike =
    (base : Option Parts) (text : List ℕ)
    → parse_url base (encode_utf8_all (stripped text)) ≡ parse_url base (encode_utf8_all text)

-- ---- slashes

-- the class of schemes of that kind
abbrev pub class_of_kind : SchemeType → Class
class_of_kind kind.File = class.File
class_of_kind kind.SpecialNotFile = class.SpecialNotFile
class_of_kind kind.NotSpecial = class.Other

-- the class of the scheme of a base of the second parser, or Other
abbrev pub class_of_own : Option Parts → Class
class_of_own None = class.Other
class_of_own (Some base) = class_of_kind (kind_of base)

-- The text has the special scheme of the base: the URL parser then reads it as one without a scheme, unless two slash
-- marks follow.
abbrev pub has_scheme_of : Option Parts → List ℕ → Bool
has_scheme_of base text = starts_with_scheme text && is_some (base_for_scheme base (lowercase (before Scheme text)))

-- a text with the special scheme of the base has two slash marks after it
abbrev pub KeepsItsSlashes : Option Parts → List ℕ → Type 0
KeepsItsSlashes base text = has_scheme_of base text ≡ true → starts_with_two_marks (after_scheme text) ≡ true

-- Against each base of its own and without one, the second parser makes of each text what it makes of the text with its
-- slashes as they are read, unless the text has the base's scheme and fewer than two slash marks after that. The
-- record of the base, by which the slashes are written, has a scheme of the same class.
abbrev pub SlashedTextsAreReadAlike : Type 0
SlashedTextsAreReadAlike =
    (record_of : Option Url) (base : Option Parts) → class_of_base record_of ≡ class_of_own base → (text : List ℕ)
    → KeepsItsSlashes base (stripped text)
    → parse_url base (encode_utf8_all (slashed record_of (stripped text))) ≡ parse_url base (encode_utf8_all text)
