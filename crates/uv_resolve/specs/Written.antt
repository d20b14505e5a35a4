-- The text of a URL, written part by part (URL Standard, section 4.5).
use Rattle.std.specs.Prelude.{◌≡◌, ◌⊎◌, ℕ, ◌+◌, Bool, true, false, List, [], ◌∷◌, ◌++◌, Option, None, length}
use Rattle.std.specs.Prelude.{option_map}
use Rattle.std.specs.Str.{chars}
use Rattle.uv_model.specs.declared.host.Host.{Host}
use Rattle.uv_model.specs.declared.path.UrlPath.{UrlPath}
use Rattle.uv_model.specs.declared.path.UrlPath.TheVariants.{Segments}
use Rattle.uv_model.specs.declared.scheme.Class.{Class}
use Rattle.uv_model.specs.Ascii.{colon, slash}
use Rattle.uv_model.specs.Encoding.{encoded}
use Rattle.uv_model.specs.Parts.{Parts}
use Rattle.uv_model.specs.Path.{starts_with_slash}
use Rattle.uv_model.specs.Records.Denote.{authority_path, denoted_path}
use Rattle.uv_model.specs.Records.PathText.{IsTextOf}
use Rattle.uv_model.specs.Records.Serialize.{serial_authority, serial_path, serial_segments}
use Rattle.uv_model.specs.Records.Url.{Url}
use Rattle.uv_resolve.specs.declared.layout.HostKind.{HostKind}
use Rattle.uv_resolve.specs.Kept.{has_no_dots}
use Rattle.uv_resolve.specs.Layout.{dot_prefix, kind_of, marked_host}

-- after what was written the scheme's `:` and the host are, and it is told of which kind the host is
pub record IsWrittenHost (host : Option Host) (old new : List ℕ) (kind : Option HostKind) : Type 0 where
  pub kind_is : kind ≡ option_map kind_of host
  pub written : new ≡ old ++ (colon ∷ marked_host host)

-- after what was written the path is, and it is told where it starts, after the `/.` that it may need
pub record IsWrittenPath (has_host : Bool) (path : UrlPath) (old new : List ℕ) (start : ℕ) : Type 0 where
  pub starts : start ≡ length old + length (dot_prefix has_host path)
  pub written : new ≡ old ++ (dot_prefix has_host path ++ serial_path path)

-- a text that begins with one `/`, and of which no segment begins as a dot segment does
pub record IsSlashed (text : List ℕ) : Type 0 where
  pub rest : List ℕ
  pub begins : text ≡ slash ∷ rest
  pub once : starts_with_slash rest ≡ false
  pub no_dots : has_no_dots false text ≡ true

-- such a text after an authority, or in place of none the text of the path that a URL of this class then has
abbrev pub IsRooted : Class → List ℕ → List ℕ → Type 0
IsRooted class text found =
    ((text ≡ []) × (found ≡ serial_segments (authority_path class [])))
    ⊎ ((chars found ≡ text) × IsSlashed text)

-- the path of the parts, against any base, is one of segments whose text is the encoding of this, and needs no `/.`
-- before it
pub record IsWholePath (class : Class) (parts : Parts) (text : List ℕ) : Type 0 where
  pub segments : List (List ℕ)
  pub denoted : (base : Option Url) → denoted_path base class parts.form parts ≡ Segments segments
  pub written : IsTextOf segments (encoded false text)
  pub unmarked : serial_authority None None (Segments segments) ≡ []
