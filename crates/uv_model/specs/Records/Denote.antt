-- The URL that the parts of a text denote, after the URL Standard, section 4.4, row by row of the forms.
use Rattle.std.specs.Prelude.{ℕ, Bool, true, false, not, ◌&&◌, ◌||◌, ◌==◌, List, [], ◌∷◌, codes, Option, Some, None}
use Rattle.std.specs.Prelude.{is_some, option_map, if◌then◌else◌}
use Rattle.uv_model.specs.declared.scheme.Class.{Class}
use Rattle.uv_model.specs.declared.scheme.Class.TheVariants.{File, Other}
use Rattle.uv_model.specs.declared.host.Host.{Host}
use Rattle.uv_model.specs.declared.host.Host.TheVariants as host
use Rattle.uv_model.specs.declared.path.UrlPath.{UrlPath}
use Rattle.uv_model.specs.declared.path.UrlPath.TheVariants.{Opaque, Segments}
use Rattle.uv_model.specs.Ascii.{space}
use Rattle.uv_model.specs.Encoding.{encoded}
use Rattle.uv_model.specs.Path.{is_drive_letter, is_normalized_drive_letter, shorten, walk}
use Rattle.uv_model.specs.Scheme.{lowercase, scheme_class}
use Rattle.uv_model.specs.Records.Url.{Url}
use Rattle.uv_model.specs.Parts.{Form, SchemeAuthority, SchemePath, SchemeOpaque, Authority, PathAbsolute}
use Rattle.uv_model.specs.Parts.{PathRelative, NoPath, Parts}
use Rattle.uv_model.specs.Valid.{scheme_in}

-- the scheme of the text in lower case, otherwise the base's
abbrev pub denoted_scheme : Option Url → Option (List ℕ) → List ℕ
denoted_scheme base (Some scheme) = lowercase scheme
denoted_scheme (Some url) None = url.scheme
denoted_scheme None None = []

-- the host of an authority: its value, otherwise its text as an opaque host
abbrev pub authority_host : Parts → Option Host
authority_host parts = host_or parts.host
  where
    host_or : Option Host → Option Host
    host_or (Some value) = Some value
    host_or None = option_map (λ text. host.Opaque (encoded false text)) parts.host_text

-- the base's host
abbrev pub base_host : Option Url → Option Host
base_host None = None
base_host (Some base) = base.host

-- the base's port
abbrev pub base_port : Option Url → Option ℕ
base_port None = None
base_port (Some base) = base.port

-- the base's path
abbrev pub base_path : Option Url → UrlPath
base_path None = Segments []
base_path (Some base) = base.path

-- the base's query
abbrev pub base_query : Option Url → Option (List ℕ)
base_query None = None
base_query (Some base) = base.query

-- the segments of a path that isn't opaque
abbrev pub listed_segments : UrlPath → List (List ℕ)
listed_segments (Segments list) = list
listed_segments (Opaque text) = []

-- the path after an authority: a URL of class SpecialNotFile or File has one segment at least
abbrev pub authority_path : Class → List (List ℕ) → List (List ℕ)
authority_path Other [] = []
authority_path class [] = [] ∷ []
authority_path class (segment ∷ rest) = walk class [] (segment ∷ rest)

-- the base's drive letter, which a path-absolute reference to a file base keeps unless it has its own
abbrev pub kept_drive : Class → List (List ℕ) → List (List ℕ) → List (List ℕ)
kept_drive File (drive ∷ others) (first ∷ rest) =
    if is_normalized_drive_letter drive && not (is_drive_letter first) then drive ∷ [] else []
kept_drive _ _ _ = []

-- a query or a fragment is after the path
abbrev pub has_tail : Parts → Bool
has_tail parts = is_some parts.query || is_some parts.fragment

-- an opaque path, in which a space at the end is `%20` if `?` or `#` follows it (section 4.4, opaque path state)
abbrev pub end_escaped : Bool → List ℕ → List ℕ
end_escaped followed [] = []
end_escaped followed (c ∷ []) = if (c == space) && followed then codes "%20" else c ∷ []
end_escaped followed (c ∷ next ∷ rest) = c ∷ end_escaped followed (next ∷ rest)

-- the path by the form
abbrev pub denoted_path : Option Url → Class → Form → Parts → UrlPath
denoted_path base class SchemeAuthority parts = Segments (authority_path class parts.segments)
denoted_path base class SchemePath parts = Segments (walk class [] parts.segments)
denoted_path base class SchemeOpaque parts = Opaque (encoded false (end_escaped (has_tail parts) parts.path_text))
denoted_path base class Authority parts = Segments (authority_path class parts.segments)
denoted_path base class PathAbsolute parts =
    Segments (walk class (kept_drive class (listed_segments (base_path base)) parts.segments) parts.segments)
denoted_path base class PathRelative parts =
    Segments (walk class (shorten class (listed_segments (base_path base))) parts.segments)
denoted_path base class NoPath parts = base_path base

-- the host by the form
abbrev pub denoted_host : Option Url → Form → Parts → Option Host
denoted_host base SchemeAuthority parts = authority_host parts
denoted_host base SchemePath parts = None
denoted_host base SchemeOpaque parts = None
denoted_host base Authority parts = authority_host parts
denoted_host base _ parts = base_host base

-- the port by the form
abbrev pub denoted_port : Option Url → Form → Parts → Option ℕ
denoted_port base SchemeAuthority parts = parts.port
denoted_port base SchemePath parts = None
denoted_port base SchemeOpaque parts = None
denoted_port base Authority parts = parts.port
denoted_port base _ parts = base_port base

-- in a query of a URL of class SpecialNotFile or File `'` is encoded too
abbrev pub quotes : Class → Bool
quotes Other = false
quotes _ = true

-- the query: the text's, or in a reference without a path the base's
abbrev pub denoted_query : Option Url → Class → Form → Option (List ℕ) → Option (List ℕ)
denoted_query base class form (Some query) = Some (encoded (quotes class) query)
denoted_query base class NoPath None = base_query base
denoted_query base class _ None = None

-- the URL that the parts denote against the base
unfoldable pub denote : Option Url → Parts → Url
denote base parts =
    let class = scheme_class (scheme_in base parts) in
    record {
      scheme = denoted_scheme base parts.scheme;
      host = denoted_host base parts.form parts;
      port = denoted_port base parts.form parts;
      path = denoted_path base class parts.form parts;
      query = denoted_query base class parts.form parts.query;
      fragment = option_map (encoded false) parts.fragment;
    }
