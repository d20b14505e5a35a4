-- What a verdict asks of a base, after the URL Standard, sections 4.2 and 4.3.
use Rattle.std.specs.Prelude.{◌≡◌, ◌↔◌, ℕ, List, [], codes, IsTrue, Option, Some, None, option_map, if◌then◌else◌}
use Rattle.uv_model.specs.declared.host.Host.TheVariants.{Empty}
use Rattle.uv_model.specs.declared.path.UrlPath.TheVariants.{Opaque, Segments}
use Rattle.uv_model.specs.Records.Url.{Url, is_opaque}
use Rattle.uv_model.specs.Scheme.{default_port, scheme_class}
use Rattle.uv_grammar.specs.declared.bases.Base.{Base}
use Rattle.uv_grammar.specs.declared.bases.Base.TheVariants.{Whole, Kind}
use Rattle.uv_grammar.specs.declared.bases.BaseKind.{BaseKind}
use Rattle.uv_grammar.specs.declared.bases.BaseScheme.{BaseScheme}
use Rattle.uv_grammar.specs.declared.bases.BaseScheme.TheVariants.{Ftp, Http, Https, File, Other}

-- a scheme of the class and the default port
abbrev pub scheme_name : BaseScheme → List ℕ
scheme_name Ftp = codes "ftp"
scheme_name Http = codes "http"
scheme_name Https = codes "https"
scheme_name File = codes "file"
scheme_name Other = []

-- the class and the default port of the scheme are these
pub record IsOfScheme (scheme : List ℕ) (kind : BaseScheme) : Type 0 where
  pub class : scheme_class scheme ≡ scheme_class (scheme_name kind)
  pub port : default_port scheme ≡ default_port (scheme_name kind)

-- The base is of this kind: its scheme, whether its path is opaque, and whether its host is the empty one.
pub record IsOfKind (url : Url) (kind : BaseKind) : Type 0 where
  pub scheme : IsOfScheme url.scheme kind.scheme
  pub path : is_opaque url.path ≡ kind.has_opaque_path
  pub host : IsTrue kind.has_empty_host ↔ (url.host ≡ Some Empty)

-- a base of the kind
abbrev pub url_of_kind : BaseKind → Url
url_of_kind kind = record {
  scheme = scheme_name kind.scheme;
  host = if kind.has_empty_host then Some Empty else None;
  port = None;
  path = if kind.has_opaque_path then Opaque [] else Segments [];
  query = None;
  fragment = None;
}

-- the base by its record, or one of its kind
abbrev pub as_url : Base → Url
as_url (Whole base) = base.now
as_url (Kind kind) = url_of_kind kind

-- the base by its record, or one of its kind, where there is a base
abbrev pub as_base : Option Base → Option Url
as_base base = option_map as_url base
