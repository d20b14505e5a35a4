-- How the text of a URL is laid out (URL Standard, section 4.5), in bytes. The text is ASCII.
use Rattle.std.specs.Prelude.{◌≡◌, ℕ, ◌+◌, Bool, true, false, List, [], ◌++◌, codes, Option, Some, None, is_some}
use Rattle.std.specs.Prelude.{length, option_map, string_bytes}
use Rattle.uv_model.specs.declared.host.Host.{Host}
use Rattle.uv_model.specs.declared.host.Host.TheVariants as host
use Rattle.uv_model.specs.declared.path.UrlPath.{UrlPath}
use Rattle.uv_model.specs.Ascii.{question_mark}
use Rattle.uv_model.specs.Parts.{written_after}
use Rattle.uv_model.specs.Records.Serialize.{serial, serial_authority, serial_host, serial_path, serial_port}
use Rattle.uv_model.specs.Records.Url.{Url, is_opaque}
use Rattle.uv_resolve.specs.declared.layout.HostKind.{HostKind}
use Rattle.uv_resolve.specs.declared.layout.HostKind.TheVariants as kind
use Rattle.uv_resolve.specs.declared.layout.LaidUrl.{LaidUrl}
use Rattle.uv_resolve.specs.declared.layout.UrlLayout.{UrlLayout}

-- ---- what is between the scheme's `:` and the path

-- the host after `//`, where there is one
abbrev pub marked_host : Option Host → List ℕ
marked_host None = []
marked_host (Some host) = codes "//" ++ serial_host host

-- the port after `:`, where there is a host
abbrev pub marked_port : Bool → Option ℕ → List ℕ
marked_port false port = []
marked_port true port = serial_port port

-- `/.` before a path that would be read as an authority, if there is no host
abbrev pub dot_prefix : Bool → UrlPath → List ℕ
dot_prefix true path = []
dot_prefix false path = serial_authority None None path

-- ---- the layout

-- the kind of a host
abbrev pub kind_of : Host → HostKind
kind_of (host.Domain form) = kind.Domain
kind_of (host.V4 value) = kind.V4
kind_of (host.V6 pieces) = kind.V6
kind_of (host.Opaque text) = kind.Opaque
kind_of host.Empty = kind.Empty

-- the end of the host, after the scheme and its `:`
abbrev pub host_end : Url → ℕ
host_end url = length url.scheme + 1 + length (marked_host url.host)

-- the end of the port
abbrev pub port_end : Url → ℕ
port_end url = host_end url + length (marked_port (is_some url.host) url.port)

-- the start of the path
abbrev pub path_start : Url → ℕ
path_start url = port_end url + length (dot_prefix (is_some url.host) url.path)

-- the end of the path
abbrev pub path_end : Url → ℕ
path_end url = path_start url + length (serial_path url.path)

-- the end of the query
abbrev pub query_end : Url → ℕ
query_end url = path_end url + length (written_after question_mark url.query)

-- how the text of a URL is laid out
abbrev pub layout_of : Url → UrlLayout
layout_of url = record {
  scheme_end = length url.scheme;
  host_end = host_end url;
  port_end = port_end url;
  path_start = path_start url;
  path_end = path_end url;
  query_end = query_end url;
  host = option_map kind_of url.host;
  has_opaque_path = is_opaque url.path;
}

-- the text is the URL's, and is laid out so
pub record IsLaid (url : Url) (laid : LaidUrl) : Type 0 where
  pub text : string_bytes laid.text ≡ serial url
  pub layout : laid.layout ≡ layout_of url
