-- A URL, after the URL Standard, section 4.1: its record without credentials.
use Rattle.std.specs.Prelude.{ℕ, Bool, true, false, List, Option}
use Rattle.uv_model.specs.declared.host.Host.{Host}
use Rattle.uv_model.specs.declared.path.UrlPath.{UrlPath}
use Rattle.uv_model.specs.declared.path.UrlPath.TheVariants.{Opaque, Segments}

-- the six fields, each text a list of its code points
pub record Url : Type 0 where
  pub scheme : List ℕ
  pub host : Option Host
  pub port : Option ℕ
  pub path : UrlPath
  pub query : Option (List ℕ)
  pub fragment : Option (List ℕ)

-- the path is an opaque text
abbrev pub is_opaque : UrlPath → Bool
is_opaque (Opaque text) = true
is_opaque (Segments list) = false
