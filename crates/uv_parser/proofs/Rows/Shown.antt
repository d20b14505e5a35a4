-- What a run gives, with its texts as one reads them: a help for trying a text of one's own.
use Rattle.std.specs.Prelude.{ℕ, ◌-◌, List, [], ◌∷◌, ◌++◌, map, drop, codes, Option, option_map}
use Prim.Native.Char.{Char}
use Prim.Native.String.{String as Literal}
use Prim.Native.String.{[] as no_characters, ◌∷◌ as ◌then◌}
use Rattle.uv_model.specs.declared.host.Host.{Host}
use Rattle.uv_model.specs.declared.host.Host.TheVariants as host
use Rattle.uv_model.specs.declared.path.UrlPath.{UrlPath}
use Rattle.uv_model.specs.declared.path.UrlPath.TheVariants.{Opaque, Segments}
use Rattle.uv_parser.specs.Run.{Outcome, Done, Stopped, Going, run, step_bound}
use Rattle.uv_model.specs.Records.Serialize.{serial}
use Rattle.uv_model.specs.Records.Url.{Url}

-- the characters of a literal
abbrev characters : Literal → List Char
characters no_characters = []
characters (c then text) = c ∷ characters text

-- the first character, or `?` if there is none
abbrev first_of : List Char → Char
first_of [] = "?"
first_of (c ∷ rest) = c

-- a text as a literal, from a list of the characters from U+0020 on
abbrev spelled : List Char → List ℕ → Literal
spelled visible [] = ""
spelled visible (c ∷ rest) = first_of (drop (c - 32) visible) then spelled visible rest

-- the visible ASCII characters, from U+0020 on
abbrev visible_characters : List Char
visible_characters =
    characters " !\"#$%&'()*+,-./0123456789:;<=>?@"
    ++ characters "ABCDEFGHIJKLMNOPQRSTUVWXYZ[\\]^_`abcdefghijklmnopqrstuvwxyz{|}~"

-- a text of visible ASCII characters as a literal
abbrev literal : List ℕ → Literal
literal text = spelled visible_characters text

-- a host, with its texts as literals
pub data ShownHost : Type 0 where
  domain : Literal → ShownHost
  ipv4 : ℕ → ShownHost
  ipv6 : List ℕ → ShownHost
  opaque_host : Literal → ShownHost
  empty_host : ShownHost

-- the host with its texts as literals
abbrev shown_host : Host → ShownHost
shown_host (host.Domain form) = domain (literal form)
shown_host (host.V4 value) = ipv4 value
shown_host (host.V6 pieces) = ipv6 pieces
shown_host (host.Opaque text) = opaque_host (literal text)
shown_host host.Empty = empty_host

-- a path, with its texts as literals
pub data ShownPath : Type 0 where
  opaque : Literal → ShownPath
  segments : List Literal → ShownPath

-- the path with its texts as literals
abbrev shown_path : UrlPath → ShownPath
shown_path (Opaque text) = opaque (literal text)
shown_path (Segments list) = segments (map literal list)

-- a URL with its serialized text, all as literals
pub record ShownUrl : Type 0 where
  pub serialized : Literal
  pub scheme : Literal
  pub host : Option ShownHost
  pub port : Option ℕ
  pub path : ShownPath
  pub query : Option Literal
  pub fragment : Option Literal

-- how a run ended
pub data Shown : Type 0 where
  done : ShownUrl → Shown
  stopped : ℕ → Shown
  unfinished : Shown

-- the end of a run with its texts as literals
abbrev shown_outcome : Outcome → Shown
shown_outcome (Done url) =
    done (record {
      serialized = literal (serial url);
      scheme = literal url.scheme;
      host = option_map shown_host url.host;
      port = url.port;
      path = shown_path url.path;
      query = option_map literal url.query;
      fragment = option_map literal url.fragment;
    })
shown_outcome (Stopped place) = stopped place
shown_outcome (Going machine) = unfinished

-- what the parser gives on the text within the bound
abbrev pub shown : Option Url → Literal → Shown
shown base text = shown_outcome (run base (codes text) (step_bound (codes text)))
