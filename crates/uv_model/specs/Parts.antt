-- The parts of a text, in the order in which the URL Standard, section 4.3, writes them.
use Rattle.std.specs.Prelude.{ℕ, Bool, true, false, List, [], ◌∷◌, ◌++◌, Option, Some, None}
use Rattle.uv_model.specs.declared.host.Host.{Host}
use Rattle.uv_model.specs.Ascii.{slash, colon, question_mark, number_sign}

-- the seven forms of a text
pub data Form : Type 0 where
  SchemeAuthority : Form
  SchemePath : Form
  SchemeOpaque : Form
  Authority : Form
  PathAbsolute : Form
  PathRelative : Form
  NoPath : Form

-- The texts of the parts and the values that they denote. The host is a domain, an address or empty, with its value; an
-- opaque host has only its text.
pub record Parts : Type 0 where
  pub form : Form
  pub scheme : Option (List ℕ)
  pub host_text : Option (List ℕ)
  pub host : Option Host
  pub port_text : Option (List ℕ)
  pub port : Option ℕ
  pub path_text : List ℕ
  pub segments : List (List ℕ)
  pub query : Option (List ℕ)
  pub fragment : Option (List ℕ)

-- the form begins with a scheme
abbrev pub has_scheme : Form → Bool
has_scheme SchemeAuthority = true
has_scheme SchemePath = true
has_scheme SchemeOpaque = true
has_scheme _ = false

-- the form has an authority
abbrev pub has_authority : Form → Bool
has_authority SchemeAuthority = true
has_authority Authority = true
has_authority _ = false

-- ---- the parts written one after the other, each with its delimiter

-- the scheme and `:`
abbrev pub written_scheme : Option (List ℕ) → List ℕ
written_scheme None = []
written_scheme (Some scheme) = scheme ++ (colon ∷ [])

-- a mark before a text that may be absent
abbrev pub written_after : ℕ → Option (List ℕ) → List ℕ
written_after mark None = []
written_after mark (Some text) = mark ∷ text

-- `//`, the host text, and `:` with a port text
abbrev pub written_authority : Option (List ℕ) → Option (List ℕ) → List ℕ
written_authority None port = []
written_authority (Some host) port = slash ∷ slash ∷ (host ++ written_after colon port)

-- the whole text
unfoldable pub written : Parts → List ℕ
written parts =
    written_scheme parts.scheme ++ (written_authority parts.host_text parts.port_text ++ (parts.path_text
    ++ (written_after question_mark parts.query ++ written_after number_sign parts.fragment)))
