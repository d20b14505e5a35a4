-- The parts of a text by its cut, after the URL Standard, section 4.3.
use Rattle.std.specs.Prelude.{ℕ, Bool, true, false, List, [], ◌∷◌, Option, is_some, if◌then◌else◌}
use Rattle.uv_model.specs.declared.host.Host.{Host}
use Rattle.uv_model.specs.Cut.{Cut}
use Rattle.uv_model.specs.Parts.{Form, SchemeAuthority, SchemePath, SchemeOpaque, Authority, PathAbsolute}
use Rattle.uv_model.specs.Parts.{PathRelative, NoPath, Parts}
use Rattle.uv_model.specs.Path.{segments_of, starts_with_slash}

-- the form of a text with a scheme or without one, with an authority or without one
abbrev pub form_with : Bool → Bool → List ℕ → Form
form_with true true path_text = SchemeAuthority
form_with false true path_text = Authority
form_with true false path_text = if starts_with_slash path_text then SchemePath else SchemeOpaque
form_with false false [] = NoPath
form_with false false (c ∷ rest) = if starts_with_slash (c ∷ rest) then PathAbsolute else PathRelative

-- the form of a cut text
abbrev pub form_of : Cut → Form
form_of cut = form_with (is_some cut.scheme) (is_some cut.host_text) cut.path_text

-- the segments by the form
abbrev pub segments_in : Form → List ℕ → List (List ℕ)
segments_in SchemeOpaque path_text = []
segments_in _ path_text = segments_of path_text

-- the parts of a cut text of a form, with the values of its host and its port
abbrev pub built_as : Form → Cut → Option Host → Option ℕ → Parts
built_as form cut host port = record {
  form = form;
  scheme = cut.scheme;
  host_text = cut.host_text;
  host = host;
  port_text = cut.port_text;
  port = port;
  path_text = cut.path_text;
  segments = segments_in form cut.path_text;
  query = cut.query;
  fragment = cut.fragment;
}

-- the parts of a cut text of the form that it has, with the values of its host and its port
abbrev pub built : Cut → Option Host → Option ℕ → Parts
built cut host port = built_as (form_of cut) cut host port
