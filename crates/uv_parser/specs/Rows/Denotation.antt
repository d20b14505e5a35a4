-- What the parts of a text denote (URL Standard, sections 4.2 and 4.4), on texts written out: the parts give the text
-- back, the URL is the one that they denote, and the parser's run on the text is done with it.
use Rattle.std.specs.Prelude.{ℕ, List, [], ◌∷◌, map, codes, Option, Some, None}
use Prim.Native.String.{String as Literal}
use Rattle.uv_model.specs.declared.host.Host.{Host}
use Rattle.uv_model.specs.declared.scheme.Class.{Class}
use Rattle.uv_model.specs.declared.scheme.Class.TheVariants.{SpecialNotFile, File, Other}
use Rattle.uv_model.specs.Records.Denote.{denote}
use Rattle.uv_model.specs.Parts.{Form, SchemeAuthority, SchemePath, SchemeOpaque, Authority, PathAbsolute}
use Rattle.uv_model.specs.Parts.{PathRelative, NoPath, Parts, written}
use Rattle.uv_model.specs.Path.{shorten, walk}
use Rattle.uv_parser.specs.Rows.{Answer, Agree, answer_of, is_done, listed, opaque, with_query, with_fragment, domain}
use Rattle.uv_parser.specs.Rows.{ipv4, ipv6, opaque_host, empty_host}
use Rattle.uv_parser.specs.Rows.References.{http_base, port_base, drive_base, file_host_base, urn_base, other_base}
use Rattle.uv_parser.specs.Rows.References.{other_host_base}
use Rattle.uv_parser.specs.Run.{run, step_bound}
use Rattle.uv_model.specs.Records.Serialize.{serial}
use Rattle.uv_model.specs.Records.Url.{Url}

-- ---- parts, written down

-- a form without any part
abbrev pub form_alone : Form → Parts
form_alone form =
    record {
      form = form;
      scheme = None;
      host_text = None;
      host = None;
      port_text = None;
      port = None;
      path_text = [];
      segments = [];
      query = None;
      fragment = None;
    }

-- the parts with this scheme
abbrev pub of_scheme : Literal → Parts → Parts
of_scheme scheme parts = record parts { scheme = Some (codes scheme) }

-- the parts with this host text, and its value where it has one
abbrev pub at_host : Literal → Option Host → Parts → Parts
at_host text value parts = record parts { host_text = Some (codes text); host = value }

-- the parts with this port text and the port that it gives
abbrev pub at_port : Literal → Option ℕ → Parts → Parts
at_port text port parts = record parts { port_text = Some (codes text); port = port }

-- the parts with this path and its segments
abbrev pub on_path : Literal → List Literal → Parts → Parts
on_path text segments parts = record parts { path_text = codes text; segments = map codes segments }

-- the parts with this query
abbrev pub and_query : Literal → Parts → Parts
and_query query parts = record parts { query = Some (codes query) }

-- the parts with this fragment
abbrev pub and_fragment : Literal → Parts → Parts
and_fragment fragment parts = record parts { fragment = Some (codes fragment) }

-- the parts that a text with a scheme and an authority begins with
abbrev pub authority : Literal → Literal → Option Host → Parts
authority scheme text value = at_host text value (of_scheme scheme (form_alone SchemeAuthority))

-- ---- what a row says

-- a text against a base or without one, its parts, and their URL
pub record Reading : Type 0 where
  pub base : Option Url
  pub text : List ℕ
  pub parts : Parts
  pub url : Url

-- the text that the parts write, the URL that they denote, and how the run on the text ends
abbrev pub readings : Reading → List ℕ × Url × Answer
readings row =
    (written row.parts, denote row.base row.parts, answer_of (run row.base row.text (step_bound row.text)))

-- what all three are
abbrev pub expected : Reading → List ℕ × Url × Answer
expected row = (row.text, row.url, is_done row.url (serial row.url))

-- without a base, the text has these parts, which denote this URL
abbrev pub denotes : Literal → Parts → Url → Reading
denotes text parts url = record { base = None; text = codes text; parts = parts; url = url }

-- against a base, the text has these parts, which denote this URL
abbrev pub denotes_against : Url → Literal → Parts → Url → Reading
denotes_against base text parts url = record { base = Some base; text = codes text; parts = parts; url = url }

-- ---- the rows

-- with a scheme and an authority
abbrev pub authority_readings : List Reading
authority_readings =
    denotes "https://EXAMPLE.com:443/a/../b?x='y'#é"
    (and_query "x='y'" (and_fragment "é" (at_port "443" None (on_path "/a/../b" ("a" ∷ ".." ∷ "b" ∷ [])
    (authority "https" "EXAMPLE.com" (domain "example.com"))))))
    (with_query "x=%27y%27" (with_fragment "%C3%A9" (listed "https" (domain "example.com") None ("b" ∷ []))))
    ∷ denotes "HTTP://h" (authority "HTTP" "h" (domain "h")) (listed "http" (domain "h") None ("" ∷ []))
    ∷ denotes "ws://1.2.3.4:081/"
    (at_port "081" (Some 81) (on_path "/" ("" ∷ []) (authority "ws" "1.2.3.4" (ipv4 16909060))))
    (listed "ws" (ipv4 16909060) (Some 81) ("" ∷ []))
    ∷ denotes "foo://" (authority "foo" "" empty_host) (listed "foo" empty_host None [])
    ∷ denotes "foo://É:/a/" (at_port "" None (on_path "/a/" ("a" ∷ "" ∷ []) (authority "foo" "É" None)))
    (listed "foo" (opaque_host "%C3%89") None ("a" ∷ "" ∷ []))
    ∷ denotes "foo://[::1]" (authority "foo" "[::1]" (ipv6 (0 ∷ 0 ∷ 0 ∷ 0 ∷ 0 ∷ 0 ∷ 0 ∷ 1 ∷ [])))
    (listed "foo" (ipv6 (0 ∷ 0 ∷ 0 ∷ 0 ∷ 0 ∷ 0 ∷ 0 ∷ 1 ∷ [])) None [])
    ∷ denotes "file://localhost/etc" (on_path "/etc" ("etc" ∷ []) (authority "file" "localhost" empty_host))
    (listed "file" empty_host None ("etc" ∷ []))
    ∷ denotes "file:///C:/../.." (on_path "/C:/../.." ("C:" ∷ ".." ∷ ".." ∷ []) (authority "file" "" empty_host))
    (listed "file" empty_host None ("C:" ∷ "" ∷ []))
    ∷ []

-- with only a scheme and a path
abbrev pub path_readings : List Reading
path_readings =
    denotes "foo:/.//a" (on_path "/.//a" ("." ∷ "" ∷ "a" ∷ []) (of_scheme "foo" (form_alone SchemePath)))
    (listed "foo" None None ("" ∷ "a" ∷ []))
    ∷ denotes "foo:/?'" (and_query "'" (on_path "/" ("" ∷ []) (of_scheme "foo" (form_alone SchemePath))))
    (with_query "'" (listed "foo" None None ("" ∷ [])))
    ∷ denotes "urn:é?x'y#'"
    (and_query "x'y" (and_fragment "'" (on_path "é" [] (of_scheme "urn" (form_alone SchemeOpaque)))))
    (with_query "x'y" (with_fragment "'" (opaque "urn" "%C3%A9")))
    ∷ []

-- with an authority or a path, and the scheme of the base
abbrev pub reference_readings : List Reading
reference_readings =
    denotes_against port_base "//g:80" (at_port "80" None (at_host "g" (domain "g") (form_alone Authority)))
    (listed "http" (domain "g") None ("" ∷ []))
    ∷ denotes_against other_host_base "//g" (at_host "g" None (form_alone Authority))
    (listed "foo" (opaque_host "g") None [])
    ∷ denotes_against port_base "/x" (on_path "/x" ("x" ∷ []) (form_alone PathAbsolute))
    (listed "http" (domain "h") (Some 81) ("x" ∷ []))
    ∷ denotes_against drive_base "/x" (on_path "/x" ("x" ∷ []) (form_alone PathAbsolute))
    (listed "file" empty_host None ("C:" ∷ "x" ∷ []))
    ∷ denotes_against drive_base "/D:?q" (and_query "q" (on_path "/D:" ("D:" ∷ []) (form_alone PathAbsolute)))
    (with_query "q" (listed "file" empty_host None ("D:" ∷ [])))
    ∷ denotes_against file_host_base "/b" (on_path "/b" ("b" ∷ []) (form_alone PathAbsolute))
    (listed "file" (domain "h") None ("b" ∷ []))
    ∷ denotes_against http_base "x" (on_path "x" ("x" ∷ []) (form_alone PathRelative))
    (listed "http" (domain "h") None ("a" ∷ "x" ∷ []))
    ∷ denotes_against http_base ".." (on_path ".." (".." ∷ []) (form_alone PathRelative))
    (listed "http" (domain "h") None ("" ∷ []))
    ∷ denotes_against drive_base "../../x" (on_path "../../x" (".." ∷ ".." ∷ "x" ∷ []) (form_alone PathRelative))
    (listed "file" empty_host None ("C:" ∷ "x" ∷ []))
    ∷ denotes_against other_base "..//x" (on_path "..//x" (".." ∷ "" ∷ "x" ∷ []) (form_alone PathRelative))
    (listed "foo" None None ("" ∷ "x" ∷ []))
    ∷ []

-- with a query or a fragment at most
abbrev pub empty_readings : List Reading
empty_readings =
    denotes_against http_base "" (form_alone NoPath)
    (with_query "q" (listed "http" (domain "h") None ("a" ∷ "b" ∷ [])))
    ∷ denotes_against http_base "?x" (and_query "x" (form_alone NoPath))
    (with_query "x" (listed "http" (domain "h") None ("a" ∷ "b" ∷ [])))
    ∷ denotes_against http_base "#f" (and_fragment "f" (form_alone NoPath))
    (with_query "q" (with_fragment "f" (listed "http" (domain "h") None ("a" ∷ "b" ∷ []))))
    ∷ denotes_against urn_base "#t" (and_fragment "t" (form_alone NoPath)) (with_fragment "t" (opaque "urn" "a"))
    ∷ []

-- a class, a list of segments, and that list shortened
abbrev pub shortened_paths : List (Class × List Literal × List Literal)
shortened_paths =
    (SpecialNotFile, "a" ∷ "b" ∷ [], "a" ∷ [])
    ∷ (SpecialNotFile, "C:" ∷ [], [])
    ∷ (Other, "" ∷ [], [])
    ∷ (Other, [], [])
    ∷ (File, "C:" ∷ [], "C:" ∷ [])
    ∷ (File, "C|" ∷ [], [])
    ∷ (File, "C:" ∷ "d" ∷ [], "C:" ∷ [])
    ∷ (File, "d" ∷ "C:" ∷ [], "d" ∷ [])
    ∷ (File, "CC:" ∷ [], [])
    ∷ []

-- a class, the list that a walk starts from, the segments that it goes over, and where it ends
abbrev pub walked_paths : List (Class × List Literal × List Literal × List Literal)
walked_paths =
    (SpecialNotFile, [], "a" ∷ ".." ∷ "b" ∷ [], "b" ∷ [])
    ∷ (SpecialNotFile, [], "" ∷ "a" ∷ [], "" ∷ "a" ∷ [])
    ∷ (SpecialNotFile, [], "C:" ∷ ".." ∷ ".." ∷ [], "" ∷ [])
    ∷ (File, [], "C:" ∷ ".." ∷ ".." ∷ [], "C:" ∷ "" ∷ [])
    ∷ (File, [], "c%3A" ∷ ".." ∷ [], "" ∷ [])
    ∷ (SpecialNotFile, "a" ∷ "b" ∷ [], "%2E." ∷ [], "a" ∷ "" ∷ [])
    ∷ (SpecialNotFile, "a" ∷ "b" ∷ [], ".%2e" ∷ "x" ∷ [], "a" ∷ "x" ∷ [])
    ∷ (Other, [], "a" ∷ "." ∷ "b" ∷ "%2E" ∷ [], "a" ∷ "b" ∷ "" ∷ [])
    ∷ (Other, "a" ∷ [], "é" ∷ "'" ∷ "..." ∷ [], "a" ∷ "%C3%A9" ∷ "'" ∷ "..." ∷ [])
    ∷ (Other, "a" ∷ [], [], "a" ∷ [])
    ∷ []

-- the shortened list, as `shorten` gives it
abbrev pub shortened_here : Class × List Literal × List Literal → List (List ℕ)
shortened_here (class, path, short) = shorten class (map codes path)

-- the shortened list, as the row says it
abbrev pub shortened_there : Class × List Literal × List Literal → List (List ℕ)
shortened_there (class, path, short) = map codes short

-- the end of the walk, as `walk` gives it
abbrev pub walked_here : Class × List Literal × List Literal × List Literal → List (List ℕ)
walked_here (class, start, segments, path) = walk class (map codes start) (map codes segments)

-- the end of the walk, as the row says it
abbrev pub walked_there : Class × List Literal × List Literal × List Literal → List (List ℕ)
walked_there (class, start, segments, path) = map codes path

-- what the parts of these texts denote, and what `shorten` and `walk` make of these lists
abbrev pub DenotationRows : Type 0
DenotationRows =
    Agree readings expected authority_readings
    × Agree readings expected path_readings
    × Agree readings expected reference_readings
    × Agree readings expected empty_readings
    × Agree shortened_here shortened_there shortened_paths
    × Agree walked_here walked_there walked_paths
