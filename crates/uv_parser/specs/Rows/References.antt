-- Runs against a base (URL Standard, section 4.4): texts without a scheme, and texts with the base's own.
use Rattle.std.specs.Prelude.{List, [], ◌∷◌, Some, None}
use Rattle.uv_parser.specs.Rows.{Row, AllHold, done, stops, in_steps, against, listed, opaque, with_query}
use Rattle.uv_parser.specs.Rows.{with_fragment, domain, opaque_host, empty_host}
use Rattle.uv_model.specs.Records.Url.{Url}

-- `http://h/a/b?q`
abbrev pub http_base : Url
http_base = with_query "q" (listed "http" (domain "h") None ("a" ∷ "b" ∷ []))

-- `http://h:81/a/b?q`
abbrev pub port_base : Url
port_base = with_query "q" (listed "http" (domain "h") (Some 81) ("a" ∷ "b" ∷ []))

-- `http://h/`
abbrev pub root_base : Url
root_base = listed "http" (domain "h") None ("" ∷ [])

-- `https://h/a`
abbrev pub https_base : Url
https_base = listed "https" (domain "h") None ("a" ∷ [])

-- `file:///C:/d/f`
abbrev pub drive_base : Url
drive_base = listed "file" empty_host None ("C:" ∷ "d" ∷ "f" ∷ [])

-- `file://h/a`
abbrev pub file_host_base : Url
file_host_base = listed "file" (domain "h") None ("a" ∷ [])

-- `file:///d/f?q`
abbrev pub file_query_base : Url
file_query_base = with_query "q" (listed "file" empty_host None ("d" ∷ "f" ∷ []))

-- `urn:a`
abbrev pub urn_base : Url
urn_base = opaque "urn" "a"

-- `urn:a?q`
abbrev pub opaque_base : Url
opaque_base = with_query "q" (opaque "urn" "a")

-- `foo:/a`
abbrev pub other_base : Url
other_base = listed "foo" None None ("a" ∷ [])

-- `foo://h/a`
abbrev pub other_host_base : Url
other_host_base = listed "foo" (opaque_host "h") None ("a" ∷ [])

-- `foo://h`
abbrev pub bare_base : Url
bare_base = listed "foo" (opaque_host "h") None []

-- against a special base: what is kept of it, and what isn't
abbrev pub http_rows : List Row
http_rows =
    against http_base (done "" (with_query "q" (listed "http" (domain "h") None ("a" ∷ "b" ∷ []))) "http://h/a/b?q")
    ∷ against http_base (done "#f"
    (with_query "q" (with_fragment "f" (listed "http" (domain "h") None ("a" ∷ "b" ∷ [])))) "http://h/a/b?q#f")
    ∷ against http_base (done "?x" (with_query "x" (listed "http" (domain "h") None ("a" ∷ "b" ∷ []))) "http://h/a/b?x")
    ∷ against http_base (done "." (listed "http" (domain "h") None ("a" ∷ "" ∷ [])) "http://h/a/")
    ∷ against http_base (done ".." (listed "http" (domain "h") None ("" ∷ [])) "http://h/")
    ∷ against http_base (done "x" (listed "http" (domain "h") None ("a" ∷ "x" ∷ [])) "http://h/a/x")
    ∷ against port_base (done "x" (listed "http" (domain "h") (Some 81) ("a" ∷ "x" ∷ [])) "http://h:81/a/x")
    ∷ against port_base (done "/x" (listed "http" (domain "h") (Some 81) ("x" ∷ [])) "http://h:81/x")
    ∷ against port_base (done "?'"
    (with_query "%27" (listed "http" (domain "h") (Some 81) ("a" ∷ "b" ∷ []))) "http://h:81/a/b?%27")
    ∷ against port_base (done "#"
    (with_query "q" (with_fragment "" (listed "http" (domain "h") (Some 81) ("a" ∷ "b" ∷ [])))) "http://h:81/a/b?q#")
    ∷ against port_base (done "../../../x?y"
    (with_query "y" (listed "http" (domain "h") (Some 81) ("x" ∷ []))) "http://h:81/x?y")
    ∷ against port_base (done "//g" (listed "http" (domain "g") None ("" ∷ [])) "http://g/")
    ∷ against port_base (done "//G:81/x" (listed "http" (domain "g") (Some 81) ("x" ∷ [])) "http://g:81/x")
    ∷ against https_base (done "//g" (listed "https" (domain "g") None ("" ∷ [])) "https://g/")
    ∷ against (listed "http" (domain "x") None ("a" ∷ []))
    (done "//h" (listed "http" (domain "h") None ("" ∷ [])) "http://h/")
    ∷ []

-- against `http://h/`
abbrev pub root_rows : List Row
root_rows =
    against root_base (done "a:b" (opaque "a" "b") "a:b")
    ∷ against root_base (done "./a:b" (listed "http" (domain "h") None ("a:b" ∷ [])) "http://h/a:b")
    ∷ against root_base (done "1:b" (listed "http" (domain "h") None ("1:b" ∷ [])) "http://h/1:b")
    ∷ against root_base (done "a" (listed "http" (domain "h") None ("a" ∷ [])) "http://h/a")
    ∷ against root_base (done "HTTP://g" (listed "http" (domain "g") None ("" ∷ [])) "http://g/")
    ∷ against root_base (done "https://g" (listed "https" (domain "g") None ("" ∷ [])) "https://g/")
    ∷ against root_base (stops "//" 2)
    ∷ against root_base (in_steps 5 (stops "///x" 2))
    ∷ against root_base (stops "http:x" 5)
    ∷ against root_base (stops "http:" 5)
    ∷ against root_base (stops "http:/x" 5)
    ∷ against root_base (stops "https:x" 6)
    ∷ against root_base (stops "x y" 1)
    ∷ against root_base (stops "\\x" 0)
    ∷ against root_base (stops "/\\x" 1)
    ∷ against root_base (stops "//\\x" 2)
    ∷ against root_base (stops "//u@g" 3)
    ∷ against root_base (stops "//g:8x" 5)
    ∷ []

-- against `file:///C:/d/f`, whose drive letter stays unless the text has its own
abbrev pub drive_rows : List Row
drive_rows =
    against drive_base (done "/x" (listed "file" empty_host None ("C:" ∷ "x" ∷ [])) "file:///C:/x")
    ∷ against drive_base (done "/D:?q" (with_query "q" (listed "file" empty_host None ("D:" ∷ []))) "file:///D:?q")
    ∷ against drive_base (done "/D:#f" (with_fragment "f" (listed "file" empty_host None ("D:" ∷ []))) "file:///D:#f")
    ∷ against drive_base (done "/.." (listed "file" empty_host None ("C:" ∷ "" ∷ [])) "file:///C:/")
    ∷ against drive_base (done "/" (listed "file" empty_host None ("C:" ∷ "" ∷ [])) "file:///C:/")
    ∷ against drive_base (done "/D:x" (listed "file" empty_host None ("C:" ∷ "D:x" ∷ [])) "file:///C:/D:x")
    ∷ against drive_base (done "C:/x" (listed "c" None None ("x" ∷ [])) "c:/x")
    ∷ against drive_base (done ".." (listed "file" empty_host None ("C:" ∷ "" ∷ [])) "file:///C:/")
    ∷ against drive_base (done "../../x" (listed "file" empty_host None ("C:" ∷ "x" ∷ [])) "file:///C:/x")
    ∷ against drive_base (done "x" (listed "file" empty_host None ("C:" ∷ "d" ∷ "x" ∷ [])) "file:///C:/d/x")
    ∷ against drive_base (done "?q"
    (with_query "q" (listed "file" empty_host None ("C:" ∷ "d" ∷ "f" ∷ []))) "file:///C:/d/f?q")
    ∷ against drive_base (done "#t"
    (with_fragment "t" (listed "file" empty_host None ("C:" ∷ "d" ∷ "f" ∷ []))) "file:///C:/d/f#t")
    ∷ against drive_base (done "" (listed "file" empty_host None ("C:" ∷ "d" ∷ "f" ∷ [])) "file:///C:/d/f")
    ∷ against drive_base (done "///x" (listed "file" empty_host None ("x" ∷ [])) "file:///x")
    ∷ against drive_base (done "//h/x" (listed "file" (domain "h") None ("x" ∷ [])) "file://h/x")
    ∷ against drive_base (done "//localhost/x" (listed "file" empty_host None ("x" ∷ [])) "file:///x")
    ∷ against drive_base (done "file:///y" (listed "file" empty_host None ("y" ∷ [])) "file:///y")
    ∷ against drive_base (stops "C|/x" 0)
    ∷ against drive_base (stops "C|" 0)
    ∷ against drive_base (stops "C|\\x" 0)
    ∷ against drive_base (stops "C|?x" 0)
    ∷ against drive_base (stops "C|#x" 0)
    ∷ against drive_base (stops "C|x" 1)
    ∷ against drive_base (stops "/D|/x" 2)
    ∷ against drive_base (stops "//C:/x" 4)
    ∷ against drive_base (stops "file:x" 4)
    ∷ []

-- against `file://h/a` and `file:///d/f?q`
abbrev pub file_host_rows : List Row
file_host_rows =
    against file_host_base (done "/b" (listed "file" (domain "h") None ("b" ∷ [])) "file://h/b")
    ∷ against file_host_base (done "b" (listed "file" (domain "h") None ("b" ∷ [])) "file://h/b")
    ∷ against file_host_base (done "" (listed "file" (domain "h") None ("a" ∷ [])) "file://h/a")
    ∷ against file_host_base (done "?q" (with_query "q" (listed "file" (domain "h") None ("a" ∷ []))) "file://h/a?q")
    ∷ against file_host_base (done "///x" (listed "file" empty_host None ("x" ∷ [])) "file:///x")
    ∷ against file_host_base (stops "file:/C:/x" 4)
    ∷ against file_query_base (done ""
    (with_query "q" (listed "file" empty_host None ("d" ∷ "f" ∷ []))) "file:///d/f?q")
    ∷ against file_query_base (done "?x"
    (with_query "x" (listed "file" empty_host None ("d" ∷ "f" ∷ []))) "file:///d/f?x")
    ∷ against file_query_base (done "#t"
    (with_query "q" (with_fragment "t" (listed "file" empty_host None ("d" ∷ "f" ∷ [])))) "file:///d/f?q#t")
    ∷ against file_query_base (done "x" (listed "file" empty_host None ("d" ∷ "x" ∷ [])) "file:///d/x")
    ∷ against file_query_base (done "/x" (listed "file" empty_host None ("x" ∷ [])) "file:///x")
    ∷ []

-- against `urn:a` and `urn:a?q`, and without a base
abbrev pub opaque_rows : List Row
opaque_rows =
    against urn_base (done "#t" (with_fragment "t" (opaque "urn" "a")) "urn:a#t")
    ∷ against urn_base (stops "x" 0)
    ∷ against urn_base (stops "" 0)
    ∷ against urn_base (stops "//h%4/x" 0)
    ∷ against opaque_base (done "#t" (with_query "q" (with_fragment "t" (opaque "urn" "a"))) "urn:a?q#t")
    ∷ against opaque_base (done "#" (with_query "q" (with_fragment "" (opaque "urn" "a"))) "urn:a?q#")
    ∷ against opaque_base (done "http://h/" (listed "http" (domain "h") None ("" ∷ [])) "http://h/")
    ∷ against opaque_base (stops "x" 0)
    ∷ against opaque_base (stops "" 0)
    ∷ against opaque_base (stops "?x" 0)
    ∷ against opaque_base (stops "#a b" 2)
    ∷ stops "//h^/a b" 0
    ∷ stops "#t" 0
    ∷ stops "/x" 0
    ∷ []

-- against `foo:/a`, `foo://h/a` and `foo://h`
abbrev pub other_rows : List Row
other_rows =
    against other_base (done "..//x" (listed "foo" None None ("" ∷ "x" ∷ [])) "foo:/.//x")
    ∷ against other_base (done "//" (listed "foo" empty_host None []) "foo://")
    ∷ against other_base (done "/b/" (listed "foo" None None ("b" ∷ "" ∷ [])) "foo:/b/")
    ∷ against other_base (done "" (listed "foo" None None ("a" ∷ [])) "foo:/a")
    ∷ against other_base (done "?'" (with_query "'" (listed "foo" None None ("a" ∷ []))) "foo:/a?'")
    ∷ against other_base (done "///x" (listed "foo" empty_host None ("x" ∷ [])) "foo:///x")
    ∷ against other_base (stops "//:80" 2)
    ∷ against other_host_base (done "//g" (listed "foo" (opaque_host "g") None []) "foo://g")
    ∷ against other_host_base (done "/b" (listed "foo" (opaque_host "h") None ("b" ∷ [])) "foo://h/b")
    ∷ against other_host_base (done ".." (listed "foo" (opaque_host "h") None ("" ∷ [])) "foo://h/")
    ∷ against other_host_base (stops "C|" 1)
    ∷ against bare_base (done "x" (listed "foo" (opaque_host "h") None ("x" ∷ [])) "foo://h/x")
    ∷ against bare_base (done "?q" (with_query "q" (listed "foo" (opaque_host "h") None [])) "foo://h?q")
    ∷ against bare_base (done "" (listed "foo" (opaque_host "h") None []) "foo://h")
    ∷ against bare_base (done "foo:b" (opaque "foo" "b") "foo:b")
    ∷ []

-- what the parser does on these texts against these bases
abbrev pub ReferenceRows : Type 0
ReferenceRows =
    AllHold http_rows
    × AllHold root_rows
    × AllHold drive_rows
    × AllHold file_host_rows
    × AllHold opaque_rows
    × AllHold other_rows
