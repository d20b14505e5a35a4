-- Texts without a scheme, each against each of nine bases (URL Standard, section 4.4): what the parser machine gives,
-- and the violations of those pairs that the standard profile refuses.
use Rattle.std.specs.Prelude.{List, [], ◌∷◌, codes, Option, Some, None}
use Prim.Native.String.{String as Literal}
use Rattle.uv_model.specs.declared.host.Host.{Host}
use Rattle.uv_model.specs.declared.profile.Profile.TheVariants.{Standard}
use Rattle.uv_model.specs.declared.rule.Rule.{Rule}
use Rattle.uv_model.specs.declared.rule.Rule.TheVariants.{OpaqueBase, DriveAfterHost}
use Rattle.uv_model.specs.Violations.Violation.{Violation}
use Rattle.uv_parser.specs.Rows.{Row, AllHold, done, stops, against, listed, opaque, with_query, with_fragment}
use Rattle.uv_parser.specs.Rows.{domain, opaque_host, empty_host}
use Rattle.uv_parser.specs.Rows.References.{http_base, root_base, drive_base, file_host_base, other_host_base}
use Rattle.uv_parser.specs.Rows.References.{urn_base, opaque_base}
use Rattle.uv_model.specs.Records.Url.{Url}

-- ---- URLs of three schemes, without port, query and fragment

-- scheme http, with this host and these segments
abbrev pub http_on : Option Host → List Literal → Url
http_on host segments = listed "http" host None segments

-- scheme file, with this host and these segments
abbrev pub file_on : Option Host → List Literal → Url
file_on host segments = listed "file" host None segments

-- scheme foo, which isn't special, with this host or none and these segments
abbrev pub foo_on : Option Host → List Literal → Url
foo_on host segments = listed "foo" host None segments

-- ---- two more bases

-- `file://h/x/../C:/d`: `..` takes `x` away, and `C:` and `d` are left
abbrev pub host_drive_base : Url
host_drive_base = file_on (domain "h") ("C:" ∷ "d" ∷ [])

-- `foo:/a/b`
abbrev pub hostless_base : Url
hostless_base = foo_on None ("a" ∷ "b" ∷ [])

-- each base is what the machine gives on its text alone
abbrev pub base_rows : List Row
base_rows =
    done "http://h/a/b?q" http_base "http://h/a/b?q"
    ∷ done "http://h/" root_base "http://h/"
    ∷ done "file:///C:/d/f" drive_base "file:///C:/d/f"
    ∷ done "file://h/a" file_host_base "file://h/a"
    ∷ done "file://h/x/../C:/d" host_drive_base "file://h/C:/d"
    ∷ done "foo:/a/b" hostless_base "foo:/a/b"
    ∷ done "foo://h/a" other_host_base "foo://h/a"
    ∷ done "urn:a" urn_base "urn:a"
    ∷ done "urn:a?q" opaque_base "urn:a?q"
    ∷ []

-- ---- the same fifteen texts against each base

-- against `http://h/a/b?q`: a path walks from `a`; only the empty text, `#t` and `#f` keep the query
abbrev pub http_rows : List Row
http_rows =
    against http_base (done "/x" (http_on (domain "h") ("x" ∷ [])) "http://h/x")
    ∷ against http_base (done "/D:?q" (with_query "q" (http_on (domain "h") ("D:" ∷ []))) "http://h/D:?q")
    ∷ against http_base (done "/.." (http_on (domain "h") ("" ∷ [])) "http://h/")
    ∷ against http_base (done "/C:/x" (http_on (domain "h") ("C:" ∷ "x" ∷ [])) "http://h/C:/x")
    ∷ against http_base (done "/b" (http_on (domain "h") ("b" ∷ [])) "http://h/b")
    ∷ against http_base (done "#t"
    (with_query "q" (with_fragment "t" (http_on (domain "h") ("a" ∷ "b" ∷ [])))) "http://h/a/b?q#t")
    ∷ against http_base (done "x" (http_on (domain "h") ("a" ∷ "x" ∷ [])) "http://h/a/x")
    ∷ against http_base (done "" (with_query "q" (http_on (domain "h") ("a" ∷ "b" ∷ []))) "http://h/a/b?q")
    ∷ against http_base (done "..//x" (http_on (domain "h") ("" ∷ "x" ∷ [])) "http://h//x")
    ∷ against http_base (done "//g" (http_on (domain "g") ("" ∷ [])) "http://g/")
    ∷ against http_base (done ".." (http_on (domain "h") ("" ∷ [])) "http://h/")
    ∷ against http_base (done "." (http_on (domain "h") ("a" ∷ "" ∷ [])) "http://h/a/")
    ∷ against http_base (done "?x" (with_query "x" (http_on (domain "h") ("a" ∷ "b" ∷ []))) "http://h/a/b?x")
    ∷ against http_base (done "#f"
    (with_query "q" (with_fragment "f" (http_on (domain "h") ("a" ∷ "b" ∷ [])))) "http://h/a/b?q#f")
    ∷ against http_base (done "./a:b" (http_on (domain "h") ("a" ∷ "a:b" ∷ [])) "http://h/a/a:b")
    ∷ []

-- against `http://h/`: its only segment is empty, and a path walks from no segment
abbrev pub root_rows : List Row
root_rows =
    against root_base (done "/x" (http_on (domain "h") ("x" ∷ [])) "http://h/x")
    ∷ against root_base (done "/D:?q" (with_query "q" (http_on (domain "h") ("D:" ∷ []))) "http://h/D:?q")
    ∷ against root_base (done "/.." (http_on (domain "h") ("" ∷ [])) "http://h/")
    ∷ against root_base (done "/C:/x" (http_on (domain "h") ("C:" ∷ "x" ∷ [])) "http://h/C:/x")
    ∷ against root_base (done "/b" (http_on (domain "h") ("b" ∷ [])) "http://h/b")
    ∷ against root_base (done "#t" (with_fragment "t" (http_on (domain "h") ("" ∷ []))) "http://h/#t")
    ∷ against root_base (done "x" (http_on (domain "h") ("x" ∷ [])) "http://h/x")
    ∷ against root_base (done "" (http_on (domain "h") ("" ∷ [])) "http://h/")
    ∷ against root_base (done "..//x" (http_on (domain "h") ("" ∷ "x" ∷ [])) "http://h//x")
    ∷ against root_base (done "//g" (http_on (domain "g") ("" ∷ [])) "http://g/")
    ∷ against root_base (done ".." (http_on (domain "h") ("" ∷ [])) "http://h/")
    ∷ against root_base (done "." (http_on (domain "h") ("" ∷ [])) "http://h/")
    ∷ against root_base (done "?x" (with_query "x" (http_on (domain "h") ("" ∷ []))) "http://h/?x")
    ∷ against root_base (done "#f" (with_fragment "f" (http_on (domain "h") ("" ∷ []))) "http://h/#f")
    ∷ against root_base (done "./a:b" (http_on (domain "h") ("a:b" ∷ [])) "http://h/a:b")
    ∷ []

-- against `file:///C:/d/f`: the drive letter stays unless the text has its own
abbrev pub drive_rows : List Row
drive_rows =
    against drive_base (done "/x" (file_on empty_host ("C:" ∷ "x" ∷ [])) "file:///C:/x")
    ∷ against drive_base (done "/D:?q" (with_query "q" (file_on empty_host ("D:" ∷ []))) "file:///D:?q")
    ∷ against drive_base (done "/.." (file_on empty_host ("C:" ∷ "" ∷ [])) "file:///C:/")
    ∷ against drive_base (done "/C:/x" (file_on empty_host ("C:" ∷ "x" ∷ [])) "file:///C:/x")
    ∷ against drive_base (done "/b" (file_on empty_host ("C:" ∷ "b" ∷ [])) "file:///C:/b")
    ∷ against drive_base (done "#t" (with_fragment "t" (file_on empty_host ("C:" ∷ "d" ∷ "f" ∷ []))) "file:///C:/d/f#t")
    ∷ against drive_base (done "x" (file_on empty_host ("C:" ∷ "d" ∷ "x" ∷ [])) "file:///C:/d/x")
    ∷ against drive_base (done "" (file_on empty_host ("C:" ∷ "d" ∷ "f" ∷ [])) "file:///C:/d/f")
    ∷ against drive_base (done "..//x" (file_on empty_host ("C:" ∷ "" ∷ "x" ∷ [])) "file:///C://x")
    ∷ against drive_base (done "//g" (file_on (domain "g") ("" ∷ [])) "file://g/")
    ∷ against drive_base (done ".." (file_on empty_host ("C:" ∷ "" ∷ [])) "file:///C:/")
    ∷ against drive_base (done "." (file_on empty_host ("C:" ∷ "d" ∷ "" ∷ [])) "file:///C:/d/")
    ∷ against drive_base (done "?x" (with_query "x" (file_on empty_host ("C:" ∷ "d" ∷ "f" ∷ []))) "file:///C:/d/f?x")
    ∷ against drive_base (done "#f" (with_fragment "f" (file_on empty_host ("C:" ∷ "d" ∷ "f" ∷ []))) "file:///C:/d/f#f")
    ∷ against drive_base (done "./a:b" (file_on empty_host ("C:" ∷ "d" ∷ "a:b" ∷ [])) "file:///C:/d/a:b")
    ∷ []

-- against `file://h/a`: on `/C:/x` the machine is done, although the checker refuses it (drive-after-host);
-- `/D:?q` is valid, since no `/` follows its drive letter
abbrev pub file_host_rows : List Row
file_host_rows =
    against file_host_base (done "/x" (file_on (domain "h") ("x" ∷ [])) "file://h/x")
    ∷ against file_host_base (done "/D:?q" (with_query "q" (file_on (domain "h") ("D:" ∷ []))) "file://h/D:?q")
    ∷ against file_host_base (done "/.." (file_on (domain "h") ("" ∷ [])) "file://h/")
    ∷ against file_host_base (done "/C:/x" (file_on (domain "h") ("C:" ∷ "x" ∷ [])) "file://h/C:/x")
    ∷ against file_host_base (done "/b" (file_on (domain "h") ("b" ∷ [])) "file://h/b")
    ∷ against file_host_base (done "#t" (with_fragment "t" (file_on (domain "h") ("a" ∷ []))) "file://h/a#t")
    ∷ against file_host_base (done "x" (file_on (domain "h") ("x" ∷ [])) "file://h/x")
    ∷ against file_host_base (done "" (file_on (domain "h") ("a" ∷ [])) "file://h/a")
    ∷ against file_host_base (done "..//x" (file_on (domain "h") ("" ∷ "x" ∷ [])) "file://h//x")
    ∷ against file_host_base (done "//g" (file_on (domain "g") ("" ∷ [])) "file://g/")
    ∷ against file_host_base (done ".." (file_on (domain "h") ("" ∷ [])) "file://h/")
    ∷ against file_host_base (done "." (file_on (domain "h") ("" ∷ [])) "file://h/")
    ∷ against file_host_base (done "?x" (with_query "x" (file_on (domain "h") ("a" ∷ []))) "file://h/a?x")
    ∷ against file_host_base (done "#f" (with_fragment "f" (file_on (domain "h") ("a" ∷ []))) "file://h/a#f")
    ∷ against file_host_base (done "./a:b" (file_on (domain "h") ("a:b" ∷ [])) "file://h/a:b")
    ∷ []

-- against `file://h/x/../C:/d`: the drive letter stays after the host; on `/C:/x` the machine is done, although the
-- checker refuses it (drive-after-host)
abbrev pub host_drive_rows : List Row
host_drive_rows =
    against host_drive_base (done "/x" (file_on (domain "h") ("C:" ∷ "x" ∷ [])) "file://h/C:/x")
    ∷ against host_drive_base (done "/D:?q" (with_query "q" (file_on (domain "h") ("D:" ∷ []))) "file://h/D:?q")
    ∷ against host_drive_base (done "/.." (file_on (domain "h") ("C:" ∷ "" ∷ [])) "file://h/C:/")
    ∷ against host_drive_base (done "/C:/x" (file_on (domain "h") ("C:" ∷ "x" ∷ [])) "file://h/C:/x")
    ∷ against host_drive_base (done "/b" (file_on (domain "h") ("C:" ∷ "b" ∷ [])) "file://h/C:/b")
    ∷ against host_drive_base (done "#t" (with_fragment "t" (file_on (domain "h") ("C:" ∷ "d" ∷ []))) "file://h/C:/d#t")
    ∷ against host_drive_base (done "x" (file_on (domain "h") ("C:" ∷ "x" ∷ [])) "file://h/C:/x")
    ∷ against host_drive_base (done "" (file_on (domain "h") ("C:" ∷ "d" ∷ [])) "file://h/C:/d")
    ∷ against host_drive_base (done "..//x" (file_on (domain "h") ("C:" ∷ "" ∷ "x" ∷ [])) "file://h/C://x")
    ∷ against host_drive_base (done "//g" (file_on (domain "g") ("" ∷ [])) "file://g/")
    ∷ against host_drive_base (done ".." (file_on (domain "h") ("C:" ∷ "" ∷ [])) "file://h/C:/")
    ∷ against host_drive_base (done "." (file_on (domain "h") ("C:" ∷ "" ∷ [])) "file://h/C:/")
    ∷ against host_drive_base (done "?x" (with_query "x" (file_on (domain "h") ("C:" ∷ "d" ∷ []))) "file://h/C:/d?x")
    ∷ against host_drive_base (done "#f" (with_fragment "f" (file_on (domain "h") ("C:" ∷ "d" ∷ []))) "file://h/C:/d#f")
    ∷ against host_drive_base (done "./a:b" (file_on (domain "h") ("C:" ∷ "a:b" ∷ [])) "file://h/C:/a:b")
    ∷ []

-- against `foo:/a/b`: without a host, `/.` is written before an empty first segment
abbrev pub hostless_rows : List Row
hostless_rows =
    against hostless_base (done "/x" (foo_on None ("x" ∷ [])) "foo:/x")
    ∷ against hostless_base (done "/D:?q" (with_query "q" (foo_on None ("D:" ∷ []))) "foo:/D:?q")
    ∷ against hostless_base (done "/.." (foo_on None ("" ∷ [])) "foo:/")
    ∷ against hostless_base (done "/C:/x" (foo_on None ("C:" ∷ "x" ∷ [])) "foo:/C:/x")
    ∷ against hostless_base (done "/b" (foo_on None ("b" ∷ [])) "foo:/b")
    ∷ against hostless_base (done "#t" (with_fragment "t" (foo_on None ("a" ∷ "b" ∷ []))) "foo:/a/b#t")
    ∷ against hostless_base (done "x" (foo_on None ("a" ∷ "x" ∷ [])) "foo:/a/x")
    ∷ against hostless_base (done "" (foo_on None ("a" ∷ "b" ∷ [])) "foo:/a/b")
    ∷ against hostless_base (done "..//x" (foo_on None ("" ∷ "x" ∷ [])) "foo:/.//x")
    ∷ against hostless_base (done "//g" (foo_on (opaque_host "g") []) "foo://g")
    ∷ against hostless_base (done ".." (foo_on None ("" ∷ [])) "foo:/")
    ∷ against hostless_base (done "." (foo_on None ("a" ∷ "" ∷ [])) "foo:/a/")
    ∷ against hostless_base (done "?x" (with_query "x" (foo_on None ("a" ∷ "b" ∷ []))) "foo:/a/b?x")
    ∷ against hostless_base (done "#f" (with_fragment "f" (foo_on None ("a" ∷ "b" ∷ []))) "foo:/a/b#f")
    ∷ against hostless_base (done "./a:b" (foo_on None ("a" ∷ "a:b" ∷ [])) "foo:/a/a:b")
    ∷ []

-- against `foo://h/a`: `//g` leaves no segment
abbrev pub other_host_rows : List Row
other_host_rows =
    against other_host_base (done "/x" (foo_on (opaque_host "h") ("x" ∷ [])) "foo://h/x")
    ∷ against other_host_base (done "/D:?q" (with_query "q" (foo_on (opaque_host "h") ("D:" ∷ []))) "foo://h/D:?q")
    ∷ against other_host_base (done "/.." (foo_on (opaque_host "h") ("" ∷ [])) "foo://h/")
    ∷ against other_host_base (done "/C:/x" (foo_on (opaque_host "h") ("C:" ∷ "x" ∷ [])) "foo://h/C:/x")
    ∷ against other_host_base (done "/b" (foo_on (opaque_host "h") ("b" ∷ [])) "foo://h/b")
    ∷ against other_host_base (done "#t" (with_fragment "t" (foo_on (opaque_host "h") ("a" ∷ []))) "foo://h/a#t")
    ∷ against other_host_base (done "x" (foo_on (opaque_host "h") ("x" ∷ [])) "foo://h/x")
    ∷ against other_host_base (done "" (foo_on (opaque_host "h") ("a" ∷ [])) "foo://h/a")
    ∷ against other_host_base (done "..//x" (foo_on (opaque_host "h") ("" ∷ "x" ∷ [])) "foo://h//x")
    ∷ against other_host_base (done "//g" (foo_on (opaque_host "g") []) "foo://g")
    ∷ against other_host_base (done ".." (foo_on (opaque_host "h") ("" ∷ [])) "foo://h/")
    ∷ against other_host_base (done "." (foo_on (opaque_host "h") ("" ∷ [])) "foo://h/")
    ∷ against other_host_base (done "?x" (with_query "x" (foo_on (opaque_host "h") ("a" ∷ []))) "foo://h/a?x")
    ∷ against other_host_base (done "#f" (with_fragment "f" (foo_on (opaque_host "h") ("a" ∷ []))) "foo://h/a#f")
    ∷ against other_host_base (done "./a:b" (foo_on (opaque_host "h") ("a:b" ∷ [])) "foo://h/a:b")
    ∷ []

-- against `urn:a`: only a fragment may follow an opaque path
abbrev pub opaque_rows : List Row
opaque_rows =
    against urn_base (stops "/x" 0)
    ∷ against urn_base (stops "/D:?q" 0)
    ∷ against urn_base (stops "/.." 0)
    ∷ against urn_base (stops "/C:/x" 0)
    ∷ against urn_base (stops "/b" 0)
    ∷ against urn_base (done "#t" (with_fragment "t" (opaque "urn" "a")) "urn:a#t")
    ∷ against urn_base (stops "x" 0)
    ∷ against urn_base (stops "" 0)
    ∷ against urn_base (stops "..//x" 0)
    ∷ against urn_base (stops "//g" 0)
    ∷ against urn_base (stops ".." 0)
    ∷ against urn_base (stops "." 0)
    ∷ against urn_base (stops "?x" 0)
    ∷ against urn_base (done "#f" (with_fragment "f" (opaque "urn" "a")) "urn:a#f")
    ∷ against urn_base (stops "./a:b" 0)
    ∷ []

-- against `urn:a?q`: a fragment keeps the query too
abbrev pub opaque_query_rows : List Row
opaque_query_rows =
    against opaque_base (stops "/x" 0)
    ∷ against opaque_base (stops "/D:?q" 0)
    ∷ against opaque_base (stops "/.." 0)
    ∷ against opaque_base (stops "/C:/x" 0)
    ∷ against opaque_base (stops "/b" 0)
    ∷ against opaque_base (done "#t" (with_query "q" (with_fragment "t" (opaque "urn" "a"))) "urn:a?q#t")
    ∷ against opaque_base (stops "x" 0)
    ∷ against opaque_base (stops "" 0)
    ∷ against opaque_base (stops "..//x" 0)
    ∷ against opaque_base (stops "//g" 0)
    ∷ against opaque_base (stops ".." 0)
    ∷ against opaque_base (stops "." 0)
    ∷ against opaque_base (stops "?x" 0)
    ∷ against opaque_base (done "#f" (with_query "q" (with_fragment "f" (opaque "urn" "a"))) "urn:a?q#f")
    ∷ against opaque_base (stops "./a:b" 0)
    ∷ []

-- ---- violations of the refused pairs

-- each of the texts violates the rule at its first place against the base
abbrev pub AllViolate : Url → Rule → List Literal → Type 0
AllViolate base rule [] = Unit {0}
AllViolate base rule (text ∷ texts) = Violation Standard (Some base) (codes text) 0 rule × AllViolate base rule texts

-- the texts that aren't only a fragment
abbrev pub other_texts : List Literal
other_texts =
    "/x" ∷ "/D:?q" ∷ "/.." ∷ "/C:/x" ∷ "/b" ∷ "x" ∷ "" ∷ "..//x" ∷ "//g" ∷ ".." ∷ "." ∷ "?x" ∷ "./a:b" ∷ []

-- A drive letter may not follow the host of a file base, and only a fragment may follow an opaque path.
pub record RefusedPairs : Type 0 where
  pub drive_after_host : Violation Standard (Some file_host_base) (codes "/C:/x") 0 DriveAfterHost
  pub drive_after_host_and_drive : Violation Standard (Some host_drive_base) (codes "/C:/x") 0 DriveAfterHost
  pub opaque_path : AllViolate urn_base OpaqueBase other_texts
  pub opaque_path_and_query : AllViolate opaque_base OpaqueBase other_texts

-- what the parser does on these texts against these bases, and what is wrong with those that are refused
pub record ReferenceMatrixRows : Type 0 where
  pub bases : AllHold base_rows
  pub http : AllHold http_rows
  pub root : AllHold root_rows
  pub drive : AllHold drive_rows
  pub file_host : AllHold file_host_rows
  pub host_drive : AllHold host_drive_rows
  pub hostless : AllHold hostless_rows
  pub other_host : AllHold other_host_rows
  pub opaque : AllHold opaque_rows
  pub opaque_query : AllHold opaque_query_rows
  pub refused : RefusedPairs
