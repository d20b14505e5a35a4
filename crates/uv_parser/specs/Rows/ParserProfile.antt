-- Texts under the parser's profile: those that it takes, most of them although the standard profile refuses them, and
-- those that it refuses too (URL Standard, sections 3.5 and 4.4).
use Rattle.std.specs.Prelude.{◌≡◌, List, [], ◌∷◌, None}
use Rattle.uv_model.specs.declared.profile.Profile.TheVariants.{Parser}
use Rattle.uv_model.specs.Parts.{Parts}
use Rattle.uv_model.specs.Records.Denote.{denote}
use Rattle.uv_model.specs.Records.Url.{Url}
use Rattle.uv_model.specs.Valid.{Valid}
use Rattle.uv_parser.specs.Rows.{Row, AllHold, Answer, is_done, has_stopped, goes_on, done, stops, against, listed}
use Rattle.uv_parser.specs.Rows.{opaque, with_query, with_fragment, domain, ipv4, opaque_host, empty_host}
use Rattle.uv_parser.specs.Rows.References.{drive_base, file_host_base, other_base, root_base, urn_base}

-- ---- what the profile takes beyond the standard one

-- an empty authority of a file URL with no `/` after it
abbrev pub file_rows : List Row
file_rows =
    done "file://" (listed "file" empty_host None ("" ∷ [])) "file:///"
    ∷ done "file://?q" (with_query "q" (listed "file" empty_host None ("" ∷ []))) "file:///?q"
    ∷ against drive_base (done "//" (listed "file" empty_host None ("" ∷ [])) "file:///")
    ∷ []

-- a host with `_`, with an escape, or with another ASCII code point, even if a code point is mapped to it
abbrev pub host_rows : List Row
host_rows =
    done "http://x_y/" (listed "http" (domain "x_y") None ("" ∷ [])) "http://x_y/"
    ∷ done "http://a_b/" (listed "http" (domain "a_b") None ("" ∷ [])) "http://a_b/"
    ∷ done "http://a%2Db/" (listed "http" (domain "a-b") None ("" ∷ [])) "http://a-b/"
    ∷ done "http://a%62/" (listed "http" (domain "ab") None ("" ∷ [])) "http://ab/"
    ∷ done "http://a+b/" (listed "http" (domain "a+b") None ("" ∷ [])) "http://a+b/"
    ∷ done "http://a＋b/" (listed "http" (domain "a+b") None ("" ∷ [])) "http://a+b/"
    ∷ done "file://a_b/" (listed "file" (domain "a_b") None ("" ∷ [])) "file://a_b/"
    ∷ []

-- a domain that the strict settings of ToASCII refuse, with an empty label, or of a wrong length
abbrev pub domain_rows : List Row
domain_rows =
    done "http://-a/" (listed "http" (domain "-a") None ("" ∷ [])) "http://-a/"
    ∷ done "http://ab--c/" (listed "http" (domain "ab--c") None ("" ∷ [])) "http://ab--c/"
    ∷ done "http://a..b/" (listed "http" (domain "a..b") None ("" ∷ [])) "http://a..b/"
    ∷ done "http://./" (listed "http" (domain ".") None ("" ∷ [])) "http://./"
    ∷ done "http://aaaaaaaaaaaaaaaaaaaaaaaaaaaaaaaaaaaaaaaaaaaaaaaaaaaaaaaaaaaaaaaa/"
    (listed "http" (domain "aaaaaaaaaaaaaaaaaaaaaaaaaaaaaaaaaaaaaaaaaaaaaaaaaaaaaaaaaaaaaaaa") None ("" ∷ []))
    "http://aaaaaaaaaaaaaaaaaaaaaaaaaaaaaaaaaaaaaaaaaaaaaaaaaaaaaaaaaaaaaaaa/"
    ∷ []

-- a text that is mapped to an IPv4 address
abbrev pub number_rows : List Row
number_rows =
    done "http://１.2.3.4/" (listed "http" (ipv4 16909060) None ("" ∷ [])) "http://1.2.3.4/"
    ∷ done "http://%31.2.3.4/" (listed "http" (ipv4 16909060) None ("" ∷ [])) "http://1.2.3.4/"
    ∷ done "http://%31.2.3/" (listed "http" (ipv4 0x01020003) None ("" ∷ [])) "http://1.2.0.3/"
    ∷ []

-- an address of fewer than four numbers
abbrev pub fewer_rows : List Row
fewer_rows =
    done "http://1.2.3/" (listed "http" (ipv4 0x01020003) None ("" ∷ [])) "http://1.2.0.3/"
    ∷ done "http://255.1/" (listed "http" (ipv4 0xFF000001) None ("" ∷ [])) "http://255.0.0.1/"
    ∷ done "http://1/" (listed "http" (ipv4 1) None ("" ∷ [])) "http://0.0.0.1/"
    ∷ done "file://127.1/x" (listed "file" (ipv4 0x7F000001) None ("x" ∷ [])) "file://127.0.0.1/x"
    ∷ []

-- an empty first segment after an authority
abbrev pub segment_rows : List Row
segment_rows =
    done "http://h//a" (listed "http" (domain "h") None ("" ∷ "a" ∷ [])) "http://h//a"
    ∷ done "https://example.com//a"
    (listed "https" (domain "example.com") None ("" ∷ "a" ∷ [])) "https://example.com//a"
    ∷ done "http://h//.." (listed "http" (domain "h") None ("" ∷ [])) "http://h/"
    ∷ done "file:////a" (listed "file" empty_host None ("" ∷ "a" ∷ [])) "file:////a"
    ∷ done "file:////C:/.." (listed "file" empty_host None ("" ∷ "" ∷ [])) "file:////"
    ∷ done "foo://h//a" (listed "foo" (opaque_host "h") None ("" ∷ "a" ∷ [])) "foo://h//a"
    ∷ against root_base (done "//h//a" (listed "http" (domain "h") None ("" ∷ "a" ∷ [])) "http://h//a")
    ∷ []

-- a drive letter after a host, the text's or the base's
abbrev pub drive_rows : List Row
drive_rows =
    done "file://h/C:/x" (listed "file" (domain "h") None ("C:" ∷ "x" ∷ [])) "file://h/C:/x"
    ∷ done "file://localhost/C:/x" (listed "file" empty_host None ("C:" ∷ "x" ∷ [])) "file:///C:/x"
    ∷ against file_host_base (done "/C:/x" (listed "file" (domain "h") None ("C:" ∷ "x" ∷ [])) "file://h/C:/x")
    ∷ []

-- a space in an opaque path
abbrev pub space_rows : List Row
space_rows =
    done "urn:a b" (opaque "urn" "a b") "urn:a b"
    ∷ done "javascript:alert(1, 2)" (opaque "javascript" "alert(1, 2)") "javascript:alert(1, 2)"
    ∷ done "urn:a ?q" (with_query "q" (opaque "urn" "a%20")) "urn:a%20?q"
    ∷ done "urn:a  #f" (with_fragment "f" (opaque "urn" "a %20")) "urn:a %20#f"
    ∷ []

-- ---- what it takes as the standard profile does

-- hosts: U+00AD is removed, and of a file URL `localhost` in any case is the empty host
abbrev pub plain_rows : List Row
plain_rows =
    done "http://h/" (listed "http" (domain "h") None ("" ∷ [])) "http://h/"
    ∷ done "http://1.2.3.4/" (listed "http" (ipv4 0x01020304) None ("" ∷ [])) "http://1.2.3.4/"
    ∷ done "http://a\u{ad}/" (listed "http" (domain "a") None ("" ∷ [])) "http://a/"
    ∷ done "file://h/" (listed "file" (domain "h") None ("" ∷ [])) "file://h/"
    ∷ done "file://LOCALHOST/" (listed "file" empty_host None ("" ∷ [])) "file:///"
    ∷ done "file:///C:/x" (listed "file" empty_host None ("C:" ∷ "x" ∷ [])) "file:///C:/x"
    ∷ []

-- ---- what it refuses

-- hosts that end in a number and aren't IPv4 address: a number above 255, five of them, a full stop at the end, a `0`
-- before other digits, and a hexadecimal one
abbrev pub refused_numbers : List Row
refused_numbers =
    stops "http://256/" 10
    ∷ stops "http://1.2.3.4.5/" 16
    ∷ stops "http://1.2.3.4./" 15
    ∷ stops "http://01/" 9
    ∷ stops "http://0x1/" 10
    ∷ []

-- hosts of which no domain is made: an escaped `/`, an escape that isn't UTF-8, no Punycode after `xn--`, and only
-- U+00AD, of which nothing is left
abbrev pub refused_domains : List Row
refused_domains =
    stops "http://a%2Fb/" 12
    ∷ stops "http://%ff/" 10
    ∷ stops "http://xn--a/" 12
    ∷ stops "http://\u{ad}/" 8
    ∷ stops "http:///" 7
    ∷ []

-- hosts at which the parser stops before it reads them: what is before `@` would be credentials, `\` would end the
-- host, and a drive letter would begin the path
abbrev pub refused_marks : List Row
refused_marks =
    stops "http://u@h/" 8
    ∷ stops "http://@h/" 7
    ∷ stops "http://a\\b/" 8
    ∷ stops "file://a\\b/" 8
    ∷ stops "file://C:/x" 9
    ∷ stops "file://c|/x" 9
    ∷ []

-- a space at the text's end, and elsewhere than in an opaque path
abbrev pub refused_spaces : List Row
refused_spaces =
    stops "urn:a " 5
    ∷ stops "urn: " 4
    ∷ stops "urn:a?b c" 7
    ∷ stops "urn:/a b" 6
    ∷ []

-- ---- `//` and `///x` against each class of base

-- `urn:a b`
abbrev pub spaced_base : Url
spaced_base = opaque "urn" "a b"

-- class SpecialNotFile needs a host
abbrev pub special_references : List Row
special_references =
    against root_base (stops "//" 2)
    ∷ against root_base (stops "///x" 2)
    ∷ []

-- class File has an empty one
abbrev pub file_references : List Row
file_references =
    against drive_base (done "//" (listed "file" empty_host None ("" ∷ [])) "file:///")
    ∷ against drive_base (done "///x" (listed "file" empty_host None ("x" ∷ [])) "file:///x")
    ∷ against file_host_base (done "//" (listed "file" empty_host None ("" ∷ [])) "file:///")
    ∷ against file_host_base (done "///x" (listed "file" empty_host None ("x" ∷ [])) "file:///x")
    ∷ []

-- and so has class Other
abbrev pub other_references : List Row
other_references =
    against other_base (done "//" (listed "foo" empty_host None []) "foo://")
    ∷ against other_base (done "///x" (listed "foo" empty_host None ("x" ∷ [])) "foo:///x")
    ∷ []

-- an opaque path, which may have a space, takes only a fragment
abbrev pub opaque_references : List Row
opaque_references =
    against urn_base (stops "//" 0)
    ∷ against urn_base (stops "///x" 0)
    ∷ against spaced_base (stops "//" 0)
    ∷ against spaced_base (done "#f" (with_fragment "f" (opaque "urn" "a b")) "urn:a b#f")
    ∷ []

-- ---- the law

-- The row's text is valid under the parser's profile, with parts that denote the URL of the row's answer; or, where the
-- run stops, it has no valid parts.
abbrev pub Checks : Row → Answer → Type 0
Checks row (is_done url text) =
    (parts : Parts) × Valid Parser row.base row.text parts × (url ≡ denote row.base parts)
Checks row (has_stopped place) = (parts : Parts) → ¬ (Valid Parser row.base row.text parts)
Checks row goes_on = ⊥

-- so each row of the table
abbrev pub AreChecked : List Row → Type 0
AreChecked [] = Unit {0}
AreChecked (row ∷ rows) = Checks row row.answer × AreChecked rows

-- each run gives its answer, and the profile checks as it does
abbrev pub IsCheckedTable : List Row → Type 0
IsCheckedTable rows = AllHold rows × AreChecked rows

-- each table
pub record ParserProfileRows : Type 0 where
  pub files : IsCheckedTable file_rows
  pub hosts : IsCheckedTable host_rows
  pub domains : IsCheckedTable domain_rows
  pub mapped_numbers : IsCheckedTable number_rows
  pub fewer_numbers : IsCheckedTable fewer_rows
  pub segments : IsCheckedTable segment_rows
  pub drives : IsCheckedTable drive_rows
  pub spaces : IsCheckedTable space_rows
  pub plain_hosts : IsCheckedTable plain_rows
  pub no_numbers : IsCheckedTable refused_numbers
  pub no_domains : IsCheckedTable refused_domains
  pub marks : IsCheckedTable refused_marks
  pub no_spaces : IsCheckedTable refused_spaces
  pub special_base : IsCheckedTable special_references
  pub file_base : IsCheckedTable file_references
  pub other_base : IsCheckedTable other_references
  pub opaque_base : IsCheckedTable opaque_references
