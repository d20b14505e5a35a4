-- Runs on texts with the scheme file (URL Standard, sections 4.2 to 4.4), without a base.
use Rattle.std.specs.Prelude.{List, [], ◌∷◌, None}
use Rattle.uv_parser.specs.Rows.{Row, AllHold, done, stops, listed, with_query, with_fragment, domain, ipv4, ipv6}
use Rattle.uv_parser.specs.Rows.{empty_host}

-- the host of a file URL, where `localhost` is the empty one, and a drive letter isn't one
abbrev pub host_rows : List Row
host_rows =
    done "file:///" (listed "file" empty_host None ("" ∷ [])) "file:///"
    ∷ done "file://localhost/etc" (listed "file" empty_host None ("etc" ∷ [])) "file:///etc"
    ∷ done "file://LOCALHOST" (listed "file" empty_host None ("" ∷ [])) "file:///"
    ∷ done "file://h" (listed "file" (domain "h") None ("" ∷ [])) "file://h/"
    ∷ done "file://h?q" (with_query "q" (listed "file" (domain "h") None ("" ∷ []))) "file://h/?q"
    ∷ done "FILE://EXAMPLE.com/?'"
    (with_query "%27" (listed "file" (domain "example.com") None ("" ∷ []))) "file://example.com/?%27"
    ∷ done "file://1.2.3.4/x" (listed "file" (ipv4 16909060) None ("x" ∷ [])) "file://1.2.3.4/x"
    ∷ done "file://[::1]#f"
    (with_fragment "f" (listed "file" (ipv6 (0 ∷ 0 ∷ 0 ∷ 0 ∷ 0 ∷ 0 ∷ 0 ∷ 1 ∷ [])) None ("" ∷ []))) "file://[::1]/#f"
    ∷ stops "file:/x" 4
    ∷ stops "file:x" 4
    ∷ stops "file:" 4
    ∷ stops "file://C:/x" 9
    ∷ stops "file://c|" 9
    ∷ stops "file://h\\x" 8
    ∷ stops "file://a^b/" 10
    ∷ stops "file://u@h/" 10
    ∷ stops "file://h:80/x" 11
    ∷ done "file://1.2.3/" (listed "file" (ipv4 0x01020003) None ("" ∷ [])) "file://1.2.0.3/"
    ∷ stops "file://256/" 10
    ∷ stops "file://[::1/" 11
    ∷ []

-- drive letters in a path, which `..` leaves where it is the only segment
abbrev pub drive_rows : List Row
drive_rows =
    done "file:///C:/.." (listed "file" empty_host None ("C:" ∷ "" ∷ [])) "file:///C:/"
    ∷ done "file:///C:/../.." (listed "file" empty_host None ("C:" ∷ "" ∷ [])) "file:///C:/"
    ∷ done "file:///C:/a/../../../b" (listed "file" empty_host None ("C:" ∷ "b" ∷ [])) "file:///C:/b"
    ∷ done "file:///C:" (listed "file" empty_host None ("C:" ∷ [])) "file:///C:"
    ∷ done "file:///x/C:/.." (listed "file" empty_host None ("x" ∷ "" ∷ [])) "file:///x/"
    ∷ done "file:///c%3A/.." (listed "file" empty_host None ("" ∷ [])) "file:///"
    ∷ done "file:///CC:/.." (listed "file" empty_host None ("" ∷ [])) "file:///"
    ∷ done "file://h/C:" (listed "file" (domain "h") None ("C:" ∷ [])) "file://h/C:"
    ∷ done "file://h/C:x/.." (listed "file" (domain "h") None ("" ∷ [])) "file://h/"
    ∷ stops "file:///C|/x" 9
    ∷ stops "file://h/C|/x" 10
    ∷ []

-- what the parser does on these texts
abbrev pub FileRows : Type 0
FileRows = AllHold host_rows × AllHold drive_rows
