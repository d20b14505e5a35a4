-- Runs on texts with a special scheme other than file (URL Standard, sections 4.3 and 4.4), without a base.
use Rattle.std.specs.Prelude.{List, [], ◌∷◌, Some, None}
use Rattle.uv_parser.specs.Rows.{Row, AllHold, done, stops, in_steps, listed, with_query, with_fragment, domain, ipv6}

-- the scheme, `//` and what may not be there
abbrev pub scheme_rows : List Row
scheme_rows =
    stops "http" 0
    ∷ stops "http:" 5
    ∷ stops "http:/" 5
    ∷ stops "http:x y" 5
    ∷ stops "http:\\\\h/" 5
    ∷ stops "http://" 7
    ∷ in_steps 7 (stops "http:///h" 7)
    ∷ in_steps 7 (stops "http://\\h" 7)
    ∷ stops "http://?q" 7
    ∷ stops "http://#f" 7
    ∷ done "http://h" (listed "http" (domain "h") None ("" ∷ [])) "http://h/"
    ∷ done "HtTp://h" (listed "http" (domain "h") None ("" ∷ [])) "http://h/"
    ∷ done "ftp://h/a" (listed "ftp" (domain "h") None ("a" ∷ [])) "ftp://h/a"
    ∷ []

-- no credentials, and no `\` in an authority
abbrev pub authority_rows : List Row
authority_rows =
    stops "http://user@example.com/" 11
    ∷ stops "http://user:pw@h/" 14
    ∷ stops "http://u@h/a b?%4" 8
    ∷ stops "http://h\\x/" 8
    ∷ stops "http://h\\@x/" 8
    ∷ stops "http://::1]/" 7
    ∷ stops "http://[::1/" 11
    ∷ stops "http://[::1]x/" 13
    ∷ stops "http://:80/" 7
    ∷ []

-- a port is a number up to 65535, and absent where it is empty or the scheme's default
abbrev pub port_rows : List Row
port_rows =
    done "http://h:065535/" (listed "http" (domain "h") (Some 65535) ("" ∷ [])) "http://h:65535/"
    ∷ stops "http://h:65536/" 14
    ∷ stops "http://h:65536" 14
    ∷ done "http://h:/" (listed "http" (domain "h") None ("" ∷ [])) "http://h/"
    ∷ done "http://h:" (listed "http" (domain "h") None ("" ∷ [])) "http://h/"
    ∷ stops "http://h:8a/" 10
    ∷ stops "http://h:8\\a" 10
    ∷ done "ws://h:80/x" (listed "ws" (domain "h") None ("x" ∷ [])) "ws://h/x"
    ∷ done "wss://h:80/x" (listed "wss" (domain "h") (Some 80) ("x" ∷ [])) "wss://h:80/x"
    ∷ done "http://h:00080" (listed "http" (domain "h") None ("" ∷ [])) "http://h/"
    ∷ done "https://h:443?q" (with_query "q" (listed "https" (domain "h") None ("" ∷ []))) "https://h/?q"
    ∷ done "wss://h:443/" (listed "wss" (domain "h") None ("" ∷ [])) "wss://h/"
    ∷ done "ftp://h:21/" (listed "ftp" (domain "h") None ("" ∷ [])) "ftp://h/"
    ∷ done "ftp://h:443#f" (with_fragment "f" (listed "ftp" (domain "h") (Some 443) ("" ∷ []))) "ftp://h:443/#f"
    ∷ done "http://h:0/" (listed "http" (domain "h") (Some 0) ("" ∷ [])) "http://h:0/"
    ∷ done "http://[::1]:81/"
    (listed "http" (ipv6 (0 ∷ 0 ∷ 0 ∷ 0 ∷ 0 ∷ 0 ∷ 0 ∷ 1 ∷ [])) (Some 81) ("" ∷ [])) "http://[::1]:81/"
    ∷ []

-- dot segments, queries, fragments and their escapes
abbrev pub path_rows : List Row
path_rows =
    done "https://EXAMPLE.com:443/a/../b?x='y'#é"
    (with_query "x=%27y%27" (with_fragment "%C3%A9" (listed "https" (domain "example.com") None ("b" ∷ []))))
    "https://example.com/b?x=%27y%27#%C3%A9"
    ∷ done "https://example.com/a//b"
    (listed "https" (domain "example.com") None ("a" ∷ "" ∷ "b" ∷ [])) "https://example.com/a//b"
    ∷ done "http://h/a/%2E%2e/b" (listed "http" (domain "h") None ("b" ∷ [])) "http://h/b"
    ∷ done "http://h/a/." (listed "http" (domain "h") None ("a" ∷ "" ∷ [])) "http://h/a/"
    ∷ done "http://h/a/.." (listed "http" (domain "h") None ("" ∷ [])) "http://h/"
    ∷ done "http://h/../a/" (listed "http" (domain "h") None ("a" ∷ "" ∷ [])) "http://h/a/"
    ∷ done "http://h/a/b/..?q" (with_query "q" (listed "http" (domain "h") None ("a" ∷ "" ∷ []))) "http://h/a/?q"
    ∷ done "http://h/a/.%2E#f" (with_fragment "f" (listed "http" (domain "h") None ("" ∷ []))) "http://h/#f"
    ∷ done "http://h/a/.#f" (with_fragment "f" (listed "http" (domain "h") None ("a" ∷ "" ∷ []))) "http://h/a/#f"
    ∷ done "http://h/a/%2e/b" (listed "http" (domain "h") None ("a" ∷ "b" ∷ [])) "http://h/a/b"
    ∷ done "http://h/a/..." (listed "http" (domain "h") None ("a" ∷ "..." ∷ [])) "http://h/a/..."
    ∷ done "http://h/a/..//b" (listed "http" (domain "h") None ("" ∷ "b" ∷ [])) "http://h//b"
    ∷ done "http://h/C:/../.." (listed "http" (domain "h") None ("" ∷ [])) "http://h/"
    ∷ done "http://h?a/b?c" (with_query "a/b?c" (listed "http" (domain "h") None ("" ∷ []))) "http://h/?a/b?c"
    ∷ done "http://h#a/?'" (with_fragment "a/?'" (listed "http" (domain "h") None ("" ∷ []))) "http://h/#a/?'"
    ∷ done "http://h/'é?é'#é'"
    (with_query "%C3%A9%27" (with_fragment "%C3%A9'" (listed "http" (domain "h") None ("'%C3%A9" ∷ []))))
    "http://h/'%C3%A9?%C3%A9%27#%C3%A9'"
    ∷ []

-- a code point that isn't a URL code point, and `%` without two hex digits
abbrev pub fault_rows : List Row
fault_rows =
    stops "http://h/%4?a" 9
    ∷ stops "http://h/?\u{fffe}" 10
    ∷ stops "http://h/a b" 10
    ∷ stops "http://h/#a#b" 11
    ∷ stops "http://h/a\\b" 10
    ∷ stops "http://h/?%4" 10
    ∷ stops "http://h/#%g0" 10
    ∷ stops "http://h/a|" 10
    ∷ []

-- what the parser does on these texts
abbrev pub SpecialRows : Type 0
SpecialRows =
    AllHold scheme_rows
    × AllHold authority_rows
    × AllHold port_rows
    × AllHold path_rows
    × AllHold fault_rows
