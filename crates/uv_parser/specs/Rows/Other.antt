-- Runs on texts with a scheme that isn't special and a `/` after it, without a base (URL Standard, sections 4.3, 4.4).
use Rattle.std.specs.Prelude.{List, [], ◌∷◌, Some, None}
use Rattle.uv_parser.specs.Rows.{Row, AllHold, done, stops, listed, with_query, with_fragment, ipv6, opaque_host}
use Rattle.uv_parser.specs.Rows.{empty_host}

-- opaque hosts and ports
abbrev pub authority_rows : List Row
authority_rows =
    done "foo://" (listed "foo" empty_host None []) "foo://"
    ∷ done "foo:///a" (listed "foo" empty_host None ("a" ∷ [])) "foo:///a"
    ∷ done "foo://u%40h:80/a/" (listed "foo" (opaque_host "u%40h") (Some 80) ("a" ∷ "" ∷ [])) "foo://u%40h:80/a/"
    ∷ done "foo://H" (listed "foo" (opaque_host "H") None []) "foo://H"
    ∷ done "foo://É%e9/" (listed "foo" (opaque_host "%C3%89%e9") None ("" ∷ [])) "foo://%C3%89%e9/"
    ∷ done "foo://1.2.3:/" (listed "foo" (opaque_host "1.2.3") None ("" ∷ [])) "foo://1.2.3/"
    ∷ done "foo://h?q#f" (with_query "q" (with_fragment "f" (listed "foo" (opaque_host "h") None []))) "foo://h?q#f"
    ∷ done "foo://h:8#f" (with_fragment "f" (listed "foo" (opaque_host "h") (Some 8) [])) "foo://h:8#f"
    ∷ done "foo://[::1]:0/x"
    (listed "foo" (ipv6 (0 ∷ 0 ∷ 0 ∷ 0 ∷ 0 ∷ 0 ∷ 0 ∷ 1 ∷ [])) (Some 0) ("x" ∷ [])) "foo://[::1]:0/x"
    ∷ stops "foo://:80" 6
    ∷ stops "foo://u@h/" 7
    ∷ stops "foo://a[:b/" 10
    ∷ stops "foo://a^:8x9y/" 8
    ∷ stops "foo://h\\x/" 9
    ∷ stops "foo://h\\:8/" 8
    ∷ stops "foo://a%4/" 9
    ∷ stops "foo://a b/" 9
    ∷ stops "foo://a`b/" 9
    ∷ stops "foo://h:8a" 9
    ∷ stops "foo://h:65536" 13
    ∷ stops "foo://[::1" 10
    ∷ stops "foo://h/a b" 9
    ∷ []

-- a path without an authority
abbrev pub path_rows : List Row
path_rows =
    done "foo:/a/b" (listed "foo" None None ("a" ∷ "b" ∷ [])) "foo:/a/b"
    ∷ done "foo:/" (listed "foo" None None ("" ∷ [])) "foo:/"
    ∷ done "foo:/.//a" (listed "foo" None None ("" ∷ "a" ∷ [])) "foo:/.//a"
    ∷ done "foo:/..//a" (listed "foo" None None ("" ∷ "a" ∷ [])) "foo:/.//a"
    ∷ done "foo:/a/../.." (listed "foo" None None ("" ∷ [])) "foo:/"
    ∷ done "foo:/C:/../.." (listed "foo" None None ("" ∷ [])) "foo:/"
    ∷ done "foo:/?'#'" (with_query "'" (with_fragment "'" (listed "foo" None None ("" ∷ [])))) "foo:/?'#'"
    ∷ []

-- what the parser does on these texts
abbrev pub OtherRows : Type 0
OtherRows = AllHold authority_rows × AllHold path_rows
