-- Runs on texts with an opaque path, and the test before the first step (URL Standard, section 4.4).
use Rattle.std.specs.Prelude.{List, [], ◌∷◌}
use Rattle.uv_parser.specs.Rows.{Row, AllHold, done, stops, in_steps, unfinished, opaque, with_query, with_fragment}

-- a scheme that isn't special, and no `/` after it
abbrev pub opaque_rows : List Row
opaque_rows =
    done "urn:isbn:0451450523" (opaque "urn" "isbn:0451450523") "urn:isbn:0451450523"
    ∷ done "foo:" (opaque "foo" "") "foo:"
    ∷ done "foo:?" (with_query "" (opaque "foo" "")) "foo:?"
    ∷ done "foo:#" (with_fragment "" (opaque "foo" "")) "foo:#"
    ∷ done "foo:?#" (with_query "" (with_fragment "" (opaque "foo" ""))) "foo:?#"
    ∷ done "urn:'" (opaque "urn" "'") "urn:'"
    ∷ done "urn:é?x'y#'" (with_query "x'y" (with_fragment "'" (opaque "urn" "%C3%A9"))) "urn:%C3%A9?x'y#'"
    ∷ done "urn:a/b//../c" (opaque "urn" "a/b//../c") "urn:a/b//../c"
    ∷ done "blob:https://h/x" (opaque "blob" "https://h/x") "blob:https://h/x"
    ∷ done "UrN+a-1.B:X" (opaque "urn+a-1.b" "X") "urn+a-1.b:X"
    ∷ done "a:?b?/c#d?/é" (with_query "b?/c" (with_fragment "d?/%C3%A9" (opaque "a" ""))) "a:?b?/c#d?/%C3%A9"
    ∷ stops "urn:a?b c" 7
    ∷ stops "urn:a#b\u{7f}" 7
    ∷ stops "urn:a#b#c" 7
    ∷ []

-- A space is taken, as `%20` if `?` or `#` follows it. Elsewhere it is a fault, and at the text's end it is removed.
abbrev pub space_rows : List Row
space_rows =
    done "urn:a b" (opaque "urn" "a b") "urn:a b"
    ∷ done "urn: a" (opaque "urn" " a") "urn: a"
    ∷ done "urn: /x" (opaque "urn" " /x") "urn: /x"
    ∷ done "javascript:alert(1, 2)" (opaque "javascript" "alert(1, 2)") "javascript:alert(1, 2)"
    ∷ done "urn:a ?q" (with_query "q" (opaque "urn" "a%20")) "urn:a%20?q"
    ∷ done "urn:a  #f" (with_fragment "f" (opaque "urn" "a %20")) "urn:a %20#f"
    ∷ done "urn: ?#" (with_query "" (with_fragment "" (opaque "urn" "%20"))) "urn:%20?#"
    ∷ done "urn:a b ?q" (with_query "q" (opaque "urn" "a b%20")) "urn:a b%20?q"
    ∷ done "urn:a b%20?q" (with_query "q" (opaque "urn" "a b%20")) "urn:a b%20?q"
    ∷ stops "urn:a " 5
    ∷ stops "urn:a  " 5
    ∷ stops "urn: " 4
    ∷ stops "urn:a ?q " 8
    ∷ stops "urn:a b\"" 7
    ∷ stops "urn:%4 1" 4
    ∷ stops "urn:a?b " 7
    ∷ stops "urn:/a b" 6
    ∷ stops "urn://h/a b" 9
    ∷ []

-- URL code points, and others
abbrev pub unit_rows : List Row
unit_rows =
    done "urn:!$&'()*+,-./09:;=@AZ_az~" (opaque "urn" "!$&'()*+,-./09:;=@AZ_az~") "urn:!$&'()*+,-./09:;=@AZ_az~"
    ∷ done "urn:\u{a0}" (opaque "urn" "%C2%A0") "urn:%C2%A0"
    ∷ done "urn:﷏\u{fdf0}" (opaque "urn" "%EF%B7%8F%EF%B7%B0") "urn:%EF%B7%8F%EF%B7%B0"
    ∷ done "urn:\u{10fffd}" (opaque "urn" "%F4%8F%BF%BD") "urn:%F4%8F%BF%BD"
    ∷ done "urn:%e9%4F" (opaque "urn" "%e9%4F") "urn:%e9%4F"
    ∷ stops "urn:a\"" 5
    ∷ stops "urn:a<" 5
    ∷ stops "urn:a>" 5
    ∷ stops "urn:a[" 5
    ∷ stops "urn:a\\" 5
    ∷ stops "urn:a]" 5
    ∷ stops "urn:a^" 5
    ∷ stops "urn:a`" 5
    ∷ stops "urn:a{" 5
    ∷ stops "urn:a|" 5
    ∷ stops "urn:a}" 5
    ∷ stops "urn:\u{7f}" 4
    ∷ stops "urn:\u{9f}" 4
    ∷ stops "urn:\u{fdd0}" 4
    ∷ stops "urn:\u{fdef}" 4
    ∷ stops "urn:\u{fffe}" 4
    ∷ stops "urn:\u{10fffe}" 4
    ∷ stops "urn:%" 4
    ∷ stops "urn:%4" 4
    ∷ stops "urn:%4g" 4
    ∷ []

-- Before the first step: a C0 control or a space at either end, and a tab, LF or CR wherever it is.
abbrev pub removed_rows : List Row
removed_rows =
    stops "" 0
    ∷ in_steps 0 (stops " " 0)
    ∷ in_steps 0 (stops "urn:a " 5)
    ∷ in_steps 0 (stops "\u{1f}urn:a" 0)
    ∷ in_steps 0 (stops "urn:a\0" 5)
    ∷ in_steps 0 (stops "u\tn:a " 1)
    ∷ in_steps 0 (stops "urn:\na" 4)
    ∷ in_steps 0 (stops "urn:a#\rb" 6)
    ∷ unfinished "urn:\u{1}a" 0
    ∷ stops "urn:\u{1}a" 4
    ∷ unfinished "urn: a" 0
    ∷ []

-- what the parser does on these texts
abbrev pub OpaquePathRows : Type 0
OpaquePathRows = AllHold opaque_rows × AllHold space_rows × AllHold unit_rows × AllHold removed_rows
