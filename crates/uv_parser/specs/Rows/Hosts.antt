-- Runs on texts with a special scheme that try the host parser (URL Standard, section 3.5), without a base.
use Rattle.std.specs.Prelude.{List, [], ◌∷◌, None}
use Rattle.uv_parser.specs.Rows.{Row, AllHold, done, stops, listed, domain, ipv4, ipv6}

-- domains, also by their ASCII form
abbrev pub domain_rows : List Row
domain_rows =
    done "https://bücher.example/"
    (listed "https" (domain "xn--bcher-kva.example") None ("" ∷ [])) "https://xn--bcher-kva.example/"
    ∷ done "http://XN--Bcher-KVA.example/"
    (listed "http" (domain "xn--bcher-kva.example") None ("" ∷ [])) "http://xn--bcher-kva.example/"
    ∷ done "http://example.com./" (listed "http" (domain "example.com.") None ("" ∷ [])) "http://example.com./"
    ∷ done "http://aaaaaaaaaaaaaaaaaaaaaaaaaaaaaaaaaaaaaaaaaaaaaaaaaaaaaaaaaaaaaaa/"
    (listed "http" (domain "aaaaaaaaaaaaaaaaaaaaaaaaaaaaaaaaaaaaaaaaaaaaaaaaaaaaaaaaaaaaaaa") None ("" ∷ []))
    "http://aaaaaaaaaaaaaaaaaaaaaaaaaaaaaaaaaaaaaaaaaaaaaaaaaaaaaaaaaaaaaaa/"
    ∷ done "http://a%2Db/" (listed "http" (domain "a-b") None ("" ∷ [])) "http://a-b/"
    ∷ done "http://1.a/" (listed "http" (domain "1.a") None ("" ∷ [])) "http://1.a/"
    ∷ done "http://a.0xG/" (listed "http" (domain "a.0xg") None ("" ∷ [])) "http://a.0xg/"
    ∷ stops "http://\u{ad}/" 8
    ∷ stops "http://xn--/" 11
    ∷ stops "http://a^b/" 10
    ∷ stops "http://a|b" 10
    ∷ stops "http://a%/" 9
    ∷ stops "http://a%3Ab/" 12
    ∷ stops "http://a%25b/" 12
    ∷ stops "http://a%01/" 11
    ∷ stops "http://a%7F/" 11
    ∷ stops "http://%FF/" 10
    ∷ []

-- a form that ends in a number is one to four shortest decimal numbers of at most 255
abbrev pub ipv4_rows : List Row
ipv4_rows =
    done "http://192.168.0.1/" (listed "http" (ipv4 3232235521) None ("" ∷ [])) "http://192.168.0.1/"
    ∷ done "http://0.0.0.0/" (listed "http" (ipv4 0) None ("" ∷ [])) "http://0.0.0.0/"
    ∷ done "http://255.255.255.255" (listed "http" (ipv4 4294967295) None ("" ∷ [])) "http://255.255.255.255/"
    ∷ done "http://1.2.3/" (listed "http" (ipv4 0x01020003) None ("" ∷ [])) "http://1.2.0.3/"
    ∷ done "http://1.2/" (listed "http" (ipv4 0x01000002) None ("" ∷ [])) "http://1.0.0.2/"
    ∷ done "http://1" (listed "http" (ipv4 1) None ("" ∷ [])) "http://0.0.0.1/"
    ∷ done "http://0/" (listed "http" (ipv4 0) None ("" ∷ [])) "http://0.0.0.0/"
    ∷ done "http://255.255/" (listed "http" (ipv4 0xFF0000FF) None ("" ∷ [])) "http://255.0.0.255/"
    ∷ done "http://%31.2.3/" (listed "http" (ipv4 0x01020003) None ("" ∷ [])) "http://1.2.0.3/"
    ∷ stops "http://256/" 10
    ∷ stops "http://1.256/" 12
    ∷ stops "http://1./" 9
    ∷ stops "http://1..2/" 11
    ∷ stops "http://01/" 9
    ∷ stops "http://0x1/" 10
    ∷ stops "http://256.0.0.1/" 16
    ∷ stops "http://01.2.3.4/" 15
    ∷ stops "http://1.2.3.4./" 15
    ∷ stops "http://1.2.3.4.5/" 16
    ∷ stops "http://a..1/" 11
    ∷ stops "http://a.0X1f/" 13
    ∷ stops "http://0x/" 9
    ∷ []

-- the pieces of an IPv6 address, and how they are written
abbrev pub ipv6_rows : List Row
ipv6_rows =
    done "http://[1:2:3:4:5:6:7::]/"
    (listed "http" (ipv6 (1 ∷ 2 ∷ 3 ∷ 4 ∷ 5 ∷ 6 ∷ 7 ∷ 0 ∷ [])) None ("" ∷ [])) "http://[1:2:3:4:5:6:7:0]/"
    ∷ done "http://[::ffff:1.2.3.4]/"
    (listed "http" (ipv6 (0 ∷ 0 ∷ 0 ∷ 0 ∷ 0 ∷ 65535 ∷ 258 ∷ 772 ∷ [])) None ("" ∷ [])) "http://[::ffff:102:304]/"
    ∷ done "http://[::]/" (listed "http" (ipv6 (0 ∷ 0 ∷ 0 ∷ 0 ∷ 0 ∷ 0 ∷ 0 ∷ 0 ∷ [])) None ("" ∷ [])) "http://[::]/"
    ∷ done "http://[1::8]/" (listed "http" (ipv6 (1 ∷ 0 ∷ 0 ∷ 0 ∷ 0 ∷ 0 ∷ 0 ∷ 8 ∷ [])) None ("" ∷ [])) "http://[1::8]/"
    ∷ done "http://[::2:3:4:5:6:7:8]/"
    (listed "http" (ipv6 (0 ∷ 2 ∷ 3 ∷ 4 ∷ 5 ∷ 6 ∷ 7 ∷ 8 ∷ [])) None ("" ∷ [])) "http://[0:2:3:4:5:6:7:8]/"
    ∷ done "http://[1:2:3:4:5:6:1.2.3.4]/"
    (listed "http" (ipv6 (1 ∷ 2 ∷ 3 ∷ 4 ∷ 5 ∷ 6 ∷ 258 ∷ 772 ∷ [])) None ("" ∷ [])) "http://[1:2:3:4:5:6:102:304]/"
    ∷ done "http://[1:0:0:2:0:0:0:3]/"
    (listed "http" (ipv6 (1 ∷ 0 ∷ 0 ∷ 2 ∷ 0 ∷ 0 ∷ 0 ∷ 3 ∷ [])) None ("" ∷ [])) "http://[1:0:0:2::3]/"
    ∷ done "http://[1:0:0:2:3:0:0:4]/"
    (listed "http" (ipv6 (1 ∷ 0 ∷ 0 ∷ 2 ∷ 3 ∷ 0 ∷ 0 ∷ 4 ∷ [])) None ("" ∷ [])) "http://[1::2:3:0:0:4]/"
    ∷ done "http://[::000F:aBcD]/"
    (listed "http" (ipv6 (0 ∷ 0 ∷ 0 ∷ 0 ∷ 0 ∷ 0 ∷ 15 ∷ 43981 ∷ [])) None ("" ∷ [])) "http://[::f:abcd]/"
    ∷ []

-- the IPv6 parser fails, so the machine stops after `]`
abbrev pub ipv6_fault_rows : List Row
ipv6_fault_rows =
    stops "http://[1:2:3:4:5:6:7:8::]/" 26
    ∷ stops "http://[1::2::3]/" 16
    ∷ stops "http://[]/" 9
    ∷ stops "http://[:1]/" 11
    ∷ stops "http://[1:]/" 11
    ∷ stops "http://[:::]/" 12
    ∷ stops "http://[12345::]/" 16
    ∷ stops "http://[1.2.3.4::]/" 18
    ∷ stops "http://[::1.2.3]/" 16
    ∷ stops "http://[::1.2.3.]/" 17
    ∷ stops "http://[::1.2.3.04]/" 19
    ∷ stops "http://[::1.2.3.256]/" 20
    ∷ stops "http://[::1.2.3.4.5]/" 20
    ∷ stops "http://[::.1.2.3]/" 17
    ∷ stops "http://[1:2:3:4:5:6:7:1.2.3.4]/" 30
    ∷ stops "http://[1:2:3:4:5:6:7]/" 22
    ∷ stops "http://[::g]/" 12
    ∷ []

-- what the parser does on these texts
abbrev pub HostRows : Type 0
HostRows = AllHold domain_rows × AllHold ipv4_rows × AllHold ipv6_rows × AllHold ipv6_fault_rows
