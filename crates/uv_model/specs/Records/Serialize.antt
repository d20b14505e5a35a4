-- The URL serializer and the host serializer, after the URL Standard, sections 3.6 and 4.5.
use Rattle.std.specs.Prelude.{ℕ, ◌/◌, ◌%◌, List, [], ◌∷◌, ◌++◌, codes, decimal, Option, Some, None}
use Rattle.uv_model.specs.declared.host.Host.{Host}
use Rattle.uv_model.specs.declared.host.Host.TheVariants as host
use Rattle.uv_model.specs.declared.path.UrlPath.{UrlPath}
use Rattle.uv_model.specs.declared.path.UrlPath.TheVariants.{Opaque, Segments}
use Rattle.uv_model.specs.Ascii.{slash, colon, question_mark, number_sign}
use Rattle.uv_model.specs.Parts.{written_after}
use Rattle.uv_model.specs.Records.Url.{Url}
use Rattle.std.specs.Net.Text.{hex_groups_text}

-- an IPv4 address: its four numbers, the highest first, with `.` between each two
abbrev pub serial_ipv4 : ℕ → List ℕ
serial_ipv4 value =
    decimal (value / 16777216 % 256) ++ codes "." ++ decimal (value / 65536 % 256) ++ codes "."
    ++ decimal (value / 256 % 256) ++ codes "." ++ decimal (value % 256)

-- the pieces of an IPv6 address in brackets, where `::` stands for the first longest run of two zero pieces or more
abbrev pub serial_ipv6 : List ℕ → List ℕ
serial_ipv6 pieces = codes "[" ++ hex_groups_text pieces ++ codes "]"

-- a host
unfoldable pub serial_host : Host → List ℕ
serial_host (host.Domain form) = form
serial_host (host.V4 value) = serial_ipv4 value
serial_host (host.V6 pieces) = serial_ipv6 pieces
serial_host (host.Opaque text) = text
serial_host host.Empty = []

-- the port after `:`
abbrev pub serial_port : Option ℕ → List ℕ
serial_port None = []
serial_port (Some port) = colon ∷ decimal port

-- each segment after `/`
abbrev pub serial_segments : List (List ℕ) → List ℕ
serial_segments [] = []
serial_segments (segment ∷ rest) = slash ∷ (segment ++ serial_segments rest)

-- what is between the scheme's `:` and the path: `//` with host and port, or `/.` before a path that would begin
-- with `//`
abbrev pub serial_authority : Option Host → Option ℕ → UrlPath → List ℕ
serial_authority (Some value) port path = codes "//" ++ serial_host value ++ serial_port port
serial_authority None port (Segments ([] ∷ next ∷ rest)) = codes "/."
serial_authority None port _ = []

-- the path
abbrev pub serial_path : UrlPath → List ℕ
serial_path (Opaque text) = text
serial_path (Segments list) = serial_segments list

-- the whole URL
unfoldable pub serial : Url → List ℕ
serial url =
    url.scheme ++ (colon ∷ (serial_authority url.host url.port url.path ++ (serial_path url.path
    ++ (written_after question_mark url.query ++ written_after number_sign url.fragment))))
