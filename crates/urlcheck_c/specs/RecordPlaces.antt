-- The places of a record's parts in its text (URL Standard, section 4.5), in bytes. The text is ASCII.
use Rattle.std.specs.Prelude.{◌≡◌, ℕ, ◌+◌, ◌≤◌, List, Option, Some, None, decimal, length, option_map, slice_range}
use Rattle.uv_model.specs.declared.host.Host.{Host}
use Rattle.uv_model.specs.Records.Serialize.{serial, serial_host, serial_path}
use Rattle.uv_model.specs.Records.Url.{Url}
use Rattle.uv_resolve.specs.declared.layout.HostKind.{HostKind}
use Rattle.uv_resolve.specs.declared.layout.HostKind.TheVariants.{Domain, V4, V6, Opaque, Empty}
use Rattle.uv_resolve.specs.Layout.{host_end, path_end, path_start, query_end}
use Rattle.urlcheck_c.specs.declared.spans.Span.{Span}
use Rattle.urlcheck_c.specs.declared.spans.Spans.{Spans}
use Rattle.urlcheck_c.specs.Span.{no_span}

-- ---- the texts of its parts

-- the number of a host's kind, or 0 for none
abbrev pub host_number : Option HostKind → ℕ
host_number None = 0
host_number (Some Domain) = 1
host_number (Some V4) = 2
host_number (Some V6) = 3
host_number (Some Opaque) = 4
host_number (Some Empty) = 5

-- the text of a host
abbrev pub host_text : Option Host → Option (List ℕ)
host_text host = option_map (λ h. serial_host h) host

-- the text of a port, which is after a host alone
abbrev pub port_text : Option Host → Option ℕ → Option (List ℕ)
port_text None port = None
port_text (Some host) port = option_map (λ p. decimal p) port

-- ---- how they are laid

-- how long a text is
abbrev pub length_in : Option (List ℕ) → Option ℕ
length_in text = option_map (λ t. length t) text

-- how many bytes a text of this length takes with its delimiter
abbrev pub reach : ℕ → Option ℕ → ℕ
reach mark None = 0
reach mark (Some count) = mark + count

-- the place of the authority's `//`, after the scheme and its `:`
abbrev pub host_place : Url → ℕ
host_place url = length url.scheme + 1

-- how long the record's text is
abbrev pub record_extent : Url → ℕ
record_extent url = query_end url + reach 1 (length_in url.fragment)

-- the span of a text of this length whose delimiter begins here
abbrev pub placed_span : ℕ → ℕ → Option ℕ → Span
placed_span at mark None = no_span
placed_span at mark (Some count) = record { start = at + mark; length = count; present = 1 }

-- the spans of the parts
abbrev pub record_spans : Url → Spans
record_spans url = record {
  scheme = placed_span 0 0 (Some (length url.scheme));
  host = placed_span (host_place url) 2 (length_in (host_text url.host));
  port = placed_span (host_end url) 1 (length_in (port_text url.host url.port));
  path = placed_span (path_start url) 0 (Some (length (serial_path url.path)));
  query = placed_span (path_end url) 1 (length_in url.query);
  fragment = placed_span (query_end url) 1 (length_in url.fragment);
}

-- ---- where they are

-- The text is after its delimiter, which begins here: its span ends within the record's text, and the bytes there
-- are this text. An absent one has no span.
abbrev pub StandsAt : List ℕ → ℕ → ℕ → Option (List ℕ) → Span → Type 0
StandsAt bytes at mark None span = span ≡ no_span
StandsAt bytes at mark (Some text) span =
    (span ≡ placed_span at mark (Some (length text))) × (span.start + span.length ≤ length bytes)
    × (slice_range bytes span.start (span.start + span.length) ≡ text)

-- the spans belong to the record's parts, each after the one before, and the parts are the whole text
pub record AreRecordSpans (url : Url) (spans : Spans) : Type 0 where
  pub scheme : StandsAt (serial url) 0 0 (Some url.scheme) spans.scheme
  pub host : StandsAt (serial url) (host_place url) 2 (host_text url.host) spans.host
  pub port : StandsAt (serial url) (host_end url) 1 (port_text url.host url.port) spans.port
  pub path : StandsAt (serial url) (path_start url) 0 (Some (serial_path url.path)) spans.path
  pub query : StandsAt (serial url) (path_end url) 1 url.query spans.query
  pub fragment : StandsAt (serial url) (query_end url) 1 url.fragment spans.fragment
  pub whole : length (serial url) ≡ record_extent url
