-- The parts of a text as places in its bytes.
use Rattle.std.specs.Prelude.{◌≡◌, ℕ, ◌+◌, ◌≤◌, List, Option, Some, None, length, slice_range}
use Rattle.std.specs.Str.{encode_utf8_all}
use Rattle.urlcheck_c.specs.declared.spans.Span.{Span}
use Rattle.urlcheck_c.specs.declared.spans.Spans.{Spans}
use Rattle.uv_model.specs.Parts.{Parts}

-- the span of an absent part
abbrev pub no_span : Span
no_span = record { start = 0; length = 0; present = 0 }

-- the spans of a text without parts
abbrev pub no_spans : Spans
no_spans = record {
  scheme = no_span;
  host = no_span;
  port = no_span;
  path = no_span;
  query = no_span;
  fragment = no_span;
}

-- ---- how the parts are laid

-- how many bytes a part takes with its delimiter
abbrev pub extent : ℕ → Option (List ℕ) → ℕ
extent mark None = 0
extent mark (Some part) = mark + length (encode_utf8_all part)

-- the place of the authority's `//`, after the scheme and its `:`
abbrev pub host_at : Parts → ℕ
host_at parts = extent 1 parts.scheme

-- the place of the port's `:`, after the host
abbrev pub port_at : Parts → ℕ
port_at parts = host_at parts + extent 2 parts.host_text

-- the place of the path, after the port
abbrev pub path_at : Parts → ℕ
path_at parts = port_at parts + extent 1 parts.port_text

-- the place of the query's `?`, after the path
abbrev pub query_at : Parts → ℕ
query_at parts = path_at parts + extent 0 (Some parts.path_text)

-- the place of the fragment's `#`, after the query
abbrev pub fragment_at : Parts → ℕ
fragment_at parts = query_at parts + extent 1 parts.query

-- how many bytes the parts take
abbrev pub whole_extent : Parts → ℕ
whole_extent parts = fragment_at parts + extent 1 parts.fragment

-- the span of a part whose delimiter begins here
abbrev pub span_of : ℕ → ℕ → Option (List ℕ) → Span
span_of at mark None = no_span
span_of at mark (Some part) = record { start = at + mark; length = length (encode_utf8_all part); present = 1 }

-- the spans of parts that are one after the other
abbrev pub spans_of : Parts → Spans
spans_of parts = record {
  scheme = span_of 0 0 parts.scheme;
  host = span_of (host_at parts) 2 parts.host_text;
  port = span_of (port_at parts) 1 parts.port_text;
  path = span_of (path_at parts) 0 (Some parts.path_text);
  query = span_of (query_at parts) 1 parts.query;
  fragment = span_of (fragment_at parts) 1 parts.fragment;
}

-- ---- where the parts are

-- The part is after its delimiter, which begins here: its span ends within the text, and the bytes there are its
-- UTF-8. An absent part has no span.
abbrev pub IsSpan : List ℕ → ℕ → ℕ → Option (List ℕ) → Span → Type 0
IsSpan bytes at mark None span = span ≡ no_span
IsSpan bytes at mark (Some part) span =
    (span ≡ span_of at mark (Some part)) × (span.start + span.length ≤ length bytes)
    × (slice_range bytes span.start (span.start + span.length) ≡ encode_utf8_all part)

-- the spans belong to the parts, each after the one before, and the parts with their delimiters make up the whole text
pub record AreSpans (bytes : List ℕ) (parts : Parts) (spans : Spans) : Type 0 where
  pub scheme : IsSpan bytes 0 0 parts.scheme spans.scheme
  pub host : IsSpan bytes (host_at parts) 2 parts.host_text spans.host
  pub port : IsSpan bytes (port_at parts) 1 parts.port_text spans.port
  pub path : IsSpan bytes (path_at parts) 0 (Some parts.path_text) spans.path
  pub query : IsSpan bytes (query_at parts) 1 parts.query spans.query
  pub fragment : IsSpan bytes (fragment_at parts) 1 parts.fragment spans.fragment
  pub whole : length bytes ≡ whole_extent parts
