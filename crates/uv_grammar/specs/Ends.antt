-- The ends of a text's parts in its bytes, each after its delimiter, in the order of URL Standard, section 4.3.
use Rattle.std.specs.Prelude.{◌≢◌, ℕ, ◌+◌, ◌-◌, ◌≤◌, ◌==◌, List, length, Option, Some, None, slice_range}
use Rattle.std.specs.Prelude.{if◌then◌else◌}
use Rattle.std.specs.Str.{IsCharBoundary, chars, encode_utf8_all}
use Rattle.uv_grammar.specs.declared.ends.Ends.{Ends}
use Rattle.uv_model.specs.Cut.{Cut}

-- ---- the ends of the parts of a cut

-- how many bytes a part takes with a delimiter of so many
abbrev pub extent : ℕ → Option (List ℕ) → ℕ
extent mark None = 0
extent mark (Some part) = mark + length (encode_utf8_all part)

-- the end of the scheme's `:`
abbrev pub end_of_scheme : Cut → ℕ
end_of_scheme cut = extent 1 cut.scheme

-- the end of the host
abbrev pub end_of_host : Cut → ℕ
end_of_host cut = end_of_scheme cut + extent 2 cut.host_text

-- the end of the port
abbrev pub end_of_port : Cut → ℕ
end_of_port cut = end_of_host cut + extent 1 cut.port_text

-- the end of the path
abbrev pub end_of_path : Cut → ℕ
end_of_path cut = end_of_port cut + extent 0 (Some cut.path_text)

-- the end of the query
abbrev pub end_of_query : Cut → ℕ
end_of_query cut = end_of_path cut + extent 1 cut.query

-- the end of the fragment, which is the text's end
abbrev pub whole_extent : Cut → ℕ
whole_extent cut = end_of_query cut + extent 1 cut.fragment

-- the ends of all parts before the fragment; an absent one ends where the one before it does
abbrev pub ends_of : Cut → Ends
ends_of cut = record {
  scheme = end_of_scheme cut;
  host = end_of_host cut;
  port = end_of_port cut;
  path = end_of_path cut;
  query = end_of_query cut;
}

-- ---- the parts between ends

-- the text of a scheme that ends with its `:` here, or none of an end at the start
abbrev pub scheme_before : List ℕ → ℕ → Option (List ℕ)
scheme_before bytes end = if end == 0 then None else Some (chars (slice_range bytes 0 (end - 1)))

-- the text between two ends after a delimiter of so many bytes, or none between equal ones
abbrev pub part_between : List ℕ → ℕ → ℕ → ℕ → Option (List ℕ)
part_between bytes mark from to = if from == to then None else Some (chars (slice_range bytes (from + mark) to))

-- the texts of the parts with these ends
abbrev pub cut_at : List ℕ → Ends → Cut
cut_at bytes ends = record {
  scheme = scheme_before bytes ends.scheme;
  host_text = part_between bytes 2 ends.scheme ends.host;
  port_text = part_between bytes 1 ends.host ends.port;
  path_text = chars (slice_range bytes ends.port ends.path);
  query = part_between bytes 1 ends.path ends.query;
  fragment = part_between bytes 1 ends.query (length bytes);
}

-- a text may be cut there
abbrev pub IsRange : List ℕ → ℕ → ℕ → Type 0
IsRange bytes from to = (from ≤ to) × IsCharBoundary bytes from × IsCharBoundary bytes to

-- so it may be after a delimiter, where the ends differ
abbrev pub MayBePart : List ℕ → ℕ → ℕ → ℕ → Type 0
MayBePart bytes mark from to = from ≢ to → IsRange bytes (from + mark) to

-- the parts of the bytes may have these ends
pub record AreEnds (bytes : List ℕ) (ends : Ends) : Type 0 where
  pub scheme : ends.scheme ≢ 0 → IsCharBoundary bytes (ends.scheme - 1)
  pub host : MayBePart bytes 2 ends.scheme ends.host
  pub port : MayBePart bytes 1 ends.host ends.port
  pub path : IsRange bytes ends.port ends.path
  pub query : MayBePart bytes 1 ends.path ends.query
  pub fragment : MayBePart bytes 1 ends.query (length bytes)
