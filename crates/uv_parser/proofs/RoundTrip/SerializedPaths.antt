-- The serialized text of a well-formed URL without a host: the parser is silent on it, and its parts denote the URL.
use Rattle.std.proofs.Common.{◌≡◌, ℕ, true, false, not, ◌&&◌, ◌||◌, ◌==◌, List, [], ◌∷◌, ◌++◌, codes, Option, Some}
use Rattle.std.proofs.Common.{None, refl, sym, ap, ◌∙◌, append_assoc, eqb-true, inl, inr}
use Rattle.std.specs.Prelude.{is_some}
use Rattle.std.specs.List.{list_all, join_with_byte}
use Rattle.std.specs.Char.{is_ascii, is_ascii_uppercase}
use Rattle.std.proofs.lemmas.Bool.{and_parts, and_from, cases_Bool, true≢false}
use Rattle.uv_model.specs.declared.profile.Profile.TheVariants.{Wide, Parser}
use Rattle.uv_model.specs.declared.scheme.Class.{Class}
use Rattle.uv_model.specs.declared.scheme.Class.TheVariants.{Other}
use Rattle.uv_model.specs.declared.host.Host.{Host}
use Rattle.uv_model.specs.declared.path.UrlPath.{UrlPath}
use Rattle.uv_model.specs.declared.path.UrlPath.TheVariants.{Opaque, Segments}
use Rattle.uv_model.specs.Ascii.{slash, space, colon, number_sign}
use Rattle.uv_model.specs.Encoding.{encoded}
use Rattle.uv_model.specs.Records.Denote.{denote, denoted_query}
use Rattle.uv_model.specs.Parts.{Form, Parts, SchemePath, SchemeOpaque, written}
use Rattle.uv_model.specs.Path.{AreSegments, IsPathAbsolute, IsSegment, is_double_dot, is_single_dot, is_without}
use Rattle.uv_model.specs.Path.{starts_with_slash, walk, is_spaced}
use Rattle.uv_model.specs.Scheme.{lowercase, scheme_class}
use Rattle.uv_model.specs.Records.Serialize.{serial, serial_authority, serial_path, serial_segments}
use Rattle.uv_model.specs.Units.{is_unit_at, is_url_code_point}
use Rattle.uv_model.specs.Records.Url.{Url}
use Rattle.uv_model.specs.Valid.{HasNoAuthority, Valid}
use Rattle.uv_model.specs.Records.WellFormed.{AreUrlSegments, IsEncodedSpacedPath, IsUrlFragment, IsUrlQuery}
use Rattle.uv_model.specs.Records.WellFormed.{IsUrlScheme}
use Rattle.uv_model.proofs.Paths.SpacedPaths.{escaped_kept}
use Rattle.uv_parser.proofs.Silence.ValidSilent.{valid_by_parser}
use Rattle.uv_parser.proofs.Decided.DecidedOpaque.{opaque_parts}
use Rattle.uv_model.proofs.Texts.MarkLemmas.{is_without-cons, is_without-more}
use Rattle.uv_model.proofs.Texts.UnitsAhead.{unit_not_number_sign}
use Rattle.uv_model.proofs.SchemeLemmas.{is_ascii-scheme, lowercase-name}
use Rattle.uv_parser.proofs.RoundTrip.SerializedTexts.{AreSegments-url, encoded-ascii, encoded-fragment, encoded-query}
use Rattle.uv_parser.proofs.RoundTrip.SerializedTexts.{fragment_units, query_units, serial_segments-joined, walk-kept}
use Rattle.uv_parser.proofs.Silence.SilentSchemes.{written_without_authority}
use Rattle.uv_parser.proofs.Loops.Tails.{tail}
use Rattle.uv_model.proofs.Cuts.ValidCutLemmas.{MiddleFits, cut_of_parts, without_slash_without_two}

-- the URL of these fields
abbrev pub url_of : List ℕ → Option Host → Option ℕ → UrlPath → Option (List ℕ) → Option (List ℕ) → Url
url_of scheme host port path query fragment =
    record { scheme = scheme; host = host; port = port; path = path; query = query; fragment = fragment }

-- The parser is silent on the URL's text, with parts that denote the URL.
pub record IsSilentOn (url : Url) : Type 0 where
  pub parts : Parts
  pub valid : Valid Parser None (written parts) parts
  pub written : written parts ≡ serial url
  pub denoted : denote None parts ≡ url

-- ---- the scheme, the query and the fragment

-- ASCII without upper case
lower : (scheme : List ℕ) → list_all is_ascii scheme ≡ true
    → list_all (λ c. not (is_ascii_uppercase c)) scheme ≡ true
    → list_all (λ c. is_ascii c && not (is_ascii_uppercase c)) scheme ≡ true
lower [] ascii small = refl
lower (c ∷ rest) ascii small =
    let first = and_parts (is_ascii c) (list_all is_ascii rest) ascii in
    let second = and_parts (not (is_ascii_uppercase c)) (list_all (λ d. not (is_ascii_uppercase d)) rest) small in
    and_from _ _ (and_from _ _ first.0 second.0) (lower rest first.1 second.1)

-- a URL's scheme in lower case is itself
pub lowercase-scheme : (scheme : List ℕ) → IsUrlScheme scheme → lowercase scheme ≡ scheme
lowercase-scheme scheme is = lowercase-name scheme (lower scheme (is_ascii-scheme scheme is.spelled) is.lower)

-- a URL's query denotes itself, in a form in which an absent one denotes none
pub denoted_query-own : (class : Class) (form : Form) (query : Option (List ℕ))
    → denoted_query None class form None ≡ None → IsUrlQuery class query → denoted_query None class form query ≡ query
denoted_query-own class form (Some query) none is = encoded-query class (Some query) is
denoted_query-own class form None none is = none

-- ---- without a host

-- the text of a URL without a host, with the path as it is written after the scheme's `:`
text_alone : (scheme after : List ℕ) (path : UrlPath) (query fragment : Option (List ℕ))
    → serial_authority None None path ++ serial_path path ≡ after
    → serial (url_of scheme None None path query fragment) ≡ scheme ++ colon ∷ (after ++ tail query fragment)
unfolding serial
text_alone scheme after path query fragment is =
    ap (λ xs. scheme ++ colon ∷ xs)
    (sym (append_assoc (serial_authority None None path) (serial_path path) (tail query fragment))
    ∙ ap (λ xs. xs ++ tail query fragment) is)

-- parts without a host and a port
no_authority : {parts : Parts} → parts.host_text ≡ None → parts.host ≡ None → parts.port_text ≡ None
    → parts.port ≡ None → HasNoAuthority parts
no_authority a b c d = record { host_text = a; host = b; port_text = c; port = d }

-- ---- an opaque path

-- units and spaces hold no `#`
spaced_without_number_sign : (text : List ℕ) → is_spaced text ≡ true → is_without number_sign text ≡ true
spaced_without_number_sign [] spaced = refl
spaced_without_number_sign (c ∷ rest) spaced =
    let parts = and_parts ((c == space) || is_unit_at c rest) (is_spaced rest) spaced in
    is_without-more number_sign c rest (no_number_sign c rest parts.0) (spaced_without_number_sign rest parts.1)
  where
    no_number_sign : (c : ℕ) (rest : List ℕ) → ((c == space) || is_unit_at c rest) ≡ true → (c == number_sign) ≡ false
    no_number_sign c rest is =
        elim (cases_Bool (c == space)) [
          | inl same ↦ rw (eqb-true c space same) refl
          | inr not_space ↦ unit_not_number_sign c rest (rw not_space at is)
        ]

module _ (scheme : List ℕ) (query fragment : Option (List ℕ)) (is : IsUrlScheme scheme)
    (other : scheme_class scheme ≡ Other) (query_is : IsUrlQuery (scheme_class scheme) query)
    (fragment_is : IsUrlFragment fragment) where
  -- the parts of a URL with an opaque path denote it
  opaque_denoted : (text : List ℕ) → IsEncodedSpacedPath text
      → denote None (opaque_parts scheme None text query fragment)
      ≡ url_of scheme None None (Opaque text) query fragment
  unfolding denote
  opaque_denoted text path = λ i. record {
    scheme = lowercase-scheme scheme is i;
    host = None;
    port = None;
    path = Opaque ((ap (encoded false) (escaped_kept (is_some query || is_some fragment) text path.end)
        ∙ encoded-ascii text path.ascii) i);
    query = denoted_query-own (scheme_class scheme) SchemeOpaque query refl query_is i;
    fragment = encoded-fragment fragment fragment_is i;
  }

  -- the parser is silent on the text that is written of them
  opaque_silent : (text : List ℕ) → IsEncodedSpacedPath text
      → Valid Parser None (written (opaque_parts scheme None text query fragment))
      (opaque_parts scheme None text query fragment)
  opaque_silent text path =
      let parts = opaque_parts scheme None text query fragment in
      let query_fits = query_units (scheme_class scheme) query query_is in
      let fragment_fits = fragment_units fragment fragment_is in
      let middle : MiddleFits (scheme_class scheme) None None text
      = record {
        no_question_mark = path.spaced.no_question_mark;
        no_number_sign = spaced_without_number_sign text path.spaced.units;
        authority = (refl, without_slash_without_two text path.spaced.start);
      } in
      record {
        whole = refl;
        cut = cut_of_parts None (written parts) parts true refl is.spelled (λ none. absurd (true≢false none)) middle
            query_fits;
        scheme = is.spelled;
        against = refl;
        form = (
          no_authority refl refl refl refl,
          other,
          record { spaced = path.spaced; end = λ alone. path.end },
          refl,
        );
        query = query_fits;
        fragment = fragment_fits;
      }

  -- so it is on the text of a URL with an opaque path
  pub opaque_read : (text : List ℕ) → IsEncodedSpacedPath text
      → IsSilentOn (url_of scheme None None (Opaque text) query fragment)
  opaque_read text path =
      let parts = opaque_parts scheme None text query fragment in
      record {
        parts = parts;
        valid = opaque_silent text path;
        written = written_without_authority parts scheme refl refl
            ∙ sym (text_alone scheme text (Opaque text) query fragment refl);
        denoted = opaque_denoted text path;
      }

-- ---- a path of segments

-- the segments as they are written: after `.`, where the first is empty and not the last
abbrev shown : List (List ℕ) → List (List ℕ)
shown ([] ∷ next ∷ rest) = codes "." ∷ [] ∷ next ∷ rest
shown segments = segments

-- what is written for them
shown_text : (segments : List (List ℕ))
    → serial_authority None None (Segments segments) ++ serial_segments segments ≡ serial_segments (shown segments)
shown_text [] = refl
shown_text ([] ∷ []) = refl
shown_text ([] ∷ next ∷ rest) = refl
shown_text ((c ∷ cs) ∷ rest) = refl

-- a walk drops the `.`
shown_walk : (class : Class) (segments : List (List ℕ)) → AreUrlSegments segments
    → walk class [] (shown segments) ≡ segments
unfolding walk is_single_dot is_double_dot
shown_walk class [] are = refl
shown_walk class ([] ∷ []) are = walk-kept class [] ([] ∷ []) are
shown_walk class ([] ∷ next ∷ rest) are = walk-kept class [] ([] ∷ next ∷ rest) are
shown_walk class ((c ∷ cs) ∷ rest) are = walk-kept class [] ((c ∷ cs) ∷ rest) are

-- `.` is a segment of a text
IsSegment-dot : IsSegment (codes ".")
unfolding is_url_code_point
IsSegment-dot = record {
  units = record { units = codes "." ∷ []; each = refl; joined = refl };
  no_slash = refl;
  no_question_mark = refl;
}

-- a joined text begins with its first segment
join_starts : (c : ℕ) (cs : List ℕ) (rest : List (List ℕ)) → (c == slash) ≡ false
    → starts_with_slash (join_with_byte slash ((c ∷ cs) ∷ rest)) ≡ false
join_starts c cs [] other = other
join_starts c cs (next ∷ rest) other = other

-- `/` and what joins one segment or more is a path-absolute string, where that begins with no `/`
absolute : (segment : List ℕ) (rest : List (List ℕ)) → AreSegments (segment ∷ rest)
    → starts_with_slash (join_with_byte slash (segment ∷ rest)) ≡ false
    → IsPathAbsolute (segment ∷ rest) (serial_segments (segment ∷ rest))
absolute segment rest each start = record {
  after = join_with_byte slash (segment ∷ rest);
  slashed = serial_segments-joined segment rest;
  relative = record {
    joins = record { first = segment; others = rest; some = refl; each = each; joined = refl };
    start = start;
  };
}

-- the segments as they are written are a path-absolute string
shown_absolute : (segment : List ℕ) (rest : List (List ℕ)) → AreUrlSegments (segment ∷ rest)
    → IsPathAbsolute (shown (segment ∷ rest)) (serial_segments (shown (segment ∷ rest)))
shown_absolute [] [] are = absolute [] [] (AreSegments-url ([] ∷ []) are) refl
shown_absolute [] (next ∷ rest) are =
    absolute (codes ".") ([] ∷ next ∷ rest) (IsSegment-dot, AreSegments-url ([] ∷ next ∷ rest) are) refl
shown_absolute (c ∷ cs) rest are =
    let each = AreSegments-url ((c ∷ cs) ∷ rest) are in
    absolute (c ∷ cs) rest each (join_starts c cs rest (is_without-cons slash c cs each.0.no_slash).0)

-- the parts of a text with a path of segments
abbrev path_parts : List ℕ → List (List ℕ) → Option (List ℕ) → Option (List ℕ) → Parts
path_parts scheme segments query fragment = record {
  form = SchemePath;
  scheme = Some scheme;
  host_text = None;
  host = None;
  port_text = None;
  port = None;
  path_text = serial_segments segments;
  segments = segments;
  query = query;
  fragment = fragment;
}

module _ (scheme : List ℕ) (query fragment : Option (List ℕ)) (is : IsUrlScheme scheme)
    (other : scheme_class scheme ≡ Other) (query_is : IsUrlQuery (scheme_class scheme) query)
    (fragment_is : IsUrlFragment fragment) where
  -- the parts of a URL with a path of segments denote it
  path_denoted : (segments : List (List ℕ)) → AreUrlSegments segments
      → denote None (path_parts scheme (shown segments) query fragment)
      ≡ url_of scheme None None (Segments segments) query fragment
  unfolding denote
  path_denoted segments are = λ i. record {
    scheme = lowercase-scheme scheme is i;
    host = None;
    port = None;
    path = Segments (shown_walk (scheme_class scheme) segments are i);
    query = denoted_query-own (scheme_class scheme) SchemePath query refl query_is i;
    fragment = encoded-fragment fragment fragment_is i;
  }

  -- they are the parts of a valid text
  path_valid : (segments : List (List ℕ)) → IsPathAbsolute segments (serial_segments segments)
      → Valid Wide None (written (path_parts scheme segments query fragment)) (path_parts scheme segments query
      fragment)
  path_valid segments path = record {
    whole = refl;
    cut = tt;
    scheme = is.spelled;
    against = refl;
    form = (no_authority refl refl refl refl, other, path);
    query = query_units (scheme_class scheme) query query_is;
    fragment = fragment_units fragment fragment_is;
  }

  -- the parser is silent on the text of a URL with a path of segments and without a host
  pub path_read : (segment : List ℕ) (rest : List (List ℕ)) → AreUrlSegments (segment ∷ rest)
      → IsSilentOn (url_of scheme None None (Segments (segment ∷ rest)) query fragment)
  path_read segment rest are =
      let segments = segment ∷ rest in
      let parts = path_parts scheme (shown segments) query fragment in
      let path = shown_absolute segment rest are in
      let valid = path_valid (shown segments) path in
      record {
        parts = parts;
        valid = valid_by_parser Wide None (written parts) parts valid;
        written = written_without_authority parts scheme refl refl
            ∙ sym (text_alone scheme (serial_segments (shown segments)) (Segments segments) query fragment
            (shown_text segments));
        denoted = path_denoted segments are;
      }
