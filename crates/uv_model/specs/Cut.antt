-- The cut of a text into the texts of its parts, valid or not, after the order of URL Standard, section 4.3.
use Rattle.std.specs.Prelude.{◌≡◌, ◌≢◌, ℕ, ◌+◌, Bool, true, false, not, ◌&&◌, ◌||◌, ◌==◌, List, [], ◌∷◌, ◌++◌, length}
use Rattle.std.specs.Prelude.{drop, Option, Some, None, IsSome, is_some, if◌then◌else◌}
use Rattle.std.specs.List.{after_first, before_first}
use Rattle.uv_model.specs.declared.scheme.Class.{Class}
use Rattle.uv_model.specs.declared.scheme.Class.TheVariants.{File}
use Rattle.uv_model.specs.Ascii.{slash, colon, question_mark, number_sign, left_bracket, right_bracket}
use Rattle.uv_model.specs.Path.{is_without, starts_with_slash}
use Rattle.uv_model.specs.Scheme.{is_scheme, scheme_class}
use Rattle.uv_model.specs.Records.Url.{Url}
use Rattle.uv_model.specs.Parts.{Parts, written_scheme, written_authority, written_after}
use Rattle.uv_model.specs.Setting.{scheme_or}
use Rattle.uv_model.specs.Scheme.{starts_with_scheme}

-- the texts of the parts, none of them checked: a host text is there where there is an authority
pub record Cut : Type 0 where
  pub scheme : Option (List ℕ)
  pub host_text : Option (List ℕ)
  pub port_text : Option (List ℕ)
  pub path_text : List ℕ
  pub query : Option (List ℕ)
  pub fragment : Option (List ℕ)

-- the texts of checked parts
abbrev pub texts_of : Parts → Cut
texts_of parts = record {
  scheme = parts.scheme;
  host_text = parts.host_text;
  port_text = parts.port_text;
  path_text = parts.path_text;
  query = parts.query;
  fragment = parts.fragment;
}

-- a query or a fragment is after the path
abbrev pub is_followed : Cut → Bool
is_followed cut = is_some cut.query || is_some cut.fragment

-- nothing of the text is after the host
abbrev pub ends_at_host : Cut → Bool
ends_at_host cut = (length cut.path_text == 0) && not (is_some cut.port_text || is_followed cut)

-- the class of the cut's scheme, otherwise of the base's, otherwise Other
abbrev pub class_in : Option Url → Option (List ℕ) → Class
class_in base scheme = scheme_class (scheme_or base scheme)

-- ---- the cut written out

-- what is after the scheme and before the query
abbrev pub written_middle : Cut → List ℕ
written_middle cut = written_authority cut.host_text cut.port_text ++ cut.path_text

-- what is before the query
abbrev pub written_start : Cut → List ℕ
written_start cut = written_scheme cut.scheme ++ written_middle cut

-- what is before the fragment
abbrev pub written_prefix : Cut → List ℕ
written_prefix cut = written_start cut ++ written_after question_mark cut.query

-- the whole text
abbrev pub written_cut : Cut → List ℕ
written_cut cut = written_prefix cut ++ written_after number_sign cut.fragment

-- ---- the places of the parts, each a number of code points before the part

-- of the authority, and of the path if there is no authority
abbrev pub scheme_end : Cut → ℕ
scheme_end cut = length (written_scheme cut.scheme)

-- of the host text, which is after `//`
abbrev pub host_place : Cut → ℕ
host_place cut = scheme_end cut + 2

-- of the port text, which is after a host text and `:`
abbrev pub port_place : List ℕ → Cut → ℕ
port_place host_text cut = host_place cut + (length host_text + 1)

-- of the path text
abbrev pub path_place : Cut → ℕ
path_place cut = scheme_end cut + length (written_authority cut.host_text cut.port_text)

-- of the query, which is after the path text and `?`
abbrev pub query_place : Cut → ℕ
query_place cut = length (written_start cut) + 1

-- of the fragment, which is after `#`
abbrev pub fragment_place : Cut → ℕ
fragment_place cut = length (written_prefix cut) + 1

-- ---- brackets in an authority

-- within brackets after the code point, where `within` says whether the place before it is
abbrev pub is_within : Bool → ℕ → Bool
is_within within c = if c == left_bracket then true else (if c == right_bracket then false else within)

-- within brackets at the text's end, where `within` says whether its start is
abbrev pub is_within_at_end : Bool → List ℕ → Bool
is_within_at_end within [] = within
is_within_at_end within (c ∷ rest) = is_within_at_end (is_within within c) rest

-- the nearest bracket before the text's end, if there is any, is `[`
abbrev pub ends_within : List ℕ → Bool
ends_within text = is_within_at_end false text

-- ---- what the cut of a text is

-- the text begins with `//`
abbrev pub starts_with_two_slashes : List ℕ → Bool
starts_with_two_slashes (c ∷ d ∷ rest) = (c == slash) && (d == slash)
starts_with_two_slashes _ = false

-- a scheme is a URL-scheme string, and where there is none, the text has no such string and `:` at its start
abbrev pub IsSchemeCut : Option (List ℕ) → List ℕ → Type 0
IsSchemeCut (Some scheme) middle = is_scheme scheme ≡ true
IsSchemeCut None middle = starts_with_scheme middle ≡ false

-- each `:` of the host text has `[` as the nearest bracket before it, and a port's `:` hasn't
pub record EndsAtPort (host_text : List ℕ) (port_text : Option (List ℕ)) : Type 0 where
  pub none_before : (prefix rest : List ℕ) → host_text ≡ prefix ++ colon ∷ rest → ends_within prefix ≡ true
  pub ends : IsSome port_text → ends_within host_text ≡ false

-- the host is the whole authority in class File, and otherwise it ends at the `:` of a port
abbrev pub IsHostCut : Class → List ℕ → Option (List ℕ) → Type 0
IsHostCut File host_text port_text = port_text ≡ None
IsHostCut _ host_text port_text = EndsAtPort host_text port_text

-- an authority reaches to the next `/`; without an authority no `//` is there
abbrev pub IsAuthorityCut : Class → Option (List ℕ) → Option (List ℕ) → List ℕ → Type 0
IsAuthorityCut class None port_text path_text = (port_text ≡ None) × (starts_with_two_slashes path_text ≡ false)
IsAuthorityCut class (Some host_text) port_text path_text =
    (is_without slash (host_text ++ written_after colon port_text) ≡ true)
    × (path_text ≢ [] → starts_with_slash path_text ≡ true)
    × IsHostCut class host_text port_text

-- the text, against the base, is cut into these texts
pub record IsCut (base : Option Url) (text : List ℕ) (cut : Cut) : Type 0 where
  pub whole : text ≡ written_cut cut
  pub prefix : is_without number_sign (written_prefix cut) ≡ true
  pub start : is_without question_mark (written_start cut) ≡ true
  pub scheme : IsSchemeCut cut.scheme (written_middle cut)
  pub authority : IsAuthorityCut (class_in base cut.scheme) cut.host_text cut.port_text cut.path_text

-- ---- the cut, computed

-- what is before the first such mark, or the whole text
abbrev pub text_before : ℕ → List ℕ → List ℕ
text_before mark text = before_first (λ c. c == mark) text

-- what follows the first such mark, where there is one
abbrev pub text_after : ℕ → List ℕ → Option (List ℕ)
text_after mark text = if is_without mark text then None else Some (after_first (λ c. c == mark) text)

-- the scheme of a text that has one
abbrev pub scheme_cut : List ℕ → Option (List ℕ)
scheme_cut start = if starts_with_scheme start then Some (text_before colon start) else None

-- what follows the scheme and `:`, or the whole text
abbrev pub after_scheme : List ℕ → List ℕ
after_scheme start = if starts_with_scheme start then after_first (λ c. c == colon) start else start

-- the code point is the `:` of a port
abbrev pub is_port_mark : Bool → ℕ → Bool
is_port_mark within c = (c == colon) && not within

-- what is before the `:` of a port
abbrev pub host_before : Bool → List ℕ → List ℕ
host_before within [] = []
host_before within (c ∷ rest) = if is_port_mark within c then [] else c ∷ host_before (is_within within c) rest

-- what follows the `:` of a port, where there is one
abbrev pub port_after : Bool → List ℕ → Option (List ℕ)
port_after within [] = None
port_after within (c ∷ rest) = if is_port_mark within c then Some rest else port_after (is_within within c) rest

-- what follows `//` up to the next `/`
abbrev pub authority_in : List ℕ → List ℕ
authority_in middle = text_before slash (drop 2 middle)

-- the host of an authority by the class
abbrev pub host_cut : Class → List ℕ → List ℕ
host_cut File authority = authority
host_cut _ authority = host_before false authority

-- the port of an authority by the class
abbrev pub port_cut : Class → List ℕ → Option (List ℕ)
port_cut File authority = None
port_cut _ authority = port_after false authority

-- the host text of what is between the scheme and the query, where that has an authority
abbrev pub host_text_cut : Class → List ℕ → Option (List ℕ)
host_text_cut class middle =
    if starts_with_two_slashes middle then Some (host_cut class (authority_in middle)) else None

-- the port text there
abbrev pub port_text_cut : Class → List ℕ → Option (List ℕ)
port_text_cut class middle = if starts_with_two_slashes middle then port_cut class (authority_in middle) else None

-- the path text there, after the authority
abbrev pub path_text_cut : List ℕ → List ℕ
path_text_cut middle =
    if starts_with_two_slashes middle then drop (length (authority_in middle)) (drop 2 middle) else middle

-- the cut of what is before the query, given a query and a fragment
abbrev pub start_cut : Option Url → List ℕ → Option (List ℕ) → Option (List ℕ) → Cut
start_cut base start query fragment =
    let class = class_in base (scheme_cut start) in
    let middle = after_scheme start in
    record {
      scheme = scheme_cut start;
      host_text = host_text_cut class middle;
      port_text = port_text_cut class middle;
      path_text = path_text_cut middle;
      query = query;
      fragment = fragment;
    }

-- the cut of the text against the base
unfoldable pub cut_of : Option Url → List ℕ → Cut
cut_of base text =
    let prefix = text_before number_sign text in
    start_cut base (text_before question_mark prefix) (text_after question_mark prefix) (text_after number_sign text)
