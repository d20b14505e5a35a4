-- The basic URL parser, after the URL Standard, section 4.4, without state override, ended at its first validation
-- error or failure. Each of its twenty states has one row, which says what one step does with the code point at the
-- pointer.
use Rattle.std.specs.Prelude.{ℕ, ◌+◌, ◌-◌, Bool, true, false, not, ◌&&◌, ◌||◌, ◌==◌, nat_lt, List, [], ◌∷◌, ◌++◌}
use Rattle.std.specs.Prelude.{length, codes, Option, Some, None, if◌then◌else◌}
use Rattle.std.specs.Str.{bytes_eq}
use Rattle.std.specs.Char.{is_ascii_alphabetic, is_ascii_digit, to_ascii_lowercase}
use Rattle.std.specs.Str.Parse.{digits_value}
use Rattle.uv_model.specs.declared.scheme.Class.{Class}
use Rattle.uv_model.specs.declared.scheme.Class.TheVariants.{SpecialNotFile, File, Other}
use Rattle.uv_model.specs.declared.host.Host.{Host}
use Rattle.uv_model.specs.declared.host.Host.TheVariants as host
use Rattle.uv_model.specs.declared.path.UrlPath.{UrlPath}
use Rattle.uv_model.specs.declared.path.UrlPath.TheVariants.{Opaque, Segments}
use Rattle.uv_model.specs.Ascii.{space, slash, colon, question_mark, number_sign, at_sign, left_bracket}
use Rattle.uv_model.specs.Ascii.{right_bracket, backslash}
use Rattle.uv_model.specs.Encoding.{encoded_code_point, encoded}
use Rattle.uv_parser.specs.HostParser.{parse_host}
use Rattle.uv_model.specs.Path.{is_drive_letter, is_normalized_drive_letter, is_single_dot, is_double_dot, shorten}
use Rattle.uv_model.specs.Scheme.{is_scheme_code_point, scheme_class, default_port}
use Rattle.uv_model.specs.Units.{is_unit_at}
use Rattle.uv_model.specs.Records.Url.{Url, is_opaque}
use Rattle.uv_model.specs.Valid.{without_localhost}

-- ---- what the machine is

-- the states, in the standard's order; its hostname state serves only a state override
pub data State : Type 0 where
  SchemeStartState : State
  SchemeState : State
  NoSchemeState : State
  SpecialRelativeOrAuthorityState : State
  PathOrAuthorityState : State
  RelativeState : State
  RelativeSlashState : State
  SpecialAuthoritySlashesState : State
  SpecialAuthorityIgnoreSlashesState : State
  AuthorityState : State
  HostState : State
  PortState : State
  FileState : State
  FileSlashState : State
  FileHostState : State
  PathStartState : State
  PathState : State
  OpaquePathState : State
  QueryState : State
  FragmentState : State

-- the parser's variables besides its state and its pointer
pub record Variables : Type 0 where
  pub buffer : List ℕ
  pub in_brackets : Bool
  pub url : Url

-- What a row says: the pointer moves by one, which at the end of the text ends the run; or the same place comes once
-- more; or the pointer goes to a place; or the machine stops.
pub data Turn : Type 0 where
  onward : State → Variables → Turn
  again : State → Variables → Turn
  from_place : ℕ → State → Variables → Turn
  stop : Turn

-- what is at the pointer: a delimiter, of which one is the end of the text, or another code point
pub data AtPointer : Type 0 where
  end : AtPointer
  slash_mark : AtPointer
  query_mark : AtPointer
  fragment_mark : AtPointer
  another : ℕ → AtPointer

-- what is at the pointer, by the rest of the text
abbrev pub at_pointer : List ℕ → AtPointer
at_pointer [] = end
at_pointer (c ∷ rest) =
    if c == slash then slash_mark
    else (if c == question_mark then query_mark
    else (if c == number_sign then fragment_mark else another c))

-- the rest after its first code point
abbrev pub after_first : List ℕ → List ℕ
after_first [] = []
after_first (c ∷ rest) = rest

-- the rest begins with this code point
abbrev pub begins : ℕ → List ℕ → Bool
begins mark [] = false
begins mark (c ∷ rest) = c == mark

-- the rest begins with `//`
abbrev pub begins_two_slashes : List ℕ → Bool
begins_two_slashes [] = false
begins_two_slashes (c ∷ rest) = (c == slash) && begins slash rest

-- what may be after a drive letter: the end, `/`, `\`, `?` or `#`
abbrev pub is_drive_end : List ℕ → Bool
is_drive_end [] = true
is_drive_end (c ∷ rest) = (c == slash) || ((c == backslash) || ((c == question_mark) || (c == number_sign)))

-- the rest starts with a Windows drive letter (section 4.2)
abbrev pub starts_with_drive_letter : List ℕ → Bool
starts_with_drive_letter (c ∷ mark ∷ rest) = is_drive_letter (c ∷ mark ∷ []) && is_drive_end rest
starts_with_drive_letter _ = false

-- a special scheme, which `file` is too
abbrev pub is_special : List ℕ → Bool
is_special scheme = is_special_class (scheme_class scheme)
  where
    is_special_class : Class → Bool
    is_special_class Other = false
    is_special_class _ = true

-- the class of the scheme is File
abbrev pub is_file : List ℕ → Bool
is_file scheme = is_file_class (scheme_class scheme)
  where
    is_file_class : Class → Bool
    is_file_class File = true
    is_file_class _ = false

-- ---- changes of the variables

-- a URL with nothing in it and the empty list as its path, with which a run begins
abbrev pub empty_url : Url
empty_url = record { scheme = []; host = None; port = None; path = Segments []; query = None; fragment = None }

-- the variables when a run begins
abbrev pub empty_variables : Variables
empty_variables = record { buffer = []; in_brackets = false; url = empty_url }

-- a code point more in the buffer
abbrev pub put : ℕ → Variables → Variables
put c v = record v { buffer = v.buffer ++ (c ∷ []) }

-- a text more in the buffer
abbrev pub with_more : List ℕ → Variables → Variables
with_more text v = record v { buffer = v.buffer ++ text }

-- the buffer emptied
abbrev pub emptied : Variables → Variables
emptied v = record v { buffer = [] }

-- the flag for brackets set or cleared
abbrev pub with_brackets : Bool → Variables → Variables
with_brackets flag v = record v { in_brackets = flag }

-- the URL's scheme written
abbrev pub with_scheme : List ℕ → Variables → Variables
with_scheme scheme v = record v { url = record (v.url) { scheme = scheme } }

-- the URL's host written
abbrev pub with_host : Option Host → Variables → Variables
with_host value v = record v { url = record (v.url) { host = value } }

-- the URL's port written
abbrev pub with_port : Option ℕ → Variables → Variables
with_port port v = record v { url = record (v.url) { port = port } }

-- the URL's path written
abbrev pub with_path : UrlPath → Variables → Variables
with_path path v = record v { url = record (v.url) { path = path } }

-- the URL's query written
abbrev pub with_query : Option (List ℕ) → Variables → Variables
with_query query v = record v { url = record (v.url) { query = query } }

-- the URL's fragment written
abbrev pub with_fragment : Option (List ℕ) → Variables → Variables
with_fragment fragment v = record v { url = record (v.url) { fragment = fragment } }

-- host and port of the base
abbrev pub with_base_host : Url → Variables → Variables
with_base_host base v = with_port base.port (with_host base.host v)

-- the segments of a path that isn't opaque
abbrev pub list_in : UrlPath → List (List ℕ)
list_in (Segments list) = list
list_in (Opaque text) = []

-- the path shortened
abbrev pub shortened : Variables → Variables
shortened v = with_path (Segments (shorten (scheme_class v.url.scheme) (list_in v.url.path))) v

-- a segment more at the path's end
abbrev pub with_segment : List ℕ → Variables → Variables
with_segment segment v = with_path (Segments (list_in v.url.path ++ (segment ∷ []))) v

-- ---- turns that several rows share

-- the query begins, empty
abbrev pub to_query : Variables → Turn
to_query v = onward QueryState (with_query (Some []) v)

-- the fragment begins, empty
abbrev pub to_fragment : Variables → Turn
to_fragment v = onward FragmentState (with_fragment (Some []) v)

-- the code point goes on to the same state, unless it is a fault of units: neither a URL code point nor `%`, or `%`
-- without two hex digits after it
abbrev pub unless_fault : ℕ → List ℕ → Turn → Turn
unless_fault c rest turn = if is_unit_at c rest then turn else stop

-- the host parser's host, or a stop
abbrev pub with_parsed : Option Host → (Host → Turn) → Turn
with_parsed None next = stop
with_parsed (Some value) next = next value

-- ---- the rows, in the standard's order

-- An ASCII letter goes into the buffer in lower case, to the scheme state. Everything else: no scheme state, again.
abbrev pub scheme_start_row : Variables → List ℕ → Turn
scheme_start_row v [] = again NoSchemeState v
scheme_start_row v (c ∷ rest) =
    if is_ascii_alphabetic c then onward SchemeState (put (to_ascii_lowercase c) v) else again NoSchemeState v

-- the base has this scheme
abbrev pub has_same_scheme : Option Url → List ℕ → Bool
has_same_scheme None scheme = false
has_same_scheme (Some base) scheme = bytes_eq base.scheme scheme

-- After the scheme's `:`. `file` needs `//`; a special scheme goes by whether the base has the same one; any other
-- goes by a `/`.
abbrev pub after_scheme : Option Url → Class → ℕ → Variables → List ℕ → Turn
after_scheme base File p v rest = if begins_two_slashes rest then onward FileState v else stop
after_scheme base SpecialNotFile p v rest =
    if has_same_scheme base v.url.scheme then onward SpecialRelativeOrAuthorityState v
    else onward SpecialAuthoritySlashesState v
after_scheme base Other p v rest =
    if begins slash rest then from_place (p + 2) PathOrAuthorityState v
    else onward OpaquePathState (with_path (Opaque []) v)

-- A code point of a scheme goes into the buffer in lower case. `:` makes the buffer the scheme. Everything else: the
-- buffer emptied, no scheme state, from the first place.
abbrev pub scheme_row : Option Url → ℕ → Variables → List ℕ → Turn
scheme_row base p v [] = from_place 0 NoSchemeState (emptied v)
scheme_row base p v (c ∷ rest) =
    if is_scheme_code_point c then onward SchemeState (put (to_ascii_lowercase c) v)
    else (if c == colon then after_scheme base (scheme_class v.buffer) p (emptied (with_scheme v.buffer v)) rest
    else from_place 0 NoSchemeState (emptied v))

-- Scheme, path and query of a base with an opaque path, before a fragment.
abbrev pub with_opaque_base : Url → Variables → Variables
with_opaque_base base v = with_query base.query (with_path base.path (with_scheme base.scheme v))

-- No base, or one with an opaque path if no `#` comes, stops. An opaque base hands on scheme, path and query to the
-- fragment. Any other base leads to the relative state or, of scheme file, to the file state.
abbrev pub no_scheme_row : Option Url → Variables → List ℕ → Turn
no_scheme_row None v rest = stop
no_scheme_row (Some base) v rest =
    if is_opaque base.path then (if begins number_sign rest then to_fragment (with_opaque_base base v) else stop)
    else (if is_file base.scheme then again FileState v else again RelativeState v)

-- `//` leads past both to the special authority ignore slashes state; everything else stops. The special authority
-- slashes state has the same row.
abbrev pub two_slashes_row : ℕ → Variables → List ℕ → Turn
two_slashes_row p v rest =
    if begins_two_slashes rest then from_place (p + 2) SpecialAuthorityIgnoreSlashesState v else stop

-- `/` leads to the authority state, everything else to the path state, again.
abbrev pub path_or_authority_row : Variables → List ℕ → Turn
path_or_authority_row v rest = if begins slash rest then onward AuthorityState v else again PathState v

-- Host, port, path and query of the base.
abbrev pub with_base : Url → Variables → Variables
with_base base v = with_query base.query (with_path base.path (with_base_host base v))

-- `/` leads to the relative slash state. Else host, port, path and query are the base's: `?` and `#` begin again from
-- there, the end is done, and another code point drops the query and the path's last segment.
abbrev pub relative_at : Url → Variables → AtPointer → Turn
relative_at base v slash_mark = onward RelativeSlashState v
relative_at base v query_mark = to_query (with_base base v)
relative_at base v fragment_mark = to_fragment (with_base base v)
relative_at base v end = onward RelativeState (with_base base v)
relative_at base v (another c) = again PathState (shortened (with_query None (with_base base v)))

-- The scheme is the base's; without a base this state is never reached.
abbrev pub relative_row : Option Url → Variables → List ℕ → Turn
relative_row None v rest = stop
relative_row (Some base) v rest = relative_at base (with_scheme base.scheme v) (at_pointer rest)

-- A second `/` leads to an authority, for a special URL past further slashes. Else host and port are the base's: path
-- state, again.
abbrev pub relative_slash_row : Option Url → Variables → List ℕ → Turn
relative_slash_row None v rest = stop
relative_slash_row (Some base) v rest =
    if begins slash rest
    then (if is_special v.url.scheme then onward SpecialAuthorityIgnoreSlashesState v else onward AuthorityState v)
    else again PathState (with_base_host base v)

-- A further `/` or `\` stops; everything else: authority state, again.
abbrev pub ignore_slashes_row : Variables → List ℕ → Turn
ignore_slashes_row v rest = if begins slash rest || begins backslash rest then stop else again AuthorityState v

-- `@` stops, and for a special URL `\`. A delimiter ends the authority: the host state reads it from its first place,
-- which lies as far back as the buffer is long. Any other code point goes into the buffer.
abbrev pub authority_at : ℕ → Variables → AtPointer → Turn
authority_at p v (another c) =
    if (c == at_sign) || ((c == backslash) && is_special v.url.scheme) then stop else onward AuthorityState (put c v)
authority_at p v _ = from_place (p - length v.buffer) HostState (emptied v)

-- The buffer is a host: the host parser gives it, the buffer is emptied, and the turn goes on.
abbrev pub host_ended : Variables → (Variables → Turn) → Turn
host_ended v next =
    with_parsed (parse_host (is_special v.url.scheme) v.buffer) (λ value. next (emptied (with_host (Some value) v)))

-- a bracket sets or clears the flag
abbrev pub bracketed : ℕ → Variables → Variables
bracketed c v =
    if c == left_bracket then with_brackets true v
    else (if c == right_bracket then with_brackets false v else v)

-- `:` outside brackets ends a host that isn't empty, to the port state. `\` stops for a special URL. A delimiter ends
-- the host, which for a special URL isn't empty: path start state, again. Any other code point goes into the buffer.
abbrev pub host_at : Variables → AtPointer → Turn
host_at v (another c) =
    if (c == colon) && not v.in_brackets
    then (if length v.buffer == 0 then stop else host_ended v (onward PortState))
    else (if (c == backslash) && is_special v.url.scheme then stop else onward HostState (put c (bracketed c v)))
host_at v _ =
    if (length v.buffer == 0) && is_special v.url.scheme then stop else host_ended v (again PathStartState)

-- the port that the buffer denotes, absent where it is empty or the scheme's default
abbrev pub port_in : List ℕ → List ℕ → Option ℕ
port_in scheme [] = None
port_in scheme (digit ∷ rest) = unless_default (default_port scheme) (digits_value 10 (digit ∷ rest))
  where
    unless_default : Option ℕ → ℕ → Option ℕ
    unless_default None port = Some port
    unless_default (Some default) port = if port == default then None else Some port

-- A digit goes into the buffer. A delimiter ends the port, which is at most 65535: path start state, again. Everything
-- else stops.
abbrev pub port_at : Variables → AtPointer → Turn
port_at v (another c) = if is_ascii_digit c then onward PortState (put c v) else stop
port_at v _ =
    if nat_lt 65535 (digits_value 10 v.buffer) then stop
    else again PathStartState (emptied (with_port (port_in v.url.scheme v.buffer) v))

-- the base, where it is of scheme file
abbrev pub file_base : Option Url → Option Url
file_base None = None
file_base (Some base) = if is_file base.scheme then Some base else None

-- Host, path and query of a file base.
abbrev pub with_file_base : Url → Variables → Variables
with_file_base base v = with_query base.query (with_path base.path (with_host base.host v))

-- With a file base its host, path and query are handed on, as in the relative state; a drive letter at the rest's
-- start stops. Without one: path state, again.
abbrev pub file_at : Option Url → Variables → List ℕ → AtPointer → Turn
file_at base v rest slash_mark = onward FileSlashState v
file_at None v rest _ = again PathState v
file_at (Some base) v rest query_mark = to_query (with_file_base base v)
file_at (Some base) v rest fragment_mark = to_fragment (with_file_base base v)
file_at (Some base) v rest end = onward FileState (with_file_base base v)
file_at (Some base) v rest (another c) =
    if starts_with_drive_letter rest then stop else again PathState
    (shortened (with_query None (with_file_base base v)))

-- The scheme is file and the host empty, to begin with.
abbrev pub file_row : Option Url → Variables → List ℕ → Turn
file_row base v rest =
    file_at (file_base base) (with_host (Some host.Empty) (with_scheme (codes "file") v)) rest (at_pointer rest)

-- the base's first segment, where it is a drive letter that a rest without one keeps
abbrev pub with_kept_drive : List (List ℕ) → List ℕ → Variables → Variables
with_kept_drive [] rest v = v
with_kept_drive (drive ∷ others) rest v =
    if not (starts_with_drive_letter rest) && is_normalized_drive_letter drive then with_segment drive v else v

-- A second `/` leads to the file host state. Else a file base hands on its host and its drive letter: path state,
-- again.
abbrev pub file_slash_row : Option Url → Variables → List ℕ → Turn
file_slash_row base v rest = if begins slash rest then onward FileHostState v else without_host (file_base base)
  where
    without_host : Option Url → Turn
    without_host None = again PathState v
    without_host (Some url) = again PathState (with_kept_drive (list_in url.path) rest (with_host url.host v))

-- `\` stops. A delimiter ends the host, which isn't a drive letter, and may be empty, and `localhost` is the empty
-- host: path start state, again. Any other code point goes into the buffer.
abbrev pub file_host_at : Variables → AtPointer → Turn
file_host_at v (another c) = if c == backslash then stop else onward FileHostState (put c v)
file_host_at v _ =
    if is_drive_letter v.buffer then stop
    else (if length v.buffer == 0 then again PathStartState (with_host (Some host.Empty) v)
    else with_parsed (parse_host true v.buffer)
    (λ value. again PathStartState (emptied (with_host (Some (without_localhost value)) v))))

-- A special URL goes to the path state, past a `/`. Any other goes there past a `/` or before another code point; `?`
-- and `#` begin query and fragment, and the end is done.
abbrev pub path_start_at : Bool → Variables → AtPointer → Turn
path_start_at special v slash_mark = onward PathState v
path_start_at true v _ = again PathState v
path_start_at false v query_mark = to_query v
path_start_at false v fragment_mark = to_fragment v
path_start_at false v end = onward PathStartState v
path_start_at false v (another c) = again PathState v

-- The buffer is a segment. A double-dot segment shortens the path, and a single-dot segment adds nothing; either leaves
-- an empty segment if no `/` follows. Any other is added.
abbrev pub segment_ended : Bool → Variables → Variables
segment_ended slash_follows v =
    if is_double_dot v.buffer
    then (if slash_follows then emptied (shortened v) else emptied (with_segment [] (shortened v)))
    else (if is_single_dot v.buffer
    then (if slash_follows then emptied v else emptied (with_segment [] v))
    else emptied (with_segment v.buffer v))

-- A delimiter ends a segment; then `?` and `#` begin query and fragment, and the end is done. Any other code point,
-- encoded, goes into the buffer.
abbrev pub path_at : Variables → List ℕ → AtPointer → Turn
path_at v rest slash_mark = onward PathState (segment_ended true v)
path_at v rest query_mark = to_query (segment_ended false v)
path_at v rest fragment_mark = to_fragment (segment_ended false v)
path_at v rest end = onward PathState (segment_ended false v)
path_at v rest (another c) = unless_fault c (after_first rest)
    (onward PathState (with_more (encoded_code_point false c) v))

-- a text more at the end of the opaque path
abbrev pub more_opaque : List ℕ → UrlPath → UrlPath
more_opaque text (Opaque path) = Opaque (path ++ text)
more_opaque text (Segments list) = Segments list

-- this text at the end of the opaque path
abbrev pub with_opaque_text : List ℕ → Variables → Variables
with_opaque_text text v = with_path (more_opaque text v.url.path) v

-- a code point, encoded, at the end of the opaque path
abbrev pub with_opaque : ℕ → Variables → Variables
with_opaque c v = with_opaque_text (encoded_code_point false c) v

-- the rest begins with `?` or `#`
abbrev pub begins_tail : List ℕ → Bool
begins_tail rest = begins question_mark rest || begins number_sign rest

-- what goes to an opaque path for a space before the rest
abbrev pub opaque_space : List ℕ → List ℕ
opaque_space rest = if begins_tail rest then codes "%20" else space ∷ []

-- `?` and `#` begin query and fragment, and the end is done. A space goes to the path, as `%20` if `?` or `#` follows
-- it. Any other code point, encoded, goes to the path.
abbrev pub opaque_path_at : Variables → List ℕ → AtPointer → Turn
opaque_path_at v rest query_mark = to_query v
opaque_path_at v rest fragment_mark = to_fragment v
opaque_path_at v rest end = onward OpaquePathState v
opaque_path_at v rest slash_mark = onward OpaquePathState (with_opaque slash v)
opaque_path_at v rest (another c) =
    if c == space then onward OpaquePathState (with_opaque_text (opaque_space (after_first rest)) v)
    else unless_fault c (after_first rest) (onward OpaquePathState (with_opaque c v))

-- The buffer, encoded, is the query; for a special URL `'` is encoded too.
abbrev pub query_ended : Variables → Variables
query_ended v = emptied (with_query (Some (encoded (is_special v.url.scheme) v.buffer)) v)

-- `#` ends the query and begins the fragment, and the end is done. Any other code point goes into the buffer.
abbrev pub query_at : Variables → List ℕ → AtPointer → Turn
query_at v rest fragment_mark = to_fragment (query_ended v)
query_at v rest end = onward QueryState (query_ended v)
query_at v rest slash_mark = onward QueryState (put slash v)
query_at v rest query_mark = onward QueryState (put question_mark v)
query_at v rest (another c) = unless_fault c (after_first rest) (onward QueryState (put c v))

-- a text more at the end of the fragment
abbrev pub more_fragment : List ℕ → Option (List ℕ) → Option (List ℕ)
more_fragment text None = Some text
more_fragment text (Some fragment) = Some (fragment ++ text)

-- The end is done. A code point, encoded, goes to the fragment.
abbrev pub fragment_row : Variables → List ℕ → Turn
fragment_row v [] = onward FragmentState v
fragment_row v (c ∷ rest) =
    unless_fault c rest
    (onward FragmentState (with_fragment (more_fragment (encoded_code_point false c) v.url.fragment) v))

-- the row of a state, with the base, the pointer, the variables, and the rest of the text from the pointer on
abbrev pub turn : Option Url → State → ℕ → Variables → List ℕ → Turn
turn base SchemeStartState p v rest = scheme_start_row v rest
turn base SchemeState p v rest = scheme_row base p v rest
turn base NoSchemeState p v rest = no_scheme_row base v rest
turn base SpecialRelativeOrAuthorityState p v rest = two_slashes_row p v rest
turn base PathOrAuthorityState p v rest = path_or_authority_row v rest
turn base RelativeState p v rest = relative_row base v rest
turn base RelativeSlashState p v rest = relative_slash_row base v rest
turn base SpecialAuthoritySlashesState p v rest = two_slashes_row p v rest
turn base SpecialAuthorityIgnoreSlashesState p v rest = ignore_slashes_row v rest
turn base AuthorityState p v rest = authority_at p v (at_pointer rest)
turn base HostState p v rest = host_at v (at_pointer rest)
turn base PortState p v rest = port_at v (at_pointer rest)
turn base FileState p v rest = file_row base v rest
turn base FileSlashState p v rest = file_slash_row base v rest
turn base FileHostState p v rest = file_host_at v (at_pointer rest)
turn base PathStartState p v rest = path_start_at (is_special v.url.scheme) v (at_pointer rest)
turn base PathState p v rest = path_at v rest (at_pointer rest)
turn base OpaquePathState p v rest = opaque_path_at v rest (at_pointer rest)
turn base QueryState p v rest = query_at v rest (at_pointer rest)
turn base FragmentState p v rest = fragment_row v rest
