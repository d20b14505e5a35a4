-- The run of a text without a scheme on which the parser is silent is done, with the URL that the parts denote: texts
-- without an authority against a base of a class other than File.
use Rattle.std.proofs.Common.{◌≡◌, ◌≢◌, ℕ, true, false, List, [], ◌∷◌, ◌++◌, Option, Some, None, refl, sym, ap, ◌∙◌}
use Rattle.std.specs.List.{join_with_byte}
use Rattle.std.proofs.lemmas.Bool.{true≢false}
use Rattle.uv_model.specs.declared.scheme.Class.{Class}
use Rattle.uv_model.specs.declared.scheme.Class.TheVariants.{SpecialNotFile, File, Other}
use Rattle.uv_model.specs.declared.path.UrlPath.{UrlPath}
use Rattle.uv_model.specs.declared.path.UrlPath.TheVariants.{Opaque, Segments}
use Rattle.uv_model.specs.Ascii.{slash, question_mark, number_sign}
use Rattle.uv_model.specs.Cut.{texts_of}
use Rattle.uv_model.specs.Records.Denote.{denote, denoted_host, denoted_path, denoted_port, denoted_query}
use Rattle.uv_model.specs.Records.Denote.{denoted_scheme, kept_drive, quotes, listed_segments}
use Rattle.uv_parser.specs.Machine.{Variables, turn, again, NoSchemeState, PathState, RelativeSlashState, RelativeState}
use Rattle.uv_parser.specs.Machine.{empty_variables, is_file, is_special, list_in, shortened, with_base, with_base_host}
use Rattle.uv_parser.specs.Machine.{with_query, with_scheme}
use Rattle.uv_model.specs.Parts.{Form, Parts, SchemeAuthority, SchemePath, SchemeOpaque, Authority, PathAbsolute}
use Rattle.uv_model.specs.Parts.{PathRelative, NoPath}
use Rattle.uv_model.specs.Path.{AreSegments, JoinsTo, is_without, shorten, starts_with_slash, walk}
use Rattle.uv_model.specs.Scheme.{scheme_class}
use Rattle.uv_parser.specs.Laws.Silence.{RunsSilently}
use Rattle.uv_model.specs.Records.Url.{Url, is_opaque}
use Rattle.uv_model.specs.Setting.{scheme_or}
use Rattle.uv_model.specs.Valid.{MayBeUnits, Valid}
use Rattle.uv_parser.proofs.Decided.CutTexts.{cut_text, marks}
use Rattle.uv_parser.proofs.Done.Decided.{fits_form}
use Rattle.uv_parser.proofs.Decided.ReferenceTexts.{no_scheme_cut}
use Rattle.uv_model.proofs.Texts.MarkLemmas.{is_without-cons}
use Rattle.uv_parser.proofs.Loops.PathLoops.{path_ends, walking}
use Rattle.uv_parser.proofs.Decided.SchemeAbsent.{absent_ended}
use Rattle.uv_parser.proofs.Silence.SilentSchemes.{special_of_class, with_tail_denoted}
use Rattle.uv_parser.proofs.Silence.KeptParts.{parser_valid_is_kept}
use Rattle.uv_parser.proofs.Running.Steps.{Ends, done_with, ends_again, ends_step}
use Rattle.uv_parser.proofs.Loops.Tails.{no_slash_before_tail, query_given, tail, tail_ends, with_tail}
use Rattle.uv_model.specs.declared.profile.Profile.TheVariants.{Parser}

-- The variables after the path have the denoted scheme, host, port, path and query.
pub record HoldsReference (url : Url) (parts : Parts) (form : Form) (v : Variables) : Type 0 where
  pub scheme : v.url.scheme ≡ url.scheme
  pub host : v.url.host ≡ denoted_host (Some url) form parts
  pub port : v.url.port ≡ denoted_port (Some url) form parts
  pub path : v.url.path ≡ denoted_path (Some url) (scheme_class url.scheme) form parts
  pub query : query_given parts.query v ≡ denoted_query (Some url) (scheme_class url.scheme) form parts.query

-- with the tail it is the denoted URL
pub reference_denoted : (url : Url) (parts : Parts) (form : Form) (v : Variables) → parts.form ≡ form
    → parts.scheme ≡ None
    → HoldsReference url parts form v → with_tail parts.query parts.fragment v ≡ denote (Some url) parts
reference_denoted url parts form v of_form none holds =
    let base : Option Url = Some url in
    with_tail_denoted base parts form (scheme_class url.scheme) v of_form
    (sym (ap (λ o. scheme_class (scheme_or base o)) none)) (holds.scheme ∙ sym (ap (denoted_scheme base) none))
    holds.host holds.port holds.path holds.query

-- the query of a text without one: in a reference without a path the base's
abbrev query_kept : Url → Form → Option (List ℕ)
query_kept url NoPath = url.query
query_kept url _ = None

-- the query after a path is the one that is denoted
pub reference_query : (url : Url) (class : Class) (form : Form) (query : Option (List ℕ)) (v : Variables)
    → is_special v.url.scheme ≡ quotes class → v.url.query ≡ query_kept url form
    → query_given query v ≡ denoted_query (Some url) class form query
reference_query url class form (Some query) v special e = rw special refl
reference_query url class SchemeAuthority None v special e = e
reference_query url class SchemePath None v special e = e
reference_query url class SchemeOpaque None v special e = e
reference_query url class Authority None v special e = e
reference_query url class PathAbsolute None v special e = e
reference_query url class PathRelative None v special e = e
reference_query url class NoPath None v special e = e

-- the whole run of such a text
pub reference_runs : (url : Url) (text rest : List ℕ) (parts : Parts) (form : Form) (v : Variables)
    → text ≡ rest
    → Valid Parser (Some url) text parts → parts.form ≡ form → parts.scheme ≡ None → HoldsReference url parts form v
    → Ends (Some url) NoSchemeState empty_variables rest (with_tail parts.query parts.fragment v)
    → RunsSilently (Some url) text parts
reference_runs url text rest parts form v whole is of_form none holds ends =
    rw (← reference_denoted url parts form v of_form none holds)
    (absent_ended (Some url) text (done_with (with_tail parts.query parts.fragment v))
    (parser_valid_is_kept (Some url) text parts is)
    (no_scheme_cut (Some url) text (texts_of parts) is.cut none) (rw whole ends))

-- the text of parts with neither a scheme nor an authority
pub path_text : (url : Url) (text : List ℕ) (parts : Parts) → Valid Parser (Some url) text parts → parts.scheme ≡ None
    → parts.host_text ≡ None → text ≡ parts.path_text ++ tail parts.query parts.fragment
path_text url text parts is none no_host =
    rw (none, no_host) at
    (cut_text (Some url) text parts.scheme parts.host_text parts.port_text parts.path_text parts.query parts.fragment
    is.cut)

-- the segments of a path, to begin with after others
pub walk_ends : (base : Option Url) (query fragment : Option (List ℕ)) → MayBeUnits query → MayBeUnits fragment
    → (path segments : List (List ℕ)) (text : List ℕ) (v : Variables) → JoinsTo segments text
    → Ends base PathState (walking path v) (text ++ tail query fragment)
    (with_tail query fragment (walking (walk (scheme_class v.url.scheme) path segments) v))
walk_ends base query fragment query_units fragment_units path segments text v joins =
    let spelled : text ≡ join_with_byte slash (joins.first ∷ joins.others)
    = joins.joined ∙ ap (join_with_byte slash) joins.some in
    let each : AreSegments (joins.first ∷ joins.others) = rw joins.some at joins.each in
    rw (spelled, joins.some)
    (path_ends base joins.first joins.others path query fragment v each query_units fragment_units)

-- the segments of a path, in the two definitions
pub same_list : (path : UrlPath) → list_in path ≡ listed_segments path
same_list (Opaque text) = refl
same_list (Segments list) = refl

-- a base of another class than File keeps no drive letter
no_kept_drive : (class : Class) (list segments : List (List ℕ)) → class ≢ File → kept_drive class list segments ≡ []
no_kept_drive SpecialNotFile list segments other = refl
no_kept_drive Other list segments other = refl
no_kept_drive File list segments other = absurd (other refl)

-- a scheme that is not `file` is of another class than File
not_file : (class : Class) (scheme : List ℕ) → scheme_class scheme ≡ class → is_file scheme ≡ false → class ≢ File
not_file class scheme e plain file = absurd (true≢false (sym (rw (e ∙ file) refl) ∙ plain))

-- ---- a base with a path of segments, of a class other than File

module _ (url : Url) (text : List ℕ) (parts : Parts) (is : Valid Parser (Some url) text parts)
    (not_opaque : is_opaque url.path ≡ false) (plain : is_file url.scheme ≡ false)
    (none : parts.scheme ≡ None) where
  -- the variables with the base's scheme
  abbrev begun : Variables
  begun = with_scheme url.scheme empty_variables

  start_row : (rest : List ℕ) (p : ℕ)
      → turn (Some url) NoSchemeState p empty_variables rest ≡ again RelativeState empty_variables
  start_row rest p = rw (not_opaque, plain) refl

  special : is_special url.scheme ≡ quotes (scheme_class url.scheme)
  special = special_of_class (scheme_class url.scheme) url.scheme refl

  -- no path
  pub no_path_done : parts.form ≡ NoPath → RunsSilently (Some url) text parts
  no_path_done form =
      let fits = fits_form (Some url) text parts NoPath is form in
      let whole : text ≡ tail parts.query parts.fragment
      = path_text url text parts is none fits.0.host_text
      ∙ ap (λ xs. xs ++ tail parts.query parts.fragment) fits.1 in
      let v = with_base url begun in
      reference_runs url text (tail parts.query parts.fragment) parts NoPath v
      whole is form none
      (record {
        scheme = refl;
        host = refl;
        port = refl;
        path = refl;
        query = reference_query url (scheme_class url.scheme) NoPath parts.query v special refl;
      })
      (ends_again (Some url) (λ p. start_row (tail parts.query parts.fragment) p)
      (tail_ends (Some url) RelativeState empty_variables v parts.query parts.fragment
      (record { at_end = λ p. refl; at_query = λ p rest. refl; at_fragment = λ p rest. refl }) is.query is.fragment))

  -- `/` and a path
  pub absolute_done : parts.form ≡ PathAbsolute → RunsSilently (Some url) text parts
  absolute_done form =
      let fits = fits_form (Some url) text parts PathAbsolute is form in
      let path = fits.1 in
      let rest = path.after ++ tail parts.query parts.fragment in
      let whole : text ≡ slash ∷ rest
      = path_text url text parts is none fits.0.host_text
      ∙ ap (λ xs. xs ++ tail parts.query parts.fragment) path.slashed in
      let v = with_base_host url begun in
      let walked = walk (scheme_class url.scheme) [] parts.segments in
      let no_slash = no_slash_before_tail path.after parts.query parts.fragment path.relative.start in
      reference_runs url text (slash ∷ rest) parts PathAbsolute (walking walked v)
      whole is form none
      (record {
        scheme = refl;
        host = refl;
        port = refl;
        path = ap (λ k. Segments (walk (scheme_class url.scheme) k parts.segments))
            (sym (no_kept_drive (scheme_class url.scheme) (listed_segments url.path) parts.segments
            (not_file (scheme_class url.scheme) url.scheme refl plain)));
        query = reference_query url (scheme_class url.scheme) PathAbsolute parts.query (walking walked v) special refl;
      })
      (ends_again (Some url) (λ p. start_row (slash ∷ rest) p)
      (ends_step (Some url) {s₁ = RelativeSlashState} {v₁ = begun} (λ p. refl)
      (ends_again (Some url) (λ p. rw no_slash refl)
      (walk_ends (Some url) parts.query parts.fragment is.query is.fragment [] parts.segments path.after v
      path.relative.joins))))

  -- another path
  pub relative_done : parts.form ≡ PathRelative → RunsSilently (Some url) text parts
  relative_done form =
      let fits = fits_form (Some url) text parts PathRelative is form in
      let have = marks (Some url) text parts.scheme parts.host_text parts.port_text parts.path_text parts.query
      parts.fragment is.cut in
      let whole = path_text url text parts is none fits.0.host_text in
      let v = with_query None (with_base url begun) in
      let list : shorten (scheme_class url.scheme) (list_in url.path)
      ≡ shorten (scheme_class url.scheme) (listed_segments url.path)
      = ap (shorten (scheme_class url.scheme)) (same_list url.path) in
      let walked = walk (scheme_class url.scheme) (shorten (scheme_class url.scheme) (list_in url.path))
      parts.segments in
      reference_runs url text (parts.path_text ++ tail parts.query parts.fragment) parts PathRelative (walking walked v)
      whole is form none
      (record {
        scheme = refl;
        host = refl;
        port = refl;
        path = ap (λ k. Segments (walk (scheme_class url.scheme) k parts.segments)) list;
        query = reference_query url (scheme_class url.scheme) PathRelative parts.query (walking walked v) special refl;
      })
      (ends_again (Some url) (λ p. start_row (parts.path_text ++ tail parts.query parts.fragment) p)
      (ends_again (Some url)
      (λ p. first_row parts.path_text p fits.2 fits.1.start have.path_question_mark have.path_number_sign)
      (walk_ends (Some url) parts.query parts.fragment is.query is.fragment
      (shorten (scheme_class url.scheme) (list_in url.path)) parts.segments parts.path_text v fits.1.joins)))
    where
      first_row : (path : List ℕ) (p : ℕ) → path ≢ []
          → starts_with_slash path ≡ false → is_without question_mark path ≡ true → is_without number_sign path ≡ true
          → turn (Some url) RelativeState p empty_variables (path ++ tail parts.query parts.fragment)
          ≡ again PathState (shortened (with_query None (with_base url begun)))
      first_row [] p some start question number = absurd (some refl)
      first_row (c ∷ path) p some start question number =
          let b = is_without-cons question_mark c path question in
          let d = is_without-cons number_sign c path number in
          simp (start, b.0, d.0) refl
