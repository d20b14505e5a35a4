-- The run of a reference to a well-formed file base on which the parser is silent is done, with the URL that the parts
-- denote.
use Rattle.std.proofs.Common.{◌≡◌, ◌≢◌, ℕ, true, false, ◌==◌, List, [], ◌∷◌, ◌++◌, codes, Option, Some, None, refl, sym}
use Rattle.std.proofs.Common.{ap, ◌∙◌, inl, inr, append_assoc, append-nil}
use Rattle.std.specs.Char.{is_ascii_alphabetic}
use Rattle.std.proofs.lemmas.Bool.{and_parts, cases_Bool, eqb-true, false≢true, true≢false}
use Rattle.uv_model.specs.declared.host.Host.{Host}
use Rattle.uv_model.specs.declared.host.Host.TheVariants as host
use Rattle.uv_model.specs.declared.scheme.Class.TheVariants.{File}
use Rattle.uv_model.specs.declared.path.UrlPath.TheVariants.{Segments}
use Rattle.uv_model.specs.Ascii.{slash, colon, vertical_bar, question_mark, number_sign}
use Rattle.uv_model.specs.Records.Denote.{authority_path, quotes, listed_segments}
use Rattle.uv_parser.specs.Machine.{starts_with_drive_letter, turn, again, FileState, NoSchemeState, PathState}
use Rattle.uv_parser.specs.Machine.{empty_variables, is_file, is_special, list_in, shortened, with_file_base}
use Rattle.uv_parser.specs.Machine.{with_query}
use Rattle.uv_model.specs.Parts.{Parts, Authority, NoPath, PathRelative, written_after, written_authority}
use Rattle.uv_model.specs.Path.{is_without, shorten, starts_with_slash, walk}
use Rattle.uv_model.specs.Scheme.{scheme_class}
use Rattle.uv_parser.specs.Laws.Silence.{RunsSilently}
use Rattle.uv_model.specs.Units.{is_faultless, is_unit_at, is_url_code_point}
use Rattle.uv_model.specs.Records.Url.{Url, is_opaque}
use Rattle.uv_model.specs.Setting.{scheme_or}
use Rattle.uv_model.specs.Valid.{scheme_in, Valid}
use Rattle.uv_model.specs.Scheme.{starts_with_scheme}
use Rattle.uv_parser.proofs.Decided.CutTexts.{cut_text, marks}
use Rattle.uv_parser.proofs.Done.Decided.{fits_form}
use Rattle.uv_parser.proofs.Done.DoneAuthority.{file_has, is_named_by}
use Rattle.uv_parser.proofs.Done.DoneReferences.{path_text, reference_query, reference_runs, same_list, walk_ends}
use Rattle.uv_parser.proofs.Loops.AuthorityStarts.{base_starts, file_variables}
use Rattle.uv_parser.proofs.Loops.FileHosts.{file_class}
use Rattle.uv_model.proofs.Paths.JoinedSegments.{faultless_path}
use Rattle.uv_model.proofs.Texts.MarkLemmas.{is_without-cons}
use Rattle.uv_parser.proofs.Loops.PathLoops.{walking}
use Rattle.uv_parser.proofs.Silence.SilentAuthority.{valued_some}
use Rattle.uv_parser.proofs.Silence.SilentFile.{FileHostEnds}
use Rattle.uv_parser.proofs.Silence.SilentSchemes.{special_of_class}
use Rattle.uv_parser.proofs.Running.Steps.{ends_again}
use Rattle.uv_parser.proofs.Loops.Tails.{tail, tail_ends}
use Rattle.uv_model.specs.declared.profile.Profile.TheVariants.{Parser}

-- units that begin with no scheme begin with no drive letter
no_drive_letter : (path : List ℕ) (query fragment : Option (List ℕ)) → path ≢ [] → is_faultless path ≡ true
    → starts_with_scheme path ≡ false → starts_with_drive_letter (path ++ tail query fragment) ≡ false
unfolding is_unit_at is_url_code_point
no_drive_letter [] query fragment some units free = absurd (some refl)
no_drive_letter (c ∷ []) (Some query) fragment some units free =
    elim (cases_Bool (is_ascii_alphabetic c)) [ inl letter ↦ rw letter refl | inr other ↦ rw other refl ]
no_drive_letter (c ∷ []) None (Some fragment) some units free =
    elim (cases_Bool (is_ascii_alphabetic c)) [ inl letter ↦ rw letter refl | inr other ↦ rw other refl ]
no_drive_letter (c ∷ []) None None some units free = refl
no_drive_letter (c ∷ m ∷ rest) query fragment some units free =
    elim (cases_Bool (is_ascii_alphabetic c)) [
      | inl letter ↦ elim (cases_Bool (m == colon)) [
        | inl is ↦ absurd (true≢false (rw (letter, is) at free))
        | inr not_colon ↦ elim (cases_Bool (m == vertical_bar)) [
          | inl bar ↦
              let after = (and_parts (is_unit_at c (m ∷ rest)) (is_faultless (m ∷ rest)) units).1 in
              let here : is_unit_at m rest ≡ true = (and_parts (is_unit_at m rest) (is_faultless rest) after).0 in
              absurd (false≢true (rw (eqb-true m vertical_bar bar) at here))
          | inr not_bar ↦ rw (letter, not_colon, not_bar) refl
        ]
      ]
      | inr other ↦ rw other refl
    ]

module _ (url : Url) (text : List ℕ) (parts : Parts) (is : Valid Parser (Some url) text parts)
    (not_opaque : is_opaque url.path ≡ false) (file : is_file url.scheme ≡ true)
    (class : scheme_class url.scheme ≡ File) (none : parts.scheme ≡ None)
    (name : url.scheme ≡ codes "file") (no_port : url.port ≡ None) where
  begin_row : (rest : List ℕ) (p : ℕ)
      → turn (Some url) NoSchemeState p empty_variables rest ≡ again FileState empty_variables
  begin_row rest p = rw (not_opaque, file) refl

  file_special : is_special (codes "file") ≡ quotes (scheme_class url.scheme)
  file_special = special_of_class (scheme_class url.scheme) (codes "file") (file_class ∙ sym class)

  -- no path
  pub file_no_path_done : parts.form ≡ NoPath → RunsSilently (Some url) text parts
  file_no_path_done form =
      let fits = fits_form (Some url) text parts NoPath is form in
      let whole : text ≡ tail parts.query parts.fragment
      = path_text url text parts is none fits.0.host_text
      ∙ ap (λ xs. xs ++ tail parts.query parts.fragment) fits.1 in
      let v = with_file_base url (file_variables host.Empty) in
      reference_runs url text (tail parts.query parts.fragment) parts NoPath v
      whole is form none
      (record {
        scheme = sym name;
        host = refl;
        port = sym no_port;
        path = refl;
        query = reference_query url (scheme_class url.scheme) NoPath parts.query v file_special refl;
      })
      (ends_again (Some url) (λ p. begin_row (tail parts.query parts.fragment) p)
      (tail_ends (Some url) FileState empty_variables v parts.query parts.fragment
      (record { at_end = λ p. rw file refl; at_query = λ p rest. rw file refl; at_fragment = λ p rest. rw file refl })
      is.query is.fragment))

  -- the row of a path that begins with neither `/` nor a drive letter
  relative_row : (path : List ℕ) (p : ℕ) → path ≢ []
      → starts_with_slash path ≡ false → is_without question_mark path ≡ true → is_without number_sign path ≡ true
      → starts_with_drive_letter (path ++ tail parts.query parts.fragment) ≡ false
      → turn (Some url) FileState p empty_variables (path ++ tail parts.query parts.fragment)
      ≡ again PathState (shortened (with_query None (with_file_base url (file_variables host.Empty))))
  relative_row [] p some start question number drive = absurd (some refl)
  relative_row (c ∷ path) p some start question number drive =
      let b = is_without-cons question_mark c path question in
      let d = is_without-cons number_sign c path number in
      simp (file, start, b.0, d.0, drive) refl

  -- a path that doesn't begin with `/`
  pub file_relative_done : parts.form ≡ PathRelative → RunsSilently (Some url) text parts
  file_relative_done form =
      let fits = fits_form (Some url) text parts PathRelative is form in
      let have = marks (Some url) text parts.scheme parts.host_text parts.port_text parts.path_text parts.query
      parts.fragment is.cut in
      let whole = path_text url text parts is none fits.0.host_text in
      let v = with_query None (with_file_base url (file_variables host.Empty)) in
      let start = shorten (scheme_class (codes "file")) (list_in url.path) in
      let walked = walk (scheme_class (codes "file")) start parts.segments in
      let list : start ≡ shorten (scheme_class url.scheme) (listed_segments url.path)
      = ap (λ k. shorten k (list_in url.path)) (file_class ∙ sym class)
      ∙ ap (shorten (scheme_class url.scheme)) (same_list url.path) in
      let drive = no_drive_letter parts.path_text parts.query parts.fragment fits.2
      (faultless_path parts.segments parts.path_text fits.1) fits.3 in
      reference_runs url text (parts.path_text ++ tail parts.query parts.fragment) parts PathRelative (walking walked v)
      whole is form none
      (record {
        scheme = sym name;
        host = refl;
        port = sym no_port;
        path = ap (λ k. Segments (walk k start parts.segments)) (file_class ∙ sym class)
            ∙ ap (λ l. Segments (walk (scheme_class url.scheme) l parts.segments)) list;
        query = reference_query url (scheme_class url.scheme) PathRelative parts.query (walking walked v) file_special
            refl;
      })
      (ends_again (Some url) (λ p. begin_row (parts.path_text ++ tail parts.query parts.fragment) p)
      (ends_again (Some url)
      (λ p. relative_row parts.path_text p fits.2 fits.1.start have.path_question_mark have.path_number_sign drive)
      (walk_ends (Some url) parts.query parts.fragment is.query is.fragment start parts.segments parts.path_text v
      fits.1.joins)))

  -- an authority with its host text named
  file_authority_runs : (host_text : List ℕ) (value : Host) → parts.form ≡ Authority
      → parts.host_text ≡ Some host_text → FileHostEnds (Some url) parts host_text value
      → RunsSilently (Some url) text parts
  file_authority_runs host_text value form given has =
      let rest = parts.path_text ++ tail parts.query parts.fragment in
      let spelled : text ≡ (written_authority (Some host_text) parts.port_text ++ parts.path_text)
      ++ tail parts.query parts.fragment
      = rw (none, given) at
      (cut_text (Some url) text parts.scheme parts.host_text parts.port_text parts.path_text parts.query parts.fragment
      is.cut) in
      let alone : host_text ++ written_after colon parts.port_text ≡ host_text
      = ap (λ o. host_text ++ written_after colon o) has.no_port_text ∙ append-nil host_text in
      let whole : text ≡ slash ∷ slash ∷ (host_text ++ rest)
      = spelled ∙ ap (λ xs. slash ∷ slash ∷ xs)
      (append_assoc (host_text ++ written_after colon parts.port_text) parts.path_text
      (tail parts.query parts.fragment)
      ∙ ap (λ xs. xs ++ rest) alone) in
      let v = walking (authority_path (scheme_class (codes "file")) parts.segments) (file_variables value) in
      reference_runs url text (slash ∷ slash ∷ (host_text ++ rest)) parts Authority v
      whole is form none
      (record {
        scheme = sym name;
        host = valued_some parts value has.valued;
        port = sym has.no_port;
        path = ap (λ k. Segments (authority_path k parts.segments)) (file_class ∙ sym class);
        query = reference_query url (scheme_class url.scheme) Authority parts.query v file_special refl;
      })
      (base_starts url (host_text ++ rest) File not_opaque class has.ends)

  -- an authority
  pub file_authority_done : parts.form ≡ Authority → RunsSilently (Some url) text parts
  file_authority_done form =
      let of_class : scheme_class (scheme_in (Some url) parts) ≡ File
      = ap (λ o. scheme_class (scheme_or (Some url) o)) none ∙ class in
      let (host_text, named) = is_named_by (Some url) text parts File url.scheme is
      (fits_form (Some url) text parts Authority is form) of_class (ap (scheme_or (Some url)) none) in
      let (value, has) = file_has (Some url) text parts url.scheme host_text is named named.fits in
      file_authority_runs host_text value form named.given has
