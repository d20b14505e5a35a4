-- A text with an authority, with a scheme or without one: it is valid under the parser's profile, or its run stops. How
-- a run comes to what follows `//` is a parameter, since the two differ only there.
use Rattle.std.proofs.Common.{◌≡◌, ◌≢◌, ℕ, true, false, ◌||◌, ◌⊎◌, List, [], ◌∷◌, ◌++◌, Option, Some, None, refl, sym}
use Rattle.std.proofs.Common.{ap, subst, ◌∙◌, inl, inr, eqb-true, append-nil}
use Rattle.std.specs.List.{list_all}
use Rattle.std.proofs.lemmas.Bool.{and_parts, cases_Bool}
use Rattle.uv_model.specs.declared.host.Host.{Host}
use Rattle.uv_model.specs.declared.host.Host.TheVariants as host
use Rattle.uv_model.specs.declared.scheme.Class.{Class}
use Rattle.uv_model.specs.declared.scheme.Class.TheVariants.{SpecialNotFile, File, Other}
use Rattle.uv_model.specs.Ascii.{slash, colon, backslash, question_mark}
use Rattle.uv_model.specs.Cut.{IsHostCut, texts_of}
use Rattle.uv_parser.specs.Machine.{Variables, begins, is_special, at_pointer, emptied, with_brackets}
use Rattle.uv_model.specs.Parts.{Form, Parts, written_after}
use Rattle.uv_parser.specs.Laws.OtherHosts.{own_value}
use Rattle.uv_model.specs.Path.{MayBePathSlashed, is_without, starts_with_slash}
use Rattle.uv_model.specs.Scheme.{default_port, scheme_class}
use Rattle.uv_model.specs.Units.{is_faultless, is_unit_at}
use Rattle.uv_model.specs.Records.Url.{Url}
use Rattle.uv_model.specs.Valid.{FitsAuthority, IsOpaqueHostText, MayBePortText, Valid, port_given}
use Rattle.uv_model.specs.Setting.{setting_of}
use Rattle.uv_model.specs.declared.profile.Profile.TheVariants.{Parser}
use Rattle.std.proofs.Common.{Bool, not, ◌&&◌, ◌==◌, length, append_assoc}
use Rattle.std.specs.Prelude.{is_some}
use Rattle.uv_parser.proofs.Running.KeptTexts.{IsKept}
use Rattle.uv_parser.proofs.Running.StoppedHosts.{IsHostKept, file_unstopped, host_is_kept, special_unstopped}
use Rattle.uv_parser.specs.Laws.OtherHosts.{IsValidOtherHost}
use Rattle.uv_parser.proofs.HostParsing.OtherHosts.{silent_other}
use Rattle.uv_parser.proofs.Loops.AuthorityStarts.{file_variables, state_after_slashes, variables_after_slashes}
use Rattle.uv_parser.proofs.Loops.AuthorityLoops.{IsDelimiter, is_authority_letter}
use Rattle.uv_parser.proofs.Decided.DecidedAuthority.{IsHostTaken, IsUnended, authority_decided, letters_no_at_sign}
use Rattle.uv_parser.proofs.Decided.DecidedAuthority.{letters_no_backslash}
use Rattle.uv_parser.proofs.Decided.DecidedFile.{FileHostFits, file_host_decided}
use Rattle.uv_parser.proofs.Decided.DecidedPath.{AreFine, FreeOfMarks, path_start_decided}
use Rattle.uv_model.proofs.Texts.MarkLemmas.{is_without-cons}
use Rattle.uv_model.proofs.Paths.PathPieces.{joins_pieces}
use Rattle.uv_model.specs.Path.{segments_after}
use Rattle.uv_parser.proofs.Running.RunsStopped.{RunStops}
use Rattle.uv_parser.proofs.Running.Steps.{Stops, ends_again, stops_here}
use Rattle.uv_parser.proofs.Loops.Tails.{tail}
use Rattle.uv_parser.proofs.HostParsing.SpecialHosts.{host_from_parser}

-- What is to be shown of a text: it is silent with parts, or stops.
abbrev pub SilentOrStops : Option Url → List ℕ → Type 0
SilentOrStops base text = ((parts : Parts) × Valid Parser base text parts) ⊎ RunStops base text

-- a path that is empty or begins with `/` begins with a delimiter, also with a tail after it
pub delimits_path : (path : List ℕ) (query fragment : Option (List ℕ)) → (path ≢ [] → starts_with_slash path ≡ true)
    → IsDelimiter (at_pointer (path ++ tail query fragment))
delimits_path [] (Some text) fragment start = tt
delimits_path [] None (Some text) start = tt
delimits_path [] None None start = tt
delimits_path (c ∷ path) query fragment start =
    let is : c ≡ slash = eqb-true c slash (start (λ same. cc)) in
    rw is tt

-- a path after an authority is empty, or `/` and its segments
pub slashed_path : (path : List ℕ) → is_faultless path ≡ true → is_without question_mark path ≡ true
    → (path ≢ [] → starts_with_slash path ≡ true) → MayBePathSlashed (segments_after path) path
slashed_path [] units none start = inl (refl, refl)
slashed_path (c ∷ rest) units none start =
    let is : c ≡ slash = eqb-true c slash (start (λ same. cc)) in
    inr (record {
      after = rest;
      slashed = ap (λ x. x ∷ rest) is;
      joins = joins_pieces rest (and_parts (is_unit_at c rest) (is_faultless rest) units).1
          (is_without-cons question_mark c rest none).1;
    })

-- a class is one of three
pub class_cases : (class : Class) → (class ≡ SpecialNotFile) ⊎ ((class ≡ File) ⊎ (class ≡ Other))
class_cases SpecialNotFile = inl refl
class_cases File = inr (inl refl)
class_cases Other = inr (inr refl)

-- ---- what follows `//`

-- the parts of a text with an authority, with the values of its host and its port
abbrev pub authority_parts : Form → Option (List ℕ) → List ℕ → Option (List ℕ) → List ℕ → Option (List ℕ)
    → Option (List ℕ) → Option Host → Option ℕ → Parts
authority_parts form given host_text port_text path query fragment value port = record {
  form = form;
  scheme = given;
  host_text = Some host_text;
  host = value;
  port_text = port_text;
  port = port;
  path_text = path;
  segments = segments_after path;
  query = query;
  fragment = fragment;
}

-- A text whose scheme is given, or is the base's: where its run stops from what follows `//` on, it stops, and with
-- host and port taken and the rest fine it is silent.
module _ (base : Option Url) (text : List ℕ) (form : Form) (given : Option (List ℕ)) (scheme : List ℕ) (v : Variables)
    (same : scheme_class v.url.scheme ≡ scheme_class scheme)
    (host_text : List ℕ) (port_text : Option (List ℕ)) (path : List ℕ) (query fragment : Option (List ℕ))
    (unended : IsUnended (host_text ++ written_after colon port_text))
    (cut : IsHostCut (scheme_class scheme) host_text port_text)
    (slashed : path ≢ [] → starts_with_slash path ≡ true)
    (free : FreeOfMarks path query)
    (kept : IsKept ((host_text ++ written_after colon port_text) ++ (path ++ tail query fragment)))
    (start : (class : Class) → scheme_class scheme ≡ class
    → Stops base (state_after_slashes class) (variables_after_slashes class (with_brackets false (emptied v)))
    ((host_text ++ written_after colon port_text) ++ (path ++ tail query fragment))
    → RunStops base text)
    (silent : (value : Option Host) (port : Option ℕ)
    → FitsAuthority (scheme_class scheme) (setting_of Parser base (Some scheme)) host_text
    (authority_parts form given host_text port_text path query fragment value port)
    → AreFine path query fragment
    → Valid Parser base text (authority_parts form given host_text port_text path query fragment value port)) where
  -- ---- what is kept

  -- nothing of the text follows the host
  abbrev last : Bool
  last = (length path == 0) && not (is_some port_text || (is_some query || is_some fragment))

  -- no code point of the host is removed
  host_kept : IsHostKept last host_text
  host_kept =
      let after = path ++ tail query fragment in
      host_is_kept
      (texts_of (authority_parts form given host_text port_text path query fragment None None)) host_text
      (subst IsKept (append_assoc host_text (written_after colon port_text) after) kept)

  -- the path after the authority
  path_fits : AreFine path query fragment → MayBePathSlashed (segments_after path) path
  path_fits fine = slashed_path path fine.0 free.question_mark slashed

  -- ---- by the class

  -- what fits a class fits the scheme's
  of_class : (class : Class) → scheme_class scheme ≡ class → (parts : Parts)
      → FitsAuthority class (setting_of Parser base (Some scheme)) host_text parts
      → FitsAuthority (scheme_class scheme) (setting_of Parser base (Some scheme)) host_text parts
  of_class class is parts fits =
      subst (λ (k : Class). FitsAuthority k (setting_of Parser base (Some scheme)) host_text parts) (sym is) fits

  -- with its host and its port taken, and the rest fine, a text of class SpecialNotFile is silent
  special_taken : scheme_class scheme ≡ SpecialNotFile → list_all (is_authority_letter true) host_text ≡ true
      → IsHostTaken true host_text port_text → AreFine path query fragment → SilentOrStops base text
  special_taken special letters taken fine =
      let port = port_given (default_port scheme) port_text in
      let parts = authority_parts form given host_text port_text path query fragment (Some taken.value) port in
      let fits : FitsAuthority SpecialNotFile (setting_of Parser base (Some scheme)) host_text parts
      = record {
        unstopped =
            special_unstopped last host_text (letters_no_at_sign true host_text letters)
            (letters_no_backslash host_text letters) host_kept;
        value = taken.value;
        host = host_from_parser host_text taken.value taken.parsed;
        valued = refl;
        port_text = taken.port_text;
        port = refl;
        path = path_fits fine;
      } in
      inl (parts, silent (Some taken.value) port (of_class SpecialNotFile special parts fits) fine)

  -- class SpecialNotFile
  special_decided : scheme_class scheme ≡ SpecialNotFile → SilentOrStops base text
  special_decided special =
      let authority = host_text ++ written_after colon port_text in
      let rest = authority ++ (path ++ tail query fragment) in
      let host_cut : IsHostCut SpecialNotFile host_text port_text
      = subst (λ (k : Class). IsHostCut k host_text port_text) special cut in
      let class : is_special v.url.scheme ≡ true = rw (same, special) refl in
      elim (cases_Bool (begins slash rest || begins backslash rest)) [
        | inl further ↦ inr (start SpecialNotFile special (stops_here base (λ p. rw further refl)))
        | inr none ↦
            elim (authority_decided base (AreFine path query fragment) true host_text port_text
            (path ++ tail query fragment) v class host_cut unended
            (delimits_path path query fragment slashed)
            (λ g e. path_start_decided base path query fragment g free slashed)) [
              | inl (letters, taken, fine) ↦ special_taken special letters taken fine
              | inr stops ↦ inr (start SpecialNotFile special (ends_again base (λ p. rw none refl) stops))
            ]
      ]

  -- class Other
  other_decided : scheme_class scheme ≡ Other → SilentOrStops base text
  other_decided other =
      let authority = host_text ++ written_after colon port_text in
      let host_cut : IsHostCut Other host_text port_text
      = subst (λ (k : Class). IsHostCut k host_text port_text) other cut in
      let class : is_special v.url.scheme ≡ false = rw (same, other) refl in
      elim (authority_decided base (AreFine path query fragment) false host_text port_text
      (path ++ tail query fragment) v class host_cut unended
      (delimits_path path query fragment slashed)
      (λ g e. path_start_decided base path query fragment g free slashed)) [
        | inl (letters, taken, fine) ↦
            let value = own_value taken.value in
            let port = port_given (default_port scheme) port_text in
            let parts = authority_parts form given host_text port_text path query fragment value port in
            let valid = silent_other host_text taken.value (letters_no_at_sign false host_text letters) taken.parsed in
            let fits : FitsAuthority Other (setting_of Parser base (Some scheme)) host_text parts
            = (host_and_port value valid taken.alone taken.port_text, refl, path_fits fine) in
            inl (parts, silent value port (of_class Other other parts fits) fine)
        | inr stops ↦ inr (start Other other stops)
      ]
    where
      host_and_port : (value : Option Host) → IsValidOtherHost host_text value → (host_text ≡ [] → port_text ≡ None)
          → MayBePortText port_text
          → (IsOpaqueHostText host_text value × MayBePortText port_text)
          ⊎ ((host_text ≡ []) × (value ≡ Some host.Empty) × (port_text ≡ None))
      host_and_port value (inl is) alone port = inl (is, port)
      host_and_port value (inr (nothing, empty)) alone port = inr (nothing, empty, alone nothing)

  -- class File
  file_decided : scheme_class scheme ≡ File → SilentOrStops base text
  file_decided file =
      let no_port : port_text ≡ None = subst (λ (k : Class). IsHostCut k host_text port_text) file cut in
      let alone : host_text ++ written_after colon port_text ≡ host_text
      = ap (λ o. host_text ++ written_after colon o) no_port ∙ append-nil host_text in
      let rest = path ++ tail query fragment in
      elim (file_host_decided base (AreFine path query fragment) host_text rest (file_variables host.Empty)
      (subst IsUnended alone unended) (delimits_path path query fragment slashed)
      (λ g e. path_start_decided base path query fragment g free slashed)) [
        | inl (fits, fine) ↦ taken no_port fits fine
        | inr stops ↦ inr (start File file (rw alone stops))
      ]
    where
      taken : port_text ≡ None → FileHostFits host_text → AreFine path query fragment → SilentOrStops base text
      taken no_port (inl is) fine =
          let parts = authority_parts form given host_text port_text path query fragment (Some is.value) None in
          let fits : FitsAuthority File (setting_of Parser base (Some scheme)) host_text parts
          = (
            no_port,
            refl,
            inl (record {
              unstopped = file_unstopped last host_text is.no_drive is.no_backslash host_kept;
              value = is.value;
              host = is.host;
              valued = refl;
              path = path_fits fine;
              no_drive = tt;
            }),
          ) in
          inl (parts, silent (Some is.value) None (of_class File file parts fits) fine)
      taken no_port (inr empty) fine =
          let parts = authority_parts form given host_text port_text path query fragment (Some host.Empty) None in
          let fits : FitsAuthority File (setting_of Parser base (Some scheme)) host_text parts
          = (no_port, refl, inr (empty, refl, path_fits fine)) in
          inl (parts, silent (Some host.Empty) None (of_class File file parts fits) fine)

  -- with an authority
  pub authority_silent_or_stops : SilentOrStops base text
  authority_silent_or_stops =
      elim (class_cases (scheme_class scheme)) [
        | inl special ↦ special_decided special
        | inr (inl file) ↦ file_decided file
        | inr (inr other) ↦ other_decided other
      ]
