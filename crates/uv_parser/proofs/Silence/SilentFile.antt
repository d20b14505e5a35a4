-- The whole run of a text with a scheme of class File and a host.
use Rattle.uv_model.specs.Path.{MayBePathSlashed}
use Rattle.std.proofs.Common.{◌≡◌, ℕ, true, List, ◌∷◌, ◌++◌, codes, Option, Some, None, refl, sym, ap, ◌∙◌}
use Rattle.std.proofs.Common.{append_assoc, append-nil}
use Rattle.uv_model.specs.declared.host.Host.{Host}
use Rattle.uv_model.specs.declared.host.Host.TheVariants as host
use Rattle.uv_model.specs.declared.scheme.Class.TheVariants.{File}
use Rattle.uv_model.specs.declared.path.UrlPath.TheVariants.{Segments}
use Rattle.uv_model.specs.Ascii.{slash, colon}
use Rattle.uv_model.specs.Records.Denote.{authority_path}
use Rattle.uv_parser.specs.Machine.{AtPointer, end, slash_mark, query_mark, fragment_mark, another, at_pointer, again}
use Rattle.uv_parser.specs.Machine.{FileHostState, PathStartState, file_host_at, with_more}
use Rattle.uv_model.specs.Parts.{Parts, SchemeAuthority, written, written_after}
use Rattle.uv_model.specs.Removed.{first_removed}
use Rattle.uv_model.specs.Scheme.{is_scheme, scheme_class}
use Rattle.uv_parser.specs.Laws.Silence.{RunsSilently}
use Rattle.uv_model.specs.Records.Url.{Url}
use Rattle.uv_model.specs.Valid.{MayBeUnits}
use Rattle.uv_parser.proofs.Loops.AuthorityStarts.{file_variables, scheme_starts}
use Rattle.uv_parser.proofs.Loops.AuthorityEnds.{delimits}
use Rattle.uv_parser.proofs.Loops.AuthorityLoops.{IsDelimiter}
use Rattle.uv_parser.proofs.Loops.FileHosts.{IsFileRead, file_class, file_host_law, file_host_row, file_scheme}
use Rattle.uv_parser.proofs.HostParsing.HostParserLemmas.{parsed_some}
use Rattle.uv_parser.proofs.Loops.PathLoops.{walking}
use Rattle.uv_parser.proofs.Loops.PathStarts.{path_start_ends}
use Rattle.uv_parser.proofs.Silence.SilentAuthority.{valued_some, written_with_authority}
use Rattle.uv_parser.proofs.Silence.SilentSchemes.{EndsAfterScheme, HoldsDenoted, denoted_from_variables, runs_kept}
use Rattle.uv_parser.proofs.Running.Steps.{Ends, ends_after, ends_again}
use Rattle.uv_parser.proofs.Loops.Tails.{tail, with_tail}

-- the URL at the end
abbrev file_url : Host → List (List ℕ) → Option (List ℕ) → Option (List ℕ) → Url
file_url value segments query fragment =
    with_tail query fragment (walking (authority_path (scheme_class (codes "file")) segments) (file_variables value))

-- an empty host ends at a delimiter
empty_host_row : (s : AtPointer) → IsDelimiter s
    → file_host_at (file_variables host.Empty) s ≡ again PathStartState (file_variables host.Empty)
empty_host_row end is = refl
empty_host_row slash_mark is = refl
empty_host_row query_mark is = refl
empty_host_row fragment_mark is = refl
empty_host_row (another c) is = absurd is

module _ (base : Option Url) (segments : List (List ℕ)) (path : List ℕ) (query fragment : Option (List ℕ))
    (segmented : MayBePathSlashed segments path) (query_units : MayBeUnits query)
    (fragment_units : MayBeUnits fragment) where
  -- from after the host to the end
  file_path_ends : (value : Host)
      → Ends base PathStartState (file_variables value) (path ++ tail query fragment)
      (file_url value segments query fragment)
  file_path_ends value =
      path_start_ends base query fragment query_units fragment_units segments path (file_variables value) segmented

  -- from a host with a text to the end
  pub file_host_ends : (text : List ℕ) (value : Host) → IsFileRead text value
      → Ends base FileHostState (file_variables host.Empty) (text ++ (path ++ tail query fragment))
      (file_url value segments query fragment)
  file_host_ends text value is =
      ends_after base (file_host_law base text (path ++ tail query fragment) (file_variables host.Empty) is.letters)
      (ends_again base
      (λ p. file_host_row is.parsed_value (with_more text (file_variables host.Empty))
      (at_pointer (path ++ tail query fragment))
      (delimits segments path query fragment segmented) is.drive (parsed_some text is.parsed_value is.parsed) is.parsed
      ∙ ap (λ v. again PathStartState (file_variables v)) is.made)
      (file_path_ends value))

  -- from an empty host to the end
  pub empty_host_ends :
      Ends base FileHostState (file_variables host.Empty) (path ++ tail query fragment)
      (file_url host.Empty segments query fragment)
  empty_host_ends =
      ends_again base
      (λ p. empty_host_row (at_pointer (path ++ tail query fragment)) (delimits segments path query fragment segmented))
      (file_path_ends host.Empty)

-- The host text leads to the end, with this value.
pub record FileHostEnds (base : Option Url) (parts : Parts) (text : List ℕ) (value : Host) : Type 0 where
  pub no_port_text : parts.port_text ≡ None
  pub no_port : parts.port ≡ None
  pub valued : parts.host ≡ Some value
  pub path : MayBePathSlashed parts.segments parts.path_text
  pub ends : Ends base FileHostState (file_variables host.Empty) (text ++ (parts.path_text ++ tail parts.query
      parts.fragment))
      (file_url value parts.segments parts.query parts.fragment)

-- the variables after the path are what is denoted
file_denoted : (base : Option Url) (parts : Parts) (scheme text : List ℕ) (value : Host) → scheme_class scheme ≡ File
    → FileHostEnds base parts text value
    → HoldsDenoted base parts SchemeAuthority scheme
    (walking (authority_path (scheme_class (codes "file")) parts.segments) (file_variables value))
file_denoted base parts scheme text value class has =
    record {
      scheme = sym (file_scheme scheme class);
      host = valued_some parts value has.valued;
      port = sym has.no_port;
      path = ap (λ k. Segments (authority_path k parts.segments)) (file_class ∙ sym class);
      query = refl;
    }

-- the text of parts with an authority and no port
written_file : (parts : Parts) (scheme text : List ℕ) → parts.scheme ≡ Some scheme → parts.host_text ≡ Some text
    → parts.port_text ≡ None
    → written parts ≡ scheme ++ colon ∷ ((slash ∷ slash ∷ (text ++ parts.path_text)) ++ tail parts.query parts.fragment)
written_file parts scheme text named given none =
    let wrote = written_with_authority parts scheme text named given in
    let plain : text ++ written_after colon parts.port_text ≡ text
    = ap (λ o. text ++ written_after colon o) none ∙ append-nil text in
    wrote ∙ ap
    (λ xs. scheme ++ colon ∷ ((slash ∷ slash ∷ (xs ++ parts.path_text)) ++ tail parts.query parts.fragment)) plain

-- the whole run of such a text
pub file_runs : (base : Option Url) (text : List ℕ) (parts : Parts) (scheme host_text : List ℕ) (value : Host)
    → text ≡ written parts → MayBeUnits parts.query → MayBeUnits parts.fragment → first_removed text ≡ None
    → parts.form ≡ SchemeAuthority → is_scheme scheme ≡ true → parts.scheme ≡ Some scheme
    → parts.host_text ≡ Some host_text → scheme_class scheme ≡ File → FileHostEnds base parts host_text value
    → RunsSilently base text parts
file_runs base text parts scheme host_text value spelled query fragment kept form is named given class has =
    let rest = host_text ++ parts.path_text in
    let whole = append_assoc host_text parts.path_text (tail parts.query parts.fragment) in
    let after : EndsAfterScheme base parts scheme (slash ∷ slash ∷ rest)
    = record {
      url = file_url value parts.segments parts.query parts.fragment;
      named = is;
      ends = rw whole
          (scheme_starts base scheme _ File class has.ends);
      denoted = denoted_from_variables base parts SchemeAuthority scheme _ refl form named
          (file_denoted base parts scheme host_text value class has);
    } in
    runs_kept base text parts scheme (slash ∷ slash ∷ rest) after kept
    (spelled ∙ written_file parts scheme host_text named given has.no_port_text)
