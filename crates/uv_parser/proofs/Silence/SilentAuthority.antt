-- The whole run of a text with a scheme and an authority, of class Other or SpecialNotFile, whose host and port are
-- parsed.
use Rattle.uv_model.specs.Path.{MayBePathSlashed}
use Rattle.std.proofs.Common.{◌≡◌, ℕ, true, false, ◌||◌, ◌==◌, List, [], ◌∷◌, ◌++◌, length, Option, Some, None, refl}
use Rattle.std.proofs.Common.{sym, ap, ◌∙◌, append_assoc, arith}
use Rattle.std.specs.List.{list_all}
use Rattle.std.proofs.lemmas.Bool.Decides.{nat_tests}
use Rattle.uv_parser.specs.HostParser.{parse_host}
use Rattle.std.proofs.lemmas.Bool.{true≢false, and_parts}
use Rattle.uv_model.specs.declared.host.Host.{Host}
use Rattle.uv_model.specs.declared.scheme.Class.TheVariants.{SpecialNotFile, Other}
use Rattle.uv_model.specs.declared.path.UrlPath.TheVariants.{Segments}
use Rattle.uv_model.specs.Ascii.{slash, backslash, colon}
use Rattle.uv_model.specs.Records.Denote.{authority_host, authority_path}
use Rattle.uv_parser.specs.Machine.{begins, AuthorityState, SchemeState, empty_variables, is_special, with_more}
use Rattle.uv_model.specs.Parts.{Parts, SchemeAuthority, written, written_after}
use Rattle.uv_model.specs.Removed.{first_removed}
use Rattle.uv_model.specs.Scheme.{default_port, is_scheme, lowercase, scheme_class}
use Rattle.uv_parser.specs.Laws.Silence.{RunsSilently}
use Rattle.uv_model.specs.Records.Url.{Url}
use Rattle.uv_model.specs.Valid.{MayBeUnits, port_given}
use Rattle.uv_parser.proofs.Loops.AuthorityEnds.{After, IsParsed, authority_ends, authority_url, hosted}
use Rattle.uv_parser.proofs.Loops.AuthorityStarts.{scheme_starts}
use Rattle.uv_parser.proofs.Loops.AuthorityLoops.{is_authority_letter}
use Rattle.uv_parser.proofs.HostParsing.HostParserLemmas.{parsed_some}
use Rattle.uv_parser.proofs.Loops.PathLoops.{walking}
use Rattle.uv_model.proofs.SchemeLemmas.{scheme_class-lowercase}
use Rattle.uv_parser.proofs.Loops.SchemeStretch.{scheme_variables}
use Rattle.uv_parser.proofs.Silence.SilentSchemes.{EndsAfterScheme, HoldsDenoted, denoted_from_variables, runs_kept}
use Rattle.uv_parser.proofs.Running.Steps.{Ends, ends_again}
use Rattle.uv_parser.proofs.Loops.Tails.{tail}

-- the text of parts with an authority
pub written_with_authority : (parts : Parts) (scheme host_text : List ℕ) → parts.scheme ≡ Some scheme
    → parts.host_text ≡ Some host_text
    → written parts
    ≡ scheme ++ colon ∷ ((slash ∷ slash ∷ ((host_text ++ written_after colon parts.port_text) ++ parts.path_text))
    ++ tail parts.query parts.fragment)
unfolding written
written_with_authority parts scheme host_text named given =
    let authority = host_text ++ written_after colon parts.port_text in
    rw (named, given)
    (append_assoc scheme (colon ∷ [])
    (slash ∷ slash ∷ (authority ++ (parts.path_text ++ tail parts.query parts.fragment)))
    ∙ ap (λ xs. scheme ++ colon ∷ slash ∷ slash ∷ xs)
    (sym (append_assoc authority parts.path_text (tail parts.query parts.fragment))))

-- a letter of an authority is neither `/` nor `\`
letter_no_slash : (c : ℕ) → is_authority_letter true c ≡ true → ((c == slash) || (c == backslash)) ≡ false
letter_no_slash c is = grind (arith, nat_tests)

-- so a host that isn't empty begins with neither
pub no_slash_before : (host port rest : List ℕ) → list_all (is_authority_letter true) host ≡ true
    → (length host == 0) ≡ false
    → (begins slash ((host ++ port) ++ rest) || begins backslash ((host ++ port) ++ rest)) ≡ false
no_slash_before [] port rest letters some = absurd (true≢false some)
no_slash_before (c ∷ host) port rest letters some =
    letter_no_slash c (and_parts (is_authority_letter true c) (list_all (is_authority_letter true) host) letters).0

-- the host of a special URL isn't empty
pub special_some : (scheme text : List ℕ) (value : Host) → is_special (lowercase scheme) ≡ true
    → parse_host (is_special (lowercase scheme)) text ≡ Some value → (length text == 0) ≡ false
special_some scheme text value special parsed = parsed_some text value (rw special at parsed)

-- The host, the port and the path of an authority, whose host text gives this value.
pub record HasParsed (parts : Parts) (scheme host_text : List ℕ) (value : Host) : Type 0 where
  pub parsed : IsParsed scheme host_text parts.port_text value
  pub valued : Some value ≡ authority_host parts
  pub port : parts.port ≡ port_given (default_port scheme) parts.port_text
  pub path : MayBePathSlashed parts.segments parts.path_text

module _ (base : Option Url) (parts : Parts) (scheme host_text : List ℕ) (value : Host) where
  -- the text from the authority on
  authority : List ℕ
  authority = host_text ++ written_after colon parts.port_text

  -- where the authority ends the run with a URL, so does what begins at the scheme's `:`
  pub StartsAuthority : Type 0
  StartsAuthority =
      (url : Url)
      → Ends base AuthorityState (scheme_variables scheme)
      (authority ++ (parts.path_text ++ tail parts.query parts.fragment)) url
      → Ends base SchemeState (with_more (lowercase scheme) empty_variables)
      (colon ∷ slash ∷ slash ∷ (authority ++ (parts.path_text ++ tail parts.query parts.fragment))) url

  -- the variables after the path are what is denoted
  authority_denoted : HasParsed parts scheme host_text value
      → HoldsDenoted base parts SchemeAuthority scheme
      (walking (authority_path (scheme_class (lowercase scheme)) parts.segments)
      (hosted scheme value (port_given (default_port scheme) parts.port_text)))
  authority_denoted has =
      record {
        scheme = refl;
        host = has.valued;
        port = sym has.port;
        path = ap (λ k. Segments (authority_path k parts.segments)) (scheme_class-lowercase scheme);
        query = refl;
      }

  -- the whole run of such a text
  pub authority_runs : (text : List ℕ) → text ≡ written parts → MayBeUnits parts.query → MayBeUnits parts.fragment
      → first_removed text ≡ None → parts.form ≡ SchemeAuthority → is_scheme scheme ≡ true
      → parts.scheme ≡ Some scheme → parts.host_text ≡ Some host_text → HasParsed parts scheme host_text value
      → StartsAuthority → RunsSilently base text parts
  unfolding authority StartsAuthority
  authority_runs text spelled query fragment kept form is named given has start =
      let onward : After parts.segments parts.path_text parts.query parts.fragment
      = record { path = has.path; query = query; fragment = fragment } in
      let whole = append_assoc authority parts.path_text (tail parts.query parts.fragment) in
      let after : EndsAfterScheme base parts scheme (slash ∷ slash ∷ (authority ++ parts.path_text))
      = record {
        url = authority_url scheme value (port_given (default_port scheme) parts.port_text) parts.segments parts.query
            parts.fragment;
        named = is;
        ends = rw whole (start _
            (authority_ends base scheme value parts.segments parts.path_text parts.query parts.fragment onward
            host_text parts.port_text has.parsed));
        denoted = denoted_from_variables base parts SchemeAuthority scheme _ refl form named (authority_denoted has);
      } in
      runs_kept base text parts scheme
      (slash ∷ slash ∷ (authority ++ parts.path_text)) after kept
      (spelled ∙ written_with_authority parts scheme host_text named given)

  -- class Other goes to the authority
  pub other_starts : scheme_class scheme ≡ Other → StartsAuthority
  unfolding authority StartsAuthority
  other_starts other url ends =
      scheme_starts base scheme (authority ++ (parts.path_text ++ tail parts.query parts.fragment)) Other other ends

  -- a special URL goes to a host that isn't empty
  pub special_starts : scheme_class scheme ≡ SpecialNotFile → list_all (is_authority_letter true) host_text ≡ true
      → (length host_text == 0) ≡ false → StartsAuthority
  unfolding authority StartsAuthority
  special_starts special letters some url ends =
      let rest = authority ++ (parts.path_text ++ tail parts.query parts.fragment) in
      let none : (begins slash rest || begins backslash rest) ≡ false
      = no_slash_before host_text (written_after colon parts.port_text)
      (parts.path_text ++ tail parts.query parts.fragment) letters some in
      scheme_starts base scheme rest SpecialNotFile special (ends_again base (λ p. rw none refl) ends)

-- ---- the scheme and the host

-- a scheme of class Other isn't special, and one of class SpecialNotFile is
pub not_special : (scheme : List ℕ) → scheme_class scheme ≡ Other → is_special (lowercase scheme) ≡ false
not_special scheme other = rw (scheme_class-lowercase scheme, other) refl

-- a scheme of class SpecialNotFile is special
pub is_special_scheme : (scheme : List ℕ) → scheme_class scheme ≡ SpecialNotFile → is_special (lowercase scheme) ≡ true
is_special_scheme scheme special = rw (scheme_class-lowercase scheme, special) refl

-- a host with a value of its own
pub valued_some : (parts : Parts) (value : Host) → parts.host ≡ Some value → Some value ≡ authority_host parts
valued_some parts value e = rw e refl
