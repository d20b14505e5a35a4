-- The run of a reference with an authority on which the parser is silent is done, with the URL that the parts denote:
-- against a well-formed base of class SpecialNotFile or Other. And the law for each base of class SpecialNotFile or
-- Other with a path
-- of segments.
use Rattle.std.proofs.Common.{◌≡◌, ℕ, false, ◌||◌, List, ◌∷◌, ◌++◌, Some, None, refl, sym, ap, subst, ◌∙◌, append_assoc}
use Rattle.uv_model.specs.declared.host.Host.{Host}
use Rattle.uv_model.specs.declared.scheme.Class.TheVariants.{SpecialNotFile, Other}
use Rattle.uv_model.specs.declared.path.UrlPath.TheVariants.{Segments}
use Rattle.uv_model.specs.Ascii.{slash, backslash, colon}
use Rattle.uv_model.specs.Records.Denote.{authority_path}
use Rattle.uv_parser.specs.Machine.{State, begins, AuthorityState, NoSchemeState, empty_variables, with_scheme}
use Rattle.uv_model.specs.Parts.{Parts, Authority, written_after, written_authority}
use Rattle.uv_model.specs.Scheme.{default_port, lowercase, scheme_class}
use Rattle.uv_parser.specs.Laws.Silence.{RunsSilently}
use Rattle.uv_model.specs.Records.Url.{Url, is_opaque}
use Rattle.uv_model.specs.Setting.{scheme_or}
use Rattle.uv_model.specs.Valid.{port_given, scheme_in, Valid}
use Rattle.uv_parser.proofs.Loops.AuthorityStarts.{base_starts}
use Rattle.uv_parser.proofs.Loops.AuthorityEnds.{After, authority_ends, hosted}
use Rattle.uv_parser.proofs.Decided.CutTexts.{cut_text}
use Rattle.uv_parser.proofs.Done.Decided.{fits_form}
use Rattle.uv_parser.proofs.Done.DoneAuthority.{is_named_by, other_has, special_has, special_letters}
use Rattle.uv_parser.proofs.Done.DoneReferences.{reference_query, reference_runs}
use Rattle.uv_parser.proofs.Loops.PathLoops.{walking}
use Rattle.uv_model.proofs.SchemeLemmas.{scheme_class-lowercase}
use Rattle.uv_parser.proofs.Loops.SchemeStretch.{scheme_variables}
use Rattle.uv_parser.proofs.Silence.SilentAuthority.{HasParsed, is_special_scheme, no_slash_before, special_some}
use Rattle.uv_parser.proofs.Silence.SilentSchemes.{special_of_class}
use Rattle.uv_parser.proofs.Running.Steps.{Ends, ends_again}
use Rattle.uv_parser.proofs.Loops.Tails.{tail}
use Rattle.uv_model.specs.declared.profile.Profile.TheVariants.{Parser}

module _ (url : Url) (text : List ℕ) (parts : Parts) (is : Valid Parser (Some url) text parts)
    (not_opaque : is_opaque url.path ≡ false) (none : parts.scheme ≡ None)
    (lower : lowercase url.scheme ≡ url.scheme) where
  -- what follows the authority, and the authority
  rest : List ℕ
  rest = parts.path_text ++ tail parts.query parts.fragment

  -- where the authority ends the run with a URL, so does what begins with `//`
  Starts : List ℕ → Type 0
  Starts authority =
      (u : Url) → Ends (Some url) AuthorityState (scheme_variables url.scheme) (authority ++ rest) u
      → Ends (Some url) NoSchemeState empty_variables (slash ∷ slash ∷ (authority ++ rest)) u

  -- the whole run
  authority_reference : (host_text : List ℕ) (value : Host) → parts.form ≡ Authority
      → parts.host_text ≡ Some host_text → HasParsed parts url.scheme host_text value
      → Starts (host_text ++ written_after colon parts.port_text) → RunsSilently (Some url) text parts
  unfolding rest Starts
  authority_reference host_text value form given has start =
      let authority = host_text ++ written_after colon parts.port_text in
      let after : After parts.segments parts.path_text parts.query parts.fragment
      = record { path = has.path; query = is.query; fragment = is.fragment } in
      let spelled : text ≡ (written_authority (Some host_text) parts.port_text ++ parts.path_text)
      ++ tail parts.query parts.fragment
      = rw (none, given) at
      (cut_text (Some url) text parts.scheme parts.host_text parts.port_text parts.path_text parts.query parts.fragment
      is.cut) in
      let whole : text ≡ slash ∷ slash ∷ (authority ++ rest)
      = spelled
      ∙ ap (λ xs. slash ∷ slash ∷ xs) (append_assoc authority parts.path_text (tail parts.query parts.fragment)) in
      let v = walking (authority_path (scheme_class (lowercase url.scheme)) parts.segments)
      (hosted url.scheme value (port_given (default_port url.scheme) parts.port_text)) in
      reference_runs url text (slash ∷ slash ∷ (authority ++ rest)) parts Authority v
      whole is form none
      (record {
        scheme = lower;
        host = has.valued;
        port = sym has.port;
        path = ap (λ k. Segments (authority_path k parts.segments)) (scheme_class-lowercase url.scheme);
        query = reference_query url (scheme_class url.scheme) Authority parts.query v
            (special_of_class (scheme_class url.scheme) (lowercase url.scheme) (scheme_class-lowercase url.scheme))
            refl;
      })
      (start _
      (authority_ends (Some url) url.scheme value parts.segments parts.path_text parts.query parts.fragment after
      host_text parts.port_text has.parsed))

  -- the variables with the base's scheme
  same_variables : (s : State) (xs : List ℕ) (u : Url) → Ends (Some url) s (scheme_variables url.scheme) xs u
      → Ends (Some url) s (with_scheme url.scheme empty_variables) xs u
  same_variables s xs u ends =
      subst (λ (n : List ℕ). Ends (Some url) s (with_scheme n empty_variables) xs u) lower ends

  -- against a base of class Other
  pub other_reference_done : parts.form ≡ Authority → scheme_class url.scheme ≡ Other
      → RunsSilently (Some url) text parts
  unfolding Starts
  other_reference_done form other =
      let of_class : scheme_class (scheme_in (Some url) parts) ≡ Other
      = ap (λ o. scheme_class (scheme_or (Some url) o)) none ∙ other in
      let (host_text, named) = is_named_by (Some url) text parts Other url.scheme is
      (fits_form (Some url) text parts Authority is form) of_class (ap (scheme_or (Some url)) none) in
      let (value, has) = other_has (Some url) parts url.scheme host_text named in
      authority_reference host_text value form named.given has
      (λ u ends.
      (base_starts url _ Other not_opaque other (same_variables AuthorityState _ u ends)))

  -- against a base of class SpecialNotFile
  pub special_reference_done : parts.form ≡ Authority → scheme_class url.scheme ≡ SpecialNotFile
      → RunsSilently (Some url) text parts
  unfolding rest Starts
  special_reference_done form special =
      let of_class : scheme_class (scheme_in (Some url) parts) ≡ SpecialNotFile
      = ap (λ o. scheme_class (scheme_or (Some url) o)) none ∙ special in
      let (host_text, named) = is_named_by (Some url) text parts SpecialNotFile url.scheme is
      (fits_form (Some url) text parts Authority is form) of_class (ap (scheme_or (Some url)) none) in
      let has = special_has (Some url) parts url.scheme host_text named in
      let rest = (host_text ++ written_after colon parts.port_text)
      ++ (parts.path_text ++ tail parts.query parts.fragment) in
      let none : (begins slash rest || begins backslash rest) ≡ false
      = no_slash_before host_text (written_after colon parts.port_text)
      (parts.path_text ++ tail parts.query parts.fragment)
      (special_letters (Some url) parts url.scheme host_text named)
      (special_some url.scheme host_text named.fits.value (is_special_scheme url.scheme special) has.parsed.parsed) in
      authority_reference host_text named.fits.value form named.given has
      (λ u ends.
      (base_starts url rest SpecialNotFile not_opaque special
      (ends_again (Some url) (λ p. rw none refl) (same_variables AuthorityState rest u ends))))
