-- The parser machine from the start of an authority to the end of the text, where host and port are followed by a path,
-- a query and a fragment.
use Rattle.uv_model.specs.Path.{MayBePathSlashed}
use Rattle.std.proofs.Common.{◌≡◌, ℕ, Bool, true, false, ◌&&◌, ◌==◌, ◌⊎◌, List, [], ◌∷◌, ◌++◌, length, Option, Some}
use Rattle.std.proofs.Common.{None, refl, ap, subst, ◌∙◌, inl, inr, ⊎_elim, append_assoc, append-nil, le-ltb}
use Rattle.std.specs.Prelude.{nat_lt}
use Rattle.std.specs.List.{list_all}
use Rattle.std.specs.Char.{is_ascii_digit}
use Rattle.std.specs.Str.Parse.{digits_value}
use Rattle.std.proofs.lemmas.Bool.{and_from, and_parts}
use Rattle.std.proofs.lemmas.List.Folds.{list_all-append}
use Rattle.uv_model.specs.declared.host.Host.{Host}
use Rattle.uv_model.specs.Ascii.{colon}
use Rattle.uv_model.specs.Records.Denote.{authority_path}
use Rattle.uv_parser.specs.HostParser.{parse_host}
use Rattle.uv_model.specs.Parts.{written_after}
use Rattle.uv_model.specs.Scheme.{default_port, lowercase, scheme_class}
use Rattle.uv_model.specs.Records.Url.{Url}
use Rattle.uv_model.specs.Cut.{is_within_at_end}
use Rattle.uv_model.specs.Valid.{MayBePortText, MayBeUnits, port_given}
use Rattle.uv_parser.specs.Machine.{Variables, again, at_pointer, with_brackets, AuthorityState, HostState, PortState}
use Rattle.uv_parser.specs.Machine.{PathStartState, with_host, with_more, with_port, port_in, is_special}
use Rattle.uv_parser.proofs.Loops.AuthorityLoops.{IsDelimiter, IsRead, authority_law, digit_letter, host_law}
use Rattle.uv_parser.proofs.Loops.AuthorityLoops.{host_row_end, host_row_port, is_authority_letter, port_law}
use Rattle.uv_parser.proofs.Loops.AuthorityLoops.{port_row_end}
use Rattle.uv_parser.proofs.Loops.PathLoops.{walking}
use Rattle.uv_parser.proofs.Loops.PathStarts.{path_start_ends}
use Rattle.uv_model.proofs.SchemeLemmas.{default_port-lowercase}
use Rattle.uv_parser.proofs.Loops.SchemeStretch.{scheme_variables}
use Rattle.uv_parser.proofs.Running.Steps.{Ends, Reaches, ends_after, ends_again, ends_step}
use Rattle.uv_parser.proofs.Loops.Tails.{tail, with_tail}
use Rattle.uv_parser.proofs.Running.RunsStopped.{place_cases}

-- the variables after the authority
abbrev pub hosted : List ℕ → Host → Option ℕ → Variables
hosted scheme value port = with_port port (with_host (Some value) (scheme_variables scheme))

-- a path after an authority, or what follows where there is none, begins with a delimiter
pub delimits : (segments : List (List ℕ)) (path : List ℕ) (query fragment : Option (List ℕ))
    → MayBePathSlashed segments path
    → IsDelimiter (at_pointer (path ++ tail query fragment))
delimits segments path (Some query) fragment (inl none) = rw none.0 tt
delimits segments path None (Some fragment) (inl none) = rw none.0 tt
delimits segments path None None (inl none) = rw none.0 tt
delimits segments path query fragment (inr after) = rw after.slashed tt

-- the port that the machine gives is the one that is denoted
port_is_given : (scheme text : List ℕ) → port_in (lowercase scheme) text ≡ port_given (default_port scheme) (Some text)
port_is_given scheme [] = refl
port_is_given scheme (digit ∷ rest) =
    elim (place_cases (default_port scheme)) [
      | inl none ↦ rw (default_port-lowercase scheme, none) refl
      | inr (port, some) ↦ rw (default_port-lowercase scheme, some) refl
    ]

-- a host and a port are read as an authority
pub authority_letters : (special : Bool) (host : List ℕ) (port : Option (List ℕ)) → IsRead special host
    → MayBePortText port
    → list_all (is_authority_letter special) (host ++ written_after colon port) ≡ true
authority_letters special host None read fits = rw (append-nil host) read.letters
authority_letters special host (Some port) read fits =
    list_all-append (is_authority_letter special) host (colon ∷ port)
    ∙ and_from _ _ read.letters (digits port fits.digits)
  where
    digits : (text : List ℕ) → list_all is_ascii_digit text ≡ true → list_all (is_authority_letter special) text ≡ true
    digits [] is = refl
    digits (c ∷ rest) is =
        let parts = and_parts (is_ascii_digit c) (list_all is_ascii_digit rest) is in
        and_from _ _ (digit_letter special c parts.0) (digits rest parts.1)

-- What is after the authority: a path of segments or none, a query and a fragment.
pub record After (segments : List (List ℕ)) (path_text : List ℕ)
    (query_text fragment_text : Option (List ℕ)) : Type 0 where
  pub path : MayBePathSlashed segments path_text
  pub query : MayBeUnits query_text
  pub fragment : MayBeUnits fragment_text

-- The host text is read and parsed as this value, and is empty only when the URL isn't special and no port follows.
-- Before a port it ends outside brackets.
pub record IsParsed (scheme host : List ℕ) (port_text : Option (List ℕ)) (value : Host) : Type 0 where
  pub read : IsRead (is_special (lowercase scheme)) host
  pub parsed : parse_host (is_special (lowercase scheme)) host ≡ Some value
  pub stands : ((length host == 0) && is_special (lowercase scheme)) ≡ false
  pub some : (port_text ≡ None) ⊎ (((length host == 0) ≡ false) × (is_within_at_end false host ≡ false))
  pub port : MayBePortText port_text

-- the URL at the end of a text with this authority and what is after it
abbrev pub authority_url : List ℕ → Host → Option ℕ → List (List ℕ) → Option (List ℕ) → Option (List ℕ) → Url
authority_url scheme value port segments query fragment =
    with_tail query fragment
    (walking (authority_path (scheme_class (lowercase scheme)) segments) (hosted scheme value port))

-- the URL at the end is the same with the flag for brackets set and cleared
same_tail : (within : Bool) (query fragment : Option (List ℕ)) (v : Variables)
    → with_tail query fragment (with_brackets within v) ≡ with_tail query fragment v
same_tail within None fragment v = refl
same_tail within (Some text) fragment v = refl

module _ (base : Option Url) (scheme : List ℕ) (value : Host) (segments : List (List ℕ)) (path : List ℕ)
    (query fragment : Option (List ℕ)) (after : After segments path query fragment) where
  -- what follows the authority
  rest : List ℕ
  rest = path ++ tail query fragment

  -- from after the authority to the end
  rest_ends : (within : Bool) (port : Option ℕ)
      → Ends base PathStartState (with_brackets within (hosted scheme value port)) rest
      (authority_url scheme value port segments query fragment)
  unfolding rest
  rest_ends within port =
      subst
      (λ (u : Url). Ends base PathStartState (with_brackets within (hosted scheme value port)) (path ++ tail query
      fragment) u)
      (same_tail within query fragment
      (walking (authority_path (scheme_class (lowercase scheme)) segments) (hosted scheme value port)))
      (path_start_ends base query fragment after.query after.fragment segments path
      (with_brackets within (hosted scheme value port)) after.path)

  -- from the port to the end
  port_ends : (port : List ℕ) → MayBePortText (Some port)
      → Ends base PortState (with_host (Some value) (scheme_variables scheme)) (port ++ rest)
      (authority_url scheme value (port_given (default_port scheme) (Some port)) segments query fragment)
  unfolding rest
  port_ends port fits =
      let small : nat_lt 65535 (digits_value 10 port) ≡ false = le-ltb 65535 (digits_value 10 port) fits.range in
      let variables = with_more port (with_host (Some value) (scheme_variables scheme)) in
      ends_after base (port_law base port rest (with_host (Some value) (scheme_variables scheme)) fits.digits)
      (ends_again base
      (λ p. port_row_end variables (at_pointer rest) (delimits segments path query fragment after.path) small
      ∙ ap (λ o. again PathStartState (hosted scheme value o)) (port_is_given scheme port))
      (rest_ends false (port_given (default_port scheme) (Some port))))

  -- from the host to the end
  host_ends : (host : List ℕ) (port : Option (List ℕ)) → IsParsed scheme host port value
      → Ends base HostState (scheme_variables scheme) (host ++ (written_after colon port ++ rest))
      (authority_url scheme value (port_given (default_port scheme) port) segments query fragment)
  unfolding rest
  host_ends host None is =
      let within = is_within_at_end false host in
      ends_after base (host_law base (is_special (lowercase scheme)) false host rest (scheme_variables scheme) refl
      is.read.read)
      (ends_again base
      (λ p. host_row_end value (with_more host (with_brackets within (scheme_variables scheme))) (at_pointer rest)
      (delimits segments path query fragment after.path) is.stands is.parsed)
      (rest_ends within None))
  host_ends host (Some port) is =
      let some : ((length host == 0) ≡ false) × (is_within_at_end false host ≡ false)
      = ⊎_elim (λ e. absurd cc) (λ e. e) is.some in
      let law : Reaches base HostState (scheme_variables scheme) (host ++ (colon ∷ (port ++ rest)))
      HostState (with_more host (scheme_variables scheme)) (colon ∷ (port ++ rest))
      = rw some.1 at (host_law base (is_special (lowercase scheme)) false host (colon ∷ (port ++ rest))
      (scheme_variables scheme) refl is.read.read) in
      ends_after base law
      (ends_step base
      (λ p. host_row_port base value (port ++ rest) (with_more host (scheme_variables scheme)) p refl some.0 is.parsed)
      (port_ends port is.port))

  -- from the start of the authority to the end
  pub authority_ends : (host : List ℕ) (port : Option (List ℕ)) → IsParsed scheme host port value
      → Ends base AuthorityState (scheme_variables scheme)
      ((host ++ written_after colon port) ++ (path ++ tail query fragment))
      (authority_url scheme value (port_given (default_port scheme) port) segments query fragment)
  unfolding rest
  authority_ends host port is =
      ends_after base
      (authority_law base (is_special (lowercase scheme)) (host ++ written_after colon port) rest
      (scheme_variables scheme)
      refl (authority_letters (is_special (lowercase scheme)) host port is.read is.port) (delimits segments path query
      fragment after.path))
      (rw (append_assoc host (written_after colon port) rest) (host_ends host port is))
