-- An authority of a URL whose scheme isn't `file`: its host and its port are taken, or the parser machine stops.
use Rattle.std.proofs.Common.{◌≡◌, ℕ, Bool, true, false, not, ◌&&◌, ◌||◌, ◌==◌, ◌⊎◌, List, [], ◌∷◌, ◌++◌, length}
use Rattle.std.proofs.Common.{Option, Some, None, refl, sym, ◌∙◌, inl, inr, lt-ltb, le-ltb, append_assoc, append-nil}
use Rattle.std.specs.Prelude.{nat_lt}
use Rattle.std.specs.List.{list_all}
use Rattle.std.specs.Char.{is_ascii_digit}
use Rattle.std.specs.Str.Parse.{digits_value}
use Rattle.std.proofs.lemmas.Bool.{and_parts, cases_Bool, cases_lt, true≢false}
use Rattle.std.proofs.lemmas.List.Folds.{list_all-append}
use Rattle.uv_model.specs.declared.host.Host.{Host}
use Rattle.uv_model.specs.Ascii.{slash, colon, question_mark, number_sign, at_sign, backslash}
use Rattle.uv_model.specs.Cut.{EndsAtPort, is_within_at_end}
use Rattle.uv_parser.specs.HostParser.{parse_host}
use Rattle.uv_parser.specs.Machine.{Variables, AtPointer, end, slash_mark, query_mark, fragment_mark, another}
use Rattle.uv_parser.specs.Machine.{at_pointer, turn, stop, AuthorityState, HostState, PortState, PathStartState}
use Rattle.uv_parser.specs.Machine.{emptied, host_at, is_special, port_at, port_in, with_brackets, with_host, with_more}
use Rattle.uv_parser.specs.Machine.{with_port}
use Rattle.uv_model.specs.Parts.{written_after}
use Rattle.uv_model.specs.Path.{is_without}
use Rattle.uv_model.specs.Records.Url.{Url}
use Rattle.uv_model.specs.Valid.{IsPortText, MayBePortText}
use Rattle.uv_parser.proofs.Loops.AuthorityLoops.{IsDelimiter, authority_law, authority_row_on, host_law, host_row_end}
use Rattle.uv_parser.proofs.Loops.AuthorityLoops.{host_row_port, is_authority_letter, is_read_as_host, letter, port_law}
use Rattle.uv_parser.proofs.Loops.AuthorityLoops.{port_row_end, port_row_on}
use Rattle.uv_model.proofs.Cuts.AuthorityCutLemmas.{ends_from_start}
use Rattle.uv_parser.proofs.Done.DoneAuthority.{reads_from}
use Rattle.uv_parser.proofs.Loops.FileHosts.{and_true-right}
use Rattle.uv_parser.proofs.HostParsing.HostParserLemmas.{has_some}
use Rattle.uv_model.proofs.Texts.MarkLemmas.{is_without-more, is_without-parts, is_without-cons}
use Rattle.uv_parser.proofs.Running.Steps.{Stops, ends_again, ends_after, stops_here, ends_step}

-- a text without the three marks that end an authority
pub record IsUnended (text : List ℕ) : Type 0 where
  pub no_slash : is_without slash text ≡ true
  pub no_question_mark : is_without question_mark text ≡ true
  pub no_number_sign : is_without number_sign text ≡ true

-- its first code point isn't such a mark, and the rest holds none
pub unended_after : (c : ℕ) (cs : List ℕ) → IsUnended (c ∷ cs)
    → ((c == slash) ≡ false) × ((c == question_mark) ≡ false) × ((c == number_sign) ≡ false) × IsUnended cs
unended_after c cs is =
    let a = is_without-cons slash c cs is.no_slash in
    let b = is_without-cons question_mark c cs is.no_question_mark in
    let d = is_without-cons number_sign c cs is.no_number_sign in
    (a.0, b.0, d.0, record { no_slash = a.1; no_question_mark = b.1; no_number_sign = d.1 })

-- a port holds none of these marks where the authority holds none
unended_port : (host port : List ℕ) → IsUnended (host ++ (colon ∷ port)) → IsUnended port
unended_port host port is = record {
  no_slash = (is_without-parts slash (host ++ (colon ∷ [])) port
      (rw (append_assoc host (colon ∷ []) port) is.no_slash)).1;
  no_question_mark = (is_without-parts question_mark (host ++ (colon ∷ [])) port
      (rw (append_assoc host (colon ∷ []) port) is.no_question_mark)).1;
  no_number_sign = (is_without-parts number_sign (host ++ (colon ∷ [])) port
      (rw (append_assoc host (colon ∷ []) port) is.no_number_sign)).1;
}

-- ---- rows that stop

port_row_large : (v : Variables) (s : AtPointer) → IsDelimiter s → nat_lt 65535 (digits_value 10 v.buffer) ≡ true
    → port_at v s ≡ stop
port_row_large v end is large = rw large refl
port_row_large v slash_mark is large = rw large refl
port_row_large v query_mark is large = rw large refl
port_row_large v fragment_mark is large = rw large refl
port_row_large v (another c) is large = absurd is

host_row_empty : (v : Variables) (s : AtPointer) → IsDelimiter s
    → ((length v.buffer == 0) && is_special v.url.scheme) ≡ true
    → host_at v s ≡ stop
host_row_empty v end is empty = rw empty refl
host_row_empty v slash_mark is empty = rw empty refl
host_row_empty v query_mark is empty = rw empty refl
host_row_empty v fragment_mark is empty = rw empty refl
host_row_empty v (another c) is empty = absurd is

host_row_none : (v : Variables) (s : AtPointer) → IsDelimiter s
    → ((length v.buffer == 0) && is_special v.url.scheme) ≡ false
    → parse_host (is_special v.url.scheme) v.buffer ≡ None → host_at v s ≡ stop
host_row_none v end is some none = rw (some, none) refl
host_row_none v slash_mark is some none = rw (some, none) refl
host_row_none v query_mark is some none = rw (some, none) refl
host_row_none v fragment_mark is some none = rw (some, none) refl
host_row_none v (another c) is some none = absurd is

-- a code point of an authority that isn't a letter of one is `@`, or of a special URL `\`
stopping : (special : Bool) (c : ℕ) → (c == slash) ≡ false → (c == question_mark) ≡ false
    → (c == number_sign) ≡ false → is_authority_letter special c ≡ false
    → ((c == at_sign) || ((c == backslash) && special)) ≡ true
stopping special c a b d fault =
    neither (c == at_sign) ((c == backslash) && special) (rw (a, b, d) at fault)
  where
    neither : (x y : Bool) → (not x && not y) ≡ false → (x || y) ≡ true
    neither true y e = refl
    neither false true e = refl
    neither false false e = absurd (true≢false e)

-- a host, or none
pub host_cases : (o : Option Host) → (o ≡ None) ⊎ ((value : Host) × (o ≡ Some value))
host_cases None = inl refl
host_cases (Some value) = inr (value, refl)

-- The host text is parsed, no port follows an empty one, and the port is a valid one.
pub record IsHostTaken (special : Bool) (host : List ℕ) (port : Option (List ℕ)) : Type 0 where
  pub value : Host
  pub parsed : parse_host special host ≡ Some value
  pub alone : host ≡ [] → port ≡ None
  pub port_text : MayBePortText port

module _ (base : Option Url) where
  -- ---- the port

  -- a port with another code point than a digit stops
  port_stops : (cs rest : List ℕ) (v : Variables) → list_all is_ascii_digit cs ≡ false → IsUnended cs
      → Stops base PortState v (cs ++ rest)
  port_stops [] rest v foreign is = absurd (true≢false foreign)
  port_stops (c ∷ cs) rest v foreign is =
      let (a, b, d, later) = unended_after c cs is in
      elim (cases_Bool (is_ascii_digit c)) [
        | inl digit ↦
            ends_step base (λ p. port_row_on base c (cs ++ rest) v p digit)
            (port_stops cs rest _ (rw digit at foreign) later)
        | inr other ↦
            let row : (p : ℕ) → turn base PortState p v (c ∷ (cs ++ rest)) ≡ stop
            = λ p. simp (a, b, d, other) refl in
            stops_here base row
      ]

  -- from the port on
  port_decided : (A : Type 0) (port rest : List ℕ) (v : Variables) → IsUnended port
      → IsDelimiter (at_pointer rest)
      → ((g : Variables) → g.url.scheme ≡ v.url.scheme → A ⊎ Stops base PathStartState g rest)
      → (IsPortText port × A) ⊎ Stops base PortState (emptied v) (port ++ rest)
  port_decided A port rest v is ends next =
      elim (cases_Bool (list_all is_ascii_digit port)) [
        | inl digits ↦ elim (cases_lt 65535 (digits_value 10 port)) [
          | inl large ↦ inr
              (ends_after base (port_law base port rest (emptied v) digits)
              (stops_here base
              (λ p. port_row_large (with_more port (emptied v)) (at_pointer rest) ends
              (lt-ltb 65535 (digits_value 10 port) large))))
          | inr small ↦ elim (next (with_port (port_in v.url.scheme port) (emptied v)) refl) [
            | inl fine ↦ inl (record { digits = digits; range = small }, fine)
            | inr stops ↦ inr
                (ends_after base (port_law base port rest (emptied v) digits)
                (ends_again base
                (λ p. port_row_end (with_more port (emptied v)) (at_pointer rest) ends
                (le-ltb 65535 (digits_value 10 port) small)) stops))
          ]
        ]
        | inr foreign ↦ inr (port_stops port rest (emptied v) foreign is)
      ]

  -- ---- the host

  -- from a host without a port on
  host_alone : (A : Type 0) (special : Bool) (host rest : List ℕ) (v : Variables)
      → is_special v.url.scheme ≡ special
      → is_read_as_host special false host ≡ true → IsDelimiter (at_pointer rest)
      → ((g : Variables) → g.url.scheme ≡ v.url.scheme → A ⊎ Stops base PathStartState g rest)
      → (IsHostTaken special host None × A)
      ⊎ Stops base HostState (with_brackets false (emptied v)) (host ++ rest)
  host_alone A special host rest v class read ends next =
      let variables = with_more host (with_brackets (is_within_at_end false host) (emptied v)) in
      let law = host_law base special false host rest (emptied v) class read in
      elim (cases_Bool ((length host == 0) && is_special v.url.scheme)) [
        | inl empty ↦ inr
            (ends_after base law (stops_here base (λ p. host_row_empty variables (at_pointer rest) ends empty)))
        | inr some ↦ elim (host_cases (parse_host (is_special v.url.scheme) host)) [
          | inl none ↦ inr
              (ends_after base law (stops_here base (λ p. host_row_none variables (at_pointer rest) ends some none)))
          | inr (value, parsed) ↦ elim (next (emptied (with_host (Some value) variables)) refl) [
            | inl fine ↦ inl (
              record { value = value; parsed = rw class at parsed; alone = λ same. refl; port_text = tt },
              fine,
            )
            | inr stops ↦ inr
                (ends_after base law
                (ends_again base (λ p. host_row_end value variables (at_pointer rest) ends some parsed) stops))
          ]
        ]
      ]

  -- from a host with a port on
  host_before_port : (A : Type 0) (special : Bool) (host port rest : List ℕ) (v : Variables)
      → is_special v.url.scheme ≡ special
      → is_read_as_host special false host ≡ true → is_within_at_end false host ≡ false → IsUnended port
      → IsDelimiter (at_pointer rest)
      → ((g : Variables) → g.url.scheme ≡ v.url.scheme → A ⊎ Stops base PathStartState g rest)
      → (IsHostTaken special host (Some port) × A)
      ⊎ Stops base HostState (with_brackets false (emptied v)) (host ++ (colon ∷ (port ++ rest)))
  host_before_port A special [] port rest v class read closed is ends next =
      inr (stops_here base (λ p. refl))
  host_before_port A special (c ∷ cs) port rest v class read closed is ends next =
      let host = c ∷ cs in
      let variables = with_more host (with_brackets (is_within_at_end false host) (emptied v)) in
      let law = host_law base special false host (colon ∷ (port ++ rest)) (emptied v) class read in
      let some = has_some host c cs refl in
      elim (host_cases (parse_host (is_special v.url.scheme) host)) [
        | inl none ↦
            let row : (p : ℕ) → turn base HostState p variables (colon ∷ (port ++ rest)) ≡ stop
            = λ p. rw (closed, some, none) refl in
            inr (ends_after base law (stops_here base row))
        | inr (value, parsed) ↦
            elim (port_decided A port rest (with_host (Some value) variables) is ends next) [
              | inl fine ↦ inl (
                record { value = value; parsed = rw class at parsed; alone = λ same. absurd cc; port_text = fine.0 },
                fine.1,
              )
              | inr stops ↦ inr
                  (ends_after base law
                  (ends_step base (λ p. host_row_port base value (port ++ rest) variables p closed some parsed) stops))
            ]
      ]

  -- ---- the authority

  -- an authority with an `@`, or of a special URL a `\`, stops
  authority_stops : (special : Bool) (cs rest : List ℕ) (v : Variables) → is_special v.url.scheme ≡ special
      → list_all (is_authority_letter special) cs ≡ false → IsUnended cs
      → Stops base AuthorityState v (cs ++ rest)
  authority_stops special [] rest v class fault is = absurd (true≢false fault)
  authority_stops special (c ∷ cs) rest v class fault is =
      let (a, b, d, later) = unended_after c cs is in
      elim (cases_Bool (is_authority_letter special c)) [
        | inl fine ↦
            ends_step base (λ p. authority_row_on base special c (cs ++ rest) v p class fine)
            (authority_stops special cs rest _ class (rw fine at fault) later)
        | inr bad ↦
            let row : (p : ℕ) → turn base AuthorityState p v (c ∷ (cs ++ rest)) ≡ stop
            = λ p. simp (class, a, b, d, stopping special c a b d bad) refl in
            stops_here base row
      ]

  -- from the host on, with a port or without one
  host_decided : (A : Type 0) (special : Bool) (host : List ℕ) (port : Option (List ℕ)) (rest : List ℕ)
      (v : Variables) → is_special v.url.scheme ≡ special → EndsAtPort host port
      → IsUnended (host ++ written_after colon port) → is_read_as_host special false host ≡ true
      → IsDelimiter (at_pointer rest)
      → ((g : Variables) → g.url.scheme ≡ v.url.scheme → A ⊎ Stops base PathStartState g rest)
      → (IsHostTaken special host port × A)
      ⊎ Stops base HostState (with_brackets false (emptied v)) ((host ++ written_after colon port) ++ rest)
  host_decided A special host None rest v class ends is read delimited next =
      elim (host_alone A special host rest v class read delimited next) [
        | inl fine ↦ inl fine
        | inr stops ↦ inr (rw append-nil stops)
      ]
  host_decided A special host (Some port) rest v class ends is read delimited next =
      let after = unended_port host port is in
      elim (host_before_port A special host port rest v class read (ends.ends refl) after delimited next) [
        | inl fine ↦ inl fine
        | inr stops ↦ inr
            (rw (append_assoc host (colon ∷ port) rest)
            stops)
      ]

  -- from the authority on
  pub authority_decided : (A : Type 0) (special : Bool) (host : List ℕ) (port : Option (List ℕ)) (rest : List ℕ)
      (v : Variables) → is_special v.url.scheme ≡ special → EndsAtPort host port
      → IsUnended (host ++ written_after colon port) → IsDelimiter (at_pointer rest)
      → ((g : Variables) → g.url.scheme ≡ v.url.scheme → A ⊎ Stops base PathStartState g rest)
      → ((list_all (is_authority_letter special) host ≡ true) × IsHostTaken special host port × A)
      ⊎ Stops base AuthorityState (with_brackets false (emptied v)) ((host ++ written_after colon port) ++ rest)
  authority_decided A special host port rest v class ends is delimited next =
      let authority = host ++ written_after colon port in
      elim (cases_Bool (list_all (is_authority_letter special) authority)) [
        | inl letters ↦
            let split = and_parts (list_all (is_authority_letter special) host)
            (list_all (is_authority_letter special) (written_after colon port))
            (sym (list_all-append (is_authority_letter special) host (written_after colon port)) ∙ letters) in
            let read = reads_from special false host port (ends_from_start host port ends) split.0 in
            elim (host_decided A special host port rest v class ends is read delimited next) [
              | inl fine ↦ inl (split.0, fine.0, fine.1)
              | inr stops ↦ inr
                  (ends_after base
                  (authority_law base special authority rest (with_brackets false v) class letters delimited) stops)
            ]
        | inr fault ↦ inr (authority_stops special authority rest (with_brackets false (emptied v)) class fault is)
      ]

-- letters of an authority hold no `@`
pub letters_no_at_sign : (special : Bool) (cs : List ℕ) → list_all (is_authority_letter special) cs ≡ true
    → is_without at_sign cs ≡ true
letters_no_at_sign special [] is = refl
letters_no_at_sign special (c ∷ cs) is =
    let parts = and_parts (is_authority_letter special c) (list_all (is_authority_letter special) cs) is in
    let l = letter special c parts.0 in
    is_without-more at_sign c cs l.no_at_sign (letters_no_at_sign special cs parts.1)

-- and of a special URL no `\`
pub letters_no_backslash : (cs : List ℕ) → list_all (is_authority_letter true) cs ≡ true
    → is_without backslash cs ≡ true
letters_no_backslash [] is = refl
letters_no_backslash (c ∷ cs) is =
    let parts = and_parts (is_authority_letter true c) (list_all (is_authority_letter true) cs) is in
    let l = letter true c parts.0 in
    is_without-more backslash c cs (sym (and_true-right (c == backslash)) ∙ l.no_backslash)
    (letters_no_backslash cs parts.1)
