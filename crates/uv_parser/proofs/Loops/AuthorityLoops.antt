-- Laws of the parser machine's loops over an authority, a host and a port, and the rows that end each of them.
use Rattle.std.proofs.Common.{◌≡◌, ℕ, suc, ◌+◌, ◌-◌, Bool, true, false, not, ◌&&◌, ◌==◌, List, [], ◌∷◌, ◌++◌, length}
use Rattle.std.proofs.Common.{drop, Option, Some, refl, sym, ap, ◌∙◌, inl, inr, append_assoc, append-nil, drop-drop}
use Rattle.std.proofs.Common.{add-zero, arith}
use Rattle.std.specs.Prelude.{nat_lt}
use Rattle.std.specs.List.{list_all}
use Rattle.std.specs.Char.{is_ascii_digit}
use Rattle.std.specs.Str.Parse.{digits_value}
use Rattle.std.proofs.lemmas.Bool.{and_parts, cases_Bool, not-true}
use Rattle.std.proofs.lemmas.Bool.Decides.{nat_tests}
use Rattle.std.proofs.Math.Seq.{drop-append_seam}
use Rattle.uv_model.specs.declared.host.Host.{Host}
use Rattle.uv_model.specs.Ascii.{slash, colon, question_mark, number_sign, at_sign, backslash, left_bracket}
use Rattle.uv_model.specs.Ascii.{right_bracket}
use Rattle.uv_model.specs.Cut.{is_within, is_within_at_end, is_port_mark}
use Rattle.uv_parser.specs.HostParser.{parse_host}
use Rattle.uv_model.specs.Records.Url.{Url}
use Rattle.uv_parser.specs.Machine.{Variables, AtPointer, end, slash_mark, query_mark, fragment_mark, another}
use Rattle.uv_parser.specs.Machine.{at_pointer, turn, onward, again, from_place, authority_at, host_at, port_at}
use Rattle.uv_parser.specs.Machine.{port_in, AuthorityState, HostState, PortState, PathStartState, bracketed, put}
use Rattle.uv_parser.specs.Machine.{with_more, emptied, with_brackets, with_host, with_port, is_special}
use Rattle.uv_parser.specs.Run.{step, settle}
use Rattle.uv_parser.proofs.Running.Steps.{at, drop_one, step_at, Leads, leads_none, leads_step, leads_then, Reaches}
use Rattle.uv_parser.proofs.Running.Steps.{reaches_none, onward_then}

-- a code point that neither ends an authority nor stops at it: none of `/ ? # @`, and of a special URL no `\`
abbrev pub is_authority_letter : Bool → ℕ → Bool
is_authority_letter special c =
    not (c == slash) && (not (c == question_mark) && (not (c == number_sign)
    && (not (c == at_sign) && not ((c == backslash) && special))))

-- what such a code point is not
pub record Letter (special : Bool) (c : ℕ) : Type 0 where
  pub no_slash : (c == slash) ≡ false
  pub no_question_mark : (c == question_mark) ≡ false
  pub no_number_sign : (c == number_sign) ≡ false
  pub no_at_sign : (c == at_sign) ≡ false
  pub no_backslash : ((c == backslash) && special) ≡ false

-- a code point of an authority isn't one of these
pub letter : (special : Bool) (c : ℕ) → is_authority_letter special c ≡ true → Letter special c
letter special c is =
    let after_slash = and_parts (not (c == slash)) _ is in
    let after_mark = and_parts (not (c == question_mark)) _ after_slash.1 in
    let after_sign = and_parts (not (c == number_sign)) _ after_mark.1 in
    let after_at = and_parts (not (c == at_sign)) (not ((c == backslash) && special)) after_sign.1 in
    record {
      no_slash = not-true _ after_slash.0;
      no_question_mark = not-true _ after_mark.0;
      no_number_sign = not-true _ after_sign.0;
      no_at_sign = not-true _ after_at.0;
      no_backslash = not-true _ after_at.1;
    }

-- the rest begins with a delimiter, of which one is the end
abbrev pub IsDelimiter : AtPointer → Type 0
IsDelimiter (another c) = ⊥
IsDelimiter _ = Unit {0}

-- the rest from after a stretch on
pub drop_many : (text : List ℕ) (p : ℕ) (cs rest : List ℕ) → drop p text ≡ cs ++ rest → drop (p + length cs) text ≡ rest
drop_many text p cs rest e =
    sym (drop-drop (length cs) p text) ∙ (ap (λ r. drop (length cs) r) e ∙ drop-append_seam cs rest)

-- ---- the authority

-- the authority state takes a code point of an authority
pub authority_row_on : (base : Option Url) (special : Bool) (c : ℕ) (rest : List ℕ) (v : Variables) (p : ℕ)
    → is_special v.url.scheme ≡ special → is_authority_letter special c ≡ true
    → turn base AuthorityState p v (c ∷ rest) ≡ onward AuthorityState (put c v)
authority_row_on base special c rest v p class is =
    let l = letter special c is in
    simp (class, l.no_slash, l.no_question_mark, l.no_number_sign, l.no_at_sign, l.no_backslash) refl

authority_row_end : (p : ℕ) (v : Variables) (s : AtPointer) → IsDelimiter s
    → authority_at p v s ≡ from_place (p - length v.buffer) HostState (emptied v)
authority_row_end p v end is = refl
authority_row_end p v slash_mark is = refl
authority_row_end p v query_mark is = refl
authority_row_end p v fragment_mark is = refl
authority_row_end p v (another c) is = absurd is

module _ (base : Option Url) (text : List ℕ) where
  -- code points of an authority go into the buffer
  pub authority_steps : (special : Bool) (cs rest : List ℕ) (p : ℕ) (v : Variables) → drop p text ≡ cs ++ rest
      → is_special v.url.scheme ≡ special → list_all (is_authority_letter special) cs ≡ true
      → Leads base text (at AuthorityState p v) (length cs) (at AuthorityState (p + length cs) (with_more cs v))
  authority_steps special [] rest p v e class is = rw (add-zero, append-nil v.buffer) (leads_none base text (at
      AuthorityState p v))
  authority_steps special (c ∷ cs) rest p v e class is =
      let parts = and_parts (is_authority_letter special c) (list_all (is_authority_letter special) cs) is in
      let later = authority_steps special cs rest (p + 1) (put c v) (drop_one text p c (cs ++ rest) e) class parts.1 in
      let place : (p + 1) + length cs ≡ p + suc (length cs) = omega arith in
      let one : step base text (record { state = AuthorityState; pointer = p; variables = v })
      ≡ at AuthorityState (p + 1) (put c v)
      = step_at base text AuthorityState p v (c ∷ (cs ++ rest)) e
      ∙ ap (settle p (c ∷ (cs ++ rest))) (authority_row_on base special c (cs ++ rest) v p class parts.0) in
      rw (← place, ← append_assoc v.buffer (c ∷ []) cs) (leads_step base text _ (length cs) _ _ one later)

  -- and before a delimiter the run goes back to their first place, in the host state
  pub authority_back : (special : Bool) (cs rest : List ℕ) (p : ℕ) (v : Variables) → drop p text ≡ cs ++ rest
      → is_special v.url.scheme ≡ special → list_all (is_authority_letter special) cs ≡ true
      → IsDelimiter (at_pointer rest)
      → Leads base text (at AuthorityState p (emptied v)) (length cs + 1) (at HostState p (emptied v))
  authority_back special cs rest p v e class is ends =
      let variables = with_more cs (emptied v) in
      let back : (p + length cs) - length cs ≡ p = omega arith in
      let one : step base text
      (record { state = AuthorityState; pointer = p + length cs; variables = variables }) ≡ at HostState p (emptied v)
      = step_at base text AuthorityState (p + length cs) variables rest (drop_many text p cs rest e)
      ∙ (ap (settle (p + length cs) rest) (authority_row_end (p + length cs) variables (at_pointer rest) ends)
      ∙ ap (λ q. at HostState q (emptied v)) back) in
      leads_then base text _ _ _ (length cs) 1 (authority_steps special cs rest p (emptied v) e class is)
      (leads_step base text _ 0 _ _ one (leads_none base text _))

-- an authority before a delimiter leads to the host state at the authority's first place
pub authority_law : (base : Option Url) (special : Bool) (cs rest : List ℕ) (v : Variables)
    → is_special v.url.scheme ≡ special → list_all (is_authority_letter special) cs ≡ true
    → IsDelimiter (at_pointer rest)
    → Reaches base AuthorityState (emptied v) (cs ++ rest) HostState (emptied v) (cs ++ rest)
authority_law base special cs rest v class is ends = record {
  goes = λ text p e. (p, e, length cs + 1, authority_back base text special cs rest p v e class is ends);
}

-- ---- the host

-- the host state reads the whole text: it has no `:` outside brackets, where the flag says that its start is within
-- them
abbrev pub is_read_as_host : Bool → Bool → List ℕ → Bool
is_read_as_host special within [] = true
is_read_as_host special within (c ∷ rest) =
    is_authority_letter special c && (not (is_port_mark within c) && is_read_as_host special (is_within within c) rest)

-- The authority and host states read the whole text.
pub record IsRead (special : Bool) (text : List ℕ) : Type 0 where
  pub letters : list_all (is_authority_letter special) text ≡ true
  pub read : is_read_as_host special false text ≡ true

-- a bracket sets or clears the flag as it is within brackets or not
pub bracketed_is : (within : Bool) (c : ℕ) (v : Variables)
    → bracketed c (with_brackets within v) ≡ with_brackets (is_within within c) v
bracketed_is within c v =
    elim (cases_Bool (c == left_bracket)) [
      | inl opens ↦ rw opens refl
      | inr not_left ↦
          elim (cases_Bool (c == right_bracket)) [
            | inl closes ↦ rw (not_left, closes) refl
            | inr other ↦ rw (not_left, other) refl
          ]
    ]

host_row_on : (base : Option Url) (special within : Bool) (c : ℕ) (rest : List ℕ) (v : Variables) (p : ℕ)
    → is_special v.url.scheme ≡ special → is_authority_letter special c ≡ true
    → is_port_mark within c ≡ false
    → turn base HostState p (with_brackets within v) (c ∷ rest)
    ≡ onward HostState (put c (with_brackets (is_within within c) v))
host_row_on base special within c rest v p class is mark =
    let l = letter special c is in
    simp (class, l.no_slash, l.no_question_mark, l.no_number_sign, l.no_backslash, mark)
    (ap (λ g. onward HostState (put c g)) (bracketed_is within c v))

-- a host text goes into the buffer
pub host_law : (base : Option Url) (special within : Bool) (cs rest : List ℕ) (v : Variables)
    → is_special v.url.scheme ≡ special → is_read_as_host special within cs ≡ true
    → Reaches base HostState (with_brackets within v) (cs ++ rest)
    HostState (with_more cs (with_brackets (is_within_at_end within cs) v)) rest
host_law base special within [] rest v class is = rw (append-nil v.buffer) (reaches_none base HostState (with_brackets
    within v) rest)
host_law base special within (c ∷ cs) rest v class is =
    let parts = and_parts (is_authority_letter special c) _ is in
    let later = and_parts (not (is_port_mark within c)) (is_read_as_host special (is_within within c) cs) parts.1 in
    rw (← append_assoc v.buffer (c ∷ []) cs)
    (onward_then base (λ p. host_row_on base special within c (cs ++ rest) v p class parts.0 (not-true _ later.0))
    (host_law base special (is_within within c) cs rest (put c v) class later.1))

-- a host that is parsed and isn't empty ends at the `:` of a port
pub host_row_port : (base : Option Url) (value : Host) (rest : List ℕ) (v : Variables) (p : ℕ) → v.in_brackets ≡ false
    → (length v.buffer == 0) ≡ false → parse_host (is_special v.url.scheme) v.buffer ≡ Some value
    → turn base HostState p v (colon ∷ rest) ≡ onward PortState (emptied (with_host (Some value) v))
host_row_port base value rest v p outside some parsed = rw (outside, some, parsed) refl

-- a host that is parsed ends at a delimiter, where a special URL's isn't empty
pub host_row_end : (value : Host) (v : Variables) (s : AtPointer) → IsDelimiter s
    → ((length v.buffer == 0) && is_special v.url.scheme) ≡ false
    → parse_host (is_special v.url.scheme) v.buffer ≡ Some value
    → host_at v s ≡ again PathStartState (emptied (with_host (Some value) v))
host_row_end value v end is stands parsed = rw (stands, parsed) refl
host_row_end value v slash_mark is stands parsed = rw (stands, parsed) refl
host_row_end value v query_mark is stands parsed = rw (stands, parsed) refl
host_row_end value v fragment_mark is stands parsed = rw (stands, parsed) refl
host_row_end value v (another c) is stands parsed = absurd is

-- ---- the port

-- a digit is a code point of an authority
pub digit_letter : (special : Bool) (c : ℕ) → is_ascii_digit c ≡ true → is_authority_letter special c ≡ true
digit_letter true c is = grind (arith, nat_tests)
digit_letter false c is = grind (arith, nat_tests)

-- the port state takes a digit
pub port_row_on : (base : Option Url) (c : ℕ) (rest : List ℕ) (v : Variables) (p : ℕ) → is_ascii_digit c ≡ true
    → turn base PortState p v (c ∷ rest) ≡ onward PortState (put c v)
port_row_on base c rest v p is =
    let l = letter true c (digit_letter true c is) in
    simp (l.no_slash, l.no_question_mark, l.no_number_sign, is) refl

-- digits go into the buffer
pub port_steps : (base : Option Url) (text cs rest : List ℕ) (p : ℕ) (v : Variables) → drop p text ≡ cs ++ rest
    → list_all is_ascii_digit cs ≡ true
    → Leads base text (at PortState p v) (length cs) (at PortState (p + length cs) (with_more cs v))
port_steps base text [] rest p v e is =
    rw (add-zero, append-nil v.buffer) (leads_none base text (at PortState p v))
port_steps base text (c ∷ cs) rest p v e is =
    let parts = and_parts (is_ascii_digit c) (list_all is_ascii_digit cs) is in
    let later = port_steps base text cs rest (p + 1) (put c v) (drop_one text p c (cs ++ rest) e) parts.1 in
    let place : (p + 1) + length cs ≡ p + suc (length cs) = omega arith in
    let one : step base text (record { state = PortState; pointer = p; variables = v }) ≡ at PortState (p + 1) (put c v)
    = step_at base text PortState p v (c ∷ (cs ++ rest)) e
    ∙ ap (settle p (c ∷ (cs ++ rest))) (port_row_on base c (cs ++ rest) v p parts.0) in
    rw (← place, ← append_assoc v.buffer (c ∷ []) cs) (leads_step base text _ (length cs) _ _ one later)

-- and so the run is led after them
pub port_law : (base : Option Url) (cs rest : List ℕ) (v : Variables) → list_all is_ascii_digit cs ≡ true
    → Reaches base PortState v (cs ++ rest) PortState (with_more cs v) rest
port_law base cs rest v is = record {
  goes = λ text p e. (p + length cs, drop_many text p cs rest e, length cs, port_steps base text cs rest p v e is);
}

-- a port of 65535 at most ends at a delimiter
pub port_row_end : (v : Variables) (s : AtPointer) → IsDelimiter s → nat_lt 65535 (digits_value 10 v.buffer) ≡ false
    → port_at v s ≡ again PathStartState (emptied (with_port (port_in v.url.scheme v.buffer) v))
port_row_end v end is small = rw small refl
port_row_end v slash_mark is small = rw small refl
port_row_end v query_mark is small = rw small refl
port_row_end v fragment_mark is small = rw small refl
port_row_end v (another c) is small = absurd is
