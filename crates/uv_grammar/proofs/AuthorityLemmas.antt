-- Lemmas on the `:` of a port in the bytes of an authority and in its code points.
use Rattle.std.proofs.Common.{◌≡◌, ◌≢◌, ℕ, ◌+◌, ◌<◌, ◌≤◌, List, [], ◌∷◌, ◌++◌, Bool, true, false, ◌==◌, take, drop}
use Rattle.std.proofs.Common.{refl, sym, ap, ◌∙◌, inl, inr, arith, Option, Some, None, lit<, ne_eqb, length}
use Rattle.std.proofs.Common.{◌-◌, subst, suc}
use Rattle.std.specs.Prelude.{◌⊎◌, if◌then◌else◌, option_map, slice_range}
use Rattle.std.specs.Str.{chars, IsUtf8, IsCharBoundary}
use Rattle.std.proofs.lemmas.Bool.{cases_lt, cases_Bool, eqb-true, false≢true}
use Rattle.std.proofs.lemmas.List.{drop-drop, get_or-drop, length-drop, length-take, take_all}
use Rattle.std.proofs.lemmas.Str.{encode_ascii, encodes-chars, encodes_same, IsCharBoundary-after_ascii}
use Rattle.std.proofs.Math.Seq.{take-append-add}
use Rattle.std.proofs.Math.Utf8.{encodes, encode}
use Rattle.uv_grammar.specs.TextSplits.{IsFirstMark, IsPortMark, SplitsHost}
use Rattle.uv_grammar.proofs.SliceLemmas.{around}
use Rattle.uv_model.specs.declared.scheme.Class.{Class}
use Rattle.uv_model.specs.declared.scheme.Class.TheVariants.{SpecialNotFile, Other}
use Rattle.uv_model.specs.Hosts.OpaqueHost.{starts_with_bracket}
use Rattle.uv_model.specs.Path.{is_without}
use Rattle.uv_model.proofs.Texts.AsciiLemmas.{AreBeyond, AreBeyond-encode}
use Rattle.uv_model.proofs.Texts.MarkLemmas.{is_without-cons}
use Rattle.uv_model.proofs.Cuts.AuthorityCutLemmas.{host_cut-is, written_host_cut}
use Rattle.uv_model.specs.Ascii.{colon, left_bracket, right_bracket}
use Rattle.uv_model.specs.Cut.{host_before, host_cut, port_cut, is_port_mark, is_within, port_after}
use Rattle.uv_text.proofs.SplitsLemmas.{prefix_slice}

-- a byte beyond ASCII isn't a `:`
no_mark : (within : Bool) (b : ℕ) → 128 ≤ b → is_port_mark within b ≡ false
no_mark within b high = let other : b ≢ colon = omega arith in rw (ne_eqb b colon other) refl

-- a byte beyond ASCII isn't a bracket
no_bracket : (within : Bool) (b : ℕ) → 128 ≤ b → is_within within b ≡ within
no_bracket within b high =
    let left : b ≢ left_bracket = omega arith in
    let right : b ≢ right_bracket = omega arith in
    rw (ne_eqb b left_bracket left, ne_eqb b right_bracket right) refl

host_before-beyond : (within : Bool) (bs rest : List ℕ) → AreBeyond bs
    → host_before within (bs ++ rest) ≡ bs ++ host_before within rest
host_before-beyond within [] rest high = refl
host_before-beyond within (b ∷ bs) rest high =
    rw (no_mark within b high.0, no_bracket within b high.0)
    (ap (λ s. b ∷ s) (host_before-beyond within bs rest high.1))

port_after-beyond : (within : Bool) (bs rest : List ℕ) → AreBeyond bs
    → port_after within (bs ++ rest) ≡ port_after within rest
port_after-beyond within [] rest high = refl
port_after-beyond within (b ∷ bs) rest high =
    rw (no_mark within b high.0, no_bracket within b high.0) (port_after-beyond within bs rest high.1)

host_before-encodes : (within : Bool) (cs : List ℕ) → host_before within (encodes cs) ≡ encodes (host_before within cs)
host_before-encodes within [] = refl
host_before-encodes within (c ∷ cs) =
    elim (cases_lt c 128) [
      | inl small ↦
          rw (encode_ascii c small)
          (host_step (is_port_mark within c) c small _ (host_before-encodes (is_within within c) cs))
      | inr high ↦
          rw (
            host_before-beyond within (encode c) (encodes cs)
                (AreBeyond-encode c high),
            no_mark within c high,
            no_bracket within c high,
          )
          (ap (λ s. encode c ++ s) (host_before-encodes within cs))
    ]
  where
    host_step : (mark : Bool) (c : ℕ) → c < 128 → {xs : List ℕ} (ys : List ℕ) → xs ≡ encodes ys
        → (if mark then [] else c ∷ xs) ≡ encodes (if mark then [] else c ∷ ys)
    host_step true c small ys e = refl
    host_step false c small ys e = rw (encode_ascii c small) (ap (λ s. c ∷ s) e)

port_after-encodes : (within : Bool) (cs : List ℕ)
    → port_after within (encodes cs) ≡ option_map encodes (port_after within cs)
port_after-encodes within [] = refl
port_after-encodes within (c ∷ cs) =
    elim (cases_lt c 128) [
      | inl small ↦
          rw (encode_ascii c small)
          (port_step (is_port_mark within c) cs _ (port_after-encodes (is_within within c) cs))
      | inr high ↦
          rw (
            port_after-beyond within (encode c) (encodes cs)
                (AreBeyond-encode c high),
            no_mark within c high,
            no_bracket within c high,
          )
          (port_after-encodes within cs)
    ]
  where
    port_step : (mark : Bool) (cs : List ℕ) → {xs : Option (List ℕ)} (ys : Option (List ℕ)) → xs ≡ option_map encodes ys
        → (if mark then Some (encodes cs) else xs) ≡ option_map encodes (if mark then Some cs else ys)
    port_step true cs ys e = refl
    port_step false cs ys e = e

-- the code points and the bytes have the same host
pub host_before-chars : (bytes : List ℕ) → IsUtf8 bytes
    → host_before false bytes ≡ encodes (host_before false (chars bytes))
host_before-chars bytes utf8 =
    ap (λ s. host_before false s) (sym (encodes-chars bytes utf8)) ∙ host_before-encodes false (chars bytes)

-- the code points and the bytes have the same port
pub port_after-chars : (bytes : List ℕ) → IsUtf8 bytes
    → port_after false bytes ≡ option_map encodes (port_after false (chars bytes))
port_after-chars bytes utf8 =
    ap (λ s. port_after false s) (sym (encodes-chars bytes utf8)) ∙ port_after-encodes false (chars bytes)

-- ---- the host and the port as slices

-- a text that is absent or of these bytes
option_none : (o : Option (List ℕ)) → None ≡ option_map encodes o → None ≡ o
option_none None same = refl
option_none (Some text) same = absurd cc

option_some : (o : Option (List ℕ)) (bytes : List ℕ) → IsUtf8 bytes → Some bytes ≡ option_map encodes o
    → Some (chars bytes) ≡ o
option_some None bytes utf8 same = absurd cc
option_some (Some text) bytes utf8 same =
    let spelled : encodes (chars bytes) ≡ encodes text = encodes-chars bytes utf8 ∙ cc in
    ap (λ s. Some s) (encodes_same (chars bytes) text spelled)

-- the sides of the `:` of a port
pub host_sides : (bytes prefix after : List ℕ) (end : ℕ) → IsUtf8 bytes → IsUtf8 prefix → IsUtf8 after
    → IsPortMark bytes (Some end) → prefix ≡ slice_range bytes 0 end → after ≡ drop (end + 1) bytes
    → (chars prefix ≡ host_before false (chars bytes)) × (Some (chars after) ≡ port_after false (chars bytes))
host_sides bytes prefix after end utf8 prefix_utf8 after_utf8 mark is_prefix is_after =
    let host : prefix ≡ encodes (host_before false (chars bytes))
    = is_prefix ∙ (prefix_slice bytes end ∙ (sym mark.2 ∙ host_before-chars bytes utf8)) in
    let port : Some after ≡ option_map encodes (port_after false (chars bytes))
    = ap (λ s. Some s) is_after ∙ (sym mark.3 ∙ port_after-chars bytes utf8) in (
      encodes_same (chars prefix) (host_before false (chars bytes)) (encodes-chars prefix prefix_utf8 ∙ host),
      option_some (port_after false (chars bytes)) after after_utf8 port,
    )

-- the whole authority, if no `:` of a port is there
pub host_alone : (bytes : List ℕ) → IsUtf8 bytes → IsPortMark bytes None
    → (chars bytes ≡ host_before false (chars bytes)) × (None ≡ port_after false (chars bytes))
host_alone bytes utf8 mark =
    let host : bytes ≡ encodes (host_before false (chars bytes)) = sym mark.0 ∙ host_before-chars bytes utf8 in (
      encodes_same (chars bytes) (host_before false (chars bytes)) (encodes-chars bytes utf8 ∙ host),
      option_none (port_after false (chars bytes)) (sym mark.1 ∙ port_after-chars bytes utf8),
    )

-- after the `:` of a port the authority may be cut
pub mark_boundary : (bytes : List ℕ) (end : ℕ) → IsUtf8 bytes → IsPortMark bytes (Some end)
    → IsCharBoundary bytes (end + 1)
mark_boundary bytes end utf8 mark =
    IsCharBoundary-after_ascii bytes end utf8 mark.0 (rw mark.1 (lit< tt))

-- ---- the host and the port by the class

-- a host and a port as the class has them
pub splits_host : (class : Class) (authority host : List ℕ) (port : Option (List ℕ)) → host ≡ host_cut class authority
    → port ≡ port_cut class authority → SplitsHost class authority host port
splits_host class authority host port is_host is_port =
    rw (is_host, is_port) (record { joined = written_host_cut class authority; host = host_cut-is class authority })

-- the class isn't File
pub splits_before_port : (class : Class) (authority host : List ℕ) (port : Option (List ℕ))
    → ((class ≡ SpecialNotFile) ⊎ (class ≡ Other)) → host ≡ host_before false authority
    → port ≡ port_after false authority → SplitsHost class authority host port
splits_before_port class authority host port (inl same) is_host is_port =
    rw same (splits_host SpecialNotFile authority host port is_host is_port)
splits_before_port class authority host port (inr same) is_host is_port =
    rw same (splits_host Other authority host port is_host is_port)

-- without a `:` there is no port
pub no_port : (bytes : List ℕ) → is_without colon bytes ≡ true → IsPortMark bytes None
no_port bytes none = (whole false bytes none, nothing false bytes none)
  where
    whole : (within : Bool) (text : List ℕ) → is_without colon text ≡ true → host_before within text ≡ text
    whole within [] none = refl
    whole within (c ∷ rest) none =
        let parts = is_without-cons colon c rest none in
        rw parts.0 (ap (λ r. c ∷ r) (whole (is_within within c) rest parts.1))

    nothing : (within : Bool) (text : List ℕ) → is_without colon text ≡ true → port_after within text ≡ None
    nothing within [] none = refl
    nothing within (c ∷ rest) none =
        let parts = is_without-cons colon c rest none in
        rw parts.0 (nothing (is_within within c) rest parts.1)

-- the first `:` begins a port if no `[` is before it
pub first_port : (bytes : List ℕ) (end : ℕ) → IsFirstMark colon bytes (Some end)
    → is_without left_bracket (take end bytes) ≡ true → IsPortMark bytes (Some end)
first_port bytes end first none =
    let sides = before (take end bytes) (drop (end + 1) bytes) first.2 none in
    let whole = around bytes end colon first.0 first.1 in
    (first.0, first.1, ap (host_before false) whole ∙ sides.0, ap (port_after false) whole ∙ sides.1)
  where
    outside : (c : ℕ) → (c == left_bracket) ≡ false → is_within false c ≡ false
    outside c other = elim (cases_Bool (c == right_bracket)) [
      | inl same ↦ rw (other, same) refl
      | inr more ↦ rw (other, more) refl
    ]

    before : (prefix rest : List ℕ) → is_without colon prefix ≡ true → is_without left_bracket prefix ≡ true
        → (host_before false (prefix ++ colon ∷ rest) ≡ prefix)
        × (port_after false (prefix ++ colon ∷ rest) ≡ Some rest)
    before [] rest none closed = (refl, refl)
    before (c ∷ prefix) rest none closed =
        let marks = is_without-cons colon c prefix none in
        let brackets = is_without-cons left_bracket c prefix closed in
        let more = before prefix rest marks.1 brackets.1 in
        rw (marks.0, outside c brackets.0) (ap (λ s. c ∷ s) more.0, more.1)

-- ---- an authority that begins with `[`

-- within brackets no `:` begins a port
no_mark_within : (c : ℕ) → is_port_mark true c ≡ false
no_mark_within c = elim (cases_Bool (c == colon)) [ inl same ↦ rw same refl | inr other ↦ rw other refl ]

-- only `]` ends them
still_within : (c : ℕ) → (c == right_bracket) ≡ false → is_within true c ≡ true
still_within c other = elim (cases_Bool (c == left_bracket)) [
  | inl same ↦ rw same refl
  | inr more ↦ rw (more, other) refl
]

-- the search within brackets that aren't closed
within_to_end : (text : List ℕ) → is_without right_bracket text ≡ true
    → (host_before true text ≡ text) × (port_after true text ≡ None)
within_to_end [] none = (refl, refl)
within_to_end (c ∷ rest) none =
    let parts = is_without-cons right_bracket c rest none in
    let more = within_to_end rest parts.1 in
    rw (no_mark_within c, still_within c parts.0) (ap (λ s. c ∷ s) more.0, more.1)

-- the search within brackets up to the first `]`
within_to_bracket : (prefix rest : List ℕ) → is_without right_bracket prefix ≡ true
    → (host_before true (prefix ++ right_bracket ∷ rest) ≡ prefix ++ right_bracket ∷ host_before false rest)
    × (port_after true (prefix ++ right_bracket ∷ rest) ≡ port_after false rest)
within_to_bracket [] rest none = (refl, refl)
within_to_bracket (c ∷ prefix) rest none =
    let parts = is_without-cons right_bracket c prefix none in
    let more = within_to_bracket prefix rest parts.1 in
    rw (no_mark_within c, still_within c parts.0) (ap (λ s. c ∷ s) more.0, more.1)

-- without a `]` no port follows a `[`
pub no_port_in_brackets : (bytes : List ℕ) → starts_with_bracket bytes ≡ true → is_without right_bracket bytes ≡ true
    → IsPortMark bytes None
no_port_in_brackets [] starts none = absurd (false≢true starts)
no_port_in_brackets (c ∷ rest) starts none =
    let parts = is_without-cons right_bracket c rest none in
    let more = within_to_end rest parts.1 in
    rw (eqb-true c left_bracket starts) (ap (λ s. left_bracket ∷ s) more.0, more.1)

-- a slice from a place to the end
pub from_place : (place : ℕ) (bytes : List ℕ) → take (length bytes - place) (drop place bytes) ≡ drop place bytes
from_place place bytes =
    take_all (length bytes - place) (drop place bytes) (let size = length-drop place bytes in omega (arith, size))

-- after the first `]` the search begins again
anew_after_bracket : (prefix rest : List ℕ) → starts_with_bracket (prefix ++ right_bracket ∷ rest) ≡ true
    → is_without right_bracket prefix ≡ true
    → (host_before false (prefix ++ right_bracket ∷ rest) ≡ prefix ++ right_bracket ∷ host_before false rest)
    × (port_after false (prefix ++ right_bracket ∷ rest) ≡ port_after false rest)
anew_after_bracket [] rest starts none = absurd (false≢true starts)
anew_after_bracket (c ∷ prefix) rest starts none =
    let parts = is_without-cons right_bracket c prefix none in
    let more = within_to_bracket prefix rest parts.1 in
    rw (eqb-true c left_bracket starts) (ap (λ s. left_bracket ∷ s) more.0, more.1)

module _ (bytes : List ℕ) (end : ℕ) (starts : starts_with_bracket bytes ≡ true)
    (first : IsFirstMark right_bracket bytes (Some end)) where
  -- what is after the first `]`
  abbrev pub rest : List ℕ
  rest = drop (end + 1) bytes

  whole : bytes ≡ take end bytes ++ right_bracket ∷ rest
  whole = around bytes end right_bracket first.0 first.1

  sides : (host_before false bytes ≡ take end bytes ++ right_bracket ∷ host_before false rest)
      × (port_after false bytes ≡ port_after false rest)
  sides =
      let both = anew_after_bracket (take end bytes) rest
      (subst (λ (s : List ℕ). starts_with_bracket s ≡ true) whole starts) first.2 in
      (ap (host_before false) whole ∙ both.0, ap (port_after false) whole ∙ both.1)

  -- no port follows the first `]`
  pub no_port_after_bracket : IsPortMark rest None → IsPortMark bytes None
  no_port_after_bracket none =
      (sides.0 ∙ (ap (λ s. take end bytes ++ right_bracket ∷ s) none.0 ∙ sym whole), sides.1 ∙ none.1)

  -- a port follows it
  pub port_after_bracket : (place : ℕ) → IsPortMark rest (Some place) → IsPortMark bytes (Some (end + 1 + place))
  port_after_bracket place mark =
      let size = length-take end bytes in
      let left = length-drop (end + 1) bytes in
      let further : length (take end bytes) + suc place ≡ end + 1 + place = omega (arith, size, first.0) in
      let before : take end bytes ++ right_bracket ∷ take place rest ≡ take (end + 1 + place) bytes
      = sym (take-append-add (take end bytes) (right_bracket ∷ rest) (suc place))
      ∙ (ap (λ n. take n (take end bytes ++ right_bracket ∷ rest)) further
      ∙ ap (take (end + 1 + place)) (sym whole)) in
      let after : drop (place + 1) rest ≡ drop (end + 1 + place + 1) bytes
      = drop-drop (place + 1) (end + 1) bytes ∙ ap (λ n. drop n bytes) (omega arith) in (
        omega (arith, mark.0, left, first.0),
        sym (get_or-drop (end + 1) bytes place 0) ∙ mark.1,
        sides.0 ∙ (ap (λ s. take end bytes ++ right_bracket ∷ s) mark.2 ∙ before),
        sides.1 ∙ (mark.3 ∙ ap (λ s. Some s) after),
      )
