-- The parts of a cut text in its bytes.
use Rattle.std.proofs.Common.{◌≡◌, ◌≢◌, ℕ, ◌+◌, ◌-◌, ◌≤◌, ◌<◌, lit<, List, [], ◌∷◌, ◌++◌, length, refl, sym, ap, ◌∙◌}
use Rattle.std.proofs.Common.{arith, append-nil, true, false, subst, ne_eqb}
use Rattle.std.specs.Prelude.{◌==◌, Option, Some, None, slice_range}
use Rattle.std.specs.Str.{IsCharBoundary, IsUtf8, all_scalars, chars, encode_utf8_all}
use Rattle.std.proofs.lemmas.Bool.{and_from, and_parts}
use Rattle.std.proofs.lemmas.Str.{IsCharBoundary-at_seam, IsUtf8-append, IsUtf8-nil, chars-encodes, encode_ascii}
use Rattle.std.proofs.lemmas.Str.{encodes-append}
use Rattle.std.proofs.lemmas.Str.{encodes-chars, scalars-chars}
use Rattle.std.proofs.lemmas.List.{append_assoc, length-append}
use Rattle.std.proofs.Math.Seq.{drop-append_seam, take-append_seam}
use Rattle.uv_model.specs.Ascii.{colon, number_sign, question_mark, slash}
use Rattle.uv_model.specs.Cut.{Cut, IsAuthorityCut, IsCut, class_in, written_cut}
use Rattle.uv_model.specs.Cut.{written_middle, written_prefix, written_start}
use Rattle.uv_model.specs.declared.scheme.Class.{Class}
use Rattle.uv_model.specs.Parts.{written_after, written_authority, written_scheme}
use Rattle.uv_model.specs.Records.Url.{Url}
use Rattle.uv_model.proofs.Violations.ViolationLemmas.{cut_with}
use Rattle.uv_grammar.specs.Ends.{AreEnds, IsRange, MayBePart, cut_at, end_of_host, end_of_path, end_of_port}
use Rattle.uv_grammar.specs.Ends.{end_of_query, end_of_scheme, ends_of, extent, part_between, scheme_before}
use Rattle.uv_grammar.specs.Ends.{whole_extent}

-- what the code points of a slice take in bytes
pub encoded_length : (bytes : List ℕ) → IsUtf8 bytes → length (encode_utf8_all (chars bytes)) ≡ length bytes
encoded_length bytes utf8 = ap length (encodes-chars bytes utf8)

-- ---- parts in bytes

-- a part in bytes after its delimiter
abbrev pub piece : List ℕ → Option (List ℕ) → List ℕ
piece mark None = []
piece mark (Some part) = mark ++ encode_utf8_all part

-- a scheme in bytes with its `:`
abbrev pub scheme_piece : Option (List ℕ) → List ℕ
scheme_piece None = []
scheme_piece (Some part) = encode_utf8_all part ++ (58 ∷ [])

-- an ASCII code point is its byte
ascii_first : (c : ℕ) (rest : List ℕ) → c < 128 → encode_utf8_all (c ∷ rest) ≡ c ∷ encode_utf8_all rest
ascii_first c rest small = ap (λ e. e ++ encode_utf8_all rest) (encode_ascii c small)

authority_first : (rest : List ℕ) → encode_utf8_all (47 ∷ 47 ∷ rest) ≡ 47 ∷ 47 ∷ encode_utf8_all rest
authority_first rest = ascii_first 47 (47 ∷ rest) (lit< tt) ∙ ap (λ t. 47 ∷ t) (ascii_first 47 rest (lit< tt))

scheme_bytes : (scheme : Option (List ℕ)) → encode_utf8_all (written_scheme scheme) ≡ scheme_piece scheme
scheme_bytes None = refl
scheme_bytes (Some scheme) =
    encodes-append scheme (58 ∷ []) ∙ ap (λ t. encode_utf8_all scheme ++ t) (ascii_first 58 [] (lit< tt))

authority_bytes : (host port : Option (List ℕ)) → (host ≡ None → port ≡ None)
    → encode_utf8_all (written_authority host port) ≡ piece (47 ∷ 47 ∷ []) host ++ piece (58 ∷ []) port
authority_bytes None None only = refl
authority_bytes None (Some port) only = absurd (let e = only refl in cc)
authority_bytes (Some host) None only =
    authority_first (host ++ []) ∙ ap (λ t. 47 ∷ 47 ∷ t) (encodes-append host [])
authority_bytes (Some host) (Some port) only =
    authority_first (host ++ 58 ∷ port) ∙ ap (λ t. 47 ∷ 47 ∷ t)
    (encodes-append host (58 ∷ port) ∙ ap (λ t. encode_utf8_all host ++ t) (ascii_first 58 port (lit< tt)))

query_bytes : (query : Option (List ℕ)) → encode_utf8_all (written_after 63 query) ≡ piece (63 ∷ []) query
query_bytes None = refl
query_bytes (Some query) = ascii_first 63 query (lit< tt)

fragment_bytes : (fragment : Option (List ℕ)) → encode_utf8_all (written_after 35 fragment) ≡ piece (35 ∷ []) fragment
fragment_bytes None = refl
fragment_bytes (Some fragment) = ascii_first 35 fragment (lit< tt)

-- ---- the length of parts

pub scheme_extent : (scheme : Option (List ℕ)) → length (scheme_piece scheme) ≡ extent 1 scheme
scheme_extent None = refl
scheme_extent (Some scheme) = rw (length-append (encode_utf8_all scheme) (58 ∷ [])) (omega arith)

pub piece_extent : (mark : List ℕ) (part : Option (List ℕ)) → length (piece mark part) ≡ extent (length mark) part
piece_extent mark None = refl
piece_extent mark (Some part) = length-append mark (encode_utf8_all part)

-- ---- the code points of parts

scalars_both : (xs ys : List ℕ) → all_scalars (xs ++ ys) ≡ true → (all_scalars xs ≡ true) × (all_scalars ys ≡ true)
scalars_both [] ys all = (refl, all)
scalars_both (c ∷ xs) ys all =
    let first = and_parts _ _ all in
    let more = scalars_both xs ys first.1 in
    (and_from _ _ first.0 more.0, more.1)

-- the code points of a part that may be absent are scalars
abbrev AreScalars : Option (List ℕ) → Type 0
AreScalars None = Unit {0}
AreScalars (Some part) = all_scalars part ≡ true

-- the code points of each part are scalars
record HasScalars (cut : Cut) : Type 0 where
  scheme : AreScalars cut.scheme
  host : AreScalars cut.host_text
  port : cut.host_text ≢ None → AreScalars cut.port_text
  path : all_scalars cut.path_text ≡ true
  query : AreScalars cut.query
  fragment : AreScalars cut.fragment

scheme_scalars : (scheme : Option (List ℕ)) → all_scalars (written_scheme scheme) ≡ true → AreScalars scheme
scheme_scalars None all = tt
scheme_scalars (Some scheme) all = (scalars_both scheme (colon ∷ []) all).0

after_scalars : (mark : ℕ) (part : Option (List ℕ)) → all_scalars (written_after mark part) ≡ true → AreScalars part
after_scalars mark None all = tt
after_scalars mark (Some part) all = (scalars_both (mark ∷ []) part all).1

authority_scalars : (host port : Option (List ℕ)) → all_scalars (written_authority host port) ≡ true
    → AreScalars host × (host ≢ None → AreScalars port)
authority_scalars None port all = (tt, λ some. absurd (some refl))
authority_scalars (Some host) port all =
    let inner = (scalars_both (slash ∷ slash ∷ []) (host ++ written_after colon port) all).1 in
    let both = scalars_both host (written_after colon port) inner in
    (both.0, λ some. after_scalars colon port both.1)

cut_scalars : (cut : Cut) → all_scalars (written_cut cut) ≡ true → HasScalars cut
cut_scalars cut all =
    let prefix = scalars_both (written_prefix cut) (written_after number_sign cut.fragment) all in
    let start = scalars_both (written_start cut) (written_after question_mark cut.query) prefix.0 in
    let scheme = scalars_both (written_scheme cut.scheme) (written_middle cut) start.0 in
    let middle = scalars_both (written_authority cut.host_text cut.port_text) cut.path_text scheme.1 in
    let authority = authority_scalars cut.host_text cut.port_text middle.0 in
    record {
      scheme = scheme_scalars cut.scheme scheme.0;
      host = authority.0;
      port = authority.1;
      path = middle.1;
      query = after_scalars question_mark cut.query start.1;
      fragment = after_scalars number_sign cut.fragment prefix.1;
    }

colon_utf8 : IsUtf8 (58 ∷ [])
colon_utf8 = (58 ∷ [], (refl, ascii_first 58 [] (lit< tt)))

slashes_utf8 : IsUtf8 (47 ∷ 47 ∷ [])
slashes_utf8 = (47 ∷ 47 ∷ [], (refl, authority_first []))

question_mark_utf8 : IsUtf8 (63 ∷ [])
question_mark_utf8 = (63 ∷ [], (refl, ascii_first 63 [] (lit< tt)))

number_sign_utf8 : IsUtf8 (35 ∷ [])
number_sign_utf8 = (35 ∷ [], (refl, ascii_first 35 [] (lit< tt)))

part_utf8 : (part : List ℕ) → all_scalars part ≡ true → IsUtf8 (encode_utf8_all part)
part_utf8 part scalars = (part, (scalars, refl))

piece_utf8 : (mark : List ℕ) (part : Option (List ℕ)) → IsUtf8 mark → AreScalars part → IsUtf8 (piece mark part)
piece_utf8 mark None utf8 scalars = IsUtf8-nil
piece_utf8 mark (Some part) utf8 scalars = IsUtf8-append mark (encode_utf8_all part) utf8 (part_utf8 part scalars)

-- ---- where a part is

pub range_seam : (prefix part back : List ℕ)
    → slice_range (prefix ++ (part ++ back)) (length prefix) (length prefix + length part) ≡ part
range_seam prefix part back =
    let count : length prefix + length part - length prefix ≡ length part = omega arith in
    rw (count, drop-append_seam prefix (part ++ back)) (take-append_seam part back)

-- the text may be cut on both sides of a part
range_there : (bytes prefix part back : List ℕ) → bytes ≡ prefix ++ (part ++ back) → IsUtf8 part → IsUtf8 back
    → IsRange bytes (length prefix) (length prefix + length part)
range_there bytes prefix part back same part_is back_is =
    let seam : bytes ≡ (prefix ++ part) ++ back = same ∙ sym (append_assoc prefix part back) in (
      omega arith,
      IsCharBoundary-at_seam bytes prefix (part ++ back) same (IsUtf8-append part back part_is back_is),
      subst (λ (k : ℕ). IsCharBoundary bytes k) (length-append prefix part)
          (IsCharBoundary-at_seam bytes (prefix ++ part) back seam back_is),
    )

-- and the part is there
record IsThere (bytes : List ℕ) (mark from to : ℕ) (part : Option (List ℕ)) : Type 0 where
  range : MayBePart bytes mark from to
  same : part_between bytes mark from to ≡ part

-- a part after its delimiter
piece_there : (bytes prefix mark : List ℕ) (part : Option (List ℕ)) (back : List ℕ) (from : ℕ)
    → bytes ≡ prefix ++ (piece mark part ++ back) → length prefix ≡ from → 1 ≤ length mark
    → AreScalars part → IsUtf8 back
    → IsThere bytes (length mark) from (from + extent (length mark) part) part
piece_there bytes prefix mark None back from same here some scalars back_is = record {
  range = λ other. absurd (other (omega arith));
  same = rw (equal from) refl;
}
  where
    equal : (n : ℕ) → (n == n + 0) ≡ true
    equal n = grind arith
piece_there bytes prefix mark (Some part) back from same here some scalars back_is =
    let text = encode_utf8_all part in
    let grouped : bytes ≡ (prefix ++ mark) ++ (text ++ back)
    = same ∙ ap (λ t. prefix ++ t) (append_assoc mark text back) ∙ sym (append_assoc prefix mark (text ++ back)) in
    let start : length (prefix ++ mark) ≡ from + length mark = length-append prefix mark
    ∙ ap (λ n. n + length mark) here in
    let end : from + length mark + length text ≡ from + (length mark + length text) = omega arith in
    let cut = range_there bytes (prefix ++ mark) text back grouped (part_utf8 part scalars) back_is in
    let slice : slice_range bytes (length (prefix ++ mark)) (length (prefix ++ mark) + length text) ≡ text
    = rw grouped (range_seam (prefix ++ mark) text back) in
    let differs : (from == from + (length mark + length text)) ≡ false = ne_eqb _ _ (omega (arith, some)) in
    record {
      range = λ other. rw (start, end) at cut;
      same = rw differs (ap Some (ap chars (rw (start, end) at slice) ∙ chars-encodes part scalars));
    }

-- a scheme before its `:`
scheme_there : (bytes : List ℕ) (scheme : Option (List ℕ)) (back : List ℕ) → bytes ≡ scheme_piece scheme ++ back
    → AreScalars scheme → IsUtf8 back
    → (extent 1 scheme ≢ 0 → IsCharBoundary bytes (extent 1 scheme - 1))
    × (scheme_before bytes (extent 1 scheme) ≡ scheme)
scheme_there bytes None back same scalars back_is = (λ other. absurd (other refl), refl)
scheme_there bytes (Some scheme) back same scalars back_is =
    let text = encode_utf8_all scheme in
    let grouped : bytes ≡ text ++ (58 ∷ back) = same ∙ append_assoc text (58 ∷ []) back in
    let after : IsUtf8 (58 ∷ back) = IsUtf8-append (58 ∷ []) back colon_utf8 back_is in
    let here : 1 + length text - 1 ≡ length text = omega arith in
    let none : 0 + length text ≡ length text = omega arith in
    let slice : slice_range bytes 0 (length text) ≡ text = subst (λ (k : ℕ). slice_range bytes 0 k ≡ text) none
    (rw grouped (range_seam [] text (58 ∷ back))) in
    let differs : (1 + length text == 0) ≡ false = ne_eqb _ _ (omega arith) in (
      λ other. rw here (IsCharBoundary-at_seam bytes text (58 ∷ back) grouped after),
      rw (differs, here) (ap Some (ap chars slice ∙ chars-encodes scheme scalars)),
    )

-- ---- the whole text

-- the bytes of the parts one after the other
abbrev pub laid_out : Cut → List ℕ
laid_out cut =
    scheme_piece cut.scheme ++ (piece (47 ∷ 47 ∷ []) cut.host_text ++ (piece (58 ∷ []) cut.port_text
    ++ (piece [] (Some cut.path_text) ++ (piece (63 ∷ []) cut.query ++ (piece (35 ∷ []) cut.fragment ++ [])))))

regrouped : (s h o a q f : List ℕ)
    → ((s ++ ((h ++ o) ++ a)) ++ q) ++ f ≡ s ++ (h ++ (o ++ (a ++ (q ++ (f ++ [])))))
regrouped s h o a q f = rw (append-nil f) (simp append_assoc)

-- a cut in bytes is its parts one after the other
pub written_bytes : (cut : Cut) → (cut.host_text ≡ None → cut.port_text ≡ None)
    → encode_utf8_all (written_cut cut) ≡ laid_out cut
written_bytes cut only =
    let s = written_scheme cut.scheme in
    let h = written_authority cut.host_text cut.port_text in
    let q = written_after question_mark cut.query in
    let f = written_after number_sign cut.fragment in
    let middle : encode_utf8_all (h ++ cut.path_text)
    ≡ (piece (47 ∷ 47 ∷ []) cut.host_text ++ piece (58 ∷ []) cut.port_text) ++ encode_utf8_all cut.path_text
    = encodes-append h cut.path_text
    ∙ ap (λ t. t ++ encode_utf8_all cut.path_text) (authority_bytes cut.host_text cut.port_text only) in
    encodes-append ((s ++ (h ++ cut.path_text)) ++ q) f
    ∙ rw (
      encodes-append (s ++ (h ++ cut.path_text)) q,
      encodes-append s (h ++ cut.path_text),
      middle,
      scheme_bytes cut.scheme,
      query_bytes cut.query,
      fragment_bytes cut.fragment,
    )
    (regrouped (scheme_piece cut.scheme) (piece (47 ∷ 47 ∷ []) cut.host_text) (piece (58 ∷ []) cut.port_text)
    (encode_utf8_all cut.path_text) (piece (63 ∷ []) cut.query) (piece (35 ∷ []) cut.fragment))

-- how long the parts are, one after the other
pub whole_length : (cut : Cut) → length (laid_out cut) ≡ whole_extent cut
whole_length cut =
    let s = scheme_extent cut.scheme in
    let h = piece_extent (47 ∷ 47 ∷ []) cut.host_text in
    let o = piece_extent (58 ∷ []) cut.port_text in
    let a = piece_extent [] (Some cut.path_text) in
    let q = piece_extent (63 ∷ []) cut.query in
    let f = piece_extent (35 ∷ []) cut.fragment in
    simp (length-append) (omega (arith, s, h, o, a, q, f))

-- a port is after a host
no_port : (class : Class) (host port : Option (List ℕ)) (path : List ℕ) → IsAuthorityCut class host port path
    → host ≡ None → port ≡ None
no_port class None port path is none = is.0
no_port class (Some host) port path is none = absurd cc

-- the bytes of a cut text are its parts one after the other
pub cut_bytes : (base : Option Url) (bytes : List ℕ) (cut : Cut) → IsUtf8 bytes → IsCut base (chars bytes) cut
    → bytes ≡ laid_out cut
cut_bytes base bytes cut utf8 is =
    sym (encodes-chars bytes utf8) ∙ ap encode_utf8_all is.whole
    ∙ written_bytes cut (no_port (class_in base cut.scheme) cut.host_text cut.port_text cut.path_text is.authority)

-- so long is a cut text
pub cut_length : (base : Option Url) (bytes : List ℕ) (cut : Cut) → IsUtf8 bytes → IsCut base (chars bytes) cut
    → length bytes ≡ whole_extent cut
cut_length base bytes cut utf8 is = ap length (cut_bytes base bytes cut utf8 is) ∙ whole_length cut

port_scalars : (host port : Option (List ℕ)) → (host ≡ None → port ≡ None) → (host ≢ None → AreScalars port)
    → AreScalars port
port_scalars None None only scalars = tt
port_scalars None (Some port) only scalars = absurd (let e = only refl in cc)
port_scalars (Some host) port only scalars = scalars (λ none. cc)

-- ---- the parts between the ends

-- a cut of texts that are each the same
same_cut : (scheme host port : Option (List ℕ)) (path : List ℕ) (query fragment : Option (List ℕ)) (cut : Cut)
    → scheme ≡ cut.scheme → host ≡ cut.host_text → port ≡ cut.port_text → path ≡ cut.path_text
    → query ≡ cut.query → fragment ≡ cut.fragment → cut_with scheme host port path query fragment ≡ cut
same_cut scheme host port path query fragment cut s h o a q f = rw (s, h, o, a, q, f) refl

-- the parts of a cut text are those between its ends
pub record AreCutThere (bytes : List ℕ) (cut : Cut) : Type 0 where
  pub ends : AreEnds bytes (ends_of cut)
  pub same : cut_at bytes (ends_of cut) ≡ cut

-- ---- what is laid out before a place of a cut, and from it on

abbrev before_port : Cut → List ℕ
before_port cut = scheme_piece cut.scheme ++ piece (47 ∷ 47 ∷ []) cut.host_text

abbrev before_path : Cut → List ℕ
before_path cut = before_port cut ++ piece (58 ∷ []) cut.port_text

abbrev before_query : Cut → List ℕ
before_query cut = before_path cut ++ encode_utf8_all cut.path_text

abbrev before_fragment : Cut → List ℕ
before_fragment cut = before_query cut ++ piece (63 ∷ []) cut.query

abbrev fragment_on : Cut → List ℕ
fragment_on cut = piece (35 ∷ []) cut.fragment ++ []

abbrev query_on : Cut → List ℕ
query_on cut = piece (63 ∷ []) cut.query ++ fragment_on cut

abbrev path_on : Cut → List ℕ
path_on cut = encode_utf8_all cut.path_text ++ query_on cut

abbrev port_on : Cut → List ℕ
port_on cut = piece (58 ∷ []) cut.port_text ++ path_on cut

abbrev host_on : Cut → List ℕ
host_on cut = piece (47 ∷ 47 ∷ []) cut.host_text ++ port_on cut

-- what is laid out from a place on is UTF-8
record AreTexts (cut : Cut) : Type 0 where
  path : IsUtf8 (encode_utf8_all cut.path_text)
  from_fragment : IsUtf8 (fragment_on cut)
  from_query : IsUtf8 (query_on cut)
  from_path : IsUtf8 (path_on cut)
  from_port : IsUtf8 (port_on cut)
  from_host : IsUtf8 (host_on cut)

texts : (cut : Cut) → HasScalars cut → AreScalars cut.port_text → AreTexts cut
texts cut scalars port_is =
    let text_is : IsUtf8 (encode_utf8_all cut.path_text) = part_utf8 cut.path_text scalars.path in
    let f_is : IsUtf8 (fragment_on cut) = IsUtf8-append (piece (35 ∷ []) cut.fragment) []
    (piece_utf8 (35 ∷ []) cut.fragment number_sign_utf8 scalars.fragment) IsUtf8-nil in
    let q_is : IsUtf8 (query_on cut) = IsUtf8-append (piece (63 ∷ []) cut.query) (fragment_on cut)
    (piece_utf8 (63 ∷ []) cut.query question_mark_utf8 scalars.query) f_is in
    let a_is : IsUtf8 (path_on cut) = IsUtf8-append (encode_utf8_all cut.path_text) (query_on cut) text_is q_is in
    let o_is : IsUtf8 (port_on cut) = IsUtf8-append (piece (58 ∷ []) cut.port_text) (path_on cut)
    (piece_utf8 (58 ∷ []) cut.port_text colon_utf8 port_is) a_is in
    record {
      path = text_is;
      from_fragment = f_is;
      from_query = q_is;
      from_path = a_is;
      from_port = o_is;
      from_host =
          IsUtf8-append (piece (47 ∷ 47 ∷ []) cut.host_text) (port_on cut)
          (piece_utf8 (47 ∷ 47 ∷ []) cut.host_text slashes_utf8 scalars.host) o_is;
    }

-- the bytes are laid out so, and each part ends where the ends say
record AreSeams (bytes : List ℕ) (cut : Cut) : Type 0 where
  at_port : bytes ≡ before_port cut ++ port_on cut
  at_path : bytes ≡ before_path cut ++ path_on cut
  at_query : bytes ≡ before_query cut ++ query_on cut
  at_fragment : bytes ≡ before_fragment cut ++ fragment_on cut
  to_port : length (before_port cut) ≡ end_of_host cut
  to_path : length (before_path cut) ≡ end_of_port cut
  to_query : length (before_query cut) ≡ end_of_path cut
  to_fragment : length (before_fragment cut) ≡ end_of_query cut

seams : (bytes : List ℕ) (cut : Cut) → bytes ≡ laid_out cut → AreSeams bytes cut
seams bytes cut same =
    let s = scheme_piece cut.scheme in
    let h = piece (47 ∷ 47 ∷ []) cut.host_text in
    let o = piece (58 ∷ []) cut.port_text in
    let text = encode_utf8_all cut.path_text in
    let q = piece (63 ∷ []) cut.query in
    let se = scheme_extent cut.scheme in
    let he = piece_extent (47 ∷ 47 ∷ []) cut.host_text in
    let oe = piece_extent (58 ∷ []) cut.port_text in
    let qe = piece_extent (63 ∷ []) cut.query in
    let at_port : bytes ≡ before_port cut ++ port_on cut = same ∙ sym (append_assoc s h (port_on cut)) in
    let at_path : bytes ≡ before_path cut ++ path_on cut = at_port ∙ sym (append_assoc (s ++ h) o (path_on cut)) in
    let at_query : bytes ≡ before_query cut ++ query_on cut
    = at_path ∙ sym (append_assoc ((s ++ h) ++ o) text (query_on cut)) in
    let to_port : length (before_port cut) ≡ end_of_host cut = length-append s h ∙ omega (arith, se, he) in
    let to_path : length (before_path cut) ≡ end_of_port cut
    = length-append (s ++ h) o ∙ omega (arith, to_port, oe) in
    let to_query : length (before_query cut) ≡ end_of_path cut
    = length-append ((s ++ h) ++ o) text ∙ omega (arith, to_path) in
    record {
      at_port = at_port;
      at_path = at_path;
      at_query = at_query;
      at_fragment = at_query ∙ sym (append_assoc (((s ++ h) ++ o) ++ text) q (fragment_on cut));
      to_port = to_port;
      to_path = to_path;
      to_query = to_query;
      to_fragment = length-append (((s ++ h) ++ o) ++ text) q ∙ omega (arith, to_query, qe);
    }

-- the path between its ends
path_there : (bytes : List ℕ) (cut : Cut) → HasScalars cut → AreTexts cut → AreSeams bytes cut
    → IsRange bytes (end_of_port cut) (end_of_path cut)
    × (chars (slice_range bytes (end_of_port cut) (end_of_path cut)) ≡ cut.path_text)
path_there bytes cut scalars utf8 seam =
    let text = encode_utf8_all cut.path_text in
    let before = before_path cut in
    let range = range_there bytes before text (query_on cut) seam.at_path utf8.path utf8.from_query in
    let slice : slice_range bytes (length before) (length before + length text) ≡ text
    = rw seam.at_path (range_seam before text (query_on cut)) in
    let to_path = seam.to_path in
    let end : end_of_port cut + length text ≡ end_of_path cut = omega arith in (
      rw (to_path, end) at range,
      ap chars (rw (to_path, end) at slice) ∙ chars-encodes cut.path_text scalars.path,
    )

cut_there : (bytes : List ℕ) (cut : Cut) → bytes ≡ laid_out cut → HasScalars cut → AreScalars cut.port_text
    → AreCutThere bytes cut
cut_there bytes cut same scalars port_is =
    let utf8 = texts cut scalars port_is in
    let seam = seams bytes cut same in
    let scheme = scheme_there bytes cut.scheme (host_on cut) same scalars.scheme utf8.from_host in
    let host = piece_there bytes (scheme_piece cut.scheme) (47 ∷ 47 ∷ []) cut.host_text (port_on cut)
    (end_of_scheme cut) same (scheme_extent cut.scheme) (lit< tt) scalars.host utf8.from_port in
    let port = piece_there bytes (before_port cut) (58 ∷ []) cut.port_text (path_on cut) (end_of_host cut)
    seam.at_port seam.to_port (lit< tt) port_is utf8.from_path in
    let path = path_there bytes cut scalars utf8 seam in
    let query = piece_there bytes (before_query cut) (63 ∷ []) cut.query (fragment_on cut) (end_of_path cut)
    seam.at_query seam.to_query (lit< tt) scalars.query utf8.from_fragment in
    let fragment = piece_there bytes (before_fragment cut) (35 ∷ []) cut.fragment [] (end_of_query cut)
    seam.at_fragment seam.to_fragment (lit< tt) scalars.fragment IsUtf8-nil in
    let whole : length bytes ≡ end_of_query cut + extent 1 cut.fragment = ap length same ∙ whole_length cut in
    record {
      ends = record {
        scheme = scheme.0;
        host = host.range;
        port = port.range;
        path = path.0;
        query = query.range;
        fragment = subst (λ (k : ℕ). MayBePart bytes 1 (end_of_query cut) k) (sym whole) fragment.range;
      };
      same = same_cut (scheme_before bytes (end_of_scheme cut))
          (part_between bytes 2 (end_of_scheme cut) (end_of_host cut))
          (part_between bytes 1 (end_of_host cut) (end_of_port cut))
          (chars (slice_range bytes (end_of_port cut) (end_of_path cut)))
          (part_between bytes 1 (end_of_path cut) (end_of_query cut))
          (part_between bytes 1 (end_of_query cut) (length bytes)) cut
          scheme.1 host.same port.same path.1 query.same
          (subst (λ (k : ℕ). part_between bytes 1 (end_of_query cut) k ≡ cut.fragment) (sym whole) fragment.same);
    }

pub cut_ends : (base : Option Url) (bytes : List ℕ) (cut : Cut) → IsUtf8 bytes → IsCut base (chars bytes) cut
    → AreCutThere bytes cut
cut_ends base bytes cut utf8 is =
    let scalars = cut_scalars cut (subst (λ (t : List ℕ). all_scalars t ≡ true) is.whole (scalars-chars bytes utf8)) in
    cut_there bytes cut (cut_bytes base bytes cut utf8 is) scalars
    (port_scalars cut.host_text cut.port_text
    (no_port (class_in base cut.scheme) cut.host_text cut.port_text cut.path_text is.authority) scalars.port)
