-- The parts of a valid text in its bytes.
use Rattle.std.proofs.Common.{◌≡◌, ℕ, ◌+◌, ◌-◌, ◌≤◌, ◌<◌, lit<, List, [], ◌∷◌, ◌++◌, length, refl, sym, ap, ◌∙◌}
use Rattle.std.proofs.Common.{arith, append-nil}
use Rattle.std.specs.Prelude.{Option, Some, None, slice_range}
use Rattle.std.specs.Str.{chars, IsUtf8, encode_utf8_all}
use Rattle.std.proofs.lemmas.Str.{encodes-append, encodes-chars, encode_ascii}
use Rattle.std.proofs.lemmas.List.{append_assoc, length-append}
use Rattle.std.proofs.Math.Seq.{take-append_seam, drop-append_seam}
use Rattle.uv_model.specs.Parts.{Form, SchemeAuthority, SchemePath, SchemeOpaque, Authority, PathAbsolute}
use Rattle.uv_model.specs.Parts.{PathRelative, NoPath, Parts, written, written_after, written_authority}
use Rattle.uv_model.specs.Parts.{written_scheme}
use Rattle.uv_model.specs.Records.Url.{Url}
use Rattle.uv_model.specs.Setting.{Setting, setting_of}
use Rattle.uv_model.specs.declared.profile.Profile.{Profile}
use Rattle.uv_model.specs.Valid.{FitsForm, FitsHostText, Valid}
use Rattle.urlcheck_c.specs.Span.{AreSpans, IsSpan, extent, span_of, spans_of, whole_extent}

-- ---- a port is after a host

no_host : (setting : Setting) (parts : Parts) (host : Option (List ℕ)) → FitsHostText setting parts host → host ≡ None
    → parts.port_text ≡ None
no_host setting parts None fits none = absurd fits
no_host setting parts (Some host) fits none = absurd cc

no_port : (setting : Setting) (form : Form) (parts : Parts) → FitsForm setting form parts → parts.host_text ≡ None
    → parts.port_text ≡ None
no_port setting SchemeAuthority parts fits none = no_host setting parts parts.host_text fits none
no_port setting Authority parts fits none = no_host setting parts parts.host_text fits none
no_port setting SchemePath parts fits none = fits.0.port_text
no_port setting SchemeOpaque parts fits none = fits.0.port_text
no_port setting PathAbsolute parts fits none = fits.0.port_text
no_port setting PathRelative parts fits none = fits.0.port_text
no_port setting NoPath parts fits none = fits.0.port_text

-- ---- parts in bytes

-- a part in bytes after its delimiter
abbrev piece : List ℕ → Option (List ℕ) → List ℕ
piece mark None = []
piece mark (Some part) = mark ++ encode_utf8_all part

-- a scheme in bytes with its `:`
abbrev scheme_piece : Option (List ℕ) → List ℕ
scheme_piece None = []
scheme_piece (Some part) = encode_utf8_all part ++ (58 ∷ [])

-- an ASCII code point is its byte
ascii_first : (c : ℕ) (rest : List ℕ) → c < 128 → encode_utf8_all (c ∷ rest) ≡ c ∷ encode_utf8_all rest
ascii_first c rest small = ap (λ e. e ++ encode_utf8_all rest) (encode_ascii c small)

authority_first : (rest : List ℕ) → encode_utf8_all (47 ∷ 47 ∷ rest) ≡ 47 ∷ 47 ∷ encode_utf8_all rest
authority_first rest = ascii_first 47 (47 ∷ rest) (lit< tt) ∙ ap (λ t. 47 ∷ t) (ascii_first 47 rest (lit< tt))

scheme_bytes : (scheme : Option (List ℕ)) → encode_utf8_all (written_scheme scheme) ≡ scheme_piece scheme
scheme_bytes None = refl
scheme_bytes (Some scheme) =
    encodes-append scheme (58 ∷ []) ∙ ap (λ t. encode_utf8_all scheme ++ t) (ascii_first 58 [] (lit< tt))

authority_bytes : (host port : Option (List ℕ)) → (host ≡ None → port ≡ None)
    → encode_utf8_all (written_authority host port) ≡ piece (47 ∷ 47 ∷ []) host ++ piece (58 ∷ []) port
authority_bytes None None only = refl
authority_bytes None (Some port) only = absurd (let e = only refl in cc)
authority_bytes (Some host) None only =
    authority_first (host ++ []) ∙ ap (λ t. 47 ∷ 47 ∷ t) (encodes-append host [])
authority_bytes (Some host) (Some port) only =
    authority_first (host ++ 58 ∷ port) ∙ ap (λ t. 47 ∷ 47 ∷ t)
    (encodes-append host (58 ∷ port) ∙ ap (λ t. encode_utf8_all host ++ t) (ascii_first 58 port (lit< tt)))

query_bytes : (query : Option (List ℕ)) → encode_utf8_all (written_after 63 query) ≡ piece (63 ∷ []) query
query_bytes None = refl
query_bytes (Some query) = ascii_first 63 query (lit< tt)

fragment_bytes : (fragment : Option (List ℕ)) → encode_utf8_all (written_after 35 fragment) ≡ piece (35 ∷ []) fragment
fragment_bytes None = refl
fragment_bytes (Some fragment) = ascii_first 35 fragment (lit< tt)

-- ---- where a part is

range_seam : (prefix part back : List ℕ)
    → slice_range (prefix ++ (part ++ back)) (length prefix) (length prefix + length part) ≡ part
range_seam prefix part back =
    let count : length prefix + length part - length prefix ≡ length part = omega arith in
    rw (count, drop-append_seam prefix (part ++ back)) (take-append_seam part back)

-- it ends within the text
end_within : (prefix mark part back : List ℕ)
    → length prefix + length mark + length part ≤ length (prefix ++ ((mark ++ part) ++ back))
end_within prefix mark part back = simp (length-append) (omega arith)

-- so does a scheme
scheme_within : (part mark back : List ℕ) → 0 + length part ≤ length ((part ++ mark) ++ back)
scheme_within part mark back = simp (length-append) (omega arith)

scheme_span : (scheme : Option (List ℕ)) (back : List ℕ)
    → IsSpan (scheme_piece scheme ++ back) 0 0 scheme (span_of 0 0 scheme)
scheme_span None back = refl
scheme_span (Some scheme) back = (
  refl,
  scheme_within (encode_utf8_all scheme) (58 ∷ []) back,
  rw (append_assoc (encode_utf8_all scheme) (58 ∷ []) back)
      (range_seam [] (encode_utf8_all scheme) ((58 ∷ []) ++ back)),
)

piece_span : (prefix mark : List ℕ) (part : Option (List ℕ)) (back : List ℕ)
    → IsSpan (prefix ++ (piece mark part ++ back)) (length prefix) (length mark) part
    (span_of (length prefix) (length mark) part)
piece_span prefix mark None back = refl
piece_span prefix mark (Some part) back =
    let same : prefix ++ ((mark ++ encode_utf8_all part) ++ back) ≡ (prefix ++ mark) ++ (encode_utf8_all part ++ back)
    = ap (λ t. prefix ++ t) (append_assoc mark (encode_utf8_all part) back)
    ∙ sym (append_assoc prefix mark (encode_utf8_all part ++ back)) in (
      refl,
      end_within prefix mark (encode_utf8_all part) back,
      rw (same, sym (length-append prefix mark)) (range_seam (prefix ++ mark) (encode_utf8_all part) back),
    )

scheme_extent : (scheme : Option (List ℕ)) → length (scheme_piece scheme) ≡ extent 1 scheme
scheme_extent None = refl
scheme_extent (Some scheme) = rw (length-append (encode_utf8_all scheme) (58 ∷ [])) (omega arith)

piece_extent : (mark : List ℕ) (part : Option (List ℕ)) → length (piece mark part) ≡ extent (length mark) part
piece_extent mark None = refl
piece_extent mark (Some part) = length-append mark (encode_utf8_all part)

-- ---- the whole text

-- the bytes of the parts one after the other
abbrev pub laid_out : Parts → List ℕ
laid_out p =
    scheme_piece p.scheme ++ (piece (47 ∷ 47 ∷ []) p.host_text ++ (piece (58 ∷ []) p.port_text
    ++ (piece [] (Some p.path_text) ++ (piece (63 ∷ []) p.query ++ (piece (35 ∷ []) p.fragment ++ [])))))

written_bytes : (p : Parts) → (p.host_text ≡ None → p.port_text ≡ None) → encode_utf8_all (written p) ≡ laid_out p
unfolding written
written_bytes p only =
    let after = written_after 63 p.query ++ written_after 35 p.fragment in
    let tail : encode_utf8_all after ≡ piece (63 ∷ []) p.query ++ (piece (35 ∷ []) p.fragment ++ [])
    = encodes-append (written_after 63 p.query) (written_after 35 p.fragment)
    ∙ rw (query_bytes p.query, fragment_bytes p.fragment, append-nil (piece (35 ∷ []) p.fragment)) refl in
    let path : encode_utf8_all (p.path_text ++ after)
    ≡ piece [] (Some p.path_text) ++ (piece (63 ∷ []) p.query ++ (piece (35 ∷ []) p.fragment ++ []))
    = encodes-append p.path_text after ∙ ap (λ t. encode_utf8_all p.path_text ++ t) tail in
    let authority : encode_utf8_all (written_authority p.host_text p.port_text ++ (p.path_text ++ after))
    ≡ piece (47 ∷ 47 ∷ []) p.host_text ++ (piece (58 ∷ []) p.port_text ++ (piece [] (Some p.path_text)
    ++ (piece (63 ∷ []) p.query ++ (piece (35 ∷ []) p.fragment ++ []))))
    = encodes-append (written_authority p.host_text p.port_text) (p.path_text ++ after)
    ∙ rw (authority_bytes p.host_text p.port_text only, path)
    (append_assoc (piece (47 ∷ 47 ∷ []) p.host_text) (piece (58 ∷ []) p.port_text) _) in
    (encodes-append (written_scheme p.scheme) (written_authority p.host_text p.port_text ++ (p.path_text ++ after))
    ∙ rw (scheme_bytes p.scheme, authority) refl)

-- the bytes of a valid text are its parts one after the other
pub valid_bytes : (bytes : List ℕ) (p : Parts) → IsUtf8 bytes
    → ((profile : Profile) × (base : Option Url) × Valid profile base (chars bytes) p)
    → bytes ≡ laid_out p
valid_bytes bytes p utf8 (profile, base, valid) =
    sym (encodes-chars bytes utf8) ∙ ap encode_utf8_all valid.whole
    ∙ written_bytes p (no_port (setting_of profile base p.scheme) p.form p valid.form)

-- how long the parts are, one after the other
pub whole_length : (p : Parts) → length (laid_out p) ≡ whole_extent p
whole_length p =
    let s = scheme_extent p.scheme in
    let h = piece_extent (47 ∷ 47 ∷ []) p.host_text in
    let o = piece_extent (58 ∷ []) p.port_text in
    let a = piece_extent [] (Some p.path_text) in
    let q = piece_extent (63 ∷ []) p.query in
    let f = piece_extent (35 ∷ []) p.fragment in
    simp (length-append) (omega (arith, s, h, o, a, q, f))

-- the span of a piece, where the text is regrouped
regrouped : (bytes prefix mark : List ℕ) (part : Option (List ℕ)) (back : List ℕ) (at : ℕ)
    → bytes ≡ prefix ++ (piece mark part ++ back) → length prefix ≡ at
    → IsSpan bytes at (length mark) part (span_of at (length mark) part)
regrouped bytes prefix mark part back at same here = rw (same, ← here) (piece_span prefix mark part back)

-- the spans of the parts in that text
pub laid_spans : (p : Parts) → AreSpans (laid_out p) p (spans_of p)
laid_spans p =
    let s = scheme_piece p.scheme in
    let h = piece (47 ∷ 47 ∷ []) p.host_text in
    let o = piece (58 ∷ []) p.port_text in
    let a = piece [] (Some p.path_text) in
    let q = piece (63 ∷ []) p.query in
    let f = piece (35 ∷ []) p.fragment in
    let se = scheme_extent p.scheme in
    let he = piece_extent (47 ∷ 47 ∷ []) p.host_text in
    let oe = piece_extent (58 ∷ []) p.port_text in
    let ae = piece_extent [] (Some p.path_text) in
    let qe = piece_extent (63 ∷ []) p.query in
    let at_port = sym (append_assoc s h (o ++ (a ++ (q ++ (f ++ []))))) in
    let at_path = at_port ∙ sym (append_assoc (s ++ h) o (a ++ (q ++ (f ++ [])))) in
    let at_query = at_path ∙ sym (append_assoc ((s ++ h) ++ o) a (q ++ (f ++ []))) in
    let at_fragment = at_query ∙ sym (append_assoc (((s ++ h) ++ o) ++ a) q (f ++ [])) in
    record {
      scheme = scheme_span p.scheme (h ++ (o ++ (a ++ (q ++ (f ++ [])))));
      host = regrouped (laid_out p) s (47 ∷ 47 ∷ []) p.host_text (o ++ (a ++ (q ++ (f ++ [])))) _ refl se;
      port = regrouped (laid_out p) (s ++ h) (58 ∷ []) p.port_text (a ++ (q ++ (f ++ []))) _ at_port
          (simp (length-append) (omega (arith, se, he)));
      path = regrouped (laid_out p) ((s ++ h) ++ o) [] (Some p.path_text) (q ++ (f ++ [])) _ at_path
          (simp (length-append) (omega (arith, se, he, oe)));
      query = regrouped (laid_out p) (((s ++ h) ++ o) ++ a) (63 ∷ []) p.query (f ++ []) _ at_query
          (simp (length-append) (omega (arith, se, he, oe, ae)));
      fragment = regrouped (laid_out p) ((((s ++ h) ++ o) ++ a) ++ q) (35 ∷ []) p.fragment [] _ at_fragment
          (simp (length-append) (omega (arith, se, he, oe, ae, qe)));
      whole = whole_length p;
    }
