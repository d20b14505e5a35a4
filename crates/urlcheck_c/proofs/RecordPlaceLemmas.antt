-- The parts of a record in its text.
use Rattle.std.proofs.Common.{◌≡◌, ℕ, ◌+◌, ◌-◌, ◌≤◌, List, [], ◌∷◌, ◌++◌, length, refl, sym, ap, ◌∙◌}
use Rattle.std.proofs.Common.{arith, append-nil}
use Rattle.std.specs.Prelude.{Option, Some, None, is_some, slice_range}
use Rattle.std.proofs.lemmas.List.{append_assoc, length-append}
use Rattle.std.proofs.Math.Seq.{take-append_seam, drop-append_seam}
use Rattle.uv_model.specs.declared.host.Host.{Host}
use Rattle.uv_model.specs.declared.path.UrlPath.{UrlPath}
use Rattle.uv_model.specs.declared.path.UrlPath.TheVariants.{Opaque, Segments}
use Rattle.uv_model.specs.Parts.{written_after}
use Rattle.uv_model.specs.Records.Serialize.{serial, serial_authority, serial_host, serial_path}
use Rattle.uv_model.specs.Records.Url.{Url}
use Rattle.uv_resolve.specs.Layout.{dot_prefix, layout_of, marked_host, marked_port}
use Rattle.urlcheck_c.specs.declared.spans.Span.{Span}
use Rattle.urlcheck_c.specs.RecordPlaces.{AreRecordSpans, StandsAt, host_text, length_in, placed_span}
use Rattle.urlcheck_c.specs.RecordPlaces.{port_text, reach, record_extent, record_spans}

-- ---- a text after its delimiter

-- the text with its delimiter
abbrev pub after : List ℕ → Option (List ℕ) → List ℕ
after mark None = []
after mark (Some text) = mark ++ text

-- how long it is
after_length : (mark : List ℕ) (text : Option (List ℕ))
    → length (after mark text) ≡ reach (length mark) (length_in text)
after_length mark None = refl
after_length mark (Some text) = length-append mark text

range_seam : (prefix part back : List ℕ)
    → slice_range (prefix ++ (part ++ back)) (length prefix) (length prefix + length part) ≡ part
range_seam prefix part back =
    let count : length prefix + length part - length prefix ≡ length part = omega arith in
    rw (count, drop-append_seam prefix (part ++ back)) (take-append_seam part back)

-- it ends within the text
end_within : (prefix mark part back : List ℕ)
    → length prefix + length mark + length part ≤ length (prefix ++ ((mark ++ part) ++ back))
end_within prefix mark part back = simp (length-append) (omega arith)

-- where it is in a text
after_stands : (prefix mark : List ℕ) (text : Option (List ℕ)) (back : List ℕ)
    → StandsAt (prefix ++ (after mark text ++ back)) (length prefix) (length mark) text
    (placed_span (length prefix) (length mark) (length_in text))
after_stands prefix mark None back = refl
after_stands prefix mark (Some part) back =
    let same : prefix ++ ((mark ++ part) ++ back) ≡ (prefix ++ mark) ++ (part ++ back)
    = ap (λ t. prefix ++ t) (append_assoc mark part back) ∙ sym (append_assoc prefix mark (part ++ back)) in (
      refl,
      end_within prefix mark part back,
      rw (same, sym (length-append prefix mark)) (range_seam (prefix ++ mark) part back),
    )

-- where a text is in bytes that are grouped otherwise
regrouped : (bytes prefix mark : List ℕ) (text : Option (List ℕ)) (back : List ℕ) (at : ℕ)
    → bytes ≡ prefix ++ (after mark text ++ back) → length prefix ≡ at
    → StandsAt bytes at (length mark) text (placed_span at (length mark) (length_in text))
regrouped bytes prefix mark text back at same here = rw (same, ← here) (after_stands prefix mark text back)

-- ---- the record's text

-- the host after its mark
host-marked : (host : Option Host) → marked_host host ≡ after (47 ∷ 47 ∷ []) (host_text host)
host-marked None = refl
host-marked (Some host) = refl

-- the port after its mark
port-marked : (host : Option Host) (port : Option ℕ)
    → marked_port (is_some host) port ≡ after (58 ∷ []) (port_text host port)
port-marked None port = refl
port-marked (Some host) None = refl
port-marked (Some host) (Some port) = refl

-- what is between the scheme's `:` and the path
authority : (host : Option Host) (port : Option ℕ) (path : UrlPath)
    → serial_authority host port path
    ≡ after (47 ∷ 47 ∷ []) (host_text host)
    ++ (after (58 ∷ []) (port_text host port) ++ dot_prefix (is_some host) path)
authority None port (Opaque text) = refl
authority None port (Segments []) = refl
authority None port (Segments ([] ∷ [])) = refl
authority None port (Segments ([] ∷ (next ∷ rest))) = refl
authority None port (Segments ((c ∷ first) ∷ rest)) = refl
authority (Some host) None path = refl
authority (Some host) (Some port) path = ap (λ t. 47 ∷ 47 ∷ (serial_host host ++ t)) (sym (append-nil _))

-- a part after its mark
marked : (mark : ℕ) (text : Option (List ℕ)) → written_after mark text ≡ after (mark ∷ []) text
marked mark None = refl
marked mark (Some text) = refl

-- the parts one after the other
abbrev pub laid_record : Url → List ℕ
laid_record url =
    url.scheme ++ ((58 ∷ []) ++ (after (47 ∷ 47 ∷ []) (host_text url.host)
    ++ (after (58 ∷ []) (port_text url.host url.port) ++ (dot_prefix (is_some url.host) url.path
    ++ (after [] (Some (serial_path url.path)) ++ (after (63 ∷ []) url.query
    ++ (after (35 ∷ []) url.fragment ++ [])))))))

serial_laid : (url : Url) → serial url ≡ laid_record url
unfolding serial
serial_laid url =
    let h = after (47 ∷ 47 ∷ []) (host_text url.host) in
    let o = after (58 ∷ []) (port_text url.host url.port) in
    let d = dot_prefix (is_some url.host) url.path in
    let p = serial_path url.path in
    rw (
      authority url.host url.port url.path,
      marked 63 url.query,
      marked 35 url.fragment,
      append-nil (after (35 ∷ []) url.fragment),
      append_assoc h (o ++ d) (p ++ (after (63 ∷ []) url.query ++ after (35 ∷ []) url.fragment)),
      append_assoc o d (p ++ (after (63 ∷ []) url.query ++ after (35 ∷ []) url.fragment)),
    ) refl

-- how long it is
pub record_length : (url : Url) → length (serial url) ≡ record_extent url
record_length url =
    let h = ap length (host-marked url.host) in
    let o = ap length (port-marked url.host url.port) in
    let q = ap length (marked 63 url.query) in
    let f = after_length (35 ∷ []) url.fragment in
    ap length (serial_laid url) ∙ simp (length-append) (omega (arith, h, o, q, f))

-- the spans of the parts in it
pub record_places : (url : Url) → AreRecordSpans url (record_spans url)
record_places url =
    let s = url.scheme in
    let c : List ℕ = 58 ∷ [] in
    let h = after (47 ∷ 47 ∷ []) (host_text url.host) in
    let o = after (58 ∷ []) (port_text url.host url.port) in
    let d = dot_prefix (is_some url.host) url.path in
    let p = after [] (Some (serial_path url.path)) in
    let q = after (63 ∷ []) url.query in
    let f = after (35 ∷ []) url.fragment in
    let he = ap length (host-marked url.host) in
    let oe = ap length (port-marked url.host url.port) in
    let qe = ap length (marked 63 url.query) in
    let is = serial_laid url in
    let at_host = is ∙ sym (append_assoc s c (h ++ (o ++ (d ++ (p ++ (q ++ (f ++ []))))))) in
    let at_port = at_host ∙ sym (append_assoc (s ++ c) h (o ++ (d ++ (p ++ (q ++ (f ++ [])))))) in
    let at_dot = at_port ∙ sym (append_assoc ((s ++ c) ++ h) o (d ++ (p ++ (q ++ (f ++ []))))) in
    let at_path = at_dot ∙ sym (append_assoc (((s ++ c) ++ h) ++ o) d (p ++ (q ++ (f ++ [])))) in
    let at_query = at_path ∙ sym (append_assoc ((((s ++ c) ++ h) ++ o) ++ d) p (q ++ (f ++ []))) in
    let at_fragment = at_query ∙ sym (append_assoc (((((s ++ c) ++ h) ++ o) ++ d) ++ p) q (f ++ [])) in
    record {
      scheme = regrouped (serial url) [] [] (Some s) (c ++ (h ++ (o ++ (d ++ (p ++ (q ++ (f ++ []))))))) 0 is refl;
      host = regrouped (serial url) (s ++ c) (47 ∷ 47 ∷ []) (host_text url.host)
          (o ++ (d ++ (p ++ (q ++ (f ++ []))))) _ at_host (length-append s c);
      port = regrouped (serial url) ((s ++ c) ++ h) (58 ∷ []) (port_text url.host url.port)
          (d ++ (p ++ (q ++ (f ++ [])))) _ at_port (simp (length-append) (omega (arith, he)));
      path = regrouped (serial url) ((((s ++ c) ++ h) ++ o) ++ d) [] (Some (serial_path url.path))
          (q ++ (f ++ [])) _ at_path (simp (length-append) (omega (arith, he, oe)));
      query = regrouped (serial url) (((((s ++ c) ++ h) ++ o) ++ d) ++ p) (63 ∷ []) url.query
          (f ++ []) _ at_query (simp (length-append) (omega (arith, he, oe)));
      fragment = regrouped (serial url) ((((((s ++ c) ++ h) ++ o) ++ d) ++ p) ++ q) (35 ∷ []) url.fragment
          [] _ at_fragment (simp (length-append) (omega (arith, he, oe, qe)));
      whole = record_length url;
    }

-- ---- the layout

-- the host's end
pub host_reach : (url : Url) → (layout_of url).host_end ≡ (layout_of url).scheme_end + 1
    + reach 2 (length_in (host_text url.host))
host_reach url =
    ap (λ n. length url.scheme + 1 + n)
    (ap length (host-marked url.host) ∙ after_length (47 ∷ 47 ∷ []) (host_text url.host))

-- the port's end
pub port_reach : (url : Url) → (layout_of url).port_end ≡ (layout_of url).host_end
    + reach 1 (length_in (port_text url.host url.port))
port_reach url =
    ap (λ n. (layout_of url).host_end + n)
    (ap length (port-marked url.host url.port) ∙ after_length (58 ∷ []) (port_text url.host url.port))

-- the query's end
pub query_reach : (url : Url) → (layout_of url).query_end ≡ (layout_of url).path_end + reach 1 (length_in url.query)
query_reach url =
    ap (λ n. (layout_of url).path_end + n) (ap length (marked 63 url.query) ∙ after_length (63 ∷ []) url.query)

-- a span that is there
abbrev full_span : ℕ → ℕ → Span
full_span start count = record { start = start; length = count; present = 1 }

same_span : (a b m n : ℕ) → a ≡ b → m ≡ n → full_span a m ≡ full_span b n
same_span a b m n e f = rw (e, f) refl

-- the span between two places
pub between : (span : Span) (start end count : ℕ) → span ≡ full_span start (end - start) → end ≡ start + count
    → span ≡ placed_span start 0 (Some count)
between span start end count is reaches =
    is ∙ same_span start (start + 0) (end - start) count (omega arith) (omega (arith, reaches))

-- the spans belong to the record's parts
pub spans_read : (scheme host port path query fragment : Span) (url : Url) → scheme ≡ (record_spans url).scheme
    → host ≡ (record_spans url).host → port ≡ (record_spans url).port → path ≡ (record_spans url).path
    → query ≡ (record_spans url).query → fragment ≡ (record_spans url).fragment
    → record { scheme = scheme; host = host; port = port; path = path; query = query; fragment = fragment }
    ≡ record_spans url
spans_read scheme host port path query fragment url e0 e1 e2 e3 e4 e5 = rw (e0, e1, e2, e3, e4, e5) refl
