-- What is written part by part is the serialized URL that is denoted.
use Rattle.std.proofs.Common.{◌≡◌, ℕ, ◌+◌, Bool, true, false, List, [], ◌∷◌, ◌++◌, Option, Some, None, codes, length}
use Rattle.std.proofs.Common.{refl, sym, ap, ◌∙◌, append_assoc, append-nil, arith, is_some, length-append}
use Rattle.std.specs.Prelude.{option_map}
use Rattle.uv_model.specs.declared.host.Host.{Host}
use Rattle.uv_model.specs.declared.path.UrlPath.{UrlPath}
use Rattle.uv_model.specs.declared.path.UrlPath.TheVariants.{Opaque, Segments}
use Rattle.uv_model.specs.declared.host.Host.TheVariants as host
use Rattle.uv_model.specs.declared.scheme.Class.{Class}
use Rattle.uv_model.specs.Encoding.{encoded}
use Rattle.uv_model.specs.Records.Denote.{authority_host, denoted_path}
use Rattle.uv_model.specs.Records.Url.{Url, is_opaque}
use Rattle.uv_model.specs.Ascii.{colon, number_sign, question_mark}
use Rattle.uv_model.specs.Parts.{Parts, written_after}
use Rattle.uv_model.specs.Records.PathText.{IsTextOf}
use Rattle.uv_model.specs.Records.Serialize.{serial, serial_authority, serial_host, serial_path, serial_port}
use Rattle.uv_model.specs.Records.Serialize.{serial_segments}
use Rattle.uv_model.proofs.Paths.PathTexts.{path_text-written}
use Rattle.uv_resolve.specs.declared.layout.HostKind.{HostKind}
use Rattle.uv_resolve.specs.declared.layout.HostKind.TheVariants as kind
use Rattle.uv_resolve.specs.Layout.{dot_prefix, host_end, kind_of, layout_of, marked_host, marked_port, path_end}
use Rattle.uv_resolve.specs.Layout.{path_start, port_end, query_end}
use Rattle.uv_resolve.specs.Written.{IsWholePath, IsWrittenHost}
use Rattle.uv_resolve.proofs.RecordLemmas.{fields}

-- without a host the port is never written
no_port : (port : Option ℕ) (path : UrlPath) → serial_authority None None path ≡ serial_authority None port path
no_port port (Opaque text) = refl
no_port port (Segments []) = refl
no_port port (Segments ([] ∷ [])) = refl
no_port port (Segments ([] ∷ next ∷ rest)) = refl
no_port port (Segments ((c ∷ segment) ∷ rest)) = refl

-- what is between the scheme's `:` and the path
authority-written : (host : Option Host) (port : Option ℕ) (path : UrlPath)
    → marked_host host ++ (marked_port (is_some host) port ++ dot_prefix (is_some host) path)
    ≡ serial_authority host port path
authority-written None port path = no_port port path
authority-written (Some host) port path =
    ap (λ t. codes "//" ++ serial_host host ++ t) (append-nil (serial_port port))

-- what is written, a part at a time
pub parts-written : (start first second third fourth fifth whole scheme host port path query fragment : List ℕ)
    → start ≡ [] → first ≡ start ++ scheme → second ≡ first ++ host → third ≡ second ++ port
    → fourth ≡ third ++ path → fifth ≡ fourth ++ query → whole ≡ fifth ++ fragment
    → whole ≡ ((((scheme ++ host) ++ port) ++ path) ++ query) ++ fragment
parts-written start first second third fourth fifth whole scheme host port path query fragment e0 e1 e2 e3 e4 e5 e6 =
    rw (e6, e5, e4, e3, e2, e1, e0) refl

-- one after the other
grouped : (s h o d p q f : List ℕ)
    → ((((s ++ h) ++ o) ++ (d ++ p)) ++ q) ++ f ≡ s ++ (h ++ (o ++ (d ++ (p ++ (q ++ f)))))
grouped s h o d p q f = simp (append_assoc) refl

-- is the serialized URL
pub url-written : (has_host : Bool) (scheme : List ℕ) (host : Option Host) (port : Option ℕ) (path : UrlPath)
    (query fragment : Option (List ℕ)) → has_host ≡ is_some host
    → ((((scheme ++ (colon ∷ marked_host host)) ++ marked_port has_host port)
    ++ (dot_prefix has_host path ++ serial_path path)) ++ written_after question_mark query)
    ++ written_after number_sign fragment
    ≡ serial (fields scheme host port path query fragment)
unfolding serial
url-written has_host scheme host port path query fragment has =
    let h = marked_host host in
    let o = marked_port (is_some host) port in
    let d = dot_prefix (is_some host) path in
    let p = serial_path path in
    let q = written_after question_mark query in
    let f = written_after number_sign fragment in
    ap (λ b. ((((scheme ++ (colon ∷ h)) ++ marked_port b port) ++ (dot_prefix b path ++ p)) ++ q) ++ f) has
    ∙ grouped scheme (colon ∷ h) o d p q f
    ∙ ap (λ t. scheme ++ (colon ∷ t))
    (sym (append_assoc h (o ++ d) (p ++ (q ++ f)) ∙ ap (λ t. h ++ t) (append_assoc o d (p ++ (q ++ f))))
    ∙ ap (λ t. t ++ (p ++ (q ++ f))) (authority-written host port path))

-- a host has a kind
pub kind-is_some : (host : Option Host) (kind : Option HostKind) → kind ≡ option_map kind_of host
    → is_some kind ≡ is_some host
kind-is_some None kind is = ap is_some is
kind-is_some (Some host) kind is = ap is_some is

-- what is read of the lengths of what is written, a part at a time, is the layout
pub layout-read : (scheme_at host_at port_at at path_at query_at : ℕ) (start first second third fourth fifth : List ℕ)
    (has_host : Bool) (kind : Option HostKind) (opaque : Bool) (url : Url)
    → scheme_at ≡ length first → host_at ≡ length second → port_at ≡ length third → path_at ≡ length fourth
    → query_at ≡ length fifth
    → start ≡ [] → first ≡ start ++ url.scheme → second ≡ first ++ (colon ∷ marked_host url.host)
    → third ≡ second ++ marked_port has_host url.port
    → at ≡ length third + length (dot_prefix has_host url.path)
    → fourth ≡ third ++ (dot_prefix has_host url.path ++ serial_path url.path)
    → fifth ≡ fourth ++ written_after question_mark url.query
    → has_host ≡ is_some url.host → kind ≡ option_map kind_of url.host → opaque ≡ is_opaque url.path
    → record {
      scheme_end = scheme_at;
      host_end = host_at;
      port_end = port_at;
      path_start = at;
      path_end = path_at;
      query_end = query_at;
      host = kind;
      has_opaque_path = opaque;
    } ≡ layout_of url
layout-read scheme_at host_at port_at at path_at query_at start first second third fourth fifth has_host kind opaque url
    r1 r2 r3 r4 r5 e0 e1 e2 e3 e e4 e5 has is is_path =
    let l1 : scheme_at ≡ length url.scheme = rw (r1, e1, e0) refl in
    let l2 : host_at ≡ host_end url = rw (r2, e2) (simp (length-append) (omega (arith, r1, l1))) in
    let l3 : port_at ≡ port_end url = rw (r3, e3, has) (simp (length-append) (omega (arith, r2, l2))) in
    let la : at ≡ path_start url = rw (e, has) (omega (arith, r3, l3)) in
    let l4 : path_at ≡ path_end url = rw (r4, e4, has) (simp (length-append) (omega (arith, r3, l3))) in
    let l5 : query_at ≡ query_end url = rw (r5, e5) (simp (length-append) (omega (arith, r4, l4))) in
    rw (l1, l2, l3, la, l4, l5, is, is_path) refl

-- a path that needs no `/.` is its text
path-written : (has_host : Bool) (segments : List (List ℕ)) (text : List ℕ) → IsTextOf segments text
    → serial_authority None None (Segments segments) ≡ []
    → text ≡ dot_prefix has_host (Segments segments) ++ serial_segments segments
path-written true segments text is unmarked =
    sym (path_text-written text is.path) ∙ ap serial_segments is.after
path-written false segments text is unmarked =
    sym (path_text-written text is.path) ∙ ap serial_segments is.after
    ∙ ap (λ t. t ++ serial_segments segments) (sym unmarked)

pub whole-written : (has_host : Bool) (base : Option Url) (class : Class) (parts : Parts) (text : List ℕ)
    → IsWholePath class parts text
    → encoded false text ≡ dot_prefix has_host (denoted_path base class parts.form parts)
    ++ serial_path (denoted_path base class parts.form parts)
whole-written has_host base class parts text is =
    path-written has_host is.segments (encoded false text) is.written is.unmarked
    ∙ sym (ap (λ p. dot_prefix has_host p ++ serial_path p) (is.denoted base))

-- no `/.` is before it
pub whole-unmarked : (has_host : Bool) (base : Option Url) (class : Class) (parts : Parts) (text : List ℕ)
    → IsWholePath class parts text → dot_prefix has_host (denoted_path base class parts.form parts) ≡ []
whole-unmarked true base class parts text is = refl
whole-unmarked false base class parts text is = ap (dot_prefix false) (is.denoted base) ∙ is.unmarked

-- a host that has no value is written as its text
pub opaque_written : (parts : Parts) (text old new : List ℕ) → parts.host ≡ None → parts.host_text ≡ Some text
    → new ≡ (old ++ codes "://") ++ encoded false text
    → IsWrittenHost (authority_host parts) old new (Some kind.Opaque)
unfolding serial_host
opaque_written parts text old new no_value hosted is =
    let opaque : authority_host parts ≡ Some (host.Opaque (encoded false text)) = rw (no_value, hosted) refl in
    record {
      kind_is = sym (ap (option_map kind_of) opaque);
      written =
          is ∙ append_assoc old (codes "://") (encoded false text)
          ∙ ap (λ h. old ++ (colon ∷ marked_host h)) (sym opaque);
    }
