-- The places of the parts are read from the layout.
use Rattle.std.proofs.Common.{◌+◌, ◌∙◌, ap, arith, length, refl}
use Rattle.std.specs.Prelude.{Some}
use Rattle.uv_model.specs.Records.Serialize.{serial_path}
use Rattle.uv_resolve.specs.declared.layout.UrlLayout.{UrlLayout}
use Rattle.urlcheck_c.specs.RecordPlaces.{host_text, length_in, placed_span, port_text}
use Rattle.urlcheck_c.proofs.RecordPlaceLemmas.{between, host_reach, port_reach, query_reach, record_length, spans_read}
use Rattle.urlcheck_c.proofs.records.record_places.record_spans.Goals as goal

pub marked_span-host-requires-clause-end : goal.marked_span-host-requires-clause-end
marked_span-host-requires-clause-end c =
    (length_in (host_text c.requires.0.host), rw c.requires.1 (host_reach c.requires.0))

pub marked_span-port-requires-clause-end : goal.marked_span-port-requires-clause-end
marked_span-port-requires-clause-end c =
    (length_in (port_text c.requires.0.host c.requires.0.port), rw c.requires.1 (port_reach c.requires.0))

pub marked_span-query-requires-clause-end : goal.marked_span-query-requires-clause-end
marked_span-query-requires-clause-end c = (length_in c.requires.0.query, rw c.requires.1 (query_reach c.requires.0))

pub marked_span-fragment-requires-clause-end : goal.marked_span-fragment-requires-clause-end
marked_span-fragment-requires-clause-end c =
    (length_in c.requires.0.fragment, rw c.requires.1 (c.requires.2 ∙ record_length c.requires.0))

pub returns : goal.returns
returns c = λ url e w.
    let host = length_in (host_text url.host) in
    let port = length_in (port_text url.host url.port) in
    let query = length_in url.query in
    let fragment = length_in url.fragment in
    spans_read _ _ _ _ _ _ url
    (between _ _ _ _ c.span_between-scheme.ensures (omega (arith, ap (λ (l : UrlLayout). l.scheme_end) e)))
    (c.marked_span-host.ensures host (rw e (host_reach url))
    ∙ ap (λ (l : UrlLayout). placed_span (l.scheme_end + 1) 2 host) e)
    (c.marked_span-port.ensures port (rw e (port_reach url)) ∙ ap (λ (l : UrlLayout). placed_span l.host_end 1 port) e)
    (between _ _ _ (length (serial_path url.path)) c.span_between-path.ensures (rw e refl)
    ∙ ap (λ (l : UrlLayout). placed_span l.path_start 0 (Some (length (serial_path url.path)))) e)
    (c.marked_span-query.ensures query (rw e (query_reach url))
    ∙ ap (λ (l : UrlLayout). placed_span l.path_end 1 query) e)
    (c.marked_span-fragment.ensures fragment (rw e (w ∙ record_length url))
    ∙ ap (λ (l : UrlLayout). placed_span l.query_end 1 fragment) e)
