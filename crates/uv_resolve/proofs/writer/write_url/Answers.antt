-- The parts are written one after the other, as the serializer writes the parts of the denoted URL.
use Rattle.std.proofs.Common.{ap, false, length, option_copied, refl, ◌∙◌}
use Rattle.std.specs.Prelude.{option_map}
use Rattle.uv_model.specs.Encoding.{encoded}
use Rattle.uv_model.specs.Records.Serialize.{serial}
use Rattle.uv_resolve.specs.Layout.{layout_of}
use Rattle.uv_resolve.proofs.RecordLemmas.{denote-fields, fields}
use Rattle.uv_resolve.proofs.WriterLemmas.{kind-is_some, layout-read, parts-written, url-written}
use Rattle.uv_resolve.proofs.writer.write_url.Goals as goal

pub returns-clause-text : goal.returns-clause-text
returns-clause-text c =
    let has = c.is_some-has_host.ensures ∙ kind-is_some _ _ c.in_ok-host.ensures.kind_is in
    parts-written _ _ _ _ _ _ _ _ _ _ _ _ _ c.requires.empty c.in_ok-class.ensures.text
    c.in_ok-host.ensures.written c.in_ok-push_port_after.ensures c.in_ok-path_start.ensures.written
    c.in_ok-push_query.ensures c.in_ok-push_fragment.ensures
    ∙ url-written _ _ _ _ _ _ _ has
    ∙ ap serial
    (denote-fields (option_copied c.args.base) c.args.parts.now c.in_ok-class.class _ _ _ _ _ _
    c.in_ok-class.ensures.class refl refl refl refl refl refl)

pub returns-clause-layout : goal.returns-clause-layout
returns-clause-layout c =
    let has = c.is_some-has_host.ensures ∙ kind-is_some _ _ c.in_ok-host.ensures.kind_is in
    layout-read _ _ _ _ _ _ _ _ _ _ _ _ _ _ _
    (fields _ _ _ _ _ (option_map (encoded false) c.args.parts.now.fragment)) (ap length c.as_str-scheme_end.ensures.value)
    (ap length c.as_str-host_end.ensures.value) (ap length c.as_str-port_end.ensures.value)
    (ap length c.as_str-path_end.ensures.value) (ap length c.as_str-query_end.ensures.value)
    c.requires.empty c.in_ok-class.ensures.text c.in_ok-host.ensures.written
    c.in_ok-push_port_after.ensures c.in_ok-path_start.ensures.starts c.in_ok-path_start.ensures.written
    c.in_ok-push_query.ensures has c.in_ok-host.ensures.kind_is
    (c.has_opaque_path.ensures c.in_ok-class.class)
    ∙ ap layout_of
    (denote-fields (option_copied c.args.base) c.args.parts.now c.in_ok-class.class _ _ _ _ _ _
    c.in_ok-class.ensures.class refl refl refl refl refl refl)
