-- The answer about the text fits the URL that is laid out so.
use Rattle.std.proofs.Common.{◌≡◌, ◌∙◌, Bool, true, false, List, ℕ, ap, length, refl, subst, sym}
use Rattle.std.specs.Int.{from_bool}
use Rattle.uv_resolve.specs.declared.layout.UrlLayout.{UrlLayout}
use Rattle.urlcheck_c.specs.declared.spans.Spans.{Spans}
use Rattle.urlcheck_c.specs.Base.{flag_number}
use Rattle.urlcheck_c.specs.Buffer.{IsWritten}
use Rattle.urlcheck_c.specs.RecordPlaces.{AreRecordSpans, host_number}
use Rattle.urlcheck_c.proofs.RecordPlaceLemmas.{record_places}
use Rattle.urlcheck_c.proofs.records.placed.Goals as goal

-- a number of a truth value
flag_from : (flag : Bool) → from_bool flag ≡ flag_number flag
flag_from true = refl
flag_from false = refl

pub returns : goal.returns
returns c = λ url is.
    let text = c.as_bytes-text.ensures.value ∙ is.text in
    record {
      found = c.plain.ensures;
      written =
          subst (λ (t : List ℕ). IsWritten t c.args.out.now c.write_prefix.new.out c.write_prefix.result) text
          c.write_prefix.ensures;
      parts =
          subst (λ (s : Spans). AreRecordSpans url s)
          (sym (c.record_spans.ensures url is.layout (ap length text))) (record_places url);
      host = c.host_number.ensures ∙ ap (λ (l : UrlLayout). host_number l.host) is.layout;
      opaque_path =
          c.from.ensures ∙ flag_from c.args.laid.now.layout.has_opaque_path
          ∙ ap (λ (l : UrlLayout). flag_number l.has_opaque_path) is.layout;
    }
