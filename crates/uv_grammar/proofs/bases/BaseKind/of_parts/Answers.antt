-- The kind says what scheme, path and host the parts denote, whose scheme is in lower case.
use Rattle.std.proofs.Common.{chars, sym, ap, ◌∙◌}
use Rattle.uv_model.specs.Records.Denote.{denote}
use Rattle.uv_model.specs.Scheme.{default_port, scheme_class}
use Rattle.uv_model.proofs.SchemeLemmas.{default_port-lowercase, scheme_class-lowercase}
use Rattle.uv_grammar.proofs.bases.BaseKind.of_parts.Goals as goal

pub returns : goal.returns
unfolding denote
returns c =
    let written = chars c.written_scheme.result.now in
    record {
      scheme = record {
        class = ap scheme_class (sym c.written_scheme.ensures) ∙ (scheme_class-lowercase written ∙ c.of.ensures.class);
        port = ap default_port (sym c.written_scheme.ensures) ∙ (default_port-lowercase written ∙ c.of.ensures.port);
      };
      path = c.denotes_opaque_path.ensures _;
      host = c.denotes_empty_host.ensures;
    }
