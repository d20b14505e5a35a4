-- The run of a scheme's bytes, and what is after it.
use Rattle.std.proofs.Common.{◌∙◌, sym}
use Rattle.std.proofs.lemmas.List.Sums.{prefix_len-le-length}
use Rattle.uv_model.specs.Scheme.{is_scheme_code_point}
use Rattle.uv_grammar.proofs.SchemeEndLemmas.{no_scheme_found, scheme_found}
use Rattle.uv_grammar.proofs.marks.beginnings.scheme_end.Goals as goal

pub ends_scheme-requires : goal.ends_scheme-requires
ends_scheme-requires c = rw c.scheme_prefix-end.ensures (prefix_len-le-length is_scheme_code_point c.args.bytes.now)

pub returns-then-ends_scheme : goal.returns-then-ends_scheme
returns-then-ends_scheme c =
    scheme_found c.args.bytes.now c.scheme_prefix-end.result c.scheme_prefix-end.ensures
    (sym c.ends_scheme.ensures ∙ c.if-ends_scheme.true)

pub returns-else-ends_scheme : goal.returns-else-ends_scheme
returns-else-ends_scheme c =
    no_scheme_found c.args.bytes.now c.scheme_prefix-end.result c.scheme_prefix-end.ensures
    (sym c.ends_scheme.ensures ∙ c.if-ends_scheme.false)
