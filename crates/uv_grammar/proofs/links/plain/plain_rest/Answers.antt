-- The path, the query and the fragment, each cut after the one before.
use Rattle.std.proofs.Common.{ℕ, List, ap, subst, sym, ◌∙◌}
use Rattle.std.specs.Str.{chars}
use Rattle.uv_model.specs.Ascii.{number_sign}
use Rattle.uv_grammar.specs.PlainLinks.{IsPartCut}
use Rattle.uv_grammar.specs.Slices.{chars_of_option}
use Rattle.uv_grammar.proofs.HostLemmas.{no_chars}
use Rattle.uv_grammar.proofs.links.plain.plain_rest.Goals as goal

pub returns : goal.returns
returns c = record {
  tail = chars c.in-Some.rest;
  end = chars c.split_part-rest.result.1;
  path_cut = c.in-Some.ensures;
  query_cut = c.split_part-rest.ensures;
  fragment_cut =
      subst
      (λ (s : List ℕ).
      IsPartCut number_sign (chars c.split_part-rest.result.1) (chars_of_option c.split_part-rest-2.result.0) s)
      (ap chars (sym c.as_str.ensures)
      ∙ no_chars c.as_str.result.now (sym c.is_empty.ensures ∙ c.if-not-is_empty.false)) c.split_part-rest-2.ensures;
}
