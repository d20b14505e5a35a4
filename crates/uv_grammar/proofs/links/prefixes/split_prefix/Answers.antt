-- The end of an ASCII prefix is a boundary, and its bytes are its code points.
use Rattle.uv_grammar.proofs.PlainPrefixLemmas.{prefix_boundary, prefix_cut}
use Rattle.uv_grammar.proofs.links.prefixes.split_prefix.Goals as goal

pub split_at-requires : goal.split_at-requires
split_at-requires c = λ text. prefix_boundary c.args.text.now c.args.end text c.requires

pub returns : goal.returns
returns c =
    prefix_cut c.args.text.now c.split_at.result.0.now c.split_at.result.1 c.args.end c.requires
    c.split_at.ensures.prefix c.split_at.ensures.rest
