-- The parts of a cut text are those between its ends.
use Rattle.std.proofs.Common.{ap}
use Rattle.std.specs.Prelude.{option_map}
use Rattle.uv_model.specs.Cut.{Cut}
use Rattle.uv_grammar.specs.Built.{built_as, form_of}
use Rattle.uv_grammar.specs.PartsHost.{as_host}
use Rattle.uv_grammar.proofs.EndLemmas.{cut_ends, cut_length}
use Rattle.uv_grammar.proofs.built.build.Goals as goal

pub ends_of-ends-requires : goal.ends_of-ends-requires
ends_of-ends-requires c = cut_length c.requires.0 c.args.text.now c.args.cut c.utf8.text c.requires.1

pub invariant_of-result : goal.invariant_of-result
invariant_of-result c =
    rw c.ends_of-ends.ensures (cut_ends c.requires.0 c.args.text.now c.args.cut c.utf8.text c.requires.1).ends

pub returns : goal.returns
returns c =
    let there = cut_ends c.requires.0 c.args.text.now c.args.cut c.utf8.text c.requires.1 in
    rw (c.ends_of-ends.ensures, c.form_of-form.ensures)
    (ap (λ (k : Cut). built_as (form_of c.args.cut) k (option_map as_host c.args.host) c.args.port) there.same)
