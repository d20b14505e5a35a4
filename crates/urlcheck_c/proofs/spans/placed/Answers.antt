-- The places of the parts.
use Rattle.std.proofs.Common.{◌∙◌, ap, length}
use Rattle.urlcheck_c.proofs.SpanLemmas.{laid_spans, valid_bytes, whole_length}
use Rattle.urlcheck_c.proofs.spans.placed.Goals as goal

pub laid-requires : goal.laid-requires
laid-requires c =
    ap length (valid_bytes c.args.text.now c.args.parts.now c.utf8.text c.requires) ∙ whole_length c.args.parts.now

pub returns : goal.returns
returns c =
    rw (valid_bytes c.args.text.now c.args.parts.now c.utf8.text c.requires, c.laid.ensures)
    (laid_spans c.args.parts.now)
