-- A line of no more bytes has no more code points.
use Rattle.uv_shown.proofs.PlaceLemmas.{few_bytes}
use Rattle.uv_shown.proofs.places.window.is_longer.Goals as goal

pub returns-else-line-most : goal.returns-else-line-most
returns-else-line-most c = few_bytes c.args.line.now c.args.most c.utf8.line c.if-line-most.false
