-- What is left is no longer than the text.
use Rattle.std.proofs.Common.{arith}
use Rattle.urlcheck_c.proofs.PlaceLemmas.{bytes_at_place}
use Rattle.urlcheck_c.proofs.places.bytes_before.Goals as goal

pub overflow_sub-result : goal.overflow_sub-result
overflow_sub-result c =
    let whole = bytes_at_place c.args.text.now c.args.left.now c.args.place c.utf8.text c.utf8.left c.requires in
    omega (arith, whole)

pub returns : goal.returns
returns c =
    let whole = bytes_at_place c.args.text.now c.args.left.now c.args.place c.utf8.text c.utf8.left c.requires in
    omega (arith, whole)
