-- The lanes of a load that are the byte.
use Rattle.std.proofs.Common.{eqb, w8, arith}
use Rattle.std.proofs.lemmas.Simd.{bitmask_splat, length-chunk}
use lib.Lanes.{chunk}
use Rattle.uv_grammar.proofs.SearchLemmas.{first_of_load, none_of_load}
use Rattle.uv_grammar.proofs.marks.search.first_of_load.Goals as goal

pub bounds-bytes-from : goal.bounds-bytes-from
bounds-bytes-from g c = omega (arith, c.requires.within)

pub returns-then-found-eq0 : goal.returns-then-found-eq0
returns-then-found-eq0 g c =
    let v = chunk c.args.from g.row.N c.args.bytes.now in
    let size = length-chunk c.args.from g.row.N c.args.bytes.now c.requires.within in
    none_of_load c.args.mark c.args.bytes.now c.args.from g.row.N _ c.requires.within
    (bitmask_splat w8 eqb v g.row.N c.args.mark size c.requires.lanes) c.if-found-eq0.true

pub returns-else-found-eq0 : goal.returns-else-found-eq0
returns-else-found-eq0 g c =
    let v = chunk c.args.from g.row.N c.args.bytes.now in
    let size = length-chunk c.args.from g.row.N c.args.bytes.now c.requires.within in
    first_of_load c.args.mark c.args.bytes.now c.args.from g.row.N _ c.requires.within
    (bitmask_splat w8 eqb v g.row.N c.args.mark size c.requires.lanes) c.requires.lanes
    (omega (arith, c.if-found-eq0.false))

-- the place that is found is within the load
pub overflow_cast-result : goal.overflow_cast-result
overflow_cast-result g c =
    let high = (returns-else-found-eq0 g c).0.high in
    omega (arith, high, c.requires.lanes)

pub overflow_add-result : goal.overflow_add-result
overflow_add-result g c =
    let high = (returns-else-found-eq0 g c).0.high in
    omega (arith, high, c.requires.within)
