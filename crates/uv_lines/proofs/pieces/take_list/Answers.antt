-- Room for a piece first, and then the pieces.
use Rattle.std.proofs.Common.{[], arith, refl, sym, add-zero}
use Rattle.std.proofs.KnownBytes.{Consumes-nil}
use Rattle.uv_lines.proofs.pieces.take_list.Goals as goal

pub returns-in_default-clause-fault : goal.returns-in_default-clause-fault
returns-in_default-clause-fault g c = (
  [],
  Consumes-nil (g.R.Source.remaining c.args.reader.now),
  (refl, refl, refl),
  sym (add-zero (g.R.Source.failed c.args.reader.now)),
  sym (add-zero (g.W.Sink.failed c.args.writer.now)),
)

pub take_pieces-requires-clause-reads : goal.take_pieces-requires-clause-reads
take_pieces-requires-clause-reads g c = c.requires.reads

pub take_pieces-requires-clause-writes : goal.take_pieces-requires-clause-writes
take_pieces-requires-clause-writes g c = c.requires.writes

pub take_pieces-requires-clause-room : goal.take_pieces-requires-clause-room
take_pieces-requires-clause-room g c =
    let size = c.as_mut_slice.ensures.len in
    let some = c.in-Ok.ensures in
    omega (arith, size, some)

pub take_pieces-requires-clause-start : goal.take_pieces-requires-clause-start
take_pieces-requires-clause-start g c = c.requires.start

pub take_pieces-requires-clause-rests : goal.take_pieces-requires-clause-rests
take_pieces-requires-clause-rests g c = c.requires.rests

pub returns-clause-ends : goal.returns-clause-ends
returns-clause-ends g c = c.take_pieces.ensures.ends

pub returns-clause-fault : goal.returns-clause-fault
returns-clause-fault g c = c.take_pieces.ensures.fault

pub returns-clause-quiet : goal.returns-clause-quiet
returns-clause-quiet g c = c.take_pieces.ensures.quiet
