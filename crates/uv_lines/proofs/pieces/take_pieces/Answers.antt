-- Each piece of a list, its end, and each fault.
use Rattle.std.proofs.Common.{◌+◌, ◌<◌, ◌++◌, ◌∙◌, [], length, take}
use Rattle.std.proofs.Common.{arith, refl, sym, ap, add-zero, inl, inr, length-append}
use Rattle.std.proofs.KnownBytes.{Consumes-nil, Consumes-kept, Consumes-trans}
use Rattle.uv_lines.proofs.TakingLemmas.{read_end}
use Rattle.uv_lines.proofs.pieces.take_pieces.Goals as goal

pub loop-turn-init : goal.loop-turn-init
loop-turn-init g c = record {
  room = c.requires.room;
  stands = ([], Consumes-nil (g.R.Source.remaining c.args.reader.now), c.requires.start, omega arith);
  rests = c.requires.rests;
  reads = refl;
  writes = refl;
}

pub read-requires : goal.read-requires
read-requires g c = rw c.loop-turn.invariant.reads c.requires.reads

pub end_list-requires : goal.end_list-requires
end_list-requires g c = rw c.loop-turn.invariant.writes c.requires.writes

pub take_piece-requires : goal.take_piece-requires
take_piece-requires g c = rw c.loop-turn.invariant.writes c.requires.writes

pub slice_bounds-take_piece-end : goal.slice_bounds-take_piece-end
slice_bounds-take_piece-end g c = c.in-Ok.ensures.bound.0

pub slice_bounds-take_piece-end-in-loop-turn : goal.slice_bounds-take_piece-end-in-loop-turn
slice_bounds-take_piece-end-in-loop-turn g c = c.in-Ok.ensures.bound.1

pub returns-in_default-clause-fault : goal.returns-in_default-clause-fault
returns-in_default-clause-fault g c =
    let i = c.loop-turn.invariant in
    let s = i.stands in (
      s.0,
      Consumes-kept _ (g.R.Source.remaining c.loop-turn.reader) _ s.0 s.1 c.in_default.ensures.bytes,
      (s.2, i.rests),
      c.in_default.ensures.count ∙ ap (λ n. n + 1) i.reads,
      i.writes ∙ sym (add-zero (g.W.Sink.failed c.args.writer.now)),
    )

pub returns-clause-fault : goal.returns-clause-fault
returns-clause-fault g c =
    let i = c.loop-turn.invariant in
    let s = i.stands in (
      s.0,
      s.1,
      (s.2, i.rests, (let turns = s.3 in let last = c.loop-turn-test.false in omega (arith, turns, last))),
      i.reads ∙ sym (add-zero (g.R.Source.failed c.args.reader.now)),
      i.writes ∙ sym (add-zero (g.W.Sink.failed c.args.writer.now)),
    )

pub returns-in-Ok-end_list-clause-ends : goal.returns-in-Ok-end_list-clause-ends
returns-in-Ok-end_list-clause-ends g c =
    let i = c.loop-turn.invariant in
    let s = i.stands in
    let bytes = c.in-Ok.ensures.bytes in
    let room : 0 < length c.read.new.into =
    (let same = c.read.auto.into in let some = i.room in omega (arith, same, some)) in
    let end = read_end (g.R.Source.remaining c.args.reader.now) (g.R.Source.remaining c.loop-turn.reader)
    (g.R.Source.remaining c.read.new.self) s.0 c.read.new.into c.in-Ok.count c.if-count-eq0.true room s.1 bytes.0
    bytes.1 in (
      s.0,
      end.0,
      end.1,
      c.in-Ok-end_list.ensures.ends c.args.taker.now (g.W.Sink.contents c.args.writer.now) s.0 s.2,
    )

pub returns-in-Ok-end_list-clause-quiet : goal.returns-in-Ok-end_list-clause-quiet
returns-in-Ok-end_list-clause-quiet g c =
    let i = c.loop-turn.invariant in (
      c.in-Ok.ensures.count ∙ add-zero (g.R.Source.failed c.loop-turn.reader) ∙ i.reads,
      c.in-Ok-end_list.ensures.quiet ∙ i.writes,
    )

pub returns-in-Err-clause-fault : goal.returns-in-Err-clause-fault
returns-in-Err-clause-fault g c =
    let i = c.loop-turn.invariant in
    let s = i.stands in
    let bytes = c.in-Ok.ensures.bytes in
    let room : 0 < length c.read.new.into =
    (let same = c.read.auto.into in let some = i.room in omega (arith, same, some)) in
    let end = read_end (g.R.Source.remaining c.args.reader.now) (g.R.Source.remaining c.loop-turn.reader)
    (g.R.Source.remaining c.read.new.self) s.0 c.read.new.into c.in-Ok.count c.if-count-eq0.true room s.1 bytes.0
    bytes.1 in (
      s.0,
      end.0,
      inr (end.1, c.in-Err.ensures.fault c.args.taker.now (g.W.Sink.contents c.args.writer.now) s.0 s.2),
      c.in-Ok.ensures.count ∙ add-zero (g.R.Source.failed c.loop-turn.reader) ∙ i.reads
          ∙ sym (add-zero (g.R.Source.failed c.args.reader.now)),
      c.in-Err.ensures.failed ∙ ap (λ n. n + g.T.Taker.writes c.in-Err.fault) i.writes,
    )

pub returns-in-Err-take_piece-clause-fault : goal.returns-in-Err-take_piece-clause-fault
returns-in-Err-take_piece-clause-fault g c =
    let i = c.loop-turn.invariant in
    let s = i.stands in
    let more = take c.in-Ok.count c.read.new.into in (
      s.0 ++ more,
      Consumes-trans _ (g.R.Source.remaining c.loop-turn.reader) _ s.0 more s.1 c.in-Ok.ensures.bytes.0,
      inl (c.in-Err-take_piece.ensures.fault c.args.taker.now (g.W.Sink.contents c.args.writer.now) s.0 s.2),
      c.in-Ok.ensures.count ∙ add-zero (g.R.Source.failed c.loop-turn.reader) ∙ i.reads
          ∙ sym (add-zero (g.R.Source.failed c.args.reader.now)),
      c.in-Err-take_piece.ensures.failed ∙ ap (λ n. n + g.T.Taker.writes c.in-Err-take_piece.fault) i.writes,
    )

pub loop-turn-preserved : goal.loop-turn-preserved
loop-turn-preserved g c =
    let i = c.loop-turn.invariant in
    let s = i.stands in
    let more = take c.in-Ok.count c.read.new.into in
    let one = c.in_default-take_piece.ensures in
    record {
      room = (let same = c.read.auto.into in let some = i.room in omega (arith, same, some));
      stands = (
        s.0 ++ more,
        Consumes-trans _ (g.R.Source.remaining c.loop-turn.reader) _ s.0 more s.1 c.in-Ok.ensures.bytes.0,
        one.stands c.args.taker.now (g.W.Sink.contents c.args.writer.now) s.0 s.2,
        (let turns = s.3 in
            let size = c.in-Ok.ensures.bound.1 in
            let joined = length-append s.0 more in
            let some = c.if-count-eq0.false in
            omega (arith, turns, size, joined, some)),
      );
      rests = one.rests;
      reads = c.in-Ok.ensures.count ∙ add-zero (g.R.Source.failed c.loop-turn.reader) ∙ i.reads;
      writes = one.quiet ∙ i.writes;
    }
