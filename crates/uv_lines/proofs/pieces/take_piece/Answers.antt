-- Each line of a piece, and its end.
use Rattle.std.proofs.Common.{◌≡◌, ◌+◌, ◌-◌, [], ◌∷◌, ◌++◌, ◌∙◌, take, drop, length, arith, rules, subst, ap, sym}
use Rattle.std.proofs.lemmas.Grind.{common_steps}
use Rattle.std.proofs.lemmas.Result.{err_from_is_err_and}
use Rattle.uv_lines.specs.Line.{bytes_of}
use Rattle.uv_lines.specs.Lines.{line_feed}
use Rattle.uv_lines.proofs.LineLemmas.{known_on, part_is, piece_joined, piece_taken, rest_is}
use Rattle.uv_lines.proofs.TakingLemmas.{leads_on}
use Rattle.uv_lines.proofs.pieces.take_piece.Goals as goal

pub text_beyond-text-requires-text-text : goal.text_beyond-text-requires-text-text
text_beyond-text-requires-text-text g c = search rules

pub take_line-requires-clause-whole : goal.take_line-requires-clause-whole
take_line-requires-clause-whole g c =
    let piece = c.args.piece.now in
    let start = c.loop-length.start in
    let size = c.in-Some.length in
    part_is piece start size
    (subst (λ l. drop size l ≡ line_feed ∷ drop (size + 1) l) (rest_is piece start) c.in-Some.ensures.some.2)
    ∙ ap (λ l. l ++ line_feed ∷ [])
    (sym (c.line_before-line.ensures ∙ ap (λ l. take size l) (rest_is piece start)))

pub returns-in_err-take_line-clause-fault : goal.returns-in_err-take_line-clause-fault
returns-in_err-take_line-clause-fault g c =
    let piece = c.args.piece.now in
    let start = c.loop-length.start in
    let size = c.in-Some.length in
    let rest = drop (size + 1) (drop start piece) in
    let line = bytes_of c.line_before-line.result in
    let p = err_from_is_err_and c.from_residual.result c.from_residual.ensures.1 in
    rw (p.1, p.2) (leads_on g.T.Taker.stands (g.T.Taker.stops c.in_err-take_line.field-0.0) c.args.taker.now
    c.loop-length.taker c.take_line.new.self (g.W.Sink.contents c.args.writer.now)
    (g.W.Sink.contents c.loop-length.writer) (g.W.Sink.contents c.take_line.new.writer) (take start piece)
    (line ++ line_feed ∷ rest) piece
    (ap (λ l. take start piece ++ (l ++ line_feed ∷ rest))
    (c.line_before-line.ensures ∙ ap (λ l. take size l) (rest_is piece start))
    ∙ piece_joined [] piece start size
    (subst (λ l. drop size l ≡ line_feed ∷ drop (size + 1) l) (rest_is piece start) c.in-Some.ensures.some.2))
    c.loop-length.invariant.keeps (c.in_err-take_line.ensures.fault rest))

pub loop-length-preserved : goal.loop-length-preserved
loop-length-preserved g c =
    let piece = c.args.piece.now in
    let start = c.loop-length.start in
    let size = c.in-Some.length in
    let before = c.loop-length.invariant in
    let one = c.in_ok-take_line.ensures in
    let line = bytes_of c.line_before-line.result in
    record {
      within = let inside = c.in-Some.ensures.some.0 in grind (arith, common_steps);
      is_text = search rules;
      known = known_on piece c.text_beyond-text.result.now c.text_after-text.result.now start size
          c.text_beyond-text.ensures c.text_after-text.ensures;
      quiet = one.quiet ∙ before.quiet;
      keeps = leads_on g.T.Taker.stands g.T.Taker.stands c.args.taker.now c.loop-length.taker c.take_line.new.self
          (g.W.Sink.contents c.args.writer.now) (g.W.Sink.contents c.loop-length.writer)
          (g.W.Sink.contents c.take_line.new.writer) (take start piece)
          (line ++ line_feed ∷ []) (take (start + (size + 1)) piece)
          (ap (λ l. take start piece ++ (l ++ line_feed ∷ []))
          (c.line_before-line.ensures ∙ ap (λ l. take size l) (rest_is piece start))
          ∙ piece_taken [] piece start size
          (subst (λ l. drop size l ≡ line_feed ∷ drop (size + 1) l) (rest_is piece start) c.in-Some.ensures.some.2))
          before.keeps one.stands;
    }
