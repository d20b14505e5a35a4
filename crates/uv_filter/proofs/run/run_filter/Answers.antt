-- The list, taken line by line.
use Rattle.std.proofs.Common.{◌+◌, ◌∙◌, ap, sym}
use Rattle.std.specs.Io.KnownBytes.{IsAtEnd}
use Rattle.uv_filter.proofs.FaultLemmas.{list_to_run, ready-wrote}
use Rattle.uv_filter.proofs.StandsLemmas.{Stands-start}
use Rattle.uv_filter.proofs.run.run_filter.Goals as goal

pub take_list-requires-clause-start : goal.take_list-requires-clause-start
take_list-requires-clause-start g c =
    let p = c.new-progress.result in
    let begun = c.new-progress.ensures.begun in
    Stands-start p.filter (g.W.Sink.contents c.args.writer.now) p.begun.items p.is_long p.text.items begun.0 begun.1
    c.new-progress.ensures.text

pub returns-clause-fault : goal.returns-clause-fault
returns-clause-fault g c =
    let p = c.new-progress.result in
    let q = c.take_list.new.taker in
    let old = g.W.Sink.contents c.args.writer.now in
    let new = g.W.Sink.contents c.take_list.new.writer in
    let left = c.in-Err.ensures.fault in
    let is = list_to_run p (λ s. s.filter) _ _ _ c.in-Err.fault old left.0
    (IsAtEnd (g.R.Source.remaining c.take_list.new.reader)) q new (λ fault left. left)
    (λ stands rests. ready-wrote p.filter old left.0 q.filter q.begun.items q.is_long q.text.items new stands rests)
    left.2 in
    rw (c.fault_of_list.ensures, ← c.new-progress.ensures.filter)
    (left.0, q.filter, left.1, is.0, c.counts-in-Err.ensures)

pub returns-clause-failed : goal.returns-clause-failed
returns-clause-failed g c =
    let p = c.new-progress.result in
    let q = c.take_list.new.taker in
    let old = g.W.Sink.contents c.args.writer.now in
    let new = g.W.Sink.contents c.take_list.new.writer in
    let left = c.in-Err.ensures.fault in
    let is = list_to_run p (λ s. s.filter) _ _ _ c.in-Err.fault old left.0
    (IsAtEnd (g.R.Source.remaining c.take_list.new.reader)) q new (λ fault left. left)
    (λ stands rests. ready-wrote p.filter old left.0 q.filter q.begun.items q.is_long q.text.items new stands rests)
    left.2 in
    let before = g.R.Source.failed c.args.reader.now in
    let written = g.W.Sink.failed c.args.writer.now in
    rw c.fault_of_list.ensures
    (left.3 ∙ ap (λ n. before + n) (sym is.1), left.4 ∙ ap (λ n. written + n) (sym is.2))
