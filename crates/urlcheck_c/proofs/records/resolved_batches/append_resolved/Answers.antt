-- What is appended is the text that is answered.
use Rattle.std.proofs.Common.{[], append-nil, sym}
use Rattle.urlcheck_c.proofs.ResolvedBatchLemmas.{appended_row, refused_row, small_appended}
use Rattle.urlcheck_c.proofs.records.resolved_batches.append_resolved.Goals as goal

pub returns-in-Ok-clause-found : goal.returns-in-Ok-clause-found
returns-in-Ok-clause-found c = λ number base read.
    appended_row number base c.args.bytes.now c.in-Ok.text _ _ _ c.appended.result (c.in-Ok.ensures number base read)
    c.as_str.ensures.value c.appended.ensures

pub returns-in-Ok-clause-small : goal.returns-in-Ok-clause-small
returns-in-Ok-clause-small c = small_appended _ _ _ c.appended.result c.appended.ensures

pub returns-in-Err-clause-found : goal.returns-in-Err-clause-found
returns-in-Err-clause-found c = λ number base read. (
  [],
  (refused_row number base c.args.bytes.now c.in-Err.found (c.in-Err.ensures number base read)).0,
  sym (append-nil _),
)

pub returns-in-Err-clause-small : goal.returns-in-Err-clause-small
returns-in-Err-clause-small c =
    let read = c.requires in
    (refused_row read.0 read.1 c.args.bytes.now c.in-Err.found (c.in-Err.ensures read.0 read.1 read.2)).1
