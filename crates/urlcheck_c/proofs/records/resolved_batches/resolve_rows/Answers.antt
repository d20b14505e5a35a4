-- A text more is resolved each turn.
use Rattle.std.proofs.Common.{◌≡◌, ◌+◌, ◌<◌, ◌∙◌, ℕ, List, ap, arith, length, subst}
use Rattle.std.specs.Prelude.{string_bytes}
use Rattle.urlcheck_c.specs.ResolvedBatch.{AreRowsResolved, IsResolvedRow, resolved_columns}
use Rattle.urlcheck_c.specs.Batch.{IsPut, one_if_valid}
use Rattle.urlcheck_c.specs.Offsets.{row_count}
use Rattle.urlcheck_c.proofs.BatchLemmas.{none_more, one_at_most, one_more}
use Rattle.urlcheck_c.proofs.ResolvedBatchLemmas.{none_resolved, resolved_more}
use Rattle.urlcheck_c.proofs.records.resolved_batches.resolve_rows.Goals.{then-found-eq0, else-found-eq0}
use Rattle.urlcheck_c.proofs.records.resolved_batches.resolve_rows.Goals as goal

pub loop-row-init : goal.loop-row-init
loop-row-init c = (
  omega arith,
  λ number base read.
      none_resolved number base c.args.texts.now c.args.offsets.now _ _ _ c.new-text.ensures.bytes
      (subst (λ (n : ℕ). IsPut (n + 1) 0 0 c.args.ends.now c.put_end.new.ends) c.row_count-rows.ensures c.put_end.ensures),
)

pub loop-row-preserved : goal.loop-row-preserved
loop-row-preserved c =
    let last = c.append_resolved-found.result in
    let rows = c.row_count-rows.ensures in
    let put : (value : ℕ) → (old new : List ℕ) → IsPut c.row_count-rows.result c.loop-row.row value old new
    → IsPut (row_count c.args.offsets.now) c.loop-row.row value old new
    = λ value old new is. subst (λ (n : ℕ). IsPut n c.loop-row.row value old new) rows is in
    let counted : c.if-found-eq0.valid ≡ c.loop-row.valid + one_if_valid last
    = elim c.if-found-eq0.branch [
      | then-found-eq0 w ↦ w.valid-is ∙ one_more last c.loop-row.valid w.if-found-eq0.true
      | else-found-eq0 w ↦ w.valid-is ∙ none_more last c.loop-row.valid w.if-found-eq0.false
    ] in (
      omega (arith, c.loop-row.invariant.0, counted, one_at_most last),
      λ number base read.
          let found = c.append_resolved-found.ensures.found number base read in
          resolved_more number base c.args.texts.now c.args.offsets.now c.loop-row.row _ _ _
          (string_bytes c.loop-row.text) found.0 _ c.loop-row.valid c.if-found-eq0.valid last
          (subst (λ (n : ℕ). c.loop-row.row < n) rows c.loop-row-test.true) (c.loop-row.invariant.1 number base read)
          (subst (λ (text : List ℕ). IsResolvedRow number base text last found.0) c.row_text-bytes.ensures found.1)
          found.2 counted (put last.verdict _ _ c.put.ensures) (put last.rule _ _ c.put-in-loop-row.ensures)
          (put last.place _ _ c.put-in-loop-row-2.ensures)
          c.row_count-rows.result (length c.as_str.result.now) rows (ap length c.as_str.ensures.value)
          c.put_end-in-loop-row.ensures,
    )

pub returns : goal.returns
returns c = λ number base read.
    let all : c.loop-row.row ≡ row_count c.args.offsets.now
    = omega (arith, c.loop-row-test.false, c.loop-row.auto.row-end, c.row_count-rows.ensures) in
    subst
    (λ (rows : ℕ). AreRowsResolved number base c.args.texts.now c.args.offsets.now rows
    (resolved_columns c.args.verdicts.now c.args.rules.now c.args.places.now c.args.ends.now)
    (resolved_columns c.loop-row.verdicts c.loop-row.rules c.loop-row.places c.loop-row.ends)
    (string_bytes c.loop-row.text) c.loop-row.valid)
    all (c.loop-row.invariant.1 number base read)
