-- A text more is checked each turn.
use Rattle.std.proofs.Common.{◌≡◌, ◌+◌, ◌<◌, ◌∙◌, ℕ, List, option_copied, subst}
use Rattle.urlcheck_c.specs.Answer.{IsFound}
use Rattle.urlcheck_c.specs.Batch.{IsPut, one_if_valid}
use Rattle.urlcheck_c.specs.Offsets.{row_count}
use Rattle.urlcheck_c.proofs.BatchLemmas.{checked_more, none_more, one_more}
use Rattle.urlcheck_c.proofs.batches.check_rows.Goals.{then-found-eq0, else-found-eq0}
use Rattle.urlcheck_c.proofs.batches.check_rows.Goals as goal

pub loop-row-preserved : goal.loop-row-preserved
loop-row-preserved c =
    let base = option_copied c.args.base in
    let last = c.found_of-found.result in
    let rows = c.row_count-rows.ensures in
    let put : (value : ℕ) → (old new : List ℕ) → IsPut c.row_count-rows.result c.loop-row.row value old new
    → IsPut (row_count c.args.offsets.now) c.loop-row.row value old new
    = λ value old new is. subst (λ (n : ℕ). IsPut n c.loop-row.row value old new) rows is in
    let counted : c.if-found-eq0.valid ≡ c.loop-row.valid + one_if_valid last
    = elim c.if-found-eq0.branch [
      | then-found-eq0 w ↦ w.valid-is ∙ one_more last c.loop-row.valid w.if-found-eq0.true
      | else-found-eq0 w ↦ w.valid-is ∙ none_more last c.loop-row.valid w.if-found-eq0.false
    ] in
    checked_more c.args.profile base c.args.texts.now c.args.offsets.now c.loop-row.row _ _ _ c.loop-row.valid
    c.if-found-eq0.valid last (subst (λ (n : ℕ). c.loop-row.row < n) rows c.loop-row-test.true) c.loop-row.invariant
    (subst (λ (text : List ℕ). IsFound c.args.profile base text last) c.row_text-text.ensures c.found_of-found.ensures.found)
    counted (put last.verdict _ _ c.put.ensures) (put last.rule _ _ c.put-in-loop-row.ensures)
    (put last.place _ _ c.put-in-loop-row-2.ensures)
