-- The run by rows that hold the class is the run by the class.
use Rattle.std.proofs.Common.{◌+◌, drop, ap, ◌∙◌, sym, subst, Fits, w8}
use Rattle.std.proofs.lemmas.List.{get_or-drop}
use Rattle.uv_text.specs.Splits.{class_has}
use Rattle.uv_text.proofs.RowsLemmas.{run_held}
use Rattle.uv_text.proofs.units.UnitClass.run_end.Goals as goal

pub returns : goal.returns
returns c =
    let bytes = c.args.bytes.now in
    let place = c.args.place in
    c.row_end.ensures
    ∙ ap (λ n. place + n) (run_held (class_has c.args.self) c.rows.result.now (drop place bytes) c.rows.ensures
    (λ k. subst (Fits w8) (sym (get_or-drop place bytes k 0)) (c.type_inv.bytes (place + k))))
