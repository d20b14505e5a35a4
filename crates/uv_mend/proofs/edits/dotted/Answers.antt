-- The text before the place, `/.` and the text from there on were written.
use Rattle.std.proofs.Common.{ap, chars, sym, take, ◌∙◌, ◌++◌}
use Rattle.std.proofs.lemmas.List.{take-append-drop}
use Rattle.uv_mend.proofs.EditedRest.{dotted_joined}
use Rattle.uv_mend.proofs.TextLemmas.{begun, followed, written}
use Rattle.uv_mend.proofs.edits.dotted.Goals as goal

pub before_rest-requires : goal.before_rest-requires
before_rest-requires c =
    let text = chars c.args.text.now in
    let n = c.args.place in
    (take n text, sym (ap (λ t. take n text ++ t) c.after_code_points-after.ensures ∙ take-append-drop n text))

pub returns : goal.returns
returns c =
    let text = chars c.args.text.now in
    let n = c.args.place in
    let whole = sym (ap (λ t. take n text ++ t) c.after_code_points-after.ensures ∙ take-append-drop n text) in
    let front = begun _ _ _ c.in_ok-out.ensures.bytes c.in_ok-push_text.ensures in
    let dot = followed _ _ _ _ front c.in_ok-push_text-2.ensures in
    written c.push_text-3.new.out _ (followed _ _ _ _ dot c.in_ok-push_text-3.ensures)
    ∙ dotted_joined n text _ _ (c.before_rest.ensures (take n text) whole) c.after_code_points-after.ensures
