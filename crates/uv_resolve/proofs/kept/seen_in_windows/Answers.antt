-- The two windows cover the part.
use Rattle.std.proofs.Common.{◌∙◌, ◌&&◌, ◌-◌, List, ℕ, ap, arith, drop, false, length, take, take_all}
use Rattle.std.specs.List.{list_all}
use Rattle.std.proofs.lemmas.List.{length-drop}
use Rattle.uv_resolve.specs.Kept.{has_no_dots, is_never_encoded}
use Rattle.uv_resolve.proofs.KeptTextLemmas.{all-joined, windows-joined}
use Rattle.uv_resolve.proofs.kept.seen_in_windows.Goals as goal

pub returns-clause-encoded : goal.returns-clause-encoded
returns-clause-encoded c =
    let part = c.args.part.now in
    let start = length part - c.args.last in
    let long = length-drop start part in
    rw (c.seen_in_window-start.ensures.encoded, c.seen_in_window-end.ensures.encoded)
    (ap (λ (s : List ℕ). list_all is_never_encoded (take c.args.first part) && list_all is_never_encoded s)
    (take_all (length part - start) (drop start part) (omega (arith, long)))
    ∙ all-joined is_never_encoded c.args.first start part (omega (arith, c.requires.overlap, c.requires.last)))

pub returns-clause-dots : goal.returns-clause-dots
returns-clause-dots c =
    let part = c.args.part.now in
    let start = length part - c.args.last in
    let long = length-drop start part in
    rw (c.seen_in_window-start.ensures.dots, c.seen_in_window-end.ensures.dots)
    (ap (λ (s : List ℕ). has_no_dots false (take c.args.first part) && has_no_dots false s)
    (take_all (length part - start) (drop start part) (omega (arith, long)))
    ∙ windows-joined false c.args.first start part (omega (arith, c.requires.overlap, c.requires.last)))
