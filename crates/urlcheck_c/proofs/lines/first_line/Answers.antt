-- What is before the first LF is the first line.
use Rattle.std.proofs.Common.{◌∙◌, ◌+◌, ◌∷◌, ℕ, List, ap, arith, drop, length, subst, sym, take}
use Rattle.uv_lines.specs.Lines.{lines_of}
use Rattle.urlcheck_c.specs.NextLine.{IsLineEnd}
use Rattle.urlcheck_c.proofs.NextLineLemmas.{closed_end, closed_first, closed_text}
use Rattle.urlcheck_c.proofs.lines.first_line.Goals as goal

pub returns-in-Some : goal.returns-in-Some
returns-in-Some c =
    let rest = c.args.rest.now in
    let end = c.in-Some.end in
    let found = c.in-Some.ensures.some in
    let text = c.line_text.ensures in
    let within = found.0 in
    record {
      first = closed_first rest end found.1 found.2
          ∙ ap (λ (t : List ℕ). t ∷ lines_of (drop (end + 1) rest)) (sym text);
      text = text ∙ closed_text rest end (omega (arith, within)) ∙ ap (λ (t : List ℕ). take (length t) rest) (sym text);
      ended = subst (λ (t : List ℕ). IsLineEnd rest (length t) (end + 1)) (sym text)
          (closed_end rest end within found.2);
      some = omega arith;
      within = omega (arith, within);
    }
