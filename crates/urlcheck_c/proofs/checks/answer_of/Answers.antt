-- A valid text is laid out, and one that takes no memory never wants it.
use Rattle.std.proofs.Common.{◌∙◌, inr}
use Rattle.std.proofs.lemmas.Bool.{false≢true}
use Rattle.urlcheck_c.proofs.checks.answer_of.Goals as goal

pub returns-in-Err-clause-answer : goal.returns-in-Err-clause-answer
returns-in-Err-clause-answer c = λ profile base is takes.
    inr (
      c.unchecked-in-Err.ensures.parts,
      inr (record {
        said = c.unchecked-in-Err.ensures.found ∙ c.plain-in-Err.ensures;
        needed = λ none. false≢true (rw c.in-Err.is at (takes none));
      }),
    )
