-- The bytes are checked as a text, and the base is what the bytes that it was made of denote.
use Rattle.std.proofs.Common.{ℕ, List, inl, inr, option_copied, subst, sym}
use Rattle.urlcheck_c.specs.declared.finding.Finding.{Finding}
use Rattle.urlcheck_c.specs.Answer.{IsChecked}
use Rattle.urlcheck_c.specs.Base.{IsUnasked}
use Rattle.urlcheck_c.specs.Finding.{IsSmall}
use Rattle.urlcheck_c.specs.Request.{IsUnchecked}
use Rattle.urlcheck_c.proofs.BaseLemmas.{asked_request, not_stray, small_unasked, unasked}
use Rattle.urlcheck_c.proofs.checks.answer_to.Goals as goal

pub returns-in-Ok-clause-answer : goal.returns-in-Ok-clause-answer
returns-in-Ok-clause-answer c =
    let base = option_copied c.args.base in
    let request = c.in-Ok.request in
    record {
      made = λ of made.
          let asked = asked_request c.args.profile base c.args.text.now request of c.in-Ok.ensures made in
          inr (
            request.profile,
            asked.0,
            asked.1,
            subst (λ (bytes : List ℕ). IsChecked request.profile asked.0 bytes c.checked.result) c.in-Ok.ensures.0
                (c.checked.ensures.answer asked.0 asked.2),
          );
      stray = λ stray. absurd (not_stray c.args.profile base c.args.text.now request c.in-Ok.ensures stray);
    }

pub returns-in-Err-clause-answer : goal.returns-in-Err-clause-answer
returns-in-Err-clause-answer c =
    let base = option_copied c.args.base in
    let found = sym c.unchecked.ensures.found in
    record {
      made = λ of made.
          inl (
            c.unchecked.ensures.parts,
            subst (λ (f : Finding). IsUnchecked c.args.profile of c.args.text.now f) found
                (unasked c.args.profile base c.args.text.now c.in-Err.found of c.in-Err.ensures made),
          );
      stray = λ stray. (
        c.unchecked.ensures.parts,
        subst (λ (f : Finding). IsUnasked c.args.profile base c.args.text.now f) found c.in-Err.ensures,
      );
    }

pub returns-in-Err-clause-small : goal.returns-in-Err-clause-small
returns-in-Err-clause-small c =
    subst (λ (f : Finding). IsSmall f) (sym c.unchecked.ensures.found)
    (small_unasked c.args.profile (option_copied c.args.base) c.args.text.now c.in-Err.found
    c.in-Err.ensures)
