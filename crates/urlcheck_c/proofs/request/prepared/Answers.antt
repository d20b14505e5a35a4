-- No record is made of the base.
use Rattle.std.proofs.Common.{option_copied, sym, ◌∙◌}
use Rattle.std.proofs.lemmas.Result.{err_from_is_err_and}
use Rattle.urlcheck_c.proofs.BaseLemmas.{no_request}
use Rattle.urlcheck_c.proofs.request.prepared.Goals as goal

pub returns-in_err-base : goal.returns-in_err-base
returns-in_err-base c =
    let err = c.in_err-base in
    let made = c.from_residual-in_err-base in
    let p = err_from_is_err_and made.result made.ensures.1 in
    rw (p.1, p.2) (no_request c.args.profile c.in-Some.profile (option_copied c.args.base) c.args.text.now
    err.field-0.0 (sym c.profile_of.ensures ∙ c.in-Some.is) c.in_ok-text.ensures.1 err.ensures)
