-- Why the numbers don't say what is wrong is told, against the base that is given.
use Rattle.std.proofs.Common.{◌≤◌, inl, inr, refl, rules, subst}
use Rattle.std.specs.Prelude.{Err, Option}
use Rattle.urlcheck_c.specs.declared.bases.Base.{Base}
use Rattle.urlcheck_c.specs.Violation.{IsViolationRead}
use Rattle.urlcheck_c.proofs.reports.messages.urlcheck_message.Goals as goal

pub returns-in-Err : goal.returns-in-Err
returns-in-Err c =
    let found = c.in-Err.found in
    let few : c.args.wording ≤ 3 = search rules in
    let read = subst
    (λ (b : Option Base). IsViolationRead c.args.profile b c.args.rule c.args.place c.args.text.now (Err found))
    c.given_base.ensures c.in-Err.ensures in
    inr (few, inl (found, read, (c.none.ensures, refl)))
