-- The faults are found in the text's bytes, and the base is what the bytes that it was made of denote.
use Rattle.std.proofs.Common.{ℕ, List, ap, inl, inr, refl, subst, sym}
use Rattle.std.specs.Prelude.{Err, Ok, Option}
use Rattle.urlcheck_c.specs.declared.bases.Base.{Base}
use Rattle.urlcheck_c.specs.declared.finding.Finding.{Finding}
use Rattle.urlcheck_c.specs.declared.reports.fault_lists.FaultCount.{FaultCount}
use Rattle.urlcheck_c.specs.Base.{IsAsked, IsUnasked}
use Rattle.urlcheck_c.specs.Faults.{IsFaultsChecked}
use Rattle.urlcheck_c.specs.Request.{IsUnchecked, given}
use Rattle.urlcheck_c.proofs.BaseLemmas.{asked_request, not_stray, unasked}
use Rattle.urlcheck_c.proofs.reports.fault_lists.urlcheck_faults.Goals as goal

pub returns-in-Ok : goal.returns-in-Ok
returns-in-Ok c =
    let base = given c.args.has_base c.args.base.now in
    let request = c.in-Ok.request in
    let is = subst (λ (b : Option Base). IsAsked c.args.profile b c.args.text.now (Ok request)) c.given_base.ensures
    c.in-Ok.ensures in
    record {
      made = λ of made.
          let asked = asked_request c.args.profile base c.args.text.now request of is made in
          inr (
            request.profile,
            asked.0,
            asked.1,
            subst
                (λ (bytes : List ℕ).
                IsFaultsChecked request.profile asked.0 bytes c.args.out.now c.listed_of.new.out c.listed_of.result)
                is.0 (c.listed_of.ensures asked.0 asked.2),
          );
      stray = λ stray. absurd (not_stray c.args.profile base c.args.text.now request is stray);
    }

pub returns-in-Err : goal.returns-in-Err
returns-in-Err c =
    let base = given c.args.has_base c.args.base.now in
    let found = c.in-Err.found in
    let is = subst (λ (b : Option Base). IsAsked c.args.profile b c.args.text.now (Err found)) c.given_base.ensures
    c.in-Err.ensures in
    let none = c.none.ensures in
    let told = sym (ap (λ (f : FaultCount). f.found) none) in
    let count = ap (λ (f : FaultCount). f.count) none in
    record {
      made = λ of made.
          inl (
            record { count = count; same = refl },
            subst (λ (f : Finding). IsUnchecked c.args.profile of c.args.text.now f) told
                (unasked c.args.profile base c.args.text.now found of is made),
          );
      stray = λ stray. (
        record { count = count; same = refl },
        subst (λ (f : Finding). IsUnasked c.args.profile base c.args.text.now f) told is,
      );
    }
