-- The bytes that are resolved are the text's.
use Rattle.std.proofs.Common.{ℕ, List, ap, inl, inr, refl, subst, sym, ◌∙◌}
use Rattle.std.specs.Prelude.{Option}
use Rattle.urlcheck_c.specs.declared.finding.Finding.{Finding}
use Rattle.urlcheck_c.specs.declared.records.PlacedRecord.{PlacedRecord}
use Rattle.urlcheck_c.specs.PlacedRecord.{IsPlacedChecked, no_record}
use Rattle.urlcheck_c.specs.Request.{IsNoRequest, IsRequest, given}
use Rattle.urlcheck_c.proofs.records.urlcheck_resolve.Goals as goal

pub returns-in-Ok : goal.returns-in-Ok
returns-in-Ok c =
    inr (
      _,
      _,
      subst
          (λ (b : Option (List ℕ)).
          IsRequest c.args.profile b c.args.text.now c.in-Ok.request.profile c.in-Ok.request.base)
          c.given_bytes.ensures c.in-Ok.ensures.1,
      subst (λ (bytes : List ℕ). IsPlacedChecked c.in-Ok.request.profile c.in-Ok.request.base bytes c.args.out.now
          c.request_placed.new.out c.request_placed.result)
          c.in-Ok.ensures.0 c.request_placed.ensures,
    )

pub returns-in-Err : goal.returns-in-Err
returns-in-Err c =
    let none = c.none.ensures in
    let found = ap (λ (r : PlacedRecord). r.found) none in
    inl (
      (none ∙ ap no_record (sym found), refl),
      subst (λ (f : Finding). IsNoRequest c.args.profile (given c.args.has_base c.args.base.now) c.args.text.now f)
          (sym found)
          (subst (λ (b : Option (List ℕ)). IsNoRequest c.args.profile b c.args.text.now c.in-Err.found)
          c.given_bytes.ensures c.in-Err.ensures),
    )
