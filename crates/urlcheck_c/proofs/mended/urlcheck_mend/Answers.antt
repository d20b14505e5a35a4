-- The bytes that are mended are the text's.
use Rattle.std.proofs.Common.{ℕ, List, ap, inl, inr, refl, subst, sym, ◌∙◌}
use Rattle.std.specs.Prelude.{Option}
use Rattle.urlcheck_c.specs.declared.finding.Finding.{Finding}
use Rattle.urlcheck_c.specs.declared.mended.Mended.{Mended}
use Rattle.urlcheck_c.specs.Mended.{IsRequestMended, unmended}
use Rattle.urlcheck_c.specs.Request.{IsNoRequest, IsRequest, given}
use Rattle.urlcheck_c.proofs.mended.urlcheck_mend.Goals as goal

pub returns-in-Ok : goal.returns-in-Ok
returns-in-Ok c =
    inr (
      _,
      _,
      subst
          (λ (b : Option (List ℕ)).
          IsRequest c.args.profile b c.args.text.now c.in-Ok.request.profile c.in-Ok.request.base)
          c.given_bytes.ensures c.in-Ok.ensures.1,
      subst (λ (bytes : List ℕ). IsRequestMended c.in-Ok.request.profile c.in-Ok.request.base bytes c.args.out.now
          c.request_mended.new.out c.request_mended.result)
          c.in-Ok.ensures.0 c.request_mended.ensures,
    )

pub returns-in-Err : goal.returns-in-Err
returns-in-Err c =
    let none = c.none.ensures in
    let found = ap (λ (m : Mended). m.found) none in
    inl (
      none ∙ ap unmended (sym found),
      refl,
      subst (λ (f : Finding). IsNoRequest c.args.profile (given c.args.has_base c.args.base.now) c.args.text.now f)
          (sym found)
          (subst (λ (b : Option (List ℕ)). IsNoRequest c.args.profile b c.args.text.now c.in-Err.found)
          c.given_bytes.ensures c.in-Err.ensures),
    )
