-- Nothing is read from the base.
use Rattle.std.proofs.Common.{inl, refl, subst, sym}
use Rattle.urlcheck_c.specs.declared.bases.Base.{Base}
use Rattle.urlcheck_c.specs.Base.{IsPreparedBase}
use Rattle.urlcheck_c.proofs.bases.urlcheck_prepare.Goals as goal

pub returns-in-Err : goal.returns-in-Err
returns-in-Err c =
    subst (λ (base : Base). IsPreparedBase c.args.profile c.args.base.now base) (sym c.refused.ensures)
    (inl (c.in-Err.ensures, refl))
