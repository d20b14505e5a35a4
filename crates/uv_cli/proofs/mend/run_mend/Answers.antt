-- The answer against the record of the base's text.
use Rattle.std.proofs.Common.{option_copied, subst, sym}
use Rattle.std.proofs.lemmas.Result.{IfOk-weaker}
use Rattle.uv_resolve.specs.Base.{IsBase}
use Rattle.uv_cli.specs.Mend.{WritesMending}
use Rattle.uv_cli.proofs.MendLemmas.{mending_against}
use Rattle.uv_cli.proofs.mend.run_mend.Goals as goal

pub returns-in-Ok-clause-written : goal.returns-in-Ok-clause-written
returns-in-Ok-clause-written g c =
    let url = option_copied c.as_ref.result in
    let base : IsBase c.args.profile c.args.base url =
    subst (λ u. IsBase c.args.profile c.args.base u) (sym c.as_ref.ensures.value)
    (rw c.in-Ok.is at c.resolve_base.ensures) in
    IfOk-weaker c.mend_against.result
    (λ end. WritesMending c.args.profile url c.args.text.now end
    (g.S.Sink.contents c.args.out.now) (g.S.Sink.contents c.mend_against.new.out))
    _ (λ end written.
    mending_against c.args.profile c.args.base url c.args.text.now _ _ end base written)
    c.mend_against.ensures.written

pub returns-in-Ok-clause-prefix : goal.returns-in-Ok-clause-prefix
returns-in-Ok-clause-prefix g c = λ failed. (
  option_copied c.as_ref.result,
  subst (λ u. IsBase c.args.profile c.args.base u) (sym c.as_ref.ensures.value)
      (rw c.in-Ok.is at c.resolve_base.ensures),
  c.mend_against.ensures.prefix failed,
)
