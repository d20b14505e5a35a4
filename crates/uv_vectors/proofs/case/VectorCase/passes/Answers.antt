-- The base isn't one, or the URL that its text denotes.
use Rattle.std.proofs.Common.{◌≡◌, IfOk, ap, false, option_copied, subst, sym}
use Rattle.std.specs.Prelude.{Decides}
use Rattle.std.proofs.lemmas.Result.{IfOk-weaker}
use Rattle.uv_vectors.specs.Case.{Vector}
use Rattle.uv_vectors.specs.Passes.{IsAsExpected, PassesAgainst}
use Rattle.uv_vectors.proofs.PassLemmas.{decides_against, decides_no_base}
use Rattle.uv_vectors.proofs.case.VectorCase.passes.Goals as goal

pub returns-in-Ok : goal.returns-in-Ok
returns-in-Ok c =
    let case = c.args.self.now in
    let text : case.base ≡ option_copied c.self.inside.base = sym (ap (λ (v : Vector). v.base) c.self.view_is) in
    let by : c.self.inside.profile ≡ case.profile = ap (λ (v : Vector). v.profile) c.self.view_is in
    let base = rw (c.in-Ok.is, by) at c.resolve_base.ensures in
    subst
    (λ b. IfOk c.is_as_expected.result
    (λ answer. Decides answer (PassesAgainst case.profile b case.input case.expected)))
    (sym text)
    (IfOk-weaker c.is_as_expected.result
    (λ answer. Decides answer (IsAsExpected case.profile (option_copied c.as_ref.result) case.input case.expected)) _
    (λ answer decides. decides_against case.profile c.self.inside.base c.in-Ok.base case.input case.expected answer base
    (subst (λ u. Decides answer (IsAsExpected case.profile u case.input case.expected)) c.as_ref.ensures.value decides))
    c.is_as_expected.ensures)

pub returns-in-Err-Refused : goal.returns-in-Err-Refused
returns-in-Err-Refused c =
    let case = c.args.self.now in
    let text : case.base ≡ option_copied c.self.inside.base = sym (ap (λ (v : Vector). v.base) c.self.view_is) in
    let by : c.self.inside.profile ≡ case.profile = ap (λ (v : Vector). v.profile) c.self.view_is in
    let refused = rw (c.in-Err-Refused.is, c.in-Err-Refused.field-0-is, by) at c.resolve_base.ensures in
    subst (λ b. Decides false (PassesAgainst case.profile b case.input case.expected)) (sym text)
    (decides_no_base case.profile c.self.inside.base c.in-Err-Refused.field-0-0 case.input case.expected refused)
