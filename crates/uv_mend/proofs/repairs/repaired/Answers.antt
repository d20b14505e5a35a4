-- A refused text with its edit, and without one.
use Rattle.std.proofs.Common.{ap, inl, option_copied, option_map}
use Rattle.std.proofs.lemmas.Result.{IfOk-weaker}
use Rattle.std.specs.Prelude.{IfSome}
use Rattle.uv_mend.specs.Repairs.{Repairs, decoded}
use Rattle.uv_mend.specs.Rest.{HasRestOf, rest_of}
use Rattle.uv_mend.proofs.EditedRest.{rest_after}
use Rattle.uv_mend.proofs.RepairLemmas.{some_weaker, repairs-edited, repairs-stuck}
use Rattle.uv_mend.proofs.repairs.repaired.Goals as goal

pub returns-in-Edited-clause-repairs : goal.returns-in-Edited-clause-repairs
returns-in-Edited-clause-repairs c =
    let (refusal, least, is, has) = rw c.in-Edited.is at c.in_ok-text.ensures in
    let base = option_copied c.args.base in
    let next = decoded c.in-Edited.next in
    IfOk-weaker c.repaired_by_one.result (λ answer. Repairs 1 c.args.profile base next (option_map decoded answer)) _
    (λ answer more.
    repairs-edited 1 c.args.profile base (decoded c.args.text) next (option_map decoded answer) refusal least is more)
    c.repaired_by_one.ensures.repairs

pub returns-in-Stuck-clause-repairs : goal.returns-in-Stuck-clause-repairs
returns-in-Stuck-clause-repairs c =
    let (refusal, least, is) = rw c.in-Stuck.is at c.in_ok-text.ensures in
    repairs-stuck 1 c.args.profile (option_copied c.args.base) (decoded c.args.text) refusal least is

pub returns-in-Edited-clause-rest : goal.returns-in-Edited-clause-rest
returns-in-Edited-clause-rest c =
    let (refusal, least, is, has) = rw c.in-Edited.is at c.in_ok-text.ensures in
    let text = decoded c.args.text in
    let next = decoded c.in-Edited.next in
    IfOk-weaker c.repaired_by_one.result (λ answer. IfSome answer (λ mended. HasRestOf next (decoded mended))) _
    (λ answer more. some_weaker answer (λ mended. HasRestOf next (decoded mended))
    (λ mended. HasRestOf text (decoded mended)) (λ mended. rest_after text next (decoded mended) has) more)
    c.repaired_by_one.ensures.rest

pub returns-in-Valid-clause-rest : goal.returns-in-Valid-clause-rest
returns-in-Valid-clause-rest c =
    let (least, valid, same) = rw c.in-Valid.is at c.in_ok-text.ensures in inl (ap rest_of same)
