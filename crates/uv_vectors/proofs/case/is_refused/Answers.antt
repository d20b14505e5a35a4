-- A text has one refusal.
use Rattle.std.proofs.Common.{rules, IfOk, chars, option_copied, subst, sym}
use Rattle.std.specs.Prelude.{Decides}
use Rattle.uv_grammar.specs.Verdict.{IsRefused}
use Rattle.uv_vectors.proofs.PassLemmas.{decides_no_refusal, decides_refusal}
use Rattle.uv_vectors.proofs.case.is_refused.Goals as goal
use Rattle.uv_vectors.proofs.case.is_refused.Goals.{in-Ok, in-Err-Refused, in-Err-Memory}

pub returns : goal.returns
returns c =
    let base = option_copied c.args.base in
    let text = chars c.args.input.now in
    let refusal = c.args.refusal in
    elim c.match-resolve.branch [
      | in-Ok w ↦
          subst (λ r. IfOk r (λ is. Decides is (IsRefused c.args.profile base text refusal))) (sym w.result-is)
          (decides_no_refusal c.args.profile base text _ refusal (rw w.in-Ok.is at c.resolve.ensures.resolved))
      | in-Err-Refused w ↦
          (let resolved = rw w.in-Err-Refused.is at c.resolve.ensures.resolved in
          let refused : IsRefused c.args.profile base text w.in-Err-Refused.found = search rules in
          subst (λ r. IfOk r (λ is. Decides is (IsRefused c.args.profile base text refusal))) (sym w.result-is)
          (decides_refusal c.args.profile base text w.in-Err-Refused.found refusal w.is_same.result refused
          w.is_same.ensures))
      | in-Err-Memory w ↦
          subst (λ r. IfOk r (λ is. Decides is (IsRefused c.args.profile base text refusal))) (sym w.result-is) tt
    ]
