-- What goes on after what goes on.
use Rattle.std.proofs.Common.{◌≡◌, ◌+◌, false, sym, ap, ◌∙◌, arith}
use Rattle.uv_host.specs.PlainNames.{signed_before}
use Rattle.uv_host.proofs.NamePrefixLemmas.{goes_further, signed_at}
use Rattle.uv_host.proofs.plain_names.chain_end.Goals as goal

pub overflow_add-end : goal.overflow_add-end
overflow_add-end c =
    let prefix = goes_further c.args.text.now c.loop-ahead.end c.loop-ahead.ahead
    c.loop-ahead.invariant.prefix
    c.loop-ahead.invariant.more in
    omega (arith, prefix.inside, c.chain_run-ahead.ensures.short)

pub loop-ahead-preserved : goal.loop-ahead-preserved
loop-ahead-preserved c =
    let text = c.args.text.now in
    let end = c.loop-ahead.end in
    let prefix = goes_further text end c.loop-ahead.ahead c.loop-ahead.invariant.prefix
    c.loop-ahead.invariant.more in
    let all = c.loop-ahead-test.true in
    let signed : c.loop-ahead.signed ≡ signed_before false text (end + c.loop-ahead.ahead) =
    c.loop-ahead.invariant.after all
    ∙ (sym (signed_at text end 31) ∙ ap (λ n. signed_before false text (end + n)) (sym all)) in
    record {
      prefix = prefix;
      more = rw (← signed) c.chain_run.ensures.goes_on;
      after = c.chain_run.ensures.signed;
    }

pub overflow_add-result : goal.overflow_add-result
overflow_add-result c =
    let prefix = goes_further c.args.text.now c.loop-ahead.end c.loop-ahead.ahead
    c.loop-ahead.invariant.prefix
    c.loop-ahead.invariant.more in
    omega (arith, prefix.inside, c.chain_run-ahead.ensures.short)

pub returns : goal.returns
returns c =
    goes_further c.args.text.now c.loop-ahead.end c.loop-ahead.ahead c.loop-ahead.invariant.prefix
    c.loop-ahead.invariant.more
