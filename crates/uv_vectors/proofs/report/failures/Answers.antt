-- A value more.
use Rattle.std.proofs.Common.{arith, string_bytes}
use Rattle.uv_vectors.proofs.ReportLemmas.{failures_all, failures_more}
use Rattle.uv_vectors.proofs.report.failures.Goals as goal

pub loop-at-preserved : goal.loop-at-preserved
loop-at-preserved c = record {
  failures =
      rw (c.fails-failed.ensures.count)
      (failures_more c.args.values.now c.loop-at.at c.index-values-at.result c.in_ok-passed.passed c.loop-at.failed
      (string_bytes c.loop-at.text) (string_bytes c.push_case.new.text) c.loop-at-test.true c.index-values-at.is
      c.loop-at.invariant.failures c.in_ok-passed.ensures c.in_ok-push_case.ensures);
  most = (let before = c.loop-at.invariant.most in let one = c.fails-failed.ensures.most in omega (arith, before, one));
}

pub returns-clause-lines : goal.returns-clause-lines
returns-clause-lines c =
    failures_all c.args.values.now c.loop-at.at c.loop-at.failed (string_bytes c.loop-at.text)
    (let end = c.loop-at-test.false in omega (arith, end)) c.loop-at.invariant.failures
