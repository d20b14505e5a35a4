-- One more.
use Rattle.std.proofs.Common.{arith, rules}
use Rattle.std.specs.Str.{chars}
use Rattle.uv_text.proofs.SplitsLemmas.{passes_on}
use Rattle.uv_text.proofs.splits.after_beyond_ascii.Goals as goal

pub loop-after-preserved : goal.loop-after-preserved
loop-after-preserved c =
    let text = chars c.args.text.now in
    let rest = chars c.loop-after.rest.now in
    let after = chars c.in-Some.after.now in
    record {
      is_text = search rules;
      passes = λ held.
          passes_on held text rest after (c.loop-after.invariant.passes held) (c.in-Some.ensures.passes held);
      shorter = omega (arith, c.loop-after.invariant.shorter, c.in-Some.ensures.shorter);
    }
