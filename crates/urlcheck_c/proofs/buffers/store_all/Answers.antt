-- A fault more is written each turn.
use Rattle.std.proofs.Common.{◌<◌, ◌∙◌, arith, length, length-set, refl}
use Rattle.uv_model.specs.declared.rule.Refusal.{Refusal}
use Rattle.uv_model.specs.declared.rule.Rule.TheVariants.{NoScheme}
use Rattle.urlcheck_c.proofs.StoreLemmas.{kept_more, written_more}
use Rattle.urlcheck_c.specs.Faults.{fault_of}
use Rattle.urlcheck_c.proofs.buffers.store_all.Goals as goal

pub loop-at-preserved : goal.loop-at-preserved
loop-at-preserved c =
    let room : c.loop-at.at < length c.loop-at.out
    = omega (arith, c.loop-at-test.true, c.requires, c.loop-at.invariant.long) in
    let other : Refusal = record { place = 0; rule = NoScheme } in
    record {
      utf8 = c.after_passed-left.utf8;
      after = c.after_passed-left.ensures;
      prefix =
          written_more (fault_of c.args.text.now) c.args.found.now c.loop-at.out c.loop-at.at other _
          c.loop-at-test.true room c.loop-at.invariant.prefix
          (rw (c.from.ensures, c.number.ensures, c.bytes_before.ensures) refl);
      rest = kept_more c.args.out.now c.loop-at.out c.loop-at.at _ room c.loop-at.invariant.rest;
      long = length-set c.loop-at.out c.loop-at.at _ ∙ c.loop-at.invariant.long;
    }
