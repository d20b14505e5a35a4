-- The base is well formed, as each record is.
use Rattle.std.proofs.Common.{Some, None, chars}
use Rattle.uv_resolve.proofs.RunLemmas.{runs_to_its_record}
use Rattle.uv_resolve.proofs.laws.valid_text_runs_to_its_record.Goals as goal

pub returns-in-Some : goal.returns-in-Some
returns-in-Some c =
    rw c.in-Some.is (runs_to_its_record c.args.profile (Some _) (chars c.args.text.now) c.path.ensures.well_formed)

pub returns-in-None : goal.returns-in-None
returns-in-None c = rw c.in-None.is (runs_to_its_record c.args.profile None (chars c.args.text.now) tt)
