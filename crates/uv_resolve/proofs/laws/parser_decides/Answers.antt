-- The base is well formed, as each record is.
use Rattle.std.proofs.Common.{Some, None, chars}
use Rattle.uv_parser.proofs.Done.DecidedBases.{texts_are_decided}
use Rattle.uv_resolve.proofs.laws.parser_decides.Goals as goal

pub returns-in-Some : goal.returns-in-Some
returns-in-Some c =
    rw c.in-Some.is (texts_are_decided (Some _) (chars c.args.text.now) c.path.ensures.well_formed)

pub returns-in-None : goal.returns-in-None
returns-in-None c = rw c.in-None.is (texts_are_decided None (chars c.args.text.now) tt)
