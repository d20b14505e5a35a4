-- The runs on the base's text and on the text.
use Rattle.std.proofs.Common.{chars}
use Rattle.uv_cli.proofs.CheckLemmas.{runs_against}
use Rattle.uv_cli.proofs.check.parser_runs_against.Goals as goal

pub returns : goal.returns
returns c = runs_against c.args.profile c.args.base (chars c.args.text.now)
