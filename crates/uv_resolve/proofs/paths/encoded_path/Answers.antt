-- The path by whether something follows it.
use Rattle.std.proofs.Common.{chars}
use Rattle.uv_model.proofs.Paths.SpacedPaths.{escaped_alone}
use Rattle.uv_resolve.proofs.paths.encoded_path.Goals as goal

pub returns-then-followed : goal.returns-then-followed
returns-then-followed c = rw c.if-followed.true c.followed_path.ensures

pub returns-else-followed : goal.returns-else-followed
returns-else-followed c =
    rw (c.if-followed.false, escaped_alone (chars c.args.text.now)) c.encoded_part.ensures.text
