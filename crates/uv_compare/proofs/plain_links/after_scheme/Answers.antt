-- The text begins with a web scheme and `://`.
use Rattle.std.proofs.Common.{inl, inr, refl}
use Rattle.std.specs.Prelude.{codes}
use Rattle.uv_compare.proofs.plain_links.after_scheme.Goals as goal

pub returns-in-Some : goal.returns-in-Some
returns-in-Some c = record { scheme = codes "https"; web = inl refl; joined = c.in-Some.ensures }

pub returns : goal.returns
returns c = record { scheme = codes "http"; web = inr refl; joined = c.in_ok-rest.ensures }
