-- The scheme of a base is ASCII.
use Rattle.std.proofs.Common.{ap, ◌∙◌}
use Rattle.std.specs.Str.{chars}
use Rattle.std.proofs.lemmas.Str.{chars-IsAscii, chars-nil}
use Rattle.uv_model.specs.Scheme.{scheme_class}
use Rattle.uv_mend.proofs.prefixes.class_of_base.Goals as goal

pub returns-in-Some : goal.returns-in-Some
returns-in-Some c =
    rw c.in-Some.is (c.class_of.ensures ∙ ap scheme_class (ap chars c.scheme.ensures.text
    ∙ chars-IsAscii c.in-Some.record.now.scheme c.scheme.ensures.ascii))

pub returns-in-None : goal.returns-in-None
returns-in-None c = rw c.in-None.is (c.class_of-in-None.ensures ∙ ap scheme_class chars-nil)
