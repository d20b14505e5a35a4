-- The scheme of a base, and none.
use Rattle.std.proofs.lemmas.Str.{chars-nil}
use Rattle.uv_grammar.proofs.setting.scheme_against.Goals as goal

pub returns-in-None-Some : goal.returns-in-None-Some
returns-in-None-Some c =
    rw (c.in-None-Some.is-0, c.in-None-Some.is-1) c.scheme.ensures

pub returns-in-None-None : goal.returns-in-None-None
returns-in-None-None c = rw (c.in-None-None.is-0, c.in-None-None.is-1) chars-nil
