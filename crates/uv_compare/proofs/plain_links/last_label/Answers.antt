-- The last dot of a name is found, or none.
use Rattle.std.proofs.Common.{rules}
use Rattle.std.proofs.lemmas.List.{take_rest}
use Rattle.url.specs.Ascii.{dot}
use Rattle.url.proofs.InputLemmas.{rsplit_once_at_last, rsplit_once_none}
use Rattle.uv_compare.proofs.plain_links.last_label.Goals as goal

pub returns-in-Some : goal.returns-in-Some
returns-in-Some c =
    let found = rsplit_once_at_last dot c.args.name.now c.in-Some.place (search rules) (search rules) (search rules) in
    rw (found, take_rest)

pub returns-in-None : goal.returns-in-None
returns-in-None c =
    let none = rsplit_once_none dot c.args.name.now (search rules) in
    rw none
