-- The longest prefix is UTF-8.
use Rattle.std.proofs.Common.{refl}
use Rattle.urlcheck_c.proofs.finding.Finding.no_utf8.Goals as goal

pub returns : goal.returns
returns c = rw (c.number.ensures, c.count_valid.ensures c.requires.prefix.front, ← c.requires.longest) refl
