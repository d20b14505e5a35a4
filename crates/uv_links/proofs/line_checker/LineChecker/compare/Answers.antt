-- A text that the second parser reads as the record's text, and one that it reads as another.
use Rattle.std.proofs.Common.{sym, ◌∙◌}
use Rattle.std.proofs.lemmas.Bool.{false≢true}
use Rattle.uv_links.proofs.line_checker.LineChecker.compare.Goals as goal

pub returns-then-branch : goal.returns-then-branch
returns-then-branch c = (
  record { short = c.requires.short; utf8 = c.utf8.text },
  c.requires.denotes,
  c.in_ok-agrees.ensures.0 c.if-branch.true,
)

pub returns-else-branch : goal.returns-else-branch
returns-else-branch c = (
  record { short = c.requires.short; utf8 = c.utf8.text },
  (
    c.args.written.now,
    c.requires.denotes,
    λ same. false≢true (sym c.if-branch.false ∙ c.in_ok-agrees.ensures.1 same),
  ),
)
