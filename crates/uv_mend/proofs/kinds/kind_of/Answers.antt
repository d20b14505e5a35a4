-- The mended text is the escaped one, which is an escaping of the text.
use Rattle.std.proofs.Common.{◌≡◌, chars, subst, sym, ◌∙◌}
use Rattle.std.proofs.lemmas.Bool.{false≢true}
use Rattle.uv_mend.specs.Escapes.{IsEscapingOf, escaped}
use Rattle.uv_mend.proofs.EscapeLemmas.{escaped_escaping}
use Rattle.uv_mend.proofs.kinds.kind_of.Goals as goal

pub returns-then-branch-2 : goal.returns-then-branch-2
returns-then-branch-2 c =
    let is : chars c.args.mended.now ≡ escaped (chars c.args.text.now) =
    c.in_ok-is_escaped.ensures.0 c.if-branch-2.true in (
      λ same. absurd (false≢true (sym c.if-branch.false ∙ c.in_ok-reads_same.ensures.1 same)),
      is,
      subst (λ t. IsEscapingOf (chars c.args.text.now) t) (sym is) (escaped_escaping (chars c.args.text.now)),
    )
