-- A base that takes no memory never wants it.
use Rattle.std.proofs.Common.{List, ℕ, None, inr, subst, sym}
use Rattle.std.specs.Str.{chars}
use Rattle.uv_grammar.specs.NoMemory.{TakesNoMemoryAgainst}
use Rattle.urlcheck_c.proofs.bases.kind_denoted.Goals as goal

pub returns-in-Err : goal.returns-in-Err
returns-in-Err c =
    let text = c.in_ok-base.ensures in
    inr (
      text.1,
      inr (record {
        said = c.plain.ensures;
        needed = λ takes.
            let e = c.in-Err.ensures.memory
            (subst (λ (b : List ℕ). TakesNoMemoryAgainst c.args.profile None (chars b)) (sym text.0) takes) in cc;
      }),
    )
