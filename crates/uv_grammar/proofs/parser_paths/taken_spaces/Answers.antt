-- The spaces at the start are taken where something follows them.
use Rattle.std.proofs.Common.{◌∙◌, chars, sym}
use Rattle.std.proofs.lemmas.Bool.{false≢true, true≢false}
use Rattle.uv_grammar.proofs.SpacedPathLemmas.{run_ends, run_taken}
use Rattle.uv_grammar.proofs.parser_paths.taken_spaces.Goals as goal

pub returns-then-followed : goal.returns-then-followed
returns-then-followed c =
    run_taken c.args.followed (chars c.args.text.now) c.count_spaces-spaces.result c.count_spaces-spaces.ensures
    (λ alone. absurd (true≢false (sym c.if-followed.true ∙ alone)))

pub returns-then-holds_any : goal.returns-then-holds_any
returns-then-holds_any c =
    run_taken c.args.followed (chars c.args.text.now) c.count_spaces-spaces.result c.count_spaces-spaces.ensures
    (λ alone. rw c.after_code_points.ensures at c.holds_any.ensures.0 c.if-holds_any.true)

pub returns-else-holds_any : goal.returns-else-holds_any
returns-else-holds_any c =
    run_ends c.args.followed (chars c.args.text.now) c.count_spaces-spaces.result c.count_spaces-spaces.ensures
    c.if-followed.false
    (λ some. false≢true
    (sym c.if-holds_any.false ∙ c.holds_any.ensures.1 (rw (← c.after_code_points.ensures) at some)))
