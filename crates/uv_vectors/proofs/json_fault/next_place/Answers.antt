-- A line feed, a byte that begins a code point, and one that goes on with it.
use Rattle.std.proofs.Common.{◌≡◌, ◌∙◌, ◌+◌, arith, cond, ap, sym, true, false}
use Rattle.std.specs.Fmt.{is_char_start}
use Rattle.uv_vectors.proofs.PlaceLemmas.{at, place-feed, place-more}
use Rattle.uv_vectors.proofs.json_fault.next_place.Goals as goal

pub returns-then-byte-eq10-clause-place : goal.returns-then-byte-eq10-clause-place
returns-then-byte-eq10-clause-place c = λ bytes is. place-feed c.args.place bytes c.args.byte c.if-byte-eq10.true is

pub returns-then-begins_code_point-clause-place : goal.returns-then-begins_code_point-clause-place
returns-then-begins_code_point-clause-place c = λ bytes is.
    let start : is_char_start c.args.byte ≡ true = sym c.begins_code_point.ensures ∙ c.if-begins_code_point.true in
    ap (λ b. at c.args.place.line (c.args.place.column + cond b 1 0)) (sym start)
    ∙ place-more c.args.place bytes c.args.byte c.if-byte-eq10.false is

pub returns-else-begins_code_point-clause-place : goal.returns-else-begins_code_point-clause-place
returns-else-begins_code_point-clause-place c = λ bytes is.
    let start : is_char_start c.args.byte ≡ false = sym c.begins_code_point.ensures ∙ c.if-begins_code_point.false in
    let none : c.args.place.column ≡ c.args.place.column + 0 = omega arith in
    ap (at c.args.place.line) none
    ∙ ap (λ b. at c.args.place.line (c.args.place.column + cond b 1 0)) (sym start)
    ∙ place-more c.args.place bytes c.args.byte c.if-byte-eq10.false is
