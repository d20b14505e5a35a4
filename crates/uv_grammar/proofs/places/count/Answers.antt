-- Each byte of ASCII is a code point; otherwise the characters of a text are counted.
use Rattle.std.proofs.Common.{ap, length, rules, subst, sym}
use Rattle.std.specs.Bool.{MatchBool}
use Rattle.std.specs.Str.{IsAscii, IsNotAscii}
use Rattle.std.proofs.lemmas.Str.{chars-IsAscii, chars_from_encodes}
use Rattle.uv_grammar.proofs.places.count.Goals as goal

pub returns-then-is_ascii : goal.returns-then-is_ascii
returns-then-is_ascii c =
    let bytes = c.args.text.now in
    let ascii : IsAscii bytes =
    subst (λ b. MatchBool b (IsAscii bytes) (IsNotAscii bytes)) c.if-is_ascii.true c.is_ascii.ensures.cases in
    ap length (sym (chars-IsAscii bytes ascii))

pub returns-else-is_ascii : goal.returns-else-is_ascii
returns-else-is_ascii c = search (rules, chars_from_encodes)
