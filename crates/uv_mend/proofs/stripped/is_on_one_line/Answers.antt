-- Neither a tab, an LF nor a CR is among the code points.
use Rattle.std.proofs.Common.{◌≡◌, ◌∙◌, List, ℕ, ap, chars, false, lit<, not, refl, subst}
use Rattle.std.specs.Prelude.{is_some}
use Rattle.memchr.specs.Find.{IsFirstByte, is_byte3}
use Rattle.uv_mend.proofs.SameLemmas.{on_one_line-same, without}
use Rattle.uv_mend.proofs.stripped.is_on_one_line.Goals as goal

pub returns : goal.returns
returns c = λ none.
    let text = c.args.text.now in
    let test = is_byte3 0x9 0xA 0xD in
    let found = subst (λ (s : List ℕ). IsFirstByte test s c.memchr3.result) c.as_bytes.ensures.value
    c.memchr3.ensures in
    let missing : is_some c.memchr3.result ≡ false = c.is_none.ensures ∙ ap not none in
    on_one_line-same (chars text) (without test 0x9 text c.memchr3.result (lit< tt) refl c.utf8.text found missing)
    (without test 0xA text c.memchr3.result (lit< tt) refl c.utf8.text found missing)
    (without test 0xD text c.memchr3.result (lit< tt) refl c.utf8.text found missing)
