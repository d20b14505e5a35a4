-- No backslash is among the code points.
use Rattle.std.proofs.Common.{◌≡◌, ◌∙◌, List, ℕ, ap, false, lit<, not, refl, subst}
use Rattle.std.specs.Prelude.{is_some}
use Rattle.memchr.specs.Find.{IsFirstByte, is_byte}
use Rattle.uv_model.specs.Ascii.{backslash}
use Rattle.uv_mend.proofs.SameLemmas.{without}
use Rattle.uv_mend.proofs.slashes.has_no_backslash.Goals as goal

pub returns : goal.returns
returns c = λ none.
    let text = c.args.text.now in
    let found = subst (λ (s : List ℕ). IsFirstByte (is_byte backslash) s c.memchr.result) c.as_bytes.ensures.value
    c.memchr.ensures in
    let missing : is_some c.memchr.result ≡ false = c.is_none.ensures ∙ ap not none in
    without (is_byte backslash) backslash text c.memchr.result (lit< tt) refl c.utf8.text found missing
