-- A domain isn't empty and doesn't end in a number.
use Rattle.std.proofs.Common.{◌≡◌, ◌==◌, false, length}
use Rattle.std.proofs.lemmas.Bool.{false≢true}
use Rattle.uv_model.proofs.Texts.AsciiLemmas.{first_of}
use Rattle.uv_calls.proofs.url_hosts.is_url_domain.Goals as goal

pub returns-then-ends_in_number : goal.returns-then-ends_in_number
returns-then-ends_in_number c = (λ e. absurd (false≢true e), λ is. cc)

pub returns : goal.returns
returns c =
    let form = c.args.form.now in
    let some : (length form == 0) ≡ false = cc in
    let parts = first_of form some in
    (λ e. record { first = parts.0; rest = parts.1; some = parts.2; letters = cc; name = cc }, λ is. cc)
