-- A text between brackets is read, and no other denotes anything.
use Rattle.std.proofs.Common.{rules, ◌≡◌, ◌-◌, ◌<◌, length, get_or, ◌∙◌, sym, ap, arith}
use Rattle.uv_model.specs.Ascii.{left_bracket, right_bracket}
use Rattle.uv_host.proofs.BracketLemmas.{bracketed_parts, enclosed_last, enclosed_length, not_enclosed, reads_enclosed}
use Rattle.uv_host.proofs.addresses.bracketed_ipv6.Goals as goal

pub returns-in-91 : goal.returns-in-91
returns-in-91 c =
    let bytes = c.as_bytes.result.now in
    let first : get_or bytes 0 0 ≡ left_bracket = search rules in
    let last : get_or bytes (length bytes - 1) 0 ≡ right_bracket = search rules in
    reads_enclosed c.args.text.now _ c.ipv6_of.result c.utf8.text
    (sym c.as_bytes.ensures.value ∙ bracketed_parts bytes c.in-91.len_at_least first last) c.ipv6_of.ensures

pub returns-in_default : goal.returns-in_default
returns-in_default c =
    let text = c.args.text.now in
    let short : length text < 2 = search rules in
    not_enclosed text c.utf8.text (λ inner same. omega (arith, short, enclosed_length text inner same))

pub returns-in_default-2 : goal.returns-in_default-2
returns-in_default-2 c =
    let text = c.args.text.now in
    let other : ¬ (get_or text (length text - 1) 0 ≡ right_bracket) = search rules in
    not_enclosed text c.utf8.text (λ inner same. other (enclosed_last text inner same))

pub returns-in_default-3 : goal.returns-in_default-3
returns-in_default-3 c =
    let text = c.args.text.now in
    let other : ¬ (get_or text 0 0 ≡ left_bracket) = search rules in
    not_enclosed text c.utf8.text (λ inner same. other (ap (λ l. get_or l 0 0) same))
