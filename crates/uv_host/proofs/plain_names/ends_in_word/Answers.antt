-- Neither with the root's full stop nor without it.
use Rattle.std.proofs.Common.{rules, ◌≡◌, ◌≤◌, ◌-◌, ◌∙◌, sym, length, get_or}
use Rattle.uv_model.specs.Ascii.{full_stop}
use Rattle.uv_host.proofs.WordEndLemmas.{bare_word, root_word}
use Rattle.uv_host.proofs.plain_names.ends_in_word.Goals as goal

pub returns-in-46 : goal.returns-in-46
returns-in-46 c = λ yes.
    let name = c.args.name.now in
    let stop : get_or name (length name - 1) 0 ≡ full_stop = search rules in
    root_word name c.in-46.len_at_least stop (sym c.is_word_letter-in-46.ensures ∙ yes)

pub returns-in-len1-up : goal.returns-in-len1-up
returns-in-len1-up c = λ yes.
    let name = c.args.name.now in
    let some : 1 ≤ length name = search rules in
    bare_word name some (sym c.is_word_letter.ensures ∙ c.if-is_word_letter.true)
