-- A space at the end is taken off, and its escape put there.
use Rattle.std.proofs.Common.{◌∙◌, ◌++◌, Some, None, ap, codes, lit<, sym, List, ℕ}
use Rattle.std.proofs.lemmas.Str.Pattern.{strip_suffix_char}
use Rattle.uv_model.specs.Ascii.{space}
use Rattle.uv_resolve.proofs.SpacedEndLemmas.{ended_encoded, other_encoded}
use Rattle.uv_resolve.proofs.paths.followed_path.Goals as goal

pub returns-in_ok-push_str-in-Some : goal.returns-in_ok-push_str-in-Some
returns-in_ok-push_str-in-Some c =
    let spelled = strip_suffix_char space c.args.text.now (Some c.in-Some.kept) c.in-Some.ensures.cases (lit< tt) in
    c.in_ok-push_str-in-Some.ensures.bytes
    ∙ ap (λ (bytes : List ℕ). bytes ++ codes "%20") c.in_ok-path-in-Some.ensures.text
    ∙ sym (ended_encoded c.args.text.now c.in-Some.kept.now c.utf8.text spelled)

pub returns-in-None : goal.returns-in-None
returns-in-None c =
    let none = strip_suffix_char space c.args.text.now None c.in-None.ensures.cases (lit< tt) in
    rw (other_encoded c.args.text.now c.utf8.text none) c.encoded_part-in-None.ensures.text
