-- A text that no part encodes is its own encoding.
use Rattle.std.proofs.Common.{◌≡◌, IfOk, List, false, rules, subst, sym, ℕ}
use Rattle.uv_model.specs.Path.{segments_of}
use Rattle.uv_resolve.proofs.KeptTextLemmas.{never_encoded-encoded, never_encoded-IsAscii}
use Rattle.uv_resolve.proofs.paths.whole.Goals as goal

pub of-requires : goal.of-requires
of-requires c = never_encoded-IsAscii c.args.text.now (c.is_never_encoded.ensures c.if-is_never_encoded.true)

pub returns-then-is_never_encoded : goal.returns-then-is_never_encoded
returns-then-is_never_encoded c =
    let never = c.is_never_encoded.ensures c.if-is_never_encoded.true in
    rw (sym (never_encoded-encoded false c.args.text.now never)) (search rules)

pub returns : goal.returns
returns c =
    subst (λ (text : List ℕ). IfOk c.of_string.result (λ path. path ≡ segments_of text))
    c.in_ok-encode.ensures.text c.of_string.ensures
