-- A text that no part encodes is its own encoding.
use Rattle.std.proofs.Common.{rules, sym}
use Rattle.uv_resolve.proofs.KeptTextLemmas.{never_encoded-encoded}
use Rattle.uv_resolve.proofs.encoded_parts.encoded_part.Goals as goal

pub returns-then-is_never_encoded-clause-text : goal.returns-then-is_never_encoded-clause-text
returns-then-is_never_encoded-clause-text c =
    let never = c.is_never_encoded.ensures c.if-is_never_encoded.true in
    rw (sym (never_encoded-encoded c.args.quote c.args.text.now never)) (search rules)
