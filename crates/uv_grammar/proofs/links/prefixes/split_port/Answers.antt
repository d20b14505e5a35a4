-- A port and what follows it.
use Rattle.std.proofs.Common.{◌≡◌, ℕ, List, ◌∷◌, drop, subst, arith, ◌∙◌}
use Rattle.std.specs.Str.{chars}
use Rattle.uv_model.specs.Ascii.{colon}
use Rattle.uv_model.specs.Scheme.{default_port}
use Rattle.uv_grammar.specs.PlainLinks.{HasAsciiPrefix}
use Rattle.uv_grammar.proofs.PlainPrefixLemmas.{byte_ascii, digits_ascii, no_port, some_port}
use Rattle.uv_grammar.proofs.links.prefixes.split_port.Goals as goal

pub split_prefix-after-requires : goal.split_prefix-after-requires
split_prefix-after-requires c =
    byte_ascii colon c.args.text (omega arith)
    (subst (λ (s : List ℕ). s ≡ colon ∷ drop 1 s) (c.as_bytes.ensures.value ∙ c.as_str.ensures)
    (c.begins_with.ensures c.if-not-begins_with.false))

pub split_prefix-rest-requires : goal.split_prefix-rest-requires
split_prefix-rest-requires c =
    subst (λ (s : List ℕ). HasAsciiPrefix s c.digits_prefix.result) (c.as_bytes-2.ensures.value ∙ c.as_str-2.ensures)
    (rw c.digits_prefix.ensures (digits_ascii c.as_bytes-2.result.now))

pub returns-then-not-begins_with : goal.returns-then-not-begins_with
returns-then-not-begins_with c = no_port (default_port (chars c.args.scheme.now)) (chars c.args.text)

pub returns-in-Valid : goal.returns-in-Valid
returns-in-Valid c =
    some_port (default_port (chars c.args.scheme.now)) c.args.text
    c.split_prefix-after.result.0.now c.split_prefix-after.result.1
    c.split_prefix-rest.result.0.now c.split_prefix-rest.result.1
    c.digits_prefix.result c.in-Valid.number c.without_default-port.result
    (subst (λ (s : List ℕ). s ≡ colon ∷ drop 1 s) (c.as_bytes.ensures.value ∙ c.as_str.ensures)
    (c.begins_with.ensures c.if-not-begins_with.false))
    c.split_prefix-after.ensures c.split_prefix-rest.ensures c.in-Valid.ensures.0
    (rw c.default_port.ensures at c.without_default-port.ensures)
