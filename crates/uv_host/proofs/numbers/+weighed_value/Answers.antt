-- One number, or a number before a full stop and the value of what is after it.
use Rattle.std.proofs.Common.{◌≡◌, ◌≤◌, ◌*◌, ◌-◌, ℕ, Some, None, sym, ap, subst, arith, lit<}
use Rattle.std.proofs.Math.Nat.{mul-le-mul_right}
use Rattle.std.proofs.lemmas.Str.Pattern.{split_parts}
use Rattle.uv_model.specs.Ascii.{full_stop}
use Rattle.uv_host.specs.ParserHosts.{IsWeighedText, weight_of}
use Rattle.uv_host.proofs.NumberTextLemmas.{after_from, after_to, alone_from, alone_to, fewer_than, no_stop_from}
use Rattle.uv_host.proofs.NumberTextLemmas.{weighed_small, weight_small}
use Rattle.uv_host.proofs.numbers.+weighed_value.Goals as goal

pub returns-in-Some-byte_value : goal.returns-in-Some-byte_value
returns-in-Some-byte_value t c =
    subst (λ (n : ℕ). IsWeighedText c.args.more c.args.text.now n) (sym c.from.ensures)
    (alone_to c.args.more c.args.text.now c.in-Some-byte_value.last c.in-Some-byte_value.ensures)

pub returns-in-None : goal.returns-in-None
returns-in-None t c = λ value is.
    let none = split_parts full_stop c.args.text.now None c.in_default.ensures.cases (lit< tt) in
    c.in-None.ensures value (alone_from c.args.more c.args.text.now value (no_stop_from c.args.text.now none) is)

pub returns-then-more-eq0 : goal.returns-then-more-eq0
returns-then-more-eq0 t c = λ value is.
    let parts =
    split_parts full_stop c.args.text.now (Some (c.in-Some.first, c.in-Some.rest)) c.in-Some.ensures.cases
    (lit< tt) in
    let has =
    after_from c.args.more c.args.text.now c.in-Some.first.now c.in-Some.rest.now value parts.0
    (no_stop_from c.in-Some.first.now parts.1) is in
    omega (arith, has.is_more, c.if-more-eq0.true)

pub returns-in_default-byte_value : goal.returns-in_default-byte_value
returns-in_default-byte_value t c = λ value is.
    let parts =
    split_parts full_stop c.args.text.now (Some (c.in-Some.first, c.in-Some.rest)) c.in-Some.ensures.cases
    (lit< tt) in
    let has =
    after_from c.args.more c.args.text.now c.in-Some.first.now c.in-Some.rest.now value parts.0
    (no_stop_from c.in-Some.first.now parts.1) is in
    c.in_default-byte_value.ensures has.number has.before

pub overflow_mul-result : goal.overflow_mul-result
overflow_mul-result t c =
    let number = c.in-Some-byte_value-2.ensures in
    let weight : c.weight_of.result ≤ 16777216
    = subst (λ (w : ℕ). w ≤ 16777216) (sym c.weight_of.ensures) (weight_small c.args.more c.requires.1.1) in
    let most : c.from-in-Some-weighed_value.result * c.weight_of.result ≤ 255 * c.weight_of.result
    = mul-le-mul_right c.weight_of.result (omega (arith, c.from-in-Some-weighed_value.ensures, number.0)) in
    omega (arith, most, weight)

pub overflow_add-result : goal.overflow_add-result
overflow_add-result t c =
    let number = c.in-Some-byte_value-2.ensures in
    let weight : c.weight_of.result ≤ 16777216
    = subst (λ (w : ℕ). w ≤ 16777216) (sym c.weight_of.ensures) (weight_small c.args.more c.requires.1.1) in
    let most : c.from-in-Some-weighed_value.result * c.weight_of.result ≤ 255 * c.weight_of.result
    = mul-le-mul_right c.weight_of.result (omega (arith, c.from-in-Some-weighed_value.ensures, number.0)) in
    let (fewer, is) = fewer_than c.args.more c.if-more-eq0.false in
    let after =
    weighed_small (c.args.more - 1) c.in-Some.rest.now c.in-Some-weighed_value.after
    c.in-Some-weighed_value.ensures in
    let one_less : c.args.more - 1 ≡ fewer = omega (arith, is) in
    let whole : weight_of c.args.more ≡ 256 * weight_of fewer = ap weight_of is in
    let part : weight_of (c.args.more - 1) ≡ weight_of fewer = ap weight_of one_less in
    omega (arith, most, weight, after, whole, part, c.weight_of.ensures)

pub returns-in-Some-weighed_value : goal.returns-in-Some-weighed_value
returns-in-Some-weighed_value t c =
    let parts =
    split_parts full_stop c.args.text.now (Some (c.in-Some.first, c.in-Some.rest)) c.in-Some.ensures.cases
    (lit< tt) in
    let (fewer, is) = fewer_than c.args.more c.if-more-eq0.false in
    let after : IsWeighedText fewer c.in-Some.rest.now c.in-Some-weighed_value.after
    = subst (λ (n : ℕ). IsWeighedText n c.in-Some.rest.now c.in-Some-weighed_value.after) (omega (arith, is))
    c.in-Some-weighed_value.ensures in
    rw (c.weight_of.ensures, c.from-in-Some-weighed_value.ensures, is)
    (after_to fewer c.args.text.now c.in-Some.first.now c.in-Some.rest.now c.in-Some-byte_value-2.number
    c.in-Some-weighed_value.after parts.0 c.in-Some-byte_value-2.ensures after)

pub returns-in-None-weighed_value : goal.returns-in-None-weighed_value
returns-in-None-weighed_value t c = λ value is.
    let parts =
    split_parts full_stop c.args.text.now (Some (c.in-Some.first, c.in-Some.rest)) c.in-Some.ensures.cases
    (lit< tt) in
    let has =
    after_from c.args.more c.args.text.now c.in-Some.first.now c.in-Some.rest.now value parts.0
    (no_stop_from c.in-Some.first.now parts.1) is in
    c.in-None-weighed_value.ensures has.value
    (subst (λ (n : ℕ). IsWeighedText n c.in-Some.rest.now has.value) (omega (arith, has.is_more)) has.after)
