-- The units after a mark.
use Rattle.std.proofs.Common.{◌≡◌, ℕ, List, ◌∷◌, drop, refl, subst, ◌∙◌}
use Rattle.std.specs.Str.{chars}
use Rattle.uv_text.specs.Splits.{class_has}
use Rattle.uv_text.specs.declared.units.UnitClass.TheVariants.{Url}
use Rattle.uv_text.proofs.ClassLemmas.{class_digits}
use Rattle.uv_grammar.proofs.PlainPrefixLemmas.{byte_ascii, no_part, some_part}
use Rattle.uv_grammar.proofs.links.plain.split_part.Goals as goal

pub split_prefix-after-requires : goal.split_prefix-after-requires
split_prefix-after-requires c =
    byte_ascii c.args.mark c.args.text c.requires
    (subst (λ (s : List ℕ). s ≡ c.args.mark ∷ drop 1 s) (c.as_bytes.ensures.value ∙ c.as_str.ensures)
    (c.begins_with.ensures c.if-not-begins_with.false))

pub returns : goal.returns
returns c =
    some_part c.args.mark c.args.text c.split_prefix-after.result.0.now c.split_prefix-after.result.1
    c.split_tail-rest.result.0.now c.split_tail-rest.result.1 (class_has Url)
    (subst (λ (s : List ℕ). s ≡ c.args.mark ∷ drop 1 s) (c.as_bytes.ensures.value ∙ c.as_str.ensures)
    (c.begins_with.ensures c.if-not-begins_with.false))
    c.split_prefix-after.ensures (λ byte. refl) (class_digits Url) c.split_tail-rest.ensures

pub returns-then-not-begins_with : goal.returns-then-not-begins_with
returns-then-not-begins_with c = no_part c.args.mark (chars c.args.text)
