-- A name of a form's code points without `xn--` is its own form, or its hyphens are refused; a plain name is one.
use Rattle.std.proofs.Common.{◌≡◌, false, ap, sym, ◌∙◌}
use Rattle.std.specs.List.{list_all}
use Rattle.std.proofs.lemmas.Bool.{false≢true}
use Rattle.uv_host.specs.Domains.{is_lower_name, is_simple, takes_hyphens}
use Rattle.uv_host.proofs.OwnFormLemmas.{hyphens_no_form, lower_own_form, plain_lower, plain_own_form}
use Rattle.uv_host.proofs.PlainLemmas.{plain_bytes, plain_from_simple}
use Rattle.uv_host.proofs.domains.plain_answer.Goals as goal

pub check_own-requires : goal.check_own-requires
check_own-requires c =
    plain_own_form c.args.profile c.args.name.now c.utf8.name
    (plain_from_simple c.args.name.now
    (ap (list_all is_simple) (sym (c.of-known.ensures ∙ c.as_bytes.ensures.value))
    ∙ (sym c.is_simple.ensures ∙ c.if-is_simple.true)))

pub returns-then-not-is_lower_name-clause-plain : goal.returns-then-not-is_lower_name-clause-plain
returns-then-not-is_lower_name-clause-plain c = λ plain.
    let other : is_lower_name c.args.profile c.args.name.now ≡ false
    = ap (is_lower_name c.args.profile) (sym (c.of-known.ensures ∙ c.as_bytes.ensures.value))
    ∙ (sym c.is_lower_name.ensures ∙ c.if-not-is_lower_name.true) in
    absurd (false≢true (sym other
    ∙ plain_lower c.args.profile c.args.name.now (plain_bytes c.args.name.now c.utf8.name plain)))

pub check_own-requires-then-takes_hyphens : goal.check_own-requires-then-takes_hyphens
check_own-requires-then-takes_hyphens c =
    lower_own_form c.args.profile c.args.name.now c.utf8.name
    (ap (is_lower_name c.args.profile) (sym (c.of-known.ensures ∙ c.as_bytes.ensures.value))
    ∙ (sym c.is_lower_name.ensures ∙ c.if-not-is_lower_name.false))
    (ap (takes_hyphens c.args.profile) (sym (c.of-known.ensures ∙ c.as_bytes.ensures.value))
    ∙ (sym c.takes_hyphens.ensures ∙ c.if-takes_hyphens.true))

pub returns-else-takes_hyphens-clause-answer : goal.returns-else-takes_hyphens-clause-answer
returns-else-takes_hyphens-clause-answer c =
    hyphens_no_form c.args.profile c.args.name.now c.utf8.name
    (ap (is_lower_name c.args.profile) (sym (c.of-known.ensures ∙ c.as_bytes.ensures.value))
    ∙ (sym c.is_lower_name.ensures ∙ c.if-not-is_lower_name.false))
    (ap (takes_hyphens c.args.profile) (sym (c.of-known.ensures ∙ c.as_bytes.ensures.value))
    ∙ (sym c.takes_hyphens.ensures ∙ c.if-takes_hyphens.false))
