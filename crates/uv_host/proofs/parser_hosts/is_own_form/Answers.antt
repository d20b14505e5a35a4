-- A name of a form's code points without `xn--` is taken as it is, and is ASCII.
use Rattle.std.proofs.Common.{◌≡◌, ◌≢◌, ℕ, true, ◌==◌, List, [], length, ap, sym, ◌∙◌}
use Rattle.std.specs.List.{list_all}
use Rattle.std.proofs.lemmas.Bool.{false≢true}
use Rattle.idna.specs.declared.options.Hyphens.TheVariants.{Allow}
use Rattle.idna.specs.Labels.{labels_of}
use Rattle.idna.specs.Validity.{passes_hyphens}
use Rattle.uv_model.specs.declared.profile.Profile.TheVariants.{Parser}
use Rattle.uv_model.specs.Hosts.Domain.{is_form_code_point}
use Rattle.uv_host.proofs.DecodedLemmas.{own_taken}
use Rattle.uv_host.proofs.OwnFormLemmas.{form_ascii}
use Rattle.uv_host.proofs.parser_hosts.is_own_form.Goals as goal

pub returns-then-is_form-clause-ascii : goal.returns-then-is_form-clause-ascii
returns-then-is_form-clause-ascii c = λ yes.
    form_ascii Parser c.args.decoded.now
    (ap (list_all (is_form_code_point Parser)) (sym c.of-name.ensures) ∙ (sym c.is_form.ensures ∙ c.if-is_form.true))

pub returns-then-is_form-clause-own : goal.returns-then-is_form-clause-own
returns-then-is_form-clause-own c = λ yes.
    let bytes : List ℕ = c.args.decoded.now in
    let some : bytes ≢ []
    = λ none. false≢true (sym c.if-is_empty.false ∙ (c.is_empty.ensures
    ∙ ap (λ (left : List ℕ). length left == 0) none)) in
    let letters : list_all (is_form_code_point Parser) bytes ≡ true
    = ap (list_all (is_form_code_point Parser)) (sym c.of-name.ensures)
    ∙ (sym c.is_form.ensures ∙ c.if-is_form.true) in
    let placed : list_all (passes_hyphens Allow) (labels_of bytes) ≡ true
    = ap (λ (name : List ℕ). list_all (passes_hyphens Allow) (labels_of name)) (sym c.of-name.ensures)
    ∙ (sym c.is_without_punycode.ensures ∙ yes) in
    own_taken bytes some letters placed
