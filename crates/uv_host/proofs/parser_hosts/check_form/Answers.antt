-- A form that ends in a number is an address where it is one to four numbers, and a text has one form.
use Rattle.std.proofs.Common.{◌≡◌, ℕ, List, chars, true, sym, ap, subst, ◌∙◌, string_bytes}
use Rattle.std.proofs.lemmas.Str.{chars-IsAscii}
use Rattle.uv_model.specs.Hosts.Domain.{ends_in_number}
use Rattle.uv_model.specs.Hosts.Numbers.{IsNumbersText}
use Rattle.uv_model.proofs.Hosts.NumberLemmas.{parser_form_unique}
use Rattle.uv_host.proofs.parser_hosts.check_form.Goals as goal

pub returns-in-Some : goal.returns-in-Some
returns-in-Some c = λ text is.
    let form : List ℕ = string_bytes c.args.form in
    let same : chars c.as_str-2.result.now ≡ form
    = ap chars c.as_str-2.ensures.value ∙ chars-IsAscii form c.requires in
    let number : ends_in_number form ≡ true
    = ap ends_in_number (sym c.as_str.ensures.value) ∙ sym c.is_number.ensures ∙ c.if-not-is_number.false in
    (form, is, number, subst (λ (t : List ℕ). IsNumbersText t c.in-Some.value) same c.in-Some.ensures)

pub returns : goal.returns
returns c = λ text is.
    let form : List ℕ = string_bytes c.args.form in
    let same : chars c.as_str-2.result.now ≡ form
    = ap chars c.as_str-2.ensures.value ∙ chars-IsAscii form c.requires in
    let number : ends_in_number form ≡ true
    = ap ends_in_number (sym c.as_str.ensures.value) ∙ sym c.is_number.ensures ∙ c.if-not-is_number.false in (
      (form, is, number),
      λ value address.
          let (other, formed, ends, numbers) = address in
          let one : other ≡ form = parser_form_unique text other form formed.1 is.1 in
          c.in-None.ensures value (subst (λ (t : List ℕ). IsNumbersText t value) (one ∙ sym same) numbers),
    )
