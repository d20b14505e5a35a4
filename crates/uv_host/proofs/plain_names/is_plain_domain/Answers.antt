-- A name of the lengths of a domain is its own form.
use Rattle.std.proofs.Common.{Bool, true, not, refl, sym, ◌∙◌, false, ◌≡◌, ℕ, List, subst}
use Rattle.std.specs.Prelude.{IsTrue}
use Rattle.std.proofs.lemmas.Bool.{false≢true}
use Rattle.uv_model.specs.Hosts.Domain.{ends_in_number}
use Rattle.uv_host.proofs.ChainLemmas.{rooted_ascii, rooted_is_form}
use Rattle.uv_host.proofs.plain_names.is_plain_domain.Goals as goal

is_not : (b : Bool) → IsTrue (not b) → b ≡ false
is_not true none = absurd (false≢true none)
is_not false here = refl

pub is_fitting-requires : goal.is_fitting-requires
is_fitting-requires c = c.requires

pub is_number-requires : goal.is_number-requires
is_number-requires c = rooted_ascii c.args.name.now c.requires

pub returns-then-ends_in_word : goal.returns-then-ends_in_word
returns-then-ends_in_word c = λ profile yes. (
  rooted_is_form profile c.args.name.now c.utf8.name c.requires (sym c.is_fitting.ensures ∙ c.if-not-is_fitting.false),
  subst (λ (s : List ℕ). ends_in_number s ≡ false) c.as_bytes.ensures.value
      (c.ends_in_word.ensures c.if-ends_in_word.true),
)

pub returns : goal.returns
returns c = λ profile yes. (
  rooted_is_form profile c.args.name.now c.utf8.name c.requires (sym c.is_fitting.ensures ∙ c.if-not-is_fitting.false),
  sym c.is_number.ensures ∙ is_not c.is_number.result yes,
)
