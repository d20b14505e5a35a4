-- An empty host, and one that isn't.
use Rattle.std.proofs.Common.{◌≡◌, ◌≢◌, ℕ, List, [], ◌∷◌, not, refl, sym, ap, ◌∙◌}
use Rattle.std.specs.Str.{chars}
use Rattle.uv_model.specs.declared.scheme.Class.TheVariants.{Other}
use Rattle.uv_model.specs.Hosts.OpaqueHost.{starts_with_bracket}
use Rattle.uv_grammar.specs.HostValues.{is_scanned}
use Rattle.uv_grammar.proofs.HostLemmas.{no_chars, some_chars}
use Rattle.uv_grammar.proofs.all_faults.is_scanned.Goals as goal

-- a host that isn't empty is known by its bracket
by_bracket : (text : List ℕ) → text ≢ [] → not (starts_with_bracket text) ≡ is_scanned Other text
by_bracket [] some = absurd (some refl)
by_bracket (c ∷ rest) some = refl

pub returns-then-not-is_empty : goal.returns-then-not-is_empty
returns-then-not-is_empty c =
    let some = some_chars c.args.host_text.now c.utf8.host_text (sym c.is_empty.ensures ∙ c.if-not-is_empty.true) in
    rw (c.in-Other.is, c.has_bracket.ensures) (by_bracket (chars c.args.host_text.now) some)

pub returns-else-not-is_empty : goal.returns-else-not-is_empty
returns-else-not-is_empty c =
    let none = no_chars c.args.host_text.now (sym c.is_empty.ensures ∙ c.if-not-is_empty.false) in
    rw (c.in-Other.is, none) (ap not c.if-not-is_empty.false)
