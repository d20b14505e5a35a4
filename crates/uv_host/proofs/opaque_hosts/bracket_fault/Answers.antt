-- A text that begins with `[` has a fault unless it is an IPv6 text in brackets.
use Rattle.std.proofs.Common.{◌≡◌, ℕ, ◌<◌, true, List, [], ◌∷◌, chars, length, arith}
use Rattle.std.proofs.lemmas.Bool.{false≢true}
use Rattle.uv_model.specs.Hosts.OpaqueHost.{starts_with_bracket}
use Rattle.uv_host.proofs.OpaqueHostLemmas.{bracketed_silent, bracket_only}
use Rattle.uv_host.proofs.opaque_hosts.bracket_fault.Goals as goal

pub returns-in-Some-clause-least : goal.returns-in-Some-clause-least
returns-in-Some-clause-least c =
    bracketed_silent (chars c.args.text.now) c.in-Some.field-0 c.requires c.in-Some.ensures

-- a text that begins with `[` has a place
bracket_some : (text : List ℕ) → starts_with_bracket text ≡ true → 0 < length text
bracket_some [] bracket = absurd (false≢true bracket)
bracket_some (c ∷ rest) bracket = omega arith

pub returns-in-None-clause-within : goal.returns-in-None-clause-within
returns-in-None-clause-within c = bracket_some (chars c.args.text.now) c.requires

pub returns-in-None-clause-silent : goal.returns-in-None-clause-silent
returns-in-None-clause-silent c = (
  λ none. absurd (cc),
  λ is. let (pieces, bracketed) =
      bracket_only (chars c.args.text.now) c.requires is in absurd (c.in-None.ensures pieces bracketed),
)
