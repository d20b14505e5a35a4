-- The first fault of an opaque host is the code point after the longest prefix of units that it may hold.
use Rattle.std.proofs.Common.{◌≡◌, ℕ, suc, ◌+◌, ◌≤◌, ◌==◌, Bool, true, false, not, ◌&&◌, ◌||◌, List, [], ◌∷◌, drop}
use Rattle.std.proofs.Common.{length, Option, Some, None, refl, sym, ap, ◌∙◌, inl, inr, arith, lt-ltb, le-ltb, ne_eqb}
use Rattle.std.specs.Prelude.{if◌then◌else◌, nat_le}
use Rattle.std.specs.Char.{is_ascii}
use Rattle.std.proofs.lemmas.Bool.{cases_Bool, cases_eq, cases_lt}
use Rattle.std.proofs.lemmas.Bool.Decides.{nat_tests}
use Rattle.std.proofs.lemmas.List.{length-take-le}
use Rattle.uv_model.specs.declared.rule.Rule.{Rule}
use Rattle.uv_model.specs.declared.rule.Rule.TheVariants.{HostCodePoint}
use Rattle.uv_model.specs.declared.rule.Refusal.{Refusal}
use Rattle.uv_model.specs.Ascii.{percent_sign}
use Rattle.uv_model.specs.Hosts.OpaqueHost.{is_forbidden_host}
use Rattle.uv_model.specs.Units.{is_url_code_point}
use Rattle.uv_text.specs.Class.{HoldsOpaqueHostBytes}
use Rattle.uv_text.specs.Splits.{IsUnitSplit, begins_unit, unit_length}
use Rattle.uv_text.proofs.SplitsLemmas.{unit_length-le}
use Rattle.uv_host.specs.OpaqueHosts.{first_host_fault, host_fault, host_rule}

-- `%` isn't a URL code point
no_percent_unit : (is_ascii percent_sign && (is_url_code_point percent_sign && not (is_forbidden_host percent_sign)))
    ≡ false
unfolding is_url_code_point
no_percent_unit = refl

-- a forbidden host code point is ASCII
beyond_permitted : (c : ℕ) → 128 ≤ c → is_forbidden_host c ≡ false
beyond_permitted c high = grind (arith, nat_tests, high)

-- an ASCII code point violates a rule where the class lacks it
either : (url forbidden : Bool)
    → (if forbidden || not url then Some HostCodePoint else None)
    ≡ (if (url && not forbidden) || false then None else Some HostCodePoint)
either true true = refl
either true false = refl
either false true = refl
either false false = refl

-- and one beyond ASCII if it isn't a URL code point
either_beyond : (url : Bool) → (if not url then Some HostCodePoint else None)
    ≡ (if url then None else Some HostCodePoint)
either_beyond true = refl
either_beyond false = refl

-- a code point and what follows it begin a unit of the class exactly when they violate no rule
begins_host : (held : ℕ → Bool) → HoldsOpaqueHostBytes held → (c : ℕ) (rest : List ℕ)
    → host_fault c rest ≡ (if begins_unit held c rest then None else Some (host_rule c))
begins_host held holds c rest =
    elim (cases_eq c percent_sign) [
      | inl same ↦
          let none : held percent_sign ≡ false = holds percent_sign ∙ no_percent_unit in
          rw same (rw none refl)
      | inr other ↦
          let no_percent : (c == percent_sign) ≡ false = ne_eqb c percent_sign other in
          elim (cases_lt c 128) [
            | inl small ↦
                let below : nat_le 128 c ≡ false = grind (arith, nat_tests, small) in
                rw (no_percent, holds c, lt-ltb c 128 small, below) (either (is_url_code_point c) (is_forbidden_host c))
            | inr large ↦
                let beyond : nat_le 128 c ≡ true = grind (arith, nat_tests, large) in
                rw (no_percent, holds c, le-ltb c 128 large, beyond, beyond_permitted c large)
                (either_beyond (is_url_code_point c))
          ]
    ]

-- the first code point of a rest, as the fault at the place
abbrev fault_at : ℕ → List ℕ → Option Refusal
fault_at place [] = None
fault_at place (c ∷ rest) = Some (record { place = place; rule = host_rule c })

-- the first fault is the code point after the units, at the place that counts them
fault_after : (held : ℕ → Bool) → HoldsOpaqueHostBytes held → (place : ℕ) (text : List ℕ)
    → first_host_fault place text ≡ fault_at (place + unit_length held text) (drop (unit_length held text) text)
fault_after held holds place [] = refl
fault_after held holds place (c ∷ rest) =
    elim (cases_Bool (begins_unit held c rest)) [
      | inl begins ↦
          let none : host_fault c rest ≡ None = begins_host held holds c rest ∙ rw begins refl in
          let next : place + 1 + unit_length held rest ≡ place + suc (unit_length held rest) = omega arith in
          let more = fault_after held holds (place + 1) rest in
          let after = drop (unit_length held rest) rest in
          rw (none, begins) (more ∙ ap (λ p. fault_at p after) next)
      | inr stops ↦
          let some : host_fault c rest ≡ Some (host_rule c) = begins_host held holds c rest ∙ rw stops refl in
          rw (some, stops) (ap (λ p. Some (record { place = p; rule = host_rule c })) (omega arith))
    ]

-- a code point after the units
pub fault_found : (held : ℕ → Bool) (text prefix rest : List ℕ) (c : ℕ) (more : List ℕ) (place : ℕ) (rule : Rule)
    → HoldsOpaqueHostBytes held → IsUnitSplit held text prefix rest → rest ≡ c ∷ more → place ≡ length prefix
    → rule ≡ host_rule c → Some (record { place = place; rule = rule }) ≡ first_host_fault 0 text
fault_found held text prefix rest c more place rule holds cut first counted named =
    let n = unit_length held text in
    let here : place ≡ 0 + n =
    counted ∙ ap length cut.is_prefix ∙ length-take-le n text (unit_length-le held text) ∙ omega arith in
    rw (here, named) (ap (fault_at (0 + n)) (sym first ∙ cut.is_rest)) ∙ sym (fault_after held holds 0 text)

-- none after them
pub no_fault : (held : ℕ → Bool) (text prefix rest : List ℕ) → HoldsOpaqueHostBytes held
    → IsUnitSplit held text prefix rest → rest ≡ [] → None ≡ first_host_fault 0 text
no_fault held text prefix rest holds cut none =
    ap (fault_at (0 + unit_length held text)) (sym none ∙ cut.is_rest) ∙ sym (fault_after held holds 0 text)
