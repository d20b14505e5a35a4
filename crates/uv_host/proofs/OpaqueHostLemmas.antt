-- The violations of an opaque host, from code point to code point, and the least of them.
use Rattle.std.proofs.Common.{◌≡◌, ◌≢◌, ℕ, zero, suc, ◌+◌, ◌≤◌, Bool, true, false, not, List, [], ◌∷◌, Option, Some}
use Rattle.std.proofs.Common.{None, refl, sym, ap, ◌∙◌, inl, inr, ◌⊎◌, ◌↔◌, arith, le_refl}
use Rattle.std.specs.List.{list_all}
use Rattle.std.proofs.lemmas.Bool.{false≢true, cases_Bool, cases_eq, ne_eqb, and_from, and_parts, not-true}
use Rattle.uv_model.specs.declared.rule.Rule.{Rule}
use Rattle.uv_model.specs.declared.rule.Rule.TheVariants.{HostIpv6, HostCodePoint, Percent}
use Rattle.uv_model.specs.declared.rule.Refusal.{Refusal}
use Rattle.uv_model.specs.Hosts.Address.{IsBracketedIpv6}
use Rattle.uv_model.specs.Ascii.{percent_sign}
use Rattle.uv_model.specs.Hosts.OpaqueHost.{is_forbidden_host, starts_with_bracket}
use Rattle.uv_model.specs.Violations.OpaqueHostViolation.{OpaqueHostViolation}
use Rattle.uv_model.specs.Violations.Refusal.{IsLeast}
use Rattle.uv_model.specs.Violations.Rule.{rule_number}
use Rattle.uv_model.specs.Units.{is_url_code_point, starts_with_two_hex, is_unit_at, is_faultless}
use Rattle.uv_model.proofs.Addresses.AddressUniqueness.{bracketed_bracket}
use Rattle.uv_model.proofs.Violations.RefusalLemmas.{IsLeast-like}
use Rattle.uv_model.proofs.Texts.UnitsLemmas.{is_faultless-units, IsUnits-faultless}
use Rattle.uv_host.specs.OpaqueHosts.{HostUnitViolation, IsOpaqueHostOrEmpty, fault_at_or, first_host_fault, host_fault}
use Rattle.uv_model.proofs.Violations.UnitViolationLemmas.{head_same, tail_same, nothing_at}
use Rattle.uv_model.proofs.Violations.FaultlessHosts.{opaque_no_bracket}

-- ---- a text that begins with `[`

-- an IPv6 text in brackets has no violation
pub bracketed_silent : (text pieces : List ℕ) → starts_with_bracket text ≡ true → IsBracketedIpv6 text pieces
    → IsLeast (OpaqueHostViolation text) None
bracketed_silent text pieces bracket is = none
  where
    none : (place : ℕ) (rule : Rule) → OpaqueHostViolation text place rule → ⊥
    none place HostIpv6 h = h.0.no_value pieces is
    none place HostCodePoint h = false≢true (sym h.0 ∙ bracket)
    none place Percent h = false≢true (sym h.0 ∙ bracket)
    none place _ h = h

-- ---- the first code point of any other text

-- a violation is one place later after one more code point
later : (c : ℕ) (rest : List ℕ) (place : ℕ) (rule : Rule) → HostUnitViolation rest place rule
    → HostUnitViolation (c ∷ rest) (suc place) rule
later c rest place HostCodePoint h =
    record { code_point = h.code_point; rest = h.rest; here = h.here; foreign = h.foreign }
later c rest place Percent h = record { rest = h.rest; here = h.here; bare = h.bare }
later c rest place _ h = absurd h

-- and one place earlier in the text without its first code point
earlier : (c : ℕ) (rest : List ℕ) (place : ℕ) (rule : Rule) → HostUnitViolation (c ∷ rest) (suc place) rule
    → HostUnitViolation rest place rule
earlier c rest place HostCodePoint h =
    record { code_point = h.code_point; rest = h.rest; here = h.here; foreign = h.foreign }
earlier c rest place Percent h = record { rest = h.rest; here = h.here; bare = h.bare }
earlier c rest place _ h = absurd h

-- the empty text has no violation
empty_silent : (place : ℕ) (rule : Rule) → HostUnitViolation [] place rule → ⊥
empty_silent place HostCodePoint h = nothing_at place _ _ h.here
empty_silent place Percent h = nothing_at place _ _ h.here
empty_silent place _ h = h

-- a forbidden host code point isn't `%`
forbidden_no_percent : (c : ℕ) → is_forbidden_host c ≡ true → c ≢ percent_sign
forbidden_no_percent c forbidden e = false≢true (ap is_forbidden_host (sym e) ∙ forbidden)

-- a code point that no opaque host holds is a fault
foreign_fault : (c : ℕ) (rest : List ℕ)
    → (is_forbidden_host c ≡ true) ⊎ ((is_url_code_point c ≡ false) × (c ≢ percent_sign))
    → host_fault c rest ≡ Some HostCodePoint
foreign_fault c rest (inl forbidden) = rw (ne_eqb c percent_sign (forbidden_no_percent c forbidden), forbidden) refl
foreign_fault c rest (inr (foreign, other)) =
    elim (cases_Bool (is_forbidden_host c)) [
      | inl forbidden ↦ rw (ne_eqb c percent_sign other, forbidden) refl
      | inr allowed ↦ rw (ne_eqb c percent_sign other, allowed, foreign) refl
    ]

-- a violation of the first code point is its fault
said : (c : ℕ) (rest : List ℕ) (rule : Rule) → HostUnitViolation (c ∷ rest) 0 rule → host_fault c rest ≡ Some rule
said c rest HostCodePoint h =
    let same = head_same c h.code_point rest h.rest h.here in
    foreign_fault c rest (rw same at h.foreign)
said c rest Percent h =
    let same : c ≡ percent_sign = sym (head_same c percent_sign rest h.rest h.here) in
    let bare : starts_with_two_hex rest ≡ false =
    ap starts_with_two_hex (sym (tail_same c percent_sign rest h.rest h.here)) ∙ h.bare in
    rw (same, bare) refl
said c rest _ h = absurd h

-- its fault is a violation
stands : (c : ℕ) (rest : List ℕ) (rule : Rule) → host_fault c rest ≡ Some rule → HostUnitViolation (c ∷ rest) 0 rule
stands c rest rule fault =
    elim (cases_eq c percent_sign) [
      | inl same ↦
          elim (cases_Bool (starts_with_two_hex rest)) [
            | inl hex ↦ absurd (let none = rw (same, hex) at fault in cc)
            | inr bare ↦
                let found = rw (same, bare) at fault in
                let is : Percent ≡ rule = cc in
                rw (← is, same) (record { rest = rest; here = refl; bare = bare })
          ]
      | inr other ↦
          elim (cases_Bool (is_forbidden_host c)) [
            | inl forbidden ↦
                let found = rw (ne_eqb c percent_sign other, forbidden) at fault in
                let is : HostCodePoint ≡ rule = cc in
                rw (← is) (record { code_point = c; rest = rest; here = refl; foreign = inl forbidden })
            | inr allowed ↦
                elim (cases_Bool (is_url_code_point c)) [
                  | inl url ↦ absurd (let none = rw (ne_eqb c percent_sign other, allowed, url) at fault in cc)
                  | inr foreign ↦
                      let found = rw (ne_eqb c percent_sign other, allowed, foreign) at fault in
                      let is : HostCodePoint ≡ rule = cc in
                      rw (← is) (record { code_point = c; rest = rest; here = refl; foreign = inr (foreign, other) })
                ]
          ]
    ]

-- ---- the whole text

-- the violations of a text before which so many code points are
abbrev From : ℕ → List ℕ → ℕ → Rule → Type 0
From start text place rule = (inner : ℕ) × (place ≡ start + inner) × HostUnitViolation text inner rule

-- the least violation after one more code point, by that code point's fault
step : (start c : ℕ) (rest : List ℕ) (fault : Option Rule) → host_fault c rest ≡ fault
    → IsLeast (From (start + 1) rest) (first_host_fault (start + 1) rest)
    → IsLeast (From start (c ∷ rest)) (fault_at_or start fault (first_host_fault (start + 1) rest))
step start c rest (Some rule) is after =
    record {
      stands = (0, omega arith, stands c rest rule is);
      first = λ place other (inner, at, h). omega (arith, at);
      lowest = lowest;
    }
  where
    lowest : (other : Rule) → From start (c ∷ rest) start other → rule_number rule ≤ rule_number other
    lowest other (inner, at, h) =
        let here : inner ≡ 0 = omega (arith, at) in
        let found = said c rest other (rw here at h) in
        let same : rule ≡ other = cc in
        rw same (le_refl _)
step start c rest None is after =
    IsLeast-like (From (start + 1) rest) (From start (c ∷ rest)) to from (first_host_fault (start + 1) rest) after
  where
    to : (place : ℕ) (rule : Rule) → From (start + 1) rest place rule → From start (c ∷ rest) place rule
    to place rule (inner, at, h) = (suc inner, omega (arith, at), later c rest inner rule h)

    from : (place : ℕ) (rule : Rule) → From start (c ∷ rest) place rule → From (start + 1) rest place rule
    from place rule (zero, at, h) = let found = said c rest rule h in absurd (cc)
    from place rule (suc inner, at, h) = (inner, omega (arith, at), earlier c rest inner rule h)

-- the first fault is the least violation
first_least : (start : ℕ) (text : List ℕ) → IsLeast (From start text) (first_host_fault start text)
first_least start [] = λ place rule (inner, at, h). empty_silent inner rule h
first_least start (c ∷ rest) = step start c rest (host_fault c rest) refl (first_least (start + 1) rest)

-- the first fault is the least violation of a code point
pub units_least : (text : List ℕ) (fault : Option Refusal) → fault ≡ first_host_fault 0 text
    → IsLeast (HostUnitViolation text) fault
units_least text fault is =
    rw is (IsLeast-like (From 0 text) (HostUnitViolation text) to from (first_host_fault 0 text) (first_least 0 text))
  where
    to : (place : ℕ) (rule : Rule) → From 0 text place rule → HostUnitViolation text place rule
    to place rule (inner, at, h) = let same : place ≡ inner = omega arith in rw same h

    from : (place : ℕ) (rule : Rule) → HostUnitViolation text place rule → From 0 text place rule
    from place rule h = (place, omega arith, h)

-- the first fault of a text that doesn't begin with `[` is its least violation
pub unbracketed_least : (text : List ℕ) → starts_with_bracket text ≡ false
    → IsLeast (OpaqueHostViolation text) (first_host_fault 0 text)
unbracketed_least text no_bracket =
    IsLeast-like (From 0 text) (OpaqueHostViolation text) to from (first_host_fault 0 text) (first_least 0 text)
  where
    to : (place : ℕ) (rule : Rule) → From 0 text place rule → OpaqueHostViolation text place rule
    to place HostCodePoint (inner, at, h) = let same : place ≡ inner = omega arith in rw same (no_bracket, h)
    to place Percent (inner, at, h) = let same : place ≡ inner = omega arith in rw same (no_bracket, h)
    to place _ (inner, at, h) = absurd h

    from : (place : ℕ) (rule : Rule) → OpaqueHostViolation text place rule → From 0 text place rule
    from place HostIpv6 h = absurd (false≢true (sym no_bracket ∙ h.0.bracket))
    from place HostCodePoint h = (place, omega arith, h.1)
    from place Percent h = (place, omega arith, h.1)
    from place _ h = absurd h

-- ---- texts without a violation

-- a code point without a fault isn't a fault of units, and no forbidden host code point
allowed_here : (c : ℕ) (rest : List ℕ) → host_fault c rest ≡ None
    → (is_unit_at c rest ≡ true) × (not (is_forbidden_host c) ≡ true)
unfolding is_unit_at
allowed_here c rest none =
    elim (cases_eq c percent_sign) [
      | inl same ↦
          elim (cases_Bool (starts_with_two_hex rest)) [
            | inl hex ↦ rw (same, hex) (refl, refl)
            | inr bare ↦ absurd (let found = rw (same, bare) at none in cc)
          ]
      | inr other ↦
          elim (cases_Bool (is_forbidden_host c)) [
            | inl forbidden ↦ absurd (let found = rw (ne_eqb c percent_sign other, forbidden) at none in cc)
            | inr allowed ↦
                elim (cases_Bool (is_url_code_point c)) [
                  | inl url ↦ rw (ne_eqb c percent_sign other, allowed, url) (refl, refl)
                  | inr foreign ↦
                      absurd (let found = rw (ne_eqb c percent_sign other, allowed, foreign) at none in cc)
                ]
          ]
    ]

-- and such a code point has no fault
silent_here : (c : ℕ) (rest : List ℕ) → is_unit_at c rest ≡ true → not (is_forbidden_host c) ≡ true
    → host_fault c rest ≡ None
unfolding is_unit_at
silent_here c rest unit permitted =
    let allowed : is_forbidden_host c ≡ false = not-true (is_forbidden_host c) permitted in
    elim (cases_eq c percent_sign) [
      | inl same ↦ let hex : starts_with_two_hex rest ≡ true = rw same at unit in rw (same, hex) refl
      | inr other ↦
          let url : is_url_code_point c ≡ true = rw (ne_eqb c percent_sign other) at unit in
          rw (ne_eqb c percent_sign other, allowed, url) refl
    ]

-- no code point of the text is a forbidden host code point
abbrev pub permits : List ℕ → Bool
permits text = list_all (λ c. not (is_forbidden_host c)) text

-- both parts of a search that finds nothing
none_parts : (place : ℕ) (fault : Option Rule) (after : Option Refusal) → fault_at_or place fault after ≡ None
    → (fault ≡ None) × (after ≡ None)
none_parts place None after none = (refl, none)
none_parts place (Some rule) after none = absurd (cc)

-- a text without a fault is units without forbidden host code points
silent_units : (start : ℕ) (text : List ℕ) → first_host_fault start text ≡ None
    → (is_faultless text ≡ true) × (permits text ≡ true)
silent_units start [] none = (refl, refl)
silent_units start (c ∷ rest) none =
    let parts = none_parts start (host_fault c rest) (first_host_fault (start + 1) rest) none in
    let here = allowed_here c rest parts.0 in
    let after = silent_units (start + 1) rest parts.1 in
    (and_from _ _ here.0 after.0, and_from _ _ here.1 after.1)

-- and such a text has no fault
units_silent : (start : ℕ) (text : List ℕ) → is_faultless text ≡ true → permits text ≡ true
    → first_host_fault start text ≡ None
units_silent start [] units permitted = refl
units_silent start (c ∷ rest) units permitted =
    let unit = and_parts (is_unit_at c rest) (is_faultless rest) units in
    let permit = and_parts (not (is_forbidden_host c)) (permits rest) permitted in
    let here = silent_here c rest unit.0 permit.0 in
    rw here (units_silent (start + 1) rest unit.1 permit.1)

-- a text that doesn't begin with `[` has no fault exactly when it is empty or an opaque host
pub unbracketed_silent : (text : List ℕ) → starts_with_bracket text ≡ false
    → (first_host_fault 0 text ≡ None) ↔ IsOpaqueHostOrEmpty text
unbracketed_silent text no_bracket = (to text, from)
  where
    to : (text : List ℕ) → first_host_fault 0 text ≡ None → IsOpaqueHostOrEmpty text
    to [] none = inl refl
    to (c ∷ rest) none =
        let parts = silent_units 0 (c ∷ rest) none in
        let units = IsUnits-faultless (c ∷ rest) parts.0 in
        inr (inr (record { first = c; rest = rest; some = refl; units = units; permitted = parts.1 }))

    from : IsOpaqueHostOrEmpty text → first_host_fault 0 text ≡ None
    from (inl empty) = rw empty refl
    from (inr (inl (pieces, is))) = absurd (false≢true (sym no_bracket ∙ bracketed_bracket text pieces is))
    from (inr (inr is)) = units_silent 0 text (is_faultless-units text is.units) is.permitted

-- a text that begins with `[` is such a text only when it is an IPv6 text in brackets
pub bracket_only : (text : List ℕ) → starts_with_bracket text ≡ true → IsOpaqueHostOrEmpty text
    → (pieces : List ℕ) × IsBracketedIpv6 text pieces
bracket_only text bracket (inl empty) = absurd (false≢true (rw empty at bracket))
bracket_only text bracket (inr (inl is)) = is
bracket_only text bracket (inr (inr is)) = absurd (false≢true (sym (opaque_no_bracket text is) ∙ bracket))
