-- Lists of all the violations of a text, put together from the violations of its parts.
use Rattle.std.proofs.Common.{◌≡◌, ℕ, ◌+◌, ◌-◌, ◌<◌, ◌⊎◌, ◌↔◌, List, [], ◌∷◌, ◌++◌, Some, None, drop, inl, inr, arith}
use Rattle.std.proofs.Common.{refl, subst}
use Rattle.std.specs.List.{Contains}
use Rattle.std.proofs.lemmas.Bool.{cases_order}
use Rattle.std.proofs.lemmas.List.Elements.{Contains-append_left, Contains-append_right, Contains-append_cases}
use Rattle.std.proofs.lemmas.List.Elements.{Contains-push, Contains-push_cases}
use Rattle.uv_model.specs.declared.rule.Rule.{Rule}
use Rattle.uv_model.specs.declared.rule.Refusal.{Refusal}
use Rattle.uv_model.specs.Violations.AllViolations.{IsOrdered, ListsViolations, StandsAfter, first_refusal}
use Rattle.uv_model.specs.Violations.Violation.{After, refusal_after}
use Rattle.uv_model.specs.Violations.Refusal.{IsLeast}
use Rattle.uv_model.proofs.Violations.LeastLemmas.{Either, Precedes}

-- ---- the refusals of a list

contains_none : (refusal : Refusal) → Contains [] refusal → ⊥
contains_none refusal h = let less : h.0 < 0 = h.1 in omega arith

-- a list has its first refusal
pub contains_here : (refusal : Refusal) (rest : List Refusal) → Contains (refusal ∷ rest) refusal
contains_here refusal rest = Contains-append_left (refusal ∷ []) rest refusal (Contains-push [] refusal)

-- and those after it
pub contains_later : (refusal other : Refusal) (rest : List Refusal) → Contains rest other
    → Contains (refusal ∷ rest) other
contains_later refusal other rest h = Contains-append_right (refusal ∷ []) rest other h

-- and no others
pub contains_cases : (refusal other : Refusal) (rest : List Refusal) → Contains (refusal ∷ rest) other
    → (refusal ≡ other) ⊎ Contains rest other
contains_cases refusal other rest h = elim (Contains-append_cases (refusal ∷ []) rest other h) [
  | inl one ↦ elim (Contains-push_cases [] refusal other one) [
    | inl none ↦ absurd (contains_none other none)
    | inr same ↦ inl same
  ]
  | inr later ↦ inr later
]

-- the refusal at the place by the rule
abbrev refusal_at : ℕ → Rule → Refusal
refusal_at place rule = record { place = place; rule = rule }

-- a place and a rule make a refusal
same_refusal : (refusal other : Refusal) → refusal.place ≡ other.place → refusal.rule ≡ other.rule → refusal ≡ other
same_refusal refusal other = same refusal.place other.place refusal.rule other.rule
  where
    same : (place second_place : ℕ) (rule second_rule : Rule) → place ≡ second_place → rule ≡ second_rule
        → refusal_at place rule ≡ refusal_at second_place second_rule
    same place second_place rule second_rule places rules = rw (places, rules) refl

-- ---- lists of violations

-- no violation
pub lists_none : (F : ℕ → Rule → Type 0) → IsLeast F None → ListsViolations F []
lists_none F none = record {
  each = λ refusal.
      (λ h. absurd (contains_none refusal h), λ h. absurd (none refusal.place refusal.rule h));
  ordered = tt;
}

-- the one violation
pub lists_one : (F : ℕ → Rule → Type 0) (refusal : Refusal) → F refusal.place refusal.rule
    → ((place : ℕ) (rule : Rule) → F place rule → (refusal.place ≡ place) × (refusal.rule ≡ rule))
    → ListsViolations F (refusal ∷ [])
lists_one F refusal stands only = record { each = each; ordered = (ordered, tt) }
  where
    ordered : (other : Refusal) → Contains [] other → StandsAfter refusal other.place other.rule
    ordered other h = absurd (contains_none other h)

    there : (other : Refusal) → Contains (refusal ∷ []) other → F other.place other.rule
    there other h = elim (contains_cases refusal other [] h) [
      | inl same ↦ subst (λ (r : Refusal). F r.place r.rule) same stands
      | inr none ↦ absurd (contains_none other none)
    ]

    back : (other : Refusal) → F other.place other.rule → Contains (refusal ∷ []) other
    back other h =
        let is = only other.place other.rule h in
        subst (λ (r : Refusal). Contains (refusal ∷ []) r) (same_refusal refusal other is.0 is.1)
        (contains_here refusal [])

    each : (other : Refusal) → Contains (refusal ∷ []) other ↔ F other.place other.rule
    each other = (there other, back other)

-- violations that are the same have the same list
pub lists_like : (F G : ℕ → Rule → Type 0) → ((place : ℕ) (rule : Rule) → F place rule → G place rule)
    → ((place : ℕ) (rule : Rule) → G place rule → F place rule) → (list : List Refusal) → ListsViolations F list
    → ListsViolations G list
lists_like F G to from list is = record {
  each = λ refusal. (
    λ h. to refusal.place refusal.rule ((is.each refusal).0 h),
    λ h. (is.each refusal).1 (from refusal.place refusal.rule h),
  );
  ordered = is.ordered;
}

-- two ordered lists of which the one is before the other
ordered_append : (xs ys : List Refusal) → IsOrdered xs → IsOrdered ys
    → ((x y : Refusal) → Contains xs x → Contains ys y → StandsAfter x y.place y.rule) → IsOrdered (xs ++ ys)
ordered_append [] ys first second across = second
ordered_append (x ∷ xs) ys first second across = (
  λ other h. elim (Contains-append_cases xs ys other h) [
    | inl one ↦ first.0 other one
    | inr two ↦ across x other (contains_here x xs) two
  ],
  ordered_append xs ys first.1 second (λ a b one two. across a b (contains_later x a xs one) two),
)

-- the violations of both kinds, where the one comes before the other
pub lists_both : (F G : ℕ → Rule → Type 0) (first second : List Refusal) → Precedes F G → ListsViolations F first
    → ListsViolations G second → ListsViolations (Either F G) (first ++ second)
lists_both F G first second before one two = record {
  each = λ refusal. (there refusal, back refusal);
  ordered = ordered_append first second one.ordered two.ordered
      (λ x y a b. before.order x.place y.place x.rule y.rule ((one.each x).0 a) ((two.each y).0 b));
}
  where
    there : (refusal : Refusal) → Contains (first ++ second) refusal → Either F G refusal.place refusal.rule
    there refusal h = elim (Contains-append_cases first second refusal h) [
      | inl a ↦ inl ((one.each refusal).0 a)
      | inr b ↦ inr ((two.each refusal).0 b)
    ]

    back : (refusal : Refusal) → Either F G refusal.place refusal.rule → Contains (first ++ second) refusal
    back refusal (inl f) = Contains-append_left first second refusal ((one.each refusal).1 f)
    back refusal (inr g) = Contains-append_right first second refusal ((two.each refusal).1 g)

-- the first of the list is the least violation
pub lists_least : (F : ℕ → Rule → Type 0) (list : List Refusal) → ListsViolations F list
    → IsLeast F (first_refusal list)
lists_least F [] is = λ place rule h. contains_none (refusal_at place rule) ((is.each (refusal_at place rule)).1 h)
lists_least F (refusal ∷ rest) is = record {
  stands = (is.each refusal).0 (contains_here refusal rest);
  first = λ place rule h. elim (where_it_stands place rule h) [
    | inl same ↦ omega arith
    | inr (inl less) ↦ omega arith
    | inr (inr (same, less)) ↦ omega arith
  ];
  lowest = λ rule h. elim (where_it_stands refusal.place rule h) [
    | inl (place, same) ↦ rw same (omega arith)
    | inr (inl less) ↦ absurd (omega arith)
    | inr (inr (same, less)) ↦ omega arith
  ];
}
  where
    where_it_stands : (place : ℕ) (rule : Rule) → F place rule
        → ((refusal.place ≡ place) × (refusal.rule ≡ rule)) ⊎ StandsAfter refusal place rule
    where_it_stands place rule h =
        let it = refusal_at place rule in
        elim (contains_cases refusal it rest ((is.each it).1 h)) [
          | inl same ↦ inl (cc, cc)
          | inr later ↦ inr (is.ordered.0 it later)
        ]

-- ---- texts that are checked code point by code point

-- a violation is one of a code point and of what follows it, and a code point has one at most
pub record IsScan (F : List ℕ → ℕ → Rule → Type 0) : Type 0 where
  pub one : (text : List ℕ) (place : ℕ) (rule other : Rule) → F text place rule → F text place other → rule ≡ other
  pub after : (prefix : ℕ) (text : List ℕ) (place : ℕ) (rule : Rule) → F text (prefix + place) rule
      → F (drop prefix text) place rule
  pub whole : (prefix : ℕ) (text : List ℕ) (place : ℕ) (rule : Rule) → F (drop prefix text) place rule
      → F text (prefix + place) rule

-- the violations are the least one and the ones after its code point
pub lists_scan : (F : List ℕ → ℕ → Rule → Type 0) → IsScan F → (here : ℕ) (text : List ℕ) (refusal : Refusal)
    (list : List Refusal) → IsLeast (F text) (Some refusal)
    → ListsViolations (After (here + (refusal.place + 1)) (F (drop (refusal.place + 1) text))) list
    → ListsViolations (After here (F text)) (refusal_after here refusal ∷ list)
lists_scan F scan here text refusal list least is = record {
  each = λ other. (there other, back other);
  ordered = (λ other h. inl (later other h), is.ordered);
}
  where
    later : (other : Refusal) → Contains list other → here + refusal.place < other.place
    later other h = let after = (is.each other).0 h in omega (arith, after.moved)

    there : (other : Refusal) → Contains (refusal_after here refusal ∷ list) other
        → After here (F text) other.place other.rule
    there other h = elim (contains_cases (refusal_after here refusal) other list h) [
      | inl same ↦
          subst (λ (r : Refusal). After here (F text) r.place r.rule) same
          (record { inner = refusal.place; moved = refl; holds = least.stands })
      | inr h ↦
          let after = (is.each other).0 h in
          record {
            inner = (refusal.place + 1) + after.inner;
            moved = omega (arith, after.moved);
            holds = scan.whole (refusal.place + 1) text after.inner other.rule after.holds;
          }
    ]

    at_it : (other : Refusal) (h : After here (F text) other.place other.rule) → h.inner ≡ refusal.place
        → Contains (refusal_after here refusal ∷ list) other
    at_it other h same =
        let holds = subst (λ (place : ℕ). F text place other.rule) same h.holds in
        let rule : refusal.rule ≡ other.rule = scan.one text refusal.place refusal.rule other.rule least.stands holds in
        let place : here + refusal.place ≡ other.place = omega (arith, h.moved) in
        subst (λ (r : Refusal). Contains (refusal_after here refusal ∷ list) r)
        (same_refusal (refusal_after here refusal) other place rule)
        (contains_here (refusal_after here refusal) list)

    after_it : (other : Refusal) (h : After here (F text) other.place other.rule) → refusal.place < h.inner
        → Contains (refusal_after here refusal ∷ list) other
    after_it other h less =
        let inner : h.inner ≡ (refusal.place + 1) + (h.inner - (refusal.place + 1)) = omega arith in
        let holds = subst (λ (place : ℕ). F text place other.rule) inner h.holds in
        contains_later (refusal_after here refusal) other list
        ((is.each other).1 (record {
          inner = h.inner - (refusal.place + 1);
          moved = omega (arith, h.moved);
          holds = scan.after (refusal.place + 1) text (h.inner - (refusal.place + 1)) other.rule holds;
        }))

    back : (other : Refusal) → After here (F text) other.place other.rule
        → Contains (refusal_after here refusal ∷ list) other
    back other h =
        let first = least.first h.inner other.rule h.holds in
        elim (cases_order h.inner refusal.place) [
          | inl same ↦ at_it other h same
          | inr (inl less) ↦ absurd (omega arith)
          | inr (inr more) ↦ after_it other h more
        ]
