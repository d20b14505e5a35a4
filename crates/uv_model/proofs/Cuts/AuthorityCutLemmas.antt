-- The authority of a text: it is written with its host, its port and the path in one way.
use Rattle.std.proofs.Common.{◌≡◌, ◌≢◌, ℕ, Bool, true, false, not, ◌==◌, List, [], ◌∷◌, ◌++◌, Option, Some, None}
use Rattle.std.proofs.Common.{refl, sym, ap, subst, ◌∙◌, inl, inr, length, drop, append-nil}
use Rattle.std.specs.Prelude.{IsSome}
use Rattle.std.specs.List.{after_first}
use Rattle.std.proofs.lemmas.Bool.{false≢true, cases_Bool, and_parts, not-true, not-false, eqb-true, eq-eqb}
use Rattle.std.proofs.Math.Seq.{drop-append_seam}
use Rattle.uv_model.specs.declared.scheme.Class.{Class}
use Rattle.uv_model.specs.declared.scheme.Class.TheVariants.{SpecialNotFile, File, Other}
use Rattle.uv_model.specs.Ascii.{slash, colon}
use Rattle.uv_model.specs.Parts.{written_after, written_authority}
use Rattle.uv_model.specs.Path.{is_without, starts_with_slash}
use Rattle.uv_model.specs.Cut.{IsHostCut, IsAuthorityCut, EndsAtPort, text_before, host_before, port_after, host_cut}
use Rattle.uv_model.specs.Cut.{port_cut, host_text_cut, port_text_cut, path_text_cut, authority_in, is_within}
use Rattle.uv_model.specs.Cut.{is_within_at_end, is_port_mark, starts_with_two_slashes}
use Rattle.uv_model.proofs.Texts.MarkLemmas.{is_without-before, text_before-none, text_before-mark, at_first_mark}

-- ---- the host and the port of an authority

-- Each `:` of the host text is within brackets, and a port's `:` doesn't; `within` says whether the text's start
-- is within brackets.
pub record EndsFrom (within : Bool) (host_text : List ℕ) (port_text : Option (List ℕ)) : Type 0 where
  pub none_before : (prefix rest : List ℕ) → host_text ≡ prefix ++ colon ∷ rest → is_within_at_end within prefix ≡ true
  pub ends : IsSome port_text → is_within_at_end within host_text ≡ false

-- the first code point of such a host text isn't a `:` of a port
pub first_is_no_mark : (within : Bool) (c : ℕ) (rest : List ℕ) (port_text : Option (List ℕ))
    → EndsFrom within (c ∷ rest) port_text
    → is_port_mark within c ≡ false
first_is_no_mark within c rest port_text e = elim (cases_Bool (c == colon)) [
  | inl same ↦ rw (same, e.none_before [] rest (ap (λ x. x ∷ rest) (eqb-true c colon same))) refl
  | inr other ↦ rw other refl
]

-- and its rest is such a text from the next place on
pub rest_ends : (within : Bool) (c : ℕ) (rest : List ℕ) (port_text : Option (List ℕ))
    → EndsFrom within (c ∷ rest) port_text
    → EndsFrom (is_within within c) rest port_text
rest_ends within c rest port_text e = record {
  none_before = λ prefix later same. e.none_before (c ∷ prefix) later (ap (λ xs. c ∷ xs) same);
  ends = e.ends;
}

-- the host before a port that may be there
host_before-written : (within : Bool) (host_text : List ℕ) (port_text : Option (List ℕ))
    → EndsFrom within host_text port_text
    → host_before within (host_text ++ written_after colon port_text) ≡ host_text
host_before-written within [] None e = refl
host_before-written within [] (Some port_text) e = rw (e.ends refl) refl
host_before-written within (c ∷ rest) port_text e =
    rw (first_is_no_mark within c rest port_text e)
    (ap (λ xs. c ∷ xs) (host_before-written (is_within within c) rest port_text (rest_ends within c rest port_text e)))

-- the port after a host
port_after-written : (within : Bool) (host_text : List ℕ) (port_text : Option (List ℕ))
    → EndsFrom within host_text port_text
    → port_after within (host_text ++ written_after colon port_text) ≡ port_text
port_after-written within [] None e = refl
port_after-written within [] (Some port_text) e = rw (e.ends refl) refl
port_after-written within (c ∷ rest) port_text e =
    rw (first_is_no_mark within c rest port_text e)
    (port_after-written (is_within within c) rest port_text (rest_ends within c rest port_text e))

-- an authority is its host and what follows it
written_host : (within : Bool) (authority : List ℕ)
    → authority ≡ host_before within authority ++ written_after colon (port_after within authority)
written_host within [] = refl
written_host within (c ∷ rest) = elim (cases_Bool (is_port_mark within c)) [
  | inl mark ↦ rw mark (ap (λ x. x ∷ rest) (eqb-true c colon (and_parts _ _ mark).0))
  | inr other ↦ rw other (ap (λ xs. c ∷ xs) (written_host (is_within within c) rest))
]

-- nothing is round a code point in the empty text
pub nil_holds_none : (prefix rest : List ℕ) → [] ≡ prefix ++ colon ∷ rest → ⊥
nil_holds_none [] rest same = cc
nil_holds_none (c ∷ prefix) rest same = cc

-- a `:` that isn't a port's is within brackets
within_at_colon : (within : Bool) (c : ℕ) → is_port_mark within c ≡ false → c ≡ colon → within ≡ true
within_at_colon within c other same =
    let test : not within ≡ false = rw (eq-eqb c colon same) at other in
    not-false within test

-- a host text with one more code point before it that isn't the `:` of a port
ends_with_more : (within : Bool) (c : ℕ) (rest : List ℕ) (port_text : Option (List ℕ)) → is_port_mark within c ≡ false
    → EndsFrom (is_within within c) rest port_text → EndsFrom within (c ∷ rest) port_text
ends_with_more within c rest port_text other e = record { none_before = before; ends = e.ends }
  where
    before : (prefix later : List ℕ) → (c ∷ rest) ≡ prefix ++ colon ∷ later → is_within_at_end within prefix ≡ true
    before [] later same = within_at_colon within c other cc
    before (x ∷ prefix) later same =
        let first : c ≡ x = cc in
        let tail : rest ≡ prefix ++ colon ∷ later = cc in
        rw (← first) (e.none_before prefix later tail)

-- the computed host ends where it should
host_before-ends : (within : Bool) (authority : List ℕ)
    → EndsFrom within (host_before within authority) (port_after within authority)
host_before-ends within [] =
    record {
      none_before = λ prefix rest same. absurd (nil_holds_none prefix rest same);
      ends = λ some. absurd (false≢true some);
    }
host_before-ends within (c ∷ rest) = elim (cases_Bool (is_port_mark within c)) [
  | inl mark ↦ rw mark (record {
    none_before = λ prefix later same. absurd (nil_holds_none prefix later same);
    ends = λ some. not-true within (and_parts (c == colon) (not within) mark).1;
  })
  | inr other ↦ rw other (ends_with_more within c _ _ other (host_before-ends (is_within within c) rest))
]

-- the two ways to say where a host ends
pub ends_from_start : (host_text : List ℕ) (port_text : Option (List ℕ)) → EndsAtPort host_text port_text
    → EndsFrom false host_text port_text
ends_from_start host_text port_text e = record { none_before = e.none_before; ends = e.ends }

ends_at_port : (host_text : List ℕ) (port_text : Option (List ℕ)) → EndsFrom false host_text port_text
    → EndsAtPort host_text port_text
ends_at_port host_text port_text e = record { none_before = e.none_before; ends = e.ends }

-- the host by the class, of an authority that is written
host_cut-written : (class : Class) (host_text : List ℕ) (port_text : Option (List ℕ))
    → IsHostCut class host_text port_text
    → host_cut class (host_text ++ written_after colon port_text) ≡ host_text
host_cut-written File host_text port_text is = rw is (append-nil host_text)
host_cut-written SpecialNotFile host_text port_text is =
    host_before-written false host_text port_text (ends_from_start host_text port_text is)
host_cut-written Other host_text port_text is =
    host_before-written false host_text port_text (ends_from_start host_text port_text is)

-- the port by the class
port_cut-written : (class : Class) (host_text : List ℕ) (port_text : Option (List ℕ))
    → IsHostCut class host_text port_text
    → port_cut class (host_text ++ written_after colon port_text) ≡ port_text
port_cut-written File host_text port_text is = sym is
port_cut-written SpecialNotFile host_text port_text is =
    port_after-written false host_text port_text (ends_from_start host_text port_text is)
port_cut-written Other host_text port_text is =
    port_after-written false host_text port_text (ends_from_start host_text port_text is)

-- the computed host and port are a cut
pub host_cut-is : (class : Class) (authority : List ℕ)
    → IsHostCut class (host_cut class authority) (port_cut class authority)
host_cut-is File authority = refl
host_cut-is SpecialNotFile authority = ends_at_port _ _ (host_before-ends false authority)
host_cut-is Other authority = ends_at_port _ _ (host_before-ends false authority)

-- and the authority is written with them
pub written_host_cut : (class : Class) (authority : List ℕ)
    → authority ≡ host_cut class authority ++ written_after colon (port_cut class authority)
written_host_cut File authority = sym (append-nil authority)
written_host_cut SpecialNotFile authority = written_host false authority
written_host_cut Other authority = written_host false authority

-- ---- the authority and the path

-- what is before the next `/`, of an authority and a path
authority-written : (authority path : List ℕ) → is_without slash authority ≡ true → (path ≢ []
    → starts_with_slash path ≡ true)
    → text_before slash (authority ++ path) ≡ authority
authority-written authority [] none path = rw (append-nil authority) (text_before-none slash authority none)
authority-written authority (c ∷ rest) none path =
    let first : c ≡ slash = eqb-true c slash (path (λ same. cc)) in
    rw first (text_before-mark slash authority rest none)

-- an authority that is written after `//`, before a path
record IsWritten (class : Class) (host_text : List ℕ) (port_text : Option (List ℕ)) (path : List ℕ) : Type 0 where
  authority :
      authority_in (written_authority (Some host_text) port_text ++ path) ≡ host_text ++ written_after colon port_text
  is : IsHostCut class host_text port_text

is_written : (class : Class) (host_text : List ℕ) (port_text : Option (List ℕ)) (path : List ℕ)
    → IsAuthorityCut class (Some host_text) port_text path → IsWritten class host_text port_text path
is_written class host_text port_text path is = record {
  authority = authority-written (host_text ++ written_after colon port_text) path is.0 is.1;
  is = is.2;
}

-- the host text of what is written with an authority or without
pub host_text_cut-written : (class : Class) (host_text port_text : Option (List ℕ)) (path : List ℕ)
    → IsAuthorityCut class host_text port_text path
    → host_text_cut class (written_authority host_text port_text ++ path) ≡ host_text
host_text_cut-written class None port_text path is = rw is.1 refl
host_text_cut-written class (Some host_text) port_text path is =
    let w = is_written class host_text port_text path is in
    ap Some (ap (host_cut class) w.authority ∙ host_cut-written class host_text port_text w.is)

-- the port text
pub port_text_cut-written : (class : Class) (host_text port_text : Option (List ℕ)) (path : List ℕ)
    → IsAuthorityCut class host_text port_text path
    → port_text_cut class (written_authority host_text port_text ++ path) ≡ port_text
port_text_cut-written class None port_text path is = rw (is.1, is.0) refl
port_text_cut-written class (Some host_text) port_text path is =
    let w = is_written class host_text port_text path is in
    ap (port_cut class) w.authority ∙ port_cut-written class host_text port_text w.is

-- the path text
pub path_text_cut-written : (class : Class) (host_text port_text : Option (List ℕ)) (path : List ℕ)
    → IsAuthorityCut class host_text port_text path
    → path_text_cut (written_authority host_text port_text ++ path) ≡ path
path_text_cut-written class None port_text path is = rw is.1 refl
path_text_cut-written class (Some host_text) port_text path is =
    let authority = host_text ++ written_after colon port_text in
    let w = is_written class host_text port_text path is in
    ap (λ a. drop (length a) (authority ++ path)) w.authority ∙ drop-append_seam authority path

-- ---- the computed authority

-- what is left after the text before the first `/` is nothing, or begins with that `/`
record LeftAfter (text : List ℕ) : Type 0 where
  joined : text ≡ text_before slash text ++ drop (length (text_before slash text)) text
  start : drop (length (text_before slash text)) text ≢ []
      → starts_with_slash (drop (length (text_before slash text)) text) ≡ true

-- what is left after the text before the first `/`, with names for both parts
left_after_parts : (text before left : List ℕ) → text_before slash text ≡ before → text ≡ before ++ left
    → (left ≢ [] → starts_with_slash left ≡ true) → LeftAfter text
left_after_parts text before left same joined start =
    let rest : drop (length (text_before slash text)) text ≡ left
    = ap (λ a. drop (length a) text) same ∙ (ap (drop (length before)) joined ∙ drop-append_seam before left) in
    record { joined = rw (rest, same) joined; start = rw rest start }

left_after : (text : List ℕ) → LeftAfter text
left_after text = elim (cases_Bool (is_without slash text)) [
  | inl none ↦ left_after_parts text text [] (text_before-none slash text none) (sym (append-nil text))
      (λ some. absurd (some refl))
  | inr some ↦ left_after_parts text (text_before slash text) (slash ∷ after_first (λ c. c == slash) text) refl
      (at_first_mark slash text some) (λ more. refl)
]

-- a text that begins with `//`
pub two_slashes_before : (text : List ℕ) → starts_with_two_slashes text ≡ true → text ≡ slash ∷ slash ∷ drop 2 text
two_slashes_before [] starts = absurd (false≢true starts)
two_slashes_before (c ∷ []) starts = absurd (false≢true starts)
two_slashes_before (c ∷ d ∷ rest) starts =
    let parts = and_parts (c == slash) (d == slash) starts in
    let first : c ≡ slash = eqb-true c slash parts.0 in
    let second : d ≡ slash = eqb-true d slash parts.1 in
    cc

-- the authority, written with its host and port, and the path after it
pub written_middle_cut : (class : Class) (middle : List ℕ)
    → middle ≡ written_authority (host_text_cut class middle) (port_text_cut class middle) ++ path_text_cut middle
written_middle_cut class middle = elim (cases_Bool (starts_with_two_slashes middle)) [
  | inl starts ↦
      let authority = authority_in middle in
      let path = drop (length authority) (drop 2 middle) in
      let two : middle ≡ slash ∷ slash ∷ drop 2 middle = two_slashes_before middle starts in
      let after : drop 2 middle ≡ authority ++ path = (left_after (drop 2 middle)).joined in
      let host : authority ≡ host_cut class authority ++ written_after colon (port_cut class authority)
      = written_host_cut class authority in
      rw starts (two ∙ ap (λ xs. slash ∷ slash ∷ xs) (after ∙ ap (λ xs. xs ++ path) host))
  | inr other ↦ rw other refl
]

-- the computed authority is a cut
pub authority_cut-is : (class : Class) (middle : List ℕ)
    → IsAuthorityCut class (host_text_cut class middle) (port_text_cut class middle) (path_text_cut middle)
authority_cut-is class middle = elim (cases_Bool (starts_with_two_slashes middle)) [
  | inl starts ↦
      let authority = authority_in middle in
      let host : authority ≡ host_cut class authority ++ written_after colon (port_cut class authority)
      = written_host_cut class authority in
      let none : is_without slash (host_cut class authority ++ written_after colon (port_cut class authority)) ≡ true
      = subst (λ (xs : List ℕ). is_without slash xs ≡ true) host (is_without-before slash (drop 2 middle)) in
      rw starts (none, (left_after (drop 2 middle)).start, host_cut-is class authority)
  | inr other ↦ rw other (refl, other)
]
