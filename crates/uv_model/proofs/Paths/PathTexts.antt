-- Texts of paths of segments, each after a `/`.
use Rattle.std.proofs.Common.{◌≡◌, ◌≢◌, ℕ, ◌+◌, ◌<◌, suc, Bool, true, false, ◌==◌, List, [], ◌∷◌, ◌++◌, All, Option}
use Rattle.std.proofs.Common.{Some}
use Rattle.std.proofs.Common.{None, Result, Ok, Err, refl, sym, ap, ◌∙◌, subst, inl, inr, eqb-true, ne_eqb, lit<, arith}
use Rattle.std.proofs.Common.{length, get_or, take, drop, drop-cons, take-append-drop, length-drop, get_or-drop}
use Rattle.std.proofs.Common.{append_assoc}
use Rattle.std.specs.Borrow.{Bor}
use Rattle.std.specs.Prelude.{MatchOption, OnOk, if◌then◌else◌, is_ok, option_copied}
use Rattle.std.specs.List.{onto_first}
use Rattle.std.specs.Str.{IsAscii}
use Rattle.std.proofs.lemmas.Bool.{cases_Bool}
use Rattle.std.proofs.lemmas.List.Elements.{All-nil, All-cons}
use Rattle.std.proofs.lemmas.List.Splits.{slice_split_none}
use Rattle.std.proofs.lemmas.Str.{IsAscii-append, IsAscii-drop, IsAscii-take}
use Rattle.std.proofs.lemmas.Str.Ascii.{IsAscii-cons, IsAscii-nil}
use Rattle.uv_model.specs.Ascii.{slash}
use Rattle.uv_model.specs.Path.{is_without, left_segments, pieces, segments_after, segments_of, starts_with_slash}
use Rattle.uv_model.specs.Path.{without_last}
use Rattle.uv_model.specs.Records.PathText.{IsPathText, IsTextOf, MayBeAsciiText}
use Rattle.uv_model.specs.Records.Serialize.{serial_segments}
use Rattle.uv_model.proofs.Texts.MarkLemmas.{is_without-cons, is_without-more}
use Rattle.uv_model.proofs.Paths.PathPieces.{splits_first}

-- ---- the texts between slashes

-- the first of them takes one more code point
onto_first-append : (c : ℕ) (parts others : List (List ℕ)) (first : List ℕ) (rest : List (List ℕ))
    → parts ≡ first ∷ rest
    → onto_first c (parts ++ others) ≡ onto_first c parts ++ others
onto_first-append c parts others first rest is = rw is refl

-- the pieces of two texts with a `/` between them
pub pieces-append : (front rest : List ℕ) → pieces (front ++ (slash ∷ rest)) ≡ pieces front ++ pieces rest
pieces-append [] rest = refl
pieces-append (c ∷ front) rest = elim (cases_Bool (c == slash)) [
  | inl same ↦ rw same (ap (λ parts. [] ∷ parts) (pieces-append front rest))
  | inr other ↦
      let s = splits_first front in
      rw other (ap (onto_first c) (pieces-append front rest)
      ∙ onto_first-append c (pieces front) (pieces rest) s.first s.others s.is)
]

-- no code point of a segment is `/`
pub without_slash : (segment : List ℕ) → is_without slash segment ≡ true → All (λ c. (c == slash) ≡ false) segment
without_slash [] none = All-nil (λ c. (c == slash) ≡ false)
without_slash (c ∷ rest) none =
    let parts = is_without-cons slash c rest none in
    All-cons (λ c. (c == slash) ≡ false) c rest parts.0 (without_slash rest parts.1)

-- a text without `/` is one
pub pieces-one : (segment : List ℕ) → is_without slash segment ≡ true → pieces segment ≡ segment ∷ []
pieces-one segment none = slice_split_none (λ c. c == slash) segment (without_slash segment none)

-- each after `/`, they are `/` and the text
pub pieces-serial : (text : List ℕ) → serial_segments (pieces text) ≡ slash ∷ text
pieces-serial [] = refl
pieces-serial (c ∷ rest) = elim (cases_Bool (c == slash)) [
  | inl same ↦ rw same (ap (λ t. slash ∷ t) (pieces-serial rest ∙ ap (λ x. x ∷ rest) (sym (eqb-true c slash same))))
  | inr other ↦
      let s = splits_first rest in
      rw (other, s.is) (one_more c s.first s.others rest (ap serial_segments (sym s.is) ∙ pieces-serial rest))
]
  where
    one_more : (c : ℕ) (first : List ℕ) (others : List (List ℕ)) (rest : List ℕ)
        → serial_segments (first ∷ others) ≡ slash ∷ rest
        → serial_segments ((c ∷ first) ∷ others) ≡ slash ∷ (c ∷ rest)
    one_more c first others rest is =
        let after : first ++ serial_segments others ≡ rest = cc in
        ap (λ t. slash ∷ (c ∷ t)) after

-- ---- texts of paths

-- the segments of two texts of which the second begins with `/`
pub segments_after-append : (text rest : List ℕ)
    → segments_after (text ++ (slash ∷ rest)) ≡ segments_after text ++ pieces rest
segments_after-append [] rest = refl
segments_after-append (c ∷ text) rest = pieces-append text rest

-- which is a path's text too
pub path_text-append : (text rest : List ℕ) → IsPathText text → IsAscii rest → IsPathText (text ++ (slash ∷ rest))
path_text-append text rest is ascii = record {
  ascii = IsAscii-append text (slash ∷ rest) is.ascii (IsAscii-cons slash rest (lit< tt) ascii);
  start = λ some. starts text is.start;
}
  where
    starts : (text : List ℕ) → (text ≢ [] → starts_with_slash text ≡ true)
        → starts_with_slash (text ++ (slash ∷ rest)) ≡ true
    starts [] start = refl
    starts (c ∷ more) start = start (λ none. absurd cc)

-- a path's text is its segments, each after a `/`
pub path_text-written : (text : List ℕ) → IsPathText text → serial_segments (segments_after text) ≡ text
path_text-written [] is = refl
path_text-written (c ∷ rest) is =
    let first : c ≡ slash = eqb-true c slash (is.start (λ none. absurd cc)) in
    pieces-serial rest ∙ ap (λ x. x ∷ rest) (sym first)

-- ---- the last segment

-- the list without the one at its end
pub without_last-push : (segments : List (List ℕ)) (last : List ℕ) → without_last (segments ++ (last ∷ [])) ≡ segments
without_last-push [] last = refl
without_last-push (first ∷ []) last = refl
without_last-push (first ∷ next ∷ rest) last = ap (λ s. first ∷ s) (without_last-push (next ∷ rest) last)

-- what is before the last `/` has the other segments
pub before_last : (text front last : List ℕ) → IsPathText text → text ≡ front ++ (slash ∷ last)
    → IsAscii front → is_without slash last ≡ true → IsTextOf (without_last (segments_after text)) front
before_last text front last is whole ascii none = record {
  path = record {
    ascii = ascii;
    start = λ some. starts front some
        (ap starts_with_slash (sym whole) ∙ is.start (filled front whole));
  };
  after =
      sym (ap (λ t. without_last (segments_after t)) whole
      ∙ ap without_last (segments_after-append front last ∙ ap (λ s. segments_after front ++ s)
      (pieces-one last none))
      ∙ without_last-push (segments_after front) last);
}
  where
    starts : (front : List ℕ) → front ≢ [] → starts_with_slash (front ++ (slash ∷ last)) ≡ true
        → starts_with_slash front ≡ true
    starts [] some start = absurd (some refl)
    starts (c ∷ rest) some start = start

    filled : (front : List ℕ) → text ≡ front ++ (slash ∷ last) → text ≢ []
    filled [] whole = λ none. absurd cc
    filled (c ∷ rest) whole = λ none. absurd cc

-- ---- what the code sees

-- a text without `/` at any index
without_at : (text : List ℕ) → ((i : ℕ) → i < length text → get_or text i 0 ≢ slash) → is_without slash text ≡ true
without_at [] none = refl
without_at (c ∷ rest) none =
    is_without-more slash c rest (ne_eqb c slash (none 0 (omega arith)))
    (without_at rest (λ i inside. none (suc i) (omega arith)))

-- a path's text without a `/` is empty
pub unslashed_path : (text : List ℕ) → IsPathText text → ((i : ℕ) → i < length text → get_or text i 0 ≢ slash)
    → IsTextOf (without_last (segments_after text)) text
unslashed_path [] is none = record { path = is; after = refl }
unslashed_path (c ∷ rest) is none =
    absurd (none 0 (omega arith) (eqb-true c slash (is.start (λ empty. absurd cc))))

-- one is cut at its last `/`
pub cut_path : (text front : List ℕ) (end : ℕ) → IsPathText text → end < length text → get_or text end 0 ≡ slash
    → ((i : ℕ) → end < i → i < length text → get_or text i 0 ≢ slash) → front ≡ take end text
    → IsTextOf (without_last (segments_after text)) front
cut_path text front end is inside here later cut =
    let after : drop end text ≡ slash ∷ drop (suc end) text
    = drop-cons text end 0 inside ∙ ap (λ b. b ∷ drop (suc end) text) here in
    let whole : text ≡ take end text ++ (slash ∷ drop (suc end) text)
    = sym (take-append-drop end text) ∙ ap (λ s. take end text ++ s) after in
    let size = length-drop (suc end) text in
    rw cut (before_last text (take end text) (drop (suc end) text) is whole (IsAscii-take text end is.ascii)
    (without_at (drop (suc end) text) (λ i within e.
    later (suc end + i) (omega arith) (omega (arith, size, within, inside))
    (sym (get_or-drop (suc end) text i 0) ∙ e))))

-- what is after the `/` at its start
pub after_start : (text : List ℕ) (rest : Option (Bor (List ℕ))) → IsPathText text
    → MatchOption rest ((other : List ℕ) → text ≢ slash ∷ other) (λ r. text ≡ slash ∷ r.now)
    → left_segments (option_copied rest) ≡ segments_after text
after_start text (Some rest) is whole = rw whole refl
after_start [] None is none = refl
after_start (c ∷ text) None is none =
    absurd (none text (ap (λ x. x ∷ text) (eqb-true c slash (is.start (λ empty. absurd cc)))))

-- which is ASCII
pub after_ascii : (text : List ℕ) (rest : Option (Bor (List ℕ))) → IsPathText text
    → MatchOption rest ((other : List ℕ) → text ≢ slash ∷ other) (λ r. text ≡ slash ∷ r.now)
    → MayBeAsciiText (option_copied rest)
after_ascii text None is none = tt
after_ascii text (Some rest) is whole =
    let all : IsAscii (slash ∷ rest.now) = subst IsAscii whole is.ascii in
    IsAscii-drop (slash ∷ rest.now) 1 all

-- a text is cut at its first `/`
pub first_piece : (text first rest : List ℕ) → text ≡ first ++ (slash ∷ rest)
    → ((i : ℕ) → i < length first → get_or first i 0 ≢ slash) → pieces text ≡ first ∷ pieces rest
first_piece text first rest whole none =
    ap pieces whole ∙ pieces-append first rest
    ∙ ap (λ parts. parts ++ pieces rest) (pieces-one first (without_at first none))

-- a text without `/` is its only piece
pub only_piece : (text : List ℕ) → ((i : ℕ) → i < length text → get_or text i 0 ≢ slash) → pieces text ≡ text ∷ []
only_piece text none = pieces-one text (without_at text none)

-- the segments of a path that doesn't begin with `/`
pub unslashed_segments : (text : List ℕ) → (length text == 0) ≡ false → ((rest : List ℕ) → text ≢ slash ∷ rest)
    → pieces text ≡ segments_of text
unslashed_segments [] some none = absurd cc
unslashed_segments (c ∷ rest) some none =
    rw (ne_eqb c slash (λ same. none rest (ap (λ x. x ∷ rest) same))) refl

-- a `/` and a text after it are pushed, or only the `/`
pub pushed_path : (done : Bool) (old slashed text new : List ℕ) → IsPathText old → IsAscii text
    → slashed ≡ old ++ (slash ∷ []) → new ≡ (if done then slashed ++ text else slashed) → IsPathText new
pushed_path true old slashed text new is ascii mark pushed =
    subst IsPathText (sym (pushed ∙ ap (λ t. t ++ text) mark ∙ append_assoc old (slash ∷ []) text))
    (path_text-append old text is ascii)
pushed_path false old slashed text new is ascii mark pushed =
    subst IsPathText (sym (pushed ∙ mark)) (path_text-append old [] is IsAscii-nil)

-- and their segments
pub pushed_segments : {A E : Type 0} (result : Result A E) (old slashed text new : List ℕ)
    → slashed ≡ old ++ (slash ∷ []) → new ≡ (if is_ok result then slashed ++ text else slashed)
    → OnOk result (segments_after new ≡ segments_after old ++ pieces text)
pushed_segments (Err error) old slashed text new mark pushed = tt
pushed_segments (Ok done) old slashed text new mark pushed =
    ap segments_after (pushed ∙ ap (λ t. t ++ text) mark ∙ append_assoc old (slash ∷ []) text)
    ∙ segments_after-append old text
