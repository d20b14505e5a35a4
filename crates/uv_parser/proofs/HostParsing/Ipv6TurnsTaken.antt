-- What one turn of the IPv6 parser's main loop takes, where it gives something in the end.
use Rattle.std.proofs.Common.{◌≡◌, ◌≢◌, ℕ, zero, suc, ◌+◌, ◌*◌, ◌<◌, ◌≤◌, ◌⊎◌, Bool, true, false, not, ◌&&◌, ◌||◌, ◌==◌}
use Rattle.std.proofs.Common.{List, [], ◌∷◌, ◌++◌, length, drop, Option, Some, None, if◌then◌else◌, refl, sym, ap}
use Rattle.std.proofs.Common.{subst, ◌∙◌, inl, inr, append-nil, eqb-true, ne_eqb, arith}
use Rattle.std.specs.Prelude.{nat_lt, slice_index, slice_set, is_some, option_map}
use Rattle.std.specs.List.{list_all}
use Rattle.std.specs.Char.{is_ascii_hexdigit}
use Rattle.std.specs.Str.Parse.{digits_value}
use Rattle.std.proofs.lemmas.Bool.{and_parts, cases_Bool, false≢true, true≢false}
use Rattle.std.proofs.lemmas.Bool.Decides.{nat_tests}
use Rattle.std.proofs.lemmas.Option.{none-some, same_Some}
use Rattle.uv_model.specs.Hosts.Address.{IsGroup, IsTwoPieces}
use Rattle.uv_model.specs.Ascii.{colon, full_stop}
use Rattle.uv_parser.specs.Ipv6Parser.{main_loop, read_dotted, read_hex}
use Rattle.uv_parser.proofs.HostParsing.Ipv6ReadersTaken.{TakesHex, dotted_taken, fails_where_false, fails_where_true}
use Rattle.uv_parser.proofs.HostParsing.Ipv6ReadersTaken.{hex_taken}

-- ---- one turn

-- what the loop gives: pieces, piece index and compress
abbrev pub Given : Type 0
Given = List ℕ × ℕ × Option ℕ

-- the second `:` of `::`, where there was none before
pub record TakesMark (turns i : ℕ) (compress : Option ℕ) (c : ℕ) (text : List ℕ) (r : Given) : Type 0 where
  pub is_colon : c ≡ colon
  pub none_before : compress ≡ None
  pub pieces : List ℕ
  pub further : main_loop turns pieces (i + 1) (Some (i + 1)) text ≡ Some r

-- an IPv4 text at the end
pub record TakesDotted (i : ℕ) (compress : Option ℕ) (text : List ℕ) (r : Given) : Type 0 where
  pub high : ℕ
  pub low : ℕ
  pub two : IsTwoPieces text high low
  pub room : i ≤ 6
  pub place : r.1 ≡ i + 2
  pub same : r.2 ≡ compress

-- a group at the end
pub record TakesLast (i : ℕ) (compress : Option ℕ) (text : List ℕ) (r : Given) : Type 0 where
  pub group : IsGroup text (digits_value 16 text)
  pub place : r.1 ≡ i + 1
  pub same : r.2 ≡ compress

-- a group, a `:` and something after it
pub record TakesGroup (turns i : ℕ) (compress : Option ℕ) (text : List ℕ) (r : Given) : Type 0 where
  pub digits : List ℕ
  pub others : List ℕ
  pub split : text ≡ digits ++ colon ∷ others
  pub group : IsGroup digits (digits_value 16 digits)
  pub some : 0 < length others
  pub pieces : List ℕ
  pub further : main_loop turns pieces (i + 1) compress others ≡ Some r

-- what one turn takes
abbrev pub Turned : ℕ → ℕ → Option ℕ → ℕ → List ℕ → Given → Type 0
Turned turns i compress c text r =
    TakesMark turns i compress c text r ⊎ (TakesDotted i compress (c ∷ text) r
    ⊎ (TakesLast i compress (c ∷ text) r ⊎ TakesGroup turns i compress (c ∷ text) r))

-- hex digits are a group
a_group : (digits : List ℕ) → list_all is_ascii_hexdigit digits ≡ true → 0 < length digits → length digits ≤ 4
    → IsGroup digits (digits_value 16 digits)
a_group digits hex some few = record { digits = hex; some = some; few = few; value = refl }

-- at the end of the text the loop gives what it has
pub end_given : (turns : ℕ) (pieces : List ℕ) (i : ℕ) (compress : Option ℕ) (r : Given)
    → main_loop turns pieces i compress [] ≡ Some r → (r.1 ≡ i) × (r.2 ≡ compress)
unfolding main_loop
end_given zero pieces i compress r e =
    let same = same_Some _ _ e in (sym (ap (λ (s : Given). s.1) same), sym (ap (λ (s : Given). s.2) same))
end_given (suc turns) pieces i compress r e =
    let same = same_Some _ _ e in (sym (ap (λ (s : Given). s.1) same), sym (ap (λ (s : Given). s.2) same))

-- an IPv4 text ends the loop
dotted_turn : (pieces : List ℕ) (i : ℕ) (compress : Option ℕ) (text : List ℕ) (r : Given) → nat_lt 6 i ≡ false
    → option_map (λ (s : List ℕ × ℕ). (s.0, s.1, compress)) (read_dotted 4 0 pieces i text) ≡ Some r
    → TakesDotted i compress text r
dotted_turn pieces i compress text r room e = by_reader (read_dotted 4 0 pieces i text) refl e
  where
    below : (i : ℕ) → nat_lt 6 i ≡ false → i ≤ 6
    below i room = grind (arith, nat_tests)

    by_reader : (read : Option (List ℕ × ℕ)) → read_dotted 4 0 pieces i text ≡ read
        → option_map (λ (s : List ℕ × ℕ). (s.0, s.1, compress)) read ≡ Some r → TakesDotted i compress text r
    by_reader None is e = absurd (none-some r e)
    by_reader (Some s) is e =
        let taken = dotted_taken pieces i text s is in
        let same : (s.0, s.1, compress) ≡ r = same_Some _ _ e in
        record {
          high = taken.a * 256 + taken.b;
          low = taken.c * 256 + taken.d;
          two = (taken.a, taken.b, taken.c, taken.d, taken.numbers, refl, refl);
          room = below i room;
          place = sym (ap (λ (s : Given). s.1) same) ∙ taken.two_more;
          same = sym (ap (λ (s : Given). s.2) same);
        }

-- a group at the end, with the loop at the end of the text
last_turn : (turns : ℕ) (set : List ℕ) (i : ℕ) (compress : Option ℕ) (c : ℕ) (text : List ℕ) (r : Given)
    → TakesHex 4 (c ∷ text) [] → main_loop turns set (i + 1) compress [] ≡ Some r → TakesLast i compress (c ∷ text) r
last_turn turns set i compress c text r hex e =
    let whole : c ∷ text ≡ hex.digits = hex.split ∙ append-nil hex.digits in
    let given = end_given turns set (i + 1) compress r e in
    record {
      group = subst (λ (digits : List ℕ). IsGroup digits (digits_value 16 digits)) (sym whole)
          (a_group hex.digits hex.hex (omega (arith, ap length whole)) hex.few);
      place = given.0;
      same = given.1;
    }

-- a group before a `:`, after which something is
group_turn : (turns : ℕ) (set : List ℕ) (i : ℕ) (compress : Option ℕ) (c : ℕ) (text others : List ℕ) (r : Given)
    → TakesHex 4 (c ∷ text) (colon ∷ others) → (c == colon) ≡ false → 0 < length others
    → main_loop turns set (i + 1) compress others ≡ Some r → TakesGroup turns i compress (c ∷ text) r
group_turn turns set i compress c text others r hex other some e = record {
  digits = hex.digits;
  others = others;
  split = hex.split;
  group = a_group hex.digits hex.hex (nonempty hex.digits hex.split) hex.few;
  some = some;
  pieces = set;
  further = e;
}
  where
    nonempty : (digits : List ℕ) → c ∷ text ≡ digits ++ colon ∷ others → 0 < length digits
    nonempty [] same =
        let first : c ≡ colon = cc in
        absurd (true≢false (sym (ap (λ d. d == colon) first) ∙ other))
    nonempty (d ∷ digits) same = omega arith

-- after the digits of a group
digits_turn : (turns : ℕ) (pieces set : List ℕ) (i : ℕ) (compress : Option ℕ) (c : ℕ) (text : List ℕ) (r : Given)
    (count : ℕ) (rest : List ℕ) → TakesHex 4 (c ∷ text) rest → (c == colon) ≡ false
    → (if slice_index rest 0 == full_stop
    then (if (count == 0) || nat_lt 6 i then None
    else option_map (λ (s : List ℕ × ℕ). (s.0, s.1, compress)) (read_dotted 4 0 pieces i (c ∷ text)))
    else (if length rest == 0 then main_loop turns set (i + 1) compress (drop 1 rest)
    else (if (slice_index rest 0 == colon) && not (length (drop 1 rest) == 0)
    then main_loop turns set (i + 1) compress (drop 1 rest) else None)))
    ≡ Some r → Turned turns i compress c text r
digits_turn turns pieces set i compress c text r count [] hex other e =
    inr (inr (inl (last_turn turns set i compress c text r hex e)))
digits_turn turns pieces set i compress c text r count (d ∷ rest) hex other e = elim (cases_Bool (d == full_stop)) [
  | inl dot ↦
      let read = fails_where_true ((count == 0) || nat_lt 6 i) (rw dot at e) in
      inr (inl (dotted_turn pieces i compress (c ∷ text) r (second (count == 0) (nat_lt 6 i) read.0) read.1))
  | inr no_dot ↦
      let some : suc (length rest) ≢ 0 = omega arith in
      let further = fails_where_false ((d == colon) && not (length rest == 0))
      (rw (no_dot, ne_eqb (suc (length rest)) 0 some) at e) in
      let both = and_parts (d == colon) (not (length rest == 0)) further.0 in
      let is : d ≡ colon = eqb-true d colon both.0 in
      inr (inr (inr (group_turn turns set i compress c text rest r
      (subst (λ (mark : ℕ). TakesHex 4 (c ∷ text) (mark ∷ rest)) is hex) other (nonempty rest both.1) further.1)))
]
  where
    second : (a b : Bool) → (a || b) ≡ false → b ≡ false
    second true b e = absurd (true≢false e)
    second false b e = e

    nonempty : (rest : List ℕ) → not (length rest == 0) ≡ true → 0 < length rest
    nonempty [] some = absurd (false≢true some)
    nonempty (c ∷ rest) some = omega arith

-- a `:` if no group is
mark_turn : (turns : ℕ) (pieces : List ℕ) (i : ℕ) (compress : Option ℕ) (c : ℕ) (text : List ℕ) (r : Given)
    → (c == colon) ≡ true
    → (if is_some compress then None else main_loop turns pieces (i + 1) (Some (i + 1)) text) ≡ Some r
    → TakesMark turns i compress c text r
mark_turn turns pieces i None c text r is e =
    record { is_colon = eqb-true c colon is; none_before = refl; pieces = pieces; further = e }
mark_turn turns pieces i (Some place) c text r is e = absurd (none-some r e)

-- a turn that gives something
pub turned : (turns : ℕ) (pieces : List ℕ) (i : ℕ) (compress : Option ℕ) (c : ℕ) (text : List ℕ) (r : Given)
    → main_loop (suc turns) pieces i compress (c ∷ text) ≡ Some r
    → ((i == 8) ≡ false) × Turned turns i compress c text r
unfolding main_loop
turned turns pieces i compress c text r e =
    let hex = read_hex 4 0 0 (c ∷ text) in
    let room = fails_where_true (i == 8) e in
    elim (cases_Bool (c == colon)) [
      | inl is ↦ (room.0, inl (mark_turn turns pieces i compress c text r is (rw is at room.1)))
      | inr other ↦ (
        room.0,
        digits_turn turns pieces (slice_set pieces i hex.0) i compress c text r hex.1 hex.2
            (hex_taken 4 0 0 (c ∷ text)) other (rw other at room.1),
      )
    ]
