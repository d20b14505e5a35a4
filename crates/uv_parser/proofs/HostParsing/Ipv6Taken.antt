-- What the IPv6 parser takes is an IPv6 text, and of the pieces that it gives.
use Rattle.std.proofs.Common.{◌≡◌, ℕ, zero, suc, ◌+◌, ◌-◌, ◌<◌, ◌≤◌, ◌⊎◌, Bool, true, false, ◌==◌, List, [], ◌∷◌, ◌++◌}
use Rattle.std.proofs.Common.{length, drop, Option, Some, None, if◌then◌else◌, refl, sym, ap, subst, ◌∙◌, inl, inr}
use Rattle.std.proofs.Common.{append_assoc, eqb-true, arith}
use Rattle.std.specs.Prelude.{replicate, slice_index}
use Rattle.std.specs.Str.Parse.{digits_value}
use Rattle.std.proofs.lemmas.Bool.{cases_Bool, false≢true, true≢false}
use Rattle.std.proofs.lemmas.Bool.Decides.{nat_tests}
use Rattle.std.proofs.lemmas.Option.{none-some, same_Some, option_and_then_some}
use Rattle.uv_model.specs.Hosts.Address.{IsGroup, IsGroupList, IsIpv6, IsSide}
use Rattle.uv_model.specs.Ascii.{colon}
use Rattle.uv_parser.specs.Ipv6Parser.{Ipv6ParserTakesIpv6Texts, finish, main_loop, parse_ipv6}
use Rattle.uv_parser.proofs.HostParsing.Ipv6ParserLemmas.{ipv6_parsed}
use Rattle.uv_parser.proofs.HostParsing.Ipv6ReadersTaken.{fails_where_false}
use Rattle.uv_parser.proofs.HostParsing.Ipv6TurnsTaken.{Given, TakesDotted, TakesGroup, TakesLast, end_given, turned}

-- ---- the loop

-- a list of groups with one more before it
group_before : (dotted : Bool) (digits others text : List ℕ) (piece : ℕ) (pieces : List ℕ)
    → text ≡ digits ++ colon ∷ others → IsGroup digits piece → IsGroupList dotted others pieces
    → IsGroupList dotted text (piece ∷ pieces)
group_before dotted digits others text piece [] split group list = absurd list
group_before dotted digits others text piece (q ∷ pieces) split group list = inl (digits, others, split, group, list)

-- a side that isn't empty is a list of groups
list_of_side : (dotted : Bool) (text pieces : List ℕ) → IsSide dotted text pieces → 0 < length text
    → IsGroupList dotted text pieces
list_of_side dotted text pieces (inl (nothing, none)) some = absurd (empty nothing some)
  where
    empty : text ≡ [] → 0 < length text → ⊥
    empty nothing some = omega (arith, some, ap length nothing)
list_of_side dotted text pieces (inr list) some = list

-- the text from a place on is a side of `::`, or the whole, whose pieces fit
record TakesSide (i : ℕ) (compress : Option ℕ) (text : List ℕ) (r : Given) : Type 0 where
  pieces : List ℕ
  side : IsSide true text pieces
  place : r.1 ≡ i + length pieces
  same : r.2 ≡ compress
  room : i + length pieces ≤ 8

-- after groups that a `:` follows
side_after : (turns i : ℕ) (compress : Option ℕ) (text : List ℕ) (r : Given)
    → (is : TakesGroup turns i compress text r) → TakesSide (i + 1) compress is.others r
    → TakesSide i compress text r
side_after turns i compress text r is more = record {
  pieces = digits_value 16 is.digits ∷ more.pieces;
  side = inr (group_before true is.digits is.others text (digits_value 16 is.digits) more.pieces is.split is.group
      (list_of_side true is.others more.pieces more.side is.some));
  place = omega (arith, more.place);
  same = more.same;
  room = omega (arith, more.room);
}

-- an IPv4 text at the end
dotted_side : (i : ℕ) (compress : Option ℕ) (text : List ℕ) (r : Given) → TakesDotted i compress text r
    → TakesSide i compress text r
dotted_side i compress text r is = record {
  pieces = is.high ∷ is.low ∷ [];
  side = inr (inr (refl, refl, is.two));
  place = is.place;
  same = is.same;
  room = omega (arith, is.room);
}

-- a group at the end
last_side : (i : ℕ) (compress : Option ℕ) (text : List ℕ) (r : Given) → i < 8 → TakesLast i compress text r
    → TakesSide i compress text r
last_side i compress text r room is = record {
  pieces = digits_value 16 text ∷ [];
  side = inr is.group;
  place = is.place;
  same = is.same;
  room = omega (arith, room);
}

-- nothing more
empty_side : (turns : ℕ) (pieces : List ℕ) (i : ℕ) (compress : Option ℕ) (r : Given) → i ≤ 8
    → main_loop turns pieces i compress [] ≡ Some r → TakesSide i compress [] r
empty_side turns pieces i compress r room e =
    let given = end_given turns pieces i compress r e in
    record {
      pieces = [];
      side = inl (refl, refl);
      place = omega (arith, given.0);
      same = given.1;
      room = omega (arith, room);
    }

-- a place before the eighth
place_below : (i : ℕ) → i ≤ 8 → (i == 8) ≡ false → i < 8
place_below i room other = grind (arith, nat_tests)

-- no turn is left for a code point
no_turn : (pieces : List ℕ) (i : ℕ) (compress : Option ℕ) (c : ℕ) (text : List ℕ) (r : Given)
    → main_loop 0 pieces i compress (c ∷ text) ≡ Some r → ⊥
unfolding main_loop
no_turn pieces i compress c text r e = none-some r e

-- after `::` the loop takes one side
side_taken : (turns : ℕ) (pieces : List ℕ) (i k : ℕ) (text : List ℕ) (r : Given) → i ≤ 8
    → main_loop turns pieces i (Some k) text ≡ Some r → TakesSide i (Some k) text r
side_taken turns pieces i k [] r room e = empty_side turns pieces i (Some k) r room e
side_taken zero pieces i k (c ∷ text) r room e = absurd (no_turn pieces i (Some k) c text r e)
side_taken (suc turns) pieces i k (c ∷ text) r room e =
    let turn = turned turns pieces i (Some k) c text r e in
    let below = place_below i room turn.0 in
    elim turn.1 [
      | inl mark ↦ absurd (none-some k (sym mark.none_before))
      | inr (inl dotted) ↦ dotted_side i (Some k) (c ∷ text) r dotted
      | inr (inr (inl last)) ↦ last_side i (Some k) (c ∷ text) r below last
      | inr (inr (inr group)) ↦
          side_after turns i (Some k) (c ∷ text) r group
          (side_taken turns group.pieces (i + 1) k group.others r (omega (arith, below)) group.further)
    ]

-- `::` at once, and a side after it
record TakesMarked (i : ℕ) (text : List ℕ) (r : Given) : Type 0 where
  after : List ℕ
  split : text ≡ colon ∷ after
  right : TakesSide (i + 1) (Some (i + 1)) after r

-- groups, `::` and a side after it
record TakesElided (i : ℕ) (text : List ℕ) (r : Given) : Type 0 where
  left_text : List ℕ
  left : List ℕ
  after : List ℕ
  split : text ≡ left_text ++ colon ∷ colon ∷ after
  groups : IsGroupList false left_text left
  right : TakesSide (i + length left + 1) (Some (i + length left + 1)) after r

-- what the loop takes if no `::` is before
abbrev Taken : ℕ → List ℕ → Given → Type 0
Taken i text r = TakesSide i None text r ⊎ (TakesMarked i text r ⊎ TakesElided i text r)

-- a group with its `:` before what the loop takes
group_then : (turns i : ℕ) (text : List ℕ) (r : Given) → (is : TakesGroup turns i None text r)
    → Taken (i + 1) is.others r → Taken i text r
group_then turns i text r is (inl side) = inl (side_after turns i None text r is side)
group_then turns i text r is (inr (inl marked)) =
    inr (inr (record {
      left_text = is.digits;
      left = digits_value 16 is.digits ∷ [];
      after = marked.after;
      split = is.split ∙ ap (λ cs. is.digits ++ colon ∷ cs) marked.split;
      groups = is.group;
      right = marked.right;
    }))
group_then turns i text r is (inr (inr elided)) =
    let left = elided.left in
    let place : i + 1 + length left + 1 ≡ i + suc (length left) + 1 = omega arith in
    let shown : text ≡ (is.digits ++ colon ∷ elided.left_text) ++ colon ∷ colon ∷ elided.after
    = is.split ∙ (ap (λ cs. is.digits ++ colon ∷ cs) elided.split
    ∙ sym (append_assoc is.digits (colon ∷ elided.left_text) (colon ∷ colon ∷ elided.after))) in
    inr (inr (record {
      left_text = is.digits ++ colon ∷ elided.left_text;
      left = digits_value 16 is.digits ∷ left;
      after = elided.after;
      split = shown;
      groups = group_before false is.digits elided.left_text (is.digits ++ colon ∷ elided.left_text)
          (digits_value 16 is.digits) left refl is.group elided.groups;
      right = subst (λ (k : ℕ). TakesSide k (Some k) elided.after r) place elided.right;
    }))

-- if no `::` is before, the loop takes the whole text, or two sides of `::`
loop_taken : (turns : ℕ) (pieces : List ℕ) (i : ℕ) (text : List ℕ) (r : Given) → i ≤ 8
    → main_loop turns pieces i None text ≡ Some r → Taken i text r
loop_taken turns pieces i [] r room e = inl (empty_side turns pieces i None r room e)
loop_taken zero pieces i (c ∷ text) r room e = absurd (no_turn pieces i None c text r e)
loop_taken (suc turns) pieces i (c ∷ text) r room e =
    let turn = turned turns pieces i None c text r e in
    let below = place_below i room turn.0 in
    elim turn.1 [
      | inl mark ↦
          inr (inl (record {
            after = text;
            split = ap (λ d. d ∷ text) mark.is_colon;
            right = side_taken turns mark.pieces (i + 1) (i + 1) text r (omega (arith, below)) mark.further;
          }))
      | inr (inl dotted) ↦ inl (dotted_side i None (c ∷ text) r dotted)
      | inr (inr (inl last)) ↦ inl (last_side i None (c ∷ text) r below last)
      | inr (inr (inr group)) ↦
          group_then turns i (c ∷ text) r group
          (loop_taken turns group.pieces (i + 1) group.others r (omega (arith, below)) group.further)
    ]

-- ---- the whole

-- without `::` the parser gives eight pieces
eight_given : (r : Given) (pieces : List ℕ) → r.2 ≡ None → finish r ≡ Some pieces → r.1 ≡ 8
eight_given (given, i, None) pieces none e = eqb-true i 8 (fails_where_false (i == 8) e).0
eight_given (given, i, Some k) pieces none e = absurd (none-some k (sym none))

-- two sides of `::` that fit are an IPv6 text
compressed : (text left_text right_text left right : List ℕ) → text ≡ left_text ++ colon ∷ colon ∷ right_text
    → IsSide false left_text left → IsSide true right_text right → length left + 1 + length right ≤ 8
    → (pieces : List ℕ) × IsIpv6 text pieces
compressed text left_text right_text left right split groups side room = (
  left ++ replicate (8 - length left - length right) 0 ++ right,
  inr (record {
    left_text = left_text;
    right_text = right_text;
    left = left;
    right = right;
    spelled = split ∙ sym (append_assoc left_text (colon ∷ colon ∷ []) right_text);
    left_groups = groups;
    right_groups = side;
    room = omega (arith, room);
    value = refl;
  }),
)

-- a text that begins with `::`
begins_marked : (turns : ℕ) (zeros text : List ℕ) (r : Given) → (slice_index text 0 == colon) ≡ true
    → (slice_index text 1 == colon) ≡ true → main_loop turns zeros 1 (Some 1) (drop 2 text) ≡ Some r
    → (pieces : List ℕ) × IsIpv6 text pieces
begins_marked turns zeros [] r first second e = absurd (false≢true first)
begins_marked turns zeros (c ∷ []) r first second e = absurd (false≢true second)
begins_marked turns zeros (c ∷ d ∷ text) r first second e =
    let side = side_taken turns zeros 1 1 text r (omega arith) e in
    let split : c ∷ d ∷ text ≡ colon ∷ colon ∷ text
    = ap (λ k. k ∷ d ∷ text) (eqb-true c colon first) ∙ ap (λ k. colon ∷ k ∷ text) (eqb-true d colon second) in
    compressed (c ∷ d ∷ text) [] text [] side.pieces split (inl (refl, refl)) side.side side.room

-- any other text
begins_unmarked : (turns : ℕ) (zeros text pieces : List ℕ) (r : Given) → (slice_index text 0 == colon) ≡ false
    → main_loop turns zeros 0 None text ≡ Some r → finish r ≡ Some pieces → (pieces : List ℕ) × IsIpv6 text pieces
begins_unmarked turns zeros text pieces r other e finished =
    elim (loop_taken turns zeros 0 text r (omega arith) e) [
      | inl side ↦
          let eight : length side.pieces ≡ 8 = omega (arith, side.place, eight_given r pieces side.same finished) in
          (side.pieces, inl (list_of_pieces side.pieces side.side eight, eight))
      | inr (inl marked) ↦
          absurd (true≢false (sym (ap (λ cs. slice_index cs 0 == colon) marked.split) ∙ other))
      | inr (inr elided) ↦
          compressed text elided.left_text elided.after elided.left elided.right.pieces elided.split
          (inr elided.groups) elided.right.side (omega (arith, elided.right.room))
    ]
  where
    list_of_pieces : (pieces : List ℕ) → IsSide true text pieces → length pieces ≡ 8 → IsGroupList true text pieces
    list_of_pieces pieces (inl (nothing, none)) eight = absurd (no_piece none eight)
      where
        no_piece : pieces ≡ [] → length pieces ≡ 8 → ⊥
        no_piece none eight = omega (arith, eight, ap length none)
    list_of_pieces pieces (inr list) eight = list

-- where the parser gives pieces the text is an IPv6 text
parser_taken : (text pieces : List ℕ) → parse_ipv6 text ≡ Some pieces → (own : List ℕ) × IsIpv6 text own
unfolding parse_ipv6
parser_taken text pieces e =
    let zeros = replicate 8 0 in
    let marked : Option Given
    = if slice_index text 1 == colon then main_loop (length text) zeros 1 (Some 1) (drop 2 text) else None in
    let looped = if slice_index text 0 == colon then marked else main_loop (length text) zeros 0 None text in
    option_and_then_some finish looped pieces e (by_start zeros)
  where
    by_start : (zeros : List ℕ) (r : Given)
        → (if slice_index text 0 == colon
        then (if slice_index text 1 == colon then main_loop (length text) zeros 1 (Some 1) (drop 2 text) else None)
        else main_loop (length text) zeros 0 None text) ≡ Some r
        → finish r ≡ Some pieces → (own : List ℕ) × IsIpv6 text own
    by_start zeros r given finished = elim (cases_Bool (slice_index text 0 == colon)) [
      | inl first ↦
          let second = fails_where_false (slice_index text 1 == colon) (rw first at given) in
          begins_marked (length text) zeros text r first second.0 second.1
      | inr other ↦ begins_unmarked (length text) zeros text pieces r other (rw other at given) finished
    ]

-- the parser gives pieces only on the IPv6 texts, and exactly theirs
pub ipv6_texts_alone : Ipv6ParserTakesIpv6Texts
ipv6_texts_alone text pieces = (alone, ipv6_parsed text pieces)
  where
    alone : parse_ipv6 text ≡ Some pieces → IsIpv6 text pieces
    alone e =
        let (own, is) = parser_taken text pieces e in
        let same : own ≡ pieces = same_Some _ _ (sym (ipv6_parsed text own is) ∙ e) in
        subst (λ (p : List ℕ). IsIpv6 text p) same is
