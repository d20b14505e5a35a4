-- IPv6 texts in brackets, on bytes.
use Rattle.std.proofs.Common.{◌≡◌, ℕ, suc, ◌+◌, ◌-◌, ◌≤◌, List, [], ◌∷◌, ◌++◌, length, take, drop, get_or, lit<, arith}
use Rattle.std.proofs.Common.{Option, Some, None, sym, ap, ◌∙◌, length-append}
use Rattle.std.specs.Str.{chars, IsAscii, IsUtf8}
use Rattle.std.proofs.Math.Seq.{get_or-append_seam}
use Rattle.std.proofs.lemmas.List.{append_cancel_right}
use Rattle.std.proofs.lemmas.Str.{IsAscii-append, chars-IsAscii}
use Rattle.std.proofs.lemmas.Str.Ascii.{IsAscii-nil, IsAscii-cons}
use Rattle.uv_model.specs.Ascii.{left_bracket, right_bracket}
use Rattle.uv_model.specs.Hosts.Address.{IsIpv6, IsBracketedIpv6, Reads}
use Rattle.uv_model.proofs.Addresses.AddressLemmas.{ipv6_ascii}
use Rattle.uv_model.proofs.Texts.AsciiLemmas.{chars-from_IsAscii}
use Rattle.uv_host.proofs.WordEndLemmas.{end_parts}

-- a text in brackets
abbrev pub enclosed : List ℕ → List ℕ
enclosed inner = left_bracket ∷ (inner ++ right_bracket ∷ [])

-- ASCII in brackets is ASCII
enclosed_ascii : (inner : List ℕ) → IsAscii inner → IsAscii (enclosed inner)
enclosed_ascii inner ascii =
    IsAscii-cons left_bracket _ (lit< tt)
    (IsAscii-append inner _ ascii (IsAscii-cons right_bracket [] (lit< tt) IsAscii-nil))

-- the brackets are two bytes
pub enclosed_length : (text inner : List ℕ) → text ≡ enclosed inner → length text ≡ length inner + 2
enclosed_length text inner same =
    let after : length (inner ++ right_bracket ∷ []) ≡ length inner + 1 =
    length-append inner (right_bracket ∷ []) in
    ap length same ∙ omega (arith, after)

-- the last byte is a bracket
pub enclosed_last : (text inner : List ℕ) → text ≡ enclosed inner → get_or text (length text - 1) 0 ≡ right_bracket
enclosed_last text inner same =
    let at : length text - 1 ≡ suc (length inner) = omega (arith, enclosed_length text inner same) in
    ap (λ n. get_or text n 0) at ∙ ap (λ l. get_or l (suc (length inner)) 0) same
    ∙ get_or-append_seam inner right_bracket [] 0

-- a text that begins and ends with a bracket is what is between, in brackets
pub bracketed_parts : (text : List ℕ) → 2 ≤ length text → get_or text 0 0 ≡ left_bracket
    → get_or text (length text - 1) 0 ≡ right_bracket → text ≡ enclosed (take (length text - 1 - 1) (drop 1 text))
bracketed_parts [] long first last = elim long [ ]
bracketed_parts (b ∷ after) long first last =
    let end : length (b ∷ after) - 1 ≡ suc (length after - 1) = omega (arith, long) in
    let before_end : length (b ∷ after) - 1 - 1 ≡ length after - 1 = omega arith in
    let closed : get_or after (length after - 1) 0 ≡ right_bracket =
    ap (λ n. get_or (b ∷ after) n 0) (sym end) ∙ last in
    rw (before_end, first) (rw closed at (ap (λ l. left_bracket ∷ l) (end_parts after (omega (arith, long)))))

-- the bytes of an IPv6 text in brackets are its code points
pub bracketed_bytes : (text inner pieces : List ℕ) → IsUtf8 text → chars text ≡ enclosed inner → IsIpv6 inner pieces
    → text ≡ enclosed inner
bracketed_bytes text inner pieces utf8 spelled is =
    let ascii : IsAscii (chars text) = rw spelled (enclosed_ascii inner (ipv6_ascii inner pieces is)) in
    sym (chars-from_IsAscii text utf8 ascii) ∙ spelled

-- what a reader answers of the bytes of a text is right of its code points
pub reads_chars : (text : List ℕ) (answer : Option (List ℕ)) → IsUtf8 text → Reads IsIpv6 text answer
    → Reads IsIpv6 (chars text) answer
reads_chars text (Some pieces) utf8 is = rw (chars-IsAscii text (ipv6_ascii text pieces is)) is
reads_chars text None utf8 none = λ pieces is.
    none pieces (rw (chars-from_IsAscii text utf8 (ipv6_ascii _ pieces is)) at is)

-- what a reader answers of the bytes between brackets is right of the whole
pub reads_enclosed : (text inner : List ℕ) (answer : Option (List ℕ)) → IsUtf8 text → text ≡ enclosed inner
    → Reads IsIpv6 inner answer → Reads IsBracketedIpv6 (chars text) answer
reads_enclosed text inner (Some pieces) utf8 spelled is =
    let whole : chars (enclosed inner) ≡ enclosed inner =
    chars-IsAscii (enclosed inner) (enclosed_ascii inner (ipv6_ascii inner pieces is)) in
    (inner, ap chars spelled ∙ whole, is)
reads_enclosed text inner None utf8 spelled none = λ pieces (own, shown, is).
    let same : enclosed inner ≡ enclosed own = sym spelled ∙ bracketed_bytes text own pieces utf8 shown is in
    let after : inner ++ right_bracket ∷ [] ≡ own ++ right_bracket ∷ [] = cc in
    let between : inner ≡ own = append_cancel_right inner own (right_bracket ∷ []) after in
    none pieces (rw between is)

-- a text that isn't enclosed in brackets denotes nothing
pub not_enclosed : (text : List ℕ) → IsUtf8 text → ((inner : List ℕ) → ¬ (text ≡ enclosed inner))
    → (pieces : List ℕ) → ¬ (IsBracketedIpv6 (chars text) pieces)
not_enclosed text utf8 none pieces (inner, spelled, is) = none inner (bracketed_bytes text inner pieces utf8 spelled is)
