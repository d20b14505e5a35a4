-- The stops of the parser machine within a host text of class SpecialNotFile or File: what the text says where it
-- doesn't stop, and what of the whole text says that it doesn't.
use Rattle.std.proofs.Common.{◌≡◌, ℕ, Bool, true, false, not, ◌&&◌, ◌||◌, ◌==◌, List, [], ◌∷◌, ◌++◌, length, Option}
use Rattle.std.proofs.Common.{Some, None, refl, ne_eqb, arith}
use Rattle.std.specs.Prelude.{is_some}
use Rattle.std.specs.List.{list_any}
use Rattle.std.proofs.lemmas.Bool.{false≢true, or_from, or_parts}
use Rattle.uv_model.specs.declared.profile.Profile.TheVariants.{Parser}
use Rattle.uv_model.specs.declared.scheme.Class.{Class}
use Rattle.uv_model.specs.declared.scheme.Class.TheVariants.{SpecialNotFile, File}
use Rattle.uv_model.specs.Ascii.{at_sign, backslash, colon}
use Rattle.uv_model.specs.Cut.{Cut, ends_at_host}
use Rattle.uv_model.specs.Hosts.StoppedHost.{ends_with_control, has_stop, is_stopped, is_stopping}
use Rattle.uv_model.specs.Parts.{written_after}
use Rattle.uv_model.specs.Path.{is_drive_letter, is_without}
use Rattle.uv_model.specs.Removed.{is_tab_or_newline}
use Rattle.uv_model.proofs.Texts.MarkLemmas.{is_without-cons, is_without-more}
use Rattle.uv_parser.proofs.Loops.Tails.{tail}
use Rattle.uv_parser.proofs.Running.KeptTexts.{IsKept, IsUntabbed, kept_before, untabbed_parts}

-- What a host text says at which the machine doesn't stop, where `last` says that nothing follows it.
pub record GoesOn (class : Class) (last : Bool) (text : List ℕ) : Type 0 where
  pub no_at_sign : class ≡ SpecialNotFile → is_without at_sign text ≡ true
  pub no_backslash : is_without backslash text ≡ true
  pub untabbed : IsUntabbed text
  pub end : last ≡ true → ends_with_control text ≡ false

-- ---- where the machine doesn't stop

-- a test for both the end and another
end_alone : (last : Bool) (text : List ℕ) → (last && ends_with_control text) ≡ false → last ≡ true
    → ends_with_control text ≡ false
end_alone true text none is = none
end_alone false text none is = absurd (false≢true is)

-- a special URL's host has neither `@` nor `\` nor a tab or newline
special_marks : (text : List ℕ) → list_any (is_stopping SpecialNotFile) text ≡ false
    → (is_without at_sign text ≡ true) × (is_without backslash text ≡ true) × IsUntabbed text
special_marks [] none = (refl, refl, refl)
special_marks (c ∷ rest) none =
    let parts = or_parts (is_stopping SpecialNotFile c) (list_any (is_stopping SpecialNotFile) rest) none in
    let at = or_parts (c == at_sign) ((c == backslash) || is_tab_or_newline c) parts.0 in
    let other = or_parts (c == backslash) (is_tab_or_newline c) at.1 in
    let later = special_marks rest parts.1 in (
      is_without-more at_sign c rest at.0 later.0,
      is_without-more backslash c rest other.0 later.1,
      or_from _ _ other.1 later.2,
    )

-- the host of any other URL has neither `\` nor a tab or newline
file_marks : (text : List ℕ) → list_any (is_stopping File) text ≡ false
    → (is_without backslash text ≡ true) × IsUntabbed text
file_marks [] none = (refl, refl)
file_marks (c ∷ rest) none =
    let parts = or_parts (is_stopping File c) (list_any (is_stopping File) rest) none in
    let other = or_parts (c == backslash) (is_tab_or_newline c) parts.0 in
    let later = file_marks rest parts.1 in
    (is_without-more backslash c rest other.0 later.0, or_from _ _ other.1 later.1)

-- the host of a special URL
pub special_goes_on : (last : Bool) (text : List ℕ) → is_stopped Parser SpecialNotFile last text ≡ false
    → GoesOn SpecialNotFile last text
special_goes_on last text unstopped =
    let parts = or_parts (list_any (is_stopping SpecialNotFile) text) (last && ends_with_control text) unstopped in
    let marks = special_marks text parts.0 in
    record {
      no_at_sign = λ same. marks.0;
      no_backslash = marks.1;
      untabbed = marks.2;
      end = end_alone last text parts.1;
    }

-- the host of a file URL
pub file_goes_on : (last : Bool) (text : List ℕ) → is_stopped Parser File last text ≡ false
    → (is_drive_letter text ≡ false) × GoesOn File last text
file_goes_on last text unstopped =
    let drive = or_parts (is_drive_letter text) (has_stop File last text) unstopped in
    let parts = or_parts (list_any (is_stopping File) text) (last && ends_with_control text) drive.1 in
    let marks = file_marks text parts.0 in (
      drive.0,
      record {
        no_at_sign = λ same. absurd (file_no_special same);
        no_backslash = marks.0;
        untabbed = marks.1;
        end = end_alone last text parts.1;
      },
    )
  where
    file_no_special : File ≡ SpecialNotFile → ⊥
    file_no_special same = cc

-- ---- where the text doesn't stop it

-- no code point of a special URL's host
special_none : (text : List ℕ) → is_without at_sign text ≡ true → is_without backslash text ≡ true → IsUntabbed text
    → list_any (is_stopping SpecialNotFile) text ≡ false
special_none [] at back untabbed = refl
special_none (c ∷ rest) at back untabbed =
    let a = is_without-cons at_sign c rest at in
    let b = is_without-cons backslash c rest back in
    let tab = or_parts (is_tab_or_newline c) (list_any is_tab_or_newline rest) untabbed in
    or_from _ _ (or_from _ _ a.0 (or_from _ _ b.0 tab.0)) (special_none rest a.1 b.1 tab.1)

-- no code point of a file URL's host
file_none : (text : List ℕ) → is_without backslash text ≡ true → IsUntabbed text
    → list_any (is_stopping File) text ≡ false
file_none [] back untabbed = refl
file_none (c ∷ rest) back untabbed =
    let b = is_without-cons backslash c rest back in
    let tab = or_parts (is_tab_or_newline c) (list_any is_tab_or_newline rest) untabbed in
    or_from _ _ (or_from _ _ b.0 tab.0) (file_none rest b.1 tab.1)

-- nor the end
end_none : (last : Bool) (text : List ℕ) → (last ≡ true → ends_with_control text ≡ false)
    → (last && ends_with_control text) ≡ false
end_none true text end = end refl
end_none false text end = refl

-- ---- a host in a text that passes the test before the first step

-- No code point of a host in such a text is a tab or newline, and if nothing follows the host, it ends with no C0
-- control and no space.
pub record IsHostKept (last : Bool) (text : List ℕ) : Type 0 where
  pub untabbed : IsUntabbed text
  pub end : last ≡ true → ends_with_control text ≡ false

-- where the text ends at the host, nothing follows it
nothing_after : (cut : Cut) → ends_at_host cut ≡ true
    → written_after colon cut.port_text ++ (cut.path_text ++ tail cut.query cut.fragment) ≡ []
nothing_after cut alone = by_parts cut.port_text cut.path_text cut.query cut.fragment alone
  where
    by_parts : (port : Option (List ℕ)) (path : List ℕ) (query fragment : Option (List ℕ))
        → ((length path == 0) && not (is_some port || (is_some query || is_some fragment))) ≡ true
        → written_after colon port ++ (path ++ tail query fragment) ≡ []
    by_parts port (c ∷ path) query fragment alone =
        let some : (length (c ∷ path) == 0) ≡ false
        = ne_eqb (length (c ∷ path)) 0 (λ same. omega (arith, same)) in
        absurd (false≢true (rw some at alone))
    by_parts (Some port) [] query fragment alone = absurd (false≢true alone)
    by_parts None [] (Some query) fragment alone = absurd (false≢true alone)
    by_parts None [] None (Some fragment) alone = absurd (false≢true alone)
    by_parts None [] None None alone = refl

-- and if nothing follows it, the text ends at it
pub ends_where_nothing_follows : (cut : Cut)
    → written_after colon cut.port_text ++ (cut.path_text ++ tail cut.query cut.fragment) ≡ []
    → ends_at_host cut ≡ true
ends_where_nothing_follows cut nothing = by_parts cut.port_text cut.path_text cut.query cut.fragment nothing
  where
    by_parts : (port : Option (List ℕ)) (path : List ℕ) (query fragment : Option (List ℕ))
        → written_after colon port ++ (path ++ tail query fragment) ≡ []
        → ((length path == 0) && not (is_some port || (is_some query || is_some fragment))) ≡ true
    by_parts (Some port) path query fragment nothing = absurd cc
    by_parts None (c ∷ path) query fragment nothing = absurd cc
    by_parts None [] (Some query) fragment nothing = absurd cc
    by_parts None [] None (Some fragment) nothing = absurd cc
    by_parts None [] None None nothing = refl

-- so is a host with what follows it, where that is kept
pub host_is_kept : (cut : Cut) (host : List ℕ)
    → IsKept (host ++ (written_after colon cut.port_text ++ (cut.path_text ++ tail cut.query cut.fragment)))
    → IsHostKept (ends_at_host cut) host
host_is_kept cut host is =
    let after = written_after colon cut.port_text ++ (cut.path_text ++ tail cut.query cut.fragment) in
    record {
      untabbed = (untabbed_parts host after is.untabbed).0;
      end = λ alone. (kept_before host after is (nothing_after cut alone)).end;
    }

-- the machine doesn't stop at the host of a special URL
pub special_unstopped : (last : Bool) (text : List ℕ) → is_without at_sign text ≡ true
    → is_without backslash text ≡ true → IsHostKept last text → is_stopped Parser SpecialNotFile last text ≡ false
special_unstopped last text at back is =
    or_from _ _ (special_none text at back is.untabbed) (end_none last text is.end)

-- nor at the host of a file URL
pub file_unstopped : (last : Bool) (text : List ℕ) → is_drive_letter text ≡ false → is_without backslash text ≡ true
    → IsHostKept last text → is_stopped Parser File last text ≡ false
file_unstopped last text drive back is =
    or_from _ _ drive (or_from _ _ (file_none text back is.untabbed) (end_none last text is.end))
