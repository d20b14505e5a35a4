-- Texts that are resolved one by one, and the texts of their records one after the other.
use Rattle.std.proofs.Common.{◌≡◌, ℕ, suc, ◌+◌, ◌<◌, List, [], ◌∷◌, ◌++◌, length, refl, sym, ap, ◌∙◌, inl, inr}
use Rattle.std.proofs.Common.{arith, append-nil, lit<, subst}
use Rattle.std.specs.List.{concat}
use Rattle.std.specs.Prelude.{Err, None, Ok, Option, Some, String, option_map, string_bytes}
use Rattle.std.specs.declared.alloc.Global.{Global}
use Rattle.std.proofs.lemmas.List.{drop_all, length-append}
use Rattle.std.proofs.lemmas.List.Folds.{concat-append}
use Rattle.uv_model.specs.declared.profile.Profile.{Profile}
use Rattle.uv_model.specs.Records.Serialize.{serial}
use Rattle.uv_model.specs.Records.Url.{Url, is_opaque}
use Rattle.uv_resolve.specs.Layout.{kind_of}
use Rattle.uv_resolve.specs.Resolve.{DenotesText}
use Rattle.urlcheck_c.specs.declared.finding.Finding.{Finding}
use Rattle.urlcheck_c.specs.declared.finding.CallOutcome.TheVariants.{Memory, Valid}
use Rattle.urlcheck_c.specs.Batch.{IsColumn, IsPut, one_if_valid}
use Rattle.urlcheck_c.specs.Buffer.{IsWritten}
use Rattle.urlcheck_c.specs.Base.{flag_number}
use Rattle.urlcheck_c.specs.Finding.{IsSmall, plain_finding}
use Rattle.urlcheck_c.specs.Offsets.{row_count, row_text}
use Rattle.urlcheck_c.specs.PlacedRecord.{IsPlacedAnswer, no_record}
use Rattle.urlcheck_c.specs.RecordPlaces.{host_number, record_spans}
use Rattle.urlcheck_c.specs.Request.{IsNoBaseGiven, IsNoRecordGiven, IsNoRequest, IsRequest}
use Rattle.urlcheck_c.specs.ResolvedBatch.{AreRowsResolved, IsAppended, IsResolvedRow, IsTextResolved, ResolvedColumns}
use Rattle.urlcheck_c.specs.ResolvedBatch.{text_offsets}
use Rattle.urlcheck_c.proofs.BatchLemmas.{column_more, mapped_more, one_at_most}
use Rattle.urlcheck_c.proofs.RecordPlaceLemmas.{record_places}
use Rattle.urlcheck_c.proofs.RuleLemmas.{small_rule}

-- ---- a row

-- the numbers of a text that isn't checked are small
small_no_base : (profile : Profile) (base : Option (List ℕ)) (finding : Finding) → IsNoBaseGiven profile base finding
    → IsSmall finding
small_no_base profile None finding none = absurd none
small_no_base profile (Some bytes) finding (inl text) = rw text.said (lit< tt, lit< tt)
small_no_base profile (Some bytes) finding (inr (utf8, inl refused)) =
    rw refused.said (lit< tt, small_rule refused.refusal.rule)
small_no_base profile (Some bytes) finding (inr (utf8, inr wanting)) = rw wanting.said (lit< tt, lit< tt)

small_no_record : (profile : Profile) (base : Option (List ℕ)) (finding : Finding)
    → IsNoRecordGiven profile base finding → IsSmall finding
small_no_record profile None finding none = absurd none
small_no_record profile (Some bytes) finding none = rw none.lacks.0 (lit< tt, lit< tt)

small_unchecked : (number : ℕ) (base : Option (List ℕ)) (bytes : List ℕ) (finding : Finding)
    → IsNoRequest number base bytes finding → IsSmall finding
small_unchecked number base bytes finding (inl (inl (lacking, found))) = rw found (lit< tt, lit< tt)
small_unchecked number base bytes finding (inl (inr (profile, some, inl text))) = rw text.said (lit< tt, lit< tt)
small_unchecked number base bytes finding (inl (inr (profile, some, inr (utf8, none)))) =
    small_no_base profile base finding none
small_unchecked number base bytes finding (inr (profile, some, utf8, none)) = small_no_record profile base finding none

-- a text is written whole into a buffer of its length
written_whole : (text : List ℕ) → IsWritten text text text (length text)
written_whole text = record {
  given_is = refl;
  fits = λ room. sym (ap (λ t. text ++ t) (drop_all (length text) text (omega arith)) ∙ append-nil text);
  short = λ less. absurd (omega (arith, less));
}

-- the text of the URL is what is answered
text_row : (number : ℕ) (base : Option (List ℕ)) (bytes text : List ℕ) (profile : Profile) (against : Option Url)
    → IsRequest number base bytes profile against → DenotesText profile against bytes text
    → IsResolvedRow number base bytes (plain_finding Valid) text
text_row number base bytes text profile against request (url, denotes, is) =
    subst (λ (t : List ℕ). IsResolvedRow number base bytes (plain_finding Valid) t) (sym is)
    (record {
      room = serial url;
      record_is = record {
        found = plain_finding Valid;
        length = length (serial url);
        parts = record_spans url;
        host = host_number (option_map kind_of url.host);
        opaque_path = flag_number (is_opaque url.path);
      };
      answer = inr (
        profile,
        against,
        request,
        inl (
          url,
          denotes,
          record {
            found = refl;
            written = written_whole (serial url);
            parts = record_places url;
            host = refl;
            opaque_path = refl;
          },
        ),
      );
      found_is = refl;
      length_is = refl;
    })

-- nothing is written for what denotes no URL
unwritten_row : (number : ℕ) (base : Option (List ℕ)) (bytes : List ℕ) (finding : Finding)
    → IsPlacedAnswer number base bytes [] [] (no_record finding) → IsResolvedRow number base bytes finding []
unwritten_row number base bytes finding is = record {
  room = [];
  record_is = no_record finding;
  answer = is;
  found_is = refl;
  length_is = refl;
}

-- where memory runs out for it, that is what is answered
wanting_row : (number : ℕ) (base : Option (List ℕ)) (bytes text : List ℕ) (profile : Profile) (against : Option Url)
    → IsRequest number base bytes profile against → DenotesText profile against bytes text
    → IsResolvedRow number base bytes (plain_finding Memory) []
wanting_row number base bytes text profile against request (url, denotes, is) =
    unwritten_row number base bytes (plain_finding Memory)
    (inr (profile, against, request, inr ((refl, refl), inr (refl, λ free. free.1 denotes.0 denotes.1))))

-- a text that is resolved
resolved_row : (number : ℕ) (base : Option (List ℕ)) (bytes : List ℕ) (text : String Global)
    → IsTextResolved number base bytes (Ok text)
    → IsResolvedRow number base bytes (plain_finding Valid) (string_bytes text)
    × IsResolvedRow number base bytes (plain_finding Memory) []
resolved_row number base bytes text (inl (finding, is, unchecked)) = absurd cc
resolved_row number base bytes text (inr (profile, against, request, denotes)) = (
  text_row number base bytes (string_bytes text) profile against request denotes,
  wanting_row number base bytes (string_bytes text) profile against request denotes,
)

-- the row of a text that is resolved and appended
pub appended_row : (number : ℕ) (base : Option (List ℕ)) (bytes : List ℕ) (text : String Global)
    (written old new : List ℕ) (finding : Finding) → IsTextResolved number base bytes (Ok text)
    → written ≡ string_bytes text → IsAppended written old new finding
    → (row : List ℕ) × IsResolvedRow number base bytes finding row × (new ≡ old ++ row)
appended_row number base bytes text written old new finding resolved is (inl (valid, whole)) =
    let row = (resolved_row number base bytes text resolved).0 in (
      string_bytes text,
      subst (λ (f : Finding). IsResolvedRow number base bytes f (string_bytes text)) (sym valid) row,
      whole ∙ ap (λ t. old ++ t) is,
    )
appended_row number base bytes text written old new finding resolved is (inr (memory, same)) =
    let row = (resolved_row number base bytes text resolved).1 in (
      [],
      subst (λ (f : Finding). IsResolvedRow number base bytes f []) (sym memory) row,
      same ∙ sym (append-nil old),
    )

-- what is found of a text that is appended has small numbers
pub small_appended : (written old new : List ℕ) (finding : Finding) → IsAppended written old new finding
    → IsSmall finding
small_appended written old new finding (inl (valid, whole)) = rw valid (lit< tt, lit< tt)
small_appended written old new finding (inr (memory, same)) = rw memory (lit< tt, lit< tt)

-- a text that is refused, or isn't checked, and the numbers of what was found of it
pub refused_row : (number : ℕ) (base : Option (List ℕ)) (bytes : List ℕ) (finding : Finding)
    → IsTextResolved number base bytes (Err finding) → IsResolvedRow number base bytes finding [] × IsSmall finding
refused_row number base bytes finding (inl (found, same, unchecked)) =
    let is : finding ≡ found = cc in
    let none = subst (λ (f : Finding). IsNoRequest number base bytes f) (sym is) unchecked in (
      unwritten_row number base bytes finding (inl ((refl, refl), none)),
      small_unchecked number base bytes finding none,
    )
refused_row number base bytes finding (inr (profile, against, request, inl refused)) = (
  unwritten_row number base bytes finding (inr (profile, against, request, inr ((refl, refl), inl refused))),
  rw refused.said (lit< tt, small_rule refused.refusal.rule),
)
refused_row number base bytes finding (inr (profile, against, request, inr wanting)) = (
  unwritten_row number base bytes finding (inr (profile, against, request, inr ((refl, refl), inr wanting))),
  rw wanting.0 (lit< tt, lit< tt),
)

-- ---- where texts begin and end

offsets_length : (from : ℕ) (texts : List (List ℕ)) → length (text_offsets from texts) ≡ length texts + 1
offsets_length from [] = refl
offsets_length from (text ∷ rest) = ap suc (offsets_length (from + length text) rest) ∙ omega arith

-- a text more ends after all of them
offsets_more : (from : ℕ) (texts : List (List ℕ)) (text : List ℕ)
    → text_offsets from (texts ++ (text ∷ []))
    ≡ text_offsets from texts ++ ((from + length (concat texts ++ text)) ∷ [])
offsets_more from [] text = refl
offsets_more from (first ∷ rest) text =
    let more : from + length first + length (concat rest ++ text) ≡ from + length ((first ++ concat rest) ++ text)
    = simp (length-append) (omega arith) in
    ap (λ t. from ∷ t) (offsets_more (from + length first) rest text
    ∙ ap (λ n. text_offsets (from + length first) rest ++ (n ∷ [])) more)

-- ---- the rows

-- a value is put, where the column's length and the value are written otherwise
put_alike : (entries count row end value : ℕ) (now new : List ℕ) → count ≡ entries → end ≡ value
    → IsPut (count + 1) row end now new → IsPut (entries + 1) row value now new
put_alike entries count row end value now new counted ended put =
    subst (λ (n : ℕ). IsPut (entries + 1) row n now new) ended
    (subst (λ (n : ℕ). IsPut (n + 1) row end now new) counted put)

-- a text more is resolved
pub resolved_more : (number : ℕ) (base : Option (List ℕ)) (texts offsets : List ℕ) (row : ℕ) (old now new : ResolvedColumns)
    (bytes text after : List ℕ) (valid more : ℕ) (last : Finding) → row < row_count offsets
    → AreRowsResolved number base texts offsets row old now bytes valid
    → IsResolvedRow number base (row_text texts offsets row) last text → after ≡ bytes ++ text
    → more ≡ valid + one_if_valid last
    → IsPut (row_count offsets) row last.verdict now.found.verdicts new.found.verdicts
    → IsPut (row_count offsets) row last.rule now.found.rules new.found.rules
    → IsPut (row_count offsets) row last.place now.found.places new.found.places
    → (count end : ℕ) → count ≡ row_count offsets → end ≡ length after
    → IsPut (count + 1) (row + 1) end now.ends new.ends
    → AreRowsResolved number base texts offsets (row + 1) old new after more
resolved_more number base texts offsets row old now new bytes text after valid more last below made found appended is
    verdict rule place count end counted ended put =
    let next : suc row ≡ row + 1 = omega arith in
    let rows = row_count offsets in
    let joined : after ≡ concat made.written ++ text = appended ∙ ap (λ b. b ++ text) made.bytes_are in
    let end_is : 0 + length (concat made.written ++ text) ≡ length after = omega (arith, ap length joined) in
    let ends_put = put_alike rows count (row + 1) end (length after) now.ends new.ends counted ended put in
    let ends_before = offsets_length 0 made.written ∙ ap (λ n. n + 1) made.count_written in
    subst (λ n. AreRowsResolved number base texts offsets n old new after more) next
    (record {
      found = made.found ++ (last ∷ []);
      written = made.written ++ (text ∷ []);
      resolved = (made.found, made.written, valid, last, text, made.resolved, found, refl, refl, is);
      count = length-append made.found (last ∷ []) ∙ omega (arith, made.count);
      count_written = length-append made.written (text ∷ []) ∙ omega (arith, made.count_written);
      few = omega (arith, made.few, is, one_at_most last);
      bytes_are =
          joined ∙ sym (concat-append made.written (text ∷ []) ∙ ap (λ t. concat made.written ++ t) (append-nil text));
      verdicts = mapped_more (λ f. f.verdict) rows row made.found last old.found.verdicts now.found.verdicts
          new.found.verdicts made.count below made.verdicts verdict;
      rules = mapped_more (λ f. f.rule) rows row made.found last old.found.rules now.found.rules new.found.rules
          made.count below made.rules rule;
      places = mapped_more (λ f. f.place) rows row made.found last old.found.places now.found.places new.found.places
          made.count below made.places place;
      ends = subst (λ (values : List ℕ). IsColumn (rows + 1) values old.ends new.ends)
          (sym (offsets_more 0 made.written text ∙ ap (λ n. text_offsets 0 made.written ++ (n ∷ [])) end_is))
          (column_more (rows + 1) (row + 1) (text_offsets 0 made.written) old.ends now.ends new.ends (length after)
          ends_before (omega (arith, below)) made.ends ends_put);
    })

-- no text is resolved, and the column of ends begins with 0
pub none_resolved : (number : ℕ) (base : Option (List ℕ)) (texts offsets : List ℕ) (old : ResolvedColumns) (ends bytes : List ℕ)
    → bytes ≡ [] → IsPut (row_count offsets + 1) 0 0 old.ends ends
    → AreRowsResolved number base texts offsets 0 old (record { found = old.found; ends = ends }) bytes 0
none_resolved number base texts offsets old ends bytes none end = record {
  found = [];
  written = [];
  resolved = (refl, refl, refl);
  count = refl;
  count_written = refl;
  few = omega arith;
  bytes_are = none;
  verdicts = (λ room. refl, λ short. refl);
  rules = (λ room. refl, λ short. refl);
  places = (λ room. refl, λ short. refl);
  ends = column_more (row_count offsets + 1) 0 [] old.ends old.ends ends 0 refl (omega arith)
      (λ room. refl, λ short. refl) end;
}
