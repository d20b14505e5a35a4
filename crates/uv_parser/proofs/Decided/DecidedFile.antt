-- The host of a file URL: it is taken, or the parser machine stops.
use Rattle.std.proofs.Common.{◌≡◌, ℕ, true, false, ◌==◌, ◌⊎◌, List, [], ◌∷◌, ◌++◌, length, Option, Some, None, refl}
use Rattle.std.proofs.Common.{inl, inr}
use Rattle.std.proofs.lemmas.Bool.{cases_Bool, true≢false}
use Rattle.uv_model.specs.declared.host.Host.{Host}
use Rattle.uv_model.specs.declared.host.Host.TheVariants as host
use Rattle.uv_model.specs.Ascii.{slash, question_mark, number_sign, backslash}
use Rattle.uv_parser.specs.HostParser.{parse_host}
use Rattle.uv_parser.specs.Machine.{Variables, AtPointer, end, slash_mark, query_mark, fragment_mark, another}
use Rattle.uv_parser.specs.Machine.{at_pointer, turn, onward, stop, again, FileHostState, PathStartState, file_host_at}
use Rattle.uv_parser.specs.Machine.{emptied, put, with_host, with_more}
use Rattle.uv_model.specs.Valid.{IsFileHostText, without_localhost}
use Rattle.uv_model.specs.declared.profile.Profile.TheVariants.{Parser}
use Rattle.uv_model.proofs.Hosts.FileHosts.{file_host_fits}
use Rattle.uv_model.specs.Path.{is_drive_letter, is_without}
use Rattle.uv_model.specs.Records.Url.{Url}
use Rattle.uv_parser.proofs.Loops.AuthorityLoops.{IsDelimiter}
use Rattle.uv_parser.proofs.Decided.DecidedAuthority.{IsUnended, host_cases, unended_after}
use Rattle.uv_parser.proofs.Loops.FileHosts.{file_host_law, file_host_row}
use Rattle.uv_parser.proofs.HostParsing.HostParserLemmas.{has_some}
use Rattle.uv_parser.proofs.Running.Steps.{Stops, ends_again, ends_after, stops_here, ends_step}
use Rattle.uv_parser.proofs.HostParsing.SpecialHosts.{host_from_parser}

-- ---- rows

-- the file host state stops after a drive letter
drive_row : (v : Variables) (s : AtPointer) → IsDelimiter s → is_drive_letter v.buffer ≡ true → file_host_at v s ≡ stop
drive_row v end is drive = rw drive refl
drive_row v slash_mark is drive = rw drive refl
drive_row v query_mark is drive = rw drive refl
drive_row v fragment_mark is drive = rw drive refl
drive_row v (another c) is drive = absurd is

-- and after a text of which the host parser makes nothing
none_row : (v : Variables) (s : AtPointer) → IsDelimiter s → is_drive_letter v.buffer ≡ false
    → (length v.buffer == 0) ≡ false
    → parse_host true v.buffer ≡ None → file_host_at v s ≡ stop
none_row v end is drive some none = rw (drive, some, none) refl
none_row v slash_mark is drive some none = rw (drive, some, none) refl
none_row v query_mark is drive some none = rw (drive, some, none) refl
none_row v fragment_mark is drive some none = rw (drive, some, none) refl
none_row v (another c) is drive some none = absurd is

-- after no text the host is the empty one
empty_row : (v : Variables) (s : AtPointer) → IsDelimiter s
    → file_host_at (emptied v) s ≡ again PathStartState (with_host (Some host.Empty) (emptied v))
empty_row v end is = refl
empty_row v slash_mark is = refl
empty_row v query_mark is = refl
empty_row v fragment_mark is = refl
empty_row v (another c) is = absurd is

-- The text is a host of a file URL, no drive letter, and has no `\`.
pub record IsFileHost (text : List ℕ) : Type 0 where
  pub no_drive : is_drive_letter text ≡ false
  pub no_backslash : is_without backslash text ≡ true
  pub value : Host
  pub host : IsFileHostText Parser text value

-- such a host, or none
abbrev pub FileHostFits : List ℕ → Type 0
FileHostFits text = IsFileHost text ⊎ (text ≡ [])

-- a host text that the host parser takes, which isn't a drive letter, fits
taken_host_fits : (text : List ℕ) (value : Host) → is_drive_letter text ≡ false → is_without backslash text ≡ true
    → parse_host true text ≡ Some value → FileHostFits text
taken_host_fits text value no_drive none parsed =
    inl (record {
      no_drive = no_drive;
      no_backslash = none;
      value = without_localhost value;
      host = file_host_fits Parser text value (host_from_parser text value parsed);
    })

module _ (base : Option Url) where
  row_on : (c : ℕ) (rest : List ℕ) (v : Variables) (p : ℕ) → (c == slash) ≡ false → (c == question_mark) ≡ false
      → (c == number_sign) ≡ false → (c == backslash) ≡ false
      → turn base FileHostState p v (c ∷ rest) ≡ onward FileHostState (put c v)
  row_on c rest v p a b d other = simp (a, b, d, other) refl

  row_stop : (c : ℕ) (rest : List ℕ) (v : Variables) (p : ℕ) → (c == slash) ≡ false → (c == question_mark) ≡ false
      → (c == number_sign) ≡ false → (c == backslash) ≡ true
      → turn base FileHostState p v (c ∷ rest) ≡ stop
  row_stop c rest v p a b d is = simp (a, b, d, is) refl

  -- a host with a `\` stops
  file_host_stops : (cs rest : List ℕ) (v : Variables) → is_without backslash cs ≡ false → IsUnended cs
      → Stops base FileHostState v (cs ++ rest)
  file_host_stops [] rest v has is = absurd (true≢false has)
  file_host_stops (c ∷ cs) rest v has is =
      let (a, b, d, later) = unended_after c cs is in
      elim (cases_Bool (c == backslash)) [
        | inl here ↦ stops_here base (λ p. row_stop c (cs ++ rest) v p a b d here)
        | inr other ↦
            ends_step base (λ p. row_on c (cs ++ rest) v p a b d other)
            (file_host_stops cs rest _ (rw other at has) later)
      ]

  -- if no `\` is in the host
  named_host_decided : (A : Type 0) (c : ℕ) (cs rest : List ℕ) (v : Variables) → IsUnended (c ∷ cs)
      → IsDelimiter (at_pointer rest)
      → ((g : Variables) → g.url.scheme ≡ v.url.scheme → A ⊎ Stops base PathStartState g rest)
      → is_without backslash (c ∷ cs) ≡ true
      → (FileHostFits (c ∷ cs) × A)
      ⊎ Stops base FileHostState (emptied v) ((c ∷ cs) ++ rest)
  named_host_decided A c cs rest v is ends next none =
      let text = c ∷ cs in
      let variables = with_more text (emptied v) in
      let law = file_host_law base text rest (emptied v) (record {
        no_slash = is.no_slash;
        no_question_mark = is.no_question_mark;
        no_number_sign = is.no_number_sign;
        no_backslash = none;
      }) in
      elim (cases_Bool (is_drive_letter text)) [
        | inl drive ↦ inr
            (ends_after base law (stops_here base (λ p. drive_row variables (at_pointer rest) ends drive)))
        | inr no_drive ↦ elim (host_cases (parse_host true text)) [
          | inl missing ↦ inr
              (ends_after base law
              (stops_here base
              (λ p. none_row variables (at_pointer rest) ends no_drive (has_some text c cs refl) missing)))
          | inr (value, parsed) ↦ elim (next (emptied (with_host (Some (without_localhost value)) variables)) refl) [
            | inl fine ↦ inl (taken_host_fits text value no_drive none parsed, fine)
            | inr stops ↦ inr
                (ends_after base law
                (ends_again base
                (λ p. file_host_row value variables (at_pointer rest) ends no_drive (has_some text c cs refl) parsed)
                stops))
          ]
        ]
      ]

  -- from the host on
  pub file_host_decided : (A : Type 0) (text rest : List ℕ) (v : Variables) → IsUnended text
      → IsDelimiter (at_pointer rest)
      → ((g : Variables) → g.url.scheme ≡ v.url.scheme → A ⊎ Stops base PathStartState g rest)
      → (FileHostFits text × A) ⊎ Stops base FileHostState (emptied v) (text ++ rest)
  file_host_decided A [] rest v is ends next =
      elim (next (with_host (Some host.Empty) (emptied v)) refl) [
        | inl fine ↦ inl (inr refl, fine)
        | inr stops ↦ inr (ends_again base (λ p. empty_row v (at_pointer rest) ends) stops)
      ]
  file_host_decided A (c ∷ cs) rest v is ends next =
      elim (cases_Bool (is_without backslash (c ∷ cs))) [
        | inl none ↦ named_host_decided A c cs rest v is ends next none
        | inr has ↦ inr (file_host_stops (c ∷ cs) rest (emptied v) has is)
      ]
