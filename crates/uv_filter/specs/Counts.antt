-- What has become of lines, counted.
use Rattle.std.specs.Prelude.{ℕ, ◌+◌, ◌-◌, ◌^◌, ◌==◌, ◌||◌, Bool, min, not}
use Rattle.uv_model.specs.declared.mend_kind.MendKind.{MendKind}
use Rattle.uv_model.specs.declared.mend_kind.MendKind.TheVariants.{Same, Escaped, Changed}
use Rattle.uv_filter.specs.declared.counts.FilterCounts.{FilterCounts}
use Rattle.uv_filter.specs.declared.fate.Fate.{Fate}
use Rattle.uv_filter.specs.declared.fate.Fate.TheVariants as fate

-- no line was counted yet
abbrev pub none_counted : FilterCounts
none_counted = record {
  lines = 0;
  valid = 0;
  same = 0;
  escaped = 0;
  changed = 0;
  refused = 0;
  not_utf8 = 0;
  too_long = 0;
}

-- one more, 2^64 - 1 at most
abbrev pub more : ℕ → ℕ
more count = min (count + 1) (2 ^ 64 - 1)

-- with a further line that isn't empty
abbrev pub with_line : FilterCounts → FilterCounts
with_line counts = record counts { lines = more counts.lines }

-- with a further text of this kind
abbrev pub with_kind : FilterCounts → MendKind → FilterCounts
with_kind counts Same = record counts { same = more counts.same }
with_kind counts Escaped = record counts { escaped = more counts.escaped }
with_kind counts Changed = record counts { changed = more counts.changed }

-- with a further line, of which this has become
abbrev pub counted : FilterCounts → Fate → FilterCounts
counted counts fate.Empty = counts
counted counts fate.Valid = record (with_line counts) { valid = more counts.valid }
counted counts (fate.Mended mended found) = with_kind (with_line counts) found
counted counts fate.Refused = record (with_line counts) { refused = more counts.refused }
counted counts fate.NotUtf8 = record (with_line counts) { not_utf8 = more counts.not_utf8 }
counted counts fate.TooLong = record (with_line counts) { too_long = more counts.too_long }

-- two numbers together, 2^64 - 1 at most
abbrev pub sum : ℕ → ℕ → ℕ
sum a b = min (a + b) (2 ^ 64 - 1)

-- what was counted of two lists
abbrev pub both : FilterCounts → FilterCounts → FilterCounts
both a b = record {
  lines = sum a.lines b.lines;
  valid = sum a.valid b.valid;
  same = sum a.same b.same;
  escaped = sum a.escaped b.escaped;
  changed = sum a.changed b.changed;
  refused = sum a.refused b.refused;
  not_utf8 = sum a.not_utf8 b.not_utf8;
  too_long = sum a.too_long b.too_long;
}

-- a line was mended
abbrev pub is_mended : FilterCounts → Bool
is_mended counts =
    (not (counts.same == 0) || not (counts.escaped == 0)) || not (counts.changed == 0)
