-- The rows of specs/Rows/Profiles hold, by computation.
use Rattle.std.proofs.Common.{refl}
use Rattle.std.proofs.lemmas.Bool.{false≢true}
use Rattle.uv_parser.specs.Rows.Profiles.{ProfileRows, WideRecordRows}
use Rattle.uv_model.proofs.Records.WellFormedLemmas.{IsUrlSegment-nil}
use Rattle.uv_parser.proofs.Rows.Computing.{parser}
use Rattle.uv_parser.proofs.Rows.DecidedHosts.{valid_row, violation_row}

-- the records
record_rows : WideRecordRows
unfolding parser
record_rows = record {
  wide = record {
    scheme = record { spelled = refl; lower = refl };
    host = record { first = _; rest = _; some = refl; letters = refl; name = refl };
    port = tt;
    path = (IsUrlSegment-nil, tt);
    query = tt;
    fragment = tt;
  };
  standard = λ is. false≢true is.host.letters;
}

-- each row
pub profile_rows_hold : ProfileRows
unfolding parser
profile_rows_hold = record {
  paths = record {
    empty_first = record { valid = valid_row _ _ _ _ refl; denoted = refl };
    empty_first_removed = record { valid = valid_row _ _ _ _ refl; denoted = refl };
    file = record { valid = valid_row _ _ _ _ refl; denoted = refl };
    file_drive_removed = record { valid = valid_row _ _ _ _ refl; denoted = refl };
    refused = violation_row _ _ _ _ _ refl;
    removed_refused = violation_row _ _ _ _ _ refl;
    file_refused = violation_row _ _ _ _ _ refl;
    file_drive_refused = violation_row _ _ _ _ _ refl;
  };
  domains = record {
    underscore = record { valid = valid_row _ _ _ _ refl; denoted = refl };
    first_hyphen = record { valid = valid_row _ _ _ _ refl; denoted = refl };
    hyphens = record { valid = valid_row _ _ _ _ refl; denoted = refl };
    underscore_refused = violation_row _ _ _ _ _ refl;
    first_hyphen_refused = violation_row _ _ _ _ _ refl;
    hyphens_refused = violation_row _ _ _ _ _ refl;
  };
  refusals = record {
    number = violation_row _ _ _ _ _ refl;
    nothing_left = violation_row _ _ _ _ _ refl;
    escape = violation_row _ _ _ _ _ refl;
    drive = violation_row _ _ _ _ _ refl;
  };
  references = record { valid = valid_row _ _ _ _ refl; denoted = refl };
  records = record_rows;
}
