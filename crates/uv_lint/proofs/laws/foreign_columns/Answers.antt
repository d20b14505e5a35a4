-- Before the place of the first byte that isn't UTF-8 the text before that byte is shown.
use Rattle.std.proofs.Common.{◌+◌, ◌-◌, ◌^◌, ap, min}
use Rattle.uv_report.specs.Places.Column.{width}
use Rattle.uv_lint.proofs.ForeignLemmas.{shown_before}
use Rattle.uv_lint.proofs.laws.foreign_columns.Goals as goal

pub returns : goal.returns
returns c = λ columns start bytes foreign.
    ap (λ text. min (start + width columns start text) (2 ^ 64 - 1)) (shown_before bytes foreign)
