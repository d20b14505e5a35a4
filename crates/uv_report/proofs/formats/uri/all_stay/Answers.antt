-- Each byte was looked at.
use Rattle.std.proofs.Common.{◌≡◌, All, rules, true}
use Rattle.uv_report.specs.Formats.Uri.{stays}
use Rattle.uv_report.proofs.UriLemmas.{part_stays}
use Rattle.uv_report.proofs.formats.uri.all_stay.Goals as goal

pub returns : goal.returns
returns c = λ each.
    let all : All (λ b. stays b ≡ true) c.args.bytes.now = search rules in
    part_stays c.args.bytes.now all
