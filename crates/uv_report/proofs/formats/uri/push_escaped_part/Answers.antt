-- The library's text, in our words.
use Rattle.uv_report.proofs.UriLemmas.{percent_encode-uri}
use Rattle.uv_report.proofs.formats.uri.push_escaped_part.Goals as goal

pub returns : goal.returns
returns c =
    rw (← percent_encode-uri c.args.name.now, ← c.utf8_percent_encode.ensures.text) c.append_to.ensures.ok
