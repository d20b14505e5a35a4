-- The law is the lemma.
use Rattle.uv_parser.proofs.RoundTrip.RoundTripLemmas.{stable_urls_are_read_back}
use Rattle.uv_parser.proofs.round_trip.stable_urls_are_read_back.Goals as goal

pub returns : goal.returns
returns c = stable_urls_are_read_back
