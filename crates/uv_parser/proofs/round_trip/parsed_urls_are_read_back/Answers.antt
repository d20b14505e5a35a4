-- The law is the lemma.
use Rattle.uv_parser.proofs.RoundTrip.RoundTripLemmas.{parsed_urls_are_read_back}
use Rattle.uv_parser.proofs.round_trip.parsed_urls_are_read_back.Goals as goal

pub returns : goal.returns
returns c = parsed_urls_are_read_back
