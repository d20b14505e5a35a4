-- What was read and written of a list against the URL of the base.
use Rattle.std.proofs.Common.{List, ℕ, Option}
use Rattle.std.specs.Borrow.{Bor}
use Rattle.uv_model.specs.declared.profile.Profile.{Profile}
use Rattle.uv_model.specs.Records.Url.{Url}
use Rattle.uv_resolve.specs.Base.{IsBase}
use Rattle.uv_cli.specs.declared.ends.End.{End}
use Rattle.uv_cli.specs.declared.ends.End.TheVariants.{Valid, Refused, Shown, Words, UnknownRule, UnknownFormat}
use Rattle.uv_cli.specs.declared.ends.End.TheVariants.{UnknownColumns, ColumnsRefused, UnknownProfile, UnknownKind}
use Rattle.uv_cli.specs.declared.ends.End.TheVariants.{BaseRefused, Fault, Filtered, Linted, Stopped, Vectors, Unread}
use Rattle.uv_cli.specs.declared.fault.CliFault.TheVariants.{Memory, Write}
use Rattle.uv_cli.specs.Stream.{Stream}
use Rattle.uv_cli.specs.Jobs.{HasListed, HasListedAgainst}

-- what was listed against a URL was listed against the base's text that resolves to it
pub listed_against : (profile : Profile) (base : Option (Bor (List ℕ))) (url : Option Url) (end : End)
    (input rest old new : Stream)
    → IsBase profile base url → HasListedAgainst profile url end input rest old new
    → HasListed profile base end input rest old new
listed_against profile base url Valid input rest old new is listed = (url, is, listed)
listed_against profile base url Refused input rest old new is listed = (url, is, listed)
listed_against profile base url (Stopped fault) input rest old new is listed = (url, is, listed)
listed_against profile base url Shown input rest old new is listed = absurd listed
listed_against profile base url Words input rest old new is listed = absurd listed
listed_against profile base url UnknownRule input rest old new is listed = absurd listed
listed_against profile base url UnknownFormat input rest old new is listed = absurd listed
listed_against profile base url UnknownColumns input rest old new is listed = absurd listed
listed_against profile base url ColumnsRefused input rest old new is listed = absurd listed
listed_against profile base url UnknownProfile input rest old new is listed = absurd listed
listed_against profile base url UnknownKind input rest old new is listed = absurd listed
listed_against profile base url (Filtered filtered) input rest old new is listed = absurd listed
listed_against profile base url (Linted linted) input rest old new is listed = absurd listed
listed_against profile base url (BaseRefused refusal) input rest old new is listed = absurd listed
listed_against profile base url (Fault Memory) input rest old new is listed = absurd listed
listed_against profile base url (Fault Write) input rest old new is listed = absurd listed
listed_against profile base url (Vectors ended) input rest old new is listed = absurd listed
listed_against profile base url Unread input rest old new is listed = absurd listed
