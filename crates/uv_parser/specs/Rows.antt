-- Rows: what the URL parser gives on one text (URL Standard, section 4.4), in tables that a reader can hold against the
-- standard. A row is proved only by computation.
use Rattle.std.specs.Prelude.{◌≡◌, ℕ, List, [], ◌∷◌, map, codes, Option, Some, None}
use Prim.Native.String.{String as Literal}
use Rattle.uv_model.specs.declared.host.Host.{Host}
use Rattle.uv_model.specs.declared.host.Host.TheVariants as host
use Rattle.uv_model.specs.declared.path.UrlPath.TheVariants.{Opaque, Segments}
use Rattle.uv_parser.specs.Run.{Outcome, Done, Stopped, Going, run, step_bound}
use Rattle.uv_model.specs.Records.Serialize.{serial}
use Rattle.uv_model.specs.Records.Url.{Url}
pub mod AddressParsers
pub mod Definitions
pub mod Denotation
pub mod File
pub mod HostParser
pub mod Hosts
pub mod Machine
pub mod OpaquePaths
pub mod Other
pub mod ParserProfile
pub mod Profiles
pub mod ReferenceMatrix
pub mod References
pub mod SilentDifferences
pub mod Special
pub mod StepCounts

-- ---- URLs, written down

-- a URL of scheme, host, port and segments, without query and fragment
abbrev pub listed : Literal → Option Host → Option ℕ → List Literal → Url
listed scheme host port segments =
    record {
      scheme = codes scheme;
      host = host;
      port = port;
      path = Segments (map codes segments);
      query = None;
      fragment = None;
    }

-- a URL with an opaque path, without query and fragment
abbrev pub opaque : Literal → Literal → Url
opaque scheme path =
    record {
      scheme = codes scheme;
      host = None;
      port = None;
      path = Opaque (codes path);
      query = None;
      fragment = None;
    }

-- the URL with this query
abbrev pub with_query : Literal → Url → Url
with_query query url = record url { query = Some (codes query) }

-- the URL with this fragment
abbrev pub with_fragment : Literal → Url → Url
with_fragment fragment url = record url { fragment = Some (codes fragment) }

-- a domain, as a host that is there
abbrev pub domain : Literal → Option Host
domain form = Some (host.Domain (codes form))

-- the IPv4 address of this value, as a host that is there
abbrev pub ipv4 : ℕ → Option Host
ipv4 value = Some (host.V4 value)

-- the IPv6 address of these eight pieces, as a host that is there
abbrev pub ipv6 : List ℕ → Option Host
ipv6 pieces = Some (host.V6 pieces)

-- an opaque host that is there
abbrev pub opaque_host : Literal → Option Host
opaque_host text = Some (host.Opaque (codes text))

-- the empty host, which is there
abbrev pub empty_host : Option Host
empty_host = Some host.Empty

-- ---- what a row says

-- how a run ended: with a URL that is serialized so, or with a stop at a place; or it hasn't ended
pub data Answer : Type 0 where
  is_done : Url → List ℕ → Answer
  has_stopped : ℕ → Answer
  goes_on : Answer

-- the answer of a run
abbrev pub answer_of : Outcome → Answer
answer_of (Done url) = is_done url (serial url)
answer_of (Stopped place) = has_stopped place
answer_of (Going machine) = goes_on

-- a text against a base or without one, a number of steps, and the answer after at most so many
pub record Row : Type 0 where
  pub base : Option Url
  pub text : List ℕ
  pub steps : ℕ
  pub answer : Answer

-- what the machine gives
abbrev pub computed : Row → Answer
computed row = answer_of (run row.base row.text row.steps)

-- two functions agree on each item of a table
abbrev pub Agree : {R A : Type 0} → (R → A) → (R → A) → List R → Type 0
Agree f g [] = Unit {0}
Agree f g (row ∷ rows) = (f row ≡ g row) × Agree f g rows

-- each row of the table holds: its answer is what the machine gives
abbrev pub AllHold : List Row → Type 0
AllHold rows = Agree computed (λ row. row.answer) rows

-- within the bound, without a base, the run on the text is done with this URL, which is serialized as this text
abbrev pub done : Literal → Url → Literal → Row
done text url serialized =
    record { base = None; text = codes text; steps = step_bound (codes text); answer = is_done url (codes serialized) }

-- within the bound, without a base, the run on the text stops at this place
abbrev pub stops : Literal → ℕ → Row
stops text place =
    record { base = None; text = codes text; steps = step_bound (codes text); answer = has_stopped place }

-- the row with this base
abbrev pub against : Url → Row → Row
against base row = record row { base = Some base }

-- the row after so many steps
abbrev pub in_steps : ℕ → Row → Row
in_steps steps row = record row { steps = steps }

-- without a base, the run on the text hasn't ended after so many steps
abbrev pub unfinished : Literal → ℕ → Row
unfinished text steps = record { base = None; text = codes text; steps = steps; answer = goes_on }
