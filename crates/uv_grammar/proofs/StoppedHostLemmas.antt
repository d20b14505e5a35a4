-- The last code point of a host text.
use Rattle.std.proofs.Common.{ℕ, Bool, List, [], ◌∷◌}
use Rattle.uv_model.specs.Hosts.StoppedHost.{ends_with_control}

-- whether a text ends with a control, where the code point before it decides if it is empty
abbrev pub ends_by : Bool → List ℕ → Bool
ends_by before [] = before
ends_by before (c ∷ rest) = ends_with_control (c ∷ rest)
