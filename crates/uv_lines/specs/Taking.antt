-- A list that is taken line by line, whatever takes it.
use Rattle.std.specs.Prelude.{◌≡◌, ℕ, ◌-◌, ◌^◌, ◌≤◌, ◌⊎◌, List, [], ◌++◌, Option, length}
use Rattle.uv_lines.specs.declared.fault.LineFault.{LineFault}
use Rattle.uv_lines.specs.declared.fault.LineFault.TheVariants.{Own, Stop}
use Rattle.uv_lines.specs.declared.fault.StopFault.TheVariants.{Memory, Read, Endless}

-- how what takes a list came from where it started to a state, by bytes of the list, and its writer from some contents
-- to others
abbrev pub WayFrom : Type 0 → Type 0 → Type 1
WayFrom P S = P → Option (List ℕ) → List ℕ → S → Option (List ℕ) → Type 0

-- how what takes a list came from one state to another, by bytes of it, and its writer from some contents to others
abbrev pub Way : Type 0 → Type 1
Way S = WayFrom S S

-- wherever it came from by the one way, with these bytes more it came by the other
abbrev pub Leads : {P S : Type 0} → WayFrom P S → WayFrom P S → S → Option (List ℕ) → List ℕ → S → Option (List ℕ)
    → Type 0
Leads {P} way other before old bytes after new =
    (start : P) (first : Option (List ℕ)) (read : List ℕ) → way start first read before old
    → other start first (read ++ bytes) after new

-- the way goes on with these bytes
abbrev pub Keeps : {P S : Type 0} → WayFrom P S → S → Option (List ℕ) → List ℕ → S → Option (List ℕ) → Type 0
Keeps way before old bytes after new = Leads way way before old bytes after new

-- wherever it came from by the one way, with no byte more it came by the other
abbrev pub Turns : {P S : Type 0} → WayFrom P S → WayFrom P S → S → Option (List ℕ) → S → Option (List ℕ) → Type 0
Turns {P} way other before old after new =
    (start : P) (first : Option (List ℕ)) (read : List ℕ) → way start first read before old
    → other start first read after new

-- What a fault of a run leaves, when these bytes were read. A fault of what takes the list comes within a piece, or at
-- the list's end.
abbrev pub Left : {S F : Type 0} → Way S → (S → Type 0) → (F → Way S) → (F → Way S) → LineFault F → S
    → Option (List ℕ) → List ℕ → Type 0 → S → Option (List ℕ) → Type 0
Left stands rests stops fails (Own fault) start old read at_end now new =
    stops fault start old read now new ⊎ (at_end × fails fault start old read now new)
Left stands rests stops fails (Stop Memory) start old read at_end now new = (read ≡ []) × (now ≡ start) × (new ≡ old)
Left stands rests stops fails (Stop Read) start old read at_end now new = stands start old read now new × rests now
Left stands rests stops fails (Stop Endless) start old read at_end now new =
    stands start old read now new × rests now × (2 ^ 64 - 1 ≤ length read)
Left stands rests stops fails _ start old read at_end now new = ⊥

-- how many failed writes such a fault stands for, where one of what takes the list stands for so many
abbrev pub writes_of : {F : Type 0} → (F → ℕ) → LineFault F → ℕ
writes_of writes (Own fault) = writes fault
writes_of writes (Stop fault) = 0
