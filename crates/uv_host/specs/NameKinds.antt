-- The kinds of the bytes of a name, after the URL Standard, sections 3.3 to 3.5.
use Rattle.std.specs.Prelude.{◌≡◌, ℕ, ◌<◌, Bool, ◌==◌, List, All, bit_and, if◌then◌else◌}
use Rattle.std.specs.Char.{is_ascii, is_ascii_uppercase}
use Rattle.std.specs.List.{list_all}
use Rattle.uv_model.specs.Hosts.Domain.{is_forbidden_domain}
use Rattle.uv_host.specs.Domains.{is_simple}

-- The kind of a mark or a byte beyond ASCII, as a bit: the hyphen, the low line, a byte beyond ASCII, a forbidden
-- domain
-- code point, and any other mark.
abbrev pub mark_kind : ℕ → ℕ
mark_kind b =
    if b == 0x2D then 1
    else (if b == 0x5F then 4 else (if is_ascii b then (if is_forbidden_domain b then 16 else 8) else 32))

-- The kind of a byte, as a bit: `x`, with which `xn--` begins, a capital, and those above. Other lower-case letters,
-- digits and the full stop are of no kind.
abbrev pub kind_of : ℕ → ℕ
kind_of b =
    if b == 0x78 then 64
    else (if is_simple b then 0 else (if is_ascii_uppercase b then 2 else mark_kind b))

-- the byte is of none of these kinds
abbrev pub is_of_none : ℕ → ℕ → Bool
is_of_none kinds b = bit_and (kind_of b) kinds == 0

-- a kind is seen where a byte is of it
pub record AreSeen (name : List ℕ) (seen : ℕ) : Type 0 where
  pub bytes : All (λ b. b < 256) name
  pub none : (kinds : ℕ) → (bit_and seen kinds == 0) ≡ list_all (is_of_none kinds) name
