-- A text of which places are reported, and what was seen of it.
use Rattle.std.specs.Prelude.{◌≡◌, ℕ, IfSome, List, Option, drop}
use Rattle.std.specs.Str.{chars}
use Rattle.uv_shown.specs.declared.places.seen_text.Known.{Known}
use Rattle.uv_shown.specs.declared.places.seen_text.Spot.{Spot}
use Rattle.uv_shown.specs.Places.Window.{is_cut, is_longer}

-- what is from the place on is the text's
pub record IsSpot (text : List ℕ) (spot : Spot) : Type 0 where
  pub rest : chars spot.rest.now ≡ drop spot.place (chars text)

-- this is so of the text
pub record IsKnown (text : List ℕ) (known : Known) : Type 0 where
  pub long : known.is_longer_than_window ≡ is_longer 200 text
  pub cut : known.is_cut ≡ is_cut text

-- the last place, the one at which what is shown begins and what is the same at each place are the text's
pub record Sees (text : List ℕ) (last window : Spot) (known : Option Known) : Type 0 where
  pub is_last : IsSpot text last
  pub is_window : IsSpot text window
  pub is_known : IfSome known (IsKnown text)
