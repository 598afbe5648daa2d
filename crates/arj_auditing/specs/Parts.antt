-- The lines of an image that is read.
use Rattle.std.specs.Prelude.{◌≡◌, ◌≤◌, ℕ, List, [], ◌∷◌, length}
use Rattle.arj_image.specs.declared.limits.TheConstants.{FILE_LINES, IMAGE_LINES}
use Rattle.arj_image.specs.Grammar.{Form, HasForm, next_place, nothing_read}
use Rattle.arj_image.specs.declared.place.Place.{Place}

-- These lines, one after another from a place on, have forms of the grammar of images, and lead to the other place.
abbrev pub Leads : Place → List (List ℕ) → Place → Type 0
Leads p [] q = p ≡ q
Leads p (bytes ∷ more) q = (form : Form) × HasForm p bytes form × Leads (next_place p form) more q

-- These lines are the front of an image, up to a place, and aren't too many.
pub record IsFront (lines : List (List ℕ)) (place : Place) : Type 0 where
  pub leads : Leads nothing_read lines place
  pub few : length lines ≤ IMAGE_LINES
  pub files : (let i = place.image in length i.files ≤ FILE_LINES)
