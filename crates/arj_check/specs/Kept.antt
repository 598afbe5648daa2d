-- What is kept of committed tops for the keys of their calls.
use Rattle.std.specs.Prelude.{◌≡◌, ℕ, List, map}
use Rattle.std.specs.BTreeMap.{get}
use Rattle.std.specs.Option.{unwrap_or}
use Rattle.std.specs.Ordering.{nat_cmp}
use Rattle.arj_model.specs.Calls.{Top}
use Rattle.arj_model.specs.Serial.{unit_place}
use Rattle.arj_reading.specs.Reading.{first_place}
use Rattle.arj_check.specs.Keys.{place_item, root_item}
use Rattle.arj_check.specs.declared.tops.Tops.{Tops}

-- These are the roots, the places and the units of these tops.
pub record HasTops (ts : List Top) (tops : Tops) : Type 0 where
  pub roots : (id : ℕ) → get nat_cmp tops.roots id ≡ first_place (map root_item ts) id
  pub places : (id : ℕ) → get nat_cmp tops.places id ≡ first_place (map place_item ts) id
  pub units : (root : ℕ) → unwrap_or (get nat_cmp tops.units root) 0 ≡ unit_place ts root
