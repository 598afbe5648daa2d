-- Writes that survive, with their places among those on their object.
use Rattle.std.specs.Prelude.{ℕ, ◌+◌, List, [], ◌∷◌, ◌++◌, Bool, ◌==◌, ◌&&◌, ◌||◌, if◌then◌else◌, Option, Some, None, slice_get}
use Rattle.std.specs.List.{cons_option, list_all, list_any}
use Rattle.std.specs.Option.{option_map}
use Rattle.arj_base.specs.declared.uid.Uid.{Uid}
use Rattle.arj_model.specs.Actions.{Placed}
use Rattle.arj_model.specs.Calls.{Call}
use Rattle.arj_last.specs.declared.kept.Write.{Write}
use Rattle.arj_last.specs.declared.picked.Wrote.{Wrote}

-- a write survives, and its top is committed, by these tests of numbers and Uids
abbrev pub survives_by : (ℕ → Bool) → (Uid → Bool) → Write → Bool
survives_by ended found w = list_all ended w.chain && (ended w.top || found w.writer)

-- a write at a place, where it passes the test
abbrev pub survivor : (Write → Bool) → ℕ → Write → Option (Placed Write)
survivor test at w = if test w then Some (record { at = at; it = w }) else None

-- those that pass the test, with their places, from this one on
abbrev pub survivors_from : (Write → Bool) → ℕ → List Write → List (Placed Write)
survivors_from test at [] = []
survivors_from test at (w ∷ ws) = cons_option (survivor test at w) (survivors_from test (at + 1) ws)

-- the key of a write: that of its top, and its place
abbrev pub key_of : (ℕ → List ℕ) → Placed Write → List ℕ
key_of key p = key p.it.top ++ p.at ∷ []

-- a write, as it counts
abbrev pub counted_write : Write → Wrote
counted_write w = record { at = w.at; top = w.top; writer = w.writer }

-- that of a call
abbrev pub wrote_of : Call → Wrote
wrote_of c = record { at = c.at; top = c.top; writer = c.writer }

-- the write at a place, if there is one
abbrev pub wrote_at : List Write → ℕ → Option Wrote
wrote_at ws place = option_map counted_write (slice_get ws place)

-- the place of its line
abbrev pub place_in : Wrote → ℕ
place_in w = w.at

-- this top made one of these writes
abbrev pub has_wrote : List Wrote → ℕ → Bool
has_wrote ws top = list_any (λ v. v.top == top) ws

-- how many different tops made these writes
abbrev pub count_wrotes : List Wrote → ℕ
count_wrotes [] = 0
count_wrotes (w ∷ ws) = if has_wrote ws w.top then count_wrotes ws else count_wrotes ws + 1

-- who made the last of these writes; this one where there is none
abbrev pub writer_after : Uid → List Wrote → Uid
writer_after u [] = u
writer_after u (w ∷ ws) = writer_after w.writer ws
