-- The stated round, by the header, the events and the lines alone.
use Rattle.std.specs.Prelude.{◌≡◌, ◌⊎◌, ℕ, List, [], ◌∷◌, ◌++◌, length, map, Bool, true, false, ◌||◌, not}
use Rattle.std.specs.List.{list_all, list_any}
use Rattle.std.specs.Str.{bytes_eq}
use Rattle.arj_journal.specs.declared.body.Body.{Body}
use Rattle.arj_journal.specs.declared.body.Line.{Line}
use Rattle.arj_journal.specs.declared.event.Event.{Event}
use Rattle.arj_journal.specs.declared.event.Event.TheVariants as event
use Rattle.arj_journal.specs.declared.header.Header.{Header}
use Rattle.arj_text.specs.Label.{name}
use Rattle.arj_model.specs.Actions.{acts}
use Rattle.arj_model.specs.Follows.{AreEnding}
use Rattle.arj_model.specs.Past.{Past, at_start, next}
use Rattle.arj_model.specs.Refusals.{is_waiting}
use Rattle.arj_start.specs.Start.{Start}
use Rattle.arj_law_cause.specs.rounds.Quiesces.{IsWhole, SaysQuiet, nobody_waits}

-- an event that was run, with the lines that it wrote
pub record Did : Type 0 where
  pub event : Event
  pub bodies : List Body

-- the run behind these events
abbrev pub behind : Past → List Did → Past
behind past [] = past
behind past (d ∷ ds) = behind (next past d.event d.bodies) ds

-- The journal is what these events wrote, of a run that began with this, and at most one line outside them.
pub record WasWritten (st : Start) (es : List Event) (journal : List Line) (did : List Did) : Type 0 where
  pub events : map (λ (d : Did). d.event) did ≡ es
  pub ending : List Line
  pub lines : journal ≡ (let past = behind (at_start st) did in past.lines) ++ ending
  pub last : AreEnding (length es) ending

-- the event gives up what some action waits for
abbrev pub is_giveup : Event → Bool
is_giveup (event.GiveUp l) = true
is_giveup _ = false

-- it gives up what the action with this label waits for
abbrev pub gives_up : List ℕ → Event → Bool
gives_up l (event.GiveUp m) = bytes_eq (name m) l
gives_up l _ = false

-- each action that waits then is given up by one of these events
abbrev pub are_given_up : Past → List Did → Bool
are_given_up past did = list_all (λ a. not (is_waiting past a.label) || list_any (λ (d : Did). gives_up a.label d.event) did) (acts past.lines)

-- A round from a run so far: a quiesce that nothing cuts short, giveups of each action that waits then, or any behind which nobody waits,
-- and a second such quiesce.
pub record IsRound (hd : Header) (past : Past) (first : Did) (giveups : List Did) (second : Did) : Type 0 where
  pub first_whole : IsWhole hd past first.event first.bodies
  pub only : list_all (λ (d : Did). is_giveup d.event) giveups ≡ true
  pub who : (are_given_up (next past first.event first.bodies) giveups ≡ true)
      ⊎ (nobody_waits (behind (next past first.event first.bodies) giveups) ≡ true)
  pub second_whole : IsWhole hd (behind (next past first.event first.bodies) giveups) second.event second.bodies

-- Wherever events of the run are a round, the last line of its last quiesce says that all is quiet.
pub record EndsRounds (hd : Header) (st : Start) (es : List Event) (journal : List Line) : Type 0 where
  pub did : List Did
  pub written : WasWritten st es journal did
  pub rounds : (before : List Did) (first : Did) (giveups : List Did) (second : Did) (rest : List Did) →
      did ≡ before ++ (first ∷ (giveups ++ (second ∷ rest))) →
      IsRound hd (behind (at_start st) before) first giveups second → SaysQuiet second.bodies
