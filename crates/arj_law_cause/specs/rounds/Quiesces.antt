-- What a quiesce answers and leaves, by the header, the events and the lines alone.
use Rattle.std.specs.Prelude.{◌≡◌, ◌⊎◌, ℕ, List, [], ◌∷◌, ◌++◌, Bool, true, false, ◌==◌, ◌&&◌, not, Option, Some}
use Rattle.std.specs.List.{list_all, list_any}
use Rattle.std.specs.Str.{bytes_eq}
use Rattle.arj_base.specs.declared.binding.Binding.{Binding}
use Rattle.arj_journal.specs.declared.body.Body.{Body}
use Rattle.arj_journal.specs.declared.body.Body.TheVariants as body
use Rattle.arj_journal.specs.declared.body.Line.{Line}
use Rattle.arj_journal.specs.declared.event.Event.{Event}
use Rattle.arj_journal.specs.declared.event.Event.TheVariants as event
use Rattle.arj_journal.specs.declared.header.Header.{Header}
use Rattle.arj_text.specs.Label.{name}
use Rattle.arj_model.specs.Actions.{acts}
use Rattle.arj_model.specs.CauseCopies.{is_older}
use Rattle.arj_model.specs.CauseNodes.{is_quiesce}
use Rattle.arj_model.specs.CauseSpans.{nodes_of}
use Rattle.arj_model.specs.Own.{is_refusal_of_commit}
use Rattle.arj_model.specs.Past.{Past, next}
use Rattle.arj_model.specs.Refusals.{is_answer_to, is_committing, is_down, is_waiting, open_frames, waits_for}
use Rattle.arj_start.specs.Start.{Start}
use Rattle.arj_law_cause.specs.waits.lost.Lost.{is_lost}

-- ---- quiesces that nothing cuts short

-- every node of the header is up behind these lines
abbrev pub are_up : Header → Start → List Line → Bool
are_up hd st lines = list_all (λ n. not (is_down st lines n)) (nodes_of hd)

-- the line says that a node halted, or that a limit was met
abbrev pub cuts_short : Body → Bool
cuts_short (body.Halted n) = true
cuts_short (body.Limit what) = true
cuts_short _ = false

-- The event is a quiesce, as it begins every node is up by the lines before it, and none of its own says that a node halted or that a limit
-- was met.
pub record IsWhole (hd : Header) (past : Past) (e : Event) (bodies : List Body) : Type 0 where
  pub quiesces : is_quiesce e ≡ true
  pub up : are_up hd past.start past.lines ≡ true
  pub whole : list_any cuts_short bodies ≡ false

-- ---- calls that are overtaken

-- the line says that a binding of this object was made, and that is later than this one
abbrev pub makes_later : ℕ → Binding → Body → Bool
makes_later x b (body.Bound y c n) = (y == x) && is_older b c
makes_later x b _ = false

-- the line says that a binding of this object was made, and one of these lines that a later one was
abbrev pub is_outdone : ℕ → List Line → Body → Bool
is_outdone x lines (body.Bound y b n) = (y == x) && list_any (λ line. makes_later x b line.body) lines
is_outdone x lines _ = false

-- two bindings of the object were made, of which one is later
abbrev pub is_bound_twice : List Line → ℕ → Bool
is_bound_twice lines x = list_any (λ line. is_outdone x lines line.body) lines

-- What waits is a call that may be overtaken: a request of it under one binding may come where a later one is known, and is void there.
abbrev pub is_overtaken : List Line → Option Event → Bool
is_overtaken lines (Some (event.Call l x op)) = is_bound_twice lines x
is_overtaken lines _ = false

-- ---- who waits, and what answers

-- no action waits
abbrev pub nobody_waits : Past → Bool
nobody_waits past = list_all (λ a. not (is_waiting past a.label)) (acts past.lines)

-- the line answers a call or an include of the action with this label, and doesn't lose it
abbrev pub answers_call : List ℕ → Body → Bool
answers_call l b = is_answer_to l b && not (is_lost b)

-- the line ends the commit of the action with this label: it committed, or an answer refused that
abbrev pub answers_commit : List ℕ → Body → Bool
answers_commit l (body.Committed m) = bytes_eq (name m) l
answers_commit l (body.Aborted m c) = bytes_eq (name m) l && is_refusal_of_commit c
answers_commit l _ = false

-- the line gives something up: it says that a call or an include was lost, that a node was given up, or that an action was aborted as the
-- script asks, as it is doomed, or as its commit was given up
abbrev pub is_given_up : Body → Bool
is_given_up (body.Lost l n) = true
is_given_up (body.GaveUp l n) = true
is_given_up (body.Aborted l c) = not (is_refusal_of_commit c)
is_given_up _ = false

-- the last of these lines says that all is quiet
abbrev pub SaysQuiet : List Body → Type 0
SaysQuiet bodies = (front : List Body) × (bodies ≡ front ++ body.Quiet true ∷ [])

-- ---- what such a quiesce does

-- Whoever waited for a call or an include waits for it still, and that is overtaken, or a line answered it, not as lost. Whoever waited for
-- its commit was answered. So whoever waits at its end waits for a call that is overtaken; and no line gives anything up. And where nobody
-- waited as it began, and no frame was open, its last line says that all is quiet.
pub record Answers (past : Past) (e : Event) (bodies : List Body) : Type 0 where
  pub calls : (l : List ℕ) (asked : Event) → waits_for past.accepted past.lines l ≡ Some asked →
      ((let after = next past e bodies in waits_for after.accepted after.lines l ≡ Some asked)
      × (let after = next past e bodies in is_overtaken after.lines (Some asked) ≡ true))
      ⊎ (list_any (answers_call l) bodies ≡ true)
  pub commits : (l : List ℕ) → is_committing past.lines l ≡ true → list_any (answers_commit l) bodies ≡ true
  pub leaves : (l : List ℕ) → let after = next past e bodies in is_waiting after l ≡ true →
      is_overtaken after.lines (waits_for after.accepted after.lines l) ≡ true
  pub nothing : list_any is_given_up bodies ≡ false
  pub calm : nobody_waits past ≡ true → open_frames past.lines ≡ [] → SaysQuiet bodies

-- so it is of each quiesce that nothing cuts short
abbrev pub QuiescesStep : Header → Past → Event → List Body → Type 0
QuiescesStep hd past e bodies = IsWhole hd past e bodies → Answers past e bodies
