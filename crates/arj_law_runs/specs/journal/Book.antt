-- What a journal says of actions and their ends, read line by line: a book that each line turns on.
use Rattle.std.specs.Prelude.{Bool, true, false, ◌||◌, List, [], ◌∷◌, ℕ, Option, None, Some}
use Rattle.std.specs.List.{cons_option}
use Rattle.std.specs.Option.{option_map}
use Rattle.arj_base.specs.declared.uid.Uid.{Uid}
use Rattle.arj_base.specs.Rows.{is_on}
use Rattle.arj_journal.specs.declared.body.Body.{Body}
use Rattle.arj_journal.specs.declared.body.Body.TheVariants as body
use Rattle.arj_journal.specs.declared.body.Kind.{Kind}
use Rattle.arj_journal.specs.declared.body.Kind.TheVariants as kind
use Rattle.arj_journal.specs.declared.body.Line.{Line}
use Rattle.arj_text.specs.Label.{name}
use Rattle.arj_text.specs.declared.label.Label.{Label}
use Rattle.arj_model.specs.Actions.{Act, act_in, acts_after}

-- An action accessed an object: by a call that was answered, or, where there is a store, by an include of it.
pub record Access : Type 0 where
  pub act : Act
  pub x : ℕ
  pub store : Option ℕ

-- The actions that began, the newest first; and of these whose commit was called, who committed, who was aborted, which
-- serializing actions ended, and whose records restarts found; and their accesses.
pub record Book : Type 0 where
  pub acts : List Act
  pub called : List Uid
  pub committed : List Uid
  pub aborted : List Uid
  pub ended : List Uid
  pub found : List Uid
  pub accesses : List Access

-- before the first line
abbrev pub new_book : Book
new_book = record { acts = []; called = []; committed = []; aborted = []; ended = []; found = []; accesses = [] }

-- the action of a label
abbrev pub uid_in : List Act → Label → Option Uid
uid_in acts l = option_map (λ a. a.uid) (act_in acts (name l))

-- these, with the action of a label, where there is one
abbrev pub with_named : List Act → Label → List Uid → List Uid
with_named acts l us = cons_option (uid_in acts l) us

-- these, with an access by the action of a label, where there is one
abbrev pub with_access : Option Act → ℕ → Option ℕ → List Access → List Access
with_access a x s rs = cons_option (option_map (λ b. record { act = b; x = x; store = s }) a) rs

-- the book after a line
abbrev pub turned : Book → Body → Book
turned B (body.Began l k u p) = record B { acts = acts_after B.acts (body.Began l k u p) }
turned B (body.Committing l) = record B { called = with_named B.acts l B.called }
turned B (body.Committed l) = record B { committed = with_named B.acts l B.committed }
turned B (body.Aborted l c) = record B { aborted = with_named B.acts l B.aborted }
turned B (body.Ended l) = record B { ended = with_named B.acts l B.ended }
turned B (body.Recovered n u) = record B { found = u ∷ B.found }
turned B (body.Ok l x o r) = record B { accesses = with_access (act_in B.acts (name l)) x None B.accesses }
turned B (body.Includes l x n) = record B { accesses = with_access (act_in B.acts (name l)) x (Some n) B.accesses }
turned B _ = B

-- the book after lines, from this one on
abbrev pub book_from : Book → List Line → Book
book_from B [] = B
book_from B (line ∷ lines) = book_from (turned B line.body) lines

-- the book of a journal
abbrev pub book : List Line → Book
book lines = book_from new_book lines

-- the action is decided: it committed, or its record was found
abbrev pub is_decided : Book → Uid → Bool
is_decided B u = is_on B.committed u || is_on B.found u

-- the action has an end, by a line of its own
abbrev pub is_over : Book → Uid → Bool
is_over B u = is_on B.committed u || (is_on B.aborted u || is_on B.ended u)

-- tops, constituents among them
abbrev pub is_top : Kind → Bool
is_top kind.Nested = false
is_top kind.Serial = false
is_top _ = true
