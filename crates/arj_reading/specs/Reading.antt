-- What the checker keeps of the lines that it has read.
use Rattle.std.specs.Prelude.{◌≡◌, ℕ, ◌+◌, List, [], ◌∷◌, ◌++◌, length, map, Bool, true, false, ◌==◌, ◌||◌, nat_lt, if◌then◌else◌, Option}
use Rattle.std.specs.Prelude.{Some, None, is_some}
use Rattle.std.specs.BTreeMap.{get}
use Rattle.std.specs.List.{list_any}
use Rattle.std.specs.Option.{option_map}
use Rattle.std.specs.Str.{bytes_eq}
use Rattle.std.specs.Ordering.{nat_cmp}
use Rattle.arj_base.specs.Order.{uid_order}
use Rattle.arj_base.specs.Uid.{uid_eq}
use Rattle.arj_base.specs.declared.uid.Uid.{Uid}
use Rattle.arj_journal.specs.declared.body.Body.{Body}
use Rattle.arj_journal.specs.declared.body.Body.TheVariants as body
use Rattle.arj_journal.specs.declared.body.Kind.{Kind}
use Rattle.arj_journal.specs.declared.body.Kind.TheVariants as kind
use Rattle.arj_journal.specs.declared.body.Line.{Line}
use Rattle.arj_text.specs.declared.label.Label.{Label}
use Rattle.arj_text.specs.Label.{name, label_cmp}
use Rattle.arj_model.specs.Actions.{Act, Placed, acts, id_in, path, path_in, upwards, top_in, root_in, read, committed, ended, recovered}
use Rattle.arj_model.specs.Calls.{root_or}
use Rattle.arj_reading.specs.declared.action.Action.{Action}
use Rattle.arj_reading.specs.declared.mark.Mark.{Mark}
use Rattle.arj_reading.specs.declared.action.Next.{Next}
use Rattle.arj_reading.specs.declared.action.TopAction.{TopAction}
use Rattle.arj_reading.specs.declared.reading.Reading.{Reading}
use Rattle.arj_reading.specs.Readable.{act_by, called}

-- the place of the first item of this number
abbrev pub first_place : List (Placed ℕ) → ℕ → Option ℕ
first_place [] id = None
first_place (e ∷ es) id = if e.it == id then Some e.at else first_place es id

-- the number of the action that stands before one of this kind and parent on its path
abbrev pub above_in : List Act → Kind → Option (List ℕ) → Option ℕ
above_in us k None = None
above_in us kind.Independent (Some p) = None
above_in us k (Some p) = id_in us p

-- a count up to 17
abbrev pub capped : ℕ → ℕ
capped n = if nat_lt n 17 then n else 17

-- a top as it is kept
abbrev pub top_action : Act → TopAction
top_action t = record { number = t.id; uid = t.uid }

-- an action with the number of the one above it, and its path
abbrev pub action_of : Act → Option ℕ → List Act → Action
action_of a above p =
    record {
      kind = a.kind;
      uid = a.uid;
      above = above;
      top = option_map top_action (top_in p);
      root = root_or a.id (root_in p);
      depth =
          capped (length p);
    }

-- the actions, by their numbers
abbrev pub actions_of : List Act → List Action
actions_of [] = []
actions_of (a ∷ older) = actions_of older ++ action_of a (above_in older a.kind a.parent) (path_in older a) ∷ []

-- the number of the action that has answered a call in a line
abbrev pub said_at : List Act → Body → Option ℕ
said_at acts (body.Ok l x op answer) = id_in acts (name l)
said_at acts _ = None

-- a mark, as an item with its place
abbrev pub placed_of : Mark → Placed ℕ
placed_of m = record { at = m.at; it = m.action }

-- This is what is kept of these lines.
pub record HasRead (lines : List Line) (r : Reading) : Type 0 where
  pub labels : (q : Label) → get label_cmp r.labels q ≡ id_in (acts lines) (name q)
  pub uids : (u : Uid) → get uid_order r.uids u ≡ option_map (λ a. a.id) (act_by (acts lines) u)
  pub list : r.list.items ≡ actions_of (acts lines)
  pub called_at : (i : ℕ) → get nat_cmp r.called i ≡ first_place (called lines) i
  pub ended_at : (i : ℕ) → get nat_cmp r.ended i ≡ first_place (ended lines) i
  pub committed_at : (i : ℕ) → get nat_cmp r.committed i ≡ first_place (committed lines) i
  pub found : (u : Uid) → is_some (get uid_order r.found u) ≡ list_any (λ p. uid_eq p.it u) (recovered lines)
  pub said : map placed_of r.said.items ≡ read said_at [] 0 lines
  pub calls : map placed_of r.calls.items ≡ called lines

-- the first of two
abbrev pub or_some : Option ℕ → Option ℕ → Option ℕ
or_some (Some n) other = Some n
or_some None other = other

-- the place of the first item of number i, where one of this number stands at the end, at this place
abbrev pub noted : Option ℕ → ℕ → Option ℕ → ℕ → Option ℕ
noted None at first i = first
noted (Some n) at first i = or_some first (if n == i then Some at else None)

-- the marks with one more, where there is one
abbrev pub marked : Option ℕ → ℕ → List Mark → List Mark
marked None at marks = marks
marked (Some n) at marks = marks ++ (record { at = at; action = n }) ∷ []

-- whether a record of Uid u was found, where one of this Uid is found besides
abbrev pub found_with : Option Uid → Bool → Uid → Bool
found_with None before u = before
found_with (Some w) before u = before || uid_eq w u

-- an action that begins, as it is kept
abbrev pub next_of : List Act → Body → Option Next
next_of us (body.Began l k u p) =
    Some (record {
      label = l;
      action =
          action_of (record {
            id = length us;
            label = name l;
            kind = k;
            uid = u;
            parent =
                option_map name p;
          }) (above_in us k (option_map name p)) (upwards (option_map name p) k (path us) ++ (record {
            id = length us;
            label =
                name l;
            kind = k;
            uid = u;
            parent = option_map name p;
          }) ∷ []);
    })
next_of us _ = None

-- the number of the action with a label, where one more begins
abbrev pub labelled_with : Option Next → ℕ → Option ℕ → Label → Option ℕ
labelled_with None number before q = before
labelled_with (Some n) number before q = if bytes_eq (name n.label) (name q) then Some number else before

-- the number of the action with a Uid, where one more begins
abbrev pub known_with : Option Next → ℕ → Option ℕ → Uid → Option ℕ
known_with None number before u = before
known_with (Some n) number before u = if uid_eq n.action.uid u then Some number else before

-- the actions with one more, where there is one
abbrev pub listed_with : Option Next → List Action → List Action
listed_with None list = list
listed_with (Some n) list = list ++ n.action ∷ []
