-- How the calls and includes of a coordinator go on as it takes something, and which lines answer them.
use Rattle.std.specs.Prelude.{⊤, ◌≡◌, ◌≢◌, ◌⊎◌, ◌≤◌, ℕ, Bool, true, false, List, [], ◌∷◌, ◌++◌, Option, Some, None}
use Rattle.std.specs.List.{AllByRecursion}
use Rattle.arj_protocol.specs.Words.{Answer, Asked, Body, Message, Uid}
use Rattle.arj_protocol.specs.Words.body
use Rattle.arj_protocol.specs.Words.invoked
use Rattle.arj_protocol.specs.Ask.{Reply, answers}
use Rattle.arj_protocol.specs.Asking.{end_line, waits_for_call}
use Rattle.arj_protocol.specs.Call.{Answered, AtInvoke, CallEnd, Goal, Included, Known, Lost, Steps, is_include}
use Rattle.arj_protocol.specs.Coord.{Calling, Coord, Doing, Now, doing_of}
use Rattle.arj_protocol.specs.Effect.{Effect, Say}
use Rattle.arj_protocol.specs.Step.{Input}
use Rattle.arj_protocol.specs.Step as input

-- ---- lines that answer a call or an include

-- the line answers one
abbrev pub is_reply : Body → Bool
is_reply (body.Ok l x o a) = true
is_reply (body.Includes l x n) = true
is_reply (body.Conflict l u m n) = true
is_reply (body.Lost l n) = true
is_reply (body.Changed l n d) = true
is_reply b = false

-- an effect says no such line
abbrev pub IsDumb : Effect → Type 0
IsDumb (Say b) = is_reply b ≡ false
IsDumb e = ⊤

-- nor do any of these
abbrev pub AreDumb : List Effect → Type 0
AreDumb outs = AllByRecursion IsDumb outs

-- they only say lines, and none of these
abbrev pub IsLined : Effect → Type 0
IsLined (Say b) = is_reply b ≡ false
IsLined e = ⊥

abbrev pub AreLined : List Effect → Type 0
AreLined outs = AllByRecursion IsLined outs

-- the line says that an action gave up a node
abbrev pub is_giveup : Body → Bool
is_giveup (body.GaveUp l n) = true
is_giveup b = false

-- they only say such lines
abbrev pub SaysGiveup : Effect → Type 0
SaysGiveup (Say b) = is_giveup b ≡ true
SaysGiveup e = ⊥

abbrev pub AreGiveups : List Effect → Type 0
AreGiveups outs = AllByRecursion SaysGiveup outs

-- ---- what waits

-- the call or include that is waited for
abbrev pub calling : Now → Option Steps
calling (Calling s) = Some s
calling n = None

-- one call or include in two of its steps
pub record IsOneCall (s t : Steps) : Type 0 where
  pub path : t.path ≡ s.path
  pub object : t.x ≡ s.x
  pub goal : t.goal ≡ s.goal

-- an action goes on to wait for the same, or for no call or include, as before
pub record IsLike (d x : Doing) : Type 0 where
  pub label : x.label ≡ d.label
  pub idle : calling d.now ≡ None → calling x.now ≡ None
  pub busy : (s : Steps) → d.now ≡ Calling s → (t : Steps) × (x.now ≡ Calling t) × IsOneCall s t

-- so an action of a coordinator did
abbrev pub CameFrom : Coord → Uid → Doing → Type 0
CameFrom c u x = (d : Doing) × (doing_of u c ≡ Some d) × IsLike d x

-- One coordinator goes on to another, with these effects: no call or include is answered; or one is, by the last effect, behind lines.
pub data Turns (c : Coord) (outs : List Effect) (e : Coord) : Type 0 where
  Rests : AreDumb outs → ((u : Uid) (x : Doing) → doing_of u e ≡ Some x → CameFrom c u x) → Turns c outs e
  Ends : (u : Uid) (d : Doing) (s : Steps) (g : CallEnd) (front : List Effect) → doing_of u c ≡ Some d → d.now ≡ Calling s →
      AreLined front →
      outs ≡ front ++ Say (end_line s.x s.goal g d.label) ∷ [] →
      ((w : Uid) (x : Doing) → doing_of w e ≡ Some x → ((w ≡ u) × (x.label ≡ d.label) × (calling x.now ≡ None)) ⊎
      ((w ≢ u) × CameFrom c w x))
      → Turns c outs e

-- only an include ends with the state that was loaded
abbrev pub FitsGoal : Goal → CallEnd → Type 0
FitsGoal g (Included st) = is_include g ≡ true
FitsGoal g e = ⊤

-- why a call or an include ends: of this action, in these steps, by this end
abbrev pub Why : Type 1
Why = Uid → Steps → CallEnd → Type 0

-- it was given up
abbrev pub IsGivenUp : Why
IsGivenUp u s (Lost n sent) = ⊤
IsGivenUp u s g = ⊥

-- It took this answer of this node, for which it waited; where that is a call's own answer, it is what an Invoke was answered.
pub record IsHeardBy (from : ℕ) (a : Asked) (r : Reply) (u : Uid) (s : Steps) (g : CallEnd) : Type 0 where
  pub act : u ≡ a.act
  pub waits : waits_for_call from a r s ≡ true
  pub fits : FitsGoal s.goal g
  pub its : (x : Answer) → g ≡ Answered x → (k : Known) × (i : ℕ) × (s.at ≡ AtInvoke k i) × (r ≡ Reply.Invoked (invoked.Answered x))

-- it took what a message says
abbrev pub IsHeardIn : ℕ → Message → Why
IsHeardIn from m u s g = (a : Asked) × (r : Reply) × (answers m ≡ Some (a, r)) × IsHeardBy from a r u s g

-- So it goes on, where what is answered is for a reason, behind giveups.
pub data TurnsSo (W : Why) (c : Coord) (outs : List Effect) (e : Coord) : Type 0 where
  RestsSo : AreDumb outs → ((u : Uid) (x : Doing) → doing_of u e ≡ Some x → CameFrom c u x) → TurnsSo W c outs e
  EndsSo : (u : Uid) (d : Doing) (s : Steps) (g : CallEnd) (front : List Effect) → doing_of u c ≡ Some d → d.now ≡ Calling s →
      AreGiveups front → W u s g →
      outs ≡ front ++ Say (end_line s.x s.goal g d.label) ∷ [] →
      ((w : Uid) (x : Doing) → doing_of w e ≡ Some x → ((w ≡ u) × (x.label ≡ d.label) × (calling x.now ≡ None)) ⊎
      ((w ≢ u) × CameFrom c w x))
      → TurnsSo W c outs e

-- the numbers of requests don't fall
abbrev pub NumbersRise : Coord → Coord → Type 0
NumbersRise c e = (u : Uid) (d x : Doing) → doing_of u c ≡ Some d → doing_of u e ≡ Some x → d.req ≤ x.req

-- the inputs but a call, an include, and the beginning of an action
abbrev pub is_else : Input → Bool
is_else (input.Begin l how parent) = false
is_else (input.Call l x o) = false
is_else (input.Include l x s) = false
is_else i = true
