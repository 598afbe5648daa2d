-- Which actions use an object, an index of the objects by the actions that use them, and walks along it.
use Rattle.std.specs.Prelude.{◌≡◌, ℕ, Bool, true, false, ◌||◌, if◌then◌else◌, List, [], ◌∷◌, ◌++◌, Option, None, Some}
use Rattle.std.specs.BTreeMap.{BTreeMap, get, is_at}
use Rattle.std.specs.BTreeSet.{contains}
use Rattle.std.specs.List.{list_any, AllByRecursion}
use Rattle.std.specs.Ordering.{nat_cmp}
use Rattle.arj_base.specs.declared.mode.End.{End}
use Rattle.arj_base.specs.declared.state.ObjectState.{ObjectState}
use Rattle.arj_base.specs.declared.uid.Uid.{Uid}
use Rattle.arj_base.specs.Rows.{is_on}
use Rattle.arj_base.specs.Uid.{uid_eq, nobody}
use Rattle.arj_lock.specs.Held.{set_order}
use Rattle.arj_protocol.specs.Copy.{Copy, Over, changed_state, end_copy, holds, is_top_in}
use Rattle.arj_protocol.specs.Order.{at_number, each}
use Rattle.arj_manager.specs.Manager.{Copies}
use Rattle.arj_manager.specs.declared.index.Known.{Known}
use Rattle.arj_manager.specs.declared.walk.Question.{Question}
use Rattle.arj_manager.specs.declared.walk.Question.TheVariants as question

-- the action is on the path of a lock or of an overlay; nobody is taken to be so everywhere
abbrev pub touches : Uid → Copy → Bool
touches u c = uid_eq nobody u || (holds u c.rows || list_any (λ (e : Over). is_on e.holder u) c.stack)

-- what an object answers about an action
abbrev pub answer_on : Question → Uid → Copy → Bool
answer_on question.Holds u c = holds u c.rows
answer_on question.Tops u c = is_top_in u c.rows
answer_on question.Uses u c = touches u c

-- one of these objects answers yes
abbrev pub any_answers : Question → Uid → Copies → Bool
any_answers q u m = list_any (λ (e : ℕ × Copy). answer_on q u e.1) m

-- ---- the index

-- the object is among those of an action that is known
abbrev pub is_known : ℕ → Option Known → Bool
is_known x None = false
is_known x (Some known) = contains nat_cmp known.objects x

-- the objects of an action, none where it isn't known
abbrev pub objects_of : Option Known → List ℕ
objects_of None = []
objects_of (Some known) = known.objects.keys

-- the index has the object under the action
abbrev pub uses : BTreeMap Uid Known → Uid → ℕ → Bool
uses index u x = is_known x (get set_order index u)

-- the index has each object under each action that is on a path there
abbrev pub IsIndexed : BTreeMap Uid Known → Copies → Type 0
IsIndexed index m = AllByRecursion (λ (e : ℕ × Copy). (u : Uid) → touches u e.1 ≡ true → uses index u e.0 ≡ true) m

-- ---- walks

-- the object, if it is there
abbrev pub found_at : ℕ → Option Copy → Copies
found_at x None = []
found_at x (Some c) = (x, c) ∷ []

-- those of these objects that are there
abbrev pub picked : List ℕ → Copies → Copies
picked [] m = []
picked (x ∷ xs) m = found_at x (at_number x m) ++ picked xs m

-- one object after an end
abbrev pub ended_at : Uid → End → ℕ → Copies → Copies
ended_at u e x m = each (λ y c. if is_at (nat_cmp y) x then end_copy u e c else c) m

-- these objects after an end, one after another
abbrev pub ended_all : Uid → End → List ℕ → Copies → Copies
ended_all u e [] m = m
ended_all u e (x ∷ xs) m = ended_all u e xs (ended_at u e x m)

-- the state that a top made of an object that is there
abbrev pub changed_at : Uid → ℕ → Option Copy → Option ObjectState
changed_at top x None = None
changed_at top x (Some c) = changed_state top x c
