-- The actions that have prepared each entry, and what a look at these alone finds.
use Rattle.std.specs.Prelude.{◌≡◌, ◌&&◌, ℕ, Bool, false, not, List, Option, None, Some}
use Rattle.std.specs.BTreeSet.{BTreeSet}
use Rattle.std.specs.List.{list_any}
use Rattle.arj_naming.specs.Entries.{AreEntries}
use Rattle.arj_protocol.specs.Effect.{Pair}
use Rattle.arj_protocol.specs.Order.{at_uid}
use Rattle.arj_protocol.specs.Values.{state_entry}
use Rattle.arj_protocol.specs.Words.{Uid, ObjectState, entry, is_listed, is_on, uid_eq}

-- one of these states is of the entry
abbrev pub has_state : Uid → List ObjectState → Bool
has_state u states = list_any (λ (s : ObjectState). uid_eq s.uid u) states

-- and so of what an action has prepared, if anything
abbrev pub has_state_in : Uid → Option (List ObjectState) → Bool
has_state_in u None = false
has_state_in u (Some states) = has_state u states

-- the action is in the set, if there is one
abbrev pub is_on_set : Uid → Option (BTreeSet Uid) → Bool
is_on_set act None = false
is_on_set act (Some acts) = is_on acts.keys act

-- the action stands under the entry
abbrev pub stands_under : List (Uid × BTreeSet Uid) → Uid → Uid → Bool
stands_under by_entry u act = is_on_set act (at_uid u by_entry)

-- it is this action, and one of these states is of the entry
abbrev pub is_of : Uid → List ObjectState → Uid → Uid → Bool
is_of action states u act = has_state u states && uid_eq action act

-- under each entry stands exactly who has prepared it
abbrev pub AreByEntry : List (Uid × List ObjectState) → List (Uid × BTreeSet Uid) → Type 0
AreByEntry pend by_entry = (u act : Uid) → stands_under by_entry u act ≡ has_state_in u (at_uid act pend)

-- the states of a pair are of entries, and their actions stand under these
pub record AreKept (d : Pair) (under : List (Uid × BTreeSet Uid)) : Type 0 where
  pub entries : AreEntries d
  pub by_entry : AreByEntry d.pend under

-- one of these states is of the object's entry, and has the store
abbrev pub lists_store : ℕ → ℕ → List ObjectState → Bool
lists_store x store states = list_any (λ (st : ObjectState). uid_eq st.uid (entry x) && is_listed store (state_entry st).stores) states

-- and so of what an action has prepared, if anything
abbrev pub lists_store_in : ℕ → ℕ → Option (List ObjectState) → Bool
lists_store_in x store None = false
lists_store_in x store (Some states) = lists_store x store states

-- another of these actions has prepared the object's entry with the store
abbrev pub any_lists : ℕ → Uid → ℕ → List (Uid × List ObjectState) → List Uid → Bool
any_lists x top store pend acts = list_any (λ act. not (uid_eq act top) && lists_store_in x store (at_uid act pend)) acts
