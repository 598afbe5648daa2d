-- What is prepared of an entry, as a restart finds it.
use Rattle.std.specs.Prelude.{◌≡◌, List, Option, find, option_map}
use Rattle.arj_naming.specs.declared.pending.Pending.{Pending}
use Rattle.arj_protocol.specs.Confirm.{pending_of}
use Rattle.arj_protocol.specs.Order.{at_uid}
use Rattle.arj_protocol.specs.Values.{state_entry}
use Rattle.arj_protocol.specs.Words.{Uid, ObjectState, uid_eq}

-- a prepared state with its action
abbrev pub prepared_as : Uid × ObjectState → Pending
prepared_as p = record { action = p.0; stores = (state_entry p.1).stores }

-- the entry's state among those that an action has prepared
abbrev pub prepared_in : Uid → List ObjectState → Uid → Option Pending
prepared_in act states u = option_map (λ s. prepared_as (act, s)) (find (λ (s : ObjectState). uid_eq s.uid u) states)

-- of each entry what is prepared is here
abbrev pub ArePending : List (Uid × List ObjectState) → List (Uid × Pending) → Type 0
ArePending pend entries = (u : Uid) → at_uid u entries ≡ option_map prepared_as (pending_of u pend)
