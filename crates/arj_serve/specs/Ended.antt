-- What is done at the end of an action, part by part; and what a store does at a Prepare, by its answer.
use Rattle.std.specs.Prelude.{◌≡◌, ℕ, [], ◌∷◌, ◌++◌, List, Option, Some, None, option_map, ⊤}
use Rattle.arj_journal.specs.declared.body.Line.{Line}
use Rattle.arj_msg.specs.InForm.{IsObject}
use Rattle.arj_msg.specs.declared.message.Head.{Head}
use Rattle.arj_msg.specs.declared.message.Prepared.{Prepared}
use Rattle.arj_msg.specs.declared.message.Told.{Told}
use Rattle.arj_naming.specs.Calls.{told_by}
use Rattle.arj_naming.specs.Said.{said}
use Rattle.arj_protocol.specs.Ask.{asked_by}
use Rattle.arj_protocol.specs.Effect as protocol
use Rattle.arj_protocol.specs.Effect.{Did, Disk, Effect, Pair, Say, Do, Look, Prepare, did_nothing}
use Rattle.arj_protocol.specs.Naming.{Naming}
use Rattle.arj_protocol.specs.Node.{end_states, store_told}
use Rattle.arj_protocol.specs.Server as server
use Rattle.arj_protocol.specs.Words.{Uid, End, Message, ObjectState, PreparedReply}
use Rattle.arj_protocol.specs.Words.body
use Rattle.arj_protocol.specs.Words.message
use Rattle.arj_protocol.specs.Words.prepared
use Rattle.arj_protocol.specs.Words.role
use Rattle.arj_serve.specs.Did.{AreLocal, Call, IsCut, SamePlace, disk_after}
use Rattle.arj_serve.specs.Kept.{Kept, StandsOn, part_of}
use Rattle.arj_server.specs.Lines as lines
use Rattle.arj_store.specs.declared.answer.Prep as store
use Rattle.arj_store.specs.declared.answer.Prep.TheVariants as prep
use Rattle.arj_store.specs.declared.store.ObjectStore.{Ghosts}

-- ---- a Prepare

-- the answer to a Prepare
abbrev pub prepared_to : Head → PreparedReply → Prepared
prepared_to h r = record { asked = asked_by h; reply = r }

-- what is done at an answer of the store
abbrev pub prep_done : ℕ → Uid → List ObjectState → protocol.Prep → List Effect
prep_done n act states protocol.Ready = Do Look ∷ Do (Prepare role.Store act states) ∷ Say (body.Prepared n act role.Store) ∷ []
prep_done n act states _ = Do Look ∷ []

-- and what is answered
abbrev pub prep_reply : Head → protocol.Prep → Option Message
prep_reply h protocol.Ready = Some (message.Prepared (prepared_to h prepared.Yes))
prep_reply h (protocol.Already u) = None
prep_reply h (protocol.Old u v) = Some (message.Prepared (prepared_to h (prepared.Old u.num v)))
prep_reply h (protocol.InDoubt u holder) = Some (message.Prepared (prepared_to h (prepared.InDoubt u.num holder)))

-- an object that a store names in its answer is one
abbrev pub IsNumbered : store.Prep → Type 0
IsNumbered prep.Prepared = ⊤
IsNumbered (prep.Already u act) = IsObject u.num
IsNumbered (prep.Old u held) = IsObject u.num
IsNumbered (prep.InDoubt u holder) = IsObject u.num

-- ---- an end

-- These effects were done: their lines stand behind those before, and the services stand on what their work leaves.
pub record IsDone {O : Type 0} (o : Ghosts O) (outs : List Effect) (call : Call O) (d : Disk) : Type 0 where
  pub local : AreLocal outs
  pub lines : call.after ≡ call.before ++ said outs
  pub stands : StandsOn o call.new call.left (disk_after outs d)

-- what the action had prepared ended, and memory is as before
abbrev pub EndsStates : {O : Type 0} → Ghosts O → Uid → End → Call O → Type 0
EndsStates o act end call = (d : Disk) → StandsOn o call.old call.file d → IsDone o (store_told call.old.number act end d.store) call d

-- a stop fell into it
abbrev pub EndsInPart : {O : Type 0} → Ghosts O → Uid → End → Call O → Type 0
EndsInPart o act end call = (d : Disk) → StandsOn o call.old call.file d → IsCut o (store_told call.old.number act end d.store) call d

-- what the action had prepared ended, where it had
abbrev pub EndsAll : {O : Type 0} → Ghosts O → Uid → End → Call O → Type 0
EndsAll o act end call = (d : Disk) → StandsOn o call.old call.file d → IsDone o (end_states call.old.number act end) call d

-- so far as a stop let it
abbrev pub EndsAllInPart : {O : Type 0} → Ghosts O → Uid → End → Call O → Type 0
EndsAllInPart o act end call = (d : Disk) → StandsOn o call.old call.file d → IsCut o (end_states call.old.number act end) call d

-- what naming does, where the node has it
abbrev pub names_told : Told → Pair → Option Naming → Did (Option Naming)
names_told m d None = did_nothing None
names_told m d (Some n) = let t = told_by m d n in record { part = Some t.part; outs = t.outs }

-- A call did what naming does at an end, and no other part changed.
pub record NamesEnd {O : Type 0} (o : Ghosts O) (m : Told) (call : Call O) (d : Disk) : Type 0 where
  pub place : SamePlace call
  pub server : call.new.server ≡ call.old.server
  pub part : option_map part_of call.new.naming ≡ (names_told m d.names (option_map part_of call.old.naming)).part
  pub done : IsDone o (names_told m d.names (option_map part_of call.old.naming)).outs call d

-- so it is over each disk that the files stand for
abbrev pub EndsNames : {O : Type 0} → Ghosts O → Told → Call O → Type 0
EndsNames o m call = (d : Disk) → StandsOn o call.old call.file d → NamesEnd o m call d

-- so far as a stop let it
abbrev pub EndsNamesInPart : {O : Type 0} → Ghosts O → Told → Call O → Type 0
EndsNamesInPart o m call =
    (d : Disk) → StandsOn o call.old call.file d → IsCut o (names_told m d.names (option_map part_of call.old.naming)).outs call d

-- the server applied the ends, and no other part changed
pub record EndsServer {O : Type 0} (m : Told) (old new : Kept O) (before after : List Line) : Type 0 where
  pub part : new ≡ record old { server = (server.told old.number m.ends old.server).part }
  pub lines : after ≡ before ++ lines.said (server.told old.number m.ends old.server).outs

-- The effects of an end of this action, the last of the message: of the store, of naming, and of the server.
abbrev pub told_effects : {O : Type 0} → Told → Uid → End → Call O → Disk → List Effect
told_effects m act end call d =
    store_told call.old.number act end d.store ++ (names_told m d.names (option_map part_of call.old.naming)).outs ++ (server.told call.old.number m.ends call.old.server).outs

-- A call did what all parts do at an end.
pub record PartsEnd {O : Type 0} (o : Ghosts O) (m : Told) (act : Uid) (end : End) (call : Call O) (d : Disk) : Type 0 where
  pub place : SamePlace call
  pub server : call.new.server ≡ (server.told call.old.number m.ends call.old.server).part
  pub naming : option_map part_of call.new.naming ≡ (names_told m d.names (option_map part_of call.old.naming)).part
  pub done : IsDone o (told_effects m act end call d) call d

-- so it is over each disk that the files stand for
abbrev pub EndsParts : {O : Type 0} → Ghosts O → Told → Uid → End → Call O → Type 0
EndsParts o m act end call = (d : Disk) → StandsOn o call.old call.file d → PartsEnd o m act end call d

-- so far as a stop let it
abbrev pub EndsPartsInPart : {O : Type 0} → Ghosts O → Told → Uid → End → Call O → Type 0
EndsPartsInPart o m act end call = (d : Disk) → StandsOn o call.old call.file d → IsCut o (told_effects m act end call d) call d
