-- Messages to the services of a node.
use Rattle.std.specs.Prelude.{ℕ, List, [], ◌∷◌, map, if◌then◌else◌, Option, Some, None}
use Rattle.arj_protocol.specs.Coord.{Coord}
use Rattle.arj_protocol.specs.Effect.{Disk}
use Rattle.arj_protocol.specs.Node.{Handled, Void, Parts, handle, serve}
use Rattle.arj_protocol.specs.Words.{Ask, Head, Message, Uid, asks}
use Rattle.arj_protocol.specs.Words.message
use Rattle.arj_msg.specs.declared.message.Told.{Told}
use Rattle.arj_serve.specs.Did.{Call, IsCut, IsVoid, Takes, outs_of}
use Rattle.arj_serve.specs.Kept.{StandsOn, parts_with}
use Rattle.arj_store.specs.declared.store.ObjectStore.{Ghosts}

-- a request is served, and what is none is void
abbrev pub asked_by : ℕ → Disk → Parts → ℕ → Option (Head × Ask) → Handled
asked_by n d t from None = Void []
asked_by n d t from (Some a) = serve n d t from a.0 a.1

-- what the protocol's node makes of a request from a node
abbrev pub asked : ℕ → Disk → Parts → ℕ → Message → Handled
asked n d t from m = asked_by n d t from (asks m)

-- A request was served: without an answer it is void, else the answer goes to who asked.
abbrev pub IsServed : {O : Type 0} → Ghosts O → ℕ → Handled → Coord → Call O → Disk → Option Message → Type 0
IsServed o from h c call d None = IsVoid o h call d
IsServed o from h c call d (Some m) = Takes o h c call d ((from, m) ∷ [])

-- A request was served as the protocol has it, whoever asks, and with any coordinator, on what the disk says.
abbrev pub Serves : {O : Type 0} → Ghosts O → Message → Call O → Option Message → Type 0
Serves o m call answer =
    (d : Disk) → StandsOn o call.old call.file d → (from : ℕ) (c : Coord) →
    IsServed o from (asked call.old.number d (parts_with call.old c) from m) c call d answer

-- A request was stopped.
abbrev pub ServesInPart : {O : Type 0} → Ghosts O → Message → Call O → Type 0
ServesInPart o m call =
    (d : Disk) → StandsOn o call.old call.file d → (from : ℕ) (c : Coord) →
    IsCut o (outs_of (asked call.old.number d (parts_with call.old c) from m)) call d

-- ---- messages that are no request

-- to a node goes an answer, if there is one
abbrev pub sent_to : ℕ → Option Message → List (ℕ × Message)
sent_to to None = []
sent_to to (Some m) = (to, m) ∷ []

-- A message was taken as the protocol has it, with any coordinator: then these are to be sent.
abbrev pub Handles : {O : Type 0} → Ghosts O → Message → Call O → (ℕ → List (ℕ × Message)) → Type 0
Handles o m call sent =
    (d : Disk) → StandsOn o call.old call.file d → (from : ℕ) (c : Coord) →
    Takes o (handle call.old.number d (parts_with call.old c) from m) c call d (sent from)

-- A message was stopped.
abbrev pub HandlesInPart : {O : Type 0} → Ghosts O → Message → Call O → Type 0
HandlesInPart o m call =
    (d : Disk) → StandsOn o call.old call.file d → (from : ℕ) (c : Coord) →
    IsCut o (outs_of (handle call.old.number d (parts_with call.old c) from m)) call d

-- the acknowledgement of an end, where one is wanted
abbrev pub acked_by : Told → Uid → Option Message
acked_by m u = if m.ack then Some (message.Acked (record { act = u })) else None

-- queries about actions, to their nodes
abbrev pub queries : List Uid → List (ℕ × Message)
queries us = map (λ (u : Uid). (u.node, message.Query (record { act = u }))) us
