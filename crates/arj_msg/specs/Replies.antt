-- What is answered: a code from 0, and its parts.
use Rattle.std.specs.Prelude.{List, [], ◌∷◌}
use Rattle.std.proofs.Common.{inl, inr}
use Rattle.arj_msg.specs.Format.{Format, both, list, nothing, Case, case, OneOf, choice}
use Rattle.arj_msg.specs.Fields.{node, object, number4, number8, binding, uid, mode}
use Rattle.arj_msg.specs.State.{state}
use Rattle.arj_msg.specs.Operation.{answer}
use Rattle.arj_msg.specs.declared.message.What.{What}
use Rattle.arj_msg.specs.declared.message.What.TheVariants as what
use Rattle.arj_msg.specs.declared.message.BoundReply.{BoundReply}
use Rattle.arj_msg.specs.declared.message.BoundReply.TheVariants as bound_as
use Rattle.arj_msg.specs.declared.message.LoadedReply.{LoadedReply}
use Rattle.arj_msg.specs.declared.message.LoadedReply.TheVariants as loaded_as
use Rattle.arj_msg.specs.declared.message.RecordedReply.{RecordedReply}
use Rattle.arj_msg.specs.declared.message.RecordedReply.TheVariants as recorded_as
use Rattle.arj_msg.specs.declared.message.InvokedReply.{InvokedReply}
use Rattle.arj_msg.specs.declared.message.InvokedReply.TheVariants as invoked_as
use Rattle.arj_msg.specs.declared.message.VotedReply.{VotedReply}
use Rattle.arj_msg.specs.declared.message.VotedReply.TheVariants as voted_as
use Rattle.arj_msg.specs.declared.message.PreparedReply.{PreparedReply}
use Rattle.arj_msg.specs.declared.message.PreparedReply.TheVariants as prepared_as
use Rattle.arj_msg.specs.declared.message.ConfirmedReply.{ConfirmedReply}
use Rattle.arj_msg.specs.declared.message.ConfirmedReply.TheVariants as confirmed_as

-- codes 0 and 1: two incarnations, or two bindings; had, now
abbrev pub changed_cases : List (Case What)
changed_cases = case (both number4 number4) (λ p. what.Inc p.0 p.1) ∷ case (both binding binding) (λ p. what.Bind p.0 p.1) ∷ []

-- what changed as one of the cases, with what was had and what is now
abbrev pub changed_parts : What → OneOf changed_cases
changed_parts (what.Inc had now) = inl (had, now)
changed_parts (what.Bind had now) = inr (inl (had, now))

-- what an action met changed: its code in one byte, and what was had and is now
unfoldable pub changed : Format What
changed = choice 0 changed_cases changed_parts

-- codes 0 to 3: a live binding, a new one to make, an entry locked for an include, a conflict
abbrev pub bound_reply_cases : List (Case BoundReply)
bound_reply_cases =
    case (both binding (both node (both number4 (both number4 (list node))))) (λ p. bound_as.Live p.0 p.1.0 p.1.1.0 p.1.1.1.0 p.1.1.1.1) ∷ case (both binding (both node (both number4 (list node)))) (λ p. bound_as.Make p.0 p.1.0 p.1.1.0 p.1.1.1) ∷ case (both number4 (list node)) (λ p. bound_as.Write p.0 p.1) ∷ case (both uid mode) (λ p. bound_as.Conflict p.0 p.1) ∷ []

-- a reply to a Bind as one of the cases, with its fields in their order
abbrev pub bound_reply_parts : BoundReply → OneOf bound_reply_cases
bound_reply_parts (bound_as.Live binding server server_inc naming_inc stores) = inl (binding, (server, (server_inc, (naming_inc, stores))))
bound_reply_parts (bound_as.Make binding server naming_inc stores) = inr (inl (binding, (server, (naming_inc, stores))))
bound_reply_parts (bound_as.Write naming_inc stores) = inr (inr (inl (naming_inc, stores)))
bound_reply_parts (bound_as.Conflict holder mode) = inr (inr (inr (inl (holder, mode))))

-- what naming answers to a Bind: its code in one byte, and its fields
unfoldable pub bound_reply : Format BoundReply
bound_reply = choice 0 bound_reply_cases bound_reply_parts

-- codes 0 and 1: the committed state, or the holder that has prepared the object
abbrev pub loaded_reply_cases : List (Case LoadedReply)
loaded_reply_cases = case state loaded_as.State ∷ case uid loaded_as.InDoubt ∷ []

-- a reply to a Load as one of the cases, with the state or the holder
abbrev pub loaded_reply_parts : LoadedReply → OneOf loaded_reply_cases
loaded_reply_parts (loaded_as.State state) = inl state
loaded_reply_parts (loaded_as.InDoubt holder) = inr (inl holder)

-- what a store answers to a Load: its code in one byte, and the state or the holder
unfoldable pub loaded_reply : Format LoadedReply
loaded_reply = choice 0 loaded_reply_cases loaded_reply_parts

-- codes 0 and 1: the binding is recorded, or something changed
abbrev pub recorded_reply_cases : List (Case RecordedReply)
recorded_reply_cases = case nothing (λ _. recorded_as.Yes) ∷ case changed recorded_as.Changed ∷ []

-- a reply to a RecordMsg as one of the cases, with what changed
abbrev pub recorded_reply_parts : RecordedReply → OneOf recorded_reply_cases
recorded_reply_parts recorded_as.Yes = inl tt
recorded_reply_parts (recorded_as.Changed what) = inr (inl what)

-- what naming answers to a RecordMsg: its code in one byte, and what changed
unfoldable pub recorded_reply : Format RecordedReply
recorded_reply = choice 0 recorded_reply_cases recorded_reply_parts

-- codes 0 to 2: the answer of the operation, a conflict with its holder and mode, or what changed
abbrev pub invoked_reply_cases : List (Case InvokedReply)
invoked_reply_cases =
    case answer invoked_as.Answered ∷ case (both uid mode) (λ p. invoked_as.Conflict p.0 p.1) ∷ case changed invoked_as.Changed ∷ []

-- a reply to an Invoke as one of the cases, with its fields in their order
abbrev pub invoked_reply_parts : InvokedReply → OneOf invoked_reply_cases
invoked_reply_parts (invoked_as.Answered answer) = inl answer
invoked_reply_parts (invoked_as.Conflict holder mode) = inr (inl (holder, mode))
invoked_reply_parts (invoked_as.Changed what) = inr (inr (inl what))

-- what a server answers to an Invoke: its code in one byte, and its fields
unfoldable pub invoked_reply : Format InvokedReply
invoked_reply = choice 0 invoked_reply_cases invoked_reply_parts

-- codes 0 and 1: yes with the states that the top changed, or what changed at the server
abbrev pub voted_reply_cases : List (Case VotedReply)
voted_reply_cases = case (list state) voted_as.Yes ∷ case changed voted_as.Changed ∷ []

-- a reply to a Vote as one of the cases, with the states or what changed
abbrev pub voted_reply_parts : VotedReply → OneOf voted_reply_cases
voted_reply_parts (voted_as.Yes states) = inl states
voted_reply_parts (voted_as.Changed what) = inr (inl what)

-- what a server answers to a Vote: its code in one byte, and the states or what changed
unfoldable pub voted_reply : Format VotedReply
voted_reply = choice 0 voted_reply_cases voted_reply_parts

-- codes 0 to 2: yes, an object in doubt with its holder, or one whose held version the new one doesn't follow
abbrev pub prepared_reply_cases : List (Case PreparedReply)
prepared_reply_cases =
    case nothing (λ _. prepared_as.Yes) ∷ case (both object uid) (λ p. prepared_as.InDoubt p.0 p.1) ∷ case (both object number8) (λ p. prepared_as.Old p.0 p.1) ∷ []

-- a reply to a Prepare as one of the cases, with the object and its holder or held version
abbrev pub prepared_reply_parts : PreparedReply → OneOf prepared_reply_cases
prepared_reply_parts prepared_as.Yes = inl tt
prepared_reply_parts (prepared_as.InDoubt x holder) = inr (inl (x, holder))
prepared_reply_parts (prepared_as.Old x held) = inr (inr (inl (x, held)))

-- what a store answers to a Prepare: its code in one byte, and its fields
unfoldable pub prepared_reply : Format PreparedReply
prepared_reply = choice 0 prepared_reply_cases prepared_reply_parts

-- codes 0 to 4: yes, a conflict, what changed, an object left without stores, a store listed already
abbrev pub confirmed_reply_cases : List (Case ConfirmedReply)
confirmed_reply_cases =
    case nothing (λ _. confirmed_as.Yes) ∷ case (both uid mode) (λ p. confirmed_as.Conflict p.0 p.1) ∷ case changed confirmed_as.Changed ∷ case object confirmed_as.NoStores ∷ case (both object node) (λ p. confirmed_as.Listed p.0 p.1) ∷ []

-- a reply to a Confirm as one of the cases, with its fields in their order
abbrev pub confirmed_reply_parts : ConfirmedReply → OneOf confirmed_reply_cases
confirmed_reply_parts confirmed_as.Yes = inl tt
confirmed_reply_parts (confirmed_as.Conflict holder mode) = inr (inl (holder, mode))
confirmed_reply_parts (confirmed_as.Changed what) = inr (inr (inl what))
confirmed_reply_parts (confirmed_as.NoStores x) = inr (inr (inr (inl x)))
confirmed_reply_parts (confirmed_as.Listed x node) = inr (inr (inr (inr (inl (x, node)))))

-- what naming answers to a Confirm: its code in one byte, and its fields
unfoldable pub confirmed_reply : Format ConfirmedReply
confirmed_reply = choice 0 confirmed_reply_cases confirmed_reply_parts
