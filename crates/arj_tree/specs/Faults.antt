-- The refusals that a tree sees, in the order in which they are tested.
use Rattle.std.specs.Prelude.{ℕ, Bool, true, false, ◌&&◌, if◌then◌else◌, List, [], ◌∷◌, Option, Some, None, is_some}
use Rattle.arj_protocol.specs.Step.{is_below_16, is_misplaced}
use Rattle.arj_protocol.specs.Tree.{Tree, Branch, branch_of, has_open_child, has_many_actions, has_many_objects, is_too_deep}
use Rattle.arj_protocol.specs.Words.{Uid, End, Kind}
use Rattle.arj_protocol.specs.Words.ending
use Rattle.arj_tree.specs.declared.fault.TreeFault.{TreeFault}
use Rattle.arj_tree.specs.declared.fault.TreeFault.TheVariants as fault
use Rattle.arj_start.specs.Kinds.{is_serial}

-- the number of a refusal
abbrev pub number_of : TreeFault → ℕ
number_of fault.Ended = 6
number_of fault.OpenChildren = 9
number_of fault.WrongParent = 10
number_of fault.NoCalls = 11
number_of fault.Doomed = 12
number_of fault.TooDeep = 15
number_of fault.TooMany = 16
number_of fault.Memory = 0

-- the first fault whose condition holds
abbrev pub first_fault : List (TreeFault × Bool) → Option TreeFault
first_fault [] = None
first_fault (f ∷ fs) = if f.1 then Some f.0 else first_fault fs

-- an action begins in another one
abbrev pub begin_fault : Kind → Branch → Tree → Option TreeFault
begin_fault k b t = first_fault (
    (fault.Ended, is_some b.ended) ∷ (fault.WrongParent, is_misplaced k b) ∷ (fault.Doomed, b.doomed)
    ∷ (fault.TooDeep, is_below_16 k && is_too_deep b) ∷ (fault.TooMany, is_below_16 k && has_many_actions b t) ∷ [])

-- an action calls an object, or includes a store of it
abbrev pub use_fault : ℕ → Branch → Tree → Option TreeFault
use_fault x b t = first_fault (
    (fault.Ended, is_some b.ended) ∷ (fault.NoCalls, is_serial b.kind) ∷ (fault.Doomed, b.doomed) ∷ (fault.TooMany, has_many_objects b x t) ∷ [])

-- an abort ends the open descendants first, so that only a commit is refused for them
abbrev pub is_commit : End → Bool
is_commit ending.Abort = false
is_commit ending.Commit = true

-- an action ends
abbrev pub end_fault : End → Uid → Branch → Tree → Option TreeFault
end_fault e u b t = first_fault ((fault.Ended, is_some b.ended) ∷ (fault.OpenChildren, is_commit e && has_open_child u t) ∷ [])

-- what this incarnation never began has ended with an earlier one
abbrev pub or_ended : (Branch → Option TreeFault) → Option Branch → Option TreeFault
or_ended f None = Some fault.Ended
or_ended f (Some b) = f b

-- where no parent is given nothing is refused
abbrev pub begin_refusal : Kind → Option Uid → Tree → Option TreeFault
begin_refusal k None t = None
begin_refusal k (Some u) t = or_ended (λ b. begin_fault k b t) (branch_of u t)

-- why the use of an object is refused
abbrev pub use_refusal : Uid → ℕ → Tree → Option TreeFault
use_refusal u x t = or_ended (λ b. use_fault x b t) (branch_of u t)

-- why an end is refused
abbrev pub end_refusal : Uid → End → Tree → Option TreeFault
end_refusal u e t = or_ended (λ b. end_fault e u b t) (branch_of u t)
