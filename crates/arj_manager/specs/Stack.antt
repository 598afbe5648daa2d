-- Overlays as the protocol has them.
use Rattle.std.specs.Prelude.{List, [], ◌∷◌, map, Bool, false}
use Rattle.arj_base.specs.declared.uid.Uid.{Uid}
use Rattle.arj_base.specs.Path.{uids_of, tops_of}
use Rattle.arj_protocol.specs.Copy.{Over, is_of}
use Rattle.arj_manager.specs.declared.overlay.Overlay.{Overlay}

-- an overlay as the protocol has it: its action's path, where its top ends, and the value
abbrev pub shown : Overlay → Over
shown o = record { holder = uids_of o.path; tops = tops_of o.path; value = o.value }

-- overlays as the protocol has them
abbrev pub stack_of : List Overlay → List Over
stack_of overlays = map shown overlays

-- the deepest overlay is this action's
abbrev pub is_deepest : Uid → List Over → Bool
is_deepest u [] = false
is_deepest u (e ∷ es) = is_of u e
