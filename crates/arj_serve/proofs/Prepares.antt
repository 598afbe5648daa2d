-- States of objects may be prepared: they are of the store's role, small, and few.
use Rattle.std.proofs.Common.{◌≡◌, ◌≤◌, List, [], ◌∷◌, ap, map, length, arith}
use Rattle.std.specs.Prelude.{Contains}
use Rattle.std.specs.List.{AllByRecursion}
use Rattle.arj_base.specs.State.{state_bytes}
use Rattle.arj_disk.specs.Says.{role_of}
use Rattle.arj_disk.specs.declared.slot.Role.TheVariants.{Store}
use Rattle.arj_msg.proofs.StateLaws.{state_payload}
use Rattle.arj_protocol.specs.Effect.{Pair}
use Rattle.arj_protocol.specs.Words.{Uid, ObjectState, object}
use Rattle.arj_serve.specs.Objects.{AreObjects, AreOfObjects, IsObjectState}
use Rattle.arj_store.specs.Pair as files
use Rattle.arj_store.specs.Pair.{uid_of}
use Rattle.arj_store.proofs.Sizes.{state_within}
use Rattle.arj_law_store.specs.store.Files.{IsPairOf}
use Rattle.arj_law_store.proofs.store.Numbered as numbered
use Rattle.arj_law_store.proofs.store.Numbered.{IsOneOf, uids_to}

pub all_store : (states : List ObjectState) → AllByRecursion (λ s. IsObjectState s.uid s) states →
    AllByRecursion (λ s. role_of s.uid ≡ Store) states
all_store [] all = tt
all_store (s ∷ ss) all = (ap role_of all.0.of, all_store ss all.1)

small_state : (s : ObjectState) → length s.payload ≤ 256 → length (state_bytes s) ≤ 65535
small_state s small = omega (arith, small, (state_within s).1)

pub all_small : (states : List ObjectState) → AllByRecursion (λ s. IsObjectState s.uid s) states →
    AllByRecursion (λ s. length (state_bytes s) ≤ 65535) states
all_small [] all = tt
all_small (s ∷ ss) all = (small_state s (state_payload s all.0.restores), all_small ss all.1)

own : (u : Uid) (s : ObjectState) → IsObjectState u s → IsOneOf object u
own u s is = (is.number.0, is.number.1, is.of)

each_pend : (es : List (Uid × List ObjectState)) → AllByRecursion (λ (e : Uid × List ObjectState). AreOfObjects e.1) es →
    AllByRecursion (λ (e : Uid × List ObjectState). AllByRecursion (λ s. IsObjectState s.uid s) e.1) es
each_pend [] all = tt
each_pend (e ∷ es) all = (all.0.each, each_pend es all.1)

-- the objects
abbrev pub all_objects : List Uid
all_objects = uids_to object 256

pub as_many : length all_objects ≡ 256
as_many = numbered.as_many object 256

pub known_objects : (p : files.Pair) (d : Pair) → IsPairOf p d → AreObjects d → (u : Uid) → files.IsKnown p u → Contains all_objects u
known_objects p d are good u known = numbered.known_all object IsObjectState own p d are good.held (each_pend d.pend good.pend) u known

pub added_objects : (states : List ObjectState) → AllByRecursion (λ s. IsObjectState s.uid s) states → (u : Uid) →
    Contains (map uid_of states) u → Contains all_objects u
added_objects states all u added = numbered.added_all object IsObjectState own states all u added
