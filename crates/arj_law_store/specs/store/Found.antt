-- What a recovery finds, as a pair.
use Rattle.std.specs.Prelude.{List, map}
use Rattle.arj_protocol.specs.Effect.{Pair}
use Rattle.arj_protocol.specs.Words.{Uid, ObjectState}
use Rattle.arj_store.specs.declared.answer.Found.{Found}

-- states under their Uids
abbrev pub by_uid : List ObjectState → List (Uid × ObjectState)
by_uid states = map (λ (s : ObjectState). (s.uid, s)) states

-- the pair that was found
abbrev pub pair_found : Found → Pair
pair_found f = record { held = by_uid f.committed; pend = f.prepared }
