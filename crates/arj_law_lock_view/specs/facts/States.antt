-- The states that calls take to servers.
use Rattle.std.specs.Prelude.{◌≡◌, Some}
use Rattle.arj_protocol.specs.Words.{ObjectState, Uid}
use Rattle.arj_protocol.specs.Call.{AtActivate, Known, Steps}
use Rattle.arj_protocol.specs.Coord.{Calling, Coord, Doing, doing_of}

-- A state that a call takes to its server is of the call's object.
abbrev pub KnowsStates : Coord → Type 0
KnowsStates c = (u : Uid) (d : Doing) (w : Steps) (k : Known) (o : ObjectState) → doing_of u c ≡ Some d → d.now ≡ Calling w →
    w.at ≡ AtActivate k o → (let q = o.uid in q.num) ≡ w.x
