-- How far the numbers of requests rise in a run.
use Rattle.std.specs.Prelude.{◌≡◌, ◌≤◌, ◌<◌, ◌*◌, ℕ, List, Some, length}
use Rattle.arj_protocol.specs.Words.{Header, Uid}
use Rattle.arj_protocol.specs.Coord.{Doing, doing_of}
use Rattle.arj_protocol.specs.Node.{Parts}
use Rattle.arj_protocol.specs.Step.{Node}
use Rattle.arj_protocol.specs.Tree.{at_place}
use Rattle.arj_protocol.specs.World.{Arm, counted}
use Rattle.arj_law_promise.specs.meant.Meant.{Part, parts_done}
use Rattle.arj_promise.specs.Runs.{Run, most_events, world_by}

-- a call makes five requests at most, and one more for each giveup
abbrev pub most_requests : ℕ
most_requests = 5

-- Behind every run, and within the event behind it, the last request of an action has at most this number.
abbrev pub NumbersRise : Type 0
NumbersRise = (hd : Header) (r : Run hd) (arms : List (ℕ × Arm)) (ps : List Part) (k : ℕ) (n : Node) (t : Parts) (u : Uid) (d : Doing) →
    at_place k (parts_done ps (record (counted (world_by hd r)) { arms = arms })).nodes ≡ Some n → n.live ≡ Some t →
    doing_of u t.coord ≡ Some d → d.req ≤ most_requests * length r.moves

-- the last number from which a commit can make its three requests within 32 bits
abbrev pub last_number : ℕ
last_number = 4294967292

-- so in a run of that many events each action has numbers left for what it does next
abbrev pub NumbersHaveRoom : Type 0
NumbersHaveRoom = (hd : Header) (r : Run hd) (arms : List (ℕ × Arm)) (ps : List Part) (k : ℕ) (n : Node) (t : Parts) (u : Uid) (d : Doing) →
    length r.moves ≤ most_events → at_place k (parts_done ps (record (counted (world_by hd r)) { arms = arms })).nodes ≡ Some n →
    n.live ≡ Some t → doing_of u t.coord ≡ Some d → d.req < last_number
