-- Records of the tops that an object's disk machine decided.
use Rattle.std.specs.Prelude.{◌≡◌, true, Some}
use Rattle.arj_protocol.specs.Words.{Uid}
use Rattle.arj_protocol.specs.Order.{uid_number}
use Rattle.arj_protocol.specs.Step.{Node}
use Rattle.arj_law_disk.specs.machine.Effects.{World}
use Rattle.arj_law_disk.specs.machine.State.{decided}
use Rattle.arj_promise.specs.Runs.{Seen}
use Rattle.arj_law_serial.specs.whole.Acks.{WasRecorded, records_in}

-- of each top that is decided, at a node that is there, the commit has a record, or was told to be acknowledged
abbrev pub WereRecorded : World → Seen → Type 0
WereRecorded W M = (u : Uid) (n : Node) → M.nodes u.node ≡ Some n → decided W.disk (uid_number u) ≡ true →
    WasRecorded (records_in M.nodes) M.sent u
