-- Effects whose messages can be sent.
use Rattle.std.specs.Prelude.{◌≤◌, length}
use Rattle.arj_protocol.specs.Tree.{Tree, ends_of}
use Rattle.arj_protocol.specs.Words.{Uid}

-- a frame has room for the ends of each root
abbrev pub HasFewEnds : Tree → Type 0
HasFewEnds t = (root : Uid) → length (ends_of root t) ≤ 255
