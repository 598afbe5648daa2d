-- Request numbers that are left.
use Rattle.std.specs.Prelude.{◌≤◌, Option, ⊤}
use Rattle.std.specs.Prelude.{Some, None}
use Rattle.arj_commit.specs.declared.limits.TheConstants.{LAST_START}
use Rattle.arj_protocol.specs.Ask.{Reply}
use Rattle.arj_protocol.specs.Asking.{last_req}
use Rattle.arj_protocol.specs.Coord.{Coord, doing_of}
use Rattle.arj_protocol.specs.Words.{Uid, Asked}

-- the action has the request numbers left that a commit may take, which are more than those of any other step
abbrev pub HasRoom : Uid → Coord → Type 0
HasRoom u c = last_req (doing_of u c) ≤ LAST_START

-- so has the action that had asked for an answer
abbrev pub AskerHasRoom : Option (Asked × Reply) → Coord → Type 0
AskerHasRoom None c = ⊤
AskerHasRoom (Some a) c = HasRoom a.0.act c
