-- What the coordinator makes of a void answer: nothing.
use Rattle.std.proofs.Common.{◌≡◌, ℕ, Bool, true, false, cond, List, refl, Option, Some, None}
use Rattle.std.specs.Prelude.{is_some}
use Rattle.arj_asking.specs.Hearing.{heard_as}
use Rattle.arj_protocol.specs.Ask.{Reply}
use Rattle.arj_protocol.specs.Asking.{heard_by, heard_call, heard_doing, heard_none, heard_now, moved_commit, waits_for_call}
use Rattle.arj_protocol.specs.Asking.{waits_for_commit}
use Rattle.arj_protocol.specs.Commit as commit
use Rattle.arj_protocol.specs.Coord.{Coord, Doing, Now, Idle, Calling, Committing, doing_of}
use Rattle.arj_protocol.specs.Effect.{Did, Intent, Served}
use Rattle.arj_protocol.specs.Words.{Uid, Asked}

-- without a reply the coordinator is as it was
abbrev pub IsNothing : Coord → Served Coord (Unit {0}) → Type 0
IsNothing c r = false ≡ is_some r.reply → r.part ≡ c

by_test : (c : Coord) (b : Bool) (d : Did Coord) → IsNothing c (cond b (heard_by d) (heard_none c))
by_test c true d none = absurd (cc none)
by_test c false d none = refl

by_now : (from : ℕ) (a : Asked) (r : Reply) (intents : List (Uid × Intent)) (c : Coord) (n : Now) →
    IsNothing c (heard_now from a r intents c n)
by_now from a r intents c Idle none = refl
by_now from a r intents c (Calling s) none = by_test c (waits_for_call from a r s) (heard_call s r c) none
by_now from a r intents c (Committing m) none =
    by_test c (waits_for_commit from a r m) (moved_commit a.act (commit.answered from m r) intents c) none

by_doing : (from : ℕ) (a : Asked) (r : Reply) (intents : List (Uid × Intent)) (c : Coord) (o : Option Doing) →
    IsNothing c (heard_doing from a r intents c o)
by_doing from a r intents c None none = refl
by_doing from a r intents c (Some d) none = by_now from a r intents c d.now none

pub heard_nothing : (from : ℕ) (a : Option (Asked × Reply)) (intents : List (Uid × Intent)) (c : Coord) →
    IsNothing c (heard_as from a intents c)
heard_nothing from None intents c none = refl
heard_nothing from (Some a) intents c none = by_doing from a.0 a.1 intents c (doing_of a.0.act c) none
