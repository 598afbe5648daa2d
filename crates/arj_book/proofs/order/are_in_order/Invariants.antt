use Rattle.std.proofs.Common.{◌≡◌, List, map, drop}
use Rattle.std.specs.List.{AllByRecursion}
use Rattle.arj_book.specs.Ends.{ends_in}
use Rattle.arj_book.specs.Kept.{no_ends, stand_behind}
use Rattle.arj_journal.specs.declared.header.Header.{Header}
use Rattle.arj_model.specs.Calls.{Call}
use Rattle.arj_replay.specs.Verdict.{HasCall}
use Rattle.arj_book.proofs.order.are_in_order.Given as goal

-- what is left stands behind these ends exactly where all do
abbrev pub invariant-loop-place : goal.invariant-loop-place
invariant-loop-place l = (header : Header) (cs : List Call) → map (λ c. c.at) cs ≡ l.places → AllByRecursion (HasCall header l.lines) cs
    → stand_behind (ends_in l.ends.any) (ends_in l.ends.wrote) (drop l.place-index cs) ≡ stand_behind no_ends no_ends cs
