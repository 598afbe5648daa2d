use Rattle.arj_replay.proofs.Sorts.{nested_places, serial_places}
use Rattle.arj_check.proofs.Own.{own_keys}
use Rattle.arj_check.proofs.laws.places_are_sorted.Goals as goal

pub returns-clause-serial : goal.returns-clause-serial
returns-clause-serial c = serial_places

pub returns-clause-nested : goal.returns-clause-nested
returns-clause-nested c = λ header lines r. nested_places lines (own_keys header lines r)
