-- States of objects stay such under the protocol's work on their pair.
use Rattle.std.proofs.Common.{Bool, true, false, cond, List, [], ◌∷◌, sym, subst, Option, Some, None}
use Rattle.std.specs.Prelude.{IfSome, unwrap_or}
use Rattle.std.specs.List.{AllByRecursion, IsDistinct}
use Rattle.arj_law_store.proofs.store.Held.{all_put, all_without, found}
use Rattle.arj_law_store.proofs.store.Pairs.{moved_all}
use Rattle.arj_protocol.specs.Effect.{Pair, moved_some, new_states, pair_prepared, pair_committed, pair_aborted, pair_in_part}
use Rattle.arj_protocol.specs.Order.{at_uid, put_uid}
use Rattle.arj_protocol.specs.Words.{Uid, ObjectState, uid_eq}
use Rattle.arj_serve.specs.Objects.{AreObjects, AreOfObjects, IsObjectState}

nothing_twice : IsDistinct uid_eq []
unfolding IsDistinct
nothing_twice = tt

pub objects_prepared : (act : Uid) (states : List ObjectState) (d : Pair) → AreObjects d → AreOfObjects states →
    AreObjects (pair_prepared act states d)
objects_prepared act states d good new =
    record { held = good.held; pend = all_put (λ a ss. AreOfObjects ss) act states d.pend good.pend new }

pub objects_aborted : (act : Uid) (d : Pair) → AreObjects d → AreObjects (pair_aborted act d)
objects_aborted act d good = record { held = good.held; pend = all_without (λ a ss. AreOfObjects ss) act d.pend good.pend }

-- what an action has prepared is of objects
pub new_objects : (act : Uid) (d : Pair) → AreObjects d → AreOfObjects (new_states act d)
new_objects act d good = by (at_uid act d.pend) (found (λ a ss. AreOfObjects ss) act d.pend good.pend)
  where
    by : (o : Option (List ObjectState)) → IfSome o AreOfObjects → AreOfObjects (unwrap_or o [])
    by None all = record { distinct = nothing_twice; each = tt }
    by (Some states) all = all

abbrev AreHeld : List (Uid × ObjectState) → Type 0
AreHeld held = AllByRecursion (λ (e : Uid × ObjectState). IsObjectState e.0 e.1) held

all_moved : (which : Uid → Bool) (states : List ObjectState) (held : List (Uid × ObjectState)) →
    AllByRecursion (λ s. IsObjectState s.uid s) states → AreHeld held → AreHeld (moved_some which states held)
all_moved which [] held new all = all
all_moved which (s ∷ ss) held new all = all_moved which ss (cond (which s.uid) (put_uid s.uid s held) held) new.1 (by (which s.uid))
  where
    by : (b : Bool) → AreHeld (cond b (put_uid s.uid s held) held)
    by true = all_put IsObjectState s.uid s held all new.0
    by false = all

pub objects_committed : (act : Uid) (d : Pair) → AreObjects d → AreObjects (pair_committed act d)
objects_committed act d good = record {
  held = subst AreHeld (sym (moved_all (new_states act d) d.held)) (all_moved (λ u. true) (new_states act d) d.held (new_objects act d good).each good.held);
  pend = all_without (λ a ss. AreOfObjects ss) act d.pend good.pend;
}

pub objects_in_part : (which : Uid → Bool) (act : Uid) (d : Pair) → AreObjects d → AreObjects (pair_in_part which act d)
objects_in_part which act d good =
    record { held = all_moved which (new_states act d) d.held (new_objects act d good).each good.held; pend = good.pend }
