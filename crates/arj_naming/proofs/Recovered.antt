-- What a recovery finds, by Uid and by number.
use Rattle.std.proofs.Common.{◌≡◌, ◌∙◌, List, [], ◌∷◌, sym, map}
use Rattle.std.specs.List.{AllByRecursion}
use Rattle.std.specs.List.Sorted.{IsStrictlySortedBy}
use Rattle.std.specs.Map.{keys_of}
use Rattle.std.specs.Ordering.{nat_cmp}
use Rattle.std.specs.declared.cmp.Ordering.TheVariants.{Less}
use Rattle.arj_naming.specs.Entries.{IsEntryState}
use Rattle.arj_law_store.specs.store.Found.{by_uid}
use Rattle.arj_protocol.specs.Confirm.{named_back}
use Rattle.arj_protocol.specs.Effect.{Pair}
use Rattle.arj_protocol.specs.Words.{Uid, ObjectState, uid_order}

pub each_by_uid : (ss : List ObjectState) → AllByRecursion (λ (s : ObjectState). IsEntryState s.uid s) ss →
    AllByRecursion (λ (e : Uid × ObjectState). IsEntryState e.0 e.1) (by_uid ss)
each_by_uid [] all = tt
each_by_uid (s ∷ ss) all = (all.0, each_by_uid ss all.1)

-- entries in order of their Uids are in order of their objects

same_order : (u w : Uid) (s t : ObjectState) → IsEntryState u s → IsEntryState w t → uid_order u w ≡ Less → nat_cmp u.num w.num ≡ Less
same_order u w s t us ws less = (λ i. uid_order (sym us.state.of i) (sym ws.state.of i)) ∙ less

below_by_number : (d : Pair) (u : Uid) (s : ObjectState) (es : List (Uid × ObjectState)) → IsEntryState u s →
    AllByRecursion (λ (e : Uid × ObjectState). IsEntryState e.0 e.1) es → AllByRecursion (λ w. uid_order u w ≡ Less) (keys_of es) →
    AllByRecursion (λ y. nat_cmp u.num y ≡ Less) (keys_of (map (named_back d) es))
below_by_number d u s [] is all below = tt
below_by_number d u s (e ∷ es) is all below = (same_order u e.0 s e.1 is all.0 below.0, below_by_number d u s es is all.1 below.1)

pub by_number : (d : Pair) (es : List (Uid × ObjectState)) → AllByRecursion (λ (e : Uid × ObjectState). IsEntryState e.0 e.1) es →
    IsStrictlySortedBy uid_order (keys_of es) → IsStrictlySortedBy nat_cmp (keys_of (map (named_back d) es))
unfolding IsStrictlySortedBy
by_number d [] all sorted = tt
by_number d (e ∷ es) all sorted = (below_by_number d e.0 e.1 es all.0 all.1 sorted.0, by_number d es all.1 sorted.1)
