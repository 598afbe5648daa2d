-- On the disks of idle nodes nothing is left.
use Rattle.arj_law_parts.proofs.Words
use Words.{◌≡◌, ◌∙◌, arith, ℕ, true, List, [], ◌∷◌, Option, Some, None, refl, sym, ap, subst, ◌&&◌, is_some, nat_le, option_map, and_parts}
use Words.{nat_tests, entry, object, IsReadingOf, record_of, Parts, at_uid, Node, is_idle, at_place, Header, Uid, is_empty}
use Rattle.arj_disk.specs.{Says.names, declared.slot.Role.Role}
use Rattle.arj_disk.specs.declared.slot.Role.TheVariants.{Names, Store}
use Rattle.arj_law_promise.specs.settling.Last.{IdleDisksHoldTheLast}
use Rattle.arj_model.specs.Disks.{InDoubt, Reading}
use Rattle.arj_promise.specs.Resting.{HasNothingLeft}
use Rattle.arj_protocol.specs.Step.{is_idle_with, is_settled, waits_for_nothing}
use Rattle.arj_store.specs.Pair.{packed}

-- nothing is prepared on the disk of an idle node, and it has no record
idle_free : (a : Node) → is_idle a ≡ true → (is_empty (let d = a.disk in let p = d.store in p.pend) ≡ true)
    × (is_empty (let d = a.disk in let p = d.names in p.pend) ≡ true) × (is_empty (let d = a.disk in d.intents) ≡ true)
idle_free a idle = by a.live idle
  where
    by : (o : Option Parts) → is_idle_with a.disk o ≡ true
        → (is_empty (let d = a.disk in let p = d.store in p.pend) ≡ true)
        × (is_empty (let d = a.disk in let p = d.names in p.pend) ≡ true) × (is_empty (let d = a.disk in d.intents) ≡ true)
    by None is = absurd (cc is)
    by (Some t) is =
        let d = a.disk in
        let s = and_parts (is_empty (let p = d.store in p.pend)) (is_empty (let p = d.names in p.pend) && is_empty d.intents)
        (and_parts (waits_for_nothing t.coord) (is_settled a.disk) is).1 in
        let r = and_parts (is_empty (let p = d.names in p.pend)) (is_empty d.intents) s.1 in
        (s.0, r.0, r.1)

-- in a map that has nothing nothing is found
none_there : {X : Type 0} (m : List (Uid × X)) (u : Uid) → is_empty m ≡ true → at_uid u m ≡ None
none_there [] u is = refl
none_there (e ∷ es) u is = absurd (cc is)

-- so it is by the disk's reading
nothing_left : (read : Reading) (a : Node) → IsReadingOf read a.disk → is_idle a ≡ true → HasNothingLeft read
nothing_left read a are idle = record {
  prepared = λ r act. (by r (idle_free a idle) act);
  records = λ top. are.records top ∙ ap (option_map record_of) (none_there (let d = a.disk in d.intents) top (idle_free a idle).2);
}
  where
    by : (r : Role) → (is_empty (let d = a.disk in let p = d.store in p.pend) ≡ true) × (is_empty (let d = a.disk in let p = d.names in
        p.pend) ≡ true) × (is_empty (let d = a.disk in d.intents) ≡ true) → (act : Uid) → read.pend r act ≡ None
    by Store none act =
        (let p = are.store in p.pend act ∙ ap (option_map packed) (none_there (let d = a.disk in let q = d.store in q.pend) act none.0))
    by Names none act =
        (let p = are.names in p.pend act ∙ ap (option_map packed) (none_there (let d = a.disk in let q = d.names in q.pend) act none.1))

-- and so nothing is in doubt
free_disk : (read : Reading) (r : Role) (u : Uid) → HasNothingLeft read → InDoubt read r u → ⊥
free_disk read r u nothing doubt = subst (λ o. names o u) (nothing.prepared r doubt.0) doubt.1

pub idle_disks_hold : IdleDisksHoldTheLast
idle_disks_hold hd marks lines sent w disks form stands quiet are clean = record {
  entries = λ x there. clean.entries x there (entry_free x);
  stores = λ x s listed of. clean.stores x s listed (entry_free x) (λ doubt. free_disk (disks s) Store (object x) (nothing s of) doubt);
  nothing = nothing;
}
  where
    one : (nat_le 1 1 && nat_le 1 hd.nodes) ≡ true
    one = let n = form.nodes.0 in grind (arith, nat_tests, n)

    at : (k : ℕ) → (nat_le 1 k && nat_le k hd.nodes) ≡ true → (nat_le 1 k && nat_le k (let x = w.header in x.nodes)) ≡ true
    at k of = subst (λ (x : Header). (nat_le 1 k && nat_le k x.nodes) ≡ true) (sym stands.header) of

    node : (k : ℕ) → (nat_le 1 k && nat_le k hd.nodes) ≡ true → (n : Node) × (at_place k w.nodes ≡ Some n)
    node k of = by (at_place k w.nodes) refl (stands.places k of)
      where
        by : (o : Option Node) → at_place k w.nodes ≡ o → is_some o ≡ true → (n : Node) × (at_place k w.nodes ≡ Some n)
        by None none some = absurd (cc some)
        by (Some n) is some = (n, is)

    nothing : (s : ℕ) → (nat_le 1 s && nat_le s hd.nodes) ≡ true → HasNothingLeft (disks s)
    nothing s of = let n = node s of in nothing_left (disks s) n.0 (are s n.0 n.1) (quiet s n.0 (at s of) n.1)

    entry_free : (x : ℕ) → InDoubt (disks 1) Names (entry x) → ⊥
    entry_free x doubt = free_disk (disks 1) Names (entry x) (nothing 1 one) doubt
