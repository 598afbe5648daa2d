-- The journal lists a store for each object, and none twice: the entry that will stand at the naming node is that of the journal.
use Rattle.arj_law_parts.proofs.Words
use Words.{◌≡◌, ◌∙◌, ◌==◌, ◌&&◌, ℕ, Bool, true, false, cond, not, List, [], ◌∷◌, refl, subst, ap, inl, inr, AllByRecursion, Option, Some}
use Words.{None}
use Words.{is_some, In, in_find_none, entry, Header, Node, ObjectLine, ObjectState, World, at_place, same_number}
use Rattle.arj_law_serial.proofs.Terms
use Terms.{HeaderFits, Keeping, object_line, servers_of_line, marked, SeesEntry, Among, Packed, Hold, has, decided, last_entry}
use Terms.{packed_entry}
use Terms.{Own, never, AreDecided, Core, all_at_uid, first_stores}
use Terms.disk
use Rattle.arj_law_cause.proofs.spelled.{Names.Apart, Names.Names, Names.NamesSo, Names.names_keep, Onces.Once}
use Rattle.arj_law_disk.specs.machine.State.{effective_by}
use Rattle.arj_law_parts.specs.moves.Keeps.{Holds}
use Rattle.arj_law_runs.proofs.addresses.Runs.{kept}
use Rattle.arj_law_runs.specs.addresses.Addresses.{AreAddressed}
use Rattle.arj_law_serial.proofs.joint.{Clean.AreJoined, Clean.decided as decided_tops, Clean.decides_in, Clean.held_in, Clean.lock_tied}
use Rattle.arj_law_serial.proofs.joint.{Clean.ordered_of, NamedTops.disk_of}
use Rattle.arj_law_serial.proofs.order.{Cleaning.held_some, Entries.entry_is_last, Entries.stores_back}
use Rattle.arj_law_serial.specs.joint.Ordered.{IsOrderedSo}
use Rattle.arj_model.specs.Last.{listed}
use Rattle.arj_protocol.specs.Effect.{held_at}
use Rattle.arj_rest.specs.Nodes.{are_distinct, are_listed, is_listing}
use Rattle.arj_law_images.proofs.Cuts.{all_of}

-- ---- lists

distinct_of : (ns : List ℕ) → Once ns → are_distinct ns ≡ true
distinct_of [] once = refl
distinct_of (n ∷ ns) once = λ i. not (once.0 i) && distinct_of ns once.1 i

listing_of : (ns : List ℕ) → Once ns → (s : ℕ) × (has s ns ≡ true) → is_listing ns ≡ true
listing_of [] once some = let no_way : false ≡ true = some.1 in absurd (cc no_way)
listing_of (n ∷ ns) once some = distinct_of (n ∷ ns) once

-- an entry that lists a store, and none twice
abbrev IsGood : Packed → Type 0
IsGood p = Once p.content × ((s : ℕ) × (has s p.content ≡ true))

own_of : (ss : List ObjectState) → AllByRecursion (Own Apart) ss → (st : ObjectState) → Among st ss → Own Apart st
own_of [] all st i = absurd i
own_of (s ∷ ss) all st (inl is) = subst (Own Apart) is all.0
own_of (s ∷ ss) all st (inr i) = own_of ss all.1 st i

-- a line's object is found
line_found : (hd : Header) (o : ObjectLine) → In o hd.objects → is_some (object_line hd o.x) ≡ true
line_found hd o i = by (object_line hd o.x) refl
  where
    by : (q : Option ObjectLine) → object_line hd o.x ≡ q → is_some q ≡ true
    by None none = absurd (never (same_number o.x) (in_find_none (λ (p : ObjectLine). p.x == o.x) o hd.objects none i))
    by (Some p) found = refl

-- ---- worlds

module _ (hd : Header) (w : World) (keeping : Keeping hd w) (form : HeaderFits hd) (joined : AreJoined hd w) (n : Node)
    (there : at_place 1 w.nodes ≡ Some n) where
  names : Names n.disk
  names =
      let h = keeping (λ M. AreAddressed hd M × NamesSo M) (names_keep hd form (AreAddressed hd) (kept hd form)) in
      h.holds.1 1 n there

  module _ (x : ℕ) (line : is_some (object_line hd x) ≡ true) where
    abbrev o : Holds hd (IsOrderedSo hd x) w
    o = ordered_of hd w x (held_in hd w keeping joined x line)

    abbrev S : disk.State
    S = disk_of o.holds

    its : AreDecided hd w.lines x S.tops
    its = decided_tops hd w keeping form (lock_tied hd w keeping joined) (held_in hd w keeping joined) (decides_in hd w keeping joined) x line

    core : Core S
    core = let h = o.holds in let b = h.begun in let j = b.journalled in let v = j.sees.whole in v.core

    sees : SeesEntry x n.disk.names S
    sees = let h = o.holds in let b = h.begun in let j = b.journalled in j.sees.entry n there

    held_good : IsGood S.entry
    held_good =
        let p = sees.pair in
        let h = held_some (held_at (entry x) n.disk.names) S.entry packed_entry p.held_is in
        let once = (names.held (entry x) h.0 h.1).0 in
        (subst (λ (q : Packed). Once q.content) h.2 once.0, core.pending.held)

    pend_good : (h : Hold) → S.entry_pend ≡ Some h → IsGood h.new
    pend_good h is =
        let p = sees.pair in
        let k = p.holder h is in
        let all = all_at_uid (AllByRecursion (Own Apart)) k.action k.states n.disk.names.pend names.pend k.prepared in
        let once = own_of k.states all k.state k.of.0 in
        (subst (λ (g : Hold). Once (let q = g.new in q.content)) k.is once.0, core.pending.stores h is)

    last_good : IsGood (last_entry S)
    last_good = subst IsGood core.effective.entry (by S.entry_pend refl)
      where
        by : (q : Option Hold) → S.entry_pend ≡ q → IsGood (effective_by (decided S) (λ e. e) q S.entry)
        by None is = held_good
        by (Some h) is = each (decided S h.top)
          where
            each : (b : Bool) → IsGood (cond b h.new S.entry)
            each true = pend_good h is
            each false = held_good

    content_is : (let e = last_entry S in e.content) ≡ listed hd w.lines x
    content_is = ap (λ (q : Packed). q.content) (entry_is_last hd w.lines x S.first_entry S.tops its w.start.marks begins)
        ∙ stores_back (servers_of_line (object_line hd x)) (listed hd w.lines x)
      where
        begins : S.first_entry ≡ marked (w.start.marks.entries x) (first_stores hd x)
        begins = let h = o.holds in let b = h.begun in let g = b.begins in g.entry

    is_so : is_listing (listed hd w.lines x) ≡ true
    is_so = subst (λ ns. is_listing ns ≡ true) content_is (listing_of (let e = last_entry S in e.content) last_good.0 last_good.1)

  pub lists_stores : are_listed hd w.lines ≡ true
  lists_stores = all_of (λ (o : ObjectLine). is_listing (listed hd w.lines o.x)) hd.objects (λ o i. is_so o.x (line_found hd o i))
