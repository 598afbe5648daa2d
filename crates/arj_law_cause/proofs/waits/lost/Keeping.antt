-- In every run each entry on a disk lists some store, committed or prepared.
use Rattle.arj_law_parts.proofs.Words
use Words.{◌≡◌, ◌∙◌, ◌≤◌, ◌+◌, ◌==◌, ◌&&◌, ℕ, zero, suc, Bool, true, false, cond, if◌then◌else◌, List, [], ◌∷◌, length, map, Option, Some, None, refl, sym}
use Words.{subst, arith, nat_tests, nat_le, slice_get, AllByRecursion, list_all, and_parts, leb-true, entry_back, Header, ObjectLine, ObjectState}
use Words.{Uid, Asked, Reply, AreAll, again_all, begin_action, answers, heard, is_coord_effect, is_coord_line, Coord, Disk, Do}
use Words.{Effect, Say, Send, stopped, worked, tick_outs, Parts, Took, handle, with_coord, put_uid, Input, Node, acts, node_by, numbers_to}
use Words.{parent_of, parts_in, put_states, refusal_up, restart_outs, world_from, is_serial, Message, Naming, Start, Post, Seen, see, Body}
use Words.{acts_own, heard_own}
use Words.body
use Rattle.arj_law_runs.proofs.Terms
use Terms.{IsAtStarts, disk_by, entries_from, entry_by, Keeps, at, given, posted, said, Up, Walks}
use Rattle.arj_journal.specs.ScriptForm.{ObjectLineInForm}
use Rattle.arj_promise.specs.Runs.{HeaderFits}
use Rattle.arj_journal.specs.declared.limits.TheConstants.{STORES}
use Rattle.arj_law_runs.proofs.addresses.Lists.{all_map, all_put}
use Rattle.arj_law_cause.proofs.waits.commits.Serving as Serving
use Rattle.arj_law_cause.proofs.waits.commits.Serving.{goes_so, restart_still, tick_still}
use Rattle.arj_law_cause.proofs.waits.lost.Stored.{IsFull, NamesFull, OutFull, Outs, StateFull, WorkFull, full_plain, naming_full, stopped_full}
use Rattle.arj_law_cause.proofs.waits.lost.Stored.{worked_full}
use Rattle.arj_protocol.specs.Says.{is_intent_work}
use Rattle.arj_start.specs.Start.{Marks}
use Rattle.arj_text.specs.Fields.{NodesInForm, is_distinct}

-- each entry on each disk lists some store
abbrev pub DisksFull : Seen → Type 0
DisksFull M = (j : ℕ) (n : Node) → M.nodes j ≡ Some n → NamesFull (let d = n.disk in d.names)

-- of each node but this
abbrev RestIsFull : ℕ → Seen → Type 0
RestIsFull k M = (j : ℕ) (n : Node) → (j == k) ≡ false → M.nodes j ≡ Some n → NamesFull (let d = n.disk in d.names)

same : (k : ℕ) → (k == k) ≡ true
same k = grind (arith, nat_tests)

own : (k : ℕ) (d : Disk) (live : Option Parts) (M : Seen) → DisksFull (at k d live M) → NamesFull d.names
own k d live M all = all k (record { number = k; disk = d; live = live })
    (λ i. cond (same k i) (Some (record { number = k; disk = d; live = live })) (M.nodes k))

rest : (k : ℕ) (d : Disk) (live : Option Parts) (M : Seen) → DisksFull (at k d live M) → RestIsFull k M
rest k d live M all j n apart there =
    all j n ((λ i. cond (apart i) (Some (record { number = k; disk = d; live = live })) (M.nodes j)) ∙ there)

back : (k : ℕ) (d : Disk) (live : Option Parts) (M : Seen) → NamesFull d.names → RestIsFull k M → DisksFull (at k d live M)
back k d live M its all j n is = by (j == k) refl is
  where
    x : Node
    x = record { number = k; disk = d; live = live }

    by : (b : Bool) → (j == k) ≡ b → cond b (Some x) (M.nodes j) ≡ Some n → NamesFull (let e = n.disk in e.names)
    by true at there = let here : x ≡ n = cc there in subst (λ (z : Node). NamesFull (let e = z.disk in e.names)) here its
    by false apart there = all j n apart there

-- whatever a node does
walk : (e k : ℕ) (outs : List Effect) (v : Parts) (d : Disk) (M : Seen) → NamesFull d.names → Outs outs → RestIsFull k M →
    Walks DisksFull e k outs (Up DisksFull k v) d M
walk e k [] v d M its outs all = back k d (Some v) M its all
walk e k (Do w ∷ es) v d M its outs all = (
  (λ how. back k (stopped how w d) None (said e (body.Halted k ∷ []) M) (stopped_full how w d outs.0 its) all),
  walk e k es v (worked w d) M (worked_full w d outs.0 its) outs.1 all,
)
walk e k (Say b ∷ es) v d M its outs all = walk e k es v d (said e (b ∷ []) M) its outs.1 all
walk e k (Send to m ∷ es) v d M its outs all = λ more quiet.
    walk e k es v d (said e more (posted (record { from = k; to = to; message = m }) M)) its outs.1 all

-- a coordinator prepares no entry
coord_full : (es : List Effect) → AreAll is_coord_effect es → Outs es
coord_full [] all = tt
coord_full (Say b ∷ es) all = (tt, coord_full es (and_parts (is_coord_line b) (list_all is_coord_effect es) all).1)
coord_full (Send to m ∷ es) all = (tt, coord_full es all)
coord_full (Do w ∷ es) all =
    let q = and_parts (is_intent_work w) (list_all is_coord_effect es) all in (work w q.0, coord_full es q.1)
  where
    work : (x : Words.Work) → is_intent_work x ≡ true → WorkFull x
    work (Words.PutIntent u i) is = tt
    work (Words.RemoveIntent u) is = tt
    work x is = absurd (cc is)

-- ---- at first

module _ (hd : Header) (form : HeaderFits hd) where
  full_list : (ss : List ℕ) → NodesInForm hd.nodes STORES ss → IsFull ss
  full_list ss are = by ss (leb-true 1 (length ss) (and_parts (nat_le 1 (length ss)) (nat_le (length ss) STORES)
      (and_parts (nat_le 1 (length ss) && nat_le (length ss) STORES)
      (list_all (λ m. nat_le 1 m && nat_le m hd.nodes) ss && is_distinct ss) are).0).0)
    where
      by : (xs : List ℕ) → 1 ≤ length xs → IsFull xs
      by [] few = absurd (let z : 1 ≤ 0 = few in omega (arith, z))
      by (x ∷ xs) few = tt

  abbrev IsLine : ObjectLine → Type 0
  IsLine o = ObjectLineInForm hd.nodes o

  entries : (marks : Marks) (b : Bool) →
      AllByRecursion StateFull (if b then map (λ (o : ObjectLine). entry_by hd.format (marks.entries o.x) o) hd.objects else [])
  entries marks true = all_map IsLine StateFull (λ (o : ObjectLine). entry_by hd.format (marks.entries o.x) o) hd.objects
      (λ o l. subst (λ e. IsFull (let z = e in z.stores)) (sym (entry_back (record { servers = o.servers; stores = o.stores })))
      (full_list o.stores l.stores)) form.objects.0
  entries marks false = tt

  put_all : (ss : List ObjectState) (held : List (Uid × ObjectState)) → AllByRecursion StateFull ss →
      AllByRecursion (λ (e : Uid × ObjectState). StateFull e.1) held →
      AllByRecursion (λ (e : Uid × ObjectState). StateFull e.1) (put_states ss held)
  put_all [] held all had = had
  put_all (s ∷ ss) held all had =
      put_all ss (put_uid s.uid s held) all.1 (all_put (λ (e : Uid × ObjectState). StateFull e.1) s.uid s held (λ w. all.0) had)

  first_full : IsAtStarts hd DisksFull
  first_full st formed = at_first
    where
      disk_of : (k : ℕ) → NamesFull (let d = disk_by hd st k in d.names)
      disk_of k = record { held = put_all (entries_from k hd st.marks) [] (entries st.marks (k == 1)) tt; pend = tt }

      one : (ns : List ℕ) (i : ℕ) (n : Node) → slice_get (map (node_by hd st) ns) i ≡ Some n → NamesFull (let d = n.disk in d.names)
      one [] i n is = absurd (cc is)
      one (m ∷ ms) zero n is = let it : node_by hd st m ≡ n = cc is in subst (λ (z : Node). NamesFull (let d = z.disk in d.names)) it (disk_of m)
      one (m ∷ ms) (suc i) n is = one ms i n is

      at_first : (j : ℕ) (n : Node) → (let M = see [] (world_from hd st) in M.nodes j) ≡ Some n → NamesFull (let d = n.disk in d.names)
      at_first zero n is = absurd (cc is)
      at_first (suc j) n is = one (numbers_to hd.nodes) j n is

  -- ---- in each run

  pub disks_keep : Keeps hd DisksFull
  disks_keep = record {
    quiet = λ e bs M quiet all. all;
    stop = λ e k d live M all. back k d None (said e (body.Halted k ∷ []) M) (own k d live M all) (rest k d live M all);
    message = λ e k d t v from m outs M all there meant is. walk e k outs v d M (own k d (Some t) M all)
        (subst (Serving.GoesSo OutFull full_plain Outs (λ es z. z) k d t (λ n at. naming_full d.names n) from) is
        (goes_so OutFull full_plain Outs (λ es z. z) k d t (λ n at. naming_full d.names n) from m
        (λ a r says. coord_full (heard from a r d.intents t.coord).outs (heard_own from a r d.intents t.coord))))
        (rest k d (Some t) M all);
    act = λ e k d t i M is free all. let did = acts i d.intents t.coord in
        walk e k did.outs (with_coord t did.part) d M (own k d (Some t) M all) (coord_full did.outs (acts_own i d.intents t.coord))
        (rest k d (Some t) M all);
    begin = λ e k d t l how parent M new may free all. let did = begin_action l how parent (parent_of parent t.coord) t.coord in
        walk e k did.outs (with_coord t did.part) d (given l (record { node = k; serial = is_serial how }) M) (own k d (Some t) M all) (tt, tt)
        (rest k d (Some t) M all);
    tick = λ e k d t M all. let r = again_all t.coord.doings t.coord in
        walk e k (tick_outs (record { number = k; disk = d; live = Some t }) t) (with_coord t r.part) d M (own k d (Some t) M all)
        (tick_still OutFull full_plain k d t) (rest k d (Some t) M all);
    restart = λ e k d M all. walk e k (restart_outs hd k (d.inc + 1) d) (parts_in k (d.inc + 1) d) d M (own k d None M all)
        (restart_still OutFull full_plain hd k (d.inc + 1) d) (rest k d None M all);
    first = first_full;
  }
