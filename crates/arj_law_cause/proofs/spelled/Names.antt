-- In every run each entry is of an object, has each of its stores once, so that there are at most 16 of them, its servers in form, and a version
-- of 64 bits.
use Rattle.arj_law_parts.proofs.Words
use Words.{◌≡◌, ◌≤◌, ◌+◌, ◌==◌, ◌&&◌, nat_le, ℕ, Bool, true, false, cond, List, [], ◌∷◌, map, length, Option, Some, None, ◌<◌, next_version}
use Words.{nat_tests, leb-true, most_labels, arith, refl, sym, subst, AllByRecursion, list_all, and_parts, cons_option, Entry, Head, Header}
use Words.{ObjectLine, ObjectState, Uid, entry, top_of, entry_back, again_all, begin_action, is_serial, Grants, Marks, entries_after}
use Words.{entry_after, entry_state, marked, same_nodes, stores_after, without_stores, Abort, After, Before, Commit, Disk, Do, Effect}
use Words.{InPart, Look, Pair, Prepare, PutInc, PutIntent, RemoveIntent, Say, Send, Stop, Work, held_at, stopped, worked, tick_outs}
use Words.{asks, listed_entry, state_entry, Parts, with_coord, Node, acts as acts_of, parent_of, parts_in, restart_outs, Start, Seen}
use Words.ask
use Words.role
use Words.naming
use Rattle.arj_law_parts.proofs.moves.EachNode as at_each
use Rattle.arj_law_promise.proofs.Terms
use Terms.{HeaderFits, ObjectLineInForm, KeepsAsked, Own, Up, Walks, at, disk_by, entries_from, entry_by, first_at, given, posted, said}
use Terms.{walks_both}
use Rattle.arj_law_runs.proofs.addresses.Lists.{all_at_uid}
use Rattle.arj_law_runs.specs.addresses.Addresses.{AreOf, DiskOf, IsNode, StateOf}
use Rattle.arj_law_serial.proofs.Terms.{is_distinct}
use Rattle.arj_law_serial.proofs.joint.FormPairs.{aborted_so, committed_so, in_part_so, none_so, prepared_so, puts_so}
use Rattle.arj_law_serial.specs.joint.Forms.{PairIsSo}
use Rattle.arj_base.specs.declared.limits.TheConstants.{LAST_VERSION}
use Rattle.arj_journal.specs.declared.limits.TheConstants.{NODES, SERVERS, STORES}
use Rattle.arj_law_cause.proofs.spelled.Commits.{node_number}
use Rattle.arj_law_cause.proofs.spelled.Entering as entering
use Rattle.arj_law_cause.proofs.spelled.Onces.{Once, distinct_once, few_once, once_with, once_without}
use Rattle.arj_msg.specs.InForm.{IsLong, IsObject}
use Rattle.arj_promise.specs.Starts.{IsFormed}
use Rattle.arj_protocol.proofs.CoordSays.{acts_own}
use Rattle.arj_text.specs.Fields.{NodesInForm}

-- an entry's version has 64 bits, and its servers are in form
pub record IsNumbered (st : ObjectState) : Type 0 where
  pub version : IsLong st.version
  pub servers : NodesInForm NODES STORES (let e = state_entry st in e.servers)

-- an entry has each store once, and is of an object
abbrev pub Apart : Uid → ObjectState → Type 0
Apart u st = Once (let e = state_entry st in e.stores) × IsObject u.num × IsNumbered st

-- so it is of each entry on the disk
abbrev pub Names : Disk → Type 0
Names d = PairIsSo Apart d.names

abbrev HasNames : Node → Type 0
HasNames n = Names n.disk

-- and on each disk
abbrev pub NamesSo : Seen → Type 0
NamesSo M = at_each.Each HasNames M

-- ---- work, and effects

-- what an effect prepares of entries is so
abbrev Prepared : Uid → List ObjectState → Type 0
Prepared u states = AllByRecursion (Own Apart) states

abbrev WorkApart : Work → Type 0
WorkApart w = entering.WorkSo Prepared w

abbrev AllApart : List Effect → Type 0
AllApart outs = entering.AllSo Prepared outs

worked_apart : (w : Work) (d : Disk) → WorkApart w → Names d → Names (worked w d)
worked_apart Look d its so = so
worked_apart (PutInc i) d its so = so
worked_apart (Prepare role.Names u states) d its so = prepared_so Apart u states d.names its so
worked_apart (Prepare role.Store u states) d its so = so
worked_apart (Commit role.Names u) d its so = committed_so Apart u d.names so
worked_apart (Commit role.Store u) d its so = so
worked_apart (Abort role.Names u) d its so = aborted_so Apart u d.names so
worked_apart (Abort role.Store u) d its so = so
worked_apart (PutIntent u i) d its so = so
worked_apart (RemoveIntent u) d its so = so

stopped_apart : (how : Stop) (w : Work) (d : Disk) → WorkApart w → Names d → Names (stopped how w d)
stopped_apart Before w d its so = so
stopped_apart After w d its so = worked_apart w d its so
stopped_apart (InPart which) (Commit role.Names u) d its so = in_part_so Apart which u d.names so
stopped_apart (InPart which) (Commit role.Store u) d its so = so
stopped_apart (InPart which) Look d its so = so
stopped_apart (InPart which) (PutInc i) d its so = so
stopped_apart (InPart which) (Prepare r u states) d its so = so
stopped_apart (InPart which) (Abort r u) d its so = so
stopped_apart (InPart which) (PutIntent u i) d its so = so
stopped_apart (InPart which) (RemoveIntent u) d its so = so

-- ---- a Confirm's entries

entries_apart : (top : Uid) (grants : Grants) (excluded included : Marks) (d : Pair) → PairIsSo Apart d →
    AllByRecursion (Own Apart) (entries_after top grants excluded included d)
entries_apart top [] excluded included d so = tt
entries_apart top (g ∷ gs) excluded included d so = by (held_at (entry g.0) d) refl (entries_apart top gs excluded included d so)
  where
    Later : Type 0
    Later = AllByRecursion (Own Apart) (entries_after top gs excluded included d)

    apart : (s : ObjectState) → Apart (entry g.0) s → Own Apart (entry_state g.0 top s (stores_after g.0 excluded included (state_entry s)))
    apart s its =
        let e = state_entry s in (
          subst (λ (f : Entry). Once f.stores)
              (sym (entry_back (record { servers = (state_entry s).servers; stores = stores_after g.0 excluded included (state_entry s) })))
              (once_with (marked g.0 included) (without_stores (marked g.0 excluded) e.stores)
              (once_without (marked g.0 excluded) e.stores its.0)),
          its.1,
          record {
            version = least s.version;
            servers = subst (λ (f : Entry). NodesInForm NODES STORES f.servers)
                (sym (entry_back (record { servers = (state_entry s).servers; stores = stores_after g.0 excluded included (state_entry s) })))
                (let n = its.2 in n.servers);
          },
        )
      where
        least : (v : ℕ) → IsLong (next_version v)
        least v = omega arith

    made : (s : ObjectState) (b : Bool) → held_at (entry g.0) d ≡ Some s → Later → AllByRecursion (Own Apart) (cons_option (cond b None
        (Some (entry_state g.0 top s (stores_after g.0 excluded included (state_entry s))))) (entries_after top gs excluded included d))
    made s true is ih = ih
    made s false is ih = (apart s (let p = so.held (entry g.0) s is in p.0), ih)

    by : (o : Option ObjectState) → held_at (entry g.0) d ≡ o → Later → AllByRecursion (Own Apart)
        (cons_option (entry_after top excluded included g.0 o) (entries_after top gs excluded included d))
    by None is ih = ih
    by (Some s) is ih =
        made s (same_nodes (stores_after g.0 excluded included (state_entry s)) (let e = state_entry s in e.stores)) is ih

-- ---- nodes

walk : (e k : ℕ) (outs : List Effect) (v : Parts) (d : Disk) (M : Seen) → AllApart outs → Names d → at_each.EachBut HasNames k M →
    Walks NamesSo e k outs (Up NamesSo k v) d M
walk e k [] v d M all its others = at_each.back HasNames k d (Some v) M its others
walk e k (Do w ∷ es) v d M all its others = (
  λ how. at_each.back HasNames k (stopped how w d) None M (stopped_apart how w d all.0 its) others,
  walk e k es v (worked w d) M all.1 (worked_apart w d all.0 its) others,
)
walk e k (Say b ∷ es) v d M all its others = walk e k es v d (said e (b ∷ []) M) all.1 its others
walk e k (Send to m ∷ es) v d M all its others = λ more quiet.
    walk e k es v d (said e more (posted (record { from = k; to = to; message = m }) M)) all.1 its others

-- ---- as a run begins

-- nodes of a header are nodes
pub nodes_within : (n : ℕ) (ns : List ℕ) → n ≤ NODES → list_all (λ m. nat_le 1 m && nat_le m n) ns ≡ true →
    list_all (λ m. nat_le 1 m && nat_le m NODES) ns ≡ true
nodes_within n [] few all = refl
nodes_within n (m ∷ ms) few all =
    let p = and_parts (nat_le 1 m && nat_le m n) (list_all (λ k. nat_le 1 k && nat_le k n) ms) all in
    let q = and_parts (nat_le 1 m) (nat_le m n) p.0 in
    λ i. (q.0 i && more (leb-true m n q.1) i) && nodes_within n ms few p.1 i
  where
    more : m ≤ n → nat_le m NODES ≡ true
    more less = grind (arith, nat_tests, less, few)

list_within : (n most : ℕ) (ns : List ℕ) → n ≤ NODES → most ≤ STORES → NodesInForm n most ns → NodesInForm NODES STORES ns
list_within n most ns few less is =
    let many = nat_le 1 (length ns) && nat_le (length ns) most in
    let each = list_all (λ m. nat_le 1 m && nat_le m n) ns in
    let p = and_parts many (each && is_distinct ns) is in
    let q = and_parts each (is_distinct ns) p.1 in
    let l = and_parts (nat_le 1 (length ns)) (nat_le (length ns) most) p.0 in
    λ i. (l.0 i && more (length ns) (leb-true (length ns) most l.1) i) && (nodes_within n ns few q.0 i && q.1 i)
  where
    more : (k : ℕ) → k ≤ most → nat_le k STORES ≡ true
    more k low = grind (arith, nat_tests, low, less)

module _ (hd : Header) (form : HeaderFits hd) (st : Start) (formed : IsFormed hd st) where
  lines_once : (os : List ObjectLine) → AllByRecursion (ObjectLineInForm hd.nodes) os →
      AllByRecursion (Own Apart) (map (λ (o : ObjectLine). entry_by hd.format (let m = st.marks in m.entries o.x) o) os)
  lines_once [] all = tt
  lines_once (o ∷ os) all = (
    (
      subst (λ (f : Entry). Once f.stores) (sym (entry_back (record { servers = o.servers; stores = o.stores })))
          (distinct_once o.stores (once o.stores (let f = all.0 in f.stores))),
      (let f = all.0 in f.number),
      record {
        version = room (let m = st.marks.entries o.x in m.version) (formed.brief o.x);
        servers = subst (λ (f : Entry). NodesInForm NODES STORES f.servers) (sym (entry_back (record { servers = o.servers; stores = o.stores })))
            (list_within hd.nodes SERVERS o.servers (let n = form.nodes in n.1) (omega arith) (let f = all.0 in f.servers));
      },
    ),
    lines_once os all.1,
  )
    where
      room : (v : ℕ) → v + most_labels < LAST_VERSION → IsLong v
      room v less = omega (arith, less)

      once : (ns : List ℕ) → NodesInForm hd.nodes STORES ns → is_distinct ns ≡ true
      once ns so =
          let many = nat_le 1 (length ns) && nat_le (length ns) STORES in
          let each = list_all (λ m. nat_le 1 m && nat_le m hd.nodes) ns in
          (and_parts each (is_distinct ns) (and_parts many (each && is_distinct ns) so).1).1

  first_apart : (n : ℕ) → Names (disk_by hd st n)
  first_apart n = record { held = puts_so Apart (entries_from n hd st.marks) [] (by (n == 1)) (none_so Apart); pend = tt }
    where
      by : (b : Bool) → AllByRecursion (Own Apart)
          (cond b (map (λ (o : ObjectLine). entry_by hd.format (let m = st.marks in m.entries o.x) o) hd.objects) [])
      by true = lines_once hd.objects (let f = form.objects in f.0)
      by false = tt

-- ---- in every run

-- beside what is kept by every handler
pub names_keep : (hd : Header) → HeaderFits hd → (R : Seen → Type 0) → KeepsAsked hd R → KeepsAsked hd (λ M. R M × NamesSo M)
names_keep hd form R keeps = record {
  quiet = λ e bs M quiet g. (keeps.quiet e bs M quiet g.0, g.1);
  stop = λ e k d live M g. (
    keeps.stop e k d live M g.0,
    at_each.back HasNames k d None M (at_each.own HasNames k d live M g.1) (at_each.others HasNames k d live M g.1),
  );
  message = λ e k d t v from m outs M g there meant is.
      beside e k outs (Some t) v d M (keeps.message e k d t v from m outs M g.0 there meant is)
      (let o = at_each.own HasNames k d (Some t) M g.1 in
      let each = λ (h : Head) (grants : Grants) (excluded included : Marks)
      (asked : asks m ≡ Some (h, ask.Confirm grants excluded included)). entries_apart (top_of h.path) grants excluded included d.names o in
      subst (entering.By Prepared k d t from m each) is (entering.message_so Prepared k d t from m each)) g.1;
  act = λ e k d t i M is asks_node free g. let did = acts_of i d.intents t.coord in
      beside e k did.outs (Some t) (with_coord t did.part) d M (keeps.act e k d t i M is asks_node free g.0)
      (entering.coord_so Prepared did.outs (acts_own i d.intents t.coord)) g.1;
  begin = λ e k d t l how parent M new may free g. let did = begin_action l how parent (parent_of parent t.coord) t.coord in
      beside e k did.outs (Some t) (with_coord t did.part) d (given l (record { node = k; serial = is_serial how }) M)
      (keeps.begin e k d t l how parent M new may free g.0) (tt, tt) g.1;
  tick = λ e k d t M g. let q = again_all t.coord.doings t.coord in let y : Node = record { number = k; disk = d; live = Some t } in
      beside e k (tick_outs y t) (Some t) (with_coord t q.part) d M (keeps.tick e k d t M g.0)
      (entering.tick_so Prepared k d t) g.1;
  restart = λ e k d M g. let outs = restart_outs hd k (d.inc + 1) d in
      beside e k outs None (parts_in k (d.inc + 1) d) d M (keeps.restart e k d M g.0) (entering.restart_so Prepared hd k d) g.1;
  first = λ st formed.
      (keeps.first st formed, λ j n is. subst (λ (y : Node). Names y.disk) (first_at hd st j n is) (first_apart hd form st formed j));
}
  where
    beside : (e k : ℕ) (outs : List Effect) (live : Option Parts) (v : Parts) (d : Disk) (M : Seen) → Walks R e k outs (Up R k v) d M →
        AllApart outs → NamesSo (at k d live M) → Walks (λ N. R N × NamesSo N) e k outs (Up (λ N. R N × NamesSo N) k v) d M
    beside e k outs live v d M a all so = walks_both R NamesSo e k outs (Up R k v) (Up NamesSo k v) d M a
        (walk e k outs v d M all (at_each.own HasNames k d live M so) (at_each.others HasNames k d live M so))

-- ---- how many

pub few_stores : (hd : Header) → HeaderFits hd → (d : Disk) → Names d → DiskOf (IsNode hd) d → (x : ℕ) →
    length (let e = listed_entry x d.names in e.stores) ≤ 16
few_stores hd form d names of x = by (held_at (entry x) d.names) refl
  where
    numbers : (ns : List ℕ) → AreOf (IsNode hd) ns → AllByRecursion (λ (n : ℕ). (1 ≤ n) × (n ≤ 16)) ns
    numbers [] all = tt
    numbers (n ∷ ns) all = (node_number hd form n all.0, numbers ns all.1)

    by : (o : Option ObjectState) → held_at (entry x) d.names ≡ o → length (let e = naming.entry_of o in e.stores) ≤ 16
    by None is = omega arith
    by (Some s) is =
        let once = names.held (entry x) s is in
        let p = d.names in
        let known = all_at_uid (StateOf (IsNode hd)) (entry x) s p.held (pairs p.held of.held) is in
        let e = known.1 in
        few_once 16 (let f = state_entry s in f.stores) (once.0).0 (numbers (let f = state_entry s in f.stores) e.stores)
      where
        pairs : (es : List (Uid × ObjectState)) →
            AllByRecursion (λ (e : Uid × ObjectState). (e.0 ≡ entry (let u = e.0 in u.num)) × StateOf (IsNode hd) e.1) es →
            AllByRecursion (λ (e : Uid × ObjectState). StateOf (IsNode hd) e.1) es
        pairs [] all = tt
        pairs (e ∷ es) all = ((all.0).1, pairs es all.1)
