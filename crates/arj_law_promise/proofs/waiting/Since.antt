-- No node that is up has an incarnation from before the run: kept by each handler.
use Rattle.arj_law_parts.proofs.Words
use Words.{if◌then◌else◌, ◌∙◌}
use Words.{◌≡◌, ◌≤◌, ◌+◌, ◌==◌, arith, ℕ, Bool, true, false, List, [], ◌∷◌, Option, Some, None, sym, subst, ⊎_elim, again_all}
use Words.{After, Before, InPart, Disk, Do, Effect, Look, PutInc, Say, Send, Stop, stopped, worked, tick_outs, Parts, Took, handle}
use Words.{with_coord, Node, acts}
use Words.{parts_in, restart_outs, Header, Message, Seen, parent_of, begin_action, cond, is_serial}
use Rattle.arj_law_promise.proofs.Terms
use Terms.{Action, paths_of, begun_tree, IsGood, IsGoodOf, good_coord, it, own_of_disk, tops_of_disk, at}
use Terms.{down, given, posted, said, up, Up, Walks, halted, KeepsGiven, node_here, first_at, AreSince, IsSince, IsAtStarts, next_inc}
use Terms.{disk_by}
use Rattle.arj_law_disk_view.proofs.view.Frames.{node_cases}
use Rattle.arj_law_lock_view.proofs.records
use records.{NamingKept.rest, NamingKept.rest_quiet, NamingRuns.inc_stopped, NamingRuns.inc_worked, Quiet.IncsUp, Quiet.quiet_incs}
use Rattle.arj_law_parts.proofs.parts.{SaidIncs.truly_handled}
use Rattle.arj_law_parts.specs.parts.Incs.{AreOfInc, IsTrulyHandled}
use Rattle.arj_law_promise.proofs.waiting.AskedEffects.{acts_quiet, of_incs, tick_quiet}

-- the other nodes
abbrev Others : ℕ → Seen → Type 0
Others k M = (j : ℕ) (n : Node) → (j == k) ≡ false → M.nodes j ≡ Some n → IsSince (next_inc M.start j) (let d = n.disk in d.inc) n.live

back : (k : ℕ) (d : Disk) (live : Option Parts) (M : Seen) → IsSince (next_inc M.start k) d.inc live → Others k M →
    AreSince (at k d live M)
back k d live M its o = λ j n there. ⊎_elim
    (λ (z : (j ≡ k) × (record { number = k; disk = d; live = live } ≡ n)).
    subst (λ (m : Node). IsSince (next_inc M.start j) (let c = m.disk in c.inc) m.live) z.1
    (subst (λ i. IsSince (next_inc M.start i) d.inc live) (sym z.0) its))
    (λ (z : ((j == k) ≡ false) × (M.nodes j ≡ Some n)). o j n z.0 z.1)
    (node_cases M k (record { number = k; disk = d; live = live }) j n there)

mine : (k : ℕ) (d : Disk) (live : Option Parts) (M : Seen) → AreSince (at k d live M) → IsSince (next_inc M.start k) d.inc live
mine k d live M all =
    all k (record { number = k; disk = d; live = live }) (node_here M k (record { number = k; disk = d; live = live }))

others : (k : ℕ) (d : Disk) (live : Option Parts) (M : Seen) → AreSince (at k d live M) → Others k M
others k d live M all j n apart is =
    all j n ((λ i. cond (apart i) (Some (record { number = k; disk = d; live = live })) (M.nodes j)) ∙ is)

-- a node that stops begins again with a later one
stops : (first i : ℕ) (live : Option Parts) → IsSince first i live → first ≤ i + 1
stops first i None since = since
stops first i (Some t) since = omega (arith, since)

-- whatever a node does that puts no incarnation below this one
walk : (least e k : ℕ) (v : Parts) (outs : List Effect) (d : Disk) (M : Seen) → next_inc M.start k ≤ least → IncsUp least outs →
    least ≤ d.inc → Others k M → Walks AreSince e k outs (Up AreSince k v) d M
walk least e k v [] d M since fine low o = back k d (Some v) M (up_to (next_inc M.start k) least d.inc since low) o
  where
    up_to : (a b c : ℕ) → a ≤ b → b ≤ c → a ≤ c
    up_to a b c x y = omega (arith, x, y)
walk least e k v (Do w ∷ es) d M since fine low o = (
  λ how. back k (stopped how w d) None M
      (later (next_inc M.start k) least (stopped how w d).inc since (inc_stopped least how w d fine.0 low)) o,
  walk least e k v es (worked w d) M since fine.1 (inc_worked least w d fine.0 low) o,
)
  where
    later : (a b c : ℕ) → a ≤ b → b ≤ c → a ≤ c + 1
    later a b c x y = omega (arith, x, y)
walk least e k v (Say b ∷ es) d M since fine low o = walk least e k v es d (said e (b ∷ []) M) since fine.1 low o
walk least e k v (Send to m ∷ es) d M since fine low o =
    λ more quiet. walk least e k v es d (said e more (posted (record { from = k; to = to; message = m }) M)) since fine.1 low o

-- a node that is up goes on
goes_on : (e k : ℕ) (v t : Parts) (outs : List Effect) (d : Disk) (M : Seen) → AreSince (up k d t M) → IncsUp d.inc outs →
    Walks AreSince e k outs (Up AreSince k v) d M
goes_on e k v t outs d M all fine =
    walk d.inc e k v outs d M (mine k d (Some t) M all) fine (omega arith) (others k d (Some t) M all)

message_walk : (begun : List Action) (e k : ℕ) (d : Disk) (t v : Parts) (from : ℕ) (m : Message) (outs : List Effect) (M : Seen) →
    IsGoodOf begun (up k d t M) → AreSince (up k d t M) → handle k d t from m ≡ Took v outs → Walks AreSince e k outs (Up AreSince k v) d M
message_walk begun e k d t v from m outs M good all is = goes_on e k v t outs d M all (of_incs k d.inc outs incs)
  where
    truly : IsTrulyHandled k t (Took v outs)
    truly = subst (IsTrulyHandled k t) is (truly_handled k t begun (paths_of begun) (begun_tree begun good.begun)
        (good_coord e k d t M (begun, good)) d (own_of_disk e k d t M (begun, good)) from m (tops_of_disk e k d t M (begun, good)))

    incs : AreOfInc k d.inc outs
    incs = subst (λ i. AreOfInc k i outs) (let u = it e k d t M (begun, good) in u.server) truly.3

restart_walk : (hd : Header) (e k : ℕ) (d : Disk) (M : Seen) → AreSince (down k d M) →
    Walks AreSince e k (restart_outs hd k (d.inc + 1) d) (Up AreSince k (parts_in k (d.inc + 1) d)) d M
restart_walk hd e k d M all = (
  looks,
  (
    rises,
    walk (d.inc + 1) e k (parts_in k (d.inc + 1) d) (rest hd k d) (record d { inc = d.inc + 1 }) M (mine k d None M all)
        (quiet_incs (d.inc + 1) (rest hd k d) (rest_quiet hd k d)) (omega arith) (others k d None M all),
  ),
)
  where
    left : (c : Disk) → d.inc ≤ c.inc → AreSince (halted e k c M)
    left c low = back k c None M (later (next_inc M.start k) d.inc c.inc (mine k d None M all) low) (others k d None M all)
      where
        later : (a b c : ℕ) → a ≤ b + 1 → b ≤ c → a ≤ c + 1
        later a b c x y = omega (arith, x, y)

    looks : (how : Stop) → AreSince (halted e k (stopped how Look d) M)
    looks Before = left d (omega arith)
    looks After = left d (omega arith)
    looks (InPart which) = left d (omega arith)

    rises : (how : Stop) → AreSince (halted e k (stopped how (PutInc (d.inc + 1)) d) M)
    rises Before = left d (omega arith)
    rises After = left (record d { inc = d.inc + 1 }) (omega arith)
    rises (InPart which) = left d (omega arith)

first_since : (hd : Header) → IsAtStarts hd AreSince
first_since hd st formed = λ k n is.
    subst (λ (m : Node). IsSince (next_inc st k) (let d = m.disk in d.inc) m.live) (first_at hd st k n is) (by k (st.up k))
  where
    by : (k : ℕ) (b : Bool) → IsSince (if b then st.incs k + 1 else st.incs k + 2) (st.incs k + 1)
        (if b then Some (parts_in k (st.incs k + 1) (disk_by hd st k)) else None)
    by k true = omega arith
    by k false = omega arith

pub since_given : (hd : Header) → KeepsGiven hd IsGood AreSince
since_given hd = record {
  quiet = λ e bs M quiet g p. p;
  stop = λ e k d live M g p. back k d None M (stops (next_inc M.start k) d.inc live (mine k d live M p)) (others k d live M p);
  message = λ e k d t v from m outs M g p there meant is. message_walk g.0 e k d t v from m outs M g.1 p is;
  act = λ e k d t i M is free g p. let r = acts i d.intents t.coord in
      goes_on e k (with_coord t r.part) t r.outs d M p (quiet_incs d.inc r.outs (acts_quiet g.0 e k d t M g.1 hd i is free));
  begin = λ e k d t l how parent M new may free g p.
      let did = begin_action l how parent (parent_of parent t.coord) t.coord in
      goes_on e k (with_coord t did.part) t did.outs d (given l (record { node = k; serial = is_serial how }) M) p (tt, tt);
  tick = λ e k d t M g p. let outs = tick_outs (record { number = k; disk = d; live = Some t }) t in
      goes_on e k (with_coord t (again_all t.coord.doings t.coord).part) t outs d M p (quiet_incs d.inc outs
      (tick_quiet g.0 e k d t M g.1));
  restart = λ e k d M g p. restart_walk hd e k d M p;
  first = first_since hd;
}
