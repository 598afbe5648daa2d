-- Each number that stands for a node, wherever it's named, in every run.
use Rattle.arj_law_parts.proofs.Words
use Words.{◌≡◌, ◌≤◌, ◌+◌, ◌==◌, ◌&&◌, ℕ, zero, suc, Bool, true, false, List, [], ◌∷◌, length, map, refl, sym, subst, arith}
use Words.{⊎_elim, Option, Some, None, IfSome, if◌then◌else◌, nat_le, slice_get, AllByRecursion, list_all, and_parts, leb-true, nat_tests}
use Words.{Header, Message, ObjectLine, ObjectState, Uid, again_all, begin_action, Coord, Disk, Do, Effect, Say, Send, stopped, worked}
use Words.{tick_outs, Parts, with_coord, put_uid, Input, Node, acts, node_by, numbers_to, parent_of}
use Words.{parts_in, put_states, refusal_up, restart_outs, Frame, World, world_from, run_event, entry_back, world_by, is_serial}
use Words.{◌++◌, Body, IsFormed, Line, Post, Seen, Start, numbered, see}
use Words.body
use Words.input
use Rattle.arj_law_runs.proofs.Terms
use Terms.{IsAtStarts, Run, disk_by, entries_from, entry_by, Asked, HasPlace, Holds, IsSent, KeepsAsked, is_act, In, at, given, posted}
use Terms.{AreQuiet, said, up, Up, Walks, event_asked, keeps_asked}
use Terms.{moves_asked, walks_both, AllOf, AreOf, CoordOf, DiskOf, EntryOf, IsEntry, PartsOf, StateOf}
use Rattle.arj_journal.specs.ScriptForm.{ObjectLineInForm}
use Rattle.arj_promise.specs.Runs.{HeaderFits}
use Rattle.arj_journal.specs.declared.limits.TheConstants.{SERVERS, STORES}
use Rattle.arj_law_parts.proofs.moves.EachNode as at_each
use Rattle.arj_law_parts.proofs.moves.Happens.{first_asked}
use Rattle.arj_law_parts.specs.moves.Keeps.{AsksNode}
use Rattle.arj_law_parts.specs.moves.Seen.{is_quiet_line}
use Rattle.arj_law_runs.proofs.addresses
use addresses.{CoordBegins.Needs, CoordBegins.acts_of, CoordBegins.begin_of, Lists.all_append, Lists.all_key, Lists.all_map}
use addresses.BindRuns.{AreBound, answers_fit, binds_keep, commit_keeps}
use addresses.Nodes.{handled_of, parts_stay, restart_of, starts_of, stopped_of, tick_of, worked_of}
use Rattle.arj_law_runs.specs.addresses.Addresses.{AreAddressed, AreSo, GoWithin, IsNode, LineOf, NodeOf, PostOf, SaysOf, UpOf}
use Rattle.arj_start.specs.Start.{Marks}
use Rattle.arj_text.specs.Fields.{NodesInForm, is_distinct}

module _ (G : ℕ → Type 0) where
  abbrev Is : Node → Type 0
  Is n = NodeOf G n

  abbrev All : Seen → Type 0
  All M = AreSo G M

  abbrev Lines : List Line → Type 0
  Lines lines = AllByRecursion (λ (l : Line). SaysOf G l.body) lines

  -- of each node but this, and of all that was sent
  abbrev RestIsSo : ℕ → Seen → Type 0
  RestIsSo k M = at_each.EachBut Is k M × ((p : Post) → In p M.sent → PostOf G p) × Lines M.lines

  rest : (k : ℕ) (d : Disk) (live : Option Parts) (M : Seen) → All (at k d live M) → RestIsSo k M
  rest k d live M all = (at_each.others Is k d live M all.0, all.1, all.2)

  -- lines that are said since
  says_more : (e : ℕ) (bs : List Body) (lines : List Line) → AllByRecursion (SaysOf G) bs → Lines lines → Lines (lines ++ numbered e bs)
  says_more e bs lines new old = all_append (λ (l : Line). SaysOf G l.body) lines (numbered e bs) old (each bs new)
    where
      each : (bs : List Body) → AllByRecursion (SaysOf G) bs → Lines (numbered e bs)
      each [] all = tt
      each (b ∷ bs) all = (all.0, each bs all.1)

  quiet_says : (bs : List Body) → AreQuiet bs → AllByRecursion (SaysOf G) bs
  quiet_says [] quiet = tt
  quiet_says (b ∷ bs) quiet =
      let p = and_parts (is_quiet_line b) (list_all is_quiet_line bs) quiet in (by b p.0, quiet_says bs p.1)
    where
      by : (b : Body) → is_quiet_line b ≡ true → SaysOf G b
      by (body.Sent j from to what) is = tt
      by (body.Got j) is = tt
      by (body.Void j) is = tt
      by (body.Dropped j) is = tt
      by (body.Armed n) is = tt
      by (body.Refused c) is = tt
      by (body.Entry x v servers stores) is = tt
      by (body.Copy n x v w payload) is = tt
      by (body.Quiet q) is = tt
      by (body.Limit l) is = tt
      by b is = absurd (cc is)

  own : (k : ℕ) (d : Disk) (live : Option Parts) (M : Seen) → All (at k d live M) → Is (record { number = k; disk = d; live = live })
  own k d live M all = at_each.own Is k d live M all.0

  back : (k : ℕ) (d : Disk) (live : Option Parts) (M : Seen) → Is (record { number = k; disk = d; live = live }) → RestIsSo k M →
      All (at k d live M)
  back k d live M its all = (at_each.back Is k d live M its all.0, all.1, all.2)

  module _ (one : G 1) where
    -- whatever a node does
    walk : (e k : ℕ) (outs : List Effect) (v : Parts) (d : Disk) (M : Seen) → G k → DiskOf G d → PartsOf G d v → AllOf G outs →
        RestIsSo k M → Walks All e k outs (Up All k v) d M
    walk e k [] v d M num disk its outs all = back k d (Some v) M (num, disk, its) all
    walk e k (Do w ∷ es) v d M num disk its outs all = (
      λ how. let more = says_more e (body.Halted k ∷ []) M.lines (num, tt) all.2 in
          back k (stopped how w d) None (said e (body.Halted k ∷ []) M) (num, stopped_of G one how w d outs.0 disk, tt)
          (all.0, all.1, more),
      walk e k es v (worked w d) M num (worked_of G one w d outs.0 disk) (parts_stay G one w d v its) outs.1 all,
    )
    walk e k (Say b ∷ es) v d M num disk its outs all = walk e k es v d (said e (b ∷ []) M) num disk its outs.1
        (all.0, all.1, says_more e (b ∷ []) M.lines (outs.0, tt) all.2)
    walk e k (Send to m ∷ es) v d M num disk its outs all = λ more quiet.
        walk e k es v d (said e more (posted (record { from = k; to = to; message = m }) M)) num disk its outs.1 (
          all.0,
          λ p. ⊎_elim (λ same. subst (PostOf G) same (num, outs.0.0, outs.0.1)) (λ old. all.1 p old),
          says_more e more M.lines (quiet_says more quiet) all.2,
        )

    module _ (hd : Header) (nodes : (s : ℕ) → (nat_le 1 s && nat_le s hd.nodes) ≡ true →
        G s) (objects : AllByRecursion (LineOf G) hd.objects) where
      numbers : AreOf G (numbers_to hd.nodes)
      numbers = upto hd.nodes (λ s a b. nodes s (both a b))
        where
          both : {a b : Bool} → a ≡ true → b ≡ true → (a && b) ≡ true
          both a b = λ i. a i && b i

          still : (s n : ℕ) → nat_le s n ≡ true → nat_le s (suc n) ≡ true
          still s n h = grind (arith, nat_tests)

          first : (n : ℕ) → nat_le 1 (suc n) ≡ true
          first n = grind (arith, nat_tests)

          last : (n : ℕ) → nat_le (suc n) (suc n) ≡ true
          last n = grind (arith, nat_tests)

          upto : (n : ℕ) → ((s : ℕ) → nat_le 1 s ≡ true → nat_le s n ≡ true → G s) → AreOf G (numbers_to n)
          upto zero each = tt
          upto (suc n) each =
              all_append G (numbers_to n) (suc n ∷ []) (upto n (λ s a b. each s a (still s n b))) (each (suc n) (first n) (last n), tt)

      -- ---- as a run begins

      states : (ss : List ObjectState) (held : List (Uid × ObjectState)) → AllByRecursion (StateOf G) ss →
          AllByRecursion (λ (e : Uid × ObjectState). IsEntry e.0 × StateOf G e.1) held →
          AllByRecursion (λ (e : Uid × ObjectState). IsEntry e.0 × StateOf G e.1) (put_states ss held)
      states [] held all had = had
      states (s ∷ ss) held all had = states ss (put_uid s.uid s held) all.1 (all_key IsEntry (StateOf G) s.uid s held all.0.0 all.0 had)

      entries : (marks : Marks) (b : Bool) →
          AllByRecursion (StateOf G) (if b then map (λ (o : ObjectLine). entry_by hd.format (marks.entries o.x) o) hd.objects else [])
      entries marks true = all_map (LineOf G) (StateOf G) (λ (o : ObjectLine). entry_by hd.format (marks.entries o.x) o) hd.objects
          (λ o l. (
            refl,
            subst (EntryOf G) (sym (entry_back (record { servers = o.servers; stores = o.stores })))
                (record { servers = l.0; stores = l.1; some = l.2 }),
          )) objects
      entries marks false = tt

      module _ (st : Start) where
        disk_of : (k : ℕ) → DiskOf G (disk_by hd st k)
        disk_of k = record {
          store = tt;
          names = tt;
          held = states (entries_from k hd st.marks) [] (entries st.marks (k == 1)) tt;
          intents = tt;
        }

        first_of : (k : ℕ) → G k → Is (node_by hd st k)
        first_of k its = (its, disk_of k, live (st.up k))
          where
            live : (b : Bool) →
                UpOf G (disk_by hd st k) (if b then Some (parts_in k (st.incs k + 1) (disk_by hd st k)) else None)
            live true = starts_of G one k (st.incs k + 1) (disk_by hd st k) its (disk_of k)
            live false = tt

        first_at : (ns : List ℕ) (i : ℕ) (n : Node) → AreOf G ns → slice_get (map (node_by hd st) ns) i ≡ Some n → Is n
        first_at [] i n all is = absurd (cc is)
        first_at (m ∷ ms) zero n all is = let same : node_by hd st m ≡ n = cc is in subst Is same (first_of m all.0)
        first_at (m ∷ ms) (suc i) n all is = first_at ms i n all.1 is

      first_so : IsAtStarts hd All
      first_so st formed = (λ j n is. at_first j n is, λ p no_way. absurd no_way, tt)
        where
          at_first : (j : ℕ) (n : Node) → (let M = see [] (world_from hd st) in M.nodes j) ≡ Some n → Is n
          at_first zero n is = absurd (cc is)
          at_first (suc j) n is = first_at st (numbers_to hd.nodes) j n numbers is

      -- ---- handlers

      needs : (i : Input) (e k : ℕ) (d : Disk) (t : Parts) (M : Seen) → AreBound (up k d t M) → is_act i ≡ true → AsksNode hd i →
          refusal_up hd i t.coord ≡ None → Needs G one i t.coord
      needs (input.Begin l q parent) e k d t M known is asks free = let no_way : false ≡ true = is in cc
      needs (input.Include l x s) e k d t M known is asks free = nodes s asks
      needs (input.Commit l) e k d t M known is asks free = let h = known.0 in commit_keeps h.0 e k d t M h.1 known.1 hd l free
      needs (input.Call l x o) e k d t M known is asks free = tt
      needs (input.Abort l) e k d t M known is asks free = tt
      needs (input.GiveUp l) e k d t M known is asks free = tt
      needs (input.Frame j from m) e k d t M known is asks free = tt
      needs input.Tick e k d t M known is asks free = tt
      needs input.Restart e k d t M known is asks free = tt
      needs input.Crash e k d t M known is asks free = tt
      needs (input.Show x) e k d t M known is asks free = tt

      abbrev Whole : Seen → Type 0
      Whole M = AreBound M × All M

      both : (e k : ℕ) (outs : List Effect) (v : Parts) (d : Disk) (M : Seen) → Walks AreBound e k outs (Up AreBound k v) d M →
          Walks All e k outs (Up All k v) d M → Walks Whole e k outs (Up Whole k v) d M
      both e k outs v d M a b = walks_both AreBound All e k outs (Up AreBound k v) (Up All k v) d M a b

      base : KeepsAsked hd AreBound
      base = keeps_asked hd AreBound (binds_keep hd)

      pub so_kept : KeepsAsked hd Whole
      so_kept = record {
        quiet = λ e bs M quiet all. (
          base.quiet e bs M quiet all.0,
          (let s = all.1 in (s.0, s.1, says_more e bs M.lines (quiet_says bs quiet) s.2)),
        );
        stop = λ e k d live M all.
            let n = own k d live M all.1 in
            let r = rest k d live M all.1 in (
              base.stop e k d live M all.0,
              back k d None (said e (body.Halted k ∷ []) M) (n.0, n.1, tt)
                  (r.0, r.1, says_more e (body.Halted k ∷ []) M.lines (n.0, tt) r.2),
            );
        message = λ e k d t v from m outs M all there meant is.
            let n = own k d (Some t) M all.1 in
            let known = all.0 in
            let good = known.0 in
            let p = all.1.1 (record { from = from; to = k; message = m }) there in
            let h = handled_of G one k d t from n.0 p.0 n.1 n.2 m v outs (answers_fit good.0 e k d t M good.1 known.1 from m there) p.2 is in
            both e k outs v d M (base.message e k d t v from m outs M known there meant is)
            (walk e k outs v d M n.0 n.1 h.0 h.1 (rest k d (Some t) M all.1));
        act = λ e k d t i M is asks free all.
            let n = own k d (Some t) M all.1 in
            let did = acts i d.intents t.coord in
            let a = acts_of G one i d.intents t.coord (needs i e k d t M all.0 is asks free) n.2.coord in
            both e k did.outs (with_coord t did.part) d M (base.act e k d t i M is asks free all.0)
            (walk e k did.outs (with_coord t did.part) d M n.0 n.1 (with_it d t did.part n.2 a.0) a.1 (rest k d (Some t) M all.1));
        begin = λ e k d t l how parent M new may free all.
            let n = own k d (Some t) M all.1 in
            let did = begin_action l how parent (parent_of parent t.coord) t.coord in
            let a = begin_of G one l how parent t.coord free n.2.coord in
            let N = given l (record { node = k; serial = is_serial how }) M in
            both e k did.outs (with_coord t did.part) d N (base.begin e k d t l how parent M new may free all.0)
            (walk e k did.outs (with_coord t did.part) d N n.0 n.1 (with_it d t did.part n.2 a.0) a.1 (rest k d (Some t) M all.1));
        tick = λ e k d t M all.
            let n = own k d (Some t) M all.1 in
            let x : Node = record { number = k; disk = d; live = Some t } in
            let a = tick_of G one x t n.1 n.2 in
            let v = with_coord t (again_all t.coord.doings t.coord).part in
            both e k (tick_outs x t) v d M (base.tick e k d t M all.0)
            (walk e k (tick_outs x t) v d M n.0 n.1 a.0 a.1 (rest k d (Some t) M all.1));
        restart = λ e k d M all.
            let n = own k d None M all.1 in
            both e k (restart_outs hd k (d.inc + 1) d) (parts_in k (d.inc + 1) d) d M (base.restart e k d M all.0)
            (walk e k (restart_outs hd k (d.inc + 1) d) (parts_in k (d.inc + 1) d) d M n.0 n.1 (starts_of G one k (d.inc + 1) d n.0 n.1)
            (restart_of G one hd k d n.0 numbers n.1) (rest k d None M all.1));
        first = λ st formed. (base.first st formed, first_so st formed);
      }
        where
          with_it : (d : Disk) (t : Parts) (c : Coord) → PartsOf G d t → CoordOf G c → PartsOf G d (with_coord t c)
          with_it d t c its k = record { server = its.server; naming = its.naming; coord = k }

      pub runs_so : (r : Run hd) → Holds hd All (world_by hd r)
      runs_so r = let h = moves_asked hd Whole so_kept r in
          record { sent = h.sent; stands = h.stands; holds = let all = h.holds in all.1 }

-- ---- the numbers up to the header's

module _ (hd : Header) (form : HeaderFits hd) where
  abbrev Fits : ℕ → Type 0
  Fits n = IsNode hd n

  fits_one : Fits 1
  fits_one = let n = form.nodes.0 in grind (arith, nat_tests, n)

  listed : (ns : List ℕ) → list_all (λ m. nat_le 1 m && nat_le m hd.nodes) ns ≡ true → AreOf Fits ns
  listed [] are = tt
  listed (n ∷ ns) are = let p = and_parts (nat_le 1 n && nat_le n hd.nodes) (list_all (λ m. nat_le 1 m && nat_le m hd.nodes) ns) are in
      (p.0, listed ns p.1)

  in_form : (most : ℕ) (ns : List ℕ) → NodesInForm hd.nodes most ns → AreOf Fits ns × (1 ≤ length ns)
  in_form most ns are =
      let p = and_parts (nat_le 1 (length ns) && nat_le (length ns) most)
      (list_all (λ m. nat_le 1 m && nat_le m hd.nodes) ns && is_distinct ns) are in (
        listed ns (and_parts (list_all (λ m. nat_le 1 m && nat_le m hd.nodes) ns) (is_distinct ns) p.1).0,
        leb-true 1 (length ns) (and_parts (nat_le 1 (length ns)) (nat_le (length ns) most) p.0).0,
      )

  lines : (os : List ObjectLine) → AllByRecursion (ObjectLineInForm hd.nodes) os → AllByRecursion (LineOf Fits) os
  lines [] all = tt
  lines (o ∷ os) all = let f = all.0 in let s = in_form SERVERS o.servers f.servers in
      ((s.0, (in_form STORES o.stores f.stores).0, s.1), lines os all.1)

  frames_fit : (sent : List Post) → ((p : Post) → In p sent → PostOf Fits p) → (fs : List Frame) → AllByRecursion (IsSent sent) fs →
      AllByRecursion (λ (f : Frame). HasPlace hd f.to f.message) fs →
      AllByRecursion (λ (f : Frame). (nat_le 1 f.to && nat_le f.to hd.nodes) ≡ true) fs
  frames_fit sent posts [] are have = tt
  frames_fit sent posts (f ∷ fs) are have = (by f.message are.0 have.0, frames_fit sent posts fs are.1 have.1)
    where
      by : (m : Option Message) → IfSome m (λ x. In (record { from = f.from; to = f.to; message = x }) sent) → HasPlace hd f.to m →
          Fits f.to
      by None there place = place
      by (Some m) there place = let p = posts (record { from = f.from; to = f.to; message = m }) there in p.1

  -- what a relation that each handler keeps says of a world's frames
  pub within_of : (w : World) → Holds hd (AreAddressed hd) w → GoWithin hd.nodes w
  within_of w h = let all = h.holds in let so = all.1 in frames_fit h.sent so.1 w.frames h.stands.frames h.stands.junk

  pub kept : KeepsAsked hd (AreAddressed hd)
  kept = so_kept Fits fits_one hd (λ s is. is) (lines hd.objects form.objects.0)

  pub first_within : (st : Start) → IsFormed hd st → Holds hd (AreAddressed hd) (world_from hd st)
  first_within st formed = first_asked hd st (AreAddressed hd) formed kept

  pub event_within : (e : Asked) (w : World) → Holds hd (AreAddressed hd) w → Holds hd (AreAddressed hd) (run_event e w)
  event_within e w h = event_asked hd (AreAddressed hd) kept e w h

  pub within : (r : Run hd) → GoWithin hd.nodes (world_by hd r)
  within r = within_of (world_by hd r) (moves_asked hd (AreAddressed hd) kept r)

  -- and of its lines
  pub lines_name : (r : Run hd) → AllByRecursion (λ (l : Line). SaysOf (IsNode hd) l.body) (let w = world_by hd r in w.lines)
  lines_name r = let h = moves_asked hd (AreAddressed hd) kept r in let all = h.holds in all.1.2
