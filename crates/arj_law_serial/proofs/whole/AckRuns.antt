-- Who acknowledges is known in every run: where actions begin and nodes start, and in all.
use Rattle.arj_law_parts.proofs.Words
use Words.{◌≡◌, ◌≤◌, ◌+◌, ◌==◌, ◌∙◌, ◌&&◌, arith, ℕ, List, [], ◌∷◌, ◌++◌, length, map, Bool, true, false, Option, Some, None, Contains}
use Words.{refl, sym, ap, subst, inl, inr, eqb-true, AllByRecursion, and_parts, in_from, in_to, Ask, Body, Head, Header, Kind, Label, Uid}
use Words.{asks, before_last, first_uid, is_on, uids_of, actor, began_line, begin_action, back_lines, Coord, Did, Disk, Do, Effect, Intent}
use Words.{Look, PutInc, Say, Named, Naming, Parts, prepared_actions, query_about, with_coord, has, uid_set, without_number, begin_refusal}
use Words.{hello_to, naming_at, naming_back, numbers_to, parent_of, parts_in, recovered_records, restart_outs, tolds_again}
use Words.{Branch, branch_of, is_own, next_uid, Post, Seen, is_serial}
use Words.list
use Words.body
use Words.kind
use Rattle.arj_law_serial.proofs.Terms
use Terms.{IsAtStarts, live_first}
use Terms.{Action, AreBegun, IsNew, act_of, paths_of, IsGoodCoord, on_own, path_found, path_some, found_by, all_both, all_flat, all_map}
use Terms.{IsGoodOf, begin_good, its_uid, good_coord, it, MayGive, label_at, In, down, given, said, up, Up, Walks, quiet_again, AllQuiet}
use Terms.{node_here, first_at, IsRecorded, KeepsOf, begins_in, KnowsParted, asks_part, IsTopOf, parted_keep, IsPartAsked, AcksAreKnown}
use Terms.{AreHomed, AreListed, IsPartOf, KnowsAcked, KnowsAcks}
use Rattle.arj_law_parts.proofs.parts.Begun.{before_more}
use Rattle.arj_law_parts.specs.parts.{Actions.Stands, Claims.IsOfNode}
use Rattle.arj_law_runs.proofs.calls.CoordSends.{IsQuiet}
use Rattle.arj_law_serial.proofs.whole
use whole.AckSteps.{Others, acks_walk, down_known, known_at, of_node, records_at}
use whole.AckTells.{AllTell, TellSo, again_so, queries_so, silent}
use whole.AckWalks.{AcksNeed, act_acks, all_at, ended_of, message_acks, never, sent_after, some_is, tick_acks, voter_low, votes_quiet}
use whole.AckWalks.{tell_may}
use Rattle.arj_law_parts.proofs.parts.Keys as keys

-- ---- one action begins

begun_listed : (a : Action) (begun : List Action) (records : Uid → Option Intent) (sent : List Post) → IsNew (act_of a) begun →
    ((u : Uid) (k : ℕ) → IsPartAsked sent u k → IsTopOf begun u) → AreListed begun records sent → AreListed (a ∷ begun) records sent
begun_listed a begun records sent new tops l = record {
  listed = l.listed;
  ended = l.ended;
  aborts = λ p w u there told part v r. l.aborts p w u there told (older u w part (tops u p.to v)) v r;
  asked = l.asked;
}
  where
    older : (u w : Uid) → IsPartOf (a ∷ begun) u w → IsTopOf begun u → IsPartOf begun u w
    older u w (inl same) top = inl same
    older u w (inr b) top = by (in_from b.0 (a ∷ begun) b.1)
      where
        by : list.In b.0 (a ∷ begun) → IsPartOf begun u w
        by (inr old) = inr (b.0, in_to b.0 begun old, b.2, b.3, b.4)
        by (inl same) =
            absurd (never (on_own top.0.path) (ap (is_on (uids_of top.0.path)) (top.2 ∙ sym b.2 ∙ ap act_of (sym same)) ∙ new top.0 top.1))

-- who begins is of its root's node
home_begins : (a : Action) (begun : List Action) (k : ℕ) → AreHomed begun → Stands begun a a.kind → (act_of a).node ≡ k →
    ((b : Action) → Contains begun b → before_last (uids_of a.path) ≡ Some (act_of b) → (act_of b).node ≡ k) →
    (first_uid (uids_of a.path)).node ≡ (act_of a).node
home_begins a begun k homes stands home parent = by a.kind stands
  where
    first_more : (us : List Uid) (u : Uid) → 1 ≤ length us → first_uid (us ++ u ∷ []) ≡ first_uid us
    first_more [] u some = absurd (omega (arith, some))
    first_more (w ∷ ws) u some = refl

    below : (b : Action) → Contains begun b → uids_of a.path ≡ uids_of b.path ++ act_of a ∷ [] →
        (first_uid (uids_of a.path)).node ≡ (act_of a).node
    below b there is =
        let its = parent b there (ap before_last is ∙ before_more (uids_of b.path) (act_of a) (path_some b.path)) in
        ap (λ (us : List Uid). (first_uid us).node) is
        ∙ ap (λ (u : Uid). u.node) (first_more (uids_of b.path) (act_of a) (path_some b.path)) ∙ all_at
        (λ (z : Action). (first_uid (uids_of z.path)).node ≡ (act_of z).node) begun b homes (in_from b begun there) ∙ its ∙ sym home

    by : (kd : Kind) → Stands begun a kd → (first_uid (uids_of a.path)).node ≡ (act_of a).node
    by kind.Nested s = below s.0 s.1 s.3
    by kind.Constituent s = below s.0 s.1 s.3
    by kind.Top s = ap (λ (us : List Uid). (first_uid us).node) s.0
    by kind.Serial s = ap (λ (us : List Uid). (first_uid us).node) s.0
    by kind.Independent s = ap (λ (us : List Uid). (first_uid us).node) s.0

module _ (hd : Header) (few : Bool) (begun : List Action) (e k : ℕ) (d : Disk) (t : Parts) (l : Label) (how : Kind) (parent : Option Label)
    (M : Seen) (new : label_at l M.labels ≡ None) (may : MayGive M.labels k how parent) (free : begin_refusal how t.coord parent ≡ None)
    (more : AcksNeed few begun (up k d t M)) (good : IsGoodOf begun (up k d t M)) (all : AcksAreKnown few begun (up k d t M)) where
  abbrev a : Action
  a = begins_in how parent t

  abbrev did : Did Coord
  did = begin_action l how parent (parent_of parent t.coord) t.coord

  abbrev M2 : Seen
  M2 = given l (record { node = k; serial = is_serial how }) M

  begin_acks : Walks (AcksAreKnown few (a ∷ begun)) e k did.outs (Up (AcksAreKnown few (a ∷ begun)) k (with_coord t did.part)) d M2
  begin_acks = of_node few (a ∷ begun) k (with_coord t did.part) d (Some (with_coord t did.part))
      (said e (began_line l how (next_uid t.coord.tree) parent ∷ []) M2) (home, all.homes)
      (begun_listed a begun (records_at k d.intents M.nodes) M.sent later.0.new voters z.0) z.1 (λ v is. subst
      (KnowsAcked few M.sent k d.intents) (some_is is) (record { voted = mine.voted; acked = mine.acked; awaited = mine.awaited }))
    where
      after : IsGoodOf (a ∷ begun) (up k d (with_coord t did.part) (said e (began_line l how (next_uid t.coord.tree) parent ∷ []) M2))
      after = begin_good e k d t l how parent M new may free (begun, good)

      later : AreBegun (a ∷ begun)
      later = after.begun

      z : AreListed begun (records_at k d.intents M.nodes) M.sent × Others few begun k t M
          × KnowsAcks few M.sent k (record { number = k; disk = d; live = Some t })
      z = known_at few begun k t d (Some t) M all

      mine : KnowsAcked few M.sent k d.intents t
      mine = z.2 t refl

      voters : (u : Uid) (j : ℕ) → IsPartAsked M.sent u j → IsTopOf begun u
      voters u j v = subst (IsTopOf begun) v.by (more.1.1.1.0.tops v.post v.head v.ask v.there v.is v.part)

      uid : act_of a ≡ next_uid t.coord.tree
      uid = its_uid e k d t l how parent M new may free (begun, good)

      node : t.coord.tree.node ≡ k
      node = let x = it 0 k d t M (begun, good) in x.node

      coord : IsGoodCoord (a ∷ begun) (paths_of (a ∷ begun)) did.part
      coord = good_coord 0 k d (with_coord t did.part) (said e (began_line l how (next_uid t.coord.tree) parent ∷ []) M2) (a ∷ begun, after)

      same : (n : ℕ) → (n == n) ≡ true
      same n = grind arith

      home : (first_uid (uids_of a.path)).node ≡ (act_of a).node
      home = home_begins a begun k all.homes later.0.stands (ap (λ (u : Uid). u.node) uid ∙ node) parents
        where
          there : (b : Branch) × (branch_of (act_of a) did.part.tree ≡ Some b) × (b.path ≡ a.path)
          there = coord.home a (act_of a) (in_to a (a ∷ begun) (inl refl)) (on_own a.path) (own_it (sym uid))
            where
              own_it : next_uid t.coord.tree ≡ act_of a → is_own (act_of a) did.part.tree ≡ true
              own_it is = subst (λ u. is_own u did.part.tree ≡ true) is (λ i. same t.coord.tree.node i && same t.coord.tree.inc i)

          parents : (b : Action) → Contains begun b → before_last (uids_of a.path) ≡ Some (act_of b) → (act_of b).node ≡ k
          parents b known is =
              let q = coord.tree.lists.parents (act_of a) (act_of b) there.0 there.1
              (ap before_last (path_found (a ∷ begun) later a (in_to a (a ∷ begun) (inl refl))) ∙ is) in
              eqb-true (act_of b).node did.part.tree.node (and_parts ((act_of b).node == did.part.tree.node)
              ((act_of b).inc == did.part.tree.inc) (found_by (act_of b) did.part.tree q.0 q.1).0).0 ∙ node

-- ---- restarts

module _ (hd : Header) (few : Bool) (begun : List Action) (e k : ℕ) (d : Disk) (M : Seen) (more : AcksNeed few begun (down k d M))
    (good : IsGoodOf begun (down k d M)) (all : AcksAreKnown few begun (down k d M)) where
  abbrev v : Parts
  v = parts_in k (d.inc + 1) d

  abbrev outs : List Effect
  outs = restart_outs hd k (d.inc + 1) d

  restart_acks : Walks (AcksAreKnown few begun) e k outs (Up (AcksAreKnown few begun) k v) d M
  restart_acks = acks_walk few begun k v e outs d M all.homes (z.0, knows) z.1
      (tell_may few begun good.begun all.homes k v M.nodes d.intents (sent_after k outs M.sent) tops outs M.sent refl tells
      (votes_quiet few begun good.begun all.homes k d.intents (sent_after k outs M.sent) outs quiet))
    where
      z : AreListed begun (records_at k d.intents M.nodes) M.sent × Others few begun k v M
          × KnowsAcks few M.sent k (record { number = k; disk = d; live = None })
      z = known_at few begun k v d None M all

      knows : KnowsAcked few M.sent k d.intents v
      knows = record {
        voted = λ u on. let no_way : false ≡ true = on in absurd (cc no_way);
        acked = λ counted u a. inr (λ i x. let low = voter_low (down k d M) (more.0 counted) u k i
            (record { number = k; disk = d; live = None }) (node_here M k (record { number = k; disk = d; live = None })) x in
            omega (arith, low));
        awaited = λ u j i m telling at on isnt. absurd (never (ap (λ (y : Intent). has y.nodes m) (some_is (sym telling ∙ at)) ∙ on) isnt);
      }

      tops : (p : Post) (h : Head) (a : Ask) → In p (sent_after k outs M.sent) → asks p.message ≡ Some (h, a) → asks_part a ≡ true →
          IsTopOf begun (actor h.path)
      tops = let r = ended_of (KnowsParted begun) e k v outs d M ((parted_keep hd).restart begun e k d M tt good more.1.1.1.0) in
          subst (λ sent. (p : Post) (h : Head) (a : Ask) → In p sent → asks p.message ≡ Some (h, a) → asks_part a ≡ true →
          IsTopOf begun (actor h.path)) r.sent r.holds.tops

      rec : IsRecorded begun (record { number = k; disk = d; live = None })
      rec = more.1.1.0 k (record { number = k; disk = d; live = None }) (node_here M k (record { number = k; disk = d; live = None }))

      owned : (u : Uid) (j : Intent) → list.In {X = Uid × Intent} (u, j) d.intents → u.node ≡ k
      owned u j i = (all_at (λ (m : Uid × Intent). IsOfNode k d.inc m.0) d.intents (u, j) (let p = good.places k
          (record { number = k; disk = d; live = None }) (node_here M k (record { number = k; disk = d; live = None })) in p.disk.own) i).0

      us : List Uid
      us = uid_set (prepared_actions d.store ++ prepared_actions d.names)

      one : List Effect
      one = Do Look ∷ Do (PutInc (d.inc + 1)) ∷ Say (body.Up k (d.inc + 1)) ∷ Do Look ∷ naming_back (naming_at k (d.inc + 1) d.names)

      records : List Effect
      records = Do Look ∷ recovered_records k d.intents

      asking : List Effect
      asking = map query_about us

      hellos : List Effect
      hellos = map (hello_to k (d.inc + 1)) (without_number k (numbers_to hd.nodes))

      back_all : (P : Effect → Type 0) → ((b : Body) → P (Say b)) → (o : Option Naming) → AllByRecursion P (naming_back o)
      back_all P each None = tt
      back_all P each (Some o) = all_flat P (λ (e : ℕ × Named). back_lines e.1) o.objects (λ e. all_map P _ e.1.rows (λ r. each _))

      tells : AllTell begun good.begun k d.intents outs
      tells = all_both P (one ++ records ++ tolds_again d.intents ++ asking) hellos
          (all_both P (one ++ records ++ tolds_again d.intents) asking (all_both P (one ++ records) (tolds_again d.intents)
          (all_both P one records (tt, (tt, (tt, (tt, back_all P (λ b. tt) (naming_at k (d.inc + 1) d.names)))))
          (tt, all_map P (λ (e : Uid × Intent). Say (body.Recovered k e.0)) d.intents (λ e. tt)))
          (again_so begun good.begun k d.intents d.intents (λ u j i. ((j, keys.in_at (u, j) d.intents rec.disk.sorted i), owned u j i))))
          (queries_so begun good.begun k d.intents us))
          (all_map P (hello_to k (d.inc + 1)) (without_number k (numbers_to hd.nodes))
          (λ w. silent begun good.begun k d.intents w _ refl refl refl))
        where
          P : Effect → Type 0
          P = TellSo begun good.begun k d.intents

      quiet : AllQuiet outs
      quiet = all_both IsQuiet (one ++ records ++ tolds_again d.intents ++ asking) hellos
          (all_both IsQuiet (one ++ records ++ tolds_again d.intents) asking (all_both IsQuiet (one ++ records) (tolds_again d.intents)
          (all_both IsQuiet one records (tt, (tt, (tt, (tt, back_all IsQuiet (λ b. tt) (naming_at k (d.inc + 1) d.names)))))
          (tt, all_map IsQuiet (λ (e : Uid × Intent). Say (body.Recovered k e.0)) d.intents (λ e. tt)))
          (quiet_again d.intents)) (all_map IsQuiet query_about us (λ u. refl)))
          (all_map IsQuiet (hello_to k (d.inc + 1)) (without_number k (numbers_to hd.nodes)) (λ w. refl))

-- ---- all runs

first_acks : (hd : Header) (few : Bool) → IsAtStarts hd (AcksAreKnown few [])
first_acks hd few st formed = record {
  homes = tt;
  world = record {
    listed = λ u i k is v. absurd v.there;
    ended = λ u k dem is v. absurd v.there;
    aborts = λ p w u there told part v r. absurd there;
    asked = λ u k a. absurd a.posted;
  };
  nodes = λ k n is. subst (KnowsAcks few [] k) (first_at hd st k n is)
      (λ t live. subst (KnowsAcked few [] k []) (live_first hd st k t live) (record {
        voted = λ u on. let no_way : false ≡ true = on in absurd (cc no_way);
        acked = λ counted u a. absurd a.posted;
        awaited = λ u j i m telling at on isnt. absurd (never (ap (λ (y : Intent). has y.nodes m) (some_is (sym telling ∙ at)) ∙ on) isnt);
      }));
}

pub acks_of : (hd : Header) (few : Bool) → KeepsOf hd (AcksNeed few) (AcksAreKnown few)
acks_of hd few = record {
  quiet = λ begun e bs M quiet more good all. record { homes = all.homes; world = all.world; nodes = all.nodes };
  stop = λ begun e k d live M more good all. let z = known_at few begun k (parts_in k d.inc d) d live M all in
      down_known few begun k (parts_in k d.inc d) e d M all.homes z.0 z.1;
  message = λ begun e k d t v from m outs M more good all there meant is.
      message_acks hd few begun e k d t M more good all v from m outs there meant is;
  act = λ begun e k d t i M is free more good all. act_acks hd few begun e k d t M more good all i is free;
  begin =
      λ begun e k d t l how parent M new may free more good all. begin_acks hd few begun e k d t l how parent M new may free more good all;
  tick = λ begun e k d t M more good all. tick_acks hd few begun e k d t M more good all;
  restart = λ begun e k d M more good all. restart_acks hd few begun e k d M more good all;
  first = first_acks hd few;
}
