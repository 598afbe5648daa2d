-- What is known of copies and votes of an object is kept by each handler of a run, with what is known there by the protocol alone.
use Rattle.arj_law_parts.proofs.Words
use Words.{Start, world_from}
use Words.{◌≡◌, ℕ, ◌+◌, List, [], ◌∷◌, Bool, true, false, Option, Some, None, refl, sym, ◌∙◌, ap, subst, option_map, AllByRecursion, Asked}
use Words.{Header, Kind, Label, Message, object, Reply, again_all, begin_action, Disk, Do, Effect, Say, Send, held_at, tick_outs, Parts}
use Words.{with_coord, Input, Node, acts, parent_of, parts_in, restart_outs, Seen, see, is_serial}
use Words.voted
use Rattle.arj_law_serial.proofs.Terms
use Terms.{first_up}
use Terms.{Action, AreBegun, paths_of, IsGoodCoord, IsTree, IsNumbered, begun_tree, path_found, true_query, well_acked, well_heard}
use Terms.{own_of_disk, tops_of_disk, VotesAreUsed, Core, World, Office, packed, Kinds, SeesStore, node_here, SeesBoth, CoordIsSo}
use Terms.{MayKeep, acts_so, begins_so, new_so, KnowsRequests, Run, start, Case, IsSeenIn, KnowsSpot, Spot, Fixed, view_of, HasCome}
use Terms.{case_of, SeesUp, is_for_parts, its, shown_to_server, IsMessageShown, AreApart, In, down, given, up, Up, Walks, AreBased}
use Terms.{CopiesAreBased, HasWriters, IsKnownState, IsVotedState, coord_fits, ArePlannedOver, SendsNoYes, StaysBased}
use Terms.state as lock
use Rattle.arj_law_disk_view.proofs.running.StateTicks.{restart_so, tick_so}
use Rattle.arj_law_serial.proofs.joint
use joint.{BasedLaws.coordinators_keep, BasedLaws.messages_keep, BasedMessages.shown_other, BasedNodes.keep, Mute.AllSilent}
use joint.{Mute.restart_silent}
use Rattle.arj_law_serial.specs.joint.BasedSteps.{AreNumberedSo, HeldAreKnown, KnowsVoting}

-- who answers nobody votes nothing
no_yeses : (outs : List Effect) → AllSilent outs → AllByRecursion SendsNoYes outs
no_yeses [] silent = tt
no_yeses (Say b ∷ es) silent = (tt, no_yeses es silent.1)
no_yeses (Do w ∷ es) silent = (tt, no_yeses es silent.1)
no_yeses (Send to m ∷ es) silent = (
  (λ a states is. let no_way : ◌≡◌ {A = Option (Asked × Reply)} None (Some (a, Reply.Voted (voted.Yes states))) = sym silent.0 ∙ is in
      cc no_way),
  no_yeses es silent.1,
)

-- what is voted and loaded may be kept
may_keep : (f : Fixed) (x : ℕ) (S : lock.State) (W : World) → MayKeep (coord_fits f x S W)
may_keep f x S W = keep x (IsKnownState W) (IsVotedState f x S W) (λ b base. Unit {0})

-- what a store holds is known
pub held_known : (x : ℕ) (tops : Kinds) (A : Office) (k : ℕ) (d : Disk) (t : Parts) (M : Seen) → SeesBoth x tops A (up k d t M) →
    HeldAreKnown x A.world d
held_known x tops A k d t M both y st held of =
    (packed st, (let z = both.disks in let w = z.whole in let c = w.core in let h = c.history in h.held k (packed st) here), refl, refl)
  where
    own : SeesStore x k d.store A.world.disk
    own = let z = both.disks in
        z.stores k (record { number = k; disk = d; live = Some t }) (node_here M k (record { number = k; disk = d; live = Some t }))

    here : A.world.disk.held k ≡ Some (packed st)
    here = let p = own.pair in
        sym p.held_is ∙ ap (λ o. option_map packed o) (ap (λ u. held_at u d.store) (sym of ∙ p.keyed (object y) st held) ∙ held)

-- ---- a node that is up

module _ (f : Fixed) (x k : ℕ) (begun : List Action) (S : lock.State) (W : World) (d : Disk) (t : Parts) (M : Seen)
    (seen : IsSeenIn (case_of f x begun S) (up k d t M)) (are : AreBased f x S W (up k d t M)) where
  abbrev here : (let N = up k d t M in N.nodes k) ≡ Some (record { number = k; disk = d; live = Some t })
  here = node_here M k (record { number = k; disk = d; live = Some t })

  abbrev s : Spot
  s = record { node = k; disk = d; parts = t; seen = M }

  abbrev c : Case
  c = case_of f x begun S

  reached : Run (start f.first) S
  reached = let z = seen.sees in z.run

  copies : CopiesAreBased x S W t.server
  copies = are.copies k (record { number = k; disk = d; live = Some t }) t here refl

  coord : CoordIsSo (coord_fits f x S W) t.coord
  coord = are.coords k (record { number = k; disk = d; live = Some t }) t here refl

  -- its coordinator does what an input is about, an action begins, or it ticks
  pub act_based : (e : ℕ) (i : Input) → let D = acts i d.intents t.coord in
      AllSilent D.outs → Walks (StaysBased f x begun S W) e k D.outs (Up (StaysBased f x begun S W) k (with_coord t D.part)) d M
  act_based e i silent =
      let D = acts i d.intents t.coord in
      let a = acts_so (coord_fits f x S W) (may_keep f x S W) i d.intents t.coord coord in
      coordinators_keep f x k begun S W d (Some t) M M reached are refl refl e (with_coord t D.part) D.outs copies a.0 a.1
      (no_yeses D.outs silent)

  pub begin_based : (more : List Action) (e : ℕ) (l : Label) (how : Kind) (parent : Option Label) →
      let D = begin_action l how parent (parent_of parent t.coord) t.coord in AllSilent D.outs
      → Walks (StaysBased f x more S W) e k D.outs (Up (StaysBased f x more S W) k (with_coord t D.part)) d
      (given l (record { node = k; serial = is_serial how }) M)
  begin_based more e l how parent silent =
      let D = begin_action l how parent (parent_of parent t.coord) t.coord in
      let a = begins_so (coord_fits f x S W) (may_keep f x S W) l how parent (parent_of parent t.coord) t.coord coord in
      coordinators_keep f x k more S W d (Some t) M (given l (record { node = k; serial = is_serial how }) M) reached are refl refl e
      (with_coord t D.part) D.outs copies a.0 a.1 (no_yeses D.outs silent)

  pub tick_based : (e : ℕ) → let outs = tick_outs (record { number = k; disk = d; live = Some t }) t in AllSilent outs
      → Walks (StaysBased f x begun S W) e k outs
      (Up (StaysBased f x begun S W) k (with_coord t (let z = again_all t.coord.doings t.coord in z.part))) d M
  tick_based e silent =
      let n : Node = record { number = k; disk = d; live = Some t } in
      let a = tick_so (coord_fits f x S W) (may_keep f x S W) n t coord in
      coordinators_keep f x k begun S W d (Some t) M M reached are refl refl e (with_coord t (let z = again_all t.coord.doings t.coord in
      z.part)) (tick_outs n t) copies a.0 a.1 (no_yeses (tick_outs n t) silent)

  -- ---- it takes a message

  acts_begun : AreBegun begun
  acts_begun = let g = seen.good in g.begun

  abbrev tree : IsTree (paths_of begun)
  tree = begun_tree begun acts_begun

  good : IsGoodCoord begun (paths_of begun) t.coord
  good = let i = its c s seen in let n = i.good (paths_of begun) tree (path_found begun acts_begun) in n.coord

  numbered : AreNumberedSo t.coord
  numbered a q y does now = (subst (IsNumbered q.req) now (let i = its c s seen in i.numbered a.act q does)).0

  knows : (from : ℕ) (m : Message) → KnowsRequests M.sent k t.coord → VotesAreUsed k t (up k d t M) → KnowsVoting k from d t m M
  knows from m requests used = record {
    requests = λ r is. requests;
    used = used;
    numbered = numbered;
    heard_true = λ a r. (well_heard begun (paths_of begun) tree from a r d.intents t.coord good).1;
    acked_true = λ u. (well_acked begun (paths_of begun) tree from u d.intents t.coord).1;
    query_true = λ u. true_query begun (paths_of begun) tree from u d.intents t.coord (tops_of_disk 0 k d t M (begun, seen.good))
        (own_of_disk 0 k d t M (begun, seen.good)) good;
  }

  shown : (from : ℕ) (m : Message) → In (record { from = from; to = k; message = m }) M.sent → (is_for_parts m ≡ true → KnowsSpot c s) →
      IsMessageShown (view_of f x begun k) t.server S m
  shown from m there spot = by (is_for_parts m) refl
    where
      by : (b : Bool) → is_for_parts m ≡ b → IsMessageShown (view_of f x begun k) t.server S m
      by true on = shown_to_server c s from m seen (spot on) there
      by false off = shown_other (view_of f x begun k) t.server S m off

  pub message_based_here : (tops : Kinds) (A : Office) → A.world ≡ W → SeesBoth x tops A (up k d t M) → AreApart f.code →
      ArePlannedOver f x S W → KnowsRequests M.sent k t.coord → VotesAreUsed k t (up k d t M)
      → (e from : ℕ) (m : Message) (v : Parts) (outs : List Effect) → HasCome s from m v outs → (is_for_parts m ≡ true → KnowsSpot c s) →
      Walks (StaysBased f x begun S W) e k outs (Up (StaysBased f x begun S W) k v) d M
  message_based_here tops A same both apart planned requests used e from m v outs come spot = messages_keep f x k begun S W d t M apart
      (subst (λ (V : World). Core V.disk) same (let z = both.disks in let w = z.whole in w.core))
      (subst (λ (V : World). HasWriters V.disk) same (let z = both.named in let p = z.plans in p.writer))
      reached are
      (let z = seen.sees in let w : SeesUp (view_of f x begun k) S d t = z.nodes k (record { number = k; disk = d; live = Some t }) here in
      w.server)
      planned (subst (λ (V : World). HeldAreKnown x V d) same (held_known x tops A k d t M both)) e from m v outs come.sent come.meant
      come.takes (shown from m come.sent spot) (knows from m requests used)

-- ---- a node that starts

pub restart_based : (hd : Header) (f : Fixed) (x k : ℕ) (begun : List Action) (S : lock.State) (W : World) (d : Disk) (M : Seen) →
    Run (start f.first) S → AreBased f x S W (down k d M) → (e : ℕ) → let outs = restart_outs hd k (d.inc + 1) d in
    Walks (StaysBased f x begun S W) e k outs (Up (StaysBased f x begun S W) k (parts_in k (d.inc + 1) d)) d M
restart_based hd f x k begun S W d M reached are e =
    coordinators_keep f x k begun S W d None M M reached are refl refl e (parts_in k (d.inc + 1) d) (restart_outs hd k (d.inc + 1) d) tt
    (new_so (coord_fits f x S W) (may_keep f x S W) k (d.inc + 1) d.intents) (restart_so (coord_fits f x S W) (may_keep f x S W) hd k d)
    (no_yeses (restart_outs hd k (d.inc + 1) d) (restart_silent hd k (d.inc + 1) d))

-- ---- as a run begins

pub first_based : (hd : Header) (st : Start) (f : Fixed) (x : ℕ) (S : lock.State) (W : World) → AreBased f x S W (see [] (world_from hd st))
first_based hd st f x S W = record {
  copies = λ j n t is live. subst (λ (p : Parts). CopiesAreBased x S W p.server) (first_up hd st j n t is live) tt;
  coords = λ j n t is live. subst (λ (p : Parts). CoordIsSo (coord_fits f x S W) p.coord) (first_up hd st j n t is live)
      (new_so (coord_fits f x S W) (may_keep f x S W) j (st.incs j + 1) []);
  posts = λ p i. absurd i;
  yeses = λ p a states i is. absurd i;
}
