-- What brings each node's acknowledgement of a record, its told or the acknowledgement, stays under way while messages are handled; a tick
-- sends it for all records of its node, and a decision for its own.
use Rattle.arj_law_parts.proofs.Words
use Words.{◌≡◌, ◌⊎◌, ◌∙◌, ℕ, Bool, true, false, cond, List, [], ◌∷◌, ◌++◌, map, refl, sym, ap, subst, inl, inr, ⊎_elim, Option, Some}
use Words.{None, eqb-true, arith, ◌&&◌, ◌||◌, ◌==◌, if◌then◌else◌, nat_tests, and_parts, in_left, in_right, Body, End, Header, Label}
use Words.{Message, Uid, Ask, Asked, Head, asks, Reply, answers, actor, Coord, Doing, Now, Idle, Calling, Committing, Plan, CommitStep}
use Words.{Stays, Asks, Decides, Aborts, Marked, plan_of, left_of, participants, has_record, Disk, Effect, Intent, Send, Handled, Parts}
use Words.{Took, Void, taken, taken_took, with_coord, Node, Did, Served, Branch, acts, again_all, tick_outs, tolds_again, query_about}
use Words.{holders, at_uid, put_uid, has, doing_of, on_doing, on_root, ended, ends_with, decide, decided_told, says, record_work}
use Words.{root_after, root_of, heard, heard_by, heard_call, heard_doing, heard_none, heard_now, kept_at, mark_lines, moved_commit}
use Words.{root_moved, step_commit, commits_in, waits_for_call, waits_for_commit, coord_heard, serve, handle_ask, handle_answer}
use Words.{branch_named, on_branch, is_free, tell, Post, Seen, IsSaid}
use Words.list as members
use Words.body
use Words.calls
use Words.cause
use Words.commit
use Words.ending
use Words.input
use Words.kind
use Words.message
use Rattle.arj_law_parts.proofs.parts.Keys.{put_cases}
use Rattle.arj_law_parts.proofs.parts.Tellings.{asks_telling, doing_telling, ended_telling, goes_telling, step_telling}
use Rattle.arj_law_parts.proofs.coordinator.Walks.{again_keeps}
use Rattle.arj_protocol.specs.Asking as asking_of
use Rattle.arj_law_runs.proofs.Terms.{at_in, In, up, SettlesAll}
use Rattle.arj_law_runs.proofs.coordinators.CoordUses.{some_is}
use Rattle.arj_law_runs.proofs.resting
use resting.{Effects.works, Flights.Left, Flights.SameWay, Flights.with_here, Serving.HasAnswered, Serving.IsServed, Serving.serve_served}
use resting.{Settles.Also, Ways.AllBut, Ways.Then, Ways.post_of}
use resting.Quiets as quiets
use resting.Quiets.{IsHandled, IsNothing, IsTaken, acked_of}
use Rattle.arj_law_runs.specs.resting.Quiet.{Acking, BringsAck, Telling, TellsCommit}
use Rattle.arj_law_cause.proofs.quiesces.Sents.{AllSent, IsSent, IsSentNow, StepSent, all_sent, answered_sent, starts_sent}

-- ---- what is under way

-- For each node that is to acknowledge a record of these nodes, what brings that is under way.
abbrev pub Acks : (ℕ → Type 0) → (ℕ → Option Node) → (Post → Type 0) → (Body → Type 0) → Type 0
Acks nodes found F B = (k : ℕ) (a : Node) (t : Parts) (u : Uid) (i : Intent) (j : ℕ) → nodes k → found k ≡ Some a → a.live ≡ Some t →
    at_uid u t.coord.telling ≡ Some i → has i.nodes j ≡ true → (p : Post) × F p × BringsAck k j u p

pub acks_more : (nodes : ℕ → Type 0) (found : ℕ → Option Node) (F U : Post → Type 0) (B D : Body → Type 0) → SameWay F U →
    ((b : Body) → B b → D b) → Acks nodes found F B → Acks nodes found U D
acks_more nodes found F U B D on said acks k a t u i j there is live at listed =
    let w = acks k a t u i j there is live at listed in (w.0, on.0 w.0 w.1, w.2)

pub acks_fewer : (nodes other : ℕ → Type 0) (found : ℕ → Option Node) (F : Post → Type 0) (B : Body → Type 0) →
    ((k : ℕ) → other k → nodes k) → Acks nodes found F B → Acks other found F B
acks_fewer nodes other found F B less acks k a t u i j there = acks k a t u i j (less k there)

-- ---- what a coordinator tells

-- these effects tell the node of the action's commit, to be acknowledged
abbrev pub TellsIn : List Effect → Uid → ℕ → Type 0
TellsIn outs u j = (x : Message) × members.In (Send j x) outs × TellsCommit u x

-- each node that is to acknowledge a record was to do so before, or is told in these effects
abbrev pub TellsNew : Coord → Coord → List Effect → Type 0
TellsNew c e outs = (u : Uid) (i : Intent) (j : ℕ) → at_uid u e.telling ≡ Some i → has i.nodes j ≡ true →
    ((q : Intent) × (at_uid u c.telling ≡ Some q) × (has q.nodes j ≡ true)) ⊎ TellsIn outs u j

pub same_tells : (c e : Coord) (outs : List Effect) → e.telling ≡ c.telling → TellsNew c e outs
same_tells c e outs same u i j at on = inl (i, ap (at_uid u) (sym same) ∙ at, on)

tells_behind : (c e : Coord) (lines outs : List Effect) → TellsNew c e outs → TellsNew c e (lines ++ outs)
tells_behind c e lines outs tells u i j at on =
    ⊎_elim (λ old. inl old) (λ new. inr (new.0, in_right (Send j new.0) lines outs new.1, new.2)) (tells u i j at on)

-- a decision tells all its participants
decide_tells : (p : Plan) (c : Coord) → IsSent p → TellsNew c (decide p c).part (decide p c).outs
decide_tells p c sent = by (has_record p) refl
  where
    u : Uid
    u = actor p.path

    took : Coord
    took = on_doing (actor p.path) (λ (d : Doing). record d { took = participants p }) (ended (actor p.path) ending.Commit c)

    r : Coord
    r = on_root (root_of p.path) (root_after p) took

    same : r.telling ≡ c.telling
    same = doing_telling (actor p.path) (λ (d : Doing). record d { took = participants p }) (ended (actor p.path) ending.Commit c)
        ∙ ended_telling (actor p.path) c ending.Commit

    told : ℕ → Effect
    told j = decided_told (root_of p.path) (actor p.path) p j

    each : (j : ℕ) (ns : List ℕ) → has ns j ≡ true → members.In (told j) (map told ns)
    each j [] on = absurd (cc on)
    each j (n ∷ ns) on = one (n == j) refl on (each j ns)
      where
        one : (b : Bool) → (n == j) ≡ b → b || has ns j ≡ true → (has ns j ≡ true → members.In (told j) (map told ns)) →
            members.In (told j) (told n ∷ map told ns)
        one true is on rest = inl (ap told (eqb-true n j is))
        one false apart on rest = inr (rest on)

    told_is : (j : ℕ) → has (participants p) j ≡ true → has_record p ≡ true →
        told j ≡ Send j (message.Told (record { root = root_of p.path; ack = true; ends = (actor p.path, ending.Commit) ∷ [] }))
    told_is j on kept = λ i. cond (on i) (tell (root_of p.path) (kept i) ((actor p.path, ending.Commit) ∷ []) j)
        (tell (root_of p.path) false ((actor p.path, ending.Abort) ∷ []) j)

    after : Bool → Coord
    after b = cond b (record r {
      telling = put_uid (actor p.path) (record { root = root_of p.path; nodes = participants p }) r.telling;
    }) r

    by : (b : Bool) → has_record p ≡ b → TellsNew c (after b) (decide p c).outs
    by false none w i j at on = same_tells c r (decide p c).outs same w i j at on
    by true kept w i j at on = ⊎_elim
        (λ new.
        let mine : has (participants p) j ≡ true = ap (λ (x : Intent). has x.nodes j) new.1 ∙ on in
        inr (
          message.Told (record { root = root_of p.path; ack = true; ends = (actor p.path, ending.Commit) ∷ [] }),
          in_right (Send j (message.Told (record { root = root_of p.path; ack = true; ends = (actor p.path, ending.Commit) ∷ [] })))
              (record_work (actor p.path) p ++ says (actor p.path) body.Committed c) (map told p.sent)
              (subst (λ x. members.In x (map told p.sent)) (told_is j mine kept) (each j p.sent (all_sent p sent j mine))),
          (refl, ap (λ v. Some (v, ending.Commit)) (sym new.0)),
        ))
        (λ old. inl (i, ap (at_uid w) (sym same) ∙ old.1, on))
        (put_cases w (actor p.path) (record { root = root_of p.path; nodes = participants p }) i r.telling at)

step_tells : (u : Uid) (s : CommitStep) (intents : List (Uid × Intent)) (c : Coord) → StepSent s →
    TellsNew c (step_commit u s intents c).part (step_commit u s intents c).outs
step_tells u (Stays m) intents c sent =
    same_tells c (commits_in u m c) [] (doing_telling u (λ (d : Doing). record d { req = (plan_of m).req; now = Committing m }) c)
step_tells u (Asks m) intents c sent = same_tells c (step_commit u (Asks m) intents c).part (step_commit u (Asks m) intents c).outs
    (asks_telling (plan_of m).path (plan_of m).req (commit.waiting m) (commits_in u m c)
    ∙ doing_telling u (λ (d : Doing). record d { req = (plan_of m).req; now = Committing m }) c)
step_tells u (Decides p) intents c sent = decide_tells p c sent
step_tells u (Aborts why p) intents c sent =
    same_tells c (ended u ending.Abort c) (step_commit u (Aborts why p) intents c).outs (ended_telling u c ending.Abort)

moved_tells : (u : Uid) (m : Marked) (intents : List (Uid × Intent)) (c : Coord) → StepSent m.step →
    TellsNew c (moved_commit u m intents c).part (moved_commit u m intents c).outs
moved_tells u m intents c sent = tells_behind c (step_commit u m.step intents c).part (mark_lines u m.marks c)
    (step_commit u m.step intents c).outs (step_tells u m.step intents c sent)

-- an answer
heard_tells : (from : ℕ) (a : Asked) (r : Reply) (intents : List (Uid × Intent)) (c : Coord) → AllSent c →
    TellsNew c (heard from a r intents c).part (heard from a r intents c).outs
heard_tells from a r intents c all = by (doing_of a.act c) refl
  where
    none : TellsNew c c []
    none = same_tells c c [] refl

    now : (n : Now) → IsSentNow n → let h = heard_now from a r intents c n in TellsNew c h.part h.outs
    now Idle sent = none
    now (Calling s) sent = one (waits_for_call from a r s)
      where
        one : (w : Bool) → let h = cond {A = Served Coord (Unit {0})} w (heard_by (heard_call s r c)) (heard_none c) in
            TellsNew c h.part h.outs
        one true =
            let m = calls.answered (is_free (root_of s.path) (actor s.path) s.x c) (kept_at s c) s.goal s.at r in
            same_tells c (heard_call s r c).part (heard_call s r c).outs
            (step_telling s m.step (on_root (root_of s.path) (root_moved s r m) c))
        one false = none
    now (Committing m) sent = one (waits_for_commit from a r m) refl
      where
        one : (w : Bool) → waits_for_commit from a r m ≡ w → let h = cond {A = Served Coord (Unit {0})} w
            (heard_by (moved_commit a.act (commit.answered from m r) intents c)) (heard_none c) in TellsNew c h.part h.outs
        one true waits = moved_tells a.act (commit.answered from m r) intents c (answered_sent from m r sent
            (and_parts (Words.reply_kind r == Words.ask_kind (Words.ask_of m from)) (has (left_of m) from)
            (and_parts ((plan_of m).req == a.req) ((Words.reply_kind r == Words.ask_kind (Words.ask_of m from)) && has (left_of m) from)
            waits).1).1)
        one false waits = none

    by : (o : Option Doing) → doing_of a.act c ≡ o → let h = heard_doing from a r intents c o in TellsNew c h.part h.outs
    by None is = none
    by (Some d) is = now d.now (all a.act d is)

-- ---- what a node leaves of a message

-- what was to acknowledge is to do so still, but for what this message acknowledges, or is told; and an end is acknowledged
record LeavesAcks (n from : ℕ) (m : Message) (t v : Parts) (outs : List Effect) : Type 0 where
  pub telling : (u : Uid) (i : Intent) (j : ℕ) → at_uid u v.coord.telling ≡ Some i → has i.nodes j ≡ true →
      ((q : Intent) × (at_uid u t.coord.telling ≡ Some q) × (has q.nodes j ≡ true) × (from ≡ j → m ≡ acked_of u → ⊥)) ⊎ TellsIn outs u j
  pub acked : (u : Uid) → TellsCommit u m → members.In (Send from (acked_of u)) outs

module _ (nodes : ℕ → Type 0) (n from : ℕ) (m : Message) (d : Disk) (t : Parts) (M : Seen) (F G : Post → Type 0) (B : Body → Type 0)
    (less : AllBut (post_of from n m) F G) (acks : Acks nodes (up n d t M).nodes F B) where
  acks_by : (v : Parts) (outs : List Effect) → LeavesAcks n from m t v outs →
      Acks nodes (with_here n (record { disk = works outs d; parts = v }) M.nodes) (Then G n outs) B
  acks_by v outs l k a x u i j there = by (k == n) refl
    where
      -- what brings an acknowledgement goes on
      goes : (k ≡ n → from ≡ j → m ≡ acked_of u → ⊥) → (p : Post) × F p × BringsAck k j u p →
          (p : Post) × Then G n outs p × BringsAck k j u p
      goes never way = ⊎_elim (λ same. one (subst (BringsAck k j u) same way.2)) (λ g. (way.0, inl g, way.2)) (less way.0 way.1)
        where
          one : BringsAck k j u (post_of from n m) → (p : Post) × Then G n outs p × BringsAck k j u p
          one (Telling f to tells) = (post_of n from (acked_of u), inr (refl, l.acked u tells), Acking to f refl)
          one (Acking f to is) = absurd (never (sym to) f is)

      by : (b : Bool) → (k == n) ≡ b → (if b then Some (record { number = n; disk = works outs d; live = Some v }) else M.nodes k)
          ≡ Some a → a.live ≡ Some x → at_uid u x.coord.telling ≡ Some i → has i.nodes j ≡ true →
          (p : Post) × Then G n outs p × BringsAck k j u p
      by false apart found live at on = goes (λ is f z. never_same is) (acks k a x u i j there
          ((λ z. if apart z then Some (record { number = n; disk = d; live = Some t }) else M.nodes k) ∙ found) live at on)
        where
          never_same : k ≡ n → ⊥
          never_same is = grind (arith, nat_tests, is, apart)
      by true is found live at on =
          let node : record { number = n; disk = works outs d; live = Some v } ≡ a = some_is _ a found in
          let parts : v ≡ x = some_is v x (ap (λ (z : Node). z.live) node ∙ live) in
          let mine : (up n d t M).nodes k ≡ Some (record { number = n; disk = d; live = Some t }) = λ z.
          if is z then Some (record { number = n; disk = d; live = Some t }) else M.nodes k in
          ⊎_elim
          (λ old. goes (λ same f z. old.3 f z)
          (acks k (record { number = n; disk = d; live = Some t }) t u old.0 j there mine refl old.1 old.2))
          (λ new. (post_of n j new.0, inr (refl, new.1), Telling (sym (eqb-true k n is)) refl new.2))
          (l.telling u i j (ap (λ (z : Parts). at_uid u z.coord.telling) parts ∙ at) on)

-- ---- each message

tells_silent : (u : Uid) (m : Message) → TellsCommit u m → (asks m ≡ None) × (answers m ≡ None)
tells_silent u (message.Told x) tells = (refl, refl)
tells_silent u m tells = absurd tells

acked_silent : (u : Uid) (m : Message) → m ≡ acked_of u → (asks m ≡ None) × (answers m ≡ None)
acked_silent u m is = (ap asks is, ap answers is)

-- a message that asks or answers leaves what its effects tell
spoken : (n from : ℕ) (m : Message) (t v : Parts) (outs : List Effect) → ((asks m ≡ None) × (answers m ≡ None) → ⊥) →
    TellsNew t.coord v.coord outs → LeavesAcks n from m t v outs
spoken n from m t v outs loud tells = record {
  telling = λ u i j at on. ⊎_elim (λ old. inl (old.0, old.1, old.2, λ f is. loud (acked_silent u m is))) (λ new. inr new)
      (tells u i j at on);
  acked = λ u tell. absurd (loud (tells_silent u m tell));
}

module _ (hd : Header) (P : Seen → Type 0) (gives : SettlesAll hd P) (sents : (n : ℕ) (d : Disk) (t : Parts) (M : Seen) → P (up n d t M) →
    AllSent t.coord) where
  -- a message that is void leaves what was
  void_acks : (nodes : ℕ → Type 0) (n : ℕ) (d : Disk) (t : Parts) (from : ℕ) (m : Message) (M : Seen) (F G : Post → Type 0)
      (B : Body → Type 0) → AllBut (post_of from n m) F G → Acks nodes (up n d t M).nodes F B → LeavesAcks n from m t t [] →
      Acks nodes (with_here n (record { disk = d; parts = t }) M.nodes) G B
  void_acks nodes n d t from m M F G B less acks l = acks_more nodes (with_here n (record { disk = d; parts = t }) M.nodes)
      (Then G n []) G B B
      (λ q. ⊎_elim (λ g. g) (λ x. absurd x.1), λ q g. inl g) (λ b s. s) (acks_by nodes n from m d t M F G B less acks t [] l)

  pub acks_message : (nodes : ℕ → Type 0) (n : ℕ) (d : Disk) (t : Parts) (from : ℕ) (m : Message) (M : Seen) → P (up n d t M) →
      In (post_of from n m) M.sent → (F G : Post → Type 0) (B : Body → Type 0) → F (post_of from n m) → AllBut (post_of from n m) F G →
      ((q : Post) → G q → F q) → ((b : Body) → IsSaid M.lines b → B b) → Acks nodes (up n d t M).nodes F B →
      Left (Acks nodes) n (record { disk = d; parts = t }) M.nodes G B (taken n d t from m)
  acks_message nodes n d t from m M holds sent F G B under less back lines acks = by (asks m) refl
    where
      Goal : Handled → Type 0
      Goal r = Left (Acks nodes) n (record { disk = d; parts = t }) M.nodes G B r

      voided : (outs : List Effect) → LeavesAcks n from m t t [] → Goal (Void outs)
      voided outs l = void_acks nodes n d t from m M F G B less acks l

      took : (v : Parts) (outs : List Effect) → LeavesAcks n from m t v outs → Goal (Took v outs)
      took v outs l = acks_by nodes n from m d t M F G B less acks v outs l

      still : LeavesAcks n from m t t [] → (r : Handled) → ((v : Parts) (outs : List Effect) → r ≡ Took v outs →
          LeavesAcks n from m t v outs) → Goal r
      still l (Void outs) each = voided outs l
      still l (Took v outs) each = took v outs (each v outs refl)

      request : (h : Head) (a : Ask) → asks m ≡ Some (h, a) → Goal (taken n d t from m)
      request h a is = still (spoken n from m t t [] loud (same_tells t.coord t.coord [] refl)) (taken n d t from m) (λ v outs so.
          let served : serve n d t from h a ≡ Took v outs = (λ i. handle_ask n d t from m (sym is i)) ∙ taken_took n d t v from m outs so in
          let x : HasAnswered from h a t v outs = subst (IsServed from h a t) served (serve_served n d t from h a) in
          spoken n from m t v outs loud (same_tells t.coord v.coord outs (ap (λ (c : Coord). c.telling) x.coord)))
        where
          loud : (asks m ≡ None) × (answers m ≡ None) → ⊥
          loud none = let no_way : ◌≡◌ {A = Option (Head × Ask)} (Some (h, a)) None = sym is ∙ none.0 in absurd (cc no_way)

      answer : (a : Asked) (r : Reply) → asks m ≡ None → answers m ≡ Some (a, r) → Goal (taken n d t from m)
      answer a r silent is = still (spoken n from m t t [] loud (same_tells t.coord t.coord [] refl)) (taken n d t from m) (λ v outs so.
          let said = heard from a r d.intents t.coord in
          let handled : coord_heard t said ≡ Took v outs = sym ((λ i. handle_ask n d t from m (silent i))
          ∙ (λ i. handle_answer n d t from m (is i))) ∙ taken_took n d t v from m outs so in
          by_said (said.reply) v outs handled)
        where
          loud : (asks m ≡ None) × (answers m ≡ None) → ⊥
          loud none = let no_way : ◌≡◌ {A = Option (Asked × Reply)} (Some (a, r)) None = sym is ∙ none.1 in absurd (cc no_way)

          by_said : (o : Option (Unit {0})) (v : Parts) (outs : List Effect) → let s = heard from a r d.intents t.coord in
              Words.by_reply (with_coord t s.part) s.outs o ≡ Took v outs → LeavesAcks n from m t v outs
          by_said None v outs is = absurd (cc is)
          by_said (Some x) v outs is =
              let s = heard from a r d.intents t.coord in
              let same_outs : s.outs ≡ outs = cc is in
              let same_parts : with_coord t s.part ≡ v = cc is in
              subst (λ (z : Parts). LeavesAcks n from m t z outs) same_parts (subst (λ es. LeavesAcks n from m t (with_coord t s.part) es)
              same_outs (spoken n from m t (with_coord t s.part) s.outs loud
              (heard_tells from a r d.intents t.coord (sents n d t M holds))))

      plain : asks m ≡ None → answers m ≡ None → Goal (taken n d t from m)
      plain silent mute = one (taken n d t from m) (quiets.handled n from d t (gives.sorted n d t M holds)
          (λ u. gives.naming n d t M u holds)
          (λ u. ⊥) m silent mute (λ act is a. absurd a))
        where
          one : (r : Handled) → IsHandled n from d t (gives.sorted n d t M holds) (λ u. gives.naming n d t M u holds) (λ u. ⊥) m r → Goal r
          one (Void outs) (IsNothing _ l) = voided outs (record { telling = λ u i j at on. inl (l.telling u i j at on); acked = l.acked })
          one (Took v outs) (IsTaken _ _ l) = took v outs (record { telling = λ u i j at on. inl (l.telling u i j at on); acked = l.acked })

      reply : asks m ≡ None → (o : Option (Asked × Reply)) → answers m ≡ o → Goal (taken n d t from m)
      reply silent None mute = plain silent mute
      reply silent (Some x) is = answer x.0 x.1 silent is

      by : (o : Option (Head × Ask)) → asks m ≡ o → Goal (taken n d t from m)
      by (Some x) is = request x.0 x.1 is
      by None silent = reply silent (answers m) refl

  -- ---- what else a node does

  -- a node's coordinator did what tells its new records
  pub acks_did : (nodes : ℕ → Type 0) (n : ℕ) (d : Disk) (t : Parts) (M : Seen) (F : Post → Type 0) (B : Body → Type 0) (e : Coord)
      (outs : List Effect) → TellsNew t.coord e outs → Acks nodes (up n d t M).nodes F B →
      Acks nodes (with_here n (record { disk = works outs d; parts = with_coord t e }) M.nodes) (Then F n outs) B
  acks_did nodes n d t M F B e outs tells acks k a x u i j there = by (k == n) refl
    where
      by : (b : Bool) → (k == n) ≡ b → (if b then Some (record { number = n; disk = works outs d; live = Some (with_coord t e) })
          else M.nodes k) ≡ Some a → a.live ≡ Some x → at_uid u x.coord.telling ≡ Some i → has i.nodes j ≡ true →
          (p : Post) × Then F n outs p × BringsAck k j u p
      by false apart found live at on =
          let w = acks k a x u i j there
          ((λ z. if apart z then Some (record { number = n; disk = d; live = Some t }) else M.nodes k) ∙ found) live at on in
          (w.0, inl w.1, w.2)
      by true is found live at on =
          let node : record { number = n; disk = works outs d; live = Some (with_coord t e) } ≡ a = some_is _ a found in
          let parts : with_coord t e ≡ x = some_is (with_coord t e) x (ap (λ (z : Node). z.live) node ∙ live) in
          let mine : (up n d t M).nodes k ≡ Some (record { number = n; disk = d; live = Some t }) = λ z.
          if is z then Some (record { number = n; disk = d; live = Some t }) else M.nodes k in
          ⊎_elim
          (λ old. let w = acks k (record { number = n; disk = d; live = Some t }) t u old.0 j there mine refl old.1 old.2 in
          (w.0, inl w.1, w.2))
          (λ new. (post_of n j new.0, inr (refl, new.1), Telling (sym (eqb-true k n is)) refl new.2))
          (tells u i j (ap (λ (z : Parts). at_uid u z.coord.telling) parts ∙ at) on)

  -- a tick tells of all records of its node
  pub acks_ticked : (nodes : ℕ → Type 0) (n : ℕ) (d : Disk) (t : Parts) (M : Seen) → P (up n d t M) → (F : Post → Type 0)
      (B : Body → Type 0) → Acks nodes (up n d t M).nodes F B
      → let outs = tick_outs (record { number = n; disk = d; live = Some t }) t in Acks (Also nodes n) (with_here n
      (record { disk = works outs d; parts = with_coord t (again_all t.coord.doings t.coord).part }) M.nodes) (Then F n outs) B
  acks_ticked nodes n d t M holds F B acks k a x u i j there = by (k == n) refl
    where
      again : Did Coord
      again = again_all t.coord.doings t.coord

      outs : List Effect
      outs = tick_outs (record { number = n; disk = d; live = Some t }) t

      same : (again_all t.coord.doings t.coord).part.telling ≡ t.coord.telling
      same = again_keeps (λ (c : Coord). c.telling ≡ t.coord.telling) (λ root w c is. is) t.coord.doings t.coord refl

      before : (k == n) ≡ false → nodes k
      before apart = ⊎_elim (λ old. old) (λ is. absurd (never is)) there
        where
          never : k ≡ n → ⊥
          never is = grind (arith, nat_tests, is, apart)

      by : (b : Bool) → (k == n) ≡ b → (if b then Some (record {
        number = n;
        disk = works (tick_outs (record { number = n; disk = d; live = Some t }) t) d;
        live = Some (with_coord t (again_all t.coord.doings t.coord).part);
      }) else M.nodes k) ≡ Some a → a.live ≡ Some x → at_uid u x.coord.telling ≡ Some i → has i.nodes j ≡ true →
          (p : Post) × Then F n (tick_outs (record { number = n; disk = d; live = Some t }) t) p × BringsAck k j u p
      by false apart found live at on =
          let w = acks k a x u i j (before apart)
          ((λ z. if apart z then Some (record { number = n; disk = d; live = Some t }) else M.nodes k) ∙ found) live at on in
          (w.0, inl w.1, w.2)
      by true is found live at on =
          let node = some_is (record { number = n; disk = works outs d; live = Some (with_coord t again.part) }) a found in
          let parts : with_coord t again.part ≡ x = some_is (with_coord t again.part) x (ap (λ (z : Node). z.live) node ∙ live) in
          let here : at_uid u t.coord.telling ≡ Some i = ap (at_uid u) (sym same) ∙ ap (λ (z : Parts). at_uid u z.coord.telling) parts
          ∙ at in
          let told = message.Told (record { root = i.root; ack = true; ends = (u, ending.Commit) ∷ [] }) in (
            post_of n j told,
            inr (
              refl,
              in_left (Send j told) (again.outs ++ tolds_again t.coord.telling) (map query_about (holders d t)) (in_right (Send j told)
                  again.outs (tolds_again t.coord.telling) (quiets.told_again hd P gives u i j t.coord.telling
                  (at_in u i t.coord.telling here) on)),
            ),
            Telling (sym (eqb-true k n is)) refl (refl, refl),
          )

-- ---- what is asked of an action

pub call_tells : (l : Label) (x : ℕ) (op : Words.Op) (c : Coord) (intents : List (Uid × Intent)) →
    TellsNew c (acts (input.Call l x op) intents c).part (acts (input.Call l x op) intents c).outs
call_tells l x op c intents = by (branch_named l c)
  where
    by : (o : Option Branch) → let did = on_branch (λ (b : Branch). asking_of.call b.path x op c) c o in TellsNew c did.part did.outs
    by None = same_tells c c [] refl
    by (Some b) = same_tells c (asking_of.call b.path x op c).part (asking_of.call b.path x op c).outs
        (let r = Words.root_at (root_of b.path) c in
        let old = Words.keeping_of x r in
        let k = asking_of.renewed (is_free (root_of b.path) (actor b.path) x c) old old.kept in
        goes_telling (asking_of.call_steps b.path x op (asking_of.next_req (actor b.path) c) r c k)
        (on_root (root_of b.path) (Words.with_keeping x k) (record c { tree = Words.uses_object b.path x c.tree })))

pub include_tells : (l : Label) (x s : ℕ) (c : Coord) (intents : List (Uid × Intent)) →
    TellsNew c (acts (input.Include l x s) intents c).part (acts (input.Include l x s) intents c).outs
include_tells l x s c intents = by (branch_named l c)
  where
    by : (o : Option Branch) → let did = on_branch (λ (b : Branch). asking_of.include b.path x s c) c o in TellsNew c did.part did.outs
    by None = same_tells c c [] refl
    by (Some b) = same_tells c (asking_of.include b.path x s c).part (asking_of.include b.path x s c).outs
        (goes_telling (calls.start b.path x (Words.Include s) None Words.unbound (asking_of.next_req (actor b.path) c))
        (record c { tree = Words.uses_object b.path x c.tree }))

pub commit_tells : (l : Label) (c : Coord) (intents : List (Uid × Intent)) →
    TellsNew c (acts (input.Commit l) intents c).part (acts (input.Commit l) intents c).outs
commit_tells l c intents = by (branch_named l c)
  where
    ends : (b : Branch) (e : End) (f : Label → Body) → TellsNew c (ends_with (actor b.path) e f intents c).part
        (ends_with (actor b.path) e f intents c).outs
    ends b e f = same_tells c (ended (actor b.path) e c) (ends_with (actor b.path) e f intents c).outs (ended_telling (actor b.path) c e)

    top : (b : Branch) → TellsNew c (asking_of.commit_top b.path intents c).part (asking_of.commit_top b.path intents c).outs
    top b =
        let plan = Words.plan_for b.path (asking_of.last_req (doing_of (actor b.path) c)) (Words.root_at (root_of b.path) c) c in
        tells_behind c (moved_commit (actor b.path) (commit.start plan) intents c).part (says (actor b.path) body.Committing c)
        (moved_commit (actor b.path) (commit.start plan) intents c).outs
        (moved_tells (actor b.path) (commit.start plan) intents c (starts_sent plan refl refl))

    kinds : (b : Branch) (k : Words.Kind) → let did = asking_of.commit_open b intents c k in TellsNew c did.part did.outs
    kinds b kind.Nested = ends b ending.Commit body.Committed
    kinds b kind.Serial = ends b ending.Commit body.Ended
    kinds b kind.Top = top b
    kinds b kind.Independent = top b
    kinds b kind.Constituent = top b

    doomed : (b : Branch) (z : Bool) → let did = cond {A = Did Coord} z (Words.aborts_with (actor b.path) cause.Doomed intents c)
        (asking_of.commit_open b intents c b.kind) in TellsNew c did.part did.outs
    doomed b true = ends b ending.Abort (λ k. body.Aborted k cause.Doomed)
    doomed b false = kinds b b.kind

    by : (o : Option Branch) → let did = on_branch (λ (b : Branch). asking_of.commit_action b intents c) c o in TellsNew c did.part did.outs
    by None = same_tells c c [] refl
    by (Some b) = doomed b b.doomed
