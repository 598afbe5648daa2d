-- A quiesce answers whoever waits: what answers it is under way from the tick of its node on.
use Rattle.arj_law_parts.proofs.Words
use Words.{◌≤◌, Bool, List, None, Option, Some, [], ap, arith, eqb-true, false, inl, inr, length, map, refl, subst, suc, sym, true, zero, ℕ}
use Words.{⊎_elim, ◌++◌, ◌+◌, ◌∙◌, ◌∷◌, ◌≡◌, ◌⊎◌, ◌&&◌, ◌||◌, ◌==◌, nat_le, slice_get, if◌then◌else◌, nat_tests, in_left, in_right, Body}
use Words.{Header, Message, Path, Uid, actor, again_all, again_now, asks_step, begin_action, Steps, Machine, left_of, plan_of, waiting}
use Words.{Calling, Committing, Coord, Doing, Idle, Now, doing_of, Did, Disk, Effect, Send, tick_outs, Handled, Parts, Took, Void, holders}
use Words.{query_about, taken, with_coord, has, Node, acts, is_waiting_now, parent_of, parts_in, restart_outs, tolds_again, at_place}
use Words.{ends_of, is_own, root_of, World, lowest_from, numbered, run_event, Move, moved, world_by, Post}
use Words.{Seen, AreUp, IsOvertaken, IsSaid, coord_in, is_serial, most_frames}
use Words.list as members
use Words.event
use Words.body
use Rattle.arj_law_runs.proofs.Terms
use Terms.{begun_tree, path_found, AreBegun, paths_of, IsAsking, IsBusy, IsGoodCoord, Asked, says, IsGood, IsGoodPlace, Holds, KeepsAsked}
use Terms.{Run, In, given, up, Up, arms_hold, keeps_asked, moves_asked, walks_both, AnswersWaits, WaitOvertaken, AreBrought, Asking, HasWay}
use Terms.{Want, want_of_call, want_of_commit}
use Rattle.arj_law_runs.proofs.coordinators.CoordUses.{some_is}
use Rattle.arj_law_runs.proofs.kept.AllRuns.{all_keep}
use Rattle.arj_law_runs.proofs.resting
use resting.{Effects.works, Fits.runs_few, Settles.Also, Settles.quiesce_leaves}
use resting.Flights.{Left, SameWay, with_here}
use resting.Hearing.{AsksIn, IsHome, all_doing, machine_asked, step_asked}
use resting.Passing.{Brought, coords, message_brings}
use resting.Ways.{AllBut, Then, brought_more, brought_of, post_of, put}
use resting.Worlds.{Of, Under, none_under, said_more}

-- ---- what a tick asks again

pub again_doing : (ds : List Doing) (c : Coord) (w : Uid) → doing_of w (again_all ds c).part ≡ doing_of w c
again_doing [] c w = refl
again_doing (d ∷ ds) c w = again_doing ds (again_now c d.now).part w ∙ by d.now
  where
    by : (n : Now) → doing_of w (again_now c n).part ≡ doing_of w c
    by Idle = refl
    by (Calling s) = refl
    by (Committing m) = all_doing (plan_of m).path (plan_of m).req (waiting m) c w

-- what somebody waits for is asked again
again_asked : (w : Want) (ds : List Doing) (c : Coord) (q : Doing) → members.In q ds → ((e : Coord) → AsksIn (again_now e q.now).outs w) →
    AsksIn (again_all ds c).outs w
again_asked w [] c q i each = absurd i
again_asked w (d ∷ ds) c q (inl is) each = let a = subst (λ (x : Doing). AsksIn (again_now c x.now).outs w) (sym is) (each c) in record {
  message = a.message;
  sent = in_left (Send w.node a.message) (again_now c d.now).outs (again_all ds (again_now c d.now).part).outs a.sent;
  asks = a.asks;
}
again_asked w (d ∷ ds) c q (inr i) each = let a = again_asked w ds (again_now c d.now).part q i each in record {
  message = a.message;
  sent = in_right (Send w.node a.message) (again_now c d.now).outs (again_all ds (again_now c d.now).part).outs a.sent;
  asks = a.asks;
}

pub doing_there : (u : Uid) (c : Coord) (q : Doing) → doing_of u c ≡ Some q → members.In q c.doings
doing_there u c q = by (is_own u c.tree)
  where
    sliced : (k : ℕ) (xs : List Doing) → slice_get xs k ≡ Some q → members.In q xs
    sliced k [] is = absurd (cc is)
    sliced zero (x ∷ xs) is = inl (some_is x q is)
    sliced (suc k) (x ∷ xs) is = inr (sliced k xs is)

    placed : (k : ℕ) (xs : List Doing) → at_place k xs ≡ Some q → members.In q xs
    placed zero xs is = absurd (cc is)
    placed (suc k) xs is = sliced k xs is

    by : (b : Bool) → (if b then at_place u.num c.doings else None) ≡ Some q → members.In q c.doings
    by true is = placed u.num c.doings is
    by false is = absurd (cc is)

-- ---- what is brought

-- what answers whoever waits at these nodes is under way
abbrev pub Ways : (ℕ → Type 0) → (ℕ → Option Node) → (Post → Type 0) → (Body → Type 0) → Type 0
Ways nodes found F B = AreBrought nodes (coords found) F B

module _ (hd : Header) (P : Seen → Type 0) (gives : AnswersWaits hd P) (homes : (k : ℕ) (d : Disk) (t : Parts) (M : Seen) → P (up k d t M) →
    IsHome t.coord) where
  pub ways_more : (nodes : ℕ → Type 0) (found : ℕ → Option Node) (F U : Post → Type 0) (B D : Body → Type 0) → SameWay F U →
      ((b : Body) → B b → D b) → Ways nodes found F B → Ways nodes found U D
  ways_more nodes found F U B D on said a = brought_more nodes (coords found) F U B D on.0 said a

  pub ways_fewer : (nodes other : ℕ → Type 0) (found : ℕ → Option Node) (F : Post → Type 0) (B : Body → Type 0) →
      ((k : ℕ) → other k → nodes k) → Ways nodes found F B → Ways other found F B
  ways_fewer nodes other found F B less c = record {
    calls = λ k e u q s there is does now. c.calls k e u q s (less k there) is does now;
    commits = λ k e u q m n there is does now left. c.commits k e u q m n (less k there) is does now left;
  }

  pub ways_message : (nodes : ℕ → Type 0) (n : ℕ) (d : Disk) (t : Parts) (from : ℕ) (m : Message) (M : Seen) → P (up n d t M) →
      In (post_of from n m) M.sent → (F G : Post → Type 0) (B : Body → Type 0) → F (post_of from n m) → AllBut (post_of from n m) F G →
      ((q : Post) → G q → F q)
      → ((b : Body) → IsSaid M.lines b → B b) → Ways nodes (up n d t M).nodes F B →
      Left (Ways nodes) n (record { disk = d; parts = t }) M.nodes G B (taken n d t from m)
  ways_message nodes n d t from m M holds sent F G B under less back lines brought =
      by (taken n d t from m) (message_brings hd P gives homes nodes n d t from m M holds sent F G B less lines brought)
    where
      same : (v : Parts) (outs : List Effect) (k : ℕ) →
          coords (with_here n (record { disk = works outs d; parts = v }) M.nodes) k ≡ put n v.coord (coords (up n d t M).nodes) k
      same v outs k = one (k == n)
        where
          one : (b : Bool) → coord_in (if b then Some (record { number = n; disk = works outs d; live = Some v }) else M.nodes k)
              ≡ (if b then Some v.coord else coord_in (if b then Some (record { number = n; disk = d; live = Some t }) else M.nodes k))
          one true = refl
          one false = refl

      by : (r : Handled) → Brought hd P gives homes nodes n (coords (up n d t M).nodes) G B r →
          Left (Ways nodes) n (record { disk = d; parts = t }) M.nodes G B r
      by (Void outs) b = b
      by (Took v outs) b = brought_of nodes (put n v.coord (coords (up n d t M).nodes))
          (coords (with_here n (record { disk = works outs d; parts = v }) M.nodes)) (Then G n outs) B (same v outs) b

  -- after its tick a node's own are brought too
  pub ways_ticked : (nodes : ℕ → Type 0) (n : ℕ) (d : Disk) (t : Parts) (M : Seen) → P (up n d t M) → (F : Post → Type 0) (B : Body → Type 0) →
      Ways nodes (up n d t M).nodes F B
      → let outs = tick_outs (record { number = n; disk = d; live = Some t }) t in Ways (Also nodes n) (with_here n
      (record { disk = works outs d; parts = with_coord t (again_all t.coord.doings t.coord).part }) M.nodes) (Then F n outs) B
  ways_ticked nodes n d t M holds F B brought = record {
    calls = λ k c u q s there found does now. call k c u q s there (k == n) refl found does now;
    commits = λ k c u q m j there found does now left. commit k c u q m j there (k == n) refl found does now left;
  }
    where
      again : Did Coord
      again = again_all t.coord.doings t.coord

      outs : List Effect
      outs = tick_outs (record { number = n; disk = d; live = Some t }) t

      home : IsHome t.coord
      home = homes n d t M holds

      sent : (v : Want) → AsksIn again.outs v → HasWay (Then F n outs) n v
      sent v a = record {
        post = post_of n v.node a.message;
        under_way = inr (
          refl,
          in_left (Send v.node a.message) (again.outs ++ tolds_again t.coord.telling) (map query_about (holders d t))
              (in_left (Send v.node a.message) again.outs (tolds_again t.coord.telling) a.sent),
        );
        brings = Asking refl refl a.asks;
      }

      old : (k : ℕ) (v : Want) → HasWay F k v → HasWay (Then F n outs) k v
      old k v way = record { post = way.post; under_way = inl way.under_way; brings = way.brings }

      number_same : (j : ℕ) → (j == j) ≡ true
      number_same j = grind (arith, nat_tests)

      before : (k : ℕ) → Also nodes n k → (k == n) ≡ false → nodes k
      before k (inl there) apart = there
      before k (inr is) apart = absurd (cc (sym (ap (λ j. j == n) is ∙ number_same n) ∙ apart))

      was_there : (u : Uid) (c : Coord) (q : Doing) → Some again.part ≡ Some c → doing_of u c ≡ Some q → doing_of u t.coord ≡ Some q
      was_there u c q is does = sym (again_doing t.coord.doings t.coord u) ∙ ap (doing_of u) (some_is again.part c is) ∙ does

      -- another node is as it was
      other : (k : ℕ) (c : Coord) → (k == n) ≡ false → coord_in (M.nodes k) ≡ Some c → coords (up n d t M).nodes k ≡ Some c
      other k c apart found =
          ap (λ b. coord_in (if b then Some (record { number = n; disk = d; live = Some t }) else M.nodes k)) apart ∙ found

      call : (k : ℕ) (c : Coord) (u : Uid) (q : Doing) (s : Steps) → Also nodes n k → (b : Bool) → (k == n) ≡ b →
          coord_in (if b then Some (record { number = n; disk = works outs d; live = Some (with_coord t again.part) }) else M.nodes k)
          ≡ Some c → doing_of u c ≡ Some q → q.now ≡ Calling s
          → IsOvertaken B s ⊎ HasWay (Then F n outs) k (want_of_call u s)
      call k c u q s there false apart found does now = ⊎_elim (λ o. inl o) (λ way. inr (old k (want_of_call u s) way))
          (brought.calls k c u q s (before k there apart) (other k c apart found) does now)
      call k c u q s there true same found does now =
          let here = was_there u c q found does in
          let asked = again_asked (want_of_call u s) t.coord.doings t.coord q (doing_there u t.coord q here)
          (λ e. subst (λ z. AsksIn (again_now e z).outs (want_of_call u s)) (sym now)
          (step_asked u s (ends_of (root_of s.path) e.tree) (asks_step s e).outs (home.calls u q s here now) (inl refl))) in
          inr (subst (λ j. HasWay (Then F n outs) j (want_of_call u s)) (sym (eqb-true k n same)) (sent (want_of_call u s) asked))

      commit : (k : ℕ) (c : Coord) (u : Uid) (q : Doing) (m : Machine) (j : ℕ) → Also nodes n k → (b : Bool) → (k == n) ≡ b →
          coord_in (if b then Some (record { number = n; disk = works outs d; live = Some (with_coord t again.part) }) else M.nodes k)
          ≡ Some c → doing_of u c ≡ Some q → q.now ≡ Committing m → has (left_of m) j ≡ true
          → HasWay (Then F n outs) k (want_of_commit u m j)
      commit k c u q m j there false apart found does now left =
          old k (want_of_commit u m j) (brought.commits k c u q m j (before k there apart) (other k c apart found) does now left)
      commit k c u q m j there true same found does now left =
          let here = was_there u c q found does in
          let asked = again_asked (want_of_commit u m j) t.coord.doings t.coord q (doing_there u t.coord q here)
          (λ e. subst (λ z. AsksIn (again_now e z).outs (want_of_commit u m j)) (sym now)
          (machine_asked u m e j (home.commits u q m here now) left)) in
          subst (λ i. HasWay (Then F n outs) i (want_of_commit u m j)) (sym (eqb-true k n same)) (sent (want_of_commit u m j) asked)

-- where nothing is under way nobody waits at these nodes who isn't overtaken
pub waits_only : (nodes : ℕ → Type 0) (w : World) → lowest_from 1 w.frames ≡ None →
    Ways nodes (λ k. at_place k w.nodes) (Under w.frames) (IsSaid w.lines) → (k : ℕ) (e : Coord) (u : Uid) (q : Doing) → nodes k →
    coord_in (at_place k w.nodes) ≡ Some e → doing_of u e ≡ Some q → is_waiting_now q.now ≡ true →
    ((s : Steps) × (q.now ≡ Calling s) × IsOvertaken (IsSaid w.lines) s) ⊎ ((m : Machine) × (q.now ≡ Committing m) × (left_of m ≡ []))
waits_only nodes w none c k e u q of found does waits = by q.now refl waits
  where
    no_way : {A : Type 0} (want : Want) → HasWay (Under w.frames) k want → A
    no_way want way = let u = way.under_way in absurd (none_under 1 w.frames none u.frame u.there u.opened)

    waits_for : (left : List ℕ) (m : Machine) → left_of m ≡ left → q.now ≡ Committing m → left_of m ≡ []
    waits_for [] m is now = is
    waits_for (n ∷ ns) m is now = no_way (want_of_commit u m n)
        (c.commits k e u q m n of found does now (ap (λ xs. has xs n) is ∙ (λ i. same_number n i || has ns n)))
      where
        same_number : (j : ℕ) → (j == j) ≡ true
        same_number j = grind (arith, nat_tests)

    by : (n : Now) → q.now ≡ n → is_waiting_now n ≡ true →
        ((s : Steps) × (q.now ≡ Calling s) × IsOvertaken (IsSaid w.lines) s) ⊎ ((m : Machine) × (q.now ≡ Committing m) × (left_of m ≡ []))
    by Idle now waits = absurd (cc waits)
    by (Calling s) now waits = inl (s, now, ⊎_elim (λ o. o) (λ way. no_way (want_of_call u s) way) (c.calls k e u q s of found does now))
    by (Committing m) now waits = inr (m, now, waits_for (left_of m) m refl now)

-- nor at any node of the header
nobody_waits : (hd : Header) (w : World) → w.header ≡ hd → lowest_from 1 w.frames ≡ None →
    AreBrought (Of hd) (coords (λ k. at_place k w.nodes)) (Under w.frames) (IsSaid w.lines) → WaitOvertaken w
nobody_waits hd w same none c k e u q node = waits_only (Of hd) w none c k e u q
    (subst (λ (x : Header). (nat_le 1 k && nat_le k x.nodes) ≡ true) same node)

-- a line more
waits_said : (c : World) (b : Body) → WaitOvertaken c → WaitOvertaken (says (b ∷ []) c)
waits_said c b answers k e u q node found does waits = ⊎_elim
    (λ s. inl (
      s.0,
      s.1,
      record {
        known = s.2.known;
        step = s.2.step;
        binding = s.2.binding;
        server = s.2.server;
        line = said_more c.lines (numbered c.event (b ∷ [])) (body.Bound (let x = s.0 in x.x) s.2.binding s.2.server) s.2.line;
        greater = s.2.greater;
      },
    ))
    (λ m. inr m) (answers k e u q node found does waits)

-- two relations together
pub asked_both : (hd : Header) (P Q : Seen → Type 0) → KeepsAsked hd P → KeepsAsked hd Q → KeepsAsked hd (λ M. P M × Q M)
asked_both hd P Q k g = record {
  quiet = λ e bs M quiet h. (k.quiet e bs M quiet h.0, g.quiet e bs M quiet h.1);
  stop = λ e n d live M h. (k.stop e n d live M h.0, g.stop e n d live M h.1);
  message = λ e n d t v from m outs M h sent meant is. walks_both P Q e n outs (Up P n v) (Up Q n v) d M
      (k.message e n d t v from m outs M h.0 sent meant is) (g.message e n d t v from m outs M h.1 sent meant is);
  act = λ e n d t i M about asks free h. let did = acts i d.intents t.coord in walks_both P Q e n did.outs (Up P n (with_coord t did.part))
      (Up Q n (with_coord t did.part)) d M (k.act e n d t i M about asks free h.0) (g.act e n d t i M about asks free h.1);
  begin = λ e n d t l how parent M new may free h. let did = begin_action l how parent (parent_of parent t.coord) t.coord in
      walks_both P Q e n did.outs (Up P n (with_coord t did.part)) (Up Q n (with_coord t did.part)) d
      (given l (record { node = n; serial = is_serial how }) M)
      (k.begin e n d t l how parent M new may free h.0) (g.begin e n d t l how parent M new may free h.1);
  tick = λ e n d t M h. let v = with_coord t (again_all t.coord.doings t.coord).part in walks_both P Q e n (tick_outs
      (record { number = n; disk = d; live = Some t }) t) (Up P n v) (Up Q n v) d M (k.tick e n d t M h.0) (g.tick e n d t M h.1);
  restart = λ e n d M h. walks_both P Q e n (restart_outs hd n (d.inc + 1) d) (Up P n (parts_in n (d.inc + 1) d))
      (Up Q n (parts_in n (d.inc + 1) d)) d M (k.restart e n d M h.0) (g.restart e n d M h.1);
  first = λ st formed. (k.first st formed, g.first st formed);
}

-- a relation together with what holds in every run
pub keeps_good : (hd : Header) (R : Seen → Type 0) → KeepsAsked hd R → KeepsAsked hd (λ M. R M × IsGood M)
keeps_good hd R keeps = asked_both hd R IsGood keeps (keeps_asked hd IsGood (all_keep hd))

-- who waits at a good node waits under its own path
pub good_home : (k : ℕ) (d : Disk) (t : Parts) (M : Seen) → IsGood (up k d t M) → IsHome t.coord
good_home k d t M g = record {
  calls = λ u q s does now. own u s.path (subst (IsBusy t.coord.tree u) now (coord.busy u q does));
  commits = λ u q m does now. let v = subst (IsBusy t.coord.tree u) now (coord.busy u q does) in own u (plan_of m).path v.asking;
}
  where
    begun : AreBegun g.0
    begun = let w = g.1 in w.begun

    place : IsGoodPlace g.0 M.sent M.labels k (record { number = k; disk = d; live = Some t })
    place = let w = g.1 in w.places k (record { number = k; disk = d; live = Some t })
        (λ i. if same_number k i then Some (record { number = k; disk = d; live = Some t }) else M.nodes k)
      where
        same_number : (j : ℕ) → (j == j) ≡ true
        same_number j = grind (arith, nat_tests)

    coord : IsGoodCoord g.0 (paths_of g.0) t.coord
    coord = let m = place.memory in let n = m.good (paths_of g.0) (begun_tree g.0 begun) (path_found g.0 begun) in n.coord

    own : (u : Uid) (p : Path) → IsAsking t.coord.tree u p → actor p ≡ u
    own u p a = ap actor (sym a.path) ∙ (let tree = coord.tree in let lists = tree.lists in lists.places u a.branch a.found)

-- for any relation that is kept
module _ (hd : Header) (R : Seen → Type 0) (keeps : KeepsAsked hd R) (gives : AnswersWaits hd (λ M. R M × IsGood M)) where
  abbrev P : Seen → Type 0
  P M = R M × IsGood M

  pub quiesce_answers : (e : Asked) (w : World) → Holds hd P w → length w.frames ≤ most_frames → e.event ≡ event.Quiesce → w.over ≡ false →
      (run_event e w).over ≡ false → AreUp (run_event e w) → WaitOvertaken (run_event e w)
  quiesce_answers e w h few is over last ups =
      quiesce_leaves hd P (keeps_good hd R keeps) gives.within Ways (λ nodes. ways_more hd P gives homes nodes)
      (λ nodes. ways_message hd P gives homes nodes) (ways_fewer hd P gives homes) (λ nodes n of. ways_ticked hd P gives homes nodes n)
      WaitOvertaken waits_said (λ c held header none up flown. nobody_waits hd c header none flown) e w h few
      (record { calls = λ k c u q s there. absurd there; commits = λ k c u q m n there. absurd there }) is over last ups
    where
      homes : (k : ℕ) (d : Disk) (t : Parts) (M : Seen) → R (up k d t M) × IsGood (up k d t M) → IsHome t.coord
      homes k d t M p = good_home k d t M p.1

  -- whatever stops fall in it
  pub move_answers : (m : Move) (w : World) → Holds hd P w → length w.frames ≤ most_frames → m.asked.event ≡ event.Quiesce →
      w.over ≡ false → (moved m w).over ≡ false → AreUp (moved m w) → WaitOvertaken (moved m w)
  move_answers m w h few is over last ups =
      quiesce_answers m.asked (record w { arms = m.falls }) (arms_hold hd P m.falls w h) few is over last ups

  pub run_answers : (r : Run hd) (m : Move) → let w = world_by hd r in
      m.asked.event ≡ event.Quiesce → w.over ≡ false → (moved m w).over ≡ false → AreUp (moved m w) → WaitOvertaken (moved m w)
  run_answers r m is over last ups =
      move_answers m (world_by hd r) (moves_asked hd P (keeps_good hd R keeps) r) (runs_few hd r) is over last ups
