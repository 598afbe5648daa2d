-- What is known of the protocol in every run gives what the handlers count on, with what is still to be given.
use Rattle.arj_law_parts.proofs.Words
use Words.{◌≡◌, ◌≢◌, ◌⊎◌, ◌∙◌, ◌<◌, ◌≤◌, ◌+◌, ◌&&◌, ℕ, Bool, true, false, cond, List, [], ◌∷◌, Option, Some, None, refl, sym, ap, subst}
use Words.{inl, inr, ⊎_elim, Contains, arith, is_some, is_eq, or_left, uid_order, uid_is, uid_same, In as In_list, in_from, in_to, Asked}
use Words.{Binding, Header, Kind, Label, Message, ObjectState, Row, Uid, before_last, entry, first_uid, is_held_by, is_on, last_uid, uid_eq}
use Words.{uids_of, Reply, actor, answers, given_away, renewed, AtActivate, Known, Steps, Calling, Coord, Doing, Keeping, doing_of, is_free}
use Words.{keeping_of, kept_of, root_at, Copy, Disk, Effect, held_at, Named, Naming, Parts, with_coord, at_number, at_uid, binding_number}
use Words.{unbound, Input, Node, acts, refusal_up, Branch, branch_of, root_of, Seen}
use Words.ask
use Words.kind
use Words.message
use Words.input
use Rattle.arj_law_serial.proofs.Terms
use Terms.{disk_by}
use Terms.{Values, on, root, State, on_root as same_unit, Action, act_of, action_of, paths_of, Reach, AreOfTops, IsTopAction, begun_tree}
use Terms.{one_action, path_found, named_found, at_in, order_itself, IsGood, IsGoodOf, good_coord, it, tops_of_disk, same_number, is_act}
use Terms.{In, down, up, Up, BindsAreKnown, AreSaid, HasFewBindings, LivesRun, PassesAll, PassesIn, KnowsFew, KnowsRun, KeepsGiven, home_in}
use Terms.{is_home, IsEntryRow, IsRooted, Stood, stood, SeesNamingIn, SeesNaming, SeesRoot, root_there, HasObject, HoldsEntry, AreUppersOf}
use Terms.{WorksAreKnown, Place, copies_listed, works_keep, Case, IsConfirmedNow, IsSeenIn, KnowsSpot, Spot, server_at, view_in, world_at}
use Terms.{coord_at, StandsFor, Fixed, GivesLocks, HasCome, case_of, IsAskedSeen, IsRequestSeen, steady, Avoids, WasAvoided, GivesRest}
use Terms.{KnowsWhole}
use Rattle.arj_law_lock_view.proofs.facts
use facts.{Entries.entries_found, Entries.first_there, Given.new_root, GoodNaming.objects_good, Uppers.nested_nothing}
use Rattle.arj_law_lock_view.proofs.view.{EverSteps.reached_kept, FirstRows.on_one}
use Rattle.arj_law_lock_view.specs.facts.{Uppers.AreUppers, Uppers.HoldsObjects, Works.KnowsEnds, Worlds.KnowsWorks}
use Rattle.arj_law_lock_view.specs.running
use running.{Answers.KnowsAnswer, Beside.HoldsNamingIn, Coordinating.KnowsAsks, Inputs.KnowsAfter, Inputs.KnowsInput}
use running.Asking.{HasWholeRoots, IsAskedAbout, TellsRecords}
use Rattle.arj_law_lock_view.specs.view.{Acts.IsAlong, Namings.HaveFirsts, Namings.StandsFirst, Roots.SeesKeeping}
use Rattle.arj_law_parts.proofs.parts.{LivesNamed.all_found, TrueSteps.top_in}
use Rattle.arj_law_parts.specs.parts.Lives.{IsAtSo, IsNowSo}
use Rattle.arj_law_runs.proofs.calls.{LivedCounts.GrowsBy, LivedCounts.message_grows, WholeRuns.calls_go}
use Rattle.arj_law_runs.specs.calls.Bindings.{bindings_made}
use Rattle.arj_law_serial.proofs.whole.{AbortGives.unconfirmed, AbortGives.unvoted, AvoidWalks.avoids_to, Avoids.avoids_by}
use Rattle.arj_law_serial.proofs.whole.{Avoids.renewed_at, Drained.none_left, Losing.whose_loss, Of.walk_end, Whole.whole_of}

-- ---- lists of records

-- what stands in it is found
stands_there : {X : Type 0} (u : Uid) (x : X) (m : List (Uid × X)) → In_list (u, x) m → (y : X) × (at_uid u m ≡ Some y)
stands_there u x [] i = absurd i
stands_there {X} u x (e ∷ es) (inl same) = (
  e.1,
  subst (λ (w : Uid). cond (is_eq (uid_order w e.0)) (Some e.1) (at_uid w es) ≡ Some e.1) (ap (λ (z : Uid × X). z.0) same)
      (ap (λ r. cond (is_eq r) (Some e.1) (at_uid e.0 es)) (order_itself e.0)),
)
stands_there {X} u x (e ∷ es) (inr i) = by (is_eq (uid_order u e.0)) (stands_there u x es i)
  where
    by : (b : Bool) → (y : X) × (at_uid u es ≡ Some y) → (y : X) × (cond b (Some e.1) (at_uid u es) ≡ Some y)
    by true old = (e.1, refl)
    by false old = old

-- ---- whose root a record has

-- the root of an action that was begun, and isn't nested, isn't nested
root_whole : (begun : List Action) (a : Action) → Contains begun a → a.kind ≢ kind.Nested → Stood begun a a.kind →
    (r : Action) × Contains begun r × (act_of r ≡ root_of a.path) × (r.kind ≢ kind.Nested)
root_whole begun a there unnested s = by a.kind refl s
  where
    by : (k : Kind) → a.kind ≡ k → Stood begun a k → (r : Action) × Contains begun r × (act_of r ≡ root_of a.path) × (r.kind ≢ kind.Nested)
    by kind.Nested is t = absurd (unnested is)
    by kind.Constituent is t = (t.0, t.1, sym (ap first_uid t.3), λ e. cc (sym t.2 ∙ e))
    by kind.Top is t = (a, there, sym (ap first_uid t.0), unnested)
    by kind.Serial is t = (a, there, sym (ap first_uid t.0), unnested)
    by kind.Independent is t = (a, there, sym (ap first_uid t.0), unnested)

-- ---- which object a state is of

-- any server reached everything
abbrev any_reach : Reach
any_reach j x n i = true

passes_any : (M : Seen) → PassesAll any_reach M
passes_any M = record { zero = λ j x n. refl; nodes = λ j n is. record { past = λ x n h less. refl; here = by j n n.live } }
  where
    by : (j : ℕ) (n : Node) (o : Option Parts) → PassesIn any_reach j (let d = n.disk in d.inc) o
    by j n None = λ x n. refl
    by j n (Some t) = λ x n c at low. refl

states_of : (k : ℕ) (d : Disk) (t : Parts) (M : Seen) → LivesRun (up k d t M) → (u : Uid) (q : Doing) (w : Steps) (h : Known)
    (o : ObjectState) → doing_of u t.coord ≡ Some q → q.now ≡ Calling w → w.at ≡ AtActivate h o → (let z = o.uid in z.num) ≡ w.x
states_of k d t M (given, l) u q w h o found now at =
    let home = home_in given in
    let f = l.lived home any_reach (is_home given l.apart) (passes_any (up k d t M)) in
    let s = (f.nodes k (record { number = k; disk = d; live = Some t })
    (λ i. cond (same_number k i) (Some (record { number = k; disk = d; live = Some t })) (M.nodes k)) t refl).0 in
    let n : IsNowSo home any_reach (Calling w) = subst (IsNowSo home any_reach) now (s.works u q found) in
    (subst (IsAtSo home any_reach w.x) at n).1

-- ---- at a node

module _ (hd : Header) (x : ℕ) (has : HasObject hd x) (E : List Action → Seen → Type 0) (f : Fixed) where
  abbrev Known_all : List Action → Seen → Type 0
  Known_all begun M = KnowsFew M × (KnowsWhole x begun M × E begun M)

  module _ (begun : List Action) (S : State) (s : Spot) (knows : Known_all begun (world_at s))
      (seen : IsSeenIn (case_of f x begun S) (world_at s)) where
    abbrev c : Case
    c = case_of f x begun S

    abbrev M : Seen
    M = s.seen

    abbrev k : ℕ
    k = s.node

    abbrev d : Disk
    d = s.disk

    abbrev t : Parts
    t = s.parts

    abbrev q : Coord
    q = coord_at s

    abbrev its_node : Node
    its_node = record { number = k; disk = d; live = Some t }

    here : (let W = world_at s in W.nodes k) ≡ Some its_node
    here = λ i. cond (same_number k i) (Some its_node) (M.nodes k)

    whole : KnowsWhole x begun (world_at s)
    whole = knows.1.0

    good : IsGoodOf begun (world_at s)
    good = seen.good

    objects : AreUppersOf HoldsObjects begun (world_at s)
    objects j n is = let u = whole.names j n is in
        record { names = u.names; live = λ v m live names. let h = u.live v m live names in h.objects }

    uppers : AreUppers begun (world_at s)
    uppers j n is = let u = objects j n is in record { names = u.names; live = λ v m live names. let h = u.live v m live names in h.uppers }

    binds : BindsAreKnown (world_at s)
    binds = let w = whole.works in w.0.1

    works : KnowsWorks q
    works = let w = whole.works in (let e = w.1 in e.nodes k its_node t here refl).0

    count_low : (n : Naming) → t.naming ≡ Some n → n.count < 4294967295
    count_low n is = low n.count (bindings_made M.lines) (whole.counts k its_node here t n refl is) knows.0.0
      where
        low : (a b : ℕ) → a ≤ b → b < 4294967295 → a < 4294967295
        low a b le less = omega (arith, le, less)

    holds : HoldsNamingIn c k t.naming
    holds n is = record {
      count = more n.count (count_low n is);
      good = objects_good (view_in c k) begun k its_node t n (world_at s) objects here refl is;
    }
      where
        more : (a : ℕ) → a < 4294967295 → a < 4294967296
        more a less = omega (arith, less)

    -- ---- what is avoided

    abbrev Below : ℕ → Binding → Type 0
    Below y b = y ≡ x → binding_number b < S.naming.bound

    kept_low : (u : ℕ) → S.kept u < S.naming.bound
    kept_low u = let r = seen.sees in let h = reached_kept S (f.first, r.run) in let n = h.holds in let z = n.naming in z.kept_below u

    none_below : (y : ℕ) → Below y unbound
    none_below y same = positive (S.kept 0) S.naming.bound (kept_low 0)
      where
        positive : (a b : ℕ) → a < b → 0 < b
        positive a b less = omega (arith, less)

    sent_below : (y : ℕ) (b : Binding) → WasAvoided M.sent y b → Below y b
    sent_below y b (inl none) same = subst (λ (z : Binding). binding_number z < S.naming.bound) (sym none) (none_below y same)
    sent_below y b (inr w) same =
        let r = seen.sees in
        let p = r.posts w.post w.posted in
        let z : IsRequestSeen (view_in c (let v = w.post in v.to)) w.head (ask.Bind y w.include b) S = subst
        (IsAskedSeen (view_in c (let v = w.post in v.to)) M.sent w.post S) w.asking p in
        z.names same

    its_avoids : Avoids Below q
    its_avoids = avoids_to (WasAvoided M.sent) Below q sent_below (whole.avoids k its_node t here refl)

    place : Place M.sent k q
    place = let u = it 0 k d t M (begun, good) in record {
      actions = begun;
      begun = good.begun;
      good = good_coord 0 k d t M (begun, good);
      numbered = u.numbered;
      faithful = u.faithful;
      binds = binds.nodes k its_node t here refl;
    }

    -- what is avoided from now on is what the root kept
    renewed_below : (y : ℕ) (b : Branch) → branch_of (actor b.path) q.tree ≡ Some b → Below y (let h = renewed_at b y q in h.avoid)
    renewed_below y b found same = by kp.kept refl
      where
        kp : Keeping
        kp = keeping_of y (root_at (root_of b.path) q)

        sees_root : SeesRoot f.act x (root_of b.path) (root_at (root_of b.path) q) q.tree S
        sees_root =
            let st = steady c s seen in
            let n = (let r = seen.sees in r.nodes k its_node here) in
            let sees = (let w = n.coord in w.coord) in
            let r = root_there f.act f.paths x q S.action st sees.actions (actor b.path) b found in
            let over : root (f.act (actor b.path)) ≡ root (f.act (root_of b.path)) = same_unit (f.act (actor b.path))
            (f.act (root_of b.path)) (st.alike.above (actor b.path) (root_of b.path) ∙ r.2) in
            let own : root_of (let z = r.0 in z.path) ≡ root_of b.path = ap first_uid
            (st.good.tree.lists.paths_are (root_of b.path) r.0 r.1) ∙ st.alike.units (root_of b.path) (actor b.path) (sym over)
            ∙ ap first_uid (sym (st.good.tree.lists.paths_are (actor b.path) b found)) in
            sees.roots (root_of b.path) r.0 r.1 own

        given : (was : Known) → kp.kept ≡ Some was → (z : Bool) →
            binding_number (let h = cond z (given_away kp was) kp in h.avoid) < S.naming.bound
        given was is true =
            let h : SeesKeeping (root (f.act (root_of b.path))) (Some was) kp.avoid S = subst
            (λ (o : Option Known). SeesKeeping (root (f.act (root_of b.path))) o kp.avoid S) is
            (subst (λ (z : ℕ). SeesKeeping (root (f.act (root_of b.path))) (kept_of z (root_at (root_of b.path) q))
            (let g = keeping_of z (root_at (root_of b.path) q) in g.avoid) S) (sym same) sees_root.keeping) in
            subst (λ (z : ℕ). z < S.naming.bound) h.kept (kept_low (root (f.act (root_of b.path))))
        given was is false = its_avoids.roots (root_of b.path) y same

        by : (o : Option Known) → kp.kept ≡ o →
            binding_number (let h = renewed (is_free (root_of b.path) (actor b.path) y q) kp o in h.avoid) < S.naming.bound
        by None is = its_avoids.roots (root_of b.path) y same
        by (Some was) is = given was is (is_free (root_of b.path) (actor b.path) y q && kp.spoiled)

    asks_of : (v : Parts) → Avoids Below v.coord → (e : Disk) (N : Seen) → LivesRun (up k e v N) → KnowsAsks c v.coord
    asks_of v avoids e N lives = record {
      states = λ u z w h o found now at. states_of k e v N lives u z w h o found now at;
      avoids = λ u z w a found now at same. avoids.works u z w a found now at same;
    }

    -- ---- what is known where something comes

    few : (IsGood (world_at s) × AreSaid (world_at s)) × HasFewBindings M.lines
    few = (((begun, good), whole.counts), knows.0.0)

    lived : KeepsGiven hd (λ N. (IsGood N × AreSaid N) × HasFewBindings N.lines) (λ N. LivesRun N × KnowsRun N)
    lived = calls_go hd (λ N. (IsGood N × AreSaid N) × HasFewBindings N.lines) (λ N g. g.0.0)
        (λ j e v N g o its. fits (bindings_made N.lines) o.count (g.0.1 j (record { number = j; disk = e; live = Some v })
        (λ i. cond (same_number j i) (Some (record { number = j; disk = e; live = Some v })) (N.nodes j)) v o refl its) g.1)
      where
        fits : (n a : ℕ) → a ≤ n → n < 4294967295 → a + 1 < 4294967296
        fits n a le less = omega (arith, le, less)

    listed : (y : ℕ) (o : Copy) → Contains {X = ℕ × Copy} (let v = t.server in v.objects) (y, o) →
        at_number y (let v = t.server in v.objects) ≡ Some o
    listed y o i =
        let r = knows.0.1.1 in
        let b = (let g = r.1 in g.begun) in
        let a = r.2 ((paths_of r.0), begun_tree r.0 b, path_found r.0 b) in
        copies_listed (paths_of r.0) M.sent k its_node t (a.nodes k its_node here) refl y o i

    -- ---- inputs, answers, ticks

    knows_input : KnowsInput s
    knows_input = record {
      waits = works.waits;
      binds = binds.nodes k its_node t here refl;
      grants = (let g = whole.grants in (let e = g.1 in e.nodes k its_node t here refl).0);
    }

    -- the coordinator behind a walk
    ends_at : (v : Parts) (e : Disk) (N : Seen) → WorksAreKnown (up k e v N) → KnowsEnds v.coord
    ends_at v e N w = let b = w.1 in let z = (b.nodes k (record { number = k; disk = e; live = Some v }) v
        (λ i. cond (same_number k i) (Some (record { number = k; disk = e; live = Some v })) (N.nodes k)) refl).0 in z.ends

    knows_acts : (i : Input) → is_act i ≡ true → refusal_up hd i q ≡ None → KnowsAfter c (let D = acts i d.intents q in D.part)
    knows_acts i is free =
        let D = acts i d.intents q in
        let v = with_coord t D.part in
        let l = walk_end (λ N. LivesRun N × KnowsRun N) 0 k (Up (λ N. LivesRun N × KnowsRun N) k v) D.outs d M
        (lived.act 0 k d t i M is free few knows.0.1) in
        let w = walk_end WorksAreKnown 0 k (Up WorksAreKnown k v) D.outs d M ((works_keep hd).act 0 k d t i M is free whole.works) in
        record {
          asks = asks_of v (avoids_by Below none_below M.sent k q place its_avoids hd i d.intents free other
              (λ l y o b same named. renewed_below y b (named_found begun (paths_of begun) (begun_tree begun good.begun) d.intents q
              (good_coord 0 k d t M (begun, good)) l b named))) l.0 l.1 l.2.0;
          ends = ends_at v w.0 w.1 w.2;
        }
      where
        other : (l : Label) (how : Kind) (parent : Option Label) → i ≢ input.Begin l how parent
        other l how parent same = let no_way : false ≡ true = sym (ap is_act same) ∙ is in cc no_way

    knows_asks : KnowsAsks c q
    knows_asks = asks_of t its_avoids d M knows.0.1.0

    tells : TellsRecords s
    tells u i there =
        let r = whole.records k its_node here in
        let g = r.live t refl in
        let a = stands_there u i q.telling (in_from (u, i) q.telling there) in
        let z = (let h = g.0 in h.told u a.0 a.1) in
        (z.0, in_to (u, z.0) d.intents (at_in u z.0 d.intents z.1))

    -- ---- acknowledgements and questions

    whole_roots : (u : Uid) → HasWholeRoots s u
    whole_roots u i b at found =
        let r = whole.records k its_node here in
        let rooted : IsRooted begun u i = (let e = r.disk in e.each u i at) in
        let tops : AreOfTops begun d.intents = tops_of_disk 0 k d t M (begun, good) in
        let top : IsTopAction begun u = top_in begun u i d.intents tops (at_in u i d.intents at) in
        let one : rooted.0 ≡ top.0 = one_action begun good.begun rooted.0 top.0 (in_from rooted.0 begun rooted.1)
        (in_from top.0 begun top.1) (rooted.2 ∙ sym top.2) in
        let w = root_whole begun rooted.0 rooted.1 (λ e. top.3 (ap (λ (z : Action). z.kind) (sym one) ∙ e))
        (stood begun good.begun rooted.0 rooted.1) in
        let g = good_coord 0 k d t M (begun, good) in
        let its : act_of (action_of b) ≡ i.root = g.tree.lists.places i.root b found in
        let same : action_of b ≡ w.0 = one_action begun good.begun (action_of b) w.0 (in_from (action_of b) begun (g.known i.root b found))
        (in_from w.0 begun w.1) (its ∙ sym (w.2 ∙ rooted.3)) in
        λ e. w.3 (ap (λ (z : Action). z.kind) (sym same) ∙ e)

    about : (from : ℕ) (u : Uid) → In (record { from = from; to = k; message = message.Query (record { act = u }) }) M.sent →
        IsAskedAbout c s u
    about from u there = let a = (let w = whole.tops in
        w.sent (record { from = from; to = k; message = message.Query (record { act = u }) }) there).0 in (a.1.0, a.1.1, a.1.2, a.1.3, a.0)

    -- ---- locks of constituents

    module _ (n : Naming) (is : t.naming ≡ Some n) (o : Named) (at : at_number x n.objects ≡ Some o) (a : Action) (there : Contains begun a)
        (how : a.kind ≡ kind.Constituent) where
      below : Stood begun a kind.Constituent
      below = subst (Stood begun a) how (stood begun good.begun a there)

      -- it doesn't stand alone in the machine
      not_alone : IsAlong f.act (act_of a ∷ []) → ⊥
      not_alone along =
          let whole_tree = (let g = seen.agrees in g.whole) in
          let above : on (f.act (act_of a)) (f.act (act_of below.0)) ≡ true = whole_tree.alike.above (act_of a) (act_of below.0)
          ∙ ap (λ us. is_on us (act_of below.0)) (whole_tree.agree a there ∙ below.3)
          ∙ or_left (uid_eq (act_of below.0) (act_of below.0)) (is_on (act_of a ∷ []) (act_of below.0)) (uid_same (act_of below.0)) in
          let one : a ≡ below.0 = one_action begun good.begun a below.0 (in_from a begun there) (in_from below.0 begun below.1)
          (on_one (act_of a) (act_of below.0) (along.alone (act_of below.0) above)) in
          let kinds : kind.Constituent ≡ kind.Serial = sym how ∙ ap (λ (z : Action). z.kind) one ∙ below.2 in cc kinds

      firsts : HaveFirsts f.act n.confirmed S.naming.confirmed o.rows
      firsts =
          let z : SeesNaming (view_in c k) n S = subst (SeesNamingIn (view_in c k) S) is
          (let m = (let r = seen.sees in r.nodes k its_node here) in m.naming) in
          let same : z.named ≡ o = cc (sym z.there ∙ at) in
          subst (λ (w : Named). HaveFirsts f.act n.confirmed S.naming.confirmed w.rows) same z.firsts

      -- Where naming confirmed it now, each of its locks is by its path: none of it was given back by a restart.
      heir : IsConfirmedNow c (act_of a) → (r : Row) → Contains o.rows r → is_held_by (act_of a) r ≡ true →
          before_last r.holder ≡ before_last (uids_of a.path)
      heir now r i held = by (all_found (λ (q : Named). (w : Row) → Contains q.rows w →
          IsEntryRow begun w) x n.objects o (let u = whole.names k its_node here in let h = u.live t n refl is in h.entries) at r i)
        where
          own : last_uid r.holder ≡ act_of a
          own = uid_is (last_uid r.holder) (act_of a) held

          lone : (u : Uid) → r.holder ≡ u ∷ [] → ⊥
          lone u is_u = ⊎_elim not_alone (λ back. cc (sym now ∙ back.2)) (subst (StandsFirst f.act n.confirmed S.naming.confirmed)
              (is_u ∙ ap (λ (w : Uid). w ∷ []) (sym (ap last_uid is_u) ∙ own)) (firsts r i))

          same_path : (b : Action) → Contains begun b → b.kind ≡ kind.Constituent → r.holder ≡ uids_of b.path →
              before_last r.holder ≡ before_last (uids_of a.path)
          same_path b known its path =
              let up = subst (Stood begun b) its (stood begun good.begun b known) in
              let one : b ≡ a = one_action begun good.begun b a (in_from b begun known) (in_from a begun there)
              (sym (ap last_uid up.3) ∙ sym (ap last_uid path) ∙ own) in
              ap before_last path ∙ ap (λ (z : Action). before_last (uids_of z.path)) one

          by : IsEntryRow begun r → before_last r.holder ≡ before_last (uids_of a.path)
          by (inl (u, started, is_u, alone)) = absurd (lone u is_u)
          by (inr (b, known, its, path, two)) = same_path b known its path

    -- ---- naming and servers

    module _ (Y : List Action → State → Seen → Type 0) (begins : (values : Values) × StandsFor f (values x))
        (rest : GivesRest f x (λ b T N. Known_all b N × Y b T N)) (more : Y begun S (world_at s)) where
      spot : KnowsSpot c s
      spot = record {
        parted = whole.parted;
        server = record {
          listed = listed;
          left = λ u told new over never. none_left f x begun S s seen whole.aborts whole.acks
              (λ t c n its asked three called writes survives same. rest.recorded begun S (world_at s) t c n k (let v = server_at s in
              v.inc) (knows, more) seen its asked three called writes survives same) u told never;
          unvoted = λ u told new top open_unit.
              unvoted f x begun S s seen whole.parted whole.records whole.aborts begins whole.acks u told top open_unit;
        };
        naming = λ n is. record {
          holds = holds n is;
          unconfirmed = λ u told new top open_unit now.
              unconfirmed f x begun S s seen whole.parted whole.records whole.aborts begins n u is told new top open_unit now;
          heirs = λ o a at there how told new now r i held. heir n is o at a there how now r i held;
          nothing = λ o a at there nested told new.
              nested_nothing begun k its_node t n (world_at s) good uppers here refl is x o a at there nested;
          lost = λ w u apart loses. whose_loss begun good.begun n (let z = whole.names k its_node here in let h = z.live t n refl is in
              h.entries) w u apart loses;
        };
      }

      answer : (from : ℕ) (m : Message) (a : Asked × Reply) → In (record { from = from; to = k; message = m }) M.sent → answers m ≡ Some a →
          KnowsAnswer c s from a.0 a.1
      answer from m a there of = record {
        waits = works.waits;
        requests = (let z = whole.requests in z.1 k its_node t here refl);
        asks = knows_asks;
        ends = works.ends;
        binds = binds;
        last = (let l = rest.loads in l.last begun S s from m a (knows, more) seen there of);
      }

    -- naming behind a message
    holds_after : (from : ℕ) (m : Message) (v : Parts) (outs : List Effect) → HasCome s from m v outs → HoldsNamingIn c k v.naming
    holds_after from m v outs come n is =
        let z = walk_end (KnowsWhole x begun) 0 k (Up (KnowsWhole x begun) k v) outs d M
        ((whole_of hd x has).message begun 0 k d t v from m outs M knows.0 good whole come.sent come.meant come.takes) in
        let w = z.2 in
        let g = (subst (GrowsBy k d t from) come.takes (message_grows k d t from m)).1 n is in
        record {
          count = grown (let o = g.0 in o.count) n.count (count_low g.0 g.1) (let u = g.2 in u.1);
          good = (let h = (let u = w.names k (record { number = k; disk = z.0; live = Some v }) (λ i. cond (same_number k i)
              (Some (record { number = k; disk = z.0; live = Some v })) (let N = z.1 in N.nodes k)) in u.live v n refl is) in
              let o = h.objects in λ y at. o.objects x y at);
        }
      where
        grown : (a b : ℕ) → a < 4294967295 → (b ≡ a) ⊎ (b ≡ a + 1) → b < 4294967296
        grown a b less (inl same) = omega (arith, less, same)
        grown a b less (inr one) = omega (arith, less, one)

  pub gives_locks : (Y : List Action → State → Seen → Type 0) → ((values : Values) × StandsFor f (values x)) →
      GivesRest f x (λ b T N. Known_all b N × Y b T N) → GivesLocks hd f x (λ b T N. Known_all b N × Y b T N)
  gives_locks Y begins rest = record {
    holds = λ begun S s knows seen. holds begun S s knows.0 seen;
    parts = λ begun S s from m v outs knows seen come mine.
        (spot begun S s knows.0 seen Y begins rest knows.1, holds_after begun S s knows.0 seen from m v outs come);
    asked = λ begun S s from u v outs knows seen come. about begun S s knows.0 seen from u come.sent;
    acked = λ begun S s from u v outs knows seen come. whole_roots begun S s knows.0 seen u;
    heard = λ begun S s from m a v outs knows seen come of. answer begun S s knows.0 seen Y begins rest knows.1 from m a come.sent of;
    act = λ begun S s i knows seen is free. (knows_input begun S s knows.0 seen, knows_acts begun S s knows.0 seen i is free);
    begin = λ begun S s knows seen. new_root (coord_at s) (let w = works begun S s knows.0 seen in w.roots);
    tick = λ begun S s knows seen. let w = works begun S s knows.0 seen in
        (knows_asks begun S s knows.0 seen, w.ends, tells begun S s knows.0 seen);
    restart = λ begun S k d M knows seen is inc. entries_found x inc d.names (entry_at k d M knows.0.1.0.entry is);
    first = λ st formed is inc. entries_found x inc (let d = disk_by hd st 1 in d.names) (first_there x hd st has);
  }
    where
      entry_at : (k : ℕ) (d : Disk) (M : Seen) → HoldsEntry x (down k d M) → k ≡ 1 → is_some (held_at (entry x) d.names) ≡ true
      entry_at k d M holds_it is = holds_it (record { number = k; disk = d; live = None })
          (subst (λ (j : ℕ). (let W = down k d M in W.nodes j) ≡ Some (record { number = k; disk = d; live = None })) is
          (λ i. cond (same_number k i) (Some (record { number = k; disk = d; live = None })) (M.nodes k)))
