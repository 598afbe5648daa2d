-- What is known of nodes in every run, as far as outcomes count on it.
use Rattle.arj_law_parts.proofs.Words
use Words.{◌≡◌, ◌≢◌, ◌⊎◌, ◌∙◌, ◌||◌, ℕ, Bool, true, false, cond, List, length, Option, Some, None, refl, sym, ap, subst, inl, inr, ⊎_elim}
use Words.{is_some, is_on, in_from, in_to, End, Kind, Uid, plan_of, Doing, doing_of, Intent, Parts, at_uid, Node, is_committing_now, Branch}
use Words.{branch_of, is_own, Seen, is_serial}
use Words.ask
use Words.ending
use Words.kind
use Rattle.arj_law_promise.proofs.Terms
use Terms.{Action, action_of, paths_of, IsSettled, IsBusy, IsCommitting, IsGoodCoord, IsVoting, AreNumbered, begun_tree, one_action}
use Terms.{path_found, doing_by, found_by, at_in, work_there, IsGood, IsGoodOf, IsMemory, IsUp, BindsAreKnown, book, is_decided, IsKept}
use Terms.{IsKnown, KnowsNode, IsTopOf, EndsArePast, IsClosedAt, live_in, AsksForItself, IsForItself, AskersSettle}
use Terms.{DisksAreKnown, some_is}
use Rattle.arj_law_disk_view.proofs.view.TopFrames.{branch_at}
use Rattle.arj_law_parts.specs.parts.Ends.{AreOfCommits, IsSure}
use Rattle.arj_law_promise.proofs.settling.{Cores.IsDone, Cores.WasTold, Yeses.AskedFrom}
use Rattle.arj_law_runs.proofs.journal.Books.{open_is}
use Rattle.arj_law_runs.specs.journal.{Book.is_over, Knows.IsEnd, Knows.KnowsUp}
use Rattle.arj_law_runs.specs.kept.Worlds.{AreCommittedIn, IsGoodPlace}

-- the journal, who was told of ends, what is prepared, and who asked for it
abbrev pub Known : Seen → Type 0
Known M = ((IsKept M × EndsArePast M) × DisksAreKnown M) × ((IsGood M × BindsAreKnown M) × AskersSettle M)

pub never : {A : Type 0} {b : Bool} → b ≡ true → b ≡ false → A
never holds fails = let no_way : true ≡ false = sym holds ∙ fails in absurd (cc no_way)

none_of : (o : Option End) → is_some o ≡ false → o ≡ None
none_of None is = refl
none_of (Some e) is = absurd (cc is)

module _ (M : Seen) (known : Known M) where
  abbrev kept : IsKept M
  kept = known.0.0.0

  -- whoever was asked is a top that asks itself
  pub itself : (j : ℕ) (u : Uid) (n : ℕ) → AskedFrom j M.sent u n → IsTopOf (let d = known.0.1 in d.0) u × (u.node ≡ j)
  itself j u n (p, i, from, to, h, states, is, act) =
      let d = known.0.1 in
      let all = (let z = d.2 in z.1) in
      let f : IsForItself d.0 p.from h u = subst (AsksForItself d.0 p.from) is (all.sent p i) u (ap Some act) in
      (f.top, f.home ∙ from)

  module _ (j : ℕ) (a : Node) (t : Parts) (here : M.nodes j ≡ Some a) (live : a.live ≡ Some t) where
    abbrev begun : List Action
    begun = (let g = kept.0 in g.0)

    good : IsGoodOf begun M
    good = (let g = kept.0 in g.1)

    place : IsGoodPlace begun M.sent M.labels j a
    place = good.places j a here

    its_up : IsUp begun M.sent M.labels j (let d = a.disk in d.inc) t
    its_up = subst (IsMemory begun M.sent M.labels j (let d = a.disk in d.inc)) live (let p = place in p.memory)

    pub coord : IsGoodCoord begun (paths_of begun) t.coord
    coord = let u = its_up in let g = u.good (paths_of begun) (begun_tree begun good.begun) (path_found begun good.begun) in g.coord

    pub works : length t.coord.doings ≡ length t.coord.tree.branches
    works = let u = its_up in let f = u.faithful in f.works

    pub numbers : AreNumbered t.coord
    numbers = let u = its_up in u.numbered

    pub sure : IsSure t.coord
    sure = let u = its_up in u.sure

    pub node_is : (u : Uid) (b : Branch) → branch_of u t.coord.tree ≡ Some b → u.node ≡ j
    node_is u b found = (branch_at u t.coord b found).0 ∙ (let z = its_up in z.node)

    pub own_node : (u : Uid) (d : Doing) → doing_of u t.coord ≡ Some d → is_own u t.coord.tree ≡ true
    own_node u d found = (doing_by u t.coord d found).0

    pub knows : KnowsUp (book M.lines) (let d = a.disk in d.intents) t.coord
    knows = let w = kept.1 in let n : KnowsNode (book M.lines) j a = w.nodes j a here in n.live t live

    records : AreOfCommits (let d = a.disk in d.intents) t.coord.tree
    records = subst (AreCommittedIn (let d = a.disk in d.intents)) live (let p = place in p.records)

    -- who is at its commit is open, and a top
    pub committing : (u : Uid) → IsCommitting u t.coord → (b : Branch) × (branch_of u t.coord.tree ≡ Some b) × (is_some b.ended ≡ false)
    committing u (d, m, found, now) = let v : IsVoting t.coord.tree u (plan_of m) = subst (IsBusy t.coord.tree u) now (let g = coord in
        g.busy u d found) in (v.asking.branch, v.asking.found, v.asking.opened)

    end_of : (u : Uid) (b : Branch) → branch_of u t.coord.tree ≡ Some b → IsEnd (book M.lines) u b.kind b.ended
    end_of u b found = let w = work_there t.coord works u b found in let l = knows in let q = l.knows in
        let s : IsKnown (book M.lines) u b.kind b.ended (let z = w.0 in z.label) = q.acts u b w.0 found w.1 in s.end

    -- the record of an action of this incarnation is of a committed one
    pub record_committed : (u : Uid) (i : Intent) → at_uid u (let d = a.disk in d.intents) ≡ Some i → is_own u t.coord.tree ≡ true →
        (b : Branch) × (branch_of u t.coord.tree ≡ Some b) × (b.ended ≡ Some ending.Commit)
    record_committed u i at own = records u i (in_to (u, i) (let d = a.disk in d.intents) (at_in u i (let d = a.disk in d.intents) at)) own

    open_over : (u : Uid) (b : Branch) → branch_of u t.coord.tree ≡ Some b → is_some b.ended ≡ false →
        (is_over (book M.lines) u ≡ false) × (is_decided (book M.lines) u ≡ false)
    open_over u b found opened =
        let e = subst (IsEnd (book M.lines) u b.kind) (none_of b.ended opened) (end_of u b found) in
        let o = open_is (book M.lines) u e.0 in
        (e.0, (λ i. o.0 i || e.1 i))

    -- who is open isn't decided
    pub open_undone : (u : Uid) (b : Branch) → branch_of u t.coord.tree ≡ Some b → is_some b.ended ≡ false → IsDone M u → ⊥
    open_undone u b found opened (inl decided) = never decided (open_over u b found opened).1
    open_undone u b found opened (inr (x, i, there, at)) =
        let same : x ≡ a = some_is (sym there ∙ ap M.nodes (node_is u b found) ∙ here) in
        let c = record_committed u i (subst (λ (z : Node). at_uid u (let d = z.disk in d.intents) ≡ Some i) same at)
        (let f = found_by u t.coord.tree b found in f.0) in
        let one : c.0 ≡ b = some_is (sym c.1 ∙ found) in
        never (ap (λ (o : Option End). is_some o) (ap (λ (z : Branch). z.ended) (sym one) ∙ c.2)) opened

    -- who has ended, and isn't serializing, was committed or aborted by the journal
    pub ended_so : (u : Uid) (b : Branch) → branch_of u t.coord.tree ≡ Some b → is_some b.ended ≡ true → b.kind ≢ kind.Serial →
        (is_on (let B = book M.lines in B.committed) u ≡ true) ⊎ (is_on (let B = book M.lines in B.aborted) u ≡ true)
    ended_so u b found ended unserial = by b.ended refl (end_of u b found) ended
      where
        plain : (k : Kind) → k ≢ kind.Serial → is_serial k ≡ false
        plain kind.Serial n = absurd (n refl)
        plain kind.Top n = refl
        plain kind.Nested n = refl
        plain kind.Constituent n = refl
        plain kind.Independent n = refl

        by : (o : Option End) → b.ended ≡ o → IsEnd (book M.lines) u b.kind b.ended → is_some b.ended ≡ true →
            (is_on (let B = book M.lines in B.committed) u ≡ true) ⊎ (is_on (let B = book M.lines in B.aborted) u ≡ true)
        by None none end some = never some (ap (λ (o : Option End). is_some o) none)
        by (Some ending.Commit) is end some = inl (subst (λ s. cond s (is_on (let B = book M.lines in B.ended) u)
            (is_on (let B = book M.lines in B.committed) u) ≡ true) (plain b.kind unserial) (subst (IsEnd (book M.lines) u b.kind) is end))
        by (Some ending.Abort) is end some = inr (subst (IsEnd (book M.lines) u b.kind) is end)

    -- and isn't open
    pub ended_closed : (u : Uid) → (is_on (let B = book M.lines in B.committed) u ≡ true) ⊎ (is_on (let B = book M.lines in B.aborted) u
        ≡ true) → (b : Branch) → branch_of u t.coord.tree ≡ Some b → is_some b.ended ≡ false → ⊥
    ended_closed u on b found opened = let o = open_is (book M.lines) u (open_over u b found opened).0 in
        ⊎_elim (λ c. never c o.0) (λ c. never c o.1) on

    -- of who is at its commit that was called
    pub commit_called : (u : Uid) → IsCommitting u t.coord → is_on (let B = book M.lines in B.called) u ≡ true
    commit_called u (d, m, found, now) = let c = committing u (d, m, found, now) in let l = knows in
        l.calls u c.0 d c.1 found (none_of (let b = c.0 in b.ended) c.2) ∙ ap is_committing_now now

    -- who was told of its end has ended
    pub told_closed : (u : Uid) → u.node ≡ j → WasTold M.sent u → (b : Branch) → branch_of u t.coord.tree ≡ Some b →
        is_some b.ended ≡ false → ⊥
    told_closed u home (p, i, e, there) b found opened =
        let past = known.0.0.1 in
        let all = past.2 in
        let s = all.posts p i in
        let c : IsClosedAt u (live_in (M.nodes u.node)) = (s.told u e there).1 in
        let closed = subst (IsClosedAt u) (ap (λ k. live_in (M.nodes k)) home ∙ ap live_in here ∙ live) c in
        never (closed b found) opened

    -- whoever was asked by this coordinator has ended, or is at its commit
    pub asked_settled : (u : Uid) (n : ℕ) → AskedFrom j M.sent u n → is_own u t.coord.tree ≡ true → IsSettled u t.coord
    asked_settled u n (p, i, from, to, h, states, is, act) own = subst (λ v. IsSettled v t.coord) act
        (known.1.1 j a t here live p h (ask.Prepare states) i from is refl (ap (λ v. is_own v t.coord.tree) act ∙ own))

    -- the branch of a top is of a top's kind
    pub top_kind : (u : Uid) (b : Branch) → branch_of u t.coord.tree ≡ Some b → IsTopOf (let d = known.0.1 in d.0) u → b.kind ≢ kind.Serial
    top_kind u b found top serial =
        let d = known.0.1 in
        let g : IsGoodOf d.0 M = d.1 in
        let p = g.places j a here in
        let m : IsUp d.0 M.sent M.labels j (let z = a.disk in
        z.inc) t = subst (IsMemory d.0 M.sent M.labels j (let z = a.disk in z.inc)) live p.memory in
        let c = (let n = m.good (paths_of d.0) (begun_tree d.0 g.begun) (path_found d.0 g.begun) in n.coord) in
        let there = c.known u b found in
        let same = one_action d.0 g.begun (action_of b) top.0 (in_from (action_of b) d.0 there) (in_from top.0 d.0 top.1)
        (c.tree.lists.places u b found ∙ sym top.2) in
        top.4 (ap (λ (z : Action). z.kind) (sym same) ∙ serial)
