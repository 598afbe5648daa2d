-- What an event about one action, one node or one frame adds at its node: own lines, and then work.
use Rattle.arj_law_parts.proofs.Words
use Words.{◌≡◌, ◌⊎◌, ◌∙◌, ◌+◌, ◌≤◌, ◌<◌, ◌++◌, not, ℕ, zero, suc, true, false, cond, List, [], ◌∷◌, length, refl, sym, ap, subst, arith}
use Words.{inl, inr, ⊎_elim, Option, Some, None, is_some, at_place, Body, Header, Label, FrameNo, Op, Branch, Doing, Node, Parts, Input}
use Words.{Arm, World, Frame, actor, as_delivered, branch_named, change_frame, counted, deliver, deliver_frame, doing_of, first_reason}
use Words.{frame_number, is_frame, is_given, is_up, is_up_at, name, node_in, node_of, reasons, refusal, refused_at, refused_by, step}
use Words.{steps, uid_at, Move, acts}
use Words.body
use Words.cause
use Words.event
use Words.frame_no
use Words.input
use Rattle.arj_law_runs.proofs.Terms.{Act, Holds, IsMemory, IsUp, act_in, option_map}
use Rattle.arj_law_runs.proofs.Terms as terms
use Rattle.arj_law_parts.proofs.moves.Reasons.{first_not, not_not}
use Rattle.arj_law_runs.proofs.journal.Ties.{named_label}
use Rattle.arj_law_runs.proofs.addresses.Runs.{within_of}
use Rattle.arj_law_runs.proofs.follow.Frames as frames
use Rattle.arj_law_runs.proofs.follow.Gone.{its_action}
use Rattle.arj_law_runs.proofs.follow.Refusing as refusing
use Rattle.arj_law_runs.proofs.follow.Shorts as shorts
use Rattle.arj_law_runs.proofs.follow.Telling.{frame_test}
use Rattle.arj_law_runs.proofs.follow.Walking.{AreFor}
use Rattle.arj_law_cause.proofs.follow.causes.{Reasons.Finds, Standing.IsOne, Standing.its_uid, Standing.named_one, Standing.own_number}
use Rattle.arj_law_runs.proofs.follow.Uids.{KnowsNext, count_of}
use Rattle.arj_law_cause.proofs.follow.lines.{Aborts.abort_lines, Numbers.AreInTurn, Saying.say_all}
use Rattle.arj_law_cause.proofs.follow.lines.Rising.{KnowsRising}
use Rattle.arj_law_cause.proofs.follow.lines.Saying
use Saying.{Adds, Led, Tells}
use Rattle.arj_law_cause.proofs.follow.lines.Steps
use Steps.{IsBack, IsCommitLine, IsTaken, Nothing, abort_tells, call_tells, commit_tells, finds, frame_tells, giveup_tells, include_tells}
use Steps.{loses, restart_tells}
use Rattle.arj_law_cause.proofs.follow.lines.Working.{works}
use Rattle.arj_law_cause.specs.follow.lines.Lines.{BeginsCommitSo}
use Rattle.arj_model.specs.Own as own
use Rattle.arj_model.specs.Past.{Past}
use Rattle.arj_model.specs.Refusals as model
use Rattle.arj_promise.specs.Runs.{HeaderFits, IsStoppedInForm}
use Rattle.arj_protocol.specs.World as world
use Rattle.arj_law_cause.proofs.follow.lines.Labels.{label_is, receiver_is, to_node}
use Rattle.arj_law_cause.proofs.follow.lines.Several.{node_adds, tick_of}

-- a coordinator has as many actions as the journal has of its incarnation
pub count_so : (hd : Header) (w : World) (next : Holds hd KnowsNext w) (k : ℕ) (n : Node) → at_place k w.nodes ≡ Some n → (v : Parts) →
    n.live ≡ Some v → count_of v.coord.tree.node v.coord.tree.inc (terms.acts w.lines) ≡ length v.coord.tree.branches
count_so hd w next k n there v live = (λ i. count_of (its.node i) (its.inc i) (terms.acts w.lines)) ∙ ((next.holds.1 k n there).1 v live).1
  where
    its : (let good = next.holds.0.0.0 in IsUp good.0 next.sent w.labels k (let d = n.disk in d.inc) v)
    its = let good = next.holds.0.0.0 in let place = good.1.places k n there in
        subst (IsMemory good.0 next.sent w.labels k (let d = n.disk in d.inc)) live place.memory

module _ (hd : Header) (form : HeaderFits hd) where
  module _ (m : Move) (p : Past) (w : World) (stops : IsStoppedInForm m) (s : shorts.Stands hd form p w) (on : w.over ≡ false) where
    abbrev arm : Arm
    arm = let a = m.asked in a.arm

    abbrev t : World
    t = counted (record w { arms = m.falls })

    base : frames.Stands hd form p w
    base = s.base.base

    -- ---- an action's own node

    -- the node that an event asks about an action, where it doesn't refuse
    pub record Asks (l : Label) (i : Input) : Type 0 where
      pub node : Node
      pub there : at_place (node_of l t) t.nodes ≡ Some node
      pub parts : Parts
      pub live : node.live ≡ Some parts
      pub branch : Branch
      pub named : branch_named l parts.coord ≡ Some branch
      pub going : is_some branch.ended ≡ false
      pub free : refusal t.header i node ≡ None
      pub home : own.node_of p.lines (name l) ≡ Some (node_of l t)

    pub asks_so : (l : Label) (i : Input) (f : Finds i l) → is_given l t ≡ true → refused_at i t (at_place (node_of l t) t.nodes) ≡ None →
        Asks l i
    asks_so l i f given free =
        let r = refusing.labelled_so hd form m p w stops s.base on l given in
        let g = r.0 in
        let there : at_place (node_of l t) t.nodes ≡ Some r.1 = ap (λ o. at_place (node_in o) t.nodes) r.2 ∙ r.3 in
        let a = its_action hd w s.base.halts s.base.finds l r.0 r.2 r.1 r.3 in
        let home : own.node_of p.lines (name l) ≡ Some (node_of l t)
        = (λ i. option_map (λ (x : Act). (let u = x.uid in u.node)) (act_in (terms.acts (base.lines i)) (name l)))
        ∙ ap (option_map (λ (x : Act). (let u = x.uid in u.node))) a.1 ∙ ap Some (a.2 ∙ sym (ap node_in r.2)) in
        live r.1 there home (let n = r.1 in n.live) refl (sym (ap (refused_at i t) there) ∙ free)
      where
        found : (n : Node) → at_place (node_of l t) t.nodes ≡ Some n → own.node_of p.lines (name l) ≡ Some (node_of l t) → (v : Parts) →
            n.live ≡ Some v → refusal t.header i n ≡ None → (o : Option Branch) → branch_named l v.coord ≡ o →
            refused_by (λ b d. (6, is_some b.ended) ∷ f.reasons t.header b d) v.coord o ≡ None → Asks l i
        found n there home v live none (Some b) named up = record {
          node = n;
          there = there;
          parts = v;
          live = live;
          branch = b;
          named = named;
          going = (first_not 6 (is_some b.ended) (f.reasons t.header b v.coord) up).0;
          free = none;
          home = home;
        }
        found n there home v live none None named up = let no_way : ◌≡◌ {A = Option ℕ} (Some 6) None = up in absurd (cc no_way)

        live : (n : Node) → at_place (node_of l t) t.nodes ≡ Some n → own.node_of p.lines (name l) ≡ Some (node_of l t) →
            (o : Option Parts) →
            n.live ≡ o → refusal t.header i n ≡ None → Asks l i
        live n there home None is none =
            let no_way : ◌≡◌ {A = Option ℕ} (Some 6) None = sym (ap (input.refusal_at t.header i) is ∙ f.down t.header) ∙ none in
            absurd (cc no_way)
        live n there home (Some v) is none = found n there home v is none (branch_named l v.coord) refl
            (ap (λ o. refused_by (λ b d. (6, is_some b.ended) ∷ f.reasons t.header b d) v.coord o) refl
            ∙ sym (f.finds t.header v.coord) ∙ sym (ap (input.refusal_at t.header i) is) ∙ none)

    -- the step of a node that takes it
    taken_step : (i : Input) (n : Node) (v : Parts) → n.live ≡ Some v → refusal t.header i n ≡ None → step t.header n i
        ≡ input.step_up i n v
    taken_step i n v live free = ap (input.step_unless t.header i n) free ∙ ap (input.step_of t.header i n) live

    pub call_adds : (l : Label) (x : ℕ) (o : Op) → Asks l (input.Call l x o) →
        Adds (Led works Nothing (node_of l t)) t (steps (node_of l t) (input.Call l x o) t)
    call_adds l x o q =
        node_adds (Led works Nothing (node_of l t)) (node_of l t) (input.Call l x o) t q.node q.there
        (subst (Tells (Led works Nothing (node_of l t)) (node_of l t) (let n = q.node in n.disk))
        (sym (taken_step (input.Call l x o) q.node q.parts q.live q.free
        ∙ ap (λ z. input.coord_did q.node q.parts (input.on_branch (λ b. Words.call b.path x o (let v = q.parts in v.coord))
        (let v = q.parts in v.coord) z)) q.named))
        (call_tells (node_of l t) q.node q.parts q.branch x o))

    pub include_adds : (l : Label) (x n : ℕ) → Asks l (input.Include l x n) →
        Adds (Led works Nothing (node_of l t)) t (steps (node_of l t) (input.Include l x n) t)
    include_adds l x n q =
        node_adds (Led works Nothing (node_of l t)) (node_of l t) (input.Include l x n) t q.node q.there
        (subst (Tells (Led works Nothing (node_of l t)) (node_of l t) (let k = q.node in k.disk))
        (sym (taken_step (input.Include l x n) q.node q.parts q.live q.free
        ∙ ap (λ z. input.coord_did q.node q.parts (input.on_branch (λ b. Words.include b.path x n (let v = q.parts in v.coord))
        (let v = q.parts in v.coord) z)) q.named))
        (include_tells (node_of l t) q.node q.parts q.branch x n))

    -- what its coordinator does with it, under its label
    pub record Works (l : Label) (i : Input) (q : Asks l i) : Type 0 where
      pub doing : Doing
      pub does : (let b = q.branch in let v = q.parts in doing_of (actor b.path) v.coord) ≡ Some doing
      pub label : doing.label ≡ l

    pub works_so : (l : Label) (i : Input) (q : Asks l i) → Works l i q
    works_so l i q =
        let v = q.parts in
        let r = named_one hd w s.base.halts s.base.finds (node_of l t) q.node q.there q.parts q.live l q.branch q.named in
        let one : IsOne w.lines v.coord.doings (uid_at r.0 v.coord) q.branch r.2 = r.3 in
        let actor_is = its_uid hd w s.base.halts s.base.finds (node_of l t) q.node q.there q.parts q.live
        (uid_at r.0 v.coord) q.branch r.1 in
        let same_name : name (let d = one.doing in d.label) ≡ name l
        = sym one.label_is ∙ named_label (terms.acts w.lines) (name l) r.2 r.4 in record {
          doing = one.doing;
          does = ap (λ u. doing_of u v.coord) actor_is
              ∙ (λ j. cond (own_number hd w s.base.halts s.base.finds (node_of l t) q.node q.there q.parts q.live r.0 j)
              (at_place r.0 v.coord.doings) None) ∙ one.does;
          label = label_is (let d = one.doing in d.label) l same_name;
        }

    -- who is given up waits
    pub given_waits : (l : Label) (q : Asks l (input.GiveUp l)) →
        (let o = works_so l (input.GiveUp l) q in let d = o.doing in Words.is_waiting_now d.now) ≡ true
    given_waits l q =
        let o = works_so l (input.GiveUp l) q in
        let u = (let b = q.branch in actor b.path) in
        ap (λ z. Words.is_waiting z) (sym o.does) ∙ (not_not (Words.waits (let v = q.parts in v.coord) u)
        (first_not 8 (not (Words.waits (let v = q.parts in v.coord) u)) [] (first_not 6 (is_some (let b = q.branch in b.ended))
        ((8, not (Words.waits (let v = q.parts in v.coord) u)) ∷ []) not_refused).1).0)
      where
        not_refused : first_reason ((6, is_some (let b = q.branch in b.ended))
            ∷ (8, not (Words.waits (let v = q.parts in v.coord) (let b = q.branch in actor b.path))) ∷ []) ≡ None
        not_refused =
            sym (ap (refused_by (λ b d. (6, is_some b.ended) ∷ (8, not (Words.waits d (actor b.path))) ∷ []) (let v = q.parts in v.coord))
            q.named)
            ∙ sym (ap (input.refusal_at t.header (input.GiveUp l)) q.live) ∙ q.free

    -- own lines of a giveup, and then what it loses
    pub given_adds : (Own : Label → List Body → Type 0) (l : Label) (q : Asks l (input.GiveUp l)) →
        (let o = works_so l (input.GiveUp l) q in let d = o.doing in
        Own d.label (Words.map (λ (j : ℕ). body.GaveUp d.label j) (Steps.given_up_of d.now))) →
        Adds (Led (loses l) (Own l) (node_of l t)) t (steps (node_of l t) (input.GiveUp l) t)
    given_adds Own l q its =
        let o = works_so l (input.GiveUp l) q in
        let at = node_of l t in
        node_adds (Led (loses l) (Own l) at) at (input.GiveUp l) t q.node q.there
        (subst (Tells (Led (loses l) (Own l) at) at (let k = q.node in k.disk))
        (sym (taken_step (input.GiveUp l) q.node q.parts q.live q.free
        ∙ ap (λ z. input.coord_did q.node q.parts (input.on_branch (λ b. Words.give_up (actor b.path)
        (let k = q.node in let d = k.disk in d.intents) (let v = q.parts in v.coord)) (let v = q.parts in v.coord) z)) q.named))
        (subst (λ (x : Label). (let c = Words.give_up (let b = q.branch in actor b.path) (let k = q.node in let d = k.disk in d.intents)
        (let v = q.parts in v.coord) in Tells (Led (loses x) (Own x) at) at (let k = q.node in k.disk)
        (Words.node_did q.node [] (Words.with_coord q.parts c.part) c.outs))) o.label
        (giveup_tells at q.node q.parts (let b = q.branch in actor b.path) (let k = q.node in let d = k.disk in d.intents) o.doing o.does
        (Own (let d = o.doing in d.label)) its (given_waits l q))))

    -- the same with the line that the commit is lost, where it ends so
    pub first_adds : (l : Label) (q : Asks l (input.GiveUp l)) →
        (let o = works_so l (input.GiveUp l) q in let d = o.doing in
        Adds (Led works (λ own. own ≡ Steps.first_lines l d.now) (node_of l t)) t (steps (node_of l t) (input.GiveUp l) t))
    first_adds l q =
        let o = works_so l (input.GiveUp l) q in
        let at = node_of l t in
        let now = (let d = o.doing in d.now) in
        node_adds (Led works (λ own. own ≡ Steps.first_lines l now) at) at (input.GiveUp l) t q.node q.there
        (subst (Tells (Led works (λ own. own ≡ Steps.first_lines l now) at) at (let k = q.node in k.disk))
        (sym (taken_step (input.GiveUp l) q.node q.parts q.live q.free
        ∙ ap (λ z. input.coord_did q.node q.parts (input.on_branch (λ b. Words.give_up (actor b.path)
        (let k = q.node in let d = k.disk in d.intents) (let v = q.parts in v.coord)) (let v = q.parts in v.coord) z)) q.named))
        (subst (λ (x : Label). (let c = Words.give_up (let b = q.branch in actor b.path) (let k = q.node in let d = k.disk in d.intents)
        (let v = q.parts in v.coord) in Tells (Led works (λ own. own ≡ Steps.first_lines x now) at) at (let k = q.node in k.disk)
        (Words.node_did q.node [] (Words.with_coord q.parts c.part) c.outs))) o.label
        (Steps.first_tells at q.node q.parts (let b = q.branch in actor b.path) (let k = q.node in let d = k.disk in d.intents) o.doing
        o.does (given_waits l q))))

    pub giveup_adds : Holds hd KnowsRising w → (l : Label) → Asks l (input.GiveUp l) →
        Adds (Led (loses l) (own.AreGiveUps l) (node_of l t)) t (steps (node_of l t) (input.GiveUp l) t)
    giveup_adds rising l q =
        let o = works_so l (input.GiveUp l) q in
        let u = (let b = q.branch in actor b.path) in
        given_adds own.AreGiveUps l q
        (Steps.given_own (node_of l t) q.node q.parts u (let k = q.node in let d = k.disk in d.intents) o.doing o.does
        (let d = o.doing in d.now) (rising.holds.1 (node_of l t) q.node q.parts q.there q.live u o.doing o.does) (given_waits l q))

    -- the lines of what an abort ends
    abbrev pub AreAbortedOf : Label → List Body → Type 0
    AreAbortedOf l bs = own.AreAborted (own.aborted_of p.lines (act_in (terms.acts p.lines) (name l))) bs

    pub abort_adds : AreInTurn (terms.acts p.lines) → (l : Label) → Asks l (input.Abort l) →
        Adds (Led works (AreAbortedOf l) (node_of l t)) t (steps (node_of l t) (input.Abort l) t)
    abort_adds turn l q =
        let at = node_of l t in
        node_adds (Led works (AreAbortedOf l) at) at (input.Abort l) t q.node q.there
        (subst (Tells (Led works (AreAbortedOf l) at) at (let k = q.node in k.disk))
        (sym (taken_step (input.Abort l) q.node q.parts q.live q.free
        ∙ ap (λ z. input.coord_did q.node q.parts (input.on_branch (λ b. Words.abort_action (actor b.path)
        (let k = q.node in let d = k.disk in d.intents) (let v = q.parts in v.coord)) (let v = q.parts in v.coord) z)) q.named))
        (abort_tells at q.node q.parts (AreAbortedOf l) (let b = q.branch in actor b.path) (let k = q.node in let d = k.disk in d.intents)
        r.0 r.1 (subst (λ ls. own.AreAborted (own.aborted_of ls (act_in (terms.acts ls) (name l))) r.0) (sym base.lines) r.2)))
      where
        count : (let v = q.parts in count_of v.coord.tree.node v.coord.tree.inc (terms.acts w.lines) ≡ length v.coord.tree.branches)
        count = count_so hd w s.next (node_of l t) q.node q.there q.parts q.live

        r : (own_lines : List Body) × ((let b = q.branch in let v = q.parts in Words.all_aborted (Words.open_below
            (actor b.path) v.coord.tree
            ++ actor b.path ∷ []) v.coord).outs ≡ say_all own_lines)
            × own.AreAborted (own.aborted_of w.lines (act_in (terms.acts w.lines) (name l))) own_lines
        r = abort_lines hd w s.base.halts s.base.finds (node_of l t) q.node q.there q.parts q.live l q.branch q.named q.going
            (subst (λ ls. AreInTurn (terms.acts ls)) base.lines turn) count

    -- the commit's line, as the journal has the action
    abbrev IsCommitOf : Label → List Body → Type 0
    IsCommitOf l bs = BeginsCommitSo l (act_in (terms.acts p.lines) (name l)) bs

    pub commit_adds : (l : Label) → Asks l (input.Commit l) →
        (Own : List Body → Type 0) × ((bs : List Body) → Own bs → IsCommitOf l bs)
        × Adds (Led works Own (node_of l t)) t (steps (node_of l t) (input.Commit l) t)
    commit_adds l q =
        let v = q.parts in
        let n = q.node in
        let r = named_one hd w s.base.halts s.base.finds (node_of l t) q.node q.there q.parts q.live l q.branch q.named in
        let one : IsOne w.lines v.coord.doings (uid_at r.0 v.coord) q.branch r.2 = r.3 in
        let actor_is = its_uid hd w s.base.halts s.base.finds (node_of l t) q.node q.there q.parts q.live
        (uid_at r.0 v.coord) q.branch r.1 in
        let does : doing_of (actor (let b = q.branch in b.path)) v.coord ≡ Some one.doing
        = ap (λ u. doing_of u v.coord) actor_is
        ∙ (λ i. cond (own_number hd w s.base.halts s.base.finds (node_of l t) q.node q.there q.parts q.live r.0 i)
        (at_place r.0 v.coord.doings)
        None) ∙ one.does in
        let same_name : name (let d = one.doing in d.label) ≡ name l
        = sym one.label_is ∙ named_label (terms.acts w.lines) (name l) r.2 r.4 in
        let label : (let d = one.doing in d.label) ≡ l = label_is (let d = one.doing in d.label) l same_name in
        let found : act_in (terms.acts p.lines) (name l) ≡ Some r.2 = ap (λ ls. act_in (terms.acts ls) (name l)) base.lines ∙ r.4 in
        let Own : List Body → Type 0 = IsCommitLine (let b = q.branch in b.kind) (let d = one.doing in d.label) in (
          Own,
          λ bs its. subst (λ o. BeginsCommitSo l o bs) (sym found) (subst (λ (x : Label). (bs ≡ own.commit_line
              (let a = r.2 in a.kind) x ∷ [])
              ⊎ (bs ≡ body.Aborted x cause.Doomed ∷ [])) label (subst (λ k. (bs ≡ own.commit_line k (let d = one.doing in d.label) ∷ [])
              ⊎ (bs ≡ body.Aborted (let d = one.doing in d.label) cause.Doomed ∷ [])) (sym one.kind_is) its)),
          node_adds (Led works Own (node_of l t)) (node_of l t) (input.Commit l) t q.node q.there
              (subst (Tells (Led works Own (node_of l t)) (node_of l t) n.disk)
              (sym (taken_step (input.Commit l) q.node q.parts q.live q.free
              ∙ ap (λ z. input.coord_did q.node q.parts (input.on_branch (λ b. Words.commit_action b (let d = n.disk in d.intents) v.coord)
              v.coord z)) q.named))
              (commit_tells (node_of l t) q.node q.parts q.branch (let d = n.disk in d.intents) one.doing does)),
        )

    -- ---- a node by its number

    up_node : (n : ℕ) → is_up_at n t ≡ true → (x : Node) × (v : Parts) × (at_place n t.nodes ≡ Some x) × (x.live ≡ Some v)
    up_node n up = by (at_place n t.nodes) refl up
      where
        live : (x : Node) → at_place n t.nodes ≡ Some x → (o : Option Parts) → x.live ≡ o → is_some o ≡ true →
            (x : Node) × (v : Parts) × (at_place n t.nodes ≡ Some x) × (x.live ≡ Some v)
        live x at None is some = absurd (cc some)
        live x at (Some v) is some = (x, v, at, is)

        by : (o : Option Node) → at_place n t.nodes ≡ o → is_up o ≡ true →
            (x : Node) × (v : Parts) × (at_place n t.nodes ≡ Some x) × (x.live ≡ Some v)
        by None at some = absurd (cc some)
        by (Some x) at some = live x at x.live refl some

    pub tick_adds : (n : ℕ) → is_up_at n t ≡ true → Adds (Led works Nothing n) t (steps n input.Tick t)
    tick_adds n up =
        let x = up_node n up in
        node_adds (Led works Nothing n) n input.Tick t x.0 x.2 (tick_of n t.header x.0)

    -- a restart of a node that is down
    pub restart_adds : (n : ℕ) → world.is_node n t ≡ true → is_up_at n t ≡ false →
        (Own : List Body → Type 0) × ((bs : List Body) → Own bs → own.IsRestart p n bs) × Adds (Led (finds n) Own n) t
        (steps n input.Restart t)
    restart_adds n node down = by (at_place n t.nodes) refl (base.placed.places n (subst (λ h. model.is_node h n ≡ true) base.is node)) down
      where
        below : (a b : ℕ) → a ≤ b → a < b + 1
        below a b le = omega (arith, le)

        at : (x : Node) → at_place n t.nodes ≡ Some x → (o : Option Parts) → x.live ≡ o → is_some o ≡ false →
            (Own : List Body → Type 0) × ((bs : List Body) → Own bs → own.IsRestart p n bs)
            × Adds (Led (finds n) Own n) t (steps n input.Restart t)
        at x there (Some v) live off = absurd (cc off)
        at x there None live off =
            let number : x.number ≡ n = (base.placed.nodes n x there).1 in
            let r = (s.next.holds.1 n x there).0 in
            let low : model.incarnation p.start p.lines n ≤ (let d = x.disk in d.inc)
            = subst (λ i. i ≤ (let d = x.disk in d.inc)) (sym (λ i. model.incarnation (s.base.start i) (base.lines i) n)) r in
            let step_is : step t.header x input.Restart ≡ input.restart_step t.header x
            = ap (input.step_unless t.header input.Restart x) (ap (input.refusal_at t.header input.Restart) live)
            ∙ ap (input.step_of t.header input.Restart x) live in
            let tells : Tells (Led (finds n) (IsBack n ((let d = x.disk in d.inc) + 1)) n) n x.disk (input.restart_step t.header x)
            = subst (λ k. Tells (Led (finds k) (IsBack k ((let d = x.disk in d.inc) + 1)) k) k x.disk
            (input.restart_step t.header x)) number
            (restart_tells t.header x) in (
              IsBack n ((let d = x.disk in d.inc) + 1),
              λ bs its. ⊎_elim (λ up. inl ((let d = x.disk in d.inc) + 1, below _ _ low, up)) (λ halted. inr halted) its,
              node_adds (Led (finds n) (IsBack n ((let d = x.disk in d.inc) + 1)) n) n input.Restart t x there
                  (subst (Tells (Led (finds n) (IsBack n ((let d = x.disk in d.inc) + 1)) n) n x.disk) (sym step_is) tells),
            )

        by : (o : Option Node) → at_place n t.nodes ≡ o → is_some o ≡ true → is_up o ≡ false →
            (Own : List Body → Type 0) × ((bs : List Body) → Own bs → own.IsRestart p n bs)
            × Adds (Led (finds n) Own n) t (steps n input.Restart t)
        by None there some off = absurd (cc some)
        by (Some x) there some off = at x there x.live refl off

    -- ---- a frame that the script names

    pub named_frame : (k : FrameNo) → model.frame_no p.lines k ≡ frame_number k t
    named_frame (frame_no.Number k) = refl
    named_frame frame_no.Last = base.tells.last

    -- it is there, for this node
    pub record Frames (k : FrameNo) : Type 0 where
      pub frame : Frame
      pub there : at_place (frame_number k t) t.frames ≡ Some frame
      pub node : Node
      pub place : at_place (let f = frame in f.to) t.nodes ≡ Some node
      pub home : own.node_of_event p.lines (event.Deliver k) ≡ Some (let f = frame in f.to)

    pub frame_there : (k : FrameNo) → is_frame k t ≡ true → Frames k
    frame_there k some = by (at_place (frame_number k t) t.frames) refl some
      where
        of_node : (j : ℕ) (fs : List Frame) (f : Frame) → at_place j fs ≡ Some f → AreFor hd fs → model.is_node hd f.to ≡ true
        of_node zero fs f is all = let no_way : ◌≡◌ {A = Option Frame} None (Some f) = is in absurd (cc no_way)
        of_node (suc j) fs f is all = go j fs is all
          where
            go : (j : ℕ) (fs : List Frame) → Words.slice_get fs j ≡ Some f → AreFor hd fs → model.is_node hd f.to ≡ true
            go j [] is all = let no_way : ◌≡◌ {A = Option Frame} None (Some f) = is in absurd (cc no_way)
            go zero (g ∷ fs) is all = let same : g ≡ f = cc is in subst (λ (x : Frame). model.is_node hd x.to ≡ true) same all.0
            go (suc j) (g ∷ fs) is all = go j fs is all.1

        home : (f : Frame) → at_place (frame_number k t) t.frames ≡ Some f → own.node_of_event p.lines (event.Deliver k) ≡ Some f.to
        home f there = ap (own.receiver p.lines) (named_frame k)
            ∙ receiver_is (frame_number k t) p.lines f.to
            (base.tells.frames (λ a c d. true) (frame_number k t) ∙ ap (frame_test (λ a c d. true)) there)
            (λ x. base.tells.frames (to_node (frame_number k t) x) (frame_number k t) ∙ ap (frame_test (to_node
            (frame_number k t) x)) there)

        at : (f : Frame) → at_place (frame_number k t) t.frames ≡ Some f → (o : Option Node) → at_place f.to t.nodes ≡ o → is_some o
            ≡ true →
            Frames k
        at f there (Some n) is some = record { frame = f; there = there; node = n; place = is; home = home f there }
        at f there None is some = absurd (cc some)

        by : (o : Option Frame) → at_place (frame_number k t) t.frames ≡ o → is_some o ≡ true → Frames k
        by None there some = absurd (cc some)
        by (Some f) there some = at f there (at_place f.to t.nodes) refl
            (base.placed.places f.to (of_node (frame_number k t) t.frames f there (within_of hd form w base.holds)))

    pub deliver_adds : (k : FrameNo) (f : Frames k) → (let g = f.frame in
        Adds (Led works (IsTaken (frame_number k t)) g.to) t (deliver (frame_number k t) t))
    deliver_adds k f =
        let g = f.frame in
        let j = frame_number k t in
        let v = change_frame j as_delivered g t in
        let a = node_adds (Led works (IsTaken j) g.to) g.to (input.Frame j g.from g.message) v f.node f.place
        (frame_tells g.to f.node j v.header g.from g.message) in
        subst (λ o. Adds (Led works (IsTaken j) g.to) t (deliver_frame j t o)) (sym f.there)
        (record { added = a.added; lines = a.lines; event = a.event; has = a.has })
