-- Calls and includes of a coordinator go in the whole world.
use Rattle.arj_law_parts.proofs.Words
use Words.{◌≡◌, ◌≤◌, ◌⊎◌, ◌∙◌, ◌+◌, ◌++◌, ◌*◌, ℕ, List, [], ◌∷◌, map, Bool, Option, Some, None, refl, sym, ap, subst, inl, inr, ⊎_elim}
use Words.{arith, length, Body, Label, ObjectState, Op, Uid, Reply, actor, call_steps, end_line, ends_call, gaveup_lines, give_up_call}
use Words.{goes_on, heard_call, kept_at, next_req, renewed, root_lost, root_moved, step_call, At, AtInvoke, AtLoad, CallEnd, CallStep}
use Words.{Ended, Goal, Include as IncludeStore, Known, Moved, On, Run, Steps, answered, given_up, next_node, start, Coord, Doing, Keeping}
use Words.{Root, doing_of, is_free, keeping_of, on_root, root_at, with_keeping, Effect, Say, say_for, says, unbound, Branch, branch_of}
use Words.{root_of, uses_object, numbered}
use Words.body
use Words.invoked
use Words.loaded
use Words.calls as call
use Rattle.arj_law_lock_view.proofs.Terms
use Terms.{StandsFor, begun_of, Values, In, root, State, work_there, Acts, Codes, IsReached, OnlyCalled, WritesLine, WritesNone, KeepsEnds}
use Terms.{WritesInclude, included_by, GoesWhole, IsOnPage, IsTiedToLines, ArePlain, Case, IsSeenIn, Spot, view_in, world_at, HasStepped}
use Terms.{IsWorking, KnowsAsks, KnowsCoord, StepGoes, coord_at, SeesUp, AreTied, BeginNone}
use Terms.machine as state
use Rattle.arj_law_lock_view.proofs.journal
use journal.{EndTies.said_twice, GiveTies.other_lost_said, Pages.append_nil, Pages.behind, Pages.pages_plain}
use journal.CallTies.{answer_said, call_says, include_said, lost_said, none_called, other_said}
use Rattle.arj_law_lock_view.proofs.running
use running.{GoodSteps.steady, OtherSteps.here_of, RequestSteps.request_shown}
use running.CoordSteps.{coords_go, length_one, says_as, says_then}
use running.StepSteps.{called_stepped, included_stepped, waits_stepped}
use running.TieSteps.{none_both, on_page, page_at, plain_none}
use running.ToldSteps.{AreShownSends, flat_plain, flat_says}
use Rattle.arj_law_lock_view.proofs.view
use view.{IncludeSteps.on_is}
use view.CallInputSteps.{call_answers_are_heard, calls_are_lost, calls_are_made, include_answers_are_heard, includes_are_made}
use view.CallInputSteps.{other_answers_are_heard, other_calls_are_lost}
use Rattle.arj_law_lock_view.specs.running.Coordinating.{CallAnswersGo, CallsGo, IncludeAnswersGo, IncludesGo, LostCallsGo, OtherAnswersGo}
use Rattle.arj_law_lock_view.specs.running.Coordinating.{OtherLostGo}

module _ (c : Case) (s : Spot) (is_seen : IsSeenIn c (world_at s)) (u : Uid) (b : Branch) (d : Doing) (work : IsWorking c s u b d) where
  its : actor b.path ≡ u
  its = work.steady.good.tree.lists.places u b work.there

  here : SeesUp (view_in c s.node) c.state s.disk s.parts
  here = here_of c.fixed c.x c.begun s.node s.disk (Some s.parts) c.state s.seen is_seen.sees

  reached_S : IsReached c.state
  reached_S = let z = is_seen.sees in (let f = c.fixed in f.first, z.run)

  now_S : (let S = c.state in S.now) ≤ length (let M = s.seen in M.lines) + 1
  now_S = let z = is_seen.sees in z.now

  -- the call goes on, and its request is shown
  module _ (w : Steps) (c1 : Coord) (path : w.path ≡ b.path) (works : doing_of (actor w.path) c1 ≡ Some d)
      (knows : KnowsCoord c s (let D = goes_on w c1 in D.part)) (asked : KnowsAsks c (let D = goes_on w c1 in D.part)) where
    abbrev C : Coord
    C = let D = goes_on w c1 in D.part

    at_u : actor w.path ≡ u
    at_u = ap actor path ∙ its

    there : (q : Branch) × (branch_of (actor w.path) C.tree ≡ Some q)
    there = let r = (let o = knows.on in o.kinds u b work.there) in (r.0, ap (λ (v : Uid). branch_of v C.tree) at_u ∙ r.1)

    does : (k : Doing) × (doing_of (actor w.path) C ≡ Some k)
    does =
        work_there C (let o = knows.on in o.works ∙ (let g = steady c s is_seen in g.works) ∙ sym o.branches) (actor w.path) there.0 there.1

    pub goes_shown : (says : ℕ) (T : State) → HasStepped c s u says C T → AreShownSends c s T (let D = goes_on w c1 in D.outs)
    goes_shown says T has = (
      (tt, tt),
      (
        request_shown c s is_seen C knows asked T has.coord (let o = has.only in
            o.naming) (actor w.path) does.0 w does.1 (on_is w c1 d does.0 works does.1),
        tt,
      ),
    )

    -- behind lines
    pub goes_walk : (pre : List Body) (T : State) → HasStepped c s u (length pre) C T → (e : ℕ) → BeginNone pre →
        AreTied c.fixed c.x ((let M = s.seen in M.lines) ++ numbered e pre) T →
        StepGoes c s e (record { part = C; outs = map Say pre ++ (let D = goes_on w c1 in D.outs) })
    goes_walk pre T has e none tied = let r = goes_shown (length pre) T has in
        coords_go c s e u b pre (let D = goes_on w c1 in D.outs) C T is_seen work.there knows.on r.0 has r.1 none tied

pub calls_go : CallsGo
calls_go c s e y u b d o is_seen work idle plain knows asked = goes_walk c s is_seen u b d work w c1 refl
    (ap (λ (v : Uid). doing_of v (coord_at s)) (its c s is_seen u b d work) ∙ work.works) knows asked [] g.state stepped e tt
    (subst (λ ls. AreTied c.fixed c.x ls g.state) (sym (append_nil (let M = s.seen in M.lines))) (λ values is.
    none_called (let f = c.fixed in f.act) (let f = c.fixed in f.code) c.x (page_at s e values) (coord_at s) c.state g.state
    (on_page c s e is_seen values is) (root (let f = c.fixed in f.act u)) (let h = g.holds in h.1.0) (let h = g.holds in h.1.1)))
  where
    k : Keeping
    k = renewed (is_free (root_of b.path) (actor b.path) y (coord_at s)) (keeping_of y (root_at (root_of b.path) (coord_at s)))
        (let q = keeping_of y (root_at (root_of b.path) (coord_at s)) in q.kept)

    c1 : Coord
    c1 = on_root (root_of b.path) (with_keeping y k) (record (coord_at s) { tree = uses_object b.path y (let q = coord_at s in q.tree) })

    w : Steps
    w = call_steps b.path y o (next_req (actor b.path) (coord_at s)) (root_at (root_of b.path) (coord_at s)) (coord_at s) k

    g : GoesWhole (let f = c.fixed in f.act) (let f = c.fixed in f.code) c.x (let D = goes_on w c1 in
        D.part) c.state (λ T. OnlyCalled (root (let f = c.fixed in f.act u)) c.state T × WritesNone c.state T)
    g = calls_are_made (let f = c.fixed in f.act) (let f = c.fixed in f.code) (let f = c.fixed in f.paths) c.x y (coord_at s) u b d o
        c.state (reached_S c s is_seen u b d work) work idle plain (let k = here c s is_seen u b d work in k.coord)

    stepped : HasStepped c s u 0 (let D = goes_on w c1 in D.part) g.state
    stepped = let h = g.holds in called_stepped c s is_seen u b work.there 0 (let D = goes_on w c1 in
        D.part) g.state knows.on g.run h.0 h.1.0 h.1.1.2 (let n = now_S c s is_seen u b d work in let k = h.1.1.1 in omega (arith, n, k))

pub includes_go : IncludesGo
includes_go c s e y store u b d is_seen work idle plain knows asked = goes_walk c s is_seen u b d work w c1 refl (ap (λ (v : Uid). doing_of
    v (coord_at s)) (its c s is_seen u b d work) ∙ work.works) knows asked [] c.state (waits_stepped c s is_seen u b work.there 0 (let D =
    goes_on w c1 in D.part) (includes_are_made (let f = c.fixed in f.act) (let f = c.fixed in f.code) (let f = c.fixed in f.paths) c.x y
    store (coord_at s) u b d c.state (reached_S c s is_seen u b d work) work idle plain (let k = here c s is_seen u b d work in k.coord))) e
    tt (subst (λ ls. AreTied c.fixed c.x ls c.state) (sym (append_nil (let M = s.seen in M.lines))) is_seen.tied)
  where
    c1 : Coord
    c1 = record (coord_at s) { tree = uses_object b.path y (let q = coord_at s in q.tree) }

    w : Steps
    w = start b.path y (IncludeStore store) None unbound (next_req (actor b.path) (coord_at s))

-- ---- answers

-- the line of a call's end begins no action
end_none : (x : ℕ) (g : Goal) (e : CallEnd) (l : Label) → begun_of (end_line x g e l) ≡ None
end_none x (Run o) (call.Answered a) l = refl
end_none x (IncludeStore k) (call.Answered a) l = refl
end_none x g (call.Included st) l = refl
end_none x g (call.Conflict h m n) l = refl
end_none x g (call.Changed n w) l = refl
end_none x g (call.Lost n sent) l = refl

-- how many lines a step of a call says
abbrev lines_of : CallStep → ℕ
lines_of (On at) = 0
lines_of (Ended e) = 1

module _ (c : Case) (s : Spot) (e : ℕ) (is_seen : IsSeenIn c (world_at s)) (u : Uid) (b : Branch) (d : Doing) (work : IsWorking c s u b d)
    (w : Steps) (path : w.path ≡ b.path) (g : Root → Root) where
  abbrev c1 : Coord
  c1 = on_root (root_of w.path) g (coord_at s)

  works1 : doing_of (actor w.path) c1 ≡ Some d
  works1 = ap (λ (v : Uid). doing_of v (coord_at s)) (ap actor path ∙ its c s is_seen u b d work) ∙ work.works

  -- a step of a call behind lines, in the state to which the machine has gone
  step_walk : (t : CallStep) (pre : List Body) (T : State) → KnowsCoord c s (let D = step_call w t c1 in D.part) →
      KnowsAsks c (let D = step_call w t c1 in D.part) → HasStepped c s u (length pre + lines_of t) (let D = step_call w t c1 in D.part) T →
      BeginNone pre → AreTied c.fixed c.x ((let M = s.seen in M.lines) ++ numbered e (pre ++ call_says w t d.label)) T
      → let D = step_call w t c1 in StepGoes c s e (record { part = D.part; outs = map Say pre ++ D.outs })
  step_walk (On at) pre T knows asked has none tied = goes_walk c s is_seen u b d work (record w { req = w.req + 1; at = at }) c1 path
      works1 knows asked pre T (says_as c s u (length pre + 0) (length pre) (let D = step_call w (On at) c1 in D.part) T (omega arith) has)
      e none (subst (λ bs. AreTied c.fixed c.x ((let M = s.seen in M.lines) ++ numbered e bs) T) (append_nil pre) tied)
  step_walk (Ended end) pre T knows asked has none tied =
      let C : Coord = (let D = ends_call w end c1 in D.part) in
      let l : Body = end_line w.x w.goal end d.label in
      subst (λ (es : List Effect). StepGoes c s e (record { part = C; outs = es }))
      (sym ((λ i. map Say pre ++ say_for (end_line w.x w.goal end) (works1 i)) ∙ says_then pre l []))
      (coords_go c s e u b (pre ++ l ∷ []) [] C T is_seen work.there knows.on tt (says_as c s u (length pre + 1) (length (pre ++ l ∷ [])) C
      T (sym (length_one pre l)) has) tt (none_both pre (l ∷ []) none (end_none w.x w.goal end d.label, tt)) tied)

-- where the machine's line stands, and what it leaves of actions
writes_now : (act : Acts) (code : Codes) (p : ℕ) (w : Steps) (o : Op) (S T : State) (free : Bool) (kept : Option Known) (at : At)
    (r : Reply) → WritesLine act code p w o S T at r → S.now ≤ p → T.now ≤ p + lines_of (let m = answered free kept (Run o) at r in m.step)
writes_now act code p w o S T free kept (AtInvoke k i) (Reply.Invoked (invoked.Answered a)) h low = let n = h.4 in omega (arith, n)
writes_now act code p w o S T free kept (AtInvoke k i) (Reply.Invoked (invoked.Conflict q m)) h low = let n = h.1 in omega (arith, n, low)
writes_now act code p w o S T free kept (AtInvoke k i) (Reply.Invoked (invoked.Changed q)) h low = let n = h.1 in omega (arith, n, low)
writes_now act code p w o S T free kept at r h low = let n = h.1 in omega (arith, n, low)

writes_keeps : (act : Acts) (code : Codes) (p : ℕ) (w : Steps) (o : Op) (S T : State) (at : At) (r : Reply) →
    WritesLine act code p w o S T at r → KeepsEnds S T
writes_keeps act code p w o S T (AtInvoke k i) (Reply.Invoked (invoked.Answered a)) h = h.5
writes_keeps act code p w o S T (AtInvoke k i) (Reply.Invoked (invoked.Conflict q m)) h = h.2
writes_keeps act code p w o S T (AtInvoke k i) (Reply.Invoked (invoked.Changed q)) h = h.2
writes_keeps act code p w o S T at r h = h.2

pub call_answers_go : CallAnswersGo
call_answers_go c s e u b d w o r is_seen work calling shows knows asked =
    let g = call_answers_are_heard (let f = c.fixed in f.act) (let f = c.fixed in f.code) (let f = c.fixed in
    f.paths) c.x (length (let M = s.seen in M.lines) + 1) (coord_at s) u b d w o r c.state (reached_S c s is_seen u b d work) work
    calling (now_S c s is_seen u b d work) shows (let k = here c s is_seen u b d work in k.coord) in
    let h = g.holds in
    let n = writes_now (let f = c.fixed in f.act) (let f = c.fixed in f.code) (length (let M = s.seen in M.lines) + 1) w o c.state g.state
    free (kept_at w (coord_at s)) w.at r h.1.1 (now_S c s is_seen u b d work) in
    let m = subst (λ (q : Goal). (let T = g.state in T.now) ≤ length (let M = s.seen in
    M.lines) + 1 + lines_of (let y = answered free (kept_at w (coord_at s)) q w.at r in y.step)) (sym calling.goal) n in
    step_walk c s e is_seen u b d work w calling.path (root_moved w r mv) mv.step [] g.state knows asked
    (called_stepped c s is_seen u b work.there (0 + lines_of mv.step) (let D = heard_call w r (coord_at s) in
    D.part) g.state knows.on g.run h.0 h.1.0 (writes_keeps (let f = c.fixed in f.act) (let f = c.fixed in
    f.code) (length (let M = s.seen in M.lines) + 1) w o c.state g.state w.at r h.1.1) (omega (arith, m)))
    tt (λ values is. answer_said (let f = c.fixed in f.act) (let f = c.fixed in f.code) (let f = c.fixed in f.paths) c.x
    (page_at s e values) (coord_at s) u b d w o r c.state g.state work calling (on_page c s e is_seen values is) h.1.0 h.1.1)
  where
    free : Bool
    free = is_free (root_of w.path) (actor w.path) w.x (coord_at s)

    mv : Moved
    mv = answered free (kept_at w (coord_at s)) w.goal w.at r

pub other_answers_go : OtherAnswersGo
other_answers_go c s e u b d w r is_seen work waiting other knows asked =
    step_walk c s e is_seen u b d work w waiting.path (root_moved w r mv) mv.step [] c.state knows asked
    (waits_stepped c s is_seen u b work.there (0 + lines_of mv.step) (let D = heard_call w r (coord_at s) in D.part)
    (other_answers_are_heard (let f = c.fixed in f.act) (let f = c.fixed in f.code) (let f = c.fixed in f.paths) c.x (coord_at s) u b d
    w r c.state (reached_S c s is_seen u b d work) work waiting other (let k = here c s is_seen u b d work in k.coord)))
    tt (λ values is. other_said (let f = c.fixed in f.act) (let f = c.fixed in f.code) (let f = c.fixed in
    f.paths) c.x (page_at s e values) (coord_at s) u b d w r c.state work other (on_page c s e is_seen values is))
  where
    mv : Moved
    mv = answered (is_free (root_of w.path) (actor w.path) w.x (coord_at s)) (kept_at w (coord_at s)) w.goal w.at r

-- the lines of whom it waited for
gone_lines : (u : Uid) (c : Coord) (n : ℕ) → (bs : List Body) × (gaveup_lines u (n ∷ []) c ≡ map Say bs)
gone_lines u c n = flat_says u c (λ (n : ℕ) (l : Label). body.GaveUp l n) (n ∷ [])

gone_plain : (u : Uid) (c : Coord) (n : ℕ) → ArePlain (let g = gone_lines u c n in g.0)
unfolding gone_lines
gone_plain u c n = flat_plain u c (λ (n : ℕ) (l : Label). body.GaveUp l n) (λ n l. refl) (n ∷ [])

-- the page behind them
page_gone : (c : Case) (s : Spot) (e : ℕ) (is_seen : IsSeenIn c (world_at s)) (u : Uid) (values : Values) →
    StandsFor c.fixed (values c.x) → (n : ℕ) → IsOnPage (let f = c.fixed in f.act) (let f = c.fixed in
    f.code) c.x (behind (page_at s e values) (let g = gone_lines u (coord_at s) n in g.0)) (coord_at s) c.state
page_gone c s e is_seen u values is n = pages_plain (let f = c.fixed in f.act) (let f = c.fixed in f.code) c.x (coord_at s) c.state
    (let g = gone_lines u (coord_at s) n in g.0) (page_at s e values) (gone_plain u (coord_at s) n) (on_page c s e is_seen values is)

pub lost_calls_go : LostCallsGo
lost_calls_go c s e u b d w o is_seen work calling knows asked =
    let g = calls_are_lost (let f = c.fixed in f.act) (let f = c.fixed in f.code) (let f = c.fixed in f.paths) c.x (coord_at s) u b d w o
    c.state (reached_S c s is_seen u b d work) work calling (let k = here c s is_seen u b d work in k.coord) in
    let h = g.holds in
    let gone = gone_lines u (coord_at s) (next_node w) in
    subst (λ (es : List Effect). StepGoes c s e (record { part = (let D = give_up_call w (coord_at s) in D.part); outs = es }))
    (λ i. sym gone.1 i ++ (let D = give_up_call w (coord_at s) in D.outs))
    (step_walk c s e is_seen u b d work w calling.path (root_lost w (given_up w.at)) (given_up w.at) gone.0 g.state knows asked
    (called_stepped c s is_seen u b work.there (length gone.0 + lines_of (given_up w.at)) (let D = give_up_call w (coord_at s) in
    D.part) g.state knows.on g.run h.0 h.1.0 h.1.1.2 (let n = now_S c s is_seen u b d work in let k = h.1.1.1 in omega (arith, n, k)))
    (plain_none gone.0 (gone_plain u (coord_at s) (next_node w)))
    (λ values is. subst (λ ls. IsTiedToLines (let f = c.fixed in f.act) (let f = c.fixed in f.code) values c.x ls g.state)
    (said_twice e gone.0 (call_says w (given_up w.at) d.label) (let M = s.seen in M.lines))
    (lost_said (let f = c.fixed in f.act) (let f = c.fixed in f.code) c.x (behind (page_at s e values) gone.0) (coord_at s) c.state g.state
    (page_gone c s e is_seen u values is (next_node w)) (root (let f = c.fixed in f.act u)) h.1.0 h.1.1 w d.label)))

pub other_lost_go : OtherLostGo
other_lost_go c s e u b d w is_seen work waiting away knows asked =
    let gone = gone_lines u (coord_at s) (next_node w) in
    subst (λ (es : List Effect). StepGoes c s e (record { part = (let D = give_up_call w (coord_at s) in D.part); outs = es }))
    (λ i. sym gone.1 i ++ (let D = give_up_call w (coord_at s) in D.outs))
    (step_walk c s e is_seen u b d work w waiting.path (root_lost w (given_up w.at)) (given_up w.at) gone.0 c.state knows asked
    (waits_stepped c s is_seen u b work.there (length gone.0 + lines_of (given_up w.at)) (let D = give_up_call w (coord_at s) in
    D.part) (other_calls_are_lost (let f = c.fixed in f.act) (let f = c.fixed in f.code) (let f = c.fixed in f.paths) c.x (coord_at s) u
    b d w c.state (reached_S c s is_seen u b d work) work waiting away (let k = here c s is_seen u b d work in k.coord)))
    (plain_none gone.0 (gone_plain u (coord_at s) (next_node w)))
    (λ values is. subst (λ ls. IsTiedToLines (let f = c.fixed in f.act) (let f = c.fixed in f.code) values c.x ls c.state)
    (said_twice e gone.0 (call_says w (given_up w.at) d.label) (let M = s.seen in M.lines))
    (other_lost_said (let f = c.fixed in f.act) (let f = c.fixed in f.code) c.x (behind (page_at s e values) gone.0) (coord_at s) c.state
    (page_gone c s e is_seen u values is (next_node w)) w d.label)))

-- ---- an answer to an include of the object

included_now : (act : Acts) (p : ℕ) (w : Steps) (store : ℕ) (S T : State) (free : Bool) (kept : Option Known) (at : At) (r : Reply) →
    WritesInclude act p w (included_by at r) S T → S.now ≤ p →
    T.now ≤ p + lines_of (let m = answered free kept (IncludeStore store) at r in m.step)
included_now act p w store S T free kept (AtLoad k n rest) (Reply.Loaded (loaded.State st)) h low = let m = h.1 in omega (arith, m)
included_now act p w store S T free kept (AtLoad k n rest) (Reply.Loaded (loaded.InDoubt q)) h low = let m = h.1 in omega (arith, m, low)
included_now act p w store S T free kept at r h low = let m = h.1 in omega (arith, m, low)

included_fresh : (act : Acts) (p : ℕ) (w : Steps) (S T : State) (o : Option (ℕ × ObjectState)) → WritesInclude act p w o S T →
    (k : state.Include) → In k T.includes → In k S.includes ⊎ (k.act ≡ act (actor w.path))
included_fresh act p w S T None h k i = inl (subst (In k) h.0 i)
included_fresh act p w S T (Some o) h k i = by (subst (In k) h.0 i)
  where
    by : In k (record { act = act (actor w.path); line = p; grant = o.0 * 4294967296 } ∷ S.includes) →
        In k S.includes ⊎ (k.act ≡ act (actor w.path))
    by (inl is) = inr (ap (λ (y : state.Include). y.act) is)
    by (inr j) = inl j

pub include_answers_go : IncludeAnswersGo
include_answers_go c s e store u b d w r is_seen work waiting about goal shows knows asked =
    let g = include_answers_are_heard (let f = c.fixed in f.act) (let f = c.fixed in f.code) (let f = c.fixed in
    f.paths) c.x (length (let M = s.seen in M.lines) + 1) store (coord_at s) u b d w r c.state (reached_S c s is_seen u b d work) work
    waiting about goal (now_S c s is_seen u b d work) shows (let k = here c s is_seen u b d work in k.coord) in
    let h = g.holds in
    let n = included_now (let f = c.fixed in f.act) (length (let M = s.seen in M.lines) + 1) w store c.state g.state free
    (kept_at w (coord_at s)) w.at r h.1.1 (now_S c s is_seen u b d work) in
    let m = subst (λ (q : Goal). (let T = g.state in T.now) ≤ length (let M = s.seen in
    M.lines) + 1 + lines_of (let y = answered free (kept_at w (coord_at s)) q w.at r in y.step)) (sym goal) n in
    step_walk c s e is_seen u b d work w waiting.path (root_moved w r mv) mv.step [] g.state knows asked
    (included_stepped c s is_seen u b work.there (0 + lines_of mv.step) (let D = heard_call w r (coord_at s) in
    D.part) g.state g.run h.0 h.1.0 (λ k i. ⊎_elim (λ old. inl old) (λ is. inr (ap root is ∙ ap (λ (v : Uid). root (let f = c.fixed in
    f.act v)) (ap actor waiting.path ∙ its c s is_seen u b d work))) (included_fresh (let f = c.fixed in
    f.act) (length (let M = s.seen in M.lines) + 1) w c.state g.state (included_by w.at r) h.1.1 k i)) (omega (arith, m)))
    tt (λ values is. include_said (let f = c.fixed in f.act) (let f = c.fixed in f.code) (let f = c.fixed in
    f.paths) c.x store (page_at s e values) (coord_at s) u b d w r c.state g.state work waiting about goal
    (on_page c s e is_seen values is) (let k = here c s is_seen u b d work in k.coord) h.1.0 h.1.1)
  where
    free : Bool
    free = is_free (root_of w.path) (actor w.path) w.x (coord_at s)

    mv : Moved
    mv = answered free (kept_at w (coord_at s)) w.goal w.at r
