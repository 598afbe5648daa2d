-- A coordinator answers questions, and is acknowledged: the machine waits, and what is told is shown.
use Rattle.arj_law_parts.proofs.Words
use Words.{◌≡◌, ◌≢◌, ◌∙◌, ◌&&◌, ◌||◌, ℕ, List, [], ◌∷◌, length, not, Bool, true, false, cond, Option, Some, None, refl, sym, ap, subst, inl}
use Words.{inr, ⊎_elim, Contains, is_some, and_parts, append-nil, in_from, in_to, End, Kind, Uid, first_uid, actor, Coord, doing_of}
use Words.{is_constituent_branch, is_kept_top, Intent, answer_decided, answer_query, answer_recorded, is_deferred, is_kept_commit}
use Words.{root_or_self, tell, took_part, at_uid, has, AreAll, Branch, branch_of, ended_so, has_end, is_committed, is_open}
use Words.{is_open_branch, Post, is_constituent}
use Words.ending
use Words.kind
use Rattle.arj_law_lock_view.proofs.Terms
use Terms.{Root, is_action, is_top, root, stay, State, Action, act_of, action_of, IsGoodCoord, one_action, serial_alone, at_in, Up, Walks}
use Terms.{IsTelling, AreOneTree, View, Case, IsSeenIn, Spot, view_in, world_at, coord_at, records_at, Fixed, family_of, view_of, IsToldSo}
use Terms.{SeesUp, IsSeenSo}
use Rattle.arj_law_lock_view.proofs.running
use running.{GoodSteps.good_node, GoodSteps.its, NameSteps.confirms_more, TieSteps.tied_now, TopSteps.placed_top, TopSteps.unnested_top}
use running.{WalkSteps.AreSendsSeen, WalkSteps.IsSendSeen}
use running.OtherSteps.{confirms_of, SeesOthers, here_of, others_of, with_here}
use running.RestartWalks.{is_no_work, quiet_walk}
use Rattle.arj_law_lock_view.proofs.view.ListedSteps.{decided_have_ended}
use Rattle.arj_law_lock_view.specs.running.Asking.{IsAskedAbout, QueriesGo}

module _ (c : Case) (s : Spot) (is_seen : IsSeenIn c (world_at s)) where
  abbrev f : Fixed
  f = c.fixed

  abbrev k : ℕ
  k = s.node

  abbrev S : State
  S = c.state

  abbrev C : Coord
  C = coord_at s

  abbrev v : View
  v = view_in c k

  abbrev sent : List Post
  sent = let M = s.seen in M.sent

  whole : AreOneTree (family_of f c.begun)
  whole = let a = is_seen.agrees in a.whole

  pub here : SeesUp v S s.disk s.parts
  here = here_of f c.x c.begun k s.disk (Some s.parts) S s.seen is_seen.sees

  pub others : SeesOthers f c.x c.begun k S s.seen
  others = others_of f c.x c.begun k s.disk (Some s.parts) S s.seen is_seen.sees

  good : IsGoodCoord c.begun f.paths C
  good = let n = good_node c s is_seen in n.coord

  works_now : length C.doings ≡ length (let t = C.tree in t.branches)
  works_now = let u = its c s is_seen in let q = u.faithful in q.works

  telling : IsTelling v C S
  telling = record {
    whole = whole;
    good = good;
    works = works_now;
    actions = (let q = here.coord in let z = q.coord in z.actions);
    units = (let q = here.coord in q.units);
  }

  -- ---- an abort that is told

  -- of an action that has ended here
  pub ended_seen : (u : Uid) (b : Branch) → branch_of u C.tree ≡ Some b → is_some b.ended ≡ true → b.kind ≢ kind.Nested →
      IsToldSo v S u ending.Abort
  ended_seen u b found over unnested = by b.kind refl
    where
      place : actor b.path ≡ u
      place = let g = good in let r = g.tree in let l = r.lists in l.places u b found

      begun_b : Contains c.begun (action_of b)
      begun_b = let g = good in g.known u b found

      unit : b.kind ≡ kind.Serial → IsToldSo v S u ending.Abort
      unit serial =
          let alone = serial_alone c.begun whole.begun (action_of b) (in_from (action_of b) c.begun begun_b) serial in
          inr (inl (
            (let q = here.coord in q.units u b found (ap first_uid alone.0 ∙ place) over),
            subst (λ (z : Uid). is_action (f.act z) ≡ true →
                is_top (f.act z) ≡ true) place (unnested_top (f.act (actor b.path)) b.kind (whole.placed (action_of b) begun_b) unnested),
          ))

      top : b.kind ≢ kind.Serial → IsToldSo v S u ending.Abort
      top unserial = ends b.ended refl over
        where
          ends : (o : Option End) → b.ended ≡ o → is_some b.ended ≡ true → IsToldSo v S u ending.Abort
          ends None is some = absurd (let bad : false ≡ true = sym (ap (λ (z : Option End). is_some z) is) ∙ some in cc bad)
          ends (Some ending.Abort) is some = inl (decided_have_ended v C u ending.Abort b S telling found is unserial)
          ends (Some ending.Commit) is some = inr (inr (
            ap (λ (z : Uid). is_top (f.act z)) (sym place)
                ∙ placed_top (f.act (actor b.path)) b.kind (whole.placed (action_of b) begun_b) unnested unserial,
            (let so = decided_have_ended v C u ending.Commit b S telling found is unserial in so.committed),
          ))

      by : (d : Kind) → b.kind ≡ d → IsToldSo v S u ending.Abort
      by kind.Serial is = unit is
      by kind.Nested is = absurd (unnested is)
      by kind.Top is = top (λ e. cc (sym is ∙ e))
      by kind.Independent is = top (λ e. cc (sym is ∙ e))
      by kind.Constituent is = top (λ e. cc (sym is ∙ e))

  -- ---- what is told to one node

  pub told_one : (r : Uid) (ack : Bool) (u : Uid) (e : End) (n : ℕ) → IsToldSo v S u e →
      IsSendSeen f c.x c.begun k S sent (tell r ack ((u, e) ∷ []) n)
  told_one r ack u e n so wide within w g there = ⊎_elim (λ same. subst (λ (z : Uid × End). IsToldSo (view_of f c.x c.begun n) S z.0 z.1)
      same (at_node n e so)) (λ none. absurd none) (in_from {X = Uid × End} (w, g) ((u, e) ∷ []) there)
    where
      at_node : (n : ℕ) (e : End) → IsToldSo v S u e → IsToldSo (view_of f c.x c.begun n) S u e
      at_node n ending.Commit so = so
      at_node n ending.Abort so = so

  -- ---- a question

  module _ (from : ℕ) (u : Uid) (about : IsAskedAbout c s u) where
    abbrev js : List (Uid × Intent)
    js = records_at s

    abort_seen : is_open u C.tree ≡ false → IsToldSo v S u ending.Abort
    abort_seen closed = by (branch_of u C.tree) refl closed
      where
        past : branch_of u C.tree ≡ None → IsToldSo v S u ending.Abort
        past none = ⊎_elim
            (λ there. absurd (let bad : ◌≡◌ {A = Option Branch} None (Some there.0) = sym none
            ∙ ap (λ (w : Uid). branch_of w C.tree) (sym about.2) ∙ there.1 in cc bad))
            (λ p. inr (inl (
              subst (λ (w : Uid). (let a = S.action (Root (root (f.act w))) in a.stage) ≡ 3) about.2 p.over,
              subst (λ (w : Uid). is_action (f.act w) ≡ true → is_top (f.act w) ≡ true) about.2
                  (unnested_top (f.act (act_of about.0)) (let a = about.0 in a.kind) (whole.placed about.0 about.1) about.3),
            )))
            (here.past about.0 about.1 (ap (λ (w : Uid). w.node) about.2 ∙ about.4))

        by : (o : Option Branch) → branch_of u C.tree ≡ o → is_open_branch o ≡ false → IsToldSo v S u ending.Abort
        by None is closed = past is
        by (Some b) is closed = ended_seen u b is (un (is_some b.ended) closed) (λ nested. about.3 (same_kind b is ∙ nested))
          where
            un : (x : Bool) → not x ≡ false → x ≡ true
            un true h = refl
            un false h = absurd (cc h)

            same_kind : (b : Branch) → branch_of u C.tree ≡ Some b → (let a = about.0 in a.kind) ≡ b.kind
            same_kind b is = ap (λ (a : Action). a.kind) (one_action c.begun whole.begun about.0 (action_of b)
                (in_from about.0 c.begun about.1) (in_from (action_of b) c.begun (let g = good in g.known u b is))
                (about.2 ∙ sym (let g = good in let r = g.tree in let l = r.lists in l.places u b is)))

    decided_seen : is_open u C.tree ≡ false → AreSendsSeen f c.x c.begun k S sent (answer_decided from u C)
    decided_seen closed = by (is_kept_commit from u C) refl
      where
        kept : is_kept_commit from u C ≡ true → IsToldSo v S u ending.Commit
        kept is = top (branch_of u C.tree) refl
            (and_parts (is_kept_top u C) (is_open (root_or_self u (branch_of u C.tree)) C.tree && took_part from (doing_of u C)) is).0
          where
            top : (o : Option Branch) → branch_of u C.tree ≡ o → (is_constituent_branch o && is_committed u C.tree) ≡ true →
                IsToldSo v S u ending.Commit
            top None at is = absurd (cc is)
            top (Some b) at is =
                let p = and_parts (is_constituent b.kind) (is_committed u C.tree) is in
                decided_have_ended v C u ending.Commit b S telling
                at (commits b.ended (ap (λ (z : Option Branch). ended_so ending.Commit z) (sym at) ∙ p.1)) (constituent b.kind p.0)
              where
                commits : (o : Option End) → has_end ending.Commit o ≡ true → o ≡ Some ending.Commit
                commits None is = absurd (cc is)
                commits (Some ending.Commit) is = refl
                commits (Some ending.Abort) is = absurd (cc is)

                constituent : (d : Kind) → is_constituent d ≡ true → d ≢ kind.Serial
                constituent kind.Constituent is = λ e. cc e
                constituent kind.Nested is = absurd (cc is)
                constituent kind.Top is = absurd (cc is)
                constituent kind.Serial is = absurd (cc is)
                constituent kind.Independent is = absurd (cc is)

        by : (b : Bool) → is_kept_commit from u C ≡ b →
            AreSendsSeen f c.x c.begun k S sent (cond b (tell (root_or_self u (branch_of u C.tree)) false ((u, ending.Commit) ∷ []) from
            ∷ []) (tell (root_or_self u (branch_of u C.tree)) false ((u, ending.Abort) ∷ []) from ∷ []))
        by true is = (told_one (root_or_self u (branch_of u C.tree)) false u ending.Commit from (kept is), tt)
        by false is = (told_one (root_or_self u (branch_of u C.tree)) false u ending.Abort from (abort_seen closed), tt)

    recorded_seen : is_open u C.tree ≡ false → (o : Option Intent) → at_uid u js ≡ o →
        AreSendsSeen f c.x c.begun k S sent (answer_recorded from u C o)
    recorded_seen closed None at = decided_seen closed
    recorded_seen closed (Some i) at = by (has i.nodes from)
      where
        so : IsToldSo v S u ending.Commit
        so = ⊎_elim (λ none. absurd (cc none)) (λ so. so) (here.records u i (in_to {X = Uid × Intent} (u, i) js (at_in u i js at)))

        by : (b : Bool) →
            AreSendsSeen f c.x c.begun k S sent (cond b (tell i.root true ((u, ending.Commit) ∷ []) from ∷ []) (answer_decided from u C))
        by true = (told_one i.root true u ending.Commit from so, tt)
        by false = decided_seen closed

    answer_seen : AreSendsSeen f c.x c.begun k S sent (answer_query from u js C)
    answer_seen = by (is_open u C.tree) refl
      where
        rest : is_open u C.tree ≡ false → (b : Bool) →
            AreSendsSeen f c.x c.begun k S sent (cond b [] (answer_recorded from u C (at_uid u js)))
        rest closed true = tt
        rest closed false = recorded_seen closed (at_uid u js) refl

        by : (b : Bool) → is_open u C.tree ≡ b →
            AreSendsSeen f c.x c.begun k S sent (cond (b || is_deferred u js from) [] (answer_recorded from u C (at_uid u js)))
        by true is = tt
        by false is = rest is (is_deferred u js from)

    decided_quiet : AreAll is_no_work (answer_decided from u C)
    decided_quiet = by (is_kept_commit from u C)
      where
        by : (b : Bool) → AreAll is_no_work (cond b (tell (root_or_self u (branch_of u C.tree)) false ((u, ending.Commit) ∷ []) from ∷ [])
            (tell (root_or_self u (branch_of u C.tree)) false ((u, ending.Abort) ∷ []) from ∷ []))
        by true = refl
        by false = refl

    answer_quiet : AreAll is_no_work (answer_query from u js C)
    answer_quiet = by (is_open u C.tree || is_deferred u js from)
      where
        recorded : (o : Option Intent) → AreAll is_no_work (answer_recorded from u C o)
        recorded None = decided_quiet
        recorded (Some i) = by (has i.nodes from)
          where
            by : (b : Bool) → AreAll is_no_work (cond b (tell i.root true ((u, ending.Commit) ∷ []) from ∷ []) (answer_decided from u C))
            by true = refl
            by false = decided_quiet

        by : (b : Bool) → AreAll is_no_work (cond b [] (answer_recorded from u C (at_uid u js)))
        by true = refl
        by false = recorded (at_uid u js)

    pub query_goes : (e : ℕ) → Walks (IsSeenSo c) e k (answer_query from u js C) (Up (IsSeenSo c) k s.parts) s.disk s.seen
    query_goes e =
        let P = IsSeenSo c in
        let End = Up P k s.parts in
        let outs = answer_query from u js C in
        subst (λ es. Walks P e k es End s.disk s.seen) (append-nil outs)
        (quiet_walk f c.x c.begun k e P End S sent s.disk outs [] answer_quiet answer_seen
        (λ N w o now agrees. (
          S,
          with_here f c.x c.begun k s.disk (Some s.parts) S N o here (confirms_more f c.x k S sent N.sent w s.disk (Some s.parts)
              (confirms_of f c.x c.begun k s.disk (Some s.parts) S s.seen is_seen.sees)),
          now.tied,
          stay,
        )) s.seen (λ r i. i) others (tied_now c (world_at s) is_seen))

pub queries_go : QueriesGo
queries_go c s e from u is_seen about = query_goes c s is_seen from u about e
