-- A node restarts: who was decided has its line, and its server and naming start anew in the machine.
use Rattle.arj_law_parts.proofs.Words
use Words.{◌≡◌, ◌≢◌, ◌∙◌, ◌+◌, ℕ, List, [], ◌∷◌, Bool, true, false, Option, Some, None, refl, sym, ap, subst, inr, ⊎_elim, arith, length}
use Words.{Contains, length-append, in_from, in_to, Body, Kind, Uid, is_on, uids_of, Disk, Branch, branch_of, Seen}
use Words.body
use Words.ending
use Words.kind
use Rattle.arj_law_lock_view.proofs.Terms
use Terms.{Act, In, Root, is_action, is_top, on, root, same, Run, State, by_cases, differ, on_base, root_is, same_is, top_action, Action}
use Terms.{act_of, IsTopAction, said, OnlyActed, IsIdle, IsPlaced, IsUntouched, ChangesOne, committed_at, Goes, NobodyConfirmed, HasStopped}
use Terms.{AreOneTree, HasEnded, View, Fixed, family_of, view_of, IsFresh, IsUnbegun, SeesDown}
use Terms.machine as state
use Rattle.arj_law_lock_view.proofs.running
use running.{MoveSteps.memory_acted, MoveSteps.nothing_on, TieSteps.IsTiedNow, TieSteps.tied_found, TopSteps.path_begun}
use running.OtherSteps.{SeesOthers, committed_on, others_go, past_on, reached_of, said_others}
use Rattle.arj_law_lock_view.proofs.view.StopSteps.{records_are_found}

unserial_top : (a : Act) (k : Kind) → IsPlaced a k → is_top a ≡ true → k ≢ kind.Serial
unserial_top a k placed top serial = differ (top_action a top) (subst (IsPlaced a) serial placed)

module _ (f : Fixed) (x : ℕ) (begun : List Action) (k : ℕ) (whole : AreOneTree (family_of f begun)) where
  abbrev v : View
  v = view_of f x begun k

  -- ---- a record that is found

  module _ (S : State) (d : Disk) (w : Uid) (M : Seen) (e : ℕ) (others : SeesOthers f x begun k S M) (s : SeesDown v S d)
      (its : s.last ≡ Some w) (top : IsTopAction begun w) where
    pub stopped : HasStopped f.act s.tree (Some w) S
    stopped = subst (λ (o : Option Uid). HasStopped f.act s.tree o S) its s.stopped

    abbrev branch : Branch
    branch = (stopped.top w refl).0

    found : branch_of w s.tree ≡ Some branch
    found = (stopped.top w refl).1

    is_top_w : is_top (f.act w) ≡ true
    is_top_w = (stopped.top w refl).2

    abbrev line : Body
    line = body.Recovered k w

    abbrev N : Seen
    N = said e (line ∷ []) M

    pub g : Goes S (λ T. HasStopped f.act s.tree None T × OnlyActed (root (f.act w)) S T × (T.now ≡ (length M.lines + 1) + 1)
        × ((T.action (f.act w)).stage ≡ 3) × ChangesOne (f.act w) (committed_at (length M.lines + 1) (S.action (f.act w))) S T)
    g = records_are_found f.act s.tree w (length M.lines + 1) S stopped others.now

    abbrev T : State
    T = g.state

    only : OnlyActed (root (f.act w)) S T
    only = g.holds.1

    changes : ChangesOne (f.act w) (committed_at (length M.lines + 1) (S.action (f.act w))) S T
    changes = g.holds.4

    -- the top's action
    abbrev its_action : Action
    its_action = top.0

    untouched : (u : Uid) → IsUnbegun begun u → T.action (f.act u) ≡ S.action (f.act u)
    untouched u un = ⊎_elim
        (λ acts. changes.others (f.act u) acts (other (same (f.act u) (f.act w)) refl))
        (λ isnt. only.others (f.act u) (λ home. (let up = above isnt home in
        let b = path_begun begun whole.begun its_action (in_from its_action begun top.1) u up in un b.0 (in_to b.0 begun b.1) b.2)))
        (by_cases (is_action (f.act u)))
      where
        other : (b : Bool) → same (f.act u) (f.act w) ≡ b → b ≡ false
        other false is = refl
        other true is = absurd (un its_action top.1 (top.2 ∙ sym (let l = whole.alike in l.one u w (same_is (f.act u) (f.act w) is))))

        above : is_action (f.act u) ≡ false → root (f.act u) ≡ root (f.act w) → is_on (uids_of its_action.path) u ≡ true
        above isnt home =
            let stands : f.act u ≡ Root (root (f.act w)) = root_is (f.act u) isnt ∙ ap Root home in
            ap (λ us. is_on us u) (sym (whole.agree its_action top.1) ∙ ap f.paths top.2) ∙ sym (let l = whole.alike in l.above w u)
            ∙ ap (on (f.act w)) stands ∙ on_base (f.act w)

    fresh_found : IsFresh f begun T
    fresh_found = (let fresh = others.fresh in record {
      actions = λ u un. subst IsUntouched (sym (untouched u un)) (fresh.actions u un);
      units = λ n none. (let o = fresh.units n none in record {
        stage = ap (λ (a : state.Action). a.stage) (same_in n none (Root n) refl) ∙ o.stage;
        waits = ap (λ (a : state.Action). a.waits) (same_in n none (Root n) refl) ∙ o.waits;
        idle = λ a home its. subst IsIdle (sym (same_in n none a home)) (o.idle a home its);
        kept = ap (λ (z : State). z.kept n) only.rest ∙ o.kept;
        calls = λ c there. o.calls c (subst (λ (z : State). In c z.calls) only.rest there);
        includes = λ c there. o.includes c (subst (λ (z : State). In c z.includes) only.rest there);
      });
    })
      where
        same_in : (n : ℕ) → ((a : Action) → Contains begun a → root (f.act (act_of a)) ≡ n → ⊥) → (a : Act) → root a ≡ n →
            T.action a ≡ S.action a
        same_in n none a home =
            only.others a (λ same_unit. none its_action top.1 (ap (λ (z : Uid). root (f.act z)) top.2 ∙ sym same_unit ∙ home))

    pub nobody_found : NobodyConfirmed S T
    nobody_found = ap (λ (z : State). z.confirmed) only.rest

    pub others_found : SeesOthers f x begun k T N
    others_found =
        let o = said_others f x begun k e (line ∷ []) S M others in
        others_go f x begun k S T N o g.run (λ elsewhere. nobody_found) (λ j disk live other seen_there. memory_acted S T
        (reached_of f x begun k S N o) g.run v w whole.alike (s.home w branch found) only j disk live other seen_there) fresh_found
        (let h = g.holds.2 in let l : length N.lines ≡ length M.lines + 1 = length-append M.lines _ in omega (arith, h, l))

    -- the journal is tied with the line
    pub tied_record : IsTiedNow f x begun S M.lines → IsTiedNow f x begun T N.lines
    tied_record now = tied_found f x begun e k w S T M.lines (ap (λ (z : State). z.initial) only.rest)
        (ap (λ (z : State). z.calls) only.rest, ap (λ (z : State). z.includes) only.rest) (let h = g.holds.2 in
        omega (arith, h)) (let two = (stopped.top w refl).3 in omega (arith, two)) changes now

    pub run_record : Run S T
    run_record = g.run

    -- it is committed
    committed_found : HasEnded v T w ending.Commit
    committed_found = record {
      action = its_action;
      begun = top.1;
      of = top.2;
      unserial = unserial_top (f.act (act_of its_action)) its_action.kind (whole.placed its_action top.1)
          (ap (λ (z : Uid). is_top (f.act z)) top.2 ∙ is_top_w);
      committed = g.holds.3;
      over = λ plain. ⊎_elim (λ h. absurd (cc h.1)) (λ three. three) ((g.holds.0).units w branch found);
    }

    pub down_found : (z : SeesDown v T d) × (z.last ≡ None)
    down_found = (
      record {
        server = (let o = s.server in record { last = o.last; low = o.low; empty = ap (λ (z : State). z.server k) only.rest ∙ o.empty });
        naming = λ one. nothing_on d.inc S T (ap (λ (z : State). z.naming) only.rest) (s.naming one);
        tree = s.tree;
        last = None;
        stopped = g.holds.0;
        decided = λ u is. absurd (cc is);
        home = s.home;
        past = past_on S T only.ended v s.tree s.past;
        records = λ u i there. inr (⊎_elim (λ is. subst (λ (z : Uid). HasEnded v T z ending.Commit) (one_last u is) committed_found)
            (λ so. committed_on S T only.ended v u so) (s.records u i there));
      },
      refl,
    )
      where
        one_last : (u : Uid) → s.last ≡ Some u → w ≡ u
        one_last u is = let two : ◌≡◌ {A = Option Uid} (Some w) (Some u) = sym its ∙ is in cc two
