-- What each input makes a node say: own lines first, and then its work.
use Rattle.arj_law_parts.proofs.Words
use Words.{◌≡◌, ◌⊎◌, ◌∙◌, ◌+◌, ◌==◌, ◌&&◌, ◌++◌, ℕ, zero, suc, Bool, true, false, cond, List, [], ◌∷◌, map, refl, sym, ap, subst, arith}
use Words.{append_assoc, map-append}
use Words.{nat_tests, inl, inr, Option, Some, None, list_all, and_parts, flat_map, all_flat, Body, Disk, Do, Effect, Look, PutInc, Say}
use Words.{Send, Stop, worked, Intent, Header, Label, Kind, Message, Op, Uid, Handled, Took, Void, again_all, again_now, bodies, call}
use Words.{commit_action, commit_open, commit_top, cut, halted_outs, holders, include, most_rounds, name, naming_at, naming_back}
use Words.{hello_to, node_did, numbers_to, parts_in, plan_of, prepared_actions, query_about, ran, recovered_records, restart_outs, says}
use Words.{say_for, taken, tick_step, tolds_again, tell_all, uid_set, whole, with_coord, without_number, Branch, Coord, Doing, Idle}
use Words.{Calling, Committing, Now, Node, Parts, actor, doing_of, frame_step, handled_step, void_step, step, step_of, step_unless}
use Words.{Naming, Named, tolds_of, moved_commit, aborts_with, ends_with, back_lines, Aborts, Confirming, Machine, Plan, Preparing}
use Words.{Voting, abort_action, all_aborted, all_both, bytes_eq, gaveup_lines, give_up, give_up_call, give_up_doing, given_up, gives_up}
use Words.{next_node, nodes_given_up, on_root, open_below, root_lost, root_of, step_commit, is_empty, is_waiting_now}
use Words.body
use Words.cause
use Words.commit
use Words.ending
use Words.input
use Words.kind
use Rattle.arj_protocol.specs.Commit.{start}
use Rattle.arj_law_cause.proofs.follow.lines.Rising.{IsRising}
use Rattle.arj_law_parts.proofs.parts.Numbered.{AreUp}
use Rattle.arj_model.specs.Own.{AreGiveUps, commit_line}
use Rattle.arj_law_parts.proofs.moves.Rounds.{AreLooks, LooksAlone, is_look, taken_looks}
use Rattle.arj_law_cause.proofs.follow.lines.Saying
use Saying.{Through, Led, Such, Tells, goes_halted, goes_through, led_tells, led_whole, say_all, such_work}
use Rattle.arj_law_cause.proofs.follow.lines.Working
use Working.{Work, asks_all_work, moved_commit_work, says_work, step_call_work, stores_refuse, tells_work, tolds_of_work, vote_refuses}
use Working.{work_both, work_map, works, taken_work}
use Rattle.arj_law_parts.proofs.steps.Still.{outs_of}

same : (b : Body) → works b ≡ true → works b ≡ true
same b is = is

-- nothing of its own
abbrev pub Nothing : List Body → Type 0
Nothing own = own ≡ []

-- a commit's line, by the action's kind, or that it is doomed
abbrev pub IsCommitLine : Kind → Label → List Body → Type 0
IsCommitLine k l own = (own ≡ commit_line k l ∷ []) ⊎ (own ≡ body.Aborted l cause.Doomed ∷ [])

-- ---- what a coordinator does

pub did : (k : ℕ) (Own : List Body → Type 0) (n : Node) (t : Parts) (own : List Body) (outs fs : List Effect) → outs ≡ say_all own ++ fs →
    Work fs → Own own → Tells (Led works Own k) k n.disk (node_did n [] t outs)
did k Own n t own outs fs is work its =
    let w = led_whole works same n.number t own fs n.disk (such_work works same fs work) in
    let all : (whole n.number t outs n.disk).outs ≡ say_all own ++ w.0 = ap (λ es. (whole n.number t es n.disk).outs) is ∙ w.1 in
    led_tells works Own k n.disk (node_did n [] t outs) own w.0 all all w.2 its

did_such : (T : Body → Bool) → ((b : Body) → works b ≡ true → T b ≡ true) → (k : ℕ) (Own : List Body → Type 0) (n : Node) (t : Parts)
    (own : List Body) (outs fs : List Effect) → outs ≡ say_all own ++ fs → Such T fs → Own own →
    Tells (Led T Own k) k n.disk (node_did n [] t outs)
did_such T covers k Own n t own outs fs is such its =
    let w = led_whole T covers n.number t own fs n.disk such in
    let all : (whole n.number t outs n.disk).outs ≡ say_all own ++ w.0 = ap (λ es. (whole n.number t es n.disk).outs) is ∙ w.1 in
    led_tells T Own k n.disk (node_did n [] t outs) own w.0 all all w.2 its

-- the line says that a commit of this action met a lost node, or is work
abbrev pub loses : Label → Body → Bool
loses l (body.Aborted m (cause.Lost n)) = bytes_eq (name m) (name l)
loses l b = works b

covers_loses : (l : Label) (b : Body) → works b ≡ true → loses l b ≡ true
covers_loses l (body.Aborted m (cause.Lost n)) is = absurd (cc is)
covers_loses l b is = is

-- the nodes that a giveup names, by what the action is at
abbrev pub given_up_of : Now → List ℕ
given_up_of Idle = []
given_up_of (Calling q) = next_node q ∷ []
given_up_of (Committing m) = nodes_given_up m

-- that the commit is lost, where a giveup ends it
abbrev pub lost_line : Label → Now → List Body
lost_line l (Committing (Voting p left)) = body.Aborted l (cause.Lost (commit.first_of left)) ∷ []
lost_line l (Committing (Confirming p)) = body.Aborted l (cause.Lost 1) ∷ []
lost_line l z = []

-- what a giveup says first: a line for each node, and this
abbrev pub first_lines : Label → Now → List Body
first_lines l z = map (λ (j : ℕ). body.GaveUp l j) (given_up_of z) ++ lost_line l z

module _ (k : ℕ) (n : Node) (t : Parts) where
  -- an abort says a line for each action that it ends
  pub abort_tells : (Own : List Body → Type 0) (u : Uid) (intents : List (Uid × Intent)) (own : List Body) →
      (all_aborted (open_below u t.coord.tree ++ u ∷ []) t.coord).outs ≡ say_all own → Own own →
      (let d = abort_action u intents t.coord in Tells (Led works Own k) k n.disk (node_did n [] (with_coord t d.part) d.outs))
  abort_tells Own u intents own is its =
      let us = open_below u t.coord.tree ++ u ∷ [] in
      let a = all_aborted us t.coord in
      let fs = flat_map (tolds_of intents a.part) us in
      did k Own n (with_coord t a.part) own (a.outs ++ fs) fs (ap (λ es. es ++ fs) is)
      (all_flat says_work (tolds_of intents a.part) us (λ v. tolds_of_work intents a.part v)) its

  -- a giveup says a line for each node that is given up
  module _ (u : Uid) (intents : List (Uid × Intent)) (q : Doing) (does : doing_of u t.coord ≡ Some q) where
    gaveup_said : (nodes : List ℕ) → gaveup_lines u nodes t.coord ≡ say_all (map (λ (m : ℕ). body.GaveUp q.label m) nodes)
    gaveup_said [] = refl
    gaveup_said (m ∷ nodes) = λ i. ap (say_for (λ l. body.GaveUp l m)) does i ++ gaveup_said nodes i

    all_given : (m : ℕ) (nodes : List ℕ) → AreUp (m ∷ nodes) → AreGiveUps q.label (map (λ (j : ℕ). body.GaveUp q.label j) (m ∷ nodes))
    all_given m [] up = refl
    all_given m (j ∷ nodes) up = (refl, up.0.0, all_given j nodes up.1)

    lost_says : (m : ℕ) → Such (loses q.label) (says u (λ l. body.Aborted l (cause.Lost m)) t.coord)
    lost_says m = subst (λ o. Such (loses q.label) (say_for (λ l. body.Aborted l (cause.Lost m)) o)) (sym does)
        (λ i. bytes_same (name q.label) i && true)
      where
        bytes_same : (l : List ℕ) → bytes_eq l l ≡ true
        bytes_same [] = refl
        bytes_same (b ∷ l) = λ i. number_same b i && bytes_same l i
          where
            number_same : (a : ℕ) → (a == a) ≡ true
            number_same a = grind (arith, nat_tests)

    lost_commit : (m : ℕ) (p : Plan) → Such (loses q.label) (step_commit u (Aborts (cause.Lost m) p) intents t.coord).outs
    lost_commit m p =
        let rest = tolds_of intents (Words.ended u ending.Abort t.coord) u in
        all_both (Saying.says_such (loses q.label)) (says u (λ l. body.Aborted l (cause.Lost m)) t.coord) rest (lost_says m)
        (such_work (loses q.label) (covers_loses q.label) rest (tolds_of_work intents (Words.ended u ending.Abort t.coord) u))

    commit_such : (m : Machine) → Such (loses q.label) (moved_commit u (commit.given_up m) intents t.coord).outs
    commit_such (Voting p left) = lost_commit (commit.first_of left) p
    commit_such (Preparing p left) =
        let d = moved_commit u (commit.given_up (Preparing p left)) intents t.coord in
        such_work (loses q.label) (covers_loses q.label) d.outs
        (moved_commit_work u (commit.given_up (Preparing p left)) intents t.coord (stores_refuse [] (commit.marks_stores left p)))
    commit_such (Confirming p) = lost_commit 1 p

    -- what a step says whose own lines are these
    abbrev GivesOwn : (List Body → Type 0) → Words.Did Coord → Type 0
    GivesOwn Own d = Tells (Led (loses q.label) Own k) k n.disk (node_did n [] (with_coord t d.part) d.outs)

    gives : (Own : List Body → Type 0) (nodes : List ℕ) (d : Words.Did Coord) → Such (loses q.label) d.outs →
        Own (map (λ (m : ℕ). body.GaveUp q.label m) nodes) →
        GivesOwn Own (record { part = d.part; outs = gaveup_lines u nodes t.coord ++ d.outs })
    gives Own nodes d such its =
        did_such (loses q.label) (covers_loses q.label) k Own n (with_coord t d.part)
        (map (λ (m : ℕ). body.GaveUp q.label m) nodes) (gaveup_lines u nodes t.coord ++ d.outs) d.outs
        (ap (λ es. es ++ d.outs) (gaveup_said nodes)) such its

    nodes_rise : (m : Machine) → IsRising (Committing m) → AreGiveUps q.label (map (λ (j : ℕ). body.GaveUp q.label j) (nodes_given_up m))
    nodes_rise (Voting p left) rise = refl
    nodes_rise (Preparing p left) rise = by left rise.0 rise.1
      where
        by : (ns : List ℕ) → AreUp ns → is_empty ns ≡ false → AreGiveUps q.label (map (λ (j : ℕ). body.GaveUp q.label j) ns)
        by [] up some = absurd (cc some)
        by (j ∷ ns) up some = all_given j ns up
    nodes_rise (Confirming p) rise = refl

    -- so it is of rising nodes
    pub given_own : (z : Now) → IsRising z → is_waiting_now z ≡ true →
        AreGiveUps q.label (map (λ (j : ℕ). body.GaveUp q.label j) (given_up_of z))
    given_own Idle rise waits = absurd (cc waits)
    given_own (Calling s) rise waits = refl
    given_own (Committing m) rise waits = nodes_rise m rise

    pub giveup_tells : (Own : List Body → Type 0) → Own (map (λ (j : ℕ). body.GaveUp q.label j) (given_up_of q.now)) →
        is_waiting_now q.now ≡ true → GivesOwn Own (give_up u intents t.coord)
    giveup_tells Own its waits = subst (λ o. GivesOwn Own (give_up_doing u intents t.coord o)) (sym does) (now q.now its waits)
      where
        now : (m : Now) → Own (map (λ (j : ℕ). body.GaveUp q.label j) (given_up_of m)) → is_waiting_now m ≡ true →
            GivesOwn Own (gives_up u intents t.coord m)
        now Idle its waits = absurd (cc waits)
        now (Calling s) its waits =
            let d = give_up_call s t.coord in
            gives Own (next_node s ∷ []) d (such_work (loses q.label) (covers_loses q.label) d.outs
            (step_call_work s (given_up s.at) (on_root (root_of s.path) (root_lost s (given_up s.at)) t.coord))) its
        now (Committing m) its waits =
            gives Own (nodes_given_up m) (moved_commit u (commit.given_up m) intents t.coord) (commit_such m) its

    -- what a step says whose own lines are these
    abbrev FirstOwn : Now → Words.Did Coord → Type 0
    FirstOwn z d = Tells (Led works (λ own. own ≡ first_lines q.label z) k) k n.disk (node_did n [] (with_coord t d.part) d.outs)

    first : (z : Now) (d : Words.Did Coord) (fs : List Effect) → Work fs → d.outs ≡ say_all (lost_line q.label z) ++ fs →
        FirstOwn z (record { part = d.part; outs = gaveup_lines u (given_up_of z) t.coord ++ d.outs })
    first z d fs work are =
        let gs : List Body = map (λ (j : ℕ). body.GaveUp q.label j) (given_up_of z) in
        did k (λ own. own ≡ first_lines q.label z) n (with_coord t d.part) (first_lines q.label z)
        (gaveup_lines u (given_up_of z) t.coord ++ d.outs) fs
        ((λ i. gaveup_said (given_up_of z) i ++ are i)
        ∙ sym (append_assoc (say_all gs) (say_all (lost_line q.label z)) fs)
        ∙ ap (λ es. es ++ fs) (sym (map-append Say gs (lost_line q.label z)))) work refl

    lost : (m : ℕ) (p : Plan) → (step_commit u (Aborts (cause.Lost m) p) intents t.coord).outs
        ≡ Say (body.Aborted q.label (cause.Lost m)) ∷ tolds_of intents (Words.ended u ending.Abort t.coord) u
    lost m p = ap (λ o. say_for (λ l. body.Aborted l (cause.Lost m)) o ++ tolds_of intents (Words.ended u ending.Abort t.coord) u) does

    -- a giveup says the nodes first, and where it ends the commit, that it is lost
    pub first_tells : is_waiting_now q.now ≡ true → FirstOwn q.now (give_up u intents t.coord)
    first_tells waits = subst (λ o. FirstOwn q.now (give_up_doing u intents t.coord o)) (sym does) (now q.now waits)
      where
        rest : List Effect
        rest = tolds_of intents (Words.ended u ending.Abort t.coord) u

        now : (z : Now) → is_waiting_now z ≡ true → FirstOwn z (gives_up u intents t.coord z)
        now Idle waits = absurd (cc waits)
        now (Calling s) waits = let d = give_up_call s t.coord in first (Calling s) d d.outs
            (step_call_work s (given_up s.at) (on_root (root_of s.path) (root_lost s (given_up s.at)) t.coord)) refl
        now (Committing (Voting p left)) waits = first (Committing (Voting p left))
            (moved_commit u (commit.given_up (Voting p left)) intents t.coord) rest
            (tolds_of_work intents (Words.ended u ending.Abort t.coord) u) (lost (commit.first_of left) p)
        now (Committing (Preparing p left)) waits =
            let d = moved_commit u (commit.given_up (Preparing p left)) intents t.coord in
            first (Committing (Preparing p left)) d d.outs
            (moved_commit_work u (commit.given_up (Preparing p left)) intents t.coord (stores_refuse [] (commit.marks_stores left p))) refl
        now (Committing (Confirming p)) waits = first (Committing (Confirming p))
            (moved_commit u (commit.given_up (Confirming p)) intents t.coord) rest
            (tolds_of_work intents (Words.ended u ending.Abort t.coord) u) (lost 1 p)

  -- calls and includes ask
  pub call_tells : (b : Branch) (x : ℕ) (o : Op) → (let d = call b.path x o t.coord in
      Tells (Led works Nothing k) k n.disk (node_did n [] (with_coord t d.part) d.outs))
  call_tells b x o = let d = call b.path x o t.coord in did k Nothing n (with_coord t d.part) [] d.outs d.outs refl refl refl

  pub include_tells : (b : Branch) (x s : ℕ) → (let d = include b.path x s t.coord in
      Tells (Led works Nothing k) k n.disk (node_did n [] (with_coord t d.part) d.outs))
  include_tells b x s = let d = include b.path x s t.coord in did k Nothing n (with_coord t d.part) [] d.outs d.outs refl refl refl

  -- a commit says one line first
  module _ (b : Branch) (intents : List (Uid × Intent)) (q : Doing) (does : doing_of (actor b.path) t.coord ≡ Some q) where
    abbrev Its : Words.Did Coord → Type 0
    Its d = Tells (Led works (IsCommitLine b.kind q.label) k) k n.disk (node_did n [] (with_coord t d.part) d.outs)

    said : (f : Label → Body) → says (actor b.path) f t.coord ≡ Say (f q.label) ∷ []
    said f = ap (say_for f) does

    ends : (e : Words.End) (f : Label → Body) → IsCommitLine b.kind q.label (f q.label ∷ []) → Its (ends_with
        (actor b.path) e f intents t.coord)
    ends e f its =
        let c = Words.ended (actor b.path) e t.coord in
        did k (IsCommitLine b.kind q.label) n (with_coord t c) (f q.label ∷ []) (says (actor b.path) f t.coord ++ tolds_of intents c
        (actor b.path)) (tolds_of intents c (actor b.path)) (ap (λ es. es ++ tolds_of intents c (actor b.path)) (said f))
        (tolds_of_work intents c (actor b.path)) its

    top : commit_line b.kind q.label ≡ body.Committing q.label → Its (commit_top b.path intents t.coord)
    top line =
        let p = Words.plan_for b.path (Words.last_req (doing_of (actor b.path) t.coord)) (Words.root_at
        (Words.root_of b.path) t.coord) t.coord in
        let rest = moved_commit (actor b.path) (start p) intents t.coord in
        did k (IsCommitLine b.kind q.label) n (with_coord t rest.part) (body.Committing q.label ∷ [])
        (says (actor b.path) body.Committing t.coord ++ rest.outs) rest.outs (ap (λ es. es ++ rest.outs) (said body.Committing))
        (moved_commit_work (actor b.path) (start p) intents t.coord (vote_refuses (Words.servers_of p) p))
        (inl (ap (λ z. z ∷ []) (sym line)))

    kinds : (kd : Kind) → b.kind ≡ kd → Its (commit_open b intents t.coord kd)
    kinds kind.Nested is = ends ending.Commit body.Committed (inl (ap (λ j. commit_line j q.label ∷ []) (sym is)))
    kinds kind.Serial is = ends ending.Commit body.Ended (inl (ap (λ j. commit_line j q.label ∷ []) (sym is)))
    kinds kind.Top is = top (ap (λ j. commit_line j q.label) is)
    kinds kind.Independent is = top (ap (λ j. commit_line j q.label) is)
    kinds kind.Constituent is = top (ap (λ j. commit_line j q.label) is)

    pub commit_tells : Its (commit_action b intents t.coord)
    commit_tells = by b.doomed
      where
        by : (x : Bool) → Its (cond x (aborts_with (actor b.path) cause.Doomed intents t.coord) (commit_open b intents t.coord b.kind))
        by true = ends ending.Abort (λ l. body.Aborted l cause.Doomed) (inr refl)
        by false = kinds b.kind refl

  -- a tick sends again
  again_work : (ds : List Doing) (c : Coord) → Work (again_all ds c).outs
  again_work [] c = refl
  again_work (d ∷ ds) c = let r = again_now c d.now in work_both r.outs (again_all ds r.part).outs (now d.now) (again_work ds r.part)
    where
      now : (m : Now) → Work (again_now c m).outs
      now Idle = refl
      now (Calling s) = refl
      now (Committing m) = asks_all_work (plan_of m).path (plan_of m).req (commit.waiting m) c

  pub tick_tells : Tells (Led works Nothing k) k n.disk (tick_step n t)
  tick_tells =
      let d = again_all t.coord.doings t.coord in
      let outs = d.outs ++ tolds_again t.coord.telling ++ map query_about (holders n.disk t) in
      did k Nothing n (with_coord t d.part) [] outs outs refl
      (work_both (d.outs ++ tolds_again t.coord.telling) (map query_about (holders n.disk t))
      (work_both d.outs (tolds_again t.coord.telling) (again_work t.coord.doings t.coord) (again t.coord.telling))
      (work_map query_about (holders n.disk t) (λ u. refl))) refl
    where
      again : (telling : List (Uid × Intent)) → Work (tolds_again telling)
      again telling = all_flat says_work (λ (e : Uid × Intent). tell_all e.1.root true ((e.0, ending.Commit) ∷ []) e.1.nodes) telling
          (λ e. tells_work e.1.root true ((e.0, ending.Commit) ∷ []) e.1.nodes)

-- ---- a frame

-- it was got, or was void
abbrev pub IsTaken : ℕ → List Body → Type 0
IsTaken j own = (own ≡ body.Got j ∷ []) ⊎ (own ≡ body.Void j ∷ [])

looks_say : (k j : ℕ) (es fs : List Effect) → AreLooks es → bodies k j (es ++ fs) ≡ bodies k j fs
looks_say k j [] fs all = refl
looks_say k j (Do Look ∷ es) fs all = looks_say k j es fs all
looks_say k j (Do (PutInc i) ∷ es) fs all = absurd (cc all)
looks_say k j (Do (Words.Prepare r u s) ∷ es) fs all = absurd (cc all)
looks_say k j (Do (Words.effect.Commit r u) ∷ es) fs all = absurd (cc all)
looks_say k j (Do (Words.effect.Abort r u) ∷ es) fs all = absurd (cc all)
looks_say k j (Do (Words.PutIntent u i) ∷ es) fs all = absurd (cc all)
looks_say k j (Do (Words.RemoveIntent u) ∷ es) fs all = absurd (cc all)
looks_say k j (Say b ∷ es) fs all = absurd (cc all)
looks_say k j (Send to m ∷ es) fs all = absurd (cc all)

looks_work : (es : List Effect) → AreLooks es → Work es
looks_work [] all = refl
looks_work (Do w ∷ es) all = looks_work es (and_parts (is_look (Do w)) (list_all is_look es) all).1
looks_work (Say b ∷ es) all = absurd (cc all)
looks_work (Send to m ∷ es) all = absurd (cc all)

module _ (k : ℕ) (n : Node) (j : ℕ) where
  got_led : (fs : List Effect) → Such works fs → (c i : ℕ) (how : Stop) →
      Led works (IsTaken j) k (bodies k i (halted_outs k (cut c how (Say (body.Got j) ∷ fs) n.disk)))
  got_led fs such c i how = by c
    where
      by : (c : ℕ) → Led works (IsTaken j) k (bodies k i (halted_outs k (cut c how (Say (body.Got j) ∷ fs) n.disk)))
      by zero = record {
        own = body.Got j ∷ [];
        others = bodies k i (halted_outs k (cut zero how fs n.disk));
        parts = refl;
        is_own = inl refl;
        rest = goes_halted works k i zero how fs n.disk such;
      }
      by (suc c) = record {
        own = body.Got j ∷ [];
        others = bodies k i (halted_outs k (cut (suc c) how fs n.disk));
        parts = refl;
        is_own = inl refl;
        rest = goes_halted works k i (suc c) how fs n.disk such;
      }

  void_tells : (outs : List Effect) → AreLooks outs → Tells (Led works (IsTaken j) k) k n.disk (void_step j n outs)
  void_tells outs looks = record {
    through = λ i. record {
      own = body.Void j ∷ [];
      others = [];
      parts = looks_say k i outs (Say (body.Void j) ∷ []) looks;
      is_own = inr refl;
      rest = Through refl;
    };
    halted = λ i c how. got_led outs (such_work works same outs (looks_work outs looks)) c i how;
  }

  took_tells : (t : Parts) (outs : List Effect) → Work outs →
      Tells (Led works (IsTaken j) k) k n.disk (node_did n (Say (body.Got j) ∷ []) t outs)
  took_tells t outs work =
      let w = led_whole works same n.number t [] outs n.disk (such_work works same outs work) in
      let s = node_did n (Say (body.Got j) ∷ []) t outs in
      led_tells works (IsTaken j) k n.disk s (body.Got j ∷ []) w.0 (ap (λ es. Say (body.Got j) ∷ es) w.1)
      (ap (λ es. Say (body.Got j) ∷ es) w.1) w.2 (inl refl)

  pub frame_tells : (hd : Header) (from : ℕ) (m : Option Message) →
      Tells (Led works (IsTaken j) k) k n.disk (step hd n (input.Frame j from m))
  frame_tells hd from m = by n.live refl
    where
      handled : (v : Handled) → LooksAlone v → Work (outs_of v) → Tells (Led works (IsTaken j) k) k n.disk (handled_step j n v)
      handled (Void outs) looks work = void_tells outs looks
      handled (Took u outs) looks work = took_tells u outs work

      up : (t : Parts) (o : Option Message) → Tells (Led works (IsTaken j) k) k n.disk (frame_step j from n t o)
      up t None = void_tells [] refl
      up t (Some a) = handled (taken n.number n.disk t from a) (taken_looks n.number n.disk t from a) (taken_work n.number n.disk t from a)

      by : (o : Option Parts) → n.live ≡ o → Tells (Led works (IsTaken j) k) k n.disk (step hd n (input.Frame j from m))
      by None is = subst (Tells (Led works (IsTaken j) k) k n.disk) (sym (ap (step_unless hd (input.Frame j from m) n)
          (ap (input.refusal_at hd (input.Frame j from m)) is) ∙ ap (step_of hd (input.Frame j from m) n) is)) (void_tells [] refl)
      by (Some t) is = subst (Tells (Led works (IsTaken j) k) k n.disk) (sym (ap (step_unless hd (input.Frame j from m) n)
          (ap (input.refusal_at hd (input.Frame j from m)) is) ∙ ap (step_of hd (input.Frame j from m) n) is)) (up t m)

-- ---- a restart

-- the line says that a record was found at this node, or is work
abbrev pub finds : ℕ → Body → Bool
finds n (body.Recovered m u) = m == n
finds n b = works b

-- the node is up again with this incarnation, or stopped before that
abbrev pub IsBack : ℕ → ℕ → List Body → Type 0
IsBack n i own = (own ≡ body.Up n i ∷ []) ⊎ (own ≡ body.Halted n ∷ [])

module _ (hd : Header) (n : Node) where
  abbrev inc : ℕ
  inc = n.disk.inc + 1

  covers : (b : Body) → works b ≡ true → finds n.number b ≡ true
  covers (body.Recovered m u) is = absurd (cc is)
  covers b is = is

  abbrev behind_up : List Effect
  behind_up = Do Look ∷ naming_back (naming_at n.number inc n.disk.names) ++ Do Look ∷ recovered_records n.number n.disk.intents
      ++ tolds_again n.disk.intents ++ map query_about (uid_set (prepared_actions n.disk.store ++ prepared_actions n.disk.names))
      ++ map (hello_to n.number inc) (without_number n.number (numbers_to hd.nodes))

  such_back : Such (finds n.number) behind_up
  such_back =
      let S = Saying.says_such (finds n.number) in
      let names = naming_back (naming_at n.number inc n.disk.names) in
      let found = recovered_records n.number n.disk.intents in
      let tolds = tolds_again n.disk.intents in
      let asked = map query_about (uid_set (prepared_actions n.disk.store ++ prepared_actions n.disk.names)) in
      let hellos = map (hello_to n.number inc) (without_number n.number (numbers_to hd.nodes)) in
      Words.all_both S ((((Do Look ∷ names) ++ Do Look ∷ found) ++ tolds) ++ asked) hellos
      (Words.all_both S (((Do Look ∷ names) ++ Do Look ∷ found) ++ tolds) asked
      (Words.all_both S ((Do Look ∷ names) ++ Do Look ∷ found) tolds
      (Words.all_both S (Do Look ∷ names) (Do Look ∷ found) (given (naming_at n.number inc n.disk.names)) (records n.disk.intents))
      (such_work (finds n.number) covers tolds (again n.disk.intents)))
      (such_work (finds n.number) covers asked (work_map query_about (uid_set
      (prepared_actions n.disk.store ++ prepared_actions n.disk.names))
      (λ u. refl))))
      (such_work (finds n.number) covers hellos (work_map (hello_to n.number inc) (without_number n.number (numbers_to hd.nodes))
      (λ m. refl)))
    where
      again : (telling : List (Uid × Intent)) → Work (tolds_again telling)
      again telling = all_flat says_work (λ (e : Uid × Intent). tell_all e.1.root true ((e.0, ending.Commit) ∷ []) e.1.nodes) telling
          (λ e. tells_work e.1.root true ((e.0, ending.Commit) ∷ []) e.1.nodes)

      given : (o : Option Naming) → Such (finds n.number) (naming_back o)
      given None = refl
      given (Some o) = such_work (finds n.number) covers (naming_back (Some o))
          (all_flat says_work (λ (e : ℕ × Named). back_lines e.1) o.objects (λ e. work_map _ e.1.rows (λ r. refl)))

      itself : (m : ℕ) → (m == m) ≡ true
      itself m = grind (arith, nat_tests)

      records : (is : List (Uid × Intent)) → Such (finds n.number) (recovered_records n.number is)
      records [] = refl
      records (e ∷ es) = λ i. itself n.number i && records es i

  pub restart_tells : Tells (Led (finds n.number) (IsBack n.number inc) n.number) n.number n.disk (input.restart_step hd n)
  restart_tells = record {
    through = λ j. record {
      own = body.Up n.number inc ∷ [];
      others = bodies n.number j w.0;
      parts = ap (bodies n.number j) all;
      is_own = inl refl;
      rest = goes_through (finds n.number) n.number j w.0 w.2;
    };
    halted = λ j c how. subst (λ es. Led (finds n.number) (IsBack n.number inc) n.number (bodies n.number j
        (halted_outs n.number (cut c how es n.disk)))) (sym all) (cut_at j c how);
  }
    where
      t : Parts
      t = parts_in n.number inc n.disk

      d : Disk
      d = worked (PutInc inc) (worked Look n.disk)

      w : (fs : List Effect) × ((whole n.number t (restart_outs hd n.number inc n.disk) n.disk).outs
          ≡ Do Look ∷ Do (PutInc inc) ∷ Say (body.Up n.number inc) ∷ fs) × Such (finds n.number) fs
      w =
          let r = Working.rounds_work n.number most_rounds (ran n.number t (restart_outs hd n.number inc n.disk) n.disk) in (
            (ran n.number t behind_up d).outs ++ r.0,
            r.1,
            Words.all_both (Saying.says_such (finds n.number)) (ran n.number t behind_up d).outs r.0
                (Saying.such_ran (finds n.number) n.number t behind_up d such_back) (such_work (finds n.number) covers r.0 r.2),
          )

      all : (input.restart_step hd n).outs ≡ Do Look ∷ Do (PutInc inc) ∷ Say (body.Up n.number inc) ∷ w.0
      all = w.1

      stopped_first : (j : ℕ) → Led (finds n.number) (IsBack n.number inc) n.number (body.Halted n.number ∷ [])
      stopped_first j = record { own = body.Halted n.number ∷ []; others = []; parts = refl; is_own = inr refl; rest = Through refl }

      cut_at : (j c : ℕ) (how : Stop) → Led (finds n.number) (IsBack n.number inc) n.number (bodies n.number j
          (halted_outs n.number (cut c how (Do Look ∷ Do (PutInc inc) ∷ Say (body.Up n.number inc) ∷ w.0) n.disk)))
      cut_at j zero how = stopped_first j
      cut_at j (suc zero) how = stopped_first j
      cut_at j (suc (suc c)) how = by c
        where
          by : (c : ℕ) → Led (finds n.number) (IsBack n.number inc) n.number (bodies n.number j
              (halted_outs n.number (cut (suc (suc c)) how (Do Look ∷ Do (PutInc inc) ∷ Say (body.Up n.number inc) ∷ w.0) n.disk)))
          by zero = record {
            own = body.Up n.number inc ∷ [];
            others = bodies n.number j (halted_outs n.number (cut zero how w.0 d));
            parts = refl;
            is_own = inl refl;
            rest = goes_halted (finds n.number) n.number j zero how w.0 d w.2;
          }
          by (suc c) = record {
            own = body.Up n.number inc ∷ [];
            others = bodies n.number j (halted_outs n.number (cut (suc c) how w.0 d));
            parts = refl;
            is_own = inl refl;
            rest = goes_halted (finds n.number) n.number j (suc c) how w.0 d w.2;
          }

-- a step that does nothing
pub nothing_tells : (T : Body → Bool) (k : ℕ) (n : Node) → Tells (Led T Nothing k) k n.disk (input.does_nothing n)
nothing_tells T k n = led_tells T Nothing k n.disk (input.does_nothing n) [] [] refl refl refl refl
