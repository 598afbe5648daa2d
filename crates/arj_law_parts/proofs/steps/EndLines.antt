-- A commit, an abort and a giveup write their lines.
use Rattle.arj_law_parts.proofs.Words
use Words.{◌≡◌, ◌∙◌, ◌+◌, ◌==◌, ◌&&◌, ℕ, zero, suc, Bool, true, false, not, cond, List, [], ◌∷◌, ◌++◌, length, map, nat_le, refl, sym, ap}
use Words.{subst, inl, inr, arith, Option, Some, None, is_some, slice_get, append_assoc, steps_lines, actor, commit_action, commit_open}
use Words.{gaveup_lines, give_up, give_up_call, give_up_doing, gives_up, moved_commit, next_node, Confirming, Machine, Preparing, Voting}
use Words.{first_of, left_of, nodes_given_up, Calling, Committing, Coord, Doing, Idle, Now, change_doing, doing_of, number_of}
use Words.{on_doing, uid_at, Did, Disk, Effect, Intent, Say, Send, Do, worked, abort_action, aborts_with, all_aborted, ended, say_for, says}
use Words.{effects_of, Parts, Ran, first_done, first_queued, ran, with_coord, Input, Node, Step, abort_reasons, branch_named}
use Words.{branch_numbered, commit_reasons, first_reason, giveup_reasons, is_waiting, is_waiting_now, on_branch, refusal, refusal_at}
use Words.{refusal_up, refused_by, step, step_of, step_unless, waits, Branch, Tree, at_place, branch_of, ended_at, ended_branch, family_of}
use Words.{is_own, open_below, root_of, set_place, with_family, Body, End, Event, Header, Kind, Label, Line, Uid, name, uids_of, Arm, World}
use Words.{bodies, counted, happens, is_given, is_known, was_given, limited, node_of, numbered, reasons, refused_at, run_unless, steps}
use Words.{is_empty}
use Words.input
use Words.body
use Words.cause
use Words.event
use Words.kind
use Words.ending
use Rattle.arj_law_parts.proofs.Terms
use Terms.{names_of, IsDone, IsRun, IsWhole, asks, node_refusal, refused_to, says as world_says}
use Terms.which
use Rattle.arj_law_parts.proofs.steps.{CoordNames.same_all, Spoken.given_node}
use Rattle.arj_law_parts.proofs.moves.Reasons.{first_not, is_there, not_not}
use Rattle.arj_law_parts.proofs.steps.Written.{Halt, Its, Or, Says, Stands, first_stands, node_refuses, node_says, numbered_in, said_of}
use Rattle.arj_law_parts.proofs.steps.Written.{stands_before, stands_behind, whole_says}
use Rattle.arj_law_parts.specs.steps.Named.{AnswersEnd, AreNamed, EndHalted, EndRefused, EndsWriteTheirLines, IsEndAnswered, IsEndOf}
use Rattle.arj_law_parts.specs.steps.Named.{KnowsNames, OwnEnd, ends_label}
use Rattle.arj_protocol.specs.Commit.{given_up}

-- ---- a line in the middle of a step

-- what is said of effects is said as they are done
ran_says : (n : ℕ) (t : Parts) (b : Body) (front back : List Effect) (d : Disk) → Stands (Say b) (ran n t (front ++ Say b ∷ back) d).outs
ran_says n t b [] back d = first_stands (Say b) (ran n t back d).outs
ran_says n t b (Say c ∷ es) back d = stands_behind (Say b) (Say c ∷ []) (ran n t (es ++ Say b ∷ back) d).outs (ran_says n t b es back d)
ran_says n t b (Do w ∷ es) back d =
    stands_behind (Say b) (Do w ∷ []) (ran n t (es ++ Say b ∷ back) (worked w d)).outs (ran_says n t b es back (worked w d))
ran_says n t b (Send to m ∷ es) back d = by (to == n) (ran_says n t b es back d)
  where
    r : Ran
    r = ran n t (es ++ Say b ∷ back) d

    by : (x : Bool) → Stands (Say b) r.outs → Stands (Say b) (cond x (first_queued m r) (first_done (Send to m) r)).outs
    by true s = s
    by false s = stands_behind (Say b) (Send to m ∷ []) r.outs s

did_says : (n : Node) (t : Parts) (es : List Effect) (b : Body) → Stands (Say b) es → Stands (Say b) ([] ++ (input.node_did n [] t es).outs)
did_says n t es b s = whole_says n.number t es n.disk (Say b)
    (subst (λ xs. Stands (Say b) (ran n.number t xs n.disk).outs) (sym s.are) (ran_says n.number t b s.before s.after n.disk))

-- ---- the action of a label

-- a doing with a label of that name
record IsAt (l : Label) (u : Uid) (c : Coord) : Type 0 where
  doing : Doing
  found : doing_of u c ≡ Some doing
  named : name doing.label ≡ name l

doing_there : (ds : List Doing) (i : ℕ) (m : Label) → slice_get (map (λ (d : Doing). d.label) ds) i ≡ Some m →
    (d : Doing) × (slice_get ds i ≡ Some d) × (d.label ≡ m)
doing_there [] i m is = absurd (cc is)
doing_there (d ∷ ds) zero m is = (d, refl, cc is)
doing_there (d ∷ ds) (suc i) m is = doing_there ds i m is

own_uid : (j : ℕ) (c : Coord) → is_own (uid_at j c) c.tree ≡ true
own_uid j c = λ i. itself c.tree.node i && itself c.tree.inc i
  where
    itself : (n : ℕ) → (n == n) ≡ true
    itself n = grind arith

at_number : (l : Label) (j : ℕ) (m : Label) (c : Coord) → at_place j (names_of c) ≡ Some m → name m ≡ name l → IsAt l (uid_at j c) c
at_number l zero m c is same = absurd (cc is)
at_number l (suc i) m c is same =
    let d = doing_there c.doings i m is in
    record { doing = d.0; found = (λ k. cond (own_uid (suc i) c k) (at_place (suc i) c.doings) None) ∙ d.1; named = ap name d.2 ∙ same }

-- the branch of a label, and what its action says
module _ (l : Label) (c : Coord) (known : KnowsNames c) where
  its_doing : (b : Branch) → branch_named l c ≡ Some b → IsAt l (actor b.path) c
  its_doing b is = by (number_of l c) refl is
    where
      by : (o : Option ℕ) → number_of l c ≡ o → branch_numbered c o ≡ Some b → IsAt l (actor b.path) c
      by None at e = let no_way : ◌≡◌ {A = Option Branch} None (Some b) = e in cc
      by (Some j) at e = let n = known.names.named l j at in
          subst (λ u. IsAt l u c) (sym (known.places j b e)) (at_number l j n.0 c n.1 n.2)

  -- after others have ended it has its label still
  still_doing : (us : List Uid) (b : Branch) → branch_named l c ≡ Some b →
      ((let e = all_aborted us c in let x = e.part in x.tree.node) ≡ c.tree.node) →
      ((let e = all_aborted us c in let x = e.part in x.tree.inc) ≡ c.tree.inc) → IsAt l (actor b.path) (all_aborted us c).part
  still_doing us b is node inc = by (number_of l c) refl is
    where
      e : Coord
      e = (all_aborted us c).part

      by : (o : Option ℕ) → number_of l c ≡ o → branch_numbered c o ≡ Some b → IsAt l (actor b.path) e
      by None at f = let no_way : ◌≡◌ {A = Option Branch} None (Some b) = f in cc
      by (Some j) at f =
          let n = known.names.named l j at in
          let s = same_all us c in
          let uid : actor b.path ≡ uid_at j e = known.places j b f ∙ (λ i. record { node = sym node i; inc = sym inc i; num = j }) in
          subst (λ u. IsAt l u e) (sym uid) (at_number l j n.0 e (ap (at_place j) s.names ∙ n.1) n.2)

on_tree : (u : Uid) (f : Doing → Doing) (c : Coord) → (on_doing u f c).tree ≡ c.tree
on_tree u f c = by (doing_of u c)
  where
    by : (o : Option Doing) → (change_doing f u c o).tree ≡ c.tree
    by None = refl
    by (Some d) = refl

-- an end leaves the coordinator's node and incarnation
ended_own : (u : Uid) (e : End) (c : Coord) → ((ended u e c).tree.node ≡ c.tree.node) × ((ended u e c).tree.inc ≡ c.tree.inc)
ended_own u e c = subst (λ (t : Tree). (t.node ≡ c.tree.node) × (t.inc ≡ c.tree.inc))
    (sym (on_tree u (λ (d : Doing). record d { now = Idle }) (record c { tree = ended_at u e c.tree }))) (by (branch_of u c.tree))
  where
    listed : (b : Branch) (x : Bool) →
        (let m : Tree = record c.tree { branches = set_place u.num (record b { ended = Some e }) c.tree.branches } in let t = cond x m
        (with_family (root_of b.path) (let f = family_of (root_of b.path) m in record f { ends = f.ends ++ (u, e) ∷ [] }) m) in
        (t.node ≡ c.tree.node) × (t.inc ≡ c.tree.inc))
    listed b true = (refl, refl)
    listed b false = (refl, refl)

    by : (o : Option Branch) → (let t = ended_branch u e c.tree o in (t.node ≡ c.tree.node) × (t.inc ≡ c.tree.inc))
    by None = (refl, refl)
    by (Some b) = listed b (nat_le (length (uids_of b.path)) 1)

all_own : (us : List Uid) (c : Coord) →
    (let d = all_aborted us c in let e = d.part in (e.tree.node ≡ c.tree.node) × (e.tree.inc ≡ c.tree.inc))
all_own [] c = (refl, refl)
all_own (u ∷ us) c = let first = ended_own u ending.Abort c in let rest = all_own us (ended u ending.Abort c) in
    (rest.0 ∙ first.0, rest.1 ∙ first.1)

-- ---- what a coordinator says

says_first : (u : Uid) (f : Label → Body) (c : Coord) (d : Doing) (rest : List Effect) → doing_of u c ≡ Some d →
    Stands (Say (f d.label)) (says u f c ++ rest)
says_first u f c d rest found =
    subst (λ o. Stands (Say (f d.label)) (say_for f o ++ rest)) (sym found) (first_stands (Say (f d.label)) rest)

-- the line of an end, or of a commit that was called
record Speaks (e : Event) (m : Label) (es : List Effect) : Type 0 where
  line : Body
  stands : Stands (Say line) es
  is : IsEndOf e m line

commit_speaks : (l : Label) (b : Branch) (intents : List (Uid × Intent)) (c : Coord) (d : Doing) → doing_of (actor b.path) c ≡ Some d →
    Speaks (event.Commit l) d.label (commit_action b intents c).outs
commit_speaks l b intents c d found = by b.doomed
  where
    u : Uid
    u = actor b.path

    kinds : (k : Kind) → Speaks (event.Commit l) d.label (commit_open b intents c k).outs
    kinds kind.Nested = record { line = body.Committed d.label; stands = says_first u body.Committed c d _ found; is = inr (inl refl) }
    kinds kind.Serial = record { line = body.Ended d.label; stands = says_first u body.Ended c d _ found; is = inr (inr (inl refl)) }
    kinds kind.Top = record { line = body.Committing d.label; stands = says_first u body.Committing c d _ found; is = inl refl }
    kinds kind.Independent = record { line = body.Committing d.label; stands = says_first u body.Committing c d _ found; is = inl refl }
    kinds kind.Constituent = record { line = body.Committing d.label; stands = says_first u body.Committing c d _ found; is = inl refl }

    by : (x : Bool) → Speaks (event.Commit l) d.label (cond x (aborts_with u cause.Doomed intents c) (commit_open b intents c b.kind)).outs
    by true = record {
      line = body.Aborted d.label cause.Doomed;
      stands = says_first u (λ m. body.Aborted m cause.Doomed) c d _ found;
      is = inr (inr (inr refl));
    }
    by false = kinds b.kind

aborted_last : (us : List Uid) (u : Uid) (c : Coord) (d : Doing) → doing_of u (all_aborted us c).part ≡ Some d →
    Stands (Say (body.Aborted d.label cause.Asked)) (all_aborted (us ++ u ∷ []) c).outs
aborted_last [] u c d found = says_first u (λ m. body.Aborted m cause.Asked) c d [] found
aborted_last (v ∷ us) u c d found = stands_behind (Say (body.Aborted d.label cause.Asked)) (says v (λ m. body.Aborted m cause.Asked) c)
    (all_aborted (us ++ u ∷ []) (ended v ending.Abort c)).outs (aborted_last us u (ended v ending.Abort c) d found)

abort_speaks : (l : Label) (b : Branch) (intents : List (Uid × Intent)) (c : Coord) (d : Doing) → doing_of (actor b.path) (all_aborted
    (open_below (actor b.path) c.tree) c).part ≡ Some d → Speaks (event.Abort l) d.label (abort_action (actor b.path) intents c).outs
abort_speaks l b intents c d found = record {
  line = body.Aborted d.label cause.Asked;
  stands = stands_before (Say (body.Aborted d.label cause.Asked)) (all_aborted (open_below (actor b.path) c.tree ++ actor b.path ∷ [])
      c).outs _ (aborted_last (open_below (actor b.path) c.tree) (actor b.path) c d found);
  is = refl;
}

-- a giveup says of some node that it isn't waited for any more
giveup_speaks : (l : Label) (u : Uid) (intents : List (Uid × Intent)) (c : Coord) → KnowsNames c → (d : Doing) → doing_of u c ≡ Some d →
    is_waiting_now d.now ≡ true → Speaks (event.GiveUp l) d.label (give_up u intents c).outs
giveup_speaks l u intents c known d found waits =
    subst (λ o. Speaks (event.GiveUp l) d.label (give_up_doing u intents c o).outs) (sym found) (now d.now refl waits)
  where
    first : (n : ℕ) (ns : List ℕ) (rest : List Effect) → Speaks (event.GiveUp l) d.label (gaveup_lines u (n ∷ ns) c ++ rest)
    first n ns rest = record {
      line = body.GaveUp d.label n;
      stands = stands_before (Say (body.GaveUp d.label n)) (gaveup_lines u (n ∷ ns) c) rest
          (says_first u (λ m. body.GaveUp m n) c d (gaveup_lines u ns c) found);
      is = (n, refl);
    }

    some : (ns : List ℕ) (rest : List Effect) → is_empty ns ≡ false → Speaks (event.GiveUp l) d.label (gaveup_lines u ns c ++ rest)
    some [] rest none = let no_way : true ≡ false = none in cc
    some (n ∷ ns) rest there = first n ns rest

    machine : (m : Machine) (rest : List Effect) → is_empty (left_of m) ≡ false →
        Speaks (event.GiveUp l) d.label (gaveup_lines u (nodes_given_up m) c ++ rest)
    machine (Voting p left) rest there = first (first_of left) [] rest
    machine (Preparing p left) rest there = some left rest there
    machine (Confirming p) rest there = first 1 [] rest

    now : (q : Now) → d.now ≡ q → is_waiting_now q ≡ true → Speaks (event.GiveUp l) d.label (gives_up u intents c q).outs
    now Idle is none = let no_way : false ≡ true = none in cc
    now (Calling s) is there = first (next_node s) [] (give_up_call s c).outs
    now (Committing m) is there = machine m (moved_commit u (given_up m) intents c).outs (known.waits u d m found is)

-- ---- what a node says

-- the line is the event's own, by a label of that name
abbrev SaysEnd : Event → Label → Body → Type 0
SaysEnd e l b = (m : Label) × (name m ≡ name l) × IsEndOf e m b

module _ (e : Event) (l : Label) (i : Input) (reasons : Branch → Coord → List (ℕ × Bool)) (f : Branch → List (Uid × Intent) → Coord →
    Did Coord) where
  -- an input about an action by its label, which speaks where it isn't refused
  record IsSpoken : Type 0 where
    down : (hd : Header) → refusal_at hd i None ≡ Some 6
    refuses : (hd : Header) (c : Coord) → refusal_up hd i c ≡ refused_by reasons c (branch_named l c)
    does : (hd : Header) (n : Node) (t : Parts) →
        step_of hd i n (Some t) ≡ input.coord_did n t (on_branch (λ b. f b n.disk.intents t.coord) t.coord (branch_named l t.coord))
    speaks : (b : Branch) (intents : List (Uid × Intent)) (c : Coord) → KnowsNames c → branch_named l c ≡ Some b →
        first_reason (reasons b c) ≡ None → (m : Label) × (name m ≡ name l) × Speaks e m (f b intents c).outs

  node_speaks : IsSpoken → (hd : Header) (n : Node) → ((t : Parts) → n.live ≡ Some t → KnowsNames t.coord) → refusal hd i n ≡ None →
      Says (SaysEnd e l) (step hd n i).outs
  node_speaks spoken hd n known none = subst (λ r. Says (SaysEnd e l) (step_unless hd i n r).outs) (sym none) (by n.live refl none)
    where
      done : (t : Parts) → KnowsNames t.coord → (o : Option Branch) → branch_named l t.coord ≡ o → refused_by reasons t.coord o ≡ None →
          Says (SaysEnd e l) (input.coord_did n t (on_branch (λ b. f b n.disk.intents t.coord) t.coord o)).outs
      done t knows None is none = let no_way : ◌≡◌ {A = Option ℕ} (Some 6) None = none in cc
      done t knows (Some b) is none =
          let s = spoken.speaks b n.disk.intents t.coord knows is none in
          let d = f b n.disk.intents t.coord in
          record { line = s.2.line; stands = did_says n (with_coord t d.part) d.outs s.2.line s.2.stands; holds = (s.0, s.1, s.2.is) }

      by : (o : Option Parts) → n.live ≡ o → refusal_at hd i o ≡ None → Says (SaysEnd e l) (step_of hd i n o).outs
      by None is down = let no_way : ◌≡◌ {A = Option ℕ} (Some 6) None = sym (spoken.down hd) ∙ down in cc
      by (Some t) is up = subst (λ (s : Step). Says (SaysEnd e l) s.outs) (sym (spoken.does hd n t))
          (done t (known t is) (branch_named l t.coord) refl (sym (spoken.refuses hd t.coord) ∙ up))

commit_spoken : (l : Label) → IsSpoken (event.Commit l) l (input.Commit l) commit_reasons (λ b intents c. commit_action b intents c)
commit_spoken l = record {
  down = λ hd. refl;
  refuses = λ hd c. refl;
  does = λ hd n t. refl;
  speaks = λ b intents c known is none. let d = its_doing l c known b is in
      (d.doing.label, d.named, commit_speaks l b intents c d.doing d.found);
}

abort_spoken : (l : Label) → IsSpoken (event.Abort l) l (input.Abort l) abort_reasons (λ b intents c. abort_action (actor b.path) intents c)
abort_spoken l = record {
  down = λ hd. refl;
  refuses = λ hd c. refl;
  does = λ hd n t. refl;
  speaks = λ b intents c known is none.
      let us = open_below (actor b.path) c.tree in
      let own = all_own us c in
      let d = still_doing l c known us b is own.0 own.1 in
      (d.doing.label, d.named, abort_speaks l b intents c d.doing d.found);
}

giveup_spoken : (l : Label) → IsSpoken (event.GiveUp l) l (input.GiveUp l) giveup_reasons (λ b intents c. give_up (actor b.path) intents c)
giveup_spoken l = record {
  down = λ hd. refl;
  refuses = λ hd c. refl;
  does = λ hd n t. refl;
  speaks = λ b intents c known is none.
      let d = its_doing l c known b is in
      let busy = (first_not 8 (not (waits c (actor b.path))) []
      (first_not 6 (is_some b.ended) ((8, not (waits c (actor b.path))) ∷ []) none).1).0 in (
        d.doing.label,
        d.named,
        giveup_speaks l (actor b.path) intents c known d.doing d.found
            (subst (λ o. is_waiting o ≡ true) d.found (not_not (waits c (actor b.path)) busy)),
      );
}

-- ---- what an event writes

-- what a node says of an end is written
said_end : (e : Event) (l : Label) (w v : World) (k : ℕ) (i : Input) (P : Body → Type 0) → v.lines ≡ w.lines → Says P (effects_of k i v) →
    ((b : Body) → P b → AnswersEnd e l w b) → IsEndAnswered e l w (steps k i v).lines
said_end e l w v k i P same says_it good =
    let s = numbered_in v.event says_it.line (bodies k (length v.frames) (effects_of k i v))
    (said_of k (length v.frames) says_it.line (effects_of k i v) says_it.stands) in
    record {
      before = s.before;
      line = record { event = v.event; body = says_it.line };
      after = s.after;
      are = steps_lines k i v
          ∙ ((λ j. same j ++ numbered v.event (bodies k (length v.frames) (effects_of k i v))) ∙ ap (λ ls. w.lines ++ ls) s.are);
      answers = good says_it.line says_it.holds;
    }

end_answers : (e : Event) (l : Label) (w : World) → IsDone e w → (b : Body) → Or (SaysEnd e l) (node_of l w) b → AnswersEnd e l w b
end_answers e l w done b (Its own) = OwnEnd own.0 done own.1 own.2
end_answers e l w done b (Halt is) = EndHalted done is

-- a line of a limit behind it
limited_end : (e : Event) (l : Label) (w v : World) → IsEndAnswered e l w v.lines → IsEndAnswered e l w (limited v).lines
limited_end e l w v x = by v.full
  where
    more : Line
    more = record { event = v.event; body = body.Limit which.Frames }

    by : (b : Bool) → IsEndAnswered e l w (cond b (world_says (body.Limit which.Frames ∷ []) (record v { over = true })) v).lines
    by false = x
    by true = record {
      before = x.before;
      line = x.line;
      after = x.after ++ more ∷ [];
      are = ap (λ ls. ls ++ more ∷ []) x.are ∙ (append_assoc w.lines (x.before ++ x.line ∷ x.after) (more ∷ [])
          ∙ ap (λ ls. w.lines ++ ls) (append_assoc x.before (x.line ∷ x.after) (more ∷ [])));
      answers = x.answers;
    }

module _ (l : Label) (w : World) (whole : IsWhole w) (named : AreNamed w) where
  -- the node of a label that was given says it, or that it refuses it
  node_says_end : (e : Event) (i : Input) → IsRun e w → asks e w ≡ Some (node_of l w, i) → is_given l w ≡ true → ((hd : Header) (n : Node) →
      ((t : Parts) → n.live ≡ Some t → KnowsNames t.coord) → refusal hd i n ≡ None → Says (SaysEnd e l) (step hd n i).outs)
      → IsEndAnswered e l w (limited (steps (node_of l w) i (counted w))).lines
  node_says_end e i run asked given spoken = limited_end e l w (steps k i (counted w)) (by (refused_at i w (at_place k w.nodes)) refl)
    where
      k : ℕ
      k = node_of l w

      refusal_is : (r : Option ℕ) → refused_at i w (at_place k w.nodes) ≡ r → node_refusal e w ≡ r
      refusal_is r is = ap (refused_to w) asked ∙ is

      by : (r : Option ℕ) → refused_at i w (at_place k w.nodes) ≡ r → IsEndAnswered e l w (steps k i (counted w)).lines
      by None none = said_end e l w (counted w) k i (Or (SaysEnd e l) k) refl
          (node_says (SaysEnd e l) k i (counted w) (whole.nodes k (given_node w l whole given))
          (λ n at. spoken w.header n (λ t live. named k n t at live) (ap (refused_at i w) (sym at) ∙ none)))
          (end_answers e l w (record { run = run; granted = refusal_is None none }))
      by (Some c) some = said_end e l w (counted w) k i (λ b. b ≡ body.Refused c) refl (node_refuses k i c (counted w) some)
          (λ b is. EndRefused c (inr (run, refusal_is (Some c) some)) is)

  given : (x : Label) → x ≡ l → first_reason ((5, not (is_known x w)) ∷ (6, was_given x w) ∷ []) ≡ None → is_given l w ≡ true
  given x same none = subst (λ y. is_given y w ≡ true) same (is_there x w none)

  refused : (e : Event) (c : ℕ) → first_reason (reasons e w) ≡ Some c →
      IsEndAnswered e l w (world_says (body.Refused c ∷ []) (counted w)).lines
  refused e c is = record {
    before = [];
    line = record { event = w.event + 1; body = body.Refused c };
    after = [];
    are = refl;
    answers = EndRefused c (inl is) refl;
  }

  event_ends : (e : Event) (a : Arm) → ends_label e l → (r : Option ℕ) → first_reason (reasons e w) ≡ r →
      IsEndAnswered e l w (run_unless e a w r).lines
  event_ends (event.Commit m) a is (Some c) at = refused (event.Commit m) c at
  event_ends (event.Abort m) a is (Some c) at = refused (event.Abort m) c at
  event_ends (event.GiveUp m) a is (Some c) at = refused (event.GiveUp m) c at
  event_ends (event.Commit m) a is None at =
      let at_l : first_reason (reasons (event.Commit l) w) ≡ None = subst (λ x. first_reason (reasons (event.Commit x) w) ≡ None) (sym is)
      at in
      subst (λ x. IsEndAnswered (event.Commit x) l w (limited (happens (event.Commit x) a (counted w))).lines) is
      (node_says_end (event.Commit l) (input.Commit l) (record { accepted = at_l; labels = refl }) refl (given m (sym is) at)
      (node_speaks (event.Commit l) l (input.Commit l) commit_reasons (λ b intents c. commit_action b intents c) (commit_spoken l)))
  event_ends (event.Abort m) a is None at =
      let at_l : first_reason (reasons (event.Abort l) w) ≡ None = subst (λ x. first_reason (reasons (event.Abort x) w) ≡ None) (sym is)
      at in
      subst (λ x. IsEndAnswered (event.Abort x) l w (limited (happens (event.Abort x) a (counted w))).lines) is
      (node_says_end (event.Abort l) (input.Abort l) (record { accepted = at_l; labels = refl }) refl (given m (sym is) at) (node_speaks
      (event.Abort l) l (input.Abort l) abort_reasons (λ b intents c. abort_action (actor b.path) intents c) (abort_spoken l)))
  event_ends (event.GiveUp m) a is None at =
      let at_l : first_reason (reasons (event.GiveUp l) w) ≡ None = subst (λ x. first_reason (reasons (event.GiveUp x) w) ≡ None) (sym is)
      at in
      subst (λ x. IsEndAnswered (event.GiveUp x) l w (limited (happens (event.GiveUp x) a (counted w))).lines) is
      (node_says_end (event.GiveUp l) (input.GiveUp l) (record { accepted = at_l; labels = refl }) refl (given m (sym is) at) (node_speaks
      (event.GiveUp l) l (input.GiveUp l) giveup_reasons (λ b intents c. give_up (actor b.path) intents c) (giveup_spoken l)))
  event_ends (event.Begin m n) a is r at = absurd is
  event_ends (event.BeginIn m p) a is r at = absurd is
  event_ends (event.Top m p) a is r at = absurd is
  event_ends (event.Serial m n) a is r at = absurd is
  event_ends (event.Call m x o) a is r at = absurd is
  event_ends (event.Include m x n) a is r at = absurd is
  event_ends (event.Deliver k) a is r at = absurd is
  event_ends (event.Lose k) a is r at = absurd is
  event_ends (event.Tick n) a is r at = absurd is
  event_ends event.Settle a is r at = absurd is
  event_ends event.Quiesce a is r at = absurd is
  event_ends (event.Crash n) a is r at = absurd is
  event_ends (event.Restart n) a is r at = absurd is
  event_ends (event.Stop n c how) a is r at = absurd is
  event_ends (event.Junk n bytes) a is r at = absurd is
  event_ends (event.Show x) a is r at = absurd is

pub ends_write : EndsWriteTheirLines
ends_write e l w whole named over is = subst (λ b. IsEndAnswered e.event l w (cond b w (run_unless e.event e.arm w (first_reason
    (reasons e.event w)))).lines) (sym over) (event_ends l w whole named e.event e.arm is (first_reason (reasons e.event w)) refl)
