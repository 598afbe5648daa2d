-- The row of commits that are lost: the script gives up the action, whose commit is under way, as a line before says of the same node.
use Rattle.arj_law_parts.proofs.Words
use Words.{◌≡◌, ◌∙◌, ◌==◌, ◌&&◌, ◌||◌, ◌++◌, ◌+◌, not, ℕ, Bool, true, false, cond, if◌then◌else◌, List, [], ◌∷◌, length, find}
use Words.{Option, Some, None, option_map, refl, sym, ap, subst, append_assoc, and_parts, list_any}
use Words.{In, uid_eq, uid_is, Body, Event, Header, Kind, Label, Line, Machine, Plan, Start, Uid}
use Words.{Intent, Branch, Coord, Disk, Do, Effect, Say, Send, Doing, Calling, Committing, Idle, Now, Steps, Parts, abort_action}
use Words.{aborts_with, acts as does, actor, all_aborted, begin_action, branch_named, bytes_eq, bytes_eq-Decides, call, commit_action}
use Words.{commit_open, commit_top, doing_of, Did, ended, ends_with, flat_map, gaveup_lines, give_up, give_up_doing, gives_up, include}
use Words.{last_req, moved_commit, name, numbered, on_branch, open_below, parent_of, plan_for, restart_outs}
use Words.{root_at, root_of, say_for, says, step_call, tick_outs, tolds_of, Confirming, Preparing, Voting, servers_of, given_up}
use Words.{CallStep, On, Ended, CallEnd, Answered, Changed, Conflict, Goal, Included, Lost, Run, end_line, Input, handle, next_node}
use Words.{give_up_call, on_root}
use Words.{root_lost, is_committing_now, End, all_both, journal_by, Void, Seen}
use Words.body
use Words.calls
use Words.cause
use Words.commit
use Words.ending
use Words.event
use Words.input
use Words.kind
use Rattle.arj_law_parts.proofs.moves.Happens.{Wide}
use Rattle.arj_law_parts.proofs.steps.Still.{outs_of}
use Rattle.arj_law_parts.specs.moves.Keeps.{is_act}
use Rattle.arj_law_parts.specs.moves.Moments.{Moment, up}
use Rattle.arj_law_parts.specs.moves.With.{Brings}
use Rattle.arj_law_parts.specs.moves.Seen.{is_quiet_line}
use Rattle.arj_law_parts.specs.moves.Seen as seen
use Rattle.arj_law_runs.proofs.follow.Halts.{KnowsAll, halts_keep}
use Rattle.arj_law_runs.proofs.journal.{Beginning.IsNamed, Beginning.named_at, Closed.one_act, Models.its_sound}
use Rattle.arj_law_runs.proofs.journal.{Models.named_in}
use Rattle.arj_law_runs.proofs.journal.Models.{right_before, tells}
use Rattle.arj_law_runs.proofs.journal.Ties.{named_label}
use Rattle.arj_law_runs.proofs.kept.Walked.{same_number}
use Rattle.arj_law_runs.specs.journal.Book.{new_book}
use Rattle.arj_law_runs.specs.journal.Right.{AreRight}
use Rattle.arj_law_runs.specs.follow.Frames.{run_events}
use Rattle.arj_law_serial.proofs.holding.Says as saying
use Rattle.arj_model.specs.Actions.{Act, Placed, act_in, acts, is_over, top_in}
use Rattle.arj_model.specs.Calls.{committings}
use Rattle.arj_model.specs.CauseAnswers.{is_giveup}
use Rattle.arj_model.specs.CauseAnswers as answers
use Rattle.arj_model.specs.CauseSpans.{Here, commit_here, commits_so, holds_in, of_event}
use Rattle.arj_model.specs.Caused.{has_cause}
use Rattle.arj_model.specs.Past.{Past}
use Rattle.arj_model.specs.Refusals.{holds_of, is_committing, was_called}
use Rattle.std.proofs.Math.Seq.{drop-append_seam}
use Rattle.std.specs.Prelude.{drop}
use Rattle.arj_law_cause.proofs.follow.lines.Working.{Work, moved_commit_work, says_work, stores_refuse, taken_work, tolds_of_work}
use Rattle.arj_law_cause.proofs.follow.lines.Working.{vote_refuses}
use Rattle.arj_law_cause.proofs.follow.lines.Working.{works}
use Rattle.arj_law_cause.proofs.kinds.Committed.{right_lines}
use Rattle.arj_law_cause.proofs.kinds.Lines.{tested_row}
use Rattle.arj_law_cause.proofs.kinds.Nodes.{all_too, wide_all}
use Rattle.arj_law_cause.proofs.kinds.Running.{nothing_more, row_run}
use Rattle.arj_law_cause.proofs.kinds.Walks as walks
use Rattle.arj_law_cause.proofs.rows.Giving.{brings_give}
use Rattle.arj_law_cause.proofs.rows.{Holders.one_found, Holders.one_passes, Pends.item_there}
use Rattle.arj_law_cause.proofs.waits.commits.Serving.{AreStill, IsQuiet, is_of_part, quiet_plain, restart_still, tick_still}
use Rattle.arj_law_cause.proofs.waits.commits.Under.{front_stays}
use Rattle.arj_law_cause.proofs.waits.waiting.Acting as acting
use Rattle.arj_law_cause.proofs.waits.waiting.Lists.{any_in}
use Rattle.arj_law_cause.proofs.waits.waiting.Waiting.{commit_is}
use Rattle.arj_law_cause.specs.kinds.Kinds.{is_lost_commit}
use Rattle.arj_law_cause.specs.kinds.Rows.{RowHolds}

-- ---- commits by the journal

-- a commit that is under way has its call
pub commit_so : (h : Here) (l : List ℕ) → AreRight new_book h.lines → is_committing h.lines l ≡ true → commits_so h l (λ a c. true) ≡ true
commit_so h l right is = by (act_in (acts h.lines) l) refl is
  where
    by : (o : Option Act) → act_in (acts h.lines) l ≡ o →
        holds_of (λ a. was_called (committings h.lines) a.id && not (is_over h.lines a)) o ≡ true →
        holds_of (λ a. holds_in (λ c. true) (commit_here h l)) o ≡ true
    by None none under = absurd (cc under)
    by (Some a) named under =
        let called = (and_parts (was_called (committings h.lines) a.id) (not (is_over h.lines a)) under).0 in
        let m = one_passes (λ (z : Placed (List Act)). holds_of (λ top. top.id == a.id) (top_in z.it)) (committings h.lines) called in
        (λ i. holds_in (λ c. true) (if is i then option_map (λ (z : Placed (List Act)). z.at)
        (find (λ (z : Placed (List Act)). holds_of (λ top. bytes_eq top.label l) (top_in z.it)) (committings h.lines)) else None))
        ∙ some (find (λ (z : Placed (List Act)). holds_of (λ top. bytes_eq top.label l) (top_in z.it)) (committings h.lines))
        (one_found (λ (z : Placed (List Act)). holds_of (λ top. bytes_eq top.label l) (top_in z.it)) (committings h.lines)
        (any_in (λ (z : Placed (List Act)). holds_of (λ top. bytes_eq top.label l) (top_in z.it)) (committings h.lines) m.0 m.1
        (at_top m.0 m.1 (top_in (let z = m.0 in z.it)) refl m.2)))
      where
        some : (o : Option (Placed (List Act))) → holds_in (λ c. true) o ≡ true →
            holds_in (λ c. true) (option_map (λ (z : Placed (List Act)). z.at) o) ≡ true
        some None none = absurd (cc none)
        some (Some z) there = refl

        there : In a (acts h.lines)
        there = named_in (acts h.lines) l a named

        at_top : (z : Placed (List Act)) → In z (committings h.lines) → (t : Option Act) → top_in z.it ≡ t →
            holds_of (λ top. top.id == a.id) t ≡ true → holds_of (λ top. bytes_eq top.label l) t ≡ true
        at_top z i None top same = absurd (cc same)
        at_top z i (Some t) top same =
            let t_there : In t (acts h.lines) = item_there [] 0 h.lines z i t top in
            let uids : uid_eq t.uid a.uid ≡ true = sym (tells h.lines right a there t t_there) ∙ same in
            let one : t ≡ a = one_act (acts h.lines) (let s = its_sound h.lines right in s.distinct) t a t_there there (uid_is t.uid a.uid uids) in
            (bytes_eq-Decides (let x : Act = t in x.label) l).1 (ap (λ (x : Act). x.label) one ∙ named_label (acts h.lines) l a named)

-- ---- lines

-- the script gives up this action, a line of the event says that it gave up the node, and its commit is under way
abbrev passes : Here → Body → Bool
passes h (body.Aborted l (cause.Lost n)) =
    (answers.gives_up (name l) h.event && list_any (λ line. is_giveup (name l) n line.body) (of_event h)) && is_committing h.lines (name l)
passes h b = true

quiet : (b : Body) → is_quiet_line b ≡ true → is_lost_commit b ≡ false
quiet (body.Aborted l c) is = absurd (cc is)
quiet b is = refl

no_halt : (k : ℕ) → is_lost_commit (body.Halted k) ≡ false
no_halt k = refl

abbrev is_other : Body → Bool
is_other b = not (is_lost_commit b)

abbrev Others : List Effect → Type 0
Others es = saying.All is_other es

others_both : (es fs : List Effect) → Others es → Others fs → Others (es ++ fs)
others_both es fs a b = all_both (saying.says is_other) es fs a b

work_other : (b : Body) → works b ≡ true → is_other b ≡ true
work_other (body.Aborted l (cause.Lost n)) is = absurd (cc is)
work_other b is = refl

works_other : (es : List Effect) → Work es → Others es
works_other es all = all_too _ (saying.says is_other) one es all
  where
    one : (x : Effect) → says_work x ≡ true → saying.says is_other x ≡ true
    one (Say b) is = work_other b is
    one (Send to m) is = refl
    one (Do w) is = refl

part_other : (b : Body) → is_of_part b ≡ true → is_other b ≡ true
part_other (body.Aborted l c) is = absurd (cc is)
part_other b is = refl

still_other : (es : List Effect) → AreStill (IsQuiet is_other) es → Others es
still_other [] all = refl
still_other (Say b ∷ es) all = λ i. all.0 i && still_other es all.1 i
still_other (Send to m ∷ es) all = still_other es all.1
still_other (Do w ∷ es) all = still_other es all.1

says_other : (u : Uid) (f : Label → Body) (c : Coord) → ((l : Label) → is_other (f l) ≡ true) → Others (says u f c)
says_other u f c its = by (doing_of u c)
  where
    by : (o : Option Doing) → Others (say_for f o)
    by None = refl
    by (Some d) = λ i. its d.label i && true

gaveup_other : (u : Uid) (ns : List ℕ) (c : Coord) → Others (gaveup_lines u ns c)
gaveup_other u [] c = refl
gaveup_other u (n ∷ ns) c = others_both (says u (λ l. body.GaveUp l n) c) (gaveup_lines u ns c) (says_other u (λ l. body.GaveUp l n) c (λ l. refl))
    (gaveup_other u ns c)

ends_other : (u : Uid) (e : End) (f : Label → Body) (intents : List (Uid × Intent)) (c : Coord) → ((l : Label) → is_other (f l) ≡ true) →
    Others (ends_with u e f intents c).outs
ends_other u e f intents c its = others_both (says u f c) (tolds_of intents (ended u e c) u) (says_other u f c its)
    (works_other (tolds_of intents (ended u e c) u) (tolds_of_work intents (ended u e c) u))

aborted_other : (us : List Uid) (c : Coord) → Others (all_aborted us c).outs
aborted_other [] c = refl
aborted_other (u ∷ us) c = others_both (says u (λ l. body.Aborted l cause.Asked) c) (all_aborted us (ended u ending.Abort c)).outs
    (says_other u (λ l. body.Aborted l cause.Asked) c (λ l. refl)) (aborted_other us (ended u ending.Abort c))

tolds_other : (us : List Uid) (intents : List (Uid × Intent)) (c : Coord) → Others (flat_map (tolds_of intents c) us)
tolds_other [] intents c = refl
tolds_other (u ∷ us) intents c = others_both (tolds_of intents c u) (flat_map (tolds_of intents c) us)
    (works_other (tolds_of intents c u) (tolds_of_work intents c u)) (tolds_other us intents c)

-- ---- what is asked of an action

commit_other : (b : Branch) (intents : List (Uid × Intent)) (c : Coord) → Others (commit_action b intents c).outs
commit_other b intents c = by b.doomed
  where
    u : Uid
    u = actor b.path

    top : Others (commit_top b.path intents c).outs
    top = let p : Plan = plan_for b.path (last_req (doing_of (actor b.path) c)) (root_at (root_of b.path) c) c in
        others_both (says u body.Committing c) (moved_commit u (commit.start p) intents c).outs (says_other u body.Committing c (λ l. refl))
        (works_other (moved_commit u (commit.start p) intents c).outs
        (moved_commit_work u (commit.start p) intents c (vote_refuses (servers_of p) p)))

    kinds : (k : Kind) → Others (commit_open b intents c k).outs
    kinds kind.Nested = ends_other u ending.Commit body.Committed intents c (λ l. refl)
    kinds kind.Serial = ends_other u ending.Commit body.Ended intents c (λ l. refl)
    kinds kind.Top = top
    kinds kind.Independent = top
    kinds kind.Constituent = top

    by : (x : Bool) → Others (cond {A = Did Coord} x (aborts_with u cause.Doomed intents c) (commit_open b intents c b.kind)).outs
    by true = ends_other u ending.Abort (λ l. body.Aborted l cause.Doomed) intents c (λ l. refl)
    by false = kinds b.kind

abort_other : (u : Uid) (intents : List (Uid × Intent)) (c : Coord) → Others (abort_action u intents c).outs
abort_other u intents c =
    let us = open_below u c.tree ++ u ∷ [] in
    let t = all_aborted us c in
    others_both t.outs (flat_map (tolds_of intents t.part) us) (aborted_other us c) (tolds_other us intents t.part)

-- of an input that gives nothing up
acts_other : (i : Input) (intents : List (Uid × Intent)) (c : Coord) → ((l : Label) → i ≡ input.GiveUp l → ⊥) → Others (does i intents c).outs
acts_other (input.Call l x o) intents c other = by (branch_named l c)
  where
    by : (f : Option Branch) → Others (on_branch (λ b. call b.path x o c) c f).outs
    by None = refl
    by (Some b) = refl
acts_other (input.Include l x n) intents c other = by (branch_named l c)
  where
    by : (f : Option Branch) → Others (on_branch (λ b. include b.path x n c) c f).outs
    by None = refl
    by (Some b) = refl
acts_other (input.Commit l) intents c other = by (branch_named l c)
  where
    by : (f : Option Branch) → Others (on_branch (λ b. commit_action b intents c) c f).outs
    by None = refl
    by (Some b) = commit_other b intents c
acts_other (input.Abort l) intents c other = by (branch_named l c)
  where
    by : (f : Option Branch) → Others (on_branch (λ b. abort_action (actor b.path) intents c) c f).outs
    by None = refl
    by (Some b) = abort_other (actor b.path) intents c
acts_other (input.GiveUp l) intents c other = absurd (other l refl)
acts_other (input.Begin l how p) intents c other = refl
acts_other (input.Frame f from m) intents c other = refl
acts_other input.Tick intents c other = refl
acts_other input.Restart intents c other = refl
acts_other input.Crash intents c other = refl
acts_other (input.Show x) intents c other = refl

-- a call or an include that is given up
call_given : (u : Uid) (s : Steps) (intents : List (Uid × Intent)) (c : Coord) → Others (gives_up u intents c (Calling s)).outs
call_given u s intents c = others_both (gaveup_lines u (next_node s ∷ []) c) (give_up_call s c).outs (gaveup_other u (next_node s ∷ []) c)
    (step (calls.given_up s.at) (on_root (root_of s.path) (root_lost s (calls.given_up s.at)) c))
  where
    line : (x : ℕ) (g : Goal) (e : CallEnd) (l : Label) → is_other (end_line x g e l) ≡ true
    line x (Run o) (Answered a) l = refl
    line x (calls.Include n) (Answered a) l = refl
    line x g (Included s) l = refl
    line x g (Conflict h m n) l = refl
    line x g (Changed n w) l = refl
    line x g (Lost n sent) l = refl

    step : (t : CallStep) (z : Coord) → Others (step_call s t z).outs
    step (On at) z = refl
    step (Ended e) z = says_other (actor s.path) (end_line s.x s.goal e) z (line s.x s.goal e)

-- ---- an event

module _ (hd : Header) (st : Start) (q : Past) (e : Event) where
  abbrev Inside : Moment → Type 0
  Inside = walks.Inside passes hd is_lost_commit quiet no_halt st q e

  abbrev Well : List Effect → List Line → Type 0
  Well es ls = walks.Well passes hd is_lost_commit quiet no_halt st q e es ls

  abbrev at : List Line → Here
  at ls = walks.here_behind passes hd is_lost_commit quiet no_halt st q e ls

  others_well : (es : List Effect) (ls : List Line) → Others es → Well es ls
  others_well es ls all = walks.each_well passes hd is_lost_commit quiet no_halt st q e is_other (λ ms b is. λ i. is i || passes (at ms) b) es ls all

  module _ (k : ℕ) (d : Disk) (t : Parts) (M : Moment) (known : Wide KnowsAll (up k d t M)) (h : Inside M) where
    abbrev S : Seen
    S = let N = up k d t M in seen.with_sent known.0 N.seen

    here : (let N = up k d t M in N.seen.nodes k) ≡ Some (record { number = k; disk = d; live = Some t })
    here = λ i. if same_number k i then Some (record { number = k; disk = d; live = Some t }) else M.seen.nodes k

    -- behind the line that gives up the node the commit is lost
    lost_well : (l : Label) → e ≡ event.GiveUp l → (u : Uid) (x : Doing) (m : Machine) → doing_of u t.coord ≡ Some x →
        x.now ≡ Committing m → name x.label ≡ name l → (n : ℕ) (rest : List Effect) → Others rest →
        Well (Say (body.GaveUp x.label n) ∷ Say (body.Aborted x.label (cause.Lost n)) ∷ rest) M.seen.lines
    lost_well l is u x m mine now named n rest all = (
      refl,
      (
        (λ i. (gives i && gave i) && under i),
        others_well rest ((M.seen.lines ++ numbered (q.count + 1) (body.GaveUp x.label n ∷ [])) ++ numbered (q.count + 1)
            (body.Aborted x.label (cause.Lost n) ∷ [])) all,
      ),
    )
      where
        ls : List Line
        ls = M.seen.lines ++ numbered (q.count + 1) (body.GaveUp x.label n ∷ [])

        same_name : bytes_eq (name x.label) (name x.label) ≡ true
        same_name = (bytes_eq-Decides (name x.label) (name x.label)).1 refl

        gives : answers.gives_up (name x.label) e ≡ true
        gives = ap (answers.gives_up (name x.label)) is ∙ ap (λ z. bytes_eq z (name x.label)) (sym named) ∙ same_name

        lines_of : drop (length q.lines) (M.seen.lines ++ numbered (q.count + 1) (body.GaveUp x.label n ∷ []))
            ≡ numbered (q.count + 1) h.wrote ++ numbered (q.count + 1) (body.GaveUp x.label n ∷ [])
        lines_of = ap (λ zs. drop (length q.lines) (zs ++ numbered (q.count + 1) (body.GaveUp x.label n ∷ []))) h.lines
            ∙ ap (drop (length q.lines)) (append_assoc q.lines (numbered (q.count + 1) h.wrote) (numbered (q.count + 1) (body.GaveUp x.label n ∷ [])))
            ∙ drop-append_seam q.lines (numbered (q.count + 1) h.wrote ++ numbered (q.count + 1) (body.GaveUp x.label n ∷ []))

        last : (xs : List Line) → list_any (λ line. is_giveup (name x.label) n line.body) (xs ++ numbered (q.count + 1)
            (body.GaveUp x.label n ∷ [])) ≡ true
        last [] = λ i. (same_name i && same_number n i) || false
        last (y ∷ ys) = by (is_giveup (name x.label) n y.body) (last ys)
          where
            by : (b : Bool) → list_any (λ line. is_giveup (name x.label) n line.body) (ys ++ numbered (q.count + 1)
                (body.GaveUp x.label n ∷ [])) ≡ true → (b || list_any (λ line. is_giveup (name x.label) n line.body) (ys ++
                numbered (q.count + 1) (body.GaveUp x.label n ∷ []))) ≡ true
            by true ih = refl
            by false ih = ih

        gave : list_any (λ line. is_giveup (name x.label) n line.body) (drop (length q.lines) (M.seen.lines ++ numbered (q.count + 1)
            (body.GaveUp x.label n ∷ []))) ≡ true
        gave = ap (list_any (λ line. is_giveup (name x.label) n line.body)) lines_of ∙ last (numbered (q.count + 1) h.wrote)

        under : is_committing (M.seen.lines ++ numbered (q.count + 1) (body.GaveUp x.label n ∷ [])) (name x.label) ≡ true
        under = front_stays (q.count + 1) (body.GaveUp x.label n) refl M.seen.lines (name x.label)
            ∙ commit_is (seen.with_sent known.0 (let N = up k d t M in N.seen)) known.2 k (record { number = k; disk = d; live = Some t }) t here refl
            u x mine (acting.stands (seen.with_sent known.0 (let N = up k d t M in N.seen)) known.2 k
            (record { number = k; disk = d; live = Some t }) t here refl u x mine)
            ∙ ap is_committing_now now

    give_well : (l : Label) → e ≡ event.GiveUp l → Well (does (input.GiveUp l) d.intents t.coord).outs M.seen.lines
    give_well l is = by (branch_named l t.coord) refl
      where
        by : (f : Option Branch) → branch_named l t.coord ≡ f →
            Well (on_branch (λ b. give_up (actor b.path) d.intents t.coord) t.coord f).outs M.seen.lines
        by None named = tt
        by (Some b) named = subst (λ o. Well (give_up_doing (actor b.path) d.intents t.coord o).outs M.seen.lines) (sym its) (now nm.doing.now refl)
          where
            nm : IsNamed t.coord l b
            nm = let up_there = acting.up (seen.with_sent known.0 (let N = up k d t M in N.seen)) known.2 k
                (record { number = k; disk = d; live = Some t }) t here refl in named_at t.coord (let x = up_there.tops in x.names) l b named

            act : actor b.path ≡ nm.act
            act = let coord = acting.coord (seen.with_sent known.0 (let N = up k d t M in N.seen)) known.2 k
                (record { number = k; disk = d; live = Some t }) t here refl in coord.tree.lists.places nm.act b nm.found

            its : doing_of (actor b.path) t.coord ≡ Some nm.doing
            its = ap (λ z. doing_of z t.coord) act ∙ nm.does

            tail : (n : ℕ) (p : Plan) → Others (tolds_of d.intents (ended (actor b.path) ending.Abort t.coord) (actor b.path))
            tail n p = works_other (tolds_of d.intents (ended (actor b.path) ending.Abort t.coord) (actor b.path))
                (tolds_of_work d.intents (ended (actor b.path) ending.Abort t.coord) (actor b.path))

            aborts : (m : Machine) (n : ℕ) (p : Plan) → nm.doing.now ≡ Committing m →
                Well (gaveup_lines (actor b.path) (n ∷ []) t.coord
                ++ (aborts_with (actor b.path) (cause.Lost n) d.intents t.coord).outs) M.seen.lines
            aborts m n p at_commit = subst (λ o. Well ((say_for (λ z. body.GaveUp z n) o ++ [])
                ++ (say_for (λ z. body.Aborted z (cause.Lost n)) o ++ tolds_of d.intents (ended (actor b.path) ending.Abort t.coord) (actor b.path)))
                M.seen.lines) (sym its)
                (lost_well l is (actor b.path) nm.doing m its at_commit nm.name_is n
                (tolds_of d.intents (ended (actor b.path) ending.Abort t.coord) (actor b.path)) (tail n p))

            now : (x : Now) → nm.doing.now ≡ x → Well (gives_up (actor b.path) d.intents t.coord x).outs M.seen.lines
            now Idle at_it = tt
            now (Calling s) at_it = others_well (gives_up (actor b.path) d.intents t.coord (Calling s)).outs M.seen.lines
                (call_given (actor b.path) s d.intents t.coord)
            now (Committing (Voting p left)) at_it = aborts (Voting p left) (commit.first_of left) p at_it
            now (Committing (Confirming p)) at_it = aborts (Confirming p) 1 p at_it
            now (Committing (Preparing p left)) at_it = others_well
                (gives_up (actor b.path) d.intents t.coord (Committing (Preparing p left))).outs M.seen.lines
                (others_both (gaveup_lines (actor b.path) left t.coord)
                (moved_commit (actor b.path) (commit.given_up (Preparing p left)) d.intents t.coord).outs (gaveup_other (actor b.path) left t.coord)
                (works_other (moved_commit (actor b.path) (commit.given_up (Preparing p left)) d.intents t.coord).outs
                (moved_commit_work (actor b.path) (commit.given_up (Preparing p left)) d.intents t.coord
                (stores_refuse [] (commit.marks_stores left p)))))

  well : walks.SaysWell passes hd is_lost_commit quiet no_halt st q e (Wide KnowsAll)
  well = record {
    message = λ k d t v from m outs M known h there meant may is. others_well outs M.seen.lines
        (works_other outs (subst (λ x. Work (outs_of x)) ((λ i. cond (meant i) (handle k d t from m) (Void [])) ∙ is)
        (taken_work k d t from m)));
    act = λ k d t i M is brings fresh asks free known h. by i is k d t M brings known h;
    begin = λ k d t l how parent M brings fresh new gives none known h.
        others_well (begin_action l how parent (parent_of parent t.coord) t.coord).outs M.seen.lines refl;
    tick = λ k d t M known h. others_well (tick_outs (record { number = k; disk = d; live = Some t }) t) M.seen.lines
        (still_other (tick_outs (record { number = k; disk = d; live = Some t }) t) (tick_still (IsQuiet is_other) (quiet_plain is_other part_other) k d t));
    restart = λ k d M its fresh known h. others_well (restart_outs hd k (d.inc + 1) d) M.seen.lines
        (still_other (restart_outs hd k (d.inc + 1) d) (restart_still (IsQuiet is_other) (quiet_plain is_other part_other) hd k (d.inc + 1) d));
  }
    where
      by : (i : Input) → is_act i ≡ true → (k : ℕ) (d : Disk) (t : Parts) (M : Moment) →
          Brings M.past.event i → Wide KnowsAll (up k d t M) → Inside M →
          Well (does i d.intents t.coord).outs M.seen.lines
      by (input.GiveUp l) is k d t M brings known h = give_well k d t M known h l (sym h.event ∙ brings_give M.past.event l brings)
      by i is k d t M brings known h = others_well (does i d.intents t.coord).outs M.seen.lines
          (acts_other i d.intents t.coord (λ l same. absurd (cc same)))

-- ---- runs

-- what is known of a line by the lines before it
abbrev IsRightLine : List Line → Body → Type 0
IsRightLine before b = AreRight new_book before

to_cause : (h : Here) (b : Body) → is_lost_commit b ≡ true → IsRightLine h.lines b → passes h b ≡ true → has_cause h b ≡ true
to_cause h (body.Aborted l (cause.Lost n)) its right is =
    let p = and_parts (answers.gives_up (name l) h.event && list_any (λ line. is_giveup (name l) n line.body) (of_event h))
    (is_committing h.lines (name l)) is in
    let o = and_parts (answers.gives_up (name l) h.event) (list_any (λ line. is_giveup (name l) n line.body) (of_event h)) p.0 in
    λ i. o.0 i && (o.1 i && commit_so h (name l) right p.1 i)
to_cause h b its right is = absurd (cc its)

pub lost_commit_row : RowHolds is_lost_commit
lost_commit_row hd r form =
    let lines = journal_by hd r in
    let right = right_lines hd r in
    let keeps = wide_all hd KnowsAll (halts_keep hd) in
    tested_row IsRightLine is_lost_commit passes has_cause to_cause lines (λ before line behind is.
    (right_before new_book before line behind (subst (AreRight new_book) is right)).0)
    hd r.start (run_events hd r)
    (row_run passes is_lost_commit quiet no_halt hd (Wide KnowsAll) keeps (nothing_more hd (Wide KnowsAll) keeps.steps)
    (λ st q e w between lines count. well hd st q e) r form)
