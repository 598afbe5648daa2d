-- In every run each call is answered by its own operation: kept by all that nodes do.
use Rattle.arj_law_parts.proofs.Words
use Words.{◌≡◌, ℕ, true, cond, List, [], ◌∷◌, Option, Some, None, refl, subst, AllByRecursion, list_all, and_parts}
use Words.{Body, Header, Line, Disk, Effect, Parts, Node, with_coord, Input, acts as does, refusal_up, again_all}
use Words.{begin_action, branch_named, call, include, on_branch, Branch, parent_of, parts_in, restart_outs, tick_outs, is_serial, Seen}
use Words.{◌+◌, ◌∙◌, ap, answer_text, Answer, CallEnd, Post, Steps, Answered, Lost, Uid}
use Words.body
use Words.frame
use Words.input
use Rattle.arj_law_runs.proofs.Terms.{keeps_asked, IsAtStarts, Keeps, paths_of}
use Rattle.arj_law_runs.proofs.calls.Given.{keeps_given, kept_both}
use Rattle.arj_law_runs.proofs.follow.Halts.{KnowsAll, halts_keep}
use Rattle.arj_law_lock_view.proofs.Terms.{same_number}
use Rattle.arj_law_lock_view.proofs.asking.Handling as Handling
use Rattle.arj_law_lock_view.proofs.asking.Handling.{goes_so}
use Rattle.arj_law_lock_view.proofs.asking.Dumb.{restart_dumb, tick_dumb}
use Rattle.arj_law_lock_view.proofs.asking.Turning.{acts_turn}
use Rattle.arj_law_lock_view.proofs.moments.Answers.{Known, answers_step, first_made, known_keep, made_closes, made_opens}
use Rattle.arj_law_lock_view.specs.asking.Turns.{IsGivenUp, IsHeardIn, TurnsSo, is_else}
use Rattle.arj_law_lock_view.specs.moments.Made.{AnswersAreMade}
use Rattle.arj_law_parts.proofs.moves.{Events.run_with, Happens.Wide, Happens.wide_kept, Together.with_both}
use Rattle.arj_law_parts.specs.moves.Keeps.{is_act}
use Rattle.arj_law_parts.specs.moves.Moments.{Moment, asks_now, given, up}
use Rattle.arj_law_parts.specs.moves.Seen as seen
use Rattle.arj_law_parts.specs.moves.With.{ArePlain, KeepsAll, KeepsSteps, KeepsWith, UpWith, WalksWith, is_plain_line}
use Rattle.arj_law_serial.proofs.Terms.{AreSo, kind_of}
use Rattle.arj_law_serial.proofs.joint.FormRuns.{kept_forms}
use Rattle.arj_promise.specs.Runs.{HeaderFits, world_by}
use Rattle.arj_law_cause.proofs.waits.waiting.Acting as acting
use Rattle.arj_law_cause.proofs.operations.Serving.{Facts, tells_gives}
use Rattle.arj_law_cause.proofs.operations.Taking.{AnswersOf, LinesAnswer, dumb_walk, heard_gives, said_it, turn_walk}
use Rattle.arj_law_cause.specs.operations.Runs.{AnswersIt, RunsAnswerOperations}
use Rattle.arj_law_cause.specs.operations.Says.{gives_so}

-- ---- what is known

-- of requests and of the object's states, and whose actions have ended
abbrev pub Plain : Header → ℕ → Seen → Type 0
Plain hd x S = Facts hd x S × KnowsAll S

plain_keep : (hd : Header) (x : ℕ) → HeaderFits hd → Keeps hd (Plain hd x)
plain_keep hd x form = kept_both hd (Facts hd x) KnowsAll
    (kept_both hd Known (AreSo (kind_of hd x)) (known_keep hd) (keeps_given hd Known (AreSo (kind_of hd x)) (kept_forms hd x form)))
    (keeps_given hd (Facts hd x) KnowsAll (halts_keep hd))

-- beside answers
abbrev pub Made : Header → ℕ → Moment → Type 0
Made hd x M = Wide (Plain hd x) M × AnswersAreMade (gives_so x) M

made_keep : (hd : Header) (x : ℕ) → HeaderFits hd → KeepsAll hd (Made hd x)
made_keep hd x form =
    let wide : KeepsWith hd (IsAtStarts hd (Plain hd x)) (Wide (Plain hd x)) = wide_kept hd (IsAtStarts hd (Plain hd x)) (Plain hd x)
    (keeps_asked hd (Plain hd x) (plain_keep hd x form)) in
    record {
      opens = λ e M first number h. (wide.opens e M first number h.0, made_opens (gives_so x) e M first number h.1);
      closes = λ bodies M number lines h. (wide.closes bodies M number lines h.0, made_closes (gives_so x) bodies M number lines h.1);
      steps = answers_step hd (gives_so x) (Wide (Plain hd x)) wide.steps (λ M h. (h.0, h.1, h.2.0.0))
          (λ k d t v from m h a r front M known. tells_gives hd x k d t v from m h a r front M (known.0, known.1, known.2.0));
      first = λ st formed. (([], (λ p i. i), wide.first st formed), first_made hd (gives_so x) st formed);
    }

-- ---- lines

plain_one : (x : ℕ) (posts : List Post) (b : Body) → is_plain_line b ≡ true → AnswersOf x posts b
plain_one x posts (body.Ok l y o a) is = absurd (cc is)
plain_one x posts b is = tt

plain_all : (x : ℕ) (posts : List Post) (bs : List Body) → ArePlain bs → AllByRecursion (AnswersOf x posts) bs
plain_all x posts [] plain = tt
plain_all x posts (b ∷ bs) plain = let q = and_parts (is_plain_line b) (list_all is_plain_line bs) plain in
    (plain_one x posts b q.0, plain_all x posts bs q.1)

abbrev pub All : Header → ℕ → Moment → Type 0
All hd x M = Made hd x M × LinesAnswer x M

-- one node, up with these parts
module _ (hd : Header) (x : ℕ) (k : ℕ) (d : Disk) (t : Parts) (M : Moment) (h : Made hd x (up k d t M)) where
  abbrev S : Seen
  S = let N = up k d t M in seen.with_sent h.0.0 N.seen

  abbrev mine : Node
  mine = record { number = k; disk = d; live = Some t }

  here : (let N = up k d t M in N.seen.nodes k) ≡ Some (record { number = k; disk = d; live = Some t })
  here = λ i. cond (same_number k i) (Some (record { number = k; disk = d; live = Some t })) (M.seen.nodes k)

  -- what is given up has no answer
  lost_gives : (u : Uid) (s : Steps) (g : CallEnd) → IsGivenUp u s g → (a : Answer) → g ≡ Answered a → ⊥
  lost_gives u s (Lost n sent) why a is = cc is
  lost_gives u s g why a is = absurd why

  turns : (i : Input) → is_else i ≡ true → refusal_up hd i t.coord ≡ None → TurnsSo IsGivenUp t.coord (does i d.intents t.coord).outs
      (does i d.intents t.coord).part
  turns i is free = acts_turn t.coord h.0.2.1.0.0.0 (paths_of h.0.2.1.0.0.0) (acting.tree S h.0.2.1 k mine t here refl)
      (acting.coord S h.0.2.1 k mine t here refl) hd i d.intents is free

  else_walk : (i : Input) → is_else i ≡ true → refusal_up hd i t.coord ≡ None → LinesAnswer x M →
      (let did = does i d.intents t.coord in
      WalksWith (LinesAnswer x) k did.outs (UpWith (LinesAnswer x) k (with_coord t did.part)) d M)
  else_walk i is free lines = let did = does i d.intents t.coord in
      turn_walk x k (with_coord t did.part) IsGivenUp t.coord did.part did.outs d M
      (λ u z s g does_it is_so why o a goal ends. absurd (lost_gives u s g why a ends)) (turns i is free) lines

  act_walk : (i : Input) → is_act i ≡ true → refusal_up hd i t.coord ≡ None → LinesAnswer x M → (let did = does i d.intents t.coord in
      WalksWith (LinesAnswer x) k did.outs (UpWith (LinesAnswer x) k (with_coord t did.part)) d (asks_now i t.coord M))
  act_walk (input.Call l y o) is free lines = by (branch_named l t.coord)
    where
      by : (f : Option Branch) → (let did = on_branch (λ b. call b.path y o t.coord) t.coord f in
          WalksWith (LinesAnswer x) k did.outs (UpWith (LinesAnswer x) k (with_coord t did.part)) d (asks_now (input.Call l y o) t.coord M))
      by None = lines
      by (Some b) = let did = call b.path y o t.coord in
          dumb_walk x k (with_coord t did.part) did.outs d (asks_now (input.Call l y o) t.coord M) (tt, tt) lines
  act_walk (input.Include l y n) is free lines = by (branch_named l t.coord)
    where
      by : (f : Option Branch) → (let did = on_branch (λ b. include b.path y n t.coord) t.coord f in
          WalksWith (LinesAnswer x) k did.outs (UpWith (LinesAnswer x) k (with_coord t did.part)) d
          (asks_now (input.Include l y n) t.coord M))
      by None = lines
      by (Some b) = let did = include b.path y n t.coord in
          dumb_walk x k (with_coord t did.part) did.outs d (asks_now (input.Include l y n) t.coord M) (tt, tt) lines
  act_walk (input.Commit l) is free lines = let did = does (input.Commit l) d.intents t.coord in
      turn_walk x k (with_coord t did.part) IsGivenUp t.coord did.part did.outs d (asks_now (input.Commit l) t.coord M)
      (λ u z s g does_it is_so why o a goal ends. absurd (lost_gives u s g why a ends)) (turns (input.Commit l) refl free) lines
  act_walk (input.Abort l) is free lines = else_walk (input.Abort l) refl free lines
  act_walk (input.GiveUp l) is free lines = else_walk (input.GiveUp l) refl free lines
  act_walk i is free lines = absurd (cc is)

-- ---- every handler

all_step : (hd : Header) (x : ℕ) → HeaderFits hd → KeepsSteps hd (All hd x)
all_step hd x form = let made = made_keep hd x form in let steps = made.steps in record {
  quiet = λ bs M plain h. (steps.quiet bs M plain h.0, said_it x bs M (plain_all x M.seen.sent bs plain) h.1);
  junk = λ n M fit h. (steps.junk n M fit h.0, said_it x (body.Sent (M.past.frames + 1) 0 n frame.Junk ∷ []) M (tt, tt) h.1);
  stop = λ k d live M h. (steps.stop k d live M h.0, said_it x (body.Halted k ∷ []) M (tt, tt) h.1);
  message = λ k d t v from m outs M h there meant may is.
      let goes = subst (Handling.GoesSo (IsHeardIn from m) k d t from) is (goes_so (IsHeardIn from m) k d t from h.0.0.2.1.0.0.0
      (paths_of h.0.0.2.1.0.0.0)
      (acting.tree (S hd x k d t M h.0) h.0.0.2.1 k (mine hd x k d t M h.0) t (here hd x k d t M h.0) refl)
      (acting.coord (S hd x k d t M h.0) h.0.0.2.1 k (mine hd x k d t M h.0) t (here hd x k d t M h.0) refl)
      (acting.numbered (S hd x k d t M h.0) h.0.0.2.1 k (mine hd x k d t M h.0) t (here hd x k d t M h.0) refl) m (λ u s g w. w)) in
      both k outs v d M (steps.message k d t v from m outs M h.0 there meant may is)
      (turn_walk x k v (IsHeardIn from m) t.coord v.coord outs d M (heard_gives hd x k d t from m M
      (h.0.0.0, h.0.0.1, h.0.0.2.0) h.0.1
      (acting.numbered (S hd x k d t M h.0) h.0.0.2.1 k (mine hd x k d t M h.0) t (here hd x k d t M h.0) refl) there) goes.0 h.1);
  act = λ k d t i M is brings first asks free h. let did = does i d.intents t.coord in
      both k did.outs (with_coord t did.part) d (asks_now i t.coord M) (steps.act k d t i M is brings first asks free h.0)
      (act_walk hd x k d t M h.0 i is free h.1);
  begin = λ k d t l how parent M brings first new gives none h.
      let did = begin_action l how parent (parent_of parent t.coord) t.coord in
      both k did.outs (with_coord t did.part) d (given l (record { node = k; serial = is_serial how }) M)
      (steps.begin k d t l how parent M brings first new gives none h.0)
      (dumb_walk x k (with_coord t did.part) did.outs d (given l (record { node = k; serial = is_serial how }) M) (refl, tt) h.1);
  tick = λ k d t M h.
      let r = again_all t.coord.doings t.coord in
      let outs = tick_outs (record { number = k; disk = d; live = Some t }) t in
      both k outs (with_coord t r.part) d M (steps.tick k d t M h.0) (dumb_walk x k (with_coord t r.part) outs d M (tick_dumb k d t) h.1);
  restart = λ k d M event first h.
      both k (restart_outs hd k (d.inc + 1) d) (parts_in k (d.inc + 1) d) d M (steps.restart k d M event first h.0)
      (dumb_walk x k (parts_in k (d.inc + 1) d) (restart_outs hd k (d.inc + 1) d) d M (restart_dumb hd k (d.inc + 1) d) h.1);
}
  where
    both : (k : ℕ) (outs : List Effect) (v : Parts) (d : Disk) (M : Moment) → WalksWith (Made hd x) k outs (UpWith (Made hd x) k v) d M →
        WalksWith (LinesAnswer x) k outs (UpWith (LinesAnswer x) k v) d M → WalksWith (All hd x) k outs (UpWith (All hd x) k v) d M
    both k outs v d M a b = with_both (Made hd x) (LinesAnswer x) k outs (UpWith (Made hd x) k v) (UpWith (LinesAnswer x) k v) d M a b

pub all_keep : (hd : Header) (x : ℕ) → HeaderFits hd → KeepsAll hd (All hd x)
all_keep hd x form = let made = made_keep hd x form in record {
  opens = λ e M first number h. (made.opens e M first number h.0, h.1);
  closes = λ bodies M number lines h. (made.closes bodies M number lines h.0, h.1);
  steps = all_step hd x form;
  first = λ st formed. (made.first st formed, tt);
}

-- whatever the object
each_object : (ls : List Line) → ((x : ℕ) → (posts : List Post) × AllByRecursion (λ (line : Line). AnswersOf x posts line.body) ls) →
    AllByRecursion (λ (line : Line). AnswersIt line.body) ls
each_object [] all = tt
each_object (l ∷ ls) all = (one l.body (λ x. let a = all x in (a.0, a.1.0)), each_object ls (λ x. let a = all x in (a.0, a.1.1)))
  where
    one : (b : Body) → ((x : ℕ) → (posts : List Post) × AnswersOf x posts b) → AnswersIt b
    one (body.Ok l y o a) its = let w = its y in let q = w.1 refl in let g = q.1 in (g.0, g.1, q.2 ∙ ap answer_text g.2)
    one b its = tt

pub runs_answer : RunsAnswerOperations
runs_answer hd r form = each_object (let w = world_by hd r in w.lines)
    (λ x. let h = run_with hd (All hd x) (all_keep hd x form.header) r in ((let n = h.now in n.sent), h.now.holds.1))
