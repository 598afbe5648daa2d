-- Each answer that an event has written by then ended what waited: kept by all that nodes do.
use Rattle.arj_law_parts.proofs.Words
use Words.{◌≡◌, ◌∙◌, ◌==◌, ◌+◌, ◌++◌, ℕ, Bool, true, false, cond, if◌then◌else◌, List, [], ◌∷◌, Option, Some, None, refl, sym, ap}
use Words.{subst, append-nil, append_assoc, map-append, Body, Event, Header, Label, Uid, name, Doing, doing_of, Calling}
use Words.{Steps, CallEnd, Lost, Message, end_line, Disk, Do, Effect, Say, Send, worked, Parts, Node, with_coord, Input, acts as does}
use Words.{refusal_up}
use Words.{again_all, begin_action, branch_named, call, include, on_branch, Branch, parent_of, parts_in, restart_outs, tick_outs}
use Words.{frame_kind, is_serial, is_waiting_now, numbered, Post, Seen}
use Words.body
use Words.event
use Words.frame
use Words.input
use Rattle.arj_law_runs.proofs.Terms.{paths_of}
use Rattle.arj_law_lock_view.proofs.Terms.{same_number}
use Rattle.arj_law_parts.proofs.moves.{Flat.post, Together.with_both}
use Rattle.arj_law_parts.specs.moves.Keeps.{is_act}
use Rattle.arj_law_parts.specs.moves.Moments.{Asking, Moment, asks_now, at, closed, fits, framed_if, given, posted, said, sent, up}
use Rattle.arj_law_parts.specs.moves.Seen as seen
use Rattle.arj_law_parts.specs.moves.With.{Brings, IsFirst, KeepsAll, KeepsSteps, UpWith, WalksWith}
use Rattle.arj_model.specs.Past.{block}
use Rattle.arj_model.specs.Refusals.{asks_by}
use Rattle.arj_law_lock_view.proofs.asking.Handling as Handling
use Rattle.arj_law_lock_view.proofs.asking.Handling.{goes_so}
use Rattle.arj_law_lock_view.proofs.asking.Dumb.{restart_dumb, tick_dumb}
use Rattle.arj_law_lock_view.proofs.asking.Keeping.{plain_lines}
use Rattle.arj_law_lock_view.proofs.asking.Turning.{acts_turn}
use Rattle.arj_law_lock_view.proofs.asking.Tying.{NoReplies, giveup_dumb}
use Rattle.arj_law_lock_view.specs.asking.Asked.{IsTied, accepted_of}
use Rattle.arj_law_lock_view.specs.asking.Turns.{AreDumb, AreGiveups, EndsSo, FitsGoal, IsGivenUp, IsHeardIn, RestsSo, TurnsSo, Why}
use Rattle.arj_law_lock_view.specs.asking.Turns.{calling, is_else}
use Rattle.arj_law_cause.proofs.waits.waiting.Acting as acting
use Rattle.arj_law_cause.proofs.waits.waiting.Waiting as waiting
use Rattle.arj_law_cause.proofs.waits.waiting.Asked.{AsksNone, none_more}
use Rattle.arj_law_cause.proofs.waits.waiting.Knowing.{Core, core_keep}
use Rattle.arj_law_cause.proofs.waits.replies.Answering.{IsLeft, ends_both, ends_it, left_asked, left_on, mute_all}
use Rattle.arj_law_cause.specs.waits.replies.Ends.{EndWaits}

-- what the event under way has written, and that each answer in it ended what waited
pub record LinesFit (M : Moment) : Type 0 where
  pub more : List Body
  pub lines : M.seen.lines ≡ M.past.run.lines ++ block M.past.number more
  pub fit : EndWaits (accepted_of M.past.askings) M.past.run.lines M.past.number more

-- ---- lines

pub said_fit : (bs : List Body) (N : Moment) → EndWaits (accepted_of N.past.askings) N.seen.lines N.past.number bs → LinesFit N →
    LinesFit (said bs N)
said_fit bs N fit h = record {
  more = h.more ++ bs;
  lines = ap (λ ls. ls ++ numbered N.past.number bs) h.lines
      ∙ append_assoc N.past.run.lines (block N.past.number h.more) (block N.past.number bs)
      ∙ ap (λ ls. N.past.run.lines ++ ls) (sym (map-append (λ (b : Body). record { event = N.past.number; body = b }) h.more bs));
  fit = ends_both (accepted_of N.past.askings) N.past.run.lines N.past.number h.more bs h.fit
      (subst (λ ls. EndWaits (accepted_of N.past.askings) ls N.past.number bs) h.lines fit);
}

mute_fit : (bs : List Body) (N : Moment) → NoReplies bs → LinesFit N → LinesFit (said bs N)
mute_fit bs N all h = said_fit bs N (mute_all (accepted_of N.past.askings) N.seen.lines N.past.number bs all) h

sent_fit : (p : Post) (N : Moment) → LinesFit N → LinesFit (sent p N)
sent_fit p N h = by (p.to == p.from) (fits N)
  where
    lined : LinesFit (framed_if true p N)
    lined = let o = mute_fit (body.Sent (N.past.frames + 1) p.from p.to (frame_kind p.message) ∷ []) N (refl, tt) h in
        record { more = o.more; lines = o.lines; fit = o.fit }

    by : (self fit : Bool) → LinesFit (if self then posted p N else framed_if fit p N)
    by true fit = record { more = h.more; lines = h.lines; fit = h.fit }
    by false true = lined
    by false false = h

-- a node's memory is nothing to it
put_fit : (k : ℕ) (d : Disk) (live : Option Parts) (N : Moment) → LinesFit N → LinesFit (at k d live N)
put_fit k d live N h = record { more = h.more; lines = h.lines; fit = h.fit }

module _ (k : ℕ) (v : Parts) where
  -- effects that answer nothing
  dumb_walk : (outs : List Effect) (d : Disk) (N : Moment) → AreDumb outs → LinesFit N → WalksWith LinesFit k outs (UpWith LinesFit k v) d N
  dumb_walk [] d N all h = put_fit k d (Some v) N h
  dumb_walk (Do w ∷ es) d N all h = (
    (λ how. let o = mute_fit (body.Halted k ∷ []) N (refl, tt) h in record { more = o.more; lines = o.lines; fit = o.fit }),
    dumb_walk es (worked w d) N all.1 h,
  )
  dumb_walk (Say b ∷ es) d N all h = dumb_walk es d (said (b ∷ []) N) all.1 (mute_fit (b ∷ []) N (all.0, tt) h)
  dumb_walk (Send to m ∷ es) d N all h = dumb_walk es d (sent (post k to m) N) all.1 (sent_fit (post k to m) N h)

  -- one is answered, behind lines of what was given up
  ends_walk : (d : Doing) (s : Steps) (g : CallEnd) → FitsGoal s.goal g → (front : List Effect)
      (c : Disk) (N : Moment) → AreGiveups front → IsLeft N.past.askings N.seen.lines d s → LinesFit N →
      WalksWith LinesFit k (front ++ Say (end_line s.x s.goal g d.label) ∷ []) (UpWith LinesFit k v) c N
  ends_walk d s g fits [] c N lined left h = put_fit k c (Some v) (said (end_line s.x s.goal g d.label ∷ []) N)
      (said_fit (end_line s.x s.goal g d.label ∷ []) N (ends_it N.past.askings N.seen.lines d s left N.past.number g fits, tt) h)
  ends_walk d s g fits (Say b ∷ es) c N lined left h = ends_walk d s g fits es c (said (b ∷ []) N) lined.1
      (left_on N.past.askings N.seen.lines d s N.past.number b lined.0 left)
      (mute_fit (b ∷ []) N (giveup_dumb b lined.0, tt) h)
  ends_walk d s g fits (Send to m ∷ es) c N lined left h = absurd lined.0
  ends_walk d s g fits (Do w ∷ es) c N lined left h = absurd lined.0

-- ---- one node

-- what ends for this reason may end so
abbrev pub FitsWhy : Why → Type 0
FitsWhy W = (u : Uid) (s : Steps) (g : CallEnd) → W u s g → FitsGoal s.goal g

given_fits : FitsWhy IsGivenUp
given_fits u s (Lost n sent) why = tt
given_fits u s g why = absurd why

heard_fits : (from : ℕ) (m : Message) → FitsWhy (IsHeardIn from m)
heard_fits from m u s g (a, r, says, heard) = heard.fits

module _ (k : ℕ) (d : Disk) (t : Parts) (M : Moment) (h : Core (up k d t M)) where
  abbrev S : Seen
  S = let N = up k d t M in seen.with_sent h.0.0 N.seen

  abbrev mine : Node
  mine = record { number = k; disk = d; live = Some t }

  here : (let N = up k d t M in N.seen.nodes k) ≡ Some (record { number = k; disk = d; live = Some t })
  here = λ i. cond (same_number k i) (Some (record { number = k; disk = d; live = Some t })) (M.seen.nodes k)

  -- an action that waits
  left : (u : Uid) (x : Doing) (s : Steps) → doing_of u t.coord ≡ Some x → x.now ≡ Calling s → IsLeft M.past.askings M.seen.lines x s
  left u x s does is =
      let tied = h.1 in
      let w : IsTied M.past.askings M.seen.lines u x (Some s) = subst (IsTied M.past.askings M.seen.lines u x) (ap calling is)
      (tied.tied k mine t u x here refl does) in
      let a = w.1 in
      let f = acting.stands S h.0.2.1 k mine t here refl u x does in
      record {
        one = w.0;
        asked = a.asking.asked;
        last = a.last;
        goal = a.goal;
        opened = waiting.ended_is S h.0.2.1 k mine t here refl u x f
            ∙ acting.open_waits S h.0.2.1 k mine t here refl u x does (ap is_waiting_now is) f.branch f.found;
      }

  -- its coordinator goes on, where what was asked of each action is as it was
  turn_walk : (W : Why) → FitsWhy W → (v : Parts) (outs : List Effect) (N : Moment) → N.seen ≡ M.seen →
      ((l : List ℕ) → asks_by (accepted_of N.past.askings) l ≡ asks_by (accepted_of M.past.askings) l) → TurnsSo W t.coord outs v.coord →
      LinesFit N →
      WalksWith LinesFit k outs (UpWith LinesFit k v) d N
  turn_walk W fits v outs N same asked (RestsSo dumb came) fit = dumb_walk k v outs d N dumb fit
  turn_walk W fits v outs N same asked (EndsSo u x s g front found is lined why are after) fit =
      subst (λ es. WalksWith LinesFit k es (UpWith LinesFit k v) d N) (sym are)
      (ends_walk k v x s g (fits u s g why) front d N lined
      (subst (λ (z : Seen). IsLeft N.past.askings z.lines x s) (sym same)
      (left_asked M.past.askings N.past.askings M.seen.lines x s (asked (name x.label)) (left u x s found is))) fit)

-- ---- inputs

-- nothing was written yet
first_fit : (M : Moment) (A : List Asking) → IsFirst M → LinesFit (record M { past = record M.past { askings = A } })
first_fit M A first = record { more = []; lines = sym first ∙ sym (append-nil M.past.run.lines); fit = tt }

commit_asks : (e : Event) (l : Label) → Brings e (input.Commit l) → AsksNone e
commit_asks (event.Call m x o) l brings q = absurd (cc brings)
commit_asks (event.Include m x n) l brings q = absurd (cc brings)
commit_asks e l brings q = refl

module _ (hd : Header) (k : ℕ) (d : Disk) (t : Parts) (M : Moment) (h : Core (up k d t M)) (first : IsFirst M) where
  turns : (i : Input) → is_else i ≡ true → refusal_up hd i t.coord ≡ None → TurnsSo IsGivenUp t.coord (does i d.intents t.coord).outs
      (does i d.intents t.coord).part
  turns i is free = acts_turn t.coord h.0.2.1.0.0.0 (paths_of h.0.2.1.0.0.0)
      (acting.tree (S k d t M h) h.0.2.1 k (mine k d t M h) t (here k d t M h) refl)
      (acting.coord (S k d t M h) h.0.2.1 k (mine k d t M h) t (here k d t M h) refl) hd i d.intents is free

  act_walk : (i : Input) → is_act i ≡ true → Brings M.past.event i → refusal_up hd i t.coord ≡ None →
      (let did = does i d.intents t.coord in
      WalksWith LinesFit k did.outs (UpWith LinesFit k (with_coord t did.part)) d (asks_now i t.coord M))
  act_walk (input.Call l x o) is brings free = by (branch_named l t.coord)
    where
      by : (f : Option Branch) → (let did = on_branch (λ b. call b.path x o t.coord) t.coord f in
          WalksWith LinesFit k did.outs (UpWith LinesFit k (with_coord t did.part)) d (asks_now (input.Call l x o) t.coord M))
      by None = dumb_walk k t [] d _ tt (first_fit M _ first)
      by (Some b) = let did = call b.path x o t.coord in
          dumb_walk k (with_coord t did.part) did.outs d (asks_now (input.Call l x o) t.coord M) (tt, tt) (first_fit M _ first)
  act_walk (input.Include l x n) is brings free = by (branch_named l t.coord)
    where
      by : (f : Option Branch) → (let did = on_branch (λ b. include b.path x n t.coord) t.coord f in
          WalksWith LinesFit k did.outs (UpWith LinesFit k (with_coord t did.part)) d (asks_now (input.Include l x n) t.coord M))
      by None = dumb_walk k t [] d _ tt (first_fit M _ first)
      by (Some b) = let did = include b.path x n t.coord in
          dumb_walk k (with_coord t did.part) did.outs d (asks_now (input.Include l x n) t.coord M) (tt, tt) (first_fit M _ first)
  act_walk (input.Commit l) is brings free =
      let did = does (input.Commit l) d.intents t.coord in
      turn_walk k d t M h IsGivenUp given_fits (with_coord t did.part) did.outs (asks_now (input.Commit l) t.coord M) refl
      (λ m. none_more (accepted_of M.past.askings) _
      (λ z. commit_asks M.past.event l brings z) m) (turns (input.Commit l) refl free) (first_fit M _ first)
  act_walk (input.Abort l) is brings free =
      let did = does (input.Abort l) d.intents t.coord in
      turn_walk k d t M h IsGivenUp given_fits (with_coord t did.part) did.outs M refl (λ m. refl) (turns (input.Abort l) refl free)
      (first_fit M M.past.askings first)
  act_walk (input.GiveUp l) is brings free =
      let did = does (input.GiveUp l) d.intents t.coord in
      turn_walk k d t M h IsGivenUp given_fits (with_coord t did.part) did.outs M refl (λ m. refl) (turns (input.GiveUp l) refl free)
      (first_fit M M.past.askings first)
  act_walk i is brings free = absurd (cc is)

-- ---- every handler

-- what is known, and that lines fit
abbrev pub All : Moment → Type 0
All M = Core M × LinesFit M

all_step : (hd : Header) → KeepsSteps hd All
all_step hd = let core = core_keep hd in let steps = core.steps in record {
  quiet = λ bs M plain h. (steps.quiet bs M plain h.0, mute_fit bs M (plain_lines bs plain) h.1);
  junk = λ n M fit h. (
    steps.junk n M fit h.0,
    (let o = mute_fit (body.Sent (M.past.frames + 1) 0 n frame.Junk ∷ []) M (refl, tt) h.1 in
        record { more = o.more; lines = o.lines; fit = o.fit }),
  );
  stop = λ k d live M h. (
    steps.stop k d live M h.0,
    (let o = mute_fit (body.Halted k ∷ []) M (refl, tt) (record { more = h.1.more; lines = h.1.lines; fit = h.1.fit }) in
        record { more = o.more; lines = o.lines; fit = o.fit }),
  );
  message = λ k d t v from m outs M h there meant may is.
      let goes = subst (Handling.GoesSo (IsHeardIn from m) k d t from) is
      (goes_so (IsHeardIn from m) k d t from h.0.0.2.1.0.0.0 (paths_of h.0.0.2.1.0.0.0)
      (acting.tree (S k d t M h.0) h.0.0.2.1 k (mine k d t M h.0) t (here k d t M h.0) refl)
      (acting.coord (S k d t M h.0) h.0.0.2.1 k (mine k d t M h.0) t (here k d t M h.0) refl)
      (acting.numbered (S k d t M h.0) h.0.0.2.1 k (mine k d t M h.0) t (here k d t M h.0) refl) m (λ u s g w. w)) in
      both k outs v d M (steps.message k d t v from m outs M h.0 there meant may is)
      (turn_walk k d t M h.0 (IsHeardIn from m) (heard_fits from m) v outs M refl (λ l. refl) goes.0
      (record { more = h.1.more; lines = h.1.lines; fit = h.1.fit }));
  act = λ k d t i M is brings first asks free h. let did = does i d.intents t.coord in
      both k did.outs (with_coord t did.part) d (asks_now i t.coord M) (steps.act k d t i M is brings first asks free h.0)
      (act_walk hd k d t M h.0 first i is brings free);
  begin = λ k d t l how parent M brings first new gives none h.
      let did = begin_action l how parent (parent_of parent t.coord) t.coord in
      both k did.outs (with_coord t did.part) d (given l (record { node = k; serial = is_serial how }) M)
      (steps.begin k d t l how parent M brings first new gives none h.0)
      (dumb_walk k (with_coord t did.part) did.outs d (given l (record { node = k; serial = is_serial how }) M) (refl, tt)
      (record { more = h.1.more; lines = h.1.lines; fit = h.1.fit }));
  tick = λ k d t M h.
      let r = again_all t.coord.doings t.coord in
      let outs = tick_outs (record { number = k; disk = d; live = Some t }) t in
      both k outs (with_coord t r.part) d M (steps.tick k d t M h.0)
      (dumb_walk k (with_coord t r.part) outs d M (tick_dumb k d t) (record { more = h.1.more; lines = h.1.lines; fit = h.1.fit }));
  restart = λ k d M event first h.
      both k (restart_outs hd k (d.inc + 1) d) (parts_in k (d.inc + 1) d) d M (steps.restart k d M event first h.0)
      (dumb_walk k (parts_in k (d.inc + 1) d) (restart_outs hd k (d.inc + 1) d) d M (restart_dumb hd k (d.inc + 1) d)
      (record { more = h.1.more; lines = h.1.lines; fit = h.1.fit }));
}
  where
    both : (k : ℕ) (outs : List Effect) (v : Parts) (d : Disk) (M : Moment) → WalksWith Core k outs (UpWith Core k v) d M →
        WalksWith LinesFit k outs (UpWith LinesFit k v) d M → WalksWith All k outs (UpWith All k v) d M
    both k outs v d M a b = with_both Core LinesFit k outs (UpWith Core k v) (UpWith LinesFit k v) d M a b

-- as an event comes nothing is written, and nothing as it is over
pub all_keep : (hd : Header) → KeepsAll hd All
all_keep hd = let core = core_keep hd in record {
  opens = λ e M first number h. (
    core.opens e M first number h.0,
    record { more = []; lines = sym first ∙ sym (append-nil M.past.run.lines); fit = tt },
  );
  closes = λ bodies M number lines h. (core.closes bodies M number lines h.0, over bodies M number lines);
  steps = all_step hd;
  first = λ st formed. (core.first st formed, record { more = []; lines = refl; fit = tt });
}
  where
    over : (bodies : List Body) (M : Moment) → M.past.number ≡ M.past.run.count + 1 →
        M.seen.lines ≡ M.past.run.lines ++ block M.past.number bodies → LinesFit (closed bodies M)
    over bodies M number lines = record {
      more = [];
      lines = lines ∙ (λ i. M.past.run.lines ++ block (number i) bodies)
          ∙ sym (append-nil (M.past.run.lines ++ block (M.past.run.count + 1) bodies));
      fit = tt;
    }
