-- Each line of the event so far that something was lost may stand in it: kept by all that nodes do.
use Rattle.arj_law_parts.proofs.Words
use Words.{◌≡◌, ◌∙◌, ◌==◌, ◌+◌, ◌++◌, not, ℕ, Bool, true, false, cond, if◌then◌else◌, List, [], ◌∷◌, Option, Some, None, refl, sym, ap, subst, ⊤}
use Words.{append-nil, append_assoc, map-append, AllByRecursion, and_parts, list_all, Body, Event, Header, Label, Uid, name}
use Words.{Asked, Reply, answers, actor, Doing, doing_of, Calling, Steps, Message, Disk, Do, Effect, Say, Send, worked, Parts, Node}
use Words.{with_coord, Input, acts as does, refusal_up, again_all, begin_action, branch_named, call, include, commit_action, abort_action}
use Words.{on_branch, give_up, Branch, branch_of, parent_of, parts_in, restart_outs, tick_outs, frame_kind, is_serial}
use Words.{numbered, Post, Seen, handle, heard}
use Words.body
use Words.event
use Words.frame
use Words.input
use Rattle.arj_law_runs.proofs.Terms.{paths_of, IsBusy, actor_is}
use Rattle.arj_law_runs.proofs.addresses.Lists.{all_append}
use Rattle.arj_law_runs.proofs.journal.Beginning.{named_at}
use Rattle.arj_law_lock_view.proofs.Terms.{same_number}
use Rattle.arj_law_parts.proofs.moves.{Flat.post, Together.with_both}
use Rattle.arj_law_parts.specs.moves.Keeps.{is_act}
use Rattle.arj_law_parts.specs.moves.Moments.{Moment, asks_now, closed, fits, framed_if, given, posted, said, sent, up}
use Rattle.arj_law_parts.specs.moves.Seen as seen
use Rattle.arj_law_parts.specs.moves.With.{ArePlain, Brings, IsFirst, KeepsAll, KeepsSteps, UpWith, WalksWith, is_plain_line}
use Rattle.arj_law_parts.specs.steps.Named.{HasNames}
use Rattle.arj_model.specs.Own.{may_stand}
use Rattle.arj_model.specs.Past.{block}
use Rattle.arj_law_cause.proofs.waits.waiting.Acting as acting
use Rattle.arj_law_cause.proofs.waits.commits.Serving as Serving
use Rattle.arj_law_cause.proofs.waits.commits.Serving.{AreStill, IsQuiet, goes_so, naming_quiet, quiet_plain, restart_still, tick_still}
use Rattle.arj_law_cause.proofs.waits.lost.Bound.{Stocked, stocked_keep}
use Rattle.arj_law_cause.proofs.waits.lost.Losing
use Losing.{abort_still, commit_still, give_still, heard_still, keeps, keeps_other, loses_of, loses_other, parts_quiet, same_label}
use Rattle.arj_law_cause.specs.waits.lost.Lost.{is_lost}
use Rattle.arj_promise.specs.Runs.{HeaderFits}

-- the line may stand in the event, if it says that something was lost
abbrev pub Fits : Event → Body → Type 0
Fits e b = is_lost b ≡ true → may_stand e b ≡ true

-- what the event under way has written, each line so
pub record LinesFit (M : Moment) : Type 0 where
  pub more : List Body
  pub lines : M.seen.lines ≡ M.past.run.lines ++ block M.past.number more
  pub fit : AllByRecursion (Fits M.past.event) more

keeps_fit : (e : Event) (b : Body) → keeps b ≡ true → Fits e b
keeps_fit e b is lost = absurd (cc (sym is ∙ ap not lost))

said_fit : (bs : List Body) (N : Moment) → AllByRecursion (Fits N.past.event) bs → LinesFit N → LinesFit (said bs N)
said_fit bs N fit h = record {
  more = h.more ++ bs;
  lines = ap (λ ls. ls ++ numbered N.past.number bs) h.lines
      ∙ append_assoc N.past.run.lines (block N.past.number h.more) (block N.past.number bs)
      ∙ ap (λ ls. N.past.run.lines ++ ls) (sym (map-append (λ (b : Body). record { event = N.past.number; body = b }) h.more bs));
  fit = all_append (Fits N.past.event) h.more bs h.fit fit;
}

none_fit : (b : Body) (N : Moment) → keeps b ≡ true → LinesFit N → LinesFit (said (b ∷ []) N)
none_fit b N is h = said_fit (b ∷ []) N (keeps_fit N.past.event b is, tt) h

sent_fit : (p : Post) (N : Moment) → LinesFit N → LinesFit (sent p N)
sent_fit p N h = by (p.to == p.from) (fits N)
  where
    lined : LinesFit (framed_if true p N)
    lined = let o = none_fit (body.Sent (N.past.frames + 1) p.from p.to (frame_kind p.message)) N refl h in
        record { more = o.more; lines = o.lines; fit = o.fit }

    by : (self fit : Bool) → LinesFit (if self then posted p N else framed_if fit p N)
    by true fit = record { more = h.more; lines = h.lines; fit = h.fit }
    by false true = lined
    by false false = h

-- the event is the same
sent_event : (p : Post) (N : Moment) → (let O = sent p N in O.past.event) ≡ N.past.event
sent_event p N = by (p.to == p.from) (fits N)
  where
    by : (self fit : Bool) → (let O = if self then posted p N else framed_if fit p N in O.past.event) ≡ N.past.event
    by true fit = refl
    by false true = refl
    by false false = refl

-- a node's effects, of which each line is so
walk : (k : ℕ) (v : Parts) (q : Body → Bool) (e : Event) → ((b : Body) → q b ≡ true → Fits e b) → (outs : List Effect) (d : Disk)
    (N : Moment) → N.past.event ≡ e → AreStill (IsQuiet q) outs → LinesFit N → WalksWith LinesFit k outs (UpWith LinesFit k v) d N
walk k v q e each [] d N its all h = record { more = h.more; lines = h.lines; fit = h.fit }
walk k v q e each (Do w ∷ es) d N its all h = (
  (λ how. let o = none_fit (body.Halted k) N refl h in record { more = o.more; lines = o.lines; fit = o.fit }),
  walk k v q e each es (worked w d) N its all.1 h,
)
walk k v q e each (Say b ∷ es) d N its all h = walk k v q e each es d (said (b ∷ []) N) its all.1
    (said_fit (b ∷ []) N (subst (λ x. Fits x b) (sym its) (each b all.0), tt) h)
walk k v q e each (Send to m ∷ es) d N its all h =
    walk k v q e each es d (sent (post k to m) N) (sent_event (post k to m) N ∙ its) all.1 (sent_fit (post k to m) N h)

keeps_walk : (k : ℕ) (v : Parts) (outs : List Effect) (d : Disk) (N : Moment) → AreStill (IsQuiet keeps) outs → LinesFit N →
    WalksWith LinesFit k outs (UpWith LinesFit k v) d N
keeps_walk k v outs d N all h = walk k v keeps N.past.event (λ b is. keeps_fit N.past.event b is) outs d N refl all h

-- ---- one node

module _ (hd : Header) (k : ℕ) (d : Disk) (t : Parts) (M : Moment) (h : Stocked hd (up k d t M)) where
  abbrev S : Seen
  S = let N = up k d t M in seen.with_sent h.0.0.0.0 N.seen

  abbrev mine : Node
  mine = record { number = k; disk = d; live = Some t }

  here : (let N = up k d t M in N.seen.nodes k) ≡ Some (record { number = k; disk = d; live = Some t })
  here = λ i. cond (same_number k i) (Some (record { number = k; disk = d; live = Some t })) (M.seen.nodes k)

  -- nothing was written yet
  first_fit : (i : Input) → IsFirst M → LinesFit (asks_now i t.coord M)
  first_fit i first = record { more = []; lines = sym first ∙ sym (append-nil M.past.run.lines); fit = tt }

  -- what is lost in a giveup is of its action
  giveup_fits : (l : Label) (e : Event) → Brings e (input.GiveUp l) → (b : Body) → loses_of l b ≡ true → Fits e b
  giveup_fits l (event.GiveUp m) is (body.Lost w n) same lost =
      let one : m ≡ l = cc is in ap (λ z. Words.bytes_eq (name w) (name z)) one ∙ same
  giveup_fits l (event.GiveUp m) is b same lost = absurd (cc lost)
  giveup_fits l (event.Begin m n) is b same lost = absurd (cc is)
  giveup_fits l (event.Serial m n) is b same lost = absurd (cc is)
  giveup_fits l (event.BeginIn m p) is b same lost = absurd (cc is.1)
  giveup_fits l (event.Top m p) is b same lost = absurd (cc is)
  giveup_fits l (event.Call m x o) is b same lost = absurd (cc is)
  giveup_fits l (event.Include m x n) is b same lost = absurd (cc is)
  giveup_fits l (event.Commit m) is b same lost = absurd (cc is)
  giveup_fits l (event.Abort m) is b same lost = absurd (cc is)
  giveup_fits l e is b same lost = absurd is

  giveup_still : (l : Label) → AreStill (IsQuiet (loses_of l)) (does (input.GiveUp l) d.intents t.coord).outs
  giveup_still l = by (branch_named l t.coord) refl
    where
      by : (f : Option Branch) → branch_named l t.coord ≡ f →
          AreStill (IsQuiet (loses_of l)) (on_branch (λ b. give_up (actor b.path) d.intents t.coord) t.coord f).outs
      by None is = tt
      by (Some b) is =
          let names : HasNames t.coord = h.0.0.0.2.0.0.1 k mine t here refl in
          let n = named_at t.coord names l b is in
          let coord = acting.coord S h.0.0.0.2.1 k mine t here refl in
          let tree = acting.tree S h.0.0.0.2.1 k mine t here refl in
          let act : actor b.path ≡ n.act = coord.tree.lists.places n.act b n.found in
          give_still (loses_of l) (loses_other l) (actor b.path) n.doing d.intents t.coord (ap (λ u. doing_of u t.coord) act ∙ n.does)
          (λ s at. actor_is h.0.0.0.2.1.0.0.0 (paths_of h.0.0.0.2.1.0.0.0) tree n.act s.path t.coord coord
          (subst (IsBusy t.coord.tree n.act) at (coord.busy n.act n.doing n.does)) ∙ sym act)
          (λ j. same_label l n.doing.label n.name_is)

  act_walk : (i : Input) → is_act i ≡ true → Brings M.past.event i → IsFirst M →
      (let did = does i d.intents t.coord in
      WalksWith LinesFit k did.outs (UpWith LinesFit k (with_coord t did.part)) d (asks_now i t.coord M))
  act_walk (input.Call l x o) is brings first = let did = does (input.Call l x o) d.intents t.coord in
      keeps_walk k (with_coord t did.part) did.outs d (asks_now (input.Call l x o) t.coord M) (by (branch_named l t.coord))
      (first_fit (input.Call l x o) first)
    where
      by : (f : Option Branch) → AreStill (IsQuiet keeps) (on_branch (λ b. call b.path x o t.coord) t.coord f).outs
      by None = tt
      by (Some b) = (tt, tt)
  act_walk (input.Include l x n) is brings first = let did = does (input.Include l x n) d.intents t.coord in
      keeps_walk k (with_coord t did.part) did.outs d (asks_now (input.Include l x n) t.coord M) (by (branch_named l t.coord))
      (first_fit (input.Include l x n) first)
    where
      by : (f : Option Branch) → AreStill (IsQuiet keeps) (on_branch (λ b. include b.path x n t.coord) t.coord f).outs
      by None = tt
      by (Some b) = (tt, tt)
  act_walk (input.Commit l) is brings first = let did = does (input.Commit l) d.intents t.coord in
      keeps_walk k (with_coord t did.part) did.outs d (asks_now (input.Commit l) t.coord M) (by (branch_named l t.coord))
      (first_fit (input.Commit l) first)
    where
      by : (f : Option Branch) → AreStill (IsQuiet keeps) (on_branch (λ b. commit_action b d.intents t.coord) t.coord f).outs
      by None = tt
      by (Some b) = commit_still keeps keeps_other b d.intents t.coord
  act_walk (input.Abort l) is brings first = let did = does (input.Abort l) d.intents t.coord in
      keeps_walk k (with_coord t did.part) did.outs d M (by (branch_named l t.coord)) (first_fit (input.Abort l) first)
    where
      by : (f : Option Branch) → AreStill (IsQuiet keeps) (on_branch (λ b. abort_action (actor b.path) d.intents t.coord) t.coord f).outs
      by None = tt
      by (Some b) = abort_still keeps keeps_other b d.intents t.coord
  act_walk (input.GiveUp l) is brings first = let did = does (input.GiveUp l) d.intents t.coord in
      walk k (with_coord t did.part) (loses_of l) M.past.event (giveup_fits l M.past.event brings) did.outs d M refl (giveup_still l)
      (first_fit (input.GiveUp l) first)
  act_walk i is brings first = absurd (cc is)

-- ---- every handler

-- what is known, and that lines fit
abbrev pub All : Header → Moment → Type 0
All hd M = Stocked hd M × LinesFit M

plain_line : (b : Body) → is_plain_line b ≡ true → keeps b ≡ true
plain_line (body.Lost l n) is = absurd (cc is)
plain_line b is = refl

plain_lines : (e : Event) (bs : List Body) → ArePlain bs → AllByRecursion (Fits e) bs
plain_lines e [] plain = tt
plain_lines e (b ∷ bs) plain = let q = and_parts (is_plain_line b) (list_all is_plain_line bs) plain in
    (keeps_fit e b (plain_line b q.0), plain_lines e bs q.1)

all_step : (hd : Header) → HeaderFits hd → KeepsSteps hd (All hd)
all_step hd form = let made = stocked_keep hd form in let steps = made.steps in record {
  quiet = λ bs M plain h. (steps.quiet bs M plain h.0, said_fit bs M (plain_lines M.past.event bs plain) h.1);
  junk = λ n M fit h. (
    steps.junk n M fit h.0,
    (let o = none_fit (body.Sent (M.past.frames + 1) 0 n frame.Junk) M refl h.1 in
        record { more = o.more; lines = o.lines; fit = o.fit }),
  );
  stop = λ k d live M h. (
    steps.stop k d live M h.0,
    (let o = none_fit (body.Halted k) M refl (record { more = h.1.more; lines = h.1.lines; fit = h.1.fit }) in
        record { more = o.more; lines = o.lines; fit = o.fit }),
  );
  message = λ k d t v from m outs M h there meant may is.
      both k outs v d M (steps.message k d t v from m outs M h.0 there meant may is)
      (keeps_walk k v outs d M (subst (Serving.GoesSo (IsQuiet keeps) plain_so (AreStill (IsQuiet keeps)) (λ es all. all) k d t
      (λ n at. naming_quiet keeps parts_so d.names n) from) is
      (goes_so (IsQuiet keeps) plain_so (AreStill (IsQuiet keeps)) (λ es all. all) k d t
      (λ n at. naming_quiet keeps parts_so d.names n) from m
      (λ a r says. heard_still keeps keeps_other from a r d.intents t.coord
      (let w = h.0.1.sent (post from k m) a r there says in let f = w.3 in f.made.so))))
      (record { more = h.1.more; lines = h.1.lines; fit = h.1.fit }));
  act = λ k d t i M is brings first asks free h. let did = does i d.intents t.coord in
      both k did.outs (with_coord t did.part) d (asks_now i t.coord M) (steps.act k d t i M is brings first asks free h.0)
      (act_walk hd k d t M h.0 i is brings first);
  begin = λ k d t l how parent M brings first new gives none h.
      let did = begin_action l how parent (parent_of parent t.coord) t.coord in
      both k did.outs (with_coord t did.part) d (given l (record { node = k; serial = is_serial how }) M)
      (steps.begin k d t l how parent M brings first new gives none h.0)
      (keeps_walk k (with_coord t did.part) did.outs d (given l (record { node = k; serial = is_serial how }) M) (refl, tt)
      (record { more = h.1.more; lines = h.1.lines; fit = h.1.fit }));
  tick = λ k d t M h.
      let r = again_all t.coord.doings t.coord in
      let outs = tick_outs (record { number = k; disk = d; live = Some t }) t in
      both k outs (with_coord t r.part) d M (steps.tick k d t M h.0)
      (keeps_walk k (with_coord t r.part) outs d M (tick_still (IsQuiet keeps) plain_so k d t)
      (record { more = h.1.more; lines = h.1.lines; fit = h.1.fit }));
  restart = λ k d M event first h.
      both k (restart_outs hd k (d.inc + 1) d) (parts_in k (d.inc + 1) d) d M (steps.restart k d M event first h.0)
      (keeps_walk k (parts_in k (d.inc + 1) d) (restart_outs hd k (d.inc + 1) d) d M
      (restart_still (IsQuiet keeps) plain_so hd k (d.inc + 1) d)
      (record { more = h.1.more; lines = h.1.lines; fit = h.1.fit }));
}
  where
    parts_so : (b : Body) → Serving.is_of_part b ≡ true → keeps b ≡ true
    parts_so = parts_quiet keeps keeps_other

    plain_so : Serving.IsPlain (IsQuiet keeps)
    plain_so = quiet_plain keeps (parts_quiet keeps keeps_other)

    both : (k : ℕ) (outs : List Effect) (v : Parts) (d : Disk) (M : Moment) → WalksWith (Stocked hd) k outs (UpWith (Stocked hd) k v) d M →
        WalksWith LinesFit k outs (UpWith LinesFit k v) d M → WalksWith (All hd) k outs (UpWith (All hd) k v) d M
    both k outs v d M a b = with_both (Stocked hd) LinesFit k outs (UpWith (Stocked hd) k v) (UpWith LinesFit k v) d M a b

-- as an event comes nothing is written, and nothing as it is over
pub all_keep : (hd : Header) → HeaderFits hd → KeepsAll hd (All hd)
all_keep hd form = let made = stocked_keep hd form in record {
  opens = λ e M first number h. (
    made.opens e M first number h.0,
    record { more = []; lines = sym first ∙ sym (append-nil M.past.run.lines); fit = tt },
  );
  closes = λ bodies M number lines h. (made.closes bodies M number lines h.0, over bodies M number lines);
  steps = all_step hd form;
  first = λ st formed. (made.first st formed, record { more = []; lines = refl; fit = tt });
}
  where
    over : (bodies : List Body) (M : Moment) → M.past.number ≡ M.past.run.count + 1 →
        M.seen.lines ≡ M.past.run.lines ++ block M.past.number bodies → LinesFit (closed bodies M)
    over bodies M number lines = record {
      more = [];
      lines = lines ∙ (λ i. M.past.run.lines ++ block (number i) bodies)
          ∙ sym (append-nil (M.past.run.lines ++ block (M.past.run.count + 1) bodies));
      fit = tt;
    }
