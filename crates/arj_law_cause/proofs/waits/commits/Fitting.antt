-- Each line that ends a commit in the event so far is of one that was under way: kept by all that nodes do.
use Rattle.arj_law_parts.proofs.Words
use Words.{◌≡◌, ◌∙◌, ◌==◌, ◌+◌, ◌++◌, ℕ, Bool, true, false, cond, if◌then◌else◌, not, List, [], ◌∷◌, Option, Some, None, refl, sym, ap, subst, ⊤}
use Words.{append-nil, append_assoc, map-append, AllByRecursion, and_parts, list_all, is_some, Body, Event, Header, Label, Line, Uid, name}
use Words.{actor, Doing, doing_of, Committing, Machine, Disk, Do, Effect, Say, Send, worked, Parts, Node}
use Words.{with_coord, Input, acts as does, refusal_up, refused_by, commit_reasons, again_all, begin_action, branch_named, call, include}
use Words.{on_branch, commit_action, Branch, branch_of, parent_of, parts_in, restart_outs, tick_outs, frame_kind, is_serial}
use Words.{is_committing_now, numbered, Post, Seen}
use Words.body
use Words.event
use Words.frame
use Words.input
use Rattle.arj_law_runs.proofs.Terms.{paths_of, is_top, named_found, off, work_there}
use Rattle.arj_law_lock_view.proofs.Terms.{same_number}
use Rattle.arj_law_runs.proofs.journal.Models.{its_sound}
use Rattle.arj_law_parts.proofs.moves.{Flat.post, Together.with_both}
use Rattle.arj_law_parts.specs.moves.Keeps.{is_act}
use Rattle.arj_law_parts.specs.moves.Moments.{Moment, asks_now, at, closed, fits, framed_if, given, posted, said, sent, up}
use Rattle.arj_law_parts.specs.moves.Seen as seen
use Rattle.arj_law_parts.specs.moves.Seen.{is_quiet_line}
use Rattle.arj_law_parts.specs.moves.With.{ArePlain, Brings, IsFirst, KeepsAll, KeepsSteps, UpWith, WalksWith, is_plain_line}
use Rattle.arj_model.specs.Follows.{AnswerFits}
use Rattle.arj_model.specs.Past.{Asked as AskedOf, block}
use Rattle.arj_model.specs.Refusals.{is_committing}
use Rattle.arj_start.specs.Start.{Start}
use Rattle.arj_law_cause.proofs.waits.waiting.Acting as acting
use Rattle.arj_law_cause.proofs.waits.waiting.Waiting as waiting
use Rattle.arj_law_cause.proofs.waits.waiting.Knowing.{Core, core_keep}
use Rattle.arj_law_cause.proofs.waits.commits.Serving as Serving
use Rattle.arj_law_cause.proofs.waits.commits.Serving.{IsQuiet, goes_so, naming_quiet, quiet_plain, restart_still, tick_still}
use Rattle.arj_law_cause.proofs.waits.commits.Turning
use Turning.{Alone, AreFront, Busy, Calls, Ends, EndsOnce, Goes, IsEndOf, Opens, Rest, Rests, Turned, abort_or_give, commit_calls}
use Turning.{heard_turned, is_abort_or_giveup, parts_rest, rests}
use Rattle.arj_law_cause.proofs.waits.commits.Under.{called_now, front_stays, is_front_line}
use Rattle.arj_law_cause.specs.waits.commits.Commits.{calls_commit, ends_commit}

some_is : {A : Type 0} {a b : A} → Some a ≡ Some b → a ≡ b
some_is {A} {a} {b} is = let k : ◌≡◌ {A = Option A} (Some a) (Some b) = is in cc

-- ---- lines of an event

-- the line fits those before it, whatever was asked
abbrev pub EndFits : List Line → Body → Type 0
EndFits lines b = (st : Start) (acc : List AskedOf) → ends_commit b ≡ true → AnswerFits st acc lines b

-- so does each line
abbrev pub EndsFit : List Line → ℕ → List Body → Type 0
EndsFit lines n [] = ⊤
EndsFit lines n (b ∷ bs) = EndFits lines b × EndsFit (lines ++ block n (b ∷ [])) n bs

-- so does each line but the first
abbrev pub EndsFitBehind : List Line → ℕ → List Body → Type 0
EndsFitBehind lines n [] = ⊤
EndsFitBehind lines n (b ∷ bs) = EndsFit (lines ++ block n (b ∷ [])) n bs

-- so does each line of an event, behind a commit's own
abbrev pub FitIn : Bool → List Line → ℕ → List Body → Type 0
FitIn true lines n bs = EndsFitBehind lines n bs
FitIn false lines n bs = EndsFit lines n bs

resting : (b : Body) → rests b ≡ true → (lines : List Line) → EndFits lines b
resting b is lines st acc e = absurd (cc (sym is ∙ ap not e))

-- no commit ends in these
abbrev pub NoEnds : List Body → Type 0
NoEnds bs = AllByRecursion (λ (b : Body). rests b ≡ true) bs

all_rest : (lines : List Line) (n : ℕ) (bs : List Body) → NoEnds bs → EndsFit lines n bs
all_rest lines n [] all = tt
all_rest lines n (b ∷ bs) all = (resting b all.0 lines, all_rest (lines ++ block n (b ∷ [])) n bs all.1)

both_fit : (lines : List Line) (n : ℕ) (bs cs : List Body) → EndsFit lines n bs → EndsFit (lines ++ block n bs) n cs →
    EndsFit lines n (bs ++ cs)
both_fit lines n [] cs a b = subst (λ ls. EndsFit ls n cs) (append-nil lines) b
both_fit lines n (x ∷ bs) cs a b = (
  a.0,
  both_fit (lines ++ block n (x ∷ [])) n bs cs a.1 (subst (λ ls. EndsFit ls n cs)
      (sym (append_assoc lines (block n (x ∷ [])) (block n bs))) b),
)

behind_first : (lines : List Line) (n : ℕ) (bs : List Body) → EndsFit lines n bs → EndsFitBehind lines n bs
behind_first lines n [] a = tt
behind_first lines n (b ∷ bs) a = a.1

both_in : (own : Bool) (lines : List Line) (n : ℕ) (bs cs : List Body) → FitIn own lines n bs → EndsFit (lines ++ block n bs) n cs →
    FitIn own lines n (bs ++ cs)
both_in false lines n bs cs a b = both_fit lines n bs cs a b
both_in true lines n [] cs a b = behind_first lines n cs (subst (λ ls. EndsFit ls n cs) (append-nil lines) b)
both_in true lines n (x ∷ bs) cs a b = both_fit (lines ++ block n (x ∷ [])) n bs cs a
    (subst (λ ls. EndsFit ls n cs) (sym (append_assoc lines (block n (x ∷ [])) (block n bs))) b)

-- ---- a moment

-- what the event under way has written, and that each line of it that ends a commit fits
pub record LinesFit (M : Moment) : Type 0 where
  pub more : List Body
  pub lines : M.seen.lines ≡ M.past.run.lines ++ block M.past.number more
  pub fit : FitIn (calls_commit M.past.event) M.past.run.lines M.past.number more

more_lines : (bs more : List Body) (N : Moment) → N.seen.lines ≡ N.past.run.lines ++ block N.past.number more →
    N.seen.lines ++ numbered N.past.number bs ≡ N.past.run.lines ++ block N.past.number (more ++ bs)
more_lines bs more N is = ap (λ ls. ls ++ numbered N.past.number bs) is
    ∙ append_assoc N.past.run.lines (block N.past.number more) (block N.past.number bs)
    ∙ ap (λ ls. N.past.run.lines ++ ls) (sym (map-append (λ (b : Body). record { event = N.past.number; body = b }) more bs))

said_fit : (bs : List Body) (N : Moment) → EndsFit N.seen.lines N.past.number bs → LinesFit N → LinesFit (said bs N)
said_fit bs N fit h = record {
  more = h.more ++ bs;
  lines = more_lines bs h.more N h.lines;
  fit = both_in (calls_commit N.past.event) N.past.run.lines N.past.number h.more bs h.fit
      (subst (λ ls. EndsFit ls N.past.number bs) h.lines fit);
}

mute_fit : (bs : List Body) (N : Moment) → NoEnds bs → LinesFit N → LinesFit (said bs N)
mute_fit bs N all h = said_fit bs N (all_rest N.seen.lines N.past.number bs all) h

sent_fit : (p : Post) (N : Moment) → LinesFit N → LinesFit (sent p N)
sent_fit p N h = by (p.to == p.from) (fits N)
  where
    lined : LinesFit (framed_if true p N)
    lined = let o = mute_fit (body.Sent (N.past.frames + 1) p.from p.to (frame_kind p.message) ∷ []) N (refl, tt) h in
        record { more = o.more; lines = o.lines; fit = o.fit }

    by : (self fit : Bool) → LinesFit (if self then posted p N else framed_if fit p N)
    by true fit = record { more = h.more; lines = h.lines; fit = h.fit }
    by false true = lined
    by false false = h

put_fit : (k : ℕ) (d : Disk) (live : Option Parts) (N : Moment) → LinesFit N → LinesFit (at k d live N)
put_fit k d live N h = record { more = h.more; lines = h.lines; fit = h.fit }

module _ (k : ℕ) (v : Parts) where
  -- effects that end no commit
  rest_walk : (outs : List Effect) (d : Disk) (N : Moment) → Rest outs → LinesFit N → WalksWith LinesFit k outs (UpWith LinesFit k v) d N
  rest_walk [] d N all h = put_fit k d (Some v) N h
  rest_walk (Do w ∷ es) d N all h = (
    (λ how. let o = mute_fit (body.Halted k ∷ []) N (refl, tt) h in record { more = o.more; lines = o.lines; fit = o.fit }),
    rest_walk es (worked w d) N all.1 h,
  )
  rest_walk (Say b ∷ es) d N all h = rest_walk es d (said (b ∷ []) N) all.1 (mute_fit (b ∷ []) N (all.0, tt) h)
  rest_walk (Send to m ∷ es) d N all h = rest_walk es d (sent (post k to m) N) all.1 (sent_fit (post k to m) N h)

  -- a line that ends a commit under way fits
  ends_fit : (l : Label) (b : Body) (lines : List Line) → IsEndOf l b → is_committing lines (name l) ≡ true → EndFits lines b
  ends_fit l (body.Committed m) lines its under st acc e = ap (λ z. is_committing lines (name z)) its ∙ under
  ends_fit l (body.Aborted m c) lines its under st acc e = ap (λ z. is_committing lines (name z)) its ∙ under
  ends_fit l b lines its under st acc e = absurd its

  -- a front line rests
  front_rests : (b : Body) → is_front_line b ≡ true → rests b ≡ true
  front_rests (body.Excluded l x n) is = refl
  front_rests (body.GaveUp l n) is = refl
  front_rests b is = absurd (cc is)

  ends_walk : (l : Label) (front behind : List Effect) (b : Body) → AreFront front → Rest behind → IsEndOf l b → (d : Disk) (N : Moment) →
      is_committing N.seen.lines (name l) ≡ true → LinesFit N →
      WalksWith LinesFit k (front ++ Say b ∷ behind) (UpWith LinesFit k v) d N
  ends_walk l [] behind b lined still its d N under h =
      rest_walk behind d (said (b ∷ []) N) still (said_fit (b ∷ []) N (ends_fit l b N.seen.lines its under, tt) h)
  ends_walk l (Say x ∷ es) behind b lined still its d N under h = ends_walk l es behind b lined.1 still its d (said (x ∷ []) N)
      (front_stays N.past.number x lined.0 N.seen.lines (name l) ∙ under) (mute_fit (x ∷ []) N (front_rests x lined.0, tt) h)
  ends_walk l (Do w ∷ es) behind b lined still its d N under h = (
    (λ how. let o = mute_fit (body.Halted k ∷ []) N (refl, tt) h in record { more = o.more; lines = o.lines; fit = o.fit }),
    ends_walk l es behind b lined.1 still its (worked w d) N under h,
  )
  ends_walk l (Send to m ∷ es) behind b lined still its d N under h = absurd lined.0

  -- a commit under way goes on, or ends
  once_walk : (l : Label) (outs : List Effect) → EndsOnce l outs → (d : Disk) (N : Moment) → is_committing N.seen.lines (name l) ≡ true →
      LinesFit N → WalksWith LinesFit k outs (UpWith LinesFit k v) d N
  once_walk l outs (Goes rest) d N under h = rest_walk outs d N rest h
  once_walk l outs (Ends front behind b lined still its are) d N under h =
      subst (λ es. WalksWith LinesFit k es (UpWith LinesFit k v) d N) (sym are) (ends_walk l front behind b lined still its d N under h)

-- ---- one node

module _ (k : ℕ) (d : Disk) (t : Parts) (M : Moment) (h : Core (up k d t M)) where
  abbrev S : Seen
  S = let N = up k d t M in seen.with_sent h.0.0 N.seen

  abbrev mine : Node
  mine = record { number = k; disk = d; live = Some t }

  here : (let N = up k d t M in N.seen.nodes k) ≡ Some (record { number = k; disk = d; live = Some t })
  here = λ i. cond (same_number k i) (Some (record { number = k; disk = d; live = Some t })) (M.seen.nodes k)

  -- an action whose commit waits
  under : (u : Uid) (x : Doing) (m : Machine) → doing_of u t.coord ≡ Some x → x.now ≡ Committing m →
      is_committing M.seen.lines (name x.label) ≡ true
  under u x m does is = waiting.commit_is S h.0.2.1 k mine t here refl u x does (acting.stands S h.0.2.1 k mine t here refl u x does)
      ∙ ap is_committing_now is

  turn_walk : (v : Parts) (outs : List Effect) (N : Moment) → N.seen ≡ M.seen → Turned t.coord outs → LinesFit N →
      WalksWith LinesFit k outs (UpWith LinesFit k v) d N
  turn_walk v outs N same (Rests all) fit = rest_walk k v outs d N all fit
  turn_walk v outs N same (Busy u x m does is once) fit =
      once_walk k v x.label outs once d N (subst (λ (z : Seen). is_committing z.lines (name x.label) ≡ true) (sym same) (under u x m does is))
      fit

  -- ---- a commit is called

  -- the action is open, and its commit is under way behind the line
  opens : (l : Label) (b : Branch) → branch_named l t.coord ≡ Some b → is_some b.ended ≡ false → is_top b.kind ≡ true → (x : Doing) →
      doing_of (actor b.path) t.coord ≡ Some x → (n : ℕ) →
      is_committing (M.seen.lines ++ block n (body.Committing x.label ∷ [])) (name x.label) ≡ true
  opens l b named opened top x does n =
      let s = acting.stands S h.0.2.1 k mine t here refl (actor b.path) x does in
      let found : branch_of (actor b.path) t.coord.tree ≡ Some b = named_found h.0.2.1.0.0.0 (paths_of h.0.2.1.0.0.0)
      (acting.tree S h.0.2.1 k mine t here refl) d.intents t.coord
      (acting.coord S h.0.2.1 k mine t here refl) l b named in
      let same : s.branch ≡ b = some_is (sym s.found ∙ found) in
      called_now M.seen.lines n x.label s.act (let w = its_sound S.lines (let g = acting.written S h.0.2.1 k mine t here refl in g.right) in w.formed) s.named
      (ap is_top (s.kind ∙ ap (λ (z : Branch). z.kind) same) ∙ top)
      (s.over ∙ ap (λ (z : Branch). is_some z.ended) same ∙ opened)

module _ (hd : Header) (k : ℕ) (d : Disk) (t : Parts) (M : Moment) (h : Core (up k d t M)) (first : IsFirst M) where
  -- nothing was written yet
  first_in : (own : Bool) → FitIn own M.past.run.lines M.past.number []
  first_in true = tt
  first_in false = tt

  first_fit : (i : Input) → LinesFit (asks_now i t.coord M)
  first_fit i = record {
    more = [];
    lines = sym first ∙ sym (append-nil M.past.run.lines);
    fit = first_in (calls_commit M.past.event);
  }

  -- a commit's own line is the first
  own_fit : (l : Label) (b : Body) → Brings M.past.event (input.Commit l) → LinesFit (said (b ∷ []) (asks_now (input.Commit l) t.coord M))
  own_fit l b brings = record {
    more = b ∷ [];
    lines = ap (λ ls. ls ++ numbered M.past.number (b ∷ [])) (sym first);
    fit = subst (λ own. FitIn own M.past.run.lines M.past.number (b ∷ [])) (sym (its M.past.event brings)) tt;
  }
    where
      its : (e : Event) → Brings e (input.Commit l) → calls_commit e ≡ true
      its (event.Begin m n) is = absurd (cc is)
      its (event.Serial m n) is = absurd (cc is)
      its (event.BeginIn m p) is = absurd (cc is.1)
      its (event.Top m p) is = absurd (cc is)
      its (event.Call m x o) is = absurd (cc is)
      its (event.Include m x n) is = absurd (cc is)
      its (event.Commit m) is = refl
      its (event.Abort m) is = absurd (cc is)
      its (event.GiveUp m) is = absurd (cc is)
      its e is = absurd is

  commit_walk : (l : Label) → Brings M.past.event (input.Commit l) → refusal_up hd (input.Commit l) t.coord ≡ None →
      (let did = does (input.Commit l) d.intents t.coord in
      WalksWith LinesFit k did.outs (UpWith LinesFit k (with_coord t did.part)) d (asks_now (input.Commit l) t.coord M))
  commit_walk l brings free = by (branch_named l t.coord) refl free
    where
      N : Moment
      N = asks_now (input.Commit l) t.coord M

      Result : Option Branch → Type 0
      Result f = let did = on_branch (λ b. commit_action b d.intents t.coord) t.coord f in
          WalksWith LinesFit k did.outs (UpWith LinesFit k (with_coord t did.part)) d (asks_now (input.Commit l) t.coord M)

      calls : (b : Branch) → branch_named l t.coord ≡ Some b → is_some b.ended ≡ false → (v : Parts) (outs : List Effect) →
          Calls b t.coord outs → WalksWith LinesFit k outs (UpWith LinesFit k v) d (asks_now (input.Commit l) t.coord M)
      calls b named opened v outs (Alone line rest are still) =
          subst (λ es. WalksWith LinesFit k es (UpWith LinesFit k v) d (asks_now (input.Commit l) t.coord M)) (sym are)
          (rest_walk k v rest d (said (line ∷ []) (asks_now (input.Commit l) t.coord M)) still (own_fit l line brings))
      calls b named opened v outs (Opens x rest does top are once) =
          subst (λ es. WalksWith LinesFit k es (UpWith LinesFit k v) d (asks_now (input.Commit l) t.coord M)) (sym are)
          (once_walk k v x.label rest once d (said (body.Committing x.label ∷ []) (asks_now (input.Commit l) t.coord M))
          (opens k d t M h l b named opened top x does M.past.number) (own_fit l (body.Committing x.label) brings))

      by : (f : Option Branch) → branch_named l t.coord ≡ f → refused_by commit_reasons t.coord f ≡ None → Result f
      by None is none = absurd (cc none)
      by (Some b) is none =
          let found : branch_of (actor b.path) t.coord.tree ≡ Some b = named_found h.0.2.1.0.0.0 (paths_of h.0.2.1.0.0.0)
          (acting.tree (S k d t M h) h.0.2.1 k (mine k d t M h) t (here k d t M h) refl) d.intents t.coord
          (acting.coord (S k d t M h) h.0.2.1 k (mine k d t M h) t (here k d t M h) refl) l b is in
          let w = work_there t.coord (let p = acting.up (S k d t M h) h.0.2.1 k (mine k d t M h) t (here k d t M h) refl in
          let q = p.tops in let y = q.names in y.count) (actor b.path) b found in
          calls b is (off (commit_reasons b t.coord) none).0 (with_coord t (commit_action b d.intents t.coord).part)
          (commit_action b d.intents t.coord).outs
          (commit_calls t.coord h.0.2.1.0.0.0 (paths_of h.0.2.1.0.0.0)
          (acting.tree (S k d t M h) h.0.2.1 k (mine k d t M h) t (here k d t M h) refl)
          (acting.coord (S k d t M h) h.0.2.1 k (mine k d t M h) t (here k d t M h) refl) b d.intents w.0 w.1)

  act_walk : (i : Input) → is_act i ≡ true → Brings M.past.event i → refusal_up hd i t.coord ≡ None →
      (let did = does i d.intents t.coord in
      WalksWith LinesFit k did.outs (UpWith LinesFit k (with_coord t did.part)) d (asks_now i t.coord M))
  act_walk (input.Call l x o) is brings free = by (branch_named l t.coord)
    where
      by : (f : Option Branch) → (let did = on_branch (λ b. call b.path x o t.coord) t.coord f in
          WalksWith LinesFit k did.outs (UpWith LinesFit k (with_coord t did.part)) d (asks_now (input.Call l x o) t.coord M))
      by None = rest_walk k t [] d _ tt (first_fit (input.Call l x o))
      by (Some b) = let did = call b.path x o t.coord in
          rest_walk k (with_coord t did.part) did.outs d (asks_now (input.Call l x o) t.coord M) (tt, tt) (first_fit (input.Call l x o))
  act_walk (input.Include l x n) is brings free = by (branch_named l t.coord)
    where
      by : (f : Option Branch) → (let did = on_branch (λ b. include b.path x n t.coord) t.coord f in
          WalksWith LinesFit k did.outs (UpWith LinesFit k (with_coord t did.part)) d (asks_now (input.Include l x n) t.coord M))
      by None = rest_walk k t [] d _ tt (first_fit (input.Include l x n))
      by (Some b) = let did = include b.path x n t.coord in
          rest_walk k (with_coord t did.part) did.outs d (asks_now (input.Include l x n) t.coord M) (tt, tt)
          (first_fit (input.Include l x n))
  act_walk (input.Commit l) is brings free = commit_walk l brings free
  act_walk (input.Abort l) is brings free =
      let did = does (input.Abort l) d.intents t.coord in
      turn_walk k d t M h (with_coord t did.part) did.outs M refl (turns (input.Abort l) refl) (first_fit (input.Abort l))
    where
      turns : (i : Input) → is_abort_or_giveup i ≡ true → Turned t.coord (does i d.intents t.coord).outs
      turns i its = abort_or_give t.coord h.0.2.1.0.0.0 (paths_of h.0.2.1.0.0.0)
          (acting.tree (S k d t M h) h.0.2.1 k (mine k d t M h) t (here k d t M h) refl)
          (acting.coord (S k d t M h) h.0.2.1 k (mine k d t M h) t (here k d t M h) refl) i d.intents its
  act_walk (input.GiveUp l) is brings free =
      let did = does (input.GiveUp l) d.intents t.coord in
      turn_walk k d t M h (with_coord t did.part) did.outs M refl (turns (input.GiveUp l) refl) (first_fit (input.GiveUp l))
    where
      turns : (i : Input) → is_abort_or_giveup i ≡ true → Turned t.coord (does i d.intents t.coord).outs
      turns i its = abort_or_give t.coord h.0.2.1.0.0.0 (paths_of h.0.2.1.0.0.0)
          (acting.tree (S k d t M h) h.0.2.1 k (mine k d t M h) t (here k d t M h) refl)
          (acting.coord (S k d t M h) h.0.2.1 k (mine k d t M h) t (here k d t M h) refl) i d.intents its
  act_walk i is brings free = absurd (cc is)

-- ---- every handler

-- what is known, and that lines fit
abbrev pub All : Moment → Type 0
All M = Core M × LinesFit M

plain_line : (b : Body) → is_plain_line b ≡ true → rests b ≡ true
plain_line (body.Committed l) is = absurd (cc is)
plain_line (body.Aborted l c) is = absurd (cc is)
plain_line b is = refl

plain_lines : (bs : List Body) → ArePlain bs → NoEnds bs
plain_lines [] plain = tt
plain_lines (b ∷ bs) plain = let q = and_parts (is_plain_line b) (list_all is_plain_line bs) plain in
    (plain_line b q.0, plain_lines bs q.1)

all_step : (hd : Header) → KeepsSteps hd All
all_step hd = let core = core_keep hd in let steps = core.steps in record {
  quiet = λ bs M plain h. (steps.quiet bs M plain h.0, mute_fit bs M (plain_lines bs plain) h.1);
  junk = λ n M fit h. (
    steps.junk n M fit h.0,
    (let o = mute_fit (body.Sent (M.past.frames + 1) 0 n frame.Junk ∷ []) M (refl, tt) h.1 in
        record { more = o.more; lines = o.lines; fit = o.fit }),
  );
  stop = λ k d live M h. (
    steps.stop k d live M h.0,
    (let o = mute_fit (body.Halted k ∷ []) M (refl, tt) (record { more = h.1.more; lines = h.1.lines; fit = h.1.fit }) in
        record { more = o.more; lines = o.lines; fit = o.fit }),
  );
  message = λ k d t v from m outs M h there meant may is.
      let goes = subst (Serving.GoesSo (IsQuiet rests) (quiet_plain rests parts_rest) (Turned t.coord) (λ es all. Rests all) k d t
      (λ n there. naming_quiet rests parts_rest d.names n) from) is
      (goes_so (IsQuiet rests) (quiet_plain rests parts_rest) (Turned t.coord) (λ es all. Rests all) k d t
      (λ n there. naming_quiet rests parts_rest d.names n) from m
      (λ a r says. heard_turned t.coord h.0.0.2.1.0.0.0 (paths_of h.0.0.2.1.0.0.0)
      (acting.tree (S k d t M h.0) h.0.0.2.1 k (mine k d t M h.0) t (here k d t M h.0) refl)
      (acting.coord (S k d t M h.0) h.0.0.2.1 k (mine k d t M h.0) t (here k d t M h.0) refl) from a r d.intents)) in
      both k outs v d M (steps.message k d t v from m outs M h.0 there meant may is)
      (turn_walk k d t M h.0 v outs M refl goes (record { more = h.1.more; lines = h.1.lines; fit = h.1.fit }));
  act = λ k d t i M is brings first asks free h. let did = does i d.intents t.coord in
      both k did.outs (with_coord t did.part) d (asks_now i t.coord M) (steps.act k d t i M is brings first asks free h.0)
      (act_walk hd k d t M h.0 first i is brings free);
  begin = λ k d t l how parent M brings first new gives none h.
      let did = begin_action l how parent (parent_of parent t.coord) t.coord in
      both k did.outs (with_coord t did.part) d (given l (record { node = k; serial = is_serial how }) M)
      (steps.begin k d t l how parent M brings first new gives none h.0)
      (rest_walk k (with_coord t did.part) did.outs d (given l (record { node = k; serial = is_serial how }) M) (refl, tt)
      (record { more = h.1.more; lines = h.1.lines; fit = h.1.fit }));
  tick = λ k d t M h.
      let r = again_all t.coord.doings t.coord in
      let outs = tick_outs (record { number = k; disk = d; live = Some t }) t in
      both k outs (with_coord t r.part) d M (steps.tick k d t M h.0)
      (rest_walk k (with_coord t r.part) outs d M (tick_still (IsQuiet rests) (quiet_plain rests parts_rest) k d t) (record { more = h.1.more; lines = h.1.lines; fit = h.1.fit }));
  restart = λ k d M event first h.
      both k (restart_outs hd k (d.inc + 1) d) (parts_in k (d.inc + 1) d) d M (steps.restart k d M event first h.0)
      (rest_walk k (parts_in k (d.inc + 1) d) (restart_outs hd k (d.inc + 1) d) d M (restart_still (IsQuiet rests) (quiet_plain rests parts_rest) hd k (d.inc + 1) d)
      (record { more = h.1.more; lines = h.1.lines; fit = h.1.fit }));
}
  where
    both : (k : ℕ) (outs : List Effect) (v : Parts) (d : Disk) (M : Moment) → WalksWith Core k outs (UpWith Core k v) d M →
        WalksWith LinesFit k outs (UpWith LinesFit k v) d M → WalksWith All k outs (UpWith All k v) d M
    both k outs v d M a b = with_both Core LinesFit k outs (UpWith Core k v) (UpWith LinesFit k v) d M a b

-- as an event comes nothing is written, and nothing as it is over
nothing_in : (own : Bool) (lines : List Line) (n : ℕ) → FitIn own lines n []
nothing_in true lines n = tt
nothing_in false lines n = tt

pub all_keep : (hd : Header) → KeepsAll hd All
all_keep hd = let core = core_keep hd in record {
  opens = λ e M first number h. (
    core.opens e M first number h.0,
    record {
      more = [];
      lines = sym first ∙ sym (append-nil M.past.run.lines);
      fit = nothing_in (calls_commit e) M.past.run.lines (M.past.number + 1);
    },
  );
  closes = λ bodies M number lines h. (core.closes bodies M number lines h.0, over bodies M number lines);
  steps = all_step hd;
  first = λ st formed. (core.first st formed, record { more = []; lines = refl; fit = tt });
}
  where
    over : (bodies : List Body) (M : Moment) → M.past.number ≡ M.past.run.count + 1 →
        M.seen.lines ≡ M.past.run.lines ++ block M.past.number bodies → LinesFit (closed bodies M)
    over bodies M number lines = record {
      more = [];
      lines = lines ∙ (λ i. M.past.run.lines ++ block (number i) bodies)
          ∙ sym (append-nil (M.past.run.lines ++ block (M.past.run.count + 1) bodies));
      fit = nothing_in (calls_commit M.past.event) (M.past.run.lines ++ block (M.past.run.count + 1) bodies) M.past.number;
    }
