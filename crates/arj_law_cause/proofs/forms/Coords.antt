-- Objects that a coordinator's lines name: of calls and includes that it answers, of the stores that it excludes, and of why a commit aborts.
use Rattle.arj_law_parts.proofs.Words
use Words.{⊤, ◌≡◌, ◌≤◌, ℕ, List, [], ◌∷◌, Some, subst, inl, inr, AllByRecursion, IfSome, length, In, Body, Cause, Label, ObjectState}
use Words.{object, Uid, Reply, Steps, Goal, CallEnd, Answered, Included, Conflict, Changed, Lost, Run, Include, end_line, Plan, Machine}
use Words.{Voting, Preparing, Confirming, Used, Marked, CommitStep, Aborts, begin_confirm, begin_prepare, begin_vote}
use Words.{marks_store, marks_stores, targets_of, servers_of, stores_left, votes_left, without_number}
use Words.{with_number, with_states, Coord, Doing, Calling, Committing, doing_of, Effect, VotedReply, PreparedReply}
use Words.{Bool, true, false, cond, Option, None, ◌==◌, ◌&&◌, InvokedReply, BoundReply, LoadedReply, RecordedReply, At, AtActivate, AtBind, AtInvoke}
use Words.{AtLoad, AtNote, CallStep, On, Ended, Known, Moved, answered, bound_answer, bound_by, loaded_answer, activated_by, recorded_answer}
use Words.{invoked_answer, load_from, live_known, made_known, write_known, made_by, or_lost, with_inc, same_binding, other_binding}
use Words.{named_again, moves, finds, two_incs, two_bindings, binding_eq, binding_less, given_up, is_free, kept_at}
use Words.{ConfirmedReply, actor, last_req, plan_for, root_at, root_of}
use Words.body
use Words.bound
use Words.cause
use Words.invoked
use Words.loaded
use Words.recorded
use Words.commit
use Words.confirmed
use Words.prepared
use Words.voted
use Rattle.arj_law_parts.proofs.coordinator.Trace.{ActionEnds, AnswersCommit, Answers, BeginsCommit, CallEnds, CallTurn, Came, CommitBegins}
use Rattle.arj_law_parts.proofs.coordinator.Trace.{CommitTurn, EndsAsked, EndsDecided, EndsDoomed, EndsFailed, EndsNested, EndsSerial, Ends}
use Rattle.arj_law_parts.proofs.coordinator.Trace.{Excludes, GaveUpCall, GaveUpCommit, GivesCommitUp, GivesUp, Hears, Lines, Out, Trace}
use Rattle.arj_law_parts.proofs.coordinator.Trace.{trace_says}
use Rattle.arj_law_parts.proofs.coordinator.Trace as trace
use Rattle.arj_law_parts.specs.steps.Spoken.{SaidIn}
use Rattle.arj_law_cause.proofs.spelled.Plans.{IsFew, IsOfFew, OfObject, marked_objects}
use Rattle.arj_law_cause.proofs.spelled.Replies.{ReplyFits}
use Rattle.arj_msg.specs.InForm.{IsNode, IsObject}

-- ---- what lines name

-- whoever holds a lock, by an answer, is such
abbrev pub InvokedSo : (Uid → Type 0) → InvokedReply → Type 0
InvokedSo U (invoked.Conflict holder m) = U holder
InvokedSo U r = ⊤

abbrev pub BoundSo : (Uid → Type 0) → BoundReply → Type 0
BoundSo U (bound.Conflict holder m) = U holder
BoundSo U r = ⊤

abbrev pub LoadedSo : (Uid → Type 0) → LoadedReply → Type 0
LoadedSo U (loaded.InDoubt holder) = U holder
LoadedSo U r = ⊤

abbrev pub ConfirmedSo : (Uid → Type 0) → ConfirmedReply → Type 0
ConfirmedSo U (confirmed.Conflict holder m) = U holder
ConfirmedSo U r = ⊤

abbrev pub ReplySo : (Uid → Type 0) → Reply → Type 0
ReplySo U (Reply.Bound r) = BoundSo U r
ReplySo U (Reply.Loaded r) = LoadedSo U r
ReplySo U (Reply.Invoked r) = InvokedSo U r
ReplySo U (Reply.Confirmed r) = ConfirmedSo U r
ReplySo U r = ⊤

-- an object or a node that a cause of an abort names is one, and a holder is such
abbrev pub CauseNames : (Uid → Type 0) → Cause → Type 0
CauseNames U (cause.Conflict holder m n) = U holder
CauseNames U (cause.Old n x v) = IsObject x
CauseNames U (cause.NoStores x) = IsObject x
CauseNames U (cause.Listed x n) = IsObject x × IsNode n
CauseNames U c = ⊤

-- an object that a coordinator's line names is one, and a holder is such
abbrev pub NamesObjects : (Uid → Type 0) → Body → Type 0
NamesObjects U (body.Conflict l holder m n) = U holder
NamesObjects U (body.Ok l x op a) = IsObject x
NamesObjects U (body.Includes l x n) = IsObject x
NamesObjects U (body.Excluded l x n) = IsObject x
NamesObjects U (body.Aborted l c) = CauseNames U c
NamesObjects U b = ⊤

-- ---- commits

module _ (U : Uid → Type 0) where
  -- where the step aborts, its cause names such
  abbrev StepNames : CommitStep → Type 0
  StepNames (Aborts why p) = CauseNames U why
  StepNames s = ⊤

  abbrev TurnNames : Marked → Type 0
  TurnNames k = AllByRecursion OfObject k.marks × StepNames k.step

  confirm_names : (us : List Used) (p : Plan) → StepNames (begin_confirm us p)
  confirm_names [] p = tt
  confirm_names (u ∷ us) p = tt

  prepare_names : (ns : List ℕ) (p : Plan) → StepNames (begin_prepare ns p)
  prepare_names [] p = confirm_names p.used p
  prepare_names (n ∷ ns) p = tt

  vote_names : (ns : List ℕ) (p : Plan) → StepNames (begin_vote ns p)
  vote_names [] p = prepare_names (targets_of p) p
  vote_names (n ∷ ns) p = tt

  left_names : (ns : List ℕ) (p : Plan) → StepNames (votes_left ns p)
  left_names [] p = prepare_names (targets_of p) p
  left_names (n ∷ ns) p = tt

  stores_names : (ns : List ℕ) (p : Plan) → AllByRecursion OfObject p.excluded → TurnNames (stores_left ns p)
  stores_names [] p all = (all, confirm_names p.used p)
  stores_names (n ∷ ns) p all = (tt, tt)

  begin_names : (p : Plan) → TurnNames (commit.start p)
  begin_names p = (tt, vote_names (servers_of p) p)

  voted_names : (from : ℕ) (left : List ℕ) (p : Plan) (r : VotedReply) → TurnNames (commit.voted_by from left p r)
  voted_names from left p (voted.Yes states) =
      (tt, left_names (without_number from left) (record p { changed = with_states states p.changed }))
  voted_names from left p (voted.Changed w) = (tt, tt)

  prepared_names : (from : ℕ) (left : List ℕ) (p : Plan) (r : PreparedReply) → ReplyFits (Reply.Prepared r) → AllByRecursion OfObject p.excluded →
      AllByRecursion OfObject (marks_store from p).excluded → TurnNames (commit.prepared_by from left p r)
  prepared_names from left p prepared.Yes fit old more =
      stores_names (without_number from left) (record p { prepared = with_number from p.prepared }) old
  prepared_names from left p (prepared.InDoubt x holder) fit old more = stores_names (without_number from left) (marks_store from p) more
  prepared_names from left p (prepared.Old x v) fit old more = (tt, fit)

  confirmed_names : (p : Plan) (r : ConfirmedReply) → ReplyFits (Reply.Confirmed r) → ConfirmedSo U r → StepNames (commit.confirmed_by p r)
  confirmed_names p confirmed.Yes fit so = tt
  confirmed_names p (confirmed.Conflict holder m) fit so = so
  confirmed_names p (confirmed.Changed w) fit so = tt
  confirmed_names p (confirmed.NoStores x) fit so = fit
  confirmed_names p (confirmed.Listed x n) fit so = fit

  all_marked : (ns : List ℕ) (p : Plan) → length p.used ≤ 16 → AllByRecursion (λ (w : Used). IsObject w.x) p.used →
      AllByRecursion (λ (w : Used). IfSome w.loaded (λ (st : ObjectState). st.uid ≡ object w.x)) p.used → AllByRecursion OfObject p.excluded →
      AllByRecursion OfObject (marks_stores ns p).excluded
  all_marked [] p few objects loaded old = old
  all_marked (n ∷ ns) p few objects loaded old =
      all_marked ns (marks_store n p) few objects loaded (marked_objects n p few objects loaded old)

  module _ (u : Uid) where
    given_names : (m : Machine) → IsFew u m → IsOfFew m → TurnNames (commit.given_up m)
    given_names (Voting p left) few of = (tt, tt)
    given_names (Preparing p left) few of =
        stores_names [] (marks_stores left p) (all_marked left p of.few of.objects of.loaded few.2.1)
    given_names (Confirming p) few of = (tt, tt)

    answered_names : (from : ℕ) (m : Machine) (r : Reply) → ReplyFits r → ReplySo U r → IsFew u m → IsOfFew m → TurnNames (commit.answered from m r)
    answered_names from (Voting p left) (Reply.Voted r) fit so few of = voted_names from left p r
    answered_names from (Preparing p left) (Reply.Prepared r) fit so few of =
        prepared_names from left p r fit few.2.1 (marked_objects from p of.few of.objects of.loaded few.2.1)
    answered_names from (Confirming p) (Reply.Confirmed r) fit so few of = (tt, confirmed_names p r fit so)
    answered_names from (Voting p left) (Reply.Bound r) fit so few of = (tt, tt)
    answered_names from (Voting p left) (Reply.Loaded r) fit so few of = (tt, tt)
    answered_names from (Voting p left) (Reply.Activated r) fit so few of = (tt, tt)
    answered_names from (Voting p left) (Reply.Noted r) fit so few of = (tt, tt)
    answered_names from (Voting p left) (Reply.Invoked r) fit so few of = (tt, tt)
    answered_names from (Voting p left) (Reply.Prepared r) fit so few of = (tt, tt)
    answered_names from (Voting p left) (Reply.Confirmed r) fit so few of = (tt, tt)
    answered_names from (Preparing p left) (Reply.Bound r) fit so few of = (tt, tt)
    answered_names from (Preparing p left) (Reply.Loaded r) fit so few of = (tt, tt)
    answered_names from (Preparing p left) (Reply.Activated r) fit so few of = (tt, tt)
    answered_names from (Preparing p left) (Reply.Noted r) fit so few of = (tt, tt)
    answered_names from (Preparing p left) (Reply.Invoked r) fit so few of = (tt, tt)
    answered_names from (Preparing p left) (Reply.Voted r) fit so few of = (tt, tt)
    answered_names from (Preparing p left) (Reply.Confirmed r) fit so few of = (tt, tt)
    answered_names from (Confirming p) (Reply.Bound r) fit so few of = (tt, tt)
    answered_names from (Confirming p) (Reply.Loaded r) fit so few of = (tt, tt)
    answered_names from (Confirming p) (Reply.Activated r) fit so few of = (tt, tt)
    answered_names from (Confirming p) (Reply.Noted r) fit so few of = (tt, tt)
    answered_names from (Confirming p) (Reply.Invoked r) fit so few of = (tt, tt)
    answered_names from (Confirming p) (Reply.Voted r) fit so few of = (tt, tt)
    answered_names from (Confirming p) (Reply.Prepared r) fit so few of = (tt, tt)

-- ---- what a coordinator knows

-- an answer that it hears names such
abbrev pub CameFits : (Uid → Type 0) → Came → Type 0
CameFits U (Hears from a r intents) = ReplyFits r × ReplySo U r
CameFits U came = ⊤

-- the objects that its calls are about are such, and its commits mark few
pub record KnowsObjects (c : Coord) : Type 0 where
  pub calls : (u : Uid) (d : Doing) (s : Steps) → doing_of u c ≡ Some d → d.now ≡ Calling s → IsObject s.x
  pub commits : (u : Uid) (d : Doing) (m : Machine) → doing_of u c ≡ Some d → d.now ≡ Committing m → IsFew u m × IsOfFew m

-- ---- calls

module _ (U : Uid → Type 0) where
  -- where a call ends with a conflict, the holder is such
  abbrev EndSo : CallEnd → Type 0
  EndSo (Conflict holder m n) = U holder
  EndSo e = ⊤

  abbrev CallSo : CallStep → Type 0
  CallSo (On at) = ⊤
  CallSo (Ended e) = EndSo e

  bound_by_so : (free : Bool) (k : Known) (at : At) (kept : Option Known) → CallSo (let m = bound_by free k at kept in m.step)
  bound_by_so free k at None = tt
  bound_by_so free k at (Some old) = by (binding_eq old.binding k.binding)
    where
      with_so : (i : ℕ) (o : Option ℕ) → CallSo (let m = with_inc i (named_again old k) at o in m.step)
      with_so i None = tt
      with_so i (Some first) = one (first == i)
        where
          one : (b : Bool) → CallSo (let m = cond {A = Moved} b (moves (Some (named_again old k)) at)
              (finds (Some (named_again old k)) (Changed (let z = named_again old k in z.server) (two_incs first i))) in m.step)
          one true = tt
          one false = tt

      same : (o : Option ℕ) → CallSo (let m = same_binding old k at o in m.step)
      same None = tt
      same (Some i) = with_so i old.inc

      other : (b : Bool) → CallSo (let m = cond {A = Moved} b (moves (Some k) at)
          (finds (Some old) (Changed 1 (two_bindings old.binding k.binding))) in m.step)
      other true = tt
      other false = tt

      by : (b : Bool) → CallSo (let m = cond {A = Moved} b (same_binding old k at k.inc) (other_binding free old k at) in m.step)
      by true = same k.inc
      by false = other (free && binding_less old.binding k.binding)

  bound_so : (free : Bool) (kept : Option Known) (r : BoundReply) → BoundSo U r → CallSo (let m = bound_answer free kept r in m.step)
  bound_so free kept (bound.Live b server i g stores) so =
      bound_by_so free (live_known b server i g stores) (AtInvoke (live_known b server i g stores) i) kept
  bound_so free kept (bound.Make b server g stores) so = by (load_from (made_known b server g stores) stores)
    where
      by : (o : Option At) → CallSo (let m = made_by free (made_known b server g stores) kept o in m.step)
      by None = tt
      by (Some at) = bound_by_so free (made_known b server g stores) at kept
  bound_so free kept (bound.Write g stores) so = by (load_from (write_known g stores) stores)
    where
      by : (o : Option At) → CallSo (let m = or_lost kept o in m.step)
      by None = tt
      by (Some at) = tt
  bound_so free kept (bound.Conflict holder m) so = so

  loaded_so : (kept : Option Known) (k : Known) (s : ℕ) (g : Goal) (r : LoadedReply) → LoadedSo U r →
      CallSo (let m = loaded_answer kept k s g r in m.step)
  loaded_so kept k s (Run o) (loaded.State st) so = tt
  loaded_so kept k s (Include n) (loaded.State st) so = tt
  loaded_so kept k s g (loaded.InDoubt holder) so = so

  activated_so : (k : Known) (i : ℕ) (kept : Option Known) → CallSo (let m = activated_by k i kept in m.step)
  activated_so k i None = tt
  activated_so k i (Some old) = by (binding_eq old.binding k.binding)
    where
      with_so : (o : Option ℕ) → CallSo (let m = with_inc i old (AtNote k i) o in m.step)
      with_so None = tt
      with_so (Some first) = one (first == i)
        where
          one : (b : Bool) → CallSo (let m = cond {A = Moved} b (moves (Some old) (AtNote k i))
              (finds (Some old) (Changed old.server (two_incs first i))) in m.step)
          one true = tt
          one false = tt

      by : (b : Bool) → CallSo (let m = cond {A = Moved} b (with_inc i old (AtNote k i) old.inc) (moves (Some old) (AtNote k i)) in m.step)
      by true = with_so old.inc
      by false = tt

  noted_so : (kept : Option Known) (k : Known) (i : ℕ) (r : RecordedReply) → CallSo (let m = recorded_answer kept k i r in m.step)
  noted_so kept k i recorded.Yes = tt
  noted_so kept k i (recorded.Changed w) = tt

  invoked_so : (kept : Option Known) (k : Known) (r : InvokedReply) → InvokedSo U r → CallSo (let m = invoked_answer kept k r in m.step)
  invoked_so kept k (invoked.Answered a) so = tt
  invoked_so kept k (invoked.Conflict holder m) so = so
  invoked_so kept k (invoked.Changed w) so = tt

  call_so : (free : Bool) (kept : Option Known) (g : Goal) (at : At) (r : Reply) → ReplySo U r →
      CallSo (let m = answered free kept g at r in m.step)
  call_so free kept g (AtBind avoid) (Reply.Bound r) so = bound_so free kept r so
  call_so free kept g (AtLoad k s rest) (Reply.Loaded r) so = loaded_so kept k s g r so
  call_so free kept g (AtActivate k st) (Reply.Activated i) so = activated_so k i kept
  call_so free kept g (AtNote k i) (Reply.Noted r) so = noted_so kept k i r
  call_so free kept g (AtInvoke k i) (Reply.Invoked r) so = invoked_so kept k r so
  call_so free kept g (AtBind avoid) (Reply.Loaded r) so = tt
  call_so free kept g (AtBind avoid) (Reply.Activated r) so = tt
  call_so free kept g (AtBind avoid) (Reply.Noted r) so = tt
  call_so free kept g (AtBind avoid) (Reply.Invoked r) so = tt
  call_so free kept g (AtBind avoid) (Reply.Voted r) so = tt
  call_so free kept g (AtBind avoid) (Reply.Prepared r) so = tt
  call_so free kept g (AtBind avoid) (Reply.Confirmed r) so = tt
  call_so free kept g (AtLoad k s rest) (Reply.Bound r) so = tt
  call_so free kept g (AtLoad k s rest) (Reply.Activated r) so = tt
  call_so free kept g (AtLoad k s rest) (Reply.Noted r) so = tt
  call_so free kept g (AtLoad k s rest) (Reply.Invoked r) so = tt
  call_so free kept g (AtLoad k s rest) (Reply.Voted r) so = tt
  call_so free kept g (AtLoad k s rest) (Reply.Prepared r) so = tt
  call_so free kept g (AtLoad k s rest) (Reply.Confirmed r) so = tt
  call_so free kept g (AtActivate k st) (Reply.Bound r) so = tt
  call_so free kept g (AtActivate k st) (Reply.Loaded r) so = tt
  call_so free kept g (AtActivate k st) (Reply.Noted r) so = tt
  call_so free kept g (AtActivate k st) (Reply.Invoked r) so = tt
  call_so free kept g (AtActivate k st) (Reply.Voted r) so = tt
  call_so free kept g (AtActivate k st) (Reply.Prepared r) so = tt
  call_so free kept g (AtActivate k st) (Reply.Confirmed r) so = tt
  call_so free kept g (AtNote k i) (Reply.Bound r) so = tt
  call_so free kept g (AtNote k i) (Reply.Loaded r) so = tt
  call_so free kept g (AtNote k i) (Reply.Activated r) so = tt
  call_so free kept g (AtNote k i) (Reply.Invoked r) so = tt
  call_so free kept g (AtNote k i) (Reply.Voted r) so = tt
  call_so free kept g (AtNote k i) (Reply.Prepared r) so = tt
  call_so free kept g (AtNote k i) (Reply.Confirmed r) so = tt
  call_so free kept g (AtInvoke k i) (Reply.Bound r) so = tt
  call_so free kept g (AtInvoke k i) (Reply.Loaded r) so = tt
  call_so free kept g (AtInvoke k i) (Reply.Activated r) so = tt
  call_so free kept g (AtInvoke k i) (Reply.Noted r) so = tt
  call_so free kept g (AtInvoke k i) (Reply.Voted r) so = tt
  call_so free kept g (AtInvoke k i) (Reply.Prepared r) so = tt
  call_so free kept g (AtInvoke k i) (Reply.Confirmed r) so = tt

  gives_up_so : (at : At) → CallSo (given_up at)
  gives_up_so (AtBind avoid) = tt
  gives_up_so (AtLoad k s []) = tt
  gives_up_so (AtLoad k s (t ∷ ts)) = tt
  gives_up_so (AtActivate k st) = tt
  gives_up_so (AtNote k i) = tt
  gives_up_so (AtInvoke k i) = tt

pub one_of : {A : Type 0} (P : A → Type 0) (xs : List A) (a : A) → AllByRecursion P xs → In a xs → P a
one_of P [] a all i = absurd i
one_of P (x ∷ xs) a all (inl is) = subst P is all.0
one_of P (x ∷ xs) a all (inr i) = one_of P xs a all.1 i

module _ (U : Uid → Type 0) where
  end_names : (x : ℕ) (g : Goal) (e : CallEnd) (l : Label) → IsObject x → EndSo U e → NamesObjects U (end_line x g e l)
  end_names x (Run o) (Answered a) l is so = is
  end_names x (Include s) (Answered a) l is so = is
  end_names x g (Included st) l is so = is
  end_names x g (Conflict holder m n) l is so = so
  end_names x g (Changed n w) l is so = tt
  end_names x g (Lost n sent) l is so = tt

  turn_object : {c : Coord} {came : Came} {s : Steps} {t : _} {e : Coord} → KnowsObjects c → CallTurn c came s t e → IsObject s.x
  turn_object {c} k (Answers from a r intents d s found is waits) = k.calls a.act d s found is
  turn_object k (GivesUp l b intents d s named found is) = k.calls _ d s found is

  turn_ends : {c : Coord} {came : Came} {s : Steps} {t : CallStep} {e : Coord} → CameFits U came → CallTurn c came s t e → CallSo U t
  turn_ends {c} fits (Answers from a r intents d s found is waits) =
      call_so U (is_free (root_of s.path) (actor s.path) s.x c) (kept_at s c) s.goal s.at r fits.1
  turn_ends fits (GivesUp l b intents d s named found is) = gives_up_so U s.at

  turn_names : {c : Coord} {came : Came} {u : Uid} {t : Marked} → KnowsObjects c → CameFits U came → CommitTurn c came u t → TurnNames U t
  turn_names {c} k fits (BeginsCommit l b intents named going top plain) =
      begin_names U (plan_for b.path (last_req (doing_of (actor b.path) c)) (root_at (root_of b.path) c) c)
  turn_names k fits (AnswersCommit from a r intents d m found is waits) =
      let f = k.commits a.act d m found is in answered_names U a.act from m r fits.0 fits.1 f.0 f.1
  turn_names k fits (GivesCommitUp l b intents d m named found is) =
      let f = k.commits (actor b.path) d m found is in given_names U (actor b.path) m f.0 f.1

  ends_names : {c : Coord} {came : Came} {u : Uid} {how : _} {f : Label → Body} → KnowsObjects c → CameFits U came → Ends c came u how f →
      (l : Label) → NamesObjects U (f l)
  ends_names k fits (EndsNested m b intents named going nested) l = tt
  ends_names k fits (EndsSerial m b intents named going serial) l = tt
  ends_names k fits (EndsDoomed m b intents named doomed) l = tt
  ends_names k fits (EndsAsked m b intents u named below) l = tt
  ends_names k fits (EndsFailed u t why p turn is) l = subst (StepNames U) is (turn_names k fits turn).1
  ends_names k fits (EndsDecided u p decided) l = tt

  lines_name : {c : Coord} {came : Came} {u : Uid} {f : Label → Body} → KnowsObjects c → CameFits U came → Lines c came u f → (l : Label) →
      NamesObjects U (f l)
  lines_name k fits (CallEnds s t e g turn is) l = end_names s.x s.goal g l (turn_object k turn) (subst (CallSo U) is (turn_ends fits turn))
  lines_name k fits (Excludes u t m turn marked) l = one_of OfObject t.marks m (turn_names k fits turn).0 marked
  lines_name k fits (GaveUpCall m b intents d s named found is) l = tt
  lines_name k fits (GaveUpCommit m b intents d w n named found is given) l = tt
  lines_name k fits (CommitBegins m b intents named going top plain) l = tt
  lines_name k fits (ActionEnds u how f ends) l = ends_names k fits ends l

  out_names : {c : Coord} {came : Came} (e : Coord) (x : Effect) → KnowsObjects c → CameFits U came → Out c came e x → SaidIn (NamesObjects U) x
  out_names e x k fits (trace.Says u f d g lines found) = lines_name k fits lines d.label
  out_names e x k fits (trace.SaysBegan l how parent intents) = tt
  out_names e x k fits (trace.TellsNested u how f b n g ends so at nested sent) = tt
  out_names e x k fits (trace.TellsSerial u how f b n g ends so at serial sent off) = tt
  out_names e x k fits (trace.TellsTop u how f b n g ends so at top plain sent) = tt
  out_names e x k fits (trace.PutsRecord u p decided has) = tt
  out_names e x k fits (trace.TellsCommitted u p n g decided sent took) = tt
  out_names e x k fits (trace.TellsLeft u p n g decided sent off) = tt
  out_names e x k fits (trace.RemovesRecord from u intents i at has none) = tt
  out_names e x k fits (trace.TellsLetGo from u intents i n g at over let_go) = tt
  out_names e x k fits (trace.AsksIt p req n a g asks) = tt

  -- all that it says
  pub trace_names : {c : Coord} {came : Came} {e g : Coord} {outs : List Effect} → KnowsObjects c → CameFits U came → Trace c came e outs g →
      AllByRecursion (SaidIn (NamesObjects U)) outs
  trace_names {c} {came} k fits t =
      (trace_says (λ (z : Coord). ⊤) (λ a b m h. h) (SaidIn (NamesObjects U)) (λ z x o h. out_names z x k fits o) t tt).1
