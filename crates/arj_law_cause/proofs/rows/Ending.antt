-- How calls and includes end at a coordinator: by an answer that it takes, or given up.
use Rattle.arj_law_parts.proofs.Words
use Words.{⊎_elim, ◌≡◌, ◌⊎◌, inl, inr, subst, What, ◌∙◌, ◌++◌, ◌&&◌, ◌==◌, ℕ, Bool, true, false, cond, List, [], ◌∷◌, Option, Some, None}
use Words.{refl, sym, ap, ⊤}
use Words.{option_map}
use Words.{Ask, Asked, Binding, BoundReply, End, Head, Kind, Label, Message, Mode, ObjectState, Uid}
use Words.{asks, object, Reply, actor, answers, answered, end_line, gaveup_lines, give_up, give_up_doing, gives_up}
use Words.{heard, heard_by, heard_call, heard_doing, heard_none, heard_now, kept_at, moved_commit, next_node, root_lost, root_moved}
use Words.{step_call}
use Words.{waits_for_call, waits_for_commit, Answered, At, AtActivate, AtBind, AtInvoke, AtLoad, AtNote, CallEnd, CallStep, Changed}
use Words.{Conflict}
use Words.{Ended, Goal, Include, Included, Known, Lost, Moved, On, Run, Steps, given_up, Calling, Committing, Coord, Doing, Idle, Now}
use Words.{doing_of}
use Words.{is_free, on_root, Disk, Effect, Intent, Say, Served, say_for, says, root_of, nodes_given_up, acked, acked_by, acked_left}
use Words.{Input, acts, branch_named, on_branch, call, include, commit_action, abort_action, Branch, at_uid, has, without_number, held_at}
use Words.{holder_of}
use Words.{is_prepared, prepare_answer, Already, InDoubt, Old, Prep, Ready, Naming, Handled, Parts, Took, Void, by_reply, confirm, handle}
use Words.{handle_answer, handle_ask, handle_ends, handle_other, if_naming, last_end, load_by, load_held, prepare_by, sends_answer, serve}
use Words.{with_coord, with_naming, with_server}
use Words.ask
use Words.body
use Words.bound
use Words.calls
use Words.commit
use Words.input
use Words.invoked
use Words.loaded
use Words.message
use Words.mode
use Words.naming
use Words.prepared
use Words.recorded
use Words.server
use Words.{activated_by, bound_by, finds, made_known, moves, named_again, other_binding, same_binding}
use Words.{two_incs}
use Words.{with_inc, binding_eq, binding_less}
use Rattle.arj_law_lock_view.proofs.asking.Dumb.{abort_dumb, commit_dumb, dumb_both, gaveup_dumb, moved_dumb}
use Rattle.arj_law_lock_view.specs.asking.Turns.{AreDumb, AreLined, Ends, Rests, Turns, calling}

some_inc : (i j : ℕ) → Some i ≡ Some j → i ≡ j
some_inc i j is = let k : ◌≡◌ {A = Option ℕ} (Some i) (Some j) = is in cc

no_inc : {P : Type 0} (i : ℕ) → None ≡ Some i → P
no_inc i is = let no_way : ◌≡◌ {A = Option ℕ} None (Some i) = is in absurd (cc no_way)

-- ---- a step and an answer to it

-- a conflict is what naming answered to a Bind, a store to a Load, or a server to an Invoke
pub data IsConflict (at : At) (r : Reply) (u : Uid) (m : Mode) (n : ℕ) : Type 0 where
  ByNaming : (avoid : Binding) → at ≡ AtBind avoid → r ≡ Reply.Bound (bound.Conflict u m) → n ≡ 1 → IsConflict at r u m n
  ByStore : (k : Known) (s : ℕ) (rest : List ℕ) → at ≡ AtLoad k s rest → r ≡ Reply.Loaded (loaded.InDoubt u) → m ≡ mode.Write → n ≡ s →
      IsConflict at r u m n
  ByServer : (k : Known) (i : ℕ) → at ≡ AtInvoke k i → r ≡ Reply.Invoked (invoked.Conflict u m) → n ≡ k.server → IsConflict at r u m n

-- the step loads
abbrev pub is_load : At → Bool
is_load (AtLoad k s rest) = true
is_load _ = false

-- the root keeps another binding than this
abbrev pub IsOther : Option Known → Binding → ℕ → What → Type 0
IsOther kept b n w = (old : Known) × (kept ≡ Some old) × (binding_eq old.binding b ≡ false) × (n ≡ 1) × (w ≡ calls.two_bindings
    old.binding b)

-- it keeps this binding, with another incarnation of the server
abbrev pub IsOtherInc : Option Known → Binding → ℕ → ℕ → What → Type 0
IsOtherInc kept b i n w = (old : Known) × (first : ℕ) × (kept ≡ Some old) × (binding_eq old.binding b ≡ true) × (n ≡ old.server)
    × (old.inc ≡ Some first) × ((first == i) ≡ false) × (w ≡ two_incs first i)

-- A change is what naming's answer to a Bind, or to a Record, showed, or a server's answer to an Activate, under the binding that the root
-- keeps, or to an Invoke.
pub data IsChange (kept : Option Known) (at : At) (r : Reply) (n : ℕ) (w : What) : Type 0 where
  OnLive : (avoid b : Binding) (server i g : ℕ) (stores : List ℕ) → at ≡ AtBind avoid → r ≡ Reply.Bound (bound.Live b server i g stores) →
      IsOther kept b n w ⊎ IsOtherInc kept b i n w → IsChange kept at r n w
  OnMake : (avoid b : Binding) (server g : ℕ) (stores : List ℕ) → at ≡ AtBind avoid → r ≡ Reply.Bound (bound.Make b server g stores) →
      IsOther kept b n w → IsChange kept at r n w
  OnActivate : (k : Known) (st : ObjectState) (i : ℕ) → at ≡ AtActivate k st → r ≡ Reply.Activated i → IsOtherInc kept k.binding i n w →
      IsChange kept at r n w
  OnNote : (k : Known) (i : ℕ) → at ≡ AtNote k i → r ≡ Reply.Noted (recorded.Changed w) → n ≡ 1 → IsChange kept at r n w
  OnInvoke : (k : Known) (i : ℕ) → at ≡ AtInvoke k i → r ≡ Reply.Invoked (invoked.Changed w) → n ≡ k.server → IsChange kept at r n w

-- an answer that goes on to load names no store
abbrev pub HasNone : BoundReply → Type 0
HasNone (bound.Make b server g stores) = stores ≡ []
HasNone (bound.Write g stores) = stores ≡ []
HasNone q = ⊥

-- the answer ends the step so
abbrev pub EndsBy : Option Known → Goal → At → Reply → CallEnd → Type 0
EndsBy kept goal at r (Answered a) = (k : Known) × (i : ℕ) × (at ≡ AtInvoke k i) × (r ≡ Reply.Invoked (invoked.Answered a))
EndsBy kept goal at r (Included st) = (n : ℕ) × (goal ≡ Include n) × (is_load at ≡ true)
EndsBy kept goal at r (Conflict u m n) = IsConflict at r u m n
EndsBy kept goal at r (Changed n w) = IsChange kept at r n w
EndsBy kept goal at r (Lost n b) = (q : BoundReply) × (r ≡ Reply.Bound q) × HasNone q

-- where it ends it
abbrev StepEnds : Option Known → Goal → At → Reply → CallStep → Type 0
StepEnds kept goal at r (On next) = ⊤
StepEnds kept goal at r (Ended e) = EndsBy kept goal at r e

-- the call goes on, or has changed so
abbrev MayChange : (ℕ → What → Type 0) → CallStep → Type 0
MayChange P (On next) = ⊤
MayChange P (Ended (Changed n w)) = P n w
MayChange P (Ended e) = ⊥

change_ends : (P : ℕ → What → Type 0) (kept : Option Known) (goal : Goal) (at : At) (r : Reply) (s : CallStep) →
    ((n : ℕ) (w : What) → P n w → IsChange kept at r n w) → MayChange P s → StepEnds kept goal at r s
change_ends P kept goal at r (On next) change may = tt
change_ends P kept goal at r (Ended (Changed n w)) change may = change n w may
change_ends P kept goal at r (Ended (Answered a)) change may = absurd may
change_ends P kept goal at r (Ended (Included st)) change may = absurd may
change_ends P kept goal at r (Ended (Conflict u m n)) change may = absurd may
change_ends P kept goal at r (Ended (Lost n b)) change may = absurd may

-- another incarnation was known
inc_changes : (P : ℕ → What → Type 0) (i : ℕ) (q : Known) (at : At) (o : Option ℕ) →
    ((first : ℕ) → o ≡ Some first → (first == i) ≡ false → P q.server (two_incs first i)) → MayChange P (with_inc i q at o).step
inc_changes P i q at None so = tt
inc_changes P i q at (Some first) so = by (first == i) refl
  where
    by : (b : Bool) → (first == i) ≡ b →
        MayChange P (cond {A = Moved} b (moves (Some q) at) (finds (Some q) (Changed q.server (two_incs first i)))).step
    by true e = tt
    by false e = so first refl e

-- what a binding changes that naming answered, with this incarnation
abbrev Binds : Option Known → Known → ℕ → What → Type 0
Binds kept k n w = IsOther kept k.binding n w ⊎ ((i : ℕ) × (k.inc ≡ Some i) × IsOtherInc kept k.binding i n w)

bound_changes : (free : Bool) (k : Known) (at : At) (o : Option Known) → MayChange (Binds o k) (bound_by free k at o).step
bound_changes free k at None = tt
bound_changes free k at (Some old) = by (binding_eq old.binding k.binding) refl
  where
    same : binding_eq old.binding k.binding ≡ true → (o : Option ℕ) → k.inc ≡ o → MayChange (Binds (Some old) k) (same_binding old k at
        o).step
    same e None is = tt
    same e (Some i) is = inc_changes (Binds (Some old) k) i (named_again old k) at old.inc
        (λ first keeps off. inr (i, is, (old, first, refl, e, refl, keeps, off, refl)))

    other : binding_eq old.binding k.binding ≡ false → (b : Bool) → MayChange (Binds (Some old) k) (cond {A = Moved} b (moves (Some k) at)
        (finds (Some old) (Changed 1 (calls.two_bindings old.binding k.binding)))).step
    other e true = tt
    other e false = inl (old, refl, e, refl, refl)

    by : (b : Bool) → binding_eq old.binding k.binding ≡ b →
        MayChange (Binds (Some old) k) (cond {A = Moved} b (same_binding old k at k.inc) (other_binding free old k at)).step
    by true e = same e k.inc refl
    by false e = other e (free && binding_less old.binding k.binding)

activated_ends : (g : Goal) (k : Known) (st : ObjectState) (i : ℕ) (kept : Option Known) →
    StepEnds kept g (AtActivate k st) (Reply.Activated i) (activated_by k i kept).step
activated_ends g k st i None = tt
activated_ends g k st i (Some old) =
    change_ends Other (Some old) g (AtActivate k st) (Reply.Activated i) (activated_by k i (Some old)).step
    (λ n w other. OnActivate k st i refl refl other) (by (binding_eq old.binding k.binding) refl)
  where
    Other : ℕ → What → Type 0
    Other n w = IsOtherInc (Some old) k.binding i n w

    by : (b : Bool) → binding_eq old.binding k.binding ≡ b →
        MayChange Other (cond {A = Moved} b (with_inc i old (AtNote k i) old.inc) (moves (Some old) (AtNote k i))).step
    by true e = inc_changes Other i old (AtNote k i) old.inc (λ first keeps off. (old, first, refl, e, refl, keeps, off, refl))
    by false e = tt

-- naming's answers
live_change : (kept : Option Known) (avoid b : Binding) (server i g : ℕ) (stores : List ℕ) (n : ℕ) (w : What) →
    Binds kept (calls.live_known b server i g stores) n w →
    IsChange kept (AtBind avoid) (Reply.Bound (bound.Live b server i g stores)) n w
live_change kept avoid b server i g stores n w (inl other) = OnLive avoid b server i g stores refl refl (inl other)
live_change kept avoid b server i g stores n w (inr (j, is, other)) = OnLive avoid b server i g stores refl refl
    (inr (subst (λ z. IsOtherInc kept b z n w) (sym (some_inc i j is)) other))

make_change : (kept : Option Known) (avoid b : Binding) (server g : ℕ) (stores : List ℕ) (n : ℕ) (w : What) →
    Binds kept (made_known b server g stores) n w → IsChange kept (AtBind avoid) (Reply.Bound (bound.Make b server g stores)) n w
make_change kept avoid b server g stores n w (inl other) = OnMake avoid b server g stores refl refl other
make_change kept avoid b server g stores n w (inr (j, is, other)) = absurd (no_inc j is)

ends_by : (free : Bool) (kept : Option Known) (g : Goal) (at : At) (r : Reply) → StepEnds kept g at r (answered free kept g at r).step
ends_by free kept g (AtBind avoid) (Reply.Bound (bound.Live b server i given stores)) =
    change_ends (Binds kept (calls.live_known b server i given stores)) kept g (AtBind avoid)
    (Reply.Bound (bound.Live b server i given stores))
    (answered free kept g (AtBind avoid) (Reply.Bound (bound.Live b server i given stores))).step
    (live_change kept avoid b server i given stores)
    (bound_changes free (calls.live_known b server i given stores) (AtInvoke (calls.live_known b server i given stores) i) kept)
ends_by free kept g (AtBind avoid) (Reply.Bound (bound.Make b server given [])) = (bound.Make b server given [], refl, refl)
ends_by free kept g (AtBind avoid) (Reply.Bound (bound.Make b server given (s ∷ stores))) =
    change_ends (Binds kept (made_known b server given (s ∷ stores))) kept g (AtBind avoid)
    (Reply.Bound (bound.Make b server given (s ∷ stores)))
    (bound_by free (made_known b server given (s ∷ stores)) (AtLoad (made_known b server given (s ∷ stores)) s stores) kept).step
    (make_change kept avoid b server given (s ∷ stores))
    (bound_changes free (made_known b server given (s ∷ stores)) (AtLoad (made_known b server given (s ∷ stores)) s stores) kept)
ends_by free kept g (AtBind avoid) (Reply.Bound (bound.Write given [])) = (bound.Write given [], refl, refl)
ends_by free kept g (AtBind avoid) (Reply.Bound (bound.Write given (s ∷ stores))) = tt
ends_by free kept g (AtBind avoid) (Reply.Bound (bound.Conflict u m)) = ByNaming avoid refl refl refl
ends_by free kept g (AtLoad k s rest) (Reply.Loaded (loaded.State st)) = by g
  where
    by : (g : Goal) → StepEnds kept g (AtLoad k s rest) (Reply.Loaded (loaded.State st)) (calls.loaded_state kept k st g).step
    by (Run o) = tt
    by (Include n) = (n, refl, refl)
ends_by free kept g (AtLoad k s rest) (Reply.Loaded (loaded.InDoubt u)) = ByStore k s rest refl refl refl refl
ends_by free kept g (AtActivate k st) (Reply.Activated i) = activated_ends g k st i kept
ends_by free kept g (AtNote k i) (Reply.Noted recorded.Yes) = tt
ends_by free kept g (AtNote k i) (Reply.Noted (recorded.Changed w)) = OnNote k i refl refl refl
ends_by free kept g (AtInvoke k i) (Reply.Invoked (invoked.Answered a)) = (k, i, refl, refl)
ends_by free kept g (AtInvoke k i) (Reply.Invoked (invoked.Conflict u m)) = ByServer k i refl refl refl
ends_by free kept g (AtInvoke k i) (Reply.Invoked (invoked.Changed w)) = OnInvoke k i refl refl refl
ends_by free kept g at r = tt

-- ---- what a coordinator says

-- No call or include is answered; or one is, by the last effect, behind lines, for a reason.
pub data Says (Why : Uid → Doing → Steps → CallEnd → List Effect → Type 0) (c : Coord) (outs : List Effect) : Type 0 where
  Nothing : AreDumb outs → Says Why c outs
  Ending : (u : Uid) (d : Doing) (s : Steps) (g : CallEnd) (front : List Effect) → doing_of u c ≡ Some d → d.now ≡ Calling s →
      AreLined front →
      outs ≡ front ++ Say (end_line s.x s.goal g d.label) ∷ [] → Why u d s g front → Says Why c outs

-- an answer was taken for which it waits
pub record Takes (c : Coord) (from : ℕ) (a : Asked) (r : Reply) (u : Uid) (s : Steps) (g : CallEnd) (front : List Effect) : Type 0 where
  pub alone : front ≡ []
  pub act : a.act ≡ u
  pub waits : waits_for_call from a r s ≡ true
  pub ends : EndsBy (kept_at s c) s.goal s.at r g

-- it took an answer
abbrev pub Heard : Coord → ℕ → Message → Uid → Doing → Steps → CallEnd → List Effect → Type 0
Heard c from m u w s g front = (a : Asked) × (r : Reply) × (answers m ≡ Some (a, r)) × Takes c from a r u s g front

-- it was given up, as the line before says
pub record GivesUp (v u : Uid) (d : Doing) (s : Steps) (g : CallEnd) (front : List Effect) : Type 0 where
  pub act : u ≡ v
  pub line : front ≡ Say (body.GaveUp d.label (next_node s)) ∷ []
  pub ends : given_up s.at ≡ Ended g

-- the input gives it up
abbrev pub GaveUp : Coord → Input → Uid → Doing → Steps → CallEnd → List Effect → Type 0
GaveUp c i u d s g front = (l : Label) × (b : Branch) × (i ≡ input.GiveUp l) × (branch_named l c ≡ Some b) × GivesUp
    (actor b.path) u d s g front

module _ (c : Coord) (busy : (u : Uid) (d : Doing) (s : Steps) → doing_of u c ≡ Some d → d.now ≡ Calling s → actor s.path ≡ u) where
  -- the line of an action that is there
  its_line : (u : Uid) (d : Doing) (s : Steps) (g : CallEnd) (e : Coord) → doing_of u c ≡ Some d → d.now ≡ Calling s →
      doing_of u e ≡ Some d →
      says (actor s.path) (end_line s.x s.goal g) e ≡ Say (end_line s.x s.goal g d.label) ∷ []
  its_line u d s g e found is there =
      ap (say_for (end_line s.x s.goal g)) (ap (λ v. doing_of v e) (busy u d s found is) ∙ there)

  pub heard_says : (from : ℕ) (a : Asked) (r : Reply) (intents : List (Uid × Intent)) →
      Says (λ u d s g front. Takes c from a r u s g front) c (heard from a r intents c).outs
  heard_says from a r intents = by (doing_of a.act c) refl
    where
      Out : List Effect → Type 0
      Out outs = Says (λ u d s g front. Takes c from a r u s g front) c outs

      now : (d : Doing) → doing_of a.act c ≡ Some d → (n : Now) → d.now ≡ n → Out (heard_now from a r intents c n).outs
      now d found Idle is = Nothing tt
      now d found (Calling s) is = one (waits_for_call from a r s) refl
        where
          stepped : waits_for_call from a r s ≡ true → (n : CallStep) → StepEnds (kept_at s c) s.goal s.at r n →
              Out (step_call s n (on_root (root_of s.path)
              (root_moved s r (answered (is_free (root_of s.path) (actor s.path) s.x c) (kept_at s c) s.goal s.at r)) c)).outs
          stepped waits (On next) ends = Nothing (tt, tt)
          stepped waits (Ended g) ends = Ending a.act d s g [] found is tt (its_line a.act d s g
              (on_root (root_of s.path) (root_moved s r (answered (is_free (root_of s.path) (actor s.path) s.x c)
              (kept_at s c) s.goal s.at r)) c)
              found is found)
              (record { alone = refl; act = refl; waits = waits; ends = ends })

          one : (w : Bool) → waits_for_call from a r s ≡ w →
              Out (cond {A = Served Coord (Unit {0})} w (heard_by (heard_call s r c)) (heard_none c)).outs
          one true waits = stepped waits (answered (is_free (root_of s.path) (actor s.path) s.x c) (kept_at s c) s.goal s.at r).step
              (ends_by (is_free (root_of s.path) (actor s.path) s.x c) (kept_at s c) s.goal s.at r)
          one false waits = Nothing tt
      now d found (Committing m) is = one (waits_for_commit from a r m)
        where
          one : (w : Bool) → Out (cond {A = Served Coord (Unit {0})} w (heard_by (moved_commit a.act (commit.answered from m r) intents c))
              (heard_none c)).outs
          one true = Nothing (moved_dumb a.act (commit.answered from m r) intents c)
          one false = Nothing tt

      by : (o : Option Doing) → doing_of a.act c ≡ o → Out (heard_doing from a r intents c o).outs
      by None is = Nothing tt
      by (Some d) is = now d is d.now refl

  give_says : (u : Uid) (intents : List (Uid × Intent)) → Says (λ v d s g front. GivesUp u v d s g front) c (give_up u intents c).outs
  give_says u intents = by (doing_of u c) refl
    where
      Out : List Effect → Type 0
      Out outs = Says (λ v d s g front. GivesUp u v d s g front) c outs

      now : (d : Doing) → doing_of u c ≡ Some d → (n : Now) → d.now ≡ n → Out (gives_up u intents c n).outs
      now d found Idle is = Nothing tt
      now d found (Calling s) is = stepped (given_up s.at) refl
        where
          lines : gaveup_lines u (next_node s ∷ []) c ≡ Say (body.GaveUp d.label (next_node s)) ∷ []
          lines = ap (λ o. say_for (λ l. body.GaveUp l (next_node s)) o ++ []) found

          stepped : (n : CallStep) → given_up s.at ≡ n → Out (gaveup_lines u (next_node s ∷ []) c
              ++ (step_call s n (on_root (root_of s.path) (root_lost s (given_up s.at)) c)).outs)
          stepped (On next) ends = Nothing (dumb_both (gaveup_lines u (next_node s ∷ []) c)
              (step_call s (On next) (on_root (root_of s.path) (root_lost s (given_up s.at)) c)).outs
              (gaveup_dumb u (next_node s ∷ []) c) (tt, tt))
          stepped (Ended g) ends = Ending u d s g (Say (body.GaveUp d.label (next_node s)) ∷ []) found is (refl, tt)
              (λ i. lines i ++ its_line u d s g (on_root (root_of s.path) (root_lost s (given_up s.at)) c) found is found i)
              (record { act = refl; line = refl; ends = ends })
      now d found (Committing m) is = Nothing (dumb_both (gaveup_lines u (nodes_given_up m) c)
          (moved_commit u (commit.given_up m) intents c).outs (gaveup_dumb u (nodes_given_up m) c)
          (moved_dumb u (commit.given_up m) intents c))

      by : (o : Option Doing) → doing_of u c ≡ o → Out (give_up_doing u intents c o).outs
      by None is = Nothing tt
      by (Some d) is = now d is d.now refl

  -- what it does of an event: only a giveup answers anything
  pub acts_say : (i : Input) (intents : List (Uid × Intent)) → ((l : Label) (q : Kind) (p : Option Label) → i ≡ input.Begin l q p → ⊥) →
      Says (GaveUp c i) c (acts i intents c).outs
  acts_say (input.Begin l q p) intents other = absurd (other l q p refl)
  acts_say (input.Call l x o) intents other = by (branch_named l c)
    where
      by : (f : Option Branch) → Says (GaveUp c (input.Call l x o)) c (on_branch (λ b. call b.path x o c) c f).outs
      by None = Nothing tt
      by (Some b) = Nothing (tt, tt)
  acts_say (input.Include l x s) intents other = by (branch_named l c)
    where
      by : (f : Option Branch) → Says (GaveUp c (input.Include l x s)) c (on_branch (λ b. include b.path x s c) c f).outs
      by None = Nothing tt
      by (Some b) = Nothing (tt, tt)
  acts_say (input.Commit l) intents other = by (branch_named l c)
    where
      by : (f : Option Branch) → Says (GaveUp c (input.Commit l)) c (on_branch (λ b. commit_action b intents c) c f).outs
      by None = Nothing tt
      by (Some b) = Nothing (commit_dumb b intents c)
  acts_say (input.Abort l) intents other = by (branch_named l c)
    where
      by : (f : Option Branch) → Says (GaveUp c (input.Abort l)) c (on_branch (λ b. abort_action (actor b.path) intents c) c f).outs
      by None = Nothing tt
      by (Some b) = Nothing (abort_dumb (actor b.path) intents c)
  acts_say (input.GiveUp l) intents other = by (branch_named l c) refl
    where
      given : (b : Branch) → branch_named l c ≡ Some b → (outs : List Effect) →
          Says (λ v d s g front. GivesUp (actor b.path) v d s g front) c outs → Says (GaveUp c (input.GiveUp l)) c outs
      given b named outs (Nothing dumb) = Nothing dumb
      given b named outs (Ending u d s g front found is lined are why) =
          Ending u d s g front found is lined are (l, b, refl, named, why)

      by : (f : Option Branch) → branch_named l c ≡ f →
          Says (GaveUp c (input.GiveUp l)) c (on_branch (λ b. give_up (actor b.path) intents c) c f).outs
      by None named = Nothing tt
      by (Some b) named = given b named (give_up (actor b.path) intents c).outs (give_says (actor b.path) intents)
  acts_say i intents other = Nothing tt

-- ---- messages

-- who stays as it was answers nothing
rests : (c e : Coord) (outs : List Effect) → ((u : Uid) → doing_of u e ≡ doing_of u c) → Turns c outs e → AreDumb outs
rests c e outs same (Rests dumb came) = dumb
rests c e outs same (Ends u d s g front found is lined are after) =
    ⊎_elim {C = AreDumb outs} (λ q. absurd (busy q.2)) (λ q. absurd (q.0 refl)) (after u d (same u ∙ found))
  where
    busy : calling d.now ≡ None → ⊥
    busy none = let no_way : ◌≡◌ {A = Option Steps} (Some s) None = sym (ap calling is) ∙ none in cc no_way

module _ (k : ℕ) (d : Disk) (t : Parts) (from : ℕ) where
  -- what its actions are at stays as it was
  abbrev pub KeepsWorks : Handled → Type 0
  KeepsWorks (Void outs) = ⊤
  KeepsWorks (Took v outs) = (u : Uid) → doing_of u v.coord ≡ doing_of u t.coord

  sent_works : (h : Head) (v : Parts) (outs : List Effect) (o : Option Reply) → v.coord ≡ t.coord →
      KeepsWorks (sends_answer from h v outs o)
  sent_works h v outs None same = tt
  sent_works h v outs (Some r) same = λ u. ap (doing_of u) same

  with_it : (f : Naming → Handled) (o : Option Naming) → ((n : Naming) → KeepsWorks (f n)) → KeepsWorks (if_naming f o)
  with_it f None each = tt
  with_it f (Some n) each = each n

  pub asked_works : (h : Head) (a : Ask) → KeepsWorks (serve k d t from h a)
  asked_works h (ask.Bind x include avoid) = with_it _ t.naming (λ n. let r = naming.bind h.path x include avoid d.names n in
      sent_works h (with_naming t r.part) r.outs (option_map Reply.Bound r.reply) refl)
  asked_works h (ask.Load x) = load (holder_of (object x) d.store)
    where
      held : (s : Option ObjectState) → KeepsWorks (load_held from h t s)
      held None = tt
      held (Some s) = λ u. refl

      load : (o : Option Uid) → KeepsWorks (load_by x d.store from h t o)
      load (Some u) = λ w. refl
      load None = held (held_at (object x) d.store)
  asked_works h (ask.Activate b st) = let r = server.activate k h.path b st t.server in
      sent_works h (with_server t r.part) r.outs (option_map Reply.Activated r.reply) refl
  asked_works h (ask.Record x b i g) = with_it _ t.naming (λ n. let r = naming.note h.path x b i g n in
      sent_works h (with_naming t r.part) r.outs (option_map Reply.Noted r.reply) refl)
  asked_works h (ask.Invoke x b i ends o) = let r = server.invoke k h x b i ends o t.server in
      sent_works h (with_server t r.part) r.outs (option_map Reply.Invoked r.reply) refl
  asked_works h (ask.Vote i ties ends) = let r = server.vote k h.path i ties ends t.server in
      sent_works h (with_server t r.part) r.outs (option_map Reply.Voted r.reply) refl
  asked_works h (ask.Prepare states) = each (is_prepared (actor h.path) d.store)
    where
      new : (a : Prep) → KeepsWorks (prepare_by k states from h t a)
      new Ready = λ u. refl
      new (Already u) = tt
      new (Old u v) = λ w. refl
      new (InDoubt u holder) = λ w. refl

      each : (b : Bool) → KeepsWorks (cond b (sends_answer from h t [] (Some (Reply.Prepared prepared.Yes)))
          (prepare_by k states from h t (prepare_answer (actor h.path) states d.store)))
      each true = λ u. refl
      each false = new (prepare_answer (actor h.path) states d.store)
  asked_works h (ask.Confirm grants excluded included) = with_it _ t.naming
      (λ n. let r = confirm h.path grants excluded included d.names n in
      sent_works h (with_naming t r.part) r.outs (option_map Reply.Confirmed r.reply) refl)

  pub acked_works : (u w : Uid) (intents : List (Uid × Intent)) (c : Coord) → doing_of w (acked from u intents c).part ≡ doing_of w c
  acked_works u w intents c = by (at_uid u c.telling)
    where
      left : (i : Intent) (ns : List ℕ) → doing_of w (acked_left u i intents c ns).part ≡ doing_of w c
      left i [] = refl
      left i (n ∷ ns) = refl

      by : (o : Option Intent) → doing_of w (acked_by from u intents c o).part ≡ doing_of w c
      by None = refl
      by (Some i) = one (has i.nodes from)
        where
          one : (b : Bool) → doing_of w (cond {A = Served Coord (Unit {0})} b (acked_left u i intents c (without_number from i.nodes))
              (record { part = c; outs = []; reply = None })).part ≡ doing_of w c
          one true = left i (without_number from i.nodes)
          one false = refl

  ends_works : (ack : Bool) (ends : List (Uid × End)) (o : Option (Uid × End)) → KeepsWorks (handle_ends k d t from ack ends o)
  ends_works ack ends None = λ u. refl
  ends_works ack ends (Some e) = λ u. refl

  pub other_works : (m : Message) → KeepsWorks (handle_other k d t from m)
  other_works (message.Told m) = ends_works m.ack m.ends (last_end m.ends)
  other_works (message.Acked m) = by (let r = acked from m.act d.intents t.coord in r.reply)
    where
      by : (o : Option (Unit {0})) →
          KeepsWorks (by_reply (with_coord t (acked from m.act d.intents t.coord).part) (acked from m.act d.intents t.coord).outs o)
      by None = tt
      by (Some u) = λ w. acked_works m.act w d.intents t.coord
  other_works (message.Query m) = λ u. refl
  other_works (message.Hello m) = λ u. refl
  other_works m = tt

  -- the coordinator answers a call where it takes the answer for which that waits
  abbrev pub Said : Message → Handled → Type 0
  Said m (Void outs) = ⊤
  Said m (Took v outs) = Says (Heard t.coord from m) t.coord outs

  -- its calls go on
  abbrev pub TurnsTo : Handled → Type 0
  TurnsTo (Void outs) = ⊤
  TurnsTo (Took v outs) = Turns t.coord outs v.coord

  kept_says : (m : Message) (h : Handled) → KeepsWorks h → TurnsTo h → Said m h
  kept_says m (Void outs) works turns = tt
  kept_says m (Took v outs) works turns = Nothing (rests t.coord v.coord outs works turns)

  pub message_says : (m : Message) → ((u : Uid) (d : Doing) (s : Steps) → doing_of u t.coord ≡ Some d → d.now ≡ Calling s →
      actor s.path ≡ u) →
      TurnsTo (handle k d t from m) → Said m (handle k d t from m)
  message_says m busy turns = by (asks m) refl turns
    where
      took : (a : Asked) (r : Reply) → answers m ≡ Some (a, r) → (outs : List Effect) →
          Says (λ u w s g front. Takes t.coord from a r u s g front) t.coord outs → Says (Heard t.coord from m) t.coord outs
      took a r is outs (Nothing dumb) = Nothing dumb
      took a r is outs (Ending u w s g front found calls lined are why) = Ending u w s g front found calls lined are (a, r, is, why)

      answer : (o : Option (Asked × Reply)) → answers m ≡ o → TurnsTo (handle_answer k d t from m o) → Said m (handle_answer k d t from m o)
      answer None none turns = kept_says m (handle_other k d t from m) (other_works m) turns
      answer (Some a) some turns = replied (let q = heard from a.0 a.1 d.intents t.coord in q.reply)
        where
          replied : (o : Option (Unit {0})) → Said m (by_reply (with_coord t (heard from a.0 a.1 d.intents t.coord).part)
              (heard from a.0 a.1 d.intents t.coord).outs o)
          replied None = tt
          replied (Some u) = took a.0 a.1 some (heard from a.0 a.1 d.intents t.coord).outs (heard_says t.coord busy from a.0 a.1 d.intents)

      by : (o : Option (Head × Ask)) → asks m ≡ o → TurnsTo (handle_ask k d t from m o) → Said m (handle_ask k d t from m o)
      by None none turns = answer (answers m) refl turns
      by (Some a) some turns = kept_says m (serve k d t from a.0 a.1) (asked_works a.0 a.1) turns
