-- A whole coordinator goes in the machine: its calls and includes.
use Rattle.arj_law_parts.proofs.Words
use Words.{◌≡◌, ◌≢◌, ◌+◌, ◌*◌, ◌⊎◌, ◌∙◌, ◌==◌, ◌&&◌, ℕ, List, [], ◌∷◌, Bool, true, false, cond, Option, Some, None, refl, sym, ap, subst}
use Words.{inl, inr, ⊎_elim, arith, ObjectState, Op, Uid, What, uids_of, Reply, actor, top_of, again_all, again_now, call, call_steps}
use Words.{give_up_call, goes_on, heard_call, is_invoke_ask, kept_at, last_req, renewed, root_lost, root_moved, step_call, At, AtActivate}
use Words.{AtBind, AtInvoke, AtLoad, AtNote, CallEnd, CallStep, Ended, Include as IncludeStore, Included, Known, Moved, On, Run, Steps}
use Words.{answered, bound_by, given_up, named_again, next_ask, next_node, same_binding, two_bindings, two_incs, with_inc, Machine, plan_of}
use Words.{waiting, Calling, Committing, Coord, Doing, Idle, Keeping, Now, Went, doing_of, is_free, keeping_of, new_coord, on_root, root_at}
use Words.{with_keeping, with_went, Intent, Served, acked_by, acked_left, at_uid, binding_eq, binding_less, has, put_uid, unbound}
use Words.{without_number, without_uid, Branch, branch_of, ends_of, new_tree, root_of, uses_object}
use Words.bound
use Words.invoked
use Words.loaded
use Words.recorded
use Words.calls as protocol
use Rattle.arj_law_lock_view.proofs.Terms
use Terms.{Root as Unit_of, root, Run as MachineRun, stay, State, Paths, doing_by, uses_same, found_by, place_in, Acts, IsAtWork, IsReached}
use Terms.{OnlyCalled, WritesNone, Codes, Goes, IsLoading, SeesWhole, SeesCoord}
use Rattle.arj_law_lock_view.proofs.view
use view.{AskSteps.ticks_are_nothing, EndingSteps.same_end, GivingSteps.calls_are_given_up, HeardSteps.moves_asks, Looked.called_none}
use view.{InvokedSteps.answers_are_taken, PlanSteps.commits_stay_seen, StopSteps.restarted_coords_are_seen}
use view.BeginSteps.{calls_begin, same_coord}
use view.ElseSteps.{includes_begin, other_answers_are_taken, other_calls_are_given_up, other_calls_begin}
use view.EverSteps.{ever, on_run, reached_kept}
use view.IncludeSteps.{include_answers_are_taken, moves_on, moves_over, nobody, on_is, on_now, over_is}
use view.InputSteps.{to_run, whole_stays}
use view.MoveSteps.{Moves, grows_kept, grows_lost, grows_moved, grows_went, moves_both, moves_none, moves_root, moves_told, moves_tree}
use Rattle.arj_law_lock_view.specs.view.Including.{IsGranted}
use Rattle.arj_law_lock_view.specs.view.Inputs.{AcksAreTaken, CallAnswersAreHeard, CallsAreLost, CallsAreMade, IncludeAnswersAreHeard}
use Rattle.arj_law_lock_view.specs.view.Inputs.{IncludesAreMade, OtherAnswersAreHeard, OtherCallsAreLost, RestartsAreTaken, TicksAreTaken}

-- ---- a call never ends as an include

abbrev Never : Moved → Type 0
Never m = (st : ObjectState) → m.step ≢ Ended (Included st)

cond_never : (t : Bool) (m n : Moved) → Never m → Never n → Never (cond t m n)
cond_never true m n p q = p
cond_never false m n p q = q

moves_never : (kept : Option Known) (a : At) → Never (record { step = On a; kept = kept })
moves_never kept a st e = cc e

changed_never : (kept : Option Known) (n : ℕ) (w : What) → Never (record { step = Ended (protocol.Changed n w); kept = kept })
changed_never kept n w st e = cc e

inc_never : (i : ℕ) (k : Known) (a : At) (o : Option ℕ) → Never (with_inc i k a o)
inc_never i k a None = moves_never (Some (record k { inc = Some i })) a
inc_never i k a (Some f) = cond_never (f == i) _ _ (moves_never (Some k) a) (changed_never (Some k) k.server (two_incs f i))

same_never : (old k : Known) (a : At) (o : Option ℕ) → Never (same_binding old k a o)
same_never old k a None = moves_never (Some (named_again old k)) a
same_never old k a (Some i) = inc_never i (named_again old k) a old.inc

bound_never : (free : Bool) (k : Known) (a : At) (kept : Option Known) → Never (bound_by free k a kept)
bound_never free k a None = moves_never (Some k) a
bound_never free k a (Some old) = cond_never (binding_eq old.binding k.binding) _ _ (same_never old k a k.inc) (cond_never (free
    && binding_less old.binding k.binding) _ _ (moves_never (Some k) a) (changed_never (Some old) 1 (two_bindings old.binding k.binding)))

call_never : (free : Bool) (kept : Option Known) (o : Op) (a : At) (r : Reply) → Never (answered free kept (Run o) a r)
call_never free kept o (AtBind avoid) (Reply.Bound (bound.Live n server i g stores)) = bound_never free _ _ kept
call_never free kept o (AtBind avoid) (Reply.Bound (bound.Make n server g [])) = λ st e. cc e
call_never free kept o (AtBind avoid) (Reply.Bound (bound.Make n server g (m ∷ ms))) = bound_never free _ _ kept
call_never free kept o (AtBind avoid) (Reply.Bound (bound.Write g [])) = λ st e. cc e
call_never free kept o (AtBind avoid) (Reply.Bound (bound.Write g (m ∷ ms))) = λ st e. cc e
call_never free kept o (AtBind avoid) (Reply.Bound (bound.Conflict h m)) = λ st e. cc e
call_never free kept o (AtBind avoid) (Reply.Loaded y) = λ st e. cc e
call_never free kept o (AtBind avoid) (Reply.Activated y) = λ st e. cc e
call_never free kept o (AtBind avoid) (Reply.Noted y) = λ st e. cc e
call_never free kept o (AtBind avoid) (Reply.Invoked y) = λ st e. cc e
call_never free kept o (AtBind avoid) (Reply.Voted y) = λ st e. cc e
call_never free kept o (AtBind avoid) (Reply.Prepared y) = λ st e. cc e
call_never free kept o (AtBind avoid) (Reply.Confirmed y) = λ st e. cc e
call_never free kept o (AtLoad k n rest) (Reply.Loaded (loaded.State st)) = λ s e. cc e
call_never free kept o (AtLoad k n rest) (Reply.Loaded (loaded.InDoubt h)) = λ s e. cc e
call_never free kept o (AtLoad k n rest) (Reply.Bound y) = λ st e. cc e
call_never free kept o (AtLoad k n rest) (Reply.Activated y) = λ st e. cc e
call_never free kept o (AtLoad k n rest) (Reply.Noted y) = λ st e. cc e
call_never free kept o (AtLoad k n rest) (Reply.Invoked y) = λ st e. cc e
call_never free kept o (AtLoad k n rest) (Reply.Voted y) = λ st e. cc e
call_never free kept o (AtLoad k n rest) (Reply.Prepared y) = λ st e. cc e
call_never free kept o (AtLoad k n rest) (Reply.Confirmed y) = λ st e. cc e
call_never free None o (AtActivate k s) (Reply.Activated i) = λ st e. cc e
call_never free (Some old) o (AtActivate k s) (Reply.Activated i) =
    cond_never (binding_eq old.binding k.binding) _ _ (inc_never i old (AtNote k i) old.inc) (moves_never (Some old) (AtNote k i))
call_never free kept o (AtActivate k s) (Reply.Bound y) = λ st e. cc e
call_never free kept o (AtActivate k s) (Reply.Loaded y) = λ st e. cc e
call_never free kept o (AtActivate k s) (Reply.Noted y) = λ st e. cc e
call_never free kept o (AtActivate k s) (Reply.Invoked y) = λ st e. cc e
call_never free kept o (AtActivate k s) (Reply.Voted y) = λ st e. cc e
call_never free kept o (AtActivate k s) (Reply.Prepared y) = λ st e. cc e
call_never free kept o (AtActivate k s) (Reply.Confirmed y) = λ st e. cc e
call_never free kept o (AtNote k i) (Reply.Noted recorded.Yes) = λ st e. cc e
call_never free kept o (AtNote k i) (Reply.Noted (recorded.Changed w)) = λ st e. cc e
call_never free kept o (AtNote k i) (Reply.Bound y) = λ st e. cc e
call_never free kept o (AtNote k i) (Reply.Loaded y) = λ st e. cc e
call_never free kept o (AtNote k i) (Reply.Activated y) = λ st e. cc e
call_never free kept o (AtNote k i) (Reply.Invoked y) = λ st e. cc e
call_never free kept o (AtNote k i) (Reply.Voted y) = λ st e. cc e
call_never free kept o (AtNote k i) (Reply.Prepared y) = λ st e. cc e
call_never free kept o (AtNote k i) (Reply.Confirmed y) = λ st e. cc e
call_never free kept o (AtInvoke k i) (Reply.Invoked (invoked.Answered v)) = λ st e. cc e
call_never free kept o (AtInvoke k i) (Reply.Invoked (invoked.Conflict h m)) = λ st e. cc e
call_never free kept o (AtInvoke k i) (Reply.Invoked (invoked.Changed w)) = λ st e. cc e
call_never free kept o (AtInvoke k i) (Reply.Bound y) = λ st e. cc e
call_never free kept o (AtInvoke k i) (Reply.Loaded y) = λ st e. cc e
call_never free kept o (AtInvoke k i) (Reply.Activated y) = λ st e. cc e
call_never free kept o (AtInvoke k i) (Reply.Noted y) = λ st e. cc e
call_never free kept o (AtInvoke k i) (Reply.Voted y) = λ st e. cc e
call_never free kept o (AtInvoke k i) (Reply.Prepared y) = λ st e. cc e
call_never free kept o (AtInvoke k i) (Reply.Confirmed y) = λ st e. cc e

lost_never : (a : At) (st : ObjectState) → given_up a ≢ Ended (Included st)
lost_never (AtBind avoid) st e = cc e
lost_never (AtLoad k n []) st e = cc e
lost_never (AtLoad k n (m ∷ ms)) st e = cc e
lost_never (AtActivate k s) st e = cc e
lost_never (AtNote k i) st e = cc e
lost_never (AtInvoke k i) st e = cc e

-- ---- a call goes on, or ends

module _ (act : Acts) (code : Codes) (x : ℕ) (c c1 : Coord) (d : Doing) (S T : State) (reached : IsReached S) (run : MachineRun S T)
    (same : T.includes ≡ S.includes) (whole : SeesWhole act code x c S) (moves : Moves x c c1 nobody nobody) where
  goes_whole : (z : Steps) → doing_of (actor z.path) c1 ≡ Some d → SeesCoord act code x (let e = goes_on z c1 in e.part) T →
      ((k : Known) → IsLoading x z k → IsGranted act x z k (root_at (root_of z.path) (let e = goes_on z c1 in e.part)) T) →
      SeesWhole act code x (let e = goes_on z c1 in e.part) T
  goes_whole z works coord loads = whole_stays act code x c (let e = goes_on z c1 in e.part) S T nobody (λ w. w ≡ actor z.path) reached run
      (moves_both x c c1 (let e = goes_on z c1 in
      e.part) nobody (λ w. w ≡ actor z.path) (less moves) (moves_on x z c1 nobody (λ w. w ≡ actor z.path) refl)) same whole coord
      (λ w e y k new has_it is load. (let one : z ≡ y = on_now z c1 d e y works
      (ap (λ (v : Uid). doing_of v (let q = goes_on z c1 in q.part)) (sym new) ∙ has_it) is in
      subst (λ (v : Steps). IsGranted act x v k (root_at (root_of v.path) (let q = goes_on z c1 in q.part)) T) one
      (loads k (subst (λ (v : Steps). IsLoading x v k) (sym one) load))))
      (λ w e m new has_it is. absurd (let bad : Calling z ≡ Committing m = sym
      (on_is z c1 d e works (ap (λ (v : Uid). doing_of v (let q = goes_on z c1 in q.part)) (sym new) ∙ has_it)) ∙ is in cc bad))
      (λ w q new. absurd new)
    where
      less : Moves x c c1 nobody nobody → Moves x c c1 nobody (λ w. w ≡ actor z.path)
      less m = record {
        roots = m.roots;
        was = m.was;
        still = m.still;
        calls = λ w e s has_it is. ⊎_elim (λ old. inl old) (λ none. absurd none) (m.calls w e s has_it is);
        commits = λ w e k has_it is. ⊎_elim (λ old. inl old) (λ none. absurd none) (m.commits w e k has_it is);
      }

  ends_whole : (s : Steps) (end : CallEnd) → doing_of (actor s.path) c1 ≡ Some d → ((st : ObjectState) → end ≡ Included st → s.x ≢ x) →
      SeesCoord act code x (let e = step_call s (Ended end) c1 in e.part) T →
      SeesWhole act code x (let e = step_call s (Ended end) c1 in e.part) T
  ends_whole s end works other coord =
      whole_stays act code x c (let e = step_call s (Ended end) c1 in e.part) S T nobody (λ w. w ≡ actor s.path) reached run
      (moves_both x c c1 (let e = step_call s (Ended end) c1 in e.part) nobody (λ w. w ≡ actor s.path) (less moves)
      (moves_over x s end c1 nobody (λ w. w ≡ actor s.path) other refl)) same whole coord
      (λ w e y k new has_it is load. absurd (let bad : Idle ≡ Calling y = sym (over_is s end c1 d e works
      (ap (λ (v : Uid). doing_of v (let q = step_call s (Ended end) c1 in q.part)) (sym new) ∙ has_it)) ∙ is in cc bad))
      (λ w e m new has_it is. absurd (let bad : Idle ≡ Committing m = sym (over_is s end c1 d e works
      (ap (λ (v : Uid). doing_of v (let q = step_call s (Ended end) c1 in q.part)) (sym new) ∙ has_it)) ∙ is in cc bad))
      (λ w q new. absurd new)
    where
      less : Moves x c c1 nobody nobody → Moves x c c1 nobody (λ w. w ≡ actor s.path)
      less m = record {
        roots = m.roots;
        was = m.was;
        still = m.still;
        calls = λ w e z has_it is. ⊎_elim (λ old. inl old) (λ none. absurd none) (m.calls w e z has_it is);
        commits = λ w e k has_it is. ⊎_elim (λ old. inl old) (λ none. absurd none) (m.commits w e k has_it is);
      }

  -- whichever step follows
  step_whole : (s : Steps) (t : CallStep) → doing_of (actor s.path) c1 ≡ Some d → ((st : ObjectState) → t ≡ Ended (Included st) → s.x ≢ x) →
      ((a : At) (k : Known) → t ≡ On a → IsLoading x (record s { req = s.req + 1; at = a }) k →
      IsGranted act x (record s { req = s.req + 1; at = a }) k (root_at (root_of s.path) (let e = step_call s t c1 in e.part)) T)
      → SeesCoord act code x (let e = step_call s t c1 in e.part) T → SeesWhole act code x (let e = step_call s t c1 in e.part) T
  step_whole s (On a) works other loads coord = goes_whole (record s { req = s.req + 1; at = a }) works coord (λ k. loads a k refl)
  step_whole s (Ended end) works other loads coord = ends_whole s end works (λ st is. other st (ap Ended is)) coord

no_run : (o : Op) (store : ℕ) → Run o ≡ IncludeStore store → ⊥
no_run o store e = cc e

-- ---- beginnings

pub calls_are_made : CallsAreMade
calls_are_made act code paths x y c u b d o S reached work idle plain whole = ⊎_elim here away (number_cases y x)
  where
    number_cases : (m n : ℕ) → (m ≡ n) ⊎ (m ≢ n)
    number_cases m n = grind arith

    its : actor b.path ≡ u
    its = work.steady.good.tree.lists.places u b work.there

    rt : Uid
    rt = root_of b.path

    k : Keeping
    k = let old = keeping_of y (root_at rt c) in renewed (is_free rt (actor b.path) y c) old old.kept

    used : Coord
    used = record c { tree = uses_object b.path y c.tree }

    c1 : Coord
    c1 = on_root rt (with_keeping y k) used

    z : Steps
    z = call_steps b.path y o (last_req (doing_of (actor b.path) c) + 1) (root_at rt c) c k

    moves_1 : Moves x c c1 nobody nobody
    moves_1 = moves_both x c used c1 nobody nobody (moves_tree x c nobody nobody (uses_object b.path y c.tree) (uses_same b.path y c.tree))
        (moves_root x used nobody nobody rt (with_keeping y k) (λ r. grows_kept x y k r))

    works_1 : doing_of (actor b.path) c1 ≡ Some d
    works_1 = ap (λ (v : Uid). doing_of v c1) its ∙ work.works

    after : (T : State) → MachineRun S T → T.includes ≡ S.includes → SeesCoord act code x (let e = call b.path y o c in e.part) T →
        SeesWhole act code x (let e = call b.path y o c in e.part) T
    after T run same coord = goes_whole act code x c c1 d S T reached run same whole moves_1 z works_1 coord
        (λ w load. absurd (let l = load.goal in no_run o l.0 l.1))

    away : y ≢ x →
        Goes S (λ T. SeesWhole act code x (let e = call b.path y o c in e.part) T × (OnlyCalled (root (act u)) S T × WritesNone S T))
    away other = record {
      state = S;
      run = stay;
      holds = (
        after S stay refl (other_calls_begin act code paths x y c u b d o S work idle plain other whole.coord),
        (called_none (root (act u)) S, (refl, refl, λ q. same_end (S.action q))),
      );
    }

    here : y ≡ x →
        Goes S (λ T. SeesWhole act code x (let e = call b.path y o c in e.part) T × (OnlyCalled (root (act u)) S T × WritesNone S T))
    here is = to_run (calls_begin act code paths x c u b d o S reached work idle plain whole.coord) (λ T run h. (
      after T run (ap (λ (s : State). s.includes) (let q = h.1 in q.rest))
          (subst (λ (n : ℕ). SeesCoord act code x (let e = call b.path n o c in e.part) T) (sym is) h.0),
      (h.1, h.2),
    ))

pub includes_are_made : IncludesAreMade
includes_are_made act code paths x y store c u b d S reached work idle plain whole =
    goes_whole act code x c used d S S reached stay refl whole (moves_tree x c nobody nobody (uses_object b.path y c.tree)
    (uses_same b.path y c.tree)) z (ap (λ (v : Uid). doing_of v used) its ∙ work.works)
    (includes_begin act code paths x y store c u b d S work idle plain whole.coord) (λ k load. absurd (let l = load.at in cc l.2))
  where
    its : actor b.path ≡ u
    its = work.steady.good.tree.lists.places u b work.there

    used : Coord
    used = record c { tree = uses_object b.path y c.tree }

    z : Steps
    z = protocol.start b.path y (IncludeStore store) None unbound (last_req (doing_of (actor b.path) c) + 1)

-- ---- answers and giveups

module _ (act : Acts) (code : Codes) (paths : Paths) (x : ℕ) (c : Coord) (u : Uid) (b : Branch) (d : Doing) (s : Steps) (S : State)
    (reached : IsReached S) (work : IsAtWork act paths c u b d) (calling : d.now ≡ Calling s) (path : s.path ≡ b.path)
    (whole : SeesWhole act code x c S) where
  its_actor : actor s.path ≡ u
  its_actor = ap actor path ∙ work.steady.good.tree.lists.places u b work.there

  works_at : doing_of (actor s.path) c ≡ Some d
  works_at = ap (λ (v : Uid). doing_of v c) its_actor ∙ work.works

  heard_whole : (r : Reply) (T : State) → MachineRun S T → T.includes ≡ S.includes → ((s.x ≢ x) ⊎ ((o : Op) × (s.goal ≡ Run o))) →
      SeesCoord act code x (let e = heard_call s r c in e.part) T → SeesWhole act code x (let e = heard_call s r c in e.part) T
  heard_whole r T run same which coord =
      step_whole act code x c c1 d S T reached run same whole
      (moves_root x c nobody nobody (root_of s.path) (root_moved s r mv) (λ q. grows_moved x s r mv q)) s mv.step works_at
      (λ st is. ⊎_elim (λ other. other) (λ f. absurd (call_never (is_free (root_of s.path) (actor s.path) s.x c) (kept_at s c) f.0 s.at r st
      ((λ i. (let m = answered (is_free (root_of s.path) (actor s.path) s.x c) (kept_at s c) (sym f.1 i) s.at r in m.step)) ∙ is)))
      which)
      (λ a k is load. ⊎_elim (λ other. absurd (other load.about)) (λ f. absurd (let l = load.goal in no_run f.0 l.0 (sym f.1 ∙ l.1))) which)
      coord
    where
      mv : Moved
      mv = answered (is_free (root_of s.path) (actor s.path) s.x c) (kept_at s c) s.goal s.at r

      c1 : Coord
      c1 = on_root (root_of s.path) (root_moved s r mv) c

  lost_whole : (T : State) → MachineRun S T → T.includes ≡ S.includes → SeesCoord act code x (let e = give_up_call s c in e.part) T →
      SeesWhole act code x (let e = give_up_call s c in e.part) T
  lost_whole T run same coord =
      step_whole act code x c c1 d S T reached run same whole moves_1 s (given_up s.at) works_at
      (λ st is. absurd (lost_never s.at st is)) loads coord
    where
      c1 : Coord
      c1 = on_root (root_of s.path) (root_lost s (given_up s.at)) c

      moves_1 : Moves x c c1 nobody nobody
      moves_1 = moves_root x c nobody nobody (root_of s.path) (root_lost s (given_up s.at)) (λ q. grows_lost x s (given_up s.at) q)

      -- a Load goes to the next store
      same_load : (a v : At) (k : Known) → given_up a ≡ On v → (n : ℕ) (rest : List ℕ) → v ≡ AtLoad k n rest →
          (m : ℕ) × (more : List ℕ) × (a ≡ AtLoad k m more)
      same_load (AtBind avoid) v k is n rest at = absurd (cc is)
      same_load (AtLoad l m []) v k is n rest at = absurd (cc is)
      same_load (AtLoad l m (q ∷ qs)) v k is n rest at = let e : AtLoad l q qs ≡ v = cc is in let f : AtLoad l q qs ≡ AtLoad k n rest = e
          ∙ at in let one : l ≡ k = cc f in (m, q ∷ qs, ap (λ (y : Known). AtLoad y m (q ∷ qs)) one)
      same_load (AtActivate l st) v k is n rest at = absurd (cc is)
      same_load (AtNote l i) v k is n rest at = absurd (cc is)
      same_load (AtInvoke l i) v k is n rest at = absurd (cc is)

      inc_T : (e : Coord) → Moves x c e nobody (λ w. w ≡ actor s.path) → (k : Known) → IsLoading x s k →
          IsGranted act x s k (root_at (root_of s.path) e) T
      inc_T e m k load =
          let w = whole.includes in
          let g = w.waits (actor s.path) d s k works_at calling load in
          let v = ever reached run in
          record {
            sent = v.sent _ g.sent;
            noted = (let q = m.roots (root_of s.path) in q.grants (top_of s.path) (k.grant * 4294967296) g.noted);
          }

      loads : (a : At) (k : Known) → given_up s.at ≡ On a → IsLoading x (record s { req = s.req + 1; at = a }) k → IsGranted act x
          (record s { req = s.req + 1; at = a }) k (root_at (root_of s.path) (let e = step_call s (given_up s.at) c1 in e.part)) T
      loads a k is load =
          let l = load.at in
          let f = same_load s.at a k is l.0 l.1 l.2 in
          let g = inc_T (let e = step_call s (given_up s.at) c1 in e.part) (subst (λ (t : CallStep). Moves x c (let e = step_call s t c1 in
          e.part) nobody (λ w. w ≡ actor s.path)) (sym is) on_moves) k (record { about = load.about; goal = load.goal; at = f }) in
          record { sent = g.sent; noted = g.noted }
        where
          on_moves : Moves x c (let e = step_call s (On a) c1 in e.part) nobody (λ w. w ≡ actor s.path)
          on_moves = moves_both x c c1 (let e = step_call s (On a) c1 in e.part) nobody (λ w. w ≡ actor s.path) (moves_root x c nobody
              (λ w. w ≡ actor s.path) (root_of s.path) (root_lost s (given_up s.at)) (λ q. grows_lost x s (given_up s.at) q))
              (moves_on x (record s { req = s.req + 1; at = a }) c1 nobody (λ w. w ≡ actor s.path) refl)

pub call_answers_are_heard : CallAnswersAreHeard
call_answers_are_heard act code paths x p c u b d s o r S reached work on now shows whole =
    to_run (answers_are_taken act code paths x p c u b d s o r S reached work on now shows whole.coord)
    (λ T run h. (
      heard_whole act code paths x c u b d s S reached work on.calling on.path whole r T run
          (ap (λ (v : State). v.includes) (let q = h.1 in q.rest)) (inr (o, on.goal)) h.0,
      (h.1, h.2),
    ))

pub other_answers_are_heard : OtherAnswersAreHeard
other_answers_are_heard act code paths x c u b d s r S reached work on other whole =
    heard_whole act code paths x c u b d s S reached work on.calling on.path whole r S stay refl (inl other)
    (other_answers_are_taken act code paths x c u b d s r S work on (inl other) (λ same. absurd (other same)) whole.coord)

pub calls_are_lost : CallsAreLost
calls_are_lost act code paths x c u b d s o S reached work on whole =
    to_run (calls_are_given_up act code paths x c u b d s o S reached work on whole.coord)
    (λ T run h. (
      lost_whole act code paths x c u b d s S reached work on.calling on.path whole T run
          (ap (λ (v : State). v.includes) (let q = h.1 in q.rest)) h.0,
      (h.1, h.2),
    ))

pub other_calls_are_lost : OtherCallsAreLost
other_calls_are_lost act code paths x c u b d s S reached work on away whole =
    lost_whole act code paths x c u b d s S reached work on.calling on.path whole S stay refl
    (other_calls_are_given_up act code paths x c u b d s S work on away whole.coord)

-- ---- an include on the object is answered

-- a step of a call, as far as it isn't about what the object's includes note
moves_call : (y : ℕ) (s : Steps) → s.x ≢ y → (t : CallStep) (c : Coord) →
    Moves y c (let e = step_call s t c in e.part) nobody (λ w. w ≡ actor s.path)
moves_call y s other (On a) c = moves_on y (record s { req = s.req + 1; at = a }) c nobody (λ w. w ≡ actor s.path) refl
moves_call y s other (Ended end) c = moves_over y s end c nobody (λ w. w ≡ actor s.path) (λ st is. other) refl

-- after it nothing of the action is at its commit
uncommitted : (s : Steps) (t : CallStep) (c : Coord) (d e : Doing) (m : Machine) → doing_of (actor s.path) c ≡ Some d →
    doing_of (actor s.path) (let k = step_call s t c in k.part) ≡ Some e → e.now ≢ Committing m
uncommitted s (On a) c d e m works found is = let z : Steps = record s { req = s.req + 1; at = a } in
    let bad : Calling z ≡ Committing m = sym (on_is z c d e works found) ∙ is in cc bad
uncommitted s (Ended end) c d e m works found is = let bad : Idle ≡ Committing m = sym (over_is s end c d e works found) ∙ is in cc bad

pub include_answers_are_heard : IncludeAnswersAreHeard
include_answers_are_heard act code paths x p store c u b d s r S reached work on about goal now shows whole =
    to_run (include_answers_are_taken act code paths x p store c u b d s r S reached work on about goal now shows whole.coord
    whole.includes)
    (λ T run h. (
      record {
        coord = h.0;
        includes = h.1;
        commits = λ w y m has_it is. ⊎_elim
            (λ old. commits_stay_seen x (act w) m S T reached run (whole.commits w old.0 m old.1 old.2))
            (λ new. absurd (uncommitted s mv.step c1 d y m works_at
            (ap (λ (v : Uid). doing_of v (let e = step_call s mv.step c1 in e.part)) (sym new) ∙ has_it) is))
            (moves.commits w y m has_it is);
        units = λ w q there own gone. (let f = moves.was w q there in ⊎_elim
            (λ old. (on_run (λ v. (v.action (Unit_of (root (act w)))).stage ≡ 3) (λ v t k later on_ q'. (later.ends (Unit_of (root (act w)))
            q').0) run (reached_kept S reached) (whole.units w f.0 f.1 (ap (λ y. root_of y) f.2 ∙ own) old)).2)
            (λ none. absurd none)
            (f.3 gone));
      },
      (h.2, h.3),
    ))
  where
    mv : Moved
    mv = answered (is_free (root_of s.path) (actor s.path) s.x c) (kept_at s c) s.goal s.at r

    c1 : Coord
    c1 = on_root (root_of s.path) (root_moved s r mv) c

    works_at : doing_of (actor s.path) c1 ≡ Some d
    works_at = ap (λ (v : Uid). doing_of v c1) (ap actor on.path ∙ work.steady.good.tree.lists.places u b work.there) ∙ work.works

    further : s.x ≢ s.x + 1
    further is = omega (arith, is)

    moves : Moves (s.x + 1) c (let e = step_call s mv.step c1 in e.part) nobody (λ w. w ≡ actor s.path)
    moves = moves_both (s.x + 1) c c1 (let e = step_call s mv.step c1 in e.part) nobody (λ w. w ≡ actor s.path)
        (moves_root (s.x + 1) c nobody (λ w. w ≡ actor s.path) (root_of s.path) (root_moved s r mv) (λ q. grows_moved (s.x + 1) s r mv q))
        (moves_call (s.x + 1) s further mv.step c1)

-- ---- ticks and acknowledgements

moves_again : (x : ℕ) (ds : List Doing) (c : Coord) → Moves x c (let e = again_all ds c in e.part) nobody nobody
moves_again x [] c = moves_none x c nobody nobody
moves_again x (d ∷ ds) c = moves_both x c (let t = again_now c d.now in t.part) (let e = again_all (d ∷ ds) c in
    e.part) nobody nobody (one d.now) (moves_again x ds (let t = again_now c d.now in t.part))
  where
    one : (n : Now) → Moves x c (let t = again_now c n in t.part) nobody nobody
    one Idle = moves_none x c nobody nobody
    one (Calling s) = let w : Went =
        record { path = uids_of s.path; node = next_node s; invoke = is_invoke_ask (next_ask (ends_of (root_of s.path) c.tree) s) } in
        moves_root x c nobody nobody (root_of s.path) (with_went w) (grows_went x w)
    one (Committing m) = moves_asks x (let p = plan_of m in p.path) (let p = plan_of m in p.req) (waiting m) c nobody nobody

-- where nothing new waits or ends it is seen
pub quiet_whole : (act : Acts) (code : Codes) (x : ℕ) (c e : Coord) (S : State) → IsReached S → Moves x c e nobody nobody →
    SeesWhole act code x c S → SeesCoord act code x e S → SeesWhole act code x e S
quiet_whole act code x c e S reached moves whole coord = whole_stays act code x c e S S nobody nobody reached stay moves refl whole coord
    (λ w y s k new. absurd new) (λ w y m new. absurd new) (λ w q new. absurd new)

pub ticks_are_taken : TicksAreTaken
ticks_are_taken act code x works c S reached whole = quiet_whole act code x c (let e = again_all works c in
    e.part) S reached (moves_again x works c) whole (ticks_are_nothing act code x works c S whole.coord)

pub acks_are_taken : AcksAreTaken
acks_are_taken act code x from u intents c S reached whole = by (at_uid u c.telling)
  where
    told : (m : List (Uid × Intent)) → SeesWhole act code x (record c { telling = m }) S
    told m = quiet_whole act code x c (record c { telling = m }) S reached (moves_told x c (record c { telling = m }) nobody nobody refl
        (λ w. refl) (λ w. refl)) whole (same_coord act code x c (record c { telling = m }) S refl (λ w. refl) (λ w. refl) whole.coord)

    left : (i : Intent) (ns : List ℕ) → SeesWhole act code x (let e = acked_left u i intents c ns in e.part) S
    left i [] = told (without_uid u c.telling)
    left i (n ∷ ns) = told (put_uid u (record i { nodes = n ∷ ns }) c.telling)

    by : (o : Option Intent) → SeesWhole act code x (let e = acked_by from u intents c o in e.part) S
    by None = whole
    by (Some i) = one (has i.nodes from)
      where
        one : (t : Bool) → SeesWhole act code x (let e = cond {A = Served Coord (Unit {0})} t
            (acked_left u i intents c (without_number from i.nodes)) (record { part = c; outs = []; reply = None }) in e.part) S
        one true = left i (without_number from i.nodes)
        one false = whole

-- ---- a restart

pub restarts_are_taken : RestartsAreTaken
restarts_are_taken act code x node inc records S = let k = restarted_coords_are_seen act code x node inc records S in record {
  coord = k.0;
  includes = record {
    lines = λ u b i there. absurd (none u b there);
    joins = λ u b j there. absurd (none u b there);
    waits = λ u d s k' works. absurd (idle u d works);
  };
  commits = λ u d m works. absurd (idle u d works);
  units = k.1;
}
  where
    none : (u : Uid) (b : Branch) → branch_of u (new_tree node inc) ≡ Some b → ⊥
    none u b there = place_in u.num b [] (found_by u (new_tree node inc) b there).1

    idle : (u : Uid) (d : Doing) → doing_of u (record (new_coord node inc) { telling = records }) ≡ Some d → ⊥
    idle u d works = place_in u.num d [] (doing_by u (record (new_coord node inc) { telling = records }) d works).1
