-- Each answer to a call, each giveup and each beginning of a call leaves a coordinator with what it has to know.
use Rattle.arj_law_parts.proofs.Words
use Words.{◌≡◌, ◌≢◌, ◌⊎◌, ◌<◌, ◌==◌, ◌&&◌, ◌+◌, ℕ, List, [], ◌∷◌, Bool, true, false, Option, Some, None, refl, sym, ◌∙◌, ap, subst, inl}
use Words.{inr, ⊎_elim, is_some, and_parts, Uid, Asked, Binding, End, InvokedReply, Op, Answer, writes, Reply, actor, ask_kind, asked_by}
use Words.{reply_kind, top_of, ends_call, goes_on, granted_by, is_ended, heard_call, keeps_after, kept_at, notes_grant, root_heard}
use Words.{root_lost, step_call, waits_for_call, At, AtBind, AtLoad, AtActivate, AtNote, AtInvoke, CallEnd, CallStep, Ended, Goal, Include}
use Words.{Known, Moved, On, Run, Steps, answered, given_up, has_changed, next_ask, next_node, spoils, Calling, Coord, Doing, Grant, Idle}
use Words.{Keeping, Root, doing_of, is_call, is_free, keeping_of, kept_of, on_doing, on_root, root_at, with_keeping, binding_number, Tree}
use Words.{branch_of, root_of, Post}
use Words.list
use Words.ending
use Words.calls
use Rattle.arj_law_runs.proofs.Terms
use Terms.{Action, IsAsking, IsGoodCoord, IsTree, Paths, stand_goes, on_tree, Call, IsRefused, call_in, is_refusal, Answered, AreOfPaths}
use Terms.{Doomed, IsDoomed, IsOver, IsOwn, IsTie, IsTiedAt, IsWaiting, KnowsCalls, Nowhere, Refused, head_of, NamesIn}
use Rattle.arj_law_parts.proofs.parts.Decided.{stand_step_call}
use Rattle.arj_law_runs.proofs.calls.CallAnswers.{IsWellMoved, TiesNext, answer_well}
use Rattle.arj_law_runs.proofs.calls.CoordCalls.{AtIt, Done, EndsIt, IsInvoke, NotDone, asking_path, doomed_by_doom, heard_keeping}
use Rattle.arj_law_runs.proofs.calls.CoordCalls.{root_of_same, told_said, ends_it, ends_known, goes_known, heard_there, is_invoke, kept_put}
use Rattle.arj_law_runs.proofs.calls.CoordCalls.{kept_roots, kept_same, step_is}
use Rattle.arj_law_runs.proofs.calls.CoordKnown.{keep_root, loose_of, paths_root, roots_work}
use Rattle.arj_law_runs.proofs.calls.CoordSteps.{Goes, IsLoose, IsStill, KeepsAborts, Knowing, knowing_of, knowing_on}
use Rattle.arj_law_runs.proofs.calls.CoordTrees.{KeepsDoom, doom_is, doom_then, doomed_there}
use Rattle.arj_law_runs.proofs.calls.ServerCalls.{some_is}

-- an answer of naming changes no more of a root than its grants and one keeping
grant_keeping : (g : Option Grant) (r : Root) → (notes_grant g r).keeping ≡ r.keeping
grant_keeping None r = refl
grant_keeping (Some g) r = refl

grant_said : (g : Option Grant) (r : Root) → (notes_grant g r).said ≡ r.said
grant_said None r = refl
grant_said (Some g) r = refl

-- what is kept after a step of a call, or of an include
kept_call : (g : Goal) (b : Bool) (kept : Option Known) (k : Keeping) → is_call g ≡ true → (keeps_after g b kept k).kept ≡ kept
kept_call (Run o) b kept k is = refl
kept_call (Include s) b kept k is = let no_way : false ≡ true = is in cc

kept_either : (g : Goal) (b : Bool) (kept : Option Known) (k : Keeping) (old : Known) → (IsStill kept old) → k.kept ≡ Some old →
    IsStill (keeps_after g b kept k).kept old
kept_either (Run o) b kept k old still is = still
kept_either (Include s) b kept k old still is = (old, is, refl, refl)

module _ (acts : List Action) (paths : Paths) (tree : IsTree paths) (sent : List Post) (c : Coord) (good : IsGoodCoord acts paths c)
    (knows : KnowsCalls paths sent c) where
  -- one that waits moves
  module _ (s : Steps) (d : Doing) (found : doing_of (actor s.path) c ≡ Some d) (now : d.now ≡ Calling s) (last : d.req < s.req + 1)
      (asking : IsAsking c.tree (actor s.path) s.path) where
    abbrev u : Uid
    u = actor s.path

    -- its own request
    abbrev Q : ℕ → Call → Type 0
    Q to k = (to ≡ next_node s) × (call_in (head_of s) (next_ask [] s) ≡ Some k)

    mine : (to : ℕ) (k : Call) → IsWaiting c to k → actor (let h = k.head in h.path) ≡ u → Q to k
    mine to k w same = let is : w.step ≡ s = step_is (sym w.now ∙ ap (λ (z : Doing). z.now) (some_is (sym w.found ∙ ap (λ z. doing_of z c)
        same ∙ found)) ∙ now) in subst (λ z. (to ≡ next_node z) × (call_in (head_of z) (next_ask [] z) ≡ Some k)) is (w.node, w.call)

    -- the root's keeping of the object is another one, and the call goes a step
    module _ (g : Option Grant) (K : Keeping) (its : (old : Known) → kept_of s.x (root_at (root_of s.path) c) ≡ Some old →
        IsStill K.kept old ⊎ ((t : Tree) → KeepsAborts c.tree t → IsLoose t (actor s.path) c (root_of s.path) s.x)) where
      abbrev t : Coord
      t = on_root (root_of s.path) (λ r. with_keeping s.x K (notes_grant g r)) c

      goes : (v : Tree) → KeepsAborts c.tree v → Goes v u c t
      goes v decides = keep_root v u (root_of s.path) s.x K (notes_grant g) c (grant_keeping g) (grant_said g)
          (λ old is. ⊎_elim (λ f. inl f) (λ l. inr (l v decides)) (its old is))

      kept_is : kept_of s.x (root_at (root_of s.path) t) ≡ K.kept
      kept_is = kept_put (root_of s.path) s.x K (notes_grant g (root_at (root_of s.path) c)) c

      said : AreOfPaths paths t
      said = paths_root paths (root_of s.path) (λ r. with_keeping s.x K (notes_grant g r)) c
          (λ z i. inl (subst (λ zs. list.In z zs) (grant_said g (root_at (root_of s.path) c)) i)) knows.said

      knowing : (v : Tree) → KeepsAborts c.tree v → KeepsDoom u c.tree v → Knowing sent v u Q t
      knowing v decides doom = knowing_on sent v u Q c t (goes v decides)
          (knowing_of paths sent v u Q c decides doom.doomed (λ w e m other at is f. doom.free w other f) mine knows)

      pub moved_on : (at : At) → ((to : ℕ) (k : Call) → IsOwn sent t to k → Q to k → ⊥) → (is_call s.goal ≡ true → IsTiedAt K.kept at) →
          KnowsCalls paths sent (goes_on (record s { req = s.req + 1; at = at }) t).part
      moved_on at none tied =
          let z : Steps = record s { req = s.req + 1; at = at } in
          let e = (goes_on z t).part in
          let decides : KeepsAborts c.tree e.tree = λ w a. (stand_goes acts paths tree z t).ends w ending.Abort a in
          goes_known acts paths tree sent c good knows z t Q d found found last (goes e.tree decides) (knowing e.tree decides
          (doom_is u c.tree e.tree (sym (on_tree u (λ (q : Doing). record q { req = z.req; now = Calling z }) t)))) none
          (λ call. subst (λ o. IsTiedAt o at) (sym kept_is) (tied call)) said

      pub moved_over : (e : CallEnd) → ((to : ℕ) (k : Call) → IsOwn sent (ends_call s e t).part to k → Q to k →
          IsOver sent (ends_call s e t).part.tree (ends_call s e t).part to k) → KnowsCalls paths sent (ends_call s e t).part
      moved_over e over =
          let v = (ends_call s e t).part in
          let decides : KeepsAborts c.tree v.tree = λ w a. (stand_step_call acts paths tree s (Ended e) t).ends w ending.Abort a in
          let mid = on_root (root_of s.path) (root_heard s e) (on_doing u (λ (q : Doing). record q { now = Idle }) t) in
          ends_known acts paths tree sent c good knows s e t Q d asking found found (goes v.tree decides)
          (knowing v.tree decides (doom_then u c.tree mid.tree v.tree
          (doom_is u c.tree mid.tree (sym (on_tree u (λ (q : Doing). record q { now = Idle }) t))) (doomed_by_doom u e mid))) over said

    -- ---- an answer

    module _ (r : Reply) (from : ℕ) (a : Asked) (waits : waits_for_call from a r s ≡ true) (sure : (old : Known) (b : Binding) (n : ℕ) →
        kept_at s c ≡ Some old → NamesIn r b n → binding_number old.binding ≡ binding_number b → old.server ≡ n)
        (refused : (q : InvokedReply) → r ≡ Reply.Invoked q → is_refusal q ≡ true →
        IsRefused sent (next_node s) (asked_by (head_of s))) where
      abbrev free : Bool
      free = is_free (root_of s.path) (actor s.path) s.x c

      abbrev m : Moved
      m = answered free (kept_at s c) s.goal s.at r

      abbrev old_keeping : Keeping
      old_keeping = keeping_of s.x (root_at (root_of s.path) c)

      abbrev K : Keeping
      K = keeps_after s.goal (has_changed m.step) m.kept old_keeping

      well : IsWellMoved free (kept_at s c) s.at m
      well = answer_well free (kept_at s c) s.goal s.at r sure

      its : (old : Known) → kept_of s.x (root_at (root_of s.path) c) ≡ Some old →
          IsStill K.kept old ⊎ ((v : Tree) → KeepsAborts c.tree v → IsLoose v u c (root_of s.path) s.x)
      its old is = ⊎_elim (λ (f : IsStill m.kept old). inl (kept_either s.goal (has_changed m.step) m.kept old_keeping old f is))
          (λ l. inr (λ v decides. subst (λ p. IsLoose v u c (root_of p) s.x) asking.path (loose_of acts paths tree c good v decides u
          asking.branch asking.found s.x (ap (λ p. is_free (root_of p) u s.x c) asking.path ∙ l.0)))) (well.keeps old is)

      kind : (known : Known) (i : ℕ) → s.at ≡ AtInvoke known i → (reply_kind r == 5) ≡ true
      kind known i at = subst (λ z. (reply_kind r == ask_kind (calls.ask_at s.x s.goal [] z)) ≡ true)
          at (and_parts (reply_kind r == ask_kind (next_ask [] s)) (next_node s == from)
          (and_parts (s.req == a.req) ((reply_kind r == ask_kind (next_ask [] s)) && (next_node s == from)) waits).1).0

      ended_it : (known : Known) (i : ℕ) → s.at ≡ AtInvoke known i → EndsIt (kept_at s c) r m
      ended_it known i at = subst (λ z. EndsIt (kept_at s c) r (answered free (kept_at s c) s.goal z r)) (sym at)
          (ends_it free (kept_at s c) s.goal known i r (kind known i at))

      not_on : (at : At) (e : CallEnd) → On at ≡ Ended e → ⊥
      not_on at e is = let no_way : ◌≡◌ {A = CallStep} (On at) (Ended e) = is in absurd (cc no_way)

      end_is : (e f : CallEnd) → Ended e ≡ Ended f → e ≡ f
      end_is e f is = let same : ◌≡◌ {A = CallStep} (Ended e) (Ended f) = is in cc

      pub heard_known : KnowsCalls paths sent (heard_call s r c).part
      heard_known = by m.step refl
        where
          g : Option Grant
          g = granted_by (top_of s.path) s.x r

          none : (at : At) → m.step ≡ On at → (to : ℕ) (k : Call) → Q to k → writes k.op ≡ true → ⊥
          none at step to k q writing = invoke (is_invoke s k q.1 writing)
            where
              ends : EndsIt (kept_at s c) r m → ⊥
              ends (Done b is) = not_on at (calls.Answered b) (sym step ∙ ap (λ (z : Moved). z.step) is)
              ends (NotDone b r_is bad e is) = not_on at e (sym step ∙ is)

              invoke : IsInvoke s k → ⊥
              invoke (AtIt known i o at_is goal is) = ends (ended_it known i at_is)

          said_it : (e : CallEnd) (b : Answer) → calls.Answered b ≡ e → (known : Known) (i : ℕ) (o : Op) → s.at ≡ AtInvoke known i →
              s.goal ≡ Run o → m.kept ≡ kept_at s c → (to : ℕ) → to ≡ next_node s
              → let k : Call = record { head = head_of s; x = s.x; binding = known.binding; inc = i; op = o } in
              let v = (ends_call s e (t g K its)).part in IsOver sent v.tree v to k
          said_it e b e_is known i o at_is goal kept_same_is to node = subst (λ z. let k : Call =
              record { head = head_of s; x = s.x; binding = known.binding; inc = i; op = o } in let v = (ends_call s z (t g K its)).part in
              IsOver sent v.tree v to k) e_is (tied (subst (IsTiedAt (kept_at s c)) at_is (knows.ties u d s found now (ap is_call goal))))
            where
              at_node : to ≡ known.server
              at_node = node ∙ ap calls.node_at at_is

              tied : IsTie (kept_at s c) known →
                  let k : Call = record { head = head_of s; x = s.x; binding = known.binding; inc = i; op = o } in
                  let v = (ends_call s (calls.Answered b) (t g K its)).part in IsOver sent v.tree v to k
              tied (inl zero_is) = Nowhere (at_node ∙ zero_is)
              tied (inr (old, is, same, server)) =
                  let w = on_doing u (λ (q : Doing). record q { now = Idle }) (t g K its) in
                  let v = (ends_call s (calls.Answered b) (t g K its)).part in
                  let f = heard_there s (root_at (root_of s.path) w) in
                  let here = subst (λ (q : Root). list.In f.0 q.said)
                  (sym (root_of_same (root_of s.path) (root_heard s (calls.Answered b)) w)) f.1 in
                  Answered (record {
                    said = f.0;
                    there = here;
                    path = told_said acts paths tree sent c good knows s (calls.Answered b) (t g K its) Q d asking found found (said g K
                        its) (root_of s.path) f.0 here ∙ ap paths f.2 ∙ sym (asking_path acts paths tree sent c good knows u s.path asking);
                    object = f.3;
                    kept = old;
                    keeps = kept_same (root_of s.path) (root_of s.path) s.x (root_heard s (calls.Answered b)) w
                        (heard_keeping s (calls.Answered b) (root_at (root_of s.path) w))
                        ∙ kept_roots (root_of s.path) s.x (t g K its) w (roots_work u (λ (q : Doing). record q { now = Idle }) (t g K its))
                        ∙ kept_is g K its ∙ kept_call s.goal (has_changed m.step) m.kept old_keeping (ap is_call goal) ∙ kept_same_is ∙ is;
                    binding = same;
                    server = server ∙ sym at_node;
                  })

          over : (e : CallEnd) → m.step ≡ Ended e → (to : ℕ) (k : Call) → IsOwn sent (ends_call s e (t g K its)).part to k → Q to k →
              IsOver sent (ends_call s e (t g K its)).part.tree (ends_call s e (t g K its)).part to k
          over e step to k own q = invoke (is_invoke s k q.1 own.writing)
            where
              ends : EndsIt (kept_at s c) r m → (known : Known) (i : ℕ) (o : Op) → s.at ≡ AtInvoke known i → s.goal ≡ Run o →
                  k ≡ record { head = head_of s; x = s.x; binding = known.binding; inc = i; op = o } →
                  IsOver sent (ends_call s e (t g K its)).part.tree (ends_call s e (t g K its)).part to k
              ends (Done b is) known i o at_is goal k_is = subst (λ z. let v = (ends_call s e (t g K its)).part in
                  IsOver sent v.tree v to z) (sym k_is) (said_it e b (end_is (calls.Answered b) e
                  (sym (ap (λ (z : Moved). z.step) is) ∙ step)) known i o at_is goal (ap (λ (z : Moved). z.kept) is) to q.0)
              ends (NotDone b r_is bad f is) known i o at_is goal k_is =
                  Refused (subst (λ n. IsRefused sent n (asked_by (let z = k in z.head))) (sym q.0)
                  (subst (λ (z : Call). IsRefused sent (next_node s) (asked_by z.head)) (sym k_is) (refused b r_is bad)))

              invoke : IsInvoke s k → IsOver sent (ends_call s e (t g K its)).part.tree (ends_call s e (t g K its)).part to k
              invoke (AtIt known i o at_is goal is) = ends (ended_it known i at_is) known i o at_is goal is

          by : (step : CallStep) → m.step ≡ step → KnowsCalls paths sent (step_call s step (t g K its)).part
          by (On at) step = moved_on g K its at (λ to k own q. none at step to k q own.writing)
              (λ call. subst (λ o. IsTiedAt o at) (sym (kept_call s.goal (has_changed m.step) m.kept old_keeping call))
              (subst (TiesNext m.kept) step (well.next (knows.ties u d s found now call))))
          by (Ended e) step = moved_over g K its e (over e step)

    -- ---- a giveup

    abbrev lost_keeping : Keeping
    lost_keeping = keeps_after s.goal (is_ended (given_up s.at) && spoils s.at) (keeping_of s.x (root_at (root_of s.path) c)).kept
        (keeping_of s.x (root_at (root_of s.path) c))

    lost_its : (old : Known) → kept_of s.x (root_at (root_of s.path) c) ≡ Some old →
        IsStill lost_keeping.kept old ⊎ ((v : Tree) → KeepsAborts c.tree v → IsLoose v u c (root_of s.path) s.x)
    lost_its old is = inl (kept_either s.goal (is_ended (given_up s.at) && spoils s.at) (keeping_of s.x (root_at (root_of s.path) c)).kept
        (keeping_of s.x (root_at (root_of s.path) c)) old (old, is, refl, refl) is)

    pub given_up_known : KnowsCalls paths sent (step_call s (given_up s.at) (on_root (root_of s.path) (root_lost s (given_up s.at)) c)).part
    given_up_known = by (given_up s.at) refl
      where
        no_load : (n : ℕ) (k : Known) (rest : List ℕ) (at : At) → calls.load_given_up k n rest ≡ On at → IsTie lost_keeping.kept k →
            IsTiedAt lost_keeping.kept at
        no_load n k [] at is tied = absurd (cc is)
        no_load n k (t ∷ ts) at is tied = let same : AtLoad k t ts ≡ at = on_is is in subst (IsTiedAt lost_keeping.kept) same tied
          where
            on_is : {a b : At} → On a ≡ On b → a ≡ b
            on_is is = cc

        tied : (now_at at : At) → given_up now_at ≡ On at → IsTiedAt lost_keeping.kept now_at → IsTiedAt lost_keeping.kept at
        tied (AtBind avoid) at is t = absurd (cc is)
        tied (AtLoad k n rest) at is t = no_load n k rest at is t
        tied (AtActivate k st) at is t = absurd (cc is)
        tied (AtNote k i) at is t = absurd (cc is)
        tied (AtInvoke k i) at is t = absurd (cc is)

        none : (at : At) → given_up s.at ≡ On at → (to : ℕ) (k : Call) → Q to k → writes k.op ≡ true → ⊥
        none at step to k q writing = invoke (is_invoke s k q.1 writing)
          where
            invoke : IsInvoke s k → ⊥
            invoke (AtIt known i o at_is goal is) = let no_way : ◌≡◌ {A = CallStep} (Ended (calls.Lost known.server true)) (On at) = ap
                given_up (sym at_is) ∙ step in absurd (cc no_way)

        unended : (o : Option End) → is_some o ≡ false → o ≢ Some ending.Commit
        unended None h is = let no_way : ◌≡◌ {A = Option End} None (Some ending.Commit) = is in absurd (cc no_way)
        unended (Some e) h is = absurd (cc h)

        over : (e : CallEnd) → given_up s.at ≡ Ended e → (to : ℕ) (k : Call) →
            IsOwn sent (ends_call s e (t None lost_keeping lost_its)).part to k → Q to k →
            IsOver sent (ends_call s e (t None lost_keeping lost_its)).part.tree (ends_call s e (t None lost_keeping lost_its)).part to k
        over e step to k own q = invoke (is_invoke s k q.1 own.writing)
          where
            lost : (n : ℕ) → calls.Lost n true ≡ e → actor (let h = k.head in h.path) ≡ u → IsOver sent
                (ends_call s e (t None lost_keeping lost_its)).part.tree (ends_call s e (t None lost_keeping lost_its)).part to k
            lost n e_is who = subst (λ z. IsOver sent (ends_call s z (t None lost_keeping lost_its)).part.tree (ends_call s z (t None
                lost_keeping lost_its)).part to k) e_is (Doomed (subst (IsDoomed (ends_call s (calls.Lost n true) (t None lost_keeping
                lost_its)).part.tree) (sym who) (doomed_there u mid.tree asking.branch (ap (branch_of u) (on_tree u (λ (q : Doing).
                record q { now = Idle }) (t None lost_keeping lost_its)) ∙ asking.found) (unended asking.branch.ended asking.opened))))
              where
                mid : Coord
                mid = on_root (root_of s.path) (root_heard s (calls.Lost n true))
                    (on_doing u (λ (q : Doing). record q { now = Idle }) (t None lost_keeping lost_its))

            lost_is : {a b : CallEnd} → Ended a ≡ Ended b → a ≡ b
            lost_is is = cc

            invoke : IsInvoke s k → IsOver sent (ends_call s e (t None lost_keeping lost_its)).part.tree
                (ends_call s e (t None lost_keeping lost_its)).part to k
            invoke (AtIt known i o at_is goal is) =
                lost known.server (lost_is (ap given_up (sym at_is) ∙ step)) (ap (λ (z : Call). actor (let h = z.head in h.path)) is)

        by : (step : CallStep) → given_up s.at ≡ step → KnowsCalls paths sent (step_call s step (t None lost_keeping lost_its)).part
        by (On at) step = moved_on None lost_keeping lost_its at (λ to k own q. none at step to k q own.writing) (λ call.
            tied s.at at step (subst (λ o. IsTiedAt o s.at) (sym (kept_call s.goal (is_ended (given_up s.at) && spoils s.at) (keeping_of s.x
            (root_at (root_of s.path) c)).kept (keeping_of s.x (root_at (root_of s.path) c)) call)) (knows.ties u d s found now call)))
        by (Ended e) step = moved_over None lost_keeping lost_its e (over e step)
