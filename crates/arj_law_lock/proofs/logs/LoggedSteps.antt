-- One step of a top that isn't over: its own log and its calls go on, or stay as they were.
use Rattle.arj_law_lock.proofs.Terms
use Terms.{arith, ℕ, ◌≡◌, ◌≤◌, ◌<◌, ◌⊎◌, List, [], ◌∷◌, Bool, true, false, cond, not, map, filter, inl, inr, refl, sym, ◌∙◌, ap, subst, Act}
use Terms.{Root, Sub, same, on, root, top, is_top, is_action, at, at_act, In, Action, Call, Entry, Invoke, Message, Request, Server, State}
use Terms.{Vote, Alive, Event, CrashNaming, BindLive, BindNew, Grant, Record, ConfirmTop, PassEntry, DropEntry, CrashServer}
use Terms.{ActivateCopy, Apply, Refuse, Change, PassRow, PassTop, DropRows, VoteTop, Keep, Name, Load, SendInvoke, Answered, TurnedDown}
use Terms.{Lost, GiveUp, CommitNested, Abort, CommitTop, SendVote, SendConfirm, Decide, Report, EndUnit, Included, Newest, Survives}
use Terms.{held_value, newest, older, Guard, handed, next, step}
use Rattle.arj_law_lock.proofs.machine
use machine.{CallSteps.top_acts, ValueLasts.clean_alive}
use machine.Claims.{GoesOn, Holds, server_of}
use machine.Paths.{act_cases, at_cases, by_cases, differ, on_above, on_root, on_self, on_top, on_trans, on_up, one_top, same_is}
use machine.Paths.{top_of, top_root}
use machine.ValueClaims.{Clean, IsWaiting, Logged, Matches, Ok, Used, Values, bad, both, calm, less, more, rest, waiting}

-- ---- a log and calls

-- The log of a copy against the calls, both newest first, as far as they are of this top: each entry that isn't spoilt is a call that
-- writes, and each such call has its entry.
pub data OwnLog (m : Act) (s : State) : List Entry → List Call → Type 0 where
  nothing : OwnLog m s [] []
  entry : (e : Entry) (c : Call) {es : List Entry} {cs : List Call} → e.by ≡ c.act → e.gives ≡ c.gives → c.write ≡ true →
      on e.holder m ≡ true → OwnLog m s es cs → OwnLog m s (e ∷ es) (c ∷ cs)
  beside : (e : Entry) {es : List Entry} {cs : List Call} → (on e.holder m ≡ true → Clean s e.by → ⊥) → OwnLog m s es cs →
      OwnLog m s (e ∷ es) cs
  apart : (c : Call) {es : List Entry} {cs : List Call} → (c.write ≡ true → top c.act ≡ m → Clean s c.act → ⊥) → OwnLog m s es cs →
      OwnLog m s es (c ∷ cs)

module _ (m : Act) (is : is_top m ≡ true) where
  -- what is spoilt stays so
  pub own_later : (s t : State) → ((a : Act) → Clean t a → Clean s a) → (es : List Entry) (cs : List Call) → OwnLog m s es cs →
      OwnLog m t es cs
  own_later s t back [] [] nothing = nothing
  own_later s t back (e ∷ es) (c ∷ cs) (entry _ _ by gives w o l) = entry e c by gives w o (own_later s t back es cs l)
  own_later s t back (e ∷ es) cs (beside _ f l) = beside e (λ o clean. f o (back e.by clean)) (own_later s t back es cs l)
  own_later s t back es (c ∷ cs) (apart _ f l) = apart c (λ w own clean. f w own (back c.act clean)) (own_later s t back es cs l)

  -- a holder is passed to the action above
  pub handed_on : (a : Act) (j : ℕ) → is_action a ≡ true → (e : Entry) → (on e.holder m ≡ true →
      on (let d = handed a j e in d.holder) m ≡ true) × (on (let d = handed a j e in d.holder) m ≡ true → on e.holder m ≡ true)
  handed_on a j act e = by (same e.holder (Sub a j)) refl
    where
      up : (a : Act) → is_action a ≡ true → m ≡ Sub a j → ⊥
      up (Root u) k q = let never : false ≡ true = k in cc
      up (Sub b n) k q = let never : false ≡ true = sym (ap is_top q) ∙ is in cc

      down : on (Sub a j) m ≡ true → on a m ≡ true
      down o = elim (on_up a j m o) [ inl q ↦ absurd (up a act q) | inr p ↦ p ]

      by : (b : Bool) → same e.holder (Sub a j) ≡ b →
          (on e.holder m ≡ true → on (cond b a e.holder) m ≡ true) × (on (cond b a e.holder) m ≡ true → on e.holder m ≡ true)
      by true q = let here : e.holder ≡ Sub a j = same_is e.holder (Sub a j) q in
          (λ o. down (subst (λ (h : Act). on h m ≡ true) here o), λ o. subst (λ (h : Act). on h m ≡ true) (sym here) (on_above a j m o))
      by false q = (λ o. o, λ o. o)

  pub own_handed : (s : State) (a : Act) (j : ℕ) → is_action a ≡ true → (es : List Entry) (cs : List Call) → OwnLog m s es cs →
      OwnLog m s (map (handed a j) es) cs
  own_handed s a j act [] [] nothing = nothing
  own_handed s a j act (e ∷ es) (c ∷ cs) (entry _ _ by gives w o l) =
      entry (handed a j e) c by gives w ((handed_on a j act e).0 o) (own_handed s a j act es cs l)
  own_handed s a j act (e ∷ es) cs (beside _ f l) =
      beside (handed a j e) (λ o clean. f ((handed_on a j act e).1 o) clean) (own_handed s a j act es cs l)
  own_handed s a j act es (c ∷ cs) (apart _ f l) = apart c f (own_handed s a j act es cs l)

  -- entries go of actions that aren't alive
  pub own_kept : (s : State) (a : Act) → ((h : Act) → on h a ≡ true → on h m ≡ true → Alive s h → ⊥) → (es : List Entry) (cs : List Call) →
      ((e : Entry) → In e es → on e.by e.holder ≡ true) → OwnLog m s es cs → OwnLog m s (filter (λ (e : Entry). not (on e.holder a)) es) cs
  own_kept s a gone [] [] paths nothing = nothing
  own_kept s a gone (e ∷ es) (c ∷ cs) paths (entry _ _ by gives w o l) =
      go (by_cases (on e.holder a)) (own_kept s a gone es cs (λ d i. paths d (inr i)) l)
    where
      spoilt : on e.holder a ≡ true → Clean s c.act → ⊥
      spoilt off clean = gone e.holder off o
          (λ u p. clean_alive s c.act clean u (subst (λ (x : Act). on x u ≡ true) by (on_trans e.by e.holder u (paths e (inl refl)) p)))

      go : (on e.holder a ≡ true) ⊎ (on e.holder a ≡ false) → OwnLog m s (filter (λ (d : Entry). not (on d.holder a)) es) cs →
          OwnLog m s (cond (not (on e.holder a)) (e ∷ filter (λ (d : Entry). not (on d.holder a)) es)
          (filter (λ (d : Entry). not (on d.holder a)) es)) (c ∷ cs)
      go (inl off) r = subst (λ (b : Bool). OwnLog m s (cond (not b) (e ∷ filter (λ (d : Entry). not (on d.holder a)) es)
          (filter (λ (d : Entry). not (on d.holder a)) es)) (c ∷ cs)) (sym off) (apart c (λ k own clean. spoilt off clean) r)
      go (inr here) r = subst (λ (b : Bool). OwnLog m s (cond (not b) (e ∷ filter (λ (d : Entry). not (on d.holder a)) es)
          (filter (λ (d : Entry). not (on d.holder a)) es)) (c ∷ cs)) (sym here) (entry e c by gives w o r)
  own_kept s a gone (e ∷ es) cs paths (beside _ f l) = go (not (on e.holder a)) (own_kept s a gone es cs (λ d i. paths d (inr i)) l)
    where
      go : (b : Bool) → OwnLog m s (filter (λ (d : Entry). not (on d.holder a)) es) cs →
          OwnLog m s (cond b (e ∷ filter (λ (d : Entry). not (on d.holder a)) es) (filter (λ (d : Entry). not (on d.holder a)) es)) cs
      go true r = beside e f r
      go false r = r
  own_kept s a gone es (c ∷ cs) paths (apart _ f l) = apart c f (own_kept s a gone es cs paths l)

  -- ---- by the log of the recorded binding

  module _ (s : State) (base : ℕ) (kept : s.kept (root m) ≡ s.naming.recorded) (one : (s.action m).stage ≡ 1) (goes : GoesOn s (root m))
      (acts : (c : Call) → In c s.calls → is_action c.act ≡ true) where
    own_ok : (a : Act) → top a ≡ m → Clean s a → Ok s a
    own_ok a own clean = let r : root a ≡ root m = sym (top_root a) ∙ ap root own in
        ((clean, inl (subst (λ (u : ℕ). GoesOn s u) (sym r) goes)), inr (ap s.kept r ∙ kept))

    unfinished : (a : Act) → is_action a ≡ true → top a ≡ m → Survives s a → ⊥
    unfinished a act own f = let three = f (top a) (on_top a) (top_acts a act) in let q : (s.action (top a)).stage ≡ (s.action m).stage = ap
        (λ (y : Act). (s.action y).stage) own in absurd (omega (arith, three, q, one))

    own_matches : (es : List Entry) (cs : List Call) → ((c : Call) → In c cs → In c s.calls) →
        ((e : Entry) → In e es → (on e.by e.holder ≡ true) × (is_action e.holder ≡ true)) → Matches s base es cs → OwnLog m s es cs
    own_matches [] cs sub paths (rest l f) = left cs (λ c i. i)
      where
        left : (ds : List Call) → ((c : Call) → In c ds → In c cs) → OwnLog m s [] ds
        left [] within = nothing
        left (d ∷ ds) within = apart d (λ w own clean. unfinished d.act (acts d (sub d (within d (inl refl)))) own
            (f d (within d (inl refl)) w (own_ok d.act own clean))) (left ds (λ c i. within c (inr i)))
    own_matches (e ∷ es) (c ∷ cs) sub paths (both _ _ by gives w k n) =
        go (by_cases (on e.holder m)) (own_matches es cs (λ d i. sub d (inr i)) (λ d i. paths d (inr i)) n)
      where
        elsewhere : on e.holder m ≡ false → top c.act ≡ m → ⊥
        elsewhere off own = let p = paths e (inl refl) in let h : top e.holder ≡ m = sym (one_top e.by e.holder p.1 p.0) ∙ ap top by
            ∙ own in absurd (differ (subst (λ (y : Act). on e.holder y ≡ true) h (on_top e.holder)) off)

        go : (on e.holder m ≡ true) ⊎ (on e.holder m ≡ false) → OwnLog m s es cs → OwnLog m s (e ∷ es) (c ∷ cs)
        go (inl o) r = entry e c by gives w o r
        go (inr off) r = beside e (λ o clean. differ o off) (apart c (λ k2 own clean. elsewhere off own) r)
    own_matches (e ∷ es) cs sub paths (more _ f n) = beside e (λ o clean.
        f (clean, inl (subst (λ (u : ℕ). GoesOn s u) (sym (on_root e.by e.holder (paths e (inl refl)).0 ∙ on_root e.holder m o)) goes)))
        (own_matches es cs sub (λ d i. paths d (inr i)) n)
    own_matches es (c ∷ cs) sub paths (less _ f n) =
        apart c (λ w own clean. f w (own_ok c.act own clean)) (own_matches es cs (λ d i. sub d (inr i)) paths n)

    pub own_logged : (es : List Entry) → ((e : Entry) → In e es → (on e.by e.holder ≡ true) × (is_action e.holder ≡ true)) →
        ((e : Entry) → In e es → on e.holder m ≡ true → IsWaiting s e → Clean s e.by → ⊥) → Logged s base es s.calls → OwnLog m s es s.calls
    own_logged es paths still (calm n k) = own_matches es s.calls (λ c i. i) paths k
    own_logged (e ∷ es) paths still (bad _ f l) = beside e (λ o clean.
        f (clean, inl (subst (λ (u : ℕ). GoesOn s u) (sym (on_root e.by e.holder (paths e (inl refl)).0 ∙ on_root e.holder m o)) goes)))
        (own_logged es (λ d i. paths d (inr i)) (λ d i. still d (inr i)) l)
    own_logged (e ∷ es) paths still (waiting _ f n k) = beside e (λ o clean. still e (inl refl) o
        (f (clean, inl (subst (λ (u : ℕ). GoesOn s u) (sym (on_root e.by e.holder (paths e (inl refl)).0 ∙ on_root e.holder m o)) goes))).0
        clean) (own_matches es s.calls (λ c i. i) (λ d i. paths d (inr i)) k)

  -- ---- what a vote gives by it

  abbrev Theirs : State → Act → Type 0
  Theirs s a = (top a ≡ m) × Alive s a

  module _ (s : State) (base : ℕ) where
    -- an entry that isn't spoilt has its call
    pub own_call : (es : List Entry) (cs : List Call) → OwnLog m s es cs → (e : Entry) → In e es → on e.holder m ≡ true → Clean s e.by →
        (c : Call) × In c cs × (c.write ≡ true) × (e.by ≡ c.act)
    own_call [] [] nothing e i on_m clean = absurd i
    own_call (d ∷ es) (c ∷ cs) (entry _ _ by gives w o l) e (inl q) on_m clean = (c, inl refl, w, ap (λ (x : Entry). x.by) q ∙ by)
    own_call (d ∷ es) (c ∷ cs) (entry _ _ by gives w o l) e (inr i) on_m clean = let r = own_call es cs l e i on_m clean in
        (r.0, inr r.1, r.2, r.3)
    own_call (d ∷ es) cs (beside _ f l) e (inl q) on_m clean =
        absurd (f (subst (λ (x : Entry). on x.holder m ≡ true) q on_m) (subst (λ (x : Entry). Clean s x.by) q clean))
    own_call (d ∷ es) cs (beside _ f l) e (inr i) on_m clean = own_call es cs l e i on_m clean
    own_call es (c ∷ cs) (apart _ f l) e i on_m clean = let r = own_call es cs l e i on_m clean in (r.0, inr r.1, r.2, r.3)

    -- and each such call its entry
    pub own_entry : (es : List Entry) (cs : List Call) → OwnLog m s es cs → (c : Call) → In c cs → c.write ≡ true → top c.act ≡ m →
        Clean s c.act → (e : Entry) × In e es × (on e.holder m ≡ true) × (e.by ≡ c.act)
    own_entry [] [] nothing c i write own clean = absurd i
    own_entry (e ∷ es) (d ∷ cs) (entry _ _ by gives w o l) c (inl q) write own clean =
        (e, inl refl, o, by ∙ ap (λ (x : Call). x.act) (sym q))
    own_entry (e ∷ es) (d ∷ cs) (entry _ _ by gives w o l) c (inr i) write own clean = let r = own_entry es cs l c i write own clean in
        (r.0, inr r.1, r.2, r.3)
    own_entry (e ∷ es) cs (beside _ f l) c i write own clean = let r = own_entry es cs l c i write own clean in (r.0, inr r.1, r.2, r.3)
    own_entry es (d ∷ cs) (apart _ f l) c (inl q) write own clean = absurd (f (subst (λ (y : Call). y.write ≡ true) q write)
        (subst (λ (y : Call). top y.act ≡ m) q own) (subst (λ (y : Call). Clean s y.act) q clean))
    own_entry es (d ∷ cs) (apart _ f l) c (inr i) write own clean = own_entry es cs l c i write own clean

    -- it gives the value of the newest write
    pub own_newest : (es : List Entry) (cs : List Call) → ((e : Entry) → In e es → (on e.by e.holder ≡ true)
        × (((same e.holder m ≡ true) × Clean s e.by) ⊎ ((same e.holder m ≡ false) × (on e.holder m ≡ true → Clean s e.by → ⊥)))) →
        ((d : Call) → In d cs → Theirs s d.act → Clean s d.act)
        → OwnLog m s es cs → (c : Call) → In c cs → c.write ≡ true → Theirs s c.act → Newest s.initial (Theirs s) (held_value m base es) cs
    own_newest [] [] kinds clean nothing c i write own = absurd i
    own_newest (e ∷ es) (d ∷ cs) kinds clean (entry _ _ by gives w o l) c i write own =
        go (kinds e (inl refl)).1 (λ j. own_newest es cs (λ x k. kinds x (inr k)) (λ x k. clean x (inr k)) l c j write own) i
      where
        go : ((same e.holder m ≡ true) × Clean s e.by) ⊎ ((same e.holder m ≡ false) × (on e.holder m ≡ true → Clean s e.by → ⊥)) →
            (In c cs → Newest s.initial (Theirs s) (held_value m base es) cs) → In c (d ∷ cs) →
            Newest s.initial (Theirs s) (held_value m base (e ∷ es)) (d ∷ cs)
        go (inl (t, f)) ih j = newest d w (
          sym (ap top by) ∙ top_of e.by m is (on_trans e.by e.holder m (kinds e (inl refl)).0 o),
          subst (λ (x : Act). Alive s x) by (clean_alive s e.by f),
        ) (sym gives ∙ sym (λ z. cond (t z) e.gives (held_value m base es)))
        go (inr (t, f)) ih j =
            subst (λ (v : ℕ). Newest s.initial (Theirs s) v (d ∷ cs)) (sym (λ z. cond (t z) e.gives (held_value m base es)))
            (older d (λ wr q. never q) (ih (elim j [ inl q ↦ absurd (never (subst (λ (y : Call). Theirs s y.act) q own)) | inr k ↦ k ])))
          where
            never : Theirs s d.act → ⊥
            never q = f o (subst (λ (x : Act). Clean s x) (sym by) (clean d (inl refl) q))
    own_newest (e ∷ es) cs kinds clean (beside _ f l) c i write own =
        go (kinds e (inl refl)).1 (own_newest es cs (λ x k. kinds x (inr k)) clean l c i write own)
      where
        go : ((same e.holder m ≡ true) × Clean s e.by) ⊎ ((same e.holder m ≡ false) × (on e.holder m ≡ true → Clean s e.by → ⊥)) →
            Newest s.initial (Theirs s) (held_value m base es) cs → Newest s.initial (Theirs s) (held_value m base (e ∷ es)) cs
        go (inl (t, g)) ih = absurd (f (subst (λ (x : Act). on x m ≡ true) (sym (same_is e.holder m t)) (on_self m)) g)
        go (inr (t, g)) ih = subst (λ (v : ℕ). Newest s.initial (Theirs s) v cs) (sym (λ z. cond (t z) e.gives (held_value m base es))) ih
    own_newest es (d ∷ cs) kinds clean (apart _ f l) c i write own =
        go (λ j. own_newest es cs kinds (λ x k. clean x (inr k)) l c j write own) i
      where
        go : (In c cs → Newest s.initial (Theirs s) (held_value m base es) cs) → In c (d ∷ cs) →
            Newest s.initial (Theirs s) (held_value m base es) (d ∷ cs)
        go ih (inl q) = absurd (let p = subst (λ (y : Call). Theirs s y.act) q own in
            f (subst (λ (y : Call). y.write ≡ true) q write) p.0 (clean d (inl refl) p))
        go ih (inr j) = older d (λ wr q. f wr q.0 (clean d (inl refl) q)) (ih j)

-- ---- one step

-- What a step does to a server's log, as far as the top's entries are in it: an entry more that is spoilt, holders that are passed up,
-- entries that go of actions that aren't alive; or the copy went.
abbrev pub Moves : Act → State → Server → Server → Type 0
Moves m s v w = (w.log ≡ v.log)
    ⊎ ((e : Entry) × (w.log ≡ e ∷ v.log) × (on e.holder m ≡ true → Clean s e.by → ⊥))
    ⊎ ((a : Act) × (j : ℕ) × (w.log ≡ map (handed a j) v.log) × (is_action a ≡ true))
    ⊎ ((a : Act) × (w.log ≡ filter (λ (e : Entry). not (on e.holder a)) v.log)
    × ((h : Act) → on h a ≡ true → on h m ≡ true → Alive s h → ⊥))
    ⊎ (v.incarnation ≡ w.incarnation → v.active ≡ w.active → ⊥)

-- What it leaves of the top: who was doomed is, a confirmation that is new comes in naming's incarnation, calls are as they were, or one
-- more; a Vote that is new is under the binding that is kept.
pub record Touched (m : Act) (s t : State) : Type 0 where
  pub doomed : (a : Act) → (s.action a).doomed ≡ true → (t.action a).doomed ≡ true
  pub confirmed : t.confirmed m ≡ true → (s.confirmed m ≡ true) ⊎ (t.naming.first ≡ s.naming.first)
  pub calls : (t.calls ≡ s.calls) ⊎ ((c : Call) × (t.calls ≡ c ∷ s.calls) × (top c.act ≡ m → (s.action m).stage ≡ 0))
  pub votes : (b i : ℕ) → In (Vote m b i) t.net → In (Vote m b i) s.net ⊎ (b ≡ t.kept (root m))
  pub moves : (s.action m).stage ≡ 1 → (n : ℕ) → Moves m s (s.server n) (t.server n)
  pub initial : t.initial ≡ s.initial

module _ (m : Act) (is : is_top m ≡ true) (s : State) (h : Holds s) (v : Values s) where
  -- one message more, which is no Vote
  mailed : (x : Message) → ((b i : ℕ) → Vote m b i ≡ x → ⊥) → (b i k : ℕ) → In (Vote m b i) (x ∷ s.net) → In (Vote m b i) s.net ⊎ (b ≡ k)
  mailed x other b i k (inl q) = absurd (other b i q)
  mailed x other b i k (inr j) = inl j

  pub goes : (s.action m).stage ≡ 1 → GoesOn s (root m)
  goes one = (h.tops m is).goes (omega (arith, one)) (omega (arith, one))

  -- an entry below an ended top isn't one of this top
  ended : (s.action m).stage ≡ 1 → (a : Act) → is_top a ≡ true → (s.action a).stage ≡ 3 → (x : Act) → on x a ≡ true → on x m ≡ true → ⊥
  ended one a top_a three x p q = let same_top : a ≡ m = sym (top_of x a top_a p) ∙ top_of x m is q in
      let e : (s.action a).stage ≡ (s.action m).stage = ap (λ (y : Act). (s.action y).stage) same_top in omega (arith, three, e, one)

  -- a request that is applied now was sent by an action that is spoilt
  late : (s.action m).stage ≡ 1 → (n : ℕ) (q : Request) → Guard (Apply n q 0) s → on q.act m ≡ true → Clean s q.act → ⊥
  late one n q guard o clean = elim (v.says (Invoke q) guard.0).1 [
    | inl w ↦ (let zero = v.path q.act w.1 (clean_alive s q.act clean) (top q.act) (on_top q.act) (top_acts q.act (v.waits q.act w.1).0) in
        let e : (s.action (top q.act)).stage ≡ (s.action m).stage = ap (λ (y : Act). (s.action y).stage) (top_of q.act m is o) in
        omega (arith, zero, e, one))
    | inr f ↦ used (f (clean, inl (subst (λ (u : ℕ). GoesOn s u) (sym (on_root q.act m o)) (goes one))))
  ]
    where
      at_server : server_of s q.binding ≡ s.server n
      at_server = ap s.server guard.1.0

      used : Used s q → ⊥
      used (inl p) = past (subst (λ (w : Server). ((s.binding q.binding).incarnation < w.incarnation)
          ⊎ (((s.binding q.binding).incarnation ≡ w.incarnation) × (q.binding < w.active))) at_server p)
        where
          past : ((s.binding q.binding).incarnation < (s.server n).incarnation)
              ⊎ (((s.binding q.binding).incarnation ≡ (s.server n).incarnation) × (q.binding < (s.server n).active)) → ⊥
          past (inl l) = let a = guard.1.1 in omega (arith, l, a)
          past (inr r) = let l = r.1 in let a = guard.1.2 in omega (arith, l, a)
      used (inr l) = let k : q.number ≤ (s.server n).request q.act = subst (λ (w : Server). q.number ≤ w.request q.act) at_server l in
          let g = guard.2 in omega (arith, k, g)

  still : (n : ℕ) → Moves m s (s.server n) (s.server n)
  still n = inl refl

  -- only this server
  only_at : (k : ℕ) (w : Server) → Moves m s (s.server k) w → (n : ℕ) → Moves m s (s.server n) (at s.server k w n)
  only_at k w here = at_cases (λ (n : ℕ) (x : Server). Moves m s (s.server n) x) s.server k w here (λ n other. inl refl)

  -- only this action, which is as doomed as it was
  doomed_at : (a : Act) (x : Action) → ((s.action a).doomed ≡ true → x.doomed ≡ true) → (b : Act) → (s.action b).doomed ≡ true →
      (at_act s.action a x b).doomed ≡ true
  doomed_at a x here = act_cases (λ (b : Act) (y : Action). (s.action b).doomed ≡ true → y.doomed ≡ true) s.action a x here (λ b other d. d)

  pub touched : (e : Event) → Guard e s → Touched m s (next e s)
  touched (CrashNaming g) guard =
      record { doomed = λ a d. d; confirmed = λ c. inl c; calls = inl refl; votes = λ b i j. inl j; moves = λ one. still; initial = refl }
  touched (BindLive a) guard = record {
    doomed = λ a d. d;
    confirmed = λ c. inl c;
    calls = inl refl;
    votes = λ b i j. mailed _ (λ b i q. cc q) b i (s.kept (root m)) j;
    moves = λ one. still;
    initial = refl;
  }
  touched (BindNew a b n) guard = record {
    doomed = λ a d. d;
    confirmed = λ c. inl c;
    calls = inl refl;
    votes = λ b i j. mailed _ (λ b i q. cc q) b i (s.kept (root m)) j;
    moves = λ one. still;
    initial = refl;
  }
  touched (Grant a) guard = record {
    doomed = λ a d. d;
    confirmed = λ c. inl c;
    calls = inl refl;
    votes = λ b i j. mailed _ (λ b i q. cc q) b i (s.kept (root m)) j;
    moves = λ one. still;
    initial = refl;
  }
  touched (Record b) guard = record {
    doomed = λ a d. d;
    confirmed = λ c. inl c;
    calls = inl refl;
    votes = λ b i j. mailed _ (λ b i q. cc q) b i (s.kept (root m)) j;
    moves = λ one. still;
    initial = refl;
  }
  touched (ConfirmTop a q) guard = record {
    doomed = λ a d. d;
    confirmed = λ c. inr refl;
    calls = inl refl;
    votes = λ b i j. inl j;
    moves = λ one. still;
    initial = refl;
  }
  touched (PassEntry u n) guard =
      record { doomed = λ a d. d; confirmed = λ c. inl c; calls = inl refl; votes = λ b i j. inl j; moves = λ one. still; initial = refl }
  touched (DropEntry a) guard =
      record { doomed = λ a d. d; confirmed = λ c. inl c; calls = inl refl; votes = λ b i j. inl j; moves = λ one. still; initial = refl }
  touched (CrashServer n i) guard = record {
    doomed = λ a d. d;
    confirmed = λ c. inl c;
    calls = inl refl;
    votes = λ b i j. inl j;
    moves = λ one. only_at n _ (inr (inr (inr (inr (λ q r. let g = guard in omega (arith, q, g))))));
    initial = refl;
  }
  touched (ActivateCopy n b w) guard = record {
    doomed = λ a d. d;
    confirmed = λ c. inl c;
    calls = inl refl;
    votes = λ b i j. mailed _ (λ b i q. cc q) b i (s.kept (root m)) j;
    moves = λ one. only_at n _ (inr (inr (inr (inr (λ q r. let g = guard.2 in omega (arith, r, g))))));
    initial = refl;
  }
  touched (Apply n q g) guard = record {
    doomed = λ a d. d;
    confirmed = λ c. inl c;
    calls = inl refl;
    votes = λ b i j. mailed _ (λ b i z. cc z) b i (s.kept (root m)) j;
    moves = λ one. only_at n _ (by one q.write);
    initial = refl;
  }
    where
      by : (s.action m).stage ≡ 1 → (w : Bool) → Moves m s (s.server n) (record (s.server n) {
        log = cond w (record { holder = q.act; by = q.act; request = q.number; gives = g } ∷ (s.server n).log) (s.server n).log;
        rows = (let x = (next (Apply n q g) s).server n in x.rows);
        request = (let x = (next (Apply n q g) s).server n in x.request);
      })
      by one true =
          inr (inl (record { holder = q.act; by = q.act; request = q.number; gives = g }, refl, λ o clean. late one n q guard o clean))
      by one false = inl refl
  touched (Refuse n q) guard = record {
    doomed = λ a d. d;
    confirmed = λ c. inl c;
    calls = inl refl;
    votes = λ b i j. mailed _ (λ b i z. cc z) b i (s.kept (root m)) j;
    moves = λ one. only_at n _ (inl refl);
    initial = refl;
  }
  touched (Change n q) guard = record {
    doomed = λ a d. d;
    confirmed = λ c. inl c;
    calls = inl refl;
    votes = λ b i j. mailed _ (λ b i z. cc z) b i (s.kept (root m)) j;
    moves = λ one. still;
    initial = refl;
  }
  touched (PassRow n a j) guard = record {
    doomed = λ a d. d;
    confirmed = λ c. inl c;
    calls = inl refl;
    votes = λ b i j. inl j;
    moves = λ one. only_at n _ (inr (inr (inl (a, j, refl, guard.0))));
    initial = refl;
  }
  touched (PassTop n u j) guard = record {
    doomed = λ a d. d;
    confirmed = λ c. inl c;
    calls = inl refl;
    votes = λ b i j. inl j;
    moves = λ one. only_at n _ (inr (inr (inr (inl (Sub (Root u) j, refl, λ x p q alive. ended one (Sub (Root u) j) refl guard.0 x p q)))));
    initial = refl;
  }
  touched (DropRows n a) guard = record {
    doomed = λ a d. d;
    confirmed = λ c. inl c;
    calls = inl refl;
    votes = λ b i j. inl j;
    moves = λ one. only_at n _ (inr (inr (inr (inl (a, refl, gone one guard)))));
    initial = refl;
  }
    where
      gone : (s.action m).stage ≡ 1 → Guard (DropRows n a) s → (x : Act) → on x a ≡ true → on x m ≡ true → Alive s x → ⊥
      gone one (inl four) x p q alive = let l = alive a p in omega (arith, four, l)
      gone one (inr (inl over)) x p q alive = let r : root a ≡ root m = sym (on_root x a p) ∙ on_root x m q in
          let e : (s.action (Root (root a))).stage ≡ (s.action (Root (root m))).stage = ap (λ (u : ℕ). (s.action (Root u)).stage) r in
          let g = goes one in let three = over.0 in omega (arith, three, e, g)
      gone one (inr (inr done)) x p q alive = ended one a done.0 done.1 x p q
  touched (VoteTop n a b i) guard = record {
    doomed = λ a d. d;
    confirmed = λ c. inl c;
    calls = inl refl;
    votes = λ b i j. inl j;
    moves = λ one. only_at n _ (inl refl);
    initial = refl;
  }
  touched (Keep a b) guard =
      record { doomed = λ a d. d; confirmed = λ c. inl c; calls = inl refl; votes = λ b i j. inl j; moves = λ one. still; initial = refl }
  touched (Name b i) guard =
      record { doomed = λ a d. d; confirmed = λ c. inl c; calls = inl refl; votes = λ b i j. inl j; moves = λ one. still; initial = refl }
  touched (Load b w) guard = record {
    doomed = λ a d. d;
    confirmed = λ c. inl c;
    calls = inl refl;
    votes = λ b i j. mailed _ (λ b i q. cc q) b i (s.kept (root m)) j;
    moves = λ one. still;
    initial = refl;
  }
  touched (SendInvoke a k w) guard = record {
    doomed = doomed_at a _ (λ d. d);
    confirmed = λ c. inl c;
    calls = inl refl;
    votes = λ b i j. mailed _ (λ b i q. cc q) b i (s.kept (root m)) j;
    moves = λ one. still;
    initial = refl;
  }
  touched (Answered r p) guard = record {
    doomed = doomed_at r.request.act _ (λ d. d);
    confirmed = λ c. inl c;
    calls = inr (_, refl, λ own. sym (ap (λ (y : Act). (s.action y).stage) own) ∙ guard.3 (top r.request.act) (on_top r.request.act));
    votes = λ b i j. inl j;
    moves = λ one. still;
    initial = refl;
  }
  touched (TurnedDown q) guard = record {
    doomed = doomed_at q.act _ (λ d. d);
    confirmed = λ c. inl c;
    calls = inl refl;
    votes = λ b i j. inl j;
    moves = λ one. still;
    initial = refl;
  }
  touched (Lost a) guard = record {
    doomed = doomed_at a _ (λ d. d);
    confirmed = λ c. inl c;
    calls = inl refl;
    votes = λ b i j. inl j;
    moves = λ one. still;
    initial = refl;
  }
  touched (GiveUp a) guard = record {
    doomed = doomed_at a _ (λ d. refl);
    confirmed = λ c. inl c;
    calls = inl refl;
    votes = λ b i j. inl j;
    moves = λ one. still;
    initial = refl;
  }
  touched (CommitNested a p) guard = record {
    doomed = doomed_at a _ (λ d. d);
    confirmed = λ c. inl c;
    calls = inl refl;
    votes = λ b i j. inl j;
    moves = λ one. still;
    initial = refl;
  }
  touched (Abort a) guard = record {
    doomed = doomed_at a _ (λ d. d);
    confirmed = λ c. inl c;
    calls = inl refl;
    votes = λ b i j. inl j;
    moves = λ one. still;
    initial = refl;
  }
  touched (CommitTop a p) guard = record {
    doomed = doomed_at a _ (λ d. d);
    confirmed = λ c. inl c;
    calls = inl refl;
    votes = λ b i j. inl j;
    moves = λ one. still;
    initial = refl;
  }
  touched (SendVote a i) guard = record {
    doomed = λ a d. d;
    confirmed = λ c. inl c;
    calls = inl refl;
    votes = λ b i j. sent b i j;
    moves = λ one. still;
    initial = refl;
  }
    where
      sent : (b k : ℕ) → In (Vote m b k) (Vote a (s.kept (root a)) i ∷ s.net) → In (Vote m b k) s.net ⊎ (b ≡ s.kept (root m))
      sent b k (inr j) = inl j
      sent b k (inl q) = let who : m ≡ a = cc q in let what : b ≡ s.kept (root a) = cc q in
          inr (what ∙ ap (λ (x : Act). s.kept (root x)) (sym who))
  touched (SendConfirm a q) guard = record {
    doomed = λ a d. d;
    confirmed = λ c. inl c;
    calls = inl refl;
    votes = λ b i j. mailed _ (λ b i z. cc z) b i (s.kept (root m)) j;
    moves = λ one. still;
    initial = refl;
  }
  touched (Decide a) guard = record {
    doomed = doomed_at a _ (λ d. d);
    confirmed = λ c. inl c;
    calls = inl refl;
    votes = λ b i j. inl j;
    moves = λ one. still;
    initial = refl;
  }
  touched (Report a p) guard = record {
    doomed = doomed_at a _ (λ d. d);
    confirmed = λ c. inl c;
    calls = inl refl;
    votes = λ b i j. inl j;
    moves = λ one. still;
    initial = refl;
  }
  touched (EndUnit u) guard = record {
    doomed = doomed_at (Root u) _ (λ d. d);
    confirmed = λ c. inl c;
    calls = inl refl;
    votes = λ b i j. inl j;
    moves = λ one. still;
    initial = refl;
  }
  touched (Included a g p) guard =
      record { doomed = λ a d. d; confirmed = λ c. inl c; calls = inl refl; votes = λ b i j. inl j; moves = λ one. still; initial = refl }
