-- What an answer makes of a call or an include: where it goes on, what is kept, and what is named.
use Rattle.arj_law_parts.proofs.Words
use Words.{◌≡◌, ◌⊎◌, ℕ, ◌==◌, ◌&&◌, if◌then◌else◌, Bool, true, false, List, [], ◌∷◌, Option, Some, None, refl, ap, inl, inr, ⊎_elim, min}
use Words.{and_parts, uid_is, In, Binding, BoundReply, InvokedReply, LoadedReply, ObjectState, RecordedReply, What, uid_eq, Reply, ask_kind}
use Words.{reply_kind, Answered, At, AtActivate, AtBind, AtInvoke, AtLoad, AtNote, CallStep, Changed, Conflict, Ended, Goal, Include}
use Words.{Included, Known, Lost, Moved, On, Run, Steps, activated_by, answered, ask_at, bound_by, finds, live_known, load_from}
use Words.{loaded_state, made_by, made_known, moves, named_again, or_lost, other_binding, recorded_kept, same_binding, two_bindings}
use Words.{two_incs, with_inc, write_known, Grant, Root, granted_with, is_grant_of, named_last, binding_eq, binding_less, binding_number}
use Words.bound
use Words.invoked
use Words.loaded
use Words.recorded
use Rattle.arj_law_disk_view.proofs.Terms.{test_is, test_same}
use Rattle.arj_law_disk_view.proofs.running.{HeardMoved.dooms_none, HeardMoved.gone_root, HeardRoots.KeptAlike}

-- ---- what an answer names

-- A binding is named to a call, which goes on in this place with one that compares alike, or has changed.
abbrev pub BoundStep : Known → At → Moved → Type 0
BoundStep k place m = ((m.step ≡ On place) × ((l : Known) × (m.kept ≡ Some l) × (binding_eq l.binding k.binding ≡ true)))
    ⊎ ((n : ℕ) × (w : What) × (m.step ≡ Ended (Changed n w)))

pub bound_step : (free : Bool) (k : Known) (place : At) (o : Option Known) → BoundStep k place (bound_by free k place o)
bound_step free k place None = inl (refl, (k, refl, test_same (binding_number k.binding)))
bound_step free k place (Some old) = by (binding_eq old.binding k.binding) refl
  where
    incs : (i : ℕ) → binding_eq old.binding k.binding ≡ true → (p : Option ℕ) → BoundStep k place (with_inc i (named_again old k) place p)
    incs i e None = inl (refl, (record (named_again old k) { inc = Some i }, refl, e))
    incs i e (Some first) = tests (first == i)
      where
        tests : (b : Bool) → BoundStep k place (if b then moves (Some (named_again old k)) place else finds (Some (named_again old k))
            (Changed (let z = named_again old k in z.server) (two_incs first i)))
        tests true = inl (refl, (named_again old k, refl, e))
        tests false = inr (let z = named_again old k in z.server, two_incs first i, refl)

    alike : binding_eq old.binding k.binding ≡ true → (i : Option ℕ) → BoundStep k place (same_binding old k place i)
    alike e None = inl (refl, (named_again old k, refl, e))
    alike e (Some i) = incs i e old.inc

    unlike : (b : Bool) →
        BoundStep k place (if b then moves (Some k) place else finds (Some old) (Changed 1 (two_bindings old.binding k.binding)))
    unlike true = inl (refl, (k, refl, test_same (binding_number k.binding)))
    unlike false = inr (1, two_bindings old.binding k.binding, refl)

    by : (b : Bool) → binding_eq old.binding k.binding ≡ b →
        BoundStep k place (if b then same_binding old k place k.inc else other_binding free old k place)
    by true e = alike e k.inc
    by false e = unlike (free && binding_less old.binding k.binding)

-- the server took the copy: what is kept is alike, and the call goes on, or has changed
abbrev pub TookStep : Option Known → At → Moved → Type 0
TookStep o place m = KeptAlike o m.kept × ((m.step ≡ On place) ⊎ ((n : ℕ) × (w : What) × (m.step ≡ Ended (Changed n w))))

pub took_step : (k : Known) (i : ℕ) (o : Option Known) → TookStep o (AtNote k i) (activated_by k i o)
took_step k i None = (inl refl, inl refl)
took_step k i (Some old) = by (binding_eq old.binding k.binding)
  where
    incs : (p : Option ℕ) → TookStep (Some old) (AtNote k i) (with_inc i old (AtNote k i) p)
    incs None = (inr (old, record old { inc = Some i }, refl, refl, refl, refl), inl refl)
    incs (Some first) = tests (first == i)
      where
        tests : (b : Bool) → TookStep (Some old) (AtNote k i)
            (if b then moves (Some old) (AtNote k i) else finds (Some old) (Changed old.server (two_incs first i)))
        tests true = (inl refl, inl refl)
        tests false = (inl refl, inr (old.server, two_incs first i, refl))

    by : (b : Bool) → TookStep (Some old) (AtNote k i) (if b then with_inc i old (AtNote k i) old.inc else moves (Some old) (AtNote k i))
    by true = incs old.inc
    by false = (inl refl, inl refl)

pub recorded_alike : (k : Known) (o : Option Known) → KeptAlike o (recorded_kept k o)
recorded_alike k None = inl refl
recorded_alike k (Some old) = by (binding_eq old.binding k.binding)
  where
    by : (b : Bool) → KeptAlike (Some old) (if b then Some (record old { recorded = true }) else Some old)
    by true = inr (old, record old { recorded = true }, refl, refl, refl, refl)
    by false = inl refl

-- a grant that is noted names its binding
pub named_new : (g : Grant) (b : Binding) → g.named ≡ Some b → (gs : List Grant) →
    (h : Grant) × In h (granted_with g gs) × (h.top ≡ g.top) × (h.x ≡ g.x) × (h.named ≡ Some b)
named_new g b is [] = (g, inl refl, refl, refl, is)
named_new g b is (h ∷ hs) = by (is_grant_of g.top g.x h) refl (named_new g b is hs)
  where
    by : (z : Bool) → is_grant_of g.top g.x h ≡ z →
        (h : Grant) × In h (granted_with g hs) × (h.top ≡ g.top) × (h.x ≡ g.x) × (h.named ≡ Some b)
        → (k : Grant) × In k (if z then record h { least = min h.least g.least; named = named_last g.named h.named } ∷ hs else h
        ∷ granted_with g hs) × (k.top ≡ g.top) × (k.x ≡ g.x) × (k.named ≡ Some b)
    by true on ih = let a = and_parts (uid_eq h.top g.top) (h.x == g.x) on in (
      record h { least = min h.least g.least; named = named_last g.named h.named },
      inl refl,
      uid_is h.top g.top a.0,
      test_is h.x g.x a.1,
      ap (λ y. named_last y h.named) is,
    )
    by false on ih = (ih.0, inr ih.1, ih.2, ih.3, ih.4)

-- an answer of the kind that a step waits for
pub matched : (P : At → Reply → Type 0) → ((avoid : Binding) (b : BoundReply) → P (AtBind avoid) (Reply.Bound b)) →
    ((k : Known) (n : ℕ) (rest : List ℕ) (l : LoadedReply) → P (AtLoad k n rest) (Reply.Loaded l)) →
    ((k : Known) (st : ObjectState) (i : ℕ) → P (AtActivate k st) (Reply.Activated i))
    → ((k : Known) (i : ℕ) (l : RecordedReply) → P (AtNote k i) (Reply.Noted l)) → ((k : Known) (i : ℕ) (l : InvokedReply) → P (AtInvoke k
    i) (Reply.Invoked l)) → (x : ℕ) (g : Goal) (at : At) (r : Reply) → (reply_kind r == ask_kind (ask_at x g [] at)) ≡ true → P at r
matched P bind load act note inv x g (AtBind avoid) (Reply.Bound l) is = bind avoid l
matched P bind load act note inv x g (AtBind avoid) (Reply.Loaded l) is = absurd (cc is)
matched P bind load act note inv x g (AtBind avoid) (Reply.Activated l) is = absurd (cc is)
matched P bind load act note inv x g (AtBind avoid) (Reply.Noted l) is = absurd (cc is)
matched P bind load act note inv x g (AtBind avoid) (Reply.Invoked l) is = absurd (cc is)
matched P bind load act note inv x g (AtBind avoid) (Reply.Voted l) is = absurd (cc is)
matched P bind load act note inv x g (AtBind avoid) (Reply.Prepared l) is = absurd (cc is)
matched P bind load act note inv x g (AtBind avoid) (Reply.Confirmed l) is = absurd (cc is)
matched P bind load act note inv x g (AtLoad k n rest) (Reply.Bound l) is = absurd (cc is)
matched P bind load act note inv x g (AtLoad k n rest) (Reply.Loaded l) is = load k n rest l
matched P bind load act note inv x g (AtLoad k n rest) (Reply.Activated l) is = absurd (cc is)
matched P bind load act note inv x g (AtLoad k n rest) (Reply.Noted l) is = absurd (cc is)
matched P bind load act note inv x g (AtLoad k n rest) (Reply.Invoked l) is = absurd (cc is)
matched P bind load act note inv x g (AtLoad k n rest) (Reply.Voted l) is = absurd (cc is)
matched P bind load act note inv x g (AtLoad k n rest) (Reply.Prepared l) is = absurd (cc is)
matched P bind load act note inv x g (AtLoad k n rest) (Reply.Confirmed l) is = absurd (cc is)
matched P bind load act note inv x g (AtActivate k st) (Reply.Bound l) is = absurd (cc is)
matched P bind load act note inv x g (AtActivate k st) (Reply.Loaded l) is = absurd (cc is)
matched P bind load act note inv x g (AtActivate k st) (Reply.Activated l) is = act k st l
matched P bind load act note inv x g (AtActivate k st) (Reply.Noted l) is = absurd (cc is)
matched P bind load act note inv x g (AtActivate k st) (Reply.Invoked l) is = absurd (cc is)
matched P bind load act note inv x g (AtActivate k st) (Reply.Voted l) is = absurd (cc is)
matched P bind load act note inv x g (AtActivate k st) (Reply.Prepared l) is = absurd (cc is)
matched P bind load act note inv x g (AtActivate k st) (Reply.Confirmed l) is = absurd (cc is)
matched P bind load act note inv x g (AtNote k i) (Reply.Bound l) is = absurd (cc is)
matched P bind load act note inv x g (AtNote k i) (Reply.Loaded l) is = absurd (cc is)
matched P bind load act note inv x g (AtNote k i) (Reply.Activated l) is = absurd (cc is)
matched P bind load act note inv x g (AtNote k i) (Reply.Noted l) is = note k i l
matched P bind load act note inv x g (AtNote k i) (Reply.Invoked l) is = absurd (cc is)
matched P bind load act note inv x g (AtNote k i) (Reply.Voted l) is = absurd (cc is)
matched P bind load act note inv x g (AtNote k i) (Reply.Prepared l) is = absurd (cc is)
matched P bind load act note inv x g (AtNote k i) (Reply.Confirmed l) is = absurd (cc is)
matched P bind load act note inv x g (AtInvoke k i) (Reply.Bound l) is = absurd (cc is)
matched P bind load act note inv x g (AtInvoke k i) (Reply.Loaded l) is = absurd (cc is)
matched P bind load act note inv x g (AtInvoke k i) (Reply.Activated l) is = absurd (cc is)
matched P bind load act note inv x g (AtInvoke k i) (Reply.Noted l) is = absurd (cc is)
matched P bind load act note inv x g (AtInvoke k i) (Reply.Invoked l) is = inv k i l
matched P bind load act note inv x g (AtInvoke k i) (Reply.Voted l) is = absurd (cc is)
matched P bind load act note inv x g (AtInvoke k i) (Reply.Prepared l) is = absurd (cc is)
matched P bind load act note inv x g (AtInvoke k i) (Reply.Confirmed l) is = absurd (cc is)

-- no answer dooms the action
pub bound_plain : (free : Bool) (k : Known) (place : At) (o : Option Known) → dooms_none (let m = bound_by free k place o in m.step) ≡ true
bound_plain free k place o = ⊎_elim (λ on. ap dooms_none on.0) (λ (z : (n : ℕ) × (w : What) × ((let m = bound_by free k place o in m.step)
    ≡ Ended (Changed n w))). ap dooms_none z.2) (bound_step free k place o)

pub answered_plain : (free : Bool) (kept : Option Known) (x : ℕ) (g : Goal) (at : At) (r : Reply) →
    (reply_kind r == ask_kind (ask_at x g [] at)) ≡ true → dooms_none (let m = answered free kept g at r in m.step) ≡ true
answered_plain free kept x g at r is =
    matched (λ at r. dooms_none (let m = answered free kept g at r in m.step) ≡ true) bind load act note inv x g at r is
  where
    made : (k : Known) (o : Option At) → dooms_none (let m = made_by free k kept o in m.step) ≡ true
    made k None = refl
    made k (Some place) = bound_plain free k place kept

    lost : (o : Option At) → dooms_none (let m = or_lost kept o in m.step) ≡ true
    lost None = refl
    lost (Some place) = refl

    bind : (avoid : Binding) (b : BoundReply) → dooms_none (let m = answered free kept g (AtBind avoid) (Reply.Bound b) in m.step) ≡ true
    bind avoid (bound.Live b server i n stores) =
        bound_plain free (live_known b server i n stores) (AtInvoke (live_known b server i n stores) i) kept
    bind avoid (bound.Make b server n stores) = made (made_known b server n stores) (load_from (made_known b server n stores) stores)
    bind avoid (bound.Write n stores) = lost (load_from (write_known n stores) stores)
    bind avoid (bound.Conflict holder m) = refl

    state : (k : Known) (st : ObjectState) (z : Goal) → dooms_none (let m = loaded_state kept k st z in m.step) ≡ true
    state k st (Run op) = refl
    state k st (Include s) = refl

    load : (k : Known) (n : ℕ) (rest : List ℕ) (l : LoadedReply) →
        dooms_none (let m = answered free kept g (AtLoad k n rest) (Reply.Loaded l) in m.step) ≡ true
    load k n rest (loaded.State st) = state k st g
    load k n rest (loaded.InDoubt holder) = refl

    act : (k : Known) (st : ObjectState) (i : ℕ) →
        dooms_none (let m = answered free kept g (AtActivate k st) (Reply.Activated i) in m.step) ≡ true
    act k st i = ⊎_elim (λ on. ap dooms_none on) (λ (z : (n : ℕ) × (w : What) × ((let m = activated_by k i kept in m.step)
        ≡ Ended (Changed n w))). ap dooms_none z.2) (took_step k i kept).1

    note : (k : Known) (i : ℕ) (l : RecordedReply) → dooms_none (let m = answered free kept g (AtNote k i) (Reply.Noted l) in m.step) ≡ true
    note k i recorded.Yes = refl
    note k i (recorded.Changed w) = refl

    inv : (k : Known) (i : ℕ) (l : InvokedReply) →
        dooms_none (let m = answered free kept g (AtInvoke k i) (Reply.Invoked l) in m.step) ≡ true
    inv k i (invoked.Answered a) = refl
    inv k i (invoked.Conflict holder m) = refl
    inv k i (invoked.Changed w) = refl

-- an end of which the root takes no note
abbrev pub notes_nothing : CallStep → Bool
notes_nothing (Ended (Answered a)) = false
notes_nothing (Ended (Included st)) = false
notes_nothing _ = true

pub gone_same : (s : Steps) (step : CallStep) (r : Root) → notes_nothing step ≡ true → gone_root s step r ≡ r
gone_same s (On at) r on = refl
gone_same s (Ended (Answered a)) r on = absurd (cc on)
gone_same s (Ended (Included st)) r on = absurd (cc on)
gone_same s (Ended (Conflict holder m n)) r on = refl
gone_same s (Ended (Changed n w)) r on = refl
gone_same s (Ended (Lost n b)) r on = refl

abbrev pub is_load : At → Bool
is_load (AtLoad q n rest) = true
is_load _ = false

-- where a step goes on
abbrev pub at_in : CallStep → Option At
at_in (On at) = Some at
at_in (Ended e) = None
