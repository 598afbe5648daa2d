-- A node's effects are walked through where the machine has gone along before: what is sent is shown, and each stop is seen.
use Rattle.arj_law_parts.proofs.Words
use Words.{Contains, ◌≡◌, ◌∙◌, ◌⊎◌, ℕ, List, [], ◌∷◌, Bool, true, false, Option, Some, None, sym, ap, subst, inl, inr, ⊎_elim, ⊤}
use Words.{AllByRecursion, list_all, and_parts, Body, Message, ObjectState, Uid, is_on, After, Before, Disk, Effect, InPart, Intent, Say}
use Words.{Send, Do, Stop, Work, Look, PutInc, Prepare, Commit, Abort, PutIntent, RemoveIntent, is_prepared, stopped, worked, Naming, Parts}
use Words.{AreAll, Post, Seen}
use Words.list
use Words.role
use Rattle.arj_law_lock_view.proofs.Terms
use Terms.{Run, State, is_plain, Action, AreQuiet, Within, posted, said, Up, Walks, halted, Fixed, view_of, IsPostSeen, HasConfirm}
use Terms.{HaveConfirms, IsConfirmedAt, SeesLocks, SeesUp, WereConfirmed, AreTied, IsSeenSo}
use Rattle.arj_law_lock_view.proofs.running
use running.NameSteps.{confirm_more, prepared_stopped, prepared_worked}
use running.OtherSteps.{SeesOthers, posted_others, said_others, with_here}
use running.TieSteps.{IsTiedNow, tied_plain, tied_quiet}

-- ---- work that leaves the incarnation and the records

abbrev pub leaves_work : Work → Bool
leaves_work (PutInc i) = false
leaves_work (PutIntent u i) = false
leaves_work (RemoveIntent u) = false
leaves_work _ = true

-- and says lines of frames, servers and naming
abbrev pub leaves : Effect → Bool
leaves (Do w) = leaves_work w
leaves (Say b) = is_plain b
leaves (Send to m) = true

-- the disk has these
abbrev pub HasSame : ℕ → List (Uid × Intent) → Disk → Type 0
HasSame i js d = (d.inc ≡ i) × (d.intents ≡ js)

pub worked_same : (i : ℕ) (js : List (Uid × Intent)) (w : Work) (d : Disk) → leaves_work w ≡ true → HasSame i js d →
    HasSame i js (worked w d)
worked_same i js Look d ok h = h
worked_same i js (PutInc j) d ok h = absurd (cc ok)
worked_same i js (Prepare role.Store u states) d ok h = h
worked_same i js (Prepare role.Names u states) d ok h = h
worked_same i js (Commit role.Store u) d ok h = h
worked_same i js (Commit role.Names u) d ok h = h
worked_same i js (Abort role.Store u) d ok h = h
worked_same i js (Abort role.Names u) d ok h = h
worked_same i js (PutIntent u e) d ok h = absurd (cc ok)
worked_same i js (RemoveIntent u) d ok h = absurd (cc ok)

pub stopped_same : (i : ℕ) (js : List (Uid × Intent)) (how : Stop) (w : Work) (d : Disk) → leaves_work w ≡ true → HasSame i js d →
    HasSame i js (stopped how w d)
stopped_same i js Before w d ok h = h
stopped_same i js After w d ok h = worked_same i js w d ok h
stopped_same i js (InPart which) Look d ok h = h
stopped_same i js (InPart which) (PutInc j) d ok h = h
stopped_same i js (InPart which) (Prepare r u states) d ok h = h
stopped_same i js (InPart which) (Commit role.Store u) d ok h = h
stopped_same i js (InPart which) (Commit role.Names u) d ok h = h
stopped_same i js (InPart which) (Abort r u) d ok h = h
stopped_same i js (InPart which) (PutIntent u e) d ok h = h
stopped_same i js (InPart which) (RemoveIntent u) d ok h = h

-- ---- the walk

module _ (f : Fixed) (x : ℕ) (begun : List Action) (k : ℕ) where
  -- what is sent is shown, whatever else was sent
  abbrev pub IsSendSeen : State → List Post → Effect → Type 0
  IsSendSeen T sent (Send to m) = (wide : List Post) → Within sent wide →
      IsPostSeen f x begun wide T (record { from = k; to = to; message = m })
  IsSendSeen T sent _ = ⊤

  abbrev pub AreSendsSeen : State → List Post → List Effect → Type 0
  AreSendsSeen T sent outs = AllByRecursion (IsSendSeen T sent) outs

  -- a node that is up is seen by its incarnation and its records alone
  pub up_same : (T : State) (d e : Disk) (t : Parts) → e.inc ≡ d.inc → e.intents ≡ d.intents → SeesUp (view_of f x begun k) T d t →
      SeesUp (view_of f x begun k) T e t
  up_same T d e t inc records s = record {
    server = s.server;
    coord = s.coord;
    naming = s.naming;
    inc = λ n is. s.inc n is ∙ sym inc;
    place = s.place;
    home = s.home;
    past = s.past;
    records = λ u i found. s.records u i (subst (λ js. Contains {X = Uid × Intent} js (u, i)) records found);
  }

  -- what a stop leaves, with who is confirmed in another state of the machine
  abbrev pub StopsWell : ℕ → State → Disk → Seen → Type 0
  StopsWell e S d M = (U : State) × SeesLocks f x begun U (halted e k d M) × AreTied f x (let N = halted e k d M in N.lines) U × Run S U

  -- What is kept along the walk, so that at each stop naming did confirm whom the machine's naming has, or the machine is left elsewhere;
  -- and at the end naming did.
  pub record KeepsWho (S T : State) (e : ℕ) (has : Disk → Type 0) (I : List Effect → Disk → Seen → Type 0) : Type 0 where
    pub works : (w : Work) (es : List Effect) (d : Disk) (M : Seen) → I (Do w ∷ es) d M → I es (worked w d) M
    pub says : (b : Body) (es : List Effect) (d : Disk) (M : Seen) → is_plain b ≡ true → I (Say b ∷ es) d M → I es d (said e (b ∷ []) M)
    pub sends : (to : ℕ) (m : Message) (es : List Effect) (d : Disk) (M : Seen) (more : List Body) → AreQuiet more →
        I (Send to m ∷ es) d M → I es d (said e more (posted (record { from = k; to = to; message = m }) M))
    pub stops : (how : Stop) (w : Work) (es : List Effect) (d : Disk) (M : Seen) → has (stopped how w d) → I (Do w ∷ es) d M →
        (k ≡ 1 → WereConfirmed f x T M.sent (stopped how w d)) ⊎ StopsWell e S (stopped how w d) M
    pub ends : (d : Disk) (M : Seen) → I [] d M → k ≡ 1 → WereConfirmed f x T M.sent d

  -- where this is so at each stop, and at the end
  module _ (S T : State) (e : ℕ) (v : Parts) (i : ℕ) (js : List (Uid × Intent)) (sent : List Post) (I : List Effect → Disk → Seen →
      Type 0) (keeps : KeepsWho S T e (HasSame i js) I)
      (halt : (d : Disk) (M : Seen) → HasSame i js d → SeesOthers f x begun k T M → HaveConfirms f x k T M.sent d None →
      IsTiedNow f x begun T M.lines → StopsWell e S d M) (run : Run S T)
      (end : (d : Disk) → HasSame i js d → SeesUp (view_of f x begun k) T d v)
      (confirmed : (n : Naming) (u : Uid) → v.naming ≡ Some n → is_on n.confirmed u ≡ true → HasConfirm f x T sent u) where
    -- a Confirm was sent of each whose entries are prepared, or will be
    abbrev AreReady : Disk → List Effect → Type 0
    AreReady d outs = (u : Uid) → ((is_prepared u (let h = d in h.names) ≡ true)
        ⊎ ((states : List ObjectState) × list.In (Do (Prepare role.Names u states)) outs)) → HasConfirm f x T sent u

    ready_then : (w : Work) (es : List Effect) (d : Disk) → AreReady d (Do w ∷ es) → AreReady (worked w d) es
    ready_then w es d ready u (inl prepared) =
        ⊎_elim (λ old. ready u (inl old)) (λ new. ready u (inr (new.0, inl (ap Do (sym new.1))))) (prepared_worked w d u prepared)
    ready_then w es d ready u (inr (states, there)) = ready u (inr (states, inr there))

    ready_on : (o : Effect) (es : List Effect) (d : Disk) → AreReady d (o ∷ es) → AreReady d es
    ready_on o es d ready u (inl prepared) = ready u (inl prepared)
    ready_on o es d ready u (inr (states, there)) = ready u (inr (states, inr there))

    at_stop : (how : Stop) (w : Work) (es : List Effect) (d : Disk) (M : Seen) → Within sent M.sent → AreReady d (Do w ∷ es) → (u : Uid) →
        IsConfirmedAt u (stopped how w d) None → HasConfirm f x T M.sent u
    at_stop how w es d M within ready u (inl prepared) = confirm_more f x T sent M.sent within u
        (⊎_elim (λ old. ready u (inl old)) (λ new. ready u (inr (new.0, inl (ap Do (sym new.1))))) (prepared_stopped how w d u prepared))
    at_stop how w es d M within ready u (inr (t, n, is, at, on)) = absurd (cc is)

    at_end : (d : Disk) (M : Seen) → Within sent M.sent → AreReady d [] → (u : Uid) → IsConfirmedAt u d (Some v) → HasConfirm f x T M.sent u
    at_end d M within ready u (inl prepared) = confirm_more f x T sent M.sent within u (ready u (inl prepared))
    at_end d M within ready u (inr (t, n, is, at, on)) =
        confirm_more f x T sent M.sent within u (confirmed n u (ap (λ (z : Parts). z.naming) (one is) ∙ at) on)
      where
        one : ◌≡◌ {A = Option Parts} (Some v) (Some t) → v ≡ t
        one same = cc same

    pub walked : (outs : List Effect) (d : Disk) (M : Seen) → I outs d M → AreSendsSeen T sent outs → AreAll leaves outs →
        Within sent M.sent → AreReady d outs → HasSame i js d → SeesOthers f x begun k T M → IsTiedNow f x begun T M.lines
        → Walks (IsSeenSo (record { fixed = f; x = x; begun = begun; state = S })) e k outs
        (Up (IsSeenSo (record { fixed = f; x = x; begun = begun; state = S })) k v) d M
    walked [] d M who sends plain within ready same others now =
        λ agrees. (T, with_here f x begun k d (Some v) T M others (end d same) (at_end d M within ready, keeps.ends d M who), now.tied, run)
    walked (Do w ∷ es) d M who sends plain within ready same others now =
        let p = and_parts (leaves_work w) (list_all leaves es) plain in (
          λ how agrees. (let left = stopped_same i js how w d p.0 same in ⊎_elim (λ were. halt (stopped how w d) M left others
              (at_stop how w es d M within ready, were) now) (λ well. well) (keeps.stops how w es d M left who)),
          walked es (worked w d) M (keeps.works w es d M who) sends.1 p.1 within (ready_then w es d ready) (worked_same i js w d p.0 same)
              others now,
        )
    walked (Say b ∷ es) d M who sends plain within ready same others now =
        let p = and_parts (is_plain b) (list_all leaves es) plain in
        walked es d (said e (b ∷ []) M) (keeps.says b es d M p.0 who) sends.1 p.1 within (ready_on (Say b) es d ready) same
        (said_others f x begun k e (b ∷ []) T M others) (tied_plain f x begun e (b ∷ []) T M.lines (p.0, tt) now)
    walked (Send to m ∷ es) d M who sends plain within ready same others now = λ more quiet.
        let p : Post = record { from = k; to = to; message = m } in
        walked es d (said e more (posted p M)) (keeps.sends to m es d M more quiet who) sends.1 plain (λ q there. inr (within q there))
        (ready_on (Send to m) es d ready) same
        (said_others f x begun k e more T (posted p M) (posted_others f x begun k p T M others
        (sends.0 (p ∷ M.sent) (λ q there. inr (within q there))))) (tied_quiet f x begun e more T M.lines quiet now)
