-- An abort at a server goes in the machine.
use Rattle.arj_law_parts.proofs.Words
use Words.{◌≡◌, ◌≢◌, ◌⊎◌, ◌∙◌, ◌++◌, not, ℕ, List, [], ◌∷◌, Bool, true, false, cond, filter, refl, sym, ap, subst, inl, inr, ⊎_elim}
use Words.{AllByRecursion, filter-append, Uid, Row, object, is_on, last_uid, Over, end_copy, undone}
use Words.ending
use Rattle.arj_law_lock_view.proofs.Terms
use Terms.{Act, In, Root, on, root, top, Guard, next, stay, step, Call, Entry, Server, State, DropRows, Survives, at_here, by_cases, differ}
use Terms.{on_trans, Acts, AreHeld, Codes, CountsForNone, IsDead, IsOver, MayUndo, OnlyEnds, SeesCopy, SeesOvers, Goes}
use Rattle.arj_law_lock_view.proofs.view
use view.{RowSteps.AreAlong, RowSteps.dropped_seen, RunSteps.goes_then, RunSteps.goes_to}
use view.LeftSteps.{ends_both, ends_only, left_kept}
use Rattle.arj_law_lock_view.specs.view.Copies.{UndoingsAreSeen}
use Rattle.arj_law_lock.specs.machine.Rows as machine

-- what the machine keeps of a log
abbrev pub keeps : Act → Entry → Bool
keeps a e = not (on e.holder a)

-- an overlay's writes go together
all_stay : (a h : Act) (own : List Entry) → on h a ≡ false → AreHeld h own → filter (keeps a) own ≡ own
all_stay a h [] off held = refl
all_stay a h (e ∷ es) off held = (λ i. cond (not (on (held.0 i) a)) (e ∷ filter (keeps a) es) (filter (keeps a) es)) ∙ (λ i.
    cond (not (off i)) (e ∷ filter (keeps a) es) (filter (keeps a) es)) ∙ ap (λ (gs : List Entry). e ∷ gs) (all_stay a h es off held.1)

all_go : (a h : Act) (own : List Entry) → on h a ≡ true → AreHeld h own → filter (keeps a) own ≡ []
all_go a h [] above held = refl
all_go a h (e ∷ es) above held = (λ i. cond (not (on (held.0 i) a)) (e ∷ filter (keeps a) es) (filter (keeps a) es))
    ∙ (λ i. cond (not (above i)) (e ∷ filter (keeps a) es) (filter (keeps a) es)) ∙ all_go a h es above held.1

pub undone_seen : (act : Acts) (code : Codes) (u : Uid) (stack : List Over) (log : List Entry) →
    AllByRecursion (λ (o : Over). is_on o.holder u ≡ on (act (last_uid o.holder)) (act u)) stack
    → SeesOvers act code stack log → SeesOvers act code (undone u stack) (filter (keeps (act u)) log)
undone_seen act code u [] log told none = ap (filter (keeps (act u))) none
undone_seen act code u (o ∷ os) log told sees = by (is_on o.holder u) refl (undone_seen act code u os sees.1 told.1 sees.4)
  where
    over : IsOver act code o sees.0
    over = sees.3

    split : filter (keeps (act u)) log ≡ filter (keeps (act u)) sees.0 ++ filter (keeps (act u)) sees.1
    split = ap (filter (keeps (act u))) sees.2 ∙ filter-append (keeps (act u)) sees.0 sees.1

    by : (b : Bool) → is_on o.holder u ≡ b → SeesOvers act code (undone u os) (filter (keeps (act u)) sees.1) →
        SeesOvers act code (cond (not b) (o ∷ undone u os) (undone u os)) (filter (keeps (act u)) log)
    by true is rest = subst (SeesOvers act code (undone u os)) (sym (split ∙ ap (λ (es : List Entry). es ++ filter (keeps (act u)) sees.1)
        (all_go (act u) (act (last_uid o.holder)) sees.0 (sym told.0 ∙ is) over.held))) rest
    by false is rest = (
      sees.0,
      filter (keeps (act u)) sees.1,
      split ∙ ap (λ (es : List Entry). es ++ filter (keeps (act u)) sees.1)
          (all_stay (act u) (act (last_uid o.holder)) sees.0 (sym told.0 ∙ is) over.held),
      over,
      rest,
    )

along : (act : Acts) (u : Uid) (rows : List Row) →
    AllByRecursion (λ (r : Row). is_on r.holder u ≡ true → on (act (last_uid r.holder)) (act u) ≡ true) rows → AreAlong act u rows
along act u [] all = tt
along act u (r ∷ rs) all = (all.0, along act u rs all.1)

-- a server without what an action and all below it had
abbrev pub without : Act → Server → Server
without a v = record v { rows = machine.drop_below v.rows a; log = filter (keeps a) v.log }

-- the machine drops it, where it may
pub drop_goes : (n : ℕ) (a : Act) (S : State) → Guard (DropRows n a) S →
    Goes S (λ T. (T.server n ≡ without a (S.server n)) × OnlyEnds n S T)
drop_goes n a S may = record {
  state = next (DropRows n a) S;
  run = step (DropRows n a) may stay;
  holds = (
    at_here S.server n (without a (S.server n)),
    ends_only n S (without a (S.server n)) (record { incarnation = refl; voted = refl; request = refl })
        (left_kept S (keeps a) (let v = S.server n in v.log)),
  );
}

-- ---- where dead writes go first

-- what was held below an action goes with it
less_kept : (a b : Act) → on b a ≡ true → (es : List Entry) → filter (keeps a) (filter (keeps b) es) ≡ filter (keeps a) es
less_kept a b under [] = refl
less_kept a b under (e ∷ es) = by (on e.holder b) refl (less_kept a b under es)
  where
    by : (t : Bool) → on e.holder b ≡ t → filter (keeps a) (filter (keeps b) es) ≡ filter (keeps a) es → filter (keeps a)
        (cond (not t) (e ∷ filter (keeps b) es) (filter (keeps b) es)) ≡ cond (keeps a e) (e ∷ filter (keeps a) es) (filter (keeps a) es)
    by true is ih =
        ih ∙ sym (ap (λ (t : Bool). cond (not t) (e ∷ filter (keeps a) es) (filter (keeps a) es)) (on_trans e.holder b a is under))
    by false is ih = ap (λ (gs : List Entry). cond (keeps a e) (e ∷ gs) gs) ih

without_both : (a b : Act) → on b a ≡ true → (v : Server) → without a (without b v) ≡ without a v
without_both a b under v = λ i. record v { rows = (λ d. rows d (on d a) refl i); log = less_kept a b under v.log i }
  where
    rows : (d : Act) (t : Bool) → on d a ≡ t → cond (on d a) 0 (cond (on d b) 0 (v.rows d)) ≡ cond (on d a) 0 (v.rows d)
    rows d true is = ap (λ (t : Bool). cond t 0 (cond (on d b) 0 (v.rows d))) is ∙ sym (ap (λ (t : Bool). cond t 0 (v.rows d)) is)
    rows d false is = ap (cond (on d a) 0) (inner (on d b) refl)
      where
        inner : (t : Bool) → on d b ≡ t → cond t 0 (v.rows d) ≡ v.rows d
        inner true up = absurd (differ (on_trans d b a up under) is)
        inner false up = refl

-- these are aborted, and stand below the action
abbrev AreAborted : State → Act → List Act → Type 0
AreAborted S a bs = (b : Act) → In b bs → (on b a ≡ true) × ((S.action b).stage ≡ 4)

-- each write below the action is below one of them, or counts for none
abbrev AreBelow : ℕ → State → Act → List Act → List Entry → Type 0
AreBelow n S a bs log = (e : Entry) → In e log → on e.holder a ≡ true → ((b : Act) × In b bs × (on e.holder b ≡ true)) ⊎ CountsForNone n S e

dead_of : (n : ℕ) (S : State) (a : Act) (log : List Entry) → ((e : Entry) → In e log → on e.holder a ≡ true →
    IsDead S e.holder a ⊎ CountsForNone n S e) → (bs : List Act) × AreAborted S a bs × AreBelow n S a bs log
dead_of n S a [] undone = ([], (λ b i. absurd i), λ e i above. absurd i)
dead_of n S a (f ∷ es) undone = with_one (dead_of n S a es (λ e i above. undone e (inr i) above)) (by_cases (on f.holder a))
  where
    with_one : ((bs : List Act) × AreAborted S a bs × AreBelow n S a bs es) → (on f.holder a ≡ true) ⊎ (on f.holder a ≡ false) →
        (bs : List Act) × AreAborted S a bs × AreBelow n S a bs (f ∷ es)
    with_one (bs, aborted, below) (inr off) = (
      bs,
      aborted,
      λ e i above. ⊎_elim (λ (is : e ≡ f). differ (ap (λ (y : Entry). on y.holder a) (sym is) ∙ above) off) (λ j. below e j above) i,
    )
    with_one (bs, aborted, below) (inl above_f) = by (undone f (inl refl) above_f)
      where
        by : IsDead S f.holder a ⊎ CountsForNone n S f → (cs : List Act) × AreAborted S a cs × AreBelow n S a cs (f ∷ es)
        by (inl d) = (
          d.0 ∷ bs,
          (λ b i. ⊎_elim (λ (is : b ≡ d.0). subst (λ (z : Act). (on z a ≡ true) × ((S.action z).stage ≡ 4)) (sym is) (d.2, d.3))
              (λ j. aborted b j) i),
          λ e i above. ⊎_elim (λ (is : e ≡ f). inl (d.0, inl refl, ap (λ (y : Entry). on y.holder d.0) is ∙ d.1))
              (λ j. ⊎_elim (λ h. inl (h.0, inr h.1, h.2)) (λ none. inr none) (below e j above)) i,
        )
        by (inr none) =
            (bs, aborted, λ e i above. ⊎_elim (λ (is : e ≡ f). inr (subst (CountsForNone n S) (sym is) none)) (λ j. below e j above) i)

undo_all : (n : ℕ) (a : Act) (bs : List Act) (S : State) → (S.action (Root (root a))).stage ≡ 3 → AreAborted S a bs →
    AreBelow n S a bs (let v = S.server n in v.log) → Goes S (λ T. (T.server n ≡ without a (S.server n)) × OnlyEnds n S T)
undo_all n a [] S over aborted below =
    drop_goes n a S (inr (inl (over, λ e i above. ⊎_elim (λ h. absurd h.1) (λ none. none) (below e i above))))
undo_all n a (b ∷ bs) S over aborted below =
    let its = aborted b (inl refl) in
    goes_then (drop_goes n b S (inl its.1)) (λ T g. goes_to (undo_all n a bs T (same T g.1 (Root (root a)) ∙ over)
    (λ c i. (let h = aborted c (inr i) in (h.0, same T g.1 c ∙ h.1))) (left T g.0 g.1)) (λ V h. (
      h.0 ∙ ap (without a) g.0 ∙ without_both a b its.0 (S.server n),
      ends_both g.1 h.1,
    )))
  where
    same : (T : State) → OnlyEnds n S T → (c : Act) → (T.action c).stage ≡ (S.action c).stage
    same T only c = ap (λ (s : State). (s.action c).stage) only.rest

    -- what is kept of the log wasn't below this one
    kept : (e : Entry) (log : List Entry) → In e (filter (keeps b) log) → In e log × (on e.holder b ≡ false)
    kept e [] i = absurd i
    kept e (f ∷ log) i = by (on f.holder b) refl (kept e log) i
      where
        by : (t : Bool) → on f.holder b ≡ t → (In e (filter (keeps b) log) → In e log × (on e.holder b ≡ false)) →
            In e (cond (not t) (f ∷ filter (keeps b) log) (filter (keeps b) log)) → In e (f ∷ log) × (on e.holder b ≡ false)
        by true is rest j = let r = rest j in (inr r.0, r.1)
        by false is rest (inl it) = (inl it, ap (λ (y : Entry). on y.holder b) it ∙ is)
        by false is rest (inr j) = let r = rest j in (inr r.0, r.1)

    counts : (T : State) → OnlyEnds n S T → (e : Entry) → CountsForNone n S e → CountsForNone n T e
    counts T only e none = λ committed voted c called write survives.
        let k = only.keeps in
        (subst (λ (s : State). (s.action (top e.by)).stage ≡ 3 → (d : Call) → In d s.calls → d.write ≡ true → Survives s d.act →
        top d.act ≢ top e.by) (sym only.rest) (λ three. none three (sym (ap (λ (f : Act → Bool). f (top e.by)) k.voted) ∙ voted)))
        committed c called write survives

    left : (T : State) → T.server n ≡ without b (S.server n) → OnlyEnds n S T → AreBelow n T a bs (let v = T.server n in v.log)
    left T is only e i above =
        let k = kept e (let v = S.server n in v.log) (subst (λ (w : Server). In e w.log) is i) in
        ⊎_elim (λ h. ⊎_elim (λ (it : h.0 ≡ b). differ (ap (on e.holder) (sym it) ∙ h.2) k.1) (λ j. inl (h.0, j, h.2)) h.1)
        (λ none. inr (counts T only e none)) (below e k.0 above)

-- the machine drops what the action and all below it had, where it may undo that
pub undo_goes : (n : ℕ) (a : Act) (S : State) → MayUndo n a S → Goes S (λ T. (T.server n ≡ without a (S.server n)) × OnlyEnds n S T)
undo_goes n a S (inl may) = drop_goes n a S may
undo_goes n a S (inr over) = let d = dead_of n S a (let v = S.server n in v.log) over.1 in undo_all n a d.0 S over.0 d.1 d.2

pub undoings_are_seen : UndoingsAreSeen
undoings_are_seen act code n x u c S told may sees =
    goes_to (undo_goes n (act u) S may) (λ T h. (
      subst (SeesCopy act code x (end_copy u ending.Abort c)) (sym h.0) (record {
        active = sees.active;
        base = sees.base;
        overs = undone_seen act code u c.stack (let v = S.server n in v.log) told.overs sees.overs;
        rows = dropped_seen act (object x) u c.rows (let v = S.server n in v.rows) (along act u c.rows told.rows) sees.rows;
      }),
      h.1,
    ))
