-- Votes through each step.
use Rattle.arj_law_lock.proofs.Terms
use Terms.{◌≡◌, ◌≤◌, ◌<◌, ◌⊎◌, ◌==◌, ℕ, List, [], ◌∷◌, Bool, true, false, cond, max, inl, inr, refl, sym, ◌∙◌, ap, subst, arith, Act, Root}
use Terms.{same, on, root, top, is_top, is_action, In, Entry, Server, Call, Answer, Ballot, Message, Live, Made, Granted, Activate}
use Terms.{Activated, Recorded, Invoked, Refused, Changed, Vote, Confirm, State, Alive, Merged, Covered, Event, CrashNaming, BindLive}
use Terms.{BindNew, Grant, Record, ConfirmTop, PassEntry, DropEntry, CrashServer, ActivateCopy, Apply, Refuse, Change, PassRow, PassTop}
use Terms.{DropRows, VoteTop, Keep, Name, Load, SendInvoke, Answered, TurnedDown, Lost, GiveUp, CommitNested, Abort, CommitTop, SendVote}
use Terms.{SendConfirm, Decide, Report, EndUnit, Included, Newest, none, newest, older, IsLast, Survives, held_value, Guard, next, ballot}
use Rattle.arj_law_lock.proofs.machine
use machine.{CallSteps.top_acts, Later.Later, ValueLogs.logged_calm, ValueMore.one_writer}
use machine.Claims.{server_of, IsUp, Reached, GoesOn, Mean, Sure, Holds}
use machine.Paths.{by_cases, differ, same_is, same_self, same_number, on_top, above_top, one_top, top_root, act_cases, act_here, act_other}
use machine.Paths.{number_self}
use machine.ValueClaims.{Clean, Fine, Ok, Matches, rest, both, more, less, Logged, calm, bad, waiting, Values}
use machine.ValueLasts.{clean_alive, survives_clean, newest_on, survives_ok}
use machine.VoteLasts.{Theirs, HasVoted, MeansVoted, VoteHolds, Votes, votes_on, right_on, under_on}
use Rattle.arj_law_lock.specs.machine.Laws.{VotesAgree}

-- Votes through each step.

grows_none : (s t : State) → t.calls ≡ s.calls → (T : Act → Type 0) (x : ℕ) →
    ((a : Act) → is_action a ≡ true → (t.action (top a)).stage ≡ 0 → T a → ⊥) → Newest t.initial T x s.calls → Newest t.initial T x t.calls
grows_none s t e T x f l = subst (λ (cs : List Call). Newest t.initial T x cs) (sym e) l

is_confirm : Message → Bool
is_confirm (Confirm m q) = true
is_confirm (Live m b) = false
is_confirm _ = false

other_mail : (s : State) (x : Message) (m : Act) (q : ℕ) → is_confirm x ≡ false → In (Confirm m q) (x ∷ s.net) → In (Confirm m q) s.net
unfolding is_confirm
other_mail s x m q f (inl is) = let e : true ≡ false = ap is_confirm is ∙ f in absurd (cc)
other_mail s x m q f (inr i) = i

-- A step that changes no vote, no confirmation and no call.
module _ (s t : State) (h : Holds s) (v : Values s) (later : Later s t) (ht : Holds t) (vt : Values t) (initial : t.initial ≡ s.initial)
    (calls : t.calls ≡ s.calls) (yes' : (m : Act) → t.yes m ≡ s.yes m) (vote : (m : Act) → t.vote m ≡ s.vote m) (conf : (m : Act) →
    t.confirmed m ≡ s.confirmed m) where
  votes_same : ((m : Act) (q : ℕ) → In (Confirm m q) t.net → In (Confirm m q) s.net) → Votes s → Votes t
  votes_same mail o = votes_on h v later ht vt initial (λ T x f l. grows_none s t calls T x f l) yes' vote
      (λ m is e. inl (sym (conf m) ∙ e)) (λ m q i. inl (mail m q i)) o

-- Where the log of the top's copy says what it left.
module _ (s : State) (m : Act) (base : ℕ) where
  entry_of : (es : List Entry) (cs : List Call) → Matches s base es cs → (c : Call) → In c cs → c.write ≡ true → Ok s c.act →
      (Survives s c.act → ⊥) → (e : Entry) × In e es × (e.by ≡ c.act)
  entry_of [] cs (rest l f) c i write ok never = absurd (never (f c i write ok))
  entry_of (e ∷ es) (d ∷ cs) (both _ _ by gives w k n) c (inl is) write ok never = (e, inl refl, by ∙ ap (λ (y : Call). y.act) (sym is))
  entry_of (e ∷ es) (d ∷ cs) (both _ _ by gives w k n) c (inr i) write ok never = let r = entry_of es cs n c i write ok never in
      (r.0, inr r.1, r.2)
  entry_of (e ∷ es) cs (more _ f n) c i write ok never = let r = entry_of es cs n c i write ok never in (r.0, inr r.1, r.2)
  entry_of es (d ∷ cs) (less _ f n) c (inl is) write ok never =
      absurd (f (subst (λ (y : Call). y.write ≡ true) is write) (subst (λ (y : Call). Ok s y.act) is ok))
  entry_of es (d ∷ cs) (less _ f n) c (inr i) write ok never = entry_of es cs n c i write ok never

  own_value : (es : List Entry) (cs : List Call) →
      ((e : Entry) → In e es → ((same e.holder m ≡ true) × (top e.by ≡ m) × Fine s e.by) ⊎ ((same e.holder m ≡ false) × (Fine s e.by → ⊥)))
      → ((d : Call) → In d cs → Theirs s m d.act → Ok s d.act × (Survives s d.act → ⊥)) → Matches s base es cs → (c : Call) → In c cs →
      c.write ≡ true → Theirs s m c.act → Newest s.initial (Theirs s m) (held_value m base es) cs
  own_value [] cs a fine (rest l f) c i write own = absurd ((fine c i own).1 (f c i write (fine c i own).0))
  own_value (e ∷ es) (d ∷ cs) a fine (both _ _ by gives w k n) c i write own =
      go (a e (inl refl)) (λ j. own_value es cs (λ x j. a x (inr j)) (λ x j. fine x (inr j)) n c j write own) i
    where
      go : ((same e.holder m ≡ true) × (top e.by ≡ m) × Fine s e.by) ⊎ ((same e.holder m ≡ false) × (Fine s e.by → ⊥)) →
          (In c cs → Newest s.initial (Theirs s m) (held_value m base es) cs) → In c (d ∷ cs) →
          Newest s.initial (Theirs s m) (held_value m base (e ∷ es)) (d ∷ cs)
      go (inl (t, tops, f)) ih j = newest d w (ap top (sym by) ∙ tops, subst (λ (y : Act). Alive s y) by (clean_alive s e.by f.0))
          (sym gives ∙ sym (λ z. cond (t z) e.gives (held_value m base es)))
      go (inr (t, f)) ih j =
          subst (λ (x : ℕ). Newest s.initial (Theirs s m) x (d ∷ cs)) (sym (λ z. cond (t z) e.gives (held_value m base es)))
          (older d (λ wr q. never q) (ih (elim j [ inl is ↦ absurd (never (subst (λ (y : Call). Theirs s m y.act) is own)) | inr x ↦ x ])))
        where
          never : Theirs s m d.act → ⊥
          never q = f (subst (λ (y : Act). Fine s y) (sym by) (fine d (inl refl) q).0.0)
  own_value (e ∷ es) cs a fine (more _ f n) c i write own = go (a e (inl refl)) (own_value es cs (λ x j. a x (inr j)) fine n c i write own)
    where
      go : ((same e.holder m ≡ true) × (top e.by ≡ m) × Fine s e.by) ⊎ ((same e.holder m ≡ false) × (Fine s e.by → ⊥)) →
          Newest s.initial (Theirs s m) (held_value m base es) cs → Newest s.initial (Theirs s m) (held_value m base (e ∷ es)) cs
      go (inl (t, tops, g)) ih = absurd (f g)
      go (inr (t, g)) ih = subst (λ (x : ℕ). Newest s.initial (Theirs s m) x cs) (sym (λ z. cond (t z) e.gives (held_value m base es))) ih
  own_value es (d ∷ cs) a fine (less _ f n) c i write own = go (λ j. own_value es cs a (λ x j. fine x (inr j)) n c j write own) i
    where
      go : (In c cs → Newest s.initial (Theirs s m) (held_value m base es) cs) → In c (d ∷ cs) →
          Newest s.initial (Theirs s m) (held_value m base es) (d ∷ cs)
      go ih (inl is) =
          absurd (f (subst (λ (y : Call). y.write ≡ true) is write) (fine d (inl refl) (subst (λ (y : Call). Theirs s m y.act) is own)).0)
      go ih (inr j) = older d (λ wr q. f wr (fine d (inl refl) q).0) (ih j)

  own_under : (es : List Entry) (cs : List Call) → ((e : Entry) → In e es → Survives s e.by → ⊥) →
      ((d : Call) → In d cs → Survives s d.act → Ok s d.act) → Matches s base es cs → IsLast s base cs
  own_under [] cs a oks' (rest l f) = l
  own_under (e ∷ es) (d ∷ cs) a oks' (both _ _ by gives w k n) = older d (λ wr q.
      a e (inl refl) (subst (λ (y : Act). Survives s y) (sym by) q)) (own_under es cs (λ x j. a x (inr j)) (λ x j. oks' x (inr j)) n)
  own_under (e ∷ es) cs a oks' (more _ f n) = own_under es cs (λ x j. a x (inr j)) oks' n
  own_under es (d ∷ cs) a oks' (less _ f n) = older d (λ wr q. f wr (oks' d (inl refl) q)) (own_under es cs a (λ x j. oks' x (inr j)) n)

-- A server votes.
module _ (s : State) (n : ℕ) (m : Act) (b i : ℕ) (guard : Guard (VoteTop n m b i) s) (h : Holds s) (v : Values s) (o : Votes s) where
  mean : Mean s (Vote m b i)
  mean = h.mail (Vote m b i) guard.0

  up : IsUp s b
  up = subst (λ (x : Server). (x.incarnation ≡ (s.binding b).incarnation) × (x.active ≡ b)) (sym (ap s.server guard.1))
      (inc (subst (λ (x : Server). Reached x (s.binding b).incarnation b) (ap s.server guard.1) (h.bindings b mean.1).reached), guard.3)
    where
      inc : Reached (s.server n) (s.binding b).incarnation b → (s.server n).incarnation ≡ (s.binding b).incarnation
      inc (inl l) = absurd (let e = guard.2 in let k = mean.3 in omega (arith, l, e, k))
      inc (inr (e, l)) = sym e

  -- a vote under the kept binding, of a top at its commit with a write, in the binding's incarnation of naming
  module _ (one : (s.action m).stage ≡ 1) (first : s.naming.first ≤ s.kept (root m)) (here : b ≡ s.kept (root m)) (c : Call)
      (ci : In c s.calls) (write : c.write ≡ true) (own : Theirs s m c.act) where
    three : (s.action m).stage ≤ 3
    three = let e = one in omega (arith, e)

    goes : GoesOn s (root m)
    goes = (h.tops m mean.0).goes (let e = one in omega (arith, e)) (let e = one in omega (arith, e))

    recorded : s.naming.recorded ≡ b
    recorded = let k = (subst (λ (y : Act). Sure s y) own.0 ((h.calls c ci).sure own.1)).here first goes in k.0 ∙ sym here

    logged : Logged s (s.server n).base (s.server n).log s.calls
    logged = subst (λ (y : Server). Logged s y.base y.log s.calls) (ap s.server guard.1)
        (subst (λ (j : ℕ). Logged s (server_of s j).base (server_of s j).log s.calls) recorded (v.copy (let e = recorded in let l = first in
        let k = here in omega (arith, e, l, k)) (subst (λ (j : ℕ). IsUp s j) (sym recorded) up)))

    undoomed : (u : Act) → (s.action u).stage ≡ 1 ⊎ (s.action u).stage ≡ 3 → (s.action u).doomed ≡ false
    undoomed u k = by (by_cases (s.action u).doomed)
      where
        by : ((s.action u).doomed ≡ true) ⊎ ((s.action u).doomed ≡ false) → (s.action u).doomed ≡ false
        by (inr f) = f
        by (inl d) = absurd (elim (v.doomed u d).1 [
          | inl z ↦ elim k [ inl e ↦ omega (arith, z, e) | inr e ↦ omega (arith, z, e) ]
          | inr z ↦ elim k [ inl e ↦ omega (arith, z, e) | inr e ↦ omega (arith, z, e) ]
        ])

    root_clean : (u : Act) → is_action u ≡ false → ((s.action u).stage ≤ 3) × ((s.action u).doomed ≡ false)
    root_clean u f = (v.roots u f, elim (by_cases (s.action u).doomed) [ inl d ↦ differ (v.doomed u d).0 f | inr g ↦ g ])

    top_clean : (u : Act) → on m u ≡ true → ((s.action u).stage ≤ 3) × ((s.action u).doomed ≡ false)
    top_clean u p = elim (above_top m u mean.0 p) [
      | inl is ↦ subst (λ (y : Act). ((s.action y).stage ≤ 3) × ((s.action y).doomed ≡ false)) (sym is) (three, undoomed m (inl one))
      | inr is ↦ root_clean u (ap is_action is)
    ]

    clean_below : (a : Act) → Merged s a m → Clean s a
    clean_below a merged u p = by (by_cases (on m u))
      where
        by : (on m u ≡ true) ⊎ (on m u ≡ false) → ((s.action u).stage ≤ 3) × ((s.action u).doomed ≡ false)
        by (inl q) = top_clean u q
        by (inr f) = let e = merged u p f in (omega (arith, e), undoomed u (inr e))

    going : (a : Act) → root a ≡ root m → GoesOn s (root a)
    going a e = subst (λ (u : ℕ). GoesOn s u) (sym e) goes

    their_ok : (d : Call) → In d s.calls → Theirs s m d.act → Ok s d.act × (Survives s d.act → ⊥)
    their_ok d j (e, alive) = (
      (
        (
          clean_below d.act (subst (λ (y : Act). Merged s d.act y) e
              (v.whole d j alive (subst (λ (y : Act). 1 ≤ (s.action y).stage) (sym e) (let k = one in omega (arith, k))))),
          inl (going d.act q),
        ),
        inr (ap s.kept q ∙ sym here ∙ sym recorded),
      ),
      λ f. let z : (s.action (top d.act)).stage ≡ (s.action m).stage = ap (λ (y : Act). (s.action y).stage) e in
          let t = f (top d.act) (on_top d.act) (top_acts d.act (h.calls d j).acts) in let k = one in omega (arith, z, t, k),
    )
      where
        q : root d.act ≡ root m
        q = sym (top_root d.act) ∙ ap root e

    -- every write over the copy is the top's
    all_own : (e : Entry) → In e (s.server n).log → top e.holder ≡ m
    all_own e j = one_writer s h v n e e0.0 j e0.1 ∙ sym (one_top e0.0.by e0.0.holder (v.logs n e0.0 e0.1).holder (v.logs n e0.0 e0.1).path)
        ∙ ap top e0.2 ∙ own.0
      where
        e0 : (e : Entry) × In e (s.server n).log × (e.by ≡ c.act)
        e0 = found (s.server n).log s.calls ci logged
          where
            found : (es : List Entry) (cs : List Call) → In c cs → Logged s (s.server n).base es cs → (e : Entry) × In e es × (e.by ≡ c.act)
            found es cs k (calm z y) = entry_of s m (s.server n).base es cs y c k write (their_ok c ci own).0 (their_ok c ci own).1
            found (x ∷ es) cs k (bad _ f l) = let q = found es cs k l in (q.0, inr q.1, q.2)
            found (x ∷ es) cs k (waiting _ f z y) =
                let q = entry_of s m (s.server n).base es cs y c k write (their_ok c ci own).0 (their_ok c ci own).1 in (q.0, inr q.1, q.2)

    by_top : (e : Entry) → In e (s.server n).log → top e.by ≡ m
    by_top e j = one_top e.by e.holder (v.logs n e j).holder (v.logs n e j).path ∙ all_own e j

    matches : Matches s (s.server n).base (s.server n).log s.calls
    matches = logged_calm s (s.server n).base (s.server n).log s.calls (λ e j w fine. let z = v.path e.by w.1 (clean_alive s e.by fine.0)
        (top e.by) (on_top e.by) (top_acts e.by (v.logs n e j).acts) in let q : (s.action (top e.by)).stage ≡ (s.action m).stage = ap
        (λ (y : Act). (s.action y).stage) (by_top e j) in let k = one in omega (arith, z, q, k)) logged

    held : (e : Entry) → In e (s.server n).log →
        ((same e.holder m ≡ true) × (top e.by ≡ m) × Fine s e.by) ⊎ ((same e.holder m ≡ false) × (Fine s e.by → ⊥))
    held e j = elim (by_cases (same e.holder m)) [
      | inl t ↦ inl (
        t,
        by_top e j,
        (
          clean_below e.by (subst (λ (y : Act). Merged s e.by y) (same_is e.holder m t) (v.logs n e j).merged),
          inl (going e.by (sym (top_root e.by) ∙ ap root (by_top e j))),
        ),
      )
      | inr f ↦ inr (
        f,
        λ fine. elim (guard.4 e j (subst (λ (y : Act). on e.holder y ≡ true) (all_own e j) (on_top e.holder))) [
          | inl is ↦ differ (subst (λ (y : Act). same e.holder y ≡ true) is (same_self e.holder)) f
          | inr sp ↦ elim sp.2
              [ inl four ↦ (let l = (fine.0 sp.0 sp.1).0 in omega (arith, l, four)) | inr doom ↦ differ doom (fine.0 sp.0 sp.1).1 ]
        ],
      )
    ]

    value_right : Newest s.initial (Theirs s m) (held_value m (s.server n).base (s.server n).log) s.calls
    value_right = own_value s m (s.server n).base (s.server n).log s.calls held their_ok matches c ci write own

    under_right : IsLast s (s.server n).base s.calls
    under_right = own_under s m (s.server n).base (s.server n).log s.calls
        (λ e j f. let t = f (top e.by) (on_top e.by) (top_acts e.by (v.logs n e j).acts) in let q : (s.action (top e.by)).stage ≡
        (s.action m).stage = ap (λ (y : Act). (s.action y).stage) (by_top e j) in let k = one in omega (arith, t, q, k))
        (λ d j f. survives_ok s (survives_clean s v.doomed v.roots) d.act (h.calls d j).acts f) matches

vote_top_votes : (s : State) (n : ℕ) (m : Act) (b i : ℕ) → Guard (VoteTop n m b i) s → Holds s → Values s → Later s (next (VoteTop n m b i)
    s) → Holds (next (VoteTop n m b i) s) → Values (next (VoteTop n m b i) s) → Votes s → Votes (next (VoteTop n m b i) s)
vote_top_votes s n m b i guard h v later ht vt o = record { tops = tops; mail = mail }
  where
    t : State
    t = next (VoteTop n m b i) s

    mv : Mean s (Vote m b i)
    mv = h.mail (Vote m b i) guard.0

    ym : t.yes m ≡ max (s.yes m) b
    ym = act_here s.yes m (max (s.yes m) b)

    vm : t.vote m ≡ ballot s n m b
    vm = act_here s.vote m (ballot s n m b)

    rises : (x : Act) → s.yes x ≡ s.kept (root x) → t.yes x ≡ s.kept (root x)
    rises = act_cases (λ (x : Act) (y : ℕ). s.yes x ≡ s.kept (root x) →
        y ≡ s.kept (root x)) s.yes m (max (s.yes m) b) (λ e. (let l = mv.2 in omega (arith, e, l))) (λ x f e. e)

    meant : (x : Act) → MeansVoted s x → MeansVoted t x
    meant x f c j alive covers = rises x (f c j alive covers)

    mail : (x : Act) (q : ℕ) → In (Confirm x q) s.net → MeansVoted t x
    mail x q j = meant x (o.mail x q j)

    grows : (T : Act → Type 0) (x : ℕ) → ((a : Act) → is_action a ≡ true → (t.action (top a)).stage ≡ 0 → T a → ⊥) →
        Newest t.initial T x s.calls → Newest t.initial T x t.calls
    grows T x f l = l

    tops : (x : Act) → is_top x ≡ true → VoteHolds t x
    tops x is = elim (by_cases (same x m)) [
      | inl e ↦ subst (λ (y : Act). VoteHolds t y) (sym (same_is x m e)) here
      | inr f ↦ record {
        asked = λ e. meant x ((o.tops x is).asked e);
        right = right_on h v later ht vt refl grows x is (act_other s.yes m (max (s.yes m) b) x f) (act_other s.vote m (ballot s n m b) x f)
            (o.tops x is);
        under = under_on h v later ht vt refl grows x is (act_other s.yes m (max (s.yes m) b) x f) (act_other s.vote m (ballot s n m b) x f)
            (o.tops x is);
      }
    ]
      where
        om : VoteHolds s m
        om = o.tops m mv.0

        again : (max (s.yes m) b == s.yes m) ≡ true → VoteHolds t m
        again e =
            let y : t.yes m ≡ s.yes m = ym ∙ same_number (max (s.yes m) b) (s.yes m) e in
            let z : t.vote m ≡ s.vote m = vm ∙ (λ k.
            cond (e k) (s.vote m) (record { value = held_value m (s.server n).base (s.server n).log; under = (s.server n).base })) in
            record {
              asked = λ c. meant m (om.asked c);
              right = right_on h v later ht vt refl grows m mv.0 y z om;
              under = under_on h v later ht vt refl grows m mv.0 y z om;
            }

        first : (max (s.yes m) b == s.yes m) ≡ false → VoteHolds t m
        first e = record {
          asked = λ c. meant m (om.asked c);
          right = λ c k. subst (λ (y : Ballot). Newest s.initial (Theirs t m) y.value s.calls) (sym z)
              (newest_on s.initial s.initial (Theirs s m) (Theirs t m) (held_value m (s.server n).base (s.server n).log) s.calls refl
              (λ d j w q. q) (λ d j w q. q) (value_right s n m b i guard h v o (one_of k) (first_of k) (kept k) c k.call k.write k.stands));
          under = λ c k low. subst (λ (y : Ballot). IsLast s y.under s.calls) (sym z)
              (under_right s n m b i guard h v o (one_of k) (first_of k) (kept k) c k.call k.write k.stands);
        }
          where
            z : t.vote m ≡ record { value = held_value m (s.server n).base (s.server n).log; under = (s.server n).base }
            z = vm ∙ (λ k.
                cond (e k) (s.vote m) (record { value = held_value m (s.server n).base (s.server n).log; under = (s.server n).base }))

            less : s.yes m < b
            less = elim (order_cases (s.yes m) b) [
              | inl l ↦ l
              | inr l ↦ absurd (let q : max (s.yes m) b ≡ s.yes m = omega (arith, l) in let f : (max (s.yes m) b == s.yes m) ≡ true = subst
                  (λ (x : ℕ). (max (s.yes m) b == x) ≡ true) q (number_self (max (s.yes m) b)) in differ f e)
            ]
              where
                order_cases : (x y : ℕ) → (x < y) ⊎ (y ≤ x)
                order_cases x y = grind arith

            kept : {c : Call} → HasVoted t m c → b ≡ s.kept (root m)
            kept k = let y = k.yes in let e' = ym in let l = less in omega (arith, y, e', l)

            covered : {c : Call} → HasVoted t m c → Covered s m c.act
            covered {c} k = let e = k.stands.0 in (sym (top_root c.act) ∙ ap root e, inl e)

            -- the first vote comes before the decision, and before naming's confirmation
            first_of : {c : Call} → HasVoted t m c → s.naming.first ≤ s.kept (root m)
            first_of {c} k = elim k.present [
              | inl l ↦ l
              | inr conf ↦ absurd (let e' = om.asked conf c k.call k.stands.1 (covered k) in let f = less in let q = kept k in
                  omega (arith, e', f, q))
            ]

            one_of : {c : Call} → HasVoted t m c → (s.action m).stage ≡ 1
            one_of {c} k = by (stage_cases (s.action m).stage mv.4)
              where
                stage_cases : (x : ℕ) → 1 ≤ x → (x ≡ 1) ⊎ (2 ≤ x)
                stage_cases x l = grind arith

                by : ((s.action m).stage ≡ 1) ⊎ (2 ≤ (s.action m).stage) → (s.action m).stage ≡ 1
                by (inl e') = e'
                by (inr two) = absurd (let e' = ((h.tops m mv.0).called two k.alive c k.call k.stands.1 (covered k)).0 in let f = less in
                    let q = kept k in omega (arith, e', f, q))

        here : VoteHolds t m
        here = elim (by_cases (max (s.yes m) b == s.yes m)) [ inl e ↦ again e | inr e ↦ first e ]

confirm_votes : (s : State) (m : Act) (q : ℕ) → Guard (ConfirmTop m q) s → Holds s → Values s → Later s (next (ConfirmTop m q) s) →
    Holds (next (ConfirmTop m q) s) → Values (next (ConfirmTop m q) s) → Votes s → Votes (next (ConfirmTop m q) s)
confirm_votes s m q guard h v later ht vt o = votes_on h v later ht vt refl (λ T x f l. l) (λ x. refl) (λ x. refl)
    (λ x is. act_cases (λ (y : Act) (w : Bool). w ≡ true → (s.confirmed y ≡ true) ⊎ ((p : ℕ) × In (Confirm y p) s.net)) s.confirmed m true
    (λ e. inr (q, guard.0)) (λ y f e. inl e) x) (λ x p i. inl i) o

send_confirm_votes : (s : State) (m : Act) (q : ℕ) → Guard (SendConfirm m q) s → Holds s → Values s → Later s (next (SendConfirm m q) s) →
    Holds (next (SendConfirm m q) s) → Values (next (SendConfirm m q) s) → Votes s → Votes (next (SendConfirm m q) s)
send_confirm_votes s m q guard h v later ht vt o =
    votes_on h v later ht vt refl (λ T x f l. l) (λ x. refl) (λ x. refl) (λ x is e. inl e) mail o
  where
    subject : Message → Act
    subject (Confirm x p) = x
    subject (Live x p) = x
    subject _ = Root 0

    mail : (x : Act) (p : ℕ) → In (Confirm x p) (Confirm m q ∷ s.net) → In (Confirm x p) s.net ⊎ MeansVoted (next (SendConfirm m q) s) x
    mail x p (inl is) = inr (subst (λ (y : Act). MeansVoted s y) (sym (ap subject is)) (λ c i alive covers. (guard.2 c i alive covers).0))
    mail x p (inr i) = inl i

answered_votes : (s : State) (r : Answer) (p : ℕ) → Guard (Answered r p) s → Holds s → Values s → Later s (next (Answered r p) s) →
    Holds (next (Answered r p) s) → Values (next (Answered r p) s) → Votes s → Votes (next (Answered r p) s)
answered_votes s r p guard h v later ht vt o =
    votes_on h v later ht vt refl grows (λ x. refl) (λ x. refl) (λ x is e. inl e) (λ x q i. inl i) o
  where
    t : State
    t = next (Answered r p) s

    zero : (t.action (top r.request.act)).stage ≡ 0
    zero = elim (later.fresh_call (record { act = r.request.act; write = r.request.write; line = p; sees = r.sees; gives = r.gives })
        (inl refl)) [
          | inl i ↦ absurd (let l =
              (h.calls (record { act = r.request.act; write = r.request.write; line = p; sees = r.sees; gives = r.gives }) i).before in
              let k = guard.4 in omega (arith, l, k))
          | inr new ↦ new.0
        ]

    grows : (T : Act → Type 0) (x : ℕ) → ((a : Act) → is_action a ≡ true → (t.action (top a)).stage ≡ 0 → T a → ⊥) →
        Newest t.initial T x s.calls → Newest t.initial T x t.calls
    grows T x f l = older (record { act = r.request.act; write = r.request.write; line = p; sees = r.sees; gives = r.gives })
        (λ w g. f r.request.act (h.mail (Invoked r) guard.0).0.0 zero g) l

pub step_votes : (e : Event) (s : State) → Guard e s → Holds s → Values s → Later s (next e s) → Holds (next e s) → Values (next e s) →
    Votes s → Votes (next e s)
unfolding is_confirm
step_votes (CrashNaming g) s guard h v later ht vt o =
    votes_same s (next (CrashNaming g) s) h v later ht vt refl refl (λ y. refl) (λ y. refl) (λ y. refl) (λ m' q' j. j) o
step_votes (BindLive m) s guard h v later ht vt o = votes_same s (next (BindLive m) s) h v later ht vt refl refl (λ y. refl) (λ y. refl)
    (λ y. refl) (λ m' q' j. other_mail s (Live m s.naming.recorded) m' q' refl j) o
step_votes (BindNew m b n) s guard h v later ht vt o = votes_same s (next (BindNew m b n) s) h v later ht vt refl refl (λ y. refl)
    (λ y. refl) (λ y. refl) (λ m' q' j. other_mail s (Made m b) m' q' refl j) o
step_votes (Grant m) s guard h v later ht vt o = votes_same s (next (Grant m) s) h v later ht vt refl refl (λ y. refl) (λ y. refl)
    (λ y. refl) (λ m' q' j. other_mail s (Granted m s.naming.first) m' q' refl j) o
step_votes (Record b) s guard h v later ht vt o = votes_same s (next (Record b) s) h v later ht vt refl refl (λ y. refl) (λ y. refl)
    (λ y. refl) (λ m' q' j. other_mail s (Recorded b) m' q' refl j) o
step_votes (PassEntry u n) s guard h v later ht vt o =
    votes_same s (next (PassEntry u n) s) h v later ht vt refl refl (λ y. refl) (λ y. refl) (λ y. refl) (λ m' q' j. j) o
step_votes (DropEntry a) s guard h v later ht vt o =
    votes_same s (next (DropEntry a) s) h v later ht vt refl refl (λ y. refl) (λ y. refl) (λ y. refl) (λ m' q' j. j) o
step_votes (CrashServer n i) s guard h v later ht vt o =
    votes_same s (next (CrashServer n i) s) h v later ht vt refl refl (λ y. refl) (λ y. refl) (λ y. refl) (λ m' q' j. j) o
step_votes (ActivateCopy n b x) s guard h v later ht vt o = votes_same s (next (ActivateCopy n b x) s) h v later ht vt refl refl (λ y. refl)
    (λ y. refl) (λ y. refl) (λ m' q' j. other_mail s (Activated b (s.server n).incarnation) m' q' refl j) o
step_votes (Apply n q g) s guard h v later ht vt o = votes_same s (next (Apply n q g) s) h v later ht vt refl refl (λ y. refl) (λ y. refl)
    (λ y. refl) (λ m' q' j. other_mail s _ m' q' refl j) o
step_votes (Refuse n q) s guard h v later ht vt o = votes_same s (next (Refuse n q) s) h v later ht vt refl refl (λ y. refl) (λ y. refl)
    (λ y. refl) (λ m' q' j. other_mail s (Refused q) m' q' refl j) o
step_votes (Change n q) s guard h v later ht vt o = votes_same s (next (Change n q) s) h v later ht vt refl refl (λ y. refl) (λ y. refl)
    (λ y. refl) (λ m' q' j. other_mail s (Changed q.binding) m' q' refl j) o
step_votes (PassRow n a j) s guard h v later ht vt o =
    votes_same s (next (PassRow n a j) s) h v later ht vt refl refl (λ y. refl) (λ y. refl) (λ y. refl) (λ m' q' j. j) o
step_votes (PassTop n u j) s guard h v later ht vt o =
    votes_same s (next (PassTop n u j) s) h v later ht vt refl refl (λ y. refl) (λ y. refl) (λ y. refl) (λ m' q' j. j) o
step_votes (DropRows n a) s guard h v later ht vt o =
    votes_same s (next (DropRows n a) s) h v later ht vt refl refl (λ y. refl) (λ y. refl) (λ y. refl) (λ m' q' j. j) o
step_votes (Keep m b) s guard h v later ht vt o =
    votes_same s (next (Keep m b) s) h v later ht vt refl refl (λ y. refl) (λ y. refl) (λ y. refl) (λ m' q' j. j) o
step_votes (Name b i) s guard h v later ht vt o =
    votes_same s (next (Name b i) s) h v later ht vt refl refl (λ y. refl) (λ y. refl) (λ y. refl) (λ m' q' j. j) o
step_votes (Load b x) s guard h v later ht vt o = votes_same s (next (Load b x) s) h v later ht vt refl refl (λ y. refl) (λ y. refl)
    (λ y. refl) (λ m' q' j. other_mail s (Activate b x) m' q' refl j) o
step_votes (SendInvoke a k w) s guard h v later ht vt o = votes_same s (next (SendInvoke a k w) s) h v later ht vt refl refl (λ y. refl)
    (λ y. refl) (λ y. refl) (λ m' q' j. other_mail s _ m' q' refl j) o
step_votes (TurnedDown q) s guard h v later ht vt o =
    votes_same s (next (TurnedDown q) s) h v later ht vt refl refl (λ y. refl) (λ y. refl) (λ y. refl) (λ m' q' j. j) o
step_votes (Lost a) s guard h v later ht vt o =
    votes_same s (next (Lost a) s) h v later ht vt refl refl (λ y. refl) (λ y. refl) (λ y. refl) (λ m' q' j. j) o
step_votes (GiveUp a) s guard h v later ht vt o =
    votes_same s (next (GiveUp a) s) h v later ht vt refl refl (λ y. refl) (λ y. refl) (λ y. refl) (λ m' q' j. j) o
step_votes (CommitNested a p) s guard h v later ht vt o =
    votes_same s (next (CommitNested a p) s) h v later ht vt refl refl (λ y. refl) (λ y. refl) (λ y. refl) (λ m' q' j. j) o
step_votes (Abort a) s guard h v later ht vt o =
    votes_same s (next (Abort a) s) h v later ht vt refl refl (λ y. refl) (λ y. refl) (λ y. refl) (λ m' q' j. j) o
step_votes (CommitTop m p) s guard h v later ht vt o =
    votes_same s (next (CommitTop m p) s) h v later ht vt refl refl (λ y. refl) (λ y. refl) (λ y. refl) (λ m' q' j. j) o
step_votes (SendVote m i) s guard h v later ht vt o = votes_same s (next (SendVote m i) s) h v later ht vt refl refl (λ y. refl) (λ y. refl)
    (λ y. refl) (λ m' q' j. other_mail s _ m' q' refl j) o
step_votes (Decide m) s guard h v later ht vt o =
    votes_same s (next (Decide m) s) h v later ht vt refl refl (λ y. refl) (λ y. refl) (λ y. refl) (λ m' q' j. j) o
step_votes (Report m p) s guard h v later ht vt o =
    votes_same s (next (Report m p) s) h v later ht vt refl refl (λ y. refl) (λ y. refl) (λ y. refl) (λ m' q' j. j) o
step_votes (EndUnit u) s guard h v later ht vt o =
    votes_same s (next (EndUnit u) s) h v later ht vt refl refl (λ y. refl) (λ y. refl) (λ y. refl) (λ m' q' j. j) o
step_votes (Included a g p) s guard h v later ht vt o =
    votes_same s (next (Included a g p) s) h v later ht vt refl refl (λ y. refl) (λ y. refl) (λ y. refl) (λ m' q' j. j) o
step_votes (ConfirmTop m q) s guard h v later ht vt o = confirm_votes s m q guard h v later ht vt o
step_votes (VoteTop n m b i) s guard h v later ht vt o = vote_top_votes s n m b i guard h v later ht vt o
step_votes (Answered r p) s guard h v later ht vt o = answered_votes s r p guard h v later ht vt o
step_votes (SendConfirm m q) s guard h v later ht vt o = send_confirm_votes s m q guard h v later ht vt o

-- ---- the same vote again

-- the newest write that counts left one value
newest_one : (first : ℕ) (T : Act → Type 0) (x y : ℕ) (cs : List Call) → Newest first T x cs → Newest first T y cs → x ≡ y
newest_one first T x y cs (none a) (none b) = sym a ∙ b
newest_one first T x y (c ∷ cs) (newest _ w t g) (newest _ w2 t2 g2) = sym g ∙ g2
newest_one first T x y (c ∷ cs) (newest _ w t g) (older _ f n) = absurd (f w t)
newest_one first T x y (c ∷ cs) (older _ f n) (newest _ w t g) = absurd (f w t)
newest_one first T x y (c ∷ cs) (older _ f n) (older _ f2 n2) = newest_one first T x y cs n n2

pub votes_agree : {s : State} → Holds s → Values s → Votes s → VotesAgree s
votes_agree {s} h v o n m i c guard one kept first ci write tops alive =
    let value = newest_one s.initial (Theirs s m) _ _ s.calls ((o.tops m is).right c voted)
    (value_right s n m (s.yes m) i guard h v o one first kept c ci write (tops, alive)) in
    let under = newest_one s.initial (Survives s) _ _ s.calls ((o.tops m is).under c voted low)
    (under_right s n m (s.yes m) i guard h v o one first kept c ci write (tops, alive)) in
    λ k. record { value = value k; under = under k }
  where
    is : is_top m ≡ true
    is = (h.mail (Vote m (s.yes m) i) guard.0).0

    low : (s.action m).stage ≤ 2
    low = let e = one in omega (arith, e)

    voted : HasVoted s m c
    voted = record {
      called = (let e = one in omega (arith, e));
      alive = (let e = one in omega (arith, e));
      call = ci;
      write = write;
      stands = (tops, alive);
      yes = kept;
      present = inl first;
    }
