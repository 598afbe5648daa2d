-- Steps as tests over some actions, so that runs are computed.
use Rattle.arj_law_lock.proofs.Terms
use Terms.{◌≡◌, ◌≢◌, ◌≤◌, ◌+◌, ℕ, ◌==◌, List, [], ◌∷◌, Bool, true, false, cond, not, ◌&&◌, ◌||◌, max, inl, inr, refl, sym, ◌∙◌, subst}
use Terms.{arith, Act, Root, Sub, same, on, root, top, is_top, is_action, In, Rows, mode, Clear, Action, Entry, Call, Message, Live, Made}
use Terms.{Granted, Activate, Activated, Recorded, Invoke, Invoked, Refused, Changed, Vote, Confirm, State, Alive, Event, CrashNaming}
use Terms.{BindLive, BindNew, Grant, Record, ConfirmTop, PassEntry, DropEntry, CrashServer, ActivateCopy, Apply, Refuse, Change, PassRow}
use Terms.{PassTop, DropRows, VoteTop, Keep, Name, Load, SendInvoke, Answered, TurnedDown, Lost, GiveUp, CommitNested, Abort, CommitTop}
use Terms.{SendVote, SendConfirm, Decide, Report, EndUnit, Included, Guard, next, start, Run, stay, step, at, at_act, raise, pass}
use Terms.{drop_below, Naming, Server, held_value, lowered, after_crash, applied, answer_of, handed, stopped, map, filter, min, Ballot}
use Rattle.arj_law_lock.proofs.machine
use machine.{Rows.pass_cases, Rows.drop_less}
use machine.Paths.{by_cases, differ, and_both, or_one, same_number, same_is, number_self, act_cases, act_other, at_cases}
use machine.Tests.{le, le_is, is_le, all_of, all_in, some_of, some_in, Each, each, is_not, implied, stage_on, open_is, alive_is, merged}
use machine.Tests.{merged_is, has, has_is, last_test, last_is}
use Rattle.arj_law_lock.specs.machine.Steps.{IsFolded, IsWhole}

-- Steps as tests over some actions, which are all that a run touches.

abbrev pub member : Act → List Act → Bool
member a us = some_of (same a) us

-- Nothing is known of any other action.
pub record Finite (us : List Act) (s : State) : Type 0 where
  pub stage : (a : Act) → member a us ≡ false → ((s.action a).stage ≡ 0) × ((s.action a).waits ≡ false)
  pub naming : (a : Act) → member a us ≡ false → s.naming.rows a ≡ 0
  pub server : (n : ℕ) (a : Act) → member a us ≡ false → (s.server n).rows a ≡ 0

abbrev pub clear : List Act → Rows → Act → ℕ → Bool
clear us rows a k = all_of (λ b. on a b || (le (rows b) 1 && (le k 1 || (rows b == 0)))) us

abbrev pub folded : State → List Entry → Act → Bool
folded s es m = all_of (λ e. not (on e.holder m) || same e.holder m) es

abbrev pub whole : List Act → State → Act → Bool
whole us s a = all_of (λ c. not (on c.act a) || merged s c.act a) s.calls && all_of (λ b. not (on b a) || not (s.action b).waits) us

abbrev pub none_commits : List Act → State → ℕ → Bool
none_commits us s u = all_of (λ t. not (root t == u) || (not ((s.action t).stage == 1) && not ((s.action t).stage == 2))) us

-- What has to hold for a step.
abbrev pub tests : List Act → Event → State → List Bool
tests us (CrashNaming g) s = le s.naming.bound g ∷ le (s.naming.first + 1) g ∷ []
tests us (BindLive m) s = is_top m ∷ le s.naming.first s.naming.recorded ∷ clear us s.naming.rows m 1 ∷ []
tests us (BindNew m b n) s = is_top m ∷ le s.naming.bound b ∷ clear us s.naming.rows m 2 ∷ []
tests us (Grant m) s = is_top m ∷ clear us s.naming.rows m 2 ∷ []
tests us (Record b) s = (s.binding b).named ∷ le s.naming.first b ∷ le (s.naming.recorded + 1) b ∷ not (s.naming.told (s.binding b).maker)
    ∷ (s.naming.made (s.binding b).maker == b) ∷ []
tests us (ConfirmTop m q) s = has (Confirm m q) s.net ∷ le s.naming.first q ∷ []
tests us (PassEntry u n) s = ((s.action (Sub (Root u) n)).stage == 3) ∷ []
tests us (DropEntry a) s = ((((s.action a).stage == 4) || ((s.action (Root (root a))).stage == 3))
    || (is_top a && (((s.action a).stage == 3) && not (s.naming.confirmed a)))) ∷ []
tests us (CrashServer n i) s = le ((s.server n).incarnation + 1) i ∷ []
tests us (ActivateCopy n b v) s = has (Activate b v) s.net ∷ ((s.binding b).server == n) ∷ le ((s.server n).active + 1) b ∷ []
tests us (Apply n q g) s = has (Invoke q) s.net ∷ ((s.binding q.binding).server == n)
    ∷ ((s.server n).incarnation == (s.binding q.binding).incarnation) ∷ ((s.server n).active == q.binding)
    ∷ le ((s.server n).request q.act + 1) q.number ∷ clear us (s.server n).rows q.act (mode q.write) ∷ []
tests us (Refuse n q) s = has (Invoke q) s.net ∷ ((s.binding q.binding).server == n) ∷ ((s.server n).incarnation
    == (s.binding q.binding).incarnation) ∷ ((s.server n).active == q.binding) ∷ le ((s.server n).request q.act + 1) q.number ∷ []
tests us (Change n q) s = has (Invoke q) s.net ∷ ((s.binding q.binding).server == n)
    ∷ (not ((s.server n).incarnation == (s.binding q.binding).incarnation) || not ((s.server n).active == q.binding)) ∷ []
tests us (PassRow n a j) s = is_action a ∷ ((s.action (Sub a j)).stage == 3) ∷ []
tests us (PassTop n u j) s = ((s.action (Sub (Root u) j)).stage == 3) ∷ folded s (s.server n).log (Sub (Root u) j) ∷ []
tests us (DropRows n a) s = (((s.action a).stage == 4) || ((((s.action (Root (root a))).stage == 3)
    && all_of (λ e. not (on e.holder a)) (s.server n).log) || (is_top a && (((s.action a).stage == 3) && not ((s.server n).voted a))))) ∷ []
tests us (VoteTop n m b i) s = has (Vote m b i) s.net ∷ ((s.binding b).server == n) ∷ ((s.server n).incarnation == i)
    ∷ ((s.server n).active == b) ∷ folded s (s.server n).log m ∷ []
tests us (Keep m b) s = (has (Live m b) s.net || has (Made m b) s.net) ∷ le (s.kept (root m) + 1) b
    ∷ all_of (λ a. not (root a == root m) || not (s.action a).waits) us ∷ all_of (λ c. not (root c.act == root m)) s.calls ∷ []
tests us (Name b i) s = has (Activated b i) s.net ∷ not (s.binding b).named ∷ []
tests us (Load b v) s = has (Made (s.binding b).maker b) s.net ∷ le b (s.kept (root (s.binding b).maker)) ∷ last_test s v s.calls ∷ all_of
    (λ c. not (s.confirmed (top c.act) && le (s.action (top c.act)).stage 2) || le s.naming.first (s.kept (root c.act))) s.calls ∷ []
tests us (SendInvoke a k w) s = is_action a ∷ stage_on s (λ n. n == 0) a ∷ le ((s.action a).request + 1) k
    ∷ all_of (λ b. not (s.action b).waits || (not (on a b) && not (on b a))) us ∷ has (Recorded (s.kept (root a))) s.net
    ∷ (has (Live (top a) (s.kept (root a))) s.net || (has (Made (top a) (s.kept (root a))) s.net
    || some_of (λ c. stage_on s (λ n. le n 3) c.act && ((root c.act == root (top a)) && ((s.action (top c.act)).stage == 3))) s.calls)) ∷ []
tests us (Answered r p) s = has (Invoked r) s.net ∷ (r.request.number == (s.action r.request.act).request) ∷ (s.action r.request.act).waits
    ∷ stage_on s (λ n. n == 0) r.request.act ∷ le s.now p ∷ []
tests us (TurnedDown q) s = has (Refused q) s.net ∷ (q.number == (s.action q.act).request) ∷ []
tests us (Lost a) s = has (Changed (s.kept (root a))) s.net ∷ []
tests us (GiveUp a) s = (s.action a).waits ∷ []
tests us (CommitNested a p) s =
    is_action a ∷ not (is_top a) ∷ stage_on s (λ n. n == 0) a ∷ not (s.action a).doomed ∷ whole us s a ∷ le s.now p ∷ []
tests us (Abort a) s = is_action a ∷ le (s.action a).stage 1 ∷ []
tests us (CommitTop m p) s =
    is_top m ∷ stage_on s (λ n. n == 0) m ∷ not (s.action m).doomed ∷ whole us s m ∷ none_commits us s (root m) ∷ le s.now p ∷ []
tests us (SendVote m i) s =
    is_top m ∷ ((s.action m).stage == 1) ∷ (s.binding (s.kept (root m))).named ∷ le i (s.binding (s.kept (root m))).incarnation ∷ []
tests us (SendConfirm m q) s = is_top m ∷ ((s.action m).stage == 1) ∷ all_of (λ c. not (root c.act == root m) || ((s.yes m
    == s.kept (root m)) && le q (s.kept (root m)))) s.calls ∷ all_of (λ c. not (root c.act == root m) || le q c.grant) s.includes ∷ []
tests us (Decide m) s = is_top m ∷ ((s.action m).stage == 1) ∷ all_of (λ c. not (root c.act == root m)
    || ((s.yes m == s.kept (root m)) && s.confirmed m)) s.calls ∷ all_of (λ c. not (root c.act == root m) || s.confirmed m) s.includes ∷ []
tests us (Report m p) s = is_top m ∷ ((s.action m).stage == 2) ∷ le s.now p ∷ []
tests us (EndUnit u) s = ((s.action (Root u)).stage == 0) ∷ none_commits us s u ∷ []
tests us (Included a g p) s = is_action a ∷ has (Granted (top a) g) s.net ∷ stage_on s (λ n. n == 0) a ∷ le s.now p ∷ []

-- the actions that a step touches
abbrev pub touches : Event → List Act
touches (BindLive m) = m ∷ []
touches (BindNew m b n) = m ∷ []
touches (Grant m) = m ∷ []
touches (PassEntry u n) = Root u ∷ []
touches (Apply n q g) = q.act ∷ []
touches (PassRow n a j) = a ∷ []
touches (PassTop n u j) = Root u ∷ []
touches (SendInvoke a k w) = a ∷ []
touches (Answered r p) = r.request.act ∷ []
touches (TurnedDown q) = q.act ∷ []
touches (Lost a) = a ∷ []
touches (GiveUp a) = a ∷ []
touches (CommitNested a p) = a ∷ []
touches (Abort a) = a ∷ []
touches (CommitTop m p) = m ∷ []
touches (Decide m) = m ∷ []
touches (Report m p) = m ∷ []
touches (EndUnit u) = Root u ∷ []
touches _ = []

abbrev pub may : List Act → Event → State → Bool
may us e s = all_of (λ b. b) (tests us e s) && all_of (λ a. member a us) (touches e)

abbrev pub after : List Event → State → State
after [] s = s
after (e ∷ es) s = after es (next e s)

abbrev pub may_all : List Act → List Event → State → Bool
may_all us [] s = true
may_all us (e ∷ es) s = may us e s && may_all us es (next e s)

-- The tests are right.

lowered_less : (n : Naming) (m : Act) (b : Act) → lowered n m b ≤ n.rows b
lowered_less n m = act_cases (λ (a : Act) (v : ℕ). v ≤ n.rows a) n.rows m (cond (n.asked m) (n.rows m) (min (n.rows m) 1)) (by (n.asked m))
    (λ a f. omega arith)
  where
    by : (w : Bool) → cond w (n.rows m) (min (n.rows m) 1) ≤ n.rows m
    by true = omega arith
    by false = omega arith

module _ (us : List Act) where
  in_member : (a : Act) → member a us ≡ true → In a us
  in_member a e = let p = some_in (same a) us e in subst (λ (x : Act). In x us) (sym (same_is a p.0 p.2)) p.1

  clear_is : (s : State) (rows : Rows) (a : Act) (k : ℕ) → ((b : Act) → member b us ≡ false → rows b ≡ 0) → clear us rows a k ≡ true →
      Clear rows a k
  clear_is s rows a k zero e b f = elim (by_cases (member b us)) [
    | inr out ↦ (let z = zero b out in (omega (arith, z), λ two. z))
    | inl there ↦ (let q = all_in (λ x. on a x || (le (rows x) 1 && (le k 1 || (rows x == 0)))) us e b (in_member b there) in
        elim (or_one (on a b) (le (rows b) 1 && (le k 1 || (rows b == 0))) q) [
          | inl o ↦ differ o f
          | inr r ↦ (let p = and_both (le (rows b) 1) (le k 1 || (rows b == 0)) r in (
            le_is (rows b) 1 p.0,
            λ twice. elim (or_one (le k 1) (rows b == 0) p.1)
                [ inl l ↦ absurd (let l' = le_is k 1 l in omega (arith, l', twice)) | inr z ↦ same_number (rows b) 0 z ],
          ))
        ])
  ]

  quiet_is : (s : State) (p : Act → Bool) → Finite us s → all_of (λ b. not (p b) || not (s.action b).waits) us ≡ true → (b : Act) →
      p b ≡ true → (s.action b).waits ≡ true → ⊥
  quiet_is s p fin e b t w = elim (by_cases (member b us)) [
    | inr out ↦ differ w (fin.stage b out).1
    | inl there ↦ differ w (is_not (s.action b).waits
        (implied (p b) (not (s.action b).waits) (all_in (λ x. not (p x) || not (s.action x).waits) us e b (in_member b there)) t))
  ]

  whole_is : (s : State) (a : Act) → Finite us s → whole us s a ≡ true → IsWhole s a
  whole_is s a fin e =
      let p = and_both (all_of (λ c. not (on c.act a) || merged s c.act a) s.calls)
      (all_of (λ b. not (on b a) || not (s.action b).waits) us) e in
      record {
        calls = λ c i o alive. merged_is s c.act a
            (implied (on c.act a) (merged s c.act a) (all_in (λ c. not (on c.act a) || merged s c.act a) s.calls p.0 c i) o);
        waits = λ b o w alive. quiet_is s (λ x. on x a) fin p.1 b o w;
      }

  commits_is : (s : State) (u : ℕ) → Finite us s → none_commits us s u ≡ true → (t : Act) → is_top t ≡ true → root t ≡ u →
      ((s.action t).stage ≢ 1) × ((s.action t).stage ≢ 2)
  commits_is s u fin e t is r = elim (by_cases (member t us)) [
    | inr out ↦ (let z = (fin.stage t out).0 in ((λ q. omega (arith, z, q)), (λ q. omega (arith, z, q))))
    | inl there ↦ (let p = implied (root t == u) (not ((s.action t).stage == 1) && not ((s.action t).stage == 2))
        (all_in (λ x. not (root x == u) || (not ((s.action x).stage == 1) && not ((s.action x).stage == 2))) us e t (in_member t there))
        (subst (λ (n : ℕ). (root t == n) ≡ true) r (number_self (root t))) in
        let q = and_both (not ((s.action t).stage == 1)) (not ((s.action t).stage == 2)) p in (
          (λ z. differ (subst (λ (n : ℕ). (n == 1) ≡ true) (sym z) refl) (is_not ((s.action t).stage == 1) q.0)),
          (λ z. differ (subst (λ (n : ℕ). (n == 2) ≡ true) (sym z) refl) (is_not ((s.action t).stage == 2) q.1)),
        ))
  ]

  folded_is : (s : State) (es : List Entry) (m : Act) → folded s es m ≡ true → IsFolded s es m
  folded_is s es m e d i o =
      inl (same_is d.holder m (implied (on d.holder m) (same d.holder m) (all_in (λ x. not (on x.holder m) || same x.holder m) es e d i) o))

  own_root : (s : State) (m : Act) (a : Act) → root a ≡ root m → (root a == root m) ≡ true
  own_root s m a r = subst (λ (n : ℕ). (root a == n) ≡ true) r (number_self (root a))

  pub sound : (e : Event) (s : State) → Finite us s → Each (tests us e s) → Guard e s
  sound (CrashNaming g) s fin (a, (b, z)) = (le_is s.naming.bound g a, (let l = le_is (s.naming.first + 1) g b in omega (arith, l)))
  sound (BindLive m) s fin (a, (b, (c, z))) = (a, le_is s.naming.first s.naming.recorded b, clear_is s s.naming.rows m 1 fin.naming c)
  sound (BindNew m b n) s fin (a, (l, (c, z))) = (a, le_is s.naming.bound b l, clear_is s s.naming.rows m 2 fin.naming c)
  sound (Grant m) s fin (a, (c, z)) = (a, clear_is s s.naming.rows m 2 fin.naming c)
  sound (Record b) s fin (a, (f, (l, (t, (m, z))))) = (
    a,
    record {
      present = le_is s.naming.first b f;
      unrecorded = (let k = le_is (s.naming.recorded + 1) b l in omega (arith, k));
      untold = is_not (s.naming.told (s.binding b).maker) t;
      last = same_number (s.naming.made (s.binding b).maker) b m;
    },
  )
  sound (ConfirmTop m q) s fin (a, (l, z)) = (has_is (Confirm m q) s.net a, le_is s.naming.first q l)
  sound (PassEntry u n) s fin (a, z) = same_number (s.action (Sub (Root u) n)).stage 3 a
  sound (DropEntry a) s fin (t, z) = elim (or_one (((s.action a).stage == 4) || ((s.action (Root (root a))).stage == 3))
      (is_top a && (((s.action a).stage == 3) && not (s.naming.confirmed a))) t) [
        | inl p ↦ inl (elim (or_one ((s.action a).stage == 4) ((s.action (Root (root a))).stage == 3) p)
            [ inl q ↦ inl (same_number (s.action a).stage 4 q) | inr q ↦ inr (same_number (s.action (Root (root a))).stage 3 q) ])
        | inr p ↦ (let q = and_both (is_top a) (((s.action a).stage == 3) && not (s.naming.confirmed a)) p in
            let r = and_both ((s.action a).stage == 3) (not (s.naming.confirmed a)) q.1 in
            inr (q.0, same_number (s.action a).stage 3 r.0, is_not (s.naming.confirmed a) r.1))
      ]
  sound (CrashServer n i) s fin (a, z) = let l = le_is ((s.server n).incarnation + 1) i a in omega (arith, l)
  sound (ActivateCopy n b v) s fin (a, (k, (l, z))) = (
    has_is (Activate b v) s.net a,
    same_number (s.binding b).server n k,
    (let q = le_is ((s.server n).active + 1) b l in omega (arith, q)),
  )
  sound (Apply n q g) s fin (a, (k, (i, (b, (l, (c, z)))))) = (
    has_is (Invoke q) s.net a,
    (
      same_number (s.binding q.binding).server n k,
      same_number (s.server n).incarnation (s.binding q.binding).incarnation i,
      same_number (s.server n).active q.binding b,
    ),
    (let r = le_is ((s.server n).request q.act + 1) q.number l in omega (arith, r)),
    clear_is s (s.server n).rows q.act (mode q.write) (fin.server n) c,
  )
  sound (Refuse n q) s fin (a, (k, (i, (b, (l, z))))) = (
    has_is (Invoke q) s.net a,
    (
      same_number (s.binding q.binding).server n k,
      same_number (s.server n).incarnation (s.binding q.binding).incarnation i,
      same_number (s.server n).active q.binding b,
    ),
    (let r = le_is ((s.server n).request q.act + 1) q.number l in omega (arith, r)),
  )
  sound (Change n q) s fin (a, (k, (d, z))) = (
    has_is (Invoke q) s.net a,
    same_number (s.binding q.binding).server n k,
    elim (or_one (not ((s.server n).incarnation == (s.binding q.binding).incarnation)) (not ((s.server n).active == q.binding)) d) [
      | inl p ↦ inl (λ e. differ (subst (λ (x : ℕ). ((s.server n).incarnation == x) ≡ true) e (number_self (s.server n).incarnation))
          (is_not ((s.server n).incarnation == (s.binding q.binding).incarnation) p))
      | inr p ↦ inr (λ e. differ (subst (λ (x : ℕ). ((s.server n).active == x) ≡ true) e (number_self (s.server n).active))
          (is_not ((s.server n).active == q.binding) p))
    ],
  )
  sound (PassRow n a j) s fin (t, (k, z)) = (t, same_number (s.action (Sub a j)).stage 3 k)
  sound (PassTop n u j) s fin (k, (f, z)) =
      (same_number (s.action (Sub (Root u) j)).stage 3 k, folded_is s (s.server n).log (Sub (Root u) j) f)
  sound (DropRows n a) s fin (t, z) = elim (or_one ((s.action a).stage == 4) ((((s.action (Root (root a))).stage == 3) && all_of
      (λ e. not (on e.holder a)) (s.server n).log) || (is_top a && (((s.action a).stage == 3) && not ((s.server n).voted a)))) t) [
        | inl p ↦ inl (same_number (s.action a).stage 4 p)
        | inr p ↦ elim (or_one (((s.action (Root (root a))).stage == 3) && all_of (λ e. not (on e.holder a)) (s.server n).log)
            (is_top a && (((s.action a).stage == 3) && not ((s.server n).voted a))) p) [
              | inl q ↦ (let r = and_both ((s.action (Root (root a))).stage == 3) (all_of (λ e. not (on e.holder a)) (s.server n).log) q in
                  inr (inl (
                    same_number (s.action (Root (root a))).stage 3 r.0,
                    λ e i o three voted c j w f k.
                        differ o (is_not (on e.holder a) (all_in (λ x. not (on x.holder a)) (s.server n).log r.1 e i)),
                  )))
              | inr q ↦ (let r = and_both (is_top a) (((s.action a).stage == 3) && not ((s.server n).voted a)) q in
                  let x = and_both ((s.action a).stage == 3) (not ((s.server n).voted a)) r.1 in
                  inr (inr (r.0, same_number (s.action a).stage 3 x.0, is_not ((s.server n).voted a) x.1)))
            ]
      ]
  sound (VoteTop n m b i) s fin (a, (k, (j, (c, (f, z))))) = (
    has_is (Vote m b i) s.net a,
    same_number (s.binding b).server n k,
    same_number (s.server n).incarnation i j,
    same_number (s.server n).active b c,
    folded_is s (s.server n).log m f,
  )
  sound (Keep m b) s fin (h, (l, (w, (c, z)))) = (
    elim (or_one (has (Live m b) s.net) (has (Made m b) s.net) h)
        [ inl p ↦ inl (has_is (Live m b) s.net p) | inr p ↦ inr (has_is (Made m b) s.net p) ],
    (let k = le_is (s.kept (root m) + 1) b l in omega (arith, k)),
    record {
      waits = λ a r wt alive. quiet_is s (λ x. root x == root m) fin w a (own_root s m a r) wt;
      called = λ d i r alive.
          differ (own_root s m d.act r) (is_not (root d.act == root m) (all_in (λ x. not (root x.act == root m)) s.calls c d i));
    },
  )
  sound (Name b i) s fin (a, (n, z)) = (has_is (Activated b i) s.net a, is_not (s.binding b).named n)
  sound (Load b v) s fin (a, (l, (k, (d, z)))) = (
    has_is (Made (s.binding b).maker b) s.net a,
    le_is b (s.kept (root (s.binding b).maker)) l,
    λ current. record {
      value = last_is s v s.calls k;
      settled = λ c i w alive conf two'. le_is s.naming.first (s.kept (root c.act))
          (implied (s.confirmed (top c.act) && le (s.action (top c.act)).stage 2) (le s.naming.first (s.kept (root c.act)))
          (all_in (λ x. not (s.confirmed (top x.act) && le (s.action (top x.act)).stage 2) || le s.naming.first (s.kept (root x.act)))
          s.calls d c i) (λ j. conf j && is_le (s.action (top c.act)).stage 2 two' j));
    },
  )
  sound (SendInvoke a k w) s fin (t, (o, (l, (q, (n, (m, z)))))) = (
    t,
    open_is s a o,
    (let r = le_is ((s.action a).request + 1) k l in omega (arith, r)),
    alone,
    inl (has_is (Recorded (s.kept (root a))) s.net n),
    elim (or_one (has (Live (top a) (s.kept (root a))) s.net) (has (Made (top a) (s.kept (root a))) s.net || some_of
        (λ c. stage_on s (λ n. le n 3) c.act && ((root c.act == root (top a)) && ((s.action (top c.act)).stage == 3))) s.calls) m) [
          | inl p ↦ inl (has_is (Live (top a) (s.kept (root a))) s.net p)
          | inr p ↦ inr (elim (or_one (has (Made (top a) (s.kept (root a))) s.net) (some_of
              (λ c. stage_on s (λ n. le n 3) c.act && ((root c.act == root (top a)) && ((s.action (top c.act)).stage == 3))) s.calls) p) [
                | inl r ↦ inl (has_is (Made (top a) (s.kept (root a))) s.net r)
                | inr r ↦ (let c = some_in
                    (λ c. stage_on s (λ n. le n 3) c.act && ((root c.act == root (top a)) && ((s.action (top c.act)).stage == 3))) s.calls
                    r in
                    let x = and_both (stage_on s (λ n. le n 3) c.0.act)
                    ((root c.0.act == root (top a)) && ((s.action (top c.0.act)).stage == 3))
                    c.2 in
                    let y = and_both (root c.0.act == root (top a)) ((s.action (top c.0.act)).stage == 3) x.1 in
                    inr (
                      c.0,
                      c.1,
                      alive_is s c.0.act x.0,
                      (same_number (root c.0.act) (root (top a)) y.0, same_number (s.action (top c.0.act)).stage 3 y.1),
                    ))
              ])
        ],
  )
    where
      alone : (b : Act) → (s.action b).waits ≡ true → Alive s b → (on a b ≡ false) × (on b a ≡ false)
      alone b wt alive = elim (by_cases (member b us)) [
        | inr out ↦ differ wt (fin.stage b out).1
        | inl there ↦ (let p = and_both (not (on a b)) (not (on b a)) (implied (s.action b).waits (not (on a b) && not (on b a))
            (all_in (λ x. not (s.action x).waits || (not (on a x) && not (on x a))) us q b (in_member b there)) wt) in
            (is_not (on a b) p.0, is_not (on b a) p.1))
      ]
  sound (Answered r p) s fin (a, (n, (w, (o, (l, z))))) = (
    has_is (Invoked r) s.net a,
    same_number r.request.number (s.action r.request.act).request n,
    w,
    open_is s r.request.act o,
    le_is s.now p l,
  )
  sound (TurnedDown q) s fin (a, (n, z)) = (has_is (Refused q) s.net a, same_number q.number (s.action q.act).request n)
  sound (Lost a) s fin (t, z) = has_is (Changed (s.kept (root a))) s.net t
  sound (GiveUp a) s fin (t, z) = t
  sound (CommitNested a p) s fin (t, (n, (o, (d, (w, (l, z)))))) =
      (t, is_not (is_top a) n, open_is s a o, is_not (s.action a).doomed d, whole_is s a fin w, le_is s.now p l)
  sound (Abort a) s fin (t, (l, z)) = (t, le_is (s.action a).stage 1 l)
  sound (CommitTop m p) s fin (t, (o, (d, (w, (c, (l, z)))))) =
      (t, open_is s m o, is_not (s.action m).doomed d, whole_is s m fin w, commits_is s (root m) fin c, le_is s.now p l)
  sound (SendVote m i) s fin (t, (k, (n, (l, z)))) =
      (t, same_number (s.action m).stage 1 k, n, le_is i (s.binding (s.kept (root m))).incarnation l)
  sound (SendConfirm m q) s fin (t, (k, (c, (i, z)))) = (
    t,
    same_number (s.action m).stage 1 k,
    (λ d j alive covers. (let p = and_both (s.yes m == s.kept (root m)) (le q (s.kept (root m)))
        (implied (root d.act == root m) ((s.yes m == s.kept (root m)) && le q (s.kept (root m))) (all_in (λ x. not (root x.act == root m)
        || ((s.yes m == s.kept (root m)) && le q (s.kept (root m)))) s.calls c d j) (own_root s m d.act covers.0)) in
        (same_number (s.yes m) (s.kept (root m)) p.0, le_is q (s.kept (root m)) p.1))),
    (λ d j alive covers. le_is q d.grant (implied (root d.act == root m) (le q d.grant)
        (all_in (λ x. not (root x.act == root m) || le q x.grant) s.includes i d j) (own_root s m d.act covers.0))),
  )
  sound (Decide m) s fin (t, (k, (c, (i, z)))) = (
    t,
    same_number (s.action m).stage 1 k,
    (λ d j alive covers. (let p = and_both (s.yes m == s.kept (root m)) (s.confirmed m) (implied (root d.act == root m) ((s.yes m
        == s.kept (root m)) && s.confirmed m) (all_in (λ x. not (root x.act == root m) || ((s.yes m == s.kept (root m)) && s.confirmed m))
        s.calls c d j) (own_root s m d.act covers.0)) in (same_number (s.yes m) (s.kept (root m)) p.0, p.1))),
    (λ d j alive covers. implied (root d.act == root m) (s.confirmed m)
        (all_in (λ x. not (root x.act == root m) || s.confirmed m) s.includes i d j) (own_root s m d.act covers.0)),
  )
  sound (Report m p) s fin (t, (k, (l, z))) = (t, same_number (s.action m).stage 2 k, le_is s.now p l)
  sound (EndUnit u) s fin (k, (c, z)) = (same_number (s.action (Root u)).stage 0 k, commits_is s u fin c)
  sound (Included a g p) s fin (t, (h, (o, (l, z)))) = (t, has_is (Granted (top a) g) s.net h, open_is s a o, le_is s.now p l)

  -- A step touches no other action.

  apart : (a b : Act) → member a us ≡ true → member b us ≡ false → same b a ≡ false
  apart a b t f =
      elim (by_cases (same b a)) [ inl e ↦ differ (subst (λ (x : Act). member x us ≡ true) (sym (same_is b a e)) t) f | inr g ↦ g ]

  acted : (s : State) (a : Act) (x : Action) (p : ℕ) (cs : List Call) (ms : List Message) → member a us ≡ true → Finite us s →
      Finite us (record s { action = at_act s.action a x; now = p; calls = cs; net = ms })
  acted s a x p cs ms t fin = record {
    stage =
        λ b f. subst (λ (y : Action). (y.stage ≡ 0) × (y.waits ≡ false)) (sym (act_other s.action a x b (apart a b t f))) (fin.stage b f);
    naming = fin.naming;
    server = fin.server;
  }

  raised : (rows : Rows) (a : Act) (k : ℕ) → member a us ≡ true → ((b : Act) → member b us ≡ false → rows b ≡ 0) → (b : Act) →
      member b us ≡ false → raise rows a k b ≡ 0
  raised rows a k t zero b f = act_other rows a (max (rows a) k) b (apart a b t f) ∙ zero b f

  passed : (rows : Rows) (a : Act) (j : ℕ) → member a us ≡ true → ((b : Act) → member b us ≡ false → rows b ≡ 0) → (b : Act) →
      member b us ≡ false → pass rows a j b ≡ 0
  passed rows a j t zero =
      pass_cases (λ (b : Act) (v : ℕ). member b us ≡ false → v ≡ 0) rows a j (λ f. refl) (λ f. differ t f) (λ b p q f. zero b f)

  served : (s : State) (n : ℕ) (x : Server) (ys : Act → ℕ) (vs : Act → Ballot) (ms : List Message) → ((b : Act) → member b us ≡ false →
      x.rows b ≡ 0) → Finite us s → Finite us (record s { server = at s.server n x; yes = ys; vote = vs; net = ms })
  served s n x ys vs ms zero fin = record {
    stage = fin.stage;
    naming = fin.naming;
    server = at_cases (λ (k : ℕ) (y : Server). (b : Act) → member b us ≡ false → y.rows b ≡ 0) s.server n x zero (λ k f. fin.server k);
  }

  low : (rows less : Rows) → ((b : Act) → less b ≤ rows b) → ((b : Act) → member b us ≡ false → rows b ≡ 0) → (b : Act) →
      member b us ≡ false → less b ≡ 0
  low rows less l zero b f = let z = zero b f in let k = l b in omega (arith, z, k)

  first : (a : Act) (as' : List Act) → all_of (λ x. member x us) (a ∷ as') ≡ true → member a us ≡ true
  first a as' e = (and_both (member a us) (all_of (λ x. member x us) as') e).0

  pub keeps_finite : (e : Event) (s : State) → all_of (λ x. member x us) (touches e) ≡ true → Finite us s → Finite us (next e s)
  keeps_finite (CrashNaming g) s t fin = record { stage = fin.stage; naming = λ b f. refl; server = fin.server }
  keeps_finite (BindLive m) s t fin =
      record { stage = fin.stage; naming = raised s.naming.rows m 1 (first m [] t) fin.naming; server = fin.server }
  keeps_finite (BindNew m b n) s t fin =
      record { stage = fin.stage; naming = raised s.naming.rows m 2 (first m [] t) fin.naming; server = fin.server }
  keeps_finite (Grant m) s t fin =
      record { stage = fin.stage; naming = raised s.naming.rows m 2 (first m [] t) fin.naming; server = fin.server }
  keeps_finite (Record b) s t fin = record {
    stage = fin.stage;
    naming = low s.naming.rows (lowered s.naming (s.binding b).maker) (lowered_less s.naming (s.binding b).maker) fin.naming;
    server = fin.server;
  }
  keeps_finite (ConfirmTop m q) s t fin = record { stage = fin.stage; naming = fin.naming; server = fin.server }
  keeps_finite (PassEntry u n) s t fin =
      record { stage = fin.stage; naming = passed s.naming.rows (Root u) n (first (Root u) [] t) fin.naming; server = fin.server }
  keeps_finite (DropEntry a) s t fin = record {
    stage = fin.stage;
    naming = low s.naming.rows (drop_below s.naming.rows a) (drop_less s.naming.rows a) fin.naming;
    server = fin.server;
  }
  keeps_finite (CrashServer n i) s t fin = served s n (after_crash i) s.yes s.vote s.net (λ b f. refl) fin
  keeps_finite (ActivateCopy n b v) s t fin = served s n (record (s.server n) { active = b; base = v; log = []; rows = λ a. 0 }) s.yes
      s.vote (Activated b (s.server n).incarnation ∷ s.net) (λ b f. refl) fin
  keeps_finite (Apply n q g) s t fin = served s n (applied (s.server n) q g) s.yes s.vote (Invoked (answer_of s n q g) ∷ s.net)
      (raised (s.server n).rows q.act (mode q.write) (first q.act [] t) (fin.server n)) fin
  keeps_finite (Refuse n q) s t fin = served s n (record (s.server n) { request = at_act (s.server n).request q.act q.number }) s.yes s.vote
      (Refused q ∷ s.net) (fin.server n) fin
  keeps_finite (Change n q) s t fin = record { stage = fin.stage; naming = fin.naming; server = fin.server }
  keeps_finite (PassRow n a j) s t fin =
      served s n (record (s.server n) { rows = pass (s.server n).rows a j; log = map (handed a j) (s.server n).log }) s.yes s.vote s.net
      (passed (s.server n).rows a j (first a [] t) (fin.server n)) fin
  keeps_finite (PassTop n u j) s t fin = served s n (record (s.server n) {
    rows = pass (s.server n).rows (Root u) j;
    base = held_value (Sub (Root u) j) (s.server n).base (s.server n).log;
    log = filter (λ e. not (on e.holder (Sub (Root u) j))) (s.server n).log;
  }) s.yes s.vote s.net (passed (s.server n).rows (Root u) j (first (Root u) [] t) (fin.server n)) fin
  keeps_finite (DropRows n a) s t fin =
      served s n (record (s.server n) { rows = drop_below (s.server n).rows a; log = filter (λ e. not (on e.holder a)) (s.server n).log })
      s.yes s.vote s.net (low (s.server n).rows (drop_below (s.server n).rows a) (drop_less (s.server n).rows a) (fin.server n)) fin
  keeps_finite (VoteTop n m b i) s t fin = served s n (record (s.server n) { voted = at_act (s.server n).voted m true })
      (next (VoteTop n m b i) s).yes (next (VoteTop n m b i) s).vote s.net (fin.server n) fin
  keeps_finite (Keep m b) s t fin = record { stage = fin.stage; naming = fin.naming; server = fin.server }
  keeps_finite (Name b i) s t fin = record { stage = fin.stage; naming = fin.naming; server = fin.server }
  keeps_finite (Load b v) s t fin = record { stage = fin.stage; naming = fin.naming; server = fin.server }
  keeps_finite (SendInvoke a k w) s t fin = acted s a (record (s.action a) { request = k; waits = true; since = s.now }) s.now s.calls
      (next (SendInvoke a k w) s).net (first a [] t) fin
  keeps_finite (Answered r p) s t fin =
      acted s r.request.act (stopped (s.action r.request.act)) (p + 1) (next (Answered r p) s).calls s.net (first r.request.act [] t) fin
  keeps_finite (TurnedDown q) s t fin = acted s q.act (stopped (s.action q.act)) s.now s.calls s.net (first q.act [] t) fin
  keeps_finite (Lost a) s t fin = acted s a (stopped (s.action a)) s.now s.calls s.net (first a [] t) fin
  keeps_finite (GiveUp a) s t fin = acted s a (record (s.action a) { waits = false; doomed = true }) s.now s.calls s.net (first a [] t) fin
  keeps_finite (CommitNested a p) s t fin = acted s a (record (s.action a) { stage = 3; done = p }) (p + 1) s.calls s.net (first a [] t) fin
  keeps_finite (Abort a) s t fin = acted s a (record (s.action a) { stage = 4 }) s.now s.calls s.net (first a [] t) fin
  keeps_finite (CommitTop m p) s t fin = acted s m (record (s.action m) { stage = 1; place = p }) (p + 1) s.calls s.net (first m [] t) fin
  keeps_finite (SendVote m i) s t fin = record { stage = fin.stage; naming = fin.naming; server = fin.server }
  keeps_finite (SendConfirm m q) s t fin = record { stage = fin.stage; naming = fin.naming; server = fin.server }
  keeps_finite (Decide m) s t fin = acted s m (record (s.action m) { stage = 2 }) s.now s.calls s.net (first m [] t) fin
  keeps_finite (Report m p) s t fin = acted s m (record (s.action m) { stage = 3; done = p }) (p + 1) s.calls s.net (first m [] t) fin
  keeps_finite (EndUnit u) s t fin =
      acted s (Root u) (record (s.action (Root u)) { stage = 3 }) s.now s.calls s.net (first (Root u) [] t) fin
  keeps_finite (Included a g p) s t fin = record { stage = fin.stage; naming = fin.naming; server = fin.server }

  -- So a run is computed.
  pub runs : (es : List Event) (s : State) → Finite us s → may_all us es s ≡ true → Run s (after es s)
  runs [] s fin e = stay
  runs (ev ∷ es) s fin e =
      let p = and_both (may us ev s) (may_all us es (next ev s)) e in
      let q = and_both (all_of (λ b. b) (tests us ev s)) (all_of (λ a. member a us) (touches ev)) p.0 in
      step ev (sound ev s fin (each (tests us ev s) q.0)) (runs es (next ev s) (keeps_finite ev s q.1 fin) p.1)

  pub start_finite : (v : ℕ) → Finite us (start v)
  start_finite v = record { stage = λ a f. (refl, refl); naming = λ a f. refl; server = λ n a f. refl }
