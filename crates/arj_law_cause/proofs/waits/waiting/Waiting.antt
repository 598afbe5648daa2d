-- What an action of a coordinator is at is what the journal has: what was asked last of it, where that isn't answered; its commit; nothing.
use Rattle.arj_law_parts.proofs.Words
use Words.{◌≡◌, ◌∙◌, ◌+◌, ◌==◌, ◌&&◌, ◌||◌, not, ℕ, Bool, true, false, cond, List, [], length, Option, Some, None, refl, sym, ap, subst}
use Words.{arith}
use Words.{is_some, if◌then◌else◌, nat_lt, nat_tests, bytes_eq, In, in_to, is_on, uid_eq, uid_same, map-append, ◌++◌, ◌∷◌, Uid, End, Event}
use Words.{Line, name, option_map, eqb-true}
use Words.{Doing, doing_of, Calling, Committing, Idle, Now, Node, Parts, Seen, is_committing_now, is_waiting_now, is_own}
use Rattle.arj_law_runs.proofs.Terms.{Act, act_in, acts, path, uids, upwards, book}
use Rattle.arj_law_runs.proofs.follow.Halts.{KnowsAll, is_alive}
use Rattle.arj_law_runs.proofs.journal.Models.{named_in}
use Rattle.arj_law_runs.proofs.journal.Ties.{named_label}
use Rattle.arj_law_runs.proofs.kept.Walked.{same_number}
use Rattle.arj_law_parts.specs.moves.Moments.{Asking}
use Rattle.arj_model.specs.Actions.{ended, halts, has_end, is_halted, is_over}
use Rattle.arj_model.specs.Calls.{committings}
use Rattle.arj_model.specs.Past.{Asked as AskedOf, Past}
use Rattle.arj_model.specs.Refusals.{answers_to, asks_by, has_ended, holds_of, is_committing, is_over_act, last_asked, pending, unanswered}
use Rattle.arj_model.specs.Refusals.{waits_for, was_called}
use Rattle.arj_model.specs.Refusals as model
use Rattle.arj_law_lock_view.specs.asking.Asked.{IsAskedSo, IsTied, IsTiedAt, accepted_of, count_answers, count_asks}
use Rattle.arj_law_lock_view.specs.asking.Turns.{calling}
use Rattle.arj_law_cause.proofs.waits.waiting.Acting as acting
use Rattle.arj_law_cause.proofs.waits.waiting.Acting.{Stands}
use Rattle.arj_law_cause.specs.waits.waiting.Waits.{IsAt}

-- ---- counts

less_not : (a b : ℕ) → a ≡ b → nat_lt a b ≡ false
less_not a b is = grind (arith, nat_tests, is)

less_one : (a b : ℕ) → b ≡ a + 1 → nat_lt a b ≡ true
less_one a b is = grind (arith, nat_tests, is)

-- what was accepted is what coordinators were asked
abbrev pub AreAsked : List AskedOf → List Asking → Type 0
AreAsked accepted A = (l : List ℕ) → asks_by accepted l ≡ asks_by (accepted_of A) l

module _ (accepted : List AskedOf) (A : List Asking) (same : AreAsked accepted A) (lines : List Line) (l : List ℕ) where
  pub all_answered : count_answers lines l ≡ count_asks A l → unanswered accepted lines l ≡ None
  all_answered is =
      (λ i. if nat_lt (length (answers_to lines l)) (length (same l i)) then last_asked (asks_by accepted l) else None)
      ∙ ap (λ b. if b then last_asked (asks_by accepted l) else None) (less_not (count_answers lines l) (count_asks A l) is)

  pub one_left : (a : AskedOf) → count_asks A l ≡ count_answers lines l + 1 → last_asked (asks_by (accepted_of A) l) ≡ Some a →
      unanswered accepted lines l ≡ Some a
  one_left a is last =
      (λ i. if nat_lt (length (answers_to lines l)) (length (same l i)) then last_asked (same l i) else None)
      ∙ ap (λ b. if b then last_asked (asks_by (accepted_of A) l) else None) (less_one (count_answers lines l) (count_asks A l) is) ∙ last

-- ---- an action

module _ (M : Seen) (all : KnowsAll M) (k : ℕ) (n : Node) (t : Parts) (there : M.nodes k ≡ Some n) (live : n.live ≡ Some t) where
  -- whether it is over, and its commit
  pub ended_is : (u : Uid) (d : Doing) → (s : Stands M all k n t there live u d) →
      has_ended M.lines (name d.label) ≡ is_some (let b = s.branch in b.ended)
  ended_is u d s = ap (is_over_act M.lines) s.named ∙ s.over

  pub commit_is : (u : Uid) (d : Doing) → doing_of u t.coord ≡ Some d → (s : Stands M all k n t there live u d) →
      is_committing M.lines (name d.label) ≡ is_committing_now d.now
  commit_is u d does s = ap (holds_of (λ a. was_called (committings M.lines) a.id && not (is_over M.lines a))) s.named
      ∙ (λ i. was_called (committings M.lines) s.act.id && not (s.over i)) ∙ by (let b = s.branch in b.ended) refl
    where
      and_true : (x : Bool) → (x && true) ≡ x
      and_true true = refl
      and_true false = refl

      and_false : (x : Bool) → (x && false) ≡ false
      and_false true = refl
      and_false false = refl

      rests : (z : Now) → is_waiting_now z ≡ false → is_committing_now z ≡ false
      rests Idle is = refl
      rests (Calling q) is = refl
      rests (Committing m) is = absurd (cc is)

      idle : (b : Bool) → is_waiting_now d.now ≡ b → is_some (let x = s.branch in x.ended) ≡ true → is_committing_now d.now ≡ false
      idle false is over = rests d.now is
      idle true is over = absurd (cc (sym over ∙ acting.open_waits M all k n t there live u d does is s.branch s.found))

      by : (o : Option End) → (let b = s.branch in b.ended) ≡ o →
          (was_called (committings M.lines) s.act.id && not (is_some (let b = s.branch in b.ended))) ≡ is_committing_now d.now
      by None is = (λ i. s.called is i && not (is_some (is i))) ∙ and_true (is_committing_now d.now)
      by (Some e) is = (λ i. was_called (committings M.lines) s.act.id && not (is_some (is i)))
          ∙ and_false (was_called (committings M.lines) s.act.id) ∙ sym (idle (is_waiting_now d.now) refl (ap is_some is))

  -- what it is at, where what was accepted is what coordinators were asked
  pub at_so : (accepted : List AskedOf) (A : List Asking) → AreAsked accepted A → (u : Uid) (d : Doing) → doing_of u t.coord ≡ Some d →
      IsTiedAt A M.lines u d → IsAt accepted M.lines d.label d.now
  at_so accepted A same u d does tied = by d.now refl (subst (IsTied A M.lines u d) refl tied)
    where
      s : Stands M all k n t there live u d
      s = acting.stands M all k n t there live u d does

      commit : (z : Now) → d.now ≡ z → is_committing M.lines (name d.label) ≡ is_committing_now z
      commit z is = commit_is u d does s ∙ ap is_committing_now is

      none : IsTied A M.lines u d None → waits_for accepted M.lines (name d.label) ≡ None
      none is = (λ i. if has_ended M.lines (name d.label) then None
          else option_map (λ (a : AskedOf). a.event) (all_answered accepted A same M.lines (name d.label) is i))
          ∙ whatever (has_ended M.lines (name d.label))
        where
          whatever : (b : Bool) → ◌≡◌ {A = Option Event} (if b then None else None) None
          whatever true = refl
          whatever false = refl

      by : (z : Now) → d.now ≡ z → IsTied A M.lines u d (calling d.now) → IsAt accepted M.lines d.label z
      by Idle is h = (none (subst (IsTied A M.lines u d) (ap calling is) h), commit Idle is)
      by (Committing m) is h = (none (subst (IsTied A M.lines u d) (ap calling is) h), commit (Committing m) is)
      by (Calling q) is h =
          let w = subst (IsTied A M.lines u d) (ap calling is) h in
          let a : IsAskedSo A u d q = w.1 in
          let last = one_left accepted A same M.lines (name d.label) a.asking.asked w.0 a.last in
          let opened : has_ended M.lines (name d.label) ≡ false = ended_is u d s
          ∙ acting.open_waits M all k n t there live u d does (ap is_waiting_now is) s.branch s.found in
          record {
            asked = a.asking.asked;
            last = last;
            waits = (λ i. if opened i then None else option_map (λ (x : AskedOf). x.event) (last i));
            goal = a.goal;
            path = a.path;
            rests = commit (Calling q) is;
          }

-- ---- who waits is at work

at_end : (us : List Uid) (u : Uid) → is_on (us ++ u ∷ []) u ≡ true
at_end [] u = λ i. uid_same u i || false
at_end (v ∷ us) u = by (uid_eq v u) (at_end us u)
  where
    by : (b : Bool) → is_on (us ++ u ∷ []) u ≡ true → (b || is_on (us ++ u ∷ []) u) ≡ true
    by true more = refl
    by false more = more

-- an action is on its own path
own_on : (xs : List Act) (l : List ℕ) (a : Act) → act_in xs l ≡ Some a → is_on (uids (path xs l)) a.uid ≡ true
own_on [] l a is = absurd (cc is)
own_on (x ∷ xs) l a is = by (bytes_eq x.label l) is (own_on xs l a)
  where
    by : (b : Bool) → cond b (Some x) (act_in xs l) ≡ Some a → (act_in xs l ≡ Some a → is_on (uids (path xs l)) a.uid ≡ true) →
        is_on (uids (cond b (upwards x.parent x.kind (path xs) ++ x ∷ []) (path xs l))) a.uid ≡ true
    by true e ih = let same : x ≡ a = cc e in
        ap (λ us. is_on us a.uid) (map-append (λ (y : Act). y.uid) (upwards x.parent x.kind (path xs)) (x ∷ []))
        ∙ subst (λ (y : Act). is_on (uids (upwards x.parent x.kind (path xs)) ++ x.uid ∷ []) y.uid ≡ true) same
        (at_end (uids (upwards x.parent x.kind (path xs))) x.uid)
    by false e ih = ih e

-- an action that isn't over is at work at its node, which is up
pub record IsHere (M : Seen) (a : Act) : Type 0 where
  pub number : ℕ
  pub node : Node
  pub parts : Parts
  pub act : Uid
  pub doing : Doing
  pub there : M.nodes number ≡ Some node
  pub live : node.live ≡ Some parts
  pub does : doing_of act parts.coord ≡ Some doing
  pub label : name doing.label ≡ a.label

or_none : (x y : Bool) → (x || y) ≡ false → y ≡ false
or_none true y is = absurd (cc is)
or_none false y is = is

not_false : (x : Bool) → not x ≡ false → x ≡ true
not_false true is = refl
not_false false is = absurd (cc is)

pub is_here : (M : Seen) → KnowsAll M → (a : Act) → In a (acts M.lines) → act_in (acts M.lines) a.label ≡ Some a →
    is_over M.lines a ≡ false →
    IsHere M a
is_here M all a began named opened = by (M.nodes k) refl alive
  where
    k : ℕ
    k = let u = a.uid in u.node

    alive : is_alive (M.nodes (let u = a.uid in u.node)) (let u = a.uid in u.inc) ≡ true
    alive = not_false (is_alive (M.nodes (let u = a.uid in u.node)) (let u = a.uid in u.inc))
        (sym (all.1 a began) ∙ or_none (has_end (ended M.lines) a.id) (is_halted (halts M.lines) a) opened)

    up : (n : Node) → M.nodes (let u = a.uid in u.node) ≡ Some n → (o : Option Parts) → n.live ≡ o →
        (is_some o && ((let d = n.disk in d.inc) == (let u = a.uid in u.inc))) ≡ true → IsHere M a
    up n there None live is = absurd (cc is)
    up n there (Some t) live is =
        let w = acting.up M all k n t there live in
        let own : is_own a.uid t.coord.tree ≡ true
        = (λ i. ((let u = a.uid in u.node) == acting.node_is M all k n t there live i)
        && ((let u = a.uid in u.inc) == (acting.inc_is M all k n t there live
        ∙ eqb-true (let d = n.disk in d.inc) (let u = a.uid in u.inc) is) i))
        ∙ (λ i. same_number (let u = a.uid in u.node) i && same_number (let u = a.uid in u.inc) i) in
        let b = w.knows.ties.homes a a.uid (in_to a (let B = book M.lines in B.acts)
        (subst (In a) (sym (acting.acts_are M all k n t there live)) began))
        (ap (λ xs. is_on (uids (path xs a.label)) a.uid) (acting.acts_are M all k n t there live) ∙ own_on (acts M.lines) a.label a named)
        own in
        let z = acting.works M all k n t there live a began b.0 b.1 in
        let y = z.stands in
        record {
          number = k;
          node = n;
          parts = t;
          act = a.uid;
          doing = z.doing;
          there = there;
          live = live;
          does = z.does;
          label = sym y.label ∙ ap (λ (x : Act). x.label) z.same;
        }

    by : (o : Option Node) → M.nodes (let u = a.uid in u.node) ≡ o → is_alive o (let u = a.uid in u.inc) ≡ true → IsHere M a
    by None there is = absurd (cc is)
    by (Some n) there is = up n there n.live refl is

-- who waits by the journal began and isn't over
module _ (M : Seen) (all : KnowsAll M) (past : Past) (lines : past.lines ≡ M.lines) (A : List Asking) (same : AreAsked past.accepted A)
    (new : (l : List ℕ) → act_in (acts M.lines) l ≡ None → (asks_by (accepted_of A) l ≡ []) × (answers_to M.lines l ≡ [])) where
  pub waits_here : (l : List ℕ) → model.is_waiting past l ≡ true → (a : Act) × (a.label ≡ l) × IsHere M a
  waits_here l waits = by (act_in (acts M.lines) l) refl
    where
      in_lines : (is_some (waits_for past.accepted M.lines l) || is_committing M.lines l) ≡ true
      in_lines = (λ i. is_some (waits_for past.accepted (sym lines i) l) || is_committing (sym lines i) l) ∙ waits

      nothing : waits_for past.accepted M.lines l ≡ None → is_committing M.lines l ≡ false → ⊥
      nothing none rests = absurd (cc (sym in_lines ∙ (λ i. is_some (none i) || rests i)))

      whatever : (b : Bool) → ◌≡◌ {A = Option Event} (if b then None else None) None
      whatever true = refl
      whatever false = refl

      over : (a : Act) → act_in (acts M.lines) l ≡ Some a → (b : Bool) → is_over M.lines a ≡ b → (x : Act) × (x.label ≡ l) × IsHere M x
      over a named true is = absurd (nothing
          (ap (λ b. if b then None else pending past.accepted M.lines l) (ap (is_over_act M.lines) named ∙ is))
          (ap (holds_of (λ x. was_called (committings M.lines) x.id && not (is_over M.lines x))) named
          ∙ (λ i. was_called (committings M.lines) a.id && not (is i)) ∙ none_so (was_called (committings M.lines) a.id)))
        where
          none_so : (x : Bool) → (x && false) ≡ false
          none_so true = refl
          none_so false = refl
      over a named false is =
          let label : a.label ≡ l = named_label (acts M.lines) l a named in
          (a, label, is_here M all a (named_in (acts M.lines) l a named) (ap (act_in (acts M.lines)) label ∙ named) is)

      by : (o : Option Act) → act_in (acts M.lines) l ≡ o → (a : Act) × (a.label ≡ l) × IsHere M a
      by None none =
          let q = new l none in
          absurd (nothing ((λ i. if has_ended M.lines l then None
          else option_map (λ (a : AskedOf). a.event) (all_answered past.accepted A same M.lines l (ap length q.1 ∙ ap length (sym q.0)) i))
          ∙ whatever (has_ended M.lines l))
          (ap (holds_of (λ a. was_called (committings M.lines) a.id && not (is_over M.lines a))) none))
      by (Some a) named = over a named (is_over M.lines a) refl
