-- Writers of one object take turns, and so their commits are called as they are decided.
use Rattle.arj_law_parts.proofs.Words
use Words.{◌≡◌, ◌≢◌, ◌⊎◌, ◌<◌, ◌≤◌, ℕ, ◌+◌, ◌==◌, ◌||◌, ◌&&◌, List, [], ◌∷◌, ◌++◌, length, take, filter, cond, Bool, true, false, Contains}
use Words.{Option, Some, None, refl, sym, ◌∙◌, ap, subst, inl, inr, ⊎_elim, arith, eqb-true, eq-eqb, and_parts, list_any, uid_is, uid_same}
use Words.{is_on, uid_eq, Uid, writes, Body, Line, In, in_filter_map, in_from, in_to, number_tells, uid_number, Wrote, AllByRecursion}
use Words.{cons_option, filter_map, list_all}
use Rattle.arj_law_serial.proofs.Terms
use Terms.{counts_of, Done, decided_in, in_decided, HasNothing, uid_of_id, AreDecisions, IsDecision, writes_conflict, rises, Act, Placed}
use Terms.{acts, acts_after, acts_from, chain_in, committed, committed_of, has_end, is_committed, put, read, recovered, recovered_of}
use Terms.{top_in, Said, Top, call_of, committed_calls, ids, kept, kept_in, tops, Values, top_place, writes_on, Book, book, book_from}
use Terms.{is_decided, is_top, new_book, turned, AreDistinct, called, called_of, AreRight, has_act, or_which, sane_lines, sane_new, one_act}
use Terms.{AreSound, in_later, its_acts, its_call, its_sound, top, Conflicting, State, IsDecidedAt, IsTied, AreOnce, AreTurnsOf}
use Terms.{IsCalledBefore, IsWriter, WritersAreNewestFirst}
use Terms.words as disk
use Rattle.arj_law_lock_view.proofs.journal.Numbers.{called_low}
use Rattle.arj_law_runs.proofs.journal.{Books.never, Models.its_decision}
use Rattle.arj_law_runs.specs.journal.Laws.{AreApart}
use Rattle.arj_law_serial.proofs.order
use order.{Ties.Tie, Ties.tie_of, Turning.one_call, Values.to_filter}
use order.Locks.{number_uid, read_below, read_taken}
use order.Order.{IsShown, IsTopOf, before_top, called_first, conflict_of, in_order, its_top, listed, off_one, place_of_top, same_number}
use order.Order.{shown, stage_of_top, top_item, top_plain}
use Rattle.arj_law_serial.specs.joint.Writers.{DecidedWritersStand, WritersAreCalledFirst}
use Rattle.arj_model.specs.Calls.{Call, made, made_by, made_in, said, surviving}

-- ---- the front of a journal

pub right_front : (B : Book) (xs ys : List Line) → AreRight B (xs ++ ys) → AreRight B xs
right_front B [] ys right = tt
right_front B (l ∷ xs) ys right = (right.0, right_front (turned B l.body) xs ys right.1)

pub right_behind : (B : Book) (xs ys : List Line) → AreRight B (xs ++ ys) → AreRight (book_from B xs) ys
right_behind B [] ys right = right
right_behind B (l ∷ xs) ys right = right_behind (turned B l.body) xs ys right.1

pub take_front : (xs ys : List Line) → take (length xs) (xs ++ ys) ≡ xs
take_front [] ys = by ys
  where
    by : (zs : List Line) → take 0 zs ≡ []
    by [] = refl
    by (z ∷ zs) = refl
take_front (l ∷ xs) ys = ap (λ zs. l ∷ zs) (take_front xs ys)

-- what is read of it is read of the whole
read_front : {A : Type 0} (f : List Act → Body → Option A) (us : List Act) (n : ℕ) (xs ys : List Line) (s : Placed A) →
    In s (read f us n xs) → In s (read f us n (xs ++ ys))
read_front f us n [] ys s i = absurd i
read_front {A} f us n (l ∷ xs) ys s i = by (f us l.body) i (λ j. read_front f (acts_after us l.body) (n + 1) xs ys s j)
  where
    by : (o : Option A) → In s (put n o (read f (acts_after us l.body) (n + 1) xs)) → (In s (read f (acts_after us l.body) (n + 1) xs) →
        In s (read f (acts_after us l.body) (n + 1) (xs ++ ys))) → In s (put n o (read f (acts_after us l.body) (n + 1) (xs ++ ys)))
    by None j ih = ih j
    by (Some a) (inl same) ih = inl same
    by (Some a) (inr j) ih = inr (ih j)

pub act_with : (xs : List Act) (u : Uid) → has_act xs u ≡ true → (z : Act) × In z xs × (z.uid ≡ u)
act_with [] u on = absurd (cc on)
act_with (x ∷ xs) u on = ⊎_elim (λ here. (x, inl refl, uid_is x.uid u here)) (λ there. let r = act_with xs u there in
    (r.0, inr r.1, r.2)) (or_which (uid_eq x.uid u) (has_act xs u) on)

pub end_in : (es : List (Placed ℕ)) (id : ℕ) → has_end es id ≡ true → (e : Placed ℕ) × In e es × (e.it ≡ id)
end_in [] id on = absurd (cc on)
end_in (e ∷ es) id on = ⊎_elim (λ here. (e, inl refl, eqb-true e.it id here)) (λ there. let r = end_in es id there in
    (r.0, inr r.1, r.2)) (or_which (e.it == id) (has_end es id) on)

pub has_in : (es : List (Placed ℕ)) (id : ℕ) (e : Placed ℕ) → In e es → e.it ≡ id → has_end es id ≡ true
has_in [] id e i same = absurd i
has_in (f ∷ es) id e (inl is) same = ap (λ b. b || has_end es id) (eq-eqb f.it id (ap (λ (z : Placed ℕ). z.it) is ∙ same))
has_in (f ∷ es) id e (inr i) same = by (f.it == id) (has_in es id e i same)
  where
    by : (b : Bool) → has_end es id ≡ true → (b || has_end es id) ≡ true
    by true on = refl
    by false on = on

pub found_in : (es : List (Placed Uid)) (u : Uid) (e : Placed Uid) → In e es → e.it ≡ u →
    list_any (λ (z : Placed Uid). uid_eq z.it u) es ≡ true
found_in [] u e i same = absurd i
found_in (f ∷ es) u e (inl is) same = ap (λ b. b || list_any (λ (z : Placed Uid). uid_eq z.it u) es)
    (ap (λ w. uid_eq w u) (ap (λ (z : Placed Uid). z.it) is ∙ same) ∙ uid_same u)
found_in (f ∷ es) u e (inr i) same = by (uid_eq f.it u) (found_in es u e i same)
  where
    by : (b : Bool) → list_any (λ (z : Placed Uid). uid_eq z.it u) es ≡ true → (b || list_any (λ (z : Placed Uid). uid_eq z.it u) es) ≡ true
    by true on = refl
    by false on = on

pub or_left : (p q : Bool) → p ≡ true → (p || q) ≡ true
or_left p q on = ap (λ b. b || q) on

pub or_right : (p q : Bool) → q ≡ true → (p || q) ≡ true
or_right true q on = refl
or_right false q on = on

-- a number of these actions is that of one
pub with_number : (xs : List Act) → AreDistinct xs → (n : ℕ) → n < length xs → (z : Act) × In z xs × (z.id ≡ n)
with_number [] d n less = absurd (omega (arith, less))
with_number (x ∷ xs) d n less = ⊎_elim
    (λ here. let e = d.0 in (x, inl refl, omega (arith, e, here)))
    (λ there. let r = with_number xs d.3 n there in (r.0, inr r.1, r.2))
    (cases n (length xs) (omega (arith, less)))
  where
    cases : (m k : ℕ) → m < k + 1 → (m ≡ k) ⊎ (m < k)
    cases m k l = grind (arith, l)

all_ids : (p : ℕ → Bool) (xs : List Act) → list_all (λ (b : Act). p b.id) xs ≡ true → list_all p (ids xs) ≡ true
all_ids p [] all = refl
all_ids p (y ∷ ys) all = by (p y.id) all (all_ids p ys)
  where
    by : (b : Bool) → (b && list_all (λ (z : Act). p z.id) ys) ≡ true →
        (list_all (λ (z : Act). p z.id) ys ≡ true → list_all p (ids ys) ≡ true) → (b && list_all p (ids ys)) ≡ true
    by true is ih = ih is
    by false is ih = absurd (cc is)

-- ---- what stands in the front of a journal is read of it

module _ (lines : List Line) (right : AreRight new_book lines) (before behind : List Line) (is : lines ≡ before ++ behind) where
  front : AreRight new_book before
  front = right_front new_book before behind (subst (AreRight new_book) is right)

  acts_front : (z : Act) → In z (acts before) → In z (acts lines)
  acts_front z k = subst (λ ls. In z (acts ls)) (sym is) (let e = by [] before in subst (In z) (sym e) (in_later behind (acts before) z k))
    where
      by : (us : List Act) (xs : List Line) → acts_from us (xs ++ behind) ≡ acts_from (acts_from us xs) behind
      by us [] = refl
      by us (l ∷ xs) = by (acts_after us l.body) xs

  taken : take (length before) lines ≡ before
  taken = ap (take (length before)) is ∙ take_front before behind

  -- what stands before its end
  to_front : {A : Type 0} (f : List Act → Body → Option A) (e : Placed A) → In e (read f [] 0 lines) → e.at < length before →
      In e (read f [] 0 before)
  to_front f e k less = subst (λ ls. In e (read f [] 0 ls)) taken (read_taken f [] 0 lines (length before) e k (omega (arith, less)))

  -- an action whose commit was called there is in it
  act_front : (a : Act) → In a (acts lines) → (e : Placed ℕ) → In e (called lines) → e.it ≡ a.id → e.at < length before → In a (acts before)
  act_front a there e k its less =
      let small = called_low before e (to_front called_of e k less) in
      let r = with_number (acts before) (let q = its_sound before front in q.distinct) e.it small in
      subst (λ z. In z (acts before)) (same_number lines right r.0 a (acts_front r.0 r.1) there (r.2 ∙ its)) r.1

  -- so it was called by it
  pub on_front : (a : Act) → In a (acts lines) → (e : Placed ℕ) → In e (called lines) → e.it ≡ a.id → e.at < length before →
      is_on (let B = book before in B.called) a.uid ≡ true
  on_front a there e k its less =
      sym (its_call before front a (act_front a there e k its less)) ∙ has_in (called before) a.id e (to_front called_of e k less) its

-- ---- the law

module _ (values : Values) (lines : List Line) (right : AreRight new_book lines) (x : ℕ) (S : State) (t : IsTied values lines x S) where
  tie : Tie values lines x S
  tie = tie_of values lines x S t

  sound : AreSound (acts lines)
  sound = its_sound lines right

  apart_tops : AreApart (tops lines)
  apart_tops = let l = listed lines right in l.apart

  -- ---- its front

  module _ (before behind : List Line) (is : lines ≡ before ++ behind) where
    module _ (u : Top) (a : Act) (u_there : In u (tops lines)) (a_there : In a (acts lines)) (a_is : a.id ≡ u.id) where
      its : IsTopOf lines u
      its = top_item lines right u u_there

      its_a : (let k = its in k.act) ≡ a
      its_a = same_number lines right its.act a its.there a_there (its.number ∙ sym a_is)

      -- a top whose commit was called by then has its call there
      called_front : is_on (let B = book before in B.called) a.uid ≡ true → u.at < length before
      called_front on =
          let e = end_in (called before) a.id (its_call before (front lines right before behind is) a a_front ∙ on) in
          let whole = subst (λ ls. In e.0 (called ls)) (sym is) (read_front called_of [] 0 before behind e.0 e.1) in
          let said = tie.actions its.act (in_to its.act (acts lines) its.there) (top_plain its.act.kind its.kind) in
          let here = said.place (record { at = u.at; it = its.act.id }) (in_to _ (called lines) its.call) refl in
          let there = said.place e.0 (in_to e.0 (called lines) whole) (e.2 ∙ ap (λ (z : Act). z.id) (sym its_a)) in
          let less = read_below called_of [] 0 before e.0 e.1 in
          omega (arith, here, there, less)
        where
          a_front : In a (acts before)
          a_front =
              let sane = sane_lines new_book before (front lines right before behind is) sane_new in
              let r = act_with (acts before) a.uid
              (subst (λ us. has_act us a.uid ≡ true) (its_acts before (front lines right before behind is)) (sane.called a.uid on)) in
              subst (λ z. In z (acts before))
              (one_act (acts lines) sound.distinct r.0 a (acts_front lines right before behind is r.0 r.1) a_there r.2) r.1

      -- its call
      abbrev call : Placed ℕ
      call = record { at = u.at; it = its.act.id }

      call_is : its.act.id ≡ a.id
      call_is = ap (λ (z : Act). z.id) its_a

  -- of two tops one whose commit was called where that of the other wasn't was called first
  pub called_in_turn : (u v : Top) (a b : Act) → In u (tops lines) → In v (tops lines) → In a (acts lines) → In b (acts lines) →
      a.id ≡ u.id → b.id ≡ v.id → IsCalledBefore lines a.uid b.uid → u.at < v.at
  called_in_turn u v a b u_there v_there a_there b_there a_is b_is (before, behind, is, on, off) =
      by (cases v.at (length before)) (called_front before behind is u a u_there a_there a_is on)
    where
      cases : (m n : ℕ) → (m < n) ⊎ (n ≤ m)
      cases m n = grind arith

      by : (v.at < length before) ⊎ (length before ≤ v.at) → u.at < length before → u.at < v.at
      by (inl less) early = absurd (never (on_front lines right before behind is b b_there (call before behind is v b v_there b_there b_is)
          (let k = its before behind is v b v_there b_there b_is in k.call) (call_is before behind is v b v_there b_there b_is) less) off)
      by (inr more) early = omega (arith, more, early)

  module _ (u v : Top) (a b : Act) (u_there : In u (tops lines)) (v_there : In v (tops lines)) (a_there : In a (acts lines))
      (b_there : In b (acts lines)) (a_is : a.id ≡ u.id) (b_is : b.id ≡ v.id) (apart : u.id ≢ v.id)
      (c d : Call) (i : In c (committed_calls lines)) (j : In d (committed_calls lines)) (cw : writes_on x c ≡ true)
      (dw : writes_on x d ≡ true) (ct : c.top ≡ u.id) (dt : d.top ≡ v.id)
      (before behind : List Line) (is : lines ≡ before ++ behind) (on : is_on (let B = book before in B.called) a.uid ≡ true)
      (undone : is_decided (book before) b.uid ≡ false) where
    cx : c.x ≡ x
    cx = eqb-true c.x x (and_parts (c.x == x) (writes c.op) cw).0

    dx : d.x ≡ x
    dx = eqb-true d.x x (and_parts (d.x == x) (writes d.op) dw).0

    s_c : IsShown values lines right x S tie c
    s_c = shown values lines right x S tie c i cx

    s_d : IsShown values lines right x S tie d
    s_d = shown values lines right x S tie d j dx

    -- the tops of the two calls
    place_u : (let n = s_c.number in n.at) ≡ u.at
    place_u = sym (place_of_top (tops lines) s_c.number apart_tops s_c.listed_top) ∙ ap (top_place (tops lines)) (sym s_c.top_number ∙ ct)
        ∙ place_of_top (tops lines) u apart_tops u_there

    place_v : (let n = s_d.number in n.at) ≡ v.at
    place_v = sym (place_of_top (tops lines) s_d.number apart_tops s_d.listed_top) ∙ ap (top_place (tops lines)) (sym s_d.top_number ∙ dt)
        ∙ place_of_top (tops lines) v apart_tops v_there

    before_u : c.at < u.at
    before_u = let l = before_top values lines right x S tie c s_c in omega (arith, l, place_u)

    before_v : d.at < v.at
    before_v = let l = before_top values lines right x S tie d s_d in omega (arith, l, place_v)

    -- the first one's commit was called there
    first_front : u.at < length before
    first_front = called_front before behind is u a u_there a_there a_is on

    -- ---- the second one's call didn't come first

    its_b : (let k = s_d.top_of_it in k.act) ≡ b
    its_b = let k = s_d.top_of_it in same_number lines right k.act b k.there b_there (k.number ∙ sym s_d.top_number ∙ dt ∙ sym b_is)

    late : d.at < c.at → ⊥
    late less = never decided undone
      where
        other : (d.top == c.top) ≡ false
        other = off_one d.top c.top (λ e. apart (sym ct ∙ sym e ∙ dt))

        v_first : v.at < c.at
        v_first = let l = called_first values lines right x S tie d c j i dx cx less other (writes_conflict x d c dw cw) in
            let e = ap (top_place (tops lines)) dt ∙ place_of_top (tops lines) v apart_tops v_there in omega (arith, l, e)

        both : Conflicting S (let k = s_d in k.call) (let k = s_c in k.call)
        both = conflict_of values lines right x S tie d c s_d s_c less (writes_conflict x d c dw cw)

        differ : top s_d.call.act ≢ top s_c.call.act
        differ e =
            let p = tie.places in
            let m = s_d.top_of_it in
            let n = s_c.top_of_it in
            let uid = p.one m.act n.act (in_to m.act (acts lines) m.there) (in_to n.act (acts lines) n.there)
            (sym (its_top values lines right x S tie d s_d) ∙ e ∙ its_top values lines right x S tie c s_c) in
            let act = one_act (acts lines) sound.distinct m.act n.act m.there n.there uid in
            apart (sym ct ∙ s_c.top_number ∙ sym n.number ∙ ap (λ (z : Act). z.id) (sym act) ∙ m.number ∙ sym s_d.top_number ∙ dt)

        done : (S.action (tie.act b.uid)).done < c.at + 1
        done =
            let l = (in_order values lines right x S tie).writes s_d.call s_c.call both
            (s_d.write ∙ (and_parts (d.x == x) (writes d.op) dw).1) differ in
            let line = s_c.line in
            let place = ap (λ m. (S.action m).done) (its_top values lines right x S tie d s_d)
            ∙ ap (λ (z : Act). (S.action (tie.act z.uid)).done) its_b in
            omega (arith, l, line, place)

        stage : (S.action (tie.act b.uid)).stage ≡ 3
        stage = ap (λ (z : Act). (S.action (tie.act z.uid)).stage) (sym its_b)
            ∙ stage_of_top values lines right x S tie s_d.number s_d.top_of_it

        -- its call is in the front, and so is it
        b_front : In b (acts before)
        b_front = act_front lines right before behind is b b_there (call before behind is v b v_there b_there b_is)
            (let k = its before behind is v b v_there b_there b_is in
            k.call) (call_is before behind is v b v_there b_there b_is) (omega (arith, v_first, before_u, first_front))

        at_line : IsDecidedAt lines b (let m = S.action (tie.act b.uid) in m.done)
        at_line = let k = s_d.top_of_it in let said = tie.actions b (in_to b (acts lines) b_there)
            (top_plain b.kind (ap (λ (z : Act). is_top z.kind) (sym its_b) ∙ k.kind)) in said.decided stage

        committed_front : IsDecidedAt lines b (let m = S.action (tie.act b.uid) in m.done) →
            is_committed (committed before) (recovered before) b ≡ true
        committed_front (inl (e, k, same, at)) = or_left (has_end (committed before) b.id)
            (list_any (λ (z : Placed Uid). uid_eq z.it b.uid) (recovered before)) (has_in (committed before) b.id e (to_front lines right
            before behind is committed_of e (in_from e (committed lines) k) (omega (arith, at, done, before_u, first_front))) same)
        committed_front (inr (e, k, same, at)) = or_right (has_end (committed before) b.id)
            (list_any (λ (z : Placed Uid). uid_eq z.it b.uid) (recovered before)) (found_in (recovered before) b.uid e (to_front lines right
            before behind is recovered_of e (in_from e (recovered lines) k) (omega (arith, at, done, before_u, first_front))) same)

        decided : is_decided (book before) b.uid ≡ true
        decided = sym (its_decision before (front lines right before behind is) b b_front) ∙ committed_front at_line

    cases : (m n : ℕ) → (m < n) ⊎ ((n < m) ⊎ (m ≡ n))
    cases m n = grind arith

    pub called_so : u.at < v.at
    called_so = ⊎_elim
        (λ less. let l = called_first values lines right x S tie c d i j cx dx less (off_one c.top d.top (λ e. apart (sym ct ∙ e ∙ dt)))
        (writes_conflict x c d cw dw) in let e = ap (top_place (tops lines)) ct ∙ place_of_top (tops lines) u apart_tops u_there in
        omega (arith, l, e, before_v))
        (λ rest. ⊎_elim (λ less. absurd (late less)) (λ same.
        absurd (apart (sym ct ∙ ap (λ (z : Call). z.top) (one_call (committed_calls lines) (rises lines) c d i j same) ∙ dt))) rest)
        (cases c.at d.at)

pub writers_are_called_first : WritersAreCalledFirst
writers_are_called_first values lines x S right t u v a b w z apart (before, behind, is, on, undone) =
    let c = w.wrote in
    let d = z.wrote in
    called_so values lines right x S t u v a b (in_from u (tops lines) w.listed) (in_from v (tops lines) z.listed)
    (in_from a (acts lines) w.there) (in_from b (acts lines) z.there) w.number z.number apart
    c.0 d.0 (in_from c.0 (committed_calls lines) c.1) (in_from d.0 (committed_calls lines) d.1) c.2 d.2 c.3 d.3 before behind is on undone

-- ---- decided tops

pub there_before : (p : Done → Bool) (d : Done) (ds : List Done) → disk.In d (filter p ds) → disk.In d ds
there_before p d [] i = absurd i
there_before p d (e ∷ ds) i = by (p e) i (there_before p d ds)
  where
    by : (b : Bool) → disk.In d (cond b (e ∷ filter p ds) (filter p ds)) → (disk.In d (filter p ds) → disk.In d ds) → disk.In d (e ∷ ds)
    by true (inl same) ih = inl same
    by true (inr k) ih = inr (ih k)
    by false k ih = inr (ih k)

turns_left : (lines : List Line) (p : Done → Bool) (ds : List Done) → AreTurnsOf lines ds → AreTurnsOf lines (filter p ds)
turns_left lines p [] turns = tt
turns_left lines p (d ∷ ds) turns = by (p d) (turns_left lines p ds turns.1)
  where
    by : (b : Bool) → AreTurnsOf lines (filter p ds) → AreTurnsOf lines (cond b (d ∷ filter p ds) (filter p ds))
    by true ih = (λ e a b k. turns.0 e a b (there_before p e ds k), ih)
    by false ih = ih

once_left : (p : Done → Bool) (ds : List Done) → AreOnce ds → AreOnce (filter p ds)
once_left p [] once = tt
once_left p (d ∷ ds) once = by (p d) (once_left p ds once.1)
  where
    none_left : (t : ℕ) (es : List Done) → decided_in es t ≡ false → decided_in (filter p es) t ≡ false
    none_left t [] none = refl
    none_left t (e ∷ es) none = one (p e) (e.top == t) refl none (none_left t es)
      where
        one : (b c : Bool) → (e.top == t) ≡ c → (c || decided_in es t) ≡ false →
            (decided_in es t ≡ false → decided_in (filter p es) t ≡ false) → decided_in (cond b (e ∷ filter p es) (filter p es)) t ≡ false
        one b true is off ih = absurd (cc off)
        one true false is off ih = ap (λ c. c || decided_in (filter p es) t) is ∙ ih off
        one false false is off ih = ih off

    by : (b : Bool) → AreOnce (filter p ds) → AreOnce (cond b (d ∷ filter p ds) (filter p ds))
    by true ih = (none_left d.top ds once.0, ih)
    by false ih = ih

-- what is taken of a list where the function gives it
pub mapped : {A B : Type 0} (f : A → Option B) (a : A) (b : B) (xs : List A) → In a xs → f a ≡ Some b → In b (filter_map f xs)
mapped f a b [] k e = absurd k
mapped {A} {B} f a b (y ∷ ys) (inl same) e = subst (λ o. In b (cons_option o (filter_map f ys))) (sym (ap f same ∙ e)) (inl refl)
mapped {A} {B} f a b (y ∷ ys) (inr k) e = by (f y) (mapped f a b ys k e)
  where
    by : (o : Option B) → In b (filter_map f ys) → In b (cons_option o (filter_map f ys))
    by None j = j
    by (Some z) j = inr j

-- of a top that wrote something survives
pub wrote_something : (lines : List Line) (x : ℕ) (t : Top) (a : Act) → a.id ≡ t.id → Wrote lines x t → HasNothing lines a → ⊥
wrote_something lines x t a same (c, there, w, top) none =
    let f = in_filter_map (kept (committed lines) (recovered lines)) c (said lines) (in_from c (committed_calls lines) there) in
    subst (In c) none.calls (by f.0 f.1 (top_in (let q = f.0 in q.it.path)) refl f.2)
  where
    by : (s : Placed Said) → In s (said lines) → (o : Option Act) → top_in s.it.path ≡ o →
        kept_in (committed lines) (recovered lines) s o ≡ Some c → In c (surviving lines a.id)
    by s k None e is = absurd (cc is)
    by s k (Some u) e is = one (list_all (λ (b : Act). has_end (committed lines) b.id) (chain_in s.it.path)) refl
        (is_committed (committed lines) (recovered lines) u) is
      where
        one : (p : Bool) → list_all (λ (b : Act). has_end (committed lines) b.id) (chain_in s.it.path) ≡ p → (q : Bool) →
            cond (p && q) (Some (call_of s u)) None ≡ Some c → In c (surviving lines a.id)
        one false pe q is_so = absurd (cc is_so)
        one true pe false is_so = absurd (cc is_so)
        one true pe true is_so =
            let same_call : call_of s u ≡ c = cc is_so in
            let made_so : In c (made lines) = mapped (λ (z : Placed Said). made_in z (top_in z.it.path)) s c (said lines) k
            (ap (made_in s) e ∙ ap Some same_call) in
            let chain = all_ids (has_end (committed lines)) (chain_in s.it.path) pe in
            to_filter (λ (z : Call). list_all (has_end (committed lines)) z.chain) c (made_by lines a.id)
            (to_filter (λ (z : Call). z.top == a.id) c (made lines) made_so (eq-eqb c.top a.id (top ∙ sym same)))
            (ap (λ (z : Call). list_all (has_end (committed lines)) z.chain) (sym same_call) ∙ chain)

module _ (values : Values) (lines : List Line) (x : ℕ) (S : State) (right : AreRight new_book lines) (t : IsTied values lines x S) where
  -- a decision and its top's action
  pub record IsOf (d : Done) (u : Top) : Type 0 where
    pub its : IsTopOf lines u
    pub listed : In u (tops lines)
    pub number : d.top ≡ uid_number (let k = its in let a = k.act in a.uid)

  pub its_top_of : (d : Done) (u : Top) → IsDecision values lines x d u → IsOf d u
  its_top_of d u is =
      let there = in_from u (tops lines) is.listed in
      let k = top_item lines right u there in
      record {
        its = k;
        listed = there;
        number = is.number ∙ ap (λ n. uid_number (uid_of_id (acts lines) n)) (sym k.number)
            ∙ ap uid_number (number_uid k.act (acts lines) (λ y m e. same_number lines right y k.act m k.there e) k.there);
      }

  pub decision_of : (ds : List Done) (us : List Top) → AreDecisions values lines x ds us → (u : Top) → In u us →
      (d : Done) × disk.In d ds × IsOf d u
  decision_of [] [] are u k = absurd k
  decision_of [] (w ∷ us) are u k = absurd are
  decision_of (d ∷ ds) [] are u k = absurd k
  decision_of (d ∷ ds) (w ∷ us) are u (inl same) = (d, inl refl, subst (IsOf d) same (its_top_of d w are.0))
  decision_of (d ∷ ds) (w ∷ us) are u (inr k) = let r = decision_of ds us are.1 u k in (r.0, inr r.1, r.2)

  -- decided once, their tops are apart
  pub apart_of : (ds : List Done) (us : List Top) → AreOnce ds → AreDecisions values lines x ds us → AreApart us
  apart_of [] [] once are = tt
  apart_of [] (w ∷ us) once are = absurd are
  apart_of (d ∷ ds) [] once are = tt
  apart_of (d ∷ ds) (w ∷ us) once are = (all_at us (λ u k. other u k), apart_of ds us once.1 are.1)
    where
      all_at : (vs : List Top) → ((u : Top) → In u vs → w.id ≢ u.id) → AllByRecursion (λ (u : Top). w.id ≢ u.id) vs
      all_at [] f = tt
      all_at (v ∷ vs) f = (f v (inl refl), all_at vs (λ u k. f u (inr k)))

      other : (u : Top) → In u us → w.id ≢ u.id
      other u k same =
          let r = decision_of ds us are.1 u k in
          let i = r.2 in
          let j = its_top_of d w are.0 in
          let m = i.its in
          let n = j.its in
          let one = same_number lines right n.act m.act n.there m.there (n.number ∙ same ∙ sym m.number) in
          let tops_same : d.top ≡ (let e = r.0 in e.top) = j.number ∙ ap (λ (z : Act). uid_number z.uid) one ∙ sym i.number in
          never (ap (decided_in ds) tops_same ∙ in_decided ds r.0 r.1) once.0

  other_of : (w : Top) (us : List Top) → AllByRecursion (λ (u : Top). w.id ≢ u.id) us → (u : Top) → In u us → w.id ≢ u.id
  other_of w [] all u k = absurd k
  other_of w (y ∷ us) all u (inl same) = subst (λ (z : Top). w.id ≢ z.id) same all.0
  other_of w (y ∷ us) all u (inr k) = other_of w us all.1 u k

  -- and a decision's top is one of those
  pub those_of : (ds : List Done) (us : List Top) → AreDecisions values lines x ds us → (d : Done) → disk.In d ds →
      (u : Top) × In u us × IsOf d u
  those_of [] us are d k = absurd k
  those_of (e ∷ ds) [] are d k = absurd are
  those_of (e ∷ ds) (w ∷ us) are d (inl same) = (w, inl refl, subst (λ (z : Done). IsOf z w) same (its_top_of e w are.0))
  those_of (e ∷ ds) (w ∷ us) are d (inr k) = let r = those_of ds us are.1 d k in (r.0, inr r.1, r.2)

  -- tops of one number are one
  pub one_number : (u w : Top) → In u (tops lines) → In w (tops lines) → u.id ≡ w.id → u ≡ w
  one_number u w i j same = by (tops lines) (let l = listed lines right in l.apart) i j
    where
      by : (ts : List Top) → AreApart ts → In u ts → In w ts → u ≡ w
      by [] apart a b = absurd a
      by (z ∷ ts) apart (inl a) (inl b) = sym a ∙ b
      by (z ∷ ts) apart (inl a) (inr b) = absurd (other_of z ts apart.0 w b (ap (λ (y : Top). y.id) a ∙ same))
      by (z ∷ ts) apart (inr a) (inl b) = absurd (other_of z ts apart.0 u a (ap (λ (y : Top). y.id) b ∙ sym same))
      by (z ∷ ts) apart (inr a) (inr b) = by ts apart.1 a b

  -- a top of the journal has its action's number
  pub number_is : (u : Top) (i : IsTopOf lines u) → uid_number (uid_of_id (acts lines) u.id) ≡ uid_number (let a = i.act in a.uid)
  number_is u i = ap (λ n. uid_number (uid_of_id (acts lines) n)) (sym i.number)
      ∙ ap uid_number (number_uid i.act (acts lines) (λ y m e. same_number lines right y i.act m i.there e) i.there)

  writer : (d : Done) (u : Top) → (i : IsOf d u) → Wrote lines x u → IsWriter lines x u (let k = i.its in k.act)
  writer d u i wrote = let k = i.its in
      record { listed = in_to u (tops lines) i.listed; wrote = wrote; there = in_to k.act (acts lines) k.there; number = k.number }

  pub writers_stand : (ds : List Done) (us : List Top) → AreTurnsOf lines ds → AreDecisions values lines x ds us → AreApart us →
      WritersAreNewestFirst lines x us
  writers_stand [] [] turns are apart = tt
  writers_stand [] (w ∷ us) turns are apart = absurd are
  writers_stand (d ∷ ds) [] turns are apart = tt
  writers_stand (d ∷ ds) (w ∷ us) turns are apart = (one, writers_stand ds us turns.1 are.1 apart.1)
    where
      one : (u : Top) → Contains us u → Wrote lines x u → Wrote lines x w → u.at < w.at
      one u k wrote_u wrote_w =
          let r = decision_of ds us are.1 u (in_from u us k) in
          let e = r.0 in
          let i = r.2 in
          let j = its_top_of d w are.0 in
          let m = i.its in
          let n = j.its in
          let off = other_of w us apart.0 u (in_from u us k) in
          let other : e.top ≢ d.top = λ same.
          off (sym n.number ∙ ap (λ (z : Act). z.id) (one_act (acts lines) (let q = its_sound lines right in q.distinct) n.act m.act
          n.there m.there (number_tells n.act.uid m.act.uid (sym j.number ∙ sym same ∙ i.number))) ∙ m.number) in
          ⊎_elim
          (λ first. writers_are_called_first values lines x S right t u w m.act n.act (writer e u i wrote_u) (writer d w j wrote_w)
          (λ same. off (sym same)) first)
          (λ none. absurd (wrote_something lines x w n.act n.number wrote_w none))
          (turns.0 e m.act n.act r.1 (in_to m.act (acts lines) m.there) (in_to n.act (acts lines) n.there) (sym i.number) (sym j.number)
          n.kind other)

pub decided_writers_stand : DecidedWritersStand
decided_writers_stand values lines x S right t ds those turns are once = let a = once_left counts_of ds once in
    writers_stand values lines x S right t (filter counts_of ds) those (turns_left lines counts_of ds turns) are
    (apart_of values lines x S right t (filter counts_of ds) those a are)
