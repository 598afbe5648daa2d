-- What the vote for a committed top gave is the value that its last surviving write left.
use Rattle.arj_law_parts.proofs.Words
use Words.{◌≡◌, ◌≢◌, ◌⊎◌, ◌<◌, ◌≤◌, ℕ, ◌+◌, ◌==◌, ◌&&◌, ◌||◌, List, [], ◌∷◌, filter, Bool, true, false, nat_lt, Option, Some, None, refl}
use Words.{sym, ◌∙◌, ap, subst, inl, inr, ⊎_elim, arith, Contains, eqb-true, eq-eqb, AllByRecursion, cons_option, filter_map, and_parts}
use Words.{uid_cases, uid_same, uid_eq, is_on, value_after, writes, Line, In, in_from, in_to, uid_number, is_serial}
use Rattle.arj_law_serial.proofs.Terms
use Terms.{Act, Placed, acts, committed, has_end, recovered, uids, Said, Top, call_of, committed_calls, kept, tops, uid_of_id}
use Terms.{Values, run, writes_on, is_top, new_book, called, AreRight, one_act, AreSound, its_sound, is_action, on, top, Alive, State}
use Terms.{Newest, Survives, newest, none, older, start_holds, lives, on_top, top_of, roots_low, start_low, start_values, start_votes}
use Terms.{votes_are_right, AreCallsOf, said_on, Packed, VotedSo, WroteSo, content_of, left_by, IsTied, path_of}
use Terms.machine
use Terms.state
use Rattle.arj_base.specs.declared.state.Format.TheVariants.{Two}
use Rattle.arj_law_lock.proofs.machine.{Paths.one_top, VoteRun.run_votes}
use Rattle.arj_law_lock.specs.machine.Laws.{VotesAreRight}
use Rattle.arj_law_runs.proofs.journal.Nothing.{below_is_over}
use Rattle.arj_law_serial.proofs.order
use order.{Locks.number_uid, Locks.tie, Paths.top_on, Ties.Tie}
use order.Order.{IsTopOf, is_top_in, its_top, same_number, shown, stage_of_top, top_item}
use order.Tying.{IsMade, acts_are, from_on, made, on_it, plain_is, shape_of, survives_kept}
use order.Values.{ArePaired, Fall, before_is, met_call, on_object, paired_in, said_falls}
use Rattle.arj_model.specs.Calls.{Call, said}

made_of : {A B : Type 0} (f : A → Option B) (x : A) (y : B) (xs : List A) → In x xs → f x ≡ Some y → In y (filter_map f xs)
made_of f x y [] i e = absurd i
made_of f x y (z ∷ xs) (inl is) e = subst (λ o. In y (cons_option o (filter_map f xs))) (sym (ap f is ∙ e)) (inl refl)
made_of {A} {B} f x y (z ∷ xs) (inr i) e = by (f z) (made_of f x y xs i e)
  where
    by : (o : Option B) → In y (filter_map f xs) → In y (cons_option o (filter_map f xs))
    by None j = j
    by (Some w) j = inr j

end_of : (es : List (Placed ℕ)) (n at : ℕ) → In (record { at = at; it = n }) es → has_end es n ≡ true
end_of [] n at i = absurd i
end_of (e ∷ es) n at (inl is) = ap (λ b. b || has_end es n) (eq-eqb e.it n (ap (λ (z : Placed ℕ). z.it) is))
end_of (e ∷ es) n at (inr i) = by (e.it == n) (end_of es n at i)
  where
    by : (b : Bool) → has_end es n ≡ true → (b || has_end es n) ≡ true
    by true r = refl
    by false r = r

on_uid : (xs : List Act) (x : Act) → In x xs → is_on (uids xs) x.uid ≡ true
on_uid [] x i = absurd i
on_uid (y ∷ ys) x (inl same) = ap (λ b. b || is_on (uids ys) x.uid) (ap (λ (z : Act). uid_eq z.uid x.uid) same ∙ uid_same x.uid)
on_uid (y ∷ ys) x (inr i) = by (uid_eq y.uid x.uid) (on_uid ys x i)
  where
    by : (b : Bool) → is_on (uids ys) x.uid ≡ true → (b || is_on (uids ys) x.uid) ≡ true
    by true r = refl
    by false r = r

module _ (values : Values) (lines : List Line) (right : AreRight new_book lines) (x : ℕ) (S : State) (t : IsTied values lines x S) where
  abbrev its : Tie values lines x S
  its = tie values lines right x S t

  sound : AreSound (acts lines)
  sound = its_sound lines right

  right_votes : VotesAreRight S
  right_votes = let k = run_votes its.run (start_holds (its.code (values x) its.writer)) (start_values (its.code (values x) its.writer))
      (start_votes (its.code (values x) its.writer)) in votes_are_right k.0 k.1

  alive_of : (a : machine.Act) → Survives S a → Alive S a
  alive_of a survives = lives S (roots_low its.run (start_low (its.code (values x) its.writer))) a survives

  -- ---- the newest call of a top

  module _ (m : machine.Act) where
    abbrev IsOne : machine.Act → Type 0
    IsOne a = (top a ≡ m) × Alive S a

    -- the newest write of the top that wasn't undone
    record IsFound (v : ℕ) (ss : List (Placed Said)) (cs : List state.Call) : Type 0 where
      item : Placed Said
      call : state.Call
      pair : ArePaired values lines right x S its item call ss cs
      write : call.write ≡ true
      one : IsOne call.act
      gives : call.gives ≡ v
      last : (e : state.Call) → machine.In e cs → e.write ≡ true → IsOne e.act → e.line ≤ call.line

    lines_below : (p : ℕ) (ss : List (Placed Said)) (cs : List state.Call) → AreCallsOf t.act t.code ss cs →
        AllByRecursion (λ (s : Placed Said). s.at < p) ss → (e : state.Call) → machine.In e cs → e.line ≤ p
    lines_below p [] [] are below e i = absurd i
    lines_below p [] (c ∷ cs) are below e i = absurd are
    lines_below p (s ∷ ss) [] are below e i = absurd are
    lines_below p (s ∷ ss) (c ∷ cs) are below e (inl is) = let k = are.0 in let l = k.line in let b = below.0 in
        let same = ap (λ (z : state.Call). z.line) is in omega (arith, l, b, same)
    lines_below p (s ∷ ss) (c ∷ cs) are below e (inr i) = lines_below p ss cs are.1 below.1 e i

    find : (first v : ℕ) (ss : List (Placed Said)) (cs : List state.Call) → AreCallsOf t.act t.code ss cs → Fall ss →
        Newest first IsOne v cs → ((e : state.Call) → machine.In e cs → e.write ≡ true → IsOne e.act → ⊥) ⊎ IsFound v ss cs
    find first v [] [] are falls (none is) = inl (λ e i. absurd i)
    find first v [] (c ∷ cs) are falls n = absurd are
    find first v (s ∷ ss) [] are falls n = absurd are
    find first v (s ∷ ss) (c ∷ cs) are falls (newest d write one gives) = inr (record {
      item = s;
      call = c;
      pair = inl (refl, refl);
      write = write;
      one = one;
      gives = gives;
      last = λ e i w o. ⊎_elim (λ (is : e ≡ c). (let same = ap (λ (z : state.Call). z.line) is in omega (arith, same)))
          (λ j. (let k = are.0 in let l = k.line in let b = lines_below s.at ss cs are.1 falls.0 e j in omega (arith, l, b))) i;
    })
    find first v (s ∷ ss) (c ∷ cs) are falls (older d not_it rest) = ⊎_elim
        (λ absent. inl (λ e i w o. ⊎_elim (λ (is : e ≡ c). not_it (subst (λ (z : state.Call). z.write ≡ true) is w)
        (subst (λ (z : state.Call). IsOne z.act) is o)) (λ j. absent e j w o) i))
        (λ f. inr (record {
          item = f.item;
          call = f.call;
          pair = inr f.pair;
          write = f.write;
          one = f.one;
          gives = f.gives;
          last = λ e i w o. ⊎_elim (λ (is : e ≡ c). absurd (not_it (subst (λ (z : state.Call). z.write ≡ true) is w)
              (subst (λ (z : state.Call). IsOne z.act) is o))) (λ j. f.last e j w o) i;
        }))
        (find first v ss cs are.1 falls.1 rest)

  -- ---- a committed top

  module _ (u : Top) (listed : In u (tops lines)) where
    item : IsTopOf lines u
    item = top_item lines right u listed

    abbrev m : machine.Act
    m = t.act (let a = item.act in a.uid)

    -- a call of it that wasn't undone survives
    alive_survives : (s : Placed Said) (c : state.Call) (k : IsMade values lines right x S its s c) → top c.act ≡ m → Alive S c.act →
        Survives S c.act
    alive_survives s c k of_it alive w on_act action =
        let p = t.places in
        let a = k.maker in
        let f = p.filled a w (in_to a (acts lines) k.there) (ap (λ z. on z w) (sym k.caller) ∙ on_act) action in
        let b = in_from f.0 (acts lines) f.1 in
        let plain = plain_is values lines right x S its f.0 b (ap is_action (sym f.2) ∙ action) in
        let on_maker : on (t.act a.uid) (t.act f.0.uid) ≡ true = ap (λ z. on z (t.act f.0.uid)) (sym k.caller) ∙ ap (on c.act) (sym f.2)
        ∙ on_act in
        let j = from_on values lines right x S its a f.0 k.there b on_maker in
        ap (λ z. (S.action z).stage) f.2 ∙ by f.0 b plain (ap (on c.act) (sym f.2) ∙ on_act)
        (subst (λ z. (S.action z).stage ≤ 3) f.2 (alive w on_act)) (uid_cases f.0.uid (let z = item.act in z.uid))
      where
        three : (n : ℕ) → 3 ≤ n → n ≤ 3 → n ≡ 3
        three n low high = omega (arith, low, high)

        by : (b : Act) → In b (acts lines) → is_serial b.kind ≡ false → on c.act (t.act b.uid) ≡ true → (S.action (t.act b.uid)).stage ≤ 3
            → (b.uid ≡ (let z = item.act in z.uid)) ⊎ (b.uid ≢ (let z = item.act in z.uid)) → (S.action (t.act b.uid)).stage ≡ 3
        by b i plain on_b low (inl same) = ap (λ v. (S.action (t.act v)).stage) same ∙ stage_of_top values lines right x S its u item
        by b i plain on_b low (inr other) =
            let same_top : top (t.act b.uid) ≡ m = sym (one_top c.act (t.act b.uid) (acts_are values lines right x S its b i plain) on_b)
            ∙ of_it in
            let on_m : on (t.act b.uid) m ≡ true = subst (λ z. on (t.act b.uid) z ≡ true) same_top (on_top (t.act b.uid)) in
            let j = from_on values lines right x S its b item.act i item.there on_m in
            let over = below_is_over lines right item.act b (in_to item.act (acts lines) item.there) (in_to b (acts lines) i)
            (end_of (called lines) (let z = item.act in z.id) u.at item.call) (on_uid (path_of lines b) item.act j) other in
            let e = t.tied in
            let ends = e.ends b (in_to b (acts lines) i) plain in
            three (S.action (t.act b.uid)).stage (ends.over over) low

    uid_is_its : uid_of_id (acts lines) u.id ≡ (let a = item.act in a.uid)
    uid_is_its = ap (uid_of_id (acts lines)) (sym item.number)
        ∙ number_uid item.act (acts lines) (λ y k f. same_number lines right y item.act k item.there f) item.there

    -- nothing of it stands
    nothing : VotedSo values lines x S t (let a = item.act in a.uid) None → WroteSo values lines x u None
    nothing voted e there same = by (writes_on x e) refl
      where
        by : (b : Bool) → writes_on x e ≡ b → b ≡ false
        by false is = refl
        by true is =
            let object = eqb-true e.x x (and_parts (e.x == x) (writes e.op) is).0 in
            let s = shown values lines right x S its e (in_from e (committed_calls lines) there) object in
            let i = s.top_of_it in
            let one : i.act ≡ item.act = same_number lines right i.act item.act i.there item.there
            (i.number ∙ sym s.top_number ∙ same ∙ sym item.number) in
            absurd (voted s.call s.there (s.write ∙ (and_parts (e.x == x) (writes e.op) is).1)
            (its_top values lines right x S its e s ∙ ap (λ (z : Act). t.act z.uid) one) (alive_of s.call.act s.survives))

    -- the value of its vote
    something : (w : Packed) → VotedSo values lines x S t (let a = item.act in a.uid) (Some w) → WroteSo values lines x u (Some w)
    something w (v, b, vote, content, writer, c, there, write, of_it, alive) =
        ⊎_elim (λ absent. absurd (absent c there write (of_it, alive))) (λ f. of_found f)
        (find m S.initial (S.vote m).value (said_on x lines) S.calls (let l = t.tied in l.calls) (said_falls x lines) newest_is)
      where
        stage : (S.action m).stage ≡ 3
        stage = stage_of_top values lines right x S its u item

        newest_is : Newest S.initial (λ a. (top a ≡ m) × Alive S a) (S.vote m).value S.calls
        newest_is = right_votes.value m c (is_top_in values lines right x S its item.act item.there item.kind) (omega (arith, stage))
            (omega (arith, stage)) there write of_it alive

        of_found : IsFound m (S.vote m).value (said_on x lines) S.calls → WroteSo values lines x u (Some w)
        of_found f =
            let l = t.tied in
            let p = paired_in values lines right x S its (said_on x lines) S.calls l.calls f.item f.call f.pair in
            let o = on_object x lines f.item p.0 in
            let k = made values lines right x S its f.item f.call o.0 p.1 p.2 in
            let survives = alive_survives f.item f.call k f.one.0 f.one.1 in
            let kept_it = survives_kept values lines right x S its f.item f.call k survives in
            let same_act : k.top ≡ item.act = one_act (acts lines) sound.distinct k.top item.act k.top_there item.there (let q = t.places in
            q.one k.top item.act (in_to k.top (acts lines) k.top_there) (in_to item.act (acts lines) item.there)
            (sym (top_of_call f.item f.call k) ∙ f.one.0)) in
            let met = met_call values lines right x S its f.item f.call f.pair survives in
            let it = met.is in
            let made_call : In (call_of f.item k.top) (committed_calls lines) = made_of (kept (committed lines) (recovered lines)) f.item
            (call_of f.item k.top) (said lines) o.0 kept_it in
            let value : v ≡ value_after f.item.it.op it.value =
            (t.apart v (value_after f.item.it.op it.value) b (top f.call.act) (sym vote ∙ sym f.gives ∙ it.gives)).0 in
            let left : left_by values lines (call_of f.item k.top) ≡ value_after f.item.it.op it.value =
            ap (value_after f.item.it.op) (ap (λ y. run values (filter (λ (z : Call). nat_lt z.at f.item.at && writes_on y z)
            (committed_calls lines)) y) o.1 ∙ before_is values lines x f.item.at ∙ met.met) in (
              call_of f.item k.top,
              record {
                there = in_to (call_of f.item k.top) (committed_calls lines) made_call;
                whose = ap (λ (z : Act). z.id) same_act ∙ item.number;
                write = both (f.item.it.x == x) (writes f.item.it.op) (eq-eqb f.item.it.x x o.1) (sym it.write ∙ f.write);
                last = λ e e_there e_top e_write. last_is f k e e_there e_top e_write it.line;
              },
              writer ∙ ap (λ (z : Act). uid_number z.uid) (sym same_act),
              content ∙ ap (content_of Two) (value ∙ sym left),
            )
          where
            both : (p q : Bool) → p ≡ true → q ≡ true → (p && q) ≡ true
            both p q g h = (λ i. g i && h i)

            top_of_call : (s : Placed Said) (c : state.Call) (k : IsMade values lines right x S its s c) →
                top c.act ≡ t.act (let z = k.top in z.uid)
            top_of_call s c k =
                let kind : is_top (let z = k.top in z.kind) ≡ true = let h = shape_of lines right k.maker in h.tops k.top k.top_is in
                top_of c.act (t.act (let z = k.top in z.uid)) (is_top_in values lines right x S its k.top k.top_there kind)
                (ap (λ a. on a (t.act (let z = k.top in z.uid))) k.caller
                ∙ on_it values lines right x S its k.maker k.top k.there (top_on (path_of lines k.maker) k.top k.top_is))

            last_is :
                (f : IsFound m (S.vote m).value (said_on x lines) S.calls) (k : IsMade values lines right x S its f.item f.call) (e : Call)
                → Contains (committed_calls lines) e → e.top ≡ u.id → writes_on x e ≡ true → f.call.line ≡ f.item.at + 1 → e.at ≤ f.item.at
            last_is f k e e_there e_top e_write line =
                let object = eqb-true e.x x (and_parts (e.x == x) (writes e.op) e_write).0 in
                let s = shown values lines right x S its e (in_from e (committed_calls lines) e_there) object in
                let i = s.top_of_it in
                let one : i.act ≡ item.act = same_number lines right i.act item.act i.there item.there
                (i.number ∙ sym s.top_number ∙ e_top ∙ sym item.number) in
                let l = f.last s.call s.there (s.write ∙ (and_parts (e.x == x) (writes e.op) e_write).1)
                (its_top values lines right x S its e s ∙ ap (λ (z : Act). t.act z.uid) one, alive_of s.call.act s.survives) in
                let own = s.line in
                omega (arith, l, own, line)

  pub votes_give : (u : Top) → In u (tops lines) → (o : Option Packed) → VotedSo values lines x S t (uid_of_id (acts lines) u.id) o →
      WroteSo values lines x u o
  votes_give u i None voted = nothing u i (subst (λ v. VotedSo values lines x S t v None) (uid_is_its u i) voted)
  votes_give u i (Some w) voted = something u i w (subst (λ v. VotedSo values lines x S t v (Some w)) (uid_is_its u i) voted)
