-- An acknowledgement: once each node of a record has sent one, each store that it lists has committed, and the record goes.
use Rattle.arj_law_parts.proofs.Words
use Words.{◌≡◌, ◌⊎◌, ◌∙◌, ◌&&◌, ◌==◌, ℕ, Bool, true, false, cond, List, [], ◌∷◌, not, Option, Some, None, refl, sym, ap, subst, inl, inr}
use Words.{⊎_elim, eqb-true, AllByRecursion, uid_cases, uid_same, in_from, End, Head, ObjectState, Uid, asks, uid_eq, last_end, Coord}
use Words.{Doing, doing_of, After, Before, Disk, Do, Effect, InPart, Intent, RemoveIntent, Served, Stop, is_prepared, stopped, worked}
use Words.{acked, acked_by, acked_left, let_go, tell_all, tolds_let_go, Parts, at_uid, has, put_uid, without_number, without_uid, Node}
use Words.{branch_of, Post, Seen}
use Words.ask
use Words.ending
use Rattle.arj_law_promise.proofs.Terms
use Terms.{is_over, told_by, AreSorted, Action, AreOfTops, one_action, at_in, put_other, put_same, without_cases, without_other, up, Up}
use Terms.{Walks, halted, is_awaited_by, has_without, IsRecorded, IsRooted, book, is_decided, some_is}
use Rattle.arj_law_parts.proofs.parts.TrueSteps.{top_in}
use Rattle.arj_law_promise.proofs.settling
use settling.{Causes.HasCause, Causes.cause_more, Knowns.Known, Knowns.itself, Parts.part_walk, Settled.root_alone, Settled.sorted_as}
use settling.{Steps.Either, Steps.step_halt, Steps.step_walk, Stills.IsNoAnswer, Stills.IsRight, Trails.FitsSo, Trails.Went}
use settling.{Yeses.AskedFrom, Yeses.SaidYes}
use settling.Cores.{HasMarks, IsAcked, IsAsked, IsCore, IsHeld, IsWatched, Lists, marks_on}
use settling.Lights.{IsNoEnd, all_undeciding, no_drop, quiet_no_end, stop_core, undecided}
use settling.Milds.{IsMild, here_is, held_stays, mild_core, now_cases, the_node, votes_sent, was_cases}

module _ (k : ℕ) (d : Disk) (t : Parts) (M : Seen) (right : IsRight (up k d t M)) (e : ℕ) (from : ℕ) (u : Uid)
    (acks : IsAcked M.sent from u) where
  abbrev Start : Seen
  Start = up k d t M

  here : Start.nodes k ≡ Some (the_node k d (Some t))
  here = here_is k d (Some t) M

  watched : IsWatched Start k (the_node k d (Some t)) t
  watched = let core = right.1 in core.coords k (the_node k d (Some t)) t here refl

  recorded : IsRecorded right.0.0.1.0 (the_node k d (Some t))
  recorded = let z = right.0.0.1 in let y = z.2 in y.0 k (the_node k d (Some t)) here

  sorted : AreSorted d.intents
  sorted = let r = recorded in let c = r.disk in sorted_as d.intents c.sorted

  -- what is sent: an abort only of a root that isn't a top
  abbrev Sends : Post → Type 0
  Sends z = (((h : Head) (states : List ObjectState) → asks z.message ≡ Some (h, ask.Prepare states) → ⊥)
      × ((x : Uid) (n : ℕ) → last_end (told_by z.message) ≡ Some (x, ending.Abort) → IsAsked (up k d t M) x n → ⊥)) × IsNoAnswer z.message

  module _ (c : Disk) (v : Parts) (telling : List (Uid × Intent)) (part : v.coord ≡ record t.coord { telling = telling })
      (store : c.store ≡ d.store)
      (recs : (x : Uid) (j : Intent) → at_uid x c.intents ≡ Some j → at_uid x d.intents ≡ Some j)
      (lists : (x : Uid) (j : Intent) (n : ℕ) → at_uid x d.intents ≡ Some j → has j.nodes n ≡ true →
      (at_uid x c.intents ≡ Some j) ⊎ IsAcked M.sent n x)
      (awaits : (x : Uid) (j : Intent) (n : ℕ) → at_uid x c.intents ≡ Some j → has j.nodes n ≡ true →
      (is_awaited_by n (at_uid x telling) ≡ true) ⊎ IsAcked M.sent n x) where
    abbrev Is : Disk → Type 0
    Is b = b ≡ c

    module _ (Z : Seen) (w : Went k M IsNoEnd Sends (Either Is v) Z) where
      disk_is : w.disk ≡ c
      disk_is = w.fits.0

      same_store : (let b = w.disk in b.store) ≡ d.store
      same_store = ap (λ (b : Disk). b.store) disk_is ∙ store

      record_back : (x : Uid) (a : Node) (j : Intent) → Z.nodes x.node ≡ Some a → at_uid x (let b = a.disk in b.intents) ≡ Some j →
          (a1 : Node) × (Start.nodes x.node ≡ Some a1) × (at_uid x (let b = a1.disk in b.intents) ≡ Some j)
      record_back x a j is at_it = ⊎_elim
          (λ mine. (
            the_node k d (Some t),
            ap Start.nodes mine.0 ∙ here,
            recs x j (ap (λ (b : Disk). at_uid x b.intents) (sym disk_is)
                ∙ ap (λ (z : Node). let b = z.disk in at_uid x b.intents) (sym mine.1) ∙ at_it),
          ))
          (λ other. (a, other.1, at_it))
          (now_cases k d (Some t) M IsNoEnd Sends (Either Is v) Z w x.node a is)

      decides : (x : Uid) → is_decided (book Z.lines) x ≡ true → is_decided (book M.lines) x ≡ true
      decides x on = undecided M.lines w.more (all_undeciding w.more w.said_so) x (subst (λ ls. is_decided (book ls) x ≡ true) w.lines on)

      its_held : (n : ℕ) (x : Uid) → IsHeld Start n x → IsHeld Z n x
      its_held n x h = held_stays k d (Some t) M IsNoEnd Sends (Either Is v) Z w (λ y on. ap (is_prepared y) same_store ∙ on) n x h

      no_yes : (x : Uid) (n : ℕ) → SaidYes Z.sent n x → SaidYes M.sent n x
      no_yes x n (z, is, at_it, a, says_it, act) =
          ⊎_elim (λ old. (z, old, at_it, a, says_it, act)) (λ new. absurd (let s = new.1 in let y = s.1 in y.0 a says_it)) (w.back z is)

      watches : IsWatched Z k (the_node k w.disk w.live) v
      watches = record {
        marked = λ x r m at_it is.
            subst (λ ls. HasMarks ls x m) (sym w.lines) (marks_on M.lines w.more x m (watched.marked x r m (was x r at_it) is));
        held =
            λ x n own at_it said. its_held n x (watched.held x n own (at_it.0, at_it.1, was x at_it.0 at_it.2, at_it.3) (no_yes x n said));
        votes = λ x r m at_it is.
            votes_sent k M.sent Z.sent w.on x m (λ n asked. inl (no_ask x n asked)) (watched.votes x r m (was x r at_it) is);
        telling = λ x j n at_it on. ⊎_elim (λ waits. inl (ap (λ (z : Coord). is_awaited_by n (at_uid x z.telling)) part ∙ waits))
            (λ acked_it. inr (acked_it.0, w.on acked_it.0 acked_it.1, acked_it.2, acked_it.3))
            (awaits x j n (ap (λ (b : Disk). at_uid x b.intents) (sym disk_is) ∙ at_it) on);
      }
        where
          was : (x : Uid) (r : Doing) → doing_of x v.coord ≡ Some r → doing_of x t.coord ≡ Some r
          was x r at_it = ap (doing_of x) (sym part) ∙ at_it

          no_ask : (x : Uid) (n : ℕ) → AskedFrom k Z.sent x n → AskedFrom k M.sent x n
          no_ask x n (z, is, at_it, to, h, states, asking, act) = ⊎_elim (λ old. (z, old, at_it, to, h, states, asking, act))
              (λ new. absurd (let s = new.1 in let y = s.0 in y.0 h states asking)) (w.back z is)

      mild : IsMild k d (Some t) M (λ x. ⊥) IsNoEnd Sends (Either Is v) Z w
      mild = record {
        decides = λ x on. inl (decides x on);
        clean = no_drop M.lines w.more w.said_so;
        recorded = λ x r. let o = record_back x r.0 r.1 r.2 r.3 in inl (o.0, r.1, o.1, o.2);
        done = λ x n none asked. absurd none;
        lists = λ x n l asked. listed x n l asked;
        back = λ x n tells asked l. let o = record_back x l.0 l.1 l.2 l.3 in (o.0, l.1, o.1, o.2, l.4);
        keeps = λ x on. inl (ap (is_prepared x) same_store ∙ on);
        new = λ x on. inl (ap (is_prepared x) (sym same_store) ∙ on);
        asks = λ z so h states is. absurd (let s = so.0 in s.0 h states is);
        tells = λ z so x last asked l. let s = so.0 in s.1 x z.to last asked;
        yeses = λ z so a is. absurd (let y = so.1 in y.0 a is);
        acks = λ z so x is. absurd (let y = so.1 in y.1 x is);
        here = λ x up_it. ⊎_elim (λ none. absurd (let no_way : ◌≡◌ {A = Option Parts} None (Some x) = sym none ∙ up_it in cc no_way))
            (λ its. subst (IsWatched Z k (the_node k w.disk w.live)) (some_is (sym its ∙ up_it)) watches) w.fits.1;
      }
        where
          listed : (x : Uid) (n : ℕ) → Lists Start x n → IsAsked Start x n → Lists Z x n ⊎ HasCause Z.lines n x
          listed x n (a, j, is, at_it, on) asked = ⊎_elim
              (λ mine. ⊎_elim
              (λ stays.
              inl (the_node k w.disk w.live, j, ap Z.nodes mine.0 ∙ w.here, ap (λ (b : Disk). at_uid x b.intents) disk_is ∙ stays, on))
              (λ acked_it. let core = right.1 in inr (subst (λ ls. HasCause ls n x) (sym w.lines)
              (cause_more M.lines w.more n x (core.acked x n acked_it (inr (a, j, is, at_it)) asked))))
              (lists x j n (ap (λ (z : Node). let b = z.disk in at_uid x b.intents) (sym mine.1) ∙ at_it) on))
              (λ other. inl (a, j, other.1, at_it, on))
              (was_cases k d (Some t) M IsNoEnd Sends (Either Is v) Z w x.node a is)

      acked_core : IsCore Z
      acked_core = mild_core k d (Some t) M (λ x. ⊥) IsNoEnd Sends (Either Is v) Z w right.1 mild

    acked_rest : (outs : List Effect) → AllByRecursion (FitsSo k M IsNoEnd Sends quiet_no_end tt Is) outs →
        Walks Known e k outs (Up Known k v) c M → Walks IsRight e k outs (Up IsRight k v) c M
    acked_rest outs fits known =
        step_walk Known IsCore k M IsNoEnd Sends quiet_no_end tt Is v e outs c fits refl (λ Z its w. acked_core Z w) known

    acked_halt : Known (halted e k c M) → IsRight (halted e k c M)
    acked_halt known = step_halt Known IsCore k M IsNoEnd Sends quiet_no_end tt Is v e c refl (λ Z its w. acked_core Z w) known

  -- ---- the cases

  -- who was awaited is so, or is this node
  still_awaited : (i : Intent) → at_uid u t.coord.telling ≡ Some i → (n : ℕ) → is_awaited_by n (at_uid u t.coord.telling) ≡ true →
      (has (without_number from i.nodes) n ≡ true) ⊎ (n ≡ from)
  still_awaited i at_it n waits = by (n == from) refl
    where
      on : has i.nodes n ≡ true
      on = ap (is_awaited_by n) (sym at_it) ∙ waits

      by : (b : Bool) → (n == from) ≡ b → (has (without_number from i.nodes) n ≡ true) ⊎ (n ≡ from)
      by true same = inr (eqb-true n from same)
      by false other = inl (has_without from n i.nodes ∙ (λ z. on z && not (other z)))

  module _ (v : Parts) (i : Intent) (at_it : at_uid u t.coord.telling ≡ Some i) where
    -- more are awaited
    more_left : (n : ℕ) (ns : List ℕ) → without_number from i.nodes ≡ n ∷ ns →
        v.coord ≡ record t.coord { telling = put_uid u (record i { nodes = n ∷ ns }) t.coord.telling } →
        Walks Known e k [] (Up Known k v) d M → Walks IsRight e k [] (Up IsRight k v) d M
    more_left n ns left part known = acked_rest d v (put_uid u (record i { nodes = n ∷ ns }) t.coord.telling) part refl (λ x j z. z)
        (λ x j m z on. inl z) awaits [] tt known
      where
        awaits : (x : Uid) (j : Intent) (m : ℕ) → at_uid x d.intents ≡ Some j → has j.nodes m ≡ true →
            (is_awaited_by m (at_uid x (put_uid u (record i { nodes = n ∷ ns }) t.coord.telling)) ≡ true) ⊎ IsAcked M.sent m x
        awaits x j m z on = ⊎_elim
            (λ waits. ⊎_elim
            (λ one. ⊎_elim
            (λ there. inl (ap (λ y. is_awaited_by m (at_uid y (put_uid u (record i { nodes = n ∷ ns }) t.coord.telling))) one
            ∙ ap (is_awaited_by m) (put_same u (record i { nodes = n ∷ ns }) t.coord.telling) ∙ ap (λ ks. has ks m) (sym left) ∙ there))
            (λ this. inr (subst (λ y. IsAcked M.sent y x) (sym this) (subst (IsAcked M.sent from) (sym one) acks)))
            (still_awaited i at_it m (ap (λ y. is_awaited_by m (at_uid y t.coord.telling)) (sym one) ∙ waits)))
            (λ other. inl (ap (is_awaited_by m) (put_other x u (record i { nodes = n ∷ ns }) t.coord.telling other) ∙ waits))
            (uid_cases x u))
            (λ acked_it. inr acked_it)
            (watched.telling x j m z on)

    -- all have acknowledged
    module _ (left : without_number from i.nodes ≡ []) (part : v.coord ≡ record t.coord { telling = without_uid u t.coord.telling }) where
      abbrev gone : Disk
      gone = worked (RemoveIntent u) d

      pub recs : (x : Uid) (j : Intent) → at_uid x (without_uid u d.intents) ≡ Some j → at_uid x d.intents ≡ Some j
      recs x j z = (without_cases x u j d.intents sorted z).1

      pub lists : (x : Uid) (j : Intent) (n : ℕ) → at_uid x d.intents ≡ Some j → has j.nodes n ≡ true →
          (at_uid x (without_uid u d.intents) ≡ Some j) ⊎ IsAcked M.sent n x
      lists x j n z on = ⊎_elim
          (λ one. ⊎_elim
          (λ waits. ⊎_elim
          (λ there. absurd (let no_way : false ≡ true = ap (λ ks. has ks n) (sym left) ∙ there in cc no_way))
          (λ this. inr (subst (λ y. IsAcked M.sent y x) (sym this) (subst (IsAcked M.sent from) (sym one) acks)))
          (still_awaited i at_it n (ap (λ y. is_awaited_by n (at_uid y t.coord.telling)) (sym one) ∙ waits)))
          (λ acked_it. inr acked_it)
          (watched.telling x j n z on))
          (λ other. inl (without_other x u d.intents other ∙ z))
          (uid_cases x u)

      awaits : (x : Uid) (j : Intent) (n : ℕ) → at_uid x (without_uid u d.intents) ≡ Some j → has j.nodes n ≡ true →
          (is_awaited_by n (at_uid x (without_uid u t.coord.telling)) ≡ true) ⊎ IsAcked M.sent n x
      awaits x j n z on = let c = without_cases x u j d.intents sorted z in ⊎_elim
          (λ waits. inl (ap (is_awaited_by n) (without_other x u t.coord.telling c.0) ∙ waits)) (λ acked_it. inr acked_it)
          (watched.telling x j n c.1 on)

      stops : (how : Stop) → Known (halted e k (stopped how (RemoveIntent u) d) M) → IsRight (halted e k (stopped how (RemoveIntent u) d) M)
      stops Before z = (z, stop_core k d (Some t) M right.1 e)
      stops After z = acked_halt gone v (without_uid u t.coord.telling) part refl recs lists awaits z
      stops (InPart which) z = (z, stop_core k d (Some t) M right.1 e)

      -- its root isn't a top that was asked
      not_asked : (j : Intent) → at_uid u d.intents ≡ Some j → uid_eq j.root u ≡ false → (x : Uid) (n : ℕ) → j.root ≡ x →
          IsAsked Start x n → ⊥
      not_asked j z other x n is asked =
          let r = recorded in
          let disk = r.disk in
          let s : IsRooted right.0.0.1.0 u j = disk.each u j z in
          let tops : AreOfTops right.0.0.1.0 d.intents = (let g = right.0.0.1.1 in let q = g.places k (the_node k d (Some t)) here in
          let c = q.disk in c.tops) in
          let t_top = top_in right.0.0.1.0 u j d.intents tops (at_in u j d.intents z) in
          let same : s.0 ≡ t_top.0 = one_action right.0.0.1.0 (let g = right.0.0.1.1 in
          g.begun) s.0 t_top.0 (in_from s.0 right.0.0.1.0 s.1) (in_from t_top.0 right.0.0.1.0 t_top.1) (s.2 ∙ sym t_top.2) in
          let top = (itself Start right.0 x.node x n asked).0 in
          let one = root_alone right.0.0.1.0 (let g = right.0.0.1.1 in
          g.begun) s.0 s.1 (λ nested. t_top.3 (ap (λ (b : Action). b.kind) (sym same) ∙ nested)) x top (s.3 ∙ is) in
          let no_way : true ≡ false = sym (ap (λ y. uid_eq y u) (is ∙ sym one ∙ s.2) ∙ uid_same u) ∙ other in
          cc no_way

      tolds : AllByRecursion (FitsSo k M IsNoEnd Sends quiet_no_end tt (λ b. b ≡ worked (RemoveIntent u) d))
          (tolds_let_go u (without_uid u d.intents) t.coord (at_uid u d.intents))
      tolds = by (at_uid u d.intents) refl
        where
          each : (j : Intent) → at_uid u d.intents ≡ Some j → uid_eq j.root u ≡ false → (ns : List ℕ) → AllByRecursion (FitsSo k M IsNoEnd
              Sends quiet_no_end tt (λ b. b ≡ worked (RemoveIntent u) d)) (tell_all j.root false ((j.root, ending.Abort) ∷ []) ns)
          each j z other [] = tt
          each j z other (n ∷ ns) = (
            (
              (
                (λ h states y. absurd (cc y)),
                (λ x m last asked. not_asked j z other x m (ap (λ (y : Uid × End). y.0) (some_is last)) asked),
              ),
              ((λ a y. cc y), (λ y x. cc x)),
            ),
            each j z other ns,
          )

          by : (o : Option Intent) → at_uid u d.intents ≡ o → AllByRecursion (FitsSo k M IsNoEnd Sends quiet_no_end tt
              (λ b. b ≡ worked (RemoveIntent u) d)) (tolds_let_go u (without_uid u d.intents) t.coord o)
          by None z = tt
          by (Some j) z = one (uid_eq j.root u) refl (is_over (branch_of j.root t.coord.tree))
            where
              one : (b : Bool) → uid_eq j.root u ≡ b → (y : Bool) →
                  AllByRecursion (FitsSo k M IsNoEnd Sends quiet_no_end tt (λ b2. b2 ≡ worked (RemoveIntent u) d)) (cond (not b && y)
                  (tell_all j.root false ((j.root, ending.Abort) ∷ []) (let_go j.root (without_uid u d.intents) t.coord j.nodes)) [])
              one true same y = tt
              one false other true = each j z other (let_go j.root (without_uid u d.intents) t.coord j.nodes)
              one false other false = tt

      all_left : Walks Known e k (Do (RemoveIntent u) ∷ tolds_let_go u (without_uid u d.intents) t.coord (at_uid u d.intents))
          (Up Known k v) d M → Walks IsRight e k
          (Do (RemoveIntent u) ∷ tolds_let_go u (without_uid u d.intents) t.coord (at_uid u d.intents)) (Up IsRight k v) d M
      all_left z = (
        (λ how. stops how (z.0 how)),
        acked_rest gone v (without_uid u t.coord.telling) part refl recs lists awaits
            (tolds_let_go u (without_uid u d.intents) t.coord (at_uid u d.intents)) tolds z.1,
      )

  pub acked_walk : (v : Parts) (outs : List Effect) → v.coord ≡ (acked from u d.intents t.coord).part →
      outs ≡ (acked from u d.intents t.coord).outs → Walks Known e k outs (Up Known k v) d M → Walks IsRight e k outs (Up IsRight k v) d M
  acked_walk v outs part are known = subst (λ es. Walks IsRight e k es (Up IsRight k v) d M) (sym are)
      (by (at_uid u t.coord.telling) refl part (subst (λ es. Walks Known e k es (Up Known k v) d M) are known))
    where
      nothing : v.coord ≡ t.coord → Walks Known e k [] (Up Known k v) d M → Walks IsRight e k [] (Up IsRight k v) d M
      nothing same z = part_walk k d t M right.1 e v [] same tt z

      by : (o : Option Intent) → at_uid u t.coord.telling ≡ o → v.coord ≡ (acked_by from u d.intents t.coord o).part →
          Walks Known e k (acked_by from u d.intents t.coord o).outs (Up Known k v) d M →
          Walks IsRight e k (acked_by from u d.intents t.coord o).outs (Up IsRight k v) d M
      by None at_it same z = nothing same z
      by (Some i) at_it same z = one (has i.nodes from) same z
        where
          left : (ns : List ℕ) → without_number from i.nodes ≡ ns → v.coord ≡ (acked_left u i d.intents t.coord ns).part →
              Walks Known e k (acked_left u i d.intents t.coord ns).outs (Up Known k v) d M →
              Walks IsRight e k (acked_left u i d.intents t.coord ns).outs (Up IsRight k v) d M
          left [] is same z = all_left v i at_it is same z
          left (n ∷ ns) is same z = more_left v i at_it n ns is same z

          one : (b : Bool) → v.coord ≡ (cond {A = Served Coord (Unit {0})} b (acked_left u i d.intents t.coord (without_number from
              i.nodes)) (record { part = t.coord; outs = []; reply = None })).part → Walks Known e k (cond {A = Served Coord (Unit {0})} b
              (acked_left u i d.intents t.coord (without_number from i.nodes)) (record { part = t.coord; outs = []; reply = None })).outs
              (Up Known k v) d M → Walks IsRight e k (cond {A = Served Coord (Unit {0})} b (acked_left u i d.intents t.coord
              (without_number from i.nodes)) (record { part = t.coord; outs = []; reply = None })).outs (Up IsRight k v) d M
          one true its y = left (without_number from i.nodes) refl its y
          one false its y = nothing its y
