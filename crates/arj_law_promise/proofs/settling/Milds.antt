-- One node's step: what has to be shown of it so that what holds of outcomes goes on.
use Rattle.arj_law_parts.proofs.Words
use Words.{◌≡◌, ◌≢◌, ◌⊎◌, ◌∙◌, ◌==◌, ℕ, Bool, true, false, cond, List, Option, Some, refl, sym, ap, subst, inl, inr, ⊎_elim, eqb-true}
use Words.{is_on, Asked, Body, Head, ObjectState, Uid, asks, Reply, actor, answers, last_end, Confirming, Machine, Plan, Preparing, Voting}
use Words.{Coord, doing_of, Disk, is_prepared, Parts, at_uid, has, Node, Post, Seen}
use Words.ask
use Words.ending
use Words.message
use Words.prepared
use Rattle.arj_law_promise.proofs.Terms
use Terms.{IsCommitting, told_by, In, at, is_awaited_by, same_number, book, is_decided, Later, book_more, later_from, new_book, some_is}
use Rattle.arj_law_promise.proofs.settling
use settling.{Causes.HasCause, Causes.cause_more, Trails.Went}
use settling.Cores.{AreCaused, HasMarks, IsAcked, IsAsked, IsCore, IsDone, IsHeld, IsSafe, IsWatched, Lists, Onward, Recorded, TellsAbort}
use settling.Cores.{WasTold, core_on, marks_on}
use settling.Yeses.{AskedFrom, SaidYes, Votes, WasHeard}

-- ---- more that was sent

heard_on : (sent more : List Post) → ((p : Post) → In p sent → In p more) → (u : Uid) (p : Plan) (n : ℕ) → WasHeard sent u p n →
    WasHeard more u p n
heard_on sent more on u p n (inl (has_it, (q, i, from, a, is, act))) = inl (has_it, (q, on q i, from, a, is, act))
heard_on sent more on u p n (inr marked) = inr marked

-- a Prepare more is one for which the commit waits
pub votes_sent : (k : ℕ) (sent more : List Post) → ((p : Post) → In p sent → In p more) → (u : Uid) (m : Machine) →
    ((n : ℕ) → AskedFrom k more u n → AskedFrom k sent u n ⊎ ((p : Plan) × (left : List ℕ) × (m ≡ Preparing p left) × (has left n ≡ true)))
    → Votes k sent u m → Votes k more u m
votes_sent k sent more on u (Voting p left) new v =
    (v.0, λ n asked. ⊎_elim (λ old. v.1 n old) (λ now. cc (let z = now in z.2)) (new n asked))
votes_sent k sent more on u (Preparing p left) new v = (
  v.0,
  v.1,
  λ n asked. ⊎_elim (λ old. ⊎_elim (λ waits. inl waits) (λ heard. inr (heard_on sent more on u p n heard)) (v.2 n old))
      (λ now. inl (let q = now in ap (λ ns. has ns n) (left_is q.2) ∙ q.3)) (new n asked),
)
  where
    left_is : {q : Plan} {ns : List ℕ} → Preparing p left ≡ Preparing q ns → left ≡ ns
    left_is is = cc is
votes_sent k sent more on u (Confirming p) new v =
    λ n asked. ⊎_elim (λ old. heard_on sent more on u p n (v n old)) (λ now. absurd (cc (let z = now in z.2))) (new n asked)

-- ---- one node apart from the others

abbrev pub the_node : ℕ → Disk → Option Parts → Node
the_node k d live = record { number = k; disk = d; live = live }

pub here_is : (k : ℕ) (d : Disk) (live : Option Parts) (M : Seen) → (let S = at k d live M in S.nodes k) ≡ Some (the_node k d live)
here_is k d live M = λ i. cond (same_number k i) (Some (the_node k d live)) (M.nodes k)

module _ (k : ℕ) (d : Disk) (live : Option Parts) (M : Seen) where
  abbrev Start : Seen
  Start = at k d live M

  other_is : (j : ℕ) → (j == k) ≡ false → Start.nodes j ≡ M.nodes j
  other_is j other = λ i. cond (other i) (Some (the_node k d live)) (M.nodes j)

  module _ (Says : _) (Sends : Post → Type 0) (D : Disk → Option Parts → Type 0) (Z : Seen) (w : Went k M Says Sends D Z) where
    -- the node is another one, or this
    pub now_cases : (j : ℕ) (a : Node) → Z.nodes j ≡ Some a →
        ((j ≡ k) × (a ≡ the_node k w.disk w.live)) ⊎ ((j ≢ k) × (Start.nodes j ≡ Some a))
    now_cases j a is = by (j == k) refl
      where
        by : (b : Bool) → (j == k) ≡ b → ((j ≡ k) × (a ≡ the_node k w.disk w.live)) ⊎ ((j ≢ k) × (Start.nodes j ≡ Some a))
        by true same = let e = eqb-true j k same in inl (e, some_is (sym is ∙ ap Z.nodes e ∙ w.here))
        by false other = inr ((λ e. cc (sym (ap (λ z. z == k) e ∙ same_number k) ∙ other)), other_is j other ∙ sym (w.others j other) ∙ is)

    pub was_cases : (j : ℕ) (a : Node) → Start.nodes j ≡ Some a → ((j ≡ k) × (a ≡ the_node k d live)) ⊎ ((j ≢ k) × (Z.nodes j ≡ Some a))
    was_cases j a is = by (j == k) refl
      where
        by : (b : Bool) → (j == k) ≡ b → ((j ≡ k) × (a ≡ the_node k d live)) ⊎ ((j ≢ k) × (Z.nodes j ≡ Some a))
        by true same = let e = eqb-true j k same in inl (e, some_is (sym is ∙ ap Start.nodes e ∙ here_is k d live M))
        by false other = inr ((λ e. cc (sym (ap (λ z. z == k) e ∙ same_number k) ∙ other)), w.others j other ∙ sym (other_is j other) ∙ is)

    pub later : Later (book M.lines) (book Z.lines)
    later = subst (λ ls. Later (book M.lines) (book ls)) (sym w.lines)
        (subst (Later (book M.lines)) (sym (book_more new_book M.lines w.more)) (later_from (book M.lines) w.more))

    cause_on : (n : ℕ) (u : Uid) → HasCause M.lines n u → HasCause Z.lines n u
    cause_on n u c = subst (λ ls. HasCause ls n u) (sym w.lines) (cause_more M.lines w.more n u c)

    -- where records stay
    module _ (same : (let c = w.disk in c.intents) ≡ d.intents) where
      pub recorded_back : (u : Uid) → Recorded Z u → Recorded Start u
      recorded_back u (a, i, is, found) = ⊎_elim
          (λ here. (
            the_node k d live,
            i,
            ap Start.nodes here.0 ∙ here_is k d live M,
            ap (at_uid u) (sym same ∙ ap (λ (z : Node). let c = z.disk in c.intents) (sym here.1)) ∙ found,
          ))
          (λ there. (a, i, there.1, found)) (now_cases u.node a is)

      pub lists_back : (u : Uid) (n : ℕ) → Lists Z u n → Lists Start u n
      lists_back u n (a, i, is, found, on) = let r = recorded_back u (a, i, is, found) in ⊎_elim
          (λ here. (
            the_node k d live,
            i,
            ap Start.nodes here.0 ∙ here_is k d live M,
            ap (at_uid u) (sym same ∙ ap (λ (z : Node). let c = z.disk in c.intents) (sym here.1)) ∙ found,
            on,
          ))
          (λ there. (a, i, there.1, found, on)) (now_cases u.node a is)

      pub lists_on : (u : Uid) (n : ℕ) → Lists Start u n → Lists Z u n
      lists_on u n (a, i, is, found, on) = ⊎_elim
          (λ here. (
            the_node k w.disk w.live,
            i,
            ap Z.nodes here.0 ∙ w.here,
            ap (at_uid u) (same ∙ ap (λ (z : Node). let c = z.disk in c.intents) (sym here.1)) ∙ found,
            on,
          ))
          (λ there. (a, i, there.1, found, on)) (was_cases u.node a is)

    -- what a coordinator is watched for that hasn't moved
    pub still_watched : (j : ℕ) (a b : Node) (t v : Parts) → v.coord ≡ t.coord → ((u : Uid) → at_uid u (let e = b.disk in e.intents)
        ≡ at_uid u (let e = a.disk in e.intents)) → ((u : Uid) (n : ℕ) → u.node ≡ j → IsCommitting u t.coord → IsHeld Start n u →
        IsHeld Z n u) → ((u : Uid) (n : ℕ) → SaidYes Z.sent n u → SaidYes M.sent n u ⊎ IsHeld Z n u) →
        ((u : Uid) (n : ℕ) → AskedFrom j Z.sent u n → AskedFrom j M.sent u n) → IsWatched Start j a t → IsWatched Z j b v
    still_watched j a b t v coord intents held yeses asked s = record {
      marked = λ u q m found now. subst (λ ls. HasMarks ls u m) (sym w.lines)
          (marks_on M.lines w.more u m (s.marked u q m (ap (doing_of u) (sym coord) ∙ found) now));
      held = λ u n home at said. let before = subst (IsCommitting u) coord at in
          ⊎_elim (λ old. held u n home before (s.held u n home before old)) (λ new. new) (yeses u n said);
      votes = λ u q m found now.
          votes_sent j M.sent Z.sent w.on u m (λ n them. inl (asked u n them)) (s.votes u q m (ap (doing_of u) (sym coord) ∙ found) now);
      telling = λ u i n at on. ⊎_elim (λ waits. inl (ap (λ (c : Coord). is_awaited_by n (at_uid u c.telling)) coord ∙ waits))
          (λ acked. inr (acked_on acked)) (s.telling u i n (sym (intents u) ∙ at) on);
    }
      where
        acked_on : {n : ℕ} {u : Uid} → IsAcked M.sent n u → IsAcked Z.sent n u
        acked_on (p, i, from, is) = (p, w.on p i, from, is)

-- ---- such a step

-- What is prepared no more: its end has a cause, and it isn't at its commit.
pub record IsGone (k : ℕ) (S Z : Seen) (u : Uid) : Type 0 where
  pub caused : IsDone S u → IsAsked S u k → HasCause Z.lines k u
  pub past : (j : ℕ) (a : Node) (t : Parts) → S.nodes j ≡ Some a → a.live ≡ Some t → u.node ≡ j → IsCommitting u t.coord → ⊥

-- what was prepared is so, or is gone
pub held_or_gone : (k : ℕ) (d : Disk) (live : Option Parts) (M : Seen) (Says : Body → Type 0) (Sends : Post → Type 0) (D : Disk →
    Option Parts → Type 0) (Z : Seen) (w : Went k M Says Sends D Z) →
    ((u : Uid) → is_prepared u d.store ≡ true → (is_prepared u (let c = w.disk in c.store) ≡ true) ⊎ IsGone k (at k d live M) Z u) →
    (n : ℕ) (u : Uid) → IsHeld (at k d live M) n u → IsHeld Z n u ⊎ ((n ≡ k) × IsGone k (at k d live M) Z u)
held_or_gone k d live M Says Sends D Z w keeps n u (a, is, on) = ⊎_elim
    (λ here. ⊎_elim (λ stays. inl (the_node k w.disk w.live, ap Z.nodes here.0 ∙ w.here, stays)) (λ gone. inr (here.0, gone))
    (keeps u (ap (λ (z : Node). let c = z.disk in is_prepared u c.store) (sym here.1) ∙ on)))
    (λ there. inl (a, there.1, on)) (was_cases k d live M Says Sends D Z w n a is)

-- where nothing goes
pub held_stays : (k : ℕ) (d : Disk) (live : Option Parts) (M : Seen) (Says : Body → Type 0) (Sends : Post → Type 0) (D : Disk →
    Option Parts → Type 0) (Z : Seen) (w : Went k M Says Sends D Z) → ((u : Uid) → is_prepared u d.store ≡ true →
    is_prepared u (let c = w.disk in c.store) ≡ true) → (n : ℕ) (u : Uid) → IsHeld (at k d live M) n u → IsHeld Z n u
held_stays k d live M Says Sends D Z w keeps n u (a, is, on) = ⊎_elim
    (λ here. (
      the_node k w.disk w.live,
      ap Z.nodes here.0 ∙ w.here,
      keeps u (ap (λ (z : Node). let c = z.disk in is_prepared u c.store) (sym here.1) ∙ on),
    ))
    (λ there. (a, there.1, on)) (was_cases k d live M Says Sends D Z w n a is)

-- What has to be shown of it: who is decided, what is on the disk, what was sent, and what the node's coordinator is watched for.
pub record IsMild (k : ℕ) (d : Disk) (live : Option Parts) (M : Seen) (U : Uid → Type 0) (Says : Body → Type 0) (Sends : Post →
    Type 0) (D : Disk → Option Parts → Type 0) (Z : Seen) (w : Went k M Says Sends D Z) : Type 0 where
  pub decides : (u : Uid) → is_decided (book Z.lines) u ≡ true → (is_decided (book M.lines) u ≡ true) ⊎ U u
  pub clean : AreCaused M.lines w.more
  pub recorded : (u : Uid) → Recorded Z u → Recorded (at k d live M) u ⊎ U u
  pub done : (u : Uid) (n : ℕ) → U u → IsAsked (at k d live M) u n → IsDone (at k d live M) u ⊎ (IsSafe Z u n × (IsAcked M.sent n u → ⊥))
  pub lists : (u : Uid) (n : ℕ) → Lists (at k d live M) u n → IsAsked (at k d live M) u n → Lists Z u n ⊎ HasCause Z.lines n u
  pub back : (u : Uid) (n : ℕ) → TellsAbort M.sent u n → IsAsked (at k d live M) u n → Lists Z u n → Lists (at k d live M) u n
  pub keeps : (u : Uid) → is_prepared u d.store ≡ true → (is_prepared u (let c = w.disk in c.store) ≡ true) ⊎ IsGone k (at k d live M) Z u
  pub new : (u : Uid) → is_prepared u (let c = w.disk in c.store) ≡ true → (is_prepared u d.store ≡ true) ⊎ IsAsked (at k d live M) u k
  pub asks : (p : Post) → Sends p → (h : Head) (states : List ObjectState) → asks p.message ≡ Some (h, ask.Prepare states) →
      (IsDone Z (actor h.path) → ⊥) × (is_on (let B = book Z.lines in B.called) (actor h.path) ≡ true)
  pub tells : (p : Post) → Sends p → (u : Uid) → last_end (told_by p.message) ≡ Some (u, ending.Abort) → IsAsked (at k d live M) u p.to →
      Lists Z u p.to → ⊥
  pub yeses : (p : Post) → Sends p → (a : Asked) → answers p.message ≡ Some (a, Reply.Prepared prepared.Yes) →
      IsHeld Z k a.act × IsAsked (at k d live M) a.act k
  pub acks : (p : Post) → Sends p → (u : Uid) → p.message ≡ message.Acked (record { act = u }) →
      (IsDone Z u → IsAsked Z u k → HasCause Z.lines k u) × WasTold Z.sent u
  pub here : (t : Parts) → w.live ≡ Some t → IsWatched Z k (the_node k w.disk w.live) t

module _ (k : ℕ) (d : Disk) (live : Option Parts) (M : Seen) (U : Uid → Type 0) (Says : Body → Type 0) (Sends : Post → Type 0) (D : Disk →
    Option Parts →
    Type 0) (Z : Seen) (w : Went k M Says Sends D Z) (core : IsCore (at k d live M)) (mild : IsMild k d live M U Says Sends D Z w) where
  its_yes : (u : Uid) (n : ℕ) → SaidYes Z.sent n u → SaidYes M.sent n u ⊎ (IsHeld Z n u × IsAsked (at k d live M) u n)
  its_yes u n (p, i, from, a, is, act) = ⊎_elim (λ old. inl (p, old, from, a, is, act))
      (λ new. let y = mild.yeses p new.1 a is in let n_is : k ≡ n = sym new.0 ∙ from in inr (
        subst (λ z. IsHeld Z z u) n_is (subst (IsHeld Z k) act y.0),
        subst (IsAsked (at k d live M) u) n_is (subst (λ v. IsAsked (at k d live M) v k) act y.1),
      )) (w.back p i)

  onward : Onward (at k d live M) Z
  onward = record {
    more = w.more;
    lines = w.lines;
    sent = w.on;
    called = λ u on. let l = later k d live M Says Sends D Z w in l.called u on;
    done = λ u n done asked. was_done u n asked done;
    safe = λ u n done asked safe. is_safe u n done asked safe;
    asked = λ u n asked. was_asked u n asked;
    acked = λ u n acked. was_acked u n acked;
    tells = λ u n tells asked lists. was_told u n tells asked lists;
    held = λ u n held. was_held u n held;
    yeses = λ u n said. ⊎_elim (λ old. inl old) (λ new. inr new.1) (its_yes u n said);
    clean = mild.clean;
    coords = coords;
  }
    where
      was_done : (u : Uid) (n : ℕ) → IsAsked (at k d live M) u n → IsDone Z u →
          IsDone (at k d live M) u ⊎ (IsSafe Z u n × (IsAcked M.sent n u → ⊥))
      was_done u n asked (inr r) = ⊎_elim (λ old. inl (inr old)) (λ new. mild.done u n new asked) (mild.recorded u r)
      was_done u n asked (inl on) = ⊎_elim (λ old. inl (inl old)) (λ new. mild.done u n new asked) (mild.decides u on)

      is_safe : (u : Uid) (n : ℕ) → IsDone (at k d live M) u → IsAsked (at k d live M) u n → IsSafe (at k d live M) u n → IsSafe Z u n
      is_safe u n done asked (inr cause) = inr (cause_on k d live M Says Sends D Z w n u cause)
      is_safe u n done asked (inl both) = ⊎_elim
          (λ held. ⊎_elim (λ listed. inl (held, listed)) (λ cause. inr cause) (mild.lists u n both.1 asked))
          (λ gone. let g = gone.1 in
          inr (subst (λ z. HasCause Z.lines z u) (sym gone.0) (g.caused done (subst (IsAsked (at k d live M) u) gone.0 asked))))
          (held_or_gone k d live M Says Sends D Z w mild.keeps n u both.0)

      was_asked : (u : Uid) (n : ℕ) → IsAsked Z u n →
          IsAsked (at k d live M) u n ⊎ ((IsDone Z u → ⊥) × (is_on (let B = book Z.lines in B.called) u ≡ true))
      was_asked u n (p, i, from, to, h, states, is, act) = ⊎_elim (λ old. inl (p, old, from, to, h, states, is, act)) (λ new. inr (subst
          (λ v. (IsDone Z v → ⊥) × (is_on (let B = book Z.lines in B.called) v ≡ true)) act (mild.asks p new.1 h states is))) (w.back p i)

      was_acked : (u : Uid) (n : ℕ) → IsAcked Z.sent n u →
          IsAcked M.sent n u ⊎ ((IsDone Z u → IsAsked Z u n → HasCause Z.lines n u) × WasTold Z.sent u)
      was_acked u n (p, i, from, is) = ⊎_elim (λ old. inl (p, old, from, is)) (λ new. let n_is : k ≡ n = sym new.0 ∙ from in inr
          (subst (λ z. (IsDone Z u → IsAsked Z u z → HasCause Z.lines z u) × WasTold Z.sent u) n_is (mild.acks p new.1 u is))) (w.back p i)

      was_told : (u : Uid) (n : ℕ) → TellsAbort Z.sent u n → IsAsked (at k d live M) u n → Lists Z u n →
          TellsAbort M.sent u n × Lists (at k d live M) u n
      was_told u n (p, i, to, last) asked lists =
          ⊎_elim (λ old. ((p, old, to, last), mild.back u n (p, old, to, last) asked lists)) (λ new. absurd
          (mild.tells p new.1 u last (subst (IsAsked (at k d live M) u) (sym to) asked) (subst (Lists Z u) (sym to) lists))) (w.back p i)

      was_held : (u : Uid) (n : ℕ) → IsHeld Z n u → IsHeld (at k d live M) n u ⊎ IsAsked (at k d live M) u n
      was_held u n (a, is, on) = ⊎_elim
          (λ here. ⊎_elim
          (λ old. inl (the_node k d live, ap (let S = at k d live M in S.nodes) here.0 ∙ here_is k d live M, old))
          (λ new. inr (subst (IsAsked (at k d live M) u) (sym here.0) new))
          (mild.new u (ap (λ (z : Node). let c = z.disk in is_prepared u c.store) (sym here.1) ∙ on)))
          (λ there. inl (a, there.1, on)) (now_cases k d live M Says Sends D Z w n a is)

      coords : (j : ℕ) (a : Node) (t : Parts) → Z.nodes j ≡ Some a → a.live ≡ Some t → IsWatched Z j a t
      coords j a t is up_it = ⊎_elim
          (λ here. subst (λ z. IsWatched Z z a t) (sym here.0)
          (subst (λ z. IsWatched Z k z t) (sym here.1) (mild.here t (ap (λ (z : Node). z.live) (sym here.1) ∙ up_it))))
          (λ there. still_watched k d live M Says Sends D Z w j a a t t refl (λ u. refl)
          (λ u n home at held. ⊎_elim (λ stays. stays) (λ gone. let g = gone.1 in
          absurd (g.past j a t there.1 up_it home at)) (held_or_gone k d live M Says Sends D Z w mild.keeps n u held))
          (λ u n said. ⊎_elim (λ old. inl old) (λ new. inr new.0) (its_yes u n said))
          (λ u n them. apart j there.0 u n them)
          (core.coords j a t there.1 up_it))
          (now_cases k d live M Says Sends D Z w j a is)
        where
          apart : (i : ℕ) → i ≢ k → (u : Uid) (n : ℕ) → AskedFrom i Z.sent u n → AskedFrom i M.sent u n
          apart i other u n (p, there, from, to, h, states, asking, act) =
              ⊎_elim (λ old. (p, old, from, to, h, states, asking, act)) (λ new. absurd (other (sym from ∙ new.0))) (w.back p there)

  pub mild_core : IsCore Z
  mild_core = core_on (at k d live M) Z core onward
