-- What a node's parts do beside the coordinator: what holds of outcomes goes on.
use Rattle.arj_law_parts.proofs.Words
use Words.{◌≡◌, ◌≢◌, ◌⊎◌, ◌∙◌, ◌++◌, ◌||◌, ◌==◌, ℕ, Bool, true, false, cond, List, [], ◌∷◌, Option, Some, None, refl, sym, ap, subst, inl}
use Words.{inr, ⊎_elim, Contains, eqb-true, ⊤, is_some, AllByRecursion, uid_cases, in_to, In as Among, Ask, Asked, Body, End, Head, Line}
use Words.{Message, ObjectState, Uid, asks, Reply, actor, answers, asked_by, last_end, response, Abort, After, Before, Commit, Disk, Do}
use Words.{Effect, InPart, Intent, Look, Prepare, Say, Send, Stop, is_prepared, stopped, worked, answer_decided, answer_query}
use Words.{answer_recorded, is_deferred, is_kept_commit, root_or_self, tell, Parts, ack_told, end_states, store_told, at_uid, has}
use Words.{without_uid, Node, branch_of, is_open, response_reads_back, Post, Seen}
use Words.ask
use Words.body
use Words.ending
use Words.message
use Words.prepared
use Words.role
use Rattle.arj_law_promise.proofs.Terms
use Terms.{IsCommitting, told_by, put_other, put_same, without_other, no_request, EndsArePast, In, at, said, up, Up, Walks, halted, book}
use Terms.{is_decided, new_book, AreRight, some_is}
use Rattle.arj_law_disk_view.specs.running.Places.{AsksBegun}
use Rattle.arj_law_promise.proofs.settling
use settling.{Cases.AllBeside, Cases.response_acks, Cases.response_last, Steps.Either, Steps.step_halt, Steps.step_walk, Stills.IsRight}
use settling.Causes.{HasCause, cause_committed, cause_halted, cause_more}
use settling.Cores.{AreCaused, IsAsked, IsCore, IsDone, IsHeld, Lists, WasTold}
use settling.Knowns.{Known, committing, itself, told_closed}
use settling.Lights.{AllUndeciding, HasThese, IsAside, IsLight, IsNoEnd, IsUndeciding, all_undeciding, aside_these, light_core, no_drop}
use settling.Lights.{quiet_no_end, undecided}
use settling.Milds.{IsGone, here_is, recorded_back, the_node}
use settling.Trails.{FitsSo, Went, halt_went}

last_among : (es : List (Uid × End)) (x : Uid × End) → last_end es ≡ Some x → Among x es
last_among [] x is = absurd (cc is)
last_among (y ∷ []) x is = inl (some_is is)
last_among (y ∷ z ∷ es) x is = inr (last_among (z ∷ es) x is)

pub last_in : (es : List (Uid × End)) (x : Uid × End) → last_end es ≡ Some x → Contains es x
last_in es x is = in_to x es (last_among es x is)

abbrev acked_or : Uid → Message → Uid
acked_or u (message.Acked m) = m.act
acked_or u m = u

nothing_more : {A : Type 0} (xs : List A) → xs ≡ xs ++ []
nothing_more [] = refl
nothing_more (x ∷ xs) = ap (λ ys. x ∷ ys) (nothing_more xs)

-- the only line is a store's abort
one_drop : (first : List Line) (l : Line) (k : ℕ) (u : Uid) → l.body ≡ body.Done k u role.Store ending.Abort →
    (is_decided (book first) u ≡ true → HasCause first k u) → AreCaused first (l ∷ [])
one_drop first l k u own cause [] line behind n w is says decided =
    let one : l ≡ line = cc is in
    let same : body.Done k u role.Store ending.Abort ≡ body.Done n w role.Store ending.Abort = sym own ∙ ap (λ (z : Line). z.body) one
    ∙ says in
    let place : k ≡ n = cc same in
    let act : u ≡ w = cc same in
    subst (λ ls. HasCause ls n w) (nothing_more first) (subst (λ z. HasCause first z w) place (subst (λ z. HasCause first k z) act
    (cause (ap (λ z. is_decided (book first) z) act ∙ subst (λ ls. is_decided (book ls) w ≡ true) (sym (nothing_more first)) decided))))
one_drop first l k u own cause (x ∷ []) line behind n w is says decided = absurd (cc is)
one_drop first l k u own cause (x ∷ y ∷ xs) line behind n w is says decided = absurd (cc is)

-- ---- effects that are beside

-- What is sent prepares nothing, tells no abort to who is listed, says no Yes, and acknowledges only this.
abbrev PartSends : (ℕ → Uid → Type 0) → (Uid → Type 0) → Post → Type 0
PartSends Listed Ack p = (((h : Head) (states : List ObjectState) → asks p.message ≡ Some (h, ask.Prepare states) → ⊥)
    × ((u : Uid) → last_end (told_by p.message) ≡ Some (u, ending.Abort) → Listed p.to u → ⊥)) × (((a : Asked) →
    answers p.message ≡ Some (a, Reply.Prepared prepared.Yes) → ⊥) × ((u : Uid) → p.message ≡ message.Acked (record { act = u }) → Ack u))

abbrev IsPart : (ℕ → Uid → Type 0) → (Uid → Type 0) → ℕ → Effect → Type 0
IsPart Listed Ack k (Say b) = IsNoEnd b
IsPart Listed Ack k (Do w) = IsAside w
IsPart Listed Ack k (Send to m) = PartSends Listed Ack (record { from = k; to = to; message = m })

beside_part : (Listed : ℕ → Uid → Type 0) (Ack : Uid → Type 0) (k : ℕ) (outs : List Effect) → AllBeside outs →
    AllByRecursion (IsPart Listed Ack k) outs
beside_part Listed Ack k [] all = tt
beside_part Listed Ack k (Say b ∷ es) all = (all.0, beside_part Listed Ack k es all.1)
beside_part Listed Ack k (Do w ∷ es) all = (all.0, beside_part Listed Ack k es all.1)
beside_part Listed Ack k (Send to m ∷ es) all = let z = all.0 in let x = z.0 in let y = z.1 in (
  (((λ h states q. x.0 h (ask.Prepare states) q), (λ u last l. x.1 u last)), (y.0, (λ u is. absurd (y.1 u is)))),
  beside_part Listed Ack k es all.1,
)

module _ (k : ℕ) (d : Disk) (t : Parts) (M : Seen) (core : IsCore (up k d t M)) where
  abbrev Listed : ℕ → Uid → Type 0
  Listed n u = Lists (up k d t M) u n

  -- what is acknowledged was told, and has a cause
  abbrev HasAck : Uid → Type 0
  HasAck u = (IsDone (up k d t M) u → IsAsked (up k d t M) u k → HasCause M.lines k u) × WasTold M.sent u

  part_light : (v : Parts) → v.coord ≡ t.coord → (Z : Seen) (w : Went k M IsNoEnd (PartSends Listed HasAck) (Either (HasThese d) v) Z) →
      IsLight k d (Some t) M IsNoEnd (PartSends Listed HasAck) (Either (HasThese d) v) Z w
  part_light v same Z w = record {
    decides = λ u on. decides u on;
    clean = no_drop M.lines w.more w.said_so;
    intents = w.fits.0.1;
    keeps = λ u on. inl (ap (is_prepared u) w.fits.0.0 ∙ on);
    new = λ u on. inl (ap (is_prepared u) (sym w.fits.0.0) ∙ on);
    asks = λ p so h states is. let z = so.0 in z.0 h states is;
    tells = λ p so u last l. let z = so.0 in z.1 u last l;
    yeses = λ p so a is. absurd (let z = so.1 in z.0 a is);
    acks = λ p so u is. let z = so.1 in let a = z.1 u is in (
      (λ done asked. let c = a.0 (was_done u done) (was_asked u asked) in
          subst (λ ls. HasCause ls k u) (sym w.lines) (cause_more M.lines w.more k u c)),
      (let q = a.1 in (q.0, w.on q.0 q.1, q.2, q.3)),
    );
    coord = λ x is. ⊎_elim (λ none. absurd (let no_way : ◌≡◌ {A = Option Parts} None (Some x) = sym none ∙ is in cc no_way))
        (λ its. (t, refl, ap (λ (z : Parts). z.coord) (sym (some_is (sym its ∙ is))) ∙ same)) w.fits.1;
  }
    where
      decides : (u : Uid) → is_decided (book Z.lines) u ≡ true → is_decided (book M.lines) u ≡ true
      decides u on = undecided M.lines w.more (all_undeciding w.more w.said_so) u (subst (λ ls. is_decided (book ls) u ≡ true) w.lines on)

      was_done : (u : Uid) → IsDone Z u → IsDone (up k d t M) u
      was_done u (inl on) = inl (decides u on)
      was_done u (inr r) = inr (recorded_back k d (Some t) M IsNoEnd (PartSends Listed HasAck) (Either (HasThese d) v) Z w w.fits.0.1 u r)

      was_asked : (u : Uid) → IsAsked Z u k → IsAsked (up k d t M) u k
      was_asked u (p, i, from, to, h, states, is, act) = ⊎_elim (λ old. (p, old, from, to, h, states, is, act))
          (λ new. absurd (let so = new.1 in let z = so.0 in z.0 h states is)) (w.back p i)

  part_fits : (outs : List Effect) → AllByRecursion (IsPart Listed HasAck k) outs →
      AllByRecursion (FitsSo k M IsNoEnd (PartSends Listed HasAck) quiet_no_end tt (HasThese d)) outs
  part_fits [] all = tt
  part_fits (Say b ∷ es) all = (all.0, part_fits es all.1)
  part_fits (Do w ∷ es) all = ((λ c these how. aside_these how w d c all.0 these), part_fits es all.1)
  part_fits (Send to m ∷ es) all = (all.0, part_fits es all.1)

  pub part_walk : (e : ℕ) (v : Parts) (outs : List Effect) → v.coord ≡ t.coord → AllByRecursion (IsPart (λ n u. Lists (up k d t M) u n)
      HasAck k) outs → Walks Known e k outs (Up Known k v) d M → Walks IsRight e k outs (Up IsRight k v) d M
  part_walk e v outs same all known =
      step_walk Known IsCore k M IsNoEnd (PartSends Listed HasAck) quiet_no_end tt (HasThese d) v e outs d (part_fits outs all) (refl, refl)
      (λ Z its w. light_core k d (Some t) M IsNoEnd (PartSends Listed HasAck) (Either (HasThese d) v) Z w core (part_light v same Z w))
      known

-- ---- a message

module _ (k : ℕ) (d : Disk) (t : Parts) (M : Seen) (right : IsRight (up k d t M)) (from : ℕ) (m : Message)
    (there : In (record { from = from; to = k; message = m }) M.sent) (e : ℕ) (v : Parts) (same : v.coord ≡ t.coord) where
  abbrev Before_it : Seen
  Before_it = up k d t M

  here : Before_it.nodes k ≡ Some (the_node k d (Some t))
  here = here_is k d (Some t) M

  its_right : AreRight new_book M.lines
  its_right = let z = right.0.0.0.0 in let y = z.1 in y.right

  pub beside_walk : (outs : List Effect) → AllBeside outs → Walks Known e k outs (Up Known k v) d M →
      Walks IsRight e k outs (Up IsRight k v) d M
  beside_walk outs all known =
      part_walk k d t M right.1 e v outs same (beside_part (λ n u. Lists (up k d t M) u n) (HasAck k d t M right.1) k outs all) known

  -- ---- a question

  abbrev Fits : List Effect → Type 0
  Fits es = AllByRecursion (IsPart (λ n w. Lists (up k d t M) w n) (HasAck k d t M right.1) k) es

  pub asks_walk : (u : Uid) → m ≡ message.Query (record { act = u }) → (outs : List Effect) → outs ≡ answer_query from u d.intents t.coord →
      Walks Known e k outs (Up Known k v) d M → Walks IsRight e k outs (Up IsRight k v) d M
  asks_walk u is outs are known = part_walk k d t M right.1 e v outs same (subst (AllByRecursion (IsPart (λ n w. Lists (up k d t M) w n)
      (HasAck k d t M right.1) k)) (sym are) (query (is_open u t.coord.tree || is_deferred u d.intents from))) known
    where
      home : k ≡ u.node
      home = let all = (let z = past.2 in z) in let s = all.posts (record { from = from; to = k; message = m }) there in home_of m is s.asks
        where
          past : EndsArePast (up k d t M)
          past = right.0.0.0.1

          home_of : (z : Message) → z ≡ message.Query (record { act = u }) → AsksBegun past.0 k z → k ≡ u.node
          home_of z eq a = (subst (AsksBegun past.0 k) eq a).0

      listed : (w : Uid) → u ≡ w → Lists Before_it w from → (i : Intent) × (at_uid u d.intents ≡ Some i) × (has i.nodes from ≡ true)
      listed w one (a, i, at_it, found, on) =
          let a_is : a ≡ the_node k d (Some t) = some_is
          (sym at_it ∙ ap Before_it.nodes (ap (λ (z : Uid). z.node) (sym one) ∙ sym home) ∙ here) in
          (i, ap (λ z. at_uid z d.intents) one ∙ subst (λ (z : Node). at_uid w (let c = z.disk in c.intents) ≡ Some i) a_is found, on)

      tells : (root : Uid) → ((i : Intent) → at_uid u d.intents ≡ Some i → has i.nodes from ≡ true → ⊥) →
          Fits (Send from (message.Told (record { root = root; ack = false; ends = (u, ending.Abort) ∷ [] })) ∷ [])
      tells root none = (
        (
          (
            (λ h states q. absurd (cc q)),
            (λ w last l. let z = listed w (ap (λ (x : Uid × End). x.0) (some_is last)) l in none z.0 z.1 z.2),
          ),
          ((λ a q. absurd (cc q)), (λ w q. absurd (cc q))),
        ),
        tt,
      )

      commits : (root : Uid) (ack : Bool) →
          Fits (Send from (message.Told (record { root = root; ack = ack; ends = (u, ending.Commit) ∷ [] })) ∷ [])
      commits root ack = (
        (
          (
            (λ h states q. absurd (cc q)),
            (λ w last l. absurd (let z : ending.Commit ≡ ending.Abort = ap (λ (x : Uid × End). x.1) (some_is last) in cc z)),
          ),
          ((λ a q. absurd (cc q)), (λ w q. absurd (cc q))),
        ),
        tt,
      )

      decided : ((i : Intent) → at_uid u d.intents ≡ Some i → has i.nodes from ≡ true → ⊥) → Fits (answer_decided from u t.coord)
      decided none = by (is_kept_commit from u t.coord)
        where
          by : (b : Bool) → Fits (cond b (tell (root_or_self u (branch_of u t.coord.tree)) false ((u, ending.Commit) ∷ []) from ∷ [])
              (tell (root_or_self u (branch_of u t.coord.tree)) false ((u, ending.Abort) ∷ []) from ∷ []))
          by true = commits (root_or_self u (branch_of u t.coord.tree)) false
          by false = tells (root_or_self u (branch_of u t.coord.tree)) none

      recorded : (o : Option Intent) → at_uid u d.intents ≡ o → Fits (answer_recorded from u t.coord o)
      recorded None none = decided (λ i found on. let no_way : ◌≡◌ {A = Option Intent} None (Some i) = sym none ∙ found in cc no_way)
      recorded (Some i) found = by (has i.nodes from) refl
        where
          by : (b : Bool) → has i.nodes from ≡ b →
              Fits (cond b (tell i.root true ((u, ending.Commit) ∷ []) from ∷ []) (answer_decided from u t.coord))
          by true on = commits i.root true
          by false off = decided (λ j found2 on. let one : j ≡ i = some_is (sym found2 ∙ found) in
              let no_way : true ≡ false = sym on ∙ ap (λ (z : Intent). has z.nodes from) one ∙ off in cc no_way)

      query : (b : Bool) → Fits (cond b [] (answer_recorded from u t.coord (at_uid u d.intents)))
      query true = tt
      query false = recorded (at_uid u d.intents) refl

  -- ---- a prepare

  module _ (h : Head) (states : List ObjectState) (asking : asks m ≡ Some (h, ask.Prepare states)) where
    was_asked : IsAsked (up k d t M) (actor h.path) k
    was_asked = let p : Post = record { from = from; to = k; message = m } in let its = itself Before_it right.0 from (actor h.path) k
        (p, there, refl, refl, h, states, asking, refl) in (p, there, sym its.1, refl, h, states, asking, refl)

    -- only this Yes
    abbrev SaysYes : Post → Type 0
    SaysYes p = p.message ≡ response (asked_by h) (Reply.Prepared prepared.Yes)

    module _ (c : Disk) (keeps : (u : Uid) → is_prepared u d.store ≡ true → is_prepared u c.store ≡ true) (new : (u : Uid) →
        is_prepared u c.store ≡ true → (is_prepared u d.store ≡ true) ⊎ (u ≡ actor h.path)) (intents : c.intents ≡ d.intents) where
      abbrev It : Disk → Type 0
      It b = b ≡ c

      prepared_light : (Sends : Post → Type 0) → ((p : Post) → Sends p → SaysYes p × (is_prepared (actor h.path) c.store ≡ true)) →
          (Z : Seen) (w : Went k M IsNoEnd Sends (Either It v) Z) → IsLight k d (Some t) M IsNoEnd Sends (Either It v) Z w
      prepared_light Sends so Z w = record {
        decides =
            λ u on. undecided M.lines w.more (all_undeciding w.more w.said_so) u (subst (λ ls. is_decided (book ls) u ≡ true) w.lines on);
        clean = no_drop M.lines w.more w.said_so;
        intents = ap (λ (z : Disk). z.intents) w.fits.0 ∙ intents;
        keeps = λ u on. inl (ap (λ (z : Disk). is_prepared u z.store) w.fits.0 ∙ keeps u on);
        new = λ u on. ⊎_elim (λ old. inl old) (λ one. inr (subst (λ z. IsAsked (up k d t M) z k) (sym one) was_asked))
            (new u (ap (λ (z : Disk). is_prepared u z.store) (sym w.fits.0) ∙ on));
        asks = λ p s g ss is. let no_way : ◌≡◌ {A = Option (Head × Ask)} None (Some (g, ask.Prepare ss)) = sym
            (no_request (asked_by h) (Reply.Prepared prepared.Yes)) ∙ ap asks (sym (so p s).0) ∙ is in cc no_way;
        tells = λ p s u last l.
            response_last (asked_by h) (Reply.Prepared prepared.Yes) u (ap (λ z. last_end (told_by z)) (sym (so p s).0) ∙ last);
        yeses = λ p s a is. yes_said p s a is;
        acks = λ p s u is. absurd (response_acks (asked_by h) (Reply.Prepared prepared.Yes) u (sym (so p s).0 ∙ is));
        coord = λ x is. ⊎_elim (λ none. absurd (let no_way : ◌≡◌ {A = Option Parts} None (Some x) = sym none ∙ is in cc no_way))
            (λ its. (t, refl, ap (λ (z : Parts). z.coord) (sym (some_is (sym its ∙ is))) ∙ same)) w.fits.1;
      }
        where
          yes_said : (p : Post) → Sends p → (a : Asked) → answers p.message ≡ Some (a, Reply.Prepared prepared.Yes) →
              IsHeld Z k a.act × IsAsked (up k d t M) a.act k
          yes_said p s a is =
              let q : Some (asked_by h, Reply.Prepared prepared.Yes) ≡ Some (a, Reply.Prepared prepared.Yes) = sym
              (response_reads_back (asked_by h) (Reply.Prepared prepared.Yes)) ∙ ap answers (sym (so p s).0) ∙ is in
              let one : asked_by h ≡ a = ap (λ (z : Asked × Reply). z.0) (some_is q) in
              let its : actor h.path ≡ a.act = ap (λ (z : Asked). z.act) one in
              subst (λ z. IsHeld Z k z × IsAsked (up k d t M) z k) its (
                (the_node k w.disk w.live, w.here, ap (λ (z : Disk). is_prepared (actor h.path) z.store) w.fits.0 ∙ (so p s).1),
                was_asked,
              )

      -- a stop
      prepared_halt : Known (halted e k c M) → IsRight (halted e k c M)
      prepared_halt known = step_halt Known IsCore k M IsNoEnd (λ p. ⊥) quiet_no_end tt It v e c refl (λ Z its w.
          light_core k d (Some t) M IsNoEnd (λ p. ⊥) (Either It v) Z w right.1 (prepared_light (λ p. ⊥) (λ p none. absurd none) Z w)) known

      -- the answer
      prepared_walk : (outs : List Effect) → AllByRecursion (FitsSo k M IsNoEnd SaysYes quiet_no_end tt It) outs →
          is_prepared (actor h.path) c.store ≡ true → Walks Known e k outs (Up Known k v) c M → Walks IsRight e k outs (Up IsRight k v) c M
      prepared_walk outs fits on known = step_walk Known IsCore k M IsNoEnd SaysYes quiet_no_end tt It v e outs c fits refl (λ Z its w.
          light_core k d (Some t) M IsNoEnd SaysYes (Either It v) Z w right.1 (prepared_light SaysYes (λ p s. (s, on)) Z w)) known

    pub again_walk : is_prepared (actor h.path) d.store ≡ true → (outs : List Effect) → outs ≡ Send from (response (asked_by h)
        (Reply.Prepared prepared.Yes)) ∷ [] → Walks Known e k outs (Up Known k v) d M → Walks IsRight e k outs (Up IsRight k v) d M
    again_walk on outs are known = prepared_walk d (λ u z. z) (λ u z. inl z) refl outs
        (subst (AllByRecursion (FitsSo k M IsNoEnd SaysYes quiet_no_end tt (λ b. b ≡ d))) (sym are) (refl, tt)) on known

    pub prepares_walk : (outs : List Effect) → outs ≡ Do Look ∷ Do (Prepare role.Store (actor h.path) states)
        ∷ Say (body.Prepared k (actor h.path) role.Store) ∷ Send from (response (asked_by h) (Reply.Prepared prepared.Yes)) ∷ [] →
        Walks Known e k outs (Up Known k v) d M → Walks IsRight e k outs (Up IsRight k v) d M
    prepares_walk outs are known = subst (λ es. Walks IsRight e k es (Up IsRight k v) d M) (sym are)
        (by (subst (λ es. Walks Known e k es (Up Known k v) d M) are known))
      where
        old : (c : Disk) → c ≡ d → Known (halted e k c M) → IsRight (halted e k c M)
        old c is z = prepared_halt c (λ u on. ap (λ (b : Disk). is_prepared u b.store) is ∙ on)
            (λ u on. inl (ap (λ (b : Disk). is_prepared u b.store) (sym is) ∙ on)) (ap (λ (b : Disk). b.intents) is) z

        itself_on : is_prepared (actor h.path) (let c = worked (Prepare role.Store (actor h.path) states) d in c.store) ≡ true
        itself_on = ap (λ (o : Option (List ObjectState)). is_some o) (put_same (actor h.path) states (let p = d.store in p.pend))

        keeps : (u : Uid) → is_prepared u d.store ≡ true →
            is_prepared u (let c = worked (Prepare role.Store (actor h.path) states) d in c.store) ≡ true
        keeps u on = ⊎_elim (λ one. ap (λ z. is_prepared z (let c = worked (Prepare role.Store (actor h.path) states) d in c.store)) one
            ∙ itself_on) (λ other. ap (λ (o : Option (List ObjectState)). is_some o)
            (put_other u (actor h.path) states (let p = d.store in p.pend) other) ∙ on) (uid_cases u (actor h.path))

        new : (u : Uid) → is_prepared u (let c = worked (Prepare role.Store (actor h.path) states) d in c.store) ≡ true →
            (is_prepared u d.store ≡ true) ⊎ (u ≡ actor h.path)
        new u on = ⊎_elim (λ one. inr one) (λ other. inl (ap (λ (o : Option (List ObjectState)). is_some o)
            (sym (put_other u (actor h.path) states (let p = d.store in p.pend) other)) ∙ on)) (uid_cases u (actor h.path))

        looks : (how : Stop) → stopped how Look d ≡ d
        looks Before = refl
        looks After = refl
        looks (InPart which) = refl

        stops : (how : Stop) → Known (halted e k (stopped how (Prepare role.Store (actor h.path) states) d) M) →
            IsRight (halted e k (stopped how (Prepare role.Store (actor h.path) states) d) M)
        stops Before z = old d refl z
        stops After z = prepared_halt (worked (Prepare role.Store (actor h.path) states) d) keeps new refl z
        stops (InPart which) z = old d refl z

        by : Walks Known e k (Do Look ∷ Do (Prepare role.Store (actor h.path) states) ∷ Say (body.Prepared k (actor h.path) role.Store)
            ∷ Send from (response (asked_by h) (Reply.Prepared prepared.Yes)) ∷ []) (Up Known k v) d M →
            Walks IsRight e k (Do Look ∷ Do (Prepare role.Store (actor h.path) states) ∷ Say (body.Prepared k (actor h.path) role.Store)
            ∷ Send from (response (asked_by h) (Reply.Prepared prepared.Yes)) ∷ []) (Up IsRight k v) d M
        by z = (
          (λ how. old (stopped how Look d) (looks how) (z.0 how)),
          (let y = z.1 in (
            (λ how. stops how (y.0 how)),
            prepared_walk (worked (Prepare role.Store (actor h.path) states) d) keeps new refl (Say (body.Prepared k (actor h.path)
                role.Store) ∷ Send from (response (asked_by h) (Reply.Prepared prepared.Yes)) ∷ []) (tt, (refl, tt)) itself_on y.1,
          )),
        )

  -- ---- an end

  module _ (u : Uid) (how : End) (last : last_end (told_by m) ≡ Some (u, how)) where
    told : WasTold M.sent u
    told = (record { from = from; to = k; message = m }, there, how, last_in (told_by m) (u, how) last)

    -- it isn't at its commit
    past : (j : ℕ) (a : Node) (x : Parts) → Before_it.nodes j ≡ Some a → a.live ≡ Some x → u.node ≡ j → IsCommitting u x.coord → ⊥
    past j a x is live home at = let b = committing Before_it right.0 j a x is live u at in
        told_closed Before_it right.0 j a x is live u home told b.0 b.1 b.2

    -- who was asked and is prepared no more has a cause, once it's decided
    unheld : is_prepared u d.store ≡ false → IsDone Before_it u → IsAsked Before_it u k → HasCause M.lines k u
    unheld none done asked = let core = right.1 in ⊎_elim
        (λ both. let h = both.0 in absurd (let a_is : h.0 ≡ the_node k d (Some t) = some_is (sym h.1 ∙ here) in
        let no_way : true ≡ false = sym h.2 ∙ ap (λ (z : Node). let c = z.disk in is_prepared u c.store) a_is ∙ none in cc no_way))
        (λ cause. cause) (core.done u k done asked)

    acknowledged : (L : ℕ → Uid → Type 0) (Ack : Uid → Type 0) (ack : Bool) → Ack u → AllByRecursion (IsPart L Ack k) (ack_told from u ack)
    acknowledged L Ack false its = tt
    acknowledged L Ack true its = (
      (((λ h states q. absurd (cc q)), (λ w l. absurd (cc l))), ((λ a q. absurd (cc q)), (λ w q. subst Ack (ap (acked_or u) q) its))),
      tt,
    )

    parts_both : (L : ℕ → Uid → Type 0) (Ack : Uid → Type 0) (xs ys : List Effect) → AllByRecursion (IsPart L Ack k) xs →
        AllByRecursion (IsPart L Ack k) ys → AllByRecursion (IsPart L Ack k) (xs ++ ys)
    parts_both L Ack [] ys a b = b
    parts_both L Ack (x ∷ xs) ys a b = (a.0, parts_both L Ack xs ys a.1 b)

    module _ (held : is_prepared u d.store ≡ true) where
      asked_it : IsAsked (up k d t M) u k
      asked_it = let core = right.1 in core.held u k (the_node k d (Some t), here, held)

      -- what was prepared is so, but for this
      module _ (c : Disk) (pend : (x : Uid) → x ≢ u → is_prepared x c.store ≡ is_prepared x d.store) (intents : c.intents ≡ d.intents) where
        ends_light : (Says : Body → Type 0) (Sends : Post →
            Type 0) (live : Option Parts) (Z : Seen) (w : Went k M Says Sends (λ b x. (b ≡ c) × (x ≡ live)) Z) →
            ((p : Post) → Sends p → ⊥) → AllUndeciding w.more → AreCaused M.lines w.more → (IsDone (up k d t M) u → HasCause Z.lines k u) →
            ((x : Parts) → live ≡ Some x → x.coord ≡ t.coord) → IsLight k d (Some t) M Says Sends (λ b x. (b ≡ c) × (x ≡ live)) Z w
        ends_light Says Sends live Z w none calm clean cause coord = record {
          decides = λ x on. undecided M.lines w.more calm x (subst (λ ls. is_decided (book ls) x ≡ true) w.lines on);
          clean = clean;
          intents = ap (λ (z : Disk). z.intents) w.fits.0 ∙ intents;
          keeps = λ x on.
              ⊎_elim (λ one. inr (subst (IsGone k (up k d t M) Z) (sym one) (record { caused = λ done asked. cause done; past = past })))
              (λ other. inl (ap (λ (z : Disk). is_prepared x z.store) w.fits.0 ∙ pend x other ∙ on)) (uid_cases x u);
          new = λ x on. ⊎_elim (λ one. inl (ap (λ z. is_prepared z d.store) one ∙ held))
              (λ other. inl (sym (pend x other) ∙ ap (λ (z : Disk). is_prepared x z.store) (sym w.fits.0) ∙ on)) (uid_cases x u);
          asks = λ p so h states is. none p so;
          tells = λ p so x l listed. none p so;
          yeses = λ p so a is. absurd (none p so);
          acks = λ p so x is. absurd (none p so);
          coord = λ x is. (t, refl, coord x (sym w.fits.1 ∙ is));
        }

        -- a stop, behind which the node has halted since the commit was called
        ends_halt : Known (halted e k c M) → IsRight (halted e k c M)
        ends_halt known =
            let core = right.1 in
            let w0 = halt_went k M IsNoEnd (λ p. ⊥) quiet_no_end tt (λ b. b ≡ c) e c refl in
            let w : Went k M IsNoEnd (λ p. ⊥) (λ b x. (b ≡ c) × (x ≡ None)) (halted e k c M) = record {
              more = w0.more;
              lines = w0.lines;
              said_so = w0.said_so;
              back = w0.back;
              on = w0.on;
              others = w0.others;
              disk = w0.disk;
              live = w0.live;
              here = w0.here;
              fits = w0.fits;
            } in (
              known,
              light_core k d (Some t) M IsNoEnd (λ p. ⊥) (λ b x. (b ≡ c) × (x ≡ None)) (halted e k c M) w core
                  (ends_light IsNoEnd (λ p. ⊥) None (halted e k c M) w (λ p so. so) (all_undeciding w0.more w0.said_so)
                  (no_drop M.lines w0.more w0.said_so)
                  (λ done. cause_halted M.lines its_right u e k (core.called u k asked_it))
                  (λ x is. absurd (let no_way : ◌≡◌ {A = Option Parts} None (Some x) = is in cc no_way))),
            )

        -- its line
        module _ (b : Body) (calm : IsUndeciding b) (clean : AreCaused M.lines (record { event = e; body = b } ∷ []))
            (cause : IsDone (up k d t M) u → HasCause (M.lines ++ record { event = e; body = b } ∷ []) k u) where
          ended_core : IsCore (up k c t (said e (b ∷ []) M))
          ended_core =
              let w : Went k M (λ x. ⊤) (λ p. ⊥) (λ x y. (x ≡ c) × (y ≡ Some t)) (up k c t (said e (b ∷ []) M)) = record {
                more = record { event = e; body = b } ∷ [];
                lines = refl;
                said_so = (tt, tt);
                back = λ p i. inl i;
                on = λ p i. i;
                others = λ j other. (λ i. cond (other i) (Some (the_node k c (Some t))) (M.nodes j));
                disk = c;
                live = Some t;
                here = here_is k c (Some t) (said e (b ∷ []) M);
                fits = (refl, refl);
              } in
              light_core k d (Some t) M (λ x. ⊤) (λ p. ⊥) (λ x y. (x ≡ c) × (y ≡ Some t)) (up k c t (said e (b ∷ []) M)) w right.1
              (ends_light (λ x. ⊤) (λ p. ⊥) (Some t) (up k c t (said e (b ∷ []) M)) w (λ p so. so) (calm, tt) clean cause
              (λ x is. ap (λ (z : Parts). z.coord) (sym (some_is is))))

          was_done : IsDone (up k c t (said e (b ∷ []) M)) u → IsDone (up k d t M) u
          was_done (inl on) = inl (undecided M.lines (record { event = e; body = b } ∷ []) (calm, tt) u on)
          was_done (inr (a, i, is, at_it)) = by (u.node == k) refl
            where
              by : (z : Bool) → (u.node == k) ≡ z → IsDone (up k d t M) u
              by true one =
                  let home = eqb-true u.node k one in
                  let a_is : a ≡ the_node k c (Some t) = some_is
                  (sym is ∙ ap (let S = up k c t (said e (b ∷ []) M) in S.nodes) home ∙ here_is k c (Some t) (said e (b ∷ []) M)) in
                  inr (
                    the_node k d (Some t),
                    i,
                    ap (let S = up k d t M in S.nodes) home ∙ here_is k d (Some t) M,
                    ap (at_uid u) (sym intents) ∙ subst (λ (z : Node). at_uid u (let q = z.disk in q.intents) ≡ Some i) a_is at_it,
                  )
              by false other = inr (
                a,
                i,
                (λ j. cond (other j) (Some (the_node k d (Some t))) (M.nodes u.node))
                    ∙ sym (λ j. cond (other j) (Some (the_node k c (Some t))) (M.nodes u.node)) ∙ is,
                at_it,
              )

          ends_walk : (rest : List Effect) → AllBeside rest → (ack : Bool) → Walks Known e k (rest ++ ack_told from u ack) (Up Known k v) c
              (said e (b ∷ []) M) → Walks IsRight e k (rest ++ ack_told from u ack) (Up IsRight k v) c (said e (b ∷ []) M)
          ends_walk rest all ack known =
              let S : Seen = said e (b ∷ []) M in
              part_walk k c t S ended_core e v (rest ++ ack_told from u ack) same
              (parts_both (λ n x. Lists (up k c t S) x n) (HasAck k c t S ended_core) rest (ack_told from u ack)
              (beside_part (λ n x. Lists (up k c t S) x n) (HasAck k c t S ended_core) k rest all)
              (acknowledged (λ n x. Lists (up k c t S) x n) (HasAck k c t S ended_core) ack ((λ done asked. cause (was_done done)), told)))
              known

      other_left : (x : Uid) → x ≢ u → is_some (at_uid x (without_uid u (let p = d.store in p.pend))) ≡ is_prepared x d.store
      other_left x other = ap (λ (o : Option (List ObjectState)). is_some o) (without_other x u (let p = d.store in p.pend) other)

      -- an abort of who is decided has a cause
      caused : last_end (told_by m) ≡ Some (u, ending.Abort) → IsDone (up k d t M) u → HasCause M.lines k u
      caused aborts done = let core = right.1 in ⊎_elim
          (λ both. absurd (core.told u k (record { from = from; to = k; message = m }, there, refl, aborts) asked_it both.1))
          (λ cause. cause) (core.done u k done asked_it)

      commit_stops : (stop : Stop) → Known (halted e k (stopped stop (Commit role.Store u) d) M) →
          IsRight (halted e k (stopped stop (Commit role.Store u) d) M)
      commit_stops Before z = ends_halt d (λ x other. refl) refl z
      commit_stops After z = ends_halt (worked (Commit role.Store u) d) other_left refl z
      commit_stops (InPart which) z = ends_halt (stopped (InPart which) (Commit role.Store u) d) (λ x other. refl) refl z

      abort_stops : (stop : Stop) → Known (halted e k (stopped stop (Abort role.Store u) d) M) →
          IsRight (halted e k (stopped stop (Abort role.Store u) d) M)
      abort_stops Before z = ends_halt d (λ x other. refl) refl z
      abort_stops After z = ends_halt (worked (Abort role.Store u) d) other_left refl z
      abort_stops (InPart which) z = ends_halt d (λ x other. refl) refl z

    pub ends_walks : (ack : Bool) (rest : List Effect) → AllBeside rest → (outs : List Effect) → outs ≡ store_told k u how d.store
        ++ (rest ++ ack_told from u ack) → Walks Known e k outs (Up Known k v) d M → Walks IsRight e k outs (Up IsRight k v) d M
    ends_walks ack rest all outs are known = subst (λ es. Walks IsRight e k es (Up IsRight k v) d M) (sym are)
        (by (is_prepared u d.store) refl how refl (subst (λ es. Walks Known e k es (Up Known k v) d M) are known))
      where
        by : (b : Bool) → is_prepared u d.store ≡ b → (f : End) → how ≡ f →
            Walks Known e k (cond b (end_states k u f) [] ++ (rest ++ ack_told from u ack)) (Up Known k v) d M →
            Walks IsRight e k (cond b (end_states k u f) [] ++ (rest ++ ack_told from u ack)) (Up IsRight k v) d M
        by false none f same_end z = part_walk k d t M right.1 e v (rest ++ ack_told from u ack) same
            (parts_both (λ n x. Lists (up k d t M) x n) (HasAck k d t M right.1) rest (ack_told from u ack)
            (beside_part (λ n x. Lists (up k d t M) x n) (HasAck k d t M right.1) k rest all)
            (acknowledged (λ n x. Lists (up k d t M) x n) (HasAck k d t M right.1) ack ((λ done asked. unheld none done asked), told))) z
        by true held ending.Commit same_end z = (
          (λ stop. commit_stops held stop (z.0 stop)),
          ends_walk held (worked (Commit role.Store u) d) (other_left held) refl (body.Done k u role.Store ending.Commit) tt
              (no_drop M.lines (record { event = e; body = body.Done k u role.Store ending.Commit } ∷ []) (tt, tt))
              (λ done. cause_committed M.lines e k u) rest all ack z.1,
        )
        by true held ending.Abort same_end z =
            let aborts = last ∙ ap (λ (x : End). Some (u, x)) same_end in (
              (λ stop. abort_stops held stop (z.0 stop)),
              ends_walk held (worked (Abort role.Store u) d) (other_left held) refl (body.Done k u role.Store ending.Abort) tt
                  (one_drop M.lines (record { event = e; body = body.Done k u role.Store ending.Abort }) k u refl
                  (λ decided. caused held aborts (inl decided)))
                  (λ done. cause_more M.lines (record { event = e; body = body.Done k u role.Store ending.Abort } ∷ []) k u
                  (caused held aborts done)) rest all ack z.1,
            )
