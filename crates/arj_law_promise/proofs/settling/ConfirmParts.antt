-- A step by which nobody is decided: what holds of naming's confirmations goes on.
use Rattle.arj_law_parts.proofs.Words
use Words.{◌≡◌, ◌≢◌, ◌⊎◌, ◌≤◌, ◌∙◌, ◌++◌, ◌||◌, ℕ, Bool, true, false, cond, List, [], ◌∷◌, Option, Some, None, refl, sym, ap, subst, inl}
use Words.{inr, ⊎_elim, arith, AllByRecursion, Ask, Asked, Body, End, Head, Line, Uid, asks, Reply, actor, answers, Abort, After, Before}
use Words.{Commit, Disk, Do, Effect, InPart, Intent, Look, Prepare, PutInc, PutIntent, RemoveIntent, Say, Send, Stop, Work, is_prepared}
use Words.{stopped, answer_decided, answer_query, answer_recorded, is_deferred, is_kept_commit, root_or_self, tell, Parts, at_uid, has}
use Words.{Node, branch_of, is_open, Post, Seen}
use Words.ask
use Words.body
use Words.confirmed
use Words.ending
use Words.role
use Rattle.arj_law_promise.proofs.Terms
use Terms.{at, is_quiet_line, up, Up, Walks, halted, book, is_decided, asks_part, HasAcked, IsDemanded, WasRecorded, acked_in, records_in}
use Terms.{some_is}
use Rattle.arj_law_promise.proofs.settling
use settling.{ConfirmKnown.AllKnown, ConfirmKnown.IsNaming, Cores.IsDone, Cores.Recorded, Steps.Either, Steps.step_walk}
use settling.ConfirmCases.{AllAside, IsApart, IsCalmBut, IsMute, NamingStays}
use settling.ConfirmSteps.{IsSound, back_all, node_still, step_confirms}
use settling.Confirms.{AreUndecided, AsksMarked, IsConfirming, IsNamesNode, Remembers, demanded_on, same_memory, to_records}
use settling.Lights.{AllUndeciding, IsUndeciding, undecided}
use settling.Milds.{here_is, now_cases, the_node, was_cases}
use settling.Trails.{Down, FitsSo, Went, halt_went}

-- ---- lines

calm_undeciding : (L : Uid → Type 0) (b : Body) → IsCalmBut L b → IsUndeciding b
calm_undeciding L (body.Committed l) so = absurd so
calm_undeciding L (body.Recovered n x) so = absurd so
calm_undeciding L b so = tt

pub all_undeciding : (L : Uid → Type 0) (ls : List Line) → AllByRecursion (λ (l : Line). IsCalmBut L l.body) ls → AllUndeciding ls
all_undeciding L [] all = tt
all_undeciding L (l ∷ ls) all = (calm_undeciding L l.body all.0, all_undeciding L ls all.1)

pub quiet_calm : (L : Uid → Type 0) (b : Body) → is_quiet_line b ≡ true → IsCalmBut L b
quiet_calm L (body.Committed l) q = absurd (cc q)
quiet_calm L (body.Recovered n x) q = absurd (cc q)
quiet_calm L (body.Done n u r e) q = absurd (cc q)
quiet_calm L b q = tt

-- naming aborts only what may be
pub lost_so : (L : Uid → Type 0) (ls before : List Line) (line : Line) (behind : List Line) (n : ℕ) (u : Uid) → AllByRecursion
    (λ (l : Line). IsCalmBut L l.body) ls → ls ≡ before ++ line ∷ behind → line.body ≡ body.Done n u role.Names ending.Abort → L u
lost_so L [] [] line behind n u all is says = cc is
lost_so L [] (b ∷ before) line behind n u all is says = cc is
lost_so L (l ∷ ls) [] line behind n u all is says = let one : l ≡ line = cc is in
    subst (IsCalmBut L) (ap (λ (z : Line). z.body) one ∙ says) all.0
lost_so L (l ∷ ls) (b ∷ before) line behind n u all is says = let rest : ls ≡ before ++ line ∷ behind = cc is in
    lost_so L ls before line behind n u all.1 rest says

front_calm : (L : Uid → Type 0) (ls before : List Line) (line : Line) (behind : List Line) → AllByRecursion
    (λ (l : Line). IsCalmBut L l.body) ls → ls ≡ before ++ line ∷ behind → AllByRecursion (λ (l : Line). IsCalmBut L l.body) before
front_calm L ls [] line behind all is = tt
front_calm L [] (b ∷ before) line behind all is = absurd (cc is)
front_calm L (l ∷ ls) (b ∷ before) line behind all is = let one : l ≡ b = cc is in let rest : ls ≡ before ++ line ∷ behind = cc is in
    (subst (λ (z : Line). IsCalmBut L z.body) one all.0, front_calm L ls before line behind all.1 rest)

-- ---- such a step

module _ (k : ℕ) (d : Disk) (live : Option Parts) (M : Seen) (L : Uid → Type 0) (Sends : Post → Type 0) (D : Disk → Option Parts →
    Type 0) (Z : Seen) (w : Went k M (IsCalmBut L) Sends D Z)
    (lost : (u : Uid) → L u → is_decided (book M.lines) u ≡ true → ⊥)
    (rec_back : (x : Uid) (j : Intent) → at_uid x (let c = w.disk in c.intents) ≡ Some j → at_uid x d.intents ≡ Some j)
    (rec_on : (x : Uid) (j : Intent) → at_uid x d.intents ≡ Some j →
    (at_uid x (let c = w.disk in c.intents) ≡ Some j) ⊎ IsDemanded M.sent x)
    (silent : (p : Post) → Sends p → (h : Head) (a : Ask) → asks p.message ≡ Some (h, a) → asks_part a ≡ true → ⊥) where
  abbrev Start : Seen
  Start = at k d live M

  decides : (u : Uid) → is_decided (book Z.lines) u ≡ true → IsDone (at k d live M) u ⊎ IsSound M Z u
  decides u on =
      inl (inl (undecided M.lines w.more (all_undeciding L w.more w.said_so) u (subst (λ ls. is_decided (book ls) u ≡ true) w.lines on)))

  was_recorded : (u : Uid) → Recorded Z u → Recorded (at k d live M) u
  was_recorded u r = ⊎_elim
      (λ mine. (
        the_node k d live,
        r.1,
        ap Start.nodes mine.0 ∙ here_is k d live M,
        rec_back u r.1 (ap (λ (z : Node). let c = z.disk in at_uid u c.intents) (sym mine.1) ∙ r.3),
      ))
      (λ other. (r.0, r.1, other.1, r.3)) (now_cases k d live M (IsCalmBut L) Sends D Z w u.node r.0 r.2)

  recorded : (u : Uid) → Recorded Z u → Recorded (at k d live M) u ⊎ IsSound M Z u
  recorded u r = inl (was_recorded u r)

  stays : (u : Uid) → Recorded (at k d live M) u → WasRecorded (records_in Z.nodes) Z.sent u
  stays u r = ⊎_elim
      (λ mine. ⊎_elim
      (λ there. inl (to_records Z u (the_node k w.disk w.live, r.1, ap Z.nodes mine.0 ∙ w.here, there)))
      (λ d. inr (demanded_on M.sent Z.sent w.on u d))
      (rec_on u r.1 (ap (λ (z : Node). let c = z.disk in at_uid u c.intents) (sym mine.1) ∙ r.3)))
      (λ other. inl (to_records Z u (r.0, r.1, other.1, r.3))) (was_cases k d live M (IsCalmBut L) Sends D Z w u.node r.0 r.2)

  clean : AreUndecided M.lines w.more
  clean before line behind n u is says on = lost u (lost_so L w.more before line behind n u w.said_so is says)
      (undecided M.lines before (all_undeciding L before (front_calm L w.more before line behind w.said_so is)) u on)

  asks_none : (p : Post) → Sends p → (h : Head) (a : Ask) → asks p.message ≡ Some (h, a) → asks_part a ≡ true → IsDone Z (actor h.path) → ⊥
  asks_none p so h a is part done = silent p so h a is part

  -- with what is so of node 1
  pub calm_confirms : IsConfirming (at k d live M) →
      (k ≢ 1 → (p : Post) → Sends p → (a : Asked) → answers p.message ≡ Some (a, Reply.Confirmed confirmed.Yes) → ⊥) →
      (k ≡ 1 → IsNamesNode (at k d live M) (the_node k d live) → IsNamesNode Z (the_node k w.disk w.live)) → IsConfirming Z
  calm_confirms core apart here = step_confirms k d live M (IsCalmBut L) Sends D Z w core
      (record { decides = decides; recorded = recorded; stays = stays; clean = clean; asks = asks_none; apart = apart; here = here })

  -- node 1, where nothing is acknowledged or confirmed, and less is prepared
  calm_node : ((p : Post) → Sends p → acked_in p.message ≡ None) → ((p : Post) → Sends p → (a : Asked) →
      answers p.message ≡ Some (a, Reply.Confirmed confirmed.Yes) → ⊥) → d.inc ≤ (let c = w.disk in c.inc)
      → ((u : Uid) → is_prepared u (let c = w.disk in c.names) ≡ true → is_prepared u d.names ≡ true) → Remembers live w.live →
      IsNamesNode (at k d live M) (the_node k d live) → IsNamesNode Z (the_node k w.disk w.live)
  calm_node = node_still k d live M (IsCalmBut L) Sends D Z w decides recorded asks_none

  -- who is done was so, and was asked what is asked
  pub calm_done : (u : Uid) → IsDone Z u → IsDone (at k d live M) u
  calm_done u (inl on) =
      inl (undecided M.lines w.more (all_undeciding L w.more w.said_so) u (subst (λ ls. is_decided (book ls) u ≡ true) w.lines on))
  calm_done u (inr r) = inr (was_recorded u r)

  pub calm_asked : (u : Uid) → AsksMarked Z.sent u → AsksMarked M.sent u
  calm_asked u c = let a = c.0 in ⊎_elim
      (λ old. (
        record {
          post = a.post;
          head = a.head;
          grants = a.grants;
          excluded = a.excluded;
          included = a.included;
          posted = old;
          to = a.to;
          asking = a.asking;
          by = a.by;
        },
        c.1,
      ))
      (λ new. absurd (silent a.post new.1 a.head (ask.Confirm a.grants a.excluded a.included) a.asking refl)) (w.back a.post a.posted)

  -- what goes back of acknowledgements
  pub calm_back : ((p : Post) → Sends p → (p.from ≡ 1) → acked_in p.message ≡ None ⊎ (k ≢ 1)) → (u : Uid) → HasAcked Z.sent u 1 →
      IsDone Z u → AsksMarked Z.sent u → HasAcked M.sent u 1 × IsDone (at k d live M) u × AsksMarked M.sent u
  calm_back = back_all k d live M (IsCalmBut L) Sends D Z w decides recorded asks_none

-- where nothing is confirmed or acknowledged at all
module _ (k : ℕ) (d : Disk) (live : Option Parts) (M : Seen) (Sends : Post → Type 0) (D : Disk → Option Parts →
    Type 0) (Z : Seen) (w : Went k M (IsCalmBut (λ u. ⊥)) Sends D Z) (mute : (p : Post) → Sends p → IsMute p.message)
    (rec_back : (x : Uid) (j : Intent) → at_uid x (let c = w.disk in c.intents) ≡ Some j → at_uid x d.intents ≡ Some j)
    (rec_on : (x : Uid) (j : Intent) → at_uid x d.intents ≡ Some j →
    (at_uid x (let c = w.disk in c.intents) ≡ Some j) ⊎ IsDemanded M.sent x)
    (inc : d.inc ≤ (let c = w.disk in c.inc)) (names : (u : Uid) → is_prepared u (let c = w.disk in c.names) ≡ true →
    is_prepared u d.names ≡ true) (memory : Remembers live w.live) where
  pub mute_confirms : IsConfirming (at k d live M) → IsConfirming Z
  mute_confirms core =
      calm_confirms k d live M (λ u. ⊥) Sends D Z w (λ u none on. none) rec_back rec_on (λ p so h a is part. let z = mute p so in
      z.0 h a is part) core
      (λ other p so a is. let z = mute p so in z.1.0 a is)
      (λ one h. calm_node k d live M (λ u. ⊥) Sends D Z w (λ u none on. none) rec_back rec_on (λ p so h a is part. let z = mute p so in
      z.0 h a is part) (λ p so. let z = mute p so in z.1.1) (λ p so a is. let z = mute p so in z.1.0 a is) inc names memory h)

-- a node stops
pub stop_confirms : (k : ℕ) (d : Disk) (live : Option Parts) (M : Seen) → IsConfirming (at k d live M) → (e : ℕ) →
    IsConfirming (halted e k d M)
stop_confirms k d live M core e = mute_confirms k d live M (λ p. ⊥)
    (Down k M (IsCalmBut (λ u. ⊥)) (λ p. ⊥) (quiet_calm (λ u. ⊥)) tt (λ c. c ≡ d)) (halted e k d M) w (λ p so. absurd so)
    (λ x j is. ap (λ (c : Disk). at_uid x c.intents) (sym w.fits.0) ∙ is) (λ x j is.
    inl (ap (λ (c : Disk). at_uid x c.intents) w.fits.0 ∙ is)) (low d.inc (let c = w.disk in c.inc) (ap (λ (c : Disk). c.inc) w.fits.0))
    (λ u on. ap (λ (c : Disk). is_prepared u c.names) (sym w.fits.0) ∙ on)
    (λ s n up_it named. absurd (let no_way : ◌≡◌ {A = Option Parts} None (Some s) = sym w.fits.1 ∙ up_it in cc no_way)) core
  where
    w : Went k M (IsCalmBut (λ u. ⊥)) (λ p. ⊥) (Down k M (IsCalmBut (λ u. ⊥)) (λ p. ⊥) (quiet_calm (λ u. ⊥)) tt (λ c. c ≡ d))
        (halted e k d M)
    w = halt_went k M (IsCalmBut (λ u. ⊥)) (λ p. ⊥) (quiet_calm (λ u. ⊥)) tt (λ c. c ≡ d) e d refl

    low : (a b : ℕ) → b ≡ a → a ≤ b
    low a b is = omega (arith, is)

-- ---- effects beside

-- entries, incarnation and records are these
abbrev pub HasSame : Disk → Disk → Type 0
HasSame d c = (c.names ≡ d.names) × ((c.inc ≡ d.inc) × (c.intents ≡ d.intents))

apart_same : (how : Stop) (w : Work) (d c : Disk) → IsApart w → HasSame d c → HasSame d (stopped how w c)
apart_same Before w d c so h = h
apart_same After Look d c so h = h
apart_same After (PutInc i) d c so h = absurd so
apart_same After (Prepare role.Store u states) d c so h = h
apart_same After (Prepare role.Names u states) d c so h = absurd so
apart_same After (Commit role.Store u) d c so h = h
apart_same After (Commit role.Names u) d c so h = absurd so
apart_same After (Abort role.Store u) d c so h = h
apart_same After (Abort role.Names u) d c so h = absurd so
apart_same After (PutIntent u i) d c so h = absurd so
apart_same After (RemoveIntent u) d c so h = absurd so
apart_same (InPart which) Look d c so h = h
apart_same (InPart which) (PutInc i) d c so h = absurd so
apart_same (InPart which) (Prepare r u states) d c so h = h
apart_same (InPart which) (Commit role.Store u) d c so h = h
apart_same (InPart which) (Commit role.Names u) d c so h = absurd so
apart_same (InPart which) (Abort r u) d c so h = h
apart_same (InPart which) (PutIntent u i) d c so h = h
apart_same (InPart which) (RemoveIntent u) d c so h = h

module _ (k : ℕ) (d : Disk) (t v : Parts) (M : Seen) (e : ℕ) where
  abbrev MuteSends : Post → Type 0
  MuteSends p = IsMute p.message

  aside_fits : (outs : List Effect) → AllAside outs →
      AllByRecursion (FitsSo k M (IsCalmBut (λ u. ⊥)) MuteSends (quiet_calm (λ u. ⊥)) tt (HasSame d)) outs
  aside_fits [] all = tt
  aside_fits (Say b ∷ es) all = (all.0, aside_fits es all.1)
  aside_fits (Do w ∷ es) all = ((λ c same how. apart_same how w d c all.0 same), aside_fits es all.1)
  aside_fits (Send to m ∷ es) all = (all.0, aside_fits es all.1)

  pub aside_walk : IsConfirming (up k d t M) → Remembers (Some t) (Some v) → (outs : List Effect) → AllAside outs →
      Walks AllKnown e k outs (Up AllKnown k v) d M → Walks IsNaming e k outs (Up IsNaming k v) d M
  aside_walk core memory outs all known = step_walk AllKnown IsConfirming k M (IsCalmBut (λ u. ⊥)) MuteSends (quiet_calm (λ u. ⊥)) tt
      (HasSame d) v e outs d (aside_fits outs all) (refl, (refl, refl)) (λ Z its w. after Z w) known
    where
      after : (Z : Seen) → Went k M (IsCalmBut (λ u. ⊥)) MuteSends (Either (HasSame d) v) Z → IsConfirming Z
      after Z w =
          let same : (let c = w.disk in c.intents) ≡ d.intents = w.fits.0.1.1 in
          let inc : (let c = w.disk in c.inc) ≡ d.inc = w.fits.0.1.0 in
          mute_confirms k d (Some t) M MuteSends (Either (HasSame d) v) Z w (λ p so. so)
          (λ x j is. ap (at_uid x) (sym same) ∙ is) (λ x j is. inl (ap (at_uid x) same ∙ is)) (omega (arith, inc))
          (λ u on. ap (is_prepared u) (sym w.fits.0.0) ∙ on)
          (λ s n up_it named. ⊎_elim (λ none. absurd (let no_way : ◌≡◌ {A = Option Parts} None (Some s) = sym none ∙ up_it in cc no_way))
          (λ its. memory s n (sym its ∙ up_it) named) w.fits.1) core

-- what naming remembers goes on, with the same coordinator
pub part_memory : (t v : Parts) → v.coord ≡ t.coord → NamingStays t.naming v.naming → Remembers (Some t) (Some v)
part_memory t v same stays s n is named =
    let one : v ≡ s = some_is is in
    let r = stays n (ap (λ (z : Parts). z.naming) one ∙ named) in (
      t,
      r.0,
      refl,
      r.1,
      r.2,
      ap (λ (z : Parts). let c = z.coord in let q = c.tree in q.inc) (sym one) ∙ ap (λ c. let q = c.tree in q.inc) same,
    )

-- ---- a question

query_aside : (from : ℕ) (u : Uid) (intents : List (Uid × Intent)) (t : Parts) → AllAside (answer_query from u intents t.coord)
query_aside from u intents t = query (is_open u t.coord.tree || is_deferred u intents from)
  where
    told : (root : Uid) (ack : Bool) (ends : List (Uid × End)) → AllAside (tell root ack ends from ∷ [])
    told root ack ends = (((λ h a is part. cc is), ((λ a is. cc is), refl)), tt)

    decided_so : (b : Bool) → AllAside (cond b (tell (root_or_self u (branch_of u t.coord.tree)) false ((u, ending.Commit) ∷ []) from ∷ [])
        (tell (root_or_self u (branch_of u t.coord.tree)) false ((u, ending.Abort) ∷ []) from ∷ []))
    decided_so true = told (root_or_self u (branch_of u t.coord.tree)) false ((u, ending.Commit) ∷ [])
    decided_so false = told (root_or_self u (branch_of u t.coord.tree)) false ((u, ending.Abort) ∷ [])

    recorded_so : (o : Option Intent) → AllAside (answer_recorded from u t.coord o)
    recorded_so None = decided_so (is_kept_commit from u t.coord)
    recorded_so (Some i) = by (has i.nodes from)
      where
        by : (b : Bool) → AllAside (cond b (tell i.root true ((u, ending.Commit) ∷ []) from ∷ []) (answer_decided from u t.coord))
        by true = told i.root true ((u, ending.Commit) ∷ [])
        by false = decided_so (is_kept_commit from u t.coord)

    query : (b : Bool) → AllAside (cond b [] (answer_recorded from u t.coord (at_uid u intents)))
    query true = tt
    query false = recorded_so (at_uid u intents)

pub query_walk : (k : ℕ) (d : Disk) (t : Parts) (M : Seen) (e from : ℕ) (u : Uid) → IsConfirming (up k d t M) →
    Walks AllKnown e k (answer_query from u d.intents t.coord) (Up AllKnown k t) d M →
    Walks IsNaming e k (answer_query from u d.intents t.coord) (Up IsNaming k t) d M
query_walk k d t M e from u core known = aside_walk k d t t M e core (part_memory t t refl (λ n is. (n, is, same_memory n)))
    (answer_query from u d.intents t.coord) (query_aside from u d.intents t) known
