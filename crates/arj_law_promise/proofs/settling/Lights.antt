-- A step that leaves the node's coordinator and its records as they are, and by which nobody is decided.
use Rattle.arj_law_parts.proofs.Words
use Words.{◌≡◌, ◌⊎◌, ◌∙◌, ◌++◌, ℕ, true, List, [], ◌∷◌, Option, Some, None, refl, sym, ap, subst, inl, inr, ⊎_elim, ⊤, AllByRecursion, Ask}
use Words.{Asked, Body, Head, Line, Message, ObjectState, Uid, asks, Reply, answers, last_end, Abort, Commit, Disk, Do, Effect, Look}
use Words.{Prepare, PutInc, PutIntent, RemoveIntent, Say, Send, Stop, Before, After, InPart, Work, is_prepared, stopped, Parts, at_uid}
use Words.{Post, Seen}
use Words.ask
use Words.body
use Words.ending
use Words.message
use Words.prepared
use Words.role
use Rattle.arj_law_promise.proofs.Terms
use Terms.{told_by, IsCommitting, halted, at, is_quiet_line, Book, book, book_from, is_decided, new_book, turned, book_more}
use Rattle.arj_law_promise.proofs.settling
use settling.{Causes.HasCause, Stills.IsNoAnswer, Yeses.AskedFrom, Yeses.SaidYes}
use settling.Cores.{AreCaused, IsAsked, IsCore, IsDone, IsHeld, IsWatched, Lists, WasTold}
use settling.Milds.{IsGone, IsMild, here_is, lists_back, lists_on, held_or_gone, mild_core, recorded_back, still_watched, the_node}
use settling.Trails.{Down, IsNoDrop, Went, halt_went}

-- ---- lines

-- it decides nobody
abbrev pub IsUndeciding : Body → Type 0
IsUndeciding (body.Committed l) = ⊥
IsUndeciding (body.Recovered n x) = ⊥
IsUndeciding b = ⊤

-- nor does a store abort by it
abbrev pub IsNoEnd : Body → Type 0
IsNoEnd (body.Committed l) = ⊥
IsNoEnd (body.Recovered n x) = ⊥
IsNoEnd (body.Done n u r e) = IsNoDrop r e
IsNoEnd b = ⊤

pub undeciding : (b : Body) → IsNoEnd b → IsUndeciding b
undeciding (body.Committed l) so = absurd so
undeciding (body.Recovered n x) so = absurd so
undeciding b so = tt

pub quiet_no_end : (b : Body) → is_quiet_line b ≡ true → IsNoEnd b
quiet_no_end (body.Committed l) q = absurd (cc q)
quiet_no_end (body.Recovered n x) q = absurd (cc q)
quiet_no_end (body.Done n u r e) q = absurd (cc q)
quiet_no_end b q = tt

turned_undeciding : (B : Book) (b : Body) → IsUndeciding b → (x : Uid) → is_decided (turned B b) x ≡ is_decided B x
turned_undeciding B (body.Committed l) so x = absurd so
turned_undeciding B (body.Recovered n w) so x = absurd so
turned_undeciding B (body.Began l k u p) so x = refl
turned_undeciding B (body.Committing l) so x = refl
turned_undeciding B (body.Aborted l c) so x = refl
turned_undeciding B (body.Ended l) so x = refl
turned_undeciding B (body.Ok l y o r) so x = refl
turned_undeciding B (body.Includes l y n) so x = refl
turned_undeciding B b so x = refl

abbrev pub AllUndeciding : List Line → Type 0
AllUndeciding lines = AllByRecursion (λ (l : Line). IsUndeciding l.body) lines

undeciding_from : (B : Book) (ls : List Line) → AllUndeciding ls → (x : Uid) → is_decided (book_from B ls) x ≡ is_decided B x
undeciding_from B [] all x = refl
undeciding_from B (l ∷ ls) all x = undeciding_from (turned B l.body) ls all.1 x ∙ turned_undeciding B l.body all.0 x

-- nobody is decided behind such lines who wasn't
pub undecided : (first more : List Line) → AllUndeciding more → (x : Uid) → is_decided (book (first ++ more)) x ≡ true →
    is_decided (book first) x ≡ true
undecided first more all x on =
    sym (undeciding_from (book first) more all x) ∙ subst (λ B. is_decided B x ≡ true) (book_more new_book first more) on

pub all_undeciding : (ls : List Line) → AllByRecursion (λ (l : Line). IsNoEnd l.body) ls → AllUndeciding ls
all_undeciding [] all = tt
all_undeciding (l ∷ ls) all = (undeciding l.body all.0, all_undeciding ls all.1)

-- no store's abort is among them
pub no_drop : (first more : List Line) → AllByRecursion (λ (l : Line). IsNoEnd l.body) more → AreCaused first more
no_drop first more all before line behind n u is says decided = absurd (none more all before is)
  where
    none : (ls : List Line) → AllByRecursion (λ (l : Line). IsNoEnd l.body) ls → (xs : List Line) → ls ≡ xs ++ line ∷ behind → ⊥
    none [] so [] same = cc same
    none [] so (x ∷ xs) same = cc same
    none (l ∷ ls) so [] same = let one : l ≡ line = cc same in subst IsNoEnd (ap (λ (z : Line). z.body) one ∙ says) so.0
    none (l ∷ ls) so (x ∷ xs) same = let rest : ls ≡ xs ++ line ∷ behind = cc same in none ls so.1 xs rest

-- ---- effects

-- work beside the store and the records
abbrev pub IsAside : Work → Type 0
IsAside Look = ⊤
IsAside (PutInc i) = ⊤
IsAside (Prepare role.Names u states) = ⊤
IsAside (Prepare role.Store u states) = ⊥
IsAside (Commit role.Names u) = ⊤
IsAside (Commit role.Store u) = ⊥
IsAside (Abort role.Names u) = ⊤
IsAside (Abort role.Store u) = ⊥
IsAside (PutIntent u i) = ⊥
IsAside (RemoveIntent u) = ⊥

-- the store and the records are these
abbrev pub HasThese : Disk → Disk → Type 0
HasThese d c = (c.store ≡ d.store) × (c.intents ≡ d.intents)

pub aside_these : (how : Stop) (w : Work) (d c : Disk) → IsAside w → HasThese d c → HasThese d (stopped how w c)
aside_these Before w d c so h = h
aside_these After Look d c so h = h
aside_these After (PutInc i) d c so h = h
aside_these After (Prepare role.Names u states) d c so h = h
aside_these After (Prepare role.Store u states) d c so h = absurd so
aside_these After (Commit role.Names u) d c so h = h
aside_these After (Commit role.Store u) d c so h = absurd so
aside_these After (Abort role.Names u) d c so h = h
aside_these After (Abort role.Store u) d c so h = absurd so
aside_these After (PutIntent u i) d c so h = absurd so
aside_these After (RemoveIntent u) d c so h = absurd so
aside_these (InPart which) Look d c so h = h
aside_these (InPart which) (PutInc i) d c so h = h
aside_these (InPart which) (Prepare r u states) d c so h = h
aside_these (InPart which) (Commit role.Names u) d c so h = h
aside_these (InPart which) (Commit role.Store u) d c so h = absurd so
aside_these (InPart which) (Abort r u) d c so h = h
aside_these (InPart which) (PutIntent u i) d c so h = h
aside_these (InPart which) (RemoveIntent u) d c so h = h

-- it asks nothing, tells no abort, says no Yes, and acknowledges nothing
abbrev pub IsIdleSend : Message → Type 0
IsIdleSend m =
    (((h : Head) (a : Ask) → asks m ≡ Some (h, a) → ⊥) × ((u : Uid) → last_end (told_by m) ≡ Some (u, ending.Abort) → ⊥)) × IsNoAnswer m

abbrev pub IsBeside : Effect → Type 0
IsBeside (Say b) = IsNoEnd b
IsBeside (Do w) = IsAside w
IsBeside (Send to m) = IsIdleSend m

-- ---- such a step

-- What has to be shown of it.
pub record IsLight (k : ℕ) (d : Disk) (live : Option Parts) (M : Seen) (Says : Body → Type 0) (Sends : Post → Type 0) (D : Disk →
    Option Parts → Type 0) (Z : Seen) (w : Went k M Says Sends D Z) : Type 0 where
  pub decides : (u : Uid) → is_decided (book Z.lines) u ≡ true → is_decided (book M.lines) u ≡ true
  pub clean : AreCaused M.lines w.more
  pub intents : (let c = w.disk in c.intents) ≡ d.intents
  pub keeps : (u : Uid) → is_prepared u d.store ≡ true → (is_prepared u (let c = w.disk in c.store) ≡ true) ⊎ IsGone k (at k d live M) Z u
  pub new : (u : Uid) → is_prepared u (let c = w.disk in c.store) ≡ true → (is_prepared u d.store ≡ true) ⊎ IsAsked (at k d live M) u k
  pub asks : (p : Post) → Sends p → (h : Head) (states : List ObjectState) → asks p.message ≡ Some (h, ask.Prepare states) → ⊥
  pub tells : (p : Post) → Sends p → (u : Uid) → last_end (told_by p.message) ≡ Some (u, ending.Abort) → Lists (at k d live M) u p.to → ⊥
  pub yeses : (p : Post) → Sends p → (a : Asked) → answers p.message ≡ Some (a, Reply.Prepared prepared.Yes) →
      IsHeld Z k a.act × IsAsked (at k d live M) a.act k
  pub acks : (p : Post) → Sends p → (u : Uid) → p.message ≡ message.Acked (record { act = u }) →
      (IsDone Z u → IsAsked Z u k → HasCause Z.lines k u) × WasTold Z.sent u
  pub coord : (v : Parts) → w.live ≡ Some v → (t : Parts) × (live ≡ Some t) × (v.coord ≡ t.coord)

module _ (k : ℕ) (d : Disk) (live : Option Parts) (M : Seen) (Says : Body → Type 0) (Sends : Post → Type 0) (D : Disk → Option Parts →
    Type 0) (Z : Seen) (w : Went k M Says Sends D Z) (core : IsCore (at k d live M)) (light : IsLight k d live M Says Sends D Z w) where
  mild_but : ((v : Parts) → w.live ≡ Some v → IsWatched Z k (the_node k w.disk w.live) v) → IsMild k d live M (λ u. ⊥) Says Sends D Z w
  mild_but here = record {
    decides = λ u on. inl (light.decides u on);
    clean = light.clean;
    recorded = λ u r. inl (recorded_back k d live M Says Sends D Z w light.intents u r);
    done = λ u n none asked. absurd none;
    lists = λ u n l asked. inl (lists_on k d live M Says Sends D Z w light.intents u n l);
    back = λ u n tells asked l. lists_back k d live M Says Sends D Z w light.intents u n l;
    keeps = light.keeps;
    new = light.new;
    asks = λ p so h states is. absurd (light.asks p so h states is);
    tells = λ p so u last asked l. light.tells p so u last (lists_back k d live M Says Sends D Z w light.intents u p.to l);
    yeses = light.yeses;
    acks = light.acks;
    here = here;
  }

  watched : (v : Parts) → w.live ≡ Some v → IsWatched Z k (the_node k w.disk w.live) v
  watched v is = still_watched k d live M Says Sends D Z w k (the_node k d live) (the_node k w.disk w.live) its.0 v its.2
      (λ u. ap (at_uid u) light.intents)
      (λ u n home at held. stays u n home at held)
      (λ u n said. yes_said u n said)
      (λ u n asked. same u n asked)
      (core.coords k (the_node k d live) its.0 (here_is k d live M) its.1)
    where
      its : (t : Parts) × (live ≡ Some t) × (v.coord ≡ t.coord)
      its = light.coord v is

      same : (u : Uid) (n : ℕ) → AskedFrom k Z.sent u n → AskedFrom k M.sent u n
      same u n (p, i, from, to, h, states, asking, act) =
          ⊎_elim (λ old. (p, old, from, to, h, states, asking, act)) (λ new. absurd (light.asks p new.1 h states asking)) (w.back p i)

      yes_said : (u : Uid) (n : ℕ) → SaidYes Z.sent n u → SaidYes M.sent n u ⊎ IsHeld Z n u
      yes_said u n (p, i, from, a, says_it, act) = ⊎_elim (λ old. inl (p, old, from, a, says_it, act))
          (λ new. let n_is : k ≡ n = sym new.0 ∙ from in
          inr (subst (λ z. IsHeld Z z u) n_is (subst (IsHeld Z k) act (light.yeses p new.1 a says_it).0))) (w.back p i)

      stays : (u : Uid) (n : ℕ) → u.node ≡ k → IsCommitting u (let t = its.0 in t.coord) → IsHeld (at k d live M) n u → IsHeld Z n u
      stays u n home at held = ⊎_elim (λ h. h) (λ gone. let g = gone.1 in absurd (g.past k (the_node k d live) its.0 (here_is k d live M)
          its.1 home at)) (held_or_gone k d live M Says Sends D Z w light.keeps n u held)

  pub light_core : IsCore Z
  light_core = mild_core k d live M (λ u. ⊥) Says Sends D Z w core (mild_but watched)

-- a node stops
pub stop_core : (k : ℕ) (d : Disk) (live : Option Parts) (M : Seen) → IsCore (at k d live M) → (e : ℕ) → IsCore (halted e k d M)
stop_core k d live M core e =
    light_core k d live M IsNoEnd (λ p. ⊥) (Down k M IsNoEnd (λ p. ⊥) quiet_no_end tt (λ c. c ≡ d)) (halted e k d M) w core (record {
      decides =
          λ u on. undecided M.lines w.more (all_undeciding w.more w.said_so) u (subst (λ ls. is_decided (book ls) u ≡ true) w.lines on);
      clean = no_drop M.lines w.more w.said_so;
      intents = ap (λ (c : Disk). c.intents) w.fits.0;
      keeps = λ u on. inl (ap (λ (c : Disk). is_prepared u c.store) w.fits.0 ∙ on);
      new = λ u on. inl (ap (λ (c : Disk). is_prepared u c.store) (sym w.fits.0) ∙ on);
      asks = λ p so h states is. so;
      tells = λ p so u last l. so;
      yeses = λ p so a is. absurd so;
      acks = λ p so u is. absurd so;
      coord = λ v is. absurd (let no_way : ◌≡◌ {A = Option Parts} None (Some v) = sym w.fits.1 ∙ is in cc no_way);
    })
  where
    w : Went k M IsNoEnd (λ p. ⊥) (Down k M IsNoEnd (λ p. ⊥) quiet_no_end tt (λ c. c ≡ d)) (halted e k d M)
    w = halt_went k M IsNoEnd (λ p. ⊥) quiet_no_end tt (λ c. c ≡ d) e d refl
